-- How what is seen of a drive changes in a commit.
use Rattle.std.proofs.Common.{◌≡◌, ◌⊎◌, inl, inr, refl, sym, subst, List}
use Rattle.pk_base.specs.Entry.{Entry}
use Rattle.pk_nand.specs.BoardState.{BoardState}
use Rattle.pk_log.{specs.State.LogState, specs.Commits.CommitsNone, specs.Commits.CommitsAll}
use Rattle.pk_call.specs.Moving.{Commits}
use Rattle.pk_parts.{specs.Parts.Parts, specs.Parts.sight_of, proofs.Committing.with_log}

-- the first side of an equation
abbrev pub begin_of : {A : Type 0} {x y : A} → x ≡ y → A
begin_of {A} {x} {y} e = x

-- ---- a commit

pub commits_seen : (d : Parts) (log' : LogState) (old new : BoardState) → CommitsNone d.log old log' new ⊎ CommitsAll d.log old log' new → Commits (sight_of d) (sight_of (with_log d log'))
commits_seen d log' old new (inl none) =
    let T : LogState → Type 0 = λ l. Commits (sight_of d) (sight_of (with_log d l)) in
    let U : List Entry → Type 0 = λ p. sight_of d ≡ record (sight_of d) { pending = p } in
    subst T (sym none.kept) (subst U none.none refl)
commits_seen d log' old new (inr all) =
    let T : LogState → Type 0 = λ l. Commits (sight_of d) (sight_of (with_log d l)) in
    subst T (sym all.taken) refl
