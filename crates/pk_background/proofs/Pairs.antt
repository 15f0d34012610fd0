-- The second program of a pair, by what its step answered.
use Rattle.std.{proofs.Common.◌≡◌, proofs.Common.refl, proofs.Common.sym, proofs.Common.subst, proofs.Common.Bool, proofs.Common.true, proofs.Common.false, proofs.Common.Result, proofs.Common.Ok}
use Rattle.std.{proofs.Common.Err, specs.Prelude.IsOk}
use Rattle.pk_nand.{specs.declared.types.Fault.Fault, specs.BoardState.BoardState}
use Rattle.pk_root.specs.Installing.{repeats_next}
use Rattle.pk_parts.{specs.Parts.Parts, specs.Parts.commits_in, proofs.Halves.not_made}
use Rattle.pk_background.specs.Pairing.{FinishesOr, FinishesRootOr, SettlesOr, FinishesCommitOr, CommitsOr}
use Rattle.pk_base.proofs.Logic.{not_both}

pub settled_half : (d d' : Parts) (old new : BoardState) (r : Result Unit Fault) → repeats_next d.log.next ≡ true → FinishesRootOr d d' old new r → SettlesOr d d' old new r
settled_half d d' old new r half is = record { half = λ e. is; whole = λ e. absurd (not_both (repeats_next d.log.next) half e) }

pub settled_whole : (d : Parts) (old : BoardState) → repeats_next d.log.next ≡ false → SettlesOr d d old old (Ok tt)
settled_whole d old whole = record { half = λ e. absurd (not_both (repeats_next d.log.next) e whole); whole = λ e. (refl, refl, refl) }

pub committed_half : (d d' : Parts) (old new : BoardState) (r : Result Unit Fault) → commits_in d.reclaim.phase ≡ true → FinishesCommitOr d d' old new r → CommitsOr d d' old new r
committed_half d d' old new r half is = record { half = λ e. is; whole = λ e. absurd (not_both (commits_in d.reclaim.phase) half e) }

pub committed_whole : (d : Parts) (old : BoardState) → commits_in d.reclaim.phase ≡ false → CommitsOr d d old old (Ok tt)
committed_whole d old whole = record { half = λ e. absurd (not_both (commits_in d.reclaim.phase) e whole); whole = λ e. (refl, refl, refl) }

pub root_finishes : (d d' : Parts) (old new : BoardState) (r : Result Unit Fault) → FinishesRootOr d d' old new r → FinishesOr d d' old new r
root_finishes d d' old new (Ok u) is = is.finishes
root_finishes d d' old new (Err e) is = is

pub commit_finishes : (d d' : Parts) (old new : BoardState) (r : Result Unit Fault) → FinishesCommitOr d d' old new r → FinishesOr d d' old new r
commit_finishes d d' old new (Ok u) is = is.finishes
commit_finishes d d' old new (Err e) is = is

-- What follows if a second program was made where one was needed, and nothing was done otherwise.
pub by_half : (half : Bool) (b c : Parts) (s1 s2 : BoardState) (r : Result Unit Fault) (P : Parts → BoardState → Result Unit Fault → Type 0)
    → (half ≡ true → P c s2 r) → (half ≡ false → IsOk r × (c ≡ b) × (s2 ≡ s1)) → (half ≡ false → P b s1 (Ok tt)) → P c s2 r
by_half true b c s1 s2 r P made rests whole = made refl
by_half false b c s1 s2 (Ok u) P made rests whole =
    let is = rests refl in subst (λ (x : Parts). P x s2 (Ok tt)) (sym is.1) (subst (λ (s : BoardState). P b s (Ok tt)) (sym is.2) (whole refl))
by_half false b c s1 s2 (Err f) P made rests whole = absurd (not_made f (rests refl).0)

-- this answer, or the fault
abbrev pub or_fault : {T : Type 0} → T → Result Unit Fault → Result T Fault
or_fault x (Ok u) = Ok x
or_fault x (Err f) = Err f
