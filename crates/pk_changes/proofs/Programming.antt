-- How many pages the steps of a change of the map program.
use Rattle.std.proofs.Common.{◌≡◌, ◌≢◌, inl, inr, ℕ, zero, suc, ◌+◌, ◌<◌, ◌≤◌, refl, sym, ap, subst, ◌∙◌, arith, true, false, ◌==◌, List, [], ◌∷◌, length, Result, Ok, Err}
use Rattle.std.{specs.Prelude.OnOk, specs.Prelude.if◌then◌else◌, proofs.lemmas.Bool.ne_eqb, proofs.lemmas.Bool.eq-eqb, proofs.lemmas.Bool.cases_lt, proofs.lemmas.List.length-append}
use Rattle.pk_base.{specs.Shape.Shape, specs.Shape.charge, specs.Shape.page_entries, specs.Shape.commit_programs, specs.Entry.Entry, specs.Key.Key, specs.Map.Map, proofs.Logic.not_both}
use Rattle.pk_base.proofs.ShapeLemmas.{entries_some}
use Rattle.pk_nand.{specs.declared.types.Fault.Fault, specs.BoardState.BoardState, specs.Calls.counted, specs.Counts.counted_by}
use Rattle.pk_seg.specs.Stored.{written}
use Rattle.pk_pool.specs.Blocks.{Blocks}
use Rattle.pk_log.specs.State.{LogState, needs_freeze, pushed}
use Rattle.pk_values.specs.State.{ValuesState, fits_open}
use Rattle.pk_call.{specs.Commit.ProgramsOfCommit, specs.Moving.commits_for}
use Rattle.pk_parts.{specs.Parts.Parts, specs.Parts.sight_of, specs.Moves.StandsFor}
use Rattle.pk_changes.{specs.Placing.PlacesValue, specs.Programming.Programs}
use Rattle.pk_background.proofs.Callings.{counted_more}

-- ---- counts

pub programs_none : (old new : BoardState) → new ≡ old → Programs 0 old new
programs_none old new same = record { programs = ap (λ b. b.programs) same; erases = ap (λ b. b.erases) same }

pub programs_then : (a b c : BoardState) (n m : ℕ) → Programs n a b → Programs m b c → Programs (n + m) a c
programs_then a b c n m first second = record {
  programs = second.programs ∙ ap (counted_by m) first.programs ∙ counted_more m n a.programs;
  erases = second.erases ∙ first.erases;
}

-- ---- a value

pub written_programs : (shape : Shape) (key : Key) (page : ℕ) (value : List ℕ) (k : ℕ) (board : BoardState) → Programs k board (written shape key page value k board)
written_programs shape key page value zero board = record { programs = refl; erases = refl }
written_programs shape key page value (suc k) board =
    let rest = written_programs shape key page value k board in
    record { programs = ap counted rest.programs; erases = rest.erases }

pub place_programs : (shape : Shape) (key : Key) (value : List ℕ) (d : ValuesState) (p : Blocks) (old : BoardState) (page : ℕ) (d' : ValuesState) (q : Blocks) (new : BoardState)
    → PlacesValue shape key value d p old page d' q new
    → fits_open shape d (charge shape (length value)) ≡ true → Programs (charge shape (length value)) old new
place_programs shape key value d p old page d' q new is room = elim is.reserved.taken [
  | inl next ↦ (
      let T : BoardState → Type 0 = λ b. Programs (charge shape (length value)) b new in
      let U : BoardState → Type 0 = λ b. Programs (charge shape (length value)) is.between b in
      subst T next.same_board (subst U (sym is.writes) (written_programs shape key page value (charge shape (length value)) is.between)))
  | inr opens ↦ absurd (not_both (fits_open shape d (charge shape (length value))) room opens.no_room)
]

-- ---- the steps of a Store and of a Delete

pub full_ok : (r : Result Unit Fault) (d : Parts) (old new : BoardState) → (m : Map) × StandsFor d d.log.shape old.pages m → OnOk r (d.log.pending ≢ [] → ProgramsOfCommit commit_programs old new)
    → OnOk r (page_entries d.log.shape ≤ length d.log.pending → Programs commit_programs old new)
full_ok (Ok x) d old new stands made = λ full.
    let some = entries_some d.log.shape stands.1.with.placed.is_shape in
    let both = made (λ none. let e = ap (λ (es : List Entry). length es) none in absurd (omega (arith, full, some, e))) in
    let least = both.some in
    let most = both.most in
    let two : both.made ≡ commit_programs = omega (arith, least, most) in
    record { programs = both.programs ∙ ap (λ (n : ℕ). counted_by n old.programs) two; erases = both.erases }
full_ok (Err e) d old new stands made = tt

pub pushed_more : (log log' : LogState) (e : Entry) → log' ≡ pushed log e → length log'.pending ≡ length log.pending + 1
pushed_more log log' e is = ap (λ (l : LogState). length l.pending) is ∙ length-append log.pending (e ∷ [])

commits_one : (n m : ℕ) → n ≡ m → ◌≡◌ {A = ℕ} (if n == m then commit_programs else 0) commit_programs
commits_one n m same = ap {B = ℕ} (λ b. if b then commit_programs else 0) (eq-eqb n m same)

commits_none : (n m : ℕ) → (n ≡ m → ⊥) → ◌≡◌ {A = ℕ} (if n == m then commit_programs else 0) 0
commits_none n m other = ap {B = ℕ} (λ b. if b then commit_programs else 0) (ne_eqb n m other)

-- a commit after one more entry
commit_part : (r : Result Unit Fault) (a n c : Parts) (s1 s2 : BoardState) → length a.log.pending < page_entries a.log.shape
    → length n.log.pending ≡ length a.log.pending + 1 → n.log.shape ≡ a.log.shape
    → OnOk r (length n.log.pending < page_entries n.log.shape → (c ≡ n) × (s2 ≡ s1))
    → OnOk r (page_entries n.log.shape ≤ length n.log.pending → Programs commit_programs s1 s2) → OnOk r (Programs (commits_for a.log.shape (sight_of a)) s1 s2)
commit_part (Err e) a n c s1 s2 few more shapes idle full = tt
commit_part (Ok x) a n c s1 s2 few more shapes idle full =
    let entries : page_entries n.log.shape ≡ page_entries a.log.shape = ap (λ s. page_entries s) shapes in
    elim (cases_lt (length a.log.pending + 1) (page_entries a.log.shape)) [
      | inl less ↦ subst (λ k. Programs k s1 s2) (sym (commits_none (length a.log.pending + 1) (page_entries a.log.shape) (λ e. omega (arith, less, e))))
          (programs_none s1 s2 (idle (omega (arith, entries, more, less))).1)
      | inr most ↦ subst (λ k. Programs k s1 s2) (sym (commits_one (length a.log.pending + 1) (page_entries a.log.shape) (omega (arith, most, few)))) (full (omega (arith, entries, more, most)))
    ]

then_ok : (r : Result Unit Fault) (a b c : BoardState) (n m : ℕ) (P : Type 0) → (P → Programs n a b) → OnOk r (Programs m b c) → OnOk r (P → Programs (n + m) a c)
then_ok (Ok x) a b c n m P first second = λ p. programs_then a b c n m (first p) second
then_ok (Err e) a b c n m P first second = tt

module _ (r : Result Unit Fault) (a b n c : Parts) (s0 s1 s2 : BoardState) (size : ℕ) where
  pub put_programs : length a.log.pending < page_entries a.log.shape → (fits_open a.log.shape a.values (charge a.log.shape size) ≡ true → Programs (charge a.log.shape size) s0 s1) → b.log ≡ a.log
      → length n.log.pending ≡ length b.log.pending + 1 → n.log.shape ≡ b.log.shape
      → OnOk r (length n.log.pending < page_entries n.log.shape → (c ≡ n) × (s2 ≡ s1)) → OnOk r (page_entries n.log.shape ≤ length n.log.pending → Programs commit_programs s1 s2)
      → OnOk r (fits_open a.log.shape a.values (charge a.log.shape size) ≡ true → Programs (charge a.log.shape size + commits_for a.log.shape (sight_of a)) s0 s2)
  put_programs few first same more shapes idle full =
      then_ok r s0 s1 s2 (charge a.log.shape size) (commits_for a.log.shape (sight_of a)) (fits_open a.log.shape a.values (charge a.log.shape size) ≡ true) first
      (commit_part r a n c s1 s2 few (more ∙ ap (λ (l : LogState). length l.pending + 1) same) (shapes ∙ ap (λ (l : LogState). l.shape) same) idle full)

pub take_programs : (r : Result Unit Fault) (a n c : Parts) (s1 s2 : BoardState)
    → length a.log.pending < page_entries a.log.shape → length n.log.pending ≡ length a.log.pending + 1 → n.log.shape ≡ a.log.shape
    → OnOk r (length n.log.pending < page_entries n.log.shape → (c ≡ n) × (s2 ≡ s1))
    → OnOk r (page_entries n.log.shape ≤ length n.log.pending → Programs commit_programs s1 s2) → OnOk r (Programs (commits_for a.log.shape (sight_of a)) s1 s2)
take_programs r a n c s1 s2 few more shapes idle full = commit_part r a n c s1 s2 few more shapes idle full

-- if no freeze is needed, what makes room does nothing
pub put_idle : (r : Result Unit Fault) (a b : Parts) (s0 s1 s2 : BoardState) (k : Key) (size : ℕ) → (needs_freeze a.log k ≡ false → (b ≡ a) × (s1 ≡ s0))
    → OnOk r (fits_open b.log.shape b.values (charge b.log.shape size) ≡ true → Programs (charge b.log.shape size + commits_for b.log.shape (sight_of b)) s1 s2)
    → OnOk r (needs_freeze a.log k ≡ false → fits_open a.log.shape a.values (charge a.log.shape size) ≡ true → Programs (charge a.log.shape size + commits_for a.log.shape (sight_of a)) s0 s2)
put_idle (Err e) a b s0 s1 s2 k size idle made = tt
put_idle (Ok x) a b s0 s1 s2 k size idle made = λ none.
    let same = idle none in
    let T : Parts → BoardState → Type 0 = λ d s. fits_open d.log.shape d.values (charge d.log.shape size) ≡ true → Programs (charge d.log.shape size + commits_for d.log.shape (sight_of d)) s s2 in
    subst (λ d. T d s0) same.0 (subst (λ s. T b s) same.1 made)

pub take_idle : (r : Result Unit Fault) (a b : Parts) (s0 s1 s2 : BoardState) (k : Key)
    → (needs_freeze a.log k ≡ false → (b ≡ a) × (s1 ≡ s0)) → OnOk r (Programs (commits_for b.log.shape (sight_of b)) s1 s2)
    → OnOk r (needs_freeze a.log k ≡ false → Programs (commits_for a.log.shape (sight_of a)) s0 s2)
take_idle (Err e) a b s0 s1 s2 k idle made = tt
take_idle (Ok x) a b s0 s1 s2 k idle made = λ none.
    let same = idle none in
    let T : Parts → BoardState → Type 0 = λ d s. Programs (commits_for d.log.shape (sight_of d)) s s2 in
    subst (λ d. T d s0) same.0 (subst (λ s. T b s) same.1 made)
