-- Steps one after another, each of which keeps the map.
use Rattle.std.proofs.Common.{◌≡◌, ◌⊎◌, inl, inr, ℕ, List, [], ◌++◌, Some, Ok, false, refl, sym, ap, subst, ◌∙◌}
use Rattle.pk_base.{specs.Shape.Shape, specs.Page.Flash, specs.Map.Map, specs.Mark.all_posted}
use Rattle.pk_nand.{specs.BoardState.BoardState, specs.Calls.IsReady, proofs.Reaching.Reached-start}
use Rattle.pk_model.{specs.Reading.reading, specs.Growth.Goes, specs.Crashes.CrashFinds, specs.Crashes.commit, proofs.Growing.Reaches-then, proofs.Growing.Goes-then, proofs.Growing.at_end}
use Rattle.pk_model.specs.Found.{Found}
use Rattle.pk_law_steps.specs.Under.{places}
use Rattle.pk_parts.{specs.Parts.Parts, specs.Parts.is_half, specs.Moves.StandsFor, specs.Moves.Keeps, specs.Moves.KeepsAll, specs.Moves.KeepsAllBetween, specs.Moves.BreaksAll}
use Rattle.pk_parts.{proofs.Halves.with_settled, proofs.Halves.with_whole, proofs.Halves.whole_of, proofs.Standing.same_found}

-- if the second flash holds what the first held, or the map, a cut after it is one after the first
pub cut_of_both : (shape : Shape) (m : Map) (first second flash : Flash) (front posted : List ℕ) → front ≡ []
    → (reading shape second [] ≡ reading shape first []) ⊎ (reading shape second [] ≡ Ok m)
    → CrashFinds shape commit second m flash posted → CrashFinds shape commit first m flash (front ++ posted)
cut_of_both shape m first second flash front posted none still cut = (
  ap (λ (xs : List ℕ). xs ++ posted) none ∙ cut.0,
  elim cut.1 [
    | inl same ↦ elim still [ inl was ↦ inl (same ∙ was) | inr is ↦ inr (same ∙ is) ]
    | inr is ↦ inr is
  ],
)

module _ (a b : Parts) (shape : Shape) (m : Map) (s0 s1 : BoardState) (has : s0.shape ≡ Some shape) (first : Keeps a b shape m s0 s1) where
  seen : (flash : Flash) (posted : List ℕ) → CrashFinds shape commit s1.pages m flash posted → CrashFinds shape commit s0.pages m flash (all_posted first.cuts.0 ++ posted)
  seen flash posted cut =
      let ends = at_end first.cuts.0 s0 s1 (CrashFinds shape commit s0.pages m) first.cuts.1 in
      cut_of_both shape m s0.pages s1.pages flash (all_posted first.cuts.0) posted ends.0 first.still cut

  pub Keeps-then : (c : Parts) (s2 : BoardState) → Keeps b c shape m s1 s2 → Keeps a c shape m s0 s2
  Keeps-then c s2 second = record {
    stands = second.stands;
    same_places = λ was. second.same_places first.stands ∙ first.same_places was;
    still = elim second.still [
      | inl same ↦ elim first.still [ inl was ↦ inl (same ∙ was) | inr is ↦ inr (same ∙ is) ]
      | inr is ↦ inr is
    ];
    cuts = Reaches-then shape first.cuts.0 s0 s1 (CrashFinds shape commit s0.pages m) has first.cuts.1 first.cuts.2 s2 (CrashFinds shape commit s1.pages m) seen second.cuts;
  }

  pub Breaks-then : (s2 : BoardState) → Goes shape s1 s2 (CrashFinds shape commit s1.pages m) → Goes shape s0 s2 (CrashFinds shape commit s0.pages m)
  Breaks-then s2 second = Goes-then shape first.cuts.0 s0 s1 (CrashFinds shape commit s0.pages m) has first.cuts.1 first.cuts.2 s2 (CrashFinds shape commit s1.pages m) seen second

-- the board has the shape of the drive
pub board_has : (a : Parts) (board : BoardState) (shape : Shape) (m : Map) → IsReady board a.log.shape → StandsFor a shape board.pages m → board.shape ≡ Some shape
board_has a board shape m ready stands = ready.shape_is ∙ ap (λ s. Some s) stands.with.shape_is

pub KeepsAll-then : (a b c : Parts) (s0 s1 s2 : BoardState) → IsReady s0 a.log.shape → KeepsAll a b s0 s1 → KeepsAll b c s1 s2 → KeepsAll a c s0 s2
KeepsAll-then a b c s0 s1 s2 ready first second shape m stands =
    let one = first shape m stands in
    Keeps-then a b shape m s0 s1 (board_has a s0 shape m ready stands) one c s2 (second shape m one.stands)

pub BreaksAll-then : (a b : Parts) (s0 s1 s2 : BoardState) → IsReady s0 a.log.shape → KeepsAll a b s0 s1 → BreaksAll b s1 s2 → BreaksAll a s0 s2
BreaksAll-then a b s0 s1 s2 ready first second shape m stands =
    let one = first shape m stands in
    Breaks-then a b shape m s0 s1 (board_has a s0 shape m ready stands) one s2 (second shape m one.stands)

-- a pair may be half made, and is not
pub keeps_between : (a b : Parts) (old new : BoardState) → KeepsAll a b old new → KeepsAllBetween a b old new
keeps_between a b old new keeps shape m stands =
    let is = keeps shape m stands in
    let s = is.stands in
    record {
      stands = record { top = s.top; found = s.found; without = s.without; with = with_settled b shape new.pages s.top s.found s.without m s.whole.settles s.with; course = inl s.whole };
      same_places = is.same_places;
      still = is.still;
      cuts = is.cuts;
    }

-- no pair is half made after it
pub keeps_whole : (a b : Parts) (old new : BoardState) → is_half b ≡ false → KeepsAllBetween a b old new → KeepsAll a b old new
keeps_whole a b old new none keeps shape m stands =
    let is = keeps shape m stands in
    let s = is.stands in
    let whole = whole_of b new.pages s.top s.found s.without s.course none in
    record {
      stands = record { top = s.top; found = s.found; without = s.without; with = with_whole b shape new.pages s.top s.found s.without m whole.settles s.with; whole = whole };
      same_places = is.same_places;
      still = is.still;
      cuts = is.cuts;
    }

-- nothing was done
pub KeepsAll-none : (a b : Parts) (old new : BoardState) → b ≡ a → new ≡ old → KeepsAll a b old new
KeepsAll-none a b old new same_parts same shape m stands =
    let there : Keeps a a shape m old old = record {
      stands = stands;
      same_places = λ was. ap (λ (f : Found). places f a.log.pending) (same_found a shape old.pages m was stands);
      still = inl refl;
      cuts = ([], Reached-start old old (CrashFinds shape commit old.pages m) refl refl refl refl (refl, inl refl), tt);
    } in
    let P : Parts → Type 0 = λ p. Keeps a p shape m old old in
    let Q : BoardState → Type 0 = λ s. Keeps a b shape m old s in
    subst Q (sym same) (subst P (sym same_parts) there)
