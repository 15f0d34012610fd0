-- Steps one after another, each of which keeps the map, but not the places of its values.
use Rattle.std.proofs.Common.{◌≡◌, inl, inr, ℕ, ◌+◌, ◌≤◌, List, [], ◌++◌, Some, Result, Ok, false, refl, sym, ap, subst, ◌∙◌, arith}
use Rattle.pk_base.{specs.Shape.Shape, specs.Page.Flash, specs.Map.Map, specs.Mark.all_posted}
use Rattle.pk_nand.{specs.declared.types.Fault.Fault, specs.BoardState.BoardState, specs.Calls.IsReady}
use Rattle.pk_model.{specs.Reading.reading, specs.Found.Found, specs.Growth.Reaches, specs.Growth.Goes, specs.Crashes.CrashFinds, specs.Crashes.background, specs.Crashes.commit}
use Rattle.pk_model.proofs.Growing.{Reaches-then, Goes-then, at_end, weaken, weaken_went}
use Rattle.pk_law_steps.specs.Under.{places}
use Rattle.pk_log.specs.State.{LogState}
use Rattle.pk_parts.{specs.Parts.Parts, specs.Parts.is_half, specs.Moves.StandsFor, specs.Moves.MayStep, specs.Moves.Keeps, specs.Moves.KeepsAll, specs.Moves.KeepsAllBetween, specs.Moves.BreaksAll}
use Rattle.pk_parts.{specs.Moves.StandsBetween}
use Rattle.pk_parts.{proofs.Keeping.cut_of_both, proofs.Keeping.board_has, proofs.Halves.stands as whole_stands, proofs.Standing.reads_as, proofs.Standing.reads_between, proofs.Staying.fresh_then}
use Rattle.pk_background.{specs.Emptying.StepOrRead, specs.Emptying.KeepsOrReads, specs.Reclaiming.HoldsAll, specs.Reclaiming.FailsAll, specs.Reclaiming.CannotRead}
use Rattle.pk_background.{specs.Pairing.FinishesHalf, specs.Pairing.FailsToFinish, specs.Spacing.SameMap, specs.Spacing.SameMapAll, specs.Spacing.MovesOrReads, specs.Spacing.StaysSame}
use Rattle.pk_background.proofs.ReadSteps.{Passes, passes_none, reading_passes, reading_then, reading_end, read_cuts}

-- a step that leaves the values where they are
pub same_kept : (a b : Parts) (shape : Shape) (m : Map) (s0 s1 : BoardState) → Keeps a b shape m s0 s1 → SameMap b shape m s0 s1
same_kept a b shape m s0 s1 kept = record { stands = kept.stands; still = kept.still; cuts = kept.cuts }

pub same_of : (a b : Parts) (s0 s1 : BoardState) → KeepsAll a b s0 s1 → SameMapAll a b s0 s1
same_of a b s0 s1 keeps shape m stands = same_kept a b shape m s0 s1 (keeps shape m stands)

-- ---- one after another

module _ (b : Parts) (shape : Shape) (m : Map) (s0 s1 : BoardState) (has : s0.shape ≡ Some shape) (first : SameMap b shape m s0 s1) where
  seen : (flash : Flash) (posted : List ℕ) → CrashFinds shape commit s1.pages m flash posted → CrashFinds shape commit s0.pages m flash (all_posted first.cuts.0 ++ posted)
  seen flash posted cut =
      let ends = at_end first.cuts.0 s0 s1 (CrashFinds shape commit s0.pages m) first.cuts.1 in
      cut_of_both shape m s0.pages s1.pages flash (all_posted first.cuts.0) posted ends.0 first.still cut

  pub SameMap-then : (c : Parts) (s2 : BoardState) → SameMap c shape m s1 s2 → SameMap c shape m s0 s2
  SameMap-then c s2 second = record {
    stands = second.stands;
    still = elim second.still [
      | inl same ↦ elim first.still [ inl was ↦ inl (same ∙ was) | inr is ↦ inr (same ∙ is) ]
      | inr is ↦ inr is
    ];
    cuts = Reaches-then shape first.cuts.0 s0 s1 (CrashFinds shape commit s0.pages m) has first.cuts.1 first.cuts.2 s2 (CrashFinds shape commit s1.pages m) seen second.cuts;
  }

  pub Breaks-behind : (s2 : BoardState) → Goes shape s1 s2 (CrashFinds shape commit s1.pages m) → Goes shape s0 s2 (CrashFinds shape commit s0.pages m)
  Breaks-behind s2 second = Goes-then shape first.cuts.0 s0 s1 (CrashFinds shape commit s0.pages m) has first.cuts.1 first.cuts.2 s2 (CrashFinds shape commit s1.pages m) seen second

pub SameMapAll-then : (a b c : Parts) (s0 s1 s2 : BoardState) → IsReady s0 a.log.shape → SameMapAll a b s0 s1 → SameMapAll b c s1 s2 → SameMapAll a c s0 s2
SameMapAll-then a b c s0 s1 s2 ready first second shape m stands =
    let one = first shape m stands in
    SameMap-then b shape m s0 s1 (board_has a s0 shape m ready stands) one c s2 (second shape m one.stands)

pub BreaksAll-behind : (a b : Parts) (s0 s1 s2 : BoardState) → IsReady s0 a.log.shape → SameMapAll a b s0 s1 → BreaksAll b s1 s2 → BreaksAll a s0 s2
BreaksAll-behind a b s0 s1 s2 ready first second shape m stands =
    let one = first shape m stands in
    Breaks-behind b shape m s0 s1 (board_has a s0 shape m ready stands) one s2 (second shape m one.stands)

-- nothing was done
pub SameMapAll-none : (a : Parts) (s : BoardState) → SameMapAll a a s s
SameMapAll-none a s shape m stands = record {
  stands = stands;
  still = inl refl;
  cuts = read_cuts shape (CrashFinds shape commit s.pages m) s s refl (refl, inl refl);
}

-- ---- a step of a reclaim

commit_cut : (shape : Shape) (start : Flash) (m : Map) (flash : Flash) (posted : List ℕ) → CrashFinds shape background start m flash posted → CrashFinds shape commit start m flash posted
commit_cut shape start m flash posted cut = (cut.0, inr cut.1)

-- a cut of a background step is one of a commit
pub commit_cuts : (shape : Shape) (m : Map) (s0 s1 : BoardState) → Reaches shape s0 s1 (CrashFinds shape background s0.pages m) → Reaches shape s0 s1 (CrashFinds shape commit s0.pages m)
commit_cuts shape m s0 s1 run = (run.0, weaken run.0 s0 s1 (CrashFinds shape background s0.pages m) (CrashFinds shape commit s0.pages m) (commit_cut shape s0.pages m) run.1, run.2)

-- no pair is half made after it
pub same_held : (a b : Parts) (s0 s1 : BoardState) → b.log.pending ≡ [] → is_half b ≡ false → HoldsAll a b s0 s1 → SameMapAll a b s0 s1
same_held a b s0 s1 none whole holds shape m stands =
    let is = holds shape m stands in
    record {
      stands = whole_stands b shape s1.pages m is.stands whole;
      still = inr (ap (reading shape s1.pages) (sym none) ∙ reads_between b shape s1.pages m is.stands);
      cuts = commit_cuts shape m s0 s1 is.cuts;
    }

-- a step that leaves a pair half made, and its second program
module _ (a b : Parts) (shape : Shape) (m : Map) (s0 s1 : BoardState) (ready : IsReady s0 a.log.shape) (was : StandsFor a shape s0.pages m)
    (stands : StandsBetween b shape s1.pages m) (cuts : Reaches shape s0 s1 (CrashFinds shape commit s0.pages m)) where
  -- a cut of the program finds the map
  seen_half : (flash : Flash) (posted : List ℕ) → CrashFinds shape background s1.pages m flash posted → CrashFinds shape commit s0.pages m flash (all_posted cuts.0 ++ posted)
  seen_half flash posted cut =
      let ends = at_end cuts.0 s0 s1 (CrashFinds shape commit s0.pages m) cuts.1 in
      (ap (λ (xs : List ℕ). xs ++ posted) ends.0 ∙ cut.0, inr cut.1)

  pub then_finished : (c : Parts) (s2 : BoardState) → b.log.pending ≡ [] → FinishesHalf b c s1 s2 → SameMap c shape m s0 s2
  then_finished c s2 none fin =
      let done = fin.finished shape m stands in
      let empty : c.log.pending ≡ [] = ap (λ (l : LogState). l.pending) fin.log ∙ none in
      record {
        stands = done.stands;
        still = inr (ap (reading shape s2.pages) (sym empty) ∙ reads_as c shape s2.pages m done.stands);
        cuts = Reaches-then shape cuts.0 s0 s1 (CrashFinds shape commit s0.pages m) (board_has a s0 shape m ready was) cuts.1 cuts.2 s2 (CrashFinds shape background s1.pages m) seen_half done.cuts;
      }

  pub then_broken : (s2 : BoardState) → FailsToFinish b s1 s2 → Goes shape s0 s2 (CrashFinds shape commit s0.pages m)
  then_broken s2 fails =
      Goes-then shape cuts.0 s0 s1 (CrashFinds shape commit s0.pages m) (board_has a s0 shape m ready was) cuts.1 cuts.2 s2 (CrashFinds shape background s1.pages m) seen_half
      (fails.fails shape m stands)

-- one of the background
module _ (a b : Parts) (s0 s1 s2 : BoardState) (ready : IsReady s0 a.log.shape) (none : b.log.pending ≡ []) (holds : HoldsAll a b s0 s1) where
  pub same_finished : (c : Parts) → FinishesHalf b c s1 s2 → SameMapAll a c s0 s2
  same_finished c fin shape m was = let is = holds shape m was in then_finished a b shape m s0 s1 ready was is.stands (commit_cuts shape m s0 s1 is.cuts) c s2 none fin

  pub breaks_finished : FailsToFinish b s1 s2 → BreaksAll a s0 s2
  breaks_finished fails shape m was = let is = holds shape m was in then_broken a b shape m s0 s1 ready was is.stands (commit_cuts shape m s0 s1 is.cuts) s2 fails

-- and one inside a command
module _ (a b : Parts) (s0 s1 s2 : BoardState) (ready : IsReady s0 a.log.shape) (none : b.log.pending ≡ []) (keeps : KeepsAllBetween a b s0 s1) where
  pub KeepsAll-finished : (c : Parts) → FinishesHalf b c s1 s2 → KeepsAll a c s0 s2
  KeepsAll-finished c fin shape m was =
      let is = keeps shape m was in
      let done = fin.finished shape m is.stands in
      let same = then_finished a b shape m s0 s1 ready was is.stands is.cuts c s2 none fin in
      record {
        stands = done.stands;
        same_places = λ there.
            ap (places done.stands.found) (ap (λ (l : LogState). l.pending) fin.log) ∙ ap (λ (f : Found). places f b.log.pending) (done.same_found is.stands) ∙ is.same_places there;
        still = same.still;
        cuts = same.cuts;
      }

  pub BreaksAll-finished : FailsToFinish b s1 s2 → BreaksAll a s0 s2
  BreaksAll-finished fails shape m was = let is = keeps shape m was in then_broken a b shape m s0 s1 ready was is.stands is.cuts s2 fails

pub breaks_failed : (a : Parts) (s0 s1 : BoardState) → FailsAll a s0 s1 → BreaksAll a s0 s1
breaks_failed a s0 s1 fails shape m stands =
    let run = fails shape m stands in
    (run.0, weaken_went run.0 s0 s1 (CrashFinds shape background s0.pages m) (CrashFinds shape commit s0.pages m) (commit_cut shape s0.pages m) run.1, run.2)

pub same_unread : (a b : Parts) (s0 s1 : BoardState) → CannotRead a b s0 s1 → SameMapAll a b s0 s1
same_unread a b s0 s1 unread shape m stands =
    let only = unread.only in
    let same : s1.pages ≡ s0.pages = ap (λ (s : BoardState). s.pages) only in
    let S : Flash → Type 0 = λ f. StandsFor b shape f m in
    record {
      stands = subst S (sym same) (unread.stands shape m stands);
      still = inl (ap (λ (f : Flash). reading shape f []) same);
      cuts = read_cuts shape (CrashFinds shape commit s0.pages m) s0 s1 only (refl, inl refl);
    }

-- ---- steps with their answers

pub moves_later : (r : Result Unit Fault) (a b c : Parts) (n k most : ℕ) (s0 s1 s2 : BoardState) → IsReady s0 a.log.shape → b.log.shape ≡ a.log.shape → n + k ≤ most
    → SameMapAll a b s0 s1 → Passes n s0 s1 → MovesOrReads b c k s1 s2 r → MovesOrReads a c most s0 s2 r
moves_later r a b c n k most s0 s1 s2 ready same few keeps passes second =
    reading_then r (λ (x : Unit). SameMapAll b c s1 s2) (λ (x : Unit). SameMapAll a c s0 s2) (SameMapAll b c s1 s2) (SameMapAll a c s0 s2) (BreaksAll b s1 s2) (BreaksAll a s0 s2)
    a.log.shape n k most s0 s1 s2 few passes (λ x kept. SameMapAll-then a b c s0 s1 s2 ready keeps kept) (λ kept. SameMapAll-then a b c s0 s1 s2 ready keeps kept)
    (λ broken. BreaksAll-behind a b s0 s1 s2 ready keeps broken)
    (subst (λ (s : Shape). StepOrRead (λ (x : Unit). SameMapAll b c s1 s2) (SameMapAll b c s1 s2) (BreaksAll b s1 s2) s k s1 s2 r) same second)

-- steps that leave the values where they are
pub moves_kept : (r : Result Unit Fault) (b c : Parts) (k : ℕ) (s1 s2 : BoardState) → KeepsOrReads b c k s1 s2 r → MovesOrReads b c k s1 s2 r
moves_kept r b c k s1 s2 step =
    reading_then r (λ (x : Unit). KeepsAll b c s1 s2) (λ (x : Unit). SameMapAll b c s1 s2) (KeepsAll b c s1 s2) (SameMapAll b c s1 s2) (BreaksAll b s1 s2) (BreaksAll b s1 s2)
    b.log.shape 0 k k s1 s1 s2 (omega arith) (passes_none s1) (λ x kept. same_of b c s1 s2 kept) (λ kept. same_of b c s1 s2 kept) (λ broken. broken) step

pub passes_moved : (b c : Parts) (k : ℕ) (s1 s2 : BoardState) → MovesOrReads {T = Unit {0}} b c k s1 s2 (Ok tt) → Passes k s1 s2
passes_moved b c k s1 s2 step = reading_passes tt (λ (x : Unit). SameMapAll b c s1 s2) (SameMapAll b c s1 s2) (BreaksAll b s1 s2) b.log.shape k s1 s2 step

-- nothing was done
pub moves_none : (d : Parts) (s : BoardState) → IsReady s d.log.shape → MovesOrReads {T = Unit {0}} d d 0 s s (Ok tt)
moves_none d s ready = reading_end tt (λ (x : Unit). SameMapAll d d s s) (SameMapAll d d s s) (BreaksAll d s s) d.log.shape 0 s s (passes_none s) ready (SameMapAll-none d s)

-- what the next step asks
pub may_moved : (a b : Parts) (n : ℕ) (s0 s1 : BoardState) → MayStep a s0 → b.log.shape ≡ a.log.shape → MovesOrReads {T = Unit {0}} a b n s0 s1 (Ok tt) → MayStep b s1
may_moved a b n s0 s1 may same step = record {
  ready = subst (λ (s : Shape). IsReady s1 s) (sym same) step.ready;
  stands = (may.stands.0, subst (λ (s : Shape). StandsFor b s s1.pages may.stands.0) (sym same) (step.came.0 a.log.shape may.stands.0 may.stands.1).stands);
}

-- ---- what is unchanged

pub stays_none : (d : Parts) → StaysSame d d
stays_none d = record { frames = refl; stopped = refl; same_shape = refl; fresh = record { stays = λ e. e; begun = inl refl } }

pub stays_both : (a b c : Parts) → StaysSame a b → StaysSame b c → StaysSame a c
stays_both a b c first second = record {
  frames = second.frames ∙ first.frames;
  stopped = second.stopped ∙ first.stopped;
  same_shape = second.same_shape ∙ first.same_shape;
  fresh = fresh_then a b c first.fresh second.fresh;
}
