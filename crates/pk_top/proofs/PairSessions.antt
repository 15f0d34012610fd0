-- Runs of words on a pair one after another: each begins from what the one before it left of both drives.
use Rattle.std.proofs.Common.{◌≡◌, ◌⊎◌, inl, inr, ℕ, List, [], ◌∷◌, ◌++◌, Option, Some, IsSome, refl, sym, ◌∙◌, ap, subst}
use Rattle.pk_base.{specs.Shape.Shape, specs.Page.Flash, specs.Mark.Mark, specs.Map.Map}
use Rattle.pk_nand.{specs.BoardState.BoardState, specs.BoardState.shape_of, specs.BoardState.shape_or_none, specs.Calls.longer, specs.Calls.Loaded, specs.Calls.Rose}
use Rattle.pk_nand.{specs.Cut.Cut, proofs.Reaching.longer-nil}
use Rattle.pk_model.{specs.Spaces.limits_at, specs.Spaces.limit_of, specs.Reading.reading, specs.Reading.Holds}
use Rattle.pk_mirrorwords.specs.PairTasks.{map_left}
use Rattle.pk_mirrorrun.specs.PairTold.{EitherUnread, KeptFirst, KeptSecond}
use Rattle.pk_top.{proofs.Opened.found_shape, proofs.Runs.same_marks, proofs.Pairs.pair_whole}
use Rattle.pk_top.specs.PairRuns.{NotFound, AsksPair, PairRun, PairIsDone, no_pair_memory, first_missing, second_missing, shapes_differ, pair_found}
use Rattle.pk_top.specs.PairSessions.{CutBoard, IsCut, PairSession, IsPairRun, LeavesMaps, KeptThroughPair, PairRunOn, PairStands, RunsAgain, PairKeptThroughRuns}

-- ---- one board

module _ (shape : Shape) (b : CutBoard) (is : IsCut shape b) where
  some_shape : IsSome b.old.shape
  some_shape = let T : Option Shape → Type 0 = IsSome in subst T (sym is.shape_is) refl

  -- since a board of these pages, whose trail is known, the trail grew by these marks
  cut_since : (from : BoardState) → from.pages ≡ b.old.pages → shape_of from ≡ shape → from.trail ≡ Some is.before → (marks : List Mark)
      → b.new.trail ≡ longer from.trail marks → Cut (shape_of from) from.pages marks b.left b.posted
  cut_since from pages shaped told marks grew =
      let same : b.marks ≡ marks = same_marks from.trail is.before b.marks marks told (sym grew ∙ is.more) in
      subst (λ (x : Shape × Flash × List Mark). Cut x.0 x.1 x.2 b.left b.posted) (λ k. (sym shaped k, sym pages k, same k)) is.cut

  cut_loaded : (loaded : BoardState) → Loaded b.old loaded (Some shape) → (marks : List Mark) → b.new.trail ≡ longer loaded.trail marks
      → Cut (shape_of loaded) loaded.pages marks b.left b.posted
  cut_loaded loaded found = cut_since loaded (found.held some_shape).0 (ap (λ (o : Option Shape). shape_or_none o) found.shape_is) (ap (λ (s : BoardState). s.trail) found.rest ∙ is.trail)

  -- nothing was made
  stays : b.new.trail ≡ b.old.trail → (b.left ≡ b.old.pages) × (b.posted ≡ [])
  stays same = cut_since b.old refl (ap (λ (o : Option Shape). shape_or_none o) is.shape_is) is.trail [] (same ∙ sym (longer-nil b.old.trail))

missing_still : (old new : BoardState) (status : ℕ) → NotFound old new status → new.trail ≡ old.trail
missing_still old new status (inl refused) = ap (λ (s : BoardState). s.trail) refused.failed.rest
missing_still old new status (inr (is, found)) = ap (λ (s : BoardState). s.trail) found.rest

-- ---- a run

module _ (shape : Shape) (r : PairSession) (is : IsPairRun shape r) (m n : Map) (holds : Holds shape r.first.old.pages m) (holds' : Holds shape r.second.old.pages n) where
  abbrev limits : List ℕ
  limits = limits_at shape r.first.old.pages

  abbrev limits' : List ℕ
  limits' = limits_at shape r.second.old.pages

  -- what is kept of each drive at a cut
  abbrev First : Flash → List ℕ → Type 0
  First = KeptFirst r.task (EitherUnread r.first.old r.first.new r.second.old r.second.new) shape limits m

  abbrev Second : Flash → List ℕ → Type 0
  Second = KeptSecond shape limits' n

  abbrev Both : Type 0
  Both = First r.first.left r.first.posted × Second r.second.left r.second.posted

  first_still : r.first.new.trail ≡ r.first.old.trail → First r.first.left r.first.posted
  first_still same =
      let here = stays shape r.first is.first same in
      subst (λ (x : Flash × List ℕ). First x.0 x.1) (λ k. (sym here.0 k, sym here.1 k)) (record { held = inl holds; same_limits = refl; said = inl refl })

  second_still : r.second.new.trail ≡ r.second.old.trail → Second r.second.left r.second.posted
  second_still same =
      let here = stays shape r.second is.second same in
      subst (λ (x : Flash × List ℕ). Second x.0 x.1) (λ k. (sym here.0 k, sym here.1 k))
      (record { map = n; held = holds'; others = λ space apart. refl; same_limits = refl; silent = refl })

  from_loaded : (loaded loaded' : BoardState) → Loaded r.first.old loaded (Some shape) → Loaded r.second.old loaded' (Some shape)
      → AsksPair r.task shape loaded r.first.new loaded' r.second.new r.status → Both
  from_loaded loaded loaded' found found' asks =
      let pages : loaded.pages ≡ r.first.old.pages = (found.held (some_shape shape r.first is.first)).0 in
      let pages' : loaded'.pages ≡ r.second.old.pages = (found'.held (some_shape shape r.second is.second)).0 in
      let goes = asks.kept.first in
      let goes' = asks.kept.second in
      let kept = goes.1.cuts r.first.left r.first.posted (cut_loaded shape r.first is.first loaded found goes.0 goes.1.trail) m (subst (λ (f : Flash). Holds shape f m) (sym pages) holds) in
      let kept' = goes'.1.cuts r.second.left r.second.posted (cut_loaded shape r.second is.second loaded' found' goes'.0 goes'.1.trail) n
      (subst (λ (f : Flash). Holds shape f n) (sym pages') holds') in
      let Unread : ℕ → ℕ → Type 0 = λ x y. Rose x r.first.new.read_faults ⊎ Rose y r.second.new.read_faults in (
        subst (λ (x : ℕ × ℕ × Flash). KeptFirst r.task (Unread x.0 x.1) shape (limits_at shape x.2) m r.first.left r.first.posted)
            (λ k. (ap (λ (s : BoardState). s.read_faults) found.rest k, ap (λ (s : BoardState). s.read_faults) found'.rest k, pages k)) kept,
        subst (λ (f : Flash). KeptSecond shape (limits_at shape f) n r.second.left r.second.posted) pages' kept',
      )

  both_kept : PairRun r.task r.first.old r.first.new r.second.old r.second.new r.status → Both
  both_kept (no_pair_memory why same same') = (first_still (ap (λ (s : BoardState). s.trail) same), second_still (ap (λ (s : BoardState). s.trail) same'))
  both_kept (first_missing missing same') = (first_still (missing_still r.first.old r.first.new r.status missing), second_still (ap (λ (s : BoardState). s.trail) same'))
  both_kept (second_missing s found missing) = (
    first_still (ap (λ (x : BoardState). x.trail) found.rest),
    second_still (missing_still r.second.old r.second.new r.status missing),
  )
  both_kept (shapes_differ o) = (first_still (ap (λ (s : BoardState). s.trail) o.found.rest), second_still (ap (λ (s : BoardState). s.trail) o.found'.rest))
  both_kept (pair_found f) =
      let same = found_shape r.first.old f.loaded f.shape shape is.first.shape_is f.found in
      let A : Shape → Type 0 = λ s. AsksPair r.task s f.loaded r.first.new f.loaded' r.second.new r.status in
      from_loaded f.loaded f.loaded' (subst (λ (s : Shape). Loaded r.first.old f.loaded (Some s)) same f.found)
      (subst (λ (s : Shape). Loaded r.second.old f.loaded' (Some s)) same f.found') (subst A same f.asks)

  -- the maps that are left
  left : (m' n' : Map) × LeavesMaps shape limits limits' r m n m' n'
  left =
      let (one, two) = both_kept is.runs in
      elim one.held [
        | inl before ↦ (m, two.map, record { first = one; first_is = inl refl; first_holds = before; second = two; second_holds = two.held })
        | inr after ↦ (map_left shape limits r.task m, two.map, record { first = one; first_is = inr refl; first_holds = after; second = two; second_holds = two.held })
      ]

-- ---- runs

-- two flashes that hold maps are a pair again
again : (shape : Shape) (limits limits' : List ℕ) (one two : Flash) (m n : Map) → PairStands shape limits limits' one two m n → RunsAgain shape limits limits' one two m n
again shape limits limits' one two m n stands one_limit task old new old' new' status run has has' pages pages' far far' none none' sound sound' =
    let here : limits_at shape old.pages ≡ limits = ap (limits_at shape) pages ∙ stands.limits_are in
    let also : limits_at shape old'.pages ≡ limits' = ap (limits_at shape) pages' ∙ stands.limits_are' in
    subst (λ (ls : List ℕ). PairIsDone task shape ls m n old new old' new' status) here
    (pair_whole task old new old' new' status run shape m n has has' (subst (λ (f : Flash). Holds shape f m) (sym pages) stands.holds)
    (subst (λ (f : Flash). Holds shape f n) (sym pages') stands.holds')
    (ap (λ (ls : List ℕ). limit_of ls 1) here ∙ one_limit ∙ sym (ap (λ (ls : List ℕ). limit_of ls 1) also)) far far' none none' sound sound')

pub kept_through_pair : PairKeptThroughRuns
kept_through_pair shape limits limits' one two m n [] end also stands run =
    let S : Flash → Flash → Type 0 = λ f g. PairStands shape limits limits' f g m n in
    let there = subst (λ (f : Flash). S f also) (sym run.0) (subst (λ (g : Flash). S one g) (sym run.1) stands) in
    (m, n, there, (refl, refl), again shape limits limits' end also m n there)
kept_through_pair shape limits limits' one two m n (r ∷ runs) end also stands run =
    let here : limits_at shape r.first.old.pages ≡ limits = ap (limits_at shape) run.1 ∙ stands.limits_are in
    let here' : limits_at shape r.second.old.pages ≡ limits' = ap (limits_at shape) run.2 ∙ stands.limits_are' in
    let kept = left shape r run.0 m n (subst (λ (f : Flash). Holds shape f m) (sym run.1) stands.holds) (subst (λ (f : Flash). Holds shape f n) (sym run.2) stands.holds') in
    let step : LeavesMaps shape limits limits' r m n kept.0 kept.1 =
    subst (λ (x : List ℕ × List ℕ). LeavesMaps shape x.0 x.1 r m n kept.0 kept.1) (λ k. (here k, here' k)) kept.2 in
    let rest = kept_through_pair shape limits limits' r.first.left r.second.left kept.0 kept.1 runs end also (record {
      holds = step.first_holds;
      holds' = step.second_holds;
      limits_are = step.first.same_limits;
      limits_are' = step.second.same_limits;
    }) run.3 in
    (rest.0, rest.1, rest.2, (kept.0, kept.1, step, rest.3), rest.4)
