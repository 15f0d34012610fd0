-- A value that was written into a block for values: what the drive represents, at every cut and afterwards.
use Rattle.std.proofs.Common.{◌≡◌, ◌⊎◌, inl, inr, ℕ, zero, suc, ◌+◌, ◌*◌, ◌/◌, ◌%◌, ◌<◌, ◌≤◌, refl, sym, ap, subst, ◌∙◌, arith, true, false, List, [], length, Option, Some, None, Result, Ok, Err}
use Rattle.std.{proofs.lemmas.Bool.le-leb, specs.Prelude.IfOk, specs.Prelude.IfErr, specs.Prelude.OnErr, specs.Prelude.◌-◌, specs.Prelude.not, specs.Prelude.◌&&◌, specs.Prelude.nat_le}
use Rattle.pk_base.{specs.Shape.Shape, specs.Shape.IsShape, specs.Shape.charge, specs.Shape.greatest, specs.Shape.data_blocks, specs.Page.Flash, specs.Page.page_at, specs.Page.whole, specs.Map.Map}
use Rattle.pk_base.{specs.Key.Key, specs.Key.IsKey, proofs.CommitPages.even_rest, proofs.ShapeLemmas.block_pages_positive}
use Rattle.pk_segfmt.{proofs.StoredLemmas.charge_some, proofs.StoredLemmas.value_again, specs.Stored.page_of}
use Rattle.pk_rootfmt.specs.Root.{Root}
use Rattle.pk_plan.specs.declared.owner.Owner.TheVariants.{Journal, Meta, Values}
use Rattle.pk_nand.{specs.declared.types.Fault.Fault, specs.declared.types.Fault.TheVariants.Stopped, specs.BoardState.BoardState, specs.Calls.IsReady, specs.Effects.Works, specs.Effects.Stops}
use Rattle.pk_nand.{proofs.Effects.works_none, proofs.Effects.works_erase, proofs.Effects.works_then, proofs.Effects.stops_erase, proofs.Effects.stops_then, proofs.Leaving.page_at-slice_set}
use Rattle.pk_model.{specs.Steps.Step, specs.Found.Found, specs.Growth.Reaches, specs.Growth.Goes, specs.Crashes.CrashFinds, specs.Crashes.commit, proofs.Growing.weaken, proofs.Growing.weaken_went}
use Rattle.pk_pool.{specs.declared.state.BlockState.TheVariants.Owned, specs.Blocks.Blocks, specs.Blocks.NoneLeaves, specs.Blocks.IsShared, specs.Blocks.IsSpare, specs.Blocks.used_by}
use Rattle.pk_law_steps.{specs.Under.IsValuePage, specs.Under.places, proofs.Untouched.under_reads}
use Rattle.pk_seg.specs.Stored.{written}
use Rattle.pk_live.{specs.Values.Values as LiveValues, specs.declared.open_block.OpenBlock.OpenBlock}
use Rattle.pk_values.{specs.State.ValuesState, specs.State.fits_open, specs.State.needs_reclaim, specs.State.more_used, specs.Placed.HoldsValues, specs.Placed.IsNotOpen, specs.Reserving.TakesNext}
use Rattle.pk_gc.specs.Standing.{ReclaimOnFlash}
use Rattle.pk_parts.{specs.Parts.Parts, specs.Parts.outputs_of, specs.Agreeing.DriveOnFlashWith, specs.Agreeing.IsWhole, proofs.Halves.whole_like, proofs.Standing.found_once}
use Rattle.pk_parts.specs.Moves.{StandsFor, Keeps, KeepsAll, BreaksAll, MayStep}
use Rattle.pk_parts.proofs.Reclaiming.{SameButOpen, runs_or_rests, reclaim_rests, reclaim_elsewhere, not_of_open}
use Rattle.pk_changes.{specs.Noting.IsPlaced, specs.Noting.StepPlaces, specs.Placing.Reserves, specs.Placing.PlacesValue, specs.Placing.FailsToPlace}
use Rattle.pk_schedule.proofs.Settled.{none_leaves_set}
use Rattle.pk_background.proofs.Unread.{KeepsOwners, same_top, still_without, agrees_elsewhere}
use Rattle.pk_background.proofs.Stills.{IsStill, SameStill, StillCut, still_then, still_goes, still_end, went_end, still_none, still_erase, still_erase_failed, still_written, still_write_failed}
use Rattle.pk_background.proofs.Stills.{works_written, stops_written}
use Rattle.pk_background.proofs.Beside.{IsIndexed, behind_roots, beside_still, erased_still, journal_taken, meta_taken, not_low, owners_taken, same_block, same_roots, spare_still}

-- ---- a block is taken, or none

module _ (d : Parts) (page count : ℕ) (values : ValuesState) (q : Blocks) (old new : BoardState) (reserved : Reserves d.log.shape d.values d.pool old page count values q new) where
  pub owners_reserved : KeepsOwners d.pool q
  owners_reserved = elim reserved.taken [
    | inl next ↦ subst (λ (r : Blocks). KeepsOwners d.pool r) (sym next.same_pool) (λ b o is. is)
    | inr opens ↦ subst (λ (r : Blocks). KeepsOwners d.pool r) (sym opens.taken) (owners_taken d.pool opens.block (Owned Values) opens.spare)
  ]

  pub journal_reserved : used_by Journal q.states ≡ used_by Journal d.pool.states
  journal_reserved = elim reserved.taken [
    | inl next ↦ ap (λ (r : Blocks). used_by Journal r.states) next.same_pool
    | inr opens ↦ ap (λ (r : Blocks). used_by Journal r.states) opens.taken ∙ journal_taken d.pool opens.block opens.spare
  ]

  pub meta_reserved : used_by Meta q.states ≡ used_by Meta d.pool.states
  meta_reserved = elim reserved.taken [
    | inl next ↦ ap (λ (r : Blocks). used_by Meta r.states) next.same_pool
    | inr opens ↦ ap (λ (r : Blocks). used_by Meta r.states) opens.taken ∙ meta_taken d.pool opens.block opens.spare
  ]

  -- no block leaves
  pub leaves_reserved : NoneLeaves d.pool → NoneLeaves q
  leaves_reserved none = elim reserved.taken [
    | inl next ↦ subst NoneLeaves (sym next.same_pool) none
    | inr opens ↦ subst NoneLeaves (sym opens.taken) (none_leaves_set d.pool opens.block (Owned Values) refl none)
  ]

  -- the pages are whole pairs
  pub even_page : IsShape d.log.shape → page % d.log.shape.block_pages % 2 ≡ 0
  even_page is = even_rest page d.log.shape.block_pages reserved.pages.even is.eights

  pub works_reserved : Works old new
  works_reserved = elim reserved.taken [
    | inl next ↦ works_none old new next.same_board
    | inr opens ↦ elim opens.choice [ inl ready ↦ works_none old new ready.same | inr free ↦ works_erase old new opens.block free.erase ]
  ]

  module _ (ready : IsReady old d.log.shape) (top : ℕ × Root) (found : Found) (without all : Map) (with : DriveOnFlashWith d d.log.shape old.pages top found without all) where
    abbrev still : Flash → List ℕ → Type 0
    still = StillCut d.log.shape top.1 found d.log.pending (IsIndexed d.pool d.log.shape) old.pages

    start : SameStill d.log.shape top.1 found d.log.pending (IsIndexed d.pool d.log.shape) old.pages old.pages
    start k is = refl

    pub reserve_reaches : Reaches d.log.shape old new still
    reserve_reaches = elim reserved.taken [
      | inl next ↦ still_none d.log.shape top.1 found d.log.pending (IsIndexed d.pool d.log.shape) old.pages old ready.shape_is start new next.same_board
      | inr opens ↦ elim opens.choice [
        | inl taken ↦ still_none d.log.shape top.1 found d.log.pending (IsIndexed d.pool d.log.shape) old.pages old ready.shape_is start new taken.same
        | inr free ↦ still_erase d.log.shape top.1 found d.log.pending (IsIndexed d.pool d.log.shape) old.pages old ready.shape_is start opens.block
            (spare_still d d.log.shape old.pages top found without all with opens.block opens.spare opens.place.0) new free.erase
      ]
    ]

    same_reserved : SameStill d.log.shape top.1 found d.log.pending (IsIndexed d.pool d.log.shape) old.pages new.pages
    same_reserved = still_end d.log.shape top.1 found d.log.pending (IsIndexed d.pool d.log.shape) old.pages old new reserve_reaches

    -- no page is read of those that were found
    pub pages_unread : (k : ℕ) → page ≤ k → k < page + count → IsStill d.log.shape top.1 found d.log.pending (IsIndexed d.pool d.log.shape) k → ⊥
    pages_unread k low high =
        let n : ℕ = d.log.shape.block_pages in
        let here : k / n ≡ page / n = same_block n page count k reserved.pages.inside low high in
        let positive : 0 < n = block_pages_positive d.log.shape with.index.logs.is_shape in
        let least : 2 * n ≤ page = elim (cases_le (2 * n) page) [ inl le ↦ le | inr less ↦ absurd (not_low n page page positive reserved.pages.behind_roots (omega arith) less) ] in
        erased_still d d.log.shape old.pages top found without all with q new.pages owners_reserved (λ j is. same_reserved j (inl is)) k (omega (arith, least, low))
        (subst (λ (b : ℕ). HoldsValues q b) (sym here) reserved.pages.owned) (reserved.pages.free k low high)
      where
        cases_le : (a b : ℕ) → (a ≤ b) ⊎ (b < a)
        cases_le zero b = inl (omega arith)
        cases_le (suc a) zero = inr (omega arith)
        cases_le (suc a) (suc b) = elim (cases_le a b) [ inl le ↦ inl (omega (arith, le)) | inr less ↦ inr (omega (arith, less)) ]

-- ---- the clauses, for every shape and map

pub keeps_for : (before after : Parts) (old new : BoardState)
    → ((m : Map) → StandsFor before before.log.shape old.pages m → Keeps before after before.log.shape m old new) → KeepsAll before after old new
keeps_for before after old new f shape m stands =
    let is : before.log.shape ≡ shape = stands.with.shape_is in
    subst (λ (s : Shape). Keeps before after s m old new) is (f m (subst (λ (s : Shape). StandsFor before s old.pages m) (sym is) stands))

pub breaks_for : (before : Parts) (old new : BoardState)
    → ((m : Map) → StandsFor before before.log.shape old.pages m → Goes before.log.shape old new (CrashFinds before.log.shape commit old.pages m)) → BreaksAll before old new
breaks_for before old new f shape m stands =
    let is : before.log.shape ≡ shape = stands.with.shape_is in
    subst (λ (s : Shape). Goes s old new (CrashFinds s commit old.pages m)) is (f m (subst (λ (s : Shape). StandsFor before s old.pages m) (sym is) stands))

-- a cut at which no page differs that is read is one of a step that keeps the map
pub still_commits : (d : Parts) (shape : Shape) (old : Flash) (top : ℕ × Root) (found : Found) (without all : Map) → DriveOnFlashWith d shape old top found without all
    → (f : Flash) (q : List ℕ) → StillCut shape top.1 found d.log.pending (IsIndexed d.pool shape) old f q → CrashFinds shape commit old all f q
still_commits d shape old top found without all with f q is = (
  is.0,
  inl (under_reads shape f [] top found without (still_without d d.values d.pool shape old f top found without all with (λ k is_read. is.1 k (inl is_read)))
      ∙ sym (under_reads shape old [] top found without with.committed)),
)

-- ---- the value is written

-- no block is opened if all of them are in use
never_opens : (shape : Shape) (values : ValuesState) (pool : Blocks) (count : ℕ) → fits_open shape values count ≡ false
    → needs_reclaim shape values pool count ≡ false → used_by Values pool.states ≡ data_blocks shape → ⊥
never_opens shape values pool count none room full =
    let few : nat_le (data_blocks shape - 1) (used_by Values pool.states) ≡ false = ap (λ b. not b && nat_le (data_blocks shape - 1) (used_by Values pool.states)) (sym none) ∙ room in
    true_false (sym (le-leb (data_blocks shape - 1) (used_by Values pool.states) (omega (arith, full))) ∙ few)
  where
    true_false : true ≡ false → ⊥
    true_false e = cc

-- the block that takes values is the same one
still_open : (o : Option OpenBlock) (count b : ℕ) → IsNotOpen o b → IsNotOpen (more_used o count) b
still_open None count b other = other
still_open (Some o) count b other = other

-- no other page differs after the programs of a value
written_outside : (shape : Shape) (key : Key) (page : ℕ) (value : List ℕ) (n : ℕ) (old : BoardState) (k : ℕ)
    → (page ≤ k → k < page + n → ⊥) → page_at (written shape key page value n old).pages k ≡ page_at old.pages k
written_outside shape key page value zero old k out = refl
written_outside shape key page value (suc n) old k out =
    page_at-slice_set (written shape key page value n old).pages (page + n) k (whole (page_of shape key value n)) (λ e. out (omega (arith, e)) (omega (arith, e)))
    ∙ written_outside shape key page value n old k (λ low high. out low (omega (arith, high)))

module _ (d : Parts) (key : Key) (value : List ℕ) (old : BoardState) (page : ℕ) (values : ValuesState) (q : Blocks) (new : BoardState)
    (is : PlacesValue d.log.shape key value d.values d.pool old page values q new) (ready : IsReady old d.log.shape) (ready_new : IsReady new d.log.shape)
    (room : needs_reclaim d.log.shape d.values d.pool (charge d.log.shape (length value)) ≡ false) where
  abbrev pub shape : Shape
  shape = d.log.shape

  abbrev pub after : Parts
  after = record d { values = values; pool = q }

  pub works_placed : Works old new
  works_placed = works_then old is.between new (works_reserved d page (charge shape (length value)) is.values q old is.between is.reserved)
      (subst (λ (b : BoardState). Works is.between b) (sym is.writes) (works_written shape key page value (charge shape (length value)) is.between))

  module _ (top : ℕ × Root) (found : Found) (without all : Map) (with : DriveOnFlashWith d shape old.pages top found without all) where
    pub placed_reaches : Reaches shape old new (StillCut shape top.1 found d.log.pending (IsIndexed d.pool shape) old.pages)
    placed_reaches =
        let count : ℕ = charge shape (length value) in
        let before = reserve_reaches d page count is.values q old is.between is.reserved ready top found without all with in
        let so_far = still_end shape top.1 found d.log.pending (IsIndexed d.pool shape) old.pages old is.between before in
        let unread = pages_unread d page count is.values q old is.between is.reserved ready top found without all with in
        let more = still_written shape top.1 found d.log.pending (IsIndexed d.pool shape) old.pages is.between is.reserved.ready.shape_is so_far key page value
        (even_page d page count is.values q old is.between is.reserved with.index.logs.is_shape) unread count (omega arith) in
        still_then shape top.1 found d.log.pending (IsIndexed d.pool shape) old.pages old is.between new ready.shape_is before
        (subst (λ (b : BoardState). Reaches shape is.between b (StillCut shape top.1 found d.log.pending (IsIndexed d.pool shape) old.pages)) (sym is.writes) more)

    same_placed : SameStill shape top.1 found d.log.pending (IsIndexed d.pool shape) old.pages new.pages
    same_placed = still_end shape top.1 found d.log.pending (IsIndexed d.pool shape) old.pages old new placed_reaches

    -- a reclaim that runs leaves no room but that of the open block, where the value goes; the same values are live
    placed_reclaims : ReclaimOnFlash shape d.reclaim values.live q new.pages (places found d.log.pending)
    placed_reclaims = elim (runs_or_rests d.reclaim.phase) [
      | inr rests ↦ reclaim_rests shape d.reclaim values.live q new.pages (places found d.log.pending) with.reclaim.shape_is rests
      | inl runs ↦ elim is.reserved.taken [
        | inr opens ↦ absurd (never_opens shape d.values d.pool (charge shape (length value)) opens.no_room room (with.reclaim.full runs))
        | inl next ↦
            let T : LiveValues → Blocks → Type 0 = λ l p. ReclaimOnFlash shape d.reclaim l p new.pages (places found d.log.pending) in
            let live : values.live ≡ d.values.live = ap (λ (x : ValuesState). x.live) is.counted ∙ ap (λ (x : ValuesState). x.live) next.kept in
            let now : T d.values.live d.pool =
            reclaim_elsewhere shape d.reclaim d.values d.pool d.pool old.pages new.pages (places found d.log.pending) with.reclaim with.placed refl (written_in_open next) in
            subst (λ (l : LiveValues). T l q) (sym live) (subst (λ (p : Blocks). T d.values.live p) (sym next.same_pool) now)
      ]
    ]
      where
        written_in_open : TakesNext shape d.values d.pool old (charge shape (length value)) is.values q is.between → SameButOpen shape d.pool d.values.open_block old.pages new.pages
        written_in_open next k held not_open =
            let count : ℕ = charge shape (length value) in
            let placed_still = is.placed (outputs_of d) (places found d.log.pending) with.placed in
            let opens : values.open_block ≡ more_used d.values.open_block count = ap (λ (x : ValuesState). x.open_block) is.counted ∙ ap (λ (x : ValuesState). more_used x.open_block count) next.kept in
            let other : IsNotOpen values.open_block (k / shape.block_pages) = subst (λ (o : Option OpenBlock). IsNotOpen o (k / shape.block_pages))
            (sym opens) (still_open d.values.open_block count (k / shape.block_pages) not_open) in
            ap (λ (b : BoardState). page_at b.pages k) is.writes
            ∙ written_outside shape key page value count is.between k
            (λ low high. not_of_open shape values q (outputs_of d) new.pages (places found d.log.pending) page count k placed_still is.in_open low high other)
            ∙ ap (λ (b : BoardState). page_at b.pages k) next.same_board

    pub placed_agrees : DriveOnFlashWith after shape new.pages top found without all
    placed_agrees =
        let placed_still = is.placed (outputs_of d) (places found d.log.pending) with.placed in
        let owners = owners_reserved d page (charge shape (length value)) is.values q old is.between is.reserved in
        let beside = beside_still d shape old.pages top found without all with q new.pages owners placed_still.shape_is placed_still.fits
        (journal_reserved d page (charge shape (length value)) is.values q old is.between is.reserved)
        (meta_reserved d page (charge shape (length value)) is.values q old is.between is.reserved) same_placed in
        agrees_elsewhere d values q shape old.pages new.pages top found without all with (λ k is. same_placed k (inl is)) ready_new.flash owners beside placed_still placed_reclaims

    pub placed_keeps : IsWhole d → Keeps d after shape all old new
    placed_keeps w = record {
      stands = record {
        top = top;
        found = found;
        without = without;
        with = placed_agrees;
        whole = whole_like d after refl (leaves_reserved d page (charge shape (length value)) is.values q old is.between is.reserved) refl refl w;
      };
      same_places = λ was. ap (λ (f : Found). places f d.log.pending) (found_once d d shape old.pages was.top top was.found found was.without all without all was.with with);
      still = (still_commits d shape old.pages top found without all with new.pages [] (refl, same_placed)).1;
      cuts = (
        placed_reaches.0,
        weaken placed_reaches.0 old new (StillCut shape top.1 found d.log.pending (IsIndexed d.pool shape) old.pages)
            (CrashFinds shape commit old.pages all) (still_commits d shape old.pages top found without all with) placed_reaches.1,
        placed_reaches.2,
      );
    }

  pub placed_keeps_all : KeepsAll d after old new
  placed_keeps_all = keeps_for d after old new (λ m stands. placed_keeps stands.top stands.found stands.without m stands.with stands.whole)

-- ---- a call that failed

module _ (d : Parts) (key : Key) (value : List ℕ) (old new : BoardState) (shared : IsShared d.pool.shape d.pool.states) (ready : IsReady old d.log.shape) where
  pub stops_placing : FailsToPlace d.log.shape key value d.values d.pool old new → Stops old new
  stops_placing (inl erase) = stops_erase old new erase.block erase.failed
  stops_placing (inr write) =
      stops_then old write.between new (works_reserved d write.page (charge d.log.shape (length value)) write.values write.pool old write.between write.reserved)
      (stops_written d.log.shape key write.page value write.between new write.failed)

  module _ (top : ℕ × Root) (found : Found) (without all : Map) (with : DriveOnFlashWith d d.log.shape old.pages top found without all) where
    pub placing_goes : FailsToPlace d.log.shape key value d.values d.pool old new → Goes d.log.shape old new (StillCut d.log.shape top.1 found d.log.pending (IsIndexed d.pool d.log.shape) old.pages)
    placing_goes (inl erase) =
        let spare : IsSpare d.pool erase.block = inl erase.lowest.here in
        still_erase_failed d.log.shape top.1 found d.log.pending (IsIndexed d.pool d.log.shape) old.pages old ready.shape_is (λ k is. refl) erase.block
        (spare_still d d.log.shape old.pages top found without all with erase.block spare (behind_roots d.pool.shape d.pool.states erase.block shared erase.lowest.here)) new erase.failed
    placing_goes (inr write) =
        let count : ℕ = charge d.log.shape (length value) in
        let before = reserve_reaches d write.page count write.values write.pool old write.between write.reserved ready top found without all with in
        let so_far = still_end d.log.shape top.1 found d.log.pending (IsIndexed d.pool d.log.shape) old.pages old write.between before in
        let unread = pages_unread d write.page count write.values write.pool old write.between write.reserved ready top found without all with in
        still_goes d.log.shape top.1 found d.log.pending (IsIndexed d.pool d.log.shape) old.pages old write.between new ready.shape_is before
        (still_write_failed d.log.shape top.1 found d.log.pending (IsIndexed d.pool d.log.shape) old.pages write.between write.reserved.ready.shape_is so_far key write.page value
        (even_page d write.page count write.values write.pool old write.between write.reserved with.index.logs.is_shape) unread new write.failed)

  pub breaks_placing : FailsToPlace d.log.shape key value d.values d.pool old new → BreaksAll d old new
  breaks_placing failed = breaks_for d old new (λ m stands.
      let with = stands.with in
      let went = placing_goes stands.top stands.found stands.without m with failed in (
        went.0,
        weaken_went went.0 old new (StillCut d.log.shape stands.top.1 stands.found d.log.pending (IsIndexed d.pool d.log.shape) old.pages)
            (CrashFinds d.log.shape commit old.pages m) (still_commits d d.log.shape old.pages stands.top stands.found stands.without m with) went.1,
        went.2,
      ))

-- ---- where the value is

pub value_written : (d : Parts) (key : Key) (value : List ℕ) (old : BoardState) (page : ℕ) (values : ValuesState) (q : Blocks) (new : BoardState)
    → PlacesValue d.log.shape key value d.values d.pool old page values q new → IsReady old d.log.shape → IsReady new d.log.shape
    → needs_reclaim d.log.shape d.values d.pool (charge d.log.shape (length value)) ≡ false
    → IsKey key → length value ≤ greatest d.log.shape → (m : Map) × StandsFor d d.log.shape old.pages m
    → Step (λ (p : ℕ). IsPlaced d (record d { values = values; pool = q }) old new key value p) (BreaksAll d old new) d.log.shape 0 old new (Ok page)
value_written d key value old page values q new is ready ready_new room is_key short stands =
    let shape : Shape = d.log.shape in
    let with = stands.1.with in
    let top = stands.1.top in
    let found = stands.1.found in
    let without = stands.1.without in
    let after : Parts = record d { values = values; pool = q } in
    let run = placed_reaches d key value old page values q new is ready ready_new room top found without stands.0 with in
    let same = still_end shape top.1 found d.log.pending (IsIndexed d.pool shape) old.pages old new run in
    let agrees = placed_agrees d key value old page values q new is ready ready_new room top found without stands.0 with in
    let count : ℕ = charge shape (length value) in
    let placed : IsPlaced d after old new key value page = record {
      keeps = placed_keeps_all d key value old page values q new is ready ready_new room;
      found = λ shape' top' found' without' all' other.
          let same : d.log.shape ≡ shape' = other.shape_is in
          subst (λ (s : Shape). DriveOnFlashWith after s new.pages top' found' without' all') same
          (placed_agrees d key value old page values q new is ready ready_new room top' found' without' all'
          (subst (λ (s : Shape). DriveOnFlashWith d s old.pages top' found' without' all') (sym same) other));
      written = record {
        there = value_again shape with.index.logs.is_shape key value is_key (page_at new.pages) page is.stored;
        apart = λ top' found' without' all' other k here is_value.
            let same_found : found' ≡ found = found_once after after shape new.pages top top' found found' without stands.0 without' all' agrees other in
            is.reserved.free (outputs_of d) (places found d.log.pending) with.placed k here.0 here.1 (subst (λ (f : Found). IsValuePage shape (places f d.log.pending) k) same_found is_value);
      };
      place = record {
        exists = let e = is.reserved.pages.exists in let some = charge_some shape with.index.logs.is_shape (length value) in omega (arith, e, some);
        past_roots = is.reserved.pages.behind_roots;
        even = is.reserved.pages.even;
        short = short;
        inside = is.reserved.pages.inside;
      };
      owned = is.reserved.pages.owned;
      in_open = is.in_open;
    } in
    record {
      ended = placed;
      broken = tt;
      works = works_placed d key value old page values q new is ready ready_new room;
      stops = tt;
      stopped = tt;
      ready = ready_new;
      roots_few = same_roots shape old new ready.shape_is ready_new.shape_is (same_top shape top.1 found d.log.pending old.pages new.pages (λ k is_read. same k (inl is_read)));
    }

pub value_broken : (d behind : Parts) (key : Key) (value : List ℕ) (old new : BoardState) (e : Fault) → FailsToPlace d.log.shape key value d.values d.pool old new → e ≡ Stopped
    → IsShared d.pool.shape d.pool.states → IsReady old d.log.shape → IsReady new d.log.shape → (m : Map) × StandsFor d d.log.shape old.pages m
    → StepPlaces d behind old new key value (Err e)
value_broken d behind key value old new e failed is_stopped shared ready ready_new stands =
    let with = stands.1.with in
    let went = placing_goes d key value old new shared ready stands.1.top stands.1.found stands.1.without stands.0 with failed in
    let same = went_end d.log.shape stands.1.top.1 stands.1.found d.log.pending (IsIndexed d.pool d.log.shape) old.pages old new went in
    record {
      ended = tt;
      broken = breaks_placing d key value old new shared ready failed;
      works = tt;
      stops = stops_placing d key value old new shared ready failed;
      stopped = is_stopped;
      roots_few = same_roots d.log.shape old new ready.shape_is ready_new.shape_is
          (same_top d.log.shape stands.1.top.1 stands.1.found d.log.pending old.pages new.pages (λ k is_read. same k (inl is_read)));
      ready = ready_new;
    }

-- by what the call answered
pub place_step : (r : Result ℕ Fault) (d : Parts) (key : Key) (value : List ℕ) (old : BoardState) (values : ValuesState) (q : Blocks) (new : BoardState)
    → IfOk r (λ page. PlacesValue d.log.shape key value d.values d.pool old page values q new) → OnErr r (FailsToPlace d.log.shape key value d.values d.pool old new) → IfErr r (λ e. e ≡ Stopped)
    → IsShared d.pool.shape d.pool.states → MayStep d old → IsReady new d.log.shape
    → needs_reclaim d.log.shape d.values d.pool (charge d.log.shape (length value)) ≡ false → IsKey key → length value ≤ greatest d.log.shape
    → StepPlaces d (record d { values = values; pool = q }) old new key value r
place_step (Ok page) d key value old values q new places fails stopped shared may after room is_key short =
    value_written d key value old page values q new places may.ready after room is_key short may.stands
place_step (Err e) d key value old values q new places fails stopped shared may after room is_key short =
    value_broken d (record d { values = values; pool = q }) key value old new e fails stopped shared may.ready after may.stands
