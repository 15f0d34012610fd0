-- A step of the jobs moves the index of a drive, and leaves its values where they are.
use Rattle.std.proofs.Common.{◌≡◌, inl, inr, ℕ, ◌/◌, ◌<◌, sym, subst, ◌∙◌, false, List, [], length}
use Rattle.pk_base.{specs.Entry.Entry, specs.Entry.Place, specs.Key.Key, specs.Shape.Shape, specs.Page.Flash, specs.Map.Map}
use Rattle.pk_rootfmt.specs.Root.{Root}
use Rattle.pk_nand.{specs.BoardState.BoardState, specs.Calls.IsReady}
use Rattle.pk_model.specs.Found.{Found}
use Rattle.pk_law_steps.specs.Under.{IsUnder, IsValuePage, places}
use Rattle.pk_scan.specs.Used.{IsUseOf}
use Rattle.pk_values.{specs.Placed.ValuesOnFlash, proofs.Unchanged.ValuesOnFlash-kept}
use Rattle.pk_pool.specs.Blocks.{Blocks, freed}
use Rattle.pk_pin.specs.Frames.{Frames}
use Rattle.pk_level.specs.Levels.{Levels}
use Rattle.pk_schedule.{specs.Index.Index, specs.Index.IndexOnFlash, specs.Index.Schedule, specs.Index.index, specs.Index.IsSettled, specs.Index.settled, specs.Steps.MayWork, specs.Steps.IndexMoves}
use Rattle.pk_gc.specs.Standing.{ReclaimOnFlash}
use Rattle.pk_parts.{specs.Parts.Parts, specs.Parts.frames_of, specs.Parts.index_of, specs.Parts.outputs_of, specs.Parts.settled_parts, proofs.Reclaiming.reclaim_elsewhere}
use Rattle.pk_parts.specs.Agreeing.{DriveOnFlashWith, IsWhole, IsHalfAtMost}

-- the drive with another index
abbrev pub with_index : Parts → Index → Parts
with_index d x = record d { log = x.log; levels = x.levels; arena = x.arena; pool = x.pool; schedule = x.schedule }

-- the drive agrees with the flash with other runs and jobs, and another page of the reclaim, if its index and its reclaim do
pub agrees_like : (d : Parts) (levels : Levels) (arena : Frames) (schedule : Schedule) (page : List ℕ) (shape : Shape) (flash : Flash) (top : ℕ × Root) (found : Found) (without all : Map)
    → DriveOnFlashWith d shape flash top found without all → IndexOnFlash (index d.log levels arena d.pool schedule) (length arena.used) flash top found
    → ReclaimOnFlash shape (record d.reclaim { page = page }) d.values.live d.pool flash (places found d.log.pending)
    → DriveOnFlashWith (record d { levels = levels; arena = arena; schedule = schedule; reclaim = record d.reclaim { page = page } }) shape flash top found without all
agrees_like d levels arena schedule page shape flash top found without all with its_index its_reclaim = record {
  shape_is = with.shape_is;
  is_flash = with.is_flash;
  index = its_index;
  committed = with.committed;
  pending = with.pending;
  placed = with.placed;
  former = with.former;
  former_read = with.former_read;
  reclaim = its_reclaim;
  uses = with.uses;
}

module _ (d : Parts) (flash : Flash) (top : ℕ × Root) (found : Found) (without all : Map) (a : DriveOnFlashWith d d.log.shape flash top found without all) (none : d.log.pending ≡ []) where
  -- with nothing pending the index may make a step, for the map of the drive
  pub may_work : IsSettled (index_of d) → d.log.root.number < 18446744073709551615 → MayWork (index_of d) (frames_of d) flash top found all
  may_work settles number = record {
    stands = a.index;
    settles = settles;
    none_pending = none;
    under = subst (λ (es : List Entry). IsUnder d.log.shape flash es top found all) none a.pending;
    values = a.former;
    number = number;
  }

  -- with nothing pending the values are where the flash has them, and the reclaim matches them
  pub committed_placed : ValuesOnFlash d.log.shape d.values d.pool (outputs_of d) flash (places found [])
  committed_placed = subst (λ (es : List Entry). ValuesOnFlash d.log.shape d.values d.pool (outputs_of d) flash (places found es)) none a.placed

  pub committed_reclaim : ReclaimOnFlash d.log.shape d.reclaim d.values.live d.pool flash (places found [])
  committed_reclaim = subst (λ (es : List Entry). ReclaimOnFlash d.log.shape d.reclaim d.values.live d.pool flash (places found es)) none a.reclaim

module _ (d : Parts) (old new : BoardState) (top : ℕ × Root) (found : Found) (without all : Map) (a : DriveOnFlashWith d d.log.shape old.pages top found without all) (none : d.log.pending ≡ [])
    (x' : Index) (ready : IsReady new d.log.shape) (moved : IndexMoves (index_of d) (frames_of d) old found all x' new) where
  pub frames_stay : length x'.arena.used ≡ frames_of d
  frames_stay = moved.stands.arena_is.leases.size

  -- the pool as if the blocks that leave were free
  abbrev free : Blocks
  free = freed x'.pool

  still_placed : ValuesOnFlash d.log.shape d.values free (outputs_of d) new.pages (places moved.then_found [])
  still_placed =
      let same_shape = moved.stands.pool_shape ∙ (moved.same_shape ∙ sym a.index.pool_shape) in
      let now = ValuesOnFlash-kept d.log.shape d.values d.pool free (outputs_of d) old.pages new.pages (places found [])
      (committed_placed d old.pages top found without all a none) same_shape moved.values.size moved.values.as_many moved.values.owned moved.values.no_more
      (λ k held no_output. moved.values.pages k held) moved.stands.pool_fits in
      subst (ValuesOnFlash d.log.shape d.values free (outputs_of d) new.pages) (sym moved.same_places) now

  still_reclaims : ReclaimOnFlash d.log.shape d.reclaim d.values.live free new.pages (places moved.then_found [])
  still_reclaims =
      let now = reclaim_elsewhere d.log.shape d.reclaim d.values d.pool free old.pages new.pages (places found []) (committed_reclaim d old.pages top found without all a none)
      (committed_placed d old.pages top found without all a none) moved.values.as_many (λ k held not_open. moved.values.pages k held) in
      subst (ReclaimOnFlash d.log.shape d.reclaim d.values.live free new.pages) (sym moved.same_places) now

  -- the drive agrees with the flash after the step, for the same map, as if the blocks that leave were free
  pub moved_with : DriveOnFlashWith (settled_parts (with_index d x')) d.log.shape new.pages moved.then_top moved.then_found all all
  moved_with = record {
    shape_is = moved.same_shape;
    is_flash = ready.flash;
    index = subst (λ (n : ℕ). IndexOnFlash (settled x') n new.pages moved.then_top moved.then_found) (sym frames_stay) moved.stands;
    committed = moved.under;
    pending = subst (λ (es : List Entry). IsUnder d.log.shape new.pages es moved.then_top moved.then_found all) (sym moved.none_pending) moved.under;
    placed = subst (λ (es : List Entry). ValuesOnFlash d.log.shape d.values free (outputs_of d) new.pages (places moved.then_found es)) (sym moved.none_pending) still_placed;
    former = λ k is. moved.values.owned (k / d.log.shape.block_pages) (a.former k (subst (λ es. IsValuePage d.log.shape es k) moved.same_places is));
    former_read = λ k is. a.former_read k (subst (λ es. IsValuePage d.log.shape es k) moved.same_places is);
    reclaim = subst (λ (es : List Entry). ReclaimOnFlash d.log.shape d.reclaim d.values.live free new.pages (places moved.then_found es)) (sym moved.none_pending) still_reclaims;
    uses =
        let U : List (Key × Place) → Type 0 = IsUseOf d.log.shape d.spaces in
        subst (λ (es : List Entry). U (places moved.then_found es)) (sym moved.none_pending)
        (subst U (sym moved.same_places) (subst (λ (es : List Entry). U (places found es)) none a.uses));
  }

  -- the pair of its root may be half made
  pub moved_course : IsWhole d → x'.log.epoch.half ≡ false → IsHalfAtMost (with_index d x') new.pages moved.then_top moved.then_found all
  moved_course whole epoch = elim moved.ends [
    | inl settles ↦ inl (record { settles = settles; moves = whole.moves; epoch = epoch })
    | inr half ↦ inr (inl (record { index = half; moves = whole.moves; epoch = epoch; none_pending = moved.none_pending }))
  ]
