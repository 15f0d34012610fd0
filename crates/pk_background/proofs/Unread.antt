-- A drive agrees with a flash as before if no page differs that is read.
use Rattle.std.proofs.Common.{◌≡◌, ◌⊎◌, inl, inr, ℕ, ◌/◌, Some, List, [], subst}
use Rattle.std.specs.Prelude.{slice_get}
use Rattle.pk_base.{specs.Shape.Shape, specs.Shape.IsShape, specs.Page.Flash, specs.Page.IsFlash, specs.Page.page_at, specs.Entry.Entry, specs.Map.Map}
use Rattle.pk_rootfmt.{specs.Root.Root, specs.Newest.newest_root}
use Rattle.pk_plan.{specs.declared.owner.Owner.Owner, specs.declared.owner.Owner.TheVariants.Values}
use Rattle.pk_pool.{specs.declared.state.BlockState.TheVariants.Owned, specs.Blocks.Blocks}
use Rattle.pk_model.{specs.Found.Found, specs.Found.entries_in_order, specs.Laws.IsRead, proofs.SamePages.newest_root_same}
use Rattle.pk_law_steps.{specs.Under.IsUnder, specs.Under.places, proofs.Untouched.same as read_same}
use Rattle.pk_values.{specs.State.ValuesState, specs.Placed.ValuesOnFlash}
use Rattle.pk_gc.specs.Standing.{ReclaimOnFlash}
use Rattle.pk_parts.{specs.Parts.Parts, specs.Parts.frames_of, specs.Parts.index_of, specs.Parts.outputs_of, specs.Agreeing.DriveOnFlashWith}
use Rattle.pk_schedule.proofs.Keeping.{IsBeside, index_elsewhere}

-- the page is read, without the pending entries or with them
abbrev pub IsReadBy : Shape → Root → Found → List Entry → ℕ → Type 0
IsReadBy shape root found pending k = IsRead shape root (entries_in_order found []) k ⊎ IsRead shape root (entries_in_order found pending) k

-- no such page differs
abbrev pub SameRead : Shape → Root → Found → List Entry → Flash → Flash → Type 0
SameRead shape root found pending old new = (k : ℕ) → IsReadBy shape root found pending k → page_at new k ≡ page_at old k

-- the newest root is the same
pub same_top : (shape : Shape) (root : Root) (found : Found) (pending : List Entry) (old new : Flash)
    → SameRead shape root found pending old new → newest_root shape (page_at new) ≡ newest_root shape (page_at old)
same_top shape root found pending old new same = newest_root_same shape (page_at old) (page_at new) (λ k low. same k (inl (inl low)))

-- what others own stays with them
abbrev pub KeepsOwners : Blocks → Blocks → Type 0
KeepsOwners p q = (b : ℕ) (o : Owner) → slice_get p.states b ≡ Some (Owned o) → slice_get q.states b ≡ Some (Owned o)

-- ---- the whole

module _ (d : Parts) (values : ValuesState) (pool : Blocks) (shape : Shape) (old new : Flash) (top : ℕ × Root) (found : Found) (without all : Map)
    (with : DriveOnFlashWith d shape old top found without all) (same : SameRead shape top.1 found d.log.pending old new) where
  is_shape : IsShape shape
  is_shape = subst IsShape with.shape_is with.index.logs.is_shape

  pub still_without : IsUnder shape new [] top found without
  still_without = read_same shape old new [] top found without is_shape with.committed (λ k is. same k (inl is))

  pub still_all : IsUnder shape new d.log.pending top found all
  still_all = read_same shape old new d.log.pending top found all is_shape with.pending (λ k is. same k (inr is))

  pub agrees_elsewhere : IsFlash shape new → KeepsOwners d.pool pool → IsBeside d.pool old pool new → ValuesOnFlash shape values pool (outputs_of d) new (places found d.log.pending)
      → ReclaimOnFlash shape d.reclaim values.live pool new (places found d.log.pending)
      → DriveOnFlashWith (record d { values = values; pool = pool }) shape new top found without all
  agrees_elsewhere is_flash owners beside placed reclaim = record {
    shape_is = with.shape_is;
    is_flash = is_flash;
    index = index_elsewhere (index_of d) (frames_of d) old new top found with.index pool beside;
    committed = still_without;
    pending = still_all;
    placed = placed;
    former = λ k is. owners (k / shape.block_pages) Values (with.former k is);
    former_read = with.former_read;
    reclaim = reclaim;
    uses = with.uses;
  }
