-- Blocks that leave their owner: what becomes of them if they are freed.
use Rattle.std.specs.Prelude.{◌≡◌, ◌⊎◌, ℕ, List, slice_get, slice_set, Some}
use Rattle.pk_plan.specs.declared.owner.Owner.{Owner}
use Rattle.pk_pool.{specs.declared.state.BlockState.BlockState, specs.declared.state.BlockState.TheVariants.Owned, specs.declared.state.BlockState.TheVariants.Leaving, specs.Unready.unready}
use Rattle.pk_pool.specs.Blocks.{Blocks, with_state, given_back, left_by, freed_state, freed, IsSpare, IsLeaving, NoneLeaves}

-- blocks that left and are freed are free as if they had been given back
abbrev pub LeftAndFreed : Type 0
LeftAndFreed = (o : Owner) (p : Blocks) (bs : List ℕ) → freed (left_by o p bs) ≡ given_back (freed p) bs

-- a change of one block, seen if those that leave are freed
abbrev pub FreedWith : Type 0
FreedWith = (p : Blocks) (b : ℕ) (s : BlockState) → freed (with_state p b s) ≡ with_state (freed p) b (freed_state s)

-- if none leaves, nothing is freed
abbrev pub FreedSame : Type 0
FreedSame = (p : Blocks) → NoneLeaves p → freed p ≡ p

-- a spare block is spare from then on, too, and no others are but those that left
abbrev pub SpareFreed : Type 0
SpareFreed = (p : Blocks) (b : ℕ) → (IsSpare p b → IsSpare (freed p) b) × (IsSpare (freed p) b → IsSpare p b ⊎ IsLeaving p b)

-- a block that leaves is spare then
abbrev pub LeavingFreed : Type 0
LeavingFreed = (p : Blocks) (b : ℕ) → IsLeaving p b → IsSpare (freed p) b

-- each owner keeps its other blocks
abbrev pub OwnedFreed : Type 0
OwnedFreed =
    (p : Blocks) (b : ℕ) (o : Owner) → (slice_get p.states b ≡ Some (Owned o) → slice_get (freed p).states b ≡ Some (Owned o))
    × (slice_get (freed p).states b ≡ Some (Owned o) → slice_get p.states b ≡ Some (Owned o))

-- as many blocks are not ready, if one leaves, and if those that leave are freed
abbrev pub LeftUnready : Type 0
LeftUnready = (states : List BlockState) (b : ℕ) (o p : Owner) → slice_get states b ≡ Some (Owned o) → unready (slice_set states b (Leaving p)) ≡ unready states

abbrev pub FreedUnready : Type 0
FreedUnready = (p : Blocks) → unready (freed p).states ≡ unready p.states
