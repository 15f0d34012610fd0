-- Blocks that get their owners at opening.
use Rattle.std.specs.Prelude.{◌≡◌, ℕ, ◌+◌, ◌≤◌, Bool, true, false, ◌==◌, ◌-◌, List, ◌++◌, length, slice_get, option_map, Option, Some, None, filter}
use Rattle.std.specs.List.{list_any, concat, range_with_len, AllByRecursion}
use Rattle.pk_base.{specs.Shape.Shape, specs.Shape.data_blocks, specs.Page.Flash}
use Rattle.pk_plan.{specs.declared.owner.Owner.Owner, specs.declared.owner.Owner.TheVariants.Journal, specs.declared.owner.Owner.TheVariants.Meta, specs.declared.owner.Owner.TheVariants.Values}
use Rattle.pk_plan.specs.Quotas.{quota_of}
use Rattle.pk_pool.specs.declared.state.BlockState.{BlockState}
use Rattle.pk_pool.specs.declared.state.BlockState.TheVariants.{Root as RootBlock, Free, Ready, Owned, Leaving}
use Rattle.pk_pool.specs.Blocks.{Blocks, unused, used_by, same_owner, IsSpare, NoneLeaves, PoolOnFlash}
use Rattle.pk_rootfmt.specs.Root.{Root, differ}
use Rattle.pk_live.specs.Values.{Values as LiveValues, IsClosed}
use Rattle.pk_model.specs.Laws.{AnyByRecursion}

abbrev pub has_owner : Option BlockState → Bool
has_owner None = false
has_owner (Some RootBlock) = false
has_owner (Some Free) = false
has_owner (Some Ready) = false
has_owner (Some (Owned o)) = true
has_owner (Some (Leaving o)) = true

-- the blocks that have an owner
unfoldable pub owned_blocks : Blocks → List ℕ
owned_blocks pool = filter (λ b. has_owner (slice_get pool.states b)) (range_with_len 0 (length pool.states))

-- the block is one of these
abbrev pub is_among : List ℕ → ℕ → Bool
is_among blocks b = list_any (λ c. c == b) blocks

-- what a block is that becomes the owner's, or does not
abbrev pub owned_if : Owner → Bool → BlockState → BlockState
owned_if owner true state = Owned owner
owned_if owner false state = state

-- The blocks that pass the test, n of them, became the owner's, and all others are unchanged.
pub record Adopts (owner : Owner) (test : ℕ → Bool) (n : ℕ) (old new : Blocks) : Type 0 where
  pub shape : new.shape ≡ old.shape
  pub states : (b : ℕ) → slice_get new.states b ≡ option_map (owned_if owner (test b)) (slice_get old.states b)
  pub counted : used_by owner new.states ≡ used_by owner old.states + n
  pub others : (o : Owner) → same_owner o owner ≡ false → used_by o new.states ≡ used_by o old.states
  pub fits : (flash : Flash) → PoolOnFlash old flash → PoolOnFlash new flash

-- what a block is that a root names
abbrev pub state_of : Root → ℕ → BlockState → BlockState
state_of root b state = owned_if Meta (is_among (concat root.runs) b) (owned_if Journal (is_among (root.newest ++ root.older) b) state)

-- The blocks of the root's epochs became the journal's, and those of its runs meta blocks; all others are what they were.
pub record NamesOwned (root : Root) (old new : Blocks) : Type 0 where
  pub shape : new.shape ≡ old.shape
  pub states : (b : ℕ) → slice_get new.states b ≡ option_map (state_of root b) (slice_get old.states b)
  pub journal : used_by Journal new.states ≡ used_by Journal old.states + length (root.newest ++ root.older)
  pub meta : used_by Meta new.states ≡ used_by Meta old.states + length (concat root.runs)
  pub values : used_by Values new.states ≡ used_by Values old.states
  pub fits : (flash : Flash) → PoolOnFlash old flash → PoolOnFlash new flash

-- In a new pool the blocks of the root's epochs became the journal's, and those of its runs meta blocks. These owners have as many, and
-- the values none.
pub record RootOwned (shape : Shape) (root : Root) (pool : Blocks) : Type 0 where
  pub named_owned : NamesOwned root (unused shape) pool
  pub journal : used_by Journal pool.states ≡ length (root.newest ++ root.older)
  pub meta : used_by Meta pool.states ≡ length (concat root.runs)
  pub values : used_by Values pool.states ≡ 0

-- The blocks of the root's epochs are the journal's, those of its runs are meta blocks, and those that are closed are the values'.
pub record HasOwners (shape : Shape) (root : Root) (live : LiveValues) (pool : Blocks) : Type 0 where
  pub pool_shape : pool.shape ≡ shape
  pub pool_size : length pool.states ≡ shape.blocks
  pub pool_fits : (flash : Flash) → PoolOnFlash pool flash
  pub journal : (b : ℕ) → AnyByRecursion (λ c. b ≡ c) (root.newest ++ root.older) → slice_get pool.states b ≡ Some (Owned Journal)
  pub journal_few : used_by Journal pool.states ≡ length (root.newest ++ root.older)
  pub runs : (b : ℕ) → AnyByRecursion (λ c. b ≡ c) (concat root.runs) → slice_get pool.states b ≡ Some (Owned Meta)
  pub runs_few : used_by Meta pool.states ≡ length (concat root.runs)
  pub closed_owned : (b : ℕ) → IsClosed live b → slice_get pool.states b ≡ Some (Owned Values)
  pub owned_closed : (b : ℕ) → slice_get pool.states b ≡ Some (Owned Values) → IsClosed live b
  pub values_few : used_by Values pool.states ≤ data_blocks shape - 1
  pub none_leaves : NoneLeaves pool

-- ---- inside

-- these blocks are spare and different ones, and the owner may have all of them
pub record MayAdopt (owner : Owner) (blocks : List ℕ) (p : Blocks) : Type 0 where
  pub spare : AllByRecursion (IsSpare p) blocks
  pub differ : differ blocks ≡ true
  pub room : used_by owner p.states + length blocks ≤ quota_of p.shape owner
