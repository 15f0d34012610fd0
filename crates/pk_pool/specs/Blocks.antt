-- The blocks of a flash, each with its owner or free.
use Rattle.std.specs.Prelude.{◌≡◌, ◌⊎◌, ℕ, ◌<◌, ◌≤◌, Bool, true, false, List, [], ◌∷◌, length, count_by, slice_get, slice_set, Some, replicate, map}
use Rattle.pk_base.{specs.Shape.Shape, specs.Page.Flash}
use Rattle.pk_nand.specs.Operations.{IsErasedBlock}
use Rattle.pk_plan.{specs.declared.owner.Owner.Owner, specs.declared.owner.Owner.TheVariants.Journal, specs.declared.owner.Owner.TheVariants.Meta, specs.declared.owner.Owner.TheVariants.Values}
use Rattle.pk_plan.specs.Quotas.{quota_of, IsPlan}
use Rattle.pk_pool.specs.declared.state.BlockState.{BlockState}
use Rattle.pk_pool.specs.declared.state.BlockState.TheVariants.{Root, Free, Ready, Owned, Leaving}

-- the shape, and what each block is
pub record Blocks : Type 0 where
  pub shape : Shape
  pub states : List BlockState

abbrev pub is_root : BlockState → Bool
is_root Root = true
is_root Free = false
is_root Ready = false
is_root (Owned o) = false
is_root (Leaving o) = false

-- free, and not erased in this session since it last had an owner
abbrev pub is_free : BlockState → Bool
is_free Root = false
is_free Free = true
is_free Ready = false
is_free (Owned o) = false
is_free (Leaving o) = false

-- free, and erased in this session since it last had an owner
abbrev pub is_ready : BlockState → Bool
is_ready Root = false
is_ready Free = false
is_ready Ready = true
is_ready (Owned o) = false
is_ready (Leaving o) = false

abbrev pub same_owner : Owner → Owner → Bool
same_owner Journal Journal = true
same_owner Journal Meta = false
same_owner Journal Values = false
same_owner Meta Journal = false
same_owner Meta Meta = true
same_owner Meta Values = false
same_owner Values Journal = false
same_owner Values Meta = false
same_owner Values Values = true

-- the block counts as the owner's, also while it leaves
abbrev pub is_owned_by : Owner → BlockState → Bool
is_owned_by o Root = false
is_owned_by o Free = false
is_owned_by o Ready = false
is_owned_by o (Owned p) = same_owner o p
is_owned_by o (Leaving p) = same_owner o p

-- how many blocks an owner has, those that leave included
abbrev pub used_by : Owner → List BlockState → ℕ
used_by o states = count_by (is_owned_by o) states

-- Blocks 0 and 1 alone are the root blocks, and each owner keeps within its quota.
pub record IsShared (shape : Shape) (states : List BlockState) : Type 0 where
  pub plan : IsPlan shape
  pub size : length states ≡ shape.blocks
  pub first : slice_get states 0 ≡ Some Root
  pub second : slice_get states 1 ≡ Some Root
  pub roots : count_by is_root states ≡ 2
  pub within : (o : Owner) → used_by o states ≤ quota_of shape o

-- blocks 0 and 1 are the root blocks, and all others are free and not erased
abbrev pub unused : Shape → Blocks
unused shape = record { shape = shape; states = slice_set (slice_set (replicate shape.blocks Free) 0 Root) 1 Root }

abbrev pub with_state : Blocks → ℕ → BlockState → Blocks
with_state p b s = record p { states = slice_set p.states b s }

-- these blocks are given back: they are free, and count as not erased
abbrev pub given_back : Blocks → List ℕ → Blocks
given_back p [] = p
given_back p (b ∷ bs) = given_back (with_state p b Free) bs

-- these blocks leave their owner: they count as its blocks until all that leave are freed
abbrev pub left_by : Owner → Blocks → List ℕ → Blocks
left_by o p [] = p
left_by o p (b ∷ bs) = left_by o (with_state p b (Leaving o)) bs

-- what a block is if those that leave are freed: such a one is free, and counts as not erased
abbrev pub freed_state : BlockState → BlockState
freed_state Root = Root
freed_state Free = Free
freed_state Ready = Ready
freed_state (Owned o) = Owned o
freed_state (Leaving o) = Free

-- the pool if every block that leaves is freed
abbrev pub freed : Blocks → Blocks
freed p = record p { states = map freed_state p.states }

abbrev pub IsLeaving : Blocks → ℕ → Type 0
IsLeaving p b = (o : Owner) × (slice_get p.states b ≡ Some (Leaving o))

-- no block leaves
abbrev pub NoneLeaves : Blocks → Type 0
NoneLeaves p = (b : ℕ) (o : Owner) → slice_get p.states b ≡ Some (Leaving o) → ⊥

abbrev pub IsOwned : Blocks → ℕ → Type 0
IsOwned p b = (o : Owner) × (slice_get p.states b ≡ Some (Owned o))

-- the block has no owner, and is no root block
abbrev pub IsSpare : Blocks → ℕ → Type 0
IsSpare p b = (slice_get p.states b ≡ Some Free) ⊎ (slice_get p.states b ≡ Some Ready)

-- b is the lowest-numbered block in the state
pub record IsLowest (s : BlockState) (states : List BlockState) (b : ℕ) : Type 0 where
  pub here : slice_get states b ≡ Some s
  pub none_below : (k : ℕ) → k < b → slice_get states k ≡ Some s → ⊥

abbrev pub IsNowhere : BlockState → List BlockState → Type 0
IsNowhere s states = (k : ℕ) → slice_get states k ≡ Some s → ⊥

-- every block that the pool counts as erased is Erased on the flash
pub record PoolOnFlash (p : Blocks) (flash : Flash) : Type 0 where
  pub erased : (b : ℕ) → slice_get p.states b ≡ Some Ready → IsErasedBlock p.shape flash b
