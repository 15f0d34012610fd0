-- The pages for a value: what a call that finds them does.
use Rattle.std.specs.Prelude.{◌≡◌, ◌≢◌, ◌⊎◌, ℕ, ◌+◌, ◌/◌, ◌%◌, ◌<◌, ◌≤◌, List, true, false}
use Rattle.pk_base.{specs.declared.sizes.TheConstants.ROOT_BLOCKS, specs.Shape.Shape, specs.Shape.page_count, specs.Key.Key, specs.Entry.Place, specs.Page.Flash, specs.Page.page_at, specs.Page.erased}
use Rattle.pk_plan.specs.declared.owner.Owner.TheVariants.{Values as for_values}
use Rattle.pk_nand.{specs.BoardState.BoardState, specs.Operations.InOrder, specs.Crash.SameOutside}
use Rattle.pk_pool.{specs.declared.state.BlockState.TheVariants.Owned, specs.Blocks.Blocks, specs.Blocks.IsSpare, specs.Blocks.with_state}
use Rattle.pk_pool.specs.Taking.{TakesReady, ErasesFree, ReachesIn}
use Rattle.pk_law_steps.specs.Under.{IsValuePage}
use Rattle.pk_values.{specs.State.ValuesState, specs.State.fits_open, specs.State.next_page, specs.State.block_opened, specs.Placed.HoldsValues, specs.Placed.ValuesOnFlash}

-- From this page on, which is even, the next n are Erased ones of the open block, which is one for values.
pub record IsReserved (shape : Shape) (d : ValuesState) (pool : Blocks) (flash : Flash) (page count : ℕ) : Type 0 where
  pub next : page ≡ next_page shape d
  pub room : fits_open shape d count ≡ true
  pub even : page % 2 ≡ 0
  pub exists : page + count ≤ page_count shape
  pub inside : page % shape.block_pages + count ≤ shape.block_pages
  pub behind_roots : ROOT_BLOCKS ≤ page / shape.block_pages
  pub owned : HoldsValues pool (page / shape.block_pages)
  pub free : (k : ℕ) → page ≤ k → k < page + count → page_at flash k ≡ erased
  pub order : InOrder shape flash page

-- none of these pages belongs to a value
abbrev pub IsFreeOf : Shape → List (Key × Place) → ℕ → ℕ → Type 0
IsFreeOf shape es page count = (k : ℕ) → page ≤ k → k < page + count → IsValuePage shape es k → ⊥

-- nor to one that was placed before
abbrev pub AreFree : Shape → ValuesState → Blocks → Flash → ℕ → ℕ → Type 0
AreFree shape d pool flash page count = (outputs : List ℕ) (es : List (Key × Place)) → ValuesOnFlash shape d pool outputs flash es → IsFreeOf shape es page count

-- The open block had room, and nothing was done.
pub record TakesNext (shape : Shape) (d : ValuesState) (p : Blocks) (old : BoardState) (count : ℕ) (d' : ValuesState) (q : Blocks) (new : BoardState) : Type 0 where
  pub room : fits_open shape d count ≡ true
  pub kept : d' ≡ d
  pub same_pool : q ≡ p
  pub same_board : new ≡ old

-- It had none: it was closed, and a block without an owner was taken from the pool, by at most one erase.
pub record OpensBlock (shape : Shape) (d : ValuesState) (p : Blocks) (old : BoardState) (count : ℕ) (d' : ValuesState) (q : Blocks) (new : BoardState) : Type 0 where
  pub no_room : fits_open shape d count ≡ false
  pub block : ℕ
  pub opens : d' ≡ block_opened d block
  pub spare : IsSpare p block
  pub place : ROOT_BLOCKS ≤ block × block < p.shape.blocks
  pub taken : q ≡ with_state p block (Owned for_values)
  pub choice : TakesReady p old block new ⊎ ErasesFree p old block new
  pub cuts : ReachesIn p.shape block old new

-- either of both
abbrev pub TakesNextOrOpens : Shape → ValuesState → Blocks → BoardState → ℕ → ValuesState → Blocks → BoardState → Type 0
TakesNextOrOpens shape d p old count d' q new = TakesNext shape d p old count d' q new ⊎ OpensBlock shape d p old count d' q new

-- nothing but the next n pages differs, and these are written now, whole pairs of them
pub record WritesNext (shape : Shape) (d : ValuesState) (count : ℕ) (old new : Flash) : Type 0 where
  pub pairs : count % 2 ≡ 0
  pub outside : SameOutside (next_page shape d) count old new
  pub written : (k : ℕ) → next_page shape d ≤ k → k < next_page shape d + count → page_at new k ≢ erased
