-- Blocks that a job may take.
use Rattle.std.specs.Prelude.{◌≡◌, ◌≢◌, ℕ, ◌/◌, ◌<◌, ◌≤◌, []}
use Rattle.pk_base.{specs.Shape.Shape, specs.declared.sizes.TheConstants.ROOT_BLOCKS}
use Rattle.pk_rootfmt.specs.Root.{Root, named}
use Rattle.pk_model.{specs.Found.Found, specs.Laws.AnyByRecursion}
use Rattle.pk_pool.specs.Blocks.{Blocks, IsSpare}
use Rattle.pk_law_steps.specs.Under.{IsValuePage, places}

-- no spare block is read: the root names none, and none has a page of a value
pub record IsApart (shape : Shape) (pool : Blocks) (root : Root) (found : Found) : Type 0 where
  pub unnamed : (b : ℕ) → IsSpare pool b → AnyByRecursion (λ c. b ≡ c) (named root) → ⊥
  pub no_value : (b k : ℕ) → IsSpare pool b → k / shape.block_pages ≡ b → IsValuePage shape (places found []) k → ⊥

-- two different blocks after the root blocks
pub record AreTwo (shape : Shape) (first second : ℕ) : Type 0 where
  pub first_least : ROOT_BLOCKS ≤ first
  pub first_most : first < shape.blocks
  pub second_least : ROOT_BLOCKS ≤ second
  pub second_most : second < shape.blocks
  pub different : second ≢ first
