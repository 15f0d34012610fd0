-- What is promised of a run over a board with spare blocks, if the board that is passed in holds its pages and they have a table.
use Rattle.std.specs.Prelude.{◌≡◌, ◌≢◌, ◌⊎◌, ℕ, List}
use Rattle.pk_base.specs.Shape.{Shape}
use Rattle.pk_nand.specs.BoardState.{BoardState}
use Rattle.pk_nand.specs.declared.types.LoadFault.TheVariants.{BadImage}
use Rattle.pk_remap.{specs.Remapped.fresh_remap, specs.Loading.loaded_remap}
use Rattle.pk_top.{specs.Runs.RunsOver, specs.Loads.LoadRefused}

-- The load was refused, since a read of the inner flash failed or memory was missing. Then no word was obeyed, and the inner board has its pages
-- and its trail.
pub record OuterNotLoaded (log : ℕ) (inner new below : BoardState) (status : ℕ) : Type 0 where
  pub refused : LoadRefused (fresh_remap log inner) new status
  pub not_bad : (at : ℕ) → refused.fault ≢ BadImage at
  pub pages : below.pages ≡ inner.pages
  pub trail : below.trail ≡ inner.trail

-- A run over the outer flash that the inner pages showed before it; or it could not be loaded.
abbrev pub RunsOverLoaded : List (List ℕ) → ℕ → ℕ → Shape → BoardState → BoardState → BoardState → ℕ → Type 0
RunsOverLoaded asked log spares shape inner new below status =
    RunsOver asked (loaded_remap log spares shape inner) new status ⊎ OuterNotLoaded log inner new below status
