-- A change of the map: steps that keep it, the change in memory, and a commit.
use Rattle.std.proofs.Common.{◌≡◌, ◌⊎◌, inl, inr, ℕ, List, [], Some, Ok}
use Rattle.pk_base.{specs.Shape.Shape, specs.Page.Flash, specs.Map.Map}
use Rattle.pk_nand.specs.BoardState.{BoardState}
use Rattle.pk_model.{specs.Reading.reading, specs.Growth.Reaches, specs.Growth.Goes, specs.Crashes.CrashFinds, specs.Crashes.commit, specs.Crashes.change}
use Rattle.pk_model.proofs.Growing.{weaken, weaken_went}

-- the flash holds what another held, or this map
abbrev pub IsStill : Shape → Flash → Flash → Map → Type 0
IsStill shape flash start m = (reading shape flash [] ≡ reading shape start []) ⊎ (reading shape flash [] ≡ Ok m)

module _ (shape : Shape) (a b : BoardState) (has : a.shape ≡ Some shape) (m m' : Map) where
  -- cuts of a step that keeps the map are cuts of the change
  pub kept_cut : (f : Flash) (q : List ℕ) → CrashFinds shape commit a.pages m f q → CrashFinds shape (change m') a.pages m f q
  kept_cut f q (quiet, inl same) = (quiet, inl same)
  kept_cut f q (quiet, inr is) = (quiet, inr (inl is))

  unfoldable pub kept_reaches : Reaches shape a b (CrashFinds shape commit a.pages m) → Reaches shape a b (CrashFinds shape (change m') a.pages m)
  kept_reaches run = (run.0, weaken run.0 a b (CrashFinds shape commit a.pages m) (CrashFinds shape (change m') a.pages m) kept_cut run.1, run.2)

  pub kept_goes : Goes shape a b (CrashFinds shape commit a.pages m) → Goes shape a b (CrashFinds shape (change m') a.pages m)
  kept_goes run = (run.0, weaken_went run.0 a b (CrashFinds shape commit a.pages m) (CrashFinds shape (change m') a.pages m) kept_cut run.1, run.2)

-- so are those of a step that keeps it after a change in memory
module _ (shape : Shape) (a b : BoardState) (m m' : Map) where
  taken_cut : (f : Flash) (q : List ℕ) → CrashFinds shape commit a.pages m' f q → CrashFinds shape (change m') a.pages m f q
  taken_cut f q (quiet, inl same) = (quiet, inl same)
  taken_cut f q (quiet, inr is) = (quiet, inr (inr is))

  pub taken_reaches : Reaches shape a b (CrashFinds shape commit a.pages m') → Reaches shape a b (CrashFinds shape (change m') a.pages m)
  taken_reaches run = (run.0, weaken run.0 a b (CrashFinds shape commit a.pages m') (CrashFinds shape (change m') a.pages m) taken_cut run.1, run.2)

  pub taken_goes : Goes shape a b (CrashFinds shape commit a.pages m') → Goes shape a b (CrashFinds shape (change m') a.pages m)
  taken_goes run = (run.0, weaken_went run.0 a b (CrashFinds shape commit a.pages m') (CrashFinds shape (change m') a.pages m) taken_cut run.1, run.2)
