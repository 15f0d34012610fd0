-- The live map of values that were taken one after another.
use Rattle.std.specs.Prelude.{◌≡◌, ℕ, ◌+◌, ◌/◌, List, [], ◌∷◌, map, true, Bool, ◌==◌, if◌then◌else◌}
use Rattle.std.specs.List.{list_any, range_with_len, AllByRecursion}
use Rattle.pk_base.{specs.Key.Key, specs.Shape.Shape, specs.Shape.IsShape, specs.Shape.page_count, specs.Shape.charge, specs.Entry.Place, specs.EntryChecks.IsPlace}
use Rattle.pk_live.specs.Values.{Values, no_values}
use Rattle.pk_model.specs.Values.{fits, all_pages}

module _ (shape : Shape) where
  -- the pages of the values that begin at a page
  abbrev pub head_of : List (Key × Place) → ℕ → ℕ
  head_of [] page = 0
  head_of (e ∷ es) page = (if e.1.page == page then charge shape e.1.len else 0) + head_of es page

  -- a page of these values is in the block
  abbrev pub is_used : List (Key × Place) → ℕ → Bool
  is_used es block = list_any (λ p. p / shape.block_pages == block) (all_pages shape es)

  -- The live map of these values: each begins at its first page, and each block with a page of one is closed.
  abbrev pub live_of : List (Key × Place) → Values
  live_of es = record {
    block_pages = shape.block_pages;
    heads = map (head_of es) (range_with_len 0 (page_count shape));
    closed = map (is_used es) (range_with_len 0 shape.blocks);
  }

-- The live map represents these values, which are within blocks and together pass the reading's test of their pages.
pub record Lives (shape : Shape) (named : List ℕ) (live : Values) (taken : List (Key × Place)) : Type 0 where
  pub map_is : live ≡ live_of shape taken
  pub places : AllByRecursion (λ e. IsPlace shape e.1) taken
  pub placed_well : fits shape named (all_pages shape taken) ≡ true

-- A live map without values represents none.
abbrev pub StartsWithNone : Type 0
StartsWithNone = (shape : Shape) (named : List ℕ) → IsShape shape → Lives shape named (no_values shape) []
