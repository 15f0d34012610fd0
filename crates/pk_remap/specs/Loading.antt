-- What a load and a make of a flash with spare blocks do by calls of its inner flash, and what a load shows of the pages that this had before.
use Rattle.std.specs.Prelude.{◌≡◌, ◌≢◌, ◌⊎◌, ℕ, ◌*◌, false, Option, Some, None, Result, Ok, Err, IsOk, IsSome, ⊤}
use Rattle.pk_base.{specs.Shape.Shape, specs.Shape.checked, specs.Page.page_at}
use Rattle.pk_nand.{specs.BoardState.BoardState, specs.BoardState.shape_of, specs.Calls.Loaded, specs.Calls.LoadFailed, specs.Calls.Made, specs.Calls.MakeFailed, specs.Effects.OnlyReading}
use Rattle.pk_nand.specs.declared.types.LoadFault.{LoadFault}
use Rattle.pk_nand.specs.declared.types.LoadFault.TheVariants.{Fault, BadImage, Memory}
use Rattle.pk_remap.{specs.Newest.newest_table, specs.Places.inner_shape, specs.Serving.PassesCalls, specs.Remapped.outer_pages, specs.Remapped.fresh_remap, specs.FirstTable.IsNoneOrErased}
use Rattle.pk_remap.specs.MostCalls.{AtMostCalls}

-- ---- load

-- A load of the inner flash, and after it nothing but reads of it, of no more pages than its two table blocks have. A board that holds its pages
-- is not called bad for a refusal of its own.
pub record LoadsInner (old : BoardState) (result : Result (Option Shape) LoadFault) (new : BoardState) : Type 0 where
  pub mid : BoardState
  pub loads : ((found : Option Shape) × Loaded old mid found) ⊎ (LoadFailed old mid × (IsSome old.shape → (at : ℕ) → result ≢ Err (BadImage at)))
  pub reads : OnlyReading mid new
  pub calls : AtMostCalls (2 * (shape_of mid).block_pages) mid new

-- the inner board holds its pages, and they have a table of this shape, which is allowed
pub record HoldsOuter (spares : ℕ) (shape : Shape) (inner : BoardState) : Type 0 where
  pub shape_is : inner.shape ≡ Some (inner_shape shape spares)
  pub allowed : IsOk (checked shape)
  pub has_table : newest_table shape spares (page_at inner.pages) ≢ None

-- the board with the pages that the inner pages show
abbrev pub shown_over : ℕ → Shape → BoardState → BoardState → BoardState
shown_over spares shape inner old = record old { shape = Some shape; bare = false; pages = outer_pages shape spares inner.pages; bad = None }

-- before its first call, if the image of the inner board was opened already
abbrev pub loaded_remap : ℕ → ℕ → Shape → BoardState → BoardState
loaded_remap log spares shape inner = shown_over spares shape inner (fresh_remap log inner)

-- A load over an inner board that holds an outer flash: it answers with its shape and shows its pages, or a read failed or memory was missing.
abbrev pub OpensOuter : ℕ → Shape → BoardState → BoardState → Result (Option Shape) LoadFault → BoardState → Type 0
OpensOuter spares shape inner old (Ok found) new = (found ≡ Some shape) × (new ≡ shown_over spares shape inner old)
OpensOuter spares shape inner old (Err Fault) new = ⊤
OpensOuter spares shape inner old (Err (BadImage at)) new = ⊥
OpensOuter spares shape inner old (Err Memory) new = ⊤

-- ---- make

-- A make of the inner flash, and after it the programs of the first table: at each cut of these there is no table, or the outer flash has all
-- pages Erased. Or the inner flash was not made, or no call was made of it.
pub data MakesInner (spares : ℕ) (shape : Shape) (old new : BoardState) : Type 0 where
  no_call_made : new ≡ old → MakesInner spares shape old new
  inner_not_made : MakeFailed old new → MakesInner spares shape old new
  table_written : (made : BoardState) → Made old made (inner_shape shape spares) → PassesCalls (IsNoneOrErased shape spares) made new → MakesInner spares shape old new
