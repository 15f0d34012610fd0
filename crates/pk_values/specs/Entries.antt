-- A key gets a value at another place, or has one no more.
use Rattle.std.specs.Prelude.{◌≡◌, ℕ, ◌+◌, ◌*◌, ◌%◌, ◌≤◌, List, Option, Some, None, MatchOption, T, slice_set}
use Rattle.std.specs.FinMap.Entries.{find, is_sorted}
use Rattle.pk_base.{specs.Key.Key, specs.Key.key_cmp, specs.Shape.Shape, specs.Shape.charge, specs.Shape.greatest, specs.Page.Flash, specs.Entry.Place}
use Rattle.pk_pool.specs.Blocks.{Blocks}
use Rattle.pk_model.specs.Laws.{IsPageOf}
use Rattle.pk_law_steps.specs.Under.{IsValuePage}
use Rattle.pk_values.{specs.declared.span.Span.Span, specs.State.ValuesState, specs.Placed.ValuesOnFlash}

-- these pages are in the part of the open block that is written
abbrev pub IsInOpen : Shape → ValuesState → ℕ → ℕ → Type 0
IsInOpen shape d page count = MatchOption d.open_block ⊥ (λ o. (o.block * shape.block_pages ≤ page) × (page + count ≤ o.block * shape.block_pages + o.used))

-- the pages of a value
abbrev pub span_of : Shape → Place → Span
span_of shape place = record { page = place.page; count = charge shape place.len }

abbrev pub span_if_some : Shape → Option Place → Option Span
span_if_some shape None = None
span_if_some shape (Some place) = Some (span_of shape place)

-- the heads of values without that of these pages, if there is one
abbrev pub heads_without : Option Span → List ℕ → List ℕ
heads_without None heads = heads
heads_without (Some span) heads = slice_set heads span.page 0

-- The value of a key has these pages.
pub record ValueHeld (d : ValuesState) (span : Span) : Type 0 where
  pub shape : Shape
  pub pool : Blocks
  pub outputs : List ℕ
  pub flash : Flash
  pub es : List (Key × Place)
  pub key : Key
  pub place : Place
  pub placed : ValuesOnFlash shape d pool outputs flash es
  pub rising : T (is_sorted key_cmp es)
  pub found : find key_cmp key es ≡ Some place
  pub span_is : span_of shape place ≡ span

-- A key is to have its value at the pages of new, from an even one on, which were written into the open block and belong to no value. Until now it had
-- those of old, or none.
pub record ValueMoves (d : ValuesState) (old : Option Span) (new : Span) : Type 0 where
  pub shape : Shape
  pub pool : Blocks
  pub outputs : List ℕ
  pub flash : Flash
  pub es : List (Key × Place)
  pub key : Key
  pub place : Place
  pub placed : ValuesOnFlash shape d pool outputs flash es
  pub rising : T (is_sorted key_cmp es)
  pub old_is : span_if_some shape (find key_cmp key es) ≡ old
  pub new_is : span_of shape place ≡ new
  pub even : place.page % 2 ≡ 0
  pub short : place.len ≤ greatest shape
  pub in_open : IsInOpen shape d place.page (charge shape place.len)
  pub free : (k : ℕ) → IsPageOf shape k place → IsValuePage shape es k → ⊥
