-- A value that was written at pages that were found for it.
use Rattle.std.proofs.Common.{◌≡◌, ℕ, ◌+◌, ◌-◌, ◌≤◌, cond, T, List, length, Option, Some, sym, ap, subst, ◌∙◌, arith}
use Rattle.std.specs.FinMap.Entries.{put, find, is_sorted, is_sorted-put, find-put}
use Rattle.std.{specs.Ordering.is_eq, specs.Cmp.tied_itself}
use Rattle.pk_base.{specs.Key.Key, specs.Key.key_cmp, specs.Shape.Shape, specs.Shape.charge, specs.Shape.greatest, specs.Entry.Place}
use Rattle.pk_base.specs.Page.{Flash}
use Rattle.pk_pool.specs.Blocks.{Blocks}
use Rattle.pk_values.{specs.declared.span.Span.Span, specs.State.ValuesState, specs.State.next_page, specs.Placed.ValuesOnFlash}
use Rattle.pk_values.{specs.Reserving.IsReserved, specs.Reserving.IsFreeOf, specs.Entries.ValueMoves, specs.Entries.IsInOpen, specs.Entries.span_if_some}

-- then a key may have it
module _ (shape : Shape) (before d : ValuesState) (pool : Blocks) (outputs : List ℕ) (earlier flash : Flash) (es : List (Key × Place)) (key : Key) (value : List ℕ) (page count : ℕ) (old : Option Span)
    (reserved : IsReserved shape before pool earlier page count) (count_is : count ≡ charge shape (length value)) (short : length value ≤ greatest shape)
    (placed : ValuesOnFlash shape d pool outputs flash es) (rising : T (is_sorted key_cmp es)) (old_is : span_if_some shape (find key_cmp key es) ≡ old)
    (free : IsFreeOf shape es page count) (in_open : IsInOpen shape d (next_page shape before) count) where
  abbrev pub place_of : Place
  place_of = record { page = page; len = length value }

  pub here : IsInOpen shape d page (charge shape (length value))
  here = subst (λ (n : ℕ). IsInOpen shape d page n) count_is (subst (λ (p : ℕ). IsInOpen shape d p count) (sym reserved.next) in_open)

  abbrev pub moves : ValueMoves d old (record { page = page; count = count })
  moves = record {
    shape = shape;
    pool = pool;
    outputs = outputs;
    flash = flash;
    es = es;
    key = key;
    place = place_of;
    placed = placed;
    rising = rising;
    old_is = old_is;
    new_is = ap (λ (n : ℕ). record { page = page; count = n }) (sym count_is);
    even = reserved.even;
    short = short;
    in_open = here;
    free = λ k is there. free k is.0 (omega (arith, is.1, count_is)) there;
  }
