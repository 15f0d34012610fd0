-- Slots as the pages of a flash.
use Rattle.std.proofs.Common.{◌≡◌, ℕ, zero, suc, ◌+◌, ◌<◌, List, [], ◌∷◌, ◌++◌, length, take, drop, get_or, replicate, slice_set, refl, sym, ap, subst, ◌∙◌, arith, Option, Some, None, true}
use Rattle.std.{specs.Prelude.nat_le, proofs.lemmas.Bool.Decides.nat_tests, proofs.lemmas.List.length-map, proofs.lemmas.List.drop_more, proofs.lemmas.List.take_more}
use Rattle.pk_base.{specs.Shape.Shape, specs.Shape.page_count, specs.Page.Flash, specs.Page.page_at, specs.Page.erased, specs.Page.whole, specs.Page.IsFlash}
use Rattle.pk_nand.specs.BoardState.{shape_or_none}
use Rattle.pk_image.specs.Image.{bad_state}
use Rattle.pk_file.{specs.declared.slot.Slot.Slot, specs.declared.slot.Slot.TheVariants.Erased, specs.declared.slot.Slot.TheVariants.Whole, specs.declared.slot.Slot.TheVariants.Torn}
use Rattle.pk_file.specs.Slots.{slot_page, pages_of, byte_by, state_bytes, SlotFits, AllFit}
use Rattle.pk_file.specs.Extents.{extent_of, extents_of}

-- slots of the right number and size are the pages of a flash
pub flash_of : (shape : Shape) (slots : List Slot) → length slots ≡ page_count shape → AllFit shape slots → IsFlash shape (pages_of slots)
flash_of shape slots count fit = record { size = length-map slots slot_page ∙ count; full = fit }

-- a page that is read fits into a buffer of a page
pub room_for : (slots : List Slot) (at n : ℕ) (bytes : List ℕ) → (shape : Shape) × (n ≡ shape.page_bytes) × AllFit shape slots → page_at (pages_of slots) at ≡ whole bytes → n ≡ length bytes
room_for slots at n bytes full is = full.1 ∙ sym ((full.2 at bytes is).0)

-- the next state byte is one
pub states_next : (bytes : List ℕ) (i : ℕ) → i < length bytes → get_or bytes i 0 < 3 → bad_state (32 + i) (drop i bytes) ≡ bad_state (32 + (i + 1)) (drop (i + 1) bytes)
states_next bytes i h small =
    let test : nat_le (get_or bytes i 0) 2 ≡ true = grind (arith, nat_tests) in
    let next : (32 + i) + 1 ≡ 32 + (i + 1) = omega arith in
    ap (λ (bs : List ℕ). bad_state (32 + i) bs) (drop_more bytes i 0 h) ∙ rw test (ap (λ (at : ℕ). bad_state at (drop (i + 1) bytes)) next)

-- ---- slots that are written and added

pub erased_fits : (shape : Shape) (s : Slot) → slot_page s ≡ erased → SlotFits shape s
erased_fits shape s is bytes e = cc

none_whole : (n k : ℕ) (bytes : List ℕ) → page_at (replicate n erased) k ≡ whole bytes → ⊥
none_whole zero k bytes e = cc
none_whole (suc n) zero bytes e = cc
none_whole (suc n) (suc k) bytes e = none_whole n k bytes e

-- Erased slots fit
pub erased_fit : (shape : Shape) (slots : List Slot) (n : ℕ) → pages_of slots ≡ replicate n erased → AllFit shape slots
erased_fit shape slots n all k bytes e = let P : Flash → Type 0 = λ f. page_at f k ≡ whole bytes in absurd (none_whole n k bytes (subst P all e))

-- the page at the place of a slot is its own
pub page_here : (slots : List Slot) (i : ℕ) (s : Slot) → i < length slots → s ≡ get_or slots i s → page_at (pages_of slots) i ≡ slot_page s
page_here [] i s inside is = absurd (omega (arith, inside))
page_here (x ∷ slots) zero s inside is = ap slot_page (sym is)
page_here (x ∷ slots) (suc i) s inside is = page_here slots i s (omega (arith, inside)) is

pub fit_set : (shape : Shape) (slots : List Slot) (i : ℕ) (s : Slot) → AllFit shape slots → SlotFits shape s → AllFit shape (slice_set slots i s)
fit_set shape [] i s fit own k bytes e = fit k bytes e
fit_set shape (x ∷ slots) zero s fit own zero bytes e = own bytes e
fit_set shape (x ∷ slots) zero s fit own (suc k) bytes e = fit (suc k) bytes e
fit_set shape (x ∷ slots) (suc i) s fit own zero bytes e = fit zero bytes e
fit_set shape (x ∷ slots) (suc i) s fit own (suc k) bytes e = fit_set shape slots i s (λ j b h. fit (suc j) b h) own k bytes e

pub fit_more : (shape : Shape) (slots : List Slot) (s : Slot) → AllFit shape slots → SlotFits shape s → AllFit shape (slots ++ s ∷ [])
fit_more shape [] s fit own zero bytes e = own bytes e
fit_more shape [] s fit own (suc k) bytes e = cc
fit_more shape (x ∷ slots) s fit own zero bytes e = fit zero bytes e
fit_more shape (x ∷ slots) s fit own (suc k) bytes e = fit_more shape slots s (λ j b h. fit (suc j) b h) own k bytes e

bytes_pushed : (slots : List Slot) (s : Slot) → state_bytes (slots ++ s ∷ []) ≡ state_bytes slots ++ byte_by s ∷ []
bytes_pushed [] s = refl
bytes_pushed (x ∷ slots) s = ap (λ (l : List ℕ). byte_by x ∷ l) (bytes_pushed slots s)

pub bytes_more : (slots : List Slot) (s : Slot) (states : List ℕ) (i : ℕ) → i < length states
    → state_bytes slots ≡ take i states → byte_by s ≡ get_or states i 0 → state_bytes (slots ++ s ∷ []) ≡ take (i + 1) states
bytes_more slots s states i h before own = bytes_pushed slots s ∙ (λ j. before j ++ own j ∷ []) ∙ sym (take_more states i 0 h)

pub byte_small : (s : Slot) (byte : ℕ) → byte_by s ≡ byte → byte < 3
byte_small (Erased extent) byte e = omega (arith, e)
byte_small (Whole kept) byte e = omega (arith, e)
byte_small (Torn extent) byte e = omega (arith, e)

-- the slots of a board with a shape are its flash
pub ready_flash : (o : Option Shape) (slots : List Slot) → length slots ≡ page_count (shape_or_none o) → AllFit (shape_or_none o) slots → (s : Shape) → o ≡ Some s → IsFlash s (pages_of slots)
ready_flash None slots count fit s e = cc
ready_flash (Some t) slots count fit s e = let same : t ≡ s = cc in subst (λ (x : Shape). IsFlash x (pages_of slots)) same (flash_of t slots count fit)

-- a slot that gets the extent that it has
pub same_extent : (slots : List Slot) (i : ℕ) (s : Slot) → i < length slots → s ≡ get_or slots i s → (extent : ℕ) → extent ≡ extent_of s → slice_set (extents_of slots) i extent ≡ extents_of slots
same_extent [] i s inside is extent own = absurd (omega (arith, inside))
same_extent (x ∷ slots) zero s inside is extent own = ap (λ (n : ℕ). n ∷ extents_of slots) (own ∙ ap extent_of is)
same_extent (x ∷ slots) (suc i) s inside is extent own = ap (λ (l : List ℕ). extent_of x ∷ l) (same_extent slots i s (omega (arith, inside)) is extent own)
