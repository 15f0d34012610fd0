-- What the slots of a board over a file mean.
use Rattle.std.specs.Prelude.{◌≡◌, ◌⊎◌, ℕ, ◌+◌, ◌<◌, ◌≤◌, List, length, map}
use Rattle.pk_image.specs.declared.tag.TheConstants.{ERASED, WHOLE, TORN}
use Rattle.pk_base.{specs.Shape.Shape, specs.Page.Page, specs.Page.Flash, specs.Page.erased, specs.Page.whole, specs.Page.torn, specs.Page.page_at, specs.Page.IsPage}
use Rattle.pk_file.{specs.declared.slot.Slot.Slot, specs.declared.slot.Slot.TheVariants.Erased, specs.declared.slot.Slot.TheVariants.Whole, specs.declared.slot.Slot.TheVariants.Torn}
use Rattle.pk_file.specs.Trims.{bytes_in}

abbrev pub slot_page : Slot → Page
slot_page (Erased extent) = erased
slot_page (Whole kept) = whole (bytes_in kept)
slot_page (Torn extent) = torn

abbrev pub pages_of : List Slot → Flash
pages_of slots = map slot_page slots

-- the byte that says the state of a page in an image file
abbrev pub byte_by : Slot → ℕ
byte_by (Erased extent) = ERASED
byte_by (Whole kept) = WHOLE
byte_by (Torn extent) = TORN

-- the state bytes of slots
abbrev pub state_bytes : List Slot → List ℕ
state_bytes slots = map byte_by slots

-- a Whole slot has the bytes of a page
abbrev pub SlotFits : Shape → Slot → Type 0
SlotFits shape slot = (bytes : List ℕ) → slot_page slot ≡ whole bytes → IsPage shape bytes

-- each Whole one of them has the bytes of a page
abbrev pub AllFit : Shape → List Slot → Type 0
AllFit shape slots = (at : ℕ) (bytes : List ℕ) → page_at (pages_of slots) at ≡ whole bytes → IsPage shape bytes

-- pages from one on became Erased, and the others are unchanged
pub record ErasedRow (first count : ℕ) (old new : Flash) : Type 0 where
  pub same_size : length new ≡ length old
  pub inside : (k : ℕ) → first ≤ k → k < first + count → page_at new k ≡ erased
  pub outside : (k : ℕ) → (k < first) ⊎ (first + count ≤ k) → page_at new k ≡ page_at old k
