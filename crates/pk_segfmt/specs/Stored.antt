-- The pages of a value, each by its number, and a flash that has them.
use Rattle.std.specs.Prelude.{◌≡◌, ℕ, ◌+◌, ◌*◌, ◌<◌, List, length, take, drop, Ok}
use Rattle.pk_base.{specs.declared.sizes.TheConstants.HEAD_BYTES, specs.Key.Key, specs.Shape.Shape, specs.Shape.IsShape, specs.Shape.charge, specs.Entry.Place, specs.Page.Page, specs.Page.whole}
use Rattle.pk_segfmt.{specs.Value.head_bytes, specs.Value.value_bytes, specs.Value.value_at, specs.Head.IsHead}

-- page i of a value
unfoldable pub page_of : Shape → Key → List ℕ → ℕ → List ℕ
page_of shape key value i = take shape.page_bytes (drop (i * shape.page_bytes) (value_bytes shape key value))

-- the pages of this value are there one after another from a page on
abbrev pub IsStored : Shape → (ℕ → Page) → Key → ℕ → List ℕ → Type 0
IsStored shape at key page value = (i : ℕ) → i < charge shape (length value) → at (page + i) ≡ whole (page_of shape key value i)

-- whole pages have the page's size
abbrev pub AreFull : Shape → (ℕ → Page) → Type 0
AreFull shape at = (page : ℕ) (bytes : List ℕ) → at page ≡ whole bytes → length bytes ≡ shape.page_bytes

-- if the pages of a value are there, the reading of a flash finds the value
abbrev pub ValueReadsBack : Type 0
ValueReadsBack =
    (shape : Shape) (at : ℕ → Page) (key : Key) (page : ℕ) (value : List ℕ) → IsShape shape → IsHead shape key (length value) → IsStored shape at key page value
    → value_at shape at key (record { page = page; len = length value }) ≡ Ok value

-- if the reading of a flash finds a value, its pages are there
abbrev pub StandsWhereRead : Type 0
StandsWhereRead =
    (shape : Shape) (at : ℕ → Page) (key : Key) (place : Place) (value : List ℕ) → IsShape shape → IsHead shape key place.len → AreFull shape at
    → value_at shape at key place ≡ Ok value → (length value ≡ place.len) × IsStored shape at key place.page value

-- the first page of a value begins with its head
abbrev pub BeginsWithHead : Type 0
BeginsWithHead = (shape : Shape) (key : Key) (value : List ℕ) → IsShape shape → IsHead shape key (length value) → take HEAD_BYTES (page_of shape key value 0) ≡ head_bytes key (length value)
