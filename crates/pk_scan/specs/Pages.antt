-- The pages of a value one by one: which of them the reading of a flash accepts.
use Rattle.std.specs.Prelude.{ℕ, zero, suc, ◌+◌, ◌-◌, ◌*◌, List, [], drop, Bool, false, ◌&&◌, ◌==◌, nat_eq}
use Rattle.std.specs.List.{list_all, starts_with}
use Rattle.pk_base.{specs.declared.sizes.TheConstants.HEAD_BYTES, specs.Key.Key, specs.Shape.Shape, specs.Entry.Place, specs.Page.Page, specs.Page.erased, specs.Page.whole, specs.Page.torn}
use Rattle.pk_segfmt.specs.Value.{head_bytes}

-- the bytes with which page i of a value has to begin: its head, and none after the first page
abbrev pub front_of : List ℕ → ℕ → List ℕ
front_of head zero = head
front_of head (suc i) = []

-- the bytes begin with `front`, and zeros follow the first `left` of them
abbrev pub fits_page : List ℕ → ℕ → List ℕ → Bool
fits_page front left bytes = starts_with nat_eq bytes front && list_all (λ b. b == 0) (drop left bytes)

-- a whole page, and its bytes fit
abbrev pub passes : List ℕ → ℕ → Page → Bool
passes front left erased = false
passes front left torn = false
passes front left (whole bytes) = fits_page front left bytes

-- the bytes that remain for page i of a value and the pages after it
abbrev pub left_at : Shape → ℕ → ℕ → ℕ
left_at shape len i = HEAD_BYTES + len - i * shape.page_bytes

-- page i of the value of this key is right
abbrev pub is_right : Shape → (ℕ → Page) → Key → Place → ℕ → Bool
is_right shape at key place i = passes (front_of (head_bytes key place.len) i) (left_at shape place.len i) (at (place.page + i))
