-- How many calls of its inner flash a call of a flash with spare blocks makes.
use Rattle.std.specs.Prelude.{◌≡◌, ◌⊎◌, ℕ, zero, suc, ◌+◌, ◌*◌, ◌≤◌, Bool, true, false}
use Rattle.pk_base.specs.Shape.{Shape}
use Rattle.pk_nand.{specs.BoardState.BoardState, specs.Calls.Rose}
use Rattle.pk_remap.{specs.declared.image.Image.Image, specs.Stepping.OneCall, specs.Remapped.is_sure, specs.Running.steps_of_spare}

-- n calls one after another, each done or failed
abbrev pub CallsMade : ℕ → BoardState → BoardState → Type 0
CallsMade zero old new = new ≡ old
CallsMade (suc n) old new = (mid : BoardState) × CallsMade n old mid × OneCall mid new

-- at most n calls
abbrev pub AtMostCalls : ℕ → BoardState → BoardState → Type 0
AtMostCalls n old new = (k : ℕ) × (k ≤ n) × CallsMade k old new

-- The search for the newest table reads each page of the two table blocks. It is made if that table may not be in memory.
abbrev pub search_calls : Bool → Shape → ℕ
search_calls false shape = 2 * shape.block_pages
search_calls true shape = 0

abbrev pub find_calls : Image → Shape → ℕ
find_calls image shape = search_calls (is_sure image) shape

-- the most calls of a relocation, if so many spares are left: each may fail, up to the last
abbrev pub relocation_calls : Shape → ℕ → ℕ
relocation_calls shape left = left * steps_of_spare shape.block_pages

-- At most n calls; or a program or an erase failed, and then at most so many more.
abbrev pub CallsUnlessMoved : ℕ → ℕ → BoardState → BoardState → Type 0
CallsUnlessMoved n more old new = AtMostCalls n old new ⊎ (Rose old.stop_faults new.stop_faults × AtMostCalls (n + more) old new)
