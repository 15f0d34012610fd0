-- The first field of a list of bytes that is wrong.
use Rattle.std.specs.Prelude.{◌≡◌, ℕ, ◌+◌, List, [], ◌∷◌, slice_index, Bool, ◌==◌, if◌then◌else◌, Option, Some, None, Result, Ok, Err}
use Rattle.pk_base.{specs.Choices.or_else, specs.declared.fields.Wrong.Wrong, specs.Fields.field, specs.Fields.number_at}

abbrev pub u64_at : List ℕ → ℕ → ℕ
u64_at bytes at = number_at 8 at bytes

-- the first place from `at` on where the bytes are not the expected ones
abbrev pub differs : ℕ → List ℕ → List ℕ → Option ℕ
differs at [] bytes = None
differs at (x ∷ xs) bytes = if slice_index bytes at == x then differs (at + 1) xs bytes else Some at

-- the place of a field of bytes that are expected, unless they are there
abbrev pub unlike : ℕ → List ℕ → List ℕ → Option ℕ
unlike at xs bytes = field at (differs at xs bytes)

-- the place, unless the test of its field passes
abbrev pub unless : ℕ → Bool → Option ℕ
unless at passes = if passes then None else Some at

-- the first fault of several, as of the fields of a table from its top
abbrev pub first_fault : List (Option ℕ) → Option ℕ
first_fault [] = None
first_fault (fault ∷ faults) = or_else fault (first_fault faults)

-- what a check of some fields answered: no fault, or the place of the first wrong field
abbrev pub Finds : {X : Type 0} → Result X Wrong → Option ℕ → Type 0
Finds (Ok x) fault = fault ≡ None
Finds (Err wrong) fault = fault ≡ Some wrong.at
