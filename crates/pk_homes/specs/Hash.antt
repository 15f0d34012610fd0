-- The hash of a key: a number below 2 ^ 64, from its bytes and from those of an entry.
use Rattle.std.specs.Prelude.{ℕ, ◌+◌, ◌*◌, ◌/◌, ◌%◌, ◌^◌, List, slice_index}
use Rattle.pk_base.{specs.Key.Key, specs.Key.space_of, specs.Key.bytes_of, specs.Fields.number_at}
use Rattle.pk_homes.specs.declared.hashing.TheConstants.{FIRST_FACTOR, LAST_FACTOR, SPACE_FACTOR}
use Rattle.pk_homes.specs.declared.table.TheConstants.{HALF}

-- a sum whose high half is added to it, multiplied
unfoldable pub folded : ℕ → ℕ
folded sum = (sum / HALF + sum) % 2 ^ 64 * FIRST_FACTOR % 2 ^ 64

-- three numbers mixed into one
unfoldable pub mixed : ℕ → ℕ → ℕ → ℕ
mixed space first last = folded (((first * FIRST_FACTOR % 2 ^ 64 + last * LAST_FACTOR % 2 ^ 64) % 2 ^ 64 + space * SPACE_FACTOR % 2 ^ 64) % 2 ^ 64)

-- the hash of a key: of its namespace, of its first eight bytes and of the others, where a missing byte counts as 0
abbrev pub hash_of : Key → ℕ
hash_of key = mixed (space_of key) (number_at 8 0 (bytes_of key)) (number_at 8 8 (bytes_of key))

-- the hash of the key in the bytes of an entry
abbrev pub hash_of_cell : List ℕ → ℕ
hash_of_cell cell = mixed (slice_index cell 2 + 1) (number_at 8 4 cell) (number_at 8 12 cell)
