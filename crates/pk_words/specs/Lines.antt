-- The lines that the words say.
use Rattle.std.specs.Prelude.{ℕ, ◌+◌, ◌==◌, if◌then◌else◌, List, [], ◌∷◌, ◌++◌, flat_map, codes, Option, Some, None}
use Rattle.pk_base.{specs.Key.Key, specs.Key.bytes_of, specs.Fields.u32_at}
use Rattle.pk_nvme.specs.Text.{number_text, hex_text, bytes_text}
use Rattle.pk_nvme.specs.declared.status.TheConstants.{SUCCESSFUL_COMPLETION, KEY_DOES_NOT_EXIST, UNRECOVERED_ERROR}

-- a command was refused with this status, in two hexadecimal digits
abbrev pub refused_line : ℕ → List ℕ
refused_line status = codes "refused " ++ hex_text (status ∷ []) ++ codes "\n"

-- a read failed
abbrev pub failed_line : List ℕ
failed_line = refused_line UNRECOVERED_ERROR

-- how a command was answered
abbrev pub status_line : ℕ → List ℕ
status_line status = if status == SUCCESSFUL_COMPLETION then codes "ok\n" else refused_line status

-- the value of a key, or that the key is missing
abbrev pub value_line : Option (List ℕ) → List ℕ
value_line None = refused_line KEY_DOES_NOT_EXIST
value_line (Some value) = codes "ok " ++ bytes_text value ++ codes "\n"

-- one line for each key
abbrev pub key_line : Key → List ℕ
key_line key = hex_text (bytes_of key) ++ codes "\n"

abbrev pub key_lines : List Key → List ℕ
key_lines = flat_map key_line

-- a number with its name
abbrev pub number_line : List ℕ → ℕ → List ℕ
number_line name n = name ++ codes " " ++ number_text n ++ codes "\n"

-- the names of the numbers of a Report, in its order
unfoldable pub report_names : List (List ℕ)
report_names =
    codes "live" ∷ codes "limit" ∷ codes "keys" ∷ codes "pinned" ∷ codes "frames" ∷ codes "leased" ∷ codes "active" ∷ codes "frozen" ∷ codes "run1" ∷ codes "run2"
    ∷ codes "run3" ∷ codes "run4" ∷ codes "epoch" ∷ codes "blocks" ∷ codes "ready" ∷ codes "merge" ∷ []

-- a line for each name, with the numbers of four bytes each that begin at a place
abbrev pub number_lines : List (List ℕ) → List ℕ → ℕ → List ℕ
number_lines [] numbers at = []
number_lines (name ∷ names) numbers at = number_line name (u32_at numbers at) ++ number_lines names numbers (at + 4)

-- the sixteen lines of a Report
abbrev pub report_lines : List ℕ → List ℕ
report_lines numbers = number_lines report_names numbers 0
