-- The words of a line of a text script.
use Rattle.std.specs.Prelude.{ℕ, ◌*◌, ◌==◌, nat_le, if◌then◌else◌, List, ◌∷◌, length, Option, None, option_map}
use Rattle.std.specs.List.{slice_split}
use Rattle.pk_base.{specs.declared.sizes.TheConstants.KEY_BYTES, specs.Key.Key}
use Rattle.pk_nvme.{specs.declared.limits.TheConstants.NAMESPACE, specs.declared.sizes.TheConstants.SUBMISSION_BYTES, specs.Text.some_bytes_of}

-- what is between two words
abbrev pub blank : ℕ
blank = 32

-- the words of a line, divided by single blanks
abbrev pub words : List ℕ → List (List ℕ)
words line = slice_split (λ byte. byte == blank) line

-- the key, in namespace 1, that a word of hexadecimal digits is, two for each byte
abbrev pub key_of : List ℕ → Option Key
key_of word = if nat_le (length word) (2 * KEY_BYTES) then option_map (λ bytes. NAMESPACE ∷ bytes) (some_bytes_of word) else None

-- the entry that a word of hexadecimal digits is, two for each byte
abbrev pub hex_entry : List ℕ → Option (List ℕ)
hex_entry word = if length word == 2 * SUBMISSION_BYTES then some_bytes_of word else None
