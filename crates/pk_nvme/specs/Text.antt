-- Numbers and bytes as text.
use Rattle.std.specs.Prelude.{ℕ, ◌-◌, ◌^◌, ◌==◌, ◌&&◌, ◌||◌, not, nat_lt, Bool, if◌then◌else◌, List, [], ◌∷◌, ◌++◌, length, replicate, slice_index, Option, Some, None, codes, bytes_eq, decimal}
use Rattle.std.{specs.List.list_all, specs.Char.is_ascii_digit, specs.Result.result_ok, specs.Str.Parse.digits_value}
use Rattle.hex.specs.Hex.{encode_lower, decode_of}

-- a number as decimal digits, without a sign and without a leading zero
abbrev pub number_text : ℕ → List ℕ
number_text n = decimal n

-- a number as decimal digits, with zeros before them up to a size
abbrev pub padded_number : ℕ → ℕ → List ℕ
padded_number size n = replicate (size - length (decimal n)) 48 ++ decimal n

-- bytes as hexadecimal digits in lower case, two for each
abbrev pub hex_text : List ℕ → List ℕ
hex_text bytes = encode_lower bytes

-- the same, and `-` for no byte
abbrev pub bytes_text : List ℕ → List ℕ
bytes_text [] = codes "-"
bytes_text (byte ∷ bytes) = hex_text (byte ∷ bytes)

-- decimal digits without a sign, and without a leading zero but in `0` itself
abbrev pub is_number : List ℕ → Bool
is_number text = nat_lt 0 (length text) && list_all is_ascii_digit text && (length text == 1 || not (slice_index text 0 == 48))

-- the number below 2 ^ 32 that a text is
abbrev pub number_of : List ℕ → Option ℕ
number_of text = if is_number text && nat_lt (digits_value 10 text) (2 ^ 32) then Some (digits_value 10 text) else None

-- the bytes that a text of one byte or more in hexadecimal digits of either case is
abbrev pub some_bytes_of : List ℕ → Option (List ℕ)
some_bytes_of text = if length text == 0 then None else result_ok (decode_of text)

-- the same, and no byte for `-`
abbrev pub bytes_of : List ℕ → Option (List ℕ)
bytes_of text = if bytes_eq text (codes "-") then Some [] else some_bytes_of text
