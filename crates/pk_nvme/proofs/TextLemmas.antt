-- Digits of bytes one piece after another.
use Rattle.std.proofs.Common.{◌≡◌, ℕ, ◌+◌, ◌*◌, ◌<◌, ◌≤◌, ◌/◌, ◌%◌, ◌^◌, List, [], ◌∷◌, ◌++◌, length, take, get_or, slice_index, refl, sym, ap, ◌∙◌, arith}
use Rattle.std.proofs.lemmas.List.{append_assoc, append-nil, length-append, length-take-le, take_more}
use Rattle.std.proofs.lemmas.Fmt.{decimal_nonempty, length-decimal-le}
use Rattle.hex.{specs.Hex.encode_with, specs.Hex.lower_digits, proofs.HexLemmas.length-encode_with}
use Rattle.pk_nvme.{specs.Bytes.RoomyList, specs.Text.number_text, specs.Text.hex_text}

encode_with-append : (t xs ys : List ℕ) → encode_with t (xs ++ ys) ≡ encode_with t xs ++ encode_with t ys
unfolding encode_with
encode_with-append t [] ys = refl
encode_with-append t (x ∷ xs) ys = ap (λ (r : List ℕ). slice_index t (x / 16) ∷ slice_index t (x % 16) ∷ r) (encode_with-append t xs ys)

-- the digits of two pieces
pub hex_text-append : (xs ys : List ℕ) → hex_text (xs ++ ys) ≡ hex_text xs ++ hex_text ys
hex_text-append xs ys = encode_with-append lower_digits xs ys

pub length-hex_text : (xs : List ℕ) → length (hex_text xs) ≡ 2 * length xs
length-hex_text xs = length-encode_with lower_digits xs

-- the digits of one byte more
pub hex_text_more : (xs : List ℕ) (i : ℕ) → i < length xs → hex_text (take i xs) ++ hex_text (get_or xs i 0 ∷ []) ≡ hex_text (take (i + 1) xs)
hex_text_more xs i h = sym (hex_text-append (take i xs) (get_or xs i 0 ∷ [])) ∙ ap hex_text (sym (take_more xs i 0 h))

pub no_digits : (text : RoomyList) → text ≡ record text { items = text.items ++ hex_text [] }
unfolding encode_with
no_digits text = ap (λ (xs : List ℕ). record text { items = xs }) (sym (append-nil text.items))

-- one byte more has room for its digits
pub digits_fit : (old now : RoomyList) (bytes digits : List ℕ) (i x : ℕ) → length old.items + 2 * length bytes ≤ old.room → i < length bytes
    → now ≡ record old { items = old.items ++ hex_text (take i bytes) } → digits ≡ hex_text (x ∷ []) → length now.items + length digits ≤ now.room
digits_fit old now bytes digits i x room h before is =
    let two : length digits ≡ 2 = ap length is ∙ length-hex_text (x ∷ []) in
    let so_far : length (hex_text (take i bytes)) ≡ 2 * i = length-hex_text (take i bytes) ∙ ap (λ (n : ℕ). 2 * n) (length-take-le i bytes (omega arith)) in
    let len : length now.items ≡ length old.items + 2 * i = ap (λ (r : RoomyList). length r.items) before
    ∙ length-append old.items (hex_text (take i bytes)) ∙ ap (λ (n : ℕ). length old.items + n) so_far in
    let same : now.room ≡ old.room = ap (λ (r : RoomyList). r.room) before in
    omega arith

-- one byte more is written
pub digits_written : (old now new : RoomyList) (bytes digits : List ℕ) (i : ℕ) → i < length bytes
    → now ≡ record old { items = old.items ++ hex_text (take i bytes) } → digits ≡ hex_text (get_or bytes i 0 ∷ []) → new ≡ record now { items = now.items ++ digits }
    → new ≡ record old { items = old.items ++ hex_text (take (i + 1) bytes) }
digits_written old now new bytes digits i h before is extended =
    extended ∙ ap (λ (r : RoomyList). record r { items = r.items ++ digits }) before
    ∙ ap (λ (xs : List ℕ). record old { items = xs })
    (append_assoc old.items (hex_text (take i bytes)) digits
    ∙ ap (λ (xs : List ℕ). old.items ++ xs) (ap (λ (xs : List ℕ). hex_text (take i bytes) ++ xs) is ∙ hex_text_more bytes i h))

-- the digits of a number of 32 bits
pub number_text_short : (n : ℕ) → n < 2 ^ 32 → (0 < length (number_text n)) × (length (number_text n) ≤ 10)
number_text_short n h = (decimal_nonempty n (omega (arith, h)), length-decimal-le 10 n (omega arith) (omega (arith, h)) (omega (arith, h)))

-- what is appended to a text takes so much of its room
pub appended : (old new : RoomyList) (xs : List ℕ) → new ≡ record old { items = old.items ++ xs } → (length new.items ≡ length old.items + length xs) × (new.room ≡ old.room)
appended old new xs e = (ap (λ (r : RoomyList). length r.items) e ∙ length-append old.items xs, ap (λ (r : RoomyList). r.room) e)
