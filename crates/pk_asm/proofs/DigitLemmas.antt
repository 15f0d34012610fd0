-- Words of digits, a digit or a pair of digits at a time.
use Rattle.std.proofs.Common.{◌≡◌, ℕ, zero, suc, ◌+◌, ◌-◌, ◌*◌, ◌%◌, ◌^◌, ◌<◌, ◌≤◌, true, false, List, [], ◌∷◌, ◌++◌, length, take, drop, get_or, refl, sym, ap, ◌∙◌, arith, Option, Some, None, Result}
use Rattle.std.proofs.Common.{Ok, subst, length-append}
use Rattle.std.specs.Prelude.{option_map, nat_lt, if◌then◌else◌, is_some, unwrap_or, Bool, ◌&&◌, ◌==◌, bytes_eq, codes}
use Rattle.std.proofs.lemmas.List.{append_assoc, append-nil, drop_more, drop_all, take_all}
use Rattle.std.{specs.Char.is_ascii_digit, specs.Char.digit_value, specs.List.list_all, specs.Result.result_ok, specs.Str.Parse.digits_value, proofs.lemmas.Bool.and_parts}
use Rattle.std.{proofs.lemmas.Int.Digits.digits_value_more, proofs.lemmas.Str.Parse.digits_value-take-le, proofs.lemmas.Bool.Decides.nat_tests}
use Rattle.pk_nvme.{specs.Bytes.RoomyList, specs.Text.bytes_of, specs.Text.some_bytes_of}
use Rattle.hex.specs.Hex.{decode_of, decode_pairs, pair_value, digit_or_error, hex_digit_value, is_hex_digit, ◌>>=◌}
use Rattle.hex.{proofs.HexLemmas.decode_of-even, specs.declared.error.FromHexError.FromHexError}

-- ---- decimal digits

-- a decimal digit, and what it is worth
pub digit_bounds : (c : ℕ) → is_ascii_digit c ≡ true → (48 ≤ c) × (c ≤ 57)
digit_bounds c h = grind (arith, nat_tests)

pub digit_worth : (c : ℕ) → 48 ≤ c → c ≤ 57 → digit_value c ≡ c - 48
digit_worth c low high = grind (arith, nat_tests)

pub digit_at : (ds : List ℕ) (i : ℕ) → list_all is_ascii_digit ds ≡ true → i < length ds → (48 ≤ get_or ds i 0) × (get_or ds i 0 ≤ 57)
digit_at [] i h lt = absurd (omega arith)
digit_at (d ∷ ds) zero h lt = digit_bounds d (and_parts _ _ h).0
digit_at (d ∷ ds) (suc i) h lt = digit_at ds i (and_parts _ _ h).1 (omega arith)

-- one digit more
pub value_more : (ds : List ℕ) (i : ℕ) → list_all is_ascii_digit ds ≡ true → i < length ds
    → digits_value 10 (take (i + 1) ds) ≡ digits_value 10 (take i ds) * 10 + (get_or ds i 0 - 48)
value_more ds i h lt =
    let b = digit_at ds i h lt in
    digits_value_more 10 ds i lt ∙ ap (λ (v : ℕ). digits_value 10 (take i ds) * 10 + v) (digit_worth (get_or ds i 0) b.0 b.1)

-- digits that are too many are no number
pub too_large : (ds : List ℕ) (i : ℕ) → 2 ^ 32 ≤ digits_value 10 (take i ds)
    → (if nat_lt (digits_value 10 ds) (2 ^ 32) then Some (digits_value 10 ds) else None) ≡ None
too_large ds i h =
    let le = digits_value-take-le 10 ds i (omega arith) in
    let many : 2 ^ 32 ≤ digits_value 10 ds = omega arith in
    grind (arith, nat_tests)

pub small_enough : (ds : List ℕ) (i v : ℕ) → length ds ≤ i → v < 2 ^ 32 → v ≡ digits_value 10 (take i ds)
    → Some v ≡ (if nat_lt (digits_value 10 ds) (2 ^ 32) then Some (digits_value 10 ds) else None)
small_enough ds i v all small e =
    let whole : v ≡ digits_value 10 ds = e ∙ ap (λ (xs : List ℕ). digits_value 10 xs) (take_all i ds all) in
    grind (arith, nat_tests)

-- a step of a loop over digits
pub value_step : (ds : List ℕ) (i value more : ℕ) → list_all is_ascii_digit ds ≡ true → i < length ds → value ≡ digits_value 10 (take i ds)
    → more ≡ value * 10 + (get_or ds i 0 - 48) → more ≡ digits_value 10 (take (i + 1) ds)
value_step ds i value more digits lt e step =
    step ∙ ap (λ (v : ℕ). v * 10 + (get_or ds i 0 - 48)) e ∙ sym (value_more ds i digits lt)

pub value_stop : (ds : List ℕ) (i value : ℕ) → list_all is_ascii_digit ds ≡ true → i < length ds → value ≡ digits_value 10 (take i ds)
    → ¬ (value * 10 + (get_or ds i 0 - 48) < 2 ^ 32) → None ≡ (if nat_lt (digits_value 10 ds) (2 ^ 32) then Some (digits_value 10 ds) else None)
value_stop ds i value digits lt e large =
    let more = value_more ds i digits lt in
    let same : digits_value 10 (take (i + 1) ds) ≡ value * 10 + (get_or ds i 0 - 48) = more ∙ ap (λ (v : ℕ). v * 10 + (get_or ds i 0 - 48)) (sym e) in
    let many : 2 ^ 32 ≤ value * 10 + (get_or ds i 0 - 48) = omega arith in
    sym (too_large ds (i + 1) (omega arith))

-- ---- pairs of hexadecimal digits

-- the byte of the values of two digits
read_digit : Option ℕ → Option ℕ → Option ℕ
read_digit (Some high) (Some low) = Some (high * 16 + low)
read_digit high low = None

both_digits : (a b i j : ℕ) (x y : Option ℕ) → result_ok (digit_or_error a i x >>= (λ h. digit_or_error b j y >>= (λ l. Ok (h * 16 + l)))) ≡ read_digit x y
unfolding read_digit
both_digits a b i j (Some h) (Some l) = refl
both_digits a b i j x y = refl

pair_any : (a b i j : ℕ) → result_ok (pair_value a b i) ≡ result_ok (pair_value a b j)
pair_any a b i j = both_digits a b i (i + 1) (hex_digit_value a) (hex_digit_value b) ∙ sym (both_digits a b j (j + 1) (hex_digit_value a) (hex_digit_value b))

-- the byte before the bytes that follow it
abbrev pushed : Option ℕ → Option (List ℕ) → Option (List ℕ)
pushed (Some byte) (Some bytes) = Some (byte ∷ bytes)
pushed byte bytes = None

pushed_bytes : (r : Result ℕ FromHexError) (s : Result (List ℕ) FromHexError) → result_ok (r >>= (λ byte. s >>= (λ bytes. Ok (byte ∷ bytes)))) ≡ pushed (result_ok r) (result_ok s)
pushed_bytes (Ok byte) (Ok bytes) = refl
pushed_bytes r s = refl

-- the bytes of pairs of digits, if they are such; the place is used in errors alone
abbrev bytes_from : ℕ → List ℕ → Option (List ℕ)
bytes_from i xs = result_ok (decode_pairs i xs)

pairs_step : (i a b : ℕ) (rest : List ℕ) → bytes_from i (a ∷ b ∷ rest) ≡ pushed (result_ok (pair_value a b 0)) (bytes_from (i + 2) rest)
unfolding decode_pairs
pairs_step i a b rest =
    pushed_bytes (pair_value a b i) (decode_pairs (i + 2) rest)
    ∙ ap (λ (o : Option ℕ). pushed o (bytes_from (i + 2) rest)) (pair_any a b i 0)

pairs_none : (i : ℕ) → bytes_from i [] ≡ Some []
unfolding decode_pairs
pairs_none i = refl

pairs_any : (i j : ℕ) (xs : List ℕ) → bytes_from i xs ≡ bytes_from j xs
unfolding decode_pairs
pairs_any i j (a ∷ b ∷ rest) = pairs_step i a b rest ∙ ap (pushed (result_ok (pair_value a b 0))) (pairs_any (i + 2) (j + 2) rest) ∙ sym (pairs_step j a b rest)
pairs_any i j xs = refl

pair_step : (a b : ℕ) (rest : List ℕ) → bytes_from 0 (a ∷ b ∷ rest) ≡ pushed (result_ok (pair_value a b 0)) (bytes_from 0 rest)
pair_step a b rest = pairs_step 0 a b rest ∙ ap (pushed (result_ok (pair_value a b 0))) (pairs_any 2 0 rest)

pushed_some : (o : Option ℕ) (byte : ℕ) (rest : Option (List ℕ)) → o ≡ Some byte → pushed o rest ≡ option_map (λ r. byte ∷ [] ++ r) rest
pushed_some o byte (Some bytes) e = ap (λ (p : Option ℕ). pushed p (Some bytes)) e
pushed_some o byte None e = ap (λ (p : Option ℕ). pushed p None) e

option_map-nothing : (o : Option (List ℕ)) → o ≡ option_map (λ rest. [] ++ rest) o
option_map-nothing (Some xs) = refl
option_map-nothing None = refl

option_map-twice : (xs ys : List ℕ) (o : Option (List ℕ)) → option_map (λ rest. xs ++ rest) (option_map (λ rest. ys ++ rest) o) ≡ option_map (λ rest. (xs ++ ys) ++ rest) o
option_map-twice xs ys (Some zs) = ap Some (sym (append_assoc xs ys zs))
option_map-twice xs ys None = refl

-- the pair at a place, and what follows it
pair_at : (word : List ℕ) (i : ℕ) → 2 * i + 2 ≤ length word → drop (2 * i) word ≡ get_or word (2 * i) 0 ∷ get_or word (2 * i + 1) 0 ∷ drop (2 * (i + 1)) word
pair_at word i room =
    let end : 2 * i + 1 + 1 ≡ 2 * (i + 1) = omega arith in
    drop_more word (2 * i) 0 (omega arith) ∙ ap (λ (r : List ℕ). get_or word (2 * i) 0 ∷ r) (drop_more word (2 * i + 1) 0 (omega arith) ∙ ap (λ (n : ℕ). get_or word (2 * i + 1) 0 ∷ drop n word) end)

-- the value of a pair of digits in a word
abbrev pub byte_at : List ℕ → ℕ → Option ℕ
byte_at word i = result_ok (pair_value (get_or word (2 * i) 0) (get_or word (2 * i + 1) 0) 0)

bytes_at : (word : List ℕ) (i : ℕ) → 2 * i + 2 ≤ length word → bytes_from 0 (drop (2 * i) word) ≡ pushed (byte_at word i) (bytes_from 0 (drop (2 * (i + 1)) word))
bytes_at word i room = ap (bytes_from 0) (pair_at word i room) ∙ pair_step (get_or word (2 * i) 0) (get_or word (2 * i + 1) 0) (drop (2 * (i + 1)) word)

-- the same of a word of even length
even_bytes : (word : List ℕ) → length word % 2 ≡ 0 → result_ok (decode_of word) ≡ bytes_from 0 word
even_bytes word even = ap (λ (r : Result (List ℕ) FromHexError). result_ok r) (decode_of-even word even)

-- a list of bytes into which n pairs of a word were read
pub record IsDecoding (word : List ℕ) (i room : ℕ) (value : RoomyList) : Type 0 where
  pub count : length value.items ≡ i
  pub room_stays : value.room ≡ room
  pub decoded : bytes_from 0 word ≡ option_map (λ rest. value.items ++ rest) (bytes_from 0 (drop (2 * i) word))

pub decoding_none : (word : List ℕ) (room : ℕ) (value : RoomyList) → value.items ≡ [] → value.room ≡ room → IsDecoding word 0 room value
decoding_none word room value e same = record { count = ap length e; room_stays = same; decoded = rw e (option_map-nothing (bytes_from 0 word)) }

pub decoding_more : (word : List ℕ) (i room : ℕ) (value after : RoomyList) (byte : ℕ) → 2 * i + 2 ≤ length word → byte_at word i ≡ Some byte
    → after ≡ record value { items = value.items ++ byte ∷ [] } → IsDecoding word i room value → IsDecoding word (i + 1) room after
decoding_more word i room value after byte fits e change h =
    let tail : Option (List ℕ) = bytes_from 0 (drop (2 * (i + 1)) word) in
    let here : bytes_from 0 (drop (2 * i) word) ≡ option_map (λ r. byte ∷ [] ++ r) tail = bytes_at word i fits ∙ pushed_some (byte_at word i) byte tail e in
    subst (λ (v : RoomyList). IsDecoding word (i + 1) room v) (sym change) (record {
      count = omega (arith, length-append value.items (byte ∷ []), h.count);
      room_stays = h.room_stays;
      decoded = h.decoded ∙ ap (option_map (λ r. value.items ++ r)) here ∙ option_map-twice value.items (byte ∷ []) tail;
    })

-- at a pair that is none
pub decoding_stop : (word : List ℕ) (i room : ℕ) (value : RoomyList) → length word % 2 ≡ 0 → 2 * i + 2 ≤ length word → byte_at word i ≡ None
    → IsDecoding word i room value → false ≡ is_some (result_ok (decode_of word))
decoding_stop word i room value even fits e h =
    let here : bytes_from 0 (drop (2 * i) word) ≡ None = bytes_at word i fits ∙ ap (λ (o : Option ℕ). pushed o (bytes_from 0 (drop (2 * (i + 1)) word))) e in
    sym (ap (λ (o : Option (List ℕ)). is_some o) (even_bytes word even ∙ h.decoded ∙ ap (option_map (λ r. value.items ++ r)) here))

-- at the end
pub decoding_all : (word : List ℕ) (i room : ℕ) (value : RoomyList) → length word % 2 ≡ 0 → length word ≤ 2 * i → IsDecoding word i room value
    → result_ok (decode_of word) ≡ Some value.items
decoding_all word i room value even all h =
    even_bytes word even ∙ h.decoded ∙ ap (λ (xs : List ℕ). option_map (λ r. value.items ++ r) (bytes_from 0 xs)) (drop_all (2 * i) word all)
    ∙ ap (option_map (λ r. value.items ++ r)) (pairs_none 0) ∙ ap Some (append-nil value.items)

pub decoding_read : (word : List ℕ) (i room : ℕ) (value : RoomyList) → length word % 2 ≡ 0 → length word ≤ 2 * i → IsDecoding word i room value
    → true ≡ is_some (result_ok (decode_of word))
decoding_read word i room value even all h = sym (ap (λ (o : Option (List ℕ)). is_some o) (decoding_all word i room value even all h))

pub decoding_value : (word : List ℕ) (i : ℕ) (old value : RoomyList) → length word % 2 ≡ 0 → length word ≤ 2 * i → IsDecoding word i old.room value
    → value ≡ record old { items = unwrap_or (result_ok (decode_of word)) [] }
decoding_value word i old value even all h =
    let items : value.items ≡ unwrap_or (result_ok (decode_of word)) [] = sym (ap (λ (o : Option (List ℕ)). unwrap_or o []) (decoding_all word i old.room value even all h)) in
    ap (λ (xs : List ℕ). record value { items = xs }) items ∙ ap (λ (n : ℕ). record old { items = unwrap_or (result_ok (decode_of word)) []; room = n }) h.room_stays

-- ---- whether digits decode

one_decodes : (a b i j : ℕ) (x y : Option ℕ) (rest : Result (List ℕ) FromHexError)
    → is_some (result_ok ((digit_or_error a i x >>= (λ h. digit_or_error b j y >>= (λ l. Ok (h * 16 + l)))) >>= (λ byte. rest >>= (λ bytes. Ok (byte ∷ bytes)))))
    ≡ is_some x && (is_some y && is_some (result_ok rest))
one_decodes a b i j (Some h) (Some l) (Ok bytes) = refl
one_decodes a b i j x y rest = refl

pairs_decode : (i : ℕ) (text : List ℕ) → length text % 2 ≡ 0 → is_some (result_ok (decode_pairs i text)) ≡ list_all is_hex_digit text
unfolding decode_pairs
pairs_decode i [] even = refl
pairs_decode i (a ∷ []) even = absurd (omega arith)
pairs_decode i (a ∷ b ∷ rest) even =
    one_decodes a b i (i + 1) (hex_digit_value a) (hex_digit_value b) (decode_pairs (i + 2) rest)
    ∙ ap (λ (t : Bool). is_hex_digit a && (is_hex_digit b && t)) (pairs_decode (i + 2) rest (omega (arith, even)))

-- pairs of characters decode exactly if all are digits
pub digits_decode : (text : List ℕ) → length text % 2 ≡ 0 → is_some (result_ok (decode_of text)) ≡ list_all is_hex_digit text
digits_decode text even = ap (λ (r : Result (List ℕ) FromHexError). is_some (result_ok r)) (decode_of-even text even) ∙ pairs_decode 0 text even

-- a word of pairs of characters, other than `-`, is bytes exactly if all of them are digits
pub digits_are_bytes : (word : List ℕ) → bytes_eq word (codes "-") ≡ false → (length word == 0) ≡ false → length word % 2 ≡ 0
    → list_all is_hex_digit word ≡ is_some (bytes_of word)
digits_are_bytes word other some even =
    let left : bytes_of word ≡ some_bytes_of word = ap (λ (b : Bool). if b then Some [] else some_bytes_of word) other in
    let read : some_bytes_of word ≡ result_ok (decode_of word) = ap (λ (b : Bool). if b then None else result_ok (decode_of word)) some in
    sym (digits_decode word even) ∙ sym (ap (λ (o : Option (List ℕ)). is_some o) (left ∙ read))
