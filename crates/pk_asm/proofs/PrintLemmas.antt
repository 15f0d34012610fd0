-- Words that are written one after another.
use Rattle.std.proofs.Common.{◌≡◌, ℕ, ◌+◌, ◌*◌, ◌/◌, ◌%◌, ◌<◌, ◌≤◌, true, false, List, [], ◌∷◌, ◌++◌, length, take, drop, get_or, map, refl, sym, ap, ◌∙◌, arith, length-append}
use Rattle.std.proofs.lemmas.List.{append_assoc, append-nil, take_more, take_all, map-append, take-append-drop, length-take-le}
use Rattle.std.{specs.Prelude.nat_le, specs.Borrow.Bor, proofs.lemmas.Bool.Decides.nat_tests, proofs.lemmas.List.Concat.flat_map-append}
use Rattle.hex.{specs.Hex.encode_with, specs.Hex.lower_digits, proofs.HexLemmas.length-encode_with}
use Rattle.pk_nvme.{specs.Bytes.RoomyList, specs.Text.hex_text}
use Rattle.pk_asm.{specs.Printed.behind_blanks, specs.PrintedWord.word_text, specs.PrintedWord.tail_text, specs.declared.writer.Word.Word}
use Rattle.pk_asm.specs.declared.writer.Word.TheVariants.{Text, Hex}

-- a list of bytes after which a text was written
pub record Wrote (old : RoomyList) (text : List ℕ) (new : RoomyList) : Type 0 where
  pub now : new ≡ record old { items = old.items ++ text }

pub wrote_len : (old now : RoomyList) (text : List ℕ) → Wrote old text now → (length now.items ≡ length old.items + length text) × (now.room ≡ old.room)
wrote_len old now text h = (ap (λ (v : RoomyList). length v.items) h.now ∙ length-append old.items text, ap (λ (v : RoomyList). v.room) h.now)

-- ---- hexadecimal digits

-- n bytes were written
pub record HexSoFar (bytes : List ℕ) (i : ℕ) (old now : RoomyList) : Type 0 where
  pub wrote : Wrote old (hex_text (take i bytes)) now

-- ---- words after blanks

-- what is read past the end of a list of words
abbrev pub no_word : Word
no_word = Text (record { ref_ptr = (0, 0); now = [] })

tail_append : (xs ys : List Word) → tail_text (xs ++ ys) ≡ tail_text xs ++ tail_text ys
tail_append xs ys = ap behind_blanks (map-append word_text xs ys) ∙ flat_map-append (λ word. 32 ∷ word) (map word_text xs) (map word_text ys)

pub tail_more : (words : List Word) (i : ℕ) → i < length words → tail_text (take i words) ++ 32 ∷ word_text (get_or words i no_word) ≡ tail_text (take (i + 1) words)
tail_more words i lt =
    ap (λ (xs : List ℕ). tail_text (take i words) ++ xs) (sym (append-nil (32 ∷ word_text (get_or words i no_word))))
    ∙ sym (tail_append (take i words) (get_or words i no_word ∷ []))
    ∙ ap tail_text (sym (take_more words i no_word lt))

-- a word and those before it are no longer than all
pub tail_short : (words : List Word) (i : ℕ) → i < length words → length (tail_text (take i words)) + (1 + length (word_text (get_or words i no_word))) ≤ length (tail_text words)
tail_short words i lt =
    let front = ap length (tail_more words i lt) in
    let whole = ap length (sym (tail_append (take (i + 1) words) (drop (i + 1) words)) ∙ ap tail_text (take-append-drop (i + 1) words)) in
    let parts = length-append (tail_text (take i words)) (32 ∷ word_text (get_or words i no_word)) in
    let all = length-append (tail_text (take (i + 1) words)) (tail_text (drop (i + 1) words)) in
    omega (arith, front, whole, parts, all)

pub fit_stop : (words : List Word) (i : ℕ) (left room : ℕ) → i < length words → left + length (tail_text (take i words)) ≡ room
    → left < length (word_text (get_or words i no_word)) + 1 → false ≡ nat_le (length (tail_text words)) room
fit_stop words i left room lt so_far more =
    let short = tail_short words i lt in
    let over : room < length (tail_text words) = omega arith in
    grind (arith, nat_tests)

pub fit_step : (words : List Word) (i : ℕ) (left next room : ℕ) → i < length words → left + length (tail_text (take i words)) ≡ room
    → next + (length (word_text (get_or words i no_word)) + 1) ≡ left → next + length (tail_text (take (i + 1) words)) ≡ room
fit_step words i left next room lt so_far step =
    let front = ap length (tail_more words i lt) in
    let parts = length-append (tail_text (take i words)) (32 ∷ word_text (get_or words i no_word)) in
    omega (arith, front, parts)

pub fit_all : (words : List Word) (i left room : ℕ) → length words ≤ i → left + length (tail_text (take i words)) ≡ room → true ≡ nat_le (length (tail_text words)) room
fit_all words i left room all so_far =
    let whole = ap (λ (ws : List Word). length (tail_text ws)) (take_all i words all) in
    let within : length (tail_text words) ≤ room = omega arith in
    grind (arith, nat_tests)

-- n words were written
pub record WordsSoFar (words : List Word) (i : ℕ) (old now : RoomyList) : Type 0 where
  pub wrote : Wrote old (tail_text (take i words)) now

pub words_room : (words : List Word) (i : ℕ) (old now : RoomyList) → i < length words → length old.items + length (tail_text words) ≤ old.room
    → WordsSoFar words i old now → length now.items + (1 + length (word_text (get_or words i no_word))) ≤ now.room
words_room words i old now lt room h =
    let sized = wrote_len old now (tail_text (take i words)) h.wrote in
    let short = tail_short words i lt in
    omega (arith, sized.0, sized.1)

-- digits after a blank
pub hex_fits : (word : Word) (bytes : Bor (List ℕ)) (old new : RoomyList) → word ≡ Hex bytes → length old.items + (1 + length (word_text word)) ≤ old.room
    → new ≡ record old { items = old.items ++ 32 ∷ [] } → length new.items + 2 * length bytes.now ≤ new.room
hex_fits word bytes old new is room blank =
    let digits = length-encode_with lower_digits bytes.now in
    let text = ap (λ (w : Word). length (word_text w)) is in
    let items = ap (λ (v : RoomyList). length v.items) blank in
    let parts = length-append old.items (32 ∷ []) in
    let same = ap (λ (v : RoomyList). v.room) blank in
    omega arith

pub hex_length : (word : Word) (bytes : Bor (List ℕ)) → word ≡ Hex bytes → 2 * length bytes.now ≡ length (word_text word)
hex_length word bytes is = sym (length-encode_with lower_digits bytes.now) ∙ ap (λ (w : Word). length (word_text w)) (sym is)
