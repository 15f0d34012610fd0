-- Lines, and how long they are.
use Rattle.std.proofs.Common.{◌≡◌, ℕ, ◌+◌, ◌*◌, ◌≤◌, ◌<◌, List, [], ◌∷◌, ◌++◌, length, take, slice_index_or, sym, ap, ◌∙◌, arith}
use Rattle.std.{specs.Prelude.codes, proofs.lemmas.List.append-nil, proofs.lemmas.List.length-append, proofs.lemmas.List.take_more, proofs.lemmas.Grind.flat_map-append}
use Rattle.pk_base.specs.Key.{Key, bytes_of}
use Rattle.pk_nvme.{specs.Bytes.RoomyList, specs.Text.hex_text, proofs.TextLemmas.length-hex_text}
use Rattle.pk_words.specs.Lines.{key_line, key_lines}

pub length-key_line : (key : Key) → length (key_line key) ≡ 2 * length (bytes_of key) + 1
length-key_line key = omega (arith, length-append (hex_text (bytes_of key)) (codes "\n"), length-hex_text (bytes_of key))

-- the lines of one key more
pub one_more : (ks : List Key) (i : ℕ) → i < length ks → key_lines (take (i + 1) ks) ≡ key_lines (take i ks) ++ key_line (slice_index_or ks i [])
one_more ks i h =
    ap key_lines (take_more ks i [] h) ∙ flat_map-append key_line (take i ks) (slice_index_or ks i [] ∷ [])
    ∙ ap (λ (xs : List ℕ). key_lines (take i ks) ++ xs) (append-nil (key_line (slice_index_or ks i [])))

-- what is in a text when n keys of a page were said
pub record AreSaid (page : List Key) (text initial : RoomyList) (i : ℕ) : Type 0 where
  pub lines : text ≡ record initial { items = key_lines (take i page) }
  pub most : length text.items ≤ 33 * i
