-- A record as it is written.
use Rattle.std.proofs.Common.{◌≡◌, ℕ, ◌+◌, ◌/◌, ◌%◌, ◌^◌, ◌<◌, List, [], ◌++◌, length, length-drop, take, drop, slice_index, refl, ap, ◌∙◌, arith, get_or-drop}
use Rattle.std.proofs.lemmas.List.{take_at}
use Rattle.pk_base.specs.Shape.{Shape, page_count}
use Rattle.pk_image.specs.Header.{header_bytes}
use Rattle.pk_redo.specs.Bytes.{bytes_at}
use Rattle.pk_redo.specs.Record.{RecordFits, state_in}
use Rattle.pk_redo.proofs.Numbers.{stands_there}
use Rattle.pk_redo.proofs.Parts.{same_parts}

pub header_long : (shape : Shape) → length (header_bytes shape) ≡ 32
unfolding header_bytes
header_long shape = refl

-- the states in a table that begins further on in more bytes
moved_table : (bytes : List ℕ) (k : ℕ) → state_in (drop 9 bytes) 32 k ≡ state_in bytes 41 k
unfolding state_in
moved_table bytes k =
    let there : 9 + (32 + k / 4) ≡ 41 + k / 4 = omega arith in
    ap (λ (b : ℕ). b / 4 ^ (k % 4) % 4) (get_or-drop 9 bytes (32 + k / 4) 0 ∙ ap (slice_index bytes) there)

pub record_there : (shape : Shape) (old text table sealed header : List ℕ) (states : ℕ → ℕ) → length old ≡ 9 + (32 + page_count shape / 4) → length header ≡ 32
    → take 41 text ≡ take 9 old ++ header → drop 41 text ≡ drop 41 old → length text ≡ length old → ((i : ℕ) → i < 41 → slice_index table i ≡ slice_index text i)
    → length table ≡ length text → ((k : ℕ) → k < page_count shape → state_in table 41 k ≡ states k) → drop 9 sealed ≡ drop 9 table
    → RecordFits shape (drop 9 sealed) header states []
unfolding bytes_at
record_there shape old text table sealed header states room sized front back long_text before long_table all body =
    let stands = stands_there old text header 9 32 (omega (arith, room)) sized front back long_text in
    let same = same_parts table text 9 9 32 (omega (arith, room, long_text, long_table)) (omega (arith, room, long_text)) (λ i low. before (9 + i) (omega (arith, low))) in
    rw body (record {
      size = omega (arith, length-drop 9 table, room, long_text, long_table);
      same_header = same ∙ ap (take 32) stands ∙ take_at header (drop 41 text) 32 sized;
      same_states = λ k low not. moved_table table k ∙ all k low;
    })
