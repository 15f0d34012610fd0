-- A file without a wrong byte is an image, and an image is read as its pages.
use Rattle.std.proofs.Common.{◌≡◌, ℕ, zero, suc, ◌+◌, ◌<◌, ◌≤◌, Bool, true, false, List, [], ◌∷◌, length, take, drop, get_or, refl, sym, ap, subst, ◌∙◌, arith, Option, Some, None, length-drop, lit<}
use Rattle.std.{specs.Prelude.nat_le, specs.Prelude.if◌then◌else◌, proofs.Math.Nat.mul-suc, proofs.lemmas.Bool.Decides.nat_tests}
use Rattle.std.proofs.lemmas.List.{get_or-take, get_or-drop, length-take-le}
use Rattle.pk_base.{specs.Fields.AreBytes, specs.Shape.Shape, specs.Shape.page_count, specs.Page.Page, specs.Page.Flash, specs.Page.erased, specs.Page.whole, specs.Page.torn, specs.Page.page_at}
use Rattle.pk_base.proofs.Tables.{all_none, first_none}
use Rattle.pk_image.specs.Header.{file_size, named_shape, header_fault, IsHeader}
use Rattle.pk_image.specs.Image.{state_place, page_place, state_byte, StandsFor, IsImage, page_by, page_in_file, pages_in_file, flash_in_file, bad_state, image_fault, IsRead}
use Rattle.pk_image.proofs.HeaderLemmas.{long, header_takes, header_again}

take_small : (n i : ℕ) (xs : List ℕ) → AreBytes xs → get_or (take n xs) i 0 < 256
take_small zero i xs h = lit< tt
take_small (suc n) i [] h = lit< tt
take_small (suc n) zero (x ∷ xs) h = h 0
take_small (suc n) (suc i) (x ∷ xs) h = take_small n i xs (λ k. h (suc k))

-- ---- state bytes

guard : (b : Bool) (rest : Option ℕ) (at : ℕ) → (if b then rest else Some at) ≡ None → (b ≡ true) × (rest ≡ None)
guard true rest at e = (refl, e)
guard false rest at e = cc

all_states : (at : ℕ) (bytes : List ℕ) → bad_state at bytes ≡ None → (k : ℕ) → k < length bytes → get_or bytes k 0 ≤ 2
all_states at [] e k h = absurd (omega arith)
all_states at (b ∷ bytes) e zero h = let test = (guard (nat_le b 2) (bad_state (at + 1) bytes) at e).0 in grind (arith, nat_tests)
all_states at (b ∷ bytes) e (suc k) h = all_states (at + 1) bytes (guard (nat_le b 2) (bad_state (at + 1) bytes) at e).1 k (omega arith)

none_bad : (at : ℕ) (bytes : List ℕ) → ((k : ℕ) → k < length bytes → get_or bytes k 0 ≤ 2) → bad_state at bytes ≡ None
none_bad at [] h = refl
none_bad at (b ∷ bytes) h =
    let small : b ≤ 2 = h 0 (omega arith) in
    let test : nat_le b 2 ≡ true = grind (arith, nat_tests) in
    rw test (none_bad (at + 1) bytes (λ k less. h (suc k) (omega arith)))

-- ---- pages by their state bytes

byte_back : (byte : ℕ) (bytes : List ℕ) → byte ≤ 2 → byte ≡ state_byte (page_by byte bytes)
byte_back zero bytes h = refl
byte_back (suc zero) bytes h = refl
byte_back (suc (suc zero)) bytes h = refl
byte_back (suc (suc (suc n))) bytes h = absurd (omega arith)

stands_by : (a b : Bool) (bytes : List ℕ) → StandsFor (if a then erased else if b then whole bytes else torn) bytes
stands_by true b bytes = tt
stands_by false true bytes = refl
stands_by false false bytes = tt

page_back : (p : Page) (bytes : List ℕ) → StandsFor p bytes → page_by (state_byte p) bytes ≡ p
page_back erased bytes h = refl
page_back (whole own) bytes h = ap (λ (xs : List ℕ). whole xs) (sym h)
page_back torn bytes h = refl

byte_small : (p : Page) → state_byte p ≤ 2
byte_small erased = omega arith
byte_small (whole own) = omega arith
byte_small torn = omega arith

-- ---- the pages of a file

module _ (s : Shape) (file : List ℕ) where
  many : (k n : ℕ) → length (pages_in_file s file k n) ≡ n
  many k zero = refl
  many k (suc n) = ap suc (many (k + 1) n)

  by_place : (k n i : ℕ) → i < n → page_at (pages_in_file s file k n) i ≡ page_in_file s file (k + i)
  by_place k zero i h = absurd (omega arith)
  by_place k (suc n) zero h = ap (λ (j : ℕ). page_in_file s file j) (omega arith)
  by_place k (suc n) (suc i) h = by_place (k + 1) n i (omega arith) ∙ ap (λ (j : ℕ). page_in_file s file j) (omega arith)

  at_place : (k : ℕ) → k < page_count s → page_at (flash_in_file s file) k ≡ page_in_file s file k
  at_place k h = let same : 0 + k ≡ k = omega arith in by_place 0 (page_count s) k h ∙ ap (λ (j : ℕ). page_in_file s file j) same

  same_pages : (k : ℕ) (flash : Flash) → ((i j : ℕ) → i < length flash → j ≡ k + i → page_in_file s file j ≡ page_at flash i) → pages_in_file s file k (length flash) ≡ flash
  same_pages k [] h = refl
  same_pages k (p ∷ flash) h =
      let first : page_in_file s file k ≡ p = h 0 k (omega arith) (omega arith) in
      let rest : pages_in_file s file (k + 1) (length flash) ≡ flash =
      same_pages (k + 1) flash (λ i j less at. h (suc i) j (omega arith) (omega arith)) in
      λ i. first i ∷ rest i

  -- the state bytes of a file of its size, by their places
  module _ (size : length file ≡ file_size s) where
    room : 32 + page_count s ≤ length file
    room = omega (arith, size, mul-suc (page_count s) s.page_bytes)

    states_many : length (take (page_count s) (drop 32 file)) ≡ page_count s
    states_many = length-take-le (page_count s) (drop 32 file) (omega (arith, room, length-drop 32 file))

    state_is : (k : ℕ) → k < page_count s → get_or (take (page_count s) (drop 32 file)) k 0 ≡ get_or file (state_place k) 0
    state_is k h = get_or-take (page_count s) (drop 32 file) k 0 h ∙ get_or-drop 32 file k 0

-- ---- the laws

pub image_of : (file : List ℕ) → AreBytes file → image_fault file ≡ None → IsImage (named_shape (take 32 file)) (flash_in_file (named_shape (take 32 file)) file) file
unfolding image_fault
image_of file small good =
    let s : Shape = named_shape (take 32 file) in
    let parts = all_none (header_fault (take 32 file) (length file) ∷ bad_state 32 (take (page_count s) (drop 32 file)) ∷ []) good in
    let full : 32 ≤ length file = long (take 32 file) (length file) parts.0 in
    let header : IsHeader s (take 32 file) (length file) = header_takes (take 32 file) (length file) (λ i. take_small 32 i file small) (length-take-le 32 file full) parts.0 in
    let fine : (k : ℕ) → k < page_count s → get_or file (state_place k) 0 ≤ 2 = λ k h.
    subst (λ (b : ℕ). b ≤ 2) (state_is s file header.file k h) (all_states 32 _ parts.1.0 k (omega (arith, states_many s file header.file))) in
    record {
      header = header;
      count = many s file 0 (page_count s);
      states = λ k h. byte_back _ (take s.page_bytes (drop (page_place s k) file)) (fine k h) ∙ ap state_byte (sym (at_place s file k h));
      pages = λ k h. subst (λ (p : Page). StandsFor p (take s.page_bytes (drop (page_place s k) file))) (sym (at_place s file k h)) (stands_by _ _ _);
    }

pub image_again : (s : Shape) (flash : Flash) (file : List ℕ) → IsImage s flash file → IsRead s flash file
unfolding image_fault
image_again s flash file is =
    let own = header_again s (take 32 file) (length file) is.header in
    let size = is.header.file in
    let fine : (k : ℕ) → k < length (take (page_count s) (drop 32 file)) → get_or (take (page_count s) (drop 32 file)) k 0 ≤ 2 = λ k h.
    let inside : k < page_count s = omega (arith, states_many s file size) in
    subst (λ (b : ℕ). b ≤ 2) (sym (state_is s file size k inside ∙ is.states k inside)) (byte_small (page_at flash k)) in
    let states : bad_state 32 (take (page_count (named_shape (take 32 file))) (drop 32 file)) ≡ None =
    ap (λ (g : Shape). bad_state 32 (take (page_count g) (drop 32 file))) own.names ∙ none_bad 32 (take (page_count s) (drop 32 file)) fine in
    let each : (i j : ℕ) → i < length flash → j ≡ 0 + i → page_in_file s file j ≡ page_at flash i = λ i j h at.
    let inside : i < page_count s = omega (arith, is.count) in
    let here : j ≡ i = omega arith in
    ap (λ (k : ℕ). page_in_file s file k) here ∙ ap (λ (b : ℕ). page_by b (take s.page_bytes (drop (page_place s i) file))) (is.states i inside) ∙ page_back (page_at flash i) _ (is.pages i inside) in
    record {
      good = first_none (header_fault (take 32 file) (length file) ∷ bad_state 32 (take (page_count (named_shape (take 32 file))) (drop 32 file)) ∷ []) (own.passes, (states, tt));
      of_shape = own.names;
      of_pages = ap (λ (n : ℕ). pages_in_file s file 0 n) (sym is.count) ∙ same_pages s file 0 flash each;
    }
