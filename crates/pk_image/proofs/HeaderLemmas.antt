-- The check of a header passes exactly the headers of shapes.
use Rattle.std.proofs.Common.{◌≡◌, ℕ, ◌+◌, ◌*◌, ◌^◌, ◌<◌, ◌%◌, ◌≤◌, Bool, true, false, List, [], ◌∷◌, length, drop, get_or, refl, sym, ap, subst, ◌∙◌, arith, Some, None}
use Rattle.std.specs.Prelude.{nat_le, nat_lt, not, ◌||◌, ◌==◌, if◌then◌else◌, Result, Ok, Err, is_ok, IfOk, MatchResult}
use Rattle.std.{specs.List.list_any, proofs.lemmas.Bool.Decides.nat_tests, proofs.lemmas.List.drop_all}
use Rattle.pk_base.{specs.declared.shape.ShapeError.ShapeError, specs.Fields.u32, specs.Fields.spelled, specs.Fields.zeros, specs.FieldFaults.first_fault, proofs.Logic.both_true}
use Rattle.pk_base.specs.declared.shape.ShapeError.TheVariants.{BadPage, BadBlock, TooLarge, TooSmall}
use Rattle.pk_base.specs.Shape.{Shape, IsShape, checked, has_bad_page, has_bad_block, is_too_large, is_too_small, page_entries, dense, meta_blocks}
use Rattle.pk_base.proofs.Tables.{◌⊕◌, fields_of, AllNone, all_none, first_none, unless_true, true_unless, unlike_stands, stands_unlike, number_stands, stands_number, Stand, AreSized, stand_spelled}
use Rattle.pk_base.proofs.Tables.{spelled_stand}
use Rattle.pk_image.specs.Header.{image_magic, file_size, header_bytes, named_shape, is_shape, has_size, IsHeader, header_checks, header_fault, refusal_place}
use Rattle.pk_image.specs.declared.head.ImageError.{ImageError}

-- ---- shapes that are accepted

if_ok : (s : Shape) (a b c d : Bool) (r : Result Shape ShapeError) → r ≡ (if a then Err BadPage else if b then Err BadBlock else if c then Err TooLarge else if d then Err TooSmall else Ok s)
    → IfOk r (λ t. (t ≡ s) × (a ≡ false) × (b ≡ false) × (c ≡ false) × (d ≡ false))
if_ok s true b c d r e = rw e tt
if_ok s false true c d r e = rw e tt
if_ok s false false true d r e = rw e tt
if_ok s false false false true r e = rw e tt
if_ok s false false false false r e = rw e (refl, refl, refl, refl, refl)

-- what is accepted is that shape, and passes the four tests
pub accepted : (s : Shape) (r : Result Shape ShapeError) → r ≡ checked s
    → IfOk r (λ t. (t ≡ s) × (has_bad_page s ≡ false) × (has_bad_block s ≡ false) × (is_too_large s ≡ false) × (is_too_small s ≡ false))
unfolding checked
accepted s r e = if_ok s (has_bad_page s) (has_bad_block s) (is_too_large s) (is_too_small s) r e

-- the numbers that are accepted are their own shape
pub named : (s : Shape) (r : Result Shape ShapeError) → r ≡ checked s → IfOk r (λ t. t ≡ s)
named s (Ok t) e = (accepted s (Ok t) e).0
named s (Err x) e = tt

opposite : (b : Bool) → not b ≡ false → b ≡ true
opposite true e = refl
opposite false e = cc

neither : (a b : Bool) → (a || b) ≡ false → (a ≡ false) × (b ≡ false)
neither true b e = cc
neither false b e = (refl, e)

of_pages : (p : ℕ) → list_any (λ n. p == n) (512 ∷ 1024 ∷ 2048 ∷ 4096 ∷ 8192 ∷ 16384 ∷ []) ≡ true → (512 ≤ p) × (p ≤ 16384)
of_pages p e = (grind (arith, nat_tests), grind (arith, nat_tests))

of_blocks : (n : ℕ) → list_any (λ k. n == k) (8 ∷ 16 ∷ 32 ∷ 64 ∷ 128 ∷ 256 ∷ []) ≡ true → (8 ≤ n) × (n ≤ 256) × (n % 8 ≡ 0)
of_blocks n e = (grind (arith, nat_tests), grind (arith, nat_tests), grind (arith, nat_tests))

not_below : (a b : ℕ) → nat_lt a b ≡ false → b ≤ a
not_below a b e = grind (arith, nat_tests)

-- what is accepted is a shape
pub accepted_shape : (s : Shape) → is_shape s ≡ true → IsShape s
accepted_shape s e = by_cases (checked s) refl e
  where
    by_cases : (r : Result Shape ShapeError) → checked s ≡ r → is_ok r ≡ true → IsShape s
    by_cases (Err x) is h = cc
    by_cases (Ok t) is h =
        let tests = accepted s (Ok t) (sym is) in
        let page = of_pages s.page_bytes (opposite _ tests.1) in
        let blocks = neither _ (nat_lt (page_entries s) (dense s)) tests.2 in
        let block = of_blocks s.block_pages (opposite _ blocks.0) in
        let large = neither _ (nat_lt s.page_bytes (64 + 2 * (meta_blocks s + 4))) tests.3 in
        let few = neither (nat_lt 4096 s.blocks) (nat_lt 268435456 (s.page_bytes * s.block_pages * s.blocks)) large.0 in record {
          accepted = is ∙ ap (λ (x : Shape). Ok x) tests.0;
          page_least = page.0;
          page_most = page.1;
          block_least = block.0;
          block_most = block.1;
          eights = block.2;
          blocks_most = not_below 4096 s.blocks few.0;
          moves_fit = not_below (page_entries s) (dense s) blocks.1;
          bytes_most = not_below 268435456 (s.page_bytes * s.block_pages * s.blocks) few.1;
          data_fits = not_below s.blocks (9 + meta_blocks s) tests.4;
        }

-- ---- the rows of a header, each with its size

rows : Shape → List (ℕ × List ℕ)
rows s = (8, image_magic) ∷ (4, u32 s.page_bytes) ∷ (4, u32 s.block_pages) ∷ (4, u32 s.blocks) ∷ (12, zeros 12) ∷ []

rows_header : (s : Shape) → spelled (fields_of (rows s)) ≡ header_bytes s
unfolding rows header_bytes
rows_header s = refl

eqb_same : (n : ℕ) → (n == n) ≡ true
eqb_same n = grind (arith, nat_tests)

-- a header of a file that is not too short, or none
long_enough : (bytes : List ℕ) (size : ℕ) → header_fault bytes size ≡ None → (nat_le 32 size ≡ true) × (first_fault (header_checks bytes size) ≡ None)
unfolding header_fault
long_enough bytes size e = cases (nat_le 32 size) refl e
  where
    cases : (b : Bool) → nat_le 32 size ≡ b → (if b then first_fault (header_checks bytes size) else Some size) ≡ None → (nat_le 32 size ≡ true) × (first_fault (header_checks bytes size) ≡ None)
    cases true is h = (is, h)
    cases false is h = cc

-- the file has a header's bytes
pub long : (bytes : List ℕ) (size : ℕ) → header_fault bytes size ≡ None → 32 ≤ size
long bytes size e = let test = (long_enough bytes size e).0 in grind (arith, nat_tests)

pub short : (bytes : List ℕ) (size : ℕ) → size < 32 → header_fault bytes size ≡ Some size
unfolding header_fault
short bytes size h = let test : nat_le 32 size ≡ false = grind (arith, nat_tests) in rw test refl

-- a header without a wrong byte names a shape
pub names_one : (bytes : List ℕ) (size : ℕ) → header_fault bytes size ≡ None → is_shape (named_shape bytes) ≡ true
names_one bytes size good = unless_true 8 (is_shape (named_shape bytes)) (all_none (header_checks bytes size) (long_enough bytes size good).1).1.0

pub header_takes : (bytes : List ℕ) (size : ℕ) → ((i : ℕ) → get_or bytes i 0 < 256) → length bytes ≡ 32 → header_fault bytes size ≡ None → IsHeader (named_shape bytes) bytes size
unfolding rows
header_takes bytes size fits sized good =
    let each : AllNone (header_checks bytes size) = all_none (header_checks bytes size) (long_enough bytes size good).1 in
    let least : length image_magic ≡ 8 = refl in
    let parts = both_true (is_shape (named_shape bytes)) (size == file_size (named_shape bytes)) (unless_true 32 (has_size (named_shape bytes) size) each.1.1.1.0) in
    let stands : Stand 0 (rows (named_shape bytes)) bytes =
    unlike_stands 0 image_magic bytes each.0 (omega arith)
    ⊕ number_stands 4 8 bytes fits (omega arith)
    ⊕ number_stands 4 12 bytes fits (omega arith)
    ⊕ number_stands 4 16 bytes fits (omega arith)
    ⊕ unlike_stands 20 (zeros 12) bytes each.1.1.0 (omega arith)
    ⊕ drop_all 32 bytes (omega arith) in
    record {
      of_shape = accepted_shape (named_shape bytes) parts.0;
      spelling = stand_spelled 0 (rows (named_shape bytes)) bytes stands ∙ rows_header (named_shape bytes);
      file = grind (arith, nat_tests, parts.1);
    }

-- what a header is read as
pub record Read (shape : Shape) (bytes : List ℕ) (size : ℕ) : Type 0 where
  pub passes : header_fault bytes size ≡ None
  pub names : named_shape bytes ≡ shape

pub header_again : (shape : Shape) (bytes : List ℕ) (size : ℕ) → IsHeader shape bytes size → Read shape bytes size
unfolding rows header_bytes header_fault
header_again s bytes size is =
    let shape = is.of_shape in
    let page : s.page_bytes < 256 ^ 4 = omega (arith, shape.page_most) in
    let block : s.block_pages < 256 ^ 4 = omega (arith, shape.block_most) in
    let blocks : s.blocks < 256 ^ 4 = omega (arith, shape.blocks_most) in
    let sized : AreSized (rows s) = refl ⊕ refl ⊕ refl ⊕ refl ⊕ refl ⊕ tt in
    let row = spelled_stand 0 (rows s) bytes sized is.spelling in
    let a = stands_number 4 8 s.page_bytes (drop 12 bytes) bytes row.1.0 page in
    let b = stands_number 4 12 s.block_pages (drop 16 bytes) bytes row.1.1.0 block in
    let c = stands_number 4 16 s.blocks (drop 20 bytes) bytes row.1.1.1.0 blocks in
    let names : named_shape bytes ≡ s = λ i. record { page_bytes = a i; block_pages = b i; blocks = c i } in
    let ok : is_shape (named_shape bytes) ≡ true = ap is_shape names ∙ ap is_ok shape.accepted in
    let same : (size == file_size (named_shape bytes)) ≡ true = ap (λ (g : Shape). size == file_size g) names ∙ ap (λ (n : ℕ). n == file_size s) is.file ∙ eqb_same (file_size s) in
    let room : has_size (named_shape bytes) size ≡ true = rw (ok, same) refl in
    let long : nat_le 32 size ≡ true = grind (arith, nat_tests, is.file) in
    record {
      passes = rw long (first_none (header_checks bytes size) (
          stands_unlike 0 image_magic (drop 8 bytes) bytes row.0
          ⊕ true_unless 8 _ ok
          ⊕ stands_unlike 20 (zeros 12) (drop 32 bytes) bytes row.1.1.1.1.0
          ⊕ true_unless 32 _ room
          ⊕ tt));
      names = names;
    }

-- ---- reading exactly is finding what is there, and whatever is there

abbrev pub Exact : List ℕ → ℕ → Result Shape ImageError → Type 0
Exact bytes size r = MatchResult r (λ shape. (header_fault bytes size ≡ None) × (shape ≡ named_shape bytes)) (λ bad. header_fault bytes size ≡ Some (refusal_place bad))

pub found : (bytes : List ℕ) (size : ℕ) (r : Result Shape ImageError) → ((i : ℕ) → get_or bytes i 0 < 256) → length bytes ≡ 32 → Exact bytes size r
    → IfOk r (λ shape. IsHeader shape bytes size)
found bytes size (Ok s) fits sized e = subst (λ (x : Shape). IsHeader x bytes size) (sym e.1) (header_takes bytes size fits sized e.0)
found bytes size (Err bad) fits sized e = tt

pub only : (bytes : List ℕ) (size : ℕ) (r : Result Shape ImageError) → Exact bytes size r → (shape : Shape) → IsHeader shape bytes size → r ≡ Ok shape
only bytes size (Ok s) e shape is = ap (λ (x : Shape). Ok x) (e.1 ∙ (header_again shape bytes size is).names)
only bytes size (Err bad) e shape is = let passes = (header_again shape bytes size is).passes in cc
