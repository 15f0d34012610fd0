-- A replay gives the same whatever the pages hold that its steps set.
use Rattle.std.proofs.Common.{◌≡◌, ◌≢◌, ◌⊎◌, ℕ, zero, suc, ◌+◌, ◌*◌, ◌/◌, ◌<◌, ◌≤◌, List, [], ◌∷◌}
use Rattle.std.proofs.Common.{◌++◌, length, take, drop, slice_index, sym, refl, ◌∙◌, ap, inl, inr, arith, zero-add, get_or-take, ext_get_or}
use Rattle.std.{proofs.Math.Nat.mul-le-mul_right, proofs.Math.Nat.mul-suc, proofs.lemmas.Bool.cases_eq, proofs.lemmas.Bool.cases_lt, proofs.lemmas.List.length-take-le}
use Rattle.pk_image.{specs.Header.file_size, specs.Image.state_place, specs.Image.page_place, specs.Image.page_by}
use Rattle.pk_image.{specs.Image.page_in_file, specs.Image.pages_in_file, specs.Image.flash_in_file, specs.Image.state_byte}
use Rattle.pk_base.{specs.Shape.Shape, specs.Shape.page_count, specs.Page.Page, specs.Page.Flash, specs.Page.page_at, specs.Page.torn}
use Rattle.pk_base.specs.Mark.{Mark, program, erase, post, after, after_all}
use Rattle.pk_nand.proofs.Leaving.{page_at-slice_set, page_at-slice_set_same, page_at-erased_from, page-erased_in, length-after, same_pages}
use Rattle.pk_redo.specs.Bytes.{bytes_at}
use Rattle.pk_redo.specs.Steps.{SetBy, Sets}
use Rattle.pk_redo.specs.Image.{SameButSet, BelongTo, ReadAs, ReplayIsAbsolute, flash_after}
use Rattle.pk_redo.specs.Log.{LogHolds}
use Rattle.pk_redo.specs.Record.{RecordFits}
use Rattle.pk_redo.proofs.Parts.{same_parts}

-- ---- steps that set a page

set_by_or_not : (shape : Shape) (mark : Mark) (k : ℕ) → SetBy shape mark k ⊎ (¬ SetBy shape mark k)
set_by_or_not shape (program at bytes) k = cases_eq k at
set_by_or_not shape (erase block) k = cases_eq (k / shape.block_pages) block
set_by_or_not shape (post bytes) k = inr (λ none. none)

pub sets_or_not : (shape : Shape) (marks : List Mark) (k : ℕ) → Sets shape marks k ⊎ (¬ Sets shape marks k)
sets_or_not shape [] k = inr (λ none. none)
sets_or_not shape (mark ∷ marks) k =
    elim (set_by_or_not shape mark k) [
      | inl is ↦ inl (inl is)
      | inr other ↦ elim (sets_or_not shape marks k) [
        | inl later ↦ inl (inr later)
        | inr none ↦ inr (λ sets. elim sets [ inl is ↦ other is | inr later ↦ none later ])
      ]
    ]

pub sets_first : (shape : Shape) (xs ys : List Mark) (k : ℕ) → Sets shape xs k → Sets shape (xs ++ ys) k
sets_first shape [] ys k sets = absurd sets
sets_first shape (x ∷ xs) ys k sets = elim sets [ inl is ↦ inl is | inr later ↦ inr (sets_first shape xs ys k later) ]

-- ---- pages after steps

-- what a step sets is the same whatever was there, and the other pages stay
after_same : (shape : Shape) (mark : Mark) (f g : Flash) (k : ℕ) → length f ≡ length g → k < length f → SetBy shape mark k ⊎ (page_at f k ≡ page_at g k)
    → page_at (after shape mark f) k ≡ page_at (after shape mark g) k
after_same shape (program at bytes) f g k size low known =
    elim (cases_eq k at) [
      | inl is ↦ rw is (page_at-slice_set_same f at _ (omega arith) ∙ sym (page_at-slice_set_same g at _ (omega arith)))
      | inr other ↦ page_at-slice_set f at k _ other ∙ (elim known [ inl is ↦ absurd (other is) | inr same ↦ same ]) ∙ sym (page_at-slice_set g at k _ other)
    ]
after_same shape (erase block) f g k size low known =
    elim (cases_eq (k / shape.block_pages) block) [
      | inl is ↦
          let here : (0 + k) / shape.block_pages ≡ block = ap (λ n. n / shape.block_pages) (zero-add k) ∙ is in
          page-erased_in shape block 0 f k low here ∙ sym (page-erased_in shape block 0 g k (omega arith) here)
      | inr other ↦
          let away : (0 + k) / shape.block_pages ≢ block = λ e. other (ap (λ n. n / shape.block_pages) (sym (zero-add k)) ∙ e) in
          page_at-erased_from shape block 0 f k away ∙ (elim known [ inl is ↦ absurd (other is) | inr same ↦ same ]) ∙ sym (page_at-erased_from shape block 0 g k away)
    ]
after_same shape (post bytes) f g k size low known = elim known [ inl none ↦ absurd none | inr same ↦ same ]

redo_same : (shape : Shape) (marks : List Mark) (f g : Flash) (k : ℕ) → length f ≡ length g → k < length f → Sets shape marks k ⊎ (page_at f k ≡ page_at g k)
    → page_at (after_all shape marks f) k ≡ page_at (after_all shape marks g) k
redo_same shape [] f g k size low known = elim known [ inl none ↦ absurd none | inr same ↦ same ]
redo_same shape (mark ∷ marks) f g k size low known =
    let more = length-after shape mark f in
    let other = length-after shape mark g in
    redo_same shape marks (after shape mark f) (after shape mark g) k (more ∙ size ∙ sym other) (omega (arith, low, more)) (elim known [
      | inl (inl is) ↦ inr (after_same shape mark f g k size low (inl is))
      | inl (inr later) ↦ inl later
      | inr same ↦ inr (after_same shape mark f g k size low (inr same))
    ])

length-after_all : (shape : Shape) (marks : List Mark) (flash : Flash) → length (after_all shape marks flash) ≡ length flash
length-after_all shape [] flash = refl
length-after_all shape (mark ∷ marks) flash = length-after_all shape marks (after shape mark flash) ∙ length-after shape mark flash

past_end : (flash : Flash) (k : ℕ) → length flash ≤ k → page_at flash k ≡ torn
past_end [] k high = refl
past_end (p ∷ ps) zero high = absurd (omega (arith, high))
past_end (p ∷ ps) (suc k) high = past_end ps k (omega (arith, high))

same_after : (shape : Shape) (marks : List Mark) (f g : Flash) → length f ≡ length g → ((k : ℕ) → k < length g → Sets shape marks k ⊎ (page_at f k ≡ page_at g k))
    → after_all shape marks f ≡ after_all shape marks g
same_after shape marks f g size known =
    let long_f = length-after_all shape marks f in
    let long_g = length-after_all shape marks g in
    same_pages (after_all shape marks g) (after_all shape marks f) (long_f ∙ size ∙ sym long_g) (λ k. elim (cases_lt k (length g)) [
      | inl low ↦ redo_same shape marks f g k size (omega (arith, low, size)) (known k low)
      | inr high ↦ past_end (after_all shape marks f) k (omega (arith, high, long_f, size)) ∙ sym (past_end (after_all shape marks g) k (omega (arith, high, long_g)))
    ])

-- ---- the pages of a file

length-pages : (shape : Shape) (file : List ℕ) (k n : ℕ) → length (pages_in_file shape file k n) ≡ n
length-pages shape file k zero = refl
length-pages shape file k (suc n) = ap suc (length-pages shape file (k + 1) n)

by_number : (shape : Shape) (file : List ℕ) (k n i : ℕ) → i < n → page_at (pages_in_file shape file k n) i ≡ page_in_file shape file (k + i)
by_number shape file k zero i low = absurd (omega arith)
by_number shape file k (suc n) zero low = ap (page_in_file shape file) (omega arith)
by_number shape file k (suc n) (suc i) low = by_number shape file (k + 1) n i (omega arith) ∙ ap (page_in_file shape file) (omega arith)

pub page_of_flash : (shape : Shape) (file : List ℕ) (k : ℕ) → k < page_count shape → page_at (flash_in_file shape file) k ≡ page_in_file shape file k
page_of_flash shape file k low = by_number shape file 0 (page_count shape) k low ∙ ap (page_in_file shape file) (zero-add k)

pub length-flash : (shape : Shape) (file : List ℕ) → length (flash_in_file shape file) ≡ page_count shape
length-flash shape file = length-pages shape file 0 (page_count shape)

-- the file has the state bytes, and the bytes of each page behind them
pub states_fit : (shape : Shape) → 32 + page_count shape ≤ file_size shape
states_fit shape =
    let all : page_count shape * suc shape.page_bytes ≡ page_count shape * shape.page_bytes + page_count shape = mul-suc (page_count shape) shape.page_bytes in
    let one : shape.page_bytes + 1 ≡ suc shape.page_bytes = omega arith in
    rw one (omega (arith, all))

pub page_fits : (shape : Shape) (k : ℕ) → k < page_count shape → (state_place k < 32 + page_count shape) × (page_place shape k + shape.page_bytes ≤ file_size shape)
page_fits shape k low =
    let end : suc k * shape.page_bytes ≤ page_count shape * shape.page_bytes = mul-le-mul_right shape.page_bytes low in
    let next : suc k * shape.page_bytes ≡ k * shape.page_bytes + shape.page_bytes = omega arith in
    let all : page_count shape * suc shape.page_bytes ≡ page_count shape * shape.page_bytes + page_count shape = mul-suc (page_count shape) shape.page_bytes in
    let one : shape.page_bytes + 1 ≡ suc shape.page_bytes = omega arith in
    (omega arith, rw one (omega (arith, end, next, all)))

pub unset_page : (shape : Shape) (marks : List Mark) (base file : List ℕ) → SameButSet shape marks base file → (k : ℕ) → k < page_count shape → ¬ Sets shape marks k
    → page_in_file shape file k ≡ page_in_file shape base k
unfolding bytes_at
unset_page shape marks base file same k low not =
    let fits = (page_fits shape k low).1 in
    let parts = same_parts file base (page_place shape k) (page_place shape k) shape.page_bytes (omega (arith, fits, same.fits, same.same_size)) (omega (arith, fits, same.fits))
    (λ i below. same.bytes k i low not below) in
    ap (λ (byte : ℕ). page_by byte (take shape.page_bytes (drop (page_place shape k) file))) (same.states k low not)
    ∙ ap (page_by (slice_index base (state_place k))) parts

pub same_replay : (shape : Shape) (marks : List Mark) (base file : List ℕ) → SameButSet shape marks base file → flash_after shape marks file ≡ flash_after shape marks base
same_replay shape marks base file same =
    let long = length-flash shape base in
    same_after shape marks (flash_in_file shape file) (flash_in_file shape base) (length-flash shape file ∙ sym long) (λ k below.
    let low : k < page_count shape = omega (arith, below, long) in
    elim (sets_or_not shape marks k) [
      | inl sets ↦ inl sets
      | inr not ↦ inr (page_of_flash shape file k low ∙ unset_page shape marks base file same k low not ∙ sym (page_of_flash shape base k low))
    ])

pub same_header : (shape : Shape) (marks : List Mark) (base file : List ℕ) → SameButSet shape marks base file → take 32 file ≡ take 32 base
same_header shape marks base file same =
    let fits : 32 ≤ length base = omega (arith, same.fits) in
    let long : length (take 32 file) ≡ 32 = length-take-le 32 file (omega (arith, fits, same.same_size)) in
    ext_get_or 0 _ _ (long ∙ sym (length-take-le 32 base fits)) (λ i low.
    let below : i < 32 = omega (arith, low, long) in
    get_or-take 32 file i 0 below ∙ same.header i below ∙ sym (get_or-take 32 base i 0 below))

-- the record of an image is one of each file that differs from it in pages that steps set
pub belongs_still : (shape : Shape) (batches : List (List ℕ)) (marks : List Mark) (base file : List ℕ) → BelongTo shape batches marks base → SameButSet shape marks base file
    → BelongTo shape batches marks file
belongs_still shape [] marks base file own same = tt
belongs_still shape (first ∷ later) marks base file own same =
    record {
      size = own.size;
      same_header = own.same_header ∙ sym (same_header shape marks base file same);
      same_states = λ k low not. own.same_states k low not ∙ sym (ap state_byte (unset_page shape marks base file same k low not));
    }

-- and one of itself, whatever steps follow
pub belongs_more : (shape : Shape) (batches : List (List ℕ)) (marks : List Mark) (base : List ℕ) → BelongTo shape batches [] base → BelongTo shape batches marks base
belongs_more shape [] marks base own = tt
belongs_more shape (first ∷ later) marks base own = record { size = own.size; same_header = own.same_header; same_states = λ k low not. own.same_states k low (λ none. none) }

pub replay_is_absolute : ReplayIsAbsolute
replay_is_absolute shape log base image batches marks stands says own same =
    record {
      batches = batches;
      stands = stands;
      marks = marks;
      says = says;
      belongs = belongs_still shape batches marks base image own same;
      gives = same_replay shape marks base image same;
    }

-- ---- an image that has the pages after the steps

-- a file that has these pages
pub written_flash : (shape : Shape) (marks : List Mark) (base file : List ℕ) → ((k : ℕ) → k < page_count shape → page_in_file shape file k ≡ page_at (flash_after shape marks base) k)
    → flash_in_file shape file ≡ flash_after shape marks base
written_flash shape marks base file written =
    let long = length-flash shape file in
    let all = length-after_all shape marks (flash_in_file shape base) ∙ length-flash shape base in
    same_pages (flash_after shape marks base) (flash_in_file shape file) (long ∙ sym all) (λ k. elim (cases_lt k (page_count shape)) [
      | inl low ↦ page_of_flash shape file k low ∙ written k low
      | inr high ↦ past_end (flash_in_file shape file) k (omega (arith, high, long)) ∙ sym (past_end (flash_after shape marks base) k (omega (arith, high, all)))
    ])

-- is read as them with a log that has no batch
pub written_reads : (shape : Shape) (marks : List Mark) (base file log : List ℕ) → LogHolds log []
    → ((k : ℕ) → k < page_count shape → page_in_file shape file k ≡ page_at (flash_after shape marks base) k) → ReadAs shape log file (flash_after shape marks base)
written_reads shape marks base file log none written =
    record { batches = []; stands = none; marks = []; says = refl; belongs = tt; gives = written_flash shape marks base file written }

-- and with one that has its record alone
pub written_reads_record : (shape : Shape) (marks : List Mark) (base file log first : List ℕ) → LogHolds log (first ∷ []) → BelongTo shape (first ∷ []) [] file
    → ((k : ℕ) → k < page_count shape → page_in_file shape file k ≡ page_at (flash_after shape marks base) k) → ReadAs shape log file (flash_after shape marks base)
written_reads_record shape marks base file log first one own written =
    record { batches = first ∷ []; stands = one; marks = []; says = refl; belongs = own; gives = written_flash shape marks base file written }

-- the record of the pages in memory is one of an image that has them
pub recorded_of : (shape : Shape) (marks : List Mark) (base file first : List ℕ) (page_of : ℕ → Page) → SameButSet shape marks base file
    → ((k : ℕ) → k < page_count shape → page_in_file shape file k ≡ page_of k) → RecordFits shape first (take 32 base) (λ k. state_byte (page_of k)) []
    → BelongTo shape (first ∷ []) [] file
recorded_of shape marks base file first page_of same written recorded =
    record {
      size = recorded.size;
      same_header = recorded.same_header ∙ sym (same_header shape marks base file same);
      same_states = λ k low not. recorded.same_states k low not ∙ sym (ap state_byte (written k low));
    }

-- the image is long enough for its pages
pub has_room : (shape : Shape) (marks : List Mark) (base file : List ℕ) → SameButSet shape marks base file → file_size shape ≤ length file
has_room shape marks base file same = omega (arith, same.fits, same.same_size)
