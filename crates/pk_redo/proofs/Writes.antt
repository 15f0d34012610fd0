-- What a write to an image leaves.
use Rattle.std.proofs.Common.{◌≡◌, ◌≢◌, ◌⊎◌, ℕ, zero, suc, ◌+◌, ◌-◌, ◌*◌, ◌<◌, ◌≤◌, Bool, true, false, List, [], ◌∷◌, ◌++◌, length, take, drop, replicate, get_or}
use Rattle.std.proofs.Common.{slice_index, slice_set, slice_range, refl, sym, ◌∙◌, ap, inl, inr, arith, rules, mul-le-mul_right, ext_get_or, get_or-take, get_or-drop}
use Rattle.std.proofs.lemmas.Bool.{cases_eq, cases_lt}
use Rattle.std.proofs.lemmas.List.{places, length-set, get_or-set_same, get_or-set_other, get_or_append_left, get_or-append_right}
use Rattle.sqlite_disk.specs.Disk.{Holds, Torn}
use Rattle.pk_image.{specs.Header.file_size, specs.Image.state_place, specs.Image.page_place, specs.Image.page_by, specs.Image.page_in_file}
use Rattle.pk_base.{specs.Shape.Shape, specs.Shape.page_count, specs.Fields.padded, proofs.Tables.length-padded}
use Rattle.pk_base.specs.Mark.{Mark, program}
use Rattle.pk_redo.specs.Bytes.{bytes_at}
use Rattle.pk_redo.specs.Steps.{Sets}
use Rattle.pk_redo.specs.Image.{SameButSet, ZerosAfterExtents}
use Rattle.pk_redo.proofs.Parts.{same_parts, held_is_part, index-part, length-part}
use Rattle.pk_redo.proofs.Replaying.{page_fits, states_fit, sets_first}

-- the place of a page ends where that of a later one begins, or before
places_apart : (shape : Shape) (k p : ℕ) → k < p → page_place shape k + shape.page_bytes ≤ page_place shape p
places_apart shape k p low =
    let more : suc k * shape.page_bytes ≤ p * shape.page_bytes = mul-le-mul_right shape.page_bytes low in
    omega arith

-- a write of states of pages that are set
pub torn_states : (shape : Shape) (marks : List Mark) (base old new : List ℕ) (first n : ℕ) → first + n ≤ page_count shape
    → ((k : ℕ) → first ≤ k → k < first + n → Sets shape marks k) → SameButSet shape marks base old → Torn (state_place first) n old new → SameButSet shape marks base new
torn_states shape marks base old new first n row all same torn =
    let fits = same.fits in
    let size = same.same_size in
    let room = states_fit shape in
    record {
      fits = fits;
      same_size = omega (arith, size, fits, row, room, torn.no_shorter, torn.no_longer);
      header = λ i low. torn.below i (omega (arith, low, size, fits, room)) (omega (arith, low)) ∙ same.header i low;
      states = λ k low not.
          let place = (page_fits shape k low).0 in
          elim (cases_lt k first) [
            | inl before ↦ torn.below (state_place k) (omega (arith, place, size, fits, room)) (omega arith) ∙ same.states k low not
            | inr from ↦ elim (cases_lt k (first + n)) [
              | inl inside ↦ absurd (not (all k from inside))
              | inr after ↦ torn.above (state_place k) (omega (arith, place, size, fits, room)) (omega arith) ∙ same.states k low not
            ]
          ];
      bytes = λ k i low not below.
          let place = (page_fits shape k low).1 in
          torn.above (page_place shape k + i) (omega (arith, place, below, size, fits)) (omega (arith, row)) ∙ same.bytes k i low not below;
    }

-- a write of bytes of a page that is set
pub torn_page : (shape : Shape) (marks : List Mark) (base old new : List ℕ) (page n : ℕ) → page < page_count shape → n ≤ shape.page_bytes
    → Sets shape marks page → SameButSet shape marks base old → Torn (page_place shape page) n old new → SameButSet shape marks base new
torn_page shape marks base old new page n exists short sets same torn =
    let fits = same.fits in
    let size = same.same_size in
    let own = (page_fits shape page exists).1 in
    let room = states_fit shape in
    record {
      fits = fits;
      same_size = omega (arith, size, fits, own, short, torn.no_shorter, torn.no_longer);
      header = λ i low. torn.below i (omega (arith, low, size, fits, room)) (omega (arith, low)) ∙ same.header i low;
      states = λ k low not.
          let place = (page_fits shape k low).0 in
          torn.below (state_place k) (omega (arith, place, size, fits, room)) (omega (arith, place)) ∙ same.states k low not;
      bytes = λ k i low not below.
          let place = (page_fits shape k low).1 in
          elim (cases_lt k page) [
            | inl before ↦
                let apart = places_apart shape k page before in
                torn.below (page_place shape k + i) (omega (arith, place, below, size, fits)) (omega (arith, apart, below)) ∙ same.bytes k i low not below
            | inr from ↦ elim (cases_lt page k) [
              | inl after ↦
                  let apart = places_apart shape page k after in
                  torn.above (page_place shape k + i) (omega (arith, place, below, size, fits)) (omega (arith, apart, short)) ∙ same.bytes k i low not below
              | inr until ↦ let is : k ≡ page = omega arith in absurd (not (rw is sets))
            ]
          ];
    }

-- the page of a file whose state and bytes are known
pub page_of : (shape : Shape) (file bytes : List ℕ) (k state : ℕ) → slice_index file (state_place k) ≡ state → take shape.page_bytes (drop (page_place shape k) file) ≡ bytes
    → page_in_file shape file k ≡ page_by state bytes
page_of shape file bytes k state is own = ap (λ (b : ℕ). page_by b (take shape.page_bytes (drop (page_place shape k) file))) is ∙ ap (page_by state) own

pub same_itself : (shape : Shape) (marks : List Mark) (file : List ℕ) → file_size shape ≤ length file → SameButSet shape marks file file
same_itself shape marks file fits = record { fits = fits; same_size = refl; header = λ i low. refl; states = λ k low not. refl; bytes = λ k i low not below. refl }

pub within_more : (shape : Shape) (marks now : List Mark) (base file : List ℕ) → SameButSet shape marks base file → SameButSet shape (marks ++ now) base file
within_more shape marks now base file same =
    record {
      fits = same.fits;
      same_size = same.same_size;
      header = same.header;
      states = λ k low not. same.states k low (λ sets. not (sets_first shape marks now k sets));
      bytes = λ k i low not below. same.bytes k i low (λ sets. not (sets_first shape marks now k sets)) below;
    }

-- ---- writes one after another, and within a part

pub torn_none : (at n : ℕ) (file : List ℕ) → Torn at n file file
torn_none at n file = record { no_shorter = omega arith; no_longer = omega arith; below = λ i inside low. refl; above = λ i inside high. refl }

pub torn_then : (at n : ℕ) (old mid new : List ℕ) → Torn at n old mid → Torn at n mid new → Torn at n old new
torn_then at n old mid new first then_ =
    record {
      no_shorter = omega (arith, first.no_shorter, then_.no_shorter);
      no_longer = omega (arith, first.no_longer, then_.no_longer);
      below = λ i inside low. then_.below i (omega (arith, inside, first.no_shorter)) low ∙ first.below i inside low;
      above = λ i inside high. then_.above i (omega (arith, inside, first.no_shorter)) high ∙ first.above i inside high;
    }

pub torn_within : (from m at n : ℕ) (old new : List ℕ) → from ≤ at → at + n ≤ from + m → Torn at n old new → Torn from m old new
torn_within from m at n old new low high torn =
    record {
      no_shorter = torn.no_shorter;
      no_longer = omega (arith, torn.no_longer, high);
      below = λ i inside before. torn.below i inside (omega (arith, before, low));
      above = λ i inside after. torn.above i inside (omega (arith, after, high));
    }

-- ---- states of a table that were written

pub row_held : (file states : List ℕ) (first end : ℕ) → first ≤ end → end ≤ length states → Holds file (state_place first) (slice_range states first end)
    → (k : ℕ) → first ≤ k → k < end → slice_index file (state_place k) ≡ slice_index states k
row_held file states first end order within holds k low high =
    let there : state_place first + (k - first) ≡ state_place k = omega arith in
    let here : first + (k - first) ≡ k = omega arith in
    let size : length (slice_range states first end) ≡ end - first = search (rules, places) in
    let put = holds.each (k - first) (omega (arith, size)) in
    rw there at put ∙ get_or-take (end - first) (drop first states) (k - first) 0 (omega arith) ∙ get_or-drop first states (k - first) 0 ∙ ap (slice_index states) here

-- ---- bytes of a page that were written

-- what is at the place of a page stays if others are written
pub page_apart : (shape : Shape) (old new : List ℕ) (page k i : ℕ) → page < page_count shape → k < page_count shape → k ≢ page → i < shape.page_bytes
    → file_size shape ≤ length old → Torn (page_place shape page) shape.page_bytes old new → slice_index new (page_place shape k + i) ≡ slice_index old (page_place shape k + i)
page_apart shape old new page k i exists low other below long torn =
    let place = (page_fits shape k low).1 in
    elim (cases_lt k page) [
      | inl before ↦
          let apart = places_apart shape k page before in
          torn.below (page_place shape k + i) (omega (arith, place, below, long)) (omega (arith, apart, below))
      | inr from ↦
          let apart = places_apart shape page k (omega (arith, from, other)) in
          torn.above (page_place shape k + i) (omega (arith, place, below, long)) (omega (arith, apart))
    ]

pub bytes_apart : (shape : Shape) (old new : List ℕ) (page k : ℕ) → page < page_count shape → k < page_count shape → k ≢ page
    → file_size shape ≤ length old → Torn (page_place shape page) shape.page_bytes old new
    → take shape.page_bytes (drop (page_place shape k) new) ≡ take shape.page_bytes (drop (page_place shape k) old)
unfolding bytes_at
bytes_apart shape old new page k exists low other long torn =
    let place = (page_fits shape k low).1 in
    same_parts new old (page_place shape k) (page_place shape k) shape.page_bytes (omega (arith, place, long, torn.no_shorter)) (omega (arith, place, long))
    (λ i below. page_apart shape old new page k i exists low other below long torn)

-- and if states are
pub states_apart : (shape : Shape) (old new : List ℕ) (k i : ℕ) → k < page_count shape → i < shape.page_bytes → file_size shape ≤ length old → Torn 32 (page_count shape) old new
    → slice_index new (page_place shape k + i) ≡ slice_index old (page_place shape k + i)
states_apart shape old new k i low below long torn =
    let place = (page_fits shape k low).1 in
    torn.above (page_place shape k + i) (omega (arith, place, below, long)) (omega arith)

pub bytes_still : (shape : Shape) (old new : List ℕ) (k : ℕ) → k < page_count shape → file_size shape ≤ length old → Torn 32 (page_count shape) old new
    → take shape.page_bytes (drop (page_place shape k) new) ≡ take shape.page_bytes (drop (page_place shape k) old)
unfolding bytes_at
bytes_still shape old new k low long torn =
    let place = (page_fits shape k low).1 in
    same_parts new old (page_place shape k) (page_place shape k) shape.page_bytes (omega (arith, place, long, torn.no_shorter)) (omega (arith, place, long))
    (λ i below. states_apart shape old new k i low below long torn)

-- ---- zeros after the extents

pub zeros_of_states : (shape : Shape) (extents old new : List ℕ) → file_size shape ≤ length old → Torn 32 (page_count shape) old new
    → ZerosAfterExtents shape extents old → ZerosAfterExtents shape extents new
zeros_of_states shape extents old new long torn zeros k i low from below = states_apart shape old new k i low below long torn ∙ zeros k i low from below

zeros_any : (n i : ℕ) → ◌≡◌ {A = ℕ} (get_or (replicate n 0) i 0) 0
zeros_any zero i = refl
zeros_any (suc n) zero = refl
zeros_any (suc n) (suc i) = zeros_any n i

-- a byte of a front with zeros after it
padded_front : (n : ℕ) (front : List ℕ) (i : ℕ) → i < length front → slice_index (padded n front) i ≡ slice_index front i
padded_front n front i low = get_or_append_left front (replicate (n - length front) 0) 0 i low

padded_zero : (n : ℕ) (front : List ℕ) (i : ℕ) → length front ≤ i → slice_index (padded n front) i ≡ 0
padded_zero n front i high = get_or-append_right front (replicate (n - length front) 0) (length front) i 0 refl high ∙ zeros_any (n - length front) (i - length front)

padded_same : (n m : ℕ) (front : List ℕ) (i : ℕ) → slice_index (padded n front) i ≡ slice_index (padded m front) i
padded_same n m front i =
    elim (cases_lt i (length front)) [
      | inl low ↦ padded_front n front i low ∙ sym (padded_front m front i low)
      | inr high ↦ padded_zero n front i high ∙ sym (padded_zero m front i high)
    ]

-- A write of the first bytes of a page: as many as its front has, and as its place may differ from zero.
module _ (shape : Shape) (old new extents front : List ℕ) (page need : ℕ) (exists : page < page_count shape) (sized : length extents ≡ page_count shape)
    (short : length front ≤ need) (most : need ≤ shape.page_bytes) (reach : (k : ℕ) → need ≤ k → k < shape.page_bytes → slice_index extents page ≤ k)
    (torn : Torn (page_place shape page) need old new) (long : file_size shape ≤ length old) (zeros : ZerosAfterExtents shape extents old) where
  whole_torn : Torn (page_place shape page) shape.page_bytes old new
  whole_torn = torn_within (page_place shape page) shape.page_bytes (page_place shape page) need old new (omega arith) (omega (arith, most)) torn

  after_need : (i : ℕ) → need ≤ i → i < shape.page_bytes → slice_index new (page_place shape page + i) ≡ 0
  after_need i from below =
      let place = (page_fits shape page exists).1 in
      torn.above (page_place shape page + i) (omega (arith, place, below, long)) (omega (arith, from)) ∙ zeros page i exists (reach i from below) below

  pub zeros_raised : ZerosAfterExtents shape (slice_set extents page need) new
  zeros_raised k i low from below =
      elim (cases_eq k page) [
        | inl is ↦
            let own : slice_index (slice_set extents page need) page ≡ need = get_or-set_same extents page need 0 (omega (arith, exists, sized)) in
            rw is (after_need i (let at : slice_index (slice_set extents page need) page ≤ i = rw is at from in omega (arith, at, own)) below)
        | inr other ↦
            let own : slice_index (slice_set extents page need) k ≡ slice_index extents k = get_or-set_other extents page k need 0 other in
            page_apart shape old new page k i exists low other below long whole_torn ∙ zeros k i low (omega (arith, from, own)) below
      ]

  module _ (held : 0 < need → Holds new (page_place shape page) (padded need front)) where
    byte_put : (i : ℕ) → i < shape.page_bytes → slice_index new (page_place shape page + i) ≡ slice_index (padded shape.page_bytes front) i
    byte_put i below =
        elim (cases_lt i need) [
          | inl inside ↦
              let size = length-padded need front short in
              (held (omega arith)).each i (omega (arith, inside, size)) ∙ padded_same need shape.page_bytes front i
          | inr past ↦ after_need i past below ∙ sym (padded_zero shape.page_bytes front i (omega (arith, past, short)))
        ]

    pub front_put : take shape.page_bytes (drop (page_place shape page) new) ≡ padded shape.page_bytes front
    unfolding bytes_at
    front_put =
        let place = (page_fits shape page exists).1 in
        let sized_new = length-part new (page_place shape page) shape.page_bytes (omega (arith, place, long, torn.no_shorter)) in
        let all = length-padded shape.page_bytes front (omega (arith, short, most)) in
        ext_get_or 0 _ _ (sized_new ∙ sym all) (λ i low.
        let below : i < shape.page_bytes = omega (arith, low, sized_new) in
        index-part new (page_place shape page) shape.page_bytes i below ∙ byte_put i below)

    pub zeros_put : ZerosAfterExtents shape (slice_set (slice_set extents page need) page (length front)) new
    zeros_put k i low from below =
        elim (cases_eq k page) [
          | inl is ↦
              let own : slice_index (slice_set (slice_set extents page need) page (length front)) page ≡ length front =
              get_or-set_same (slice_set extents page need) page (length front) 0 (omega (arith, exists, sized, length-set extents page need)) in
              rw is (byte_put i below ∙ padded_zero shape.page_bytes front i
              (let at : slice_index (slice_set (slice_set extents page need) page (length front)) page ≤ i = rw is at from in omega (arith, at, own)))
          | inr other ↦
              let own : slice_index (slice_set (slice_set extents page need) page (length front)) k ≡ slice_index (slice_set extents page need) k =
              get_or-set_other (slice_set extents page need) page k (length front) 0 other in
              zeros_raised k i low (omega (arith, from, own)) below
        ]

-- ---- the pages that an image may lack, as steps that set them

lacking_from : ℕ → List Bool → List Mark
lacking_from at [] = []
lacking_from at (true ∷ lacks) = program at [] ∷ lacking_from (suc at) lacks
lacking_from at (false ∷ lacks) = lacking_from (suc at) lacks

from_sets : (shape : Shape) (at : ℕ) (lacks : List Bool) (k : ℕ) → get_or lacks k false ≡ true → Sets shape (lacking_from at lacks) (at + k)
unfolding lacking_from
from_sets shape at [] k is = absurd (let clash : false ≡ true = is in cc)
from_sets shape at (true ∷ lacks) zero is = inl (omega arith)
from_sets shape at (false ∷ lacks) zero is = absurd (let clash : false ≡ true = is in cc)
from_sets shape at (true ∷ lacks) (suc k) is = let next : suc at + k ≡ at + suc k = omega arith in inr (rw next at (from_sets shape (suc at) lacks k is))
from_sets shape at (false ∷ lacks) (suc k) is = let next : suc at + k ≡ at + suc k = omega arith in rw next at (from_sets shape (suc at) lacks k is)

from_only : (shape : Shape) (at : ℕ) (lacks : List Bool) (k : ℕ) → Sets shape (lacking_from at lacks) k → (i : ℕ) × (k ≡ at + i) × (get_or lacks i false ≡ true)
unfolding lacking_from
from_only shape at [] k sets = absurd sets
from_only shape at (true ∷ lacks) k sets =
    elim sets [
      | inl is ↦ (0, omega (arith, is), refl)
      | inr later ↦ let (i, is, lacking) = from_only shape (suc at) lacks k later in (suc i, omega (arith, is), lacking)
    ]
from_only shape at (false ∷ lacks) k sets = let (i, is, lacking) = from_only shape (suc at) lacks k sets in (suc i, omega (arith, is), lacking)

pub lacking_marks : List Bool → List Mark
lacking_marks lacks = lacking_from 0 lacks

pub lacking_sets : (shape : Shape) (lacks : List Bool) (k : ℕ) → get_or lacks k false ≡ true → Sets shape (lacking_marks lacks) k
unfolding lacking_marks
lacking_sets shape lacks k is = let here : 0 + k ≡ k = omega arith in rw here at (from_sets shape 0 lacks k is)

pub has_unset : (shape : Shape) (lacks : List Bool) (k : ℕ) → get_or lacks k false ≡ false → ¬ Sets shape (lacking_marks lacks) k
unfolding lacking_marks
has_unset shape lacks k not sets =
    let (i, is, lacking) = from_only shape 0 lacks k sets in
    let here : k ≡ i = omega (arith, is) in
    let clash : false ≡ true = sym not ∙ ap (λ (n : ℕ). get_or lacks n false) here ∙ lacking in
    absurd cc
