-- Tables of states, four in a byte; and pages that are noted as set.
use Rattle.std.proofs.Common.{◌≡◌, ◌≢◌, ◌⊎◌, ℕ, zero, suc, ◌+◌, ◌*◌, ◌/◌, ◌%◌, ◌^◌, ◌<◌, ◌≤◌, List, [], ◌∷◌, ◌++◌}
use Rattle.std.proofs.Common.{length, take, slice_index, slice_set, get_or, sym, refl, ◌∙◌, ap, inl, inr, arith, Bool, true, false}
use Rattle.std.{proofs.lemmas.Bool.cases_eq, proofs.lemmas.Bool.cases_lt, proofs.lemmas.List.get_or-set_same}
use Rattle.std.{proofs.lemmas.List.take_more, proofs.lemmas.List.map-append, proofs.lemmas.List.get_or-set_other}
use Rattle.std.specs.Prelude.{if◌then◌else◌, ◌==◌, ◌↔◌}
use Rattle.std.proofs.Math.Nat.{mul_assoc}
use Rattle.pk_base.{specs.Shape.Shape, specs.Shape.IsShape, specs.Shape.page_count, specs.Page.Page, specs.Page.erased, specs.Page.whole, specs.Page.torn, specs.Mark.Mark}
use Rattle.pk_base.proofs.BlockLemmas.{in_block, of_block}
use Rattle.pk_image.specs.Image.{state_byte, page_by}
use Rattle.pk_redo.specs.declared.step.Step.{Step}
use Rattle.pk_redo.specs.Steps.{SetBy, Sets, step_mark, step_marks}
use Rattle.pk_redo.proofs.Replaying.{sets_first}
use Rattle.pk_redo.specs.Record.{state_in, said}

digit_0 : (a b c d p : ℕ) → a < 4 → b < 4 → c < 4 → d < 4 → p ≡ a + 4 * b + 16 * c + 64 * d → p / 4 ^ 0 % 4 ≡ a
digit_0 a b c d p ha hb hc hd is = omega arith

digit_1 : (a b c d p : ℕ) → a < 4 → b < 4 → c < 4 → d < 4 → p ≡ a + 4 * b + 16 * c + 64 * d → p / 4 ^ 1 % 4 ≡ b
digit_1 a b c d p ha hb hc hd is = omega arith

digit_2 : (a b c d p : ℕ) → a < 4 → b < 4 → c < 4 → d < 4 → p ≡ a + 4 * b + 16 * c + 64 * d → p / 4 ^ 2 % 4 ≡ c
digit_2 a b c d p ha hb hc hd is = omega arith

digit_3 : (a b c d p : ℕ) → a < 4 → b < 4 → c < 4 → d < 4 → p ≡ a + 4 * b + 16 * c + 64 * d → p / 4 ^ 3 % 4 ≡ d
digit_3 a b c d p ha hb hc hd is = omega arith

-- a byte of the table, whose states are some of a page by its number
digit : (states : ℕ → ℕ) → ((k : ℕ) → states k < 4) → (first r p : ℕ) → r < 4 → p ≡ states first + 4 * states (first + 1) + 16 * states (first + 2) + 64 * states (first + 3)
    → p / 4 ^ r % 4 ≡ states (first + r)
digit states small first r p low is =
    elim (cases_eq r 0) [
      | inl e ↦ let here : first + 0 ≡ first = omega arith in rw (e, here) (digit_0 _ _ _ _ p (small first) (small (first + 1)) (small (first + 2)) (small (first + 3)) is)
      | inr none ↦ elim (cases_eq r 1) [
        | inl e ↦ rw e (digit_1 _ _ _ _ p (small first) (small (first + 1)) (small (first + 2)) (small (first + 3)) is)
        | inr one ↦ elim (cases_eq r 2) [
          | inl e ↦ rw e (digit_2 _ _ _ _ p (small first) (small (first + 1)) (small (first + 2)) (small (first + 3)) is)
          | inr two ↦ let e : r ≡ 3 = omega arith in rw e (digit_3 _ _ _ _ p (small first) (small (first + 1)) (small (first + 2)) (small (first + 3)) is)
        ]
      ]
    ]

-- four more states in a table
pub table_more : (batch : List ℕ) (states : ℕ → ℕ) (at i p : ℕ) → ((k : ℕ) → states k < 4) → at + i < length batch
    → p ≡ states (4 * i) + 4 * states (4 * i + 1) + 16 * states (4 * i + 2) + 64 * states (4 * i + 3)
    → ((k : ℕ) → k < 4 * i → state_in batch at k ≡ states k) → (k : ℕ) → k < 4 * (i + 1) → state_in (slice_set batch (at + i) p) at k ≡ states k
unfolding state_in
table_more batch states at i p small inside is before k low =
    elim (cases_lt k (4 * i)) [
      | inl old ↦
          let apart : at + k / 4 ≢ at + i = λ e. omega (arith, e, old) in
          ap (λ (b : ℕ). b / 4 ^ (k % 4) % 4) (get_or-set_other batch (at + i) (at + k / 4) p 0 apart) ∙ before k old
      | inr new ↦
          let byte : k / 4 ≡ i = omega arith in
          let place : at + k / 4 ≡ at + i = ap (λ (n : ℕ). at + n) byte in
          let whole : 4 * i + k % 4 ≡ k = omega arith in
          let there : slice_index (slice_set batch (at + i) p) (at + k / 4) ≡ p = ap (slice_index (slice_set batch (at + i) p)) place ∙ get_or-set_same batch (at + i) p 0 inside in
          ap (λ (b : ℕ). b / 4 ^ (k % 4) % 4) there ∙ digit states small (4 * i) (k % 4) p (omega arith) is ∙ ap states whole
    ]

-- a state that is read out of its byte
pub state_read : (bytes : List ℕ) (at page r : ℕ) → page % 4 ≡ r → slice_index bytes (at + page / 4) / 4 ^ r % 4 ≡ state_in bytes at page
unfolding state_in
state_read bytes at page r is = rw is refl

-- a state byte says one of three states
state_small : (a b : Bool) (bytes : List ℕ) → state_byte (if a then erased else if b then whole bytes else torn) < 4
state_small true b bytes = omega arith
state_small false true bytes = omega arith
state_small false false bytes = omega arith

pub said_small : (byte : ℕ) → said byte < 4
said_small byte = state_small (byte == 0) (byte == 1) []

-- and it is the state of a page with any bytes
state_of_tests : (a b : Bool) (one other : List ℕ)
    → state_byte (if a then erased else if b then whole one else torn) ≡ state_byte (if a then erased else if b then whole other else torn)
state_of_tests true b one other = refl
state_of_tests false true one other = refl
state_of_tests false false one other = refl

pub said_page : (byte : ℕ) (bytes : List ℕ) → state_byte (page_by byte bytes) ≡ said byte
said_page byte bytes = state_of_tests (byte == 0) (byte == 1) bytes []

pub said_state : (page : Page) → said (state_byte page) ≡ state_byte page
said_state erased = refl
said_state (whole bytes) = refl
said_state torn = refl

-- a page by its state and by the bytes that it has if it is Whole
pub page_shown : (page : Page) (byte : ℕ) (bytes : List ℕ) → byte ≡ state_byte page → ((own : List ℕ) → page ≡ whole own → own ≡ bytes) → page_by byte bytes ≡ page
page_shown erased byte bytes is own = rw is refl
page_shown (whole other) byte bytes is own = rw is (ap whole (sym (own other refl)))
page_shown torn byte bytes is own = rw is refl

-- a shape has a multiple of four pages
pub fours : (shape : Shape) → IsShape shape → page_count shape % 4 ≡ 0
fours shape is =
    let eights : shape.block_pages % 8 ≡ 0 = is.eights in
    let quarter : shape.block_pages ≡ 4 * (shape.block_pages / 4) = omega (arith, eights) in
    let all : page_count shape ≡ 4 * (shape.block_pages / 4 * shape.blocks) = ap (λ (n : ℕ). n * shape.blocks) quarter ∙ mul_assoc 4 (shape.block_pages / 4) shape.blocks in
    omega (arith, all)

-- a page of a table is in it
pub in_table : (shape : Shape) (k : ℕ) → IsShape shape → k < page_count shape → k / 4 < page_count shape / 4
in_table shape k is low = let all = fours shape is in omega (arith, all, low)

-- ---- pages that steps set

pub sets_last : (shape : Shape) (xs : List Mark) (mark : Mark) (k : ℕ) → SetBy shape mark k → Sets shape (xs ++ (mark ∷ [])) k
sets_last shape [] mark k is = inl is
sets_last shape (x ∷ xs) mark k is = inr (sets_last shape xs mark k is)

pub sets_either : (shape : Shape) (xs : List Mark) (mark : Mark) (k : ℕ) → Sets shape (xs ++ (mark ∷ [])) k → Sets shape xs k ⊎ SetBy shape mark k
sets_either shape [] mark k sets = elim sets [ inl is ↦ inr is | inr none ↦ absurd none ]
sets_either shape (x ∷ xs) mark k sets =
    elim sets [ inl is ↦ inl (inl is) | inr later ↦ elim (sets_either shape xs mark k later) [ inl early ↦ inl (inr early) | inr last ↦ inr last ] ]

-- a page that is set is no page that is not
pub set_apart : (set : List Bool) (k page : ℕ) → get_or set k false ≡ false → get_or set page false ≡ true → k ≢ page
set_apart set k page not is same = let both : false ≡ true = sym not ∙ ap (λ (n : ℕ). get_or set n false) same ∙ is in cc

-- a page is set, or it is not
pub lacks_or_not : (set : List Bool) (k : ℕ) → (get_or set k false ≡ true) ⊎ (get_or set k false ≡ false)
lacks_or_not [] k = inr refl
lacks_or_not (true ∷ set) zero = inl refl
lacks_or_not (false ∷ set) zero = inr refl
lacks_or_not (x ∷ set) (suc k) = lacks_or_not set k

-- a page that is set is one of them
pub set_within : (set : List Bool) (k : ℕ) → get_or set k false ≡ true → k < length set
set_within [] k is = absurd (let clash : false ≡ true = is in cc)
set_within (x ∷ xs) zero is = omega arith
set_within (x ∷ xs) (suc k) is = let below = set_within xs k is in omega (arith, below)

-- what is not set now was not, and did not become so
pub unset_both : (a b : Bool) (P : Type 0) → ((b ≡ true) ⊎ P → a ≡ true) → a ≡ false → (b ≡ false) × (¬ P)
unset_both a true P back not = absurd (let clash : false ≡ true = sym not ∙ back (inl refl) in cc)
unset_both a false P back not = (refl, λ p. let clash : false ≡ true = sym not ∙ back (inr p) in cc)

-- one page became set, and the others are as they were
pub one_set : (at k : ℕ) (old new : List Bool) → at < length old → ((k : ℕ) → at ≤ k → k < at + 1 → k < length old → get_or new k false ≡ true)
    → ((k : ℕ) → (k < at) ⊎ (at + 1 ≤ k) → get_or new k false ≡ get_or old k false)
    → (get_or new k false ≡ true → (get_or old k false ≡ true) ⊎ (k ≡ at)) × ((get_or old k false ≡ true) ⊎ (k ≡ at) → get_or new k false ≡ true)
one_set at k old new low inside outside =
    elim (cases_eq k at) [
      | inl is ↦ (λ lacks. inr is, λ known. inside k (omega (arith, is)) (omega (arith, is)) (omega (arith, is, low)))
      | inr other ↦
          let same = outside k (elim (cases_lt k at) [ inl before ↦ inl before | inr from ↦ inr (omega (arith, from, other)) ]) in
          (λ lacks. inl (sym same ∙ lacks), λ known. elim known [ inl was ↦ same ∙ was | inr is ↦ absurd (other is) ])
    ]

-- the pages of a row became set, and the others are as they were
pub row_set : (shape : Shape) (block k : ℕ) (old new : List Bool) → 0 < shape.block_pages → k < length old
    → ((k : ℕ) → block * shape.block_pages ≤ k → k < block * shape.block_pages + shape.block_pages → k < length old → get_or new k false ≡ true)
    → ((k : ℕ) → (k < block * shape.block_pages) ⊎ (block * shape.block_pages + shape.block_pages ≤ k) → get_or new k false ≡ get_or old k false)
    → (get_or new k false ≡ true → (get_or old k false ≡ true) ⊎ (k / shape.block_pages ≡ block)) × ((get_or old k false ≡ true) ⊎ (k / shape.block_pages ≡ block) → get_or new k false ≡ true)
row_set shape block k old new some low inside outside =
    elim (cases_lt k (block * shape.block_pages)) [
      | inl before ↦ (
        λ is. inl (sym (outside k (inl before)) ∙ is),
        λ known. elim known [
          | inl is ↦ outside k (inl before) ∙ is
          | inr e ↦ let place = of_block shape.block_pages block k some e in absurd (omega (arith, place.0, before))
        ],
      )
      | inr from ↦ elim (cases_lt k (block * shape.block_pages + shape.block_pages)) [
        | inl to ↦ (λ is. inr (in_block shape.block_pages block k from to), λ known. inside k from to low)
        | inr past ↦ (
          λ is. inl (sym (outside k (inr past)) ∙ is),
          λ known. elim known [
            | inl is ↦ outside k (inr past) ∙ is
            | inr e ↦ let place = of_block shape.block_pages block k some e in absurd (omega (arith, place.1, past))
          ],
        )
      ]
    ]

-- one more step is noted
pub sets_more : (shape : Shape) (log : List ℕ) (steps : List Step) (i : ℕ) (d : Step) (k : ℕ) (old new : List Bool) → i < length steps
    → ((get_or old k false ≡ true) ↔ Sets shape (step_marks shape log (take i steps)) k)
    → ((get_or new k false ≡ true) ↔ ((get_or old k false ≡ true) ⊎ SetBy shape (step_mark shape log (get_or steps i d)) k))
    → (get_or new k false ≡ true) ↔ Sets shape (step_marks shape log (take (i + 1) steps)) k
sets_more shape log steps i d k old new low was is =
    let mark : Mark = step_mark shape log (get_or steps i d) in
    let all = ap (step_marks shape log) (take_more steps i d low) ∙ map-append (step_mark shape log) (take i steps) (get_or steps i d ∷ []) in
    rw all (
      λ now. elim (is.0 now) [
        | inl before ↦ sets_first shape (step_marks shape log (take i steps)) (mark ∷ []) k (was.0 before)
        | inr here ↦ sets_last shape (step_marks shape log (take i steps)) mark k here
      ],
      λ sets. is.1 (elim (sets_either shape (step_marks shape log (take i steps)) mark k sets) [ inl before ↦ inl (was.1 before) | inr here ↦ inr here ]),
    )
