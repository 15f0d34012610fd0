-- Which inner blocks and pages have the outer ones: no inner block has two, and no unused spare and no table block has one.
use Rattle.std.proofs.Common.{◌≡◌, ◌≢◌, ◌⊎◌, inl, inr, ℕ, zero, suc, ◌+◌, ◌*◌, ◌/◌, ◌%◌, ◌<◌, ◌≤◌, Bool, true, false, List, [], ◌∷◌, ◌++◌, length, refl, sym, ap, subst, ◌∙◌, arith, Some, zero-add}
use Rattle.std.proofs.Common.{add-zero}
use Rattle.std.proofs.Math.Nat.{mul_comm}
use Rattle.std.{proofs.lemmas.Nat.div-mul-add, proofs.lemmas.Nat.div-add-mod', proofs.lemmas.Option.same_Some, proofs.lemmas.Bool.Decides.nat_tests}
use Rattle.std.{specs.Prelude.nat_eq, specs.Prelude.nat_lt, specs.Prelude.◌==◌, specs.Prelude.if◌then◌else◌, specs.Prelude.slice_get, specs.Prelude.replicate, proofs.Math.Nat.mod-lt}
use Rattle.pk_base.{specs.Shape.Shape, specs.Shape.page_count, specs.Page.Page, specs.Page.Flash, specs.Page.page_at, specs.Page.whole, specs.Page.torn, specs.Page.IsPage, specs.Page.IsFlash}
use Rattle.pk_nand.proofs.Leaving.{same_pages}
use Rattle.pk_remap.{specs.declared.layout.TheConstants.FAILED, specs.Table.SpareTable}
use Rattle.pk_remap.specs.Places.{serving, place, placed_page, pages_from, through_by, with_one_more}

-- ---- the spare that serves a block

-- a spare of these serves the block
pub record Serves (spare : ℕ) (bs : List ℕ) (block result : ℕ) : Type 0 where
  pub i : ℕ
  pub less : i < length bs
  pub is : slice_get bs i ≡ Some block
  pub at : result ≡ spare + i

pub serving-cases : (spare : ℕ) (bs : List ℕ) (block found : ℕ) → (serving spare bs block found ≡ found) ⊎ Serves spare bs block (serving spare bs block found)
serving-cases spare [] block found = inl refl
serving-cases spare (b ∷ bs) block found = by (nat_eq b block) refl (λ f. serving-cases (suc spare) bs block f)
  where
    by : (t : Bool) → nat_eq b block ≡ t → ((f : ℕ) → (serving (suc spare) bs block f ≡ f) ⊎ Serves (suc spare) bs block (serving (suc spare) bs block f))
        → (serving spare (b ∷ bs) block found ≡ found) ⊎ Serves spare (b ∷ bs) block (serving spare (b ∷ bs) block found)
    by true e more =
        let same : b ≡ block = grind (arith, nat_tests) in
        let here : serving spare (b ∷ bs) block found ≡ serving (suc spare) bs block spare = ap
        (λ (t : Bool). serving (suc spare) bs block (if t then spare else found)) e in
        elim (more spare) [
          | inl is ↦ inr (record { i = 0; less = omega arith; is = ap (λ (x : ℕ). Some x) same; at = here ∙ is ∙ sym (add-zero spare) })
          | inr s ↦ inr (record { i = suc s.i; less = omega (arith, s.less); is = s.is; at = here ∙ s.at ∙ omega arith })
        ]
    by false e more =
        let here : serving spare (b ∷ bs) block found ≡ serving (suc spare) bs block found = ap
        (λ (t : Bool). serving (suc spare) bs block (if t then spare else found)) e in
        elim (more found) [
          | inl is ↦ inl (here ∙ is)
          | inr s ↦ inr (record { i = suc s.i; less = omega (arith, s.less); is = s.is; at = here ∙ s.at ∙ omega arith })
        ]

pub serving-append : (spare : ℕ) (front bs : List ℕ) (block found : ℕ)
    → serving spare (front ++ bs) block found ≡ serving (spare + length front) bs block (serving spare front block found)
serving-append spare [] bs block found = ap (λ (k : ℕ). serving k bs block found) (sym (add-zero spare))
serving-append spare (a ∷ front) bs block found =
    serving-append (suc spare) front bs block (if a == block then spare else found)
    ∙ ap (λ (k : ℕ). serving k bs block (serving (suc spare) front block (if a == block then spare else found)))
    (let e : suc spare + length front ≡ spare + suc (length front) = omega arith in e)

pub serving-failed : (n spare block found : ℕ) → block ≢ FAILED → serving spare (replicate n FAILED) block found ≡ found
serving-failed zero spare block found other = refl
serving-failed (suc n) spare block found other =
    let e : nat_eq FAILED block ≡ false = by (nat_eq FAILED block) refl in
    ap (λ (t : Bool). serving (suc spare) (replicate n FAILED) block (if t then spare else found)) e ∙ serving-failed n (suc spare) block found other
  where
    by : (t : Bool) → nat_eq FAILED block ≡ t → nat_eq FAILED block ≡ false
    by false e = e
    by true e = let same : block ≡ FAILED = grind (arith, nat_tests) in absurd (other same)

-- ---- places

module _ (shape : Shape) (table : SpareTable) where
  -- a block is in the inner block of its number, or in a spare that serves it
  pub place-cases : (b : ℕ) → (place shape table b ≡ b) ⊎ Serves shape.blocks table.serves b (place shape table b)
  place-cases b = serving-cases shape.blocks table.serves b b

  -- no block is in a spare after the used ones
  pub place-below : (b : ℕ) → b < shape.blocks → place shape table b < shape.blocks + length table.serves
  place-below b less = elim (place-cases b) [
    | inl is ↦ omega (arith, less, is)
    | inr s ↦ omega (arith, s.less, s.at)
  ]

  -- no two blocks are in one
  pub place-apart : (a b : ℕ) → a < shape.blocks → b < shape.blocks → place shape table a ≡ place shape table b → a ≡ b
  place-apart a b in_a in_b same = elim (place-cases a) [
    | inl is ↦ elim (place-cases b) [
      | inl is' ↦ sym is ∙ same ∙ is'
      | inr s ↦ absurd (omega (arith, in_a, is, same, s.at))
    ]
    | inr s ↦ elim (place-cases b) [
      | inl is' ↦ absurd (omega (arith, in_b, is', same, s.at))
      | inr s' ↦
          let i : s.i ≡ s'.i = omega (arith, same, s.at, s'.at) in
          let P : ℕ → Type 0 = λ k. slice_get table.serves k ≡ Some a in
          same_Some a b (sym (subst P i s.is) ∙ s'.is)
    ]
  ]

-- ---- pages

pub div-of : (q n r : ℕ) → r < n → (q * n + r) / n ≡ q
div-of q n r less = div-mul-add q n r less

pub mod-of : (q n r : ℕ) → r < n → (q * n + r) % n ≡ r
mod-of q n r less =
    let row : (q * n + r) / n * n + (q * n + r) % n ≡ q * n + r = div-add-mod' (q * n + r) n in
    let P : ℕ → Type 0 = λ x. x * n + (q * n + r) % n ≡ q * n + r in
    let moved : q * n + (q * n + r) % n ≡ q * n + r = subst P (div-of q n r less) row in
    omega (arith, moved)

module _ (shape : Shape) (table : SpareTable) (some : 0 < shape.block_pages) where
  abbrev n : ℕ
  n = shape.block_pages

  pub placed_page-div : (k : ℕ) → placed_page shape table k / n ≡ place shape table (k / n)
  placed_page-div k = div-of (place shape table (k / n)) n (k % n) (mod-lt k some)

  pub placed_page-mod : (k : ℕ) → placed_page shape table k % n ≡ k % n
  placed_page-mod k = mod-of (place shape table (k / n)) n (k % n) (mod-lt k some)

  -- the block of a page of the outer flash
  pub block_of : (k : ℕ) → k < n * shape.blocks → k / n < shape.blocks
  block_of k inside = by (k / n) (div-add-mod' k n) (mod-lt k some)
    where
      by : (q : ℕ) → q * n + k % n ≡ k → k % n < n → q < shape.blocks
      by q row less = below (shape.blocks) q (omega (arith, row, inside, mul_comm n shape.blocks))
        where
          below : (m q : ℕ) → q * n < m * n → q < m
          below zero q h = absurd (omega (arith, h))
          below (suc m) zero h = omega arith
          below (suc m) (suc q) h = let more = below m q (omega (arith, h)) in omega (arith, more)

  pub same_page : (a b : ℕ) → a / n ≡ b / n → a % n ≡ b % n → a ≡ b
  same_page a b quot rest =
      sym (div-add-mod' a n) ∙ ap (λ (x : ℕ). x * n + a % n) quot ∙ ap (λ (x : ℕ). b / n * n + x) rest ∙ div-add-mod' b n

  -- no two pages are in one
  pub placed_page-apart : (a b : ℕ) → a < n * shape.blocks → b < n * shape.blocks → placed_page shape table a ≡ placed_page shape table b → a ≡ b
  placed_page-apart a b in_a in_b same =
      let quot : a / n ≡ b / n = place-apart shape table (a / n) (b / n) (block_of a in_a)
      (block_of b in_b) (sym (placed_page-div a) ∙ ap (λ (x : ℕ). x / n) same ∙ placed_page-div b) in
      let rest : a % n ≡ b % n = sym (placed_page-mod a) ∙ ap (λ (x : ℕ). x % n) same ∙ placed_page-mod b in
      same_page a b quot rest

-- ---- the outer flash

pub length-pages_from : (at : ℕ → Page) (k n : ℕ) → length (pages_from at k n) ≡ n
length-pages_from at k zero = refl
length-pages_from at k (suc n) = ap suc (length-pages_from at (suc k) n)

pub page-pages_from : (at : ℕ → Page) (k n i : ℕ) → i < n → page_at (pages_from at k n) i ≡ at (k + i)
page-pages_from at k zero i less = absurd (omega (arith, less))
page-pages_from at k (suc n) zero less = ap at (sym (add-zero k))
page-pages_from at k (suc n) (suc i) less = page-pages_from at (suc k) n i (omega (arith, less)) ∙ ap at (let e : suc k + i ≡ k + suc i = omega arith in e)

pub page-past : (at : ℕ → Page) (k n i : ℕ) → n ≤ i → page_at (pages_from at k n) i ≡ torn
page-past at k zero i past = refl
page-past at k (suc n) zero past = absurd (omega (arith, past))
page-past at k (suc n) (suc i) past = page-past at (suc k) n i (omega (arith, past))

-- a page after the last is Torn
pub page-past_end : (flash : Flash) (k : ℕ) → length flash ≤ k → page_at flash k ≡ torn
page-past_end [] zero past = refl
page-past_end [] (suc k) past = refl
page-past_end (p ∷ ps) zero past = absurd (omega (arith, past))
page-past_end (p ∷ ps) (suc k) past = page-past_end ps k (omega (arith, past))

module _ (shape : Shape) (table : SpareTable) (at : ℕ → Page) where
  pub length-through : length (through_by shape table at) ≡ page_count shape
  length-through = length-pages_from (λ k. at (placed_page shape table k)) 0 (page_count shape)

  pub page-through : (k : ℕ) → k < page_count shape → page_at (through_by shape table at) k ≡ at (placed_page shape table k)
  page-through k inside = page-pages_from (λ j. at (placed_page shape table j)) 0 (page_count shape) k inside
      ∙ ap (λ (x : ℕ). at (placed_page shape table x)) (zero-add k)

  pub past-through : (k : ℕ) → page_count shape ≤ k → page_at (through_by shape table at) k ≡ torn
  past-through k past = page-past (λ j. at (placed_page shape table j)) 0 (page_count shape) k past

  -- it is the flash that has its pages
  pub is_through : (flash : Flash) → length flash ≡ page_count shape → ((k : ℕ) → k < page_count shape → at (placed_page shape table k) ≡ page_at flash k)
      → through_by shape table at ≡ flash
  is_through flash size same = same_pages flash (through_by shape table at) (length-through ∙ sym size) (λ k. by k (nat_lt k (page_count shape)) refl)
    where
      by : (k : ℕ) (t : Bool) → nat_lt k (page_count shape) ≡ t → page_at (through_by shape table at) k ≡ page_at flash k
      by k true t = let inside : k < page_count shape = grind (arith, nat_tests) in page-through k inside ∙ same k inside
      by k false t = let past : page_count shape ≤ k = grind (arith, nat_tests) in past-through k past ∙ sym (page-past_end flash k (omega (arith, past, size)))

  -- and one of its shape, if the inner pages are
  pub whole_through : ((k : ℕ) (bytes : List ℕ) → at k ≡ whole bytes → IsPage shape bytes) → IsFlash shape (through_by shape table at)
  whole_through full = record { size = length-through; full = λ k bytes is. by k bytes is (nat_lt k (page_count shape)) refl }
    where
      by : (k : ℕ) (bytes : List ℕ) → page_at (through_by shape table at) k ≡ whole bytes → (t : Bool) → nat_lt k (page_count shape) ≡ t → IsPage shape bytes
      by k bytes is true t =
          let inside : k < page_count shape = grind (arith, nat_tests) in
          full (placed_page shape table k) bytes (sym (page-through k inside) ∙ is)
      by k bytes is false t =
          let past : page_count shape ≤ k = grind (arith, nat_tests) in
          let none = sym (past-through k past) ∙ is in
          cc

-- ---- one spare more

module _ (shape : Shape) (table : SpareTable) (failed block : ℕ) (few : shape.blocks ≤ FAILED) (inside : block < shape.blocks) where
  more_serving : (b : ℕ) → b < shape.blocks
      → place shape (with_one_more table failed block) b
      ≡ (if block == b then shape.blocks + length table.serves + length (replicate failed FAILED) else place shape table b)
  more_serving b less =
      let other : b ≢ FAILED = λ e. omega (arith, less, few, e) in
      serving-append shape.blocks table.serves (replicate failed FAILED ++ block ∷ []) b b
      ∙ serving-append (shape.blocks + length table.serves) (replicate failed FAILED) (block ∷ []) b (place shape table b)
      ∙ ap (λ (x : ℕ). if block == b then shape.blocks + length table.serves + length (replicate failed FAILED) else x)
      (serving-failed failed (shape.blocks + length table.serves) b (place shape table b) other)

  -- the block is in the new spare, and each other block is in the same inner block as before
  pub more_here : place shape (with_one_more table failed block) block ≡ shape.blocks + length table.serves + length (replicate failed FAILED)
  more_here =
      let e : nat_eq block block ≡ true = grind (arith, nat_tests) in
      more_serving block inside ∙ ap
      (λ (t : Bool). if t then shape.blocks + length table.serves + length (replicate failed FAILED) else place shape table block) e

  pub more_other : (b : ℕ) → b < shape.blocks → b ≢ block → place shape (with_one_more table failed block) b ≡ place shape table b
  more_other b less other =
      more_serving b less ∙ ap (λ (t : Bool). if t then shape.blocks + length table.serves + length (replicate failed FAILED) else place shape table b)
      (by (nat_eq block b) refl)
    where
      by : (t : Bool) → nat_eq block b ≡ t → nat_eq block b ≡ false
      by false e = e
      by true e = let same : b ≡ block = grind (arith, nat_tests) in absurd (other same)
