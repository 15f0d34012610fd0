-- The reading of a value, page by page: it goes on after pages that are right, and refuses with the first that is not.
use Rattle.std.proofs.Common.{◌≡◌, ℕ, zero, suc, ◌+◌, ◌-◌, ◌*◌, ◌<◌, ◌≤◌, Bool, true, false, ◌&&◌, List, [], ◌++◌, take, drop, refl, sym, ap, ◌∙◌, arith, inl, inr}
use Rattle.std.{specs.Prelude.Result, specs.Prelude.Ok, specs.Prelude.Err, specs.Prelude.nat_eq, specs.Prelude.◌==◌, specs.List.list_all, specs.List.starts_with}
use Rattle.std.proofs.lemmas.Bool.{false≢true, cases_Bool}
use Rattle.pk_base.{specs.Shape.Shape, specs.Page.Page, specs.Page.whole, specs.Refusal.Refusal, specs.Refusal.damaged, specs.Refusal.◌>>=◌, specs.Refusal.ensure}
use Rattle.pk_segfmt.specs.Value.{value_page, value_from}
use Rattle.pk_scan.specs.Pages.{front_of, passes}

-- ---- one page

-- both tests of a page, and what comes of the rest
abbrev tested : ℕ → Bool → Bool → List ℕ → Result (List ℕ) Refusal → Result (List ℕ) Refusal
tested page a b piece rest = ensure a page >>= (λ _. ensure b page >>= (λ _. rest >>= (λ r. Ok (piece ++ r))))

both_true : (page : ℕ) (a b : Bool) (piece : List ℕ) (rest : Result (List ℕ) Refusal) → (a && b) ≡ true → tested page a b piece rest ≡ (rest >>= (λ r. Ok (piece ++ r)))
both_true page true true piece rest e = refl
both_true page _ _ piece rest e = absurd (false≢true e)

one_false : (page : ℕ) (a b : Bool) (piece : List ℕ) (rest : Result (List ℕ) Refusal) → (a && b) ≡ false → tested page a b piece rest ≡ Err (damaged page)
one_false page true true piece rest e = absurd (false≢true (sym e))
one_false page _ _ piece rest e = refl

passed : (page : ℕ) (front : List ℕ) (left : ℕ) (p : Page) (go_on : List ℕ → Result (List ℕ) Refusal) → passes front left p ≡ true
    → (bytes : List ℕ) × (value_page page front left p go_on ≡ (go_on bytes >>= (λ rest. Ok (take left bytes ++ rest))))
passed page front left (whole bytes) go_on e = (bytes, both_true page (starts_with nat_eq bytes front) (list_all (λ b. b == 0) (drop left bytes)) (take left bytes) (go_on bytes) e)
passed page front left _ go_on e = absurd (false≢true e)

refused : (page : ℕ) (front : List ℕ) (left : ℕ) (p : Page) (go_on : List ℕ → Result (List ℕ) Refusal) → passes front left p ≡ false → value_page page front left p go_on ≡ Err (damaged page)
refused page front left (whole bytes) go_on e = one_false page (starts_with nat_eq bytes front) (list_all (λ b. b == 0) (drop left bytes)) (take left bytes) (go_on bytes) e
refused page front left _ go_on e = refl

-- what refuses after a page is what refuses
pub through : (rest : Result (List ℕ) Refusal) (f : List ℕ → List ℕ) (e : Refusal) → (rest >>= (λ r. Ok (f r))) ≡ Err e → rest ≡ Err e
through (Ok r) f e is = cc
through (Err g) f e is = cc

same_page : (p q : ℕ) → ◌≡◌ {A = Result (List ℕ) Refusal} (Err (damaged p)) (Err (damaged q)) → p ≡ q
same_page p q e = cc

-- ---- several

front_none : (k : ℕ) → front_of [] k ≡ []
front_none zero = refl
front_none (suc k) = refl

module _ (shape : Shape) (at : ℕ → Page) where
  abbrev size : ℕ
  size = shape.page_bytes

  -- page k of the pages from here on is right
  abbrev pub Right : ℕ → List ℕ → ℕ → ℕ → Type 0
  Right page front left k = passes (front_of front k) (left - k * size) (at (page + k)) ≡ true

  first_is : (page : ℕ) (front : List ℕ) (left : ℕ) → passes (front_of front 0) (left - 0 * size) (at (page + 0)) ≡ passes front left (at page)
  first_is page front left =
      let none : left - 0 * size ≡ left = omega arith in
      let here : page + 0 ≡ page = omega arith in
      λ i. passes front (none i) (at (here i))

  next_is : (page : ℕ) (front : List ℕ) (left k : ℕ)
      → passes (front_of [] k) (left - size - k * size) (at ((page + 1) + k)) ≡ passes (front_of front (suc k)) (left - suc k * size) (at (page + suc k))
  next_is page front left k =
      let less : left - size - k * size ≡ left - suc k * size = omega arith in
      let there : (page + 1) + k ≡ page + suc k = omega arith in
      λ i. passes (front_none k i) (less i) (at (there i))

  -- all are right: the value is found
  pub all_right : (n page : ℕ) (front : List ℕ) (left : ℕ) → ((k : ℕ) → k < n → Right page front left k) → (bytes : List ℕ) × (value_from shape at page front left n ≡ Ok bytes)
  all_right zero page front left each = ([], refl)
  all_right (suc n) page front left each =
      let p = passed page front left (at page) (λ bytes. value_from shape at (page + 1) [] (left - size) n) (sym (first_is page front left) ∙ each 0 (omega arith)) in
      let more = all_right n (page + 1) [] (left - size) (λ (k : ℕ) (less : k < n). next_is page front left k ∙ each (suc k) (omega arith)) in
      (take left p.0 ++ more.0, p.1 ∙ ap (λ (r : Result (List ℕ) Refusal). r >>= (λ rest. Ok (take left p.0 ++ rest))) more.1)

  -- the first that is not refuses
  pub first_wrong : (i n page : ℕ) (front : List ℕ) (left : ℕ) → i < n → ((k : ℕ) → k < i → Right page front left k)
      → passes (front_of front i) (left - i * size) (at (page + i)) ≡ false → value_from shape at page front left n ≡ Err (damaged (page + i))
  first_wrong i zero page front left less each wrong = absurd (omega arith)
  first_wrong zero (suc n) page front left less each wrong =
      let here : page ≡ page + 0 = omega arith in
      refused page front left (at page) (λ bytes. value_from shape at (page + 1) [] (left - size) n) (sym (first_is page front left) ∙ wrong) ∙ ap (λ (k : ℕ). Err (damaged k)) here
  first_wrong (suc i) (suc n) page front left less each wrong =
      let p = passed page front left (at page) (λ bytes. value_from shape at (page + 1) [] (left - size) n) (sym (first_is page front left) ∙ each 0 (omega arith)) in
      let more =
      first_wrong i n (page + 1) [] (left - size) (omega arith) (λ (k : ℕ) (lower : k < i). next_is page front left k ∙ each (suc k) (omega arith)) (next_is page front left i ∙ wrong) in
      let there : (page + 1) + i ≡ page + suc i = omega arith in
      p.1 ∙ ap (λ (r : Result (List ℕ) Refusal). r >>= (λ rest. Ok (take left p.0 ++ rest))) more ∙ ap (λ (k : ℕ). Err (damaged k)) there

  -- no page before the first refuses
  at_or_behind : (n page : ℕ) (front : List ℕ) (left q : ℕ) → value_from shape at page front left n ≡ Err (damaged q) → page ≤ q
  at_or_behind zero page front left q e = cc
  at_or_behind (suc n) page front left q e = elim (cases_Bool (passes front left (at page))) [
    | inl right ↦
        let p = passed page front left (at page) (λ bytes. value_from shape at (page + 1) [] (left - size) n) right in
        let rest = at_or_behind n (page + 1) [] (left - size) q (through (value_from shape at (page + 1) [] (left - size) n) (λ r. take left p.0 ++ r) (damaged q) (sym p.1 ∙ e)) in
        omega (arith, rest)
    | inr wrong ↦
        let is = same_page page q (sym (refused page front left (at page) (λ bytes. value_from shape at (page + 1) [] (left - size) n) wrong) ∙ e) in
        omega (arith, is)
  ]

  -- what refuses comes after all that are right
  pub not_before : (i n page : ℕ) (front : List ℕ) (left q : ℕ) → i ≤ n → ((k : ℕ) → k < i → Right page front left k) → value_from shape at page front left n ≡ Err (damaged q) → page + i ≤ q
  not_before zero n page front left q room each e = omega (arith, at_or_behind n page front left q e)
  not_before (suc i) zero page front left q room each e = absurd (omega arith)
  not_before (suc i) (suc n) page front left q room each e =
      let p = passed page front left (at page) (λ bytes. value_from shape at (page + 1) [] (left - size) n) (sym (first_is page front left) ∙ each 0 (omega arith)) in
      let rest =
      not_before i n (page + 1) [] (left - size) q (omega arith) (λ (k : ℕ) (lower : k < i). next_is page front left k ∙ each (suc k) (omega arith))
      (through (value_from shape at (page + 1) [] (left - size) n) (λ r. take left p.0 ++ r) (damaged q) (sym p.1 ∙ e)) in
      omega (arith, rest)
