-- The pages that a value has are the pages in which the reading of a flash finds it.
use Rattle.std.proofs.Common.{◌≡◌, ℕ, zero, suc, ◌+◌, ◌-◌, ◌*◌, ◌<◌, ◌≤◌, Bool, true, false, List, [], ◌∷◌, ◌++◌, length, take, drop, refl, sym, ap, ◌∙◌, arith, length-append, length-drop}
use Rattle.std.{specs.Prelude.min, specs.Prelude.nat_eq, specs.Prelude.◌==◌, specs.Prelude.Result, specs.Prelude.Ok, specs.Prelude.Err, specs.List.list_all, specs.List.starts_with}
use Rattle.std.{proofs.lemmas.Bool.Decides.Decides-eqb, proofs.lemmas.Bool.Decides.nat_tests, proofs.lemmas.Slice.Eq.starts_is}
use Rattle.std.proofs.lemmas.List.{take_all, drop_all, drop-drop, drop-replicate, length-take, length-replicate, take-append-drop, append_cancel_left, nil_from_length, append-nil}
use Rattle.pk_base.{specs.Fields.padded, specs.Fields.zeros, specs.Shape.Shape, specs.Page.Page, specs.Page.erased, specs.Page.whole, specs.Page.torn, proofs.Tables.length-padded}
use Rattle.pk_base.{specs.Refusal.Refusal, specs.Refusal.◌>>=◌, specs.Refusal.ensure, proofs.Logic.both_true}
use Rattle.pk_segfmt.{specs.Value.value_page, specs.Value.value_from, specs.Stored.AreFull, proofs.PageLemmas.drop_past, proofs.PageLemmas.take_past}

-- ---- the tests of the reading

-- a text begins with what precedes it
pub starts_front : (xs ys : List ℕ) → starts_with nat_eq (xs ++ ys) xs ≡ true
starts_front xs ys = (starts_is Decides-eqb (xs ++ ys) xs (starts_with nat_eq (xs ++ ys) xs) refl).1 ys refl

pub front_starts : (xs front : List ℕ) → starts_with nat_eq xs front ≡ true → xs ≡ front ++ drop (length front) xs
front_starts xs front e = (starts_is Decides-eqb xs front (starts_with nat_eq xs front) refl).0 e

zeros_pass : (n : ℕ) → list_all (λ b. b == 0) (zeros n) ≡ true
zeros_pass zero = refl
zeros_pass (suc n) = zeros_pass n

pass_zeros : (xs : List ℕ) → list_all (λ b. b == 0) xs ≡ true → xs ≡ zeros (length xs)
pass_zeros [] e = refl
pass_zeros (x ∷ xs) e =
    let tests = both_true (nat_eq x 0) (list_all (λ b. b == 0) xs) e in
    let first = tests.0 in
    let is : x ≡ 0 = grind (arith, nat_tests) in
    rw is (ap (λ (r : List ℕ). 0 ∷ r) (pass_zeros xs tests.1))

-- a piece of a page, between its tests and the rest
both_pass : (page : ℕ) (a b : Bool) (piece : List ℕ) (rest : Result (List ℕ) Refusal) → a ≡ true → b ≡ true
    → (ensure a page >>= (λ _. ensure b page >>= (λ _. rest >>= (λ r. Ok (piece ++ r))))) ≡ (rest >>= (λ r. Ok (piece ++ r)))
both_pass page a b piece rest p q = rw (p, q) refl

-- a page that passed its tests, and what came of the rest
record Passed (bytes front piece ys : List ℕ) (a b : Bool) (rest : Result (List ℕ) Refusal) : Type 0 where
  pub more : List ℕ
  pub starts : a ≡ true
  pub ends : b ≡ true
  pub found : rest ≡ Ok more
  pub joins : ys ≡ piece ++ more

both_passed : (page : ℕ) (bytes front piece : List ℕ) (a b : Bool) (rest : Result (List ℕ) Refusal) (ys : List ℕ)
    → (ensure a page >>= (λ _. ensure b page >>= (λ _. rest >>= (λ r. Ok (piece ++ r))))) ≡ Ok ys → Passed bytes front piece ys a b rest
both_passed page bytes front piece true true (Ok more) ys e = record { more = more; starts = refl; ends = refl; found = refl; joins = cc }
both_passed page bytes front piece true true (Err refusal) ys e = cc
both_passed page bytes front piece true false rest ys e = cc
both_passed page bytes front piece false b rest ys e = cc

-- ---- a page of a text

-- the page of a text that begins here
abbrev pub cut : ℕ → List ℕ → List ℕ
cut size ys = padded size (take size ys)

length-cut : (size : ℕ) (ys : List ℕ) → length (cut size ys) ≡ size
length-cut size ys = length-padded size (take size ys) (omega (arith, length-take size ys))

-- after the text there are zeros
cut_ends : (size : ℕ) (ys : List ℕ) → list_all (λ b. b == 0) (drop (length ys) (cut size ys)) ≡ true
cut_ends size ys =
    let t : List ℕ = take size ys in
    let len : length t ≡ min size (length ys) = length-take size ys in
    let e : drop (length ys) (cut size ys) ≡ zeros (size - length t - (length ys - length t)) =
    drop_past (length ys) t (zeros (size - length t))
    ∙ ap (λ (r : List ℕ). r ++ drop (length ys - length t) (zeros (size - length t))) (drop_all (length ys) t (omega arith))
    ∙ drop-replicate (length ys - length t) (size - length t) 0 in
    rw e (zeros_pass (size - length t - (length ys - length t)))

cut_piece : (size : ℕ) (ys : List ℕ) → take (length ys) (cut size ys) ≡ take size ys
cut_piece size ys =
    let t : List ℕ = take size ys in
    let len : length t ≡ min size (length ys) = length-take size ys in
    let tail : List ℕ = take (length ys - length t) (zeros (size - length t)) in
    let none : length tail ≡ 0 = omega (arith, length-take (length ys - length t) (zeros (size - length t)), length-replicate {A = ℕ} (size - length t) 0) in
    take_past (length ys) t (zeros (size - length t)) ∙ ap (λ (r : List ℕ). r ++ tail) (take_all (length ys) t (omega arith))
    ∙ ap (λ (r : List ℕ). t ++ r) (nil_from_length tail none) ∙ append-nil t

-- the test of the reading passes it
pub page_passes : (size page : ℕ) (front ys : List ℕ) (go_on : List ℕ → Result (List ℕ) Refusal) → starts_with nat_eq (cut size ys) front ≡ true
    → value_page page front (length ys) (whole (cut size ys)) go_on ≡ (go_on (cut size ys) >>= (λ rest. Ok (take size ys ++ rest)))
page_passes size page front ys go_on starts =
    both_pass page _ _ (take (length ys) (cut size ys)) (go_on (cut size ys)) starts (cut_ends size ys)
    ∙ ap (λ (piece : List ℕ). go_on (cut size ys) >>= (λ rest. Ok (piece ++ rest))) (cut_piece size ys)

-- ---- all pages of a text

pub text_again : (shape : Shape) (at : ℕ → Page) (n page : ℕ) (front ys : List ℕ) → length ys ≤ n * shape.page_bytes → starts_with nat_eq (cut shape.page_bytes ys) front ≡ true
    → ((k : ℕ) → k < n → at (page + k) ≡ whole (cut shape.page_bytes (drop (k * shape.page_bytes) ys))) → value_from shape at page front (length ys) n ≡ Ok ys
text_again shape at zero page front [] room starts each = refl
text_again shape at zero page front (y ∷ ys) room starts each = absurd (omega arith)
text_again shape at (suc n) page front ys room starts each =
    let size : ℕ = shape.page_bytes in
    let here : page + 0 ≡ page = omega arith in
    let none : 0 * size ≡ 0 = omega arith in
    let first : at page ≡ whole (cut size ys) = ap at (sym here) ∙ each 0 (omega arith) ∙ ap (λ (k : ℕ). whole (cut size (drop k ys))) none in
    let left : length ys - size ≡ length (drop size ys) = sym (length-drop size ys) in
    let more = text_again shape at n (page + 1) [] (drop size ys) (omega (arith, length-drop size ys)) (starts_front [] (cut size (drop size ys)))
    (λ (k : ℕ) (less : k < n).
    let next : (page + 1) + k ≡ page + suc k = omega arith in
    let place : size + k * size ≡ suc k * size = omega arith in
    ap at next ∙ each (suc k) (omega arith)
    ∙ ap (λ (r : List ℕ). whole (cut size r)) (ap (λ (p : ℕ). drop p ys) (sym place) ∙ sym (drop-drop (k * size) size ys))) in
    ap (λ (x : Page). value_page page front (length ys) x (λ bytes. value_from shape at (page + 1) [] (length ys - size) n)) first
    ∙ page_passes size page front ys (λ bytes. value_from shape at (page + 1) [] (length ys - size) n) starts
    ∙ ap (λ (l : ℕ). value_from shape at (page + 1) [] l n >>= (λ rest. Ok (take size ys ++ rest))) left
    ∙ ap (λ (r : Result (List ℕ) Refusal). r >>= (λ rest. Ok (take size ys ++ rest))) more
    ∙ ap (λ (r : List ℕ). Ok r) (take-append-drop size ys)

-- what a page passed is the page of the text that was found, and what came of the rest is the rest of it
pub page_back : (size : ℕ) (bytes ys more : List ℕ) (left : ℕ) → length bytes ≡ size → bytes ≡ take left bytes ++ zeros (length (drop left bytes))
    → ys ≡ take left bytes ++ more → length more ≡ left - size → (bytes ≡ cut size ys) × (more ≡ drop size ys) × (length ys ≡ left)
page_back size bytes ys more left full ends joins rest =
    let t : List ℕ = take left bytes in
    let len : length t ≡ min left (length bytes) = length-take left bytes in
    let tail : List ℕ = take (size - length t) more in
    let none : length tail ≡ 0 = omega (arith, length-take (size - length t) more) in
    let front : take size ys ≡ t =
    ap (λ (r : List ℕ). take size r) joins ∙ take_past size t more ∙ ap (λ (r : List ℕ). r ++ tail) (take_all size t (omega arith))
    ∙ ap (λ (r : List ℕ). t ++ r) (nil_from_length tail none) ∙ append-nil t in
    let pad : length (drop left bytes) ≡ size - length (take size ys) = omega (arith, length-drop left bytes, ap length front) in (
      ends ∙ ap (λ (n : ℕ). t ++ zeros n) pad ∙ ap (λ (r : List ℕ). r ++ zeros (size - length (take size ys))) (sym front),
      append_cancel_left t more (drop size ys) (sym joins ∙ sym (take-append-drop size ys) ∙ ap (λ (r : List ℕ). r ++ drop size ys) front),
      omega (arith, ap length joins, length-append t more),
    )

-- what a text is found in
pub record Found (shape : Shape) (at : ℕ → Page) (n page : ℕ) (front ys : List ℕ) (left : ℕ) : Type 0 where
  pub starts : 0 < n → starts_with nat_eq (cut shape.page_bytes ys) front ≡ true
  pub len : length ys ≡ left
  pub each : (k : ℕ) → k < n → at (page + k) ≡ whole (cut shape.page_bytes (drop (k * shape.page_bytes) ys))

each_more : (shape : Shape) (at : ℕ → Page) (n page : ℕ) (ys : List ℕ) → at page ≡ whole (cut shape.page_bytes ys)
    → ((k : ℕ) → k < n → at ((page + 1) + k) ≡ whole (cut shape.page_bytes (drop (k * shape.page_bytes) (drop shape.page_bytes ys))))
    → (k : ℕ) → k < suc n → at (page + k) ≡ whole (cut shape.page_bytes (drop (k * shape.page_bytes) ys))
each_more shape at n page ys first more zero less =
    let here : page + 0 ≡ page = omega arith in
    let none : 0 ≡ 0 * shape.page_bytes = omega arith in
    ap at here ∙ first ∙ ap (λ (k : ℕ). whole (cut shape.page_bytes (drop k ys))) none
each_more shape at n page ys first more (suc k) less =
    let next : page + suc k ≡ (page + 1) + k = omega arith in
    let place : shape.page_bytes + k * shape.page_bytes ≡ suc k * shape.page_bytes = omega arith in
    ap at next ∙ more k (omega arith)
    ∙ ap (λ (r : List ℕ). whole (cut shape.page_bytes r)) (drop-drop (k * shape.page_bytes) shape.page_bytes ys ∙ ap (λ (p : ℕ). drop p ys) place)

-- if the reading of a flash finds a text, the pages are those of the text
pub text_found : (shape : Shape) (at : ℕ → Page) → AreFull shape at → (n page : ℕ) (front ys : List ℕ) (left : ℕ) → left ≤ n * shape.page_bytes
    → value_from shape at page front left n ≡ Ok ys → Found shape at n page front ys left
text_found shape at full zero page front [] left room e = record { starts = λ some. absurd (omega arith); len = omega arith; each = λ k less. absurd (omega arith) }
text_found shape at full zero page front (y ∷ ys) left room e = cc
text_found shape at full (suc n) page front ys left room e =
    by_page (at page) refl e (λ more found. text_found shape at full n (page + 1) [] more (left - shape.page_bytes) (omega arith) found)
  where
    by_page : (x : Page) → at page ≡ x → value_page page front left x (λ bytes. value_from shape at (page + 1) [] (left - shape.page_bytes) n) ≡ Ok ys
        → ((more : List ℕ) → value_from shape at (page + 1) [] (left - shape.page_bytes) n ≡ Ok more → Found shape at n (page + 1) [] more (left - shape.page_bytes))
        → Found shape at (suc n) page front ys left
    by_page erased is found others = cc
    by_page torn is found others = cc
    by_page (whole bytes) is found others =
        let passed = both_passed page bytes front (take left bytes) _ _ (value_from shape at (page + 1) [] (left - shape.page_bytes) n) ys found in
        let more = others passed.more passed.found in
        let ends : bytes ≡ take left bytes ++ zeros (length (drop left bytes)) =
        sym (take-append-drop left bytes) ∙ ap (λ (r : List ℕ). take left bytes ++ r) (pass_zeros (drop left bytes) passed.ends) in
        let own = page_back shape.page_bytes bytes ys passed.more left (full page bytes is) ends passed.joins more.len in
        record {
          starts = λ some. ap (λ (r : List ℕ). starts_with nat_eq r front) (sym own.0) ∙ passed.starts;
          len = own.2;
          each = each_more shape at n page ys (is ∙ ap whole own.0)
              (λ (k : ℕ) (less : k < n). more.each k less ∙ ap (λ (r : List ℕ). whole (cut shape.page_bytes (drop (k * shape.page_bytes) r))) own.1);
        }
