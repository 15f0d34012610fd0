-- Steps of the loops over block numbers.
use Rattle.std.proofs.Common.{◌≡◌, ℕ, zero, suc, ◌+◌, ◌-◌, ◌*◌, ◌<◌, Bool, true, false, List, [], ◌∷◌, ◌++◌, length, take, drop, refl, sym, ap, ◌∙◌, arith, Option, Some, None}
use Rattle.std.{specs.Prelude.nat_eq, specs.Prelude.◌==◌, specs.Prelude.slice_set, specs.List.list_any, proofs.lemmas.Bool.Decides.nat_tests, proofs.lemmas.List.drop-drop}
use Rattle.pk_base.{specs.Fields.u16_at, specs.FieldFaults.unless, specs.FieldFaults.first_fault, specs.Shape.Shape}
use Rattle.pk_rootfmt.{specs.Root.u16s_at, specs.Fault.is_other_block, specs.Fault.blocks_fault, proofs.BlockLemmas.numbers_split}

-- the numbers that remain begin with the one here
pub left_more : (page : List ℕ) (from i count : ℕ) → i < count
    → u16s_at (count - i) (drop (from + 2 * i) page) ≡ u16_at page (from + 2 * i) ∷ u16s_at (count - (i + 1)) (drop (from + 2 * (i + 1)) page)
left_more page from i count less =
    let e : count - i ≡ suc (count - (i + 1)) = omega arith in
    let next : (from + 2 * i) + 2 ≡ from + 2 * (i + 1) = omega arith in
    ap (λ (k : ℕ). u16s_at k (drop (from + 2 * i) page)) e
    ∙ ap (λ (r : List ℕ). u16_at page (from + 2 * i) ∷ u16s_at (count - (i + 1)) r) (drop-drop 2 (from + 2 * i) page ∙ ap (λ (k : ℕ). drop k page) next)

-- the numbers that were read end with the one here
pub read_more : (page : List ℕ) (at i : ℕ) → u16s_at (i + 1) (drop at page) ≡ u16s_at i (drop at page) ++ u16_at page (at + 2 * i) ∷ []
read_more page at i =
    numbers_split i 1 (drop at page) ∙ ap (λ (r : List ℕ). u16s_at i (drop at page) ++ u16_at r 0 ∷ []) (drop-drop (2 * i) at page)

pub any_stop : (page : List ℕ) (from block i count : ℕ) → i < count → u16_at page (from + 2 * i) ≡ block
    → list_any (λ other. block == other) (u16s_at (count - i) (drop (from + 2 * i) page)) ≡ true
any_stop page from block i count less same =
    let back : nat_eq block (u16_at page (from + 2 * i)) ≡ true = grind (arith, nat_tests) in
    ap (list_any (λ other. block == other)) (left_more page from i count less) ∙ rw back refl

pub any_more : (page : List ℕ) (from block i count : ℕ) → i < count → (u16_at page (from + 2 * i) ≡ block → ⊥)
    → list_any (λ other. block == other) (u16s_at (count - i) (drop (from + 2 * i) page)) ≡ list_any (λ other. block == other) (u16s_at (count - (i + 1)) (drop (from + 2 * (i + 1)) page))
any_more page from block i count less other =
    let back : nat_eq block (u16_at page (from + 2 * i)) ≡ false = grind (arith, nat_tests) in
    ap (list_any (λ other. block == other)) (left_more page from i count less) ∙ rw back refl

-- a test before the rest
pub first_stops : (at : ℕ) (test : Bool) (rest : Option ℕ) → test ≡ false → first_fault (unless at test ∷ rest ∷ []) ≡ Some at
first_stops at test rest e = rw e refl

pub first_goes : (at : ℕ) (test : Bool) (rest : Option ℕ) → test ≡ true → first_fault (unless at test ∷ rest ∷ []) ≡ rest
first_goes at test None e = rw e refl
first_goes at test (Some k) e = rw e refl

pub fault_stop : (g : Shape) (page : List ℕ) (from i count : ℕ) → i < count → is_other_block g (u16s_at i (drop from page)) (u16_at page (from + 2 * i)) ≡ false
    → blocks_fault g (from + 2 * i) (u16s_at i (drop from page)) (u16s_at (count - i) (drop (from + 2 * i) page)) ≡ Some (from + 2 * i)
fault_stop g page from i count less e =
    ap (blocks_fault g (from + 2 * i) (u16s_at i (drop from page))) (left_more page from i count less) ∙ first_stops _ (is_other_block g (u16s_at i (drop from page)) (u16_at page (from + 2 * i))) _ e

pub fault_more : (g : Shape) (page : List ℕ) (from i count : ℕ) → i < count → is_other_block g (u16s_at i (drop from page)) (u16_at page (from + 2 * i)) ≡ true
    → blocks_fault g (from + 2 * (i + 1)) (u16s_at (i + 1) (drop from page)) (u16s_at (count - (i + 1)) (drop (from + 2 * (i + 1)) page))
    ≡ blocks_fault g (from + 2 * i) (u16s_at i (drop from page)) (u16s_at (count - i) (drop (from + 2 * i) page))
fault_more g page from i count less e =
    let next : from + 2 * (i + 1) ≡ (from + 2 * i) + 2 = omega arith in
    let rest : List ℕ = u16s_at (count - (i + 1)) (drop (from + 2 * (i + 1)) page) in
    ap (λ (k : ℕ). blocks_fault g k (u16s_at (i + 1) (drop from page)) rest) next
    ∙ ap (λ (r : List ℕ). blocks_fault g ((from + 2 * i) + 2) r rest) (read_more page from i)
    ∙ sym (ap (blocks_fault g (from + 2 * i) (u16s_at i (drop from page))) (left_more page from i count less)
    ∙ first_goes (from + 2 * i) (is_other_block g (u16s_at i (drop from page)) (u16_at page (from + 2 * i))) _ e)

-- a list whose next element was written
pub set_more : (xs : List ℕ) (i x : ℕ) → i < length xs → take (i + 1) (slice_set xs i x) ≡ take i xs ++ x ∷ []
set_more [] i x less = absurd (omega arith)
set_more (y ∷ ys) zero x less = refl
set_more (y ∷ ys) (suc i) x less =
    let e : suc i + 1 ≡ suc (i + 1) = omega arith in
    ap (λ (k : ℕ). take k (y ∷ slice_set ys i x)) e ∙ ap (λ (r : List ℕ). y ∷ r) (set_more ys i x (omega arith))
