-- The blocks of used spares in a table page: steps of the loops over them, and their check.
use Rattle.std.proofs.Common.{◌≡◌, ℕ, suc, ◌+◌, ◌-◌, ◌*◌, ◌<◌, Bool, true, false, List, [], ◌∷◌, drop, refl, sym, ap, ◌∙◌, arith, Option, Some, None}
use Rattle.std.{specs.Prelude.nat_lt, specs.Prelude.nat_eq, specs.Prelude.◌&&◌, specs.Prelude.◌||◌, specs.List.list_all, proofs.lemmas.Bool.Decides.nat_tests, proofs.lemmas.List.drop-drop}
use Rattle.pk_base.{specs.Fields.u16_at, specs.FieldFaults.unless, specs.FieldFaults.first_fault, specs.Shape.Shape, specs.Shape.IsShape, proofs.Logic.both_true}
use Rattle.pk_base.proofs.Tables.{all_none, first_none, unless_true, true_unless}
use Rattle.pk_rootfmt.specs.Root.{u16s_at}
use Rattle.pk_remap.{specs.Table.is_served, specs.Fault.serves_fault}

-- the numbers that remain begin with the one here
pub left_more : (page : List ℕ) (i count : ℕ) → i < count
    → u16s_at (count - i) (drop (32 + 2 * i) page) ≡ u16_at page (32 + 2 * i) ∷ u16s_at (count - (i + 1)) (drop (32 + 2 * (i + 1)) page)
left_more page i count less =
    let e : count - i ≡ suc (count - (i + 1)) = omega arith in
    let next : (32 + 2 * i) + 2 ≡ 32 + 2 * (i + 1) = omega arith in
    ap (λ (k : ℕ). u16s_at k (drop (32 + 2 * i) page)) e
    ∙ ap (λ (r : List ℕ). u16_at page (32 + 2 * i) ∷ u16s_at (count - (i + 1)) r) (drop-drop 2 (32 + 2 * i) page ∙ ap (λ (k : ℕ). drop k page) next)

pub fault_stop : (g : Shape) (page : List ℕ) (i count : ℕ) → i < count → is_served g (u16_at page (32 + 2 * i)) ≡ false
    → serves_fault g (32 + 2 * i) (u16s_at (count - i) (drop (32 + 2 * i) page)) ≡ Some (32 + 2 * i)
fault_stop g page i count less e = ap (serves_fault g (32 + 2 * i)) (left_more page i count less) ∙ stop _ (is_served g (u16_at page (32 + 2 * i))) _ e
  where
    stop : (at : ℕ) (test : Bool) (rest : Option ℕ) → test ≡ false → first_fault (unless at test ∷ rest ∷ []) ≡ Some at
    stop at test rest e = rw e refl

pub fault_more : (g : Shape) (page : List ℕ) (i count : ℕ) → i < count → is_served g (u16_at page (32 + 2 * i)) ≡ true
    → serves_fault g (32 + 2 * (i + 1)) (u16s_at (count - (i + 1)) (drop (32 + 2 * (i + 1)) page))
    ≡ serves_fault g (32 + 2 * i) (u16s_at (count - i) (drop (32 + 2 * i) page))
fault_more g page i count less e =
    let next : 32 + 2 * (i + 1) ≡ (32 + 2 * i) + 2 = omega arith in
    let rest : List ℕ = u16s_at (count - (i + 1)) (drop (32 + 2 * (i + 1)) page) in
    ap (λ (k : ℕ). serves_fault g k rest) next
    ∙ sym (ap (serves_fault g (32 + 2 * i)) (left_more page i count less) ∙ on (32 + 2 * i) (is_served g (u16_at page (32 + 2 * i))) _ e)
  where
    on : (at : ℕ) (test : Bool) (rest : Option ℕ) → test ≡ true → first_fault (unless at test ∷ rest ∷ []) ≡ rest
    on at test None e = rw e refl
    on at test (Some k) e = rw e refl

-- ---- the check

both : (a b : Bool) → a ≡ true → b ≡ true → (a && b) ≡ true
both a b p q = rw (p, q) refl

pub served_from_check : (g : Shape) (at : ℕ) (bs : List ℕ) → serves_fault g at bs ≡ None → list_all (is_served g) bs ≡ true
served_from_check g at [] e = refl
served_from_check g at (b ∷ bs) e =
    let faults = all_none (unless at (is_served g b) ∷ serves_fault g (at + 2) bs ∷ []) e in
    both (is_served g b) (list_all (is_served g) bs) (unless_true at (is_served g b) faults.0) (served_from_check g (at + 2) bs faults.1.0)

pub check_from_served : (g : Shape) (at : ℕ) (bs : List ℕ) → list_all (is_served g) bs ≡ true → serves_fault g at bs ≡ None
check_from_served g at [] e = refl
check_from_served g at (b ∷ bs) e =
    let tests = both_true (is_served g b) (list_all (is_served g) bs) e in
    first_none (unless at (is_served g b) ∷ serves_fault g (at + 2) bs ∷ [])
    (true_unless at (is_served g b) tests.0, (check_from_served g (at + 2) bs tests.1, tt))

-- the numbers fit into two bytes
pub served_small : (g : Shape) (bs : List ℕ) → IsShape g → list_all (is_served g) bs ≡ true → list_all (λ b. nat_lt b 65536) bs ≡ true
served_small g [] shape e = refl
served_small g (b ∷ bs) shape e =
    let tests = both_true (is_served g b) (list_all (is_served g) bs) e in
    rw (small b tests.0) (served_small g bs shape tests.1)
  where
    small : (b : ℕ) → is_served g b ≡ true → nat_lt b 65536 ≡ true
    small b e = let most = shape.blocks_most in by (nat_lt b g.blocks) (nat_eq b 65535) refl refl e
      where
        by : (s t : Bool) → nat_lt b g.blocks ≡ s → nat_eq b 65535 ≡ t → (s || t) ≡ true → nat_lt b 65536 ≡ true
        by true t p q e = grind (arith, nat_tests)
        by false true p q e = grind (arith, nat_tests)
        by false false p q e = cc
