-- The check of a page passes exactly the pages of tables.
use Rattle.std.proofs.Common.{◌≡◌, ℕ, ◌+◌, ◌-◌, ◌*◌, ◌<◌, ◌≤◌, Bool, true, false, List, [], ◌∷◌, ◌++◌, length, take, drop, get_or, refl, sym, ap, subst, ◌∙◌, arith, length-drop, get_or-drop, Option}
use Rattle.std.proofs.Common.{Some, None}
use Rattle.std.proofs.lemmas.Option.{same_Some}
use Rattle.std.{specs.Prelude.nat_eq, specs.Prelude.nat_le, specs.Prelude.◌&&◌, specs.Prelude.if◌then◌else◌, specs.Prelude.bytes_eq, specs.List.flat_map, specs.List.list_all}
use Rattle.std.{proofs.lemmas.Bool.Decides.nat_tests, proofs.lemmas.List.drop_all, proofs.lemmas.List.drop-drop, proofs.lemmas.List.length-replicate, proofs.lemmas.List.append-nil}
use Rattle.pk_base.{specs.Fields.u16, specs.Fields.u32, specs.Fields.u64, specs.Fields.u16_at, specs.Fields.u32_at, specs.Fields.spelled, specs.Fields.zeros, specs.Shape.Shape, specs.Shape.IsShape}
use Rattle.pk_base.{specs.FieldFaults.u64_at, specs.FieldFaults.unless, proofs.Logic.both_true}
use Rattle.pk_base.proofs.Tables.{◌⊕◌, fields_of, AllNone, all_none, first_none, unless_true, true_unless, unlike_stands, stands_unlike, number_stands, stands_number, Stand, AreSized, stand_spelled}
use Rattle.pk_base.proofs.Tables.{spelled_stand}
use Rattle.pk_rootfmt.{specs.Root.u16s_at, proofs.BlockLemmas.length-u16s, proofs.BlockLemmas.length-numbers, proofs.BlockLemmas.numbers_stand, proofs.BlockLemmas.numbers_again}
use Rattle.pk_rootfmt.proofs.PageLemmas.{bytes_same, same_bytes}
use Rattle.pk_remap.specs.Table.{SpareTable, table_bytes, table_at, table_page, table_of, is_table, is_served}
use Rattle.pk_remap.specs.Fault.{table_magic, used, table_head_checks, serves_checks, table_head_fault, serves_list_fault, table_fault}
use Rattle.pk_remap.proofs.ServesLemmas.{served_from_check, check_from_served, served_small}

-- ---- what a table of the grammar has

pub record Parts (g : Shape) (s : ℕ) (t : SpareTable) : Type 0 where
  pub some : nat_le 1 t.number ≡ true
  pub most : nat_le t.number (length t.serves + 1) ≡ true
  pub few : nat_le (length t.serves) s ≡ true
  pub served : list_all (is_served g) t.serves ≡ true

four : (a b c d : Bool) → (a && b && c && d) ≡ true → (a ≡ true) × (b ≡ true) × (c ≡ true) × (d ≡ true)
four true true true true e = (refl, refl, refl, refl)
four true true true false e = cc
four true true false d e = cc
four true false c d e = cc
four false b c d e = cc

pub table_parts : (g : Shape) (s : ℕ) (t : SpareTable) → is_table g s t ≡ true → Parts g s t
table_parts g s t e =
    let own = four (nat_le 1 t.number) (nat_le t.number (length t.serves + 1)) (nat_le (length t.serves) s) (list_all (is_served g) t.serves) e in
    record { some = own.0; most = own.1; few = own.2; served = own.3 }

pub parts_table : (g : Shape) (s : ℕ) (t : SpareTable) → Parts g s t → is_table g s t ≡ true
parts_table g s t h = rw (h.some, h.most, h.few, h.served) refl

-- ---- the rows of a page

abbrev pub rows : Shape → ℕ → ℕ → ℕ → List ℕ → List (ℕ × List ℕ)
rows g s number n serves =
    (8, table_magic) ∷ (8, u64 number) ∷ (4, u32 g.page_bytes) ∷ (2, u16 g.block_pages) ∷ (2, u16 g.blocks) ∷ (2, u16 s) ∷ (2, u16 n) ∷ (4, zeros 4)
    ∷ (2 * n, flat_map u16 serves) ∷ (g.page_bytes - (32 + 2 * n), zeros (g.page_bytes - (32 + 2 * n))) ∷ []

abbrev pub before_serves : Shape → ℕ → ℕ → ℕ → List ℕ → List ℕ
before_serves g s number n rest =
    table_magic ++ u64 number ++ u32 g.page_bytes ++ u16 g.block_pages ++ u16 g.blocks ++ u16 s ++ u16 n ++ zeros 4 ++ rest

before_length : (g : Shape) (s number n : ℕ) (rest : List ℕ) → length (before_serves g s number n rest) ≡ 32 + length rest
before_length g s number n rest = omega arith

pub rows_table : (g : Shape) (s : ℕ) (t : SpareTable) → spelled (fields_of (rows g s t.number (length t.serves) t.serves)) ≡ table_bytes g s t
rows_table g s t =
    let n : ℕ = length t.serves in
    let numbers : List ℕ = flat_map u16 t.serves in
    let front : List ℕ → List ℕ = before_serves g s t.number n in
    let size : g.page_bytes - (32 + 2 * n) ≡ g.page_bytes - length (front numbers) = omega
    (arith, before_length g s t.number n numbers, length-numbers t.serves) in
    ap (λ (r : List ℕ). front (numbers ++ r)) (append-nil (zeros (g.page_bytes - (32 + 2 * n))))
    ∙ ap (λ (k : ℕ). front (numbers ++ zeros k)) size

-- ---- a page that passes

module _ (g : Shape) (s : ℕ) (page : List ℕ) (fits : (i : ℕ) → get_or page i 0 < 256) (sized : length page ≡ g.page_bytes) (shape : IsShape g) (few : s ≤ 64)
    (front : table_head_fault g s page ≡ None) where
  abbrev number : ℕ
  number = u64_at page 8

  abbrev n : ℕ
  n = used page

  one : AllNone (table_head_checks g s page)
  unfolding table_head_fault
  one = all_none (table_head_checks g s page) front

  counts : (n ≤ s) × (nat_le number (n + 1) ≡ true)
  counts =
      let tests = both_true (nat_le n s) (nat_le number (n + 1)) (unless_true 26 _ one.1.1.1.1.1.1.0) in
      let first = tests.0 in
      (grind (arith, nat_tests), tests.1)

  pub used_few : n ≤ s
  used_few = counts.0

  pub room : 32 + 2 * n ≤ length page
  room = let least = shape.page_least in omega (arith, counts.0, few, sized)

  module _ (back : serves_list_fault g page ≡ None) where
    three : AllNone (serves_checks g page)
    unfolding serves_list_fault
    three = all_none (serves_checks g page) back

    abbrev serves : List ℕ
    serves = u16s_at n (drop 32 page)

    laid_out : Stand 0 (rows g s number n serves) page
    laid_out =
        let least = shape.page_least in
        let pad : length (zeros (g.page_bytes - (32 + 2 * n))) ≡ g.page_bytes - (32 + 2 * n) = length-replicate _ 0 in
        let numbers = numbers_stand n (drop 32 page) (λ i. rw (get_or-drop 32 page i 0) (fits (32 + i))) (omega (arith, room, length-drop 32 page)) in
        let tail = unlike_stands (32 + 2 * n) (zeros (g.page_bytes - (32 + 2 * n))) page three.1.0 (omega (arith, room)) in
        unlike_stands 0 table_magic page one.0 (omega arith)
        ⊕ number_stands 8 8 page fits (omega arith)
        ⊕ (number_stands 4 16 page fits (omega arith)
        ∙ ap (λ (k : ℕ). u32 k ++ drop 20 page) (equal (u32_at page 16) g.page_bytes (unless_true 16 _ one.1.1.0)))
        ⊕ (number_stands 2 20 page fits (omega arith)
        ∙ ap (λ (k : ℕ). u16 k ++ drop 22 page) (equal (u16_at page 20) g.block_pages (unless_true 20 _ one.1.1.1.0)))
        ⊕ (number_stands 2 22 page fits (omega arith)
        ∙ ap (λ (k : ℕ). u16 k ++ drop 24 page) (equal (u16_at page 22) g.blocks (unless_true 22 _ one.1.1.1.1.0)))
        ⊕ (number_stands 2 24 page fits (omega arith) ∙ ap (λ (k : ℕ). u16 k ++ drop 26 page) (equal (u16_at page 24) s (unless_true 24 _ one.1.1.1.1.1.0)))
        ⊕ number_stands 2 26 page fits (omega arith)
        ⊕ unlike_stands 28 (zeros 4) page one.1.1.1.1.1.1.1.0 (omega arith)
        ⊕ (numbers ∙ ap (λ (r : List ℕ). flat_map u16 serves ++ r) (drop-drop (2 * n) 32 page))
        ⊕ (tail ∙ ap (λ (k : ℕ). zeros (g.page_bytes - (32 + 2 * n)) ++ drop ((32 + 2 * n) + k) page) pad)
        ⊕ drop_all _ page (omega (arith, room))
      where
        equal : (x y : ℕ) → nat_eq x y ≡ true → x ≡ y
        equal x y e = grind (arith, nat_tests)

    len : length serves ≡ n
    len = length-u16s n (drop 32 page)

    -- what the check passes is a table
    pub table_taken : is_table g s (table_at page) ≡ true
    table_taken = parts_table g s (table_at page) (record {
      some = unless_true 8 _ one.1.0;
      most = ap (λ (k : ℕ). nat_le number (k + 1)) len ∙ counts.1;
      few = ap (λ (k : ℕ). nat_le k s) len ∙ (both_true (nat_le n s) (nat_le number (n + 1)) (unless_true 26 _ one.1.1.1.1.1.1.0)).0;
      served = served_from_check g 32 serves three.0;
    })

    pub bytes_taken : page ≡ table_bytes g s (table_at page)
    bytes_taken =
        stand_spelled 0 (rows g s number n serves) page laid_out
        ∙ ap (λ (k : ℕ). spelled (fields_of (rows g s number k serves))) (sym len)
        ∙ rows_table g s (table_at page)

    pub page_taken : table_page g s page ≡ Some (table_at page)
    unfolding table_page
    page_taken =
        let t : SpareTable = table_at page in
        let same : bytes_eq page (table_bytes g s t) ≡ true = ap (bytes_eq page) (sym bytes_taken) ∙ bytes_same page in
        test_some (is_table g s t) (bytes_eq page (table_bytes g s t)) t table_taken same
      where
        test_some : (p q : Bool) (t : SpareTable) → p ≡ true → q ≡ true → (if p && q then Some t else None) ≡ Some t
        test_some p q t e f = rw (e, f) refl

-- ---- the page of a table

record Read (g : Shape) (s : ℕ) (page : List ℕ) (t : SpareTable) : Type 0 where
  pub front : table_head_fault g s page ≡ None
  pub back : serves_list_fault g page ≡ None
  pub value : table_at page ≡ t

module _ (g : Shape) (shape : IsShape g) (s : ℕ) (small : s ≤ 64) (t : SpareTable) (h : Parts g s t) where
  abbrev page : List ℕ
  page = table_bytes g s t

  abbrev m : ℕ
  m = length t.serves

  row : Stand 0 (rows g s t.number m t.serves) page
  row =
      let sized : AreSized (rows g s t.number m t.serves) = refl ⊕ refl ⊕ refl ⊕ refl
      ⊕ refl ⊕ refl ⊕ refl ⊕ refl ⊕ length-numbers t.serves ⊕ length-replicate _ 0 ⊕ tt in
      spelled_stand 0 (rows g s t.number m t.serves) page sized (sym (rows_table g s t))

  used_small : m ≤ s
  used_small = let f = h.few in grind (arith, nat_tests)

  number_small : t.number ≤ m + 1
  number_small = let f = h.most in grind (arith, nat_tests)

  number_read : u64_at page 8 ≡ t.number
  number_read = stands_number 8 8 t.number (drop 16 page) page row.1.0 (omega (arith, used_small, number_small, small))

  used_read : u16_at page 26 ≡ m
  used_read = stands_number 2 26 m (drop 28 page) page row.1.1.1.1.1.1.0 (omega (arith, used_small, small))

  serves_read : u16s_at m (drop 32 page) ≡ t.serves
  serves_read = ap (u16s_at m) row.1.1.1.1.1.1.1.1.0 ∙ numbers_again t.serves (drop (32 + 2 * m) page) (served_small g t.serves shape h.served)

  same_number : (at x : ℕ) → unless at (nat_eq x x) ≡ None
  same_number at x = true_unless at (nat_eq x x) (grind (arith, nat_tests))

  read : Read g s page t
  unfolding table_head_fault serves_list_fault
  read =
      let page_most = shape.page_most in
      let block_most = shape.block_most in
      let blocks_most = shape.blocks_most in
      let size_is : u32_at page 16 ≡ g.page_bytes = stands_number 4 16 g.page_bytes (drop 20 page) page row.1.1.0 (omega arith) in
      let block_is : u16_at page 20 ≡ g.block_pages = stands_number 2 20 g.block_pages (drop 22 page) page row.1.1.1.0 (omega arith) in
      let blocks_is : u16_at page 22 ≡ g.blocks = stands_number 2 22 g.blocks (drop 24 page) page row.1.1.1.1.0 (omega arith) in
      let spares_is : u16_at page 24 ≡ s = stands_number 2 24 s (drop 26 page) page row.1.1.1.1.1.0 (omega (arith, small)) in
      record {
        front = first_none (table_head_checks g s page) (
            stands_unlike 0 table_magic (drop 8 page) page row.0
            ⊕ rw number_read (true_unless 8 _ h.some)
            ⊕ rw size_is (same_number 16 g.page_bytes)
            ⊕ rw block_is (same_number 20 g.block_pages)
            ⊕ rw blocks_is (same_number 22 g.blocks)
            ⊕ rw spares_is (same_number 24 s)
            ⊕ rw (used_read, number_read) (true_unless 26 _ (rw (h.few, h.most) refl))
            ⊕ stands_unlike 28 (zeros 4) (drop 32 page) page row.1.1.1.1.1.1.1.0
            ⊕ tt);
        back = first_none (serves_checks g page) (
            rw (used_read, serves_read) (check_from_served g 32 t.serves h.served)
            ⊕ rw used_read (stands_unlike (32 + 2 * m) (zeros (g.page_bytes - (32 + 2 * m)))
            (drop (32 + 2 * m + (g.page_bytes - (32 + 2 * m))) page) page row.1.1.1.1.1.1.1.1.1.0)
            ⊕ tt);
        value = λ i. record { number = number_read i; serves = (ap (λ (k : ℕ). u16s_at k (drop 32 page)) used_read ∙ serves_read) i };
      }

  -- it passes the check
  pub page_passes : table_fault g s page ≡ None
  page_passes = first_none (table_head_fault g s page ∷ serves_list_fault g page ∷ []) (read.front ⊕ read.back ⊕ tt)

  -- and is read as the table
  pub page_again : table_page g s page ≡ Some t
  unfolding table_page
  page_again =
      let same : bytes_eq page (table_bytes g s (table_at page)) ≡ true = ap (λ (x : SpareTable). bytes_eq page (table_bytes g s x)) read.value
      ∙ bytes_same page in
      let is : is_table g s (table_at page) ≡ true = ap (is_table g s) read.value ∙ parts_table g s t h in
      test_some (is_table g s (table_at page)) (bytes_eq page (table_bytes g s (table_at page))) (table_at page) is same
      ∙ ap (λ (x : SpareTable). Some x) read.value
    where
      test_some : (p q : Bool) (t : SpareTable) → p ≡ true → q ≡ true → (if p && q then Some t else None) ≡ Some t
      test_some p q t e f = rw (e, f) refl

-- ---- what a page is read as

pub record Spelled (g : Shape) (s : ℕ) (page : List ℕ) (t : SpareTable) : Type 0 where
  pub is : is_table g s t ≡ true
  pub bytes : page ≡ table_bytes g s t

-- the table of a page is one of the grammar, and spells the page
pub page_spells : (g : Shape) (s : ℕ) (page : List ℕ) (t : SpareTable) → table_page g s page ≡ Some t → Spelled g s page t
unfolding table_page
page_spells g s page t e = by_tests (is_table g s (table_at page)) (bytes_eq page (table_bytes g s (table_at page))) refl refl e
  where
    by_tests : (p q : Bool) → is_table g s (table_at page) ≡ p → bytes_eq page (table_bytes g s (table_at page)) ≡ q
        → (if p && q then Some (table_at page) else None) ≡ Some t → Spelled g s page t
    by_tests true true is eq e =
        let P : SpareTable → Type 0 = λ x. Spelled g s page x in
        subst P (same_Some (table_at page) t e) (record { is = is; bytes = same_bytes page (table_bytes g s (table_at page)) eq })
    by_tests true false is eq e = cc
    by_tests false q is eq e = cc

-- a page with a wrong field has no table
pub page_missing : (g : Shape) (s : ℕ) (page : List ℕ) (at : ℕ) → IsShape g → s ≤ 64 → table_fault g s page ≡ Some at → table_page g s page ≡ None
page_missing g s page at shape few wrong = by_table (table_page g s page) refl
  where
    by_table : (r : Option SpareTable) → table_page g s page ≡ r → table_page g s page ≡ None
    by_table None e = e
    by_table (Some t) e =
        let own = page_spells g s page t e in
        let none : table_fault g s page ≡ None = ap (table_fault g s) own.bytes ∙ page_passes g shape s few t (table_parts g s t own.is) in
        let clash : Some at ≡ None = sym wrong ∙ none in
        absurd cc

-- ---- what decode and encode end with

module _ (g : Shape) (s : ℕ) (page : List ℕ) (fits : (i : ℕ) → get_or page i 0 < 256)
    (sized : length page ≡ g.page_bytes) (shape : IsShape g) (few : s ≤ 64) (passes : table_fault g s page ≡ None) where
  abbrev faults : AllNone (table_head_fault g s page ∷ serves_list_fault g page ∷ [])
  faults = all_none (table_head_fault g s page ∷ serves_list_fault g page ∷ []) passes

  pub used_most : used page ≤ s
  used_most = used_few g s page fits sized shape few faults.0

  pub page_room : 32 + 2 * used page ≤ length page
  page_room = room g s page fits sized shape few faults.0

  pub decoded : (new : List ℕ) → take (used page) new ≡ u16s_at (used page) (drop 32 page)
      → table_page g s page ≡ Some (table_of (u64_at page 8) (used page) new)
  decoded new e =
      page_taken g s page fits sized shape few faults.0 faults.1.0
      ∙ ap (λ (x : List ℕ). Some (record { number = u64_at page 8; serves = x })) (sym e)

  pub decoded_is : (new : List ℕ) → take (used page) new ≡ u16s_at (used page) (drop 32 page) → is_table g s (table_of (u64_at page 8) (used page) new) ≡ true
  decoded_is new e =
      ap (λ (x : List ℕ). is_table g s (record { number = u64_at page 8; serves = x })) e
      ∙ table_taken g s page fits sized shape few faults.0 faults.1.0

-- the rows that are written one after another
pub encoded : (g : Shape) (s number : ℕ) (serves : List ℕ)
    → spelled (table_magic ∷ u64 number ∷ u32 g.page_bytes ∷ u16 g.block_pages ∷ u16 g.blocks ∷ u16 s ∷ u16
    (length serves) ∷ zeros 4 ∷ flat_map u16 serves ∷ zeros (g.page_bytes - (32 + 2 * length serves)) ∷ [])
    ≡ table_bytes g s (record { number = number; serves = serves })
encoded g s number serves = rows_table g s (record { number = number; serves = serves })
