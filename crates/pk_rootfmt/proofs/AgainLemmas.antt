-- The page of a root passes the check, and is read as the root.
use Rattle.std.proofs.Common.{◌≡◌, take, ℕ, ◌+◌, ◌-◌, ◌*◌, ◌^◌, ◌<◌, ◌≤◌, Bool, true, List, [], ◌∷◌, ◌++◌, length, drop, map, refl, sym, ap, subst, ◌∙◌, arith, length-append, Some, None, lit<}
use Rattle.std.specs.Prelude.{nat_eq, nat_le, nat_lt, ◌&&◌, ◌||◌, bytes_eq, sum, zip}
use Rattle.std.{proofs.lemmas.Bool.eqb-true, proofs.lemmas.Bool.eq-eqb, proofs.lemmas.Bool.leb-true, proofs.lemmas.List.take_at, proofs.lemmas.List.drop_at}
use Rattle.std.{specs.List.list_all, specs.List.concat, proofs.lemmas.Bool.Decides.nat_tests, proofs.lemmas.List.append_assoc, proofs.lemmas.List.length-replicate}
use Rattle.pk_base.{specs.Fields.u16_at, specs.Fields.u32_at, specs.Fields.zeros, specs.FieldFaults.u64_at, specs.FieldFaults.unlike, proofs.Logic.both_true}
use Rattle.pk_base.specs.Shape.{Shape, IsShape, page_entries, cap, caps, run_blocks}
use Rattle.pk_base.proofs.Tables.{◌⊕◌, first_none, true_unless, stands_unlike, stands_number, Stand, AreSized, spelled_stand}
use Rattle.pk_rootfmt.specs.Root.{Root, root_bytes, root_at, root_page, is_root, u16s_at, parts, version_of, limit_bytes, list_from}
use Rattle.pk_rootfmt.specs.Fault.{root_magic, is_epoch, is_run_count, shape_checks, number_checks, list_checks, listed, blocks_fault, shape_fault, number_fault, space_fault, list_fault, root_fault}
use Rattle.pk_rootfmt.proofs.BlockLemmas.{length-numbers, numbers_again, parts_again, are_blocks, are_other, check_from_others}
use Rattle.pk_rootfmt.proofs.LimitLemmas.{by_test, Passes, passes, limits_few, limits_room}
use Rattle.pk_rootfmt.proofs.PageLemmas.{Parts, root_parts, same_bytes, page_by_tests, tests_of_page, rows, rows_root, journal_is, older_at, sum_four}
use Rattle.pk_rootfmt.{specs.Held.total, proofs.RoomLemmas.runs_most, proofs.RoomLemmas.entries_small}

append_same : (xs ys zs ws : List ℕ) → xs ++ ys ≡ zs ++ ws → length xs ≡ length zs → (xs ≡ zs) × (ys ≡ ws)
append_same xs ys zs ws e f =
    let same : length zs ≡ length xs = sym f in (
      sym (take_at xs ys (length xs) refl) ∙ ap (take (length xs)) e ∙ take_at zs ws (length xs) same,
      sym (drop_at xs ys (length xs) refl) ∙ ap (drop (length xs)) e ∙ drop_at zs ws (length xs) same,
    )

length_three : (xs ys zs : List ℕ) → (length xs + length ys) + length zs ≡ length (xs ++ ys ++ zs)
length_three xs ys zs = omega (arith, length-append (xs ++ ys) zs, length-append xs ys)

pub length_concat : (lists : List (List ℕ)) → length (concat lists) ≡ total (map length lists)
length_concat [] = refl
length_concat (list ∷ lists) = let more = length_concat lists in omega (arith, length-append list (concat lists))

small_blocks : (g : Shape) (bs : List ℕ) → IsShape g → are_blocks g bs ≡ true → list_all (λ b. nat_lt b 65536) bs ≡ true
small_blocks g [] shape e = refl
small_blocks g (b ∷ bs) shape e =
    let most = shape.blocks_most in
    let tests = both_true (nat_le 2 b && nat_lt b g.blocks) (are_blocks g bs) e in
    let own = (both_true (nat_le 2 b) (nat_lt b g.blocks) tests.0).1 in
    let less : b < g.blocks = grind (arith, nat_tests) in
    let small : nat_lt b 65536 ≡ true = grind (arith, nat_tests) in
    rw small (small_blocks g bs shape tests.1)

journal_test : (n : ℕ) (t : Bool) → (nat_eq n 0 || (nat_eq n 2 && t)) ≡ true → ((nat_eq (2 + n) 2 || nat_eq (2 + n) 4) ≡ true) × ((nat_eq (2 + n) 2 || t) ≡ true)
journal_test n t e = by_test (nat_eq n 0) (((nat_eq (2 + n) 2 || nat_eq (2 + n) 4) ≡ true) × ((nat_eq (2 + n) 2 || t) ≡ true))
    (λ yes. let is : 0 ≡ n = grind (arith, nat_tests) in subst (λ (k : ℕ). ((nat_eq (2 + k) 2 || nat_eq (2 + k) 4) ≡ true) × ((nat_eq (2 + k) 2 || t) ≡ true)) is (refl, refl))
    (λ no.
    let tests = both_true (nat_eq n 2) t (rw no at e) in
    let same = tests.0 in
    let is : 2 ≡ n = grind (arith, nat_tests) in
    subst (λ (k : ℕ). ((nat_eq (2 + k) 2 || nat_eq (2 + k) 4) ≡ true) × ((nat_eq (2 + k) 2 || t) ≡ true)) is (refl, tests.1))

none_before : (bs : List ℕ) → are_other [] bs ≡ true
none_before [] = refl
none_before (b ∷ bs) = none_before bs

record Runs (p q r s t : Bool) : Type 0 where
  pub p1 : p ≡ true
  pub p2 : q ≡ true
  pub p3 : r ≡ true
  pub p4 : s ≡ true
  pub sizes : t ≡ true

run_tests : (p q r s t : Bool) → (true && (p && (q && (r && (s && true)))) && t) ≡ true → Runs p q r s t
run_tests true true true true true e = record { p1 = refl; p2 = refl; p3 = refl; p4 = refl; sizes = refl }
run_tests _ _ _ _ _ e = cc

-- what a page is read as
pub record Read (g : Shape) (page : List ℕ) (root : Root) : Type 0 where
  pub front : shape_fault g page ≡ None
  pub middle : number_fault g page ≡ None
  pub spaces : space_fault g page ≡ None
  pub back : list_fault g page ≡ None
  pub value : root_at g page ≡ root

module _ (g : Shape) (shape : IsShape g) (number epoch : ℕ) (newest older : List ℕ) (a b c d : ℕ) (runs : List (List ℕ)) (limits : List ℕ) where
  abbrev root : Root
  root = record { number = number; epoch = epoch; newest = newest; older = older; counts = a ∷ b ∷ c ∷ d ∷ []; runs = runs; limits = limits }

  abbrev page : List ℕ
  page = root_bytes g root

  abbrev blocks : List ℕ
  blocks = newest ++ older ++ concat runs

  abbrev n : ℕ
  n = length blocks

  abbrev j : ℕ
  j = length newest + length older

  abbrev words : List ℕ
  words = limit_bytes limits

  -- the place of the list
  abbrev f : ℕ
  f = 64 + length words

  module _ (h : Parts g root) where
    run_own : Runs (is_run_count g 1 a) (is_run_count g 2 b) (is_run_count g 3 c) (is_run_count g 4 d) (bytes_eq (map length runs) (map (run_blocks g) (a ∷ b ∷ c ∷ d ∷ [])))
    run_own = run_tests (is_run_count g 1 a) (is_run_count g 2 b) (is_run_count g 3 c) (is_run_count g 4 d) _ h.runs

    sizes : map length runs ≡ map (run_blocks g) (a ∷ b ∷ c ∷ d ∷ [])
    sizes = same_bytes (map length runs) (map (run_blocks g) (a ∷ b ∷ c ∷ d ∷ [])) run_own.sizes

    two : length newest ≡ 2
    two = let t = h.two in grind (arith, nat_tests)

    journal_tests : ((nat_eq j 2 || nat_eq j 4) ≡ true) × ((nat_eq j 2 || nat_le 2 epoch) ≡ true)
    journal_tests =
        let own = journal_test (length older) (nat_le 2 epoch) h.older in
        let is : 2 + length older ≡ j = omega (arith, two) in
        subst (λ (k : ℕ). ((nat_eq k 2 || nat_eq k 4) ≡ true) × ((nat_eq k 2 || nat_le 2 epoch) ≡ true)) is own

    row : Stand 0 (rows g (version_of limits) (length limits) words j number epoch a b c d n blocks) page
    row =
        let sized : AreSized (rows g (version_of limits) (length limits) words j number epoch a b c d n blocks) =
        refl ⊕ refl ⊕ refl ⊕ refl ⊕ refl ⊕ refl ⊕ refl ⊕ refl ⊕ refl ⊕ refl ⊕ refl ⊕ refl ⊕ refl ⊕ refl ⊕ refl ⊕ length-numbers blocks ⊕ length-replicate _ 0 ⊕ tt in
        spelled_stand 0 (rows g (version_of limits) (length limits) words j number epoch a b c d n blocks) page sized (sym (rows_root g number epoch newest older a b c d runs limits))

    count_small : (x y : ℕ) → nat_le x y ≡ true → y < 4294967296 → x < 256 ^ 4
    count_small x y e f = grind (arith, nat_tests)

    version_small : (ls : List ℕ) → version_of ls < 256 ^ 2
    version_small [] = lit< tt
    version_small (l ∷ ls) = lit< tt

    limits_pass : Passes g shape page limits
    limits_pass = passes g shape page limits h.limits (stands_number 2 8 (version_of limits) (drop 10 page) page row.1.0 (version_small limits))
        (stands_number 4 20 (length limits) (drop 24 page) page row.1.1.1.1.1.1.0 (omega (arith, limits_few g shape limits h.limits))) row.1.1.1.1.1.1.1.1.1.1.1.1.1.1.0

    from_read : list_from page ≡ f
    from_read = limits_pass.from

    journal_read : u16_at page 18 ≡ j
    journal_read = let most = (journal_is page f j epoch journal_tests.0).most in stands_number 2 18 j (drop 20 page) page row.1.1.1.1.1.0 (omega arith)

    number_read : u64_at page 24 ≡ number
    number_read = let t = h.number in let small : number < 256 ^ 8 = grind (arith, nat_tests) in stands_number 8 24 number (drop 32 page) page row.1.1.1.1.1.1.1.0 small

    epoch_read : u64_at page 32 ≡ epoch
    epoch_read =
        let t = h.number in
        let u = h.most in
        let small : number < 256 ^ 8 = grind (arith, nat_tests) in
        let below : epoch ≤ number = grind (arith, nat_tests) in
        stands_number 8 32 epoch (drop 40 page) page row.1.1.1.1.1.1.1.1.0 (omega arith)

    a_read : u32_at page 40 ≡ a
    a_read = let most = shape.page_most in stands_number 4 40 a (drop 44 page) page row.1.1.1.1.1.1.1.1.1.0 (count_small a (cap g 1 * page_entries g) run_own.p1 (omega arith))

    b_read : u32_at page 44 ≡ b
    b_read = let most = shape.page_most in stands_number 4 44 b (drop 48 page) page row.1.1.1.1.1.1.1.1.1.1.0 (count_small b (cap g 2 * page_entries g) run_own.p2 (omega arith))

    c_read : u32_at page 48 ≡ c
    c_read = stands_number 4 48 c (drop 52 page) page row.1.1.1.1.1.1.1.1.1.1.1.0 (count_small c (cap g 3 * page_entries g) run_own.p3 (entries_small g shape).0)

    d_read : u32_at page 52 ≡ d
    d_read = stands_number 4 52 d (drop 56 page) page row.1.1.1.1.1.1.1.1.1.1.1.1.0 (count_small d (cap g 4 * page_entries g) run_own.p4 (entries_small g shape).1)

    four_runs : ℕ
    four_runs = run_blocks g a + (run_blocks g b + (run_blocks g c + run_blocks g d))

    -- the sizes that the page's counts give
    sizes_read : map (run_blocks g) (u32_at page 40 ∷ u32_at page 44 ∷ u32_at page 48 ∷ u32_at page 52 ∷ []) ≡ map (run_blocks g) (a ∷ b ∷ c ∷ d ∷ [])
    sizes_read = λ i. run_blocks g (a_read i) ∷ run_blocks g (b_read i) ∷ run_blocks g (c_read i) ∷ run_blocks g (d_read i) ∷ []

    sum_read : sum (map (run_blocks g) (u32_at page 40 ∷ u32_at page 44 ∷ u32_at page 48 ∷ u32_at page 52 ∷ [])) ≡ length (concat runs)
    sum_read =
        ap sum sizes_read ∙ sum_four (run_blocks g a) (run_blocks g b) (run_blocks g c) (run_blocks g d)
        ∙ (let e : run_blocks g a + (run_blocks g b + (run_blocks g c + run_blocks g d)) ≡ total (map (run_blocks g) (a ∷ b ∷ c ∷ d ∷ [])) = omega arith in e)
        ∙ ap total (sym sizes) ∙ sym (length_concat runs)

    listed_read : listed g page ≡ n
    unfolding listed
    listed_read =
        ap (λ (k : ℕ). u16_at page 18 + k) (sym (sum_four (run_blocks g (u32_at page 40)) (run_blocks g (u32_at page 44)) (run_blocks g (u32_at page 48)) (run_blocks g (u32_at page 52))) ∙ sum_read)
        ∙ ap (λ (k : ℕ). k + length (concat runs)) journal_read
        ∙ length_three newest older (concat runs)

    blocks_read : u16s_at n (drop (list_from page) page) ≡ blocks
    blocks_read =
        ap (λ (k : ℕ). u16s_at n (drop k page)) from_read
        ∙ ap (u16s_at n) row.1.1.1.1.1.1.1.1.1.1.1.1.1.1.1.0 ∙ numbers_again blocks (drop (f + 2 * n) page) (small_blocks g blocks shape h.blocks)

    -- the lists of the page are those of the root
    record Lists : Type 0 where
      pub newest_is : u16s_at 2 (drop (list_from page) page) ≡ newest
      pub older_is : older_at page (list_from page) (u16_at page 18) ≡ older
      pub runs_is : u16s_at (sum (map (run_blocks g) (u32_at page 40 ∷ u32_at page 44 ∷ u32_at page 48 ∷ u32_at page 52 ∷ []))) (drop (list_from page + 2 * u16_at page 18) page) ≡ concat runs

    lists : Lists
    lists =
        let k : ℕ = u16_at page 18 in
        let s : ℕ = sum (map (run_blocks g) (u32_at page 40 ∷ u32_at page 44 ∷ u32_at page 48 ∷ u32_at page 52 ∷ [])) in
        let test : (nat_eq k 2 || nat_eq k 4) ≡ true = ap (λ (x : ℕ). nat_eq x 2 || nat_eq x 4) journal_read ∙ journal_tests.0 in
        let own = journal_is page (list_from page) k epoch test in
        let all : k + s ≡ n =
        ap (λ (x : ℕ). x + s) journal_read ∙ ap (λ (x : ℕ). j + x) sum_read
        ∙ length_three newest older (concat runs) in
        let joined = own.named s ∙ ap (λ (x : ℕ). u16s_at x (drop (list_from page) page)) all ∙ blocks_read ∙ append_assoc newest older (concat runs) in
        let first = append_same (u16s_at 2 (drop (list_from page) page))
        (older_at page (list_from page) k ++ u16s_at s (drop (list_from page + 2 * k) page)) newest (older ++ concat runs) joined (sym two) in
        let second = append_same (older_at page (list_from page) k) (u16s_at s (drop (list_from page + 2 * k) page)) older (concat runs) first.1 (omega (arith, own.len, journal_read, two)) in
        record { newest_is = first.0; older_is = second.0; runs_is = second.1 }

    runs_read : parts (map (run_blocks g) (u32_at page 40 ∷ u32_at page 44 ∷ u32_at page 48 ∷ u32_at page 52 ∷ []))
        (u16s_at (sum (map (run_blocks g) (u32_at page 40 ∷ u32_at page 44 ∷ u32_at page 48 ∷ u32_at page 52 ∷ []))) (drop (list_from page + 2 * u16_at page 18) page)) ≡ runs
    runs_read =
        ap (parts (map (run_blocks g) (u32_at page 40 ∷ u32_at page 44 ∷ u32_at page 48 ∷ u32_at page 52 ∷ []))) lists.runs_is
        ∙ ap (λ (l : List ℕ). parts l (concat runs)) (sizes_read ∙ sym sizes) ∙ parts_again runs

    value_read : root_at g page ≡ root
    value_read = λ i. record {
      number = number_read i;
      epoch = epoch_read i;
      newest = lists.newest_is i;
      older = lists.older_is i;
      counts = a_read i ∷ b_read i ∷ c_read i ∷ d_read i ∷ [];
      runs = runs_read i;
      limits = limits_pass.read i;
    }

    front_read : shape_fault g page ≡ None
    unfolding shape_fault
    front_read =
        let page_most = shape.page_most in
        let block_most = shape.block_most in
        let blocks_most = shape.blocks_most in
        first_none (shape_checks g page) (
        stands_unlike 0 root_magic (drop 8 page) page row.0
        ⊕ true_unless 8 _ limits_pass.version
        ⊕ true_unless 10 _ (eq-eqb (u16_at page 10) g.block_pages (stands_number 2 10 g.block_pages (drop 12 page) page row.1.1.0 (omega arith)))
        ⊕ true_unless 12 _ (eq-eqb (u32_at page 12) g.page_bytes (stands_number 4 12 g.page_bytes (drop 16 page) page row.1.1.1.0 (omega arith)))
        ⊕ true_unless 16 _ (eq-eqb (u16_at page 16) g.blocks (stands_number 2 16 g.blocks (drop 18 page) page row.1.1.1.1.0 (omega arith)))
        ⊕ true_unless 18 _ (ap (λ (x : ℕ). nat_eq x 2 || nat_eq x 4) journal_read ∙ journal_tests.0)
        ⊕ true_unless 20 _ limits_pass.count
        ⊕ tt)

    middle_read : number_fault g page ≡ None
    unfolding number_fault
    middle_read =
        let some = (both_true (nat_le 1 number) (nat_lt number (2 ^ 64)) h.number).0 in
        let epochs : is_epoch j number epoch ≡ true = rw (h.some, h.most, journal_tests.1) refl in
        first_none (number_checks g page) (
        true_unless 24 _ (ap (nat_le 1) number_read ∙ some)
        ⊕ true_unless 32 _ (ap (λ (x : ℕ). is_epoch x (u64_at page 24) (u64_at page 32)) journal_read
        ∙ ap (λ (x : ℕ). is_epoch j x (u64_at page 32)) number_read ∙ ap (is_epoch j number) epoch_read ∙ epochs)
        ⊕ true_unless 40 _ (ap (is_run_count g 1) a_read ∙ run_own.p1)
        ⊕ true_unless 44 _ (ap (is_run_count g 2) b_read ∙ run_own.p2)
        ⊕ true_unless 48 _ (ap (is_run_count g 3) c_read ∙ run_own.p3)
        ⊕ true_unless 52 _ (ap (is_run_count g 4) d_read ∙ run_own.p4)
        ⊕ stands_unlike 56 (zeros 8) (drop 64 page) page row.1.1.1.1.1.1.1.1.1.1.1.1.1.0
        ⊕ tt)

    back_read : list_fault g page ≡ None
    unfolding list_fault
    back_read =
        first_none (list_checks g page) (
        (ap (λ (x : ℕ). blocks_fault g (list_from page) [] (u16s_at x (drop (list_from page) page))) listed_read ∙ ap (blocks_fault g (list_from page) []) blocks_read
        ∙ check_from_others g (list_from page) [] blocks (record { blocks = h.blocks; differs = h.differs; others = none_before blocks }))
        ⊕ (ap (λ (x : ℕ). unlike (list_from page + 2 * x) (zeros (g.page_bytes - (list_from page + 2 * x))) page) listed_read
        ∙ ap (λ (k : ℕ). unlike (k + 2 * n) (zeros (g.page_bytes - (k + 2 * n))) page) from_read
        ∙ stands_unlike (f + 2 * n) (zeros (g.page_bytes - (f + 2 * n))) (drop ((f + 2 * n) + (g.page_bytes - (f + 2 * n))) page) page row.1.1.1.1.1.1.1.1.1.1.1.1.1.1.1.1.0)
        ⊕ tt)

    -- the page has room for its blocks
    pub blocks_room : f + 2 * j + 2 * length (concat runs) ≤ g.page_bytes
    blocks_room =
        let few = runs_most g a b c d shape (leb-true a (cap g 1 * page_entries g) run_own.p1) (leb-true b (cap g 2 * page_entries g) run_own.p2)
        (leb-true c (cap g 3 * page_entries g) run_own.p3) (leb-true d (cap g 4 * page_entries g) run_own.p4) in
        let all : length (concat runs) ≡ run_blocks g a + (run_blocks g b + (run_blocks g c + run_blocks g d)) = omega (arith, length_concat runs, ap total sizes) in
        let most = (journal_is page f j epoch journal_tests.0).most in
        omega (arith, limits_room g shape limits h.limits, few, all, most)

    pub read : Read g page root
    read = record { front = front_read; middle = middle_read; spaces = limits_pass.fault; back = back_read; value = value_read }

-- four numbers
pub record Four (xs : List ℕ) : Type 0 where
  pub a : ℕ
  pub b : ℕ
  pub c : ℕ
  pub d : ℕ
  pub is : xs ≡ a ∷ b ∷ c ∷ d ∷ []

pub four : (xs : List ℕ) → length xs ≡ 4 → Four xs
four (a ∷ b ∷ c ∷ d ∷ []) e = record { a = a; b = b; c = c; d = d; is = refl }
four _ e = absurd (omega arith)

-- the counts of a root of the grammar are four
four_counts : (g : Shape) (root : Root) → Parts g root → length root.counts ≡ 4
four_counts g root h =
    let sized : Bool = nat_eq (length root.counts) 4 in
    let fit : Bool = list_all (λ p. nat_le p.0 (p.1 * page_entries g)) (zip root.counts (caps g)) in
    let front = both_true (sized && fit) (bytes_eq (map length root.runs) (map (run_blocks g) root.counts)) h.runs in
    eqb-true (length root.counts) 4 (both_true sized fit front.0).0

-- the page of a root of the grammar is read as the root
pub root_read : (g : Shape) (root : Root) → IsShape g → is_root g root ≡ true → Read g (root_bytes g root) root
root_read g root shape e =
    let h = root_parts g root e in
    let counts = four root.counts (four_counts g root h) in
    let whole : List ℕ → Root = λ (cs : List ℕ). record { number = root.number; epoch = root.epoch; newest = root.newest; older = root.older; counts = cs; runs = root.runs; limits = root.limits } in
    let same : Parts g (whole (counts.a ∷ counts.b ∷ counts.c ∷ counts.d ∷ [])) = subst (λ (cs : List ℕ). Parts g (whole cs)) counts.is h in
    subst (λ (cs : List ℕ). Read g (root_bytes g (whole cs)) (whole cs)) (sym counts.is)
    (read g shape root.number root.epoch root.newest root.older counts.a counts.b counts.c counts.d root.runs root.limits same)

-- a page has room for the blocks of a root of the grammar
pub root_room : (g : Shape) (root : Root) → IsShape g → is_root g root ≡ true
    → (64 + length (limit_bytes root.limits)) + 2 * (length root.newest + length root.older) + 2 * length (concat root.runs) ≤ g.page_bytes
root_room g root shape e =
    let h = root_parts g root e in
    let counts = four root.counts (four_counts g root h) in
    let whole : List ℕ → Root = λ (cs : List ℕ). record { number = root.number; epoch = root.epoch; newest = root.newest; older = root.older; counts = cs; runs = root.runs; limits = root.limits } in
    let same : Parts g (whole (counts.a ∷ counts.b ∷ counts.c ∷ counts.d ∷ [])) = subst (λ (cs : List ℕ). Parts g (whole cs)) counts.is h in
    blocks_room g shape root.number root.epoch root.newest root.older counts.a counts.b counts.c counts.d root.runs root.limits same

-- so the page that it spells is its page
pub reads_back : (g : Shape) (root : Root) → IsShape g → is_root g root ≡ true → root_page g (root_bytes g root) ≡ Some root
reads_back g root shape e = page_by_tests g (root_bytes g root) root e refl (root_read g root shape e).value

-- a page that is read as a root passes
pub page_root : (g : Shape) (page : List ℕ) (root : Root) → IsShape g → root_page g page ≡ Some root → root_fault g page ≡ None
page_root g page root shape e =
    let (grammar, same, value) = tests_of_page g page root e in
    let own = root_read g (root_at g page) shape grammar in
    first_none (shape_fault g page ∷ number_fault g page ∷ space_fault g page ∷ list_fault g page ∷ []) (
    (ap (shape_fault g) same ∙ own.front) ⊕ (ap (number_fault g) same ∙ own.middle) ⊕ (ap (space_fault g) same ∙ own.spaces) ⊕ (ap (list_fault g) same ∙ own.back) ⊕ tt)
