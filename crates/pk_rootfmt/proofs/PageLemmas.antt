-- The check of a page passes exactly the pages of roots.
use Rattle.std.proofs.Common.{◌≡◌, ℕ, ◌+◌, ◌-◌, ◌*◌, ◌^◌, ◌<◌, ◌≤◌, Bool, true, List, [], ◌∷◌, ◌++◌, length, take, drop, get_or, map, refl, sym, ap, subst, ◌∙◌, arith, length-append, length-drop}
use Rattle.std.proofs.Common.{get_or-drop, Some, None}
use Rattle.std.specs.Prelude.{nat_eq, nat_le, ◌==◌, ◌&&◌, ◌||◌, if◌then◌else◌, bytes_eq, sum}
use Rattle.std.proofs.lemmas.List.{drop_all, drop-drop, length-replicate, append-nil, append_assoc}
use Rattle.std.{specs.List.flat_map, specs.List.concat, proofs.Math.Dec.eqb_refl, proofs.lemmas.Bool.eqb-true, proofs.lemmas.Bool.leb-true, proofs.lemmas.Bool.Decides.nat_tests}
use Rattle.pk_base.{specs.Fields.u16, specs.Fields.u32, specs.Fields.u64, specs.Fields.u16_at, specs.Fields.u32_at, specs.Fields.spelled, specs.Fields.zeros, specs.FieldFaults.u64_at}
use Rattle.pk_base.{specs.Shape.Shape, specs.Shape.IsShape, specs.Shape.cap, specs.Shape.page_entries, specs.Shape.run_blocks, specs.Shape.meta_blocks, proofs.Logic.both_true, proofs.Logic.is_true}
use Rattle.pk_base.{proofs.Logic.some_same}
use Rattle.pk_base.proofs.Tables.{◌⊕◌, fields_of, AllNone, all_none, unless_true, unlike_stands, number_stands, number_fits, Stand, stand_spelled}
use Rattle.pk_rootfmt.specs.Root.{Root, named, root_bytes, root_at, root_page, is_root, is_number, has_runs, differ, u16s_at, parts, version_of, limit_bytes, are_limits, page_limits, list_from}
use Rattle.pk_rootfmt.specs.Fault.{root_magic, is_epoch, is_run_count, shape_checks, number_checks, list_checks, listed, shape_fault, number_fault, space_fault, list_fault}
use Rattle.pk_rootfmt.proofs.BlockLemmas.{length-u16s, length-numbers, numbers_stand, numbers_split, parts_lengths, parts_joined, are_blocks, Others, others_from_check}
use Rattle.pk_rootfmt.{specs.Held.total, proofs.RoomLemmas.runs_most, proofs.LimitLemmas.by_test, proofs.LimitLemmas.Limited, proofs.LimitLemmas.limited, proofs.LimitLemmas.limits_room}

-- ---- tests, one after another

all_true : (a b c d e f g h i : Bool) → a ≡ true → b ≡ true → c ≡ true → d ≡ true → e ≡ true → f ≡ true → g ≡ true → h ≡ true → i ≡ true → (a && b && c && d && e && f && g && h && i) ≡ true
all_true a b c d e f g h i p q r s t u v w x = rw (p, q, r, s, t, u, v, w, x) refl

-- what a root of the grammar has
pub record Parts (g : Shape) (root : Root) : Type 0 where
  pub number : is_number root.number ≡ true
  pub some : nat_le 1 root.epoch ≡ true
  pub most : nat_le root.epoch root.number ≡ true
  pub two : nat_eq (length root.newest) 2 ≡ true
  pub older : (nat_eq (length root.older) 0 || (nat_eq (length root.older) 2 && nat_le 2 root.epoch)) ≡ true
  pub runs : has_runs g root ≡ true
  pub blocks : are_blocks g (named root) ≡ true
  pub differs : differ (named root) ≡ true
  pub limits : are_limits g root.limits ≡ true

pub parts_root : (g : Shape) (root : Root) → Parts g root → is_root g root ≡ true
parts_root g root h = all_true _ _ _ _ _ _ _ _ _ h.number h.some h.most h.two h.older h.runs h.blocks h.differs h.limits

pub root_parts : (g : Shape) (root : Root) → is_root g root ≡ true → Parts g root
root_parts g root e =
    let nine = both_true _ (are_limits g root.limits) e in
    let eight = both_true _ (differ (named root)) nine.0 in
    let seven = both_true _ (are_blocks g (named root)) eight.0 in
    let six = both_true _ (has_runs g root) seven.0 in
    let five = both_true _ (nat_eq (length root.older) 0 || (nat_eq (length root.older) 2 && nat_le 2 root.epoch)) six.0 in
    let four = both_true _ (nat_eq (length root.newest) 2) five.0 in
    let three = both_true _ (nat_le root.epoch root.number) four.0 in
    let two = both_true (is_number root.number) (nat_le 1 root.epoch) three.0 in
    record { number = two.0; some = two.1; most = three.1; two = four.1; older = five.1; runs = six.1; blocks = seven.1; differs = eight.1; limits = nine.1 }

pub bytes_same : (xs : List ℕ) → bytes_eq xs xs ≡ true
bytes_same [] = refl
bytes_same (x ∷ xs) = rw (is_true (nat_eq x x) (eqb_refl x)) (bytes_same xs)

pub same_bytes : (xs ys : List ℕ) → bytes_eq xs ys ≡ true → xs ≡ ys
same_bytes [] [] e = refl
same_bytes (x ∷ xs) (y ∷ ys) e =
    let tests = both_true (nat_eq x y) (bytes_eq xs ys) e in
    let first = tests.0 in
    let is : x ≡ y = grind (arith, nat_tests) in
    ap (λ (n : ℕ). n ∷ xs) is ∙ ap (λ (r : List ℕ). y ∷ r) (same_bytes xs ys tests.1)
same_bytes _ _ e = cc

-- ---- the root of a page

-- a page has a root exactly if what its fields say is one of the grammar, of which it is the page
pub page_by_tests : (g : Shape) (page : List ℕ) (root : Root) → is_root g root ≡ true → page ≡ root_bytes g root → root_at g page ≡ root → root_page g page ≡ Some root
unfolding root_page
page_by_tests g page root grammar same value =
    ap (λ (x : Root). if is_root g x && bytes_eq page (root_bytes g x) then Some x else None) value
    ∙ test_some (is_root g root) (bytes_eq page (root_bytes g root)) grammar (ap (bytes_eq page) (sym same) ∙ bytes_same page)
  where
    test_some : (p q : Bool) → p ≡ true → q ≡ true → (if p && q then Some root else None) ≡ Some root
    test_some p q e f = rw (e, f) refl

pub tests_of_page : (g : Shape) (page : List ℕ) (root : Root) → root_page g page ≡ Some root
    → (is_root g (root_at g page) ≡ true) × (page ≡ root_bytes g (root_at g page)) × (root_at g page ≡ root)
unfolding root_page
tests_of_page g page root = by_tests (is_root g (root_at g page)) (bytes_eq page (root_bytes g (root_at g page))) refl refl
  where
    by_tests : (p q : Bool) → is_root g (root_at g page) ≡ p → bytes_eq page (root_bytes g (root_at g page)) ≡ q → (if p && q then Some (root_at g page) else None) ≡ Some root
        → (is_root g (root_at g page) ≡ true) × (page ≡ root_bytes g (root_at g page)) × (root_at g page ≡ root)
    by_tests true true is same e = (is, same_bytes page _ same, some_same (root_at g page) root e)
    by_tests _ _ is same e = cc

-- ---- the rows of a page

abbrev pub rows : Shape → ℕ → ℕ → List ℕ → ℕ → ℕ → ℕ → ℕ → ℕ → ℕ → ℕ → ℕ → List ℕ → List (ℕ × List ℕ)
rows g version spaces words journal number epoch a b c d n blocks =
    (8, root_magic) ∷ (2, u16 version) ∷ (2, u16 g.block_pages) ∷ (4, u32 g.page_bytes) ∷ (2, u16 g.blocks) ∷ (2, u16 journal) ∷ (4, u32 spaces)
    ∷ (8, u64 number) ∷ (8, u64 epoch) ∷ (4, u32 a) ∷ (4, u32 b) ∷ (4, u32 c) ∷ (4, u32 d) ∷ (8, zeros 8) ∷ (length words, words)
    ∷ (2 * n, flat_map u16 blocks) ∷ (g.page_bytes - ((64 + length words) + 2 * n), zeros (g.page_bytes - ((64 + length words) + 2 * n))) ∷ []

-- what precedes the blocks, and they after it
abbrev pub before_blocks : Shape → ℕ → ℕ → List ℕ → ℕ → ℕ → ℕ → ℕ → ℕ → ℕ → ℕ → List ℕ → List ℕ
before_blocks g version spaces words journal number epoch a b c d rest =
    root_magic ++ u16 version ++ u16 g.block_pages ++ u32 g.page_bytes ++ u16 g.blocks ++ u16 journal ++ u32 spaces ++ u64 number ++ u64 epoch
    ++ u32 a ++ u32 b ++ u32 c ++ u32 d ++ zeros 8 ++ words ++ rest

before_length : (g : Shape) (version spaces : ℕ) (words : List ℕ) (journal number epoch a b c d : ℕ) (rest : List ℕ)
    → length (before_blocks g version spaces words journal number epoch a b c d rest) ≡ (64 + length words) + length rest
before_length g version spaces words journal number epoch a b c d rest = omega (arith, length-append words rest)

pub rows_root : (g : Shape) (number epoch : ℕ) (newest older : List ℕ) (a b c d : ℕ) (runs : List (List ℕ)) (limits : List ℕ)
    → spelled (fields_of (rows g (version_of limits) (length limits) (limit_bytes limits)
    (length newest + length older) number epoch a b c d (length (newest ++ older ++ concat runs)) (newest ++ older ++ concat runs)))
    ≡ root_bytes g (record { number = number; epoch = epoch; newest = newest; older = older; counts = a ∷ b ∷ c ∷ d ∷ []; runs = runs; limits = limits })
rows_root g number epoch newest older a b c d runs limits =
    let blocks : List ℕ = newest ++ older ++ concat runs in
    let numbers : List ℕ = flat_map u16 blocks in
    let words : List ℕ = limit_bytes limits in
    let front : List ℕ → List ℕ = before_blocks g (version_of limits) (length limits) words (length newest + length older) number epoch a b c d in
    let plain : List ℕ → List ℕ = before_blocks g (version_of limits) (length limits) [] (length newest + length older) number epoch a b c d in
    let size : g.page_bytes - ((64 + length words) + 2 * length blocks) ≡ g.page_bytes - length (front numbers) =
    omega (arith, before_length g (version_of limits) (length limits) words (length newest + length older) number epoch a b c d numbers, length-numbers blocks) in
    ap (λ (r : List ℕ). front (numbers ++ r)) (append-nil (zeros (g.page_bytes - ((64 + length words) + 2 * length blocks))))
    ∙ ap (λ (k : ℕ). front (numbers ++ zeros k)) size
    ∙ ap plain (sym (append_assoc words numbers (zeros (g.page_bytes - length (front numbers)))))

-- ---- a page that passes

-- the blocks of the epochs and of the runs, one after another
named_two : (page : List ℕ) (from s : ℕ) → u16s_at 2 (drop from page) ++ ([] ++ u16s_at s (drop (from + 4) page)) ≡ u16s_at (2 + s) (drop from page)
named_two page from s =
    ap (λ (r : List ℕ). u16s_at 2 (drop from page) ++ u16s_at s r) (sym (drop-drop 4 from page)) ∙ sym (numbers_split 2 s (drop from page))

named_four : (page : List ℕ) (from s : ℕ) → u16s_at 2 (drop from page) ++ (u16s_at 2 (drop (from + 4) page) ++ u16s_at s (drop (from + 8) page)) ≡ u16s_at (4 + s) (drop from page)
named_four page from s =
    let same : 2 + (2 + s) ≡ 4 + s = omega arith in
    let eight : from + 8 ≡ (from + 4) + 4 = omega arith in
    ap (λ (k : ℕ). u16s_at 2 (drop from page) ++ (u16s_at 2 (drop (from + 4) page) ++ u16s_at s (drop k page))) eight
    ∙ ap (λ (r : List ℕ). u16s_at 2 (drop from page) ++ (u16s_at 2 (drop (from + 4) page) ++ u16s_at s r)) (sym (drop-drop 4 (from + 4) page))
    ∙ ap (λ (r : List ℕ). u16s_at 2 (drop from page) ++ r) (sym (numbers_split 2 s (drop (from + 4) page)))
    ∙ ap (λ (r : List ℕ). u16s_at 2 (drop from page) ++ u16s_at (2 + s) r) (sym (drop-drop 4 from page))
    ∙ sym (numbers_split 2 (2 + s) (drop from page)) ∙ ap (λ (k : ℕ). u16s_at k (drop from page)) same

abbrev pub older_at : List ℕ → ℕ → ℕ → List ℕ
older_at page from j = if j == 4 then u16s_at 2 (drop (from + 4) page) else []

-- what the count of journal blocks means
pub record Journal (page : List ℕ) (from j epoch : ℕ) : Type 0 where
  pub most : j ≤ 4
  pub len : 2 + length (older_at page from j) ≡ j
  pub front : take 2 (u16s_at j (drop from page)) ≡ u16s_at 2 (drop from page)
  pub behind : drop 2 (u16s_at j (drop from page)) ≡ older_at page from j
  pub even : (nat_eq j 0 || nat_eq j 2 || nat_eq j 4) ≡ true
  pub named : (s : ℕ) → u16s_at 2 (drop from page) ++ (older_at page from j ++ u16s_at s (drop (from + 2 * j) page)) ≡ u16s_at (j + s) (drop from page)
  pub older : (nat_eq j 2 || nat_le 2 epoch) ≡ true → (nat_eq (length (older_at page from j)) 0 || (nat_eq (length (older_at page from j)) 2 && nat_le 2 epoch)) ≡ true

pub journal_is : (page : List ℕ) (from j epoch : ℕ) → (nat_eq j 2 || nat_eq j 4) ≡ true → Journal page from j epoch
journal_is page from j epoch e = by_test (nat_eq j 2) (Journal page from j epoch)
    (λ yes. let is : 2 ≡ j = grind (arith, nat_tests) in subst (λ (k : ℕ). Journal page from k epoch) is
    (record { most = omega arith; len = refl; front = refl; behind = refl; even = refl; named = named_two page from; older = λ t. refl }))
    (λ no. let is : 4 ≡ j = grind (arith, nat_tests) in subst (λ (k : ℕ). Journal page from k epoch) is
    (record {
      most = omega arith;
      len = refl;
      front = refl;
      behind = ap (u16s_at 2) (drop-drop 2 2 (drop from page) ∙ drop-drop 4 from page);
      even = refl;
      named = named_four page from;
      older = λ t. t;
    }))

pub sum_four : (a b c d : ℕ) → sum (a ∷ b ∷ c ∷ d ∷ []) ≡ a + (b + (c + d))
sum_four a b c d = omega arith

-- four runs whose sizes are these
has_runs_true : (g : Shape) (number epoch : ℕ) (newest older : List ℕ) (a b c d : ℕ) (runs : List (List ℕ)) (limits : List ℕ)
    → is_run_count g 1 a ≡ true → is_run_count g 2 b ≡ true → is_run_count g 3 c ≡ true
    → is_run_count g 4 d ≡ true → map length runs ≡ map (run_blocks g) (a ∷ b ∷ c ∷ d ∷ [])
    → has_runs g (record { number = number; epoch = epoch; newest = newest; older = older; counts = a ∷ b ∷ c ∷ d ∷ []; runs = runs; limits = limits }) ≡ true
has_runs_true g number epoch newest older a b c d runs limits p q r s e =
    let same : bytes_eq (map length runs) (map (run_blocks g) (a ∷ b ∷ c ∷ d ∷ [])) ≡ true =
    ap (bytes_eq (map length runs)) (sym e) ∙ bytes_same (map length runs) in
    rw (p, q, r, s, same) refl

module _ (g : Shape) (page : List ℕ) (fits : (i : ℕ) → get_or page i 0 < 256) (sized : length page ≡ g.page_bytes) (shape : IsShape g)
    (front : shape_fault g page ≡ None) (middle : number_fault g page ≡ None) (spaces : space_fault g page ≡ None) where
  abbrev journal : ℕ
  journal = u16_at page 18

  abbrev number : ℕ
  number = u64_at page 24

  abbrev epoch : ℕ
  epoch = u64_at page 32

  abbrev a : ℕ
  a = u32_at page 40

  abbrev b : ℕ
  b = u32_at page 44

  abbrev c : ℕ
  c = u32_at page 48

  abbrev d : ℕ
  d = u32_at page 52

  one : AllNone (shape_checks g page)
  unfolding shape_fault
  one = all_none (shape_checks g page) front

  two : AllNone (number_checks g page)
  unfolding number_fault
  two = all_none (number_checks g page) middle

  abbrev pub four_runs : ℕ
  four_runs = run_blocks g a + (run_blocks g b + (run_blocks g c + run_blocks g d))

  abbrev from : ℕ
  from = list_from page

  abbrev limits : List ℕ
  limits = page_limits page

  abbrev words : List ℕ
  words = limit_bytes limits

  pub limited_own : Limited g shape page limits
  limited_own = limited g shape page fits sized (unless_true 8 _ one.1.0) (unless_true 20 _ one.1.1.1.1.1.1.0) spaces

  pub journal_own : Journal page from journal epoch
  journal_own = journal_is page from journal epoch (unless_true 18 _ one.1.1.1.1.1.0)

  pub runs_fit : four_runs ≤ meta_blocks g
  runs_fit =
      runs_most g a b c d shape (leb-true a (cap g 1 * page_entries g) (unless_true 40 _ two.1.1.0)) (leb-true b (cap g 2 * page_entries g) (unless_true 44 _ two.1.1.1.0))
      (leb-true c (cap g 3 * page_entries g) (unless_true 48 _ two.1.1.1.1.0)) (leb-true d (cap g 4 * page_entries g) (unless_true 52 _ two.1.1.1.1.1.0))

  pub listed_is : listed g page ≡ journal + four_runs
  unfolding listed
  listed_is = refl

  -- the page has room for the blocks that it names
  pub room : from + 2 * listed g page ≤ length page
  room = let j = journal_own.most in omega (arith, listed_is, runs_fit, limited_own.from, limits_room g shape limits limited_own.good, sized)

  module _ (back : list_fault g page ≡ None) where
    three : AllNone (list_checks g page)
    unfolding list_fault
    three = all_none (list_checks g page) back

    abbrev blocks : List ℕ
    blocks = u16s_at (listed g page) (drop from page)

    others : Others g [] blocks
    others = others_from_check g from [] blocks three.0

    -- the list and what is after it
    record Back (f n : ℕ) : Type 0 where
      pub numbers : drop f page ≡ flat_map u16 blocks ++ drop (f + 2 * n) page
      pub tail : drop (f + 2 * n) page ≡ zeros (g.page_bytes - (f + 2 * n)) ++ drop ((f + 2 * n) + (g.page_bytes - (f + 2 * n))) page
      pub end : drop ((f + 2 * n) + (g.page_bytes - (f + 2 * n))) page ≡ []

    behind : Back from (listed g page)
    behind =
        let n : ℕ = listed g page in
        let pad : length (zeros (g.page_bytes - (from + 2 * n))) ≡ g.page_bytes - (from + 2 * n) = length-replicate _ 0 in
        let numbers = numbers_stand n (drop from page) (λ i. rw (get_or-drop from page i 0) (fits (from + i))) (omega (arith, room, length-drop from page)) in
        let tail = unlike_stands (from + 2 * n) (zeros (g.page_bytes - (from + 2 * n))) page three.1.0 (omega (arith, room)) in
        record {
          numbers = numbers ∙ ap (λ (r : List ℕ). flat_map u16 blocks ++ r) (drop-drop (2 * n) from page);
          tail = tail ∙ ap (λ (k : ℕ). zeros (g.page_bytes - (from + 2 * n)) ++ drop ((from + 2 * n) + k) page) pad;
          end = drop_all _ page (omega (arith, room));
        }

    stands : Stand 0 (rows g (version_of limits) (length limits) words journal number epoch a b c d (listed g page) blocks) page
    stands =
        let least = shape.page_least in
        let rest = subst (λ (f : ℕ). Back f (listed g page)) limited_own.from behind in
        unlike_stands 0 root_magic page one.0 (omega arith)
        ⊕ (number_stands 2 8 page fits (omega arith) ∙ ap (λ (k : ℕ). u16 k ++ drop 10 page) limited_own.version)
        ⊕ (number_stands 2 10 page fits (omega arith) ∙ ap (λ (k : ℕ). u16 k ++ drop 12 page) (eqb-true (u16_at page 10) g.block_pages (unless_true 10 _ one.1.1.0)))
        ⊕ (number_stands 4 12 page fits (omega arith) ∙ ap (λ (k : ℕ). u32 k ++ drop 16 page) (eqb-true (u32_at page 12) g.page_bytes (unless_true 12 _ one.1.1.1.0)))
        ⊕ (number_stands 2 16 page fits (omega arith) ∙ ap (λ (k : ℕ). u16 k ++ drop 18 page) (eqb-true (u16_at page 16) g.blocks (unless_true 16 _ one.1.1.1.1.0)))
        ⊕ number_stands 2 18 page fits (omega arith)
        ⊕ (number_stands 4 20 page fits (omega arith) ∙ ap (λ (k : ℕ). u32 k ++ drop 24 page) limited_own.count)
        ⊕ number_stands 8 24 page fits (omega arith)
        ⊕ number_stands 8 32 page fits (omega arith)
        ⊕ number_stands 4 40 page fits (omega arith)
        ⊕ number_stands 4 44 page fits (omega arith)
        ⊕ number_stands 4 48 page fits (omega arith)
        ⊕ number_stands 4 52 page fits (omega arith)
        ⊕ unlike_stands 56 (zeros 8) page two.1.1.1.1.1.1.0 (omega arith)
        ⊕ limited_own.stand
        ⊕ rest.numbers
        ⊕ rest.tail
        ⊕ rest.end

    -- the lists that the page names, joined
    abbrev run_list : List ℕ
    run_list = u16s_at (sum (map (run_blocks g) (a ∷ b ∷ c ∷ d ∷ []))) (drop (from + 2 * journal) page)

    run_list_len : length run_list ≡ total (map (run_blocks g) (a ∷ b ∷ c ∷ d ∷ []))
    run_list_len = length-u16s _ (drop (from + 2 * journal) page) ∙ sum_four (run_blocks g a) (run_blocks g b) (run_blocks g c) (run_blocks g d) ∙ omega arith

    named_is : named (root_at g page) ≡ blocks
    named_is =
        ap (λ (r : List ℕ). u16s_at 2 (drop from page) ++ (older_at page from journal ++ r)) (parts_joined (map (run_blocks g) (a ∷ b ∷ c ∷ d ∷ [])) run_list run_list_len)
        ∙ journal_own.named (sum (map (run_blocks g) (a ∷ b ∷ c ∷ d ∷ [])))
        ∙ ap (λ (k : ℕ). u16s_at k (drop from page)) (ap (λ (s : ℕ). journal + s) (sum_four (run_blocks g a) (run_blocks g b) (run_blocks g c) (run_blocks g d)) ∙ sym listed_is)

    -- what the check passes is a root
    pub root_taken : is_root g (root_at g page) ≡ true
    root_taken =
        let epochs = epoch_tests journal number epoch (unless_true 32 (is_epoch journal number epoch) two.1.0) in
        parts_root g (root_at g page) (record {
          number = number_test number (unless_true 24 _ two.0) (number_fits 8 24 page fits);
          some = epochs.0;
          most = epochs.1;
          two = refl;
          older = journal_own.older epochs.2;
          runs = has_runs_true g number epoch (u16s_at 2 (drop from page)) (older_at page from journal) a b c d (parts (map (run_blocks g) (a ∷ b ∷ c ∷ d ∷ [])) run_list) limits
              (unless_true 40 (is_run_count g 1 a) two.1.1.0) (unless_true 44 (is_run_count g 2 b) two.1.1.1.0)
              (unless_true 48 (is_run_count g 3 c) two.1.1.1.1.0) (unless_true 52 (is_run_count g 4 d) two.1.1.1.1.1.0)
              (parts_lengths (map (run_blocks g) (a ∷ b ∷ c ∷ d ∷ [])) run_list (omega (arith, run_list_len)));
          blocks = ap (are_blocks g) named_is ∙ others.blocks;
          differs = ap differ named_is ∙ others.differs;
          limits = limited_own.good;
        })
      where
        number_test : (n : ℕ) → nat_le 1 n ≡ true → n < 256 ^ 8 → is_number n ≡ true
        number_test n e f = grind (arith, nat_tests)

        epoch_tests : (j n e : ℕ) → is_epoch j n e ≡ true → (nat_le 1 e ≡ true) × (nat_le e n ≡ true) × ((nat_eq j 2 || nat_le 2 e) ≡ true)
        epoch_tests j n e t =
            let front = both_true (nat_le 1 e && nat_le e n) (nat_eq j 2 || nat_le 2 e) t in
            let parts = both_true (nat_le 1 e) (nat_le e n) front.0 in
            (parts.0, parts.1, front.1)

    pub bytes_taken : page ≡ root_bytes g (root_at g page)
    bytes_taken =
        let root : Root = root_at g page in
        stand_spelled 0 (rows g (version_of limits) (length limits) words journal number epoch a b c d (listed g page) blocks) page stands
        ∙ ap (λ (k : ℕ). spelled (fields_of (rows g (version_of limits) (length limits) words journal number epoch a b c d k blocks))) (sym (length-u16s (listed g page) (drop from page)))
        ∙ ap (λ (r : List ℕ). spelled (fields_of (rows g (version_of limits) (length limits) words journal number epoch a b c d (length r) r))) (sym named_is)
        ∙ ap (λ (k : ℕ). spelled (fields_of (rows g (version_of limits) (length limits) words k number epoch a b c d (length (named root)) (named root)))) (sym journal_own.len)
        ∙ rows_root g number epoch root.newest root.older a b c d root.runs limits

    pub page_taken : root_page g page ≡ Some (root_at g page)
    page_taken = page_by_tests g page (root_at g page) root_taken bytes_taken refl
