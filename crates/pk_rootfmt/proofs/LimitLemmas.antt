-- Limits in a page: what is read of them, and what passes.
use Rattle.std.proofs.Common.{◌≡◌, ℕ, zero, suc, ◌+◌, ◌-◌, ◌*◌, ◌/◌, ◌^◌, ◌<◌, ◌≤◌, Bool, true, false, List, [], ◌∷◌, ◌++◌, length, take, drop, get_or, refl, sym, ap, subst, ◌∙◌, arith, length-append}
use Rattle.std.proofs.Common.{length-drop, get_or-drop, None, le-leb}
use Rattle.std.proofs.lemmas.List.{drop-drop, take_at, append_assoc, length-replicate}
use Rattle.std.proofs.lemmas.Bool.{and_from, eqb-true, leb-true}
use Rattle.std.{specs.Prelude.nat_le, specs.Prelude.nat_lt, specs.Prelude.◌==◌, specs.Prelude.◌&&◌, specs.Prelude.◌||◌, specs.Prelude.if◌then◌else◌, proofs.Math.Nat.mul-le-mul}
use Rattle.std.{specs.List.list_all, specs.List.flat_map, proofs.lemmas.Bool.Decides.nat_tests, proofs.lemmas.Grind.flat_map-append}
use Rattle.pk_base.{specs.Fields.u32, specs.Fields.u16_at, specs.Fields.u32_at, specs.Fields.zeros, specs.Fields.padded, specs.FieldFaults.unless, proofs.Logic.both_true}
use Rattle.pk_base.specs.Shape.{Shape, IsShape, meta_blocks, data_blocks, limit}
use Rattle.pk_base.proofs.Tables.{all_none, unless_true, number_stands, stands_number, stands_next}
use Rattle.pk_rootfmt.specs.Root.{u32s_at, version_of, limit_bytes, has_limits_room, fit_in, are_limits, has_limits, page_limits, limits_of, list_from}
use Rattle.pk_rootfmt.{specs.Fault.is_version, specs.Fault.is_space_count, specs.Fault.limits_fault, specs.Fault.space_fault, proofs.RoomLemmas.page_room}

pub by_test : (b : Bool) (P : Type 0) → (b ≡ true → P) → (b ≡ false → P) → P
by_test true P at_true at_false = at_true refl
by_test false P at_true at_false = at_false refl

-- ---- numbers of four bytes, one after another

pub length-u32s : (n : ℕ) (bytes : List ℕ) → length (u32s_at n bytes) ≡ n
length-u32s zero bytes = refl
length-u32s (suc n) bytes = ap suc (length-u32s n (drop 4 bytes))

pub length-words : (xs : List ℕ) → length (flat_map u32 xs) ≡ 4 * length xs
length-words [] = refl
length-words (x ∷ xs) = let more = length-words xs in omega (arith, length-append (u32 x) (flat_map u32 xs))

words_stand : (n : ℕ) (bytes : List ℕ) → ((i : ℕ) → get_or bytes i 0 < 256) → 4 * n ≤ length bytes → bytes ≡ flat_map u32 (u32s_at n bytes) ++ drop (4 * n) bytes
words_stand zero bytes fits room = let none : 0 ≡ 4 * 0 = omega arith in ap (λ (k : ℕ). drop k bytes) none
words_stand (suc n) bytes fits room =
    let first = number_stands 4 0 bytes fits (omega arith) in
    let more = words_stand n (drop 4 bytes) (λ i. rw (get_or-drop 4 bytes i 0) (fits (4 + i))) (omega (arith, length-drop 4 bytes)) in
    let next : 4 + 4 * n ≡ 4 * suc n = omega arith in
    first
    ∙ ap (λ (r : List ℕ). u32 (u32_at bytes 0) ++ r) (more ∙ ap (λ (r : List ℕ). flat_map u32 (u32s_at n (drop 4 bytes)) ++ r) (drop-drop (4 * n) 4 bytes ∙ ap (λ (k : ℕ). drop k bytes) next))
    ∙ sym (append_assoc (u32 (u32_at bytes 0)) (flat_map u32 (u32s_at n (drop 4 bytes))) (drop (4 * suc n) bytes))

words_again : (xs rest : List ℕ) → list_all (λ b. nat_lt b 4294967296) xs ≡ true → u32s_at (length xs) (flat_map u32 xs ++ rest) ≡ xs
words_again [] rest small = refl
words_again (x ∷ xs) rest small =
    let tests = both_true (nat_lt x 4294967296) (list_all (λ b. nat_lt b 4294967296) xs) small in
    let first = tests.0 in
    let fits : x < 256 ^ 4 = grind (arith, nat_tests) in
    let bytes : List ℕ = flat_map u32 (x ∷ xs) ++ rest in
    let here : bytes ≡ u32 x ++ (flat_map u32 xs ++ rest) = append_assoc (u32 x) (flat_map u32 xs) rest in
    let number : u32_at bytes 0 ≡ x = stands_number 4 0 x (flat_map u32 xs ++ rest) bytes here fits in
    let behind : drop 4 bytes ≡ flat_map u32 xs ++ rest = stands_next 0 4 (u32 x) (flat_map u32 xs ++ rest) bytes here refl in
    ap (λ (n : ℕ). n ∷ u32s_at (length xs) (drop 4 bytes)) number
    ∙ ap (λ (r : List ℕ). x ∷ r) (ap (u32s_at (length xs)) behind ∙ words_again xs rest tests.1)

-- ---- the check of the eight numbers

-- what passes are limits that fit, and zeros after them
limits_taken : (n k at left : ℕ) (bytes : List ℕ) → k ≤ n → limits_fault at left k (u32s_at n bytes) ≡ None
    → (u32s_at n bytes ≡ u32s_at k bytes ++ zeros (n - k)) × (fit_in left (u32s_at k bytes) ≡ true)
limits_taken zero zero at left bytes few good = let none : 0 ≡ 0 - 0 = omega arith in (ap zeros none, refl)
limits_taken zero (suc k) at left bytes few good = absurd (omega (arith, few))
limits_taken (suc n) zero at left bytes few good =
    let faults = all_none (unless at (u32_at bytes 0 == 0) ∷ limits_fault (at + 4) left zero (u32s_at n (drop 4 bytes)) ∷ []) good in
    let first : u32_at bytes 0 ≡ 0 = eqb-true (u32_at bytes 0) 0 (unless_true at (u32_at bytes 0 == 0) faults.0) in
    let more = limits_taken n zero (at + 4) left (drop 4 bytes) (omega arith) faults.1.0 in
    let same : suc (n - 0) ≡ suc n - 0 = omega arith in
    (ap (λ (x : ℕ). x ∷ u32s_at n (drop 4 bytes)) first ∙ ap (λ (r : List ℕ). 0 ∷ r) more.0 ∙ ap zeros same, refl)
limits_taken (suc n) (suc k) at left bytes few good =
    let x : ℕ = u32_at bytes 0 in
    let faults = all_none (unless at (nat_le 1 x && nat_le x left) ∷ limits_fault (at + 4) (left - x) k (u32s_at n (drop 4 bytes)) ∷ []) good in
    let test = unless_true at (nat_le 1 x && nat_le x left) faults.0 in
    let more = limits_taken n k (at + 4) (left - x) (drop 4 bytes) (omega (arith, few)) faults.1.0 in
    let same : n - k ≡ suc n - suc k = omega arith in
    (ap (λ (r : List ℕ). x ∷ r) (more.0 ∙ ap (λ (m : ℕ). u32s_at k (drop 4 bytes) ++ zeros m) same), and_from (nat_le 1 x && nat_le x left) (fit_in (left - x) (u32s_at k (drop 4 bytes))) test more.1)

zeros_pass : (n at left : ℕ) → limits_fault at left zero (zeros n) ≡ None
zeros_pass zero at left = refl
zeros_pass (suc n) at left = rw (zeros_pass n (at + 4) left) refl

limits_pass : (at left n : ℕ) (ls : List ℕ) → fit_in left ls ≡ true → limits_fault at left (length ls) (ls ++ zeros n) ≡ None
limits_pass at left n [] fit = zeros_pass n at left
limits_pass at left n (l ∷ ls) fit =
    let tests = both_true (nat_le 1 l && nat_le l left) (fit_in (left - l) ls) fit in
    rw (tests.0, limits_pass (at + 4) (left - l) n ls tests.1) refl

-- ---- limits are numbers of four bytes

limit_small : (g : Shape) → IsShape g → limit g < 4294967296
unfolding limit data_blocks
limit_small g is =
    let blocks = is.blocks_most in
    let block = is.block_most in
    let dense : ℕ = 3 * g.block_pages / 4 in
    let few : dense ≤ 192 = omega arith in
    let left : g.blocks - 6 - meta_blocks g - 1 ≤ 4096 = omega arith in
    let most : (g.blocks - 6 - meta_blocks g - 1) * dense ≤ 4096 * 192 = mul-le-mul left few in
    omega arith

small_limits : (left : ℕ) (ls : List ℕ) → left < 4294967296 → fit_in left ls ≡ true → list_all (λ b. nat_lt b 4294967296) ls ≡ true
small_limits left [] small fit = refl
small_limits left (l ∷ ls) small fit =
    let tests = both_true (nat_le 1 l && nat_le l left) (fit_in (left - l) ls) fit in
    let within : l ≤ left = leb-true l left (both_true (nat_le 1 l) (nat_le l left) tests.0).1 in
    let own : nat_lt l 4294967296 ≡ true = grind (arith, nat_tests) in
    and_from (nat_lt l 4294967296) (list_all (λ b. nat_lt b 4294967296) ls) own (small_limits (left - l) ls (omega (arith, small)) tests.1)

small_zeros : (n : ℕ) (ls : List ℕ) → list_all (λ b. nat_lt b 4294967296) ls ≡ true → list_all (λ b. nat_lt b 4294967296) (ls ++ zeros n) ≡ true
small_zeros zero [] small = refl
small_zeros (suc n) [] small = small_zeros n [] refl
small_zeros n (l ∷ ls) small =
    let tests = both_true (nat_lt l 4294967296) (list_all (λ b. nat_lt b 4294967296) ls) small in
    and_from (nat_lt l 4294967296) (list_all (λ b. nat_lt b 4294967296) (ls ++ zeros n)) tests.0 (small_zeros n ls tests.1)

words_zero : (n : ℕ) → flat_map u32 (zeros n) ≡ zeros (4 * n)
words_zero zero = let none : 0 ≡ 4 * 0 = omega arith in ap zeros none
words_zero (suc n) = let more : suc (suc (suc (suc (4 * n)))) ≡ 4 * suc n = omega arith in ap (λ (r : List ℕ). u32 0 ++ r) (words_zero n) ∙ ap zeros more

-- limits that are some take 32 bytes: their own, and zeros
pub not_none : (n : ℕ) → (n == 0) ≡ false → 1 ≤ n
not_none n e = grind (arith, nat_tests)

pub some_spelled : (ls : List ℕ) → 1 ≤ length ls → length ls ≤ 8 → flat_map u32 ls ++ zeros (96 - (64 + 4 * length ls)) ≡ limit_bytes ls
some_spelled [] some few = absurd (omega (arith, some))
some_spelled (l ∷ ls) some few =
    let all : List ℕ = l ∷ ls in
    let size : 96 - (64 + 4 * length all) ≡ 4 * (8 - length all) = omega (arith, few) in
    ap (λ (n : ℕ). flat_map u32 all ++ zeros n) size ∙ ap (λ (r : List ℕ). flat_map u32 all ++ r) (sym (words_zero (8 - length all)))
    ∙ sym (flat_map-append u32 all (zeros (8 - length all)))

-- the eight numbers one by one
one_word : (n at : ℕ) (page : List ℕ) → u32s_at (suc n) (drop at page) ≡ u32_at page at ∷ u32s_at n (drop (at + 4) page)
one_word n at page = ap (λ (r : List ℕ). u32_at page at ∷ u32s_at n r) (drop-drop 4 at page)

pub eight_words : (page : List ℕ)
    → u32s_at 8 (drop 64 page) ≡ u32_at page 64 ∷ u32_at page 68 ∷ u32_at page 72 ∷ u32_at page 76 ∷ u32_at page 80 ∷ u32_at page 84 ∷ u32_at page 88 ∷ u32_at page 92 ∷ []
eight_words page =
    one_word 7 64 page ∙ ap (λ (r : List ℕ). u32_at page 64 ∷ r) (
    one_word 6 68 page ∙ ap (λ (r : List ℕ). u32_at page 68 ∷ r) (
    one_word 5 72 page ∙ ap (λ (r : List ℕ). u32_at page 72 ∷ r) (
    one_word 4 76 page ∙ ap (λ (r : List ℕ). u32_at page 76 ∷ r) (
    one_word 3 80 page ∙ ap (λ (r : List ℕ). u32_at page 80 ∷ r) (
    one_word 2 84 page ∙ ap (λ (r : List ℕ). u32_at page 84 ∷ r) (
    one_word 1 88 page ∙ ap (λ (r : List ℕ). u32_at page 88 ∷ r) (one_word 0 92 page)))))))

-- ---- what a root's limits take of a page

pub length-eight : (xs : List ℕ) → length xs ≤ 8 → length (padded 8 xs) ≡ 8
length-eight xs few =
    let rest : length (zeros (8 - length xs)) ≡ 8 - length xs = length-replicate _ 0 in
    omega (arith, length-append xs (zeros (8 - length xs)), rest)

padded_words : (xs : List ℕ) → length xs ≤ 8 → length (flat_map u32 (padded 8 xs)) ≡ 32
padded_words xs few = omega (arith, length-words (padded 8 xs), length-eight xs few)

pub some_wide : (ls : List ℕ) → 1 ≤ length ls → length ls ≤ 8 → length (limit_bytes ls) ≡ 32
some_wide [] some few = absurd (omega (arith, some))
some_wide (l ∷ ls) some few = padded_words (l ∷ ls) few

-- the tests of some limits
parts_of : (g : Shape) (l : ℕ) (ls : List ℕ) → are_limits g (l ∷ ls) ≡ true
    → (has_limits_room g ≡ true) × (nat_le (length (l ∷ ls)) 8 ≡ true) × (fit_in (limit g) (l ∷ ls) ≡ true)
parts_of g l ls e =
    let tests = both_true (has_limits_room g && nat_le (length (l ∷ ls)) 8) (fit_in (limit g) (l ∷ ls)) e in
    let own = both_true (has_limits_room g) (nat_le (length (l ∷ ls)) 8) tests.0 in
    (own.0, own.1, tests.1)

module _ (g : Shape) (shape : IsShape g) where
  pub limits_room : (ls : List ℕ) → are_limits g ls ≡ true → (64 + length (limit_bytes ls)) + 2 * (meta_blocks g + 4) ≤ g.page_bytes
  limits_room [] e = omega (arith, page_room g shape)
  limits_room (l ∷ ls) e =
      let (room, few, fit) = parts_of g l ls e in
      omega (arith, leb-true (64 + 32 + 2 * (meta_blocks g + 4)) g.page_bytes room, padded_words (l ∷ ls) (leb-true (length (l ∷ ls)) 8 few))

  pub limits_few : (ls : List ℕ) → are_limits g ls ≡ true → length ls ≤ 8
  limits_few [] e = omega arith
  limits_few (l ∷ ls) e = leb-true (length (l ∷ ls)) 8 (parts_of g l ls e).1

  -- limits that are kept are those of the namespaces
  pub limits_kept : (n : ℕ) (ls : List ℕ) → 1 ≤ n → n ≤ length ls → limits_of g (take n ls) ≡ take n ls
  limits_kept zero ls some room = absurd (omega (arith, some))
  limits_kept (suc n) [] some room = absurd (omega (arith, room))
  limits_kept (suc n) (l ∷ ls) some room = refl

  -- ---- a page that passes

  -- what a page has of limits, and what is read of them
  pub record Limited (page limits : List ℕ) : Type 0 where
    pub version : u16_at page 8 ≡ version_of limits
    pub count : u32_at page 20 ≡ length limits
    pub from : list_from page ≡ 64 + length (limit_bytes limits)
    pub stand : drop 64 page ≡ limit_bytes limits ++ drop (64 + length (limit_bytes limits)) page
    pub good : are_limits g limits ≡ true
    pub read : page_limits page ≡ limits
    pub kept : take (length limits) (u32s_at 8 (drop 64 page)) ≡ limits

  -- limits that are read are some
  record AreSome (k : ℕ) (bytes : List ℕ) : Type 0 where
    pub version : version_of (u32s_at k bytes) ≡ 3
    pub spelled : limit_bytes (u32s_at k bytes) ≡ flat_map u32 (padded 8 (u32s_at k bytes))
    pub test : are_limits g (u32s_at k bytes) ≡ (has_limits_room g && nat_le (length (u32s_at k bytes)) 8 && fit_in (limit g) (u32s_at k bytes))

  some_limits : (k : ℕ) (bytes : List ℕ) → 1 ≤ k → AreSome k bytes
  some_limits zero bytes some = absurd (omega (arith, some))
  some_limits (suc k) bytes some = record { version = refl; spelled = refl; test = refl }

  module _ (page : List ℕ) (fits : (i : ℕ) → get_or page i 0 < 256) (sized : length page ≡ g.page_bytes) (version : is_version g (u16_at page 8) ≡ true)
      (counted : is_space_count (u16_at page 8) (u32_at page 20) ≡ true) (good : space_fault g page ≡ None) where
    none_limited : has_limits page ≡ false → Limited page []
    none_limited off = record {
      version = eqb-true (u16_at page 8) 2 (plain (u16_at page 8 == 2) (u16_at page 8 == 3) (has_limits_room g) off version);
      count = eqb-true (u32_at page 20) 0 (sym (ap (λ (t : Bool). if t then nat_le 1 (u32_at page 20) && nat_le (u32_at page 20) 8 else u32_at page 20 == 0) off) ∙ counted);
      from = ap (λ (t : Bool). if t then 64 + 32 else 64) off;
      stand = refl;
      good = refl;
      read = ap (λ (t : Bool). if t then u32s_at (u32_at page 20) (drop 64 page) else []) off;
      kept = refl;
    }
      where
        plain : (a b c : Bool) → b ≡ false → (a || (b && c)) ≡ true → a ≡ true
        plain true b c e f = refl
        plain false true c e f = cc
        plain false false c e f = cc

    some_limited : has_limits page ≡ true → Limited page (u32s_at (u32_at page 20) (drop 64 page))
    unfolding space_fault
    some_limited on =
        let k : ℕ = u32_at page 20 in
        let behind : List ℕ = drop 64 page in
        let least = shape.page_least in
        let is : u16_at page 8 ≡ 3 = eqb-true (u16_at page 8) 3 on in
        let counts = both_true (nat_le 1 k) (nat_le k 8) (sym (ap (λ (t : Bool). if t then nat_le 1 k && nat_le k 8 else k == 0) on) ∙ counted) in
        let few : k ≤ 8 = leb-true k 8 counts.1 in
        let fault : limits_fault 64 (limit g) k (u32s_at 8 behind) ≡ None = sym (ap (λ (t : Bool). if t then limits_fault 64 (limit g) k (u32s_at 8 behind) else None) on) ∙ good in
        let taken = limits_taken 8 k 64 (limit g) behind few fault in
        let own = some_limits k behind (leb-true 1 k counts.0) in
        let len = length-u32s k behind in
        let eight : u32s_at 8 behind ≡ padded 8 (u32s_at k behind) = taken.0 ∙ ap (λ (m : ℕ). u32s_at k behind ++ zeros (8 - m)) (sym len) in
        let words : limit_bytes (u32s_at k behind) ≡ flat_map u32 (u32s_at 8 behind) = own.spelled ∙ ap (flat_map u32) (sym eight) in
        let wide : length (limit_bytes (u32s_at k behind)) ≡ 32 = ap length words ∙ length-words (u32s_at 8 behind) in
        let room = later (u16_at page 8 == 2) (u16_at page 8 == 3) (has_limits_room g) (ap (λ (v : ℕ). v == 2) is) version in
        record {
          version = is ∙ sym own.version;
          count = sym len;
          from = ap (λ (t : Bool). if t then 64 + 32 else 64) on ∙ ap (λ (w : ℕ). 64 + w) (sym wide);
          stand =
              words_stand 8 behind (λ i. rw (get_or-drop 64 page i 0) (fits (64 + i))) (omega (arith, length-drop 64 page, sized))
              ∙ ap (λ (r : List ℕ). r ++ drop 32 behind) (sym words)
              ∙ ap (λ (r : List ℕ). limit_bytes (u32s_at k behind) ++ r) (drop-drop 32 64 page ∙ ap (λ (w : ℕ). drop (64 + w) page) (sym wide));
          good = own.test ∙ and_from (has_limits_room g && nat_le (length (u32s_at k behind)) 8) (fit_in (limit g) (u32s_at k behind))
              (and_from (has_limits_room g) (nat_le (length (u32s_at k behind)) 8) room (ap (λ (m : ℕ). nat_le m 8) len ∙ counts.1)) taken.1;
          read = ap (λ (t : Bool). if t then u32s_at k behind else []) on;
          kept = ap (λ (r : List ℕ). take (length (u32s_at k behind)) r) taken.0 ∙ take_at (u32s_at k behind) (zeros (8 - k)) (length (u32s_at k behind)) refl;
        }
      where
        later : (a b c : Bool) → a ≡ false → (a || (b && c)) ≡ true → c ≡ true
        later false true c e f = f
        later _ _ c e f = cc

    pub limited : Limited page (page_limits page)
    limited = by_test (has_limits page) (Limited page (page_limits page))
        (λ yes. let own = some_limited yes in subst (Limited page) (sym own.read) own)
        (λ no. let own = none_limited no in subst (Limited page) (sym own.read) own)

  -- ---- a page of limits

  -- that they are read, and pass
  pub record Passes (page limits : List ℕ) : Type 0 where
    pub version : is_version g (u16_at page 8) ≡ true
    pub count : is_space_count (u16_at page 8) (u32_at page 20) ≡ true
    pub fault : space_fault g page ≡ None
    pub read : page_limits page ≡ limits
    pub from : list_from page ≡ 64 + length (limit_bytes limits)

  pub passes : (page limits : List ℕ) → are_limits g limits ≡ true → u16_at page 8 ≡ version_of limits → u32_at page 20 ≡ length limits
      → drop 64 page ≡ limit_bytes limits ++ drop (64 + length (limit_bytes limits)) page → Passes page limits
  unfolding space_fault
  passes page [] e v k stand = record {
    version = ap (is_version g) v;
    count = (λ i. is_space_count (v i) (k i));
    fault = ap (λ (n : ℕ). if n == 3 then limits_fault 64 (limit g) (u32_at page 20) (u32s_at 8 (drop 64 page)) else None) v;
    read = ap (λ (n : ℕ). if n == 3 then u32s_at (u32_at page 20) (drop 64 page) else []) v;
    from = ap (λ (n : ℕ). if n == 3 then 64 + 32 else 64) v;
  }
  passes page (l ∷ ls) e v k stand =
      let all : List ℕ = l ∷ ls in
      let (room, short, fit) = parts_of g l ls e in
      let few : length all ≤ 8 = leb-true (length all) 8 short in
      let rest : List ℕ = drop (64 + length (limit_bytes all)) page in
      let small = small_limits (limit g) all (limit_small g shape) fit in
      let eight : u32s_at 8 (drop 64 page) ≡ padded 8 all =
      ap (u32s_at 8) stand ∙ ap (λ (n : ℕ). u32s_at n (flat_map u32 (padded 8 all) ++ rest)) (sym (length-eight all few))
      ∙ words_again (padded 8 all) rest (small_zeros (8 - length all) all small) in
      let front : u32s_at (length all) (drop 64 page) ≡ all =
      ap (u32s_at (length all)) (stand ∙ ap (λ (r : List ℕ). r ++ rest) (flat_map-append u32 all (zeros (8 - length all)))
      ∙ append_assoc (flat_map u32 all) (flat_map u32 (zeros (8 - length all))) rest)
      ∙ words_again all (flat_map u32 (zeros (8 - length all)) ++ rest) small in
      record {
        version = ap (is_version g) v ∙ room;
        count = (λ i. is_space_count (v i) (k i)) ∙ and_from (nat_le 1 (length all)) (nat_le (length all) 8) (le-leb 1 (length all) (omega arith)) short;
        fault =
            ap (λ (n : ℕ). if n == 3 then limits_fault 64 (limit g) (u32_at page 20) (u32s_at 8 (drop 64 page)) else None) v
            ∙ (λ i. limits_fault 64 (limit g) (k i) (eight i)) ∙ limits_pass 64 (limit g) (8 - length all) all fit;
        read = ap (λ (n : ℕ). if n == 3 then u32s_at (u32_at page 20) (drop 64 page) else []) v ∙ ap (λ (n : ℕ). u32s_at n (drop 64 page)) k ∙ front;
        from = ap (λ (n : ℕ). if n == 3 then 64 + 32 else 64) v ∙ ap (λ (w : ℕ). 64 + w) (sym (padded_words all few));
      }
