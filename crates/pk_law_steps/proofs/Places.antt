-- One value more, or one less, that is well placed.
use Rattle.std.proofs.Common.{◌≡◌, ◌⊎◌, inl, inr, ℕ, zero, suc, ◌+◌, ◌/◌, ◌<◌, ◌≤◌, refl, sym, subst, arith, Bool, true, false, not, ◌||◌, cond, T, List, [], ◌∷◌, ◌++◌, length, filter, ◌==◌, eqb→eq}
use Rattle.std.proofs.Common.{eqb, ne_eqb, eqb-true, le_trans, eq-or-lt_of_le, if◌then◌else◌}
use Rattle.std.specs.declared.cmp.Ordering.TheVariants.{Less, Equal, Greater}
use Rattle.std.{proofs.lemmas.Bool.Decides.nat_tests, proofs.lemmas.Map.Made.length-le_from_is_member, specs.Cmp.nat_eq_equiv, specs.List.IsDistinct, specs.List.AllByRecursion}
use Rattle.std.{specs.List.list_any, specs.List.list_all, specs.List.range_with_len, specs.FinMap.Entries.put, specs.FinMap.Entries.by_order}
use Rattle.pk_base.{specs.Key.Key, specs.Key.key_cmp, specs.Shape.Shape, specs.Shape.charge, specs.Entry.Place}
use Rattle.pk_base.proofs.Logic.{is_true, of_true, left_part, right_part, both, or_cases}
use Rattle.pk_segfmt.specs.Value.{value_pages}
use Rattle.pk_rootfmt.specs.Root.{differ}
use Rattle.pk_model.{specs.Values.fits, specs.Values.blocks_with, specs.Values.all_pages, specs.Values.KeepsWithin, specs.Values.pages_of_space, specs.Laws.AnyByRecursion, proofs.SamePages.any_front}
use Rattle.pk_model.proofs.Commits.{refuted, rest_differs, any_behind, is_any, or_right}
use Rattle.pk_model.proofs.ValueSets.{fits_parts, parts_fit, filter_more}
use Rattle.pk_law_steps.{specs.Under.IsValuePage, specs.Stores.Fits}

abbrev pub In : ℕ → List ℕ → Type 0
In k xs = AnyByRecursion (λ y. k ≡ y) xs

-- ---- tests of lists, and what is in them

pub not_of : (b : Bool) → (T b → ⊥) → T (not b)
not_of true is = is tt
not_of false is = tt

or_left : (a b : Bool) → T a → T (a || b)
or_left true b p = tt
or_left false b p = absurd p

eq_of : (a b : ℕ) → T (a == b) → a ≡ b
eq_of a b t = eqb→eq a b t

pub in_append : (k : ℕ) (xs ys : List ℕ) → In k (xs ++ ys) → In k xs ⊎ In k ys
in_append k [] ys is = inr is
in_append k (x ∷ xs) ys (inl e) = inl (inl e)
in_append k (x ∷ xs) ys (inr is) = elim (in_append k xs ys is) [ inl front ↦ inl (inr front) | inr back ↦ inr back ]

pub in_range : (k a n : ℕ) → In k (range_with_len a n) → (a ≤ k) × (k < a + n)
in_range k a zero is = absurd is
in_range k a (suc n) (inl e) = (omega (arith, e), omega (arith, e))
in_range k a (suc n) (inr is) = let rest = in_range k (a + 1) n is in let low = rest.0 in let high = rest.1 in (omega (arith, low), omega (arith, high))

pub range_in : (k a n : ℕ) → a ≤ k → k < a + n → In k (range_with_len a n)
range_in k a zero low high = absurd (omega (arith, low, high))
range_in k a (suc n) low high = elim (eq-or-lt_of_le low) [ inl e ↦ inl (sym e) | inr above ↦ inr (range_in k (a + 1) n (omega (arith, above)) (omega (arith, high))) ]

pub all_of : (p : ℕ → Bool) (xs : List ℕ) → ((k : ℕ) → In k xs → T (p k)) → T (list_all p xs)
all_of p [] every = tt
all_of p (x ∷ xs) every = both (p x) (list_all p xs) (every x (inl refl)) (all_of p xs (λ k is. every k (inr is)))

pub all_at_each : (p : ℕ → Bool) (xs : List ℕ) (b : ℕ) → T (list_all p xs) → In b xs → T (p b)
all_at_each p [] b all is = absurd is
all_at_each p (x ∷ xs) b all (inl e) = subst (λ y. T (p y)) (sym e) (left_part (p x) (list_all p xs) all)
all_at_each p (x ∷ xs) b all (inr is) = all_at_each p xs b (right_part (p x) (list_all p xs) all) is

-- an element that passes a test
any_at : (p : ℕ → Bool) (xs : List ℕ) → T (list_any p xs) → (k : ℕ) × In k xs × T (p k)
any_at p [] t = absurd t
any_at p (x ∷ xs) t = elim (or_cases (p x) (list_any p xs) t) [
  | inl here ↦ (x, inl refl, here)
  | inr there ↦ let more = any_at p xs there in (more.0, inr more.1, more.2)
]

any_of : (p : ℕ → Bool) (xs : List ℕ) (k : ℕ) → In k xs → T (p k) → T (list_any p xs)
any_of p [] k is t = absurd is
any_of p (x ∷ xs) k (inl e) t = or_left (p x) (list_any p xs) (subst (λ y. T (p y)) e t)
any_of p (x ∷ xs) k (inr is) t = or_right (p x) (list_any p xs) (any_of p xs k is t)

pub any_in : (x : ℕ) (xs : List ℕ) → T (list_any (λ c. x == c) xs) → In x xs
any_in x xs t = let found = any_at (λ c. x == c) xs t in subst (λ y. In y xs) (sym (eq_of x found.0 found.2)) found.1

pub any_in_back : (x : ℕ) (xs : List ℕ) → T (list_any (λ c. c == x) xs) → In x xs
any_in_back x xs t = let found = any_at (λ c. c == x) xs t in subst (λ y. In y xs) (eq_of found.0 x found.2) found.1

some_or_none : (n : ℕ) → (1 ≤ n) ⊎ (n ≡ 0)
some_or_none zero = inr refl
some_or_none (suc n) = inl (omega arith)

-- ---- lists without repetition

absent : (x : ℕ) (xs : List ℕ) → T (differ (x ∷ xs)) → In x xs → ⊥
absent x xs d is = refuted (list_any (λ c. x == c) xs) (left_part (not (list_any (λ c. x == c) xs)) (differ xs) d) (is_any x xs is)

pub differ_cons : (x : ℕ) (xs : List ℕ) → (In x xs → ⊥) → T (differ xs) → T (differ (x ∷ xs))
differ_cons x xs new d = both (not (list_any (λ c. x == c) xs)) (differ xs) (not_of (list_any (λ c. x == c) xs) (λ t. new (any_in x xs t))) d

pub differ_range : (a n : ℕ) → T (differ (range_with_len a n))
differ_range a zero = tt
differ_range a (suc n) = differ_cons a (range_with_len (a + 1) n) (λ is. let low = (in_range a (a + 1) n is).0 in omega (arith, low)) (differ_range (a + 1) n)

in_filter : (p : ℕ → Bool) (k : ℕ) (xs : List ℕ) → In k (filter p xs) → In k xs × T (p k)
in_filter p k [] is = absurd is
in_filter p k (x ∷ xs) is =
    elim (p x) as (λ b. p x ≡ b → In k (cond b (x ∷ filter p xs) (filter p xs)) → In k (x ∷ xs) × T (p k)) [
      | true ↦ λ e here. elim here [
        | inl same ↦ (inl same, subst (λ y. T (p y)) (sym same) (subst T (sym e) tt))
        | inr rest ↦ let more = in_filter p k xs rest in (inr more.0, more.1)
      ]
      | false ↦ λ e rest. let more = in_filter p k xs rest in (inr more.0, more.1)
    ] refl is

differ_filter : (p : ℕ → Bool) (xs : List ℕ) → T (differ xs) → T (differ (filter p xs))
differ_filter p [] d = tt
differ_filter p (x ∷ xs) d =
    let rest = differ_filter p xs (rest_differs x xs d) in
    elim (p x) as (λ b. T (differ (cond b (x ∷ filter p xs) (filter p xs)))) [
      | true ↦ differ_cons x (filter p xs) (λ is. absent x xs d (in_filter p x xs is).0) rest
      | false ↦ rest
    ]

none_equal : (x : ℕ) (xs : List ℕ) → ((k : ℕ) → In k xs → x ≡ k → ⊥) → AllByRecursion (λ y. eqb x y ≡ false) xs
none_equal x [] other = tt
none_equal x (y ∷ ys) other = (ne_eqb x y (other y (inl refl)), none_equal x ys (λ k is. other k (inr is)))

distinct : (xs : List ℕ) → T (differ xs) → IsDistinct eqb xs
unfolding IsDistinct
distinct [] d = tt
distinct (x ∷ xs) d = (none_equal x xs (λ k is e. absent x xs d (subst (λ y. In y xs) (sym e) is)), distinct xs (rest_differs x xs d))

-- different elements that are all among others are not more than these
pub no_more : (xs ys : List ℕ) → T (differ xs) → ((k : ℕ) → In k xs → In k ys) → length xs ≤ length ys
no_more xs ys d among = length-le_from_is_member nat_eq_equiv xs ys (distinct xs d) (λ q t. is_true _ (is_any q ys (among q (any_in q xs (of_true _ t)))))

-- ---- what a list weighs, each element by itself: how often an element is in it, and how long it is

abbrev pub weight : (ℕ → ℕ) → List ℕ → ℕ
weight w [] = 0
weight w (x ∷ xs) = w x + weight w xs

pub weight-append : (w : ℕ → ℕ) (xs ys : List ℕ) → weight w (xs ++ ys) ≡ weight w xs + weight w ys
weight-append w [] ys = omega arith
weight-append w (x ∷ xs) ys = let rest = weight-append w xs ys in omega (arith, rest)

pub weight-ones : (xs : List ℕ) → weight (λ x. 1) xs ≡ length xs
weight-ones [] = refl
weight-ones (x ∷ xs) = let rest = weight-ones xs in omega (arith, rest)

abbrev pub once : ℕ → ℕ → ℕ
once k x = if k == x then 1 else 0

abbrev pub times : ℕ → List ℕ → ℕ
times k xs = weight (once k) xs

pub in_times : (k : ℕ) (xs : List ℕ) → In k xs → 1 ≤ times k xs
in_times k [] is = absurd is
in_times k (x ∷ xs) (inl e) = grind (arith, nat_tests, e)
in_times k (x ∷ xs) (inr is) = let rest = in_times k xs is in omega (arith, rest)

pub times_in : (k : ℕ) (xs : List ℕ) → 1 ≤ times k xs → In k xs
times_in k [] some = absurd (omega (arith, some))
times_in k (x ∷ xs) some = elim (k == x) as (λ t. (k == x) ≡ t → 1 ≤ (if t then 1 else 0) + times k xs → In k (x ∷ xs)) [
  | true ↦ λ e h. inl (eqb-true k x e)
  | false ↦ λ e h. inr (times_in k xs (omega (arith, h)))
] refl some

pub differ_times : (k : ℕ) (xs : List ℕ) → T (differ xs) → times k xs ≤ 1
differ_times k [] d = omega arith
differ_times k (x ∷ xs) d = elim (k == x) as (λ t. (k == x) ≡ t → (if t then 1 else 0) + times k xs ≤ 1) [
  | true ↦ λ e. elim (some_or_none (times k xs)) [ inl some ↦ absurd (absent x xs d (subst (λ y. In y xs) (eqb-true k x e) (times_in k xs some))) | inr none ↦ omega (arith, none) ]
  | false ↦ λ e. let rest = differ_times k xs (rest_differs x xs d) in omega (arith, rest)
] refl

pub times_differ : (xs : List ℕ) → ((k : ℕ) → times k xs ≤ 1) → T (differ xs)
times_differ [] few = tt
times_differ (x ∷ xs) few = differ_cons x xs
    (λ is. let more = in_times x xs is in let most = few x in let here : once x x ≡ 1 = grind (arith, nat_tests) in omega (arith, more, most, here))
    (times_differ xs (λ k. let most = few k in omega (arith, most)))

-- a list that has no element more often than two others together
pub among_both : (k : ℕ) (zs xs ys : List ℕ) → times k zs ≤ times k xs + times k ys → In k zs → In k xs ⊎ In k ys
among_both k zs xs ys few is = let here = in_times k zs is in elim (some_or_none (times k xs)) [ inl some ↦ inl (times_in k xs some) | inr none ↦ inr (times_in k ys (omega (arith, few, here, none))) ]

pub both_differ : (zs xs ys : List ℕ) → ((k : ℕ) → times k zs ≤ times k xs + times k ys) → T (differ xs) → T (differ ys) → ((k : ℕ) → In k xs → In k ys → ⊥) → T (differ zs)
both_differ zs xs ys few front back none = times_differ zs (λ k.
    let most = few k in
    let one = differ_times k xs front in
    let other = differ_times k ys back in
    elim (some_or_none (times k xs)) [
      | inl here ↦ elim (some_or_none (times k ys)) [ inl there ↦ absurd (none k (times_in k xs here) (times_in k ys there)) | inr zero_there ↦ omega (arith, most, one, zero_there) ]
      | inr zero_here ↦ omega (arith, most, other, zero_here)
    ])

pub differ_append : (xs ys : List ℕ) → T (differ xs) → T (differ ys) → ((k : ℕ) → In k xs → In k ys → ⊥) → T (differ (xs ++ ys))
differ_append xs ys = both_differ (xs ++ ys) xs ys (λ k. let all = weight-append (once k) xs ys in omega (arith, all))

-- the values whose keys pass a test
abbrev pub kept : (Key → Bool) → List (Key × Place) → List (Key × Place)
kept q es = filter (λ e. q e.0) es

-- ---- the pages of values

pub differ_back : (xs ys : List ℕ) → T (differ (xs ++ ys)) → T (differ ys)
differ_back [] ys d = d
differ_back (x ∷ xs) ys d = differ_back xs ys (rest_differs x (xs ++ ys) d)

module _ (shape : Shape) where
  pub value_in : (es : List (Key × Place)) (k : ℕ) → IsValuePage shape es k → In k (all_pages shape es)
  value_in [] k is = absurd is
  value_in (e ∷ es) k (inl here) = any_front (λ y. k ≡ y) (value_pages shape e.1) (all_pages shape es) (range_in k e.1.page (charge shape e.1.len) here.0 here.1)
  value_in (e ∷ es) k (inr there) = any_behind (λ y. k ≡ y) (value_pages shape e.1) (all_pages shape es) (value_in es k there)

  pub in_value : (es : List (Key × Place)) (k : ℕ) → In k (all_pages shape es) → IsValuePage shape es k
  in_value [] k is = absurd is
  in_value (e ∷ es) k is = elim (in_append k (value_pages shape e.1) (all_pages shape es) is) [
    | inl here ↦ inl
        (in_range k e.1.page (charge shape e.1.len) here)
    | inr there ↦ inr (in_value es k there)
  ]

  pub few_blocks : (pages used : List ℕ) → ((k : ℕ) → In k pages → AnyByRecursion (λ b. k / shape.block_pages ≡ b) used) → length (blocks_with shape pages) ≤ length used
  few_blocks pages used among = no_more (blocks_with shape pages) used
      (differ_filter (λ b. list_any (λ p. p / shape.block_pages == b) pages) (range_with_len 0 shape.blocks) (differ_range 0 shape.blocks)) (λ b is.
      let with_page = (in_filter (λ c. list_any (λ p. p / shape.block_pages == c) pages) b (range_with_len 0 shape.blocks) is).1 in
      let page = any_at (λ p. p / shape.block_pages == b) pages with_page in
      subst (λ x. In x used) (eq_of (page.0 / shape.block_pages) b page.2) (among page.0 page.1))

  -- ---- one value more

  put_weighs : (w : ℕ → ℕ) (key : Key) (place : Place) (es : List (Key × Place))
      → weight w (all_pages shape (put key_cmp key place es)) ≤ weight w (value_pages shape place) + weight w (all_pages shape es)
  put_weighs w key place [] = let all = weight-append w (value_pages shape place) [] in omega (arith, all)
  put_weighs w key place (e ∷ es) =
      let new = weight-append w (value_pages shape place) in
      let here = weight-append w (value_pages shape e.1) in
      let rest = put_weighs w key place es in
      elim (key_cmp key e.0) as (λ r. weight w (all_pages shape (by_order r ((key, place) ∷ e ∷ es) ((e.0, place) ∷ es) (e ∷ put key_cmp key place es)))
      ≤ weight w (value_pages shape place) + weight w (all_pages shape (e ∷ es))) [
        | Less ↦ omega (arith, new (all_pages shape (e ∷ es)))
        | Equal ↦ omega (arith, new (all_pages shape es), here (all_pages shape es))
        | Greater ↦ omega (arith, here (all_pages shape (put key_cmp key place es)), here (all_pages shape es), rest)
      ]

  -- ---- some values less

  module _ (q : Key → Bool) where
    kept_weighs : (w : ℕ → ℕ) (es : List (Key × Place)) → weight w (all_pages shape (kept q es)) ≤ weight w (all_pages shape es)
    kept_weighs w [] = omega arith
    kept_weighs w (e ∷ es) =
        let rest = kept_weighs w es in
        let all = weight-append w (value_pages shape e.1) in
        elim (q e.0) as (λ b. weight w (all_pages shape (cond b (e ∷ kept q es) (kept q es))) ≤ weight w (all_pages shape (e ∷ es))) [
          | true ↦ omega (arith, rest, all (all_pages shape es), all (all_pages shape (kept q es)))
          | false ↦ omega (arith, rest, all (all_pages shape es))
        ]

    in_kept : (k : ℕ) (es : List (Key × Place)) → In k (all_pages shape (kept q es)) → In k (all_pages shape es)
    in_kept k es is = times_in k (all_pages shape es) (le_trans (in_times k (all_pages shape (kept q es)) is) (kept_weighs (once k) es))

    -- fewer values are well placed
    pub kept_fit : (blocks : List ℕ) (es : List (Key × Place)) → T (fits shape blocks (all_pages shape es)) → T (fits shape blocks (all_pages shape (kept q es)))
    kept_fit blocks es is =
        let parts = fits_parts shape blocks (all_pages shape es) is in
        let fewer = kept_weighs (λ x. 1) es in
        let passes : (p : ℕ → Bool) → T (list_any p (all_pages shape (kept q es))) → T (list_any p (all_pages shape es)) = λ p t.
        let page = any_at p (all_pages shape (kept q es)) t in any_of p (all_pages shape es) page.0 (in_kept page.0 es page.1) page.2 in
        parts_fit shape blocks (all_pages shape (kept q es)) (record {
          out = all_of (λ p. not (list_any (λ b. b == p / shape.block_pages) blocks)) (all_pages shape (kept q es)) (λ k is. all_at_each _ (all_pages shape es) k parts.out (in_kept k es is));
          different = times_differ (all_pages shape (kept q es)) (λ k. le_trans (kept_weighs (once k) es) (differ_times k (all_pages shape es) parts.different));
          few = (let most = parts.few in omega (arith, fewer, weight-ones (all_pages shape (kept q es)), weight-ones (all_pages shape es), most));
          few_blocks = le_trans (filter_more (λ b. list_any (λ p. p / shape.block_pages == b) (all_pages shape (kept q es)))
              (λ b. list_any (λ p. p / shape.block_pages == b) (all_pages shape es)) (λ b t. passes _ t) (range_with_len 0 shape.blocks)) parts.few_blocks;
        })

    -- and keep within the limits
    pub within_kept : (limits : List ℕ) (es : List (Key × Place)) → KeepsWithin shape limits es → KeepsWithin shape limits (kept q es)
    within_kept limits es all space = le_trans (fewer_kept es) (all space)
      where
        fewer_kept : (es : List (Key × Place)) → pages_of_space shape space (kept q es) ≤ pages_of_space shape space es
        fewer_kept [] = omega arith
        fewer_kept (e ∷ es) =
            let rest = fewer_kept es in
            elim (q e.0) as (λ b. pages_of_space shape space (cond b (e ∷ kept q es) (kept q es)) ≤ pages_of_space shape space (e ∷ es)) [ true ↦ omega (arith, rest) | false ↦ omega (arith, rest) ]

-- one value more is well placed
pub fits_more : Fits
fits_more shape blocks used es key place is outside new few among few_used =
    let parts = fits_parts shape blocks (all_pages shape es) (subst T (sym is) tt) in
    let pages = all_pages shape (put key_cmp key place es) in
    let in_blocks : ℕ → Bool = λ k. list_any (λ b. b == k / shape.block_pages) blocks in
    is_true _ (parts_fit shape blocks pages (record {
      out = all_of (λ k. not (in_blocks k)) pages (λ k is. elim (among_both k pages (value_pages shape place) (all_pages shape es) (put_weighs shape (once k) key place es) is) [
        | inl here ↦ not_of (in_blocks k) (λ t. outside k (in_range k place.page (charge shape place.len) here) (any_in_back (k / shape.block_pages) blocks t))
        | inr there ↦ all_at_each _ (all_pages shape es) k parts.out there
      ]);
      different = both_differ pages (value_pages shape place) (all_pages shape es) (λ k. put_weighs shape (once k) key place es) (differ_range place.page (charge shape place.len)) parts.different
          (λ k here there. new k (in_range k place.page (charge shape place.len) here) (in_value shape es k there));
      few = few;
      few_blocks = le_trans (few_blocks shape pages used (λ k i. among k (in_value shape (put key_cmp key place es) k i))) few_used;
    }))
