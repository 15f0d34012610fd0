-- The live map of a list of values.
use Rattle.std.proofs.Common.{◌≡◌, ◌≢◌, inl, inr, ℕ, ◌+◌, ◌/◌, ◌<◌, ◌≤◌, Bool, true, false, not, ◌&&◌, ◌||◌, cond, List, [], ◌∷◌, ◌++◌, length, get_or, map, sum, replicate, refl, sym, subst, ap, ◌∙◌}
use Rattle.std.proofs.Common.{arith, ◌==◌, length-append, append-nil, append_assoc, length-set, get_or-set_same, get_or-set_other}
use Rattle.std.proofs.lemmas.Bool.{false≢true, not-true, or_cases, or_left, or_right, and_parts, eq-eqb, ne_eqb, cases_lt, cases_eq}
use Rattle.std.proofs.lemmas.List.FromFn.{length-range_with_len, length-map-range_with_len, get_or-map-range_with_len, fill_by_all}
use Rattle.std.{specs.Prelude.count_by, specs.List.list_any, specs.List.range_with_len, specs.List.AllByRecursion, proofs.Math.ListN.set, proofs.lemmas.List.Folds.list_any-append}
use Rattle.std.{proofs.lemmas.List.length-replicate, proofs.lemmas.List.get_or-replicate, proofs.lemmas.List.get_or_past, proofs.lemmas.List.Sums.sum_by-set, proofs.lemmas.List.Sums.sum_by-cons}
use Rattle.pk_base.{specs.Key.Key, specs.Shape.Shape, specs.Shape.IsShape, specs.Shape.page_count, specs.Shape.charge, specs.Entry.Place, specs.EntryChecks.IsPlace}
use Rattle.pk_live.{specs.Values.block_sum, proofs.Counts.block_sum-set_same, proofs.Counts.block_sum-set_other, proofs.Counts.counted_none, specs.Lives.head_of, specs.Lives.is_used}
use Rattle.pk_live.proofs.Blocks.{same_block}
use Rattle.pk_live.proofs.Ranges.{any_same, has, has_range, range_has, meets, meets_from, differ_append}
use Rattle.pk_segfmt.{specs.Value.value_pages, proofs.StoredLemmas.charge_some}
use Rattle.pk_model.specs.Values.{all_pages}
use Rattle.pk_rootfmt.specs.Root.{differ}

-- ---- lists that are made from a function

-- one element is written
pub map_set : {A : Type 0} (f g : ℕ → A) (m k : ℕ) (y d : A) → k < m → g k ≡ y → ((b : ℕ) → b ≢ k → g b ≡ f b) → set (map f (range_with_len 0 m)) k y ≡ map g (range_with_len 0 m)
map_set f g m k y d less here others =
    let xs = map f (range_with_len 0 m) in
    let len : length xs ≡ m = length-map-range_with_len f 0 m in
    fill_by_all g (set xs k y) m d (length-set xs k y ∙ len) (λ b b_in. elim (cases_eq b k) [
      | inl e ↦ ap (λ j. get_or (set xs k y) j d) e ∙ get_or-set_same xs k y d (omega (arith, less, len)) ∙ sym here ∙ ap g (sym e)
      | inr ne ↦ get_or-set_other xs k b y d ne ∙ get_or-map-range_with_len f 0 m b b d b_in (omega arith) ∙ sym (others b ne)
    ])

pub count_map : (f : ℕ → Bool) (xs : List ℕ) → count_by (λ b. b) (map f xs) ≡ count_by f xs
count_map f [] = refl
count_map f (x ∷ xs) = sum_by-cons (λ b. cond b 1 0) (f x) (map f xs) ∙ ap (λ n. cond (f x) 1 0 + n) (count_map f xs) ∙ sym (sum_by-cons (λ k. cond (f k) 1 0) x xs)

-- ---- what is one value more

module _ (shape : Shape) where
  pub all_pages-more : (es : List (Key × Place)) (key : Key) (place : Place) → all_pages shape (es ++ (key, place) ∷ []) ≡ all_pages shape es ++ value_pages shape place
  all_pages-more [] key place = append-nil (value_pages shape place)
  all_pages-more (e ∷ es) key place = ap (λ r. value_pages shape e.1 ++ r) (all_pages-more es key place) ∙ sym (append_assoc (value_pages shape e.1) (all_pages shape es) (value_pages shape place))

  pub head_of-more : (es : List (Key × Place)) (key : Key) (place : Place) (page : ℕ)
      → head_of shape (es ++ (key, place) ∷ []) page ≡ head_of shape es page + cond (place.page == page) (charge shape place.len) 0
  head_of-more [] key place page = omega arith
  head_of-more (e ∷ es) key place page =
      let rest = head_of-more es key place page in
      omega (arith, rest)

  abbrev pub Placed : List (Key × Place) → Type 0
  Placed es = AllByRecursion (λ e. IsPlace shape e.1) es

  pub Placed-more : (es : List (Key × Place)) (key : Key) (place : Place) → Placed es → IsPlace shape place → Placed (es ++ (key, place) ∷ [])
  Placed-more [] key place placed is = (is, tt)
  Placed-more (e ∷ es) key place placed is = (placed.0, Placed-more es key place placed.1 is)

module _ (shape : Shape) (is_shape : IsShape shape) where
  abbrev n : ℕ
  n = shape.block_pages

  some_pages : 0 < shape.block_pages
  some_pages = let least : 8 ≤ shape.block_pages = is_shape.block_least in omega (arith, least)

  -- ---- one value

  pub value_in_block : (place : Place) (b : ℕ) → IsPlace shape place → list_any (λ p. p / shape.block_pages == b) (value_pages shape place) ≡ (place.page / shape.block_pages == b)
  value_in_block place b is =
      any_same (λ p. p / shape.block_pages == b) place.page (charge shape place.len) (place.page / shape.block_pages == b) (charge_some shape is_shape place.len)
      (λ i less. ap (λ k. k == b) (same_block shape.block_pages place.page i (charge shape place.len) is.inside less))

  -- ---- the heads

  heads : List (Key × Place) → List ℕ
  heads es = map (head_of shape es) (range_with_len 0 (page_count shape))

  head_none : (es : List (Key × Place)) (h : ℕ) → Placed shape es → page_count shape ≤ h → head_of shape es h ≡ 0
  head_none [] h placed past = refl
  head_none (e ∷ es) h placed past =
      let other : (e.1.page == h) ≡ false = ne_eqb e.1.page h (λ same. absurd (omega (arith, same, past, placed.0.exists))) in
      rw (other, head_none es h placed.1 past) refl

  -- what the map has for a page
  pub heads_read : (es : List (Key × Place)) (h : ℕ) → Placed shape es → get_or (map (head_of shape es) (range_with_len 0 (page_count shape))) h 0 ≡ head_of shape es h
  heads_read es h placed = elim (cases_lt h (page_count shape)) [
    | inl less ↦ get_or-map-range_with_len (head_of shape es) 0 (page_count shape) h h 0 less (omega arith)
    | inr past ↦
        (let len = length-map-range_with_len (head_of shape es) 0 (page_count shape) in
        get_or_past (map (head_of shape es) (range_with_len 0 (page_count shape))) h 0 (omega (arith, past, len)) ∙ sym (head_none es h placed past))
  ]

  -- a page that a value covers is one of the values' pages
  pub covered : (es : List (Key × Place)) → differ (all_pages shape es) ≡ true → (h p : ℕ) → h ≤ p → p < h + head_of shape es h → has p (all_pages shape es) ≡ true
  covered [] apart h p low high = absurd (omega arith)
  covered (e ∷ es) apart h p low high =
      let own : List ℕ = value_pages shape e.1 in
      let rest : List ℕ = all_pages shape es in
      let whole = and_parts (differ own && differ rest) (not (meets own rest)) (sym (differ_append own rest) ∙ apart) in
      let each = and_parts (differ own) (differ rest) whole.0 in
      elim (cases_eq e.1.page h) [
        | inl same ↦
            (let here : (e.1.page == h) ≡ true = eq-eqb e.1.page h same in
            let high' : p < h + (charge shape e.1.len + head_of shape es h) = rw here at high in
            elim (cases_lt 0 (head_of shape es h)) [
              | inl more ↦
                  (let again = covered es each.1 h h (omega arith) (omega (arith, more)) in
                  let front = has_range h e.1.page (charge shape e.1.len) (omega (arith, same)) (omega (arith, same, charge_some shape is_shape e.1.len)) in
                  absurd (false≢true (sym (not-true (meets own rest) whole.1) ∙ meets_from h own rest front again)))
              | inr none ↦
                  list_any-append (λ c. p == c) own rest ∙ or_left (has p own) (has p rest) (has_range p e.1.page (charge shape e.1.len) (omega (arith, same, low)) (omega (arith, same, high', none)))
            ])
        | inr ne ↦
            (let other : (e.1.page == h) ≡ false = ne_eqb e.1.page h ne in
            let high' : p < h + (0 + head_of shape es h) = rw other at high in
            list_any-append (λ c. p == c) own rest ∙ or_right (has p own) (has p rest) (covered es each.1 h p low (omega (arith, high'))))
      ]

  -- each of them is covered
  pub covers : (es : List (Key × Place)) (p : ℕ) → has p (all_pages shape es) ≡ true → (h : ℕ) × (h ≤ p) × (p < h + head_of shape es h)
  covers [] p is = absurd (false≢true is)
  covers (e ∷ es) p is =
      let own : List ℕ = value_pages shape e.1 in
      let rest : List ℕ = all_pages shape es in
      elim (or_cases (has p own) (has p rest) (sym (list_any-append (λ c. p == c) own rest) ∙ is)) [
        | inl front ↦
            (let r = range_has p e.1.page (charge shape e.1.len) front in
            let here : (e.1.page == e.1.page) ≡ true = eq-eqb e.1.page e.1.page refl in
            (e.1.page, r.0, rw here (omega (arith, r.1))))
        | inr behind ↦
            (let r = covers es p behind in
            (r.0, r.1, omega (arith, r.2)))
      ]

  -- ---- the sums of the heads

  -- one more value, at the start
  head_first : (e : Key × Place) (es : List (Key × Place)) → IsPlace shape e.1
      → set (map (head_of shape es) (range_with_len 0 (page_count shape))) e.1.page
      (charge shape e.1.len + head_of shape es e.1.page) ≡ map (head_of shape (e ∷ es)) (range_with_len 0 (page_count shape))
  head_first e es is =
      map_set (head_of shape es) (head_of shape (e ∷ es)) (page_count shape) e.1.page (charge shape e.1.len + head_of shape es e.1.page) 0 is.exists
      (let here : (e.1.page == e.1.page) ≡ true = eq-eqb e.1.page e.1.page refl in rw here refl)
      (λ b ne. let other : (e.1.page == b) ≡ false = ne_eqb e.1.page b (λ same. ne (sym same)) in rw other (omega arith))

  no_heads : replicate (page_count shape) 0 ≡ map (head_of shape []) (range_with_len 0 (page_count shape))
  no_heads = fill_by_all (head_of shape []) (replicate (page_count shape) 0) (page_count shape) 0
      (length-replicate {A = ℕ} (page_count shape) 0) (λ k less. get_or-replicate {A = ℕ} (page_count shape) k 0 0 less)

  -- the live pages are the pages of the values
  pub total_is : (es : List (Key × Place)) → Placed shape es → sum (map (head_of shape es) (range_with_len 0 (page_count shape))) ≡ length (all_pages shape es)
  total_is [] placed =
      subst (λ hs. sum hs ≡ 0) no_heads (sym (counted_none shape.block_pages shape.blocks some_pages is_shape.block_most is_shape.blocks_most).all)
  total_is (e ∷ es) placed =
      let hs : List ℕ = map (head_of shape es) (range_with_len 0 (page_count shape)) in
      let len : length hs ≡ page_count shape = length-map-range_with_len (head_of shape es) 0 (page_count shape) in
      let changed = sum_by-set (λ x. x) hs e.1.page (charge shape e.1.len + head_of shape es e.1.page) 0 (omega (arith, len, placed.0.exists)) in
      let before = total_is es placed.1 in
      let read = heads_read es e.1.page placed.1 in
      let pages = length-append (value_pages shape e.1) (all_pages shape es) in
      let own = length-range_with_len e.1.page (charge shape e.1.len) in
      ap sum (sym (head_first e es placed.0)) ∙ omega (arith, changed, before, read, pages, own)

  -- a block has live pages exactly if a page of a value is in it
  pub block_is : (es : List (Key × Place)) (b : ℕ) → Placed shape es → b < shape.blocks
      → (block_sum (map (head_of shape es) (range_with_len 0 (page_count shape))) shape.block_pages b == 0) ≡ not (is_used shape es b)
  block_is [] b placed less =
      let none = counted_none shape.block_pages shape.blocks some_pages is_shape.block_most is_shape.blocks_most in
      let len : length (replicate shape.blocks 0) ≡ shape.blocks = length-replicate {A = ℕ} shape.blocks 0 in
      let zero_sum : block_sum (replicate (page_count shape) 0) shape.block_pages b ≡ 0 = sym (none.counted b (omega (arith, len, less))) ∙ get_or-replicate {A = ℕ} shape.blocks b 0 0 less in
      subst (λ hs. (block_sum hs shape.block_pages b == 0) ≡ true) no_heads (eq-eqb (block_sum (replicate (page_count shape) 0) shape.block_pages b) 0 zero_sum)
  block_is (e ∷ es) b placed less =
      let hs : List ℕ = map (head_of shape es) (range_with_len 0 (page_count shape)) in
      let y : ℕ = charge shape e.1.len + head_of shape es e.1.page in
      let len : length hs ≡ page_count shape = length-map-range_with_len (head_of shape es) 0 (page_count shape) in
      let in_hs : e.1.page < length hs = omega (arith, len, placed.0.exists) in
      let used : is_used shape (e ∷ es) b ≡ ((e.1.page / shape.block_pages == b) || is_used shape es b) =
      list_any-append (λ p. p / shape.block_pages == b) (value_pages shape e.1) (all_pages shape es) ∙ ap (λ t. t || is_used shape es b) (value_in_block e.1 b placed.0) in
      ap (λ l. block_sum l shape.block_pages b == 0) (sym (head_first e es placed.0))
      ∙ elim (cases_eq b (e.1.page / shape.block_pages)) [
        | inl same ↦
            (let changed = block_sum-set_same hs shape.block_pages e.1.page y some_pages in_hs in
            let read = heads_read es e.1.page placed.1 in
            let some = charge_some shape is_shape e.1.len in
            let more : block_sum (set hs e.1.page y) shape.block_pages (e.1.page / shape.block_pages) ≡ 0 → ⊥ = λ none. absurd (omega (arith, changed, read, some, none)) in
            let left : (block_sum (set hs e.1.page y) shape.block_pages b == 0) ≡ false =
            ap (λ k. block_sum (set hs e.1.page y) shape.block_pages k == 0) same ∙ ne_eqb (block_sum (set hs e.1.page y) shape.block_pages (e.1.page / shape.block_pages)) 0 more in
            let right : is_used shape (e ∷ es) b ≡ true = used ∙ or_left (e.1.page / shape.block_pages == b) (is_used shape es b) (eq-eqb (e.1.page / shape.block_pages) b (sym same)) in
            left ∙ ap not (sym right))
        | inr ne ↦
            (let other : (e.1.page / shape.block_pages == b) ≡ false = ne_eqb (e.1.page / shape.block_pages) b (λ same. ne (sym same)) in
            ap (λ k. k == 0) (block_sum-set_other hs shape.block_pages e.1.page y b some_pages ne) ∙ block_is es b placed.1 less
            ∙ ap not (sym (used ∙ ap (λ t. t || is_used shape es b) other)))
      ]
