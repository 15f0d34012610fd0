-- A merge leaves the entries that count, and its root names the output in place of source and target.
use Rattle.std.proofs.Common.{◌≡◌, ◌⊎◌, inl, inr, ℕ, zero, suc, ◌+◌, ◌-◌, ◌≤◌, ◌<◌, refl, sym, ap, subst, ◌∙◌, arith, T, List, [], ◌∷◌, ◌++◌, length, reverse, true, false, Option, None, if◌then◌else◌}
use Rattle.std.proofs.Common.{◌==◌, slice_set, Ok, slice_index_or, le_trans}
use Rattle.std.{specs.List.concat, specs.FinMap.Entries.find}
use Rattle.pk_base.{specs.Shape.Shape, specs.Page.Page, specs.Key.key_cmp, specs.Entry.Entry, specs.Firsts.firsts}
use Rattle.pk_meta.{specs.Over.over, specs.Run.run}
use Rattle.pk_model.{specs.Found.Found, specs.Found.entries_in_order, specs.Found.runs_from, specs.Values.placed, specs.Tree.merged, specs.Tree.blocks_after, proofs.Lookups.flat}
use Rattle.pk_model.proofs.Merges.{first_some, first_some_assoc, first_some_none, found_in, found_over, same_placed, merge_one, merge_two, merge_four}
use Rattle.pk_model.proofs.SamePages.{any_front, any_back}
use Rattle.pk_rootfmt.specs.Root.{Root, named, differ}
use Rattle.pk_law_steps.proofs.Places.{In, in_append, weight, weight-append, once, times, in_times, times_in, differ_times, among_both}
use Rattle.pk_law_steps.{specs.Merging.output_of, specs.Merging.counts_after, specs.Merging.merged_root, specs.Merging.freed_by, proofs.FourRuns.Runs, proofs.FourRuns.IsLevel, proofs.FourRuns.empty_run}

-- ---- what is found

abbrev found_of : List Entry → List Entry → List (List Entry) → Found
found_of newest older runs = record { newest = newest; older = older; runs = runs }

module _ (shape : Shape) (spaces : ℕ) (at : ℕ → Page) (newest older : List Entry) (counts : List ℕ) (runs : List (List ℕ))
    (lists : List (List Entry)) (four : Runs shape spaces at counts runs lists) (count : ℕ) (taken : List ℕ) where
  abbrev now : List (List Entry)
  now = four.r1 ∷ four.r2 ∷ four.r3 ∷ four.r4 ∷ []

  -- the runs are found after a merge into this level
  abbrev After : ℕ → List ℕ → List (List ℕ) → List (List Entry) → Type 0
  After level cs bs ls = run shape spaces at level count taken ≡ Ok (output_of level (found_of newest older ls))
      → runs_from shape spaces at 1 (counts_after level count cs) (blocks_after level taken bs) ≡ Ok (merged level older ls)

  after : (level : ℕ) → IsLevel level → After level (four.n1 ∷ four.n2 ∷ four.n3 ∷ four.n4 ∷ []) (four.b1 ∷ four.b2 ∷ four.b3 ∷ four.b4 ∷ []) now
  unfolding runs_from
  after level (inl e) = rw e (λ stands. let b = four.two in let c = four.three in let d = four.four in rw (stands, b, c, d) refl)
  after level (inr (inl e)) = rw e (λ stands. let a = empty_run shape spaces at 1 in let c = four.three in let d = four.four in rw (a, stands, c, d) refl)
  after level (inr (inr (inl e))) = rw e (λ stands. let a = four.one in let b = empty_run shape spaces at 2 in let d = four.four in rw (a, b, stands, d) refl)
  after level (inr (inr (inr e))) = rw e (λ stands. let a = four.one in let b = four.two in let c = empty_run shape spaces at 3 in rw (a, b, c, stands) refl)

  pub runs_after : (level : ℕ) → IsLevel level → After level counts runs lists
  runs_after level is = subst (λ cs. After level cs runs lists) (sym four.counts_are) (subst (λ bs. After level (four.n1 ∷ four.n2 ∷ four.n3 ∷ four.n4 ∷ []) bs lists) (sym four.runs_are)
      (subst (λ ls. After level (four.n1 ∷ four.n2 ∷ four.n3 ∷ four.n4 ∷ []) (four.b1 ∷ four.b2 ∷ four.b3 ∷ four.b4 ∷ []) ls) (sym four.lists_are) (after level is)))

-- ---- the entries that count

-- two lists as one, with nothing after the others
as_one : {X : Type 0} (b c d : Option X) → first_some (first_some b c) (first_some d None) ≡ first_some b (first_some c d)
as_one b c d = first_some_assoc b c (first_some d None) ∙ (λ i. first_some b (first_some c (first_some_none d i)))

module _ (newest extra older r1 r2 r3 r4 : List Entry) where
  abbrev four_lists : List (List Entry)
  four_lists = r1 ∷ r2 ∷ r3 ∷ r4 ∷ []

  abbrev before : List Entry
  before = entries_in_order (found_of newest older four_lists) extra

  abbrev top : List Entry
  top = reverse (newest ++ extra)

  merge_three : placed (firsts (entries_in_order (found_of newest older (merged 3 older four_lists)) extra)) ≡ placed (firsts before)
  merge_three = same_placed (entries_in_order (found_of newest older (merged 3 older four_lists)) extra) before (λ q. ap flat (
      found_in q top (reverse older) r1 (over r2 r3) r4 []
      ∙ (λ i. first_some (find key_cmp q top) (first_some (find key_cmp q (reverse older)) (first_some (find key_cmp q r1) (first_some (found_over q r2 r3 i) (first_some (find key_cmp q r4) None)))))
      ∙ (λ i. first_some (find key_cmp q top) (first_some (find key_cmp q (reverse older)) (first_some (find key_cmp q r1) (as_one (find key_cmp q r2) (find key_cmp q r3) (find key_cmp q r4) i))))
      ∙ sym (found_in q top (reverse older) r1 r2 r3 r4)))

  -- the same keys at the same places
  abbrev Same : ℕ → Type 0
  Same level = placed (firsts (entries_in_order (found_of newest (if level == 1 then [] else older) (merged level older four_lists)) extra)) ≡ placed (firsts before)

  same : (level : ℕ) → IsLevel level → Same level
  same level (inl e) = rw e (merge_one newest extra older r1 r2 r3 r4)
  same level (inr (inl e)) = rw e (merge_two newest extra older r1 r2 r3 r4)
  same level (inr (inr (inl e))) = rw e merge_three
  same level (inr (inr (inr e))) = rw e (merge_four newest extra older r1 r2 r3 r4)

pub same_places : (newest extra older : List Entry) (runs : List (List Entry)) (r1 r2 r3 r4 : List Entry) → runs ≡ r1 ∷ r2 ∷ r3 ∷ r4 ∷ [] → (level : ℕ) → IsLevel level
    → placed (firsts (entries_in_order (found_of newest (if level == 1 then [] else older) (merged level older runs)) extra)) ≡ placed (firsts (entries_in_order (found_of newest older runs) extra))
same_places newest extra older runs r1 r2 r3 r4 are level is =
    subst (λ ls. placed (firsts (entries_in_order (found_of newest (if level == 1 then [] else older) (merged level older ls)) extra))
    ≡ placed (firsts (entries_in_order (found_of newest older ls) extra))) (sym are) (same newest extra older r1 r2 r3 r4 level is)

-- ---- the blocks

-- a block of a list of runs in which one was set is one of that run, or was there before
pub in_set : (b i : ℕ) (new : List ℕ) (runs : List (List ℕ)) → In b (concat (slice_set runs i new)) → In b new ⊎ In b (concat runs)
in_set b i new [] is = inr is
in_set b zero new (bs ∷ runs) is = elim (in_append b new (concat runs) is) [ inl here ↦ inl here | inr there ↦ inr (any_back (λ x. b ≡ x) bs (concat runs) there) ]
in_set b (suc i) new (bs ∷ runs) is = elim (in_append b bs (concat (slice_set runs i new)) is) [
  | inl here ↦ inr (any_front (λ x. b ≡ x) bs (concat runs) here)
  | inr there ↦ elim (in_set b i new runs there) [ inl is_new ↦ inl is_new | inr was ↦ inr (any_back (λ x. b ≡ x) bs (concat runs) was) ]
]

-- a block of the runs after a merge is one that was taken, or was there before
pub in_after : (b level : ℕ) (taken : List ℕ) (runs : List (List ℕ)) → In b (concat (blocks_after level taken runs)) → In b taken ⊎ In b (concat runs)
in_after b level taken runs =
    elim (level == 1) as (λ one. In b (concat (if one then slice_set runs 0 taken else slice_set (slice_set runs (level - 1) taken) (level - 2) [])) → In b taken ⊎ In b (concat runs)) [
      | true ↦ λ is. in_set b 0 taken runs is
      | false ↦ λ is. elim (in_set b (level - 2) [] (slice_set runs (level - 1) taken) is) [ inl none ↦ absurd none | inr was ↦ in_set b (level - 1) taken runs was ]
    ]

-- ---- what the blocks weigh

module _ (w : ℕ → ℕ) where
  -- the blocks of the first run, which has new ones
  one_weighs : (new : List ℕ) (runs : List (List ℕ)) → 0 < length runs → weight w (concat (slice_set runs 0 new)) + weight w (slice_index_or runs 0 []) ≡ weight w (concat runs) + weight w new
  one_weighs new [] low = absurd (omega (arith, low))
  one_weighs new (bs ∷ runs) low = omega (arith, weight-append w new (concat runs), weight-append w bs (concat runs))

  -- the blocks of two runs, of which the later has new ones
  pair_weighs : (i : ℕ) (new : List ℕ) (runs : List (List ℕ)) → suc i < length runs
      → weight w (concat (slice_set (slice_set runs (suc i) new) i [])) + weight w (slice_index_or runs i [] ++ slice_index_or runs (suc i) []) ≡ weight w (concat runs) + weight w new
  pair_weighs zero new (bs ∷ cs ∷ runs) low =
      omega (arith, weight-append w new (concat runs), weight-append w bs cs, weight-append w bs (cs ++ concat runs), weight-append w cs (concat runs))
  pair_weighs (suc i) new (bs ∷ runs) low =
      let rest = pair_weighs i new runs (omega (arith, low)) in
      omega (arith, rest, weight-append w bs (concat (slice_set (slice_set runs (suc i) new) i [])), weight-append w bs (concat runs))
  pair_weighs i new runs low = absurd (omega (arith, low))

  module _ (root : Root) (count : ℕ) (taken : List ℕ) (four : length root.runs ≡ 4) where
    -- after a merge the root names what it named, without what is freed and with what was taken
    abbrev Weighs : ℕ → Type 0
    Weighs level = weight w (named (merged_root root level count taken)) + weight w (freed_by level root) ≡ weight w (named root) + weight w taken

    first : Weighs 1
    first =
        let runs = one_weighs taken root.runs (omega (arith, four)) in
        let now = weight-append w (root.newest ++ []) (concat (slice_set root.runs 0 taken)) in
        let gone = weight-append w root.older (slice_index_or root.runs 0 []) in
        let was = weight-append w (root.newest ++ root.older) (concat root.runs) in
        omega (arith, runs, now, gone, was, weight-append w root.newest [], weight-append w root.newest root.older)

    deep : (i : ℕ) → suc i < length root.runs → weight w ((root.newest ++ root.older) ++ concat (slice_set (slice_set root.runs (suc i) taken) i []))
        + weight w (slice_index_or root.runs i [] ++ slice_index_or root.runs (suc i) []) ≡ weight w (named root) + weight w taken
    deep i low =
        let runs = pair_weighs i taken root.runs low in
        let both = weight-append w (root.newest ++ root.older) in
        omega (arith, runs, both (concat root.runs), both (concat (slice_set (slice_set root.runs (suc i) taken) i [])))

    pub weighs : (level : ℕ) → IsLevel level → Weighs level
    weighs level (inl e) = rw e first
    weighs level (inr (inl e)) = rw e (deep 0 (omega (arith, four)))
    weighs level (inr (inr (inl e))) = rw e (deep 1 (omega (arith, four)))
    weighs level (inr (inr (inr e))) = rw e (deep 2 (omega (arith, four)))

-- ---- so of each block

module _ (root : Root) (level count : ℕ) (taken : List ℕ) (four : length root.runs ≡ 4) (which : IsLevel level) where
  pub named_times : (b : ℕ) → times b (named (merged_root root level count taken)) ≤ times b taken + times b (named root)
  named_times b = let all = weighs (once b) root count taken four level which in omega (arith, all)

  pub freed_times : (b : ℕ) → times b (freed_by level root) ≤ times b (named root)
  freed_times b = let all = weighs (once b) root count [] four level which in omega (arith, all)

  -- a block that is named after the merge was taken, or was named before
  pub either : (b : ℕ) → In b (named (merged_root root level count taken)) → In b taken ⊎ In b (named root)
  either b = among_both b (named (merged_root root level count taken)) taken (named root) (named_times b)

  -- one that is freed was named
  pub was_named : (b : ℕ) → In b (freed_by level root) → In b (named root)
  was_named b was = times_in b (named root) (le_trans (in_times b (freed_by level root) was) (freed_times b))

  -- and is named after the merge only if it was taken anew
  pub only : T (differ (named root)) → (b : ℕ) → In b (freed_by level root) → In b (named (merged_root root level count taken)) → In b taken
  only d b was is =
      let all = weighs (once b) root count taken four level which in
      times_in b taken (omega (arith, all, in_times b (freed_by level root) was, in_times b (named (merged_root root level count taken)) is, differ_times b (named root) d))
