-- The root after a merge is one of the grammar.
use Rattle.std.proofs.Common.{◌≡◌, inl, inr, ℕ, zero, suc, ◌+◌, ◌-◌, ◌*◌, ◌<◌, ◌≤◌, sym, ap, subst, ◌∙◌, arith, Bool, true, false, ◌&&◌, ◌||◌, T, List, [], ◌∷◌, length, map, zip, nat_le, nat_lt, ◌==◌}
use Rattle.std.proofs.Common.{slice_set, slice_index, if◌then◌else◌, leb→le, le→leb, eqb-true, refl}
use Rattle.std.{specs.Prelude.bytes_eq, proofs.lemmas.List.length-set, proofs.lemmas.List.map-set, proofs.lemmas.Slice.Eq.bytes_eq-Decides, specs.List.list_all}
use Rattle.pk_base.{specs.Shape.Shape, specs.Shape.page_entries, specs.Shape.caps, specs.Shape.run_blocks, specs.Shape.blocks_of, specs.Merge.room}
use Rattle.pk_base.proofs.Logic.{is_true, left_part, right_part, both, of_true}
use Rattle.pk_rootfmt.specs.Root.{Root, named, is_root, has_runs, differ}
use Rattle.pk_rootfmt.proofs.PageLemmas.{Parts, root_parts, parts_root}
use Rattle.pk_model.{specs.Tree.blocks_after}
use Rattle.pk_law_steps.proofs.Places.{In, all_of, all_at_each, both_differ}
use Rattle.pk_law_steps.{specs.Merging.merged_root, specs.Merging.counts_after, specs.Merging.MergedGrammar, proofs.Merging.named_times, proofs.Merging.either}
use Rattle.pk_law_steps.{proofs.Amounts.levels, proofs.FourRuns.IsLevel, proofs.FourRuns.FourOf, proofs.FourRuns.four_of_root, proofs.FourRuns.ceil_none}

-- ---- counts and sizes

module _ (shape : Shape) where
  no_run : run_blocks shape 0 ≡ 0
  no_run = ap (blocks_of shape) (ceil_none (page_entries shape)) ∙ ceil_none shape.block_pages

  -- a count that is set within its cap
  fit_set : (i n : ℕ) (ns cs : List ℕ) → n ≤ slice_index cs i * page_entries shape → T (list_all (λ p. nat_le p.0 (p.1 * page_entries shape)) (zip ns cs))
      → T (list_all (λ p. nat_le p.0 (p.1 * page_entries shape)) (zip (slice_set ns i n) cs))
  fit_set zero n (x ∷ xs) (c ∷ cs) few fit = both (nat_le n (c * page_entries shape)) _ (le→leb _ _ few) (right_part (nat_le x (c * page_entries shape)) _ fit)
  fit_set (suc i) n (x ∷ xs) (c ∷ cs) few fit =
      both (nat_le x (c * page_entries shape)) _ (left_part (nat_le x (c * page_entries shape)) _ fit) (fit_set i n xs cs few (right_part (nat_le x (c * page_entries shape)) _ fit))
  fit_set i n ns cs few fit = tt

  -- a run that is set, with its count
  set_fits : (i n : ℕ) (new ns : List ℕ) (bs : List (List ℕ)) → n ≤ slice_index (caps shape) i * page_entries shape → length new ≡ run_blocks shape n
      → FourOf shape ns bs → FourOf shape (slice_set ns i n) (slice_set bs i new)
  set_fits i n new ns bs few size was = record {
    counts = length-set ns i n ∙ was.counts;
    runs = length-set bs i new ∙ was.runs;
    fit = fit_set i n ns (caps shape) few was.fit;
    sizes = map-set (λ b. length b) bs i new ∙ (λ k. slice_set (was.sizes k) i (size k)) ∙ sym (map-set (run_blocks shape) ns i n);
  }

  after_fits : (level count : ℕ) (taken ns : List ℕ) (bs : List (List ℕ)) → count ≤ room shape level → length taken ≡ run_blocks shape count
      → FourOf shape ns bs → FourOf shape (counts_after level count ns) (blocks_after level taken bs)
  after_fits level count taken ns bs few size was = elim (level == 1) as (λ one. (level == 1) ≡ one → FourOf shape
      (if one then slice_set ns 0 count else slice_set (slice_set ns (level - 1) count) (level - 2) 0)
      (if one then slice_set bs 0 taken else slice_set (slice_set bs (level - 1) taken) (level - 2) [])) [
        | true ↦ λ e. set_fits 0 count taken ns bs (subst (λ l. count ≤ room shape l) (eqb-true level 1 e) few) size was
        | false ↦ λ e. set_fits (level - 2) 0 [] _ _ (omega arith) (sym no_run) (set_fits (level - 1) count taken ns bs few size was)
      ] refl

-- ---- the root

module _ (shape : Shape) (root : Root) (level count : ℕ) (taken : List ℕ) (is : T (is_root shape root)) (which : IsLevel level)
    (few : count ≤ room shape level) (size : length taken ≡ run_blocks shape count) (fresh : T (differ taken))
    (place : (b : ℕ) → In b taken → (2 ≤ b) × (b < shape.blocks)) (new : (b : ℕ) → In b taken → In b (named root) → ⊥) (small : root.number + 1 < 18446744073709551616) where
  abbrev in_flash : ℕ → Bool
  in_flash b = nat_le 2 b && nat_lt b shape.blocks

  abbrev then_older : List ℕ
  then_older = if level == 1 then [] else root.older

  abbrev then_runs : List (List ℕ)
  then_runs = blocks_after level taken root.runs

  was : Parts shape root
  was = root_parts shape root (is_true _ is)

  four : FourOf shape root.counts root.runs
  four = four_of_root shape root is

  in_place : (b : ℕ) → In b taken → T (in_flash b)
  in_place b among = let p = place b among in both (nat_le 2 b) (nat_lt b shape.blocks) (le→leb 2 b p.0) (le→leb (suc b) shape.blocks p.1)

  inside : T (list_all in_flash (named (merged_root root level count taken)))
  inside = all_of in_flash (named (merged_root root level count taken))
      (λ b among. elim (either root level count taken four.runs which b among) [ inl is_new ↦ in_place b is_new | inr former ↦ all_at_each in_flash (named root) b (of_true _ was.blocks) former ])

  different : T (differ (named (merged_root root level count taken)))
  different = both_differ _ taken (named root) (named_times root level count taken four.runs which) fresh (of_true _ was.differs) new

  runs_fit : T (has_runs shape (merged_root root level count taken))
  runs_fit =
      let fits = after_fits shape level count taken root.counts root.runs few size four in
      let counts = counts_after level count root.counts in
      both (length counts == 4 && list_all (λ p. nat_le p.0 (p.1 * page_entries shape)) (zip counts (caps shape)))
      (bytes_eq (map length then_runs) (map (run_blocks shape) counts)) (both _ _ (subst (λ n. T (n == 4)) (sym fits.counts) tt) fits.fit)
      (subst T (sym ((bytes_eq-Decides (map length then_runs) (map (run_blocks shape) counts)).1 fits.sizes)) tt)

  older_fits : T (length then_older == 0 || (length then_older == 2 && nat_le 2 root.epoch))
  older_fits = by_case (level == 1)
    where
      by_case : (one : Bool) → T (length (if one then [] else root.older) == 0 || (length (if one then [] else root.older) == 2 && nat_le 2 root.epoch))
      by_case true = tt
      by_case false = of_true _ was.older

  pub merged_is_root : T (is_root shape (merged_root root level count taken))
  merged_is_root =
      let high = leb→le root.epoch root.number (of_true _ was.most) in
      of_true _ (parts_root shape (merged_root root level count taken) (record {
        number = is_true _ (both (nat_le 1 (root.number + 1)) (nat_lt (root.number + 1) 18446744073709551616)
            (le→leb 1 (root.number + 1) (omega arith)) (le→leb (suc (root.number + 1)) 18446744073709551616 small));
        some = was.some;
        most = is_true _ (le→leb root.epoch (root.number + 1) (omega (arith, high)));
        two = was.two;
        older = is_true _ older_fits;
        runs = is_true _ runs_fit;
        blocks = is_true _ inside;
        differs = is_true _ different;
        limits = was.limits;
      }))

pub merged_grammar : MergedGrammar
merged_grammar shape root level count taken is low high few size fresh place new small = is_true _
    (merged_is_root shape root level count taken (subst T (sym is) tt) (levels level low high) few size (subst T (sym fresh) tt) place new (omega (arith, small)))
