-- The live pages of a map are those of its namespaces together.
use Rattle.std.proofs.lemmas.Bool.Decides.{nat_tests}
use Rattle.std.proofs.Common.{if◌then◌else◌, nat_le, nat_lt, ◌&&◌, ◌≡◌, ℕ, zero, suc, ◌+◌, ◌-◌, ◌≤◌, ◌<◌, ◌∷◌, [], List, length, sum, slice_index, true, false, cond, refl, sym, ap, subst, ◌∙◌, arith}
use Rattle.std.proofs.Common.{◌==◌, None}
use Rattle.std.{proofs.lemmas.List.Sums.sum_by-cons, specs.FinMap.get, specs.FinMap.entries, specs.FinMap.Entries.where_key, specs.List.AllByRecursion}
use Rattle.pk_base.{specs.Key.Key, specs.Key.key_cmp, specs.Key.space_of, specs.Key.bytes_of, specs.Shape.Shape, specs.Map.pages_in, specs.Map.pages_of}
use Rattle.pk_model.proofs.SpaceLemmas.{entries_in, by_keys, get_in_space}
use Rattle.pk_law_isolation.{specs.Sums.WithinSum, specs.Sums.FirstIsPart, proofs.Keys.is_in, proofs.Lists.Entries, proofs.Parts.get_alone}

module _ (shape : Shape) where
  abbrev pub space_pages : ℕ → Entries → ℕ
  space_pages space es = pages_in shape (where_key key_cmp (λ k. space_of k == space) es)

  -- the pages of n namespaces from this one on
  abbrev pub space_pages_sum : ℕ → ℕ → Entries → ℕ
  space_pages_sum from zero es = 0
  space_pages_sum from (suc n) es = space_pages from es + space_pages_sum (from + 1) n es

  none_sum : (from n : ℕ) → space_pages_sum from n [] ≡ 0
  none_sum from zero = refl
  none_sum from (suc n) = let more = none_sum (from + 1) n in omega (arith, more)

  -- one entry more
  part_more : (space : ℕ) (e : Key × List ℕ) (es : Entries) → space_pages space (e ∷ es) ≡ (if space_of e.0 == space then pages_of shape e.1 else 0) + space_pages space es
  part_more space e es = elim (space_of e.0 == space) as (λ t. pages_in shape (cond t (e ∷ where_key key_cmp (λ k. space_of k == space) es) (where_key key_cmp (λ k. space_of k == space) es))
      ≡ (if t then pages_of shape e.1 else 0) + space_pages space es) [ true ↦ refl | false ↦ omega arith ]

  -- adds its pages if it is of one of these namespaces
  sum_more : (from n : ℕ) (e : Key × List ℕ) (es : Entries)
      → space_pages_sum from n (e ∷ es) ≡ (if nat_le from (space_of e.0) && nat_lt (space_of e.0) (from + n) then pages_of shape e.1 else 0) + space_pages_sum from n es
  sum_more from zero e es = grind (arith, nat_tests)
  sum_more from (suc n) e es = grind (arith, nat_tests, sum_more (from + 1) n e es, part_more from e es)

  pub all_parts : (n : ℕ) (es : Entries) → AllByRecursion (λ e. (1 ≤ space_of e.0) × (space_of e.0 ≤ n)) es → pages_in shape es ≡ space_pages_sum 1 n es
  all_parts n [] all = sym (none_sum 1 n)
  all_parts n (e ∷ es) all =
      grind (arith, nat_tests, all_parts n es all.1, sum_more 1 n e es, all.0)

  -- n namespaces within their limits
  bounded : (from : ℕ) (limits : List ℕ) (es : Entries) → ((i : ℕ) → i < length limits → space_pages (from + i) es ≤ slice_index limits i) → space_pages_sum from (length limits) es ≤ sum limits
  bounded from [] es each = omega arith
  bounded from (l ∷ ls) es each =
      let first : space_pages from es ≤ l = subst (λ k. space_pages k es ≤ l) (omega arith) (each 0 (omega arith)) in
      let rest = bounded (from + 1) ls es (λ i less. subst (λ k. space_pages k es ≤ slice_index ls i) (omega arith) (each (suc i) (omega (arith, less)))) in
      omega (arith, first, rest, sum_by-cons (λ (x : ℕ). x) l ls)

pub within_sum : WithinSum
within_sum shape limits m all each =
    let bound = bounded shape 1 limits (entries m) (λ i less.
    let place : (1 + i) - 1 ≡ i = omega arith in
    subst (λ k. pages_in shape (where_key key_cmp (λ key. space_of key == 1 + i) (entries m)) ≤ slice_index limits k) place
    (subst (λ es. pages_in shape es ≤ slice_index limits ((1 + i) - 1)) (entries_in (1 + i) m) (each (1 + i) (omega arith) (omega (arith, less))))) in
    subst (λ n. n ≤ sum limits) (sym (all_parts shape (length limits) (entries m) all)) bound

pub first_is_part : FirstIsPart
first_is_part m = by_keys _ _ (λ q.
    get_alone 1 (omega arith) m q
    ∙ elim (space_of q == 1) as (λ t. (space_of q == 1) ≡ t → cond t (get m (1 ∷ bytes_of q)) None ≡ cond t (get m q) None) [
      | true ↦ λ is. ap (get m) (sym (is_in 1 q (omega arith) is))
      | false ↦ λ is. refl
    ] refl
    ∙ sym (get_in_space 1 m q))
