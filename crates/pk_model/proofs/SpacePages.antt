-- The live pages of a namespace are the pages of its values; what one more value makes of them.
use Rattle.std.proofs.Common.{◌≡◌, ℕ, ◌+◌, ◌<◌, ◌≤◌, refl, sym, ap, subst, ◌∙◌, arith, true, false, List, [], ◌∷◌, length, ◌==◌, if◌then◌else◌, Ok, eqb-true, eq-eqb}
use Rattle.std.{specs.FinMap.entries, specs.FinMap.entries-insert, specs.FinMap.insert, specs.FinMap.Entries.put, specs.FinMap.Entries.where_key}
use Rattle.pk_base.{specs.Key.Key, specs.Key.key_cmp, specs.Key.space_of, specs.Shape.Shape, specs.Shape.charge, specs.Page.Page, specs.Page.whole, specs.Entry.Place}
use Rattle.pk_base.specs.Map.{Map, live, pages_in, pages_of}
use Rattle.pk_segfmt.specs.Value.{value_at}
use Rattle.pk_model.{specs.Spaces.in_space, specs.Spaces.limit_of, specs.Values.pages_of_space, specs.Values.KeepsWithin, proofs.MapLemmas.key_total, proofs.ValueSets.Reads, proofs.Stores.reads-put}
use Rattle.pk_model.{proofs.Live.length-value_at, proofs.SpaceLemmas.entries_in, proofs.SpaceLemmas.in_space-insert-other}

-- the pages of the values of a namespace
abbrev pub pages_in_space : Shape → ℕ → List (Key × List ℕ) → ℕ
pages_in_space shape space [] = 0
pages_in_space shape space (v ∷ vs) = (if space_of v.0 == space then pages_of shape v.1 else 0) + pages_in_space shape space vs

pages_of_part : (shape : Shape) (space : ℕ) (vs : List (Key × List ℕ)) → pages_in shape (where_key key_cmp (λ k. space_of k == space) vs) ≡ pages_in_space shape space vs
pages_of_part shape space [] = refl
pages_of_part shape space (v ∷ vs) =
    elim (space_of v.0 == space) as (λ t. pages_in shape (if t then v ∷ where_key key_cmp (λ k. space_of k == space) vs else where_key key_cmp (λ k. space_of k == space) vs)
    ≡ (if t then pages_of shape v.1 else 0) + pages_in_space shape space vs) [
      | true ↦ ap (λ n. pages_of shape v.1 + n) (pages_of_part shape space vs)
      | false ↦ let rest = pages_of_part shape space vs in omega (arith, rest)
    ]

pub live_of_part : (shape : Shape) (space : ℕ) (m : Map) → live shape (in_space space m) ≡ pages_in_space shape space (entries m)
live_of_part shape space m = ap (pages_in shape) (entries_in space m) ∙ pages_of_part shape space (entries m)

-- ---- values that are read

module _ (shape : Shape) (at : ℕ → Page) (sizes : (k : ℕ) (bytes : List ℕ) → at k ≡ whole bytes → length bytes ≡ shape.page_bytes) (positive : 0 < shape.page_bytes) (named_blocks : List ℕ) where
  pub pages_read : (space : ℕ) (es : List (Key × Place)) (vs : List (Key × List ℕ)) → Reads shape named_blocks at es vs → pages_in_space shape space vs ≡ pages_of_space shape space es
  pages_read space [] [] reads = refl
  pages_read space [] (v ∷ vs) reads = absurd reads
  pages_read space (e ∷ es) [] reads = absurd reads
  pages_read space (e ∷ es) (v ∷ vs) reads =
      λ i. (if space_of (reads.0.0 i) == space then charge shape (length-value_at shape at sizes positive e.0 e.1 v.1 reads.0.1 i) else 0) + pages_read space es vs reads.1 i

  module _ (es : List (Key × Place)) (m : Map) (reads : Reads shape named_blocks at es (entries m)) where
    -- the live pages of a namespace are those of its places
    pub live_of_places : (space : ℕ) → live shape (in_space space m) ≡ pages_of_space shape space es
    live_of_places space = live_of_part shape space m ∙ pages_read space es (entries m) reads

    -- with one value more
    module _ (key : Key) (place : Place) (value : List ℕ) (there : value_at shape at key place ≡ Ok value) where
      pub live_of_put : (space : ℕ) → live shape (in_space space (insert m key value)) ≡ pages_of_space shape space (put key_cmp key place es)
      live_of_put space =
          live_of_part shape space (insert m key value) ∙ ap (pages_in_space shape space) (entries-insert key_total m key value)
          ∙ pages_read space (put key_cmp key place es) (put key_cmp key value (entries m)) (reads-put shape named_blocks at key place value es (entries m) there reads)

      -- each namespace keeps within its limit if that of the key does
      pub within_put : (limits : List ℕ) → KeepsWithin shape limits es → live shape (in_space (space_of key) (insert m key value)) ≤ limit_of limits (space_of key)
          → KeepsWithin shape limits (put key_cmp key place es)
      within_put limits within own space =
          elim (space_of key == space) as (λ t. (space_of key == space) ≡ t → pages_of_space shape space (put key_cmp key place es) ≤ limit_of limits space) [
            | true ↦ λ is.
                let same : space_of key ≡ space = eqb-true (space_of key) space is in
                subst (λ (n : ℕ). n ≤ limit_of limits space) (live_of_put space)
                (subst (λ (s : ℕ). live shape (in_space s (insert m key value)) ≤ limit_of limits s) same own)
            | false ↦ λ other.
                let unchanged : pages_of_space shape space (put key_cmp key place es) ≡ pages_of_space shape space es =
                sym (live_of_put space) ∙ ap (live shape) (in_space-insert-other space m key other value) ∙ live_of_places space in
                subst (λ (n : ℕ). n ≤ limit_of limits space) (sym unchanged) (within space)
          ] refl
