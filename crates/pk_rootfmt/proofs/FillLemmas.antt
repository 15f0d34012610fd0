-- What is read of a page that passes is its root.
use Rattle.std.proofs.Common.{◌≡◌, ℕ, ◌+◌, ◌*◌, ◌<◌, ◌≤◌, List, [], ◌∷◌, length, take, drop, get_or, map, sym, ap, ◌∙◌, arith, Some, None}
use Rattle.std.{specs.Prelude.sum, proofs.lemmas.List.take_all, proofs.lemmas.List.length-take}
use Rattle.pk_rootfmt.{proofs.LimitLemmas.Limited, proofs.LimitLemmas.length-u32s, specs.Held.total, proofs.BlockLemmas.length-u16s, proofs.BlockLemmas.parts_same}
use Rattle.pk_rootfmt.specs.Root.{root_page, u16s_at, u32s_at, parts, page_limits, list_from}
use Rattle.pk_rootfmt.specs.Fault.{shape_fault, number_fault, space_fault, list_fault, root_fault}
use Rattle.pk_rootfmt.proofs.PageLemmas.{Journal, limited_own, journal_own, runs_fit, listed_is, room, page_taken, sum_four}
use Rattle.pk_base.{specs.Fields.u16_at, specs.Fields.u32_at, specs.FieldFaults.u64_at, specs.Shape.Shape, specs.Shape.IsShape, specs.Shape.run_blocks, specs.Shape.meta_blocks, proofs.Tables.AllNone}
use Rattle.pk_base.{proofs.Tables.all_none}

-- the blocks of each run, by the entries that the page gives
abbrev pub sizes_at : Shape → List ℕ → List ℕ
sizes_at g page = map (run_blocks g) (u32_at page 40 ∷ u32_at page 44 ∷ u32_at page 48 ∷ u32_at page 52 ∷ [])

module _ (g : Shape) (page : List ℕ) (fits : (i : ℕ) → get_or page i 0 < 256) (sized : length page ≡ g.page_bytes) (shape : IsShape g) (passes : root_fault g page ≡ None) where
  none : AllNone (shape_fault g page ∷ number_fault g page ∷ space_fault g page ∷ list_fault g page ∷ [])
  none = all_none (shape_fault g page ∷ number_fault g page ∷ space_fault g page ∷ list_fault g page ∷ []) passes

  abbrev from : ℕ
  from = list_from page

  pub limit_facts : Limited g shape page (page_limits page)
  limit_facts = limited_own g page fits sized shape none.0 none.1.0 none.1.1.0

  pub limits_few : length (page_limits page) ≤ 8
  limits_few = omega (arith, ap length limit_facts.kept, length-take (length (page_limits page)) (u32s_at 8 (drop 64 page)), length-u32s 8 (drop 64 page))

  abbrev sizes : List ℕ
  sizes = sizes_at g page

  pub journal_facts : Journal page from (u16_at page 18) (u64_at page 32)
  journal_facts = journal_own g page fits sized shape none.0 none.1.0 none.1.1.0

  pub sizes_fit : total sizes ≤ meta_blocks g
  sizes_fit = omega (arith, runs_fit g page fits sized shape none.0 none.1.0 none.1.1.0)

  pub sizes_room : from + 2 * u16_at page 18 + 2 * total sizes ≤ length page
  sizes_room = omega (arith, room g page fits sized shape none.0 none.1.0 none.1.1.0, listed_is g page fits sized shape none.0 none.1.0 none.1.1.0)

  -- the root of the page
  pub filled : (epochs blocks : List ℕ) → take (u16_at page 18) epochs ≡ u16s_at (u16_at page 18) (drop from page)
      → take (total sizes) blocks ≡ u16s_at (total sizes) (drop (from + 2 * u16_at page 18) page)
      → root_page g page ≡ Some (record {
        number = u64_at page 24;
        epoch = u64_at page 32;
        newest = take 2 (take (u16_at page 18) epochs);
        older = drop 2 (take (u16_at page 18) epochs);
        counts = u32_at page 40 ∷ u32_at page 44 ∷ u32_at page 48 ∷ u32_at page 52 ∷ [];
        runs = parts sizes blocks;
        limits = page_limits page;
      })
  filled epochs blocks e r =
      let same : sum sizes ≡ total sizes = sum_four _ _ _ _ ∙ omega arith in
      let list : List ℕ = u16s_at (sum sizes) (drop (from + 2 * u16_at page 18) page) in
      let newest_is : u16s_at 2 (drop from page) ≡ take 2 (take (u16_at page 18) epochs) = sym (ap (λ (x : List ℕ). take 2 x) e ∙ journal_facts.front) in
      let older_is = sym (ap (λ (x : List ℕ). drop 2 x) e ∙ journal_facts.behind) in
      let all : take (total sizes) list ≡ take (total sizes) blocks =
      take_all (total sizes) list (omega (arith, length-u16s (sum sizes) (drop (from + 2 * u16_at page 18) page), same))
      ∙ ap (λ (k : ℕ). u16s_at k (drop (from + 2 * u16_at page 18) page)) same ∙ sym r in
      let runs_is : parts sizes list ≡ parts sizes blocks = parts_same sizes list blocks all in
      page_taken g page fits sized shape none.0 none.1.0 none.1.1.0 none.1.1.1.0
      ∙ (λ i. Some (record {
        number = u64_at page 24;
        epoch = u64_at page 32;
        newest = newest_is i;
        older = older_is i;
        counts = u32_at page 40 ∷ u32_at page 44 ∷ u32_at page 48 ∷ u32_at page 52 ∷ [];
        runs = runs_is i;
        limits = page_limits page;
      }))
