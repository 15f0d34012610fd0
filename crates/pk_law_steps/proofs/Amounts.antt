-- How many entries a run and an epoch have, and how many blocks hold them.
use Rattle.std.proofs.Common.{◌≡◌, inl, inr, ℕ, zero, suc, ◌+◌, ◌-◌, ◌*◌, ◌/◌, ◌<◌, ◌≤◌, min, max, refl, sym, ap, subst, ◌∙◌, arith, Bool, true, ◌&&◌, T, List, [], ◌∷◌, ◌++◌, length, map, zip, nat_le}
use Rattle.std.proofs.Common.{Some, Ok, leb→le, length-append, mul-le-mul_right, add-mul, le_trans}
use Rattle.std.{specs.List.list_all, specs.List.concat, specs.FinMap.Entries.is_sorted}
use Rattle.pk_base.{specs.Key.key_cmp, specs.Entry.Entry, specs.EntryBytes.entries_from, specs.Refusal.damaged, specs.Refusal.ensure, specs.Refusal.some_or, specs.Firsts.firsts, specs.Merge.room}
use Rattle.pk_base.specs.Shape.{Shape, IsShape, page_entries, buffer, caps, run_pages, run_blocks, blocks_of, meta_blocks, deepest}
use Rattle.pk_base.specs.Page.{Page, erased, whole, torn, page_in, pages_of_blocks, NumberedPages, commits_of}
use Rattle.pk_base.proofs.Logic.{left_part, right_part, ok_same, passed}
use Rattle.pk_base.{proofs.Sound.if_some, proofs.ShapeLemmas.block_pages_positive, proofs.ShapeLemmas.ceil_most}
use Rattle.pk_space.specs.Entries.{in_spaces}
use Rattle.pk_jrnfmt.{specs.Page.journal_entries, specs.Epoch.may_follow, specs.Epoch.journal, specs.Epoch.epoch}
use Rattle.pk_meta.{specs.Page.meta_entries, specs.Run.may_hold, specs.Run.meta, specs.Run.run}
use Rattle.pk_rootfmt.{specs.Root.Root, specs.Root.is_root}
use Rattle.pk_model.{proofs.StrangePages.bind_ok, proofs.StrangePages.some_ok, proofs.Live.ceil_room}
use Rattle.pk_model.proofs.RootAlone.{head_same, tail_same}
use Rattle.pk_law_steps.{specs.Fitting.QuotaFits, proofs.FourRuns.IsLevel, proofs.FourRuns.four_of_root}
pub use Rattle.pk_law_steps.proofs.FourRuns.{four_of_root as counted_of}

-- ---- entries that are read

many_from : (at n : ℕ) (page : List ℕ) → length (entries_from at n page) ≡ n
many_from at zero page = refl
many_from at (suc n) page = ap suc (many_from (at + 32) n page)

many_read : (shape : Shape) (level index count : ℕ) (bytes : List ℕ) (es : List Entry) → meta_entries shape level index count bytes ≡ Some es → length es ≡ count
unfolding meta_entries
many_read shape level index count bytes es is = let some = if_some _ _ es is in ap (λ (x : List Entry). length x) (sym some.1) ∙ many_from 32 count bytes

-- the entries of one page more
one_more : (size count start n : ℕ) → n ≤ count → n ≤ start → (n + min size (count - start) ≤ count) × (n + min size (count - start) ≤ start + size)
one_more size count start n few low = (omega (arith, few, low), omega (arith, few, low))

module _ (shape : Shape) (spaces : ℕ) (at : ℕ → Page) where
  meta_most : (level count index : ℕ) (before : List Entry) (blocks : List ℕ) (i n : ℕ) (es : List Entry) → length before ≤ count → length before ≤ index * page_entries shape
      → meta shape spaces level count index before (pages_of_blocks shape at blocks i n) ≡ Ok es → length es ≤ count
  meta_most level count index before blocks i zero es few low ok = subst (λ (x : List Entry). length x ≤ count) (ok_same before es ok) few
  meta_most level count index before blocks i (suc n) es few low ok =
      let p = page_in shape blocks i in
      let here = min (page_entries shape) (count - index * page_entries shape) in
      elim (at p) as (λ page. at p ≡ page → meta shape spaces level count index before ((p, page) ∷ pages_of_blocks shape at blocks (i + 1) n) ≡ Ok es → length es ≤ count) [
        | erased ↦ λ e f. cc
        | torn ↦ λ e f. cc
        | whole bytes ↦ λ e f.
            let read = bind_ok (some_or (meta_entries shape level index here bytes) (damaged p)) _ es f in
            let rising = bind_ok (ensure (is_sorted key_cmp (before ++ read.0)) p) _ es read.2 in
            let kept = bind_ok (ensure (may_hold spaces level read.0) p) _ es rising.2 in
            let size : length (before ++ read.0) ≡ length before + here = length-append before read.0
            ∙ ap (λ m. length before + m) (many_read shape level index here bytes read.0 (some_ok _ (damaged p) read.0 read.1)) in
            let more = one_more (page_entries shape) count (index * page_entries shape) (length before) few low in
            let next : (index + 1) * page_entries shape ≡ index * page_entries shape + page_entries shape = add-mul index 1 (page_entries shape) ∙ omega arith in
            let a = more.0 in
            let b = more.1 in
            meta_most level count (index + 1) (before ++ read.0) blocks (i + 1) n es (omega (arith, size, a)) (omega (arith, size, b, next)) kept.2
      ] refl ok

  -- a run has no more entries than its root says
  pub run_most : (level count : ℕ) (blocks : List ℕ) (es : List Entry) → run shape spaces at level count blocks ≡ Ok es → length es ≤ count
  unfolding run
  run_most level count blocks es ok = meta_most level count 0 [] blocks 0 (run_pages shape count) es (omega arith) (omega arith) ok

  journal_most : (number index : ℕ) (before : List Entry) (pages : NumberedPages) (es : List Entry)
      → length (firsts before) ≤ buffer shape → journal shape spaces number index before pages ≡ Ok es → length (firsts es) ≤ buffer shape
  journal_most number index before ((p, whole bytes) ∷ pages) es few ok =
      let read = bind_ok (some_or (journal_entries shape number index bytes) (damaged p)) _ es ok in
      let tested = bind_ok (ensure (may_follow shape spaces before read.0) p) _ es read.2 in
      journal_most number (index + 1) (before ++ read.0) pages es (leb→le _ _ (left_part (nat_le (length (firsts (before ++ read.0))) (buffer shape)) (in_spaces spaces read.0) (passed _ _ tested.0 tested.1))) tested.2
  journal_most number index before pages es few ok = subst (λ (x : List Entry). length (firsts x) ≤ buffer shape) (ok_same before es ok) few

  -- an epoch has no more keys than a buffer
  pub epoch_most : (number : ℕ) (blocks : List ℕ) (es : List Entry) → epoch shape spaces at number blocks ≡ Ok es → length (firsts es) ≤ buffer shape
  unfolding epoch
  epoch_most number blocks es ok = journal_most number 0 [] (commits_of shape at blocks 0 (length blocks * (shape.block_pages / 2))) es (omega arith) ok

-- ---- counts of a root

-- four counts within the caps
pub record WithinCaps (shape : Shape) (n1 n2 n3 n4 : ℕ) : Type 0 where
  pub one : n1 ≤ 4 * page_entries shape
  pub two : n2 ≤ 16 * page_entries shape
  pub three : n3 ≤ 64 * page_entries shape
  pub four : n4 ≤ deepest shape * page_entries shape

four_parts : (a b c d : Bool) → T (a && (b && (c && (d && true)))) → T a × T b × T c × T d
four_parts true true true true t = (tt, tt, tt, tt)
four_parts a b c d t = absurd t

pub within_caps : (shape : Shape) (n1 n2 n3 n4 : ℕ) → T (list_all (λ p. nat_le p.0 (p.1 * page_entries shape)) (zip (n1 ∷ n2 ∷ n3 ∷ n4 ∷ []) (caps shape))) → WithinCaps shape n1 n2 n3 n4
within_caps shape n1 n2 n3 n4 is =
    let fit = four_parts (nat_le n1 (4 * page_entries shape)) (nat_le n2 (16 * page_entries shape)) (nat_le n3 (64 * page_entries shape)) (nat_le n4 (deepest shape * page_entries shape)) is in
    record { one = leb→le _ _ fit.0; two = leb→le _ _ fit.1; three = leb→le _ _ fit.2; four = leb→le _ _ fit.3 }

-- ---- blocks

module _ (shape : Shape) (is_shape : IsShape shape) where
  entries_positive : 0 < page_entries shape
  entries_positive = let least = is_shape.page_least in omega (arith, least)

  -- more pages, more blocks
  blocks_more : (a b : ℕ) → a ≤ b → blocks_of shape a ≤ blocks_of shape b
  blocks_more a b few = let all = ceil_room b shape.block_pages (block_pages_positive shape is_shape) in ceil_most a shape.block_pages
      (blocks_of shape b) (block_pages_positive shape is_shape) (le_trans few all)

  -- as many entries as that many pages can hold
  run_blocks_most : (n cap : ℕ) → n ≤ cap * page_entries shape → run_blocks shape n ≤ blocks_of shape cap
  run_blocks_most n cap few = blocks_more (run_pages shape n) cap (ceil_most n (page_entries shape) cap entries_positive few)

  -- the output's blocks
  output_blocks : (level count : ℕ) → IsLevel level → count ≤ room shape level → run_blocks shape count ≤ blocks_of shape (max 64 (deepest shape))
  output_blocks level count which few = run_blocks_most count (max 64 (deepest shape)) (le_trans few (elim which [
    | inl e ↦ within level 4 (ap (room shape) e) (omega arith)
    | inr (inl e) ↦ within level 16 (ap (room shape) e) (omega arith)
    | inr (inr (inl e)) ↦ within level 64 (ap (room shape) e) (omega arith)
    | inr (inr (inr e)) ↦ within level (deepest shape) (ap (room shape) e) (omega arith)
  ]))
    where
      within : (l cap : ℕ) → room shape l ≡ cap * page_entries shape → cap ≤ max 64 (deepest shape) → room shape l ≤ max 64 (deepest shape) * page_entries shape
      within l cap e small = subst (λ n. n ≤ max 64 (deepest shape) * page_entries shape) (sym e) (mul-le-mul_right (page_entries shape) small)

  -- the blocks of runs with these caps
  abbrev blocks_for : List ℕ → ℕ
  blocks_for [] = 0
  blocks_for (c ∷ cs) = blocks_of shape c + blocks_for cs

  blocks_most : (ns cs : List ℕ) (bs : List (List ℕ)) → length ns ≤ length cs → T (list_all (λ p. nat_le p.0 (p.1 * page_entries shape)) (zip ns cs))
      → map (λ b. length b) bs ≡ map (run_blocks shape) ns → length (concat bs) ≤ blocks_for cs
  blocks_most [] cs [] few fit sizes = omega arith
  blocks_most (n ∷ ns) [] bs few fit sizes = absurd (omega (arith, few))
  blocks_most (n ∷ ns) (c ∷ cs) (b ∷ bs) few fit sizes =
      let here = run_blocks_most n c (leb→le _ _ (left_part (nat_le n (c * page_entries shape)) _ fit)) in
      let rest = blocks_most ns cs bs (omega (arith, few)) (right_part (nat_le n (c * page_entries shape)) _ fit) (tail_same _ _ _ _ sizes) in
      omega (arith, here, rest, head_same _ _ _ _ sizes, length-append b (concat bs))
  blocks_most ns cs bs few fit sizes = cc

  pub quota : (root : Root) (level count : ℕ) → T (is_root shape root) → IsLevel level → count ≤ room shape level → length (concat root.runs) + run_blocks shape count ≤ meta_blocks shape
  unfolding meta_blocks
  quota root level count is which few =
      let four = four_of_root shape root is in
      let runs = blocks_most root.counts (caps shape) root.runs (omega (arith, four.counts)) four.fit four.sizes in
      let output = output_blocks level count which few in
      omega (arith, runs, output)

pub levels : (level : ℕ) → 1 ≤ level → level ≤ 4 → IsLevel level
levels zero low high = absurd (omega (arith, low))
levels (suc zero) low high = inl refl
levels (suc (suc zero)) low high = inr (inl refl)
levels (suc (suc (suc zero))) low high = inr (inr (inl refl))
levels (suc (suc (suc (suc zero)))) low high = inr (inr (inr refl))
levels (suc (suc (suc (suc (suc n))))) low high = absurd (omega (arith, high))

pub quota_fits : QuotaFits
quota_fits shape root level count is_shape is low high few = quota shape is_shape root level count (subst T (sym is) tt) (levels level low high) few
