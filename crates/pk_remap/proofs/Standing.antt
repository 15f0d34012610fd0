-- What inner calls that are no outer calls leave of the outer flash: on an unused spare, on the other table block, and on a pair of table pages.
use Rattle.std.proofs.Common.{◌≡◌, ◌≢◌, ◌⊎◌, inl, inr, ℕ, suc, ◌+◌, ◌*◌, ◌/◌, ◌%◌, ◌<◌, ◌≤◌, List, [], length, refl, sym, ap, ◌∙◌, arith, Option, Some, None}
use Rattle.std.{specs.Prelude.option_map, proofs.Math.Nat.mod-lt, proofs.lemmas.Nat.div-add-mod'}
use Rattle.pk_base.{specs.Shape.Shape, specs.Shape.page_count, specs.Page.Page, specs.Page.Flash, specs.Page.page_at, specs.Mark.Mark, specs.Mark.program, specs.Mark.erase}
use Rattle.pk_nand.{specs.Cut.Interrupted, specs.Cut.MayLeave, specs.Cut.IsPartner, specs.Cut.touched_block, proofs.Touching.elsewhere}
use Rattle.pk_remap.{specs.Table.SpareTable, specs.Table.table_bytes, specs.Table.table_page, specs.Places.inner_shape, specs.Places.placed_page, specs.Places.through_by, proofs.Lifting.less_times}
use Rattle.pk_remap.{specs.Newest.table_in, specs.Newest.IsTablePage, specs.Newest.IsNewest, specs.Through.through, specs.Through.MayShow, proofs.Finding.newest-found, proofs.Finding.newest-kept}
use Rattle.pk_remap.proofs.Placing.{place-below, placed_page-div, block_of, length-through, page-through, is_through}

-- the newest table determines the outer flash
pub shows : (shape : Shape) (spares : ℕ) (flash : Flash) (page : ℕ) (table : SpareTable) → IsNewest shape spares (page_at flash) page table
    → through shape spares flash ≡ Some (through_by shape table (page_at flash))
shows shape spares flash page table is =
    ap (λ (r : Option (ℕ × SpareTable)). option_map (λ top. through_by shape top.1 (page_at flash)) r) (newest-found shape spares (page_at flash) page table is)

pub may_show : (shape : Shape) (spares : ℕ) (before flash : Flash) (mark : Mark) (page : ℕ) (table : SpareTable)
    → IsNewest shape spares (page_at flash) page table
    → Interrupted shape mark before (through_by shape table (page_at flash)) [] → MayShow shape spares before mark flash
may_show shape spares before flash mark page table is left =
    record { above = through_by shape table (page_at flash); is_above = shows shape spares flash page table is; left = left }

module _ (shape : Shape) (spares : ℕ) (some : 0 < shape.block_pages) where
  abbrev n : ℕ
  n = shape.block_pages

  -- a table page is in a table block
  pub table_block : (k : ℕ) → IsTablePage shape spares k → shape.blocks + spares ≤ k / n
  table_block k there =
      let whole : k / n * n + k % n ≡ k = div-add-mod' k n in
      let rest = mod-lt k {m = n} some in
      let less : (shape.blocks + spares) * n < suc (k / n) * n = omega (arith, there.from, whole, rest) in
      let own = less_times (suc (k / n)) (shape.blocks + spares) n less in
      omega (arith, own)

  -- if no inner page of an outer one differs, the outer flash is unchanged
  pub same_through : (table : SpareTable) (at at' : ℕ → Page)
      → ((k : ℕ) → k < page_count shape → at' (placed_page shape table k) ≡ at (placed_page shape table k))
      → through_by shape table at' ≡ through_by shape table at
  same_through table at at' same =
      is_through shape table at' (through_by shape table at) (length-through shape table at) (λ k inside. same k inside ∙ sym (page-through shape table at k inside))

  -- a call on an inner block that has no outer block leaves the outer flash unchanged
  pub apart_through : (table : SpareTable) (mark : Mark) (block : ℕ) (old new : Flash) (out : List ℕ) → shape.blocks + length table.serves ≤ block
      → touched_block (inner_shape shape spares) mark ≡ Some block → Interrupted (inner_shape shape spares) mark old new out
      → through_by shape table (page_at new) ≡ through_by shape table (page_at old)
  apart_through table mark block old new out behind touched i = same_through table (page_at old) (page_at new) (λ k inside.
      elsewhere (inner_shape shape spares) mark (placed_page shape table k) block
      (page_at old (placed_page shape table k)) (page_at new (placed_page shape table k)) touched
      (λ e. omega (arith, sym (placed_page-div shape table some k) ∙ e, place-below shape table (k / n) (block_of shape table some k inside), behind))
      (i.pages (placed_page shape table k)))

  -- ---- on an unused spare

  module _ (table : SpareTable) (page : ℕ) (mark : Mark) (block : ℕ) (old new : Flash) (out : List ℕ)
      (spare : shape.blocks + length table.serves ≤ block) (before_tables : block < shape.blocks + spares)
      (touched : touched_block (inner_shape shape spares) mark ≡ Some block) (i : Interrupted (inner_shape shape spares) mark old new out) where
    pub table_page_kept : (k : ℕ) → IsTablePage shape spares k → page_at new k ≡ page_at old k
    table_page_kept k there =
        elsewhere (inner_shape shape spares) mark k block (page_at old k)
        (page_at new k) touched (λ e. omega (arith, e, table_block k there, before_tables)) (i.pages k)

    pub spare-newest : IsNewest shape spares (page_at old) page table → IsNewest shape spares (page_at new) page table
    spare-newest is = newest-kept shape spares (page_at old) (page_at new) page table is
        (table_page_kept page is.there) (λ k there. inl (table_page_kept k there))

    pub spare-through : through_by shape table (page_at new) ≡ through_by shape table (page_at old)
    spare-through = apart_through table mark block old new out spare touched i

  -- ---- the erase of the table block without the newest table

  module _ (table : SpareTable) (page block : ℕ) (old new : Flash) (out : List ℕ) (used : length table.serves ≤ spares)
      (is_table_block : shape.blocks + spares ≤ block) (other : page / n ≢ block) (i : Interrupted (inner_shape shape spares) (erase block) old new out) where
    pub turn-newest : IsNewest shape spares (page_at old) page table → IsNewest shape spares (page_at new) page table
    turn-newest is = newest-kept shape spares (page_at old) (page_at new) page table is (own (i.pages page)) (λ k there. each k (i.pages k))
      where
        own : MayLeave (inner_shape shape spares) (erase block) page (page_at old page) (page_at new page) → page_at new page ≡ page_at old page
        own (inl same) = same
        own (inr is) = absurd (other is.0)

        each : (k : ℕ) → MayLeave (inner_shape shape spares) (erase block) k (page_at old k) (page_at new k)
            → (page_at new k ≡ page_at old k) ⊎ (table_in shape spares (page_at new k) ≡ None)
        each k (inl same) = inl same
        each k (inr (_, inl is)) = inr (ap (table_in shape spares) is)
        each k (inr (_, inr is)) = inr (ap (table_in shape spares) is)

    pub turn-through : through_by shape table (page_at new) ≡ through_by shape table (page_at old)
    turn-through = apart_through table (erase block) block old new out (omega (arith, used, is_table_block)) refl i

  -- ---- a program of a pair of table pages

  -- the page is no table page, or that of this table
  abbrev pub NoneOr : SpareTable → Page → Type 0
  NoneOr new p = (table_in shape spares p ≡ None) ⊎ (table_in shape spares p ≡ Some new)

  module _ (new : SpareTable) (again : table_page shape spares (table_bytes shape spares new) ≡ Some new)
      (pair at : ℕ) (is_at : (at ≡ pair) ⊎ (at ≡ suc pair)) (even_pair : pair % n % 2 ≡ 0)
      (old cut : Flash) (out : List ℕ) (i : Interrupted (inner_shape shape spares) (program at (table_bytes shape spares new)) old cut out) where
    -- each page of the pair is unchanged or torn, or has the table
    pub pair-none_or : (k : ℕ) → NoneOr new (page_at old k) → NoneOr new (page_at cut k)
    pair-none_or k was = by (i.pages k)
      where
        by : MayLeave (inner_shape shape spares) (program at (table_bytes shape spares new)) k (page_at old k) (page_at cut k) → NoneOr new (page_at cut k)
        by (inl same) = elim was [ inl none ↦ inl (ap (table_in shape spares) same ∙ none) | inr is ↦ inr (ap (table_in shape spares) same ∙ is) ]
        by (inr (inl (_, inl is))) = inr (ap (table_in shape spares) is ∙ again)
        by (inr (inl (_, inr is))) = inl (ap (table_in shape spares) is)
        by (inr (inr (_, is))) = inl (ap (table_in shape spares) is)

    -- every other page is unchanged
    pub pair-others : (k : ℕ) → k ≢ pair → k ≢ suc pair → page_at cut k ≡ page_at old k
    pair-others k first second = by (i.pages k)
      where
        here : k ≡ at → ⊥
        here e = elim is_at [ inl p ↦ first (e ∙ p) | inr q ↦ second (e ∙ q) ]

        odd : pair % n % 2 ≡ 1 → ⊥
        odd e = omega (arith, e, even_pair)

        partner : IsPartner (inner_shape shape spares) at k → ⊥
        partner is = elim is_at [ inl p ↦ odd (ap (λ (x : ℕ). x % n % 2) (sym p) ∙ is.1) | inr q ↦ first (omega (arith, is.0, q)) ]

        by : MayLeave (inner_shape shape spares) (program at (table_bytes shape spares new)) k (page_at old k) (page_at cut k) → page_at cut k ≡ page_at old k
        by (inl same) = same
        by (inr (inl (e, _))) = absurd (here e)
        by (inr (inr (is, _))) = absurd (partner is)
