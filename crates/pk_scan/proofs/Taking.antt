-- A value more: whether its pages may be taken, and the live map with it.
use Rattle.std.proofs.Common.{◌≡◌, inl, inr, ℕ, ◌+◌, ◌-◌, ◌/◌, ◌%◌, ◌<◌, ◌≤◌, Bool, true, false, not, ◌&&◌, ◌||◌, cond, List, [], ◌∷◌, ◌++◌, length, get_or, map, sum, refl, sym, ap, ◌∙◌, arith, ◌==◌}
use Rattle.std.proofs.Common.{length-append}
use Rattle.std.proofs.lemmas.Bool.{false≢true, or_right, and_parts, eq-eqb, ne_eqb, cases_lt, and_right}
use Rattle.std.proofs.lemmas.List.FromFn.{length-range_with_len, length-map-range_with_len, get_or-map-range_with_len}
use Rattle.std.{specs.Prelude.count_by, specs.Prelude.nat_le, specs.Prelude.slice_get, specs.Prelude.Some, specs.Prelude.IsTrue, specs.Prelude.◌↔◌, proofs.Math.ListN.set}
use Rattle.std.{specs.List.list_any, specs.List.list_all, specs.List.range_with_len, proofs.lemmas.Bool.Decides.same_from_decides, proofs.lemmas.Option.slice_get-get_or}
use Rattle.std.{proofs.lemmas.List.Folds.list_any-append, proofs.lemmas.List.Folds.list_all-append, proofs.lemmas.List.Sums.sum_by-set, proofs.lemmas.List.Sums.length-filter}
use Rattle.pk_base.{specs.Key.Key, specs.Shape.Shape, specs.Shape.IsShape, specs.Shape.page_count, specs.Shape.charge, specs.Shape.limit, specs.Shape.data_blocks, specs.Entry.Place}
use Rattle.pk_base.specs.EntryChecks.{IsPlace}
use Rattle.pk_live.{specs.Values.Values, specs.Values.count_of, specs.Values.block_sum, specs.Values.IsLive, specs.Lives.head_of, specs.Lives.is_used, specs.Lives.Lives}
use Rattle.pk_live.proofs.Blocks.{same_block, block_exists}
use Rattle.pk_live.proofs.Ranges.{all_same, has, has_range, range_has, meets, meets_told, meets_from, differ_append, differ_range}
use Rattle.pk_live.proofs.Standing.{map_set, count_map, all_pages-more, head_of-more, Placed-more, value_in_block, heads_read, covered, covers, total_is, block_is}
use Rattle.pk_segfmt.{specs.Value.value_pages, proofs.StoredLemmas.charge_some}
use Rattle.pk_model.specs.Values.{all_pages, fits, blocks_with}
use Rattle.pk_rootfmt.specs.Root.{differ}

-- ---- the four parts of the test

module _ (shape : Shape) (named : List ℕ) where
  abbrev outside : ℕ → Bool
  outside p = not (list_any (λ b. b == p / shape.block_pages) named)

  record FitsNow (pages : List ℕ) : Type 0 where
    pub out : list_all outside pages ≡ true
    pub apart : differ pages ≡ true

  fits_now : (pages : List ℕ) → fits shape named pages ≡ true → FitsNow pages
  fits_now pages e =
      let a = and_parts ((list_all outside pages && differ pages) && nat_le (length pages) (limit shape)) (nat_le (length (blocks_with shape pages)) (data_blocks shape - 1)) e in
      let b = and_parts (list_all outside pages && differ pages) (nat_le (length pages) (limit shape)) a.0 in
      let c = and_parts (list_all outside pages) (differ pages) b.0 in
      record { out = c.0; apart = c.1 }

module _ {shape : Shape} {named : List ℕ} {live : Values} {taken : List (Key × Place)} {place : Place} (is_shape : IsShape shape) (is_place : IsPlace shape place) (lives : Lives shape named live taken) where
  abbrev n : ℕ
  n = shape.block_pages

  abbrev block : ℕ
  block = place.page / shape.block_pages

  abbrev count : ℕ
  count = charge shape place.len

  abbrev old : List ℕ
  old = all_pages shape taken

  abbrev own : List ℕ
  own = value_pages shape place

  now : FitsNow shape named old
  now = fits_now shape named old lives.placed_well

  positive : 0 < shape.block_pages
  positive = let least : 8 ≤ shape.block_pages = is_shape.block_least in omega (arith, least)

  heads_are : live.heads ≡ map (head_of shape taken) (range_with_len 0 (page_count shape))
  heads_are = ap (λ (v : Values). v.heads) lives.map_is

  closed_are : live.closed ≡ map (is_used shape taken) (range_with_len 0 shape.blocks)
  closed_are = ap (λ (v : Values). v.closed) lives.map_is

  pages_are : live.block_pages ≡ shape.block_pages
  pages_are = ap (λ (v : Values). v.block_pages) lives.map_is

  block_in : place.page / shape.block_pages < shape.blocks
  block_in = block_exists shape.block_pages shape.blocks place.page positive is_place.exists

  read : (h : ℕ) → get_or live.heads h 0 ≡ head_of shape taken h
  read h = ap (λ hs. get_or hs h 0) heads_are ∙ heads_read shape is_shape taken h lives.places

  -- a page is live exactly if it is one of the values' pages
  live_has : (p : ℕ) → IsLive live p → has p old ≡ true
  live_has p is = covered shape is_shape taken now.apart is.0 p is.1 (omega (arith, is.2, read is.0))

  has_live : (p : ℕ) → has p old ≡ true → IsLive live p
  has_live p is = let c = covers shape is_shape taken p is in (c.0, c.1, omega (arith, c.2, read c.0))

  -- a page of the value is live
  abbrev pub Overlaps : Type 0
  Overlaps = (p : ℕ) × (place.page ≤ p) × (p < place.page + count) × IsLive live p

  overlap_is : (o : Bool) → (IsTrue o ↔ Overlaps) → o ≡ meets old own
  overlap_is o told = same_from_decides {P = Overlaps} o (meets old own) (told.0, told.1) (
    λ m. let r = meets_told old own m in let inside = range_has r.0 place.page count r.2 in (r.0, inside.0, inside.1, has_live r.0 r.1),
    λ over. meets_from over.0 old own (live_has over.0 over.3) (has_range over.0 place.page count over.1 over.2),
  )

  out_is : (t : Bool) → t ≡ list_any (λ b. b == block) named → list_all (outside shape named) (old ++ own) ≡ not t
  out_is t told =
      list_all-append (outside shape named) old own
      ∙ (λ i. now.out i && all_same (outside shape named) place.page count (not t) (charge_some shape is_shape place.len)
      (λ k less. ap (λ q. not (list_any (λ b. b == q) named)) (same_block shape.block_pages place.page k count is_place.inside less) ∙ ap not (sym told)) i)

  apart_is : (o : Bool) → (IsTrue o ↔ Overlaps) → differ (old ++ own) ≡ not o
  apart_is o told = differ_append old own ∙ (λ i. (now.apart i && differ_range place.page count i) && not (sym (overlap_is o told) i))

  length_is : (total : ℕ) → total ≡ sum live.heads → length (old ++ own) ≡ total + count
  length_is total told =
      let all = total_is shape is_shape taken lives.places in
      let heads = ap sum heads_are in
      let parts = length-append old own in
      let new = length-range_with_len place.page count in
      omega (arith, told, all, heads, parts, new)

  -- ---- the blocks

  used_more : (key : Key) (b : ℕ) → is_used shape (taken ++ (key, place) ∷ []) b ≡ (is_used shape taken b || (block == b))
  used_more key b =
      ap (λ ps. list_any (λ p. p / shape.block_pages == b) ps) (all_pages-more shape taken key place)
      ∙ list_any-append (λ p. p / shape.block_pages == b) old own ∙ ap (λ t. is_used shape taken b || t) (value_in_block shape is_shape place b is_place)

  abbrev any_key : Key
  any_key = []

  closed_more : (key : Key) → set live.closed block true ≡ map (is_used shape (taken ++ (key, place) ∷ [])) (range_with_len 0 shape.blocks)
  closed_more key =
      ap (λ cs. set cs block true) closed_are
      ∙ map_set (is_used shape taken) (is_used shape (taken ++ (key, place) ∷ [])) shape.blocks block true false block_in
      (used_more key block ∙ or_right (is_used shape taken block) (block == block) (eq-eqb block block refl))
      (λ b ne. used_more key b ∙ ap (λ t. is_used shape taken b || t) (ne_eqb block b (λ same. ne (sym same))) ∙ or_false (is_used shape taken b))
    where
      or_false : (b : Bool) → (b || false) ≡ b
      or_false true = refl
      or_false false = refl

  closed_at : get_or live.closed block false ≡ is_used shape taken block
  closed_at = ap (λ cs. get_or cs block false) closed_are ∙ get_or-map-range_with_len (is_used shape taken) 0 shape.blocks block block false block_in (omega arith)

  count_none : (count_of live block == 0) ≡ not (is_used shape taken block)
  count_none = (λ i. (block_sum (heads_are i) (pages_are i) block == 0)) ∙ block_is shape is_shape taken block lives.places block_in

  blocks_is : (blocks : ℕ) → blocks ≡ count_by (λ b. b) live.closed + cond (count_of live block == 0) 1 0 → length (blocks_with shape (old ++ own)) ≡ blocks
  blocks_is blocks told =
      let len : length live.closed ≡ shape.blocks = ap length closed_are ∙ length-map-range_with_len (is_used shape taken) 0 shape.blocks in
      let changed = sum_by-set (λ b. cond b 1 0) live.closed block true false (omega (arith, len, block_in)) in
      let was : cond (get_or live.closed block false) 1 0 + cond (count_of live block == 0) 1 0 ≡ 1 =
      (λ i. cond (closed_at i) 1 0 + cond (count_none i) 1 0) ∙ one (is_used shape taken block) in
      let new : count_by (λ b. b) (set live.closed block true) ≡ count_by (is_used shape (taken ++ (any_key, place) ∷ [])) (range_with_len 0 shape.blocks) =
      ap (count_by (λ b. b)) (closed_more any_key) ∙ count_map (is_used shape (taken ++ (any_key, place) ∷ [])) (range_with_len 0 shape.blocks) in
      let pages : length (blocks_with shape (all_pages shape (taken ++ (any_key, place) ∷ []))) ≡ length (blocks_with shape (old ++ own)) =
      ap (λ ps. length (blocks_with shape ps)) (all_pages-more shape taken any_key place) in
      sym pages ∙ length-filter (is_used shape (taken ++ (any_key, place) ∷ [])) (range_with_len 0 shape.blocks) ∙ sym new ∙ omega (arith, changed, was, told)
    where
      one : (b : Bool) → cond b 1 0 + cond (not b) 1 0 ≡ 1
      one true = refl
      one false = refl

  -- ---- the tests one after another

  -- a block that is named refuses
  pub named_refuses : (t : Bool) → t ≡ list_any (λ b. b == block) named → t ≡ true → false ≡ fits shape named (old ++ own)
  named_refuses t told is =
      sym (λ i. (out_is t told ∙ ap not is) i && differ (old ++ own) && nat_le (length (old ++ own)) (limit shape) && nat_le (length (blocks_with shape (old ++ own))) (data_blocks shape - 1))

  -- so does a page that is live
  pub overlap_refuses : (t o : Bool) → t ≡ list_any (λ b. b == block) named → t ≡ false → (IsTrue o ↔ Overlaps) → o ≡ true → false ≡ fits shape named (old ++ own)
  overlap_refuses t o told none over is =
      sym
      (λ i. (out_is t told ∙ ap not none) i && (apart_is o over ∙ ap not is) i && nat_le (length (old ++ own))
      (limit shape) && nat_le (length (blocks_with shape (old ++ own))) (data_blocks shape - 1))

  -- and then the counts decide
  pub counts_decide : (t o : Bool) (total blocks : ℕ) → t ≡ list_any (λ b. b == block) named → t ≡ false → (IsTrue o ↔ Overlaps) → o ≡ false → total ≡ sum live.heads
      → blocks ≡ count_by (λ b. b) live.closed + cond (count_of live block == 0) 1 0
      → (nat_le (total + count) (limit shape) && nat_le blocks (data_blocks shape - 1)) ≡ fits shape named (old ++ own)
  counts_decide t o total blocks told none over apart all used =
      sym (λ i. (out_is t told ∙ ap not none) i && (apart_is o over ∙ ap not apart) i && nat_le (length_is total all i) (limit shape) && nat_le (blocks_is blocks used i) (data_blocks shape - 1))

  -- ---- the live map with the value

  -- if the test is passed, no value begins at the page
  fresh : fits shape named (old ++ own) ≡ true → head_of shape taken place.page ≡ 0
  fresh e = elim (cases_lt 0 (head_of shape taken place.page)) [
    | inl more ↦
        (let there = covered shape is_shape taken now.apart place.page place.page (omega arith) (omega (arith, more)) in
        let here = has_range place.page place.page count (omega arith) (omega (arith, charge_some shape is_shape place.len)) in
        let met : meets old own ≡ true = meets_from place.page old own there here in
        let all = fits_now shape named (old ++ own) e in
        let clash : true ≡ false = sym all.apart ∙ differ_append old own ∙ ap (λ m. differ old && differ own && not m) met ∙ and_right (differ old && differ own) false refl in
        absurd (false≢true (sym clash)))
    | inr none ↦ omega (arith, none)
  ]

  pub free : fits shape named (old ++ own) ≡ true → slice_get live.heads place.page ≡ Some 0
  free e = slice_get-get_or live.heads place.page 0 (omega (arith, is_place.exists, ap length heads_are, length-map-range_with_len (head_of shape taken) 0 (page_count shape)))
      ∙ ap Some (read place.page ∙ fresh e)

  heads_more : (key : Key) → fits shape named (old ++ own) ≡ true → set live.heads place.page count ≡ map (head_of shape (taken ++ (key, place) ∷ [])) (range_with_len 0 (page_count shape))
  heads_more key e =
      ap (λ hs. set hs place.page count) heads_are
      ∙ map_set (head_of shape taken) (head_of shape (taken ++ (key, place) ∷ [])) (page_count shape) place.page count 0 is_place.exists
      (let here : (place.page == place.page) ≡ true = eq-eqb place.page place.page refl in
      head_of-more shape taken key place place.page ∙ rw here (omega (arith, fresh e)))
      (λ b ne. let other : (place.page == b) ≡ false = ne_eqb place.page b (λ same. ne (sym same)) in head_of-more shape taken key place b ∙ rw other (omega arith))

  pub Lives-more : (key : Key) → fits shape named (old ++ own) ≡ true → (new : Values)
      → new ≡ record live { heads = set live.heads place.page count; closed = set live.closed block true } → Lives shape named new (taken ++ (key, place) ∷ [])
  Lives-more key e new is = record {
    map_is = is ∙ (λ i. record { block_pages = pages_are i; heads = heads_more key e i; closed = closed_more key i });
    places = Placed-more shape taken key place lives.places is_place;
    placed_well = ap (λ ps. fits shape named ps) (all_pages-more shape taken key place) ∙ e;
  }

  -- numbers that are small enough
  pub inside : place.page % live.block_pages + count ≤ live.block_pages
  inside = rw pages_are is_place.inside

  pub block_closes : block < length live.closed
  block_closes = omega (arith, block_in, ap length closed_are, length-map-range_with_len (is_used shape taken) 0 shape.blocks)
