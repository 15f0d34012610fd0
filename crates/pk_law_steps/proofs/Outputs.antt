-- The output of the next merge fits into its run.
use Rattle.std.proofs.Common.{◌≡◌, ◌⊎◌, inl, inr, ℕ, ◌+◌, ◌-◌, ◌*◌, ◌<◌, ◌≤◌, sym, ap, subst, ◌∙◌, arith, true, false, T, List, [], ◌∷◌, ◌++◌, length, map, reverse, filter, nat_le, ◌==◌, refl, cond}
use Rattle.std.proofs.Common.{is_some, slice_index, Option, Some, None, ◌||◌, zip, leb→le, length-append, mul-le-mul_right, add-mul, append_assoc, append-nil, le_trans}
use Rattle.std.proofs.lemmas.List.FromFn.{length-range_with_len}
use Rattle.std.{specs.Int.div_ceil, specs.Ordering.eq_by_cmp, specs.FinMap.Entries.find, specs.FinMap.Entries.is_sorted, specs.FinMap.Entries.below_all, specs.List.list_all, specs.List.flat_map}
use Rattle.pk_base.{specs.Choices.or_else, specs.Key.Key, specs.Key.key_cmp, specs.Page.Flash, specs.Page.page_at, specs.Page.page_in, specs.Entry.Entry, specs.Entry.Place, specs.Firsts.firsts}
use Rattle.pk_base.specs.Shape.{Shape, IsShape, page_entries, buffer, deepest, limit, data_blocks, dense, charge, caps, meta_blocks}
use Rattle.pk_base.proofs.Logic.{left_part, right_part, both, ok_same}
use Rattle.pk_base.{specs.Map.Map, specs.Merge.room, specs.Merge.next_merge, proofs.ShapeLemmas.charge_least, specs.Refusal.ensure, proofs.KeyLemmas.firsts_sorted}
use Rattle.pk_segfmt.specs.Value.{value_pages}
use Rattle.pk_meta.specs.Over.{over}
use Rattle.pk_rootfmt.specs.Root.{Root, named, is_root}
use Rattle.pk_model.{specs.RootLimits.root_limits, specs.RootLimits.root_spaces, specs.Found.Found, specs.Found.entries_in_order, specs.Values.placed, specs.Values.all_pages, proofs.MapLemmas.missing}
use Rattle.pk_model.{proofs.Lookups.find-firsts, proofs.Lookups.find-placed, proofs.Lookups.flat, proofs.Lookups.same_key, proofs.Merges.placed_sorted, proofs.Live.ceil_room}
use Rattle.pk_model.{proofs.StrangePages.bind_ok, proofs.Roots.newest_sound, proofs.Commits.root_valid, proofs.ValueSets.values_sound, proofs.ValueSets.fits_parts, proofs.HeldMap.nothing_fits}
use Rattle.pk_jrnfmt.specs.Epoch.{epoch}
use Rattle.pk_law_steps.{proofs.Untouched.Values, proofs.Untouched.values_under, specs.Under.IsUnder, specs.Under.places, specs.Merging.output_of, specs.Fitting.OutputFits}
use Rattle.pk_law_steps.proofs.FourRuns.{Runs, Pieces, four_of_root, four_runs, pieces_of, chosen}
use Rattle.pk_law_steps.proofs.Amounts.{run_most, epoch_most, WithinCaps, within_caps}
use Rattle.pk_law_steps.proofs.Keys.{Has, no_more_than_both, find-both, has_firsts, firsts_of_both, firsts_reversed, firsts_fewer}

-- the output of a merge into a run but the last
over_most : (source target : List Entry) → length (over source target) ≤ length (firsts source) + length target
over_most source target = let all = firsts_of_both source target in let fewer = firsts_fewer target in omega (arith, all, fewer)

-- ---- the last run

-- a value has a page at least
some_page : (shape : Shape) → IsShape shape → (len : ℕ) → 1 ≤ charge shape len
some_page shape is_shape len = omega (arith, charge_least shape len is_shape)

-- so there are no more values than pages of them
pub values_most : (shape : Shape) → IsShape shape → (es : List (Key × Place)) → length es ≤ length (all_pages shape es)
values_most shape is_shape [] = omega arith
values_most shape is_shape (e ∷ es) =
    let rest = values_most shape is_shape es in
    let one = some_page shape is_shape e.1.len in
    let size = length-append (value_pages shape e.1) (all_pages shape es) in
    let pages = length-range_with_len e.1.page (charge shape e.1.len) in
    omega (arith, rest, one, size, pages)

below_filtered : (k : Key) (es : List Entry) → T (below_all key_cmp k es) → T (below_all key_cmp k (filter (λ e. is_some e.1) es))
below_filtered k [] h = tt
below_filtered k ((q, Some p) ∷ es) h = both _ (below_all key_cmp k (filter (λ e. is_some e.1) es))
    (left_part _ (below_all key_cmp k es) h) (below_filtered k es (right_part _ (below_all key_cmp k es) h))
below_filtered k ((q, None) ∷ es) h = below_filtered k es (right_part _ (below_all key_cmp k es) h)

filtered_sorted : (es : List Entry) → T (is_sorted key_cmp es) → T (is_sorted key_cmp (filter (λ e. is_some e.1) es))
filtered_sorted [] h = tt
filtered_sorted ((q, Some p) ∷ es) h = both (below_all key_cmp q (filter (λ e. is_some e.1) es)) (is_sorted key_cmp (filter (λ e. is_some e.1) es))
    (below_filtered q es (left_part (below_all key_cmp q es) (is_sorted key_cmp es) h)) (filtered_sorted es (right_part (below_all key_cmp q es) (is_sorted key_cmp es) h))
filtered_sorted ((q, None) ∷ es) h = filtered_sorted es (right_part (below_all key_cmp q es) (is_sorted key_cmp es) h)

-- a deleted key that is dropped
keep : Option (Option Place) → Option (Option Place)
keep (Some (Some p)) = Some (Some p)
keep _ = None

find-filtered : (q : Key) (es : List Entry) → T (is_sorted key_cmp es) → find key_cmp q (filter (λ e. is_some e.1) es) ≡ keep (find key_cmp q es)
unfolding keep
find-filtered q [] h = refl
find-filtered q ((k, Some p) ∷ es) h = elim (eq_by_cmp key_cmp q k) as (λ b. cond b (Some (Some p)) (find key_cmp q (filter (λ e. is_some e.1) es)) ≡ keep
    (cond b (Some (Some p)) (find key_cmp q es))) [ true ↦ refl | false ↦ find-filtered q es (right_part (below_all key_cmp k es) (is_sorted key_cmp es) h) ]
find-filtered q ((k, None) ∷ es) h =
    let rest = find-filtered q es (right_part (below_all key_cmp k es) (is_sorted key_cmp es) h) in
    elim (eq_by_cmp key_cmp q k) as (λ b. eq_by_cmp key_cmp q k ≡ b → find key_cmp q (filter (λ e. is_some e.1) es) ≡ keep (cond b (Some None) (find key_cmp q es))) [
      | true ↦ λ e. rest ∙ ap keep (ap (λ x. find key_cmp x es) (same_key q k e) ∙ missing k es (left_part (below_all key_cmp k es) (is_sorted key_cmp es) h))
      | false ↦ λ e. rest
    ] refl

-- an entry that the last run keeps counts, or one above it has its key
counts_or_above : (above below : Option (Option Place)) → T (is_some (keep below)) → T (is_some above) ⊎ T (is_some (flat (or_else above below)))
unfolding keep
counts_or_above (Some x) below h = inl tt
counts_or_above None (Some (Some p)) h = inr tt
counts_or_above _ _ h = absurd h

module _ (upper r3 r4 : List Entry) where
  abbrev pub kept : List Entry
  kept = filter (λ e. is_some e.1) (over r3 r4)

  abbrev pub all : List Entry
  all = upper ++ (r3 ++ r4)

  -- each key of the output is a key of the lists above, or of a value
  among : (q : Key) → Has q kept → Has q (firsts upper) ⊎ Has q (placed (firsts all))
  among q has =
      let output : find key_cmp q (filter (λ e. is_some e.1) (over r3 r4)) ≡ keep (find key_cmp q (r3 ++ r4)) = find-filtered q (over r3 r4) (firsts_sorted (r3 ++ r4))
      ∙ ap keep (find-firsts q (r3 ++ r4)) in
      elim (counts_or_above (find key_cmp q upper) (find key_cmp q (r3 ++ r4)) (subst (λ o. T (is_some o)) output has)) [
        | inl above ↦ inl (has_firsts q upper above)
        | inr counts ↦ inr (subst (λ o. T (is_some o)) (sym (find-placed q (firsts all) (firsts_sorted all) ∙ ap flat (find-firsts q all ∙ find-both q upper (r3 ++ r4)))) counts)
      ]

  pub kept_most : length kept ≤ length (firsts upper) + length (placed (firsts all))
  kept_most = no_more_than_both kept (firsts upper) (placed (firsts all)) (filtered_sorted (over r3 r4) (firsts_sorted (r3 ++ r4)))
      (firsts_sorted upper) (placed_sorted (firsts all) (firsts_sorted all)) among

module _ (shape : Shape) (flash : Flash) (extra : List Entry) (top : ℕ × Root) (found : Found) (m : Map) (is_shape : IsShape shape) (under : IsUnder shape flash extra top found m) where
  abbrev root : Root
  root = top.1

  valid : T (is_root shape root)
  valid = root_valid shape (page_at flash top.0) root (newest_sound shape (page_at flash) top under.is_top).there

  pieces : Pieces shape (page_at flash) root found
  pieces = pieces_of shape (page_at flash) root found under.is_found

  runs : Runs shape (root_spaces shape root) (page_at flash) root.counts root.runs found.runs
  runs = four_runs shape (root_spaces shape root) (page_at flash) root.counts root.runs found.runs (four_of_root shape root valid).counts (four_of_root shape root valid).runs pieces.runs

  values : Values shape flash extra root found m
  values = values_under shape flash extra root found m under.is_map

  active_most : length (firsts (found.newest ++ extra)) ≤ buffer shape
  active_most = leb→le _ _ values.room

  frozen_most : length (firsts found.older) ≤ buffer shape
  frozen_most =
      let read = bind_ok (epoch shape (root_spaces shape root) (page_at flash) (root.epoch - 1) root.older) _ found.older pieces.older in
      let tested = bind_ok (ensure (length root.older == 0 || nat_le 1 (length read.0)) (page_in shape root.older 0)) _ found.older read.2 in
      subst (λ (es : List Entry). length (firsts es) ≤ buffer shape) (ok_same read.0 found.older tested.2) (epoch_most shape (root_spaces shape root) (page_at flash) (root.epoch - 1) root.older read.0 read.1)

  caps_are : WithinCaps shape runs.n1 runs.n2 runs.n3 runs.n4
  caps_are = within_caps shape runs.n1 runs.n2 runs.n3 runs.n4
      (subst (λ ns. T (list_all (λ p. nat_le p.0 (p.1 * page_entries shape)) (zip ns (caps shape)))) runs.counts_are (four_of_root shape root valid).fit)

  abbrev upper : List Entry
  upper = (reverse (found.newest ++ extra) ++ reverse found.older) ++ (runs.r1 ++ runs.r2)

  -- the buffers and runs 1 and 2 have few keys
  upper_most : length (firsts upper) ≤ 24 * page_entries shape
  upper_most =
      let active = reverse (found.newest ++ extra) in
      let frozen = reverse found.older in
      let whole = firsts_of_both (active ++ frozen) (runs.r1 ++ runs.r2) in
      let buffers = firsts_of_both active frozen in
      let deep = over_most runs.r1 runs.r2 in
      let first = firsts_fewer runs.r1 in
      let one = firsts_reversed (found.newest ++ extra) in
      let two = firsts_reversed found.older in
      let a = active_most in
      let f = frozen_most in
      let c = caps_are in
      let n1 = run_most shape (root_spaces shape root) (page_at flash) 1 runs.n1 runs.b1 runs.r1 runs.one in
      let n2 = run_most shape (root_spaces shape root) (page_at flash) 2 runs.n2 runs.b2 runs.r2 runs.two in
      let c1 = c.one in
      let c2 = c.two in
      omega (arith, whole, buffers, deep, first, one, two, a, f, n1, n2, c1, c2)

  in_rows : all upper runs.r3 runs.r4 ≡ entries_in_order (record { newest = found.newest; older = found.older; runs = runs.r1 ∷ runs.r2 ∷ runs.r3 ∷ runs.r4 ∷ [] }) extra
  in_rows =
      let front = reverse (found.newest ++ extra) ++ reverse found.older in
      append_assoc front (runs.r1 ++ runs.r2) (runs.r3 ++ runs.r4)
      ∙ (λ i. front ++ append_assoc runs.r1 runs.r2 (runs.r3 ++ runs.r4) i)
      ∙ (λ i. front ++ (runs.r1 ++ (runs.r2 ++ (runs.r3 ++ sym (append-nil runs.r4) i))))

  same_entries : all upper runs.r3 runs.r4 ≡ entries_in_order found extra
  same_entries = in_rows ∙ (λ i. reverse (found.newest ++ extra) ++ reverse found.older ++ flat_map (λ es. es) (sym runs.lists_are i))

  -- no more values than the limit
  few_values : length (placed (firsts (all upper runs.r3 runs.r4))) ≤ limit shape
  few_values =
      let es = places found extra in
      let placed_well = (values_sound shape (named root) (page_at flash) (root_limits shape root) es values.values (nothing_fits shape (named root)) values.read).placed_well in
      let parts = fits_parts shape (named root) (all_pages shape es) (subst T (sym placed_well) tt) in
      let few = parts.few in
      let most = values_most shape is_shape es in
      subst (λ xs. length (placed (firsts xs)) ≤ limit shape) (sym same_entries) (le_trans most few)

  deepest_room : limit shape + 24 * page_entries shape ≤ deepest shape * page_entries shape
  unfolding limit deepest data_blocks
  deepest_room =
      let e = page_entries shape in
      let pages = div_ceil (shape.blocks * dense shape) e in
      let positive : 0 < e = let least = is_shape.page_least in omega (arith, least) in
      let most : (shape.blocks - 6 - meta_blocks shape - 1) * dense shape ≤ shape.blocks * dense shape = mul-le-mul_right (dense shape) (omega arith) in
      let all = ceil_room (shape.blocks * dense shape) e positive in
      let split = add-mul pages 24 e in
      omega (arith, most, all, split)

  -- the output, if the runs are these
  abbrev Fits : ℕ → List (List Entry) → Type 0
  Fits l ls = length (output_of l (record { newest = found.newest; older = found.older; runs = ls })) ≤ room shape l

  abbrev now : List (List Entry)
  now = runs.r1 ∷ runs.r2 ∷ runs.r3 ∷ runs.r4 ∷ []

  moved : (l : ℕ) → Fits l now → Fits l found.runs
  moved l is = subst (λ ls. Fits l ls) (sym runs.lists_are) is

  at_level : (l n : ℕ) → l ≡ n → Fits n now → length (output_of l found) ≤ room shape l
  at_level l n e is = moved l (subst (λ x. Fits x now) (sym e) is)

  into_one : (l : ℕ) → l ≡ 1 → length (firsts found.older) + length runs.r1 ≤ room shape 1 → length (output_of l found) ≤ room shape l
  into_one l e enough = at_level l 1 e (let most = over_most (reverse found.older) runs.r1 in let fewer = firsts_reversed found.older in omega (arith, most, fewer, enough))

  into_two : (l : ℕ) → l ≡ 2 → length runs.r1 + length runs.r2 ≤ room shape 2 → length (output_of l found) ≤ room shape l
  into_two l e enough = at_level l 2 e (let most = over_most runs.r1 runs.r2 in let fewer = firsts_fewer runs.r1 in omega (arith, most, fewer, enough))

  into_three : (l : ℕ) → l ≡ 3 → length runs.r2 + length runs.r3 ≤ room shape 3 → length (output_of l found) ≤ room shape l
  into_three l e enough = at_level l 3 e (let most = over_most runs.r2 runs.r3 in let fewer = firsts_fewer runs.r2 in omega (arith, most, fewer, enough))

  into_four : (l : ℕ) → l ≡ 4 → length (output_of l found) ≤ room shape l
  into_four l e = at_level l 4 e (let most = kept_most upper runs.r3 runs.r4 in let above = upper_most in let few = few_values in let enough = deepest_room in omega (arith, most, above, few, enough))

  fits : (level : ℕ) → next_merge shape (length (firsts found.older)) (map (λ es. length es) found.runs) ≡ Some level → length (output_of level found) ≤ room shape level
  fits level next =
      let counts = map (λ es. length es) found.runs in
      let lists : map (λ es. length es) found.runs ≡ length runs.r1 ∷ length runs.r2 ∷ length runs.r3 ∷ length runs.r4 ∷ [] = ap (map (λ es. length es)) runs.lists_are in
      let f = length (firsts found.older) in
      elim (chosen (f == 0) (nat_le (f + slice_index counts 0) (room shape 1)) (nat_le (slice_index counts 0 + slice_index counts 1) (room shape 2))
      (nat_le (slice_index counts 1 + slice_index counts 2) (room shape 3)) level next) [
        | inl one ↦ into_one level one.0 (leb→le _ _ (subst (λ ns. T (nat_le (f + slice_index ns 0) (room shape 1))) lists one.1))
        | inr (inl two) ↦ into_two level two.0 (leb→le _ _ (subst (λ ns. T (nat_le (slice_index ns 0 + slice_index ns 1) (room shape 2))) lists two.1))
        | inr (inr (inl three)) ↦ into_three level three.0 (leb→le _ _ (subst (λ ns. T (nat_le (slice_index ns 1 + slice_index ns 2) (room shape 3))) lists three.1))
        | inr (inr (inr four)) ↦ into_four level four
      ]

pub output_fits : OutputFits
output_fits shape flash extra top found m level is_shape under next = fits shape flash extra top found m is_shape under level next
