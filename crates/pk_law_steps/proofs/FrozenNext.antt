-- The root after a freeze is a valid successor.
use Rattle.std.proofs.Common.{◌≡◌, [], inl, inr, ℕ, suc, ◌+◌, ◌-◌, ◌*◌, ◌/◌, ◌%◌, ◌<◌, ◌≤◌, refl, sym, ap, subst, ◌∙◌, arith, true, false, T, List, ◌∷◌, ◌++◌, length, reverse, slice_index, ◌==◌, ◌||◌}
use Rattle.std.proofs.Common.{nat_le, ne_eqb, zero-mul, le→leb, if◌then◌else◌, Ok, append-nil, mul-le-mul_right, div-add-mod', mod-lt, leb→le, le_trans}
use Rattle.std.{proofs.lemmas.Nat.div-mul-add, proofs.lemmas.List.reverse-append, specs.List.concat, specs.List.flat_map}
use Rattle.pk_base.{specs.Shape.Shape, specs.Shape.IsShape, specs.Shape.buffer, specs.Shape.epoch_pages, specs.Page.Flash, specs.Page.page_at, specs.Page.erased, specs.Page.page_in, specs.Entry.Entry}
use Rattle.pk_base.{specs.Firsts.firsts, specs.Map.Map, proofs.ShapeLemmas.block_pages_positive, proofs.CommitPages.second as next_page, proofs.KeyLemmas.firsts_sorted}
use Rattle.pk_base.{specs.Page.Page, specs.Refusal.ensure, specs.Refusal.◌>>=◌, proofs.Logic.is_true}
use Rattle.pk_jrnfmt.specs.Epoch.{epoch}
use Rattle.pk_rootfmt.specs.Root.{Root, is_root, named}
use Rattle.pk_model.{specs.RootLimits.root_limits, specs.RootLimits.root_spaces, specs.Values.placed, proofs.SamePages.any_front, proofs.SamePages.any_back, proofs.Roots.newest_sound}
use Rattle.pk_model.specs.Found.{Found, older_epoch, newest_epoch, found_under, entries_in_order}
use Rattle.pk_model.proofs.Commits.{blocks_of_root, root_valid, ends, not_read, erased_not, values_apart, is_any_back}
use Rattle.pk_law_steps.{specs.Under.IsUnder, specs.Under.IsNamed, specs.Under.IsValuePage, specs.Under.places, specs.Roots.frozen_root, specs.Roots.frozen, proofs.Places.In, proofs.Places.in_append}
use Rattle.pk_law_steps.{proofs.Untouched.Values, proofs.Untouched.values_under, proofs.Untouched.value_page_whole, proofs.Untouched.not_erased, specs.Freezing.IsFrozen, specs.Freezing.Frozen}
use Rattle.pk_law_steps.{proofs.FourRuns.pieces_of, proofs.Keys.no_more_keys, proofs.Keys.has_firsts, proofs.Keys.firsts_has, proofs.Keys.has_behind}

-- a list with an element is not empty
not_empty : (n : ℕ) → (suc n == 0) ≡ false
not_empty n = ne_eqb (suc n) 0 (λ e. omega (arith, e))

-- no blocks, no entries
pub no_blocks : (shape : Shape) (spaces : ℕ) (at : ℕ → Page) (number : ℕ) → epoch shape spaces at number [] ≡ Ok []
unfolding epoch
no_blocks shape spaces at number = rw (zero-mul (shape.block_pages / 2)) refl

-- the older epoch of a freeze is the newest one before, which has entries or is not named
older_is : (shape : Shape) (spaces : ℕ) (at : ℕ → Page) (number : ℕ) (blocks : List ℕ) (es : List Entry) → length blocks ≡ 2 → epoch shape spaces at number blocks ≡ Ok es
    → (do
      found ← epoch shape spaces at (number + 1 - 1) (if length es == 0 then [] else blocks)
      _ ← ensure (length (if length es == 0 then [] else blocks) == 0 || nat_le 1 (length found)) (page_in shape (if length es == 0 then [] else blocks) 0)
      Ok found) ≡ Ok es
older_is shape spaces at number blocks [] two is = let none = no_blocks shape spaces at (number + 1 - 1) in rw none refl
older_is shape spaces at number blocks (e ∷ es) two is =
    let some = not_empty (length es) in
    let former : number + 1 - 1 ≡ number = omega arith in
    let named_two : (length blocks == 0) ≡ false = ap (λ n. n == 0) two ∙ not_empty 1 in
    let least : nat_le 1 (suc (length es)) ≡ true = is_true _ (le→leb 1 (suc (length es)) (omega arith)) in
    rw (some, former, is, named_two, least) refl

module _ (shape : Shape) (flash : Flash) (extra : List Entry) (top : ℕ × Root) (found : Found) (m : Map) (first second : ℕ) (is_shape : IsShape shape)
    (before : IsUnder shape flash extra top found m) (is : IsFrozen shape flash top found first second) where
  abbrev root : Root
  root = top.1

  abbrev then_root : Root
  then_root = frozen_root top.1 found first second

  was_valid : T (is_root shape root)
  was_valid = root_valid shape (page_at flash top.0) root (newest_sound shape (page_at flash) top before.is_top).there

  positive : 0 < shape.block_pages
  positive = block_pages_positive shape is_shape

  nothing : epoch shape (root_spaces shape then_root) (page_at flash) (root.epoch + 1) (first ∷ second ∷ []) ≡ Ok []
  unfolding epoch
  nothing =
      let least = is_shape.block_least in
      ends shape (page_at flash) (first ∷ second ∷ []) (root_spaces shape then_root) (root.epoch + 1) 0 [] (2 * (shape.block_pages / 2))
      (not_read _ _ _
      (erased_not _ (is.are_erased 0 (omega (arith, least))))
      (erased_not _ (ap (page_at flash) (sym (next_page shape (first ∷ second ∷ []) is_shape 0)) ∙ is.are_erased 1 (omega (arith, least)))))

  is_found : found_under shape (page_at flash) then_root ≡ Ok (frozen found)
  unfolding found_under root_limits
  is_found =
      let pieces = pieces_of shape (page_at flash) root found before.is_found in
      let older : older_epoch shape (page_at flash) then_root ≡ Ok found.newest = older_is shape (root_spaces shape root)
      (page_at flash) root.epoch root.newest found.newest (blocks_of_root shape root was_valid).two pieces.newest in
      let empty : newest_epoch shape (page_at flash) then_root ≡ Ok [] = nothing in
      let runs = pieces.runs in
      rw (older, empty, runs) refl

  same_entries : entries_in_order (frozen found) extra ≡ entries_in_order found extra
  same_entries =
      let runs = flat_map (λ es. es) found.runs in
      let active = reverse (found.newest ++ extra) in
      ap (λ xs. xs ++ runs) (sym (reverse-append found.newest extra) ∙ sym (append-nil active) ∙ ap (λ (o : List Entry). active ++ reverse o) (sym is.none_older))

  at_place : (k i : ℕ) → i ≤ 1 → k / shape.block_pages ≡ slice_index (first ∷ second ∷ []) i → page_at flash k ≡ erased
  at_place k i small e =
      let n = shape.block_pages in
      let r = k % n in
      let j = i * n + r in
      let low = mod-lt k positive in
      let most = mul-le-mul_right n small in
      let inside : j < epoch_pages shape = omega (arith, low, most) in
      let half : j / n ≡ i = div-mul-add i n r low in
      let whole = div-add-mod' j n in
      let blocks : (j / n) * n ≡ i * n = ap (λ x. x * n) half in
      let rest : j % n ≡ r = omega (arith, whole, blocks) in
      let place : page_in shape (first ∷ second ∷ []) j ≡ k = (λ x. slice_index (first ∷ second ∷ []) (half x) * n + rest x) ∙ ap (λ y. y * n + r) (sym e) ∙ div-add-mod' k n in
      subst (λ x. page_at flash x ≡ erased) place (is.are_erased j inside)

  -- a page of the new epoch's blocks is erased
  in_new : (k : ℕ) → In (k / shape.block_pages) (first ∷ second ∷ []) → page_at flash k ≡ erased
  in_new k (inl here) = at_place k 0 (omega arith) here
  in_new k (inr (inl here)) = at_place k 1 (omega arith) here
  in_new k (inr (inr none)) = absurd none

  values : Values shape flash extra root found m
  values = values_under shape flash extra root found m before.is_map

  -- no value is in a block that the root names
  outside : (k : ℕ) → IsValuePage shape (places found extra) k → IsNamed shape then_root k → ⊥
  outside k value among =
      let b = k / shape.block_pages in
      let former : In b (named root) → ⊥ = λ there. values_apart shape (page_at flash) (root_limits shape root) (named root) [] (places found extra) values.values values.read k value (is_any_back b (named root) there) in
      elim (in_append b ((first ∷ second ∷ []) ++ then_root.older) (concat root.runs) among) [
        | inl front ↦ elim (in_append b (first ∷ second ∷ []) then_root.older front) [
          | inl fresh ↦ not_erased _ (value_page_whole shape flash extra top found m before k value) (in_new k fresh)
          | inr older ↦ former (any_front (λ c. b ≡ c) (root.newest ++ root.older) (concat root.runs) (any_front (λ c. b ≡ c) root.newest root.older (in_older found.newest older)))
        ]
        | inr run ↦ former (any_back (λ c. b ≡ c) (root.newest ++ root.older) (concat root.runs) run)
      ]
    where
      in_older : (es : List Entry) → In (k / shape.block_pages) (if length es == 0 then [] else root.newest) → In (k / shape.block_pages) root.newest
      in_older [] there = absurd there
      in_older (e ∷ es) there = subst (λ c. In (k / shape.block_pages) (if c then [] else root.newest)) (not_empty (length es)) there

  -- the extra entries alone have no more keys
  room : length (firsts extra) ≤ buffer shape
  room =
      let fewer = no_more_keys (firsts extra) (firsts (found.newest ++ extra)) (firsts_sorted extra) (firsts_sorted (found.newest ++ extra))
      (λ q has. has_firsts q (found.newest ++ extra) (has_behind q found.newest extra (firsts_has q extra has))) in
      le_trans fewer (leb→le _ _ values.room)

pub frozen_next : Frozen
frozen_next shape flash extra top found m first second is_shape before is = record {
  grammar = is.grammar;
  is_found = is_found shape flash extra top found m first second is_shape before is;
  room = room shape flash extra top found m first second is_shape before is;
  same_places = ap (λ es. placed (firsts es)) (same_entries shape flash extra top found m first second is_shape before is);
  outside = outside shape flash extra top found m first second is_shape before is;
  step = inl (record { number = refl; none_frozen = is.none_older; epoch = refl; empty = refl; older = refl; frozen = refl; blocks = refl; runs = refl; limits = refl });
}
