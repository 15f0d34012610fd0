-- What is known of the values of a map that a flash holds.
use Rattle.std.proofs.Common.{◌≡◌, ℕ, ◌≤◌, refl, sym, ap, subst, ◌∙◌, true, false, cond, T, List, [], ◌∷◌, length, sum, Some, None, Ok}
use Rattle.std.{specs.Prelude.slice_index, specs.List.AllByRecursion, specs.List.AllZip, specs.Ordering.eq_by_cmp, specs.FinMap.Entries.find, specs.FinMap.Entries.is_sorted}
use Rattle.pk_base.{specs.Key.Key, specs.Key.IsKey, specs.Key.key_cmp, specs.Shape.Shape, specs.Shape.IsShape, specs.Shape.limit, specs.Entry.Entry, specs.Entry.Place, specs.EntryChecks.IsEntry}
use Rattle.pk_base.{specs.Page.Page, specs.Page.Flash, specs.Page.IsFlash, specs.Page.page_at, specs.Firsts.firsts, specs.Map.Map, proofs.KeyLemmas.firsts_sorted}
use Rattle.pk_rootfmt.specs.Root.{Root, named}
use Rattle.pk_segfmt.specs.Value.{value_at}
use Rattle.pk_pool.specs.Blocks.{Blocks}
use Rattle.pk_model.{specs.Found.Found, specs.Found.found_under, specs.Found.entries_in_order, specs.Values.placed, specs.Values.all_pages, proofs.HeldMap.nothing_fits, proofs.Lookups.same_key}
use Rattle.pk_model.{proofs.Entries.counting_all, proofs.Entries.journal_are, proofs.Entries.meta_are, proofs.Merges.placed_sorted, proofs.ValueSets.values_sound, proofs.ValueSets.fits_parts}
use Rattle.pk_model.specs.RootLimits.{root_limits}
use Rattle.pk_law_steps.{specs.Under.IsUnder, specs.Under.counting, specs.Under.places, proofs.Untouched.values_under, proofs.Counting.counts}
use Rattle.pk_live.{specs.Lives.head_of, proofs.Standing.heads_read}
use Rattle.pk_values.{specs.State.ValuesState, specs.Placed.ValuesOnFlash, specs.Placed.AreApart as ApartInData, proofs.Standing.total_of}
use Rattle.pk_law_moves.specs.Moves.{AreApart}

-- ---- keys

keys_placed : (shape : Shape) (es : List Entry) → AllByRecursion (IsEntry shape) es → AllByRecursion (λ e. IsKey e.0) (placed es)
keys_placed shape [] all = tt
keys_placed shape ((key, None) ∷ es) all = keys_placed shape es all.1
keys_placed shape ((key, Some place) ∷ es) all = (all.0.0, keys_placed shape es all.1)

pub keys_known : (shape : Shape) (flash : Flash) (root : Root) (found : Found) → found_under shape (page_at flash) root ≡ Ok found → AllByRecursion (λ e. IsKey e.0) (places found [])
keys_known shape flash root found is =
    keys_placed shape (firsts (entries_in_order found []))
    (counting_all (IsEntry shape) shape (page_at flash) (λ k number index bytes es stands read. journal_are shape number index bytes es read)
    (λ k level index count bytes es stands read. meta_are shape level index count bytes es read) root found [] is tt)

pub rising_known : (found : Found) → T (is_sorted key_cmp (places found []))
rising_known found = placed_sorted (counting found []) (firsts_sorted (entries_in_order found []))

-- ---- values

value_known : (shape : Shape) (at : ℕ → Page) (key : Key) (place : Place) (es : List (Key × Place)) (vs : List (Key × List ℕ))
    → AllZip (λ e v. (v.0 ≡ e.0) × (value_at shape at e.0 e.1 ≡ Ok v.1)) es vs
    → find key_cmp key es ≡ Some place → (v : List ℕ) × (value_at shape at key place ≡ Ok v)
value_known shape at key place [] vs all found = cc
value_known shape at key place (e ∷ es) [] all found = absurd all
value_known shape at key place (e ∷ es) (v ∷ vs) all found =
    elim (eq_by_cmp key_cmp key e.0) as (λ b. eq_by_cmp key_cmp key e.0 ≡ b → cond b (Some e.1) (find key_cmp key es) ≡ Some place → (v : List ℕ) × (value_at shape at key place ≡ Ok v)) [
      | true ↦ λ tied f.
          let same : e.1 ≡ place = cc in
          (v.1, (λ i. value_at shape at (same_key key e.0 tied i) (sym same i)) ∙ all.0.1)
      | false ↦ λ other f. value_known shape at key place es vs all.1 f
    ] refl found

module _ (shape : Shape) (flash : Flash) (top : ℕ × Root) (found : Found) (m : Map) (under : IsUnder shape flash [] top found m) where
  pub values_known : (key : Key) (place : Place) → find key_cmp key (places found []) ≡ Some place → (v : List ℕ) × (value_at shape (page_at flash) key place ≡ Ok v)
  values_known key place is =
      let values = values_under shape flash [] top.1 found m under.is_map in
      value_known shape (page_at flash) key place (places found []) values.values
      (values_sound shape (named top.1) (page_at flash) (root_limits shape top.1) (places found []) values.values (nothing_fits shape (named top.1)) values.read).read is

  pub pages_few : length (all_pages shape (places found [])) ≤ limit shape
  pages_few =
      let values = values_under shape flash [] top.1 found m under.is_map in
      (fits_parts shape (named top.1) (all_pages shape (places found []))
      (subst T (sym (values_sound shape (named top.1) (page_at flash) (root_limits shape top.1) (places found []) values.values (nothing_fits shape (named top.1)) values.read).placed_well) tt)).few

  pub live_few : (d : ValuesState) (pool : Blocks) (outputs : List ℕ) → ValuesOnFlash shape d pool outputs flash (places found []) → sum d.live.heads ≤ limit shape
  live_few d pool outputs placed = subst (λ (n : ℕ). n ≤ limit shape) (sym (total_of shape d pool outputs flash (places found []) placed)) pages_few

-- one map has as many keys, wherever its values are
pub as_many_known : (shape : Shape) (old new : Flash) (top : ℕ × Root) (found then_found : Found) (m : Map) → IsShape shape
    → IsFlash shape old → IsFlash shape new → IsUnder shape old [] top found m → IsUnder shape new [] top then_found m
    → length (places then_found []) ≡ length (places found [])
as_many_known shape old new top found then_found m is_shape is_old is_new was now =
    sym (counts shape new [] top then_found m is_shape is_new now).len_is ∙ (counts shape old [] top found m is_shape is_old was).len_is

-- ---- the live map

pub heads_known : (shape : Shape) (d : ValuesState) (pool : Blocks) (outputs : List ℕ) (flash : Flash) (es : List (Key × Place))
    → ValuesOnFlash shape d pool outputs flash es → (k : ℕ) → slice_index d.live.heads k ≡ head_of shape es k
heads_known shape d pool outputs flash es placed k = ap (λ (hs : List ℕ). slice_index hs k) placed.heads_are ∙ heads_read shape placed.is_shape es k placed.places

pub apart_known : (shape : Shape) (es : List (Key × Place)) → ApartInData shape es → AreApart shape es
apart_known shape [] are = tt
apart_known shape (e ∷ es) are = (are.0, apart_known shape es are.1)
