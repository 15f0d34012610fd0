-- One more entry puts a value into the map, or takes a key out of it.
use Rattle.std.proofs.Common.{◌≡◌, ℕ, refl, sym, ap, subst, ◌∙◌, Bool, true, false, not, cond, T, List, [], ◌∷◌, ◌++◌, Option, Some, None, Ok, le→leb}
use Rattle.std.specs.Ordering.{is_lt, is_eq, eq_by_cmp}
use Rattle.std.specs.FinMap.{from_entries, get-from_entries, remove, get-remove, same_map}
use Rattle.std.specs.FinMap.Entries.{put, find, is_sorted, below_all, by_order, where_key, find-where_key}
use Rattle.std.{specs.declared.cmp.Ordering.TheVariants.Less, specs.declared.cmp.Ordering.TheVariants.Equal, specs.declared.cmp.Ordering.TheVariants.Greater, specs.Cmp.eq_by_cmp_equiv}
use Rattle.pk_base.{specs.Key.Key, specs.Key.key_cmp, specs.Shape.Shape, specs.Page.Page, specs.Page.page_at, specs.Entry.Entry, specs.Entry.Place}
use Rattle.pk_base.{specs.Firsts.firsts, proofs.Logic.is_true, proofs.Logic.left_part, proofs.Logic.right_part, proofs.Logic.both, proofs.Logic.less, proofs.KeyLemmas.firsts_sorted}
use Rattle.pk_rootfmt.specs.Root.{named}
use Rattle.pk_model.{specs.RootLimits.root_limits, specs.RootLimits.root_spaces, specs.Found.entries_in_order, specs.Values.placed, specs.Values.values_of, proofs.RootLimits.in_spaces_last}
use Rattle.pk_model.{specs.Reading.may_add, specs.Reading.map_under, proofs.MapLemmas.key_total, proofs.MapLemmas.key_antisymm, proofs.MapLemmas.below_less, proofs.HeldMap.nothing_fits}
use Rattle.pk_model.proofs.ValueSets.{values_sound, values_complete, Reads}
use Rattle.pk_model.proofs.Stores.{below_placed, reading-store, entries_in_order-push}
use Rattle.pk_law_steps.{specs.Under.counting, specs.Under.places, specs.Stores.Stores, specs.Stores.Deletes, proofs.Untouched.values_under}
use Rattle.pk_law_steps.proofs.Places.{kept, kept_fit, within_kept}

pub stores : Stores
stores shape flash pending top found m key place value under own stands room fit within =
    let values = values_under shape flash pending top.1 found m under.is_map in
    let spaces = root_spaces shape top.1 in
    let added = in_spaces_last spaces pending (key, Some place) values.spaced own in
    let fitting = subst T (sym fit) tt in
    search (reading-store shape (page_at flash) top.1 found pending m key place value (nothing_fits shape (named top.1)) under.is_map stands (both _ _ (le→leb _ _ room) added) fitting within)

-- ---- a key less

-- the key is another
abbrev is_other : Key → Key → Bool
is_other k x = not (eq_by_cmp key_cmp k x)

keep_all : (k : Key) (es : List (Key × Place)) → T (below_all key_cmp k es) → kept (is_other k) es ≡ es
keep_all k [] h = refl
keep_all k (e ∷ es) h =
    let is = less (key_cmp k e.0) (left_part (is_lt (key_cmp k e.0)) (below_all key_cmp k es) h) in
    ap (λ r. cond (not (is_eq r)) (e ∷ kept (is_other k) es) (kept (is_other k) es)) is
    ∙ ap (λ (xs : List (Key × Place)). e ∷ xs) (keep_all k es (right_part (is_lt (key_cmp k e.0)) (below_all key_cmp k es) h))

-- to put a deleted key is to take its place away
pub placed-gone : (k : Key) (es : List Entry) → T (is_sorted key_cmp es) → placed (put key_cmp k None es) ≡ kept (is_other k) (placed es)
placed-gone k [] h = refl
placed-gone k ((q, Some p) ∷ es) h =
    let below = left_part (below_all key_cmp q es) (is_sorted key_cmp es) h in
    elim (key_cmp k q) as (λ r. key_cmp k q ≡ r
    → placed (by_order r ((k, None) ∷ (q, Some p) ∷ es) ((q, None) ∷ es) ((q, Some p) ∷ put key_cmp k None es))
    ≡ cond (not (is_eq r)) ((q, p) ∷ kept (is_other k) (placed es)) (kept (is_other k) (placed es))) [
      | Less ↦ λ e. sym (ap (λ (xs : List (Key × Place)). (q, p) ∷ xs) (keep_all k (placed es) (below_placed k es (below_less k q es e below))))
      | Equal ↦ λ e. sym (keep_all k (placed es) (below_placed k es (subst (λ x. T (below_all key_cmp x es)) (sym (key_antisymm k q e)) below)))
      | Greater ↦ λ e. ap (λ (xs : List (Key × Place)). (q, p) ∷ xs) (placed-gone k es (right_part (below_all key_cmp q es) (is_sorted key_cmp es) h))
    ] refl
placed-gone k ((q, None) ∷ es) h =
    let below = left_part (below_all key_cmp q es) (is_sorted key_cmp es) h in
    elim (key_cmp k q) as (λ r. key_cmp k q ≡ r → placed (by_order r ((k, None) ∷ (q, None) ∷ es) ((q, None) ∷ es) ((q, None) ∷ put key_cmp k None es)) ≡ kept (is_other k) (placed es)) [
      | Less ↦ λ e. sym (keep_all k (placed es) (below_placed k es (below_less k q es e below)))
      | Equal ↦ λ e. sym (keep_all k (placed es) (below_placed k es (subst (λ x. T (below_all key_cmp x es)) (sym (key_antisymm k q e)) below)))
      | Greater ↦ λ e. placed-gone k es (right_part (below_all key_cmp q es) (is_sorted key_cmp es) h)
    ] refl

reads-kept : (shape : Shape) (blocks : List ℕ) (at : ℕ → Page) (p : Key → Bool) (es : List (Key × Place)) (vs : List (Key × List ℕ))
    → Reads shape blocks at es vs → Reads shape blocks at (kept p es) (where_key key_cmp p vs)
reads-kept shape blocks at p [] [] reads = tt
reads-kept shape blocks at p (e ∷ es) (v ∷ vs) reads =
    let rest = reads-kept shape blocks at p es vs reads.1 in
    let same : p v.0 ≡ p e.0 = ap p reads.0.0 in
    rw same (elim (p e.0) as (λ b. Reads shape blocks at (cond b (e ∷ kept p es) (kept p es)) (cond b (v ∷ where_key key_cmp p vs) (where_key key_cmp p vs))) [ true ↦ (reads.0, rest) | false ↦ rest ])
reads-kept shape blocks at p es vs reads = absurd reads

turned : (k q : Key) → eq_by_cmp key_cmp k q ≡ eq_by_cmp key_cmp q k
turned k q = (eq_by_cmp_equiv key_total).symm k q

denied : {X : Type 0} (b : Bool) (x : Option X) → cond (not b) x None ≡ cond b None x
denied true x = refl
denied false x = refl

from_entries-kept : (k : Key) (vs : List (Key × List ℕ)) → from_entries {R = key_cmp} (where_key key_cmp (is_other k) vs) ≡ remove (from_entries {R = key_cmp} vs) k
from_entries-kept k vs = same_map key_total key_antisymm _ _ (λ q.
    get-from_entries key_total (where_key key_cmp (is_other k) vs) q
    ∙ find-where_key key_cmp (is_other k) q (λ x e. ap (is_other k) (sym (key_antisymm q x e))) vs
    ∙ denied (eq_by_cmp key_cmp k q) (find key_cmp q vs)
    ∙ (λ i. cond (turned k q i) None (sym (get-from_entries key_total vs q) i))
    ∙ sym (get-remove key_total (from_entries vs) k q))

pub deletes : Deletes
unfolding map_under
deletes shape flash pending top found m key under own room = record { is_top = under.is_top; is_found = under.is_found; is_map = is_map }
  where
    fewer : placed (firsts (entries_in_order found (pending ++ (key, None) ∷ []))) ≡ kept (is_other key) (places found pending)
    fewer = ap (λ es. placed (firsts es)) (entries_in_order-push found pending (key, None)) ∙ placed-gone key (counting found pending) (firsts_sorted (entries_in_order found pending))

    is_map : map_under shape (page_at flash) top.1 found (pending ++ (key, None) ∷ []) ≡ Ok (remove m key)
    is_map =
        let values = values_under shape flash pending top.1 found m under.is_map in
        let blocks = named top.1 in
        let limits = root_limits shape top.1 in
        let before = values_sound shape blocks (page_at flash) limits (places found pending) values.values (nothing_fits shape blocks) values.read in
        let lies = kept_fit shape (is_other key) blocks (places found pending) (subst T (sym before.placed_well) tt) in
        let after : values_of shape (page_at flash) limits blocks [] (placed (firsts (entries_in_order found (pending ++ (key, None) ∷ [])))) ≡ Ok (where_key key_cmp (is_other key) values.values) =
        ap (values_of shape (page_at flash) limits blocks []) fewer
        ∙ values_complete shape blocks (page_at flash) limits (kept (is_other key) (places found pending)) (where_key key_cmp (is_other key) values.values)
        (record { placed_well = is_true _ lies; within = within_kept shape (is_other key) limits (places found pending) before.within; read = reads-kept shape blocks (page_at flash) (is_other key) (places found pending) values.values before.read }) in
        let enough : may_add shape top.1 found (pending ++ (key, None) ∷ []) ≡ true = is_true _
        (both _ _ (le→leb _ _ room) (in_spaces_last (root_spaces shape top.1) pending (key, None) values.spaced own)) in
        rw (enough, after) (λ i. Ok ((from_entries-kept key values.values ∙ ap (λ x. remove x key) values.whole_map) i))
