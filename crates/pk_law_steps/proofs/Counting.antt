-- What the entries that count say of the map.
use Rattle.std.proofs.Common.{◌≡◌, ℕ, ◌<◌, refl, sym, ap, subst, ◌∙◌, arith, T, List, [], ◌∷◌, ◌++◌, length, map, reverse, Option, Some, None}
use Rattle.std.{specs.FinMap.get, specs.FinMap.entries, specs.FinMap.from_entries, specs.FinMap.entries-insert, specs.FinMap.len-entries, proofs.lemmas.List.length-map}
use Rattle.std.specs.FinMap.Entries.{put, find, is_sorted, below_all}
use Rattle.std.{specs.List.flat_map, specs.Ordering.is_lt}
use Rattle.pk_base.{specs.Choices.or_else, specs.Key.Key, specs.Key.key_cmp, specs.Shape.Shape, specs.Page.Page, specs.Page.Flash, specs.Page.page_at, specs.Entry.Place}
use Rattle.pk_base.{specs.Map.Map, specs.Map.pages_in, proofs.Logic.left_part, proofs.Logic.right_part, proofs.Logic.both, proofs.KeyLemmas.firsts_sorted}
use Rattle.pk_rootfmt.specs.Root.{named}
use Rattle.pk_model.{specs.RootLimits.root_limits, specs.Found.entries_in_order, proofs.MapLemmas.key_total, proofs.ValueSets.values_sound, proofs.ValueSets.Reads, proofs.Stores.put-below}
use Rattle.pk_model.{proofs.Lookups.flat, proofs.Lookups.Has, proofs.Lookups.map_under_get, proofs.Lookups.find-firsts, proofs.Merges.placed_sorted, proofs.Live.live-pages}
use Rattle.pk_model.proofs.HeldMap.{nothing_fits, none_of_empty}
use Rattle.pk_law_steps.proofs.Keys.{find-both}
use Rattle.pk_law_steps.{specs.Under.counting, specs.Under.places, specs.Lookups.IsValueOf, specs.Lookups.LookupFinds, specs.Lookups.FoundIn, specs.Lookups.Counts, proofs.Untouched.values_under}

value_of : (shape : Shape) (flash : Flash) (q : Key) (e : Option (Option Place)) (value : Option (List ℕ)) → Has shape (page_at flash) q (flat e) value → IsValueOf shape flash q e value
value_of shape flash q None value is = is
value_of shape flash q e value is = is

pub finds : LookupFinds
finds shape flash pending top found m key under = value_of shape flash key (find key_cmp key (entries_in_order found pending))
    (get m key) (map_under_get shape (page_at flash) top.1 found pending m under.is_map key)

-- ---- lists one after another

or_else-assoc : (a b c : Option (Option Place)) → or_else (or_else a b) c ≡ or_else a (or_else b c)
or_else-assoc None b c = refl
or_else-assoc (Some x) b c = refl

pub found_in : FoundIn
found_in found pending key =
    let active = reverse (found.newest ++ pending) in
    let frozen = reverse found.older in
    let runs = flat_map (λ es. es) found.runs in
    find-both key (active ++ frozen) runs
    ∙ ap (λ x. or_else x (find key_cmp key runs)) (find-both key active frozen)
    ∙ or_else-assoc (find key_cmp key active) (find key_cmp key frozen) (find key_cmp key runs)
    ∙ (λ i. or_else (sym (find-firsts key active) i) (or_else (sym (find-firsts key frozen) i) (find key_cmp key runs)))

-- ---- counts

below_read : (shape : Shape) (blocks : List ℕ) (at : ℕ → Page) (k : Key) (es : List (Key × Place)) (vs : List (Key × List ℕ))
    → Reads shape blocks at es vs → T (below_all key_cmp k es) → T (below_all key_cmp k vs)
below_read shape blocks at k [] [] reads h = tt
below_read shape blocks at k (e ∷ es) (v ∷ vs) reads h =
    both (is_lt (key_cmp k v.0)) (below_all key_cmp k vs) (subst (λ x. T (is_lt (key_cmp k x))) (sym reads.0.0) (left_part (is_lt (key_cmp k e.0)) (below_all key_cmp k es) h))
    (below_read shape blocks at k es vs reads.1 (right_part (is_lt (key_cmp k e.0)) (below_all key_cmp k es) h))
below_read shape blocks at k es vs reads h = absurd reads

pub sorted_read : (shape : Shape) (blocks : List ℕ) (at : ℕ → Page) (es : List (Key × Place)) (vs : List (Key × List ℕ))
    → Reads shape blocks at es vs → T (is_sorted key_cmp es) → T (is_sorted key_cmp vs)
sorted_read shape blocks at [] [] reads h = tt
sorted_read shape blocks at (e ∷ es) (v ∷ vs) reads h =
    both (below_all key_cmp v.0 vs) (is_sorted key_cmp vs)
    (subst (λ x. T (below_all key_cmp x vs)) (sym reads.0.0) (below_read shape blocks at e.0 es vs reads.1 (left_part (below_all key_cmp e.0 es) (is_sorted key_cmp es) h)))
    (sorted_read shape blocks at es vs reads.1 (right_part (below_all key_cmp e.0 es) (is_sorted key_cmp es) h))
sorted_read shape blocks at es vs reads h = absurd reads

keys_read : (shape : Shape) (blocks : List ℕ) (at : ℕ → Page) (es : List (Key × Place)) (vs : List (Key × List ℕ)) → Reads shape blocks at es vs → map (λ v. v.0) vs ≡ map (λ e. e.0) es
keys_read shape blocks at [] [] reads = refl
keys_read shape blocks at (e ∷ es) (v ∷ vs) reads = λ i. reads.0.0 i ∷ keys_read shape blocks at es vs reads.1 i
keys_read shape blocks at es vs reads = absurd reads

-- the entries of the map of a rising list are the list
pub entries-rising : (vs : List (Key × List ℕ)) → T (is_sorted key_cmp vs) → entries (from_entries {R = key_cmp} vs) ≡ vs
entries-rising [] h = none_of_empty
entries-rising (v ∷ vs) h =
    entries-insert key_total (from_entries vs) v.0 v.1
    ∙ ap (put key_cmp v.0 v.1) (entries-rising vs (right_part (below_all key_cmp v.0 vs) (is_sorted key_cmp vs) h))
    ∙ put-below v.0 v.1 vs (left_part (below_all key_cmp v.0 vs) (is_sorted key_cmp vs) h)

pub counts : Counts
counts shape flash pending top found m is_shape is_flash under =
    let at = page_at flash in
    let values = values_under shape flash pending top.1 found m under.is_map in
    let es = places found pending in
    let vs = values.values in
    let read = (values_sound shape (named top.1) at (root_limits shape top.1) es vs (nothing_fits shape (named top.1)) values.read).read in
    let rising = placed_sorted (counting found pending) (firsts_sorted (entries_in_order found pending)) in
    let keys = keys_read shape (named top.1) at es vs read in
    let all : entries m ≡ vs = ap (λ (x : Map). entries x) (sym values.whole_map) ∙ entries-rising vs (sorted_read shape (named top.1) at es vs read rising) in
    let positive : 0 < shape.page_bytes = let least = is_shape.page_least in omega (arith, least) in
    record {
      live_is = ap (pages_in shape) all ∙ sym (live-pages shape at (λ k bytes stands. (is_flash.full k bytes stands).0) positive (named top.1) es vs read);
      len_is = len-entries m ∙ ap length all ∙ sym (length-map vs (λ v. v.0)) ∙ ap length keys ∙ length-map es (λ e. e.0);
      keys_are = ap (map (λ v. v.0)) all ∙ keys;
      rising = rising;
    }
