-- What each namespace uses, by its part of the map.
use Rattle.std.proofs.Common.{◌≡◌, ℕ, ◌+◌, ◌<◌, true, false, cond, if◌then◌else◌, ◌==◌, List, [], ◌∷◌, length, refl, sym, ap, subst, ◌∙◌, arith}
use Rattle.std.{specs.FinMap.entries, specs.FinMap.len, specs.FinMap.len-entries, specs.FinMap.Entries.where_key}
use Rattle.pk_base.{specs.Key.Key, specs.Key.key_cmp, specs.Key.space_of, specs.Shape.Shape, specs.Shape.IsShape, specs.Shape.charge, specs.Entry.Entry, specs.Entry.Place}
use Rattle.pk_base.{specs.Page.Page, specs.Page.Flash, specs.Page.IsFlash, specs.Page.page_at, specs.Page.whole, specs.Map.Map, specs.Map.live, specs.Map.pages_in, proofs.KeyLemmas.firsts_sorted}
use Rattle.pk_rootfmt.specs.Root.{Root, named}
use Rattle.pk_space.specs.Uses.{Use, IsSpace, space_live, space_keys}
use Rattle.pk_model.{specs.Found.Found, specs.Found.entries_in_order, specs.RootLimits.root_limits, specs.Spaces.in_space, specs.Values.pages_of_space, proofs.HeldMap.nothing_fits}
use Rattle.pk_model.{proofs.Live.length-value_at, proofs.Merges.placed_sorted, proofs.SpaceLemmas.entries_in, proofs.ValueSets.values_sound, proofs.ValueSets.Reads}
use Rattle.pk_law_steps.{specs.Under.IsUnder, specs.Under.counting, specs.Under.places, proofs.Counting.entries-rising, proofs.Counting.sorted_read, proofs.Untouched.values_under}
use Rattle.pk_scan.specs.Used.{keys_of_space, IsUseOf}

-- the entries of a namespace
abbrev of_space : ℕ → List (Key × List ℕ) → List (Key × List ℕ)
of_space space vs = where_key key_cmp (λ k. space_of k == space) vs

module _ (shape : Shape) (at : ℕ → Page) (full : (k : ℕ) (bytes : List ℕ) → at k ≡ whole bytes → length bytes ≡ shape.page_bytes) (positive : 0 < shape.page_bytes) (blocks : List ℕ) (space : ℕ) where
  pages_read : (es : List (Key × Place)) (vs : List (Key × List ℕ)) → Reads shape blocks at es vs → pages_of_space shape space es ≡ pages_in shape (of_space space vs)
  pages_read [] [] reads = refl
  pages_read (e ∷ es) (v ∷ vs) reads =
      let rest = pages_read es vs reads.1 in
      let size : charge shape (length v.1) ≡ charge shape e.1.len = ap (charge shape) (length-value_at shape at full positive e.0 e.1 v.1 reads.0.1) in
      subst (λ (k : Key). pages_of_space shape space (e ∷ es) ≡ pages_in shape (cond (space_of k == space) (v ∷ of_space space vs) (of_space space vs))) (sym reads.0.0)
      (elim (space_of e.0 == space) as (λ b. (if b then charge shape e.1.len else 0) + pages_of_space shape space es ≡ pages_in shape (cond b (v ∷ of_space space vs) (of_space space vs))) [
        | true ↦ omega (arith, rest, size)
        | false ↦ omega (arith, rest)
      ])
  pages_read es vs reads = absurd reads

  keys_read : (es : List (Key × Place)) (vs : List (Key × List ℕ)) → Reads shape blocks at es vs → keys_of_space space es ≡ length (of_space space vs)
  keys_read [] [] reads = refl
  keys_read (e ∷ es) (v ∷ vs) reads =
      let rest = keys_read es vs reads.1 in
      subst (λ (k : Key). keys_of_space space (e ∷ es) ≡ length (cond (space_of k == space) (v ∷ of_space space vs) (of_space space vs))) (sym reads.0.0)
      (elim (space_of e.0 == space) as (λ b. (if b then 1 else 0) + keys_of_space space es ≡ length (cond b (v ∷ of_space space vs) (of_space space vs))) [
        | true ↦ omega (arith, rest)
        | false ↦ omega (arith, rest)
      ])
  keys_read es vs reads = absurd reads

-- the pages and the keys of a namespace, under the newest root, are those of its part of the map
pub part_used : (shape : Shape) (flash : Flash) (pending : List Entry) (top : ℕ × Root) (found : Found) (m : Map) → IsShape shape → IsFlash shape flash → IsUnder shape flash pending top found m
    → (space : ℕ) → (pages_of_space shape space (places found pending) ≡ live shape (in_space space m)) × (keys_of_space space (places found pending) ≡ len (in_space space m))
part_used shape flash pending top found m is_shape is_flash under space =
    let at = page_at flash in
    let values = values_under shape flash pending top.1 found m under.is_map in
    let es = places found pending in
    let vs = values.values in
    let read = (values_sound shape (named top.1) at (root_limits shape top.1) es vs (nothing_fits shape (named top.1)) values.read).read in
    let rising = placed_sorted (counting found pending) (firsts_sorted (entries_in_order found pending)) in
    let all : entries m ≡ vs = ap (λ (x : Map). entries x) (sym values.whole_map) ∙ entries-rising vs (sorted_read shape (named top.1) at es vs read rising) in
    let part : entries (in_space space m) ≡ of_space space vs = entries_in space m ∙ ap (of_space space) all in
    let positive : 0 < shape.page_bytes = let least = is_shape.page_least in omega (arith, least) in
    let full : (k : ℕ) (bytes : List ℕ) → at k ≡ whole bytes → length bytes ≡ shape.page_bytes = λ k bytes is. (is_flash.full k bytes is).0 in (
      pages_read shape at full positive (named top.1) space es vs read ∙ sym (ap (pages_in shape) part),
      keys_read shape at full positive (named top.1) space es vs read ∙ sym (len-entries (in_space space m) ∙ ap length part),
    )

-- what is counted of a namespace is that of its part of the map
pub use_of_part : (shape : Shape) (flash : Flash) (pending : List Entry) (top : ℕ × Root) (found : Found) (m : Map) (u : Use) → IsShape shape → IsFlash shape flash → IsUnder shape flash pending top found m
    → IsUseOf shape u (places found pending) → (space : ℕ) → IsSpace space → (space_live u space ≡ live shape (in_space space m)) × (space_keys u space ≡ len (in_space space m))
use_of_part shape flash pending top found m u is_shape is_flash under uses space is =
    let part = part_used shape flash pending top found m is_shape is_flash under space in
    (uses.live space is ∙ part.0, uses.keys space is ∙ part.1)

-- and it is counted alike wherever the values of the map are
pub use_elsewhere : (shape : Shape) (old new : Flash) (top : ℕ × Root) (found then_found : Found) (m : Map) (u : Use) → IsShape shape → IsFlash shape old → IsFlash shape new
    → IsUnder shape old [] top found m → IsUnder shape new [] top then_found m → IsUseOf shape u (places found []) → IsUseOf shape u (places then_found [])
use_elsewhere shape old new top found then_found m u is_shape is_old is_new was now uses = record {
  live_room = uses.live_room;
  keys_room = uses.keys_room;
  live = λ space is. uses.live space is ∙ (part_used shape old [] top found m is_shape is_old was space).0 ∙ sym (part_used shape new [] top then_found m is_shape is_new now space).0;
  keys = λ space is. uses.keys space is ∙ (part_used shape old [] top found m is_shape is_old was space).1 ∙ sym (part_used shape new [] top then_found m is_shape is_new now space).1;
}
