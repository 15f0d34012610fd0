-- The heads of values that do not overlap: with a value less, with one more, and with one at another place.
use Rattle.std.proofs.Common.{◌≡◌, ◌≢◌, ℕ, ◌+◌, true, false, T, List, Some, None, refl, sym, ap, subst, ◌∙◌, arith, map, ◌==◌}
use Rattle.std.{specs.List.range_with_len, specs.List.AllByRecursion, specs.FinMap.Entries.put, specs.FinMap.Entries.find, specs.FinMap.Entries.is_sorted, proofs.Math.ListN.set}
use Rattle.std.proofs.lemmas.Bool.{eq-eqb, ne_eqb}
use Rattle.pk_base.{specs.Key.Key, specs.Key.key_cmp, specs.Shape.Shape, specs.Shape.IsShape, specs.Shape.page_count, specs.Shape.charge, specs.Entry.Place, specs.EntryChecks.IsPlace}
use Rattle.pk_model.specs.Laws.{IsPageOf}
use Rattle.pk_law_steps.specs.Under.{IsValuePage}
use Rattle.pk_live.{specs.Lives.head_of, proofs.Standing.map_set}
use Rattle.pk_values.specs.Placed.{AreApart, without}
use Rattle.pk_values.proofs.Lists.{put_without, find_gone, page_without, apart_put, apart_without, places_put, places_without, found_place, first_page, head_put, head_without, head_none, head_found}

-- Values that do not overlap, each within a block, and their heads.
pub record AreLive (shape : Shape) (heads : List ℕ) (es : List (Key × Place)) : Type 0 where
  pub places : AllByRecursion (λ e. IsPlace shape e.1) es
  pub apart : AreApart shape es
  pub heads_are : heads ≡ map (head_of shape es) (range_with_len 0 (page_count shape))

module _ (shape : Shape) (is_shape : IsShape shape) (heads : List ℕ) (es : List (Key × Place)) (live : AreLive shape heads es) where
  -- a key less
  pub live_removed : (key : Key) (place : Place) → T (is_sorted key_cmp es) → find key_cmp key es ≡ Some place → AreLive shape (set heads place.page 0) (without key es)
  live_removed key place rising found = record {
    places = places_without shape key es live.places;
    apart = apart_without shape key es live.apart;
    heads_are = ap (λ hs. set hs place.page 0) live.heads_are
        ∙ map_set (head_of shape es) (head_of shape (without key es)) (page_count shape) place.page 0 0 (found_place shape key place es live.places found).exists here other;
  }
    where
      here : head_of shape (without key es) place.page ≡ 0
      here =
          let all = head_without shape key place es place.page rising found in
          let own = head_found shape is_shape key place es live.apart found in
          let is : (place.page == place.page) ≡ true = eq-eqb place.page place.page refl in
          let all' : head_of shape es place.page ≡ head_of shape (without key es) place.page + charge shape place.len = rw is at all in
          omega (arith, all', own)

      other : (b : ℕ) → b ≢ place.page → head_of shape (without key es) b ≡ head_of shape es b
      other b ne =
          let all = head_without shape key place es b rising found in
          let is : (place.page == b) ≡ false = ne_eqb place.page b (λ same. ne (sym same)) in
          let all' : head_of shape es b ≡ head_of shape (without key es) b + 0 = rw is at all in
          omega (arith, all')

  -- a key more
  pub live_added : (key : Key) (place : Place) → find key_cmp key es ≡ None → IsPlace shape place → ((k : ℕ) → IsPageOf shape k place → IsValuePage shape es k → ⊥)
      → AreLive shape (set heads place.page (charge shape place.len)) (put key_cmp key place es)
  live_added key place none is_place free = record {
    places = places_put shape key place es live.places is_place;
    apart = apart_put shape key place es live.apart free;
    heads_are = ap (λ hs. set hs place.page (charge shape place.len)) live.heads_are
        ∙ map_set (head_of shape es) (head_of shape (put key_cmp key place es)) (page_count shape) place.page (charge shape place.len) 0 is_place.exists here other;
  }
    where
      here : head_of shape (put key_cmp key place es) place.page ≡ charge shape place.len
      here =
          let all = head_put shape key place es place.page none in
          let before = head_none shape is_shape es place.page (free place.page (first_page shape is_shape place)) in
          let is : (place.page == place.page) ≡ true = eq-eqb place.page place.page refl in
          let all' : head_of shape (put key_cmp key place es) place.page ≡ head_of shape es place.page + charge shape place.len = rw is at all in
          omega (arith, all', before)

      other : (b : ℕ) → b ≢ place.page → head_of shape (put key_cmp key place es) b ≡ head_of shape es b
      other b ne =
          let all = head_put shape key place es b none in
          let is : (place.page == b) ≡ false = ne_eqb place.page b (λ same. ne (sym same)) in
          let all' : head_of shape (put key_cmp key place es) b ≡ head_of shape es b + 0 = rw is at all in
          omega (arith, all')

-- a key of which the value goes to another place
pub live_moved : (shape : Shape) (is_shape : IsShape shape) (heads : List ℕ) (es : List (Key × Place)) (key : Key) (old place : Place)
    → AreLive shape heads es → T (is_sorted key_cmp es) → find key_cmp key es ≡ Some old
    → IsPlace shape place → ((k : ℕ) → IsPageOf shape k place → IsValuePage shape es k → ⊥)
    → AreLive shape (set (set heads old.page 0) place.page (charge shape place.len)) (put key_cmp key place es)
live_moved shape is_shape heads es key old place live rising found is_place free =
    subst (λ (xs : List (Key × Place)). AreLive shape (set (set heads old.page 0) place.page (charge shape place.len)) xs) (put_without key place es rising)
    (live_added shape is_shape (set heads old.page 0) (without key es) (live_removed shape is_shape heads es live key old rising found) key place (find_gone key es) is_place
    (λ k here there. free k here (page_without shape key es k there)))
