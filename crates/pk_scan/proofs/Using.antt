-- What is used of each namespace, as values are taken.
use Rattle.std.proofs.Common.{◌≡◌, ℕ, zero, suc, ◌+◌, ◌-◌, ◌<◌, ◌≤◌, Bool, true, false, List, [], ◌∷◌, ◌++◌, length, slice_index, ◌==◌, if◌then◌else◌, refl, sym, ap, subst, ◌∙◌, arith}
use Rattle.std.proofs.Common.{eqb→eq, eq-eqb, nat_le, ◌&&◌, get_or-set_same, get_or-set_other, length-set}
use Rattle.std.{specs.Prelude.slice_set, proofs.lemmas.List.get_or-replicate}
use Rattle.pk_base.{specs.declared.sizes.TheConstants.MOST_SPACES, specs.Key.Key, specs.Key.space_of, specs.Shape.Shape, specs.Shape.charge, specs.Entry.Place, proofs.Logic.of_true}
use Rattle.pk_space.specs.Uses.{Use, nothing_used, IsSpace, space_live, space_keys, value_count, used_after}
use Rattle.pk_model.{specs.Values.pages_of_space, specs.Values.fits, specs.Values.all_pages, specs.Values.fits_after, proofs.ValueSets.pages_of_space-append, specs.Spaces.limit_of}
use Rattle.pk_scan.specs.Used.{keys_of_space, IsUseOf}
use Rattle.pk_segfmt.specs.Value.{value_pages}

-- before the first value
pub use_of_none : (shape : Shape) (u : Use) → u ≡ nothing_used → IsUseOf shape u []
use_of_none shape u is = subst (λ (v : Use). IsUseOf shape v []) (sym is) (record {
  live_room = refl;
  keys_room = refl;
  live = λ space in_range. get_or-replicate MOST_SPACES (space - 1) 0 0 (omega (arith, in_range));
  keys = λ space in_range. get_or-replicate MOST_SPACES (space - 1) 0 0 (omega (arith, in_range));
})

keys_append : (space : ℕ) (xs ys : List (Key × Place)) → keys_of_space space (xs ++ ys) ≡ keys_of_space space xs + keys_of_space space ys
keys_append space [] ys = omega arith
keys_append space (x ∷ xs) ys = let rest = keys_append space xs ys in omega (arith, rest)

pub few_keys : (space : ℕ) (es : List (Key × Place)) → keys_of_space space es ≤ length es
few_keys space [] = omega arith
few_keys space (e ∷ es) =
    let rest = few_keys space es in
    elim (space_of e.0 == space) as (λ b. (if b then 1 else 0) + keys_of_space space es ≤ suc (length es)) [ true ↦ omega (arith, rest) | false ↦ omega (arith, rest) ]

-- ---- one more value

one_value : (count : ℕ) → 0 < count → value_count count ≡ 1
one_value zero some = absurd (omega (arith, some))
one_value (suc n) some = refl

module _ (shape : Shape) (u : Use) (es : List (Key × Place)) (key : Key) (place : Place) (own : IsSpace (space_of key)) (some : 0 < charge shape place.len) (uses : IsUseOf shape u es) where
  abbrev count : ℕ
  count = charge shape place.len

  abbrev e : Key × Place
  e = (key, place)

  -- a number of each namespace, of which the key's rose
  rises : (xs : List ℕ) (more : ℕ) (former later : ℕ → ℕ) → length xs ≡ MOST_SPACES → ((space : ℕ) → IsSpace space → slice_index xs (space - 1) ≡ former space)
      → ((space : ℕ) → later space ≡ former space + (if space_of key == space then more else 0))
      → (space : ℕ) → IsSpace space → slice_index (slice_set xs (space_of key - 1) (slice_index xs (space_of key - 1) - 0 + more)) (space - 1) ≡ later space
  rises xs more former later room was grows space is =
      let least = is.0 in
      let own_least = own.0 in
      let own_most = own.1 in
      let now = grows space in
      elim (space_of key == space) as (λ b. (space_of key == space) ≡ b → slice_index (slice_set xs (space_of key - 1) (slice_index xs (space_of key - 1) - 0 + more)) (space - 1) ≡ later space) [
        | true ↦ λ t.
            let same : space_of key ≡ space = eqb→eq (space_of key) space (of_true _ t) in
            let place_same : space_of key - 1 ≡ space - 1 = omega (arith, same) in
            let here = get_or-set_same xs (space_of key - 1) (slice_index xs (space_of key - 1) - 0 + more) 0 (omega (arith, room, own_least, own_most)) in
            let before = was (space_of key) own in
            let former_same : former (space_of key) ≡ former space = ap former same in
            let more_here : (if space_of key == space then more else 0) ≡ more = rw t refl in
            ap (slice_index (slice_set xs (space_of key - 1) (slice_index xs (space_of key - 1) - 0 + more))) (sym place_same) ∙ here ∙ omega (arith, before, former_same, now, more_here)
        | false ↦ λ t.
            let other : space - 1 ≡ space_of key - 1 → ⊥ = λ same. let equal : space_of key ≡ space = omega (arith, same, least, own_least) in let clash : true ≡ false = sym (eq-eqb (space_of key) space equal) ∙ t in cc in
            let none : (if space_of key == space then more else 0) ≡ 0 = rw t refl in
            let before = was space is in
            get_or-set_other xs (space_of key - 1) (space - 1) (slice_index xs (space_of key - 1) - 0 + more) 0 other ∙ omega (arith, before, now, none)
      ] refl

  -- the next value is counted
  pub use_of_more : (v : Use) → v ≡ used_after u (space_of key) 0 count → IsUseOf shape v (es ++ e ∷ [])
  use_of_more v is = subst (λ (w : Use). IsUseOf shape w (es ++ e ∷ [])) (sym is) (record {
    live_room = length-set u.live (space_of key - 1) (space_live u (space_of key) - 0 + count) ∙ uses.live_room;
    keys_room = length-set u.keys (space_of key - 1) (space_keys u (space_of key) - value_count 0 + value_count count) ∙ uses.keys_room;
    live = rises u.live count (λ space. pages_of_space shape space es) (λ space. pages_of_space shape space (es ++ e ∷ [])) uses.live_room uses.live
        (λ space. let sum = pages_of_space-append shape space es (e ∷ []) in omega (arith, sum));
    keys = λ space in_range.
        subst (λ n. slice_index (slice_set u.keys (space_of key - 1) (space_keys u (space_of key) - 0 + n)) (space - 1) ≡ keys_of_space space (es ++ e ∷ [])) (sym (one_value count some))
        (rises u.keys 1 (λ space. keys_of_space space es) (λ space. keys_of_space space (es ++ e ∷ [])) uses.keys_room uses.keys
        (λ space. let sum = keys_append space es (e ∷ []) in omega (arith, sum)) space in_range);
  })

-- ---- whether the next value may be taken

module _ (shape : Shape) (limits named : List ℕ) (taken : List (Key × Place)) (key : Key) (place : Place) where
  abbrev more : List (Key × Place)
  more = taken ++ (key, place) ∷ []

  pub not_fitting : fits shape named (all_pages shape taken ++ value_pages shape place) ≡ false → false ≡ fits_after shape limits named taken (key, place)
  not_fitting fit = sym (ap (λ b. b && nat_le (pages_of_space shape (space_of key) more) (limit_of limits (space_of key))) fit)

  pages_more : pages_of_space shape (space_of key) more ≡ pages_of_space shape (space_of key) taken + charge shape place.len
  pages_more =
      let sum = pages_of_space-append shape (space_of key) taken ((key, place) ∷ []) in
      let own : pages_of_space shape (space_of key) ((key, place) ∷ []) ≡ charge shape place.len + 0 = rw (eq-eqb (space_of key) (space_of key) refl) refl in
      omega (arith, sum, own)

  pub fitting : fits shape named (all_pages shape taken ++ value_pages shape place) ≡ true → (u : Use) → IsSpace (space_of key) → IsUseOf shape u taken
      → (within : Bool) → within ≡ nat_le (space_live u (space_of key) + charge shape place.len) (limit_of limits (space_of key)) → within ≡ fits_after shape limits named taken (key, place)
  fitting fit u own uses within told =
      let live = uses.live (space_of key) own in
      let sum = pages_more in
      let same : space_live u (space_of key) + charge shape place.len ≡ pages_of_space shape (space_of key) more = omega (arith, live, sum) in
      told ∙ ap (λ n. nat_le n (limit_of limits (space_of key))) same
      ∙ sym (ap (λ b. b && nat_le (pages_of_space shape (space_of key) more) (limit_of limits (space_of key))) fit)

pub value_count_most : (count : ℕ) → value_count count ≤ 1
value_count_most zero = omega arith
value_count_most (suc n) = omega arith
