-- Reading the keys of a List one after another.
use Rattle.std.proofs.Common.{◌≡◌, ℕ, zero, suc, ◌+◌, ◌-◌, ◌*◌, ◌≤◌, ◌<◌, min, if◌then◌else◌, List, [], ◌∷◌, ◌++◌, length, drop, true, false, Some, None, refl, sym, ap, ◌∙◌, arith, append_assoc}
use Rattle.std.{proofs.lemmas.List.append-nil, proofs.lemmas.List.drop-drop, proofs.lemmas.List.drop_all, specs.Ordering.is_lt}
use Rattle.pk_base.{specs.Key.Key, specs.Key.IsKey, specs.Key.key_cmp, specs.Fields.u32_at}
use Rattle.pk_model.specs.Answer.{listed}
use Rattle.pk_host.{specs.declared.sizes.TheConstants.MOST_KEYS, specs.Listing.first_key, specs.Listing.and_then, specs.Listing.keys_in, specs.Listing.keys_of, specs.Listing.above}

-- the keys so far, and those that are spelled from this place on
pub record IsReading (bytes from : List ℕ) (count i at : ℕ) (each : List Key) : Type 0 where
  pub count_is : count ≡ min (u32_at bytes 0) MOST_KEYS
  pub place : at ≤ 4 + 21 * i
  pub most : length each ≤ i
  pub rest : each ++ above from (keys_in (count - i) (drop at bytes)) ≡ above from (keys_of bytes)

-- each key is above none
pub above_none : (k : Key) → IsKey k → true ≡ is_lt (key_cmp [] k)
above_none [] h = absurd (let some = h.some in omega (arith, some))
above_none (n ∷ bytes) h = refl

above-cons : (from k : Key) (ks : List Key) → above from (k ∷ ks) ≡ above from (k ∷ []) ++ above from ks
above-cons from k ks = elim (is_lt (key_cmp from k)) as (λ b. (if b then k ∷ above from ks else above from ks) ≡ (if b then k ∷ [] else []) ++ above from ks) [ true ↦ refl | false ↦ refl ]

-- no key is spelled by no bytes, nor by fewer than those of the count
keys_in_none : (n : ℕ) → keys_in n [] ≡ []
keys_in_none zero = refl
keys_in_none (suc n) = refl

pub too_short : (bytes from : List ℕ) → length bytes < 4 → above from (keys_of bytes) ≡ []
too_short bytes from short =
    ap (λ (xs : List ℕ). above from (keys_in (min (u32_at bytes 0) MOST_KEYS) xs)) (drop_all 4 bytes (omega (arith, short))) ∙ ap (above from) (keys_in_none (min (u32_at bytes 0) MOST_KEYS))

pub begins : (bytes from : List ℕ) (count : ℕ) → count ≡ min (u32_at bytes 0) MOST_KEYS → IsReading bytes from count 0 4 []
begins bytes from count e =
    let whole : count - 0 ≡ min (u32_at bytes 0) MOST_KEYS = omega (arith, e) in
    record { count_is = e; place = omega arith; most = omega arith; rest = ap (λ n. above from (keys_in n (drop 4 bytes))) whole }

next_key : (n : ℕ) (bytes : List ℕ) (k : Key) → first_key bytes ≡ Some k → keys_in (suc n) bytes ≡ k ∷ keys_in n (drop (length (listed k)) bytes)
next_key n bytes k e = ap (λ o. and_then o (λ key. keys_in n (drop (length (listed key)) bytes))) e

no_key : (n : ℕ) (bytes : List ℕ) → first_key bytes ≡ None → keys_in n bytes ≡ []
no_key zero bytes e = refl
no_key (suc n) bytes e = ap (λ o. and_then o (λ key. keys_in n (drop (length (listed key)) bytes))) e

pub goes_on : (bytes from : List ℕ) (count i at size : ℕ) (each each' : List Key) (k : Key) → i < count → IsReading bytes from count i at each
    → first_key (drop at bytes) ≡ Some k → size ≡ length (listed k) → size ≤ 21 → each' ≡ each ++ above from (k ∷ []) → length each' ≤ length each + 1
    → IsReading bytes from count (i + 1) (at + size) each'
goes_on bytes from count i at size each each' k less h found is small offered grown =
    let left : count - i ≡ suc (count - (i + 1)) = omega (arith, less) in
    let behind : drop (length (listed k)) (drop at bytes) ≡ drop (at + size) bytes = drop-drop (length (listed k)) at bytes ∙ ap (λ n. drop (at + n) bytes) (sym is) in
    let ks : keys_in (count - i) (drop at bytes) ≡ k ∷ keys_in (count - (i + 1)) (drop (at + size) bytes) =
    ap (λ n. keys_in n (drop at bytes)) left ∙ next_key (count - (i + 1)) (drop at bytes) k found ∙ ap (λ (xs : List ℕ). k ∷ keys_in (count - (i + 1)) xs) behind in
    record {
      count_is = h.count_is;
      place = omega (arith, h.place, small);
      most = omega (arith, h.most, grown);
      rest = ap (λ (xs : List Key). xs ++ above from (keys_in (count - (i + 1)) (drop (at + size) bytes))) offered ∙ append_assoc each (above from (k ∷ [])) _
          ∙ ap (λ (xs : List Key). each ++ xs) (sym (above-cons from k _)) ∙ ap (λ (xs : List Key). each ++ above from xs) (sym ks) ∙ h.rest;
    }

pub stops : (bytes from : List ℕ) (count i at : ℕ) (each : List Key) → IsReading bytes from count i at each → first_key (drop at bytes) ≡ None → each ≡ above from (keys_of bytes)
stops bytes from count i at each h none = sym (append-nil each) ∙ ap (λ (xs : List Key). each ++ above from xs) (sym (no_key (count - i) (drop at bytes) none)) ∙ h.rest

pub ends : (bytes from : List ℕ) (count i at : ℕ) (each : List Key) → count ≤ i → IsReading bytes from count i at each → each ≡ above from (keys_of bytes)
ends bytes from count i at each past h =
    let none : count - i ≡ 0 = omega (arith, past) in
    sym (append-nil each) ∙ ap (λ n. each ++ above from (keys_in n (drop at bytes))) (sym none) ∙ h.rest
