-- A table of homes: what a home says of the entries with a hash, and what a note leaves.
use Rattle.std.proofs.Common.{◌≡◌, ◌≢◌, ℕ, zero, suc, ◌+◌, ◌<◌, ◌≤◌, List, [], length, get_or, set, replicate, refl, ap, sym, ◌∙◌, arith, ◌⊎◌, inl, inr, subst, length-set}
use Rattle.std.proofs.lemmas.List.{get_or-set_same, get_or-set_other}
use Rattle.std.proofs.lemmas.Bool.{cases_lt}
use Rattle.pk_homes.specs.declared.table.TheConstants.{SHARED}
use Rattle.pk_homes.specs.Homes.{home_of, IsAtHome, HasHomes, IsAdded}

-- an entry with a hash whose home is not shared has the number that is there
pub alone : (hashes : ℕ → ℕ) (n : ℕ) (t : List ℕ) (h i : ℕ) → HasHomes hashes n t → i < n → hashes i ≡ h → get_or t (home_of h (length t)) 0 < SHARED
    → get_or t (home_of h (length t)) 0 ≡ suc i
alone hashes n t h i homes less is single =
    elim (subst (λ (x : ℕ). IsAtHome t (home_of x (length t)) i) is (homes.noted i less)) [
      | inl here ↦ here
      | inr many ↦ absurd (omega arith)
    ]

-- ---- what a write leaves

-- the number of an entry is written into an empty home
pub wrote_first : (t : List ℕ) (p n : ℕ) → p < length t → get_or t p 0 ≡ 0 → IsAdded t (set t p (suc n)) p n
wrote_first t p n less empty = record {
  size = length-set t p (suc n);
  here = inl (empty, get_or-set_same t p (suc n) 0 less);
  others = λ j other. get_or-set_other t p j (suc n) 0 other;
}

-- and a greater one into a home that is shared from then on
pub wrote_shared : (t : List ℕ) (p n m : ℕ) → p < length t → SHARED ≤ m → IsAdded t (set t p m) p n
wrote_shared t p n m less many = record {
  size = length-set t p m;
  here = inr (omega (arith, get_or-set_same t p m 0 less));
  others = λ j other. get_or-set_other t p j m 0 other;
}

kept_elsewhere : (t u : List ℕ) (p i : ℕ) → get_or u p 0 ≡ get_or t p 0 → IsAtHome t p i → IsAtHome u p i
kept_elsewhere t u p i e (inl here) = inl (e ∙ here)
kept_elsewhere t u p i e (inr many) = inr (omega (arith, e, many))

kept_here : (t u : List ℕ) (p n i : ℕ) → ((get_or t p 0 ≡ 0) × (get_or u p 0 ≡ suc n)) ⊎ (SHARED ≤ get_or u p 0) → IsAtHome t p i → IsAtHome u p i
kept_here t u p n i (inr many) was = inr many
kept_here t u p n i (inl new) (inl here) = absurd (omega (arith, new.0, here))
kept_here t u p n i (inl new) (inr many) = absurd (omega (arith, new.0, many))

-- what was noted still is
pub still_noted : (t u : List ℕ) (p at n i : ℕ) → IsAdded t u at n → IsAtHome t p i → IsAtHome u p i
still_noted t u p at n i added was =
    elim (cases_lt p at) [
      | inl less ↦ kept_elsewhere t u p i (added.others p (λ e. omega arith)) was
      | inr le ↦ elim (cases_lt at p) [
        | inl less ↦ kept_elsewhere t u p i (added.others p (λ e. omega arith)) was
        | inr ge ↦
            let same : at ≡ p = omega arith in
            kept_here t u p n i (subst (λ (q : ℕ). ((get_or t q 0 ≡ 0) × (get_or u q 0 ≡ suc n)) ⊎ (SHARED ≤ get_or u q 0)) same added.here) was
      ]
    ]

new_home : (t u : List ℕ) (p n : ℕ) → ((get_or t p 0 ≡ 0) × (get_or u p 0 ≡ suc n)) ⊎ (SHARED ≤ get_or u p 0) → IsAtHome u p n
new_home t u p n (inl new) = inl new.1
new_home t u p n (inr many) = inr many

-- the new entry is noted
pub now_noted : (t u : List ℕ) (at n : ℕ) → IsAdded t u at n → IsAtHome u at n
now_noted t u at n added = new_home t u at n added.here

-- one entry more is noted
pub noted_more : (hashes : ℕ → ℕ) (n h : ℕ) (t u : List ℕ) → HasHomes hashes n t → hashes n ≡ h → IsAdded t u (home_of h (length t)) n → HasHomes hashes (suc n) u
noted_more hashes n h t u homes is added = record {
  noted = λ i less.
      elim (cases_lt i n) [
        | inl old ↦ rw added.size (still_noted t u (home_of (hashes i) (length t)) (home_of h (length t)) n i added (homes.noted i old))
        | inr new ↦
            let last : n ≡ i = omega arith in
            subst (λ (m : ℕ). IsAtHome u (home_of (hashes m) (length u)) m) last (rw (added.size, is) (now_noted t u (home_of h (length t)) n added))
      ];
}

-- if the hashes are the same, so are the homes
pub same_hashes : (f g : ℕ → ℕ) (n : ℕ) (t : List ℕ) → ((i : ℕ) → i < n → g i ≡ f i) → HasHomes f n t → HasHomes g n t
same_hashes f g n t same homes = record { noted = λ i h. subst (λ (x : ℕ). IsAtHome t (home_of x (length t)) i) (sym (same i h)) (homes.noted i h) }

pub no_homes : (hashes : ℕ → ℕ) (t : List ℕ) → HasHomes hashes 0 t
no_homes hashes t = record { noted = λ i h. absurd (omega arith) }
