-- What is listed when keys are offered one after another.
use Rattle.std.proofs.Common.{◌≡◌, ℕ, ◌+◌, ◌-◌, List, [], ◌∷◌, ◌++◌, length, filter, flat_map, true, false, not, nat_le, if◌then◌else◌, refl, sym, ap, ◌∙◌, arith}
use Rattle.std.{proofs.lemmas.List.append_assoc, proofs.lemmas.List.append-nil, specs.Ordering.is_lt}
use Rattle.pk_base.{specs.Key.Key, specs.Key.key_cmp, specs.Fields.u32}
use Rattle.pk_model.{specs.Answer.listed, specs.Answer.fitting, specs.Answer.list_bytes, specs.Listing.Listing, specs.Listing.offered, specs.Listing.offered_all}

-- the keys that are not below this one
abbrev wanted : Key → List Key → List Key
wanted from ks = filter (λ k. not (is_lt (key_cmp k from))) ks

abbrev room_left : List ℕ → ℕ → ℕ → Listing
room_left bytes count left = record { bytes = bytes; count = count; left = left; full = false }

abbrev no_room : List ℕ → ℕ → ℕ → Listing
no_room bytes count left = record { bytes = bytes; count = count; left = left; full = true }

-- nothing follows a key that did not fit
offered_all-full : (from : Key) (bytes : List ℕ) (count left : ℕ) (ks : List Key) → offered_all from (no_room bytes count left) ks ≡ no_room bytes count left
offered_all-full from bytes count left [] = refl
offered_all-full from bytes count left (k ∷ ks) =
    elim (is_lt (key_cmp k from)) as (λ b. offered_all from (if b then no_room bytes count left else no_room bytes count left) ks ≡ no_room bytes count left) [
      | true ↦ offered_all-full from bytes count left ks
      | false ↦ offered_all-full from bytes count left ks
    ]

-- the keys of a list, after these bytes and this many keys
abbrev Lists : List ℕ → ℕ → List Key → Listing → Type 0
Lists bytes count ks l = (l.bytes ≡ bytes ++ flat_map listed ks) × (l.count ≡ count + length ks)

-- the keys that are listed are the longest prefix of those wanted that fits
pub lists : (from : Key) (bytes : List ℕ) (count left : ℕ) (ks : List Key) → Lists bytes count (fitting left (wanted from ks)) (offered_all from (room_left bytes count left) ks)
lists from bytes count left [] = (sym (append-nil bytes), omega arith)
lists from bytes count left (k ∷ ks) =
    let size : ℕ = length (listed k) in
    elim (is_lt (key_cmp k from)) as (λ b. Lists bytes count (fitting left (if not b then k ∷ wanted from ks else wanted from ks))
    (offered_all from (if b then room_left bytes count left else offered (room_left bytes count left) k) ks)) [
      | true ↦ lists from bytes count left ks
      | false ↦ elim (nat_le size left) as (λ b. Lists bytes count (if b then k ∷ fitting (left - size) (wanted from ks) else [])
          (offered_all from (if b then room_left (bytes ++ listed k) (count + 1) (left - size) else no_room bytes count left) ks)) [
            | true ↦ (let more = lists from (bytes ++ listed k) (count + 1) (left - size) ks in (more.0 ∙ append_assoc bytes (listed k) _, more.1 ∙ omega arith))
            | false ↦ (let stays = offered_all-full from bytes count left ks in (ap (λ l. l.bytes) stays ∙ sym (append-nil bytes), ap (λ l. l.count) stays ∙ omega arith))
          ]
    ]

-- how many keys were listed, and they
pub listed_answer : (from : Key) (left : ℕ) (ks : List Key) (l : Listing) → l ≡ offered_all from (room_left [] 0 left) ks → u32 l.count ++ l.bytes ≡ list_bytes (fitting left (wanted from ks))
listed_answer from left ks l e =
    let all = lists from [] 0 left ks in
    let count : 0 + length (fitting left (wanted from ks)) ≡ length (fitting left (wanted from ks)) = omega arith in
    ap (λ (x : Listing). u32 x.count ++ x.bytes) e ∙ (λ i. u32 ((all.1 ∙ count) i) ++ all.0 i)
