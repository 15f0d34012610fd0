-- Leases of an arena: what taking, giving back and filling a frame leaves of those that somebody has.
use Rattle.std.proofs.Common.{◌≡◌, ◌≢◌, ℕ, zero, suc, ◌+◌, ◌<◌, Bool, true, false, cond, List, [], ◌∷◌, ◌++◌, length, get_or, replicate, refl, ap, sym, subst, ◌∙◌, arith, Some, inl, inr}
use Rattle.std.proofs.Common.{get_or-set_same, get_or-set_other}
use Rattle.std.{specs.Prelude.count_by, specs.Prelude.slice_get, specs.Prelude.◌==◌, proofs.Math.ListN.set, proofs.lemmas.List.Sums.sum_by-set, proofs.lemmas.List.Sums.sum_by-cons}
use Rattle.std.{proofs.lemmas.Bool.cases_eq, proofs.lemmas.Bool.Decides.eqb_tells, proofs.lemmas.Option.slice_get_within, proofs.lemmas.Option.get_or_from_slice_get}
use Rattle.pk_pin.specs.Frames.{Frames, free_frames, leased_frames, IsLeased, frame_of, leased, given, filled, times, AreLeases}
use Rattle.pk_pin.proofs.Cuts.{free-and-leased}

pub times-append : (i : ℕ) (xs ys : List ℕ) → times i (xs ++ ys) ≡ times i xs + times i ys
times-append i [] ys = omega arith
times-append i (x ∷ xs) ys = elim (x == i) as (λ b. cond b (suc (times i (xs ++ ys))) (times i (xs ++ ys)) ≡ cond b (suc (times i xs)) (times i xs) + times i ys) [
  | true ↦ omega (arith, times-append i xs ys)
  | false ↦ times-append i xs ys
]

same : (i : ℕ) → (i == i) ≡ true
same i = elim (eqb_tells i i) [
  | inl e ↦ e.0
  | inr ne ↦ absurd (ne.1 refl)
]

other : (l i : ℕ) → i ≢ l → (l == i) ≡ false
other l i ne = elim (eqb_tells l i) [
  | inl e ↦ absurd (ne (sym e.1))
  | inr apart ↦ apart.0
]

times-cons_same : (l : ℕ) (ls : List ℕ) → times l (l ∷ ls) ≡ suc (times l ls)
times-cons_same l ls = rw (same l) refl

times-cons_other : (i l : ℕ) (ls : List ℕ) → i ≢ l → times i (l ∷ ls) ≡ times i ls
times-cons_other i l ls ne = rw (other l i ne) refl

-- a frame past the end is free
past : (us : List Bool) (l : ℕ) → get_or (set us l false) l false ≡ false
past [] l = refl
past (u ∷ us) zero = refl
past (u ∷ us) (suc l) = past us l

none_used : (n i : ℕ) → get_or (replicate n false) i false ≡ false
none_used zero i = refl
none_used (suc n) zero = refl
none_used (suc n) (suc i) = none_used n i

reads : (us : List Bool) (i : ℕ) → get_or us i false ≡ true → slice_get us i ≡ Some true
reads [] i h = cc
reads (u ∷ us) zero h = ap Some h
reads (u ∷ us) (suc i) h = reads us i h

alone : (b : Bool) (x y : ℕ) → x + suc y ≡ cond b 1 0 → (b ≡ true) × (x + y ≡ 0)
alone true x y h = (refl, omega arith)
alone false x y h = absurd (omega arith)

none : (b : Bool) → cond {A = ℕ} b 1 0 ≡ 0 → b ≡ false
none true h = absurd (omega arith)
none false h = refl

none_leased : (us : List Bool) → ((i : ℕ) → cond {A = ℕ} (get_or us i false) 1 0 ≡ 0) → count_by (λ b. b) us ≡ 0
none_leased [] h = refl
none_leased (u ∷ us) h =
    let rest = none_leased us (λ i. h (suc i)) in
    let step : count_by (λ b. b) (false ∷ us) ≡ 0 + count_by (λ b. b) us = sum_by-cons (λ b. cond b 1 0) false us in
    rw (none u (h 0)) (omega (arith, step, rest))

-- nobody has a frame of a new arena
pub leases_none : (p n : ℕ) (fs : List (List ℕ)) → AreLeases (record { page_bytes = p; used = replicate n false; frames = fs }) []
leases_none p n fs i = rw (none_used n i) refl

-- who takes a frame has one more
pub leases_taken : (a : Frames) (ls : List ℕ) (l : ℕ) → AreLeases a ls → slice_get a.used l ≡ Some false → AreLeases (leased a l) (l ∷ ls)
leases_taken a ls l all free i =
    let was : times l ls ≡ 0 = rw (get_or_from_slice_get a.used l false false free) at (all l) in
    elim (cases_eq i l) [
      | inl e ↦ subst (λ j. times j (l ∷ ls) ≡ cond (get_or (set a.used l true) j false) 1 0) (sym e)
          (rw (get_or-set_same a.used l true false (slice_get_within a.used l false free)) (times-cons_same l ls ∙ ap suc was))
      | inr ne ↦ rw (get_or-set_other a.used l i true false ne) (times-cons_other i l ls ne ∙ all i)
    ]

-- a lease is of a frame that is leased, and nobody else has it
pub lease_alone : (a : Frames) (xs ys : List ℕ) (l : ℕ) → AreLeases a (xs ++ l ∷ ys) → IsLeased a l × (times l (xs ++ ys) ≡ 0)
lease_alone a xs ys l all =
    let parts = alone (get_or a.used l false) (times l xs) (times l ys) (ap (λ k. times l xs + k) (sym (times-cons_same l ys)) ∙ sym (times-append l xs (l ∷ ys)) ∙ all l) in
    (reads a.used l parts.0, times-append l xs ys ∙ parts.1)

-- who gives a frame back has one less
pub leases_given : (a : Frames) (xs ys : List ℕ) (l : ℕ) → AreLeases a (xs ++ l ∷ ys) → AreLeases (given a l) (xs ++ ys)
leases_given a xs ys l all i =
    elim (cases_eq i l) [
      | inl e ↦ rw (e, past a.used l) (lease_alone a xs ys l all).1
      | inr ne ↦ rw (get_or-set_other a.used l i false false ne) (times-append i xs ys ∙ ap (λ k. times i xs + k) (sym (times-cons_other i l ys ne)) ∙ sym (times-append i xs (l ∷ ys)) ∙ all i)
    ]

fewer : (x y : ℕ) (b : Bool) → b ≡ true → x + cond b 1 0 ≡ y + 0 → suc x ≡ y
fewer x y true h e = omega arith
fewer x y false h e = cc

-- there are as many leases as frames that are leased
pub leases_counted : (a : Frames) (ls : List ℕ) → AreLeases a ls → length ls ≡ leased_frames a
leases_counted a [] all = sym (none_leased a.used (λ i. sym (all i)))
leases_counted a (l ∷ ls) all =
    let own = (lease_alone a [] ls l all).0 in
    let rest = leases_counted (given a l) ls (leases_given a [] ls l all) in
    let change = sum_by-set (λ b. cond b 1 0) a.used l false true (slice_get_within a.used l true own) in
    let was = get_or_from_slice_get a.used l true true own in
    ap suc rest ∙ fewer _ _ _ was change

-- free and leased frames together are all frames
pub frames_counted : (a : Frames) → free_frames a + leased_frames a ≡ length a.used
frames_counted a = free-and-leased a.used

-- a frame that is filled is leased as before, and so are all others
pub leases_filled : (a : Frames) (ls : List ℕ) (l : ℕ) (bytes : List ℕ) → AreLeases a ls → AreLeases (filled a l bytes) ls
leases_filled a ls l bytes all = all

had : (n : ℕ) → suc n ≡ 0 → ⊥
had n h = omega arith

-- a frame that is filled has its bytes
pub frame_filled : (a : Frames) (l : ℕ) (bytes : List ℕ) → l < length a.frames → frame_of (filled a l bytes) l ≡ bytes
frame_filled a l bytes h = get_or-set_same a.frames l bytes [] h
