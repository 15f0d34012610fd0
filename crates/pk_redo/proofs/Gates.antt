-- A log that is shut, emptied and opened.
use Rattle.std.proofs.Common.{◌≡◌, ◌⊎◌, ℕ, ◌+◌, ◌-◌, ◌<◌, ◌≤◌, List, [], ◌∷◌, length, drop, slice_index, sym, refl, ap, ◌∙◌, subst, inl, inr, arith, rules, ext_get_or}
use Rattle.std.proofs.lemmas.Bool.{cases_eq, cases_lt}
use Rattle.std.proofs.lemmas.List.{places}
use Rattle.sqlite_disk.specs.Disk.{Holds, Torn}
use Rattle.pk_redo.specs.declared.batch.TheConstants.{FIRST_BATCH, OPEN}
use Rattle.pk_redo.specs.Bytes.{HasZeros}
use Rattle.pk_redo.specs.Log.{IsBatch, IsSealed, LogReady, IsShut, MayBeOpen, LogHolds, Walks, len_at, body_at, next_at}
use Rattle.pk_redo.proofs.Batches.{not_in_zeros, same_batch, same_body, same_len, sealed_body}

open_is_some : (log : List ℕ) → slice_index log 0 ≡ OPEN → 0 < length log
open_is_some log is =
    elim (cases_lt 0 (length log)) [
      | inl some ↦ some
      | inr none ↦ let zero_there : slice_index log 0 ≡ 0 = search (rules, places) in absurd (omega (arith, sym is ∙ zero_there))
    ]

-- whatever a write of the first byte leaves of an open log, it is open with the same batches or shut
pub torn_shut : (seen left : List ℕ) (bs : List (List ℕ)) → MayBeOpen seen → LogHolds seen bs → Torn 0 1 seen left → LogHolds left bs ⊎ LogHolds left []
torn_shut seen left bs may stands torn =
    elim (cases_eq (slice_index left 0) OPEN) [
      | inr other ↦ inr (inr (other, refl))
      | inl is ↦ elim may [
        | inl none ↦ inr (inl (record { opened = is; end = FIRST_BATCH; walks = refl; last = λ batch. omega (arith, batch.headed, torn.no_longer) }))
        | inr was ↦
            let some = open_is_some seen was in
            let len : length left ≡ length seen = omega (arith, torn.no_shorter, torn.no_longer) in
            let same : left ≡ seen = ext_get_or 0 left seen len (λ i low. elim (cases_eq i 0) [
              | inl e ↦ rw e (is ∙ sym was)
              | inr past ↦ torn.above i (omega arith) (omega arith)
            ]) in
            inl (subst (λ (c : List ℕ). LogHolds c bs) (sym same) stands)
      ]
    ]

-- what is written behind the first byte of a log that is shut leaves it shut
pub still_shut : (old new : List ℕ) (at n : ℕ) → 0 < at → IsShut old → Torn at n old new → IsShut new
still_shut old new at n some shut torn =
    record { some = omega (arith, shut.some, torn.no_shorter); differs = λ is. shut.differs (sym (torn.below 0 shut.some some) ∙ is) }

pub shut_stands : (log : List ℕ) → IsShut log → LogHolds log []
shut_stands log shut = inr (shut.differs, refl)

-- A log that has a sealed batch and zeros behind it, and whose first byte is being written.
module _ (mid seen left batch blank : List ℕ) (sealed : IsSealed batch) (some : 0 < length blank) (holds : Holds mid FIRST_BATCH batch)
    (torn : Torn (FIRST_BATCH + length batch) (length blank) mid seen) (zeros_there : Holds seen (FIRST_BATCH + length batch) blank)
    (none : (i : ℕ) → i < length blank → slice_index blank i ≡ 0) (gate : Torn 0 1 seen left) where
  sized : 9 + len_at batch 0 ≡ length batch
  sized = sealed.all

  there : (i : ℕ) → i < 9 + len_at batch 0 → slice_index left (FIRST_BATCH + i) ≡ slice_index batch (0 + i)
  there i low =
      let here : 0 + i ≡ i = omega arith in
      let within = holds.within in
      gate.above (FIRST_BATCH + i) (omega (arith, zeros_there.within, sized)) (omega arith) ∙ torn.below (FIRST_BATCH + i) (omega (arith, within, sized)) (omega (arith, sized))
      ∙ holds.each i (omega (arith, sized)) ∙ sym (ap (slice_index batch) here)

  long : FIRST_BATCH + length batch + length blank ≤ length left
  long = omega (arith, zeros_there.within, gate.no_shorter)

  is_there : IsBatch left FIRST_BATCH
  is_there = same_batch batch left 0 FIRST_BATCH sealed.whole (omega (arith, long, sized)) there

  body_there : drop 9 batch ≡ body_at left FIRST_BATCH
  body_there = sym (same_body batch left 0 FIRST_BATCH sealed.whole (omega (arith, long, sized)) there ∙ sealed_body batch sealed)

  next_there : next_at left FIRST_BATCH ≡ FIRST_BATCH + length batch
  next_there = omega (arith, same_len batch left 0 FIRST_BATCH sealed.whole (omega (arith, long, sized)) there, sized)

  blank_there : HasZeros left (FIRST_BATCH + length batch) (FIRST_BATCH + length batch + length blank)
  blank_there = record {
    within = long;
    each = λ i from below.
        let here : FIRST_BATCH + length batch + (i - (FIRST_BATCH + length batch)) ≡ i = omega arith in
        let put = zeros_there.each (i - (FIRST_BATCH + length batch)) (omega arith) ∙ none (i - (FIRST_BATCH + length batch)) (omega arith) in
        let was : slice_index seen i ≡ 0 = rw here at put in
        gate.above i (omega (arith, zeros_there.within)) (omega arith) ∙ was;
  }

  one_walk : Walks left FIRST_BATCH (drop 9 batch ∷ []) (FIRST_BATCH + length batch)
  one_walk = (is_there, body_there, next_there)

  -- it has this batch alone, or is shut
  pub first_stands : LogHolds left [] ⊎ LogHolds left (drop 9 batch ∷ [])
  first_stands =
      elim (cases_eq (slice_index left 0) OPEN) [
        | inr other ↦ inl (inr (other, refl))
        | inl is ↦ inr (inl (record {
          opened = is;
          end = FIRST_BATCH + length batch;
          walks = one_walk;
          last = not_in_zeros left (FIRST_BATCH + length batch) (blank_there.each (FIRST_BATCH + length batch) (omega arith) (omega (arith, some)));
        }))
      ]

  pub first_ready : slice_index left 0 ≡ OPEN → LogReady left (drop 9 batch ∷ []) (FIRST_BATCH + length batch) (FIRST_BATCH + length batch + length blank)
  first_ready is = record { opened = is; walks = one_walk; blank = blank_there }
