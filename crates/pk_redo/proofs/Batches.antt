-- Batches in a log.
use Rattle.std.proofs.Common.{◌≡◌, ◌⊎◌, ℕ, ◌+◌, ◌-◌, ◌*◌, ◌<◌, ◌≤◌, List, [], ◌∷◌, ◌++◌, length, drop, slice_index}
use Rattle.std.proofs.Common.{slice_set, sym, refl, ◌∙◌, ap, subst, inl, inr, arith, rules, ext_get_or, get_or-drop, length-drop, length-set, take_all}
use Rattle.std.proofs.lemmas.Bool.{cases_eq, cases_lt}
use Rattle.std.proofs.lemmas.List.{places}
use Rattle.sqlite_disk.specs.Disk.{Holds, Torn, Mixed}
use Rattle.pk_redo.specs.declared.batch.TheConstants.{FIRST_BATCH, OPEN, BEGUN, MOST_BATCH}
use Rattle.pk_redo.specs.Bytes.{bytes_at, number_in, zeros_in, HasZeros}
use Rattle.pk_redo.specs.Log.{IsBatch, IsSealed, LogReady, LogHolds, ReadsOnce, Walks, len_at, body_at, next_at, tally}
use Rattle.pk_redo.proofs.Parts.{same_parts, same_number}
use Rattle.pk_redo.proofs.Zeros.{Faint, faint_zeros, none_lost, faint_number, same_zeros, zeros_later}

-- the head of a batch is written over the bytes before its own
pub seals : (b0 b1 b2 b3 : List ℕ) (len count : ℕ) → 9 + len ≡ length b0 → len ≤ MOST_BATCH → b1 ≡ slice_set b0 0 BEGUN → Torn 1 4 b1 b2 → Torn 5 4 b2 b3
    → length b2 ≡ length b1 → length b3 ≡ length b2 → number_in b2 1 ≡ len → number_in b3 5 ≡ count → count ≡ zeros_in b0 9 len + 2 * (MOST_BATCH - len)
    → IsSealed b3 × (drop 9 b3 ≡ drop 9 b0)
seals b0 b1 b2 b3 len count all short set first second long_a long_b has_len has_count is_count =
    let len_1 : length b1 ≡ length b0 = rw set (search (rules, length-set)) in
    let later : (i : ℕ) → 9 ≤ i → i < length b0 → slice_index b3 i ≡ slice_index b0 i = λ i from below.
    let one : slice_index (slice_set b0 0 BEGUN) i ≡ slice_index b0 i = search (rules, places) in
    let two : slice_index b1 i ≡ slice_index b0 i = rw set one in
    second.above i (omega arith) (omega arith) ∙ first.above i (omega arith) (omega arith) ∙ two in
    let zeroth : slice_index (slice_set b0 0 BEGUN) 0 ≡ BEGUN = search (rules, places) in
    let begun : slice_index b1 0 ≡ BEGUN = rw set zeroth in
    let len_3 : number_in b3 1 ≡ number_in b2 1 = same_number b3 b2 1 1 (λ i low. second.below (1 + i) (omega arith) (omega arith)) in
    let is_len : number_in b3 1 ≡ len = len_3 ∙ has_len in
    let zeros : zeros_in b3 9 len ≡ zeros_in b0 9 len = same_zeros b3 b0 9 9 len (λ i low. later (9 + i) (omega arith) (omega arith)) in
    let counts : number_in b3 5 ≡ zeros_in b3 9 len + 2 * (MOST_BATCH - len) = omega (arith, has_count, is_count, zeros) in (
      record {
        whole = record {
          headed = omega arith;
          begun = second.below 0 (omega arith) (omega arith) ∙ first.below 0 (omega arith) (omega arith) ∙ begun;
          within = rw is_len (omega arith);
          short = rw is_len short;
          counted = rw is_len counts;
        };
        all = rw is_len all ∙ sym len_1 ∙ sym long_a ∙ sym long_b;
      },
      ext_get_or 0 _ _ (omega (arith, length-drop 9 b3, length-drop 9 b0)) (λ i low.
          get_or-drop 9 b3 i 0 ∙ later (9 + i) (omega arith) (omega (arith, length-drop 9 b3)) ∙ sym (get_or-drop 9 b0 i 0)),
    )

-- the same bytes at another place are the same batch
module _ (old new : List ℕ) (a b : ℕ) (whole : IsBatch old a) (fits : b + 9 + len_at old a ≤ length new)
    (same : (i : ℕ) → i < 9 + len_at old a → slice_index new (b + i) ≡ slice_index old (a + i)) where
  from_place : (k i : ℕ) → k + i < 9 + len_at old a → slice_index new (b + k + i) ≡ slice_index old (a + k + i)
  from_place k i low =
      let there : b + k + i ≡ b + (k + i) = omega arith in
      let here : a + k + i ≡ a + (k + i) = omega arith in
      ap (slice_index new) there ∙ same (k + i) low ∙ sym (ap (slice_index old) here)

  pub same_len : len_at new b ≡ len_at old a
  same_len = same_number new old (b + 1) (a + 1) (λ i low. from_place 1 i (omega arith))

  pub same_body : body_at new b ≡ body_at old a
  same_body = rw same_len (same_parts new old (b + 9) (a + 9) (len_at old a) fits whole.within (λ i low. from_place 9 i (omega arith)))

  pub same_batch : IsBatch new b
  same_batch =
      let count : number_in new (b + 5) ≡ number_in old (a + 5) = same_number new old (b + 5) (a + 5) (λ i low. from_place 5 i (omega arith)) in
      let zeros : zeros_in new (b + 9) (len_at old a) ≡ zeros_in old (a + 9) (len_at old a) = same_zeros new old (b + 9) (a + 9) (len_at old a) (λ i low. from_place 9 i (omega arith)) in
      let first : slice_index new (b + 0) ≡ slice_index old (a + 0) = same 0 (omega arith) in
      let at_b : b + 0 ≡ b = omega arith in
      let at_a : a + 0 ≡ a = omega arith in
      let counts : number_in new (b + 5) ≡ zeros_in new (b + 9) (len_at old a) + 2 * (MOST_BATCH - len_at old a) = omega (arith, count, zeros, whole.counted) in
      record {
        headed = omega arith;
        begun = sym (ap (slice_index new) at_b) ∙ first ∙ ap (slice_index old) at_a ∙ whole.begun;
        within = rw same_len fits;
        short = rw same_len whole.short;
        counted = rw same_len counts;
      }

pub walks_up : (log : List ℕ) (at : ℕ) (bs : List (List ℕ)) (to : ℕ) → Walks log at bs to → at ≤ to
walks_up log at [] to walks = omega (arith, walks)
walks_up log at (b ∷ bs) to walks = omega (arith, walks_up log (next_at log at) bs to walks.2)

-- a file with the same bytes there has the same batches
pub walks_same : (old new : List ℕ) (at : ℕ) (bs : List (List ℕ)) (to : ℕ) → to ≤ length new → ((i : ℕ) → at ≤ i → i < to → slice_index new i ≡ slice_index old i)
    → Walks old at bs to → Walks new at bs to
walks_same old new at [] to within same walks = walks
walks_same old new at (b ∷ bs) to within same walks =
    let up = walks_up old (next_at old at) bs to walks.2 in
    let here = λ (i : ℕ) (low : i < 9 + len_at old at). same (at + i) (omega arith) (omega arith) in
    let fits : at + 9 + len_at old at ≤ length new = omega arith in
    let next : next_at new at ≡ next_at old at = ap (λ n. at + 9 + n) (same_len old new at at walks.0 fits here) in
    let rest : Walks new (next_at old at) bs to = walks_same old new (next_at old at) bs to within (λ i from below. same i (omega arith) below) walks.2 in
    (same_batch old new at at walks.0 fits here, walks.1 ∙ sym (same_body old new at at walks.0 fits here), rw next rest)

-- one more batch after others
pub walks_on : (log : List ℕ) (at : ℕ) (bs : List (List ℕ)) (to : ℕ) → Walks log at bs to → IsBatch log to → Walks log at (bs ++ (body_at log to ∷ [])) (next_at log to)
walks_on log at [] to walks more = let here : at ≡ to = walks in rw here (more, refl, refl)
walks_on log at (b ∷ bs) to walks more = (walks.0, walks.1, walks_on log (next_at log at) bs to walks.2 more)

pub is_batch_or_not : (log : List ℕ) (at : ℕ) → IsBatch log at ⊎ (¬ IsBatch log at)
is_batch_or_not log at =
    elim (cases_lt (length log) (at + 9)) [
      | inl short ↦ inr (λ is. omega (arith, is.headed))
      | inr headed ↦ elim (cases_eq (slice_index log at) BEGUN) [
        | inr other ↦ inr (λ is. other is.begun)
        | inl begun ↦ elim (cases_lt (length log) (at + 9 + len_at log at)) [
          | inl cut ↦ inr (λ is. omega (arith, is.within))
          | inr within ↦ elim (cases_lt MOST_BATCH (len_at log at)) [
            | inl long ↦ inr (λ is. omega (arith, is.short))
            | inr short ↦ elim (cases_eq (number_in log (at + 5)) (tally log (at + 9) (len_at log at))) [
              | inr other ↦ inr (λ is. other is.counted)
              | inl counted ↦ inl (record { headed = headed; begun = begun; within = within; short = short; counted = counted })
            ]
          ]
        ]
      ]
    ]

pub not_in_zeros : (log : List ℕ) (at : ℕ) → slice_index log at ≡ 0 → ¬ IsBatch log at
not_in_zeros log at none is = let clash : BEGUN ≡ 0 = sym is.begun ∙ none in omega (arith, clash)

-- A batch of which each byte is there or was lost to a zero is whole, if it is one.
module _ (batch c : List ℕ) (at : ℕ) (sealed : IsSealed batch)
    (faint : (i : ℕ) → i < length batch → Faint (slice_index c (at + i)) (slice_index batch i)) (there : IsBatch c at) where
  faint_from : (k i : ℕ) → k + i < length batch → Faint (slice_index c (at + k + i)) (slice_index batch (k + i))
  faint_from k i low = let here : at + k + i ≡ at + (k + i) = omega arith in rw here (faint (k + i) low)

  abbrev len : ℕ
  len = number_in batch 1

  lens : (number_in c (at + 1) ≤ len) × (len ≤ number_in c (at + 1) → (i : ℕ) → i < 4 → slice_index c (at + 1 + i) ≡ slice_index batch (1 + i))
  lens = faint_number c batch (at + 1) 1 (λ i low. faint_from 1 i (omega (arith, sealed.all)))

  counts : (number_in c (at + 5) ≤ number_in batch 5) × (number_in batch 5 ≤ number_in c (at + 5) → (i : ℕ) → i < 4 → slice_index c (at + 5 + i) ≡ slice_index batch (5 + i))
  counts = faint_number c batch (at + 5) 5 (λ i low. faint_from 5 i (omega (arith, sealed.all)))

  in_body : (i : ℕ) → i < len → Faint (slice_index c (at + 9 + i)) (slice_index batch (9 + i))
  in_body i low = faint_from 9 i (omega (arith, sealed.all))

  as_long : len ≤ number_in c (at + 1)
  as_long =
      let found = len_at c at in
      let more : found + (len - found) ≡ len = omega (arith, lens.0) in
      let later = zeros_later c (at + 9) found (len - found) in
      omega (arith, later, ap (zeros_in c (at + 9)) more, faint_zeros c batch (at + 9) 9 len in_body, there.counted, sealed.whole.counted, counts.0, lens.0, sealed.whole.short)

  found_len : number_in c (at + 1) ≡ len
  found_len = omega (arith, as_long, lens.0)

  found_count : number_in c (at + 5) ≡ zeros_in c (at + 9) len + 2 * (MOST_BATCH - len)
  found_count = rw (← found_len) there.counted

  few : zeros_in c (at + 9) len ≤ zeros_in batch 9 len
  few = omega (arith, found_count, sealed.whole.counted, counts.0)

  as_many : number_in batch 5 ≤ number_in c (at + 5)
  as_many = omega (arith, found_count, sealed.whole.counted, faint_zeros c batch (at + 9) 9 len in_body)

  pub all_there : (i : ℕ) → i < length batch → slice_index c (at + i) ≡ slice_index batch i
  all_there i low =
      elim (cases_eq i 0) [
        | inl e ↦ let here : at + 0 ≡ at = omega arith in rw (e, here) (there.begun ∙ sym sealed.whole.begun)
        | inr some ↦ elim (cases_lt i 5) [
          | inl in_len ↦ placed 1 i (omega arith) 4 (λ k below. lens.1 as_long k below) (omega arith)
          | inr past ↦ elim (cases_lt i 9) [
            | inl in_count ↦ placed 5 i (omega arith) 4 (λ k below. counts.1 as_many k below) (omega arith)
            | inr body ↦ placed 9 i (omega arith) len (λ k below. none_lost c batch (at + 9) 9 len in_body few k below) (omega (arith, sealed.all))
          ]
        ]
      ]
    where
      placed : (k i : ℕ) → k ≤ i → (n : ℕ) → ((j : ℕ) → j < n → slice_index c (at + k + j) ≡ slice_index batch (k + j)) → i < k + n → slice_index c (at + i) ≡ slice_index batch i
      placed k i from n h below =
          let there : at + k + (i - k) ≡ at + i = omega arith in
          let here : k + (i - k) ≡ i = omega arith in
          rw (there, here) at (h (i - k) (omega arith))

-- the bytes of a sealed batch but its head
pub sealed_body : (batch : List ℕ) → IsSealed batch → body_at batch 0 ≡ drop 9 batch
unfolding bytes_at
sealed_body batch sealed = take_all (number_in batch 1) (drop 9 batch) (omega (arith, sealed.all, length-drop 9 batch))

-- a log of which each byte up to a batch is the same, with the batch behind it and then a zero
module _ (old new batch : List ℕ) (bs : List (List ℕ)) (end room : ℕ) (ready : LogReady old bs end room) (sealed : IsSealed batch) (fits : end + length batch < room)
    (reaches : room ≤ length new) (below : (i : ℕ) → i < end → slice_index new i ≡ slice_index old i) where
  walks_below : Walks new FIRST_BATCH bs end
  walks_below = walks_same old new FIRST_BATCH bs end (omega arith) (λ i from low. below i low) ready.walks

  opened_below : slice_index new 0 ≡ OPEN
  opened_below = below 0 (omega (arith, walks_up old FIRST_BATCH bs end ready.walks)) ∙ ready.opened

  module _ (there : (i : ℕ) → i < length batch → slice_index new (end + i) ≡ slice_index batch i) where
    batch_fits : end + 9 + len_at batch 0 ≤ length new
    batch_fits = omega (arith, sealed.all)

    batch_there : (i : ℕ) → i < 9 + len_at batch 0 → slice_index new (end + i) ≡ slice_index batch (0 + i)
    batch_there i low = let here : 0 + i ≡ i = omega arith in rw here (there i (omega (arith, sealed.all)))

    is_there : IsBatch new end
    is_there = same_batch batch new 0 end sealed.whole batch_fits batch_there

    body_there : body_at new end ≡ drop 9 batch
    body_there = same_body batch new 0 end sealed.whole batch_fits batch_there ∙ sealed_body batch sealed

    next_there : next_at new end ≡ end + length batch
    next_there = omega (arith, same_len batch new 0 end sealed.whole batch_fits batch_there, sealed.all)

    pub walks_more : Walks new FIRST_BATCH (bs ++ (drop 9 batch ∷ [])) (end + length batch)
    walks_more =
        let more = walks_on new FIRST_BATCH bs end walks_below is_there in
        let P : List ℕ → ℕ → Type 0 = λ body to. Walks new FIRST_BATCH (bs ++ (body ∷ [])) to in
        subst (λ to. P (drop 9 batch) to) next_there (subst (λ body. P body (next_at new end)) body_there more)

    pub more_ready : HasZeros new (end + length batch) room → LogReady new (bs ++ (drop 9 batch ∷ [])) (end + length batch) room
    more_ready blank = record { opened = opened_below; walks = walks_more; blank = blank }

  -- a reader finds the batches, or these and one more
  pub finds : (IsBatch new end → (i : ℕ) → i < length batch → slice_index new (end + i) ≡ slice_index batch i) → slice_index new (end + length batch) ≡ 0
      → LogHolds new bs ⊎ LogHolds new (bs ++ (drop 9 batch ∷ []))
  finds there last =
      elim (is_batch_or_not new end) [
        | inr none ↦ inl (inl (record { opened = opened_below; end = end; walks = walks_below; last = none }))
        | inl is ↦ inr (inl (record {
          opened = opened_below;
          end = end + length batch;
          walks = walks_more (there is);
          last = not_in_zeros new (end + length batch) last;
        }))
      ]

  pub finds_none : ¬ IsBatch new end → LogHolds new bs
  finds_none none = inl (record { opened = opened_below; end = end; walks = walks_below; last = none })

-- an outcome of the write of a batch over zeros
pub torn_commit : (old new batch : List ℕ) (bs : List (List ℕ)) (end room : ℕ) → LogReady old bs end room → IsSealed batch → end + length batch < room → Mixed end batch old new
    → LogHolds new bs ⊎ LogHolds new (bs ++ (drop 9 batch ∷ []))
torn_commit old new batch bs end room ready sealed fits mixed =
    let reaches = ready.blank.within in
    let faint = λ (i : ℕ) (low : i < length batch). let zero_there = ready.blank.each (end + i) (omega arith) (omega arith) in
    let choice : Faint (slice_index new (end + i)) (slice_index batch i) = elim (mixed.each i low (omega arith)) [ inl was ↦ inl (was ∙ zero_there) | inr put ↦ inr put ] in choice in
    finds old new batch bs end room ready sealed fits (omega (arith, mixed.torn.no_shorter)) (λ i low. mixed.torn.below i (omega arith) low)
    (λ is. all_there batch new end sealed faint is) (mixed.torn.above (end + length batch) (omega arith) (omega arith) ∙ ready.blank.each _ (omega arith) fits)

-- a batch that was written
pub whole_commit : (old new batch : List ℕ) (bs : List (List ℕ)) (end room : ℕ) → LogReady old bs end room → IsSealed batch → end + length batch < room → Torn end (length batch) old new
    → Holds new end batch → LogReady new (bs ++ (drop 9 batch ∷ [])) (end + length batch) room
whole_commit old new batch bs end room ready sealed fits torn holds =
    let reaches = ready.blank.within in
    more_ready old new batch bs end room ready sealed fits (omega (arith, torn.no_shorter)) (λ i low. torn.below i (omega arith) low)
    holds.each
    (record {
      within = omega (arith, torn.no_shorter);
      each = λ i from below. torn.above i (omega arith) from ∙ ready.blank.each i (omega arith) below;
    })

-- a log that is ready stands for its batches
pub ready_stands : (log : List ℕ) (bs : List (List ℕ)) (end room : ℕ) → end < room → LogReady log bs end room → LogHolds log bs
ready_stands log bs end room some ready =
    inl (record { opened = ready.opened; end = end; walks = ready.walks; last = not_in_zeros log end (ready.blank.each end (omega arith) some) })

-- nothing below the end of the zeros changed
pub still_ready : (old new : List ℕ) (bs : List (List ℕ)) (end room n : ℕ) → end < room → LogReady old bs end room → Torn room n old new → LogReady new bs end room
still_ready old new bs end room n some ready torn =
    let reaches = ready.blank.within in
    record {
      opened = torn.below 0 (omega arith) (omega arith) ∙ ready.opened;
      walks = walks_same old new FIRST_BATCH bs end (omega (arith, torn.no_shorter)) (λ i from low. torn.below i (omega arith) (omega arith)) ready.walks;
      blank = record { within = omega (arith, torn.no_shorter); each = λ i from below. torn.below i (omega arith) below ∙ ready.blank.each i from below };
    }

-- zeros were written behind the zeros
pub more_zeros : (old new blank : List ℕ) (bs : List (List ℕ)) (end room : ℕ) → end < room → LogReady old bs end room → Torn room (length blank) old new → Holds new room blank
    → ((i : ℕ) → i < length blank → slice_index blank i ≡ 0) → LogReady new bs end (room + length blank)
more_zeros old new blank bs end room some ready torn holds none =
    let still = still_ready old new bs end room (length blank) some ready torn in
    record {
      opened = still.opened;
      walks = still.walks;
      blank = record {
        within = holds.within;
        each = λ i from below. elim (cases_lt i room) [
          | inl early ↦ still.blank.each i from early
          | inr late ↦
              let here : room + (i - room) ≡ i = omega arith in
              let zero_there = holds.each (i - room) (omega arith) ∙ none (i - room) (omega arith) in
              rw here at zero_there
        ];
      };
    }

-- The first byte of a batch is not written yet.
pub shut_commit : (old new batch : List ℕ) (bs : List (List ℕ)) (end room : ℕ) → LogReady old bs end room → IsSealed batch → end + length batch < room
    → Torn (end + 1) (length (drop 1 batch)) old new → LogHolds new bs
shut_commit old new batch bs end room ready sealed fits torn =
    let reaches = ready.blank.within in
    finds_none old new batch bs end room ready sealed fits (omega (arith, torn.no_shorter)) (λ i low. torn.below i (omega arith) (omega arith))
    (not_in_zeros new end (torn.below end (omega arith) (omega arith) ∙ ready.blank.each end (omega arith) (omega arith)))

-- All but the first byte are there, and that one is being written.
module _ (old mid new batch : List ℕ) (bs : List (List ℕ)) (end room : ℕ) (ready : LogReady old bs end room) (sealed : IsSealed batch) (fits : end + length batch < room)
    (torn : Torn (end + 1) (length (drop 1 batch)) old mid) (holds : Holds mid (end + 1) (drop 1 batch)) (last : Torn end 1 mid new) where
  reaches : room ≤ length old
  reaches = ready.blank.within

  tail : length (drop 1 batch) + 1 ≡ length batch
  tail = omega (arith, length-drop 1 batch, sealed.all)

  past : (i : ℕ) → 0 < i → i < length batch → slice_index new (end + i) ≡ slice_index batch i
  past i some low =
      let here : end + 1 + (i - 1) ≡ end + i = omega arith in
      let there : 1 + (i - 1) ≡ i = omega arith in
      let put = holds.each (i - 1) (omega (arith, tail)) ∙ get_or-drop 1 batch (i - 1) 0 in
      let was : slice_index mid (end + i) ≡ slice_index batch i = rw (here, there) at put in
      last.above (end + i) (omega (arith, holds.within, tail)) (omega arith) ∙ was

  all_of : slice_index new end ≡ BEGUN → (i : ℕ) → i < length batch → slice_index new (end + i) ≡ slice_index batch i
  all_of begun i low =
      elim (cases_eq i 0) [
        | inl e ↦ let here : end + 0 ≡ end = omega arith in rw (e, here) (begun ∙ sym sealed.whole.begun)
        | inr some ↦ past i (omega arith) low
      ]

  long : room ≤ length new
  long = omega (arith, last.no_shorter, torn.no_shorter, reaches)

  below : (i : ℕ) → i < end → slice_index new i ≡ slice_index old i
  below i low = last.below i (omega (arith, torn.no_shorter, reaches)) low ∙ torn.below i (omega (arith, reaches)) (omega arith)

  above : (i : ℕ) → end + length batch ≤ i → i < room → slice_index new i ≡ 0
  above i from low =
      last.above i (omega (arith, torn.no_shorter, reaches)) (omega (arith, sealed.all)) ∙ torn.above i (omega (arith, reaches)) (omega (arith, tail)) ∙ ready.blank.each i (omega arith) low

  pub gate_commit : LogHolds new bs ⊎ LogHolds new (bs ++ (drop 9 batch ∷ []))
  gate_commit = finds old new batch bs end room ready sealed fits long below (λ is. all_of is.begun) (above _ (omega arith) fits)

  pub opened_commit : slice_index new end ≡ BEGUN → LogReady new (bs ++ (drop 9 batch ∷ [])) (end + length batch) room
  opened_commit begun = more_ready old new batch bs end room ready sealed fits long below (all_of begun) (record { within = long; each = above })

walks_once : (log : List ℕ) (at : ℕ) (bs cs : List (List ℕ)) (to end : ℕ) → Walks log at bs to → Walks log at cs end → ¬ IsBatch log to → ¬ IsBatch log end → bs ≡ cs
walks_once log at [] [] to end one other last none = refl
walks_once log at [] (c ∷ cs) to end one other last none = absurd (last (rw (← one) other.0))
walks_once log at (b ∷ bs) [] to end one other last none = absurd (none (rw (← other) one.0))
walks_once log at (b ∷ bs) (c ∷ cs) to end one other last none =
    let first : b ≡ c = one.1 ∙ sym other.1 in
    ap (λ (x : List ℕ). x ∷ bs) first ∙ ap (λ (xs : List (List ℕ)). c ∷ xs) (walks_once log (next_at log at) bs cs to end one.2 other.2 last none)

-- a batch behind others is among those of the log
pub batches_through : (log : List ℕ) (at : ℕ) (bs cs : List (List ℕ)) (to end : ℕ) → Walks log at bs to → Walks log at cs end → IsBatch log to → ¬ IsBatch log end
    → (rest : List (List ℕ)) × (cs ≡ bs ++ (body_at log to ∷ rest))
batches_through log at [] [] to end one other more none = absurd (none (rw (← other) (rw (← one) at more)))
batches_through log at [] (c ∷ cs) to end one other more none = (cs, ap (λ (x : List ℕ). x ∷ cs) (other.1 ∙ ap (body_at log) one))
batches_through log at (b ∷ bs) [] to end one other more none = absurd (none (rw (← other) one.0))
batches_through log at (b ∷ bs) (c ∷ cs) to end one other more none =
    let (rest, is) = batches_through log (next_at log at) bs cs to end one.2 other.2 more none in
    (rest, ap (λ (x : List ℕ). x ∷ cs) (other.1 ∙ sym one.1) ∙ ap (λ (xs : List (List ℕ)). b ∷ xs) is)

pub reads_once : ReadsOnce
reads_once log one other this that =
    elim this [
      | inl has ↦ elim that [
        | inl had ↦ walks_once log FIRST_BATCH one other _ _ has.walks had.walks has.last had.last
        | inr shut ↦ absurd (shut.0 has.opened)
      ]
      | inr shut ↦ elim that [ inl had ↦ absurd (shut.0 had.opened) | inr also ↦ shut.1 ∙ sym also.1 ]
    ]
