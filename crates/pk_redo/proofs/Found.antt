-- A log as it is found beside an image.
use Rattle.std.proofs.Common.{◌≡◌, ◌≢◌, ℕ, ◌+◌, ◌-◌, ◌<◌, ◌≤◌, List, [], ◌∷◌, length, take}
use Rattle.std.proofs.Common.{drop, slice_index, slice_range, subst, sym, ◌∙◌, ap, inl, inr, arith, zero-add, ext_get_or, get_or-take, get_or-drop}
use Rattle.std.proofs.lemmas.List.{length-take-le}
use Rattle.sqlite_disk.specs.Disk.{Holds}
use Rattle.pk_image.specs.Image.{state_place}
use Rattle.pk_base.{specs.Shape.Shape, specs.Shape.page_count, specs.Mark.Mark}
use Rattle.pk_redo.specs.declared.batch.TheConstants.{OPEN, FIRST_BATCH}
use Rattle.pk_redo.specs.Bytes.{bytes_at}
use Rattle.pk_redo.specs.Log.{IsBatch, Walks, LogHolds, body_at}
use Rattle.pk_redo.specs.Record.{RecordFits, RecordedAs, said}
use Rattle.pk_redo.specs.Image.{BelongTo, BatchesSay}
use Rattle.pk_redo.proofs.Tables.{said_page}
use Rattle.pk_redo.proofs.Stepping.{steps_read_once}

-- the head of an image is its header and the states of its pages
module _ (image head : List ℕ) (n : ℕ) (holds : Holds image 0 head) (sized : length head ≡ 32 + n) where
  in_head : (i : ℕ) → i < 32 + n → slice_index image i ≡ slice_index head i
  in_head i low = ap (slice_index image) (sym (zero-add i)) ∙ holds.each i (omega (arith, low, sized))

  pub head_header : take 32 head ≡ take 32 image
  head_header =
      let fits : 32 + n ≤ length image = omega (arith, holds.within, sized) in
      let long : length (take 32 head) ≡ 32 = length-take-le 32 head (omega (arith, sized)) in
      ext_get_or 0 _ _ (long ∙ sym (length-take-le 32 image (omega (arith, fits)))) (λ i low.
      let below : i < 32 = omega (arith, low, long) in
      get_or-take 32 head i 0 below ∙ sym (in_head i (omega (arith, below))) ∙ sym (get_or-take 32 image i 0 below))

  pub head_states : (k : ℕ) → k < n → slice_index (drop 32 head) k ≡ slice_index image (state_place k)
  head_states k low = get_or-drop 32 head k 0 ∙ sym (in_head (32 + k) (omega (arith, low)))

-- a record of the header and the states of an image is one of the image
pub recorded_belongs : (shape : Shape) (batches : List (List ℕ)) (marks : List Mark) (image header states : List ℕ) → header ≡ take 32 image
    → ((k : ℕ) → k < page_count shape → slice_index states k ≡ slice_index image (state_place k)) → RecordedAs shape batches header states marks → BelongTo shape batches marks image
recorded_belongs shape [] marks image header states same is own = tt
recorded_belongs shape (first ∷ later) marks image header states same is own =
    record {
      size = own.size;
      same_header = own.same_header ∙ same;
      same_states = λ k low not. own.same_states k low not ∙ ap said (is k low) ∙ sym (said_page (slice_index image (state_place k)) _);
    }

pub belongs_recorded : (shape : Shape) (batches : List (List ℕ)) (marks : List Mark) (image header states : List ℕ) → header ≡ take 32 image
    → ((k : ℕ) → k < page_count shape → slice_index states k ≡ slice_index image (state_place k)) → BelongTo shape batches marks image → RecordedAs shape batches header states marks
belongs_recorded shape [] marks image header states same is own = tt
belongs_recorded shape (first ∷ later) marks image header states same is own =
    record {
      size = own.size;
      same_header = own.same_header ∙ sym same;
      same_states = λ k low not. own.same_states k low not ∙ said_page (slice_index image (state_place k)) _ ∙ sym (ap said (is k low));
    }

-- batches say one list of steps
pub says_once : (shape : Shape) (batches : List (List ℕ)) (one other : List Mark) → BatchesSay shape batches one → BatchesSay shape batches other → one ≡ other
says_once shape [] one other this that = this ∙ sym that
says_once shape (first ∷ later) one other this that = steps_read_once shape later one other this that

-- ---- the first batch of a log

-- a slice is a part
pub part_of_log : (log : List ℕ) (at len n : ℕ) → len ≡ n → slice_range log at (at + len) ≡ bytes_at log at n
unfolding bytes_at
part_of_log log at len n is = let count : at + len - at ≡ n = omega (arith, is) in ap (λ (m : ℕ). take m (drop at log)) count

module _ (shape : Shape) (log header states : List ℕ) (marks : List Mark) where
  none_first : (batches : List (List ℕ)) (at end : ℕ) → ¬ IsBatch log at → Walks log at batches end → RecordedAs shape batches header states marks
  none_first [] at end none walks = tt
  none_first (b ∷ bs) at end none walks = absurd (none walks.0)

  own_first : (batches : List (List ℕ)) (at end : ℕ) → IsBatch log at → RecordFits shape (body_at log at) header (λ k. said (slice_index states k)) marks
      → Walks log at batches end → ¬ IsBatch log end → RecordedAs shape batches header states marks
  own_first [] at end some own walks last = tt
  own_first (b ∷ bs) at end some own walks last = rw walks.1 own

  -- none if the log is shut
  pub shut_first : (batches : List (List ℕ)) → slice_index log 0 ≢ OPEN → LogHolds log batches → RecordedAs shape batches header states marks
  shut_first batches shut holds = elim holds [ inl o ↦ absurd (shut o.opened) | inr s ↦ rw s.1 tt ]

  -- none if there is none at its place
  pub no_first : (batches : List (List ℕ)) → ¬ IsBatch log FIRST_BATCH → LogHolds log batches → RecordedAs shape batches header states marks
  no_first batches none holds = elim holds [ inl o ↦ none_first batches FIRST_BATCH o.end none o.walks | inr s ↦ rw s.1 tt ]

  -- and otherwise the one there
  pub first_there : (batches : List (List ℕ)) → IsBatch log FIRST_BATCH → RecordFits shape (body_at log FIRST_BATCH) header (λ k. said (slice_index states k)) marks
      → LogHolds log batches → RecordedAs shape batches header states marks
  first_there batches some own holds = elim holds [ inl o ↦ own_first batches FIRST_BATCH o.end some own o.walks o.last | inr s ↦ rw s.1 tt ]

  record_first : (batches : List (List ℕ)) (at end : ℕ) → IsBatch log at → Walks log at batches end → ¬ IsBatch log end → RecordedAs shape batches header states marks
      → RecordFits shape (body_at log at) header (λ k. said (slice_index states k)) marks
  record_first [] at end some walks last own = absurd (last (subst (IsBatch log) walks some))
  record_first (b ∷ bs) at end some walks last own = subst (λ (bytes : List ℕ). RecordFits shape bytes header (λ k. said (slice_index states k)) marks) walks.1 own

  -- an open log that has one begins with it
  pub first_recorded : (batches : List (List ℕ)) → slice_index log 0 ≡ OPEN → IsBatch log FIRST_BATCH → LogHolds log batches → RecordedAs shape batches header states marks
      → RecordFits shape (body_at log FIRST_BATCH) header (λ k. said (slice_index states k)) marks
  first_recorded batches opened some holds own = elim holds [ inl o ↦ record_first batches FIRST_BATCH o.end some o.walks o.last own | inr s ↦ absurd (s.0 opened) ]
