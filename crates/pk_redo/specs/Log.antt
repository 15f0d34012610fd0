-- What a log holds: a byte that opens it, batches one after another, and zeros.
use Rattle.std.specs.Prelude.{◌≡◌, ◌≢◌, ◌⊎◌, ℕ, ◌+◌, ◌-◌, ◌*◌, ◌<◌, ◌≤◌, List, [], ◌∷◌, length, map, slice_index}
use Rattle.sqlite_disk.specs.declared.Disk.{Ghosts}
use Rattle.pk_redo.specs.declared.batch.TheConstants.{FIRST_BATCH, BATCH_HEAD, OPEN, BEGUN, MOST_BATCH}
use Rattle.pk_redo.specs.Bytes.{bytes_at, number_in, zeros_in, HasZeros}

-- ---- batches

-- the length of the batch at a place, its bytes, and where the next one is
abbrev pub len_at : List ℕ → ℕ → ℕ
len_at log at = number_in log (at + 1)

abbrev pub body_at : List ℕ → ℕ → List ℕ
body_at log at = bytes_at log (at + BATCH_HEAD) (len_at log at)

abbrev pub next_at : List ℕ → ℕ → ℕ
next_at log at = at + BATCH_HEAD + len_at log at

-- What the count of a batch of this length is: its zeros, and two for each byte that it is shorter than the longest. A byte that is
-- lost to a zero raises this or lowers the count that is stored.
abbrev pub tally : List ℕ → ℕ → ℕ → ℕ
tally log at len = zeros_in log at len + 2 * (MOST_BATCH - len)

-- a whole batch is at this place
pub record IsBatch (log : List ℕ) (at : ℕ) : Type 0 where
  pub headed : at + BATCH_HEAD ≤ length log
  pub begun : slice_index log at ≡ BEGUN
  pub within : at + BATCH_HEAD + len_at log at ≤ length log
  pub short : len_at log at ≤ MOST_BATCH
  pub counted : number_in log (at + 5) ≡ tally log (at + BATCH_HEAD) (len_at log at)

-- a batch that stands alone in its bytes
pub record IsSealed (batch : List ℕ) : Type 0 where
  pub whole : IsBatch batch 0
  pub all : BATCH_HEAD + len_at batch 0 ≡ length batch

-- ---- what one content of a log says

-- these batches stand one after another, from one place on up to another
abbrev pub Walks : List ℕ → ℕ → List (List ℕ) → ℕ → Type 0
Walks log at [] to = at ≡ to
Walks log at (b ∷ bs) to = IsBatch log at × (b ≡ body_at log at) × Walks log (next_at log at) bs to

-- a log that is open, whose batches are these, up to the first place that has none
pub record OpenLog (log : List ℕ) (bs : List (List ℕ)) : Type 0 where
  pub opened : slice_index log 0 ≡ OPEN
  pub end : ℕ
  pub walks : Walks log FIRST_BATCH bs end
  pub last : ¬ IsBatch log end

-- The batches that a reader finds. A log that is shut has none.
abbrev pub LogHolds : List ℕ → List (List ℕ) → Type 0
LogHolds log bs = OpenLog log bs ⊎ ((slice_index log 0 ≢ OPEN) × (bs ≡ []))

-- the log is ready for one more batch: it is open, these end at a place, and zeros follow up to another
pub record LogReady (log : List ℕ) (bs : List (List ℕ)) (end room : ℕ) : Type 0 where
  pub opened : slice_index log 0 ≡ OPEN
  pub walks : Walks log FIRST_BATCH bs end
  pub blank : HasZeros log end room

-- the log has a first byte, and it does not open it
pub record IsShut (log : List ℕ) : Type 0 where
  pub some : 0 < length log
  pub differs : slice_index log 0 ≢ OPEN

-- it has no first byte, or one that opens it
abbrev pub MayBeOpen : List ℕ → Type 0
MayBeOpen log = (length log ≡ 0) ⊎ (slice_index log 0 ≡ OPEN)

-- the bytes of batches, each by its place and its length
abbrev pub bodies : List ℕ → List (ℕ × ℕ) → List (List ℕ)
bodies log found = map (λ it. bytes_at log it.0 it.1) found

-- ---- what a crash leaves of a log

-- what holds of each outcome of a crash
abbrev pub AtEachCrash : {D : Type 0} → Ghosts D → D → (List ℕ → Type 0) → Type 0
AtEachCrash g disk P = (c : List ℕ) → g.may_leave disk c → P c

abbrev pub AllReady : {D : Type 0} → Ghosts D → D → List (List ℕ) → ℕ → ℕ → Type 0
AllReady g disk bs end room = AtEachCrash g disk (λ c. LogReady c bs end room)

abbrev pub AllStand : {D : Type 0} → Ghosts D → D → List (List ℕ) → Type 0
AllStand g disk bs = AtEachCrash g disk (λ c. LogHolds c bs)

-- ---- laws

-- A log has one list of batches.
abbrev pub ReadsOnce : Type 0
ReadsOnce = (log : List ℕ) (one other : List (List ℕ)) → LogHolds log one → LogHolds log other → one ≡ other
