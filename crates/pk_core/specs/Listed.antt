-- The data of a List: keys that follow their number in a buffer.
use Rattle.std.specs.Prelude.{◌≡◌, ◌⊎◌, false, ℕ, ◌+◌, ◌-◌, ◌<◌, ◌≤◌, List, [], ◌∷◌, ◌++◌, length, take, drop, flat_map, ◌==◌, if◌then◌else◌, Option, Some, None}
use Rattle.pk_nvme.{specs.declared.limits.TheConstants.COUNT_BYTES, specs.declared.limits.TheConstants.MOST_LIST_BYTES, specs.Command.Command}
use Rattle.pk_nvme.specs.declared.status.TheConstants.{SUCCESSFUL_COMPLETION, UNRECOVERED_ERROR}
use Rattle.pk_base.{specs.Key.Key, specs.Key.bytes_of, specs.Key.space_of, specs.Entry.Place}
use Rattle.pk_nand.{specs.BoardState.BoardState, specs.Calls.Rose, specs.Calls.last_count, specs.Effects.NoFault}
use Rattle.pk_pin.specs.Frames.{Frames}
use Rattle.pk_level.specs.Levels.{Levels}
use Rattle.pk_walk.specs.Walking.{Walk, IsLeft}
use Rattle.pk_log.specs.State.{LogState}
use Rattle.pk_parts.specs.Keys.{keys_of}
use Rattle.pk_call.{specs.Meter.reads_after, specs.declared.types.Outcome.Outcome}
use Rattle.pk_model.specs.Answer.{listed, item_bytes, fitting}
use Rattle.pk_core.specs.declared.filled.Filled.{Filled}

-- the least key of a namespace that is not below these bytes: each key has a byte
abbrev pub least_in : ℕ → List ℕ → Key
least_in values [] = values ∷ 0 ∷ []
least_in values (b ∷ bytes) = values ∷ b ∷ bytes

-- the key at which a List begins
abbrev pub first_listed : Command → Key
first_listed c = least_in c.namespace (take c.key_len c.key_bytes)

-- One more key of these bytes was written, or there is no room for it.
abbrev pub OffersBytes : List ℕ → Filled → ℕ → List ℕ → Option Filled → List ℕ → Type 0
OffersBytes old at room bytes None new = (room - at.end < length (item_bytes bytes)) × (new ≡ old)
OffersBytes old at room bytes (Some next) new =
    (next ≡ record at { end = at.end + length (item_bytes bytes); count = at.count + 1 }) × (next.end ≤ room) × (take next.end new ≡ take at.end old ++ item_bytes bytes)

-- the same of a key
abbrev pub OffersKey : List ℕ → Filled → ℕ → Key → Option Filled → List ℕ → Type 0
OffersKey old at room key next new = OffersBytes old at room (bytes_of key) next new

-- the keys at the start that are of this namespace
abbrev pub own_keys : ℕ → List Key → List Key
own_keys space [] = []
own_keys space (k ∷ ks) = if space_of k == space then k ∷ own_keys space ks else []

-- the same of the first of these keys, if there is one; and the others remain
abbrev pub OffersFirst : List ℕ → Filled → ℕ → List Key → Option Filled → List ℕ → List Key → Type 0
OffersFirst old at room [] next new later = (next ≡ None) × (new ≡ old)
OffersFirst old at room (k ∷ ks) next new later = OffersKey old at room k next new × (later ≡ ks)

-- there is room for as many bytes as it says, in a buffer of this size
pub record IsFilled (at : Filled) (size : ℕ) : Type 0 where
  pub within : at.end ≤ at.room
  pub few : at.count ≤ at.end
  pub small : at.room ≤ MOST_LIST_BYTES
  pub enough : at.room ≤ size

-- whatever remained: its first key was written if it is of this namespace, or there is no room for it
abbrev pub OffersNext : Walk → Walk → BoardState → BoardState → Levels → Frames → LogState → ℕ → Filled → Option Filled → List ℕ → List ℕ → Type 0
OffersNext before after old new levels arena log space at next into into' =
    (rest : List (Key × Place)) → IsLeft before old.pages arena levels.runs log.active.entries log.frozen.entries rest
    → (later : List (Key × Place)) × OffersFirst into at at.room (own_keys space (keys_of rest)) next into' (own_keys space (keys_of later))
    × IsLeft after new.pages arena levels.runs log.active.entries log.frozen.entries later

-- A prefix of all the keys is in the buffer after the bytes of their count, and the others remain.
pub record Lists (all : List Key) (room : ℕ) (into : List ℕ) (at : Filled) (left : List Key) : Type 0 where
  pub done : List Key
  pub count_is : at.count ≡ length done
  pub end_is : at.end ≡ COUNT_BYTES + length (flat_map listed done)
  pub bytes : drop COUNT_BYTES (take at.end into) ≡ flat_map listed done
  pub fits : fitting (room - COUNT_BYTES) all ≡ done ++ fitting (room - at.end) left

-- the keys that fit are there
pub record ListsAll (all : List Key) (room : ℕ) (into : List ℕ) (at : Filled) : Type 0 where
  pub count_is : at.count ≡ length (fitting (room - COUNT_BYTES) all)
  pub end_is : at.end ≡ COUNT_BYTES + length (flat_map listed (fitting (room - COUNT_BYTES) all))
  pub bytes : drop COUNT_BYTES (take at.end into) ≡ flat_map listed (fitting (room - COUNT_BYTES) all)

-- A List was answered with these bytes, or a read failed; nothing was done but reads.
pub record ListsInto (old new : BoardState) (o : Outcome) (into bytes : List ℕ) : Type 0 where
  pub runs : o.stopped ≡ false
  pub result_is : o.result ≡ 0
  pub board_is : new ≡ record old { reads = new.reads; flash_faults = new.flash_faults; read_faults = new.read_faults; failed_at = new.failed_at }
  pub reads : new.reads ≡ reads_after old.reads o.reads
  pub up : old.read_faults ≤ new.read_faults
  pub flash_up : old.flash_faults ≤ last_count → old.flash_faults ≤ new.flash_faults
  pub answered : ((o.status ≡ SUCCESSFUL_COMPLETION) × (take o.data_len into ≡ bytes) × NoFault old new) ⊎ ((o.status ≡ UNRECOVERED_ERROR) × (o.data_len ≡ 0) × Rose old.read_faults new.read_faults)
