-- A change of the map: a key gets a value, or loses its own.
use Rattle.std.specs.Prelude.{◌≡◌, ◌≤◌, ◌<◌, ℕ, List, length, Option, Some, Result, OnOk}
use Rattle.std.{specs.FinMap.insert, specs.FinMap.remove, specs.FinMap.Entries.find}
use Rattle.pk_base.{specs.Entry.Place, specs.Fields.AreBytes, specs.Key.Key, specs.Key.key_cmp, specs.Key.space_of, specs.Page.Flash, specs.Map.Map, specs.Map.live}
use Rattle.pk_base.specs.Shape.{Shape, limit, greatest, page_entries}
use Rattle.pk_nand.{specs.BoardState.BoardState, specs.declared.types.Fault.Fault, specs.Calls.IsReady}
use Rattle.pk_model.{specs.Steps.Step, specs.Spaces.in_space, specs.Spaces.limit_of, specs.Spaces.limits_at, specs.Growth.Reaches, specs.Growth.Goes, specs.Crashes.CrashFinds, specs.Crashes.change}
use Rattle.pk_law_steps.specs.Under.{places}
use Rattle.pk_parts.{specs.Parts.Parts, specs.Parts.frames_of, specs.Moves.StandsFor, specs.Moves.KeepsAll, specs.Staying.StaysOrOpens, specs.Staying.IsNoted, specs.Stopping.StoppedOn}
use Rattle.pk_background.specs.Emptying.{StepOrRead, OnRunning}

-- There is room for a value of a key: the key is of a namespace of the drive, whose live pages are within its limit with the value, and all
-- live pages are within theirs.
pub record HasRoomFor (shape : Shape) (flash : Flash) (m : Map) (key : Key) (value : List ℕ) : Type 0 where
  pub spaced : space_of key ≤ length (limits_at shape flash)
  pub own : live shape (in_space (space_of key) (insert m key value)) ≤ limit_of (limits_at shape flash) (space_of key)
  pub all : live shape (insert m key value) ≤ limit shape

-- A key may get a value: its value was at this place until now, or there was none, and there is room for the new one.
pub record MayPut (d : Parts) (shape : Shape) (flash : Flash) (m : Map) (key : Key) (value : List ℕ) (old : Option Place) : Type 0 where
  pub stands : StandsFor d shape flash m
  pub old_is : find key_cmp key (places stands.found d.log.pending) ≡ old
  pub bytes : AreBytes key
  pub room : HasRoomFor shape flash m key value

-- a key of a namespace of the drive has its value at this place, and may lose it
pub record MayTake (d : Parts) (shape : Shape) (flash : Flash) (m : Map) (key : Key) (old : Place) : Type 0 where
  pub stands : StandsFor d shape flash m
  pub old_is : find key_cmp key (places stands.found d.log.pending) ≡ Some old
  pub bytes : AreBytes key
  pub spaced : space_of key ≤ length (limits_at shape flash)

-- The drive represents the map after the change. At every cut the flash holds what it held, or the map before it, or the one after it.
pub record Changes (after : Parts) (shape : Shape) (m m' : Map) (old new : BoardState) : Type 0 where
  pub stands : StandsFor after shape new.pages m'
  pub cuts : Reaches shape old new (CrashFinds shape (change m') old.pages m)

-- the map changes so, wherever it may
abbrev pub ChangesAll : (Shape → Map → Type 0) → (Map → Map) → Parts → BoardState → BoardState → Type 0
ChangesAll May changed after old new = (shape : Shape) (m : Map) → May shape m → Changes after shape m (changed m) old new

-- the same of a call that stopped the drive
abbrev pub FailsToChange : (Shape → Map → Type 0) → (Map → Map) → BoardState → BoardState → Type 0
FailsToChange May changed old new = (shape : Shape) (m : Map) → May shape m → Goes shape old new (CrashFinds shape (change (changed m)) old.pages m)

-- ---- steps

-- what a put asks: the key may get the value, which is not too long
pub record CanPut (d : Parts) (board : BoardState) (key : Key) (value : List ℕ) (place : Option Place) : Type 0 where
  pub ready : IsReady board d.log.shape
  pub may : (m : Map) × MayPut d d.log.shape board.pages m key value place
  pub short : length value ≤ greatest d.log.shape
  pub few : length d.log.pending < page_entries d.log.shape

-- what a removal asks: the key may be taken
pub record CanTake (d : Parts) (board : BoardState) (key : Key) (place : Place) : Type 0 where
  pub ready : IsReady board d.log.shape
  pub may : (m : Map) × MayTake d d.log.shape board.pages m key place
  pub few : length d.log.pending < page_entries d.log.shape

-- A step that changes the map so, or fails by a call that stops the drive.
abbrev pub StepChanges : (Shape → Map → Type 0) → (Map → Map) → Parts → Parts → ℕ → BoardState → BoardState → Result Unit Fault → Type 0
StepChanges May changed before after most old new result =
    Step (λ (u : Unit). ChangesAll May changed after old new) (FailsToChange May changed old new) before.log.shape most old new result

-- Steps that change the map so, or a read of them failed and the map is unchanged.
abbrev pub StepsChange : (Shape → Map → Type 0) → (Map → Map) → Parts → Parts → ℕ → BoardState → BoardState → Result Unit Fault → Type 0
StepsChange May changed before after most old new result =
    StepOrRead (λ (u : Unit). ChangesAll May changed after old new) (KeepsAll before after old new) (FailsToChange May changed old new) before.log.shape most old new result

-- the key gets its value
abbrev pub StepPuts : Parts → Parts → ℕ → BoardState → BoardState → Key → List ℕ → Option Place → Result Unit Fault → Type 0
StepPuts before after most old new key value place result =
    StepChanges (λ shape m. MayPut before shape old.pages m key value place) (λ m. insert m key value) before after most old new result

abbrev pub PutsOrReads : Parts → Parts → ℕ → BoardState → BoardState → Key → List ℕ → Option Place → Result Unit Fault → Type 0
PutsOrReads before after most old new key value place result =
    StepsChange (λ shape m. MayPut before shape old.pages m key value place) (λ m. insert m key value) before after most old new result

-- the key loses it
abbrev pub StepTakes : Parts → Parts → ℕ → BoardState → BoardState → Key → Place → Result Unit Fault → Type 0
StepTakes before after most old new key place result =
    StepChanges (λ shape m. MayTake before shape old.pages m key place) (λ m. remove m key) before after most old new result

abbrev pub TakesOrReads : Parts → Parts → ℕ → BoardState → BoardState → Key → Place → Result Unit Fault → Type 0
TakesOrReads before after most old new key place result =
    StepsChange (λ shape m. MayTake before shape old.pages m key place) (λ m. remove m key) before after most old new result

-- the drive runs as before, and fewer entries are pending than a page of the journal takes
pub record StaysBetween (before after : Parts) : Type 0 where
  pub frames : frames_of after ≡ frames_of before
  pub stopped : after.stopped ≡ before.stopped
  pub same_shape : after.log.shape ≡ before.log.shape
  pub few : length after.log.pending < page_entries before.log.shape

-- What a put of a value of n pages leaves of a drive beside its map: the drive runs as before, the value is in the open block or in one that
-- was opened, or reclaims made room, the key's entry is noted, and a failure that is not a read stopped the drive.
pub record PutLeaves (before after : Parts) (key : Key) (count : ℕ) (result : Result Unit Fault) : Type 0 where
  pub stays : OnRunning (StaysBetween before after) result
  pub opens : OnRunning (StaysOrOpens before after count) result
  pub noted : OnOk result (IsNoted after key)
  pub stops : StoppedOn after result
