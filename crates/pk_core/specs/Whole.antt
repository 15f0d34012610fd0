-- Changes of the map, before which a pair may be half made.
use Rattle.std.specs.Prelude.{◌≡◌, ◌+◌, ◌≤◌, ◌<◌, ℕ, List, length, Option, Some, Result}
use Rattle.std.{specs.FinMap.insert, specs.FinMap.remove, specs.FinMap.Entries.find}
use Rattle.pk_base.{specs.Entry.Place, specs.Fields.AreBytes, specs.Key.Key, specs.Key.key_cmp, specs.Key.space_of, specs.Shape.Shape, specs.Shape.greatest, specs.Shape.page_entries, specs.Page.Flash}
use Rattle.pk_base.specs.Map.{Map}
use Rattle.pk_nand.{specs.BoardState.BoardState, specs.declared.types.Fault.Fault, specs.Calls.IsReady}
use Rattle.pk_law_work.specs.Calls.{room_calls, space_calls}
use Rattle.pk_model.{specs.Spaces.limits_at, specs.Crashes.change}
use Rattle.pk_law_steps.specs.Under.{places}
use Rattle.pk_parts.{specs.Parts.Parts, specs.Parts.pages_for, specs.Moves.StandsBetween}
use Rattle.pk_changes.specs.Changes.{HasRoomFor, PutLeaves, ChangesAll, FailsToChange}
use Rattle.pk_background.{specs.Costs.Spends, specs.Emptying.StepOrRead, specs.Spacing.SameMap}

-- A key may get a value: there is room for it.
pub record MayStore (d : Parts) (shape : Shape) (flash : Flash) (m : Map) (key : Key) (value : List ℕ) : Type 0 where
  pub stands : StandsBetween d shape flash m
  pub bytes : AreBytes key
  pub room : HasRoomFor shape flash m key value

-- a key of a namespace of the drive has its value at this place, and may lose it
pub record MayTakeBetween (d : Parts) (shape : Shape) (flash : Flash) (m : Map) (key : Key) (old : Place) : Type 0 where
  pub stands : StandsBetween d shape flash m
  pub old_is : find key_cmp key (places stands.found d.log.pending) ≡ Some old
  pub bytes : AreBytes key
  pub spaced : space_of key ≤ length (limits_at shape flash)

-- ---- for every map that the drive may represent

abbrev pub SameMapBetween : Parts → Parts → BoardState → BoardState → Type 0
SameMapBetween before after old new = (shape : Shape) (m : Map) → StandsBetween before shape old.pages m → SameMap after shape m old new

-- ---- steps

-- Steps that change the map so, with the second program of a pair that is half made, or a read of them failed and the map is unchanged.
abbrev pub ChangesOrReads : (Shape → Map → Type 0) → (Map → Map) → Parts → Parts → ℕ → BoardState → BoardState → Result Unit Fault → Type 0
ChangesOrReads May changed before after most old new result =
    StepOrRead (λ (u : Unit). ChangesAll May changed after old new) (SameMapBetween before after old new) (FailsToChange May changed old new) before.log.shape most old new result

-- the key gets the value
abbrev pub StoresWhole : Parts → Parts → ℕ → BoardState → BoardState → Key → List ℕ → Result Unit Fault → Type 0
StoresWhole before after most old new key value result =
    ChangesOrReads (λ shape m. MayStore before shape old.pages m key value) (λ m. insert m key value) before after most old new result

-- the key loses its value
abbrev pub TakesWhole : Parts → Parts → ℕ → BoardState → BoardState → Key → Place → Result Unit Fault → Type 0
TakesWhole before after most old new key place result =
    ChangesOrReads (λ shape m. MayTakeBetween before shape old.pages m key place) (λ m. remove m key) before after most old new result

-- What a Store did inside a command, with at most this many reads, flash operations and roots: to the map, and to the drive itself.
pub record StoresWithin (most calls most_roots : ℕ) (before after : Parts) (old new : BoardState) (key : Key) (value : List ℕ) (result : Result Unit Fault) : Type 0 where
  pub step : StoresWhole before after most old new key value result
  pub leaves : PutLeaves before after key (pages_for before value) result
  pub spends : Spends calls most_roots old new

-- most reads and roots of it: a lookup after the reclaims, and room for the entry
abbrev pub store_most : Shape → ℕ
store_most shape = space_calls shape + (4 + room_calls shape)

-- ---- what they ask

-- the key may get the value, which is not too long
pub record CanStore (d : Parts) (board : BoardState) (key : Key) (value : List ℕ) : Type 0 where
  pub ready : IsReady board d.log.shape
  pub may : (m : Map) × MayStore d d.log.shape board.pages m key value
  pub short : length value ≤ greatest d.log.shape
  pub few : length d.log.pending < page_entries d.log.shape

-- its value was at this place until now, or there was none
pub record CanStoreOver (d : Parts) (board : BoardState) (key : Key) (value : List ℕ) (place : Option Place) : Type 0 where
  pub can : CanStore d board key value
  pub old_is : find key_cmp key (places can.may.1.stands.found d.log.pending) ≡ place

-- the key may be taken
pub record CanTakeBetween (d : Parts) (board : BoardState) (key : Key) (place : Place) : Type 0 where
  pub ready : IsReady board d.log.shape
  pub may : (m : Map) × MayTakeBetween d d.log.shape board.pages m key place
  pub few : length d.log.pending < page_entries d.log.shape
