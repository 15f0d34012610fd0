-- An entry in memory: what must hold before it, so that the drive represents the map with it afterwards.
use Rattle.std.specs.Prelude.{◌≡◌, ℕ, ◌/◌, ◌≤◌, List, length, Option, Some, None, Result}
use Rattle.pk_base.{specs.Entry.Place, specs.Key.Key, specs.Shape.Shape, specs.Shape.charge, specs.Page.Flash, specs.EntryChecks.IsPlace}
use Rattle.pk_base.specs.Map.{Map}
use Rattle.pk_rootfmt.specs.Root.{Root}
use Rattle.pk_model.{specs.Found.Found, specs.Steps.Step}
use Rattle.pk_law_steps.specs.Under.{places}
use Rattle.pk_nand.{specs.BoardState.BoardState, specs.declared.types.Fault.Fault}
use Rattle.pk_values.{specs.Placed.HoldsValues, specs.Entries.IsInOpen}
use Rattle.pk_parts.{specs.Parts.Parts, specs.Agreeing.DriveOnFlashWith, specs.Moves.KeepsAll, specs.Moves.BreaksAll, specs.Moves.IsWritten}
use Rattle.pk_changes.specs.Changes.{MayPut}

-- A key is to have a value that was written into the open block and is in no map yet. Until now it had the one at old, or none.
pub record Puts (d : Parts) (shape : Shape) (flash : Flash) (m : Map) (key : Key) (value : List ℕ) (page : ℕ) (old : Option Place) : Type 0 where
  pub may : MayPut d shape flash m key value old
  pub written : IsWritten d shape flash key value page
  pub place : IsPlace shape (record { page = page; len = length value })
  pub in_open : IsInOpen shape d.values page (charge shape (length value))

-- the pages of a value at a place; none if there is none
abbrev pub pages_at : Shape → Option Place → ℕ
pages_at shape None = 0
pages_at shape (Some p) = charge shape p.len

-- whatever was under the root is still there, with the same places of values
abbrev pub KeepsFound : Parts → Parts → BoardState → BoardState → Type 0
KeepsFound before after old new =
    (shape : Shape) (top : ℕ × Root) (found : Found) (without all : Map) → DriveOnFlashWith before shape old.pages top found without all → DriveOnFlashWith after shape new.pages top found without all

-- A value was written that is in no map: it begins at this page, in the open block.
pub record IsPlaced (before after : Parts) (old new : BoardState) (key : Key) (value : List ℕ) (page : ℕ) : Type 0 where
  pub keeps : KeepsAll before after old new
  pub found : KeepsFound before after old new
  pub written : IsWritten after before.log.shape new.pages key value page
  pub place : IsPlace before.log.shape (record { page = page; len = length value })
  pub owned : HoldsValues after.pool (page / before.log.shape.block_pages)
  pub in_open : IsInOpen before.log.shape after.values page (charge before.log.shape (length value))

-- a step that writes it
abbrev pub StepPlaces : Parts → Parts → BoardState → BoardState → Key → List ℕ → Result ℕ Fault → Type 0
StepPlaces before after old new key value result =
    Step (λ (page : ℕ). IsPlaced before after old new key value page) (BreaksAll before old new) before.log.shape 0 old new result
