-- Reads alone, and what a lookup says.
use Rattle.std.specs.Prelude.{◌≡◌, ℕ, ◌+◌, ◌≤◌, Option}
use Rattle.pk_base.{specs.Entry.Place, specs.Key.Key, specs.Page.Flash, specs.Map.Map}
use Rattle.pk_rootfmt.specs.Root.{Root}
use Rattle.pk_nand.{specs.BoardState.BoardState, specs.Calls.Rose, specs.Calls.last_count}
use Rattle.pk_level.specs.Levels.{RunsOnFlash}
use Rattle.pk_model.specs.Found.{Found}
use Rattle.pk_law_steps.specs.Under.{IsUnder}
use Rattle.pk_log.specs.Logs.{LogOnFlash}
use Rattle.pk_parts.{specs.Parts.Parts, specs.Finding.IsPlaceIn}

-- at most this many pages were read, and nothing else was done
pub record ReadsOnly (old new : BoardState) (most : ℕ) : Type 0 where
  pub board : new ≡ record old { reads = new.reads }
  pub few : new.reads ≤ last_count
  pub up : old.reads ≤ new.reads
  pub within : new.reads ≤ old.reads + most

-- the same if the last of the reads failed
pub record ReadsFailing (old new : BoardState) (most : ℕ) : Type 0 where
  pub board : new ≡ record old { reads = new.reads; flash_faults = new.flash_faults; read_faults = new.read_faults; failed_at = new.failed_at }
  pub few : new.reads ≤ last_count
  pub up : old.reads ≤ new.reads
  pub within : new.reads ≤ old.reads + most
  pub rose : Rose old.read_faults new.read_faults
  pub flash : Rose old.flash_faults new.flash_faults

-- what a lookup of a drive says of its map
abbrev pub Looks : Parts → Flash → Key → Option Place → Type 0
Looks d flash key p =
    (top : ℕ × Root) (found : Found) (m : Map) → LogOnFlash d.log flash top found → RunsOnFlash flash d.arena d.levels.runs found.runs → IsUnder d.log.shape flash d.log.pending top found m
    → IsPlaceIn d.log.shape flash found d.log.pending m key p
