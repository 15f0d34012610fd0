-- A page of a run is read into a frame, in a drive.
use Rattle.std.specs.Prelude.{◌≡◌, List, [], length, Bool, not, ◌==◌}
use Rattle.pk_base.specs.Entry.{Entry}
use Rattle.pk_nand.specs.BoardState.{BoardState}
use Rattle.pk_level.{specs.Levels.RunsOnFlash, specs.Arenas.FillsOne, specs.Arenas.FillsNone, specs.Arenas.HasArena, specs.Arenas.unfilled}
use Rattle.pk_parts.specs.Parts.{Parts, frames_of}

-- a page of a level that may have frames for all its pages has none
abbrev pub lacks_frames : Parts → Bool
lacks_frames d = not (unfilled d.levels (frames_of d) == 0)

-- One of them was read into a frame. The runs have the same entries, and nothing else changed.
pub record FillsSpare (before after : Parts) (old new : BoardState) : Type 0 where
  pub fills : FillsOne before.levels before.arena old after.levels after.arena new
  pub rest : after ≡ record before { levels = after.levels; arena = after.arena }
  pub stand : (ess : List (List Entry)) → RunsOnFlash old.pages before.arena before.levels.runs ess → RunsOnFlash new.pages after.arena after.levels.runs ess
  pub arena : HasArena after.levels.shape (length after.arena.used) after.levels after.arena []
