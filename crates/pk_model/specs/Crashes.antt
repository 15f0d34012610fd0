-- What a crash finds: the map that a flash holds when power is lost.
use Rattle.std.specs.Prelude.{◌≡◌, ◌⊎◌, ℕ, List, [], Result, Ok}
use Rattle.pk_base.{specs.Shape.Shape, specs.Page.Flash, specs.Map.Map, specs.Refusal.Refusal}
use Rattle.pk_nvme.specs.Command.{Command}
use Rattle.pk_model.{specs.Answer.map_after, specs.Reading.reading}

-- What a part of a run is to the map of the drive, which is that of the flash with the pending entries.
pub data Moment : Type 0 where
  -- a step of a freeze, a merge, a reclaim or an erase: the flash holds the map, and goes on to hold it
  background : Moment
  -- the pending entries go to the journal
  commit : Moment
  -- the map becomes this one
  change : Map → Moment
  -- the map becomes the one after this command, within these limits
  command : List ℕ → Command → Moment

-- What reading the flash of a crash may give, if it gave this before and the drive has the map m.
abbrev pub MayFind : Shape → Moment → Result Map Refusal → Map → Result Map Refusal → Type 0
MayFind shape background before m now = now ≡ Ok m
MayFind shape commit before m now = (now ≡ before) ⊎ (now ≡ Ok m)
MayFind shape (change after) before m now = (now ≡ before) ⊎ ((now ≡ Ok m) ⊎ (now ≡ Ok after))
MayFind shape (command limits c) before m now = (now ≡ before) ⊎ ((now ≡ Ok m) ⊎ (now ≡ Ok (map_after shape limits m c)))

-- A crash finds what the moment allows, and no byte was posted.
abbrev pub CrashFinds : Shape → Moment → Flash → Map → Flash → List ℕ → Type 0
CrashFinds shape moment start m flash posted = (posted ≡ []) × MayFind shape moment (reading shape start []) m (reading shape flash [])
