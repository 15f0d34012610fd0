-- What commands through a port have made of a board, and what every cut of it leaves.
use Rattle.std.specs.Prelude.{◌≡◌, ◌⊎◌, ℕ, ◌≤◌, List, [], ◌++◌, Option, Some}
use Rattle.pk_base.{specs.Shape.Shape, specs.Page.Flash, specs.Map.Map}
use Rattle.pk_nvme.specs.Command.{Command}
use Rattle.pk_nand.{specs.BoardState.BoardState, specs.Effects.OnlyFlash}
use Rattle.pk_model.{specs.Growth.Reaches, specs.Kept.Kept, specs.Kept.AtMost, specs.Kept.rise, specs.Reading.Holds, specs.Run.Exchange, specs.Run.commands, specs.Run.RunWithin, specs.Run.faults}
use Rattle.pk_model.specs.Spaces.{Terms, limits_at}
use Rattle.pk_call.specs.Meter.{Meter, meter, MeteredAll}

-- the flash holds the map after a prefix of the commands, and no byte was posted
abbrev pub KeptSilently : Shape → Terms → Map → List Command → Option ℕ → Flash → List ℕ → Type 0
KeptSilently shape terms start cs n flash posted = (posted ≡ []) × Kept shape terms start cs n [] flash

-- These commands were answered so, from one map to another: the number of reads of each is exact, and each begins with the counts with which the
-- one before it ended.
pub record Ran (shape : Shape) (terms : Terms) (start : Map) (cs : List Command) (from to : Meter) (left : Map) : Type 0 where
  pub all : List Exchange
  pub are : commands all ≡ cs
  pub ran : RunWithin shape terms start all left
  pub few : AtMost (rise from.read_faults to.read_faults) (faults all)
  pub metered : MeteredAll from all to

-- These commands were served from one state of a board to a later one, and the flash holds the map after them, within the same limits. Wherever it was cut, it was kept.
pub record Asked (shape : Shape) (terms : Terms) (start : Map) (a b : BoardState) (cs : List Command) : Type 0 where
  pub left : Map
  pub answered : Ran shape terms start cs (meter a) (meter b) left
  pub held : Holds shape b.pages left
  pub same_limits : limits_at shape b.pages ≡ terms.limits
  pub shape_is : a.shape ≡ Some shape
  pub reached : Reaches shape a b (KeptSilently shape terms start cs (rise a.read_faults b.read_faults))
  pub rose : a.read_faults ≤ b.read_faults
  pub no_stop : b.stop_faults ≡ a.stop_faults
  pub rest : OnlyFlash a b

-- if a byte was posted, the flash holds the map after all commands, and what was posted begins a text that is said of their answers and both maps
pub record SaidAll (Says : List Exchange → List ℕ → Map → Type 0) (shape : Shape) (terms : Terms) (start : Map) (cs : List Command) (from to : Meter) (flash : Flash) (posted : List ℕ) : Type 0 where
  pub left : Map
  pub answered : Ran shape terms start cs from to left
  pub held : Holds shape flash left
  pub text : List ℕ
  pub says : Says answered.all text left
  pub unposted : List ℕ
  pub front : posted ++ unposted ≡ text

-- What every cut of a word keeps: the flash holds the map after a prefix of the word's commands, and if a byte was posted, after all of them.
abbrev pub KeptWord : (List Exchange → List ℕ → Map → Type 0) → Shape → Terms → Map → List Command → Meter → Meter → Flash → List ℕ → Type 0
KeptWord Says shape terms start cs from to flash posted =
    Kept shape terms start cs (rise from.read_faults to.read_faults) [] flash × ((posted ≡ []) ⊎ SaidAll Says shape terms start cs from to flash posted)
