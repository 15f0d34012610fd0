-- A workload on a drive, from a first state of a board to a later one.
use Rattle.std.specs.Prelude.{◌≡◌, ℕ, ◌+◌, ◌*◌, ◌≤◌, List}
use Rattle.pk_base.{specs.Shape.Shape, specs.Map.Map}
use Rattle.pk_nand.specs.BoardState.{BoardState}
use Rattle.pk_model.{specs.Growth.Goes, specs.Kept.rise, specs.Run.Exchange, specs.Run.commands, specs.Wear.roots, specs.Spaces.Terms}
use Rattle.pk_call.specs.Sight.{Sight}
use Rattle.pk_gen.specs.Workload.{workload}
use Rattle.pk_port.{specs.Asking.Asked, specs.Asking.KeptSilently, specs.declared.halt.Halt.Halt}
use Rattle.pk_wordrun.{specs.Ends.end_of, specs.Grouped.Grouped, specs.Sums.Sums, specs.Tasks.generate, specs.Told.EndsBy, specs.Told.KeepsInput, specs.Told.turn_roots}
use Rattle.pk_wordrun.{specs.declared.end.WordEnd.TheVariants.Worn, specs.declared.summary.Summary.Summary}

-- The first `n` commands of the workload were answered, and are counted; entries of the last ones may be pending.
pub record Generating (begin count : ℕ) (shape : Shape) (terms : Terms) (start : Map) (a b : BoardState) (drive : Sight) (s : Summary) : Type 0 where
  pub all : List Exchange
  pub are : commands all ≡ workload begin count
  pub grouped : Grouped shape terms start a b drive all
  pub sums : Sums s all

-- This many commands of the workload were answered, and are counted.
pub record Generated (begin count : ℕ) (shape : Shape) (terms : Terms) (start : Map) (a b : BoardState) (s : Summary) : Type 0 where
  pub asked : Asked shape terms start a b (workload begin count)
  pub sums : Sums s asked.answered.all

-- One of n was not answered. Wherever it was cut, the flash holds the map after a prefix of the commands.
pub record Unfinished (begin count : ℕ) (shape : Shape) (terms : Terms) (start : Map) (a b : BoardState) (halt : Halt) : Type 0 where
  pub kept : Goes shape a b (KeptSilently shape terms start (workload begin count) (rise a.read_faults b.read_faults))
  pub ends : EndsBy (generate begin count) shape terms start a b (end_of halt)
  pub used : end_of halt ≡ Worn → roots b ≤ roots a + turn_roots * count
  pub input : KeepsInput a b
