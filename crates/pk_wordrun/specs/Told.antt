-- What a word did to a board, from the opened drive on.
use Rattle.std.specs.Prelude.{◌≡◌, ℕ, ◌+◌, ◌*◌, ◌≤◌, ◌<◌, ◌==◌, List, [], ◌∷◌, Bool, true, false, not}
use Rattle.std.specs.List.{AllByRecursion}
use Rattle.pk_base.{specs.Shape.Shape, specs.Map.Map}
use Rattle.pk_nvme.specs.Command.{Command}
use Rattle.pk_nand.{specs.BoardState.BoardState, specs.Calls.Rose, specs.Calls.longer, specs.Resting.RestsFlash}
use Rattle.pk_model.{specs.Growth.Goes, specs.Reading.Holds, specs.Wear.is_worn, specs.Wear.roots, specs.Spaces.Terms}
use Rattle.pk_call.specs.Meter.{meter}
use Rattle.pk_serve.specs.Ends.{NoFaults}
use Rattle.pk_gen.specs.Workload.{workload}
use Rattle.pk_port.specs.Asking.{Asked, Ran}
use Rattle.pk_words.{specs.Listing.asked_at, specs.Listing.start_at, specs.Question.command_of, specs.declared.listing.ListPosition.ListPosition}
use Rattle.pk_wordrun.specs.Tasks.{Task, answer, list, generate, only_asks, SaysTask, KeptTask}
use Rattle.pk_wordrun.specs.declared.end.WordEnd.{WordEnd}
use Rattle.pk_wordrun.specs.declared.end.WordEnd.TheVariants.{Done, Output, Flash, Worn}

-- a command begins: each word has one, but a workload of none
abbrev pub has_command : Task → Bool
has_command (answer q) = true
has_command (list from) = true
has_command (generate begin count) = not (count == 0)

-- the commands of a word that is done, on a drive of this shape: a list has one for each piece
abbrev pub AreOf : Task → Shape → List Command → Type 0
AreOf (answer q) shape cs = cs ≡ command_of shape q ∷ []
AreOf (list from) shape cs = (more : List Command) × (cs ≡ asked_at (start_at from) ∷ more) × AllByRecursion (λ c. (place : ListPosition) × (c ≡ asked_at place)) more
AreOf (generate begin count) shape cs = cs ≡ workload begin count

-- The word is done: its commands were answered, each with an exact number of reads, its text went out, and the flash holds the map that it leaves.
-- A drive that is worn begins no command.
pub record WordDone (task : Task) (shape : Shape) (terms : Terms) (start : Map) (a b : BoardState) : Type 0 where
  pub left : Map
  pub asked : List Command
  pub are : AreOf task shape asked
  pub answered : Ran shape terms start asked (meter a) (meter b) left
  pub text : List ℕ
  pub says : SaysTask task a.read_faults b.read_faults shape terms start answered.all text left
  pub posted : b.posted ≡ longer a.posted text
  pub holds : Holds shape b.pages left
  pub sound : NoFaults a b
  pub unworn : has_command task ≡ true → is_worn a ≡ false

-- A command remains: fewer commands of a workload than all were answered; of another word none was, and nothing was done.
abbrev pub CommandRemains : Task → Shape → Terms → Map → BoardState → BoardState → Type 0
CommandRemains (answer q) shape terms start a b = b ≡ a
CommandRemains (list from) shape terms start a b = b ≡ a
CommandRemains (generate begin count) shape terms start a b = (k : ℕ) × (k < count) × Asked shape terms start a b (workload begin k)

-- how it ended, and why
abbrev pub EndsBy : Task → Shape → Terms → Map → BoardState → BoardState → WordEnd → Type 0
EndsBy task shape terms start a b Done = WordDone task shape terms start a b
EndsBy task shape terms start a b Output = Rose a.out_faults b.out_faults
EndsBy task shape terms start a b Flash = Rose a.stop_faults b.stop_faults
EndsBy task shape terms start a b Worn = (is_worn b ≡ true) × NoFaults a b × CommandRemains task shape terms start a b

-- the input was not touched
pub record KeepsInput (a b : BoardState) : Type 0 where
  pub input : b.input ≡ a.input
  pub in_faults : b.in_faults ≡ a.in_faults

-- most roots that a command of the workload installs: a Tick one for each of its 16 steps, another fewer
abbrev pub turn_roots : ℕ
turn_roots = 16

-- most roots that the commands of a word install; a question that begins is the only one, and a list installs none
abbrev pub most_roots : Task → ℕ
most_roots (answer q) = 0
most_roots (list from) = 0
most_roots (generate begin count) = turn_roots * count

-- Wherever it was cut it was kept, and it ended so. A word that only asks changes no page of the flash.
pub record Told (task : Task) (shape : Shape) (terms : Terms) (start : Map) (a b : BoardState) (end : WordEnd) : Type 0 where
  pub kept : Goes shape a b (KeptTask task (meter a) (meter b) shape terms start)
  pub rests : only_asks task ≡ true → RestsFlash a b
  pub ends : EndsBy task shape terms start a b end
  pub used : end ≡ Worn → roots b ≤ roots a + most_roots task
  pub input : KeepsInput a b
