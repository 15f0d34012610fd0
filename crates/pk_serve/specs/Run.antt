-- What is said of a run as a whole.
use Rattle.std.specs.Prelude.{◌≡◌, ◌≢◌, ◌⊎◌, ◌≤◌, ◌+◌, ℕ, List, [], ◌++◌, length, Some, true, false}
use Rattle.pk_base.{specs.Shape.Shape, specs.Map.Map}
use Rattle.pk_nvme.specs.Command.{Command}
use Rattle.pk_nand.{specs.BoardState.BoardState, specs.Calls.Rose, specs.Calls.longer, specs.Calls.AtEnd}
use Rattle.pk_model.{specs.Run.Exchange, specs.Run.RunWithin, specs.Run.commands, specs.Run.records, specs.Run.faults, specs.Reading.Holds, specs.Kept.AtMost, specs.Kept.rise, specs.Script.script}
use Rattle.pk_model.{specs.Wear.is_worn, specs.Growth.Goes, specs.Spaces.Terms}
use Rattle.pk_call.{specs.Sight.Sight, specs.Drive.HoldsMap, specs.Meter.meter, specs.Meter.MeteredAll}
use Rattle.pk_serve.{specs.Ends.NoFaults, specs.Serving.KeptAt, specs.Answered.Answered, specs.Calling.calls_of, specs.Calling.most_calls_of_all, specs.declared.end.End.End}
use Rattle.pk_serve.specs.declared.end.End.TheVariants.{Done, Truncated, Input, Output, Flash, Worn}
use Rattle.pk_serve.specs.Further.{most_entries, TakesMore}

-- The headline: every cut keeps what was served of the script, and from each state of the trail to the next the tree grows.
abbrev pub KeepsScript : BoardState → BoardState → Sight → Type 0
KeepsScript a b before =
    (shape : Shape) (terms : Terms) (start : Map) → HoldsMap shape terms a before start → before.pending ≡ []
    → (input : List ℕ) → a.input ≡ Some input → Goes shape a b (KeptAt shape terms start (script input).0 (rise a.read_faults b.read_faults))

-- the same if the input is not recorded
abbrev pub KeepsSome : BoardState → BoardState → Sight → Type 0
KeepsSome a b before =
    (shape : Shape) (terms : Terms) (start : Map) → HoldsMap shape terms a before start → before.pending ≡ []
    → (cs : List Command) × Goes shape a b (KeptAt shape terms start cs (rise a.read_faults b.read_faults))

-- Whether it fails or not, no more flash operations are made than the commands of the script may make.
abbrev pub CallsWithin : BoardState → BoardState → Sight → Type 0
CallsWithin a b before =
    (shape : Shape) (terms : Terms) (start : Map) → HoldsMap shape terms a before start → before.pending ≡ []
    → (input : List ℕ) → a.input ≡ Some input → calls_of b ≤ calls_of a + most_calls_of_all shape (script input).0

-- These, no more than a run takes, were served, each from a drive that was not worn, with exactly their records posted, and the flash holds the map after them.
pub record Served (shape : Shape) (terms : Terms) (start : Map) (a b : BoardState) (cs : List Command) : Type 0 where
  pub served : List Exchange
  pub are : commands served ≡ cs
  pub left : Map
  pub ran : RunWithin shape terms start served left
  pub posted : b.posted ≡ longer a.posted (records 0 served)
  pub holds : Holds shape b.pages left
  pub few_faults : AtMost (rise a.read_faults b.read_faults) (faults served)
  pub metered : MeteredAll (meter a) served (meter b)
  pub few_calls : calls_of b ≤ calls_of a + most_calls_of_all shape cs
  pub no_faults : NoFaults a b
  pub few : length cs ≤ most_entries

-- Which commands were served, by the end: all of the script; all of it, and more bytes; those whole in the bytes that were taken; those before
-- another one that begins; those before the one in which a call failed, or a prefix of them.
abbrev pub ServedBy : Shape → Terms → Map → BoardState → BoardState → List ℕ → End → Type 0
ServedBy shape terms start a b input Done =
    (script input ≡ ((script input).0, [])) × Served shape terms start a b (script input).0 × AtEnd b.input × (b.in_faults ≡ a.in_faults)
ServedBy shape terms start a b input Truncated =
    ((script input).1 ≢ []) × TakesMore b (length (script input).0) × Served shape terms start a b (script input).0 × AtEnd b.input × (b.in_faults ≡ a.in_faults)
ServedBy shape terms start a b input Input =
    (taken : List ℕ) × (left : List ℕ) × (b.input ≡ Some left) × (input ≡ taken ++ left) × Served shape terms start a b (script taken).0
    × ((script taken).1 ≢ [] → TakesMore b (length (script taken).0)) × Rose a.in_faults b.in_faults
ServedBy shape terms start a b input Worn =
    (bytes : List ℕ) × (more : List ℕ) × (input ≡ bytes ++ more) × (more ≢ []) × (script bytes ≡ ((script bytes).0, [])) × Served shape terms start a b (script bytes).0
    × ((length (script bytes).0 ≡ most_entries) ⊎ (is_worn b ≡ true)) × (b.in_faults ≡ a.in_faults)
ServedBy shape terms start a b input Output = Rose a.out_faults b.out_faults × Answered shape terms start a b (script input).0
ServedBy shape terms start a b input Flash = Rose a.stop_faults b.stop_faults × Answered shape terms start a b (script input).0

abbrev pub Answers : BoardState → BoardState → Sight → End → Type 0
Answers a b before end =
    (shape : Shape) (terms : Terms) (start : Map) → HoldsMap shape terms a before start → before.pending ≡ []
    → (input : List ℕ) → a.input ≡ Some input → ServedBy shape terms start a b input end

-- The same if the input is not recorded: some commands were served, and each end has its cause.
abbrev pub ServedSome : Shape → Terms → Map → BoardState → BoardState → End → Type 0
ServedSome shape terms start a b Done = (cs : List Command) × Served shape terms start a b cs × (b.in_faults ≡ a.in_faults)
ServedSome shape terms start a b Truncated = (cs : List Command) × TakesMore b (length cs) × Served shape terms start a b cs × (b.in_faults ≡ a.in_faults)
ServedSome shape terms start a b Input = (cs : List Command) × Served shape terms start a b cs × Rose a.in_faults b.in_faults
ServedSome shape terms start a b Worn =
    (cs : List Command) × Served shape terms start a b cs × ((length cs ≡ most_entries) ⊎ (is_worn b ≡ true)) × (b.in_faults ≡ a.in_faults)
ServedSome shape terms start a b Output = (cs : List Command) × Answered shape terms start a b cs × Rose a.out_faults b.out_faults
ServedSome shape terms start a b Flash = (cs : List Command) × Answered shape terms start a b cs × Rose a.stop_faults b.stop_faults

abbrev pub Causes : BoardState → BoardState → Sight → End → Type 0
Causes a b before end =
    (shape : Shape) (terms : Terms) (start : Map) → HoldsMap shape terms a before start → before.pending ≡ [] → ServedSome shape terms start a b end
