-- What a word asks of two ports, and what it says of their maps.
use Rattle.std.specs.Prelude.{◌≡◌, ◌⊎◌, ℕ, ◌+◌, ◌≤◌, List, [], ◌∷◌, ◌++◌, Option, Some, None, Result, Ok, Err, false}
use Rattle.std.{specs.List.AllByRecursion, specs.FinMap.len}
use Rattle.pk_base.{specs.Shape.limit, specs.Map.Map}
use Rattle.pk_nvme.{specs.Command.Command, specs.declared.opcode.TheConstants.STORE, specs.declared.opcode.TheConstants.DELETE, specs.declared.status.TheConstants.UNRECOVERED_ERROR}
use Rattle.pk_nand.specs.Calls.{Rose}
use Rattle.pk_host.{specs.Port.PortState, specs.Outcomes.AtMostOne, specs.Outcomes.TookSome}
use Rattle.pk_words.specs.Lines.{failed_line, status_line}
use Rattle.pk_mirror.{specs.Pair.Mirrored, specs.Pair.IsPair, specs.Causes.AreAsking, specs.Causes.BothAsked, specs.declared.error.MirrorError.MirrorError}
use Rattle.pk_mirror.specs.Spending.{OnlyLooks, LooksOrChanges, opcode_count, OnlyDiffering, AllDiffering}
use Rattle.pk_mirror.specs.declared.error.MirrorError.TheVariants.{Refused, Port, Split}
use Rattle.pk_mirrorwords.specs.PairTasks.{PairTask, change_of, map_left, text_of}

-- a pair of which the maps are known, and whose limit is at most that of their shape
pub record IsToldPair (mirror : Mirrored) (first second : PortState) : Type 0 where
  pub pair : IsPair mirror first second
  pub limit_most : first.limit ≤ limit first.shape
  pub map : Map
  pub told : first.map ≡ Some map

-- the same in step
pub record IsInStep (mirror : Mirrored) (first second : PortState) : Type 0 where
  pub pair : IsToldPair mirror first second
  pub in_step : mirror.split ≡ false

-- a read of either drive failed
abbrev pub PairUnread : PortState → PortState → PortState → PortState → Type 0
PairUnread first first' second second' = Rose first.read_faults first'.read_faults ⊎ Rose second.read_faults second'.read_faults

-- a port failed
abbrev pub PairFault : PortState → PortState → PortState → PortState → Type 0
PairFault first first' second second' = Rose first.port_faults first'.port_faults ⊎ Rose second.port_faults second'.port_faults

-- The word was done: the text is the definition's, and both drives hold the map that the word leaves.
pub record PairDone (task : PairTask) (first first' second' : PortState) (m : Map) (text : List ℕ) : Type 0 where
  pub spelled : text ≡ text_of first.shape first.limit task m
  pub first_left : first'.map ≡ Some (map_left first.shape (first.limit ∷ []) task m)
  pub second_left : second'.map ≡ Some (map_left first.shape (first.limit ∷ []) task m)

-- that, after commands of which this is said; or a read failed and the text says so
abbrev pub PairSaid : Type 0 → PairTask → PortState → PortState → PortState → PortState → Map → List ℕ → Type 0
PairSaid asked task first first' second second' m text =
    (asked × PairDone task first first' second' m text) ⊎ (PairUnread first first' second second' × (text ≡ failed_line))

-- Why a word has no answer: a drive refused its command by the definition, or for a read that failed; or a port failed.
abbrev pub PairFails : PairTask → PortState → PortState → PortState → PortState → Map → MirrorError → Type 0
PairFails task first first' second second' m (Refused side status) =
    PairDone task first first' second' m (status_line status) ⊎ (PairUnread first first' second second' × (status ≡ UNRECOVERED_ERROR))
PairFails task first first' second second' m (Port side) = PairFault first first' second second'
PairFails task first first' second second' m Split = PairFault first first' second second'

-- The word was not begun, as the resync before it failed: a read of either drive failed, or a port did.
abbrev pub ResyncFails : PortState → PortState → PortState → PortState → Result (Unit {0}) MirrorError → Type 0
ResyncFails first first' second second' (Ok done) = ⊥
ResyncFails first first' second second' (Err (Refused side status)) = PairUnread first first' second second' × (status ≡ UNRECOVERED_ERROR)
ResyncFails first first' second second' (Err (Port side)) = PairFault first first' second second'
ResyncFails first first' second second' (Err Split) = PairFault first first' second second'

-- ---- the commands

-- at most the one command that changes the maps
abbrev pub AreChange : Option Command → List Command → Type 0
AreChange None cs = cs ≡ []
AreChange (Some c) cs = AtMostOne c cs

-- Of a word alone: Lists and Retrieves, then at most the command that changes the maps. So is all that the first drive is asked for.
pub record AreOfWord (task : PairTask) (cs : List Command) : Type 0 where
  pub asks : List Command
  pub change : List Command
  pub asking : AreAsking asks
  pub changing : AreChange (change_of task) change
  pub are : cs ≡ asks ++ change

-- commands that look, or delete or store in the first namespace
abbrev pub AreOfPair : List Command → Type 0
AreOfPair cs = AllByRecursion LooksOrChanges cs

-- On the second drive, where the first has the map a and the second b: the commands of a resync, or the first of them, and then those of the word.
-- The resync deletes and stores no key but those of which both maps differ, each at most once, and if the maps are the same it only looks.
pub record AreOfSecond (task : PairTask) (a b : Map) (cs : List Command) : Type 0 where
  pub resync : List Command
  pub word : List Command
  pub differing : OnlyDiffering a b resync
  pub quiet : a ≡ b → AllByRecursion OnlyLooks resync
  pub asking : AreOfWord task word
  pub are : cs ≡ resync ++ word
  pub only : AreOfPair cs
  pub few : opcode_count DELETE cs + opcode_count STORE cs ≤ len a + len b + 1

-- The same of a word that was done: the resync deletes exactly the keys of the second that the first lacks or has with another value, and stores
-- exactly those that the second then lacks.
pub record AreWholeOfSecond (task : PairTask) (a b : Map) (cs : List Command) : Type 0 where
  pub parts : AreOfSecond task a b cs
  pub all : AllDiffering a b parts.resync

-- the same of two ports, if their maps are known
pub record AsksSecond (task : PairTask) (first second : PortState) (cs : List Command) : Type 0 where
  pub only : AreOfPair cs
  pub known : (a b : Map) → first.map ≡ Some a → second.map ≡ Some b → AreOfSecond task a b cs

abbrev pub AsksAllOfSecond : PairTask → PortState → PortState → List Command → Type 0
AsksAllOfSecond task first second cs = (a b : Map) → first.map ≡ Some a → second.map ≡ Some b → AreWholeOfSecond task a b cs

-- Each port took at least one command, and the second was asked for all that differed.
pub record PairAsked {P Q : Type 0} (tookP : P → List Command → P → Type 0) (tookQ : Q → List Command → Q → Type 0) (task : PairTask) (a b : PortState) (first first' : P) (second second' : Q) : Type 0 where
  pub both : BothAsked tookP tookQ first first' second second'
  pub whole : TookSome tookQ (AsksAllOfSecond task a b) second second'
