-- What was answered of a script, and how many roots were installed meanwhile.
use Rattle.std.specs.Prelude.{◌≡◌, ◌≢◌, ◌⊎◌, ℕ, ◌+◌, ◌≤◌, List, [], ◌∷◌, ◌++◌, take}
use Rattle.pk_base.{specs.Shape.Shape, specs.Map.Map}
use Rattle.pk_nvme.specs.Command.{Command}
use Rattle.pk_nand.{specs.BoardState.BoardState, specs.Calls.longer}
use Rattle.pk_model.{specs.Run.Exchange, specs.Run.RunWithin, specs.Run.commands, specs.Run.records, specs.Spaces.Terms}
use Rattle.pk_call.{specs.Meter.Meter, specs.Meter.meter, specs.Meter.MeteredAll, specs.Meter.reads_after, specs.Exec.most_installs}
use Rattle.pk_serve.specs.Calling.{calls_of, most_calls_of_all}

-- most roots that these commands install
abbrev pub installs : List Command → ℕ
installs [] = 0
installs (c ∷ cs) = most_installs c.opcode c.size + installs cs

-- A prefix of these commands was answered, each with its number of reads, and what was posted is a prefix of their records. After them nothing
-- was read, but by the command in which the run ended; that one, at most, made calls in addition to those that were answered.
pub record Answered (shape : Shape) (terms : Terms) (start : Map) (a b : BoardState) (cs : List Command) : Type 0 where
  pub served : List Exchange
  pub unserved : List Command
  pub from_front : commands served ++ unserved ≡ cs
  pub left : Map
  pub ran : RunWithin shape terms start served left
  pub last : Meter
  pub metered : MeteredAll (meter a) served last
  pub behind : (b.reads ≡ last.reads) ⊎ ((more : ℕ) × (b.reads ≡ reads_after last.reads more) × (unserved ≢ []))
  pub up : last.read_faults ≤ b.read_faults
  pub few_calls : calls_of b ≤ calls_of a + most_calls_of_all shape (commands served ++ take 1 unserved)
  pub posted : List ℕ
  pub unposted : List ℕ
  pub begins : posted ++ unposted ≡ records 0 served
  pub posted_are : b.posted ≡ longer a.posted posted
