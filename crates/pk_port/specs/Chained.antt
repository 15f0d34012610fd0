-- What a chain of commands through a port did to the board as a whole.
use Rattle.std.specs.Prelude.{◌≡◌, ◌⊎◌, ℕ, ◌+◌, ◌≤◌, if◌then◌else◌, List, [], ◌∷◌, Some, false}
use Rattle.pk_base.{specs.Shape.Shape, specs.Map.Map}
use Rattle.pk_nvme.specs.Command.{Command}
use Rattle.pk_nand.{specs.Calls.Rose, specs.Effects.OnlyFlash}
use Rattle.pk_model.{specs.Growth.Goes, specs.Kept.rise, specs.Wear.roots}
use Rattle.pk_call.{specs.Calling.only_looks, specs.Exec.most_installs}
use Rattle.pk_port.{specs.Asking.KeptSilently, specs.Asking.Asked, specs.Steps.Standing, specs.Steps.HasCause, specs.declared.halt.Halt.Halt}

-- most roots that commands install: one that only looks installs none
abbrev pub installs_of : Command → ℕ
installs_of c = if only_looks c.opcode then 0 else most_installs c.opcode c.size

abbrev pub installs : List Command → ℕ
installs [] = 0
installs (c ∷ cs) = installs_of c + installs cs

-- All of the commands were served.
pub record AllServed (shape : Shape) (start : Map) (cs : List Command) (p q : Standing) : Type 0 where
  pub asked : Asked shape p.on.terms start p.on.board q.on.board cs
  pub going : q.on.stopped ≡ false
  pub same_terms : q.on.terms ≡ p.on.terms
  pub same_faults : q.faults ≡ p.faults
  pub same_halt : q.halt ≡ p.halt
  pub few : roots q.on.board ≤ roots p.on.board + installs cs

-- The drive was stopped by one of the commands, or its roots were used up before one and no command had stopped it.
abbrev pub WhyHalted : List Command → Standing → Standing → Type 0
WhyHalted cs p q =
    Rose p.on.board.stop_faults q.on.board.stop_faults
    ⊎ ((q.on.board.stop_faults ≡ p.on.board.stop_faults) × (q.on.stopped ≡ false) × (roots q.on.board ≤ roots p.on.board + installs cs))

-- One of them was not answered, and nothing was done after it. Wherever the board was cut, a prefix of the commands was kept.
pub record HaltedAt (shape : Shape) (start : Map) (cs : List Command) (p q : Standing) : Type 0 where
  pub halt : Halt
  pub is : q.halt ≡ Some halt
  pub cause : HasCause q.on halt
  pub kept : Goes shape p.on.board q.on.board (KeptSilently shape p.on.terms start cs (rise p.on.board.read_faults q.on.board.read_faults))
  pub rose : p.on.board.read_faults ≤ q.on.board.read_faults
  pub why : WhyHalted cs p q
  pub rest : OnlyFlash p.on.board q.on.board

-- one or the other
abbrev pub Chained : Shape → Map → List Command → Standing → Standing → Type 0
Chained shape start cs p q = AllServed shape start cs p q ⊎ HaltedAt shape start cs p q
