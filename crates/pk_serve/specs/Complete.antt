-- When every command of a script is served.
use Rattle.std.specs.Prelude.{◌≡◌, ◌<◌, ◌+◌, ℕ, List, [], ◌∷◌, length, Some, ◌==◌, if◌then◌else◌}
use Rattle.std.specs.List.{FoldsTo}
use Rattle.pk_nvme.{specs.declared.opcode.TheConstants.TICK, specs.Command.Command}
use Rattle.pk_base.{specs.Shape.Shape, specs.Map.Map}
use Rattle.pk_nand.{specs.BoardState.BoardState, specs.Calls.Rose, specs.Calls.longer}
use Rattle.pk_model.{specs.Answer.Answer, specs.Run.Exchange, specs.Run.commands, specs.Run.records, specs.Run.map_after_all, specs.Reading.Holds, specs.Script.script, specs.Wear.roots}
use Rattle.pk_model.specs.Spaces.{Terms}
use Rattle.pk_call.{specs.Sight.Sight, specs.Drive.HoldsMap}
use Rattle.pk_serve.{specs.declared.end.End.End, specs.declared.end.End.TheVariants.Done}

-- the steps that the Ticks of these commands ask for
abbrev pub ticks : List Command → ℕ
ticks [] = 0
ticks (c ∷ cs) = (if c.opcode == TICK then c.size else 0) + ticks cs

-- no count of faults rose
pub record NoneRose (a b : BoardState) : Type 0 where
  pub reads : Rose a.read_faults b.read_faults → ⊥
  pub stops : Rose a.stop_faults b.stop_faults → ⊥
  pub input : Rose a.in_faults b.in_faults → ⊥
  pub output : Rose a.out_faults b.out_faults → ⊥

-- Every command was answered by the definition, and its record posted; the flash holds the map after all of them.
pub record Complete (shape : Shape) (terms : Terms) (start : Map) (a b : BoardState) (cs : List Command) : Type 0 where
  pub served : List Exchange
  pub are : commands served ≡ cs
  pub ran : FoldsTo (λ m x m'. Answer shape terms m x.command x.reply m') start served (map_after_all shape terms.limits start cs)
  pub posted : b.posted ≡ longer a.posted (records 0 served)
  pub holds : Holds shape b.pages (map_after_all shape terms.limits start cs)

-- The newest root's number of a drive that is far from worn is below 2^62: half of the numbers before 2^63, from which on a drive is worn.
abbrev pub far_below : ℕ
far_below = 4611686018427387904

-- The steps that Ticks may request are fewer than 2^61: each installs at most one root, and what remains of a further 2^62 numbers is for the other
-- commands.
abbrev pub ticks_below : ℕ
ticks_below = 2305843009213693952

-- a script that is whole, of fewer than 2^32 entries, on a drive that is far from worn, if nothing fails
pub record IsServable (a b : BoardState) (cs : List Command) (rest : List ℕ) : Type 0 where
  pub whole : rest ≡ []
  pub few : length cs < 4294967296
  pub far_from_worn : roots a < far_below
  pub few_ticks : ticks cs < ticks_below
  pub none_rose : NoneRose a b

abbrev pub RunCompletes : BoardState → BoardState → Sight → End → Type 0
RunCompletes a b before end =
    (shape : Shape) (terms : Terms) (start : Map) → HoldsMap shape terms a before start → before.pending ≡ []
    → (input : List ℕ) → a.input ≡ Some input → IsServable a b (script input).0 (script input).1
    → (end ≡ Done) × Complete shape terms start a b (script input).0
