-- What is taken of the input.
use Rattle.std.specs.Prelude.{◌≡◌, ◌≢◌, ◌⊎◌, ℕ, ◌<◌, ◌≤◌, ◌+◌, ◌-◌, take, List, [], ◌∷◌, ◌++◌, length, true, false, Bool, ◌==◌, if◌then◌else◌}
use Rattle.pk_nvme.{specs.declared.opcode.TheConstants.STORE, specs.Command.Command}
use Rattle.pk_nand.{specs.BoardState.BoardState, specs.Calls.Rose, specs.Calls.put_back, specs.Calls.AtEnd}
use Rattle.pk_model.{specs.Script.script, specs.Wear.is_worn}
use Rattle.pk_base.specs.Shape.{Shape}
use Rattle.pk_call.{specs.Sight.Sight, specs.Exec.IsValue, specs.Running.PassesValue}
use Rattle.pk_serve.{specs.Ends.IsFault, specs.Serving.CommandServed, specs.Serving.CommandStops, specs.declared.end.End.End}
use Rattle.pk_serve.specs.declared.end.End.TheVariants.{Done, Truncated, Input, Output, Flash, Worn}

-- a script after these commands
abbrev pub script_after : List Command → (List Command × List ℕ) → (List Command × List ℕ)
script_after cs rest = (cs ++ rest.0, rest.1)

-- the bytes are these commands, whatever follows
abbrev pub Spells : List ℕ → List Command → Type 0
Spells bytes cs = (left : List ℕ) → script (bytes ++ left) ≡ script_after cs (script left)

-- no whole command is in the bytes
abbrev pub IsPart : List ℕ → Type 0
IsPart bytes = script bytes ≡ ([], bytes)

-- These bytes were taken, no whole command. Nothing else changed but for a fault of the input.
pub record Left (old new : BoardState) (part : List ℕ) : Type 0 where
  pub input : old.input ≡ put_back part new.input
  pub is_part : IsPart part
  pub rest : new ≡ record old { input = new.input; in_faults = new.in_faults }

-- a command was taken and served
pub record InputAdvances (old new : BoardState) (before after : Sight) (held now_held : List ℕ) (taken : ℕ) : Type 0 where
  pub bytes : List ℕ
  pub c : Command
  pub input : old.input ≡ put_back bytes new.input
  pub spells : Spells bytes (c ∷ [])
  pub serves : CommandServed old new before after held now_held taken c

-- a command was taken, and serving ended in it
pub record InputFails (old new : BoardState) (before : Sight) (held : List ℕ) (taken : ℕ) (end : End) : Type 0 where
  pub bytes : List ℕ
  pub c : Command
  pub input : old.input ≡ put_back bytes new.input
  pub spells : Spells bytes (c ∷ [])
  pub fault : IsFault end
  pub stops : CommandStops old new before held taken end c

-- the input is read to its end
pub record FindsEnd (old new : BoardState) : Type 0 where
  pub left : Left old new []
  pub same : new.in_faults ≡ old.in_faults
  pub at_end : AtEnd new.input

-- it ends inside a command
pub record BreaksOff (old new : BoardState) : Type 0 where
  pub part : List ℕ
  pub left : Left old new part
  pub some : part ≢ []
  pub same : new.in_faults ≡ old.in_faults
  pub at_end : AtEnd new.input

-- it failed
pub record FailsAt (old new : BoardState) : Type 0 where
  pub part : List ℕ
  pub left : Left old new part
  pub rose : Rose old.in_faults new.in_faults

-- another command begins, and no more are taken
pub record RefusesMore (old new : BoardState) : Type 0 where
  pub part : List ℕ
  pub some : part ≢ []
  pub input : old.input ≡ put_back part new.input
  pub rest : new ≡ record old { input = new.input }

-- how no command was taken; none if no more are to be taken
abbrev pub NoEntry : BoardState → BoardState → Bool → End → Type 0
NoEntry old new no_more Done = FindsEnd old new
NoEntry old new no_more Truncated = BreaksOff old new × (no_more ≡ false)
NoEntry old new no_more Input = (f : FailsAt old new) × (f.part ≢ [] → no_more ≡ false)
NoEntry old new no_more Output = ⊥
NoEntry old new no_more Flash = ⊥
NoEntry old new no_more Worn = RefusesMore old new × (no_more ≡ true)

-- an entry was taken
pub record Entered (old new : BoardState) (entry : List ℕ) : Type 0 where
  pub input : old.input ≡ put_back entry new.input
  pub rest : new ≡ record old { input = new.input }

-- ---- bytes that are taken in parts

-- at most n bytes were taken, fewer only at the end of the input
pub record Took (old new : BoardState) (size : ℕ) (bytes : List ℕ) : Type 0 where
  pub within : length bytes ≤ size
  pub input : old.input ≡ put_back bytes new.input
  pub ended : length bytes < size → AtEnd new.input
  pub rest : new ≡ record old { input = new.input }

-- the input failed after fewer bytes
pub record TookFailed (old new : BoardState) (size : ℕ) : Type 0 where
  pub bytes : List ℕ
  pub few : length bytes < size
  pub input : old.input ≡ put_back bytes new.input
  pub rose : Rose old.in_faults new.in_faults
  pub rest : new ≡ record old { input = new.input; in_faults = new.in_faults }

-- the bytes are in a buffer after what was there
pub record Filled (old new : BoardState) (from n : ℕ) (before into : List ℕ) : Type 0 where
  pub bytes : List ℕ
  pub took : Took old new (length before - from) bytes
  pub count : n ≡ from + length bytes
  pub stand : take n into ≡ take from before ++ bytes

-- the bytes were passed over
pub record Skipped (old new : BoardState) (size n : ℕ) : Type 0 where
  pub bytes : List ℕ
  pub took : Took old new size bytes
  pub count : n ≡ length bytes

-- The value after an entry was taken, and this is passed to the drive.
pub record Valued (old new : BoardState) (shape : Shape) (opcode size : ℕ) (handed : List ℕ) : Type 0 where
  pub value : List ℕ
  pub whole : length value ≡ (if opcode == STORE then size else 0)
  pub is_value : IsValue shape opcode size handed value
  pub is_handed : PassesValue shape opcode size handed
  pub input : old.input ≡ put_back value new.input
  pub rest : new ≡ record old { input = new.input }

-- the input ends inside it
pub record NoValue (old new : BoardState) (opcode size : ℕ) : Type 0 where
  pub bytes : List ℕ
  pub few : length bytes < (if opcode == STORE then size else 0)
  pub input : old.input ≡ put_back bytes new.input
  pub at_end : AtEnd new.input
  pub rest : new ≡ record old { input = new.input }

-- how a command was not served
abbrev pub Quits : BoardState → BoardState → Sight → List ℕ → ℕ → End → Type 0
Quits old new before held taken end = NoEntry old new (is_worn old) end ⊎ InputFails old new before held taken end
