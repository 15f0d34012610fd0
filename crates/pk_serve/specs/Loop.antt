-- A run over the input while it goes on, and how it ends.
use Rattle.std.specs.Prelude.{◌≡◌, ◌≢◌, ◌⊎◌, ◌≤◌, ℕ, List, [], ◌++◌, length, true}
use Rattle.pk_base.{specs.Shape.Shape, specs.Map.Map}
use Rattle.pk_nvme.specs.Command.{Command}
use Rattle.pk_nand.{specs.BoardState.BoardState, specs.Calls.Rose, specs.Calls.put_back, specs.Calls.AtEnd}
use Rattle.pk_model.{specs.Run.Exchange, specs.Run.commands, specs.Wear.is_worn, specs.Spaces.Terms}
use Rattle.pk_call.{specs.Sight.Sight, specs.Drive.HoldsMap}
use Rattle.pk_serve.{specs.Ends.HasCause, specs.Serving.Serving, specs.Serving.Cutoff, specs.Input.Spells, specs.Input.IsPart, specs.declared.end.End.End}
use Rattle.pk_serve.specs.declared.end.End.TheVariants.{Done, Truncated, Input, Output, Flash, Worn}
use Rattle.pk_serve.specs.Further.{TakesMore, most_entries}

-- This many commands were taken from the input and served.
pub record Looping (shape : Shape) (terms : Terms) (start : Map) (a b : BoardState) (drive : Sight) (held : List ℕ) (taken : ℕ) : Type 0 where
  pub all : List Exchange
  pub m : Map
  pub bytes : List ℕ
  pub serving : Serving shape terms start a b drive held all m
  pub count : taken ≡ length all
  pub few : taken ≤ most_entries
  pub input : a.input ≡ put_back bytes b.input
  pub spells : Spells bytes (commands all)

-- All commands before these last bytes were served.
pub record Finished (shape : Shape) (terms : Terms) (start : Map) (a b : BoardState) (drive : Sight) (held part : List ℕ) : Type 0 where
  pub all : List Exchange
  pub m : Map
  pub bytes : List ℕ
  pub serving : Serving shape terms start a b drive held all m
  pub few : length all ≤ most_entries
  pub input : a.input ≡ put_back (bytes ++ part) b.input
  pub spells : Spells bytes (commands all)

-- The run failed in or after these commands, all taken whole.
pub record Failed (shape : Shape) (terms : Terms) (start : Map) (a b : BoardState) (end : End) : Type 0 where
  pub cs : List Command
  pub bytes : List ℕ
  pub part : List ℕ
  pub cutoff : Cutoff shape terms start a b cs
  pub input : a.input ≡ put_back (bytes ++ part) b.input
  pub spells : Spells bytes cs
  pub cause : HasCause a b end

pub record IsDone (shape : Shape) (terms : Terms) (start : Map) (a b : BoardState) (drive : Sight) (held : List ℕ) : Type 0 where
  pub finished : Finished shape terms start a b drive held []
  pub at_end : AtEnd b.input
  pub same : b.in_faults ≡ a.in_faults

pub record IsTruncated (shape : Shape) (terms : Terms) (start : Map) (a b : BoardState) (drive : Sight) (held : List ℕ) : Type 0 where
  pub part : List ℕ
  pub some : part ≢ []
  pub is_part : IsPart part
  pub finished : Finished shape terms start a b drive held part
  pub goes_on : TakesMore b (length finished.all)
  pub at_end : AtEnd b.input
  pub same : b.in_faults ≡ a.in_faults

pub record InputFailed (shape : Shape) (terms : Terms) (start : Map) (a b : BoardState) (drive : Sight) (held : List ℕ) : Type 0 where
  pub part : List ℕ
  pub is_part : IsPart part
  pub finished : Finished shape terms start a b drive held part
  pub goes_on : part ≢ [] → TakesMore b (length finished.all)
  pub rose : Rose a.in_faults b.in_faults

-- another command begins
pub record IsWorn (shape : Shape) (terms : Terms) (start : Map) (a b : BoardState) (drive : Sight) (held : List ℕ) : Type 0 where
  pub part : List ℕ
  pub some : part ≢ []
  pub finished : Finished shape terms start a b drive held part
  pub cause : (length finished.all ≡ most_entries) ⊎ (is_worn b ≡ true)
  pub same : b.in_faults ≡ a.in_faults

abbrev pub Finish : Shape → Terms → Map → BoardState → BoardState → Sight → List ℕ → End → Type 0
Finish shape terms start a b drive held Done = IsDone shape terms start a b drive held
Finish shape terms start a b drive held Truncated = IsTruncated shape terms start a b drive held
Finish shape terms start a b drive held Input = InputFailed shape terms start a b drive held
Finish shape terms start a b drive held Worn = IsWorn shape terms start a b drive held
Finish shape terms start a b drive held Output = Failed shape terms start a b Output
Finish shape terms start a b drive held Flash = Failed shape terms start a b Flash

-- from a drive with this map and nothing pending
abbrev pub Ends : BoardState → BoardState → Sight → Sight → List ℕ → End → Type 0
Ends a b before after held end =
    (shape : Shape) (terms : Terms) (start : Map) → HoldsMap shape terms a before start → before.pending ≡ [] → Finish shape terms start a b after held end
