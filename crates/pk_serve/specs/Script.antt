-- What was taken of a script, whatever the drive represents.
use Rattle.std.specs.Prelude.{◌≡◌, ◌≢◌, ◌⊎◌, ℕ, List, [], ◌++◌, length, Some, true}
use Rattle.pk_nvme.specs.Command.{Command}
use Rattle.pk_nand.{specs.BoardState.BoardState, specs.Calls.put_back, specs.Calls.AtEnd}
use Rattle.pk_model.{specs.Script.script, specs.Wear.is_worn}
use Rattle.pk_serve.{specs.Input.Spells, specs.Input.IsPart, specs.Ends.Blames, specs.Loop.Ends, specs.Further.most_entries, specs.declared.end.End.End}
use Rattle.pk_serve.specs.declared.end.End.TheVariants.{Done, Truncated, Input, Output, Flash, Worn}
use Rattle.pk_call.specs.Sight.{Sight}

-- This many commands were taken whole, and then this part of another one.
pub record Consumed (a b : BoardState) (taken : ℕ) (part : List ℕ) : Type 0 where
  pub cs : List Command
  pub bytes : List ℕ
  pub count : taken ≡ length cs
  pub input : a.input ≡ put_back (bytes ++ part) b.input
  pub spells : Spells bytes cs

-- the same by the end
abbrev pub Consumes : BoardState → BoardState → End → Type 0
Consumes a b Done = (taken : ℕ) × Consumed a b taken [] × AtEnd b.input
Consumes a b Truncated = (taken : ℕ) × (part : List ℕ) × (part ≢ []) × IsPart part × Consumed a b taken part × AtEnd b.input
Consumes a b Input = Unit {0}
Consumes a b Output = Unit {0}
Consumes a b Flash = Unit {0}
Consumes a b Worn = (taken : ℕ) × (part : List ℕ) × (part ≢ []) × Consumed a b taken part × ((taken ≡ most_entries) ⊎ (is_worn b ≡ true))

-- What the end of a run says of it: what was taken, which commands were served, with these bytes held, and the counts of faults.
pub record Runs (a b : BoardState) (before after : Sight) (held : List ℕ) (end : End) : Type 0 where
  pub consumes : Consumes a b end
  pub ends : Ends a b before after held end
  pub blames : Blames a b end

-- What it says of the script. Done: it is whole. Truncated: bytes follow its last command. Worn: more bytes follow as many commands as are
-- taken, or the drive is worn.
abbrev pub Says : BoardState → List ℕ → End → Type 0
Says b input Done = ((script input).1 ≡ []) × AtEnd b.input
Says b input Truncated = ((script input).1 ≢ []) × AtEnd b.input
Says b input Input = Unit {0}
Says b input Output = Unit {0}
Says b input Flash = Unit {0}
Says b input Worn =
    (bytes : List ℕ) × (more : List ℕ) × (input ≡ bytes ++ more) × (more ≢ []) × ((script bytes).1 ≡ []) × ((length (script bytes).0 ≡ most_entries) ⊎ (is_worn b ≡ true))

abbrev pub SaysOfScript : BoardState → BoardState → End → Type 0
SaysOfScript a b end = (input : List ℕ) → a.input ≡ Some input → Says b input end
