-- The answers in one namespace of a drive, and those of a drive that has this namespace alone.
use Rattle.std.specs.Prelude.{◌≡◌, ℕ, ◌≤◌, List, length, Some}
use Rattle.pk_base.{specs.Shape.Shape, specs.Map.Map}
use Rattle.pk_nvme.specs.Command.{Command}
use Rattle.pk_nand.{specs.BoardState.BoardState, specs.Calls.Rose, specs.Calls.longer}
use Rattle.pk_model.{specs.Reading.Holds, specs.Run.Run, specs.Run.Exchange, specs.Run.commands, specs.Run.records, specs.Run.faults, specs.Script.script, specs.Spaces.Terms, specs.Spaces.terms_at}
use Rattle.pk_law_isolation.specs.Isolation.{map_alone, terms_alone, commands_of_space, exchanges_in, told_replies}
use Rattle.pk_top.specs.declared.status.TheConstants.Status.{DONE}

-- Commands were answered so, and their records posted. Those in a namespace are a run of a drive that has it alone, with its map, its limit and as
-- many frames; and whatever run of that drive without read errors has these commands, its replies are the same, but for the numbers of the drive's
-- own in a Report.
pub record AnsweredApart (shape : Shape) (terms : Terms) (start : Map) (a b : BoardState) (cs : List Command) : Type 0 where
  pub served : List Exchange
  pub are : commands served ≡ cs
  pub posted : b.posted ≡ longer a.posted (records 0 served)
  pub left : Map
  pub runs : (space : ℕ) → 1 ≤ space → space ≤ length terms.limits → Run shape (terms_alone terms space) (map_alone space start) (exchanges_in space served) (map_alone space left)
  pub same : (space : ℕ) → 1 ≤ space → space ≤ length terms.limits
      → (xs : List Exchange) (end : Map) → Run shape (terms_alone terms space) (map_alone space start) xs end → commands xs ≡ commands_of_space space cs → faults xs ≡ 0
      → told_replies (exchanges_in space served) ≡ told_replies xs

-- If the script was served to its end, and the count of failed reads did not rise: so were its commands answered.
abbrev pub IsolatesAll : Shape → ℕ → BoardState → BoardState → ℕ → Type 0
IsolatesAll shape frames loaded new status =
    status ≡ DONE.0 → (Rose loaded.read_faults new.read_faults → ⊥) → (start : Map) → Holds shape loaded.pages start → (input : List ℕ) → loaded.input ≡ Some input
    → AnsweredApart shape (terms_at shape loaded.pages frames) start loaded new (script input).0

-- the same of a board that holds its pages from the start
abbrev pub IsolatesWhole : ℕ → BoardState → BoardState → ℕ → Type 0
IsolatesWhole frames old new status = (shape : Shape) → old.shape ≡ Some shape → IsolatesAll shape frames old new status
