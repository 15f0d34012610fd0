-- The keys from one on, as a walk over the buffers and the runs gives them.
use Rattle.std.{specs.Prelude.◌≡◌, specs.Prelude.◌≤◌, specs.Prelude.List, specs.Prelude.map, specs.Prelude.not, specs.Prelude.filter, specs.Prelude.Option, specs.Ordering.is_lt}
use Rattle.pk_base.{specs.Key.Key, specs.Key.key_cmp, specs.Entry.Entry, specs.Entry.Place, specs.declared.entry.Entry.Entry as RustEntry}
use Rattle.pk_nand.{specs.BoardState.BoardState, specs.Calls.IsReady}
use Rattle.pk_pin.specs.Frames.{Frames}
use Rattle.pk_level.specs.Levels.{Levels}
use Rattle.pk_walk.{specs.Walking.Walk, specs.Walking.IsLeft, specs.Walking.WalkGives, specs.Walking.pages_read, specs.Walking.most_read, specs.Visible.visible}
use Rattle.pk_log.specs.State.{LogState}

-- these keys without their places
abbrev pub keys_of : List (Key × Place) → List Key
keys_of es = map (λ e. e.0) es

-- those of them that are not below this one
abbrev pub not_below : Key → List Key → List Key
not_below from ks = filter (λ k. not (is_lt (key_cmp k from))) ks

-- the keys that exist in the lists of entries and are not below this one
abbrev pub keys_there : Key → List (List Entry) → List Key
keys_there from lists = not_below from (keys_of (visible lists))

-- what a walk requires of the board and of the parts that it goes over
pub record MayWalk (walk : Walk) (board : BoardState) (levels : Levels) (arena : Frames) (log : LogState) : Type 0 where
  pub ready : IsReady board levels.shape
  pub same_shape : walk.shape ≡ levels.shape
  pub left : (rest : List (Key × Place)) × IsLeft walk board.pages arena levels.runs log.active.entries log.frozen.entries rest

-- it read no more pages than the runs have, and changed none
pub record Walked (before after : Walk) (old new : BoardState) (levels : Levels) : Type 0 where
  pub same_shape : after.shape ≡ before.shape
  pub pages : new.pages ≡ old.pages
  pub ready : IsReady new levels.shape
  pub few_read : pages_read levels.runs after.cursors ≤ most_read levels.runs

-- whatever remained: the first key of it was given, or that there is none
abbrev pub GivesKey : Walk → Walk → BoardState → BoardState → Levels → Frames → LogState → Option RustEntry → Type 0
GivesKey before after old new levels arena log found =
    (rest : List (Key × Place)) → IsLeft before old.pages arena levels.runs log.active.entries log.frozen.entries rest
    → (later : List (Key × Place)) × WalkGives found rest later
    × IsLeft after new.pages arena levels.runs log.active.entries log.frozen.entries later
