-- How the remaining background work changes.
use Rattle.std.specs.Prelude.{◌≡◌, ◌⊎◌, ℕ, ◌+◌, ◌≤◌, ◌==◌, ◌||◌, Bool, true}
use Rattle.pk_nvme.specs.declared.opcode.TheConstants.{STORE, DELETE}
use Rattle.pk_base.{specs.Shape.Shape, specs.Map.Map}
use Rattle.pk_nand.specs.BoardState.{BoardState}
use Rattle.pk_model.{specs.Spaces.Terms, specs.Wear.is_worn}
use Rattle.pk_call.{specs.Sight.Sight, specs.Sight.IsIdle, specs.Sight.most_work, specs.Drive.HoldsMap}

-- the commands that may raise it
abbrev pub may_raise : ℕ → Bool
may_raise opcode = opcode == STORE || opcode == DELETE

-- nothing is left to do, or the drive is worn: then a Tick makes no further step
abbrev pub HasEnded : Shape → BoardState → Sight → Type 0
HasEnded shape board drive = IsIdle shape board.pages drive ⊎ (is_worn board ≡ true)

-- Each step leaves one less to do, unless none is made any more.
abbrev pub Settles : BoardState → BoardState → Sight → Sight → ℕ → Type 0
Settles old new before after steps =
    (shape : Shape) (terms : Terms) (m : Map) → HoldsMap shape terms old before m → (after.work + steps ≤ before.work) ⊎ HasEnded shape new after

-- As many steps as may ever remain are the last ones.
abbrev pub RestsAfter : BoardState → BoardState → Sight → Sight → ℕ → Type 0
RestsAfter old new before after steps =
    (shape : Shape) (terms : Terms) (m : Map) → HoldsMap shape terms old before m → most_work shape ≤ steps → HasEnded shape new after
