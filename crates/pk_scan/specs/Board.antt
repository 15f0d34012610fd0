-- What opening leaves of a board.
use Rattle.std.specs.Prelude.{◌≡◌}
use Rattle.pk_base.specs.Shape.{Shape}
use Rattle.pk_nand.{specs.BoardState.BoardState, specs.Calls.IsReady, specs.Effects.OnlyReading}

-- Nothing was done but reads, so that the pages are what they were and the board may be called as before.
pub record StaysReady (shape : Shape) (old new : BoardState) : Type 0 where
  pub rest : OnlyReading old new
  pub pages : new.pages ≡ old.pages
  pub ready : IsReady new shape
