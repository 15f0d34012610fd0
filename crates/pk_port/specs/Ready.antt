-- What a port keeps to between two commands.
use Rattle.std.specs.Prelude.{◌≡◌, [], false, Option, Some}
use Rattle.pk_base.{specs.Shape.Shape, specs.Page.Flash, specs.Map.Map}
use Rattle.pk_nand.specs.BoardState.{BoardState}
use Rattle.pk_call.{specs.Sight.Sight, specs.Drive.HoldsMap}
use Rattle.pk_host.specs.Good.{IsGoodMap}
use Rattle.pk_model.specs.Spaces.{limit_of, in_space}
use Rattle.pk_nvme.specs.declared.limits.TheConstants.{NAMESPACE}
use Rattle.pk_port.specs.Steps.{mount}

-- A drive that agrees with its board, with nothing pending, represents a map, of which the first namespace is a map of the board's shape
-- within the namespace's limit.
pub record Ready (agrees : Option Shape → Flash → Type 0) (shape : Shape) (board : BoardState) (drive : Sight) : Type 0 where
  pub agreed : agrees board.shape board.pages
  pub none : drive.pending ≡ []
  pub map : Map
  pub stands : HoldsMap shape (mount board drive).terms board drive map
  pub good : IsGoodMap shape (limit_of (mount board drive).terms.limits NAMESPACE) (in_space NAMESPACE map)

-- The board has this shape, and a drive that is not stopped is ready on it.
pub record Fits (agrees : Option Shape → Flash → Type 0) (shape : Shape) (board : BoardState) (drive : Sight) : Type 0 where
  pub shape_is : board.shape ≡ Some shape
  pub ready : drive.stopped ≡ false → Ready agrees shape board drive
