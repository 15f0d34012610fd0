-- What a drive is over a board.
use Rattle.std.{specs.Prelude.◌≡◌, specs.Prelude.ℕ, specs.Prelude.length, specs.Prelude.Some, specs.Prelude.Ok, specs.FinMap.len}
use Rattle.pk_base.{specs.Shape.Shape, specs.Shape.pinned, specs.Map.Map, specs.Map.live}
use Rattle.pk_nand.specs.BoardState.{BoardState}
use Rattle.pk_model.specs.Spaces.{Terms, AreInSpaces, in_space, limit_of, limits_at}
use Rattle.pk_call.specs.Sight.{InSpace, Sight, Counts, map_of}

-- The drive represents this map, with these frames and limits: what the flash holds, under the pending entries.
pub record HoldsMap (shape : Shape) (terms : Terms) (board : BoardState) (drive : Sight) (m : Map) : Type 0 where
  pub shape_is : board.shape ≡ Some shape
  pub frames_is : drive.counts.frames ≡ terms.frames
  pub limits_is : limits_at shape board.pages ≡ terms.limits
  pub map_is : map_of shape board.pages drive ≡ Ok m

-- The first five numbers of a namespace, by its part of the map, its limit and the frames. Each key of the map is of a namespace of the drive.
pub record CountsMap (shape : Shape) (terms : Terms) (space : ℕ) (m : Map) (here : InSpace) (counts : Counts) : Type 0 where
  pub live_is : here.live ≡ live shape (in_space space m)
  pub limit_is : here.limit ≡ limit_of terms.limits space
  pub keys_is : here.keys ≡ len (in_space space m)
  pub pinned_is : counts.pinned ≡ pinned shape terms.frames
  pub frames_is : counts.frames ≡ terms.frames
  pub in_spaces : AreInSpaces (length terms.limits) m
