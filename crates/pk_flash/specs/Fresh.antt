-- The board in memory before its first call.
use Rattle.std.specs.Prelude.{ℕ, List, [], Option, Some, None, is_none}
use Rattle.pk_base.{specs.Shape.Shape, specs.Page.Flash}
use Rattle.pk_nand.specs.BoardState.{BoardState}

-- a board with these pages and this input, which no call was made of
abbrev pub fresh_board : Option Shape → Flash → List ℕ → BoardState
fresh_board shape pages input = record {
  shape = shape;
  bare = is_none shape;
  pages = pages;
  trail = Some [];
  reads = 0;
  programs = 0;
  erases = 0;
  flash_faults = 0;
  read_faults = 0;
  stop_faults = 0;
  failed_at = None;
  bad = None;
  input = Some input;
  posted = Some [];
  in_faults = 0;
  out_faults = 0;
}
