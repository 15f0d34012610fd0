-- Words that do not change the flash: every cut has the pages as they were at the start.
use Rattle.std.specs.Prelude.{◌≡◌, Option, Some, None, IsSome, true}
use Rattle.pk_nand.{specs.BoardState.BoardState, specs.Resting.RestsFlash}
use Rattle.pk_wordrun.specs.Tasks.{only_asks}
use Rattle.pk_top.specs.Words.{Word, make, serve, ask, assemble, show}

-- `make` and the words that only ask do so on a board that has an image, and the words that serve or ask no drive do on each board.
abbrev pub RestsIn : Word → BoardState → BoardState → Type 0
RestsIn (make shape limits) old new = IsSome old.shape → RestsFlash old new
RestsIn (serve frames) old new = Unit {0}
RestsIn (ask task) old new = only_asks task ≡ true → IsSome old.shape → RestsFlash old new
RestsIn assemble old new = RestsFlash old new
RestsIn show old new = RestsFlash old new

-- and so do words outside the table
abbrev pub Rests : Option Word → BoardState → BoardState → Type 0
Rests None old new = RestsFlash old new
Rests (Some word) old new = RestsIn word old new
