-- How many flash operations serving makes.
use Rattle.std.specs.Prelude.{ℕ, ◌+◌, List, [], ◌∷◌}
use Rattle.pk_base.{specs.Shape.Shape, specs.Shape.commit_programs, specs.Entry.Entry}
use Rattle.pk_nvme.specs.Command.{Command}
use Rattle.pk_nand.specs.BoardState.{BoardState}
use Rattle.pk_call.specs.Calling.{most_calls_of}

-- the flash operations that a board has counted, failed ones included
abbrev pub calls_of : BoardState → ℕ
calls_of board = board.reads + board.programs + board.erases

-- the programs of the commit that is owed if entries are pending
abbrev pub owed : List Entry → ℕ
owed [] = 0
owed (entry ∷ more) = commit_programs

-- most calls for these commands: for each its own, and the programs of a commit
abbrev pub most_calls_of_all : Shape → List Command → ℕ
most_calls_of_all shape [] = 0
most_calls_of_all shape (c ∷ cs) = most_calls_of shape c.opcode c.size + commit_programs + most_calls_of_all shape cs
