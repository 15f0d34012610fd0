-- A board after several reads.
use Rattle.std.specs.Prelude.{ℕ, zero, suc}
use Rattle.pk_nand.{specs.BoardState.BoardState, specs.Calls.counted}

-- a count that was raised so often
abbrev pub counted_by : ℕ → ℕ → ℕ
counted_by zero n = n
counted_by (suc k) n = counted (counted_by k n)

-- the board after n reads
abbrev pub after_reads : ℕ → BoardState → BoardState
after_reads k old = record old { reads = counted_by k old.reads }
