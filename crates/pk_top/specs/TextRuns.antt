-- A run of a word that touches no flash.
use Rattle.std.specs.Prelude.{◌≡◌, ◌⊎◌, ℕ, List}
use Rattle.pk_nand.specs.BoardState.{BoardState}
use Rattle.pk_text.{specs.Written.Written, specs.Turns.Turns, specs.declared.end.TextEnd.TextEnd}
use Rattle.pk_text.specs.declared.end.TextEnd.TheVariants.{Done, Truncated, Input, Output, TooMany, BadLine}
use Rattle.pk_top.specs.declared.status.TheConstants.Status.{DONE, TRUNCATED, INPUT, OUTPUT, MEMORY, WORN, BAD_LINE}

abbrev pub text_status : TextEnd → ℕ
text_status Done = DONE.0
text_status Truncated = TRUNCATED.0
text_status Input = INPUT.0
text_status Output = OUTPUT.0
text_status TooMany = WORN.0
text_status BadLine = BAD_LINE.0

-- Memory was missing, and nothing was done; or the input was turned into what this function says of it, up to an end of this status.
abbrev pub TextRun : (List ℕ → Written) → BoardState → BoardState → ℕ → Type 0
TextRun turn old new status = ((status ≡ MEMORY.0) × (new ≡ old)) ⊎ ((end : TextEnd) × (status ≡ text_status end) × Turns turn old new end)
