-- What a text script is assembled to.
use Rattle.std.specs.Prelude.{ℕ, suc, ◌+◌, ◌==◌, nat_le, if◌then◌else◌, List, [], ◌∷◌, ◌++◌, Option, Some, None}
use Rattle.pk_asm.specs.Line.{Line, nothing, entry, says}
use Rattle.pk_text.specs.Written.{Written, ended, before, most}
use Rattle.pk_text.specs.declared.end.TextEnd.TheVariants.{Done, TooMany, BadLine}

-- a byte before the first line
abbrev pub onto_first : ℕ → List (List ℕ) → List (List ℕ)
onto_first byte [] = (byte ∷ []) ∷ []
onto_first byte (line ∷ lines) = (byte ∷ line) ∷ lines

-- the lines of a text without their line feeds; the last line may lack it
abbrev pub lines : List ℕ → List (List ℕ)
lines [] = []
lines (byte ∷ bytes) = if byte == 10 then [] ∷ lines bytes else onto_first byte (lines bytes)

-- what a line gives, and then what follows with the number of the next entry; a line outside the grammar ends the run
abbrev pub line_given : Option Line → ℕ → (ℕ → Written) → Written
line_given None number more = ended BadLine
line_given (Some nothing) number more = more number
line_given (Some (entry e bytes)) number more = before (e ++ bytes) (more (number + 1))

-- what lines give after n lines, if the next entry has this number
abbrev pub lines_given : ℕ → ℕ → List (List ℕ) → Written
lines_given taken number [] = ended Done
lines_given taken number (line ∷ lines) =
    if nat_le most taken then ended TooMany else line_given (says number line) number (λ next. lines_given (suc taken) next lines)

-- the same of the text of the lines
abbrev pub assembled_from : ℕ → ℕ → List ℕ → Written
assembled_from taken number bytes = lines_given taken number (lines bytes)

-- what a whole script is assembled to; its entries are counted from 1
abbrev pub assembled : List ℕ → Written
assembled input = assembled_from 0 1 input
