-- The summary of a workload that was served.
use Rattle.std.specs.Prelude.{◌≡◌, ℕ, ◌+◌, max, ◌==◌, if◌then◌else◌, List, [], ◌∷◌, ◌++◌, length, codes}
use Rattle.std.specs.FinMap.{len}
use Rattle.pk_base.{specs.Shape.Shape, specs.Map.Map, specs.Map.live}
use Rattle.pk_nvme.specs.declared.opcode.TheConstants.{RETRIEVE}
use Rattle.pk_nvme.specs.declared.status.TheConstants.{SUCCESSFUL_COMPLETION, KEY_DOES_NOT_EXIST, INVALID_VALUE_SIZE, CAPACITY_EXCEEDED, UNRECOVERED_ERROR}
use Rattle.pk_model.specs.Run.{Exchange}
use Rattle.pk_words.specs.Lines.{number_line}

-- how many of the commands were answered so
abbrev pub answered : ℕ → List Exchange → ℕ
answered status [] = 0
answered status (x ∷ xs) = (if x.reply.status == status then 1 else 0) + answered status xs

-- the pages that a Retrieve read; 0 of another command
abbrev pub retrieve_reads : Exchange → ℕ
retrieve_reads x = if x.command.opcode == RETRIEVE then x.reads else 0

-- the greatest count of pages read by one Retrieve
abbrev pub most_read : List Exchange → ℕ
most_read [] = 0
most_read (x ∷ xs) = max (retrieve_reads x) (most_read xs)

-- the lines of the commands, and those of the map at the end
abbrev pub summary_lines : List Exchange → ℕ → ℕ → List ℕ
summary_lines all keys pages =
    number_line (codes "commands") (length all)
    ++ number_line (codes "ok") (answered SUCCESSFUL_COMPLETION all)
    ++ number_line (codes "missing") (answered KEY_DOES_NOT_EXIST all)
    ++ number_line (codes "large") (answered INVALID_VALUE_SIZE all)
    ++ number_line (codes "full") (answered CAPACITY_EXCEEDED all)
    ++ number_line (codes "failed") (answered UNRECOVERED_ERROR all)
    ++ number_line (codes "keys") keys
    ++ number_line (codes "live") pages
    ++ number_line (codes "most") (most_read all)

-- The summary of commands that were answered so, which left this map.
abbrev pub SaysSummary : Shape → List Exchange → List ℕ → Map → Type 0
SaysSummary shape all text m' = text ≡ summary_lines all (len m') (live shape m')
