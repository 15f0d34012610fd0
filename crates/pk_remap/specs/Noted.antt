-- The marks of a log, whose bytes are one after another.
use Rattle.std.specs.Prelude.{ℕ, zero, suc, ◌+◌, max, List, [], ◌∷◌, take, drop, Option, Some, None}
use Rattle.std.specs.Int.{div_ceil}
use Rattle.pk_base.specs.Mark.{Mark, program, erase, post}
use Rattle.pk_remap.specs.declared.mark_log.NotedMark.{NotedMark}
use Rattle.pk_remap.specs.declared.mark_log.NotedMark.TheVariants.{Program, Erase, Post}

-- how many bytes a mark has, and the mark with them
abbrev pub bytes_of_mark : NotedMark → ℕ
bytes_of_mark (Program page len) = len
bytes_of_mark (Erase block) = 0
bytes_of_mark (Post len) = len

abbrev pub mark_with : NotedMark → List ℕ → Mark
mark_with (Program page len) bytes = program page bytes
mark_with (Erase block) bytes = erase block
mark_with (Post len) bytes = post bytes

abbrev pub noted_bytes : List NotedMark → ℕ
noted_bytes [] = 0
noted_bytes (mark ∷ marks) = bytes_of_mark mark + noted_bytes marks

-- the marks, whose bytes are these
abbrev pub noted_marks : List NotedMark → List ℕ → List Mark
noted_marks [] bytes = []
noted_marks (mark ∷ marks) bytes = mark_with mark (take (bytes_of_mark mark) bytes) ∷ noted_marks marks (drop (bytes_of_mark mark) bytes)

-- a log without room reports no marks
abbrev pub told_of : ℕ → List Mark → Option (List Mark)
told_of zero marks = None
told_of (suc room) marks = Some marks

-- before the first mark
abbrev pub no_marks : ℕ → Option (List Mark)
no_marks room = told_of room []

-- how many marks of the room a mark with n bytes takes
abbrev pub marks_for : ℕ → ℕ → ℕ
marks_for page_bytes len = max (div_ceil len page_bytes) 1
