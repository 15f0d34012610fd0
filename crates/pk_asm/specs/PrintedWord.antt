-- The words of a printed line as the program holds them.
use Rattle.std.specs.Prelude.{ℕ, List, map, decimal}
use Rattle.pk_nvme.specs.Text.{hex_text}
use Rattle.pk_asm.{specs.Printed.behind_blanks, specs.declared.writer.Word.Word}
use Rattle.pk_asm.specs.declared.writer.Word.TheVariants.{Text, Hex, Number}

abbrev pub word_text : Word → List ℕ
word_text (Text text) = text.now
word_text (Hex bytes) = hex_text bytes.now
word_text (Number number) = decimal number

-- the words, each after a blank
abbrev pub tail_text : List Word → List ℕ
tail_text words = behind_blanks (map word_text words)
