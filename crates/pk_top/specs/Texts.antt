-- How contracts see the words of the program.
use Rattle.pk_wordrun.specs.Seen.{seen as seen_task}
use Rattle.pk_top.specs.Words as spec
use Rattle.pk_top.specs.declared.word.Word.{Word}
use Rattle.pk_top.specs.declared.word.Word.TheVariants.{Make, Serve, Ask, Assemble, Show}

abbrev pub seen : Word → spec.Word
seen (Make limits) = spec.make limits.shape limits.each
seen (Serve frames) = spec.serve frames
seen (Ask task) = spec.ask (seen_task task)
seen Assemble = spec.assemble
seen Show = spec.show
