use Rattle.std.proofs.Common.{arith}
use Rattle.pk_asm.proofs.PrintLemmas.{words_room}
use Rattle.pk_asm.proofs.writer.put_words.Goals as goal

pub put-requires : goal.put-requires
put-requires c = words_room c.args.words.now c.loop-word.word-index c.args.into.now c.loop-word.into (omega arith) c.requires c.loop-word.invariant
