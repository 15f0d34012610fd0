use Rattle.std.proofs.Common.{arith}
use Rattle.pk_gen.proofs.Values.{no_letters, letter_fits, letter_written}
use Rattle.pk_gen.proofs.value.push_letters.Goals as goal

pub loop-j-init : goal.loop-j-init
loop-j-init c = no_letters c.args.value.now c.args.c

pub push-requires : goal.push-requires
push-requires c = letter_fits c.args.value.now c.loop-j.value c.args.c c.args.count c.loop-j.j c.requires.room (omega arith) c.loop-j.invariant

pub loop-j-preserved : goal.loop-j-preserved
loop-j-preserved c = letter_written c.args.value.now c.loop-j.value c.push.new.self c.args.c c.loop-j.j c.loop-j.invariant c.push.ensures
