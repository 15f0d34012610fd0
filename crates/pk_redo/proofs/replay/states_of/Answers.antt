use Rattle.std.proofs.Common.{◌-◌, length, length-drop, take_all, drop, arith}
use Rattle.pk_redo.proofs.replay.states_of.Goals as goal

pub returns-clause-value : goal.returns-clause-value
returns-clause-value c = take_all (length c.args.head.now - 32) (drop 32 c.args.head.now) (omega (arith, length-drop 32 c.args.head.now))
