use Rattle.std.proofs.Common.{[], ◌-◌, arith}
use Rattle.pk_compact.proofs.MergeRoot.{length_set}
use Rattle.pk_compact.proofs.merge.empty_source.Goals as goal

pub set_run-requires-clause-room : goal.set_run-requires-clause-room
set_run-requires-clause-room g c = let less = length_set (c.args.level - 1 - 1) [] c.args.root.now.root.runs in let room = c.requires.room in omega (arith, less, room)
