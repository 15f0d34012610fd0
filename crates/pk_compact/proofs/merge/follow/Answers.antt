use Rattle.std.proofs.Common.{◌-◌}
use Rattle.pk_compact.proofs.MergeRoot.{room_numbered, room_set}
use Rattle.pk_compact.proofs.merge.follow.Goals as goal

pub set_run-requires-clause-room : goal.set_run-requires-clause-room
set_run-requires-clause-room g c = room_numbered c.args.root.now c.set_number.new.self _ (c.args.level - 1) c.args.taken.now c.set_number.ensures c.requires.room

pub empty_source-requires-clause-room : goal.empty_source-requires-clause-room
empty_source-requires-clause-room g c = room_set c.args.root.now c.set_number.new.self c.set_run.new.self _ (c.args.level - 1) _ c.args.taken.now c.set_number.ensures c.set_run.ensures c.requires.room
