use Rattle.std.proofs.Common.{refl, add-one}
use Rattle.pk_homes.proofs.Homes.{noted_more, no_homes}
use Rattle.pk_pin.specs.Index.{hash_in}
use Rattle.pk_pin.proofs.index.note_all.Goals as goal

pub loop-i-init : goal.loop-i-init
loop-i-init c = no_homes (hash_in c.args.page.now) c.args.table.now

pub loop-i-preserved : goal.loop-i-preserved
loop-i-preserved c =
    rw add-one
    (noted_more (hash_in c.args.page.now) c.loop-i.i (hash_in c.args.page.now c.loop-i.i) c.loop-i.table c.note.new.table c.loop-i.invariant refl c.note.ensures)
