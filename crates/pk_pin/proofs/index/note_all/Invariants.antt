-- the entries before `i` are noted
use Rattle.pk_homes.specs.Homes.{HasHomes}
use Rattle.pk_pin.specs.Index.{hash_in}
use Rattle.pk_pin.proofs.index.note_all.Given as goal

abbrev pub invariant-loop-i : goal.invariant-loop-i
invariant-loop-i l = HasHomes (hash_in l.page) l.i l.table
