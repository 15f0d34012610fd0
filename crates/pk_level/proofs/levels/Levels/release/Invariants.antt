use Rattle.pk_level.proofs.Releasing.{Baring}
use Rattle.pk_level.proofs.levels.Levels.release.Given as goal

abbrev pub invariant-loop-index : goal.invariant-loop-index
invariant-loop-index g l = Baring l.index l.last l.initial.self l.initial.arena l.self l.arena
