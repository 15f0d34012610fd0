use Rattle.std.proofs.Common.{◌≡◌, ◌++◌}
use Rattle.pk_gen.specs.Workload.{letters}
use Rattle.pk_gen.proofs.value.push_letters.Given as goal

abbrev pub invariant-loop-j : goal.invariant-loop-j
invariant-loop-j l = l.value ≡ record l.initial.value { items = l.initial.value.items ++ letters l.c l.j }
