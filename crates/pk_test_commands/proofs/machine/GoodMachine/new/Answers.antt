use Rattle.std.proofs.Common.{sym, subst}
use Rattle.pk_host.{specs.Good.IsGood, proofs.LeftLemmas.good_empty}
use Rattle.pk_test_commands.proofs.machine.GoodMachine.new.Goals as goal

pub invariant_of-result : goal.invariant_of-result
invariant_of-result c = subst IsGood (sym c.in-Ok.ensures) (good_empty c.args.shape _)
