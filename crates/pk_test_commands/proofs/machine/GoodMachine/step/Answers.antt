use Rattle.pk_test_commands.proofs.PortLemmas.{good_by}
use Rattle.pk_test_commands.proofs.machine.GoodMachine.step.Goals as goal

pub invariant_of-self : goal.invariant_of-self
invariant_of-self c = good_by c.self.inside.machine c.step.new.self _ c.step.result c.step.ensures.ok c.step.ensures.err c.self.invariant c.is_handed.ensures.bytes
