use Rattle.pk_core.proofs.WrittenLimits.{made_limits}
use Rattle.pk_core.proofs.making.format.Goals as goal

pub returns-clause-limits : goal.returns-clause-limits
returns-clause-limits g c = made_limits c.write_first_root.result c.args.shape (g.B.Nand.state c.write_first_root.new.board).pages c.args.limits.now.each c.limits_in_root-in_root.result.now
    c.limits_in_root-in_root.ensures.value c.limits_in_root-in_root.ensures.some c.write_first_root.ensures.newest
