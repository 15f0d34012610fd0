use Rattle.std.proofs.Common.{◌∙◌, sym, ap}
use Rattle.pk_nvme.specs.Seen.{command_of}
use Rattle.pk_model.specs.Answer.{fault_of}
use Rattle.pk_model.proofs.early.early_fault.Goals as goal

pub returns-in-Some : goal.returns-in-Some
returns-in-Some c = λ v. c.fault_of.ensures v ∙ ap (fault_of c.args.spaces c.args.shape.now (command_of c.args.r.now v)) (sym c.in-Some.is ∙ c.op.ensures)
