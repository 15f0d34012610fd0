use Rattle.std.{proofs.Common.arith, proofs.lemmas.Grind.common_steps}
use Rattle.pk_pin.proofs.Cuts.{length-chunks}
use Rattle.pk_pin.proofs.PinArena.frames.Goals as goal

pub returns-clause-frames : goal.returns-clause-frames
returns-clause-frames g c = grind (arith, common_steps, length-chunks, c.self.view_is)
