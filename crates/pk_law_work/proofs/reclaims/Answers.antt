use Rattle.pk_law_work.{proofs.Lowering.reclaims, proofs.Lowering.fills, proofs.Victims.light_victim}
use Rattle.pk_law_work.proofs.reclaims.Goals as goal

pub returns-clause-steps : goal.returns-clause-steps
returns-clause-steps c = reclaims

pub returns-clause-fills : goal.returns-clause-fills
returns-clause-fills c = fills

pub returns-clause-victim : goal.returns-clause-victim
returns-clause-victim c = light_victim
