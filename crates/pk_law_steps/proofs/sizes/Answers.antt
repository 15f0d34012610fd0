use Rattle.pk_law_steps.{proofs.Amounts.quota_fits, proofs.Outputs.output_fits}
use Rattle.pk_law_steps.proofs.sizes.Goals as goal

pub returns-clause-output : goal.returns-clause-output
returns-clause-output c = output_fits

pub returns-clause-quota : goal.returns-clause-quota
returns-clause-quota c = quota_fits
