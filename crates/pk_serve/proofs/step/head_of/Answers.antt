use Rattle.pk_serve.proofs.Finishing.{record_is}
use Rattle.pk_serve.proofs.step.head_of.Goals as goal

pub returns : goal.returns
returns c = λ into fits. record_is c.args.count c.args.request.now.cid c.args.outcome.now into _ _ c.completion-entry.ensures c.record_head.ensures fits
