use Rattle.std.proofs.Common.{[], ◌∙◌}
use Rattle.pk_nvme.proofs.RequestLemmas.{same_request}
use Rattle.pk_nvme.proofs.laws.read_back.Goals as goal

pub returns : goal.returns
returns c = same_request c.of.result c.args.request.now [] (c.of.ensures [] ∙ c.entry.ensures.fields [])
