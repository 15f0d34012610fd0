use Rattle.std.proofs.Common.{◌∙◌, ap}
use Rattle.pk_call.specs.Sight.{InSpace}
use Rattle.pk_top.proofs.pairing.first_limit.Goals as goal

pub returns : goal.returns
returns g c = λ shape flash m agreed runs read.
    ap (λ (i : InSpace). i.limit) c.counts.ensures.numbers.1 ∙ (c.counts.ensures.map shape flash m agreed runs read).limit_is
