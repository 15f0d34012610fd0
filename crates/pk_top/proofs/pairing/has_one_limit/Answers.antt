use Rattle.std.proofs.Common.{ℕ, ◌==◌, ◌∙◌, ap}
use Rattle.pk_mirrorrun.specs.PairTold.{first_limit}
use Rattle.pk_top.proofs.pairing.has_one_limit.Goals as goal

pub returns : goal.returns
returns g c = λ shape flash other m n agreed runs read agreed' runs' read'.
    ap (λ (k : ℕ). k == c.first_limit-2.result) (c.first_limit.ensures shape flash m agreed runs read)
    ∙ ap (λ (k : ℕ). first_limit shape flash == k) (c.first_limit-2.ensures shape other n agreed' runs' read')
