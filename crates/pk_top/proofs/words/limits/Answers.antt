use Rattle.std.{proofs.Common.◌<◌, proofs.Common.length, proofs.Common.map, proofs.Common.sym, proofs.Common.arith, proofs.lemmas.List.length-map}
use Rattle.pk_base.specs.declared.sizes.TheConstants.{MOST_SPACES}
use Rattle.pk_top.proofs.Numbers.{limits-none}
use Rattle.pk_top.proofs.words.limits.Goals as goal

pub returns-then-words-gt-MOST_LIMITS-clause-each : goal.returns-then-words-gt-MOST_LIMITS-clause-each
returns-then-words-gt-MOST_LIMITS-clause-each c =
    let words = c.args.words.now in
    let ws = map (λ w. w.now) words in
    let size = length-map words (λ w. w.now) in
    let many : MOST_SPACES < length ws = omega (arith, size, c.if-words-gt-MOST_LIMITS.true) in
    sym (limits-none c.args.shape.now ws many)
