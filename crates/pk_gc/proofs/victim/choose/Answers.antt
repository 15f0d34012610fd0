use Rattle.std.{proofs.Common.◌≡◌, proofs.Common.◌<◌, proofs.Common.ap, proofs.Common.◌∙◌, proofs.Common.arith, proofs.Common.true, proofs.Common.Some, specs.Prelude.slice_get}
use Rattle.pk_base.specs.Shape.{dense}
use Rattle.pk_live.specs.Values.{Values, count_of}
use Rattle.pk_gc.proofs.Victims.{some_victim, closed_behind, open_within}
use Rattle.pk_gc.proofs.victim.choose.Goals as goal

pub close-requires : goal.close-requires
close-requires g c = open_within c.args.shape.now c.args.live.now c.args.front.now c.requires.0 c.requires.1

pub unreachable-requires : goal.unreachable-requires
unreachable-requires g c =
    let full = c.requires.1 in
    let some = some_victim c.args.shape.now c.args.live.now c.args.front.now c.requires.0 full in
    let new = c.close.ensures in
    let closed : slice_get c.close.new.live.closed some.0 ≡ Some true = ap (λ (v : Values). slice_get v.closed some.0) new
    ∙ closed_behind c.args.shape.now c.args.live.now c.args.front.now c.requires.0 full some.0 some.1 in
    let same : count_of c.close.new.live some.0 ≡ count_of c.args.live.now some.0 = ap (λ (v : Values). count_of v some.0) new in
    let more : dense c.args.shape.now < count_of c.close.new.live some.0 = c.in-None-sparse.ensures some.0 closed in
    let few = some.2 in
    omega (arith, more, same, few)
