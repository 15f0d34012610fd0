use Rattle.std.{proofs.Common.◌≡◌, proofs.Common.◌∙◌, proofs.Common.ap, proofs.Common.arith, proofs.Common.true, proofs.Common.false, proofs.Common.nat_le, proofs.lemmas.Bool.Decides.nat_tests}
use Rattle.pk_base.{specs.Key.space_of, specs.Seen.entry as seen}
use Rattle.pk_jrn.proofs.Replaying.{InSpacesTo-next, InSpacesTo-none}
use Rattle.pk_jrn.proofs.entries.are_in_spaces.Goals as goal

pub returns-then-space-spaces : goal.returns-then-space-spaces
returns-then-space-spaces c =
    let value = c.space.ensures.value ∙ ap space_of c.key.ensures in
    let own : nat_le (space_of (seen c.entry.result).0) c.args.spaces ≡ false = grind (arith, nat_tests, value, c.if-space-spaces.true) in
    InSpacesTo-none c.args.shape.now c.args.page.now c.args.spaces c.args.count c.loop-i.i (seen c.entry.result) c.entry.ensures own

pub loop-i-preserved : goal.loop-i-preserved
loop-i-preserved c =
    let value = c.space.ensures.value ∙ ap space_of c.key.ensures in
    let own : nat_le (space_of (seen c.entry.result).0) c.args.spaces ≡ true = grind (arith, nat_tests, value, c.if-space-spaces.false) in
    InSpacesTo-next c.args.shape.now c.args.page.now c.args.spaces c.args.count c.loop-i.i (seen c.entry.result) c.entry.ensures own c.loop-i.invariant
