use Rattle.std.{proofs.Common.◌≡◌, proofs.Common.◌∙◌, proofs.Common.ap, proofs.Common.arith, proofs.Common.true, proofs.Common.false, proofs.Common.nat_le, proofs.lemmas.Bool.Decides.nat_tests}
use Rattle.pk_base.{specs.Key.space_of, specs.Seen.entry as seen}
use Rattle.pk_scan.proofs.RunPages.{all_next, all_not}
use Rattle.pk_scan.proofs.pages.are_in_spaces.Goals as goal

pub returns-then-space-spaces : goal.returns-then-space-spaces
returns-then-space-spaces c level index es is many =
    let value = c.space.ensures.value ∙ ap space_of c.key.ensures in
    let own : nat_le (space_of (seen c.entry.result).0) c.args.spaces ≡ false = grind (arith, nat_tests, value, c.if-space-spaces.true) in
    all_not (λ e. nat_le (space_of e.0) c.args.spaces) es c.loop-i.i _ (c.entry.ensures level index es is) own

pub loop-i-preserved : goal.loop-i-preserved
loop-i-preserved c level index es is =
    let value = c.space.ensures.value ∙ ap space_of c.key.ensures in
    let own : nat_le (space_of (seen c.entry.result).0) c.args.spaces ≡ true = grind (arith, nat_tests, value, c.if-space-spaces.false) in
    all_next (λ e. nat_le (space_of e.0) c.args.spaces) es c.loop-i.i _ (c.entry.ensures level index es is) own (c.loop-i.invariant level index es is)
