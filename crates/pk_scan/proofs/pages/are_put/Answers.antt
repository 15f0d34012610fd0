use Rattle.std.proofs.Common.{sym, ◌∙◌, is_some}
use Rattle.pk_scan.proofs.RunPages.{all_next, all_not}
use Rattle.pk_scan.proofs.pages.are_put.Goals as goal

pub returns-then-not-is_put : goal.returns-then-not-is_put
returns-then-not-is_put c level index es is many =
    all_not (λ e. is_some e.1) es c.loop-i.i _ (c.entry.ensures level index es is) (sym c.is_put.ensures ∙ c.if-not-is_put.true)

pub loop-i-preserved : goal.loop-i-preserved
loop-i-preserved c level index es is =
    all_next (λ e. is_some e.1) es c.loop-i.i _ (c.entry.ensures level index es is) (sym c.is_put.ensures ∙ c.if-not-is_put.false) (c.loop-i.invariant level index es is)
