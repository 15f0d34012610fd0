use Rattle.std.{proofs.Common.◌≡◌, proofs.Common.◌==◌, proofs.Common.◌∙◌, proofs.Common.false, proofs.Common.refl, proofs.Common.arith, proofs.lemmas.Bool.Decides.nat_tests}
use Rattle.pk_host.proofs.ReportLemmas.{report_numbers, report_leaves, report_done, report_refused, report_cause}
use Rattle.pk_host.proofs.host.Host.report.Goals as goal

pub returns-in-0-clause-gives : goal.returns-in-0-clause-gives
returns-in-0-clause-gives g c = report_done _ _ _ c.in-Ok.ensures.replies c.in-0.is

pub returns-in-0-clause-numbers : goal.returns-in-0-clause-numbers
returns-in-0-clause-numbers g c = report_numbers _ _ _ c.in-Ok.ensures.replies _ _ c.in-0.is (c.ask.auto.into ∙ c.told-numbers) c.in-Ok.ensures.fits refl

pub returns-in-0-clause-leaves : goal.returns-in-0-clause-leaves
returns-in-0-clause-leaves g c = report_leaves _ _ _ c.in-Ok.ensures.replies

pub returns-in_default-clause-gives : goal.returns-in_default-clause-gives
returns-in_default-clause-gives g c =
    let h : (c.in-Ok.received.status == 0) ≡ false = grind (arith, nat_tests) in report_refused _ _ _ c.in-Ok.ensures.replies h

pub returns-in_default-clause-causes : goal.returns-in_default-clause-causes
returns-in_default-clause-causes g c =
    let h : (c.in-Ok.received.status == 0) ≡ false = grind (arith, nat_tests) in report_cause _ _ _ c.in-Ok.ensures.replies h
