use Rattle.std.proofs.Common.{ap, ◌∙◌}
use Rattle.pk_nvme.specs.Bytes.{RoomyList}
use Rattle.pk_words.{specs.Lines.status_line, proofs.ReportLemmas.said_numbers, proofs.ReportLemmas.refused_numbers}
use Rattle.pk_words.proofs.words.Words.stat.Goals as goal

pub returns-in-Ok-clause-said : goal.returns-in-Ok-clause-said
returns-in-Ok-clause-said g c = said_numbers (g.P.Port.state c.args.port.now)
    (g.P.Port.state c.report.new.port) c.report.new.numbers _ c.in-Ok.ensures.numbers c.in-Ok.ensures.leaves (ap (λ (t : RoomyList). t.items) c.say_numbers.ensures)

pub returns-in-Err-Refused-clause-said : goal.returns-in-Err-Refused-clause-said
returns-in-Err-Refused-clause-said g c =
    refused_numbers (g.P.Port.state c.args.port.now) (g.P.Port.state c.report.new.port) c.in-Err-Refused.field-0 c.in-Err-Refused.status _ c.in-Err-Refused.field-0-is
    c.in-Err-Refused.ensures.gives c.in-Err-Refused.ensures.causes (ap (λ (t : RoomyList). t.items) c.say_status.ensures ∙ ap status_line c.in-Err-Refused.status-is)
