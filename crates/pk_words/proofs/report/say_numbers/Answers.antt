use Rattle.std.proofs.Common.{ap, ◌∙◌, arith}
use Rattle.pk_nvme.specs.Bytes.{RoomyList}
use Rattle.pk_words.{specs.Lines.report_lines, proofs.ReportLemmas.counted_more, proofs.ReportLemmas.counted_all}
use Rattle.pk_words.proofs.report.say_numbers.Goals as goal

pub loop-i-preserved : goal.loop-i-preserved
loop-i-preserved c = counted_more c.args.numbers.now c.loop-i.text c.add_number.new.text c.clear.new.self c.loop-i.i
    _ c.loop-i-test.true c.loop-i.invariant c.name_of.ensures.name c.add_number.ensures.line c.add_number.ensures.most

pub returns : goal.returns
returns c =
    counted_all c.args.numbers.now c.loop-i.text c.clear.new.self c.loop-i.i (omega arith) c.loop-i.invariant
    ∙ ap (λ (t : RoomyList). record t { items = report_lines c.args.numbers.now }) c.clear.ensures
