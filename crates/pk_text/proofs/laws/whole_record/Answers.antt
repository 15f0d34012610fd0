use Rattle.pk_text.proofs.Showing.{whole_record}
use Rattle.pk_text.proofs.laws.whole_record.Goals as goal

pub returns : goal.returns
returns c = whole_record c.line.ensures.parts
