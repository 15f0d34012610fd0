use Rattle.std.proofs.Common.{inl}
use Rattle.pk_mirrorwords.proofs.Composing.{asked_done}
use Rattle.pk_mirrorwords.proofs.answering.answer_pair.Goals as goal

pub returns-in-Ok-clause-said : goal.returns-in-Ok-clause-said
returns-in-Ok-clause-said g c = λ m told. inl (asked_done _ c.in-Ok.ensures.asked, c.in-Ok.ensures.done m told)
