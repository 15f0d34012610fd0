use Rattle.std.proofs.Common.{inr, refl}
use Rattle.pk_mirrorwords.{specs.PairTasks.seen, proofs.Composing.word_asks}
use Rattle.pk_mirrorwords.proofs.Paging.{asks_one}
use Rattle.pk_mirrorwords.proofs.answering.ask_in_step.Goals as goal

pub returns-in-Get-clause-done : goal.returns-in-Get-clause-done
returns-in-Get-clause-done g c = rw c.in-Get.is c.get.ensures.done

pub returns-in-Get-clause-took_first : goal.returns-in-Get-clause-took_first
returns-in-Get-clause-took_first g c = let t = asks_one g.P.Port.took _ _ _ (inr (c.in-Get.key, _, refl)) c.get.ensures.took_first in (t.0, word_asks (seen c.args.task.now) t.0 t.1, t.2)

pub returns-in-Get-clause-took_second : goal.returns-in-Get-clause-took_second
returns-in-Get-clause-took_second g c = let t = asks_one g.Q.Port.took _ _ _ (inr (c.in-Get.key, _, refl)) c.get.ensures.took_second in (t.0, word_asks (seen c.args.task.now) t.0 t.1, t.2)

pub returns-in-List-clause-done : goal.returns-in-List-clause-done
returns-in-List-clause-done g c = rw c.in-List.is c.list.ensures.done

pub returns-in-List-clause-took_second : goal.returns-in-List-clause-took_second
returns-in-List-clause-took_second g c = (c.list.ensures.took_second.0, word_asks (seen c.args.task.now) c.list.ensures.took_second.0 c.list.ensures.took_second.1, c.list.ensures.took_second.2)
