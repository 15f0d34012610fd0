use Rattle.std.proofs.Common.{◌≤◌, length, Some, None, sym, subst, ◌∙◌, arith}
use Rattle.pk_base.specs.Shape.{Shape, greatest}
use Rattle.pk_mirror.{specs.Agreement.IsPart, specs.Agreement.HaveSame, specs.Spending.ToStore, proofs.PairLemmas.still_alike}
use Rattle.pk_mirror.proofs.VisitLemmas.{goes_on, fails_on, asked_later}
use Rattle.pk_mirror.proofs.PageLemmas.{turning_begins, turning_goes, turned_all, turns_as, smaller_as}
use Rattle.pk_nvme.specs.declared.opcode.TheConstants.{STORE}
use Rattle.pk_mirror.proofs.resync.copy_all.Goals as goal

pub loop-next-init : goal.loop-next-init
loop-next-init g c = turning_begins g.P.Port.state g.P.Port.took g.Q.Port.state g.Q.Port.took IsPart ToStore STORE HaveSame c.args.first.now c.args.second.now
    (g.met.P.Port.took_none c.args.first.now) (g.met.Q.Port.took_none c.args.second.now)

pub copy_page-requires-clause-alike : goal.copy_page-requires-clause-alike
copy_page-requires-clause-alike g c = still_alike _ _ _ _ _ _ (g.met.P.Port.took_state _ _ _ c.loop-next.invariant.progress.took_first.2)
    (g.met.Q.Port.took_state _ _ _ c.loop-next.invariant.progress.took_second.2) c.requires.alike

pub copy_page-requires-clause-text : goal.copy_page-requires-clause-text
copy_page-requires-clause-text g c = λ k e. c.loop-next.invariant.text k (sym c.as_ref.ensures.value ∙ e)

pub copy_page-requires-clause-room_one : goal.copy_page-requires-clause-room_one
copy_page-requires-clause-room_one g c = subst (λ (s : Shape). greatest s ≤ length c.loop-next.one)
    (sym (g.met.P.Port.took_state _ _ _ c.loop-next.invariant.progress.took_first.2).shape) (omega (arith, c.requires.room_one, c.loop-next.auto.one))

pub loop-next-smaller : goal.loop-next-smaller
loop-next-smaller g c = (smaller_as _ c.loop-next.last _ c.in-Ok-Some.next c.as_ref.ensures.value c.in-Ok-Some.field-0-is c.in-Ok-Some.ensures.falls).1

pub loop-next-preserved : goal.loop-next-preserved
loop-next-preserved g c = turning_goes g.P.Port.state g.P.Port.took g.Q.Port.state g.Q.Port.took IsPart ToStore STORE HaveSame g.met.P.Port.took_both g.met.Q.Port.took_both
    _ _ _ _ _ _ c.loop-next.last c.in-Ok-Some.next c.loop-next.invariant c.in-Ok-Some.ensures.copied
    (turns_as IsPart HaveSame (g.P.Port.state c.loop-next.first) (g.Q.Port.state c.loop-next.second) (g.Q.Port.state c.copy_page.new.second) _ c.loop-next.last _
    (Some c.in-Ok-Some.next) c.as_ref.ensures.value c.in-Ok-Some.field-0-is c.in-Ok-Some.ensures.turns)
    (smaller_as _ c.loop-next.last _ c.in-Ok-Some.next c.as_ref.ensures.value c.in-Ok-Some.field-0-is c.in-Ok-Some.ensures.falls).0

pub returns-in-Ok-None-clause-visits : goal.returns-in-Ok-None-clause-visits
returns-in-Ok-None-clause-visits g c = turned_all IsPart HaveSame (g.P.Port.state c.args.first.now) (g.Q.Port.state c.args.second.now) (g.P.Port.state c.loop-next.first)
    (g.Q.Port.state c.loop-next.second) (g.Q.Port.state c.copy_page.new.second) c.loop-next.last c.loop-next.invariant.progress.same c.loop-next.invariant.visits
    (turns_as IsPart HaveSame (g.P.Port.state c.loop-next.first) (g.Q.Port.state c.loop-next.second)
    (g.Q.Port.state c.copy_page.new.second) _ c.loop-next.last _ None c.as_ref.ensures.value c.in-Ok-None.field-0-is c.in-Ok-None.ensures.turns)

pub returns-in-Ok-None-clause-copied : goal.returns-in-Ok-None-clause-copied
returns-in-Ok-None-clause-copied g c = goes_on g.met.P.Port.took_both g.met.Q.Port.took_both _ _ _ _ _ _ c.loop-next.invariant.progress c.in-Ok-None.ensures.copied

pub returns-in-Ok-None-clause-asked_first : goal.returns-in-Ok-None-clause-asked_first
returns-in-Ok-None-clause-asked_first g c = asked_later g.P.Port.took g.met.P.Port.took_both _ _ _ _ c.loop-next.invariant.progress.took_first.2 c.in-Ok-None.ensures.asked_first

pub returns-in-Err-clause-fails : goal.returns-in-Err-clause-fails
returns-in-Err-clause-fails g c =
    fails_on g.met.P.Port.took_both g.met.Q.Port.took_both _ _ _ _ _ _ c.loop-next.invariant.progress g.met.P.Port.took_state g.met.Q.Port.took_state _ c.in-Err.ensures.fails
