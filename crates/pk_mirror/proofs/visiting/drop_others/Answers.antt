use Rattle.std.proofs.Common.{◌≤◌, [], ◌∷◌, ◌++◌, length, take, sym, ap, subst, ◌∙◌, arith}
use Rattle.std.proofs.lemmas.List.{take_more, take_all}
use Rattle.pk_base.{specs.Key.Key, specs.Shape.Shape, specs.Shape.greatest}
use Rattle.pk_mirror.{specs.Agreement.AreAny, specs.Agreement.NoOther, specs.Spending.ToDelete, proofs.PairLemmas.still_alike, proofs.SpendLemmas.took_settled}
use Rattle.pk_mirror.proofs.VisitLemmas.{visiting_begins, visiting_goes, visiting_all, fails_on}
use Rattle.pk_nvme.specs.declared.opcode.TheConstants.{DELETE}
use Rattle.pk_mirror.proofs.visiting.drop_others.Goals as goal

pub loop-i-init : goal.loop-i-init
loop-i-init g c = visiting_begins g.P.Port.state g.P.Port.took g.Q.Port.state g.Q.Port.took AreAny ToDelete DELETE NoOther c.args.first.now c.args.second.now
    (g.met.P.Port.took_none c.args.first.now) (g.met.Q.Port.took_none c.args.second.now)

pub drop_other-requires-clause-alike : goal.drop_other-requires-clause-alike
drop_other-requires-clause-alike g c = still_alike _ _ _ _ _ _ (g.met.P.Port.took_state _ _ _ c.loop-i.invariant.progress.took_first.2)
    (g.met.Q.Port.took_state _ _ _ c.loop-i.invariant.progress.took_second.2) c.requires.alike

pub drop_other-requires-clause-room_one : goal.drop_other-requires-clause-room_one
drop_other-requires-clause-room_one g c = subst (λ (s : Shape). greatest s ≤ length c.loop-i.one)
    (sym (g.met.P.Port.took_state _ _ _ c.loop-i.invariant.progress.took_first.2).shape) (omega (arith, c.requires.room_one, c.loop-i.auto.one))

pub drop_other-requires-clause-room_two : goal.drop_other-requires-clause-room_two
drop_other-requires-clause-room_two g c = subst (λ (s : Shape). greatest s ≤ length c.loop-i.two)
    (sym (g.met.P.Port.took_state _ _ _ c.loop-i.invariant.progress.took_first.2).shape) (omega (arith, c.requires.room_two, c.loop-i.auto.two))

pub loop-i-preserved : goal.loop-i-preserved
loop-i-preserved g c = visiting_goes g.P.Port.state g.P.Port.took g.Q.Port.state g.Q.Port.took AreAny ToDelete DELETE NoOther g.met.P.Port.took_both g.met.Q.Port.took_both
    _ _ _ _ _ _ _ _ _ c.loop-i.invariant c.in-Ok.ensures.dropped c.in-Ok.ensures.visits
    (take_more c.args.page.now c.loop-i.i [] (omega (arith, c.loop-i-test.true, c.len-i-end.ensures.count)) ∙ ap (λ (k : Key). take c.loop-i.i c.args.page.now ++ k ∷ []) (sym c.at.ensures.value))

pub returns-in-Err : goal.returns-in-Err
returns-in-Err g c =
    let failed = fails_on g.met.P.Port.took_both g.met.Q.Port.took_both _ _ _ _ _ _ c.loop-i.invariant.progress g.met.P.Port.took_state g.met.Q.Port.took_state _ c.in-Err.ensures.fails in
    record {
      visits = tt;
      keeps = failed.same;
      causes = failed.causes;
      unread = failed.unread;
      took_first = failed.took_first;
      took_second = failed.took_second;
      deleted = tt;
    }

pub returns : goal.returns
returns g c = record {
  visits = visiting_all g.P.Port.state g.P.Port.took g.Q.Port.state g.Q.Port.took AreAny ToDelete DELETE NoOther _ _ _ _ _ c.args.page.now
      (take_all c.loop-i.i c.args.page.now (omega (arith, c.loop-i-test.false, c.len-i-end.ensures.count))) c.loop-i.invariant;
  keeps = c.loop-i.invariant.progress.same;
  causes = tt;
  unread = tt;
  took_first = c.loop-i.invariant.progress.took_first;
  took_second = took_settled AreAny ToDelete DELETE g.Q.Port.state g.Q.Port.took g.met.Q.Port.took_state (g.P.Port.state c.args.first.now) _ _ c.loop-i.invariant.progress.took_second;
  deleted = c.loop-i.invariant.progress.took_second;
}
