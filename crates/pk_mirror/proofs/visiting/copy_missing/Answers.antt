use Rattle.std.proofs.Common.{[], inr, refl}
use Rattle.pk_host.{specs.Outcomes.existed, specs.TookLaws.took_none}
use Rattle.pk_mirror.{specs.declared.error.Side.TheVariants.Second, specs.Agreement.IsPart, specs.Agreement.HaveSame, specs.Progress.Looked, proofs.ReplyLemmas.existed_tells}
use Rattle.pk_mirror.{proofs.PairLemmas.still_alike, proofs.PairLemmas.on_ok_map, proofs.PairLemmas.if_err_map, proofs.visiting.copy_missing.Goals.After-exist}
use Rattle.pk_mirror.proofs.KeyLemmas.{visits_there, visits_from, lacked, second_cause, side_unread, exist_unread, exist_keeps}
use Rattle.pk_mirror.proofs.VisitLemmas.{asking_none, looked_goes, looked_fails, goes_on, fails_on}
use Rattle.pk_mirror.proofs.SpendLemmas.{looks_no_store}
use Rattle.pk_mirror.proofs.visiting.copy_missing.Given as given
use Rattle.pk_mirror.proofs.visiting.copy_missing.Goals as goal

seen : (g : given.Over) (c : After-exist g) → Looked g.P.Port.state g.P.Port.took g.Q.Port.state g.Q.Port.took c.args.first.now c.args.first.now c.args.second.now c.exist.new.port
seen g c = record {
  took_first = asking_none g.P.Port.took _ (g.met.P.Port.took_none c.args.first.now);
  took_second = (_, (inr (c.args.key.now, refl), tt), c.exist.ensures.took);
  first_keeps = refl;
  second_keeps = exist_keeps _ _ c.args.key.now (g.met.Q.Port.took_state _ _ _ c.exist.ensures.took);
}

pub copy-requires-clause-alike : goal.copy-requires-clause-alike
copy-requires-clause-alike g c = still_alike _ _ _ _ [] _ (took_none (g.P.Port.state c.args.first.now)) (g.met.Q.Port.took_state _ _ _ c.exist.ensures.took) c.requires.alike

pub copy-requires-clause-lacked : goal.copy-requires-clause-lacked
copy-requires-clause-lacked g c = lacked (g.Q.Port.state c.args.second.now) (g.Q.Port.state c.exist.new.port) c.args.key.now
    c.in-Ok-false.field-0 c.in-Ok-false.field-0-test c.in-Ok-false.ensures.tests (seen g (goal.at.copy-requires-clause-lacked g c).After-exist).second_keeps

pub returns-in-Ok-true-clause-visits : goal.returns-in-Ok-true-clause-visits
returns-in-Ok-true-clause-visits g c = visits_there (g.P.Port.state c.args.first.now) (g.Q.Port.state c.args.second.now) (g.Q.Port.state c.exist.new.port) c.args.key.now
    c.in-Ok-true.field-0 c.in-Ok-true.field-0-test c.in-Ok-true.ensures.tests (seen g (goal.at.returns-in-Ok-true-clause-visits g c).After-exist).second_keeps

pub returns-in-Ok-true-clause-copied : goal.returns-in-Ok-true-clause-copied
returns-in-Ok-true-clause-copied g c = looked_goes looks_no_store _ _ _ _ (seen g (goal.at.returns-in-Ok-true-clause-copied g c).After-exist)

pub returns-in-Ok-false : goal.returns-in-Ok-false
returns-in-Ok-false g c =
    let looks = seen g (goal.at.returns-in-Ok-false g c).After-exist in
    record {
      visits = on_ok_map c.copy.result _ _ (visits_from IsPart HaveSame (g.P.Port.state c.args.first.now) (g.Q.Port.state c.args.second.now)
          (g.Q.Port.state c.exist.new.port) (g.Q.Port.state c.copy.new.second) _ looks.second_keeps) c.copy.ensures.visits;
      copied = on_ok_map c.copy.result _ _
          (goes_on g.met.P.Port.took_both g.met.Q.Port.took_both _ _ _ _ _ _ (looked_goes looks_no_store _ _ _ _ looks)) c.copy.ensures.copied;
      fails = if_err_map c.copy.result _ _
          (fails_on g.met.P.Port.took_both g.met.Q.Port.took_both _ _ _ _ _ _ (looked_goes looks_no_store _ _ _ _ looks) g.met.P.Port.took_state g.met.Q.Port.took_state) c.copy.ensures.fails;
    }

pub returns-in-Err-clause-fails : goal.returns-in-Err-clause-fails
returns-in-Err-clause-fails g c = looked_fails looks_no_store _ _ _ _ (seen g (goal.at.returns-in-Err-clause-fails g c).After-exist) _
    (second_cause existed existed_tells _ _ _ _ _ c.in-Err.error c.on.result c.in-Err.ensures.gives c.on.ensures)
    (λ a b ea eb part. side_unread existed existed_tells _ Second _ _ c.in-Err.error c.on.result (exist_unread c.args.key.now c.bytes.ensures.key) c.in-Err.ensures.gives c.on.ensures b eb)
