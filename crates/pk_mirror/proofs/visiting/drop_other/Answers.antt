use Rattle.std.proofs.Common.{[], sym, refl, ◌∙◌}
use Rattle.pk_nvme.specs.declared.opcode.TheConstants.{DELETE}
use Rattle.pk_host.{specs.Outcomes.existed, proofs.CommandLemmas.key-of_key}
use Rattle.pk_mirror.{specs.declared.error.Side.TheVariants.Second, proofs.ReplyLemmas.existed_tells}
use Rattle.pk_mirror.proofs.VisitLemmas.{asking_none, looked_goes, goes_on, fails_on}
use Rattle.pk_mirror.proofs.KeyLemmas.{visits_kept, visits_deleted, second_cause, side_unread, delete_unread}
use Rattle.pk_mirror.proofs.SpendLemmas.{looks_no_delete, deleted_one, deleting_one}
use Rattle.pk_mirror.proofs.visiting.drop_other.Goals as goal

pub returns-in-Ok-false-clause-visits : goal.returns-in-Ok-false-clause-visits
returns-in-Ok-false-clause-visits g c = visits_kept (g.P.Port.state c.args.first.now) (g.Q.Port.state c.args.second.now)
    (g.Q.Port.state c.has_other.new.second) c.args.key.now c.in-Ok-false.ensures.looks.second_keeps (λ a b ea eb. c.in-Ok-false.ensures.tells a b ea eb c.in-Ok-false.field-0-test)

pub returns-in-Ok-false-clause-dropped : goal.returns-in-Ok-false-clause-dropped
returns-in-Ok-false-clause-dropped g c = looked_goes looks_no_delete _ _ _ _ c.in-Ok-false.ensures.looks

pub returns-in-Ok-clause-visits : goal.returns-in-Ok-clause-visits
returns-in-Ok-clause-visits g c = visits_deleted (g.P.Port.state c.args.first.now) (g.Q.Port.state c.args.second.now) (g.Q.Port.state c.has_other.new.second)
    (g.Q.Port.state c.delete.new.port) c.args.key.now c.in-Ok.field-0 c.in-Ok-true.ensures.looks.second_keeps c.in-Ok.ensures.tests c.in-Ok.ensures.deletes

pub returns-in-Ok-clause-dropped : goal.returns-in-Ok-clause-dropped
returns-in-Ok-clause-dropped g c =
    let looks = c.in-Ok-true.ensures.looks in
    goes_on g.met.P.Port.took_both g.met.Q.Port.took_both _ _ _ _ _ _ (looked_goes looks_no_delete _ _ _ _ looks) record {
      took_first = asking_none g.P.Port.took _ (g.met.P.Port.took_none c.has_other.new.first);
      took_second = (
        _,
        deleted_one (g.P.Port.state c.has_other.new.first) (g.Q.Port.state c.has_other.new.second) (g.Q.Port.state c.delete.new.port) c.args.key.now
            (key-of_key DELETE c.args.key.now 0 0 [] (c.bytes.ensures.key, c.requires.own))
            (λ a b ea eb. c.in-Ok-true.ensures.differs a b (sym looks.first_keeps ∙ ea) (sym looks.second_keeps ∙ eb) c.in-Ok-true.field-0-test)
            c.in-Ok.field-0 c.in-Ok.ensures.tests c.in-Ok.ensures.deletes,
        c.delete.ensures.took,
      );
      same = refl;
      goes = λ a b ea eb any. (_, c.in-Ok.ensures.deletes b eb, tt);
    }

pub returns-in-Err-delete-clause-fails : goal.returns-in-Err-delete-clause-fails
returns-in-Err-delete-clause-fails g c =
    let looks = c.in-Ok-true.ensures.looks in
    fails_on g.met.P.Port.took_both g.met.Q.Port.took_both _ _ _ _ _ _ (looked_goes looks_no_delete _ _ _ _ looks) g.met.P.Port.took_state g.met.Q.Port.took_state _ record {
      took_first = asking_none g.P.Port.took _ (g.met.P.Port.took_none c.has_other.new.first);
      took_second = (
        _,
        deleting_one (g.P.Port.state c.has_other.new.first) (g.Q.Port.state c.has_other.new.second) (g.Q.Port.state c.delete.new.port) c.args.key.now
            (key-of_key DELETE c.args.key.now 0 0 [] (c.bytes.ensures.key, c.requires.own))
            (λ a b ea eb. c.in-Ok-true.ensures.differs a b (sym looks.first_keeps ∙ ea) (sym looks.second_keeps ∙ eb) c.in-Ok-true.field-0-test),
        c.delete.ensures.took,
      );
      same = refl;
      causes = second_cause existed existed_tells _ _ _ _ _ c.in-Err-delete.error c.on.result c.in-Err-delete.ensures.gives c.on.ensures;
      unread = λ a b ea eb any. side_unread existed existed_tells _ Second (g.Q.Port.state c.has_other.new.second) _ c.in-Err-delete.error c.on.result
          (delete_unread c.args.key.now c.bytes.ensures.key) c.in-Err-delete.ensures.gives c.on.ensures b eb;
    }
