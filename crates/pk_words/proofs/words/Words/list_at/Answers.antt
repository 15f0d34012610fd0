use Rattle.std.proofs.Common.{ap, refl, ◌∙◌, ◌++◌}
use Rattle.pk_nvme.{specs.Bytes.RoomyList, specs.declared.opcode.Opcode.TheVariants.Exist}
use Rattle.pk_host.proofs.PageLemmas.{took_one}
use Rattle.pk_words.{specs.Lines.status_line, specs.Lines.key_line, proofs.ListLemmas.says_there, proofs.ListLemmas.says_missing, proofs.ListLemmas.exist_failed}
use Rattle.pk_words.proofs.words.Words.list_at.Goals as goal

pub returns-in-Ok-true-clause-piece : goal.returns-in-Ok-true-clause-piece
returns-in-Ok-true-clause-piece g c =
    says_there (g.P.Port.state c.args.port.now) c.args.key c.in-Ok-true.field-0 _ c.in-Ok-true.field-0-test c.in-Ok-true.ensures.tests
    (ap (λ (t : RoomyList). t.items) c.add_key.ensures.line ∙ ap (λ (t : RoomyList). t.items ++ key_line c.args.key) c.clear.ensures)

pub returns-in-Ok-false-clause-piece : goal.returns-in-Ok-false-clause-piece
returns-in-Ok-false-clause-piece g c =
    says_missing (g.P.Port.state c.args.port.now) c.args.key c.in-Ok-false.field-0 _ c.in-Ok-false.field-0-test c.in-Ok-false.ensures.tests (ap (λ (t : RoomyList). t.items) c.clear.ensures)

pub returns-in-Err-Refused-clause-piece : goal.returns-in-Err-Refused-clause-piece
returns-in-Err-Refused-clause-piece g c =
    exist_failed (g.P.Port.state c.args.port.now) (g.P.Port.state c.exist.new.port) c.args.key c.in-Err-Refused.field-0 c.in-Err-Refused.status _ c.in-Err-Refused.field-0-is
    c.bytes.ensures.key c.in-Err-Refused.ensures.gives (ap (λ (t : RoomyList). t.items) c.say_status.ensures ∙ ap status_line c.in-Err-Refused.status-is)

pub returns-in-Err-Refused-clause-leaves : goal.returns-in-Err-Refused-clause-leaves
returns-in-Err-Refused-clause-leaves g c = took_one _ _ _ Exist refl (λ m. refl) (g.met.P.Port.took_state _ _ _ c.exist.ensures.took)

pub returns-in-Err-clause-leaves : goal.returns-in-Err-clause-leaves
returns-in-Err-clause-leaves g c = took_one _ _ _ Exist refl (λ m. refl) (g.met.P.Port.took_state _ _ _ c.exist.ensures.took)
