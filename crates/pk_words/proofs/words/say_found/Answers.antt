use Rattle.std.proofs.Common.{Some, ap, ◌∙◌, List, ℕ}
use Rattle.pk_nvme.specs.Bytes.{RoomyList}
use Rattle.pk_words.{specs.Lines.value_line, proofs.SaidLemmas.said_value, proofs.SaidLemmas.said_missing, proofs.SaidLemmas.said_failed}
use Rattle.pk_words.proofs.words.say_found.Goals as goal

pub returns-in-Ok-Some-clause-said : goal.returns-in-Ok-Some-clause-said
returns-in-Ok-Some-clause-said g c = λ sized.
    said_value (g.P.Port.state c.args.port.now) (g.P.Port.state c.retrieve.new.port) c.args.key.now _ c.in-Ok-Some.field-0 c.in-Ok-Some.len c.retrieve.new.into _ c.in-Ok-Some.field-0-is
    (c.retrieve.auto.into ∙ sized) c.in-Ok-Some.ensures.gives c.in-Ok-Some.ensures.fetches
    (ap (λ (t : RoomyList). t.items) c.say_value.ensures ∙ ap (λ (xs : List ℕ). value_line (Some xs)) c.front.ensures)

pub returns-in-Ok-None-clause-said : goal.returns-in-Ok-None-clause-said
returns-in-Ok-None-clause-said g c = λ sized.
    said_missing (g.P.Port.state c.args.port.now) (g.P.Port.state c.retrieve.new.port) c.args.key.now _ c.in-Ok-None.field-0 c.retrieve.new.into _ c.in-Ok-None.field-0-is
    c.in-Ok-None.ensures.gives c.in-Ok-None.ensures.fetches (ap (λ (t : RoomyList). t.items) c.say_status.ensures)

pub returns-in-Err-Refused-clause-said : goal.returns-in-Err-Refused-clause-said
returns-in-Err-Refused-clause-said g c = λ sized.
    said_failed (g.P.Port.state c.args.port.now) (g.P.Port.state c.retrieve.new.port) c.args.key.now _ c.in-Err-Refused.field-0 c.in-Err-Refused.status _ c.in-Err-Refused.field-0-is
    c.bytes.ensures.key c.in-Err-Refused.ensures.gives (ap (λ (t : RoomyList). t.items) c.say_status-in-Err-Refused.ensures)
