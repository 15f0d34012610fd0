use Rattle.std.proofs.Common.{◌≤◌, [], ◌∷◌, length, sym, ap, subst, ◌∙◌}
use Rattle.pk_nvme.specs.Command.{Command, IsWhole}
use Rattle.pk_host.{specs.Port.room_of, proofs.CompletionLemmas.replied}
use Rattle.pk_host.proofs.ask.ask.Goals as goal

pub submit-requires-clause-whole : goal.submit-requires-clause-whole
submit-requires-clause-whole g c =
    let e = c.entry.ensures.fields c.args.value.now ∙ c.request_of-request.ensures c.args.value.now in
    subst IsWhole (sym e) (record { whole = c.requires.whole })

pub submit-requires-clause-room : goal.submit-requires-clause-room
submit-requires-clause-room g c =
    let e = c.entry.ensures.fields c.args.value.now ∙ c.request_of-request.ensures c.args.value.now in
    subst (λ (x : Command). room_of x ≤ length c.args.into.now) (sym e) c.requires.room

pub submit-requires-clause-namespace : goal.submit-requires-clause-namespace
submit-requires-clause-namespace g c = ap (λ (x : Command). x.namespace) (c.entry.ensures.fields c.args.value.now ∙ c.request_of-request.ensures c.args.value.now)

pub returns-in-Ok-clause-replies : goal.returns-in-Ok-clause-replies
returns-in-Ok-clause-replies g c =
    let e = c.entry.ensures.fields c.args.value.now ∙ c.request_of-request.ensures c.args.value.now in
    replied _ _ _ _ c.in-Ok.done c.submit.new.into _ _ e c.in-Ok.ensures.completes c.status_in.ensures.told c.result_in.ensures.told

pub returns-in-Ok-clause-took : goal.returns-in-Ok-clause-took
returns-in-Ok-clause-took g c =
    let e = c.entry.ensures.fields c.args.value.now ∙ c.request_of-request.ensures c.args.value.now in
    subst (λ (x : Command). g.P.Port.took c.args.port.now (x ∷ []) c.submit.new.self) e c.submit.ensures.took

pub returns-in-Err-clause-took : goal.returns-in-Err-clause-took
returns-in-Err-clause-took g c =
    let e = c.entry.ensures.fields c.args.value.now ∙ c.request_of-request.ensures c.args.value.now in
    subst (λ (x : Command). g.P.Port.took c.args.port.now (x ∷ []) c.submit.new.self) e c.submit.ensures.took
