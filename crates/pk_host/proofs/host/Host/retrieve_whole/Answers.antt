use Rattle.pk_host.{specs.Outcomes.retrieved, proofs.CauseLemmas.later_causes, specs.declared.whole.Front.Front, proofs.FetchLemmas.whole_first, proofs.FetchLemmas.took_second}
use Rattle.pk_host.proofs.host.Host.retrieve_whole.Goals as goal

pub returns-then-whole-le-FIRST_BYTES-clause-gets : goal.returns-then-whole-le-FIRST_BYTES-clause-gets
returns-then-whole-le-FIRST_BYTES-clause-gets g c = whole_first (g.P.Port.state c.args.port.now) c.args.key.now (λ (x : Front). x.bytes.items)
    (λ (x : Front). x.whole) c.in-Ok-Some.field-0 c.in-Ok-Some.field-0-0 4096 c.in-Ok-Some.field-0-is c.in-Ok-Some.ensures.cuts c.if-whole-le-FIRST_BYTES.true

pub returns-else-whole-le-FIRST_BYTES-clause-took : goal.returns-else-whole-le-FIRST_BYTES-clause-took
returns-else-whole-le-FIRST_BYTES-clause-took g c = took_second g.P.Port.took g.met.P.Port.took_both _ _ _ c.args.key.now c.in-Ok-Some.field-0-0.whole c.in-Ok-Some.ensures.asked c.again.ensures.took

pub returns-else-whole-le-FIRST_BYTES-clause-causes : goal.returns-else-whole-le-FIRST_BYTES-clause-causes
returns-else-whole-le-FIRST_BYTES-clause-causes g c = later_causes _ _ (g.P.Port.state c.again.new.port) _ retrieved c.again.result
    (g.met.P.Port.took_state _ _ _ c.in-Ok-Some.ensures.asked) c.in-Ok-Some.ensures.leaves c.again.ensures.causes
