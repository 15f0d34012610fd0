use Rattle.std.proofs.Common.{◌≡◌, ◌-◌, inl, inr, ℕ, List, length, take, refl, ap, subst, ◌∙◌, arith}
use Rattle.pk_nand.{specs.BoardState.BoardState, proofs.Writing.shape_is, proofs.Effects.works_program, proofs.Effects.stops_program}
use Rattle.pk_remap.{specs.Serving.outer_of, proofs.Running.refilled, proofs.Counting.counted_done, proofs.Counting.outer_served, proofs.Counting.outer_none_left}
use Rattle.pk_remap.proofs.Outer.{page_inside, inner_order, program_done, program_begins, program_served, program_none_left, program_left}
use Rattle.pk_remap.{specs.Stepping.one_program, proofs.Bounding.calls_one, proofs.Bounding.moved_by, proofs.Bounding.calls_more, proofs.Bounding.steps_fit, specs.MostCalls.relocation_calls}
use Rattle.pk_remap.proofs.relocation.Relocation.program_with_partner.Goals as goal

pub program-requires-clause-exists : goal.program-requires-clause-exists
program-requires-clause-exists g c =
    rw c.inner_page-at.ensures (page_inside c.args.self.now (g.N.Nand.state c.args.inner.now) c.requires.rests c.args.page c.requires.inside)

pub program-requires-clause-order : goal.program-requires-clause-order
program-requires-clause-order g c =
    let board : BoardState = g.N.Nand.state c.args.inner.now in
    rw (c.inner_page-at.ensures, shape_is board _ c.requires.rests.ready)
    (inner_order c.args.self.now board c.requires.rests c.args.page c.requires.inside c.requires.order)

pub serve-requires : goal.serve-requires
serve-requires g c =
    let r = c.args.self.now in
    let board : BoardState = g.N.Nand.state c.args.inner.now in
    let new : List ℕ = c.put_front.new.buffer in
    let buffer = refilled r.bytes new (c.put_front.auto.buffer ∙ c.deref_mut.ensures.len) (c.put_front.auto.buffer ∙ ap length c.deref_mut.ensures.value) c.requires.rests.room.new_page in
    let T : ℕ → Type 0 = λ n. take n new ≡ c.args.bytes.now in
    let front : take r.shape.page_bytes new ≡ c.args.bytes.now = subst T c.requires.full.0 c.put_front.ensures.front in
    let failed = rw c.inner_page-at.ensures at c.in-Err.ensures.err in (
      outer_of r board.pages,
      program_begins r board c.requires.rests c.args.page c.requires.inside c.args.bytes.now c.requires.full c.requires.order
          (g.N.Nand.state c.program.new.self) failed c.if-self.true _ (rw buffer.0 front) (rw buffer.0 buffer.1) c.requires.partner,
    )

pub returns-in-Ok : goal.returns-in-Ok
returns-in-Ok g c =
    let r = c.args.self.now in
    let board : BoardState = g.N.Nand.state c.args.inner.now in
    let new : BoardState = g.N.Nand.state c.program.new.self in
    let works = works_program board new _ _ c.in-Ok.ensures.ok in
    record {
      outcome = program_done r board c.requires.rests c.args.page c.requires.inside c.args.bytes.now c.requires.full c.requires.order _
          new (rw c.inner_page-at.ensures at c.in-Ok.ensures.ok);
      counts = counted_done r r board new works.rest 0 works.no_fault.2 (omega arith);
      calls = inl (calls_one board new (one_program _ _ (inl c.in-Ok.ensures.ok)));
    }

pub returns-then-self : goal.returns-then-self
returns-then-self g c =
    let r = c.args.self.now in
    let board : BoardState = g.N.Nand.state c.args.inner.now in
    let mid : BoardState = g.N.Nand.state c.program.new.self in
    let end : BoardState = g.N.Nand.state c.serve.new.inner in
    let new : List ℕ = c.put_front.new.buffer in
    let buffer = refilled r.bytes new (c.put_front.auto.buffer ∙ c.deref_mut.ensures.len) (c.put_front.auto.buffer ∙ ap length c.deref_mut.ensures.value) c.requires.rests.room.new_page in
    let T : ℕ → Type 0 = λ n. take n new ≡ c.args.bytes.now in
    let front : take r.shape.page_bytes new ≡ c.args.bytes.now = subst T c.requires.full.0 c.put_front.ensures.front in
    let failed = rw c.inner_page-at.ensures at c.in-Err.ensures.err in
    let stops = stops_program board mid _ _ c.in-Err.ensures.err in
    record {
      outcome = program_served r board c.requires.rests c.args.page c.requires.inside c.args.bytes.now c.requires.full c.requires.order
          mid failed c.if-self.true _ (rw buffer.0 front) (rw buffer.0 buffer.1) c.requires.partner
          c.serve.result c.serve.new.self end c.serve.ensures.serves;
      counts = outer_served r _ c.serve.new.self board mid end c.serve.result stops.rest stops.stop refl c.serve.ensures.counts;
      calls = moved_by (relocation_calls r.shape (r.spares - r.taken)) board mid end _ c.serve.result c.serve.new.self (one_program _ _ (inr c.in-Err.ensures.err)) stops.stop c.serve.ensures.counts
          (calls_more _ _ mid end (steps_fit r.shape r.spares r.taken c.if-self.true) c.serve.ensures.calls);
    }

pub returns-else-self : goal.returns-else-self
returns-else-self g c =
    let r = c.args.self.now in
    let board : BoardState = g.N.Nand.state c.args.inner.now in
    let new : BoardState = g.N.Nand.state c.program.new.self in
    let failed = rw c.inner_page-at.ensures at c.in-Err.ensures.err in
    let stops = stops_program board new _ _ failed in
    record {
      outcome = program_none_left r board c.requires.rests c.args.page c.requires.inside c.args.bytes.now c.requires.full c.requires.order _ new failed c.if-self.false;
      counts = outer_none_left r board new stops.rest stops.stop
          (program_left r board c.requires.rests c.args.page c.requires.inside c.args.bytes.now c.requires.full c.requires.order new failed);
      calls = inl (calls_one board new (one_program _ _ (inr c.in-Err.ensures.err)));
    }
