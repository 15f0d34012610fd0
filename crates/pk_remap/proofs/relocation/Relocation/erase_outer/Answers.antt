use Rattle.std.proofs.Common.{◌-◌, inl, inr, refl, arith}
use Rattle.pk_nand.{specs.BoardState.BoardState, proofs.Writing.shape_is, proofs.Effects.works_erase, proofs.Effects.stops_erase}
use Rattle.pk_remap.{specs.Serving.outer_of, proofs.Counting.counted_done, proofs.Counting.outer_served, proofs.Counting.outer_none_left}
use Rattle.pk_remap.proofs.Outer.{erase_inside, erase_done, erase_begins, erase_served, erase_none_left, erase_left}
use Rattle.pk_remap.{specs.Stepping.one_erase, proofs.Bounding.calls_one, proofs.Bounding.moved_by, proofs.Bounding.calls_more, proofs.Bounding.steps_fit, specs.MostCalls.relocation_calls}
use Rattle.pk_remap.proofs.relocation.Relocation.erase_outer.Goals as goal

pub erase-requires : goal.erase-requires
erase-requires g c =
    let board : BoardState = g.N.Nand.state c.args.inner.now in
    rw (shape_is board _ c.requires.rests.ready, c.place-at.ensures) (erase_inside c.args.self.now board c.requires.rests c.args.block c.requires.inside)

pub serve-requires : goal.serve-requires
serve-requires g c =
    let r = c.args.self.now in
    let board : BoardState = g.N.Nand.state c.args.inner.now in (
      outer_of r board.pages,
      erase_begins r board c.requires.rests c.args.block c.requires.inside
          (g.N.Nand.state c.erase.new.self) (rw c.place-at.ensures at c.in-Err.ensures.err) c.if-self.true,
    )

pub returns-in-Ok : goal.returns-in-Ok
returns-in-Ok g c =
    let r = c.args.self.now in
    let board : BoardState = g.N.Nand.state c.args.inner.now in
    let new : BoardState = g.N.Nand.state c.erase.new.self in
    let works = works_erase board new _ c.in-Ok.ensures.ok in
    record {
      outcome = erase_done r board c.requires.rests c.args.block c.requires.inside _ new (rw c.place-at.ensures at c.in-Ok.ensures.ok);
      counts = counted_done r r board new works.rest 0 works.no_fault.2 (omega arith);
      calls = inl (calls_one board new (one_erase _ (inl c.in-Ok.ensures.ok)));
    }

pub returns-then-self : goal.returns-then-self
returns-then-self g c =
    let r = c.args.self.now in
    let board : BoardState = g.N.Nand.state c.args.inner.now in
    let mid : BoardState = g.N.Nand.state c.erase.new.self in
    let new : BoardState = g.N.Nand.state c.serve.new.inner in
    let stops = stops_erase board mid _ c.in-Err.ensures.err in
    record {
      outcome = erase_served r board c.requires.rests c.args.block c.requires.inside mid (rw c.place-at.ensures at c.in-Err.ensures.err) c.if-self.true
          c.serve.result c.serve.new.self new c.serve.ensures.serves;
      counts = outer_served r _ c.serve.new.self board mid new c.serve.result stops.rest stops.stop refl c.serve.ensures.counts;
      calls = moved_by (relocation_calls r.shape (r.spares - r.taken)) board mid new _ c.serve.result c.serve.new.self (one_erase _ (inr c.in-Err.ensures.err)) stops.stop c.serve.ensures.counts
          (calls_more _ _ mid new (steps_fit r.shape r.spares r.taken c.if-self.true) c.serve.ensures.calls);
    }

pub returns-else-self : goal.returns-else-self
returns-else-self g c =
    let r = c.args.self.now in
    let board : BoardState = g.N.Nand.state c.args.inner.now in
    let new : BoardState = g.N.Nand.state c.erase.new.self in
    let failed = rw c.place-at.ensures at c.in-Err.ensures.err in
    let stops = stops_erase board new _ failed in
    record {
      outcome = erase_none_left r board c.requires.rests c.args.block c.requires.inside _ new failed c.if-self.false;
      counts = outer_none_left r board new stops.rest stops.stop (erase_left r board c.requires.rests c.args.block c.requires.inside new failed);
      calls = inl (calls_one board new (one_erase _ (inr c.in-Err.ensures.err)));
    }
