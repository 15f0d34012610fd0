use Rattle.std.proofs.Common.{◌∙◌, ap, arith, sym}
use Rattle.pk_base.specs.Shape.{Shape}
use Rattle.pk_level.proofs.Looking.{of_level_at, next_stands, Looking-next, Looking-found, Looking-failed, Looking-end, reads_found, looks_found, looks_end, unpinned_reads}
use Rattle.pk_level.proofs.levels.Levels.lookup.Goals as goal

pub find-requires-clause-ready : goal.find-requires-clause-ready
find-requires-clause-ready g c =
    let level = of_level_at c.args.self.now.shape c.args.self.now.pinned 1 c.args.self.now.runs c.loop-place.place c.at.result.now c.known.ensures.levels.each c.at.ensures in
    rw level.same_shape c.loop-place.invariant.ready

pub find-requires-clause-stands : goal.find-requires-clause-stands
find-requires-clause-stands g c =
    let own = next_stands _ _ _ _ _ _ c.loop-place.invariant.looking _ c.at.ensures c.requires.stand.0 c.requires.stand.1 in
    (own.0, own.2)

pub find-requires-clause-room : goal.find-requires-clause-room
find-requires-clause-room g c =
    let level = of_level_at c.args.self.now.shape c.args.self.now.pinned 1 c.args.self.now.runs c.loop-place.place c.at.result.now c.known.ensures.levels.each c.at.ensures in
    c.loop-place.invariant.room ∙ ap (λ (s : Shape). s.page_bytes) (sym level.same_shape)

pub returns-in-Ok-Some-clause-found : goal.returns-in-Ok-Some-clause-found
returns-in-Ok-Some-clause-found g c =
    Looking-found _ _ _ _ _ _ c.loop-place.invariant.looking _ c.at.ensures c.in-Ok-Some.entry (rw c.in-Ok-Some.field-0-is at c.in-Ok-Some.ensures.found)

pub returns-in-Ok-Some-clause-reads : goal.returns-in-Ok-Some-clause-reads
returns-in-Ok-Some-clause-reads g c = reads_found _ _ _ _ _ _ c.loop-place.invariant.looking _ c.at.ensures _ c.in-Ok-Some.ensures.looks

pub returns-in-Err-clause-err : goal.returns-in-Err-clause-err
returns-in-Err-clause-err g c =
    let failed = c.in-Err.ensures.err in
    let own = next_stands _ _ _ _ _ _ c.loop-place.invariant.looking _ c.at.ensures c.requires.stand.0 c.requires.stand.1 in
    Looking-failed _ _ _ _ _ _ c.loop-place.invariant.looking _ c.at.ensures _ _ (unpinned_reads c.at.result.now own.2.leased c.in-Err.ensures.unpinned) failed.2

pub loop-place-preserved : goal.loop-place-preserved
loop-place-preserved g c =
    let level = of_level_at c.args.self.now.shape c.args.self.now.pinned 1 c.args.self.now.runs c.loop-place.place c.at.result.now c.known.ensures.levels.each c.at.ensures in
    record {
      ready = rw level.same_shape at c.in-Ok-None.ensures.ready;
      room = c.find.auto.buf ∙ c.loop-place.invariant.room;
      looking = Looking-next _ _ _ _ _ _ c.loop-place.invariant.looking _ c.at.ensures _ c.in-Ok-None.ensures.looks (rw c.in-Ok-None.field-0-is at c.in-Ok-None.ensures.found);
    }

pub returns-clause-found : goal.returns-clause-found
returns-clause-found g c = Looking-end _ _ _ _ _ _ c.loop-place.invariant.looking (omega (arith, c.known.ensures.levels.four, c.loop-place-test.false))

pub returns-in-Ok-Some-clause-looks : goal.returns-in-Ok-Some-clause-looks
returns-in-Ok-Some-clause-looks g c =
    looks_found _ _ _ _ _ _ c.loop-place.invariant.looking _ c.at.ensures _ c.in-Ok-Some.ensures.looks c.in-Ok-Some.entry (rw c.in-Ok-Some.field-0-is at c.in-Ok-Some.ensures.found)

pub returns-clause-looks : goal.returns-clause-looks
returns-clause-looks g c = looks_end _ _ _ _ _ _ c.loop-place.invariant.looking (omega (arith, c.known.ensures.levels.four, c.loop-place-test.false))
