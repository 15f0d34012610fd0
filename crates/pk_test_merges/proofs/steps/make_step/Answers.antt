use Rattle.std.proofs.Common.{◌≡◌, Bool, Result, Err, refl}
use Rattle.pk_nand.{specs.declared.types.Fault.Fault, specs.declared.types.Fault.TheVariants.Reading}
use Rattle.pk_test_merges.proofs.Carried.{carried}
use Rattle.pk_test_merges.proofs.steps.make_step.Goals as goal

pub returns-in-Ok-clause-runs : goal.returns-in-Ok-clause-runs
returns-in-Ok-clause-runs g c = λ es fs r. carried c.args.source _ c.args.target.now c.step.new.self c.step.new.pool (g.B.Nand.state c.step.new.board).pages c.step.new.arena es fs refl
    (c.in-Ok.ensures.running es fs (carried _ c.args.source c.args.target.now c.args.job.now c.args.pool.now (g.B.Nand.state c.args.board.now).pages c.args.arena.now es fs refl r))

pub returns-in-Err-Reading-clause-runs : goal.returns-in-Err-Reading-clause-runs
returns-in-Err-Reading-clause-runs g c = λ es fs r.
    let failed : ◌≡◌ {A = Result Bool Fault} (Err c.in-Err-Reading.field-0) (Err Reading) = rw c.in-Err-Reading.field-0-is refl in
    carried c.args.source _ c.args.target.now c.step.new.self c.step.new.pool (g.B.Nand.state c.step.new.board).pages c.step.new.arena es fs refl
    (c.in-Err-Reading.ensures.again failed es fs (carried _ c.args.source c.args.target.now c.args.job.now c.args.pool.now (g.B.Nand.state c.args.board.now).pages c.args.arena.now es fs refl r))
