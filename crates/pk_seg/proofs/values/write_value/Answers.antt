use Rattle.std.proofs.Common.{◌≡◌, ◌+◌, ◌∙◌, List, ℕ, length, arith, subst}
use Rattle.pk_base.{specs.Shape.charge, proofs.CommitPages.even_rest}
use Rattle.pk_seg.proofs.Programs.{Writing-start, Writing-written, Writing-failed}
use Rattle.pk_seg.proofs.values.write_value.Goals as goal

pub loop-i-init : goal.loop-i-init
loop-i-init g c = record {
  buffer = c.requires.room;
  writing = Writing-start _ c.args.shape.now c.args.key.now c.args.value.now c.args.page (charge c.args.shape.now (length c.args.value.now)) c.requires.ready c.requires.order;
}

pub loop-i-preserved : goal.loop-i-preserved
loop-i-preserved g c = record {
  buffer = c.page.auto.into ∙ c.loop-i.invariant.buffer;
  writing =
      let less = rw c.charge-i-end.ensures.value at c.loop-i-test.true in
      let w = c.loop-i.invariant.writing in
      Writing-written _ _ _ c.args.shape.now c.args.key.now c.args.value.now c.args.page (charge c.args.shape.now (length c.args.value.now)) c.loop-i.i c.page.new.into
      (even_rest c.args.page c.args.shape.now.block_pages c.requires.even c.known.ensures.eights) c.page.ensures c.in-Ok.ensures.ok
      (c.in-Ok.ensures.ready c.args.shape.now w.ready) less c.requires.exist w;
}

pub returns-in-Err-clause-cuts_err : goal.returns-in-Err-clause-cuts_err
returns-in-Err-clause-cuts_err g c =
    let less = rw c.charge-i-end.ensures.value at c.loop-i-test.true in
    let failed = rw c.page.ensures at c.in-Err.ensures.err in
    Writing-failed _ _ _ c.args.shape.now c.args.key.now c.args.value.now c.args.page (charge c.args.shape.now (length c.args.value.now)) c.loop-i.i
    (even_rest c.args.page c.args.shape.now.block_pages c.requires.even c.known.ensures.eights) less c.loop-i.invariant.writing failed
