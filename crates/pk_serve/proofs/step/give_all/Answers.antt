use Rattle.std.proofs.Common.{suc, ◌+◌, ◌≡◌, ◌∙◌, take, drop, sym, ap, arith}
use Rattle.pk_queue.specs.Queue.{bytes_of}
use Rattle.pk_serve.{proofs.Giving.posts_both, proofs.Giving.breaks_second, proofs.Blaming.quiet-then, proofs.Parting.faulted-then, proofs.Queueing.bytes_of-next, proofs.Queueing.bytes_of-all}
use Rattle.pk_serve.proofs.step.give_all.Goals as goal

pub returns-in-Err-clause-breaks : goal.returns-in-Err-clause-breaks
returns-in-Err-clause-breaks g c =
    let heads = c.args.heads.now in
    let i = c.loop-head.head-index in
    breaks_second _ _ _ (bytes_of (take i heads)) _ (bytes_of (drop (suc i) heads)) (bytes_of heads) c.in-Err.end
    (bytes_of-all heads i c.loop-head-test.true) c.loop-head.invariant.posts c.in-Err.ensures.breaks

pub loop-head-preserved : goal.loop-head-preserved
loop-head-preserved g c =
    let heads = c.args.heads.now in
    let i = c.loop-head.head-index in
    let v = c.loop-head.invariant in
    let e = c.in-Ok.ensures in
    let next : suc i ≡ i + 1 = omega arith in
    record {
      only = record { flash = (e.only.flash.0 ∙ v.only.flash.0, e.only.flash.1 ∙ v.only.flash.1); input = e.only.input ∙ v.only.input; in_faults = e.only.in_faults ∙ v.only.in_faults };
      quiet = quiet-then _ _ _ v.quiet e.quiet;
      posts = posts_both _ _ _ (bytes_of (take i heads)) _ (bytes_of (take (i + 1) heads)) (ap (λ n. bytes_of (take n heads)) (sym next) ∙ bytes_of-next heads i c.loop-head-test.true) v.posts e.posts;
    }

pub returns-in-Err-clause-fault : goal.returns-in-Err-clause-fault
returns-in-Err-clause-fault g c = faulted-then (g.B.Nand.state c.args.board.now) (g.B.Nand.state c.loop-head.board)
    (g.B.Nand.state c.give.new.board) c.in-Err.end c.loop-head.invariant.quiet c.in-Err.ensures.fault
