use Rattle.std.proofs.Common.{◌++◌, ◌∷◌, [], List, ap, sym, ◌∙◌, arith}
use Rattle.pk_base.specs.Entry.{Entry}
use Rattle.pk_gc.{specs.declared.moves.Move.Move, proofs.Listing.entries_left, proofs.Listing.left_push, proofs.Listing.take_next}
use Rattle.pk_gc.proofs.moves.fill_left.Goals as goal

pub loop-m-preserved : goal.loop-m-preserved
loop-m-preserved g c =
    let heads = c.args.live.now.heads in
    let m = c.m-item.result in
    let next = take_next c.args.moves.now c.loop-m.m-index m c.loop-m-test.true c.m-item.is in
    record {
      left = c.add_left.ensures.left ∙ ap (λ (es : List Entry). es ++ entries_left heads (m ∷ [])) c.loop-m.invariant.left
          ∙ sym (ap (λ (ms : List Move). entries_left heads ms) next ∙ left_push heads _ m);
      few = omega arith;
      room = c.add_left.ensures.room ∙ c.loop-m.invariant.room;
    }
