use Rattle.std.proofs.Common.{refl, ◌∙◌, Some, None}
use Rattle.pk_core.proofs.Listing.{fills_start, fills_may, fills_more, fills_less, fills_end, fills_reads, fills_fails, walks_on}
use Rattle.pk_core.proofs.list.put_left.Goals as goal

pub loop-next-init : goal.loop-next-init
loop-next-init g c = record { fills = fills_start _ refl refl refl c.requires.some c.requires.may; rest = refl }

pub put_next-requires-clause-may : goal.put_next-requires-clause-may
put_next-requires-clause-may g c = fills_may c.loop-next.invariant.fills c.loop-next.invariant.rest c.requires.may.same_shape

pub loop-next-smaller : goal.loop-next-smaller
loop-next-smaller g c =
    fills_less c.loop-next.invariant.fills c.loop-next.invariant.rest c.requires.room.1 (g.B.Nand.state c.put_next.new.board) c.put_next.new.parts.walk (Some c.in-Ok-Some.next)
    c.put_next.new.into (rw c.in-Ok-Some.field-0-is at c.in-Ok-Some.ensures.offers) c.in-Ok-Some.next refl

pub loop-next-preserved : goal.loop-next-preserved
loop-next-preserved g c = record {
  fills =
      fills_more c.loop-next.invariant.fills c.loop-next.invariant.rest c.requires.room.1 (g.B.Nand.state c.put_next.new.board) c.put_next.new.parts.walk (Some c.in-Ok-Some.next) c.put_next.new.into
      (rw c.in-Ok-Some.field-0-is at c.in-Ok-Some.ensures.offers) c.in-Ok-Some.next refl c.in-Ok-Some.ensures.walked c.in-Ok-Some.ensures.reads c.in-Ok-Some.ensures.len;
  rest = walks_on c.args.parts.now c.loop-next.parts c.put_next.new.parts c.loop-next.invariant.rest c.in-Ok-Some.ensures.rest;
}

pub returns-in-Ok-None : goal.returns-in-Ok-None
returns-in-Ok-None g c = record {
  lists = (
    c.loop-next.invariant.fills.within,
    fills_end c.loop-next.invariant.fills c.loop-next.invariant.rest c.requires.room.1 (g.B.Nand.state c.put_next.new.board) c.put_next.new.parts.walk None c.put_next.new.into
        (rw c.in-Ok-None.field-0-is at c.in-Ok-None.ensures.offers) refl,
  );
  reads = fills_reads c.loop-next.invariant.fills c.loop-next.invariant.rest
      (g.B.Nand.state c.put_next.new.board) c.put_next.new.parts.walk c.requires.none_read c.in-Ok-None.ensures.walked c.in-Ok-None.ensures.reads;
  err = tt;
  rest = walks_on c.args.parts.now c.loop-next.parts c.put_next.new.parts c.loop-next.invariant.rest c.in-Ok-None.ensures.rest;
  len = c.in-Ok-None.ensures.len ∙ c.loop-next.invariant.fills.size;
}

pub returns-in-Err : goal.returns-in-Err
returns-in-Err g c = record {
  lists = tt;
  reads = tt;
  err = fills_fails c.loop-next.invariant.fills c.loop-next.invariant.rest
      (g.B.Nand.state c.put_next.new.board) c.put_next.new.parts.walk c.requires.none_read c.in-Err.ensures.walked c.in-Err.ensures.err;
  rest = walks_on c.args.parts.now c.loop-next.parts c.put_next.new.parts c.loop-next.invariant.rest c.in-Err.ensures.rest;
  len = c.in-Err.ensures.len ∙ c.loop-next.invariant.fills.size;
}
