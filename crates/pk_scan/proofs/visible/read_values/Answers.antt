use Rattle.pk_scan.proofs.ValuesHeld.{place, limit_few, few_taken, TakenTo-start, put_next, gone_next, none_next, place_next, TakenTo-next, TakenTo-refused, takes_all, all_read}
use Rattle.pk_scan.proofs.Boards.{reads_none, reads_both, stays_same, stays_both, stays_reads, stays_ready_behind}
use Rattle.std.proofs.Common.{◌∙◌, arith}
use Rattle.pk_scan.proofs.visible.read_values.Goals as goal

pub overflow_add-keys-end : goal.overflow_add-keys-end
overflow_add-keys-end g c = let few = limit_few c.args.shape.now c.known.ensures in omega (arith, few, c.limit-keys-end.ensures.value)

pub loop-keys-init : goal.loop-keys-init
loop-keys-init g c = record {
  taken = TakenTo-start c.requires.left.0 c.requires.left.1 c.requires.left.2 c.requires.none c.requires.unused;
  walk = c.requires.shapes.1;
  reads = reads_none (g.B.Nand.state c.args.board.now);
  board = stays_same c.args.shape.now (g.B.Nand.state c.args.board.now) c.requires.ready;
  buffer = c.requires.room;
}

pub accept_value-requires-clause-place : goal.accept_value-requires-clause-place
accept_value-requires-clause-place g c =
    let t = c.loop-keys.invariant.taken in
    let pages = c.loop-keys.invariant.board.pages in
    let put = put_next t c.next.new.self _ _ pages c.in-Ok-Some-Put.key c.in-Ok-Some-Put.page c.in-Ok-Some-Put.len (c.in-Ok-Some-Put.ensures.same ∙ pages)
    (rw (c.in-Ok-Some-Put.field-0-is, c.in-Ok-Some-Put.field-0-0-is) at c.in-Ok-Some-Put.ensures.gives) in
    place_next t c.in-Ok-Some-Put.key (place c.in-Ok-Some-Put.page c.in-Ok-Some-Put.len) put.0 put.1

pub returns-in-Err-accept_value-clause-err : goal.returns-in-Err-accept_value-clause-err
returns-in-Err-accept_value-clause-err g c es left =
    let t = c.loop-keys.invariant.taken in
    let still = c.in-Ok-Some-Put.ensures.same ∙ c.loop-keys.invariant.board.pages in
    let put = put_next t c.next.new.self _ _ c.loop-keys.invariant.board.pages c.in-Ok-Some-Put.key c.in-Ok-Some-Put.page c.in-Ok-Some-Put.len still
    (rw (c.in-Ok-Some-Put.field-0-is, c.in-Ok-Some-Put.field-0-0-is) at c.in-Ok-Some-Put.ensures.gives) in
    let now = g.B.Nand.state c.next.new.board in
    let step = c.in-Ok-Some-Put.ensures.reads in
    rw c.from.ensures (TakenTo-refused t c.in-Ok-Some-Put.key (place c.in-Ok-Some-Put.page c.in-Ok-Some-Put.len) put.0 put.1 now (g.B.Nand.state c.accept_value.new.board) c.in-Err-accept_value.error
    (reads_both (g.B.Nand.state c.args.board.now) (g.B.Nand.state c.loop-keys.board) now c.loop-keys.invariant.reads (step.0, step.2)) still
    (c.in-Err-accept_value.ensures.err t.taken t.lives t.uses) es left)

pub unreachable-requires : goal.unreachable-requires
unreachable-requires g c = gone_next c.loop-keys.invariant.taken c.next.new.self _ _ c.loop-keys.invariant.board.pages c.in-Ok-Some-Gone.field-0-0-0
    (rw (c.in-Ok-Some-Gone.field-0-is, c.in-Ok-Some-Gone.field-0-0-is) at c.in-Ok-Some-Gone.ensures.gives)

pub returns-in-Ok-None-clause-read : goal.returns-in-Ok-None-clause-read
returns-in-Ok-None-clause-read g c es left =
    let t = c.loop-keys.invariant.taken in
    takes_all t (none_next t c.next.new.self _ _ c.loop-keys.invariant.board.pages (rw c.in-Ok-None.field-0-is at c.in-Ok-None.ensures.gives)) es left

pub returns-in-Ok-None-clause-exact : goal.returns-in-Ok-None-clause-exact
returns-in-Ok-None-clause-exact g c es left =
    let t = c.loop-keys.invariant.taken in
    let step = c.in-Ok-None.ensures.reads in
    let now = g.B.Nand.state c.next.new.board in
    record {
      reads = reads_both (g.B.Nand.state c.args.board.now) (g.B.Nand.state c.loop-keys.board) now c.loop-keys.invariant.reads (step.0, step.2);
      exact = all_read t (none_next t c.next.new.self _ _ c.loop-keys.invariant.board.pages (rw c.in-Ok-None.field-0-is at c.in-Ok-None.ensures.gives)) es left
          c.next.new.self now c.in-Ok-None.ensures.skips_none c.in-Ok-None.ensures.exact (c.in-Ok-None.ensures.ended c.in-Ok-None.field-0-is);
    }

pub returns-in-Ok-None-clause-board : goal.returns-in-Ok-None-clause-board
returns-in-Ok-None-clause-board g c = stays_both c.args.shape.now _ _ _ c.loop-keys.invariant.board
    (stays_ready_behind c.args.shape.now (g.B.Nand.state c.loop-keys.board) (g.B.Nand.state c.next.new.board) c.in-Ok-None.ensures.rest c.loop-keys.invariant.board.ready)

pub returns-in-Err-clause-board : goal.returns-in-Err-clause-board
returns-in-Err-clause-board g c = stays_both c.args.shape.now _ _ _ c.loop-keys.invariant.board
    (stays_ready_behind c.args.shape.now (g.B.Nand.state c.loop-keys.board) (g.B.Nand.state c.next.new.board) c.in-Err.ensures.rest c.loop-keys.invariant.board.ready)

pub returns-in-Err-accept_value-clause-board : goal.returns-in-Err-accept_value-clause-board
returns-in-Err-accept_value-clause-board g c =
    let step = c.in-Ok-Some-Put.ensures.reads in
    let was = c.loop-keys.invariant.board in
    let now = stays_reads c.args.shape.now (g.B.Nand.state c.loop-keys.board) (g.B.Nand.state c.next.new.board) (step.0, step.2) was.ready in
    stays_both c.args.shape.now _ _ _ was (stays_both c.args.shape.now _ _ _ now c.accept_value.ensures.board)

pub loop-keys-preserved : goal.loop-keys-preserved
loop-keys-preserved g c =
    let t = c.loop-keys.invariant.taken in
    let was = c.loop-keys.invariant.board in
    let still = c.in-Ok-Some-Put.ensures.same ∙ was.pages in
    let put = put_next t c.next.new.self _ _ was.pages c.in-Ok-Some-Put.key c.in-Ok-Some-Put.page c.in-Ok-Some-Put.len still
    (rw (c.in-Ok-Some-Put.field-0-is, c.in-Ok-Some-Put.field-0-0-is) at c.in-Ok-Some-Put.ensures.gives) in
    let old = g.B.Nand.state c.args.board.now in
    let now = g.B.Nand.state c.next.new.board in
    let new = g.B.Nand.state c.accept_value.new.board in
    let step = c.in-Ok-Some-Put.ensures.reads in
    let walked = stays_reads c.args.shape.now (g.B.Nand.state c.loop-keys.board) now (step.0, step.2) was.ready in
    record {
      taken = TakenTo-next t c.in-Ok-Some-Put.key (place c.in-Ok-Some-Put.page c.in-Ok-Some-Put.len) put.0 put.1 c.next.new.self c.accept_value.new.live c.accept_value.new.spaces
          now new c.in-Ok-Some-Put.ensures.skips_none c.in-Ok-Some-Put.ensures.exact put.2 still
          (c.in-Ok.ensures.accepted t.taken t.lives t.uses) (c.in-Ok.ensures.lives t.taken t.lives) (c.in-Ok.ensures.used t.taken t.uses) c.in-Ok.ensures.ok;
      walk = c.in-Ok-Some-Put.ensures.shape ∙ c.loop-keys.invariant.walk;
      reads = reads_both old now new (reads_both old (g.B.Nand.state c.loop-keys.board) now c.loop-keys.invariant.reads (step.0, step.2)) (_, c.in-Ok.ensures.ok);
      board = stays_both c.args.shape.now _ _ _ was (stays_both c.args.shape.now _ _ _ walked c.accept_value.ensures.board);
      buffer = c.in-Ok.ensures.buffer ∙ c.loop-keys.invariant.buffer;
    }

pub unreachable-requires-2 : goal.unreachable-requires-2
unreachable-requires-2 g c =
    let few = few_taken c.loop-keys.invariant.taken c.known.ensures in
    absurd (omega (arith, few, c.loop-keys-test.false, c.limit-keys-end.ensures.value))
