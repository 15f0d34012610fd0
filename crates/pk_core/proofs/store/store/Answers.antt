use Rattle.std.proofs.Common.{ap, arith, false, refl}
use Rattle.pk_core.{proofs.LookedUp.looked_up, proofs.LookedUp.executes_behind, proofs.Statuses.told_refused, proofs.Unchanging.not_read, proofs.Unchanging.unread_look}
use Rattle.pk_core.proofs.Programming.{behind_reads}
use Rattle.pk_core.{proofs.Callings.spends_reads, proofs.Callings.spends_failed, proofs.Early.request_space}
use Rattle.pk_parts.{proofs.Staying.stays_same, proofs.Staying.stays_opens, specs.Parts.Parts, proofs.Unchanging.agrees_ready}
use Rattle.pk_changes.proofs.StoreCalls.{spends_store}
use Rattle.pk_nvme.{specs.Opcode.op_of, specs.declared.opcode.Opcode.TheVariants.Store}
use Rattle.pk_core.proofs.store.store.Goals as goal

pub key-key-requires-clause-space : goal.key-key-requires-clause-space
key-key-requires-clause-space g c = request_space c.args.parts.now _ c.args.request.now Store (λ n k. refl) (ap op_of c.requires.opcode) c.requires.servable

pub look-requires-clause-ready : goal.look-requires-clause-ready
look-requires-clause-ready g c = agrees_ready c.args.parts.now (g.B.Nand.state c.args.board.now) c.requires.servable.agrees

pub store_over-requires-clause-looked_up : goal.store_over-requires-clause-looked_up
store_over-requires-clause-looked_up g c =
    rw c.look.ensures.same (looked_up c.requires.servable c.key-key.ensures c.read_count-before.ensures.value c.in-Ok.ensures.looks c.in-Ok.ensures.reads)

pub returns-in-Ok : goal.returns-in-Ok
returns-in-Ok g c =
    let e = c.store_over.ensures in
    let s = rw (c.look.ensures.same, c.key-key.ensures) at e.stores in
    record {
      executes = λ into. executes_behind c.in-Ok.ensures.reads (not_read Store c.args.request.now.opcode (ap op_of c.requires.opcode) (λ e. cc))
          e.reads (omega (arith, e.told.0, c.read_count-before.ensures.value)) (rw c.look.ensures.same at (e.executes into));
      no_data = e.told.1;
      half = s.half;
      finishes = s.finishes;
      opens = s.opens;
      noted = s.noted;
      quiet = λ zero whole none room. (
        behind_reads c.in-Ok.ensures.reads (s.programs zero whole none room),
        (let reads = s.quiet zero whole room none in omega (arith, e.told.0, reads, c.read_count-before.ensures.value, c.in-Ok.ensures.reads.within, c.look.ensures.few)),
      );
      spends =
          spends_store _ _ _ _ _ (ap (λ (d : Parts). d.log.shape) c.look.ensures.same) c.requires.servable.agrees.with.index.logs.is_shape
          (spends_reads _ _ _ _ 0 (omega arith) c.in-Ok.ensures.reads) e.spends;
    }

pub returns-in-Err : goal.returns-in-Err
returns-in-Err g c =
    let refused = told_refused c.refusal.result 0x88 0 0 c.reads_since.result false c.refusal.ensures (λ e. omega (arith, e)) in
    record {
      executes = λ into. unread_look c.requires.servable c.look.ensures.same c.look.ensures.few (g.B.Nand.state c.look.new.board) c.args.value.now into c.refusal.result c.reads_since.result
          c.refusal.ensures c.read_count-before.ensures.faults c.in-Err.ensures.failing (omega (arith, c.reads_since.ensures.reads, c.read_count-before.ensures.value));
      no_data = rw c.refusal.ensures refl;
      half = λ _ whole. rw c.look.ensures.same whole;
      finishes = λ zero. absurd (refused zero);
      opens = λ _. stays_opens _ _ _ (stays_same _ _ c.look.ensures.same);
      noted = λ zero. absurd (refused zero);
      quiet = λ zero. absurd (refused zero);
      spends = spends_failed c.args.parts.now (g.B.Nand.state c.args.board.now)
          (g.B.Nand.state c.look.new.board) c.requires.servable.agrees _ _ (omega arith) c.in-Err.ensures.failing;
    }
