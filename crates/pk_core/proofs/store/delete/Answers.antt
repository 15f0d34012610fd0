use Rattle.std.proofs.Common.{ap, arith, false, refl}
use Rattle.pk_core.{proofs.LookedUp.looked_up, proofs.LookedUp.executes_behind, proofs.Statuses.told_refused, proofs.Unchanging.not_read, proofs.Unchanging.unread_look}
use Rattle.pk_core.{proofs.Programming.behind_reads, proofs.Callings.spends_reads, proofs.Callings.spends_failed}
use Rattle.pk_parts.{proofs.Staying.stays_same, specs.Parts.Parts}
use Rattle.pk_changes.proofs.StoreCalls.{spends_delete}
use Rattle.pk_nvme.{specs.Opcode.op_of, specs.declared.opcode.Opcode.TheVariants.Delete}
use Rattle.pk_core.proofs.Early.{request_space}
use Rattle.pk_core.proofs.store.delete.Goals as goal

pub key-key-requires-clause-space : goal.key-key-requires-clause-space
key-key-requires-clause-space g c = request_space c.args.parts.now _ c.args.request.now Delete (λ n k. refl) (ap op_of c.requires.opcode) c.requires.servable

pub delete_at-requires-clause-looked_up : goal.delete_at-requires-clause-looked_up
delete_at-requires-clause-looked_up g c =
    rw c.look.ensures.same (looked_up c.requires.servable c.key-key.ensures c.read_count-before.ensures.value c.in-Ok.ensures.looks c.in-Ok.ensures.reads)

pub returns-in-Ok : goal.returns-in-Ok
returns-in-Ok g c =
    let e = c.delete_at.ensures in
    let s = rw (c.look.ensures.same, c.key-key.ensures) at e.deletes in
    record {
      executes = λ v into. executes_behind c.in-Ok.ensures.reads (not_read Delete c.args.request.now.opcode (ap op_of c.requires.opcode) (λ e. cc))
          e.reads (omega (arith, e.told.0, c.read_count-before.ensures.value)) (rw c.look.ensures.same at (e.executes v into));
      no_data = e.told.1;
      half = s.half;
      finishes = s.finishes;
      moves = s.moves;
      quiet = λ zero whole none. (
        behind_reads c.in-Ok.ensures.reads (s.programs zero whole none),
        (let reads = s.quiet zero whole none in omega (arith, e.told.0, reads, c.read_count-before.ensures.value, c.in-Ok.ensures.reads.within, c.look.ensures.few)),
      );
      spends =
          spends_delete _ _ _ _ _ (ap (λ (d : Parts). d.log.shape) c.look.ensures.same) c.requires.servable.agrees.with.index.logs.is_shape
          (spends_reads _ _ _ _ 0 (omega arith) c.in-Ok.ensures.reads) e.spends;
    }

pub returns-in-Err : goal.returns-in-Err
returns-in-Err g c =
    let refused = told_refused c.refusal.result 0x88 0 0 c.reads_since.result false c.refusal.ensures (λ e. omega (arith, e)) in
    record {
      executes = λ v into. unread_look c.requires.servable c.look.ensures.same c.look.ensures.few (g.B.Nand.state c.look.new.board) v into c.refusal.result c.reads_since.result
          c.refusal.ensures c.read_count-before.ensures.faults c.in-Err.ensures.failing (omega (arith, c.reads_since.ensures.reads, c.read_count-before.ensures.value));
      no_data = rw c.refusal.ensures refl;
      half = λ _ whole. rw c.look.ensures.same whole;
      finishes = λ zero. absurd (refused zero);
      moves = λ _. stays_same _ _ c.look.ensures.same;
      quiet = λ zero. absurd (refused zero);
      spends = spends_failed c.args.parts.now (g.B.Nand.state c.args.board.now)
          (g.B.Nand.state c.look.new.board) c.requires.servable.agrees _ _ (omega arith) c.in-Err.ensures.failing;
    }
