use Rattle.std.proofs.Common.{ap, arith, subst, refl}
use Rattle.pk_nvme.{specs.Opcode.op_of, specs.declared.opcode.Opcode.TheVariants.Exist}
use Rattle.pk_parts.{specs.Quiet.Looks}
use Rattle.pk_core.{proofs.Unchanging.exist_found, proofs.Unchanging.none_found, proofs.Unchanging.unread_look, proofs.LookedUp.only_looked}
use Rattle.pk_core.{proofs.LookedUp.only_unread, proofs.Callings.looks_less, proofs.Early.request_space}
use Rattle.pk_core.proofs.quiet.exist.Goals as goal

pub key-key-requires-clause-space : goal.key-key-requires-clause-space
key-key-requires-clause-space g c = request_space c.args.parts.now _ c.args.request.now Exist (λ n k. refl) (ap op_of c.requires.opcode) c.requires.servable

pub returns-in-Ok-Some : goal.returns-in-Ok-Some
returns-in-Ok-Some g c = record {
  executes = λ v into.
      let looks = subst (λ p. Looks c.args.parts.now (g.B.Nand.state c.args.board.now).pages c.key-key.result p) c.in-Ok-Some.field-0-is c.in-Ok-Some.ensures.looks in
      exist_found c.requires.servable c.look.ensures.same c.look.ensures.few (g.B.Nand.state c.look.new.board) v into c.served.result c.reads_since.result c.key-key.result c.in-Ok-Some.field-0-0
      c.requires.opcode c.key-key.ensures looks c.served.ensures c.in-Ok-Some.ensures.reads (omega (arith, c.reads_since.ensures.reads, c.read_count-before.ensures.value));
  only = only_looked c.look.ensures.same c.requires.servable.agrees (looks_less c.args.parts.now) c.in-Ok-Some.ensures.reads;
  no_data = rw c.served.ensures refl;
}

pub returns-in-Ok-None : goal.returns-in-Ok-None
returns-in-Ok-None g c = record {
  executes = λ v into.
      let looks = subst (λ p. Looks c.args.parts.now (g.B.Nand.state c.args.board.now).pages c.key-key.result p) c.in-Ok-None.field-0-is c.in-Ok-None.ensures.looks in
      none_found c.requires.servable c.look.ensures.same c.look.ensures.few (g.B.Nand.state c.look.new.board) v into Exist c.refusal.result c.reads_since-in-Ok-None.result c.key-key.result refl
      (ap op_of c.requires.opcode) c.key-key.ensures looks c.refusal.ensures c.in-Ok-None.ensures.reads (omega (arith, c.reads_since-in-Ok-None.ensures.reads, c.read_count-before.ensures.value));
  only = only_looked c.look.ensures.same c.requires.servable.agrees (looks_less c.args.parts.now) c.in-Ok-None.ensures.reads;
  no_data = rw c.refusal.ensures refl;
}

pub returns-in-Err : goal.returns-in-Err
returns-in-Err g c = record {
  executes = λ v into. unread_look c.requires.servable c.look.ensures.same c.look.ensures.few (g.B.Nand.state c.look.new.board) v into c.refusal-in-Err.result c.reads_since-in-Err.result
      c.refusal-in-Err.ensures c.read_count-before.ensures.faults c.in-Err.ensures.failing (omega (arith, c.reads_since-in-Err.ensures.reads, c.read_count-before.ensures.value));
  only = only_unread c.look.ensures.same c.requires.servable.agrees (looks_less c.args.parts.now) c.in-Err.ensures.failing;
  no_data = rw c.refusal-in-Err.ensures refl;
}
