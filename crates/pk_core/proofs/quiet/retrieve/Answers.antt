use Rattle.std.proofs.Common.{◌∙◌, length, ap, arith, subst, refl}
use Rattle.pk_parts.{specs.Quiet.Looks}
use Rattle.pk_core.proofs.Unchanging.{Handed, retrieve_found, unread_value, front_of, room_of, value_reads, value_breaks, few_of, none_found, unread_look}
use Rattle.pk_core.{proofs.Callings.looks_less, proofs.quiet.retrieve.Goals.After-min-count}
use Rattle.pk_nvme.{specs.Opcode.op_of, specs.declared.opcode.Opcode.TheVariants.Retrieve}
use Rattle.pk_core.{proofs.Early.request_space, proofs.LookedUp.only_looked, proofs.LookedUp.only_unread, proofs.quiet.retrieve.Given.Over}
use Rattle.pk_core.proofs.quiet.retrieve.Goals as goal

pub key-key-requires-clause-space : goal.key-key-requires-clause-space
key-key-requires-clause-space g c = request_space c.args.parts.now _ c.args.request.now Retrieve (λ n k. refl) (ap op_of c.requires.opcode) c.requires.servable

-- the lookup found a value
handed : (g : Over) (c : After-min-count g) → Handed c.args.parts.now c.look.new.self (g.B.Nand.state c.args.board.now) (g.B.Nand.state c.look.new.board) c.args.request.now c.key-key.result
    c.in-Ok-Some.place c.min-count.result
handed g c = record {
  servable = c.requires.servable;
  is_key = c.bytes.ensures.key;
  named = c.key-key.ensures;
  looks = subst (λ p. Looks c.args.parts.now (g.B.Nand.state c.args.board.now).pages c.key-key.result p) c.in-Ok-Some.field-0-is c.in-Ok-Some.ensures.looks;
  size = c.min-count.ensures;
  same = c.look.ensures.same;
  pages = c.look.ensures.pages;
  reads = c.in-Ok-Some.ensures.reads;
}

pub hand_over-requires-clause-value : goal.hand_over-requires-clause-value
hand_over-requires-clause-value g c = front_of (handed g (goal.at.hand_over-requires-clause-value g c).After-min-count)

pub hand_over-requires-clause-room : goal.hand_over-requires-clause-room
hand_over-requires-clause-room g c = room_of (handed g (goal.at.hand_over-requires-clause-room g c).After-min-count) (length c.args.into.now) c.requires.room

pub reads_since-requires : goal.reads_since-requires
reads_since-requires g c =
    let h = handed g (goal.at.reads_since-requires g c).After-min-count in
    let made = value_reads h (g.B.Nand.state c.hand_over.new.board) c.in-Ok.ensures.ok in
    record { up = omega (arith, made.up, c.read_count-before.ensures.value); few = omega (arith, made.within, few_of h, c.read_count-before.ensures.value) }

pub reads_since-requires-in-Err-hand_over : goal.reads_since-requires-in-Err-hand_over
reads_since-requires-in-Err-hand_over g c =
    let h = handed g (goal.at.reads_since-requires-in-Err-hand_over g c).After-min-count in
    let made = value_breaks h (g.B.Nand.state c.hand_over.new.board) c.in-Err-hand_over.ensures.err in
    record { up = omega (arith, made.up, c.read_count-before.ensures.value); few = omega (arith, made.within, few_of h, c.read_count-before.ensures.value) }

pub returns-in-Ok : goal.returns-in-Ok
returns-in-Ok g c =
    let h = handed g (goal.at.returns-in-Ok g c).After-min-count in
    record {
      executes = λ v. retrieve_found h (g.B.Nand.state c.hand_over.new.board) c.hand_over.new.self (c.hand_over.ensures.same ∙ c.look.ensures.same) c.look.ensures.few v c.hand_over.new.into
          c.served.result c.reads_since.result (omega (arith, c.reads_since.ensures.reads, c.read_count-before.ensures.value))
          c.requires.opcode c.in-Ok.ensures.front c.served.ensures c.in-Ok.ensures.ok;
      only = only_looked (c.hand_over.ensures.same ∙ c.look.ensures.same) c.requires.servable.agrees (few_of h) (value_reads h (g.B.Nand.state c.hand_over.new.board) c.in-Ok.ensures.ok);
      fits = (
          let room = room_of h (length c.args.into.now) c.requires.room in
          let told = ap (λ o. o.data_len) c.served.ensures in
          omega (arith, room, told, c.hand_over.ensures.len));
      len = c.hand_over.ensures.len;
    }

pub returns-in-Err-hand_over : goal.returns-in-Err-hand_over
returns-in-Err-hand_over g c =
    let h = handed g (goal.at.returns-in-Err-hand_over g c).After-min-count in
    record {
      executes = λ v. unread_value h (g.B.Nand.state c.hand_over.new.board) c.hand_over.new.self (c.hand_over.ensures.same ∙ c.look.ensures.same) c.look.ensures.few v c.hand_over.new.into
          c.refusal.result c.reads_since-in-Err-hand_over.result (omega (arith, c.reads_since-in-Err-hand_over.ensures.reads, c.read_count-before.ensures.value))
          c.refusal.ensures c.read_count-before.ensures.faults c.in-Err-hand_over.ensures.err;
      only = only_unread (c.hand_over.ensures.same ∙ c.look.ensures.same) c.requires.servable.agrees (few_of h) (value_breaks h (g.B.Nand.state c.hand_over.new.board) c.in-Err-hand_over.ensures.err);
      fits = rw c.refusal.ensures (omega arith);
      len = c.hand_over.ensures.len;
    }

pub returns-in-Ok-None : goal.returns-in-Ok-None
returns-in-Ok-None g c = record {
  executes = λ v.
      let looks = subst (λ p. Looks c.args.parts.now (g.B.Nand.state c.args.board.now).pages c.key-key.result p) c.in-Ok-None.field-0-is c.in-Ok-None.ensures.looks in
      none_found c.requires.servable c.look.ensures.same c.look.ensures.few (g.B.Nand.state c.look.new.board) v c.args.into.now Retrieve c.refusal-in-Ok-None.result
      c.reads_since-in-Ok-None.result c.key-key.result refl (ap op_of c.requires.opcode) c.key-key.ensures looks c.refusal-in-Ok-None.ensures c.in-Ok-None.ensures.reads
      (omega (arith, c.reads_since-in-Ok-None.ensures.reads, c.read_count-before.ensures.value));
  only = only_looked c.look.ensures.same c.requires.servable.agrees (looks_less c.args.parts.now) c.in-Ok-None.ensures.reads;
  fits = rw c.refusal-in-Ok-None.ensures (omega arith);
  len = refl;
}

pub returns-in-Err : goal.returns-in-Err
returns-in-Err g c = record {
  executes = λ v. unread_look c.requires.servable c.look.ensures.same c.look.ensures.few (g.B.Nand.state c.look.new.board) v c.args.into.now c.refusal-in-Err.result c.reads_since-in-Err.result
      c.refusal-in-Err.ensures c.read_count-before.ensures.faults c.in-Err.ensures.failing (omega (arith, c.reads_since-in-Err.ensures.reads, c.read_count-before.ensures.value));
  only = only_unread c.look.ensures.same c.requires.servable.agrees (looks_less c.args.parts.now) c.in-Err.ensures.failing;
  fits = rw c.refusal-in-Err.ensures (omega arith);
  len = refl;
}
