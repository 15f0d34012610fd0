use Rattle.std.{proofs.Common.◌≡◌, proofs.Common.Some, proofs.Common.None, proofs.Common.ap, proofs.Common.◌∙◌, specs.Prelude.option_map}
use Rattle.pk_asm.specs.Line.{says, entry_in}
use Rattle.pk_text.proofs.Lining.{LineGives-none, LineGives-some}
use Rattle.pk_text.proofs.line.give_line.Goals as goal

pub returns-in-Ok-None-clause-ok : goal.returns-in-Ok-None-clause-ok
returns-in-Ok-None-clause-ok g c =
    let e = c.in-Ok-None.ensures.exact in
    let f = c.in-Ok-None.field-0-is in
    let h : option_map entry_in (says c.args.number c.args.line.now) ≡ Some None = e ∙ ap Some f in
    LineGives-none c.args.number c.args.line.now _ h

pub returns-in-Ok-clause-ok : goal.returns-in-Ok-clause-ok
returns-in-Ok-clause-ok g c =
    let e = c.in-Ok-Some.ensures in
    let h : option_map entry_in (says c.args.number c.args.line.now) ≡ Some (Some c.in-Ok-Some.entry) = e.exact ∙ ap Some c.in-Ok-Some.field-0-is in
    LineGives-some c.args.number c.args.line.now c.in-Ok-Some.entry _ (g.B.Nand.state c.args.board.now) (g.B.Nand.state c.post_entry.new.board) h (ap (λ b. b.items) e.value) c.in-Ok.ensures.ok
