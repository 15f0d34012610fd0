use Rattle.std.{proofs.Common.◌∙◌, proofs.Common.Option, proofs.Common.sym, proofs.Common.ap, proofs.Common.arith, specs.Prelude.option_map}
use Rattle.pk_nvme.specs.Bytes.{RoomyList}
use Rattle.pk_asm.{specs.Line.Line, specs.Line.entry_in, specs.Line.line_bytes, specs.Line.entry_said, specs.Words.words}
use Rattle.pk_asm.proofs.LineLemmas.{says_entry, no_comment, entry_some, entry_none, bytes_said, emptied}
use Rattle.pk_asm.proofs.assemble.assemble_line.Goals as goal

pub returns-in-Some-clause-exact : goal.returns-in-Some-clause-exact
returns-in-Some-clause-exact c =
    let said = says_entry c.args.number c.args.line.now (omega arith) (no_comment c.args.line.now (sym c.is_empty.ensures ∙ c.if-is_empty.false) c.if-line-eq35.false) in
    ap (λ (o : Option Line). option_map entry_in o) said ∙ entry_some (entry_said c.args.number (words c.args.line.now)) c.in-Some.entry (sym c.in-Some.is ∙ c.entry_said.ensures.entry)

pub returns-in-Some-clause-value : goal.returns-in-Some-clause-value
returns-in-Some-clause-value c =
    let said = says_entry c.args.number c.args.line.now (omega arith) (no_comment c.args.line.now (sym c.is_empty.ensures ∙ c.if-is_empty.false) c.if-line-eq35.false) in
    c.entry_said.ensures.value
    ∙ emptied _ c.args.value.now.room c.clear.new.self _ (bytes_said (entry_said c.args.number (words c.args.line.now)) ∙ ap line_bytes (sym said)) (ap (λ (b : RoomyList). b.room) c.clear.ensures)

pub returns-in-None-clause-exact : goal.returns-in-None-clause-exact
returns-in-None-clause-exact c =
    let said = says_entry c.args.number c.args.line.now (omega arith) (no_comment c.args.line.now (sym c.is_empty.ensures ∙ c.if-is_empty.false) c.if-line-eq35.false) in
    said ∙ entry_none (entry_said c.args.number (words c.args.line.now)) (sym c.in-None.is ∙ c.entry_said.ensures.entry)

pub returns-in-None-clause-value : goal.returns-in-None-clause-value
returns-in-None-clause-value c =
    let said = says_entry c.args.number c.args.line.now (omega arith) (no_comment c.args.line.now (sym c.is_empty.ensures ∙ c.if-is_empty.false) c.if-line-eq35.false) in
    c.entry_said.ensures.value
    ∙ emptied _ c.args.value.now.room c.clear.new.self _ (bytes_said (entry_said c.args.number (words c.args.line.now)) ∙ ap line_bytes (sym said)) (ap (λ (b : RoomyList). b.room) c.clear.ensures)
