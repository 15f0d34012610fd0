use Rattle.std.proofs.Common.{◌≡◌, ◌∙◌, ◌%◌, ℕ, List, length, arith, sym, ap}
use Rattle.std.proofs.lemmas.List.{take_all}
use Rattle.pk_base.specs.Fields.{padded}
use Rattle.pk_nvme.specs.Seen.{entry_of}
use Rattle.pk_asm.specs.Form.{entry_with}
use Rattle.pk_asm.proofs.form.entry_of.Goals as goal

pub returns : goal.returns
unfolding entry_with
returns c =
    let place : c.put_padded.new.bytes ≡ padded 16 c.args.key.now = sym (take_all 16 c.put_padded.new.bytes (omega arith)) ∙ c.put_padded.ensures.front in
    c.entry.ensures.bytes
    ∙ ap (λ (p : List ℕ). entry_of
    (record { opcode = c.args.opcode; cid = c.args.number % 65536; namespace = 1; key_len = length c.args.key.now; key = p; size = c.args.size; options = c.args.options })) place
