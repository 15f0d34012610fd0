use Rattle.std.proofs.Common.{◌∷◌, [], arith}
use Rattle.pk_nvme.{specs.Text.number_text, proofs.TextLemmas.appended, proofs.TextLemmas.number_text_short}
use Rattle.pk_test_commands.proofs.nvme.spell.Goals as goal

pub push_number-requires : goal.push_number-requires
push_number-requires c =
    omega (arith, number_text_short c.args.number (omega arith))

pub push-requires : goal.push-requires
push-requires c =
    let a0 = appended c.args.text.now c.push_number.new.self (number_text c.args.number) c.push_number.ensures in
    omega (arith, number_text_short c.args.number (omega arith))

pub push_hex-requires : goal.push_hex-requires
push_hex-requires c =
    let a0 = appended c.args.text.now c.push_number.new.self (number_text c.args.number) c.push_number.ensures in
    let a1 = appended c.push_number.new.self c.push.new.self (32 ∷ []) c.push.ensures in
    omega (arith, number_text_short c.args.number (omega arith))
