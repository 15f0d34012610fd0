use Rattle.std.proofs.Common.{◌∷◌, [], arith}
use Rattle.pk_nvme.{specs.Text.number_text, proofs.TextLemmas.appended, proofs.TextLemmas.number_text_short}
use Rattle.pk_wordrun.proofs.summary.add_line.Goals as goal

pub push_number-requires : goal.push_number-requires
push_number-requires c =
    let a = appended c.args.text.now c.extend.new.self c.args.name.now c.extend.ensures in
    let b = appended c.extend.new.self c.push.new.self (32 ∷ []) c.push.ensures in
    let n = number_text_short c.args.number c.ranges.number.fits in
    omega arith

pub push-requires-2 : goal.push-requires-2
push-requires-2 c =
    let a = appended c.args.text.now c.extend.new.self c.args.name.now c.extend.ensures in
    let b = appended c.extend.new.self c.push.new.self (32 ∷ []) c.push.ensures in
    let n = number_text_short c.args.number c.ranges.number.fits in
    let d = appended c.push.new.self c.push_number.new.self (number_text c.args.number) c.push_number.ensures in
    omega arith

pub returns-clause-most : goal.returns-clause-most
returns-clause-most c =
    let a = appended c.args.text.now c.extend.new.self c.args.name.now c.extend.ensures in
    let b = appended c.extend.new.self c.push.new.self (32 ∷ []) c.push.ensures in
    let n = number_text_short c.args.number c.ranges.number.fits in
    let d = appended c.push.new.self c.push_number.new.self (number_text c.args.number) c.push_number.ensures in
    let e = appended c.push_number.new.self c.push-2.new.self (10 ∷ []) c.push-2.ensures in
    omega arith
