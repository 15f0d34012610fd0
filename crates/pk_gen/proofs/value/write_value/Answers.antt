use Rattle.std.{proofs.Common.ℕ, proofs.Common.◌+◌, proofs.Common.◌-◌, proofs.Common.◌%◌, proofs.Common.ap, proofs.Common.arith, specs.Prelude.codes}
use Rattle.pk_nvme.{specs.Text.number_text, proofs.TextLemmas.appended}
use Rattle.pk_gen.{specs.Workload.letters, proofs.Keys.few_digits, proofs.Values.cleared, proofs.Values.length-letters, proofs.Values.value_written}
use Rattle.pk_gen.proofs.value.write_value.Goals as goal

pub push_number-requires : goal.push_number-requires
push_number-requires c =
    let z = cleared c.args.value.now c.clear.new.self c.clear.ensures in
    let a1 = appended c.clear.new.self c.extend.new.self (codes "{\"id\":") c.extend.ensures in
    let d = few_digits (c.args.b % 5000) (omega arith) in
    omega arith

pub extend-requires-2 : goal.extend-requires-2
extend-requires-2 c =
    let z = cleared c.args.value.now c.clear.new.self c.clear.ensures in
    let a1 = appended c.clear.new.self c.extend.new.self (codes "{\"id\":") c.extend.ensures in
    let a2 = appended c.extend.new.self c.push_number.new.self (number_text (c.args.b % 5000)) c.push_number.ensures in
    let d = few_digits (c.args.b % 5000) (omega arith) in
    omega arith

pub overflow_add-count-2 : goal.overflow_add-count-2
overflow_add-count-2 c =
    let z = cleared c.args.value.now c.clear.new.self c.clear.ensures in
    let a1 = appended c.clear.new.self c.extend.new.self (codes "{\"id\":") c.extend.ensures in
    let a2 = appended c.extend.new.self c.push_number.new.self (number_text (c.args.b % 5000)) c.push_number.ensures in
    let a3 = appended c.push_number.new.self c.extend-2.new.self (codes ",\"pad\":\"") c.extend-2.ensures in
    let d = few_digits (c.args.b % 5000) (omega arith) in
    record { fits = omega (arith, c.len.ensures) }

pub overflow_sub-count : goal.overflow_sub-count
overflow_sub-count c =
    let z = cleared c.args.value.now c.clear.new.self c.clear.ensures in
    let a1 = appended c.clear.new.self c.extend.new.self (codes "{\"id\":") c.extend.ensures in
    let a2 = appended c.extend.new.self c.push_number.new.self (number_text (c.args.b % 5000)) c.push_number.ensures in
    let a3 = appended c.push_number.new.self c.extend-2.new.self (codes ",\"pad\":\"") c.extend-2.ensures in
    let d = few_digits (c.args.b % 5000) (omega arith) in
    omega (arith, c.len.ensures)

pub push_letters-requires-clause-room : goal.push_letters-requires-clause-room
push_letters-requires-clause-room c =
    let z = cleared c.args.value.now c.clear.new.self c.clear.ensures in
    let a1 = appended c.clear.new.self c.extend.new.self (codes "{\"id\":") c.extend.ensures in
    let a2 = appended c.extend.new.self c.push_number.new.self (number_text (c.args.b % 5000)) c.push_number.ensures in
    let a3 = appended c.push_number.new.self c.extend-2.new.self (codes ",\"pad\":\"") c.extend-2.ensures in
    let d = few_digits (c.args.b % 5000) (omega arith) in
    omega (arith, c.len.ensures)

pub extend-requires-3 : goal.extend-requires-3
extend-requires-3 c =
    let z = cleared c.args.value.now c.clear.new.self c.clear.ensures in
    let a1 = appended c.clear.new.self c.extend.new.self (codes "{\"id\":") c.extend.ensures in
    let a2 = appended c.extend.new.self c.push_number.new.self (number_text (c.args.b % 5000)) c.push_number.ensures in
    let a3 = appended c.push_number.new.self c.extend-2.new.self (codes ",\"pad\":\"") c.extend-2.ensures in
    let a4 = appended c.extend-2.new.self c.push_letters.new.value (letters c.args.c (200 + c.args.c % 3801 - (c.len.result + 2))) c.push_letters.ensures in
    let d = few_digits (c.args.b % 5000) (omega arith) in
    omega (arith, c.len.ensures, length-letters c.args.c (200 + c.args.c % 3801 - (c.len.result + 2)))

pub returns : goal.returns
returns c =
    value_written c.args.value.now c.clear.new.self c.extend.new.self c.push_number.new.self c.extend-2.new.self c.push_letters.new.value c.extend-3.new.self
    c.args.b c.args.c (200 + c.args.c % 3801 - (c.len.result + 2)) c.clear.ensures c.extend.ensures c.push_number.ensures c.extend-2.ensures
    (ap (λ (n : ℕ). 200 + c.args.c % 3801 - (n + 2)) c.len.ensures) c.push_letters.ensures c.extend-3.ensures
