use Rattle.std.proofs.Common.{List, ℕ, length, ◌∷◌, [], ap, arith}
use Rattle.pk_nvme.{specs.Text.hex_text, proofs.TextLemmas.appended, proofs.TextLemmas.length-hex_text}
use Rattle.pk_words.proofs.lines.add_key.Goals as goal

pub push-requires : goal.push-requires
push-requires c =
    let a = appended c.args.text.now c.push_hex.new.self (hex_text c.bytes.result.now) c.push_hex.ensures in
    let n = length-hex_text c.bytes.result.now in
    let k = ap (λ (xs : List ℕ). length xs) c.bytes.ensures.value in
    let most = c.bytes.ensures.key.most in
    omega arith

pub returns-clause-most : goal.returns-clause-most
returns-clause-most c =
    let a = appended c.args.text.now c.push_hex.new.self (hex_text c.bytes.result.now) c.push_hex.ensures in
    let b = appended c.push_hex.new.self c.push.new.self (10 ∷ []) c.push.ensures in
    let n = length-hex_text c.bytes.result.now in
    let k = ap (λ (xs : List ℕ). length xs) c.bytes.ensures.value in
    let most = c.bytes.ensures.key.most in
    omega arith
