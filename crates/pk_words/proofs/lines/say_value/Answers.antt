use Rattle.std.{proofs.Common.length, proofs.Common.ap, proofs.Common.arith, specs.Prelude.codes}
use Rattle.pk_nvme.{specs.Bytes.RoomyList, specs.Text.hex_text, proofs.TextLemmas.appended, proofs.TextLemmas.length-hex_text}
use Rattle.pk_words.proofs.lines.say_value.Goals as goal

pub push-requires : goal.push-requires
push-requires c =
    let room = ap (λ (t : RoomyList). t.room) c.clear.ensures in
    let none = ap (λ (t : RoomyList). length t.items) c.clear.ensures in
    let a = appended c.clear.new.self c.extend.new.self (codes "ok ") c.extend.ensures in
    let b = appended c.extend.new.self c.push_hex.new.self (hex_text c.args.value.now) c.push_hex.ensures in
    omega (arith, length-hex_text c.args.value.now)
