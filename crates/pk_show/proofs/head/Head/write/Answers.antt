use Rattle.std.{proofs.Common.◌==◌, proofs.Common.true, proofs.Common.◌∷◌, proofs.Common.[], proofs.Common.refl, proofs.Common.arith, specs.Prelude.codes, proofs.lemmas.Bool.Decides.nat_tests}
use Rattle.pk_nvme.{specs.Text.number_text, specs.Text.hex_text, proofs.TextLemmas.appended, proofs.TextLemmas.length-hex_text}
use Rattle.pk_show.{proofs.Fronts.length-front, specs.declared.head.Head.Head}
use Rattle.pk_show.proofs.head.Head.write.Goals as goal

pub push_number-requires-3 : goal.push_number-requires-3
push_number-requires-3 c =
    let h : Head = c.args.self.now in
    let a0 = appended c.args.into.now c.extend.new.self (codes "cid=") c.extend.ensures in
    let a1 = appended c.extend.new.self c.push_number.new.self (number_text h.cid) c.push_number.ensures in
    let a2 = appended c.push_number.new.self c.extend-2.new.self (codes " status=") c.extend-2.ensures in
    let a3 = appended c.extend-2.new.self c.push_hex.new.self (hex_text (h.status ∷ [])) c.push_hex.ensures in
    let a4 = appended c.push_hex.new.self c.extend-3.new.self (codes " result=") c.extend-3.ensures in
    let a5 = appended c.extend-3.new.self c.push_number-2.new.self (number_text h.result) c.push_number-2.ensures in
    let a6 = appended c.push_number-2.new.self c.extend-4.new.self (codes " reads=") c.extend-4.ensures in
    omega (arith, length-hex_text (h.status ∷ []), length-front h (h.data_len == 0) refl)

pub extend-requires-5 : goal.extend-requires-5
extend-requires-5 c =
    let h : Head = c.args.self.now in
    let a0 = appended c.args.into.now c.extend.new.self (codes "cid=") c.extend.ensures in
    let a1 = appended c.extend.new.self c.push_number.new.self (number_text h.cid) c.push_number.ensures in
    let a2 = appended c.push_number.new.self c.extend-2.new.self (codes " status=") c.extend-2.ensures in
    let a3 = appended c.extend-2.new.self c.push_hex.new.self (hex_text (h.status ∷ [])) c.push_hex.ensures in
    let a4 = appended c.push_hex.new.self c.extend-3.new.self (codes " result=") c.extend-3.ensures in
    let a5 = appended c.extend-3.new.self c.push_number-2.new.self (number_text h.result) c.push_number-2.ensures in
    let a6 = appended c.push_number-2.new.self c.extend-4.new.self (codes " reads=") c.extend-4.ensures in
    let a7 = appended c.extend-4.new.self c.push_number-3.new.self (number_text h.reads) c.push_number-3.ensures in
    omega (arith, length-hex_text (h.status ∷ []), length-front h (h.data_len == 0) refl)

pub push-requires : goal.push-requires
push-requires c =
    let h : Head = c.args.self.now in
    let a0 = appended c.args.into.now c.extend.new.self (codes "cid=") c.extend.ensures in
    let a1 = appended c.extend.new.self c.push_number.new.self (number_text h.cid) c.push_number.ensures in
    let a2 = appended c.push_number.new.self c.extend-2.new.self (codes " status=") c.extend-2.ensures in
    let a3 = appended c.extend-2.new.self c.push_hex.new.self (hex_text (h.status ∷ [])) c.push_hex.ensures in
    let a4 = appended c.push_hex.new.self c.extend-3.new.self (codes " result=") c.extend-3.ensures in
    let a5 = appended c.extend-3.new.self c.push_number-2.new.self (number_text h.result) c.push_number-2.ensures in
    let a6 = appended c.push_number-2.new.self c.extend-4.new.self (codes " reads=") c.extend-4.ensures in
    let a7 = appended c.extend-4.new.self c.push_number-3.new.self (number_text h.reads) c.push_number-3.ensures in
    let a8 = appended c.push_number-3.new.self c.extend-5.new.self (codes " data=") c.extend-5.ensures in
    omega (arith, length-hex_text (h.status ∷ []), length-front h true (grind (arith, nat_tests)))
