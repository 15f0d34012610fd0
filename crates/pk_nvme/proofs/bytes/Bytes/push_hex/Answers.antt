use Rattle.std.proofs.Common.{arith}
use Rattle.pk_nvme.proofs.TextLemmas.{no_digits, digits_fit, digits_written}
use Rattle.pk_nvme.proofs.bytes.Bytes.push_hex.Goals as goal

pub loop-byte-init : goal.loop-byte-init
loop-byte-init c = no_digits c.args.self.now

pub extend-requires : goal.extend-requires
extend-requires c = digits_fit c.args.self.now c.loop-byte.self c.args.bytes.now _ c.loop-byte.byte-index _ c.requires (omega arith) c.loop-byte.invariant c.hex_digits.ensures

pub loop-byte-preserved : goal.loop-byte-preserved
loop-byte-preserved c = digits_written c.args.self.now c.loop-byte.self c.extend.new.self c.args.bytes.now _ c.loop-byte.byte-index
    (omega arith) c.loop-byte.invariant c.hex_digits.ensures c.extend.ensures
