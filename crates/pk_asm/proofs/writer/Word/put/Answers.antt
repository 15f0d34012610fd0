use Rattle.pk_asm.proofs.PrintLemmas.{hex_fits}
use Rattle.pk_asm.proofs.writer.Word.put.Goals as goal

pub push_hex-requires : goal.push_hex-requires
push_hex-requires c = hex_fits c.args.self c.in-Hex.bytes c.args.into.now c.push.new.self c.in-Hex.is c.requires c.push.ensures
