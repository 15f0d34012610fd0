use Rattle.pk_asm.proofs.PrintLemmas.{hex_length}
use Rattle.pk_asm.proofs.writer.Word.len.Goals as goal

pub returns-in-Hex-clause-value : goal.returns-in-Hex-clause-value
returns-in-Hex-clause-value c = hex_length c.args.self c.in-Hex.bytes c.in-Hex.is
