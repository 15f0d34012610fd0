use Rattle.std.proofs.Common.{arith}
use Rattle.pk_gen.proofs.Keys.{few_digits, key_written}
use Rattle.pk_gen.proofs.command.key.Goals as goal

pub write_digits-requires : goal.write_digits-requires
write_digits-requires c = (omega (arith, few_digits c.args.number c.requires), omega arith)

pub returns : goal.returns
returns c = key_written c.args.number c.write_digits.result c.write_digits.new.buf c.requires c.write_digits.ensures.start c.write_digits.ensures.written c.write_digits.ensures.before
