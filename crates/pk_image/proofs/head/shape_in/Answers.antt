use Rattle.pk_image.{specs.Header.named_shape, proofs.HeaderLemmas.named}
use Rattle.pk_image.proofs.head.shape_in.Goals as goal

pub returns-clause-named : goal.returns-clause-named
returns-clause-named c = named (named_shape c.args.bytes.now) c.new.result (rw (c.get_u32.ensures, c.get_u32-2.ensures, c.get_u32-3.ensures) at c.new.ensures)
