use Rattle.std.proofs.Common.{subst}
use Rattle.pk_base.specs.Fields.{AreBytes}
use Rattle.pk_model.proofs.HeldMap.{key_is_bytes}
use Rattle.pk_core.proofs.store.known.Goals as goal

pub returns-clause-bytes : goal.returns-clause-bytes
returns-clause-bytes c = key_is_bytes c.args.key.now c.bytes.ensures.key (subst AreBytes c.bytes.ensures.value c.are_bytes.ensures)
