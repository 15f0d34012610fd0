use Rattle.std.proofs.Common.{subst}
use Rattle.pk_base.specs.Fields.{AreBytes}
use Rattle.pk_model.proofs.HeldMap.{key_is_bytes}
use Rattle.pk_mirror.proofs.buffers.is_text.Goals as goal

pub returns : goal.returns
returns c = record { is_key = c.bytes.ensures.key; own = c.requires; bytes = key_is_bytes c.args.key.now c.bytes.ensures.key (subst AreBytes c.bytes.ensures.value c.are_bytes.ensures) }
