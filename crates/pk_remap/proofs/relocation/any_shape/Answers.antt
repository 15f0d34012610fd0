use Rattle.std.{proofs.Common.sym, proofs.Common.ap, proofs.Common.◌∙◌, specs.Prelude.is_ok}
use Rattle.pk_remap.proofs.Opening.{small_is}
use Rattle.pk_remap.proofs.relocation.any_shape.Goals as goal

pub unreachable-requires : goal.unreachable-requires
unreachable-requires c =
    let no = ap is_ok (sym c.in-Err.is ∙ c.new.ensures ∙ small_is) in
    cc
