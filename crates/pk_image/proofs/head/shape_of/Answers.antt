use Rattle.std.{proofs.Common.ap, proofs.Common.◌∙◌, proofs.Common.sym, specs.Prelude.is_ok}
use Rattle.pk_image.proofs.HeaderLemmas.{short, names_one}
use Rattle.pk_image.proofs.head.shape_of.Goals as goal

pub returns-then-file_len : goal.returns-then-file_len
returns-then-file_len c = short c.args.bytes.now c.args.file_len c.if-file_len.true

pub unreachable-requires : goal.unreachable-requires
unreachable-requires c =
    let yes = names_one c.args.bytes.now c.args.file_len c.in-Ok.ensures in
    let no = ap is_ok (sym c.shape_in.ensures.value ∙ c.in-Err-shape_in.is) in
    cc
