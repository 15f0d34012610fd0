use Rattle.std.proofs.Common.{◌∙◌, ap, sym}
use Rattle.std.specs.Ordering.{is_gt}
use Rattle.pk_base.proofs.WordLemmas.{number_order}
use Rattle.pk_run.proofs.search.are_above.Goals as goal

pub returns-then-bytes-eq-KEY_BYTES : goal.returns-then-bytes-eq-KEY_BYTES
returns-then-bytes-eq-KEY_BYTES c =
    let first = c.spell.ensures in
    let second = c.requires c.if-bytes-eq-KEY_BYTES.true in
    let same =
    number_order 16 c.args.first.now c.args.bytes.now c.if-first-eq-KEY_BYTES.true c.if-bytes-eq-KEY_BYTES.true
    first.bytes second.1 in
    c.is_gt.ensures ∙ ap is_gt (c.cmp.ensures ∙ sym (rw (first.value, second.0) same))
