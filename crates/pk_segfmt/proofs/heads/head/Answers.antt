use Rattle.std.proofs.Common.{◌∙◌, List, ℕ, length, take, ap, arith, sym}
use Rattle.std.proofs.lemmas.List.{length-take-le}
use Rattle.pk_segfmt.proofs.StoredLemmas.{first_starts}
use Rattle.pk_segfmt.proofs.heads.head.Goals as goal

pub slice_bounds-decode-end : goal.slice_bounds-decode-end
slice_bounds-decode-end c = sym (length-take-le 32 c.args.page.now (omega arith))

pub decode-requires : goal.decode-requires
decode-requires c = length-take-le 32 c.args.page.now (omega arith)

pub returns-clause-written : goal.returns-clause-written
returns-clause-written c key value is same =
    c.decode.ensures.only key (length value) is (ap (λ (r : List ℕ). take 32 r) same ∙ first_starts c.args.shape.now c.known.ensures key value is.is_key)
