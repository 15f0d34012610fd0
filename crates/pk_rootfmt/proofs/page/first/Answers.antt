use Rattle.std.{proofs.Common.◌∙◌, proofs.Common.◌∷◌, proofs.Common.[], proofs.Common.arith, proofs.lemmas.Bool.and_from}
use Rattle.pk_base.proofs.Logic.{both_true}
use Rattle.pk_rootfmt.{specs.Root.is_laid_out, specs.Held.first, proofs.LimitLemmas.limits_few, proofs.LimitLemmas.limits_room, proofs.EncodeLemmas.written, proofs.EncodeLemmas.encoded}
use Rattle.pk_rootfmt.proofs.page.first.Goals as goal

pub put_page-requires-clause-few : goal.put_page-requires-clause-few
put_page-requires-clause-few c = limits_few c.args.shape.now c.known.ensures c.args.limits.now c.requires.limits

pub put_page-requires-clause-fits : goal.put_page-requires-clause-fits
put_page-requires-clause-fits c = omega (arith, limits_room c.args.shape.now c.known.ensures c.args.limits.now c.requires.limits, c.requires.sized)

pub returns-clause-bytes : goal.returns-clause-bytes
returns-clause-bytes c =
    c.put_page.ensures
    ∙ (λ i. written c.args.shape.now (c.requires.sized i) 1 1 (2 ∷ 3 ∷ []) (0 ∷ 0 ∷ 0 ∷ 0 ∷ []) [] c.args.limits.now)
    ∙ encoded c.args.shape.now 1 1 (2 ∷ 3 ∷ []) [] 0 0 0 0 ([] ∷ [] ∷ [] ∷ [] ∷ []) c.args.limits.now

pub returns-clause-grammar : goal.returns-clause-grammar
returns-clause-grammar c =
    and_from (is_laid_out c.args.shape.now first) _ (both_true (is_laid_out c.args.shape.now first) _ c.known_first.ensures).0 c.requires.limits
