use Rattle.std.proofs.Common.{◌∙◌, ◌∷◌, [], sym}
use Rattle.pk_rootfmt.proofs.LimitLemmas.{eight_words}
use Rattle.pk_rootfmt.proofs.root.limits_in.Goals as goal

pub returns : goal.returns
returns c =
    (λ i. c.get_u32.ensures i ∷ c.get_u32-2.ensures i ∷ c.get_u32-3.ensures i ∷ c.get_u32-4.ensures i ∷
    c.get_u32-5.ensures i ∷ c.get_u32-6.ensures i ∷ c.get_u32-7.ensures i ∷ c.get_u32-8.ensures i ∷ [])
    ∙ sym (eight_words c.args.page.now)
