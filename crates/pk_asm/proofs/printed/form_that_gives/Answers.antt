use Rattle.std.proofs.Common.{◌∙◌, ap}
use Rattle.pk_asm.specs.Printed.{form_that_gives, that_gives, candidate}
use Rattle.pk_asm.proofs.printed.form_that_gives.Goals as goal

pub returns : goal.returns
unfolding form_that_gives
returns c =
    c.that_gives.ensures ∙ ap (that_gives c.args.number c.args.entry.now) (c.candidate.ensures ∙ ap candidate (c.of.ensures c.args.value.now))
