use Rattle.std.proofs.Common.{sym, ap, ◌∙◌, map}
use Rattle.std.specs.Prelude.{option_map}
use Rattle.pk_top.{specs.SparedTexts.seen_spared, proofs.SparedRuns.form_fits}
use Rattle.pk_top.proofs.spared.run_spared.Goals as goal

pub run_over-requires-clause-fits : goal.run_over-requires-clause-fits
run_over-requires-clause-fits g c = form_fits (map (λ w. w.now) c.args.words.now) (seen_spared c.in-Some.asked) (sym c.spared_words.ensures.seen ∙ ap (option_map seen_spared) c.in-Some.is)
