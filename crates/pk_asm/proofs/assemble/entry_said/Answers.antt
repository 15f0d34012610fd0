use Rattle.std.{proofs.Common.◌∙◌, proofs.Common.ap, proofs.Common.sym, proofs.Common.Option, proofs.Common.List, proofs.Common.ℕ, specs.Prelude.option_map}
use Rattle.pk_asm.{proofs.SplitLemmas.operands_fit, proofs.SplitLemmas.operands_below, proofs.LineLemmas.said_named, proofs.LineLemmas.entry_of_form}
use Rattle.pk_asm.proofs.assemble.entry_said.Goals as goal

pub raw-requires-clause-fits : goal.raw-requires-clause-fits
raw-requires-clause-fits c = operands_fit _ c.args.line.now _ _ _ c.split_word.ensures c.words_behind-operands.ensures c.requires.fits

pub named-requires-clause-fits : goal.named-requires-clause-fits
named-requires-clause-fits c = operands_fit _ c.args.line.now _ _ _ c.split_word.ensures c.words_behind-operands.ensures c.requires.fits

pub named-requires-clause-short : goal.named-requires-clause-short
named-requires-clause-short c = operands_below _ c.args.line.now _ _ _ c.split_word.ensures c.words_behind-operands.ensures c.requires.short

pub returns-in-Some-clause-entry : goal.returns-in-Some-clause-entry
returns-in-Some-clause-entry c =
    entry_of_form c.args.number _ c.in-Some.form c.entry.result (sym c.in-Some.is ∙ c.named.ensures.form) c.entry.ensures
    ∙ ap (λ (o : Option (List ℕ × List ℕ)). option_map (λ s. s.0) o)
    (sym (said_named c.args.number c.args.line.now _ _ _ c.split_word.ensures c.words_behind-operands.ensures (sym c.is.ensures ∙ c.if-is.false)))
