use Rattle.std.proofs.Common.{◌∙◌, sym}
use Rattle.pk_asm.proofs.SplitLemmas.{words_at, words_whole}
use Rattle.pk_asm.proofs.operands.split_word.Goals as goal

pub returns-in-Some : goal.returns-in-Some
returns-in-Some c = words_at c.args.line.now c.in-Some.at (sym c.blank_at.ensures ∙ c.in-Some.is)

pub returns-in-None : goal.returns-in-None
returns-in-None c = words_whole c.args.line.now (sym c.blank_at.ensures ∙ c.in-None.is)
