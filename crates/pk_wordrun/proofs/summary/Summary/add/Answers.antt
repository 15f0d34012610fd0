use Rattle.std.proofs.Common.{max, ap, ◌∙◌}
use Rattle.pk_wordrun.proofs.Counting.{sums-more}
use Rattle.pk_wordrun.proofs.summary.Summary.add.Goals as goal

pub returns : goal.returns
returns c = λ all x few sums is.
    sums-more c.args.self.now all x few sums c.args.request.now c.args.outcome.now is _ c.one_more-self.ensures c.one_more-self-2.ensures c.one_more-self-3.ensures
    c.one_more-self-4.ensures c.one_more-self-5.ensures c.one_more-self-6.ensures (c.greater-self.ensures ∙ ap (λ n. max c.args.self.now.most n) c.reads_of.ensures)
