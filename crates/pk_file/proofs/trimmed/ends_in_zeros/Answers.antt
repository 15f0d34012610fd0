use Rattle.std.proofs.Common.{◌-◌, ◌∙◌, sym, arith}
use Rattle.pk_file.proofs.Trimming.{zeros_before}
use Rattle.pk_file.proofs.trimmed.ends_in_zeros.Goals as goal

pub returns-then-count-end-clause-zeros : goal.returns-then-count-end-clause-zeros
returns-then-count-end-clause-zeros c is = zeros_before c.args.bytes.now (c.args.end - c.args.count) c.args.end (omega arith) c.requires (sym c.are_zeros.ensures ∙ is)
