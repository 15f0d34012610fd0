use Rattle.std.proofs.Common.{ℕ, ◌∙◌, ap, sym, nat_le}
use Rattle.pk_parts.specs.Parts.{Parts}
use Rattle.pk_core.proofs.Counting.{worn_is}
use Rattle.pk_core.proofs.engine.DriveEngine.is_worn.Goals as goal

pub returns : goal.returns
returns g c = λ shape flash agrees runs.
    ap (λ (n : ℕ). nat_le 9223372036854775808 n) (c.root_number.ensures ∙ ap (λ (d : Parts). d.log.root.number) c.self.view_is ∙ sym (worn_is c.args.self.now shape flash agrees.0))
