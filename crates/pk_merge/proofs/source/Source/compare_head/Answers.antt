use Rattle.std.proofs.Common.{List, ℕ, Some, ap, ◌∙◌}
use Rattle.pk_base.specs.EntryBytes.{entry_at}
use Rattle.pk_merge.proofs.source.Source.compare_head.Goals as goal

pub returns-in-Run-clause-head : goal.returns-in-Run-clause-head
returns-in-Run-clause-head g c flash arena es s f =
    rw c.in-Run.is (c.head.ensures.entry flash arena es (rw c.in-Run.is at s) (rw c.in-Run.is at f) ∙ ap (λ (cell : List ℕ). Some (entry_at cell)) c.head.ensures.value)
