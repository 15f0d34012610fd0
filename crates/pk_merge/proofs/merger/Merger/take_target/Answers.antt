use Rattle.std.proofs.Common.{List, ℕ, Some, ap, ◌∙◌}
use Rattle.pk_base.specs.EntryBytes.{entry_at}
use Rattle.pk_merge.proofs.merger.Merger.take_target.Goals as goal

pub returns-clause-head : goal.returns-clause-head
returns-clause-head g c flash arena es s f =
    rw (← c.self.view_is) (c.head.ensures.entry flash arena es s (rw (← c.self.view_is) at f) ∙ ap (λ (cell : List ℕ). Some (entry_at cell)) c.head.ensures.value)
