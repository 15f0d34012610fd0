use Rattle.std.proofs.Common.{◌≡◌, ◌∷◌}
use Rattle.pk_model.specs.Listing.{offered_all}
use Rattle.pk_model.proofs.table.Table.list.Given as goal

abbrev pub invariant-loop-key : goal.invariant-loop-key
invariant-loop-key l = offered_all (l.space ∷ l.from) l.page l.key-iterator ≡ offered_all (l.space ∷ l.from) l.initial.page l.initial.key-iterator
