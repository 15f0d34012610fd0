use Rattle.std.specs.List.{AllByRecursion}
use Rattle.pk_host.{specs.Calls.IsOwnKey, specs.Outcomes.AreLists, specs.Outcomes.TookSome, proofs.PageLemmas.IsListing}
use Rattle.pk_host.proofs.host.Host.list_all.Given as goal

abbrev pub invariant-loop : goal.invariant-loop
invariant-loop g l = TookSome g.P.Port.took AreLists l.initial.port l.port × IsListing (g.P.Port.state l.initial.port) (g.P.Port.state l.port) l.all.items × AllByRecursion IsOwnKey l.all.items
