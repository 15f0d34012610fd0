use Rattle.pk_merge.{proofs.Loading.loads_of, proofs.Results.on_ok}
use Rattle.pk_merge.proofs.merger.Merger.load_target.Goals as goal

pub returns-clause-loads : goal.returns-clause-loads
returns-clause-loads g c = on_ok c.load.result _ _ c.load.ensures.loads (λ l. rw (← c.self.view_is) (loads_of c.args.target.now _ _ _ _ l))
