use Rattle.pk_walk.{specs.Visible.is_wanted, specs.declared.position.Position.TheVariants.From, proofs.Wanting.from_wants}
use Rattle.pk_walk.proofs.begin.begins_at.Goals as goal

pub returns-in-From-clause-begins : goal.returns-in-From-clause-begins
returns-in-From-clause-begins g c flash arena es s = rw c.in-From.is (c.page_start.ensures (is_wanted (From c.in-From.key)) (from_wants c.in-From.key) flash arena es s)
