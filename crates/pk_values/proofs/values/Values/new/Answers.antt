use Rattle.pk_values.proofs.Opening.{found_placed}
use Rattle.pk_values.proofs.values.Values.new.Goals as goal

pub returns-clause-placed : goal.returns-clause-placed
returns-clause-placed g c shape named pool flash es found = found_placed shape named c.args.live pool flash es found
