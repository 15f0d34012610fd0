use Rattle.pk_reclaim.proofs.Holding.{output_taken, dead_given_back, programmed_output, victim_given_back}
use Rattle.pk_reclaim.proofs.Ends.{moves_placed, end_placed}
use Rattle.pk_reclaim.proofs.laws.values_stay.Goals as goal

pub returns-clause-output : goal.returns-clause-output
returns-clause-output c = output_taken

pub returns-clause-dead : goal.returns-clause-dead
returns-clause-dead c = dead_given_back

pub returns-clause-copy : goal.returns-clause-copy
returns-clause-copy c = programmed_output

pub returns-clause-moves : goal.returns-clause-moves
returns-clause-moves c = moves_placed

pub returns-clause-end : goal.returns-clause-end
returns-clause-end c = end_placed

pub returns-clause-given : goal.returns-clause-given
returns-clause-given c = victim_given_back
