use Rattle.pk_wordrun.proofs.Grouping.{stops_before, stops_in, adds_all, stops_after}
use Rattle.pk_wordrun.proofs.group.serve_grouped.Goals as goal

pub returns-in-Err-clause-stops : goal.returns-in-Err-clause-stops
returns-in-Err-clause-stops g c = stops_before _ _ _ _ c.in-Err.ensures.stops

pub returns-in-Err-execute-clause-stops : goal.returns-in-Err-execute-clause-stops
returns-in-Err-execute-clause-stops g c = stops_in _ _ _ _ _ c.in-Ok.ensures.keeps _ c.in-Err-execute.ensures.stops

pub returns-in-Ok-finish-clause-adds : goal.returns-in-Ok-finish-clause-adds
returns-in-Ok-finish-clause-adds g c = adds_all _ _ _ _ _ c.in-Ok.ensures.keeps _ _ c.in-Ok-execute.ensures.adds _ _ c.in-Ok-finish.ensures.keeps

pub returns-in-Err-finish-clause-stops : goal.returns-in-Err-finish-clause-stops
returns-in-Err-finish-clause-stops g c = stops_after _ _ _ _ _ c.in-Ok.ensures.keeps _ _ c.in-Ok-execute.ensures.adds _ c.in-Err-finish.ensures.stops
