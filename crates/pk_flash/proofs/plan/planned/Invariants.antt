use Rattle.std.proofs.Common.{◌≡◌, take, option_copied}
use Rattle.pk_flash.specs.Plan.{planned_left}
use Rattle.pk_flash.proofs.plan.planned.Given as goal

abbrev pub invariant-loop-next : goal.invariant-loop-next
invariant-loop-next l = option_copied l.found ≡ planned_left (take l.next-index l.plan.items) l.call
