use Rattle.std.proofs.Common.{◌≡◌, ◌+◌, ◌-◌, ◌*◌, drop}
use Rattle.pk_rootfmt.{specs.Root.u32s_at, specs.Fault.limits_fault}
use Rattle.pk_rootfmt.proofs.check.check_limits.Given as goal

abbrev pub invariant-loop-i : goal.invariant-loop-i
invariant-loop-i l =
    limits_fault (64 + 4 * l.i) l.left (l.count - l.i) (u32s_at (8 - l.i) (drop (64 + 4 * l.i) l.page)) ≡ limits_fault 64 l.most l.count (u32s_at 8 (drop 64 l.page))
