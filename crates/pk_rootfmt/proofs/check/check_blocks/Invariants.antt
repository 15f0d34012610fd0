use Rattle.std.proofs.Common.{◌≡◌, ◌+◌, ◌-◌, ◌*◌, [], drop}
use Rattle.pk_rootfmt.{specs.Root.u16s_at, specs.Fault.blocks_fault}
use Rattle.pk_rootfmt.proofs.check.check_blocks.Given as goal

abbrev pub invariant-loop-i : goal.invariant-loop-i
invariant-loop-i l =
    blocks_fault l.shape (l.from + 2 * l.i) (u16s_at l.i (drop l.from l.page))
    (u16s_at (l.count - l.i) (drop (l.from + 2 * l.i) l.page)) ≡ blocks_fault l.shape l.from [] (u16s_at l.count (drop l.from l.page))
