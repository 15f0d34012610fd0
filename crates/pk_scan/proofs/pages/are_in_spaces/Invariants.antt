use Rattle.std.proofs.Common.{◌≡◌, ℕ, List, true, take}
use Rattle.pk_base.specs.Entry.{Entry}
use Rattle.pk_meta.specs.PageChecks.{IsMetaPage}
use Rattle.pk_space.specs.Entries.{in_spaces}
use Rattle.pk_scan.proofs.pages.are_in_spaces.Given as goal

abbrev pub invariant-loop-i : goal.invariant-loop-i
invariant-loop-i l = (level index : ℕ) (es : List Entry) → IsMetaPage l.shape l.page level index es → in_spaces l.spaces (take l.i es) ≡ true
