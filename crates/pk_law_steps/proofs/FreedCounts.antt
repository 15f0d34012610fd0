-- How many blocks a merge frees.
use Rattle.std.proofs.Common.{sym, subst, arith, T, le_trans}
use Rattle.pk_base.proofs.Logic.{is_true}
use Rattle.pk_rootfmt.specs.Root.{named}
use Rattle.pk_model.proofs.Commits.{blocks_of_root}
use Rattle.pk_law_steps.{specs.Merging.FreedCounted, specs.Merging.merged_root, specs.Merging.freed_by, proofs.FourRuns.four_of_root, proofs.Amounts.levels}
use Rattle.pk_law_steps.{proofs.Places.weight-ones, proofs.Places.differ_times, proofs.Places.times_differ, proofs.Merging.weighs, proofs.Merging.freed_times, proofs.Merging.was_named}

pub freed_counted : FreedCounted
freed_counted shape root level count taken is low high =
    let valid = subst T (sym is) tt in
    let four = (four_of_root shape root valid).runs in
    let which = levels level low high in
    let all = weighs (λ b. 1) root count taken four level which in (
      omega (arith, all, weight-ones (named (merged_root root level count taken)), weight-ones (freed_by level root), weight-ones (named root), weight-ones taken),
      is_true _ (times_differ (freed_by level root) (λ b. le_trans (freed_times root level count taken four which b) (differ_times b (named root) (blocks_of_root shape root valid).different))),
      was_named root level count taken four which,
    )
