use Rattle.std.proofs.Common.{ℕ, ◌-◌, subst, Option}
use Rattle.pk_base.specs.Seen.{entry as seen}
use Rattle.pk_meta.proofs.FindLemmas.{there}
use Rattle.pk_homes.specs.declared.table.TheConstants.{SHARED}
use Rattle.pk_run.specs.Search.{IsPlaceBefore}
use Rattle.pk_run.proofs.frame.find_by_number.Goals as goal

pub returns-in-Some : goal.returns-in-Some
returns-in-Some c level index entries is =
    let at = subst (λ (o : Option ℕ). IsPlaceBefore c.args.page.now c.args.key.now (c.args.number - SHARED) o) c.in-Some.is c.place_before.ensures in
    there c.args.shape.now c.args.page.now c.args.key.now c.known.ensures c.in-Some.place (seen c.entry.result) at.0 at.1 level index entries is (c.entry.ensures level index entries is)
