-- all before `low` are below, and none from `high` on
use Rattle.std.{proofs.Common.◌≡◌, proofs.Common.◌≤◌, proofs.Common.◌-◌, proofs.Common.length, proofs.Common.true, proofs.Common.false, specs.List.AllWithin}
use Rattle.pk_buf.specs.Table.{is_below, numbered}
use Rattle.pk_buf.proofs.place.Given as goal

abbrev pub invariant-loop-low : goal.invariant-loop-low
invariant-loop-low l = record {
  order : l.low ≤ l.high;
  within : l.high ≤ length l.order;
  front : AllWithin (λ x. is_below l.key (numbered l.slots x) ≡ true) l.order 0 l.low;
  back : AllWithin (λ x. is_below l.key (numbered l.slots x) ≡ false) l.order l.high (length l.order);
}

abbrev pub decreases-loop-low : goal.decreases-loop-low
decreases-loop-low l = l.high - l.low
