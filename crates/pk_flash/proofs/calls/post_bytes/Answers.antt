use Rattle.std.{proofs.Common.take, proofs.Common.drop, proofs.Common.inl, proofs.Common.ap, proofs.Common.Some, proofs.lemmas.List.take-append-drop}
use Rattle.pk_flash.proofs.calls.post_bytes.Goals as goal

pub returns-in-Some-clause-left : goal.returns-in-Some-clause-left
returns-in-Some-clause-left c = record {
  out = take c.part-count.result c.args.bytes.now;
  unposted = drop c.part-count.result c.args.bytes.now;
  front = take-append-drop c.part-count.result c.args.bytes.now;
  posted_is = ap (λ l. Some l) c.in-Ok-extend_from_slice.ensures.items;
  trail_is = inl (ap (λ l. Some l) c.in-Ok.ensures.marks);
}

pub returns-in-Some-clause-given : goal.returns-in-Some-clause-given
returns-in-Some-clause-given c = record {
  within = c.part-count.ensures.within;
  posted_is = ap (λ l. Some l) c.in-Ok-extend_from_slice.ensures.items;
  trail_is = inl (ap (λ l. Some l) c.in-Ok.ensures.marks);
}
