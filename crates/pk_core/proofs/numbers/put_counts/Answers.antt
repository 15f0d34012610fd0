use Rattle.std.proofs.Common.{◌≡◌, ◌∙◌, arith}
use Rattle.pk_core.proofs.Counting.{numbers_more}
use Rattle.pk_core.proofs.numbers.put_counts.Goals as goal

pub loop-i-preserved : goal.loop-i-preserved
loop-i-preserved c = record {
  bytes = numbers_more _ c.loop-i.into c.put_u32.new.bytes c.loop-i.i _ (omega (arith, c.loop-i-test.true)) c.put_u32.ensures.front c.loop-i.invariant.bytes;
  size = c.put_u32.ensures.len ∙ c.loop-i.invariant.size;
}

pub returns-clause-bytes : goal.returns-clause-bytes
returns-clause-bytes c =
    let all : c.loop-i.i ≡ 16 = omega (arith, c.loop-i-test.false, c.loop-i.auto.i-end) in
    rw all at c.loop-i.invariant.bytes
