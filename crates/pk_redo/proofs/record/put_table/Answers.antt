use Rattle.std.proofs.Common.{ℕ, slice_index, length-set, ◌∙◌, arith}
use Rattle.std.proofs.lemmas.List.{get_or-set_other}
use Rattle.pk_redo.specs.Record.{said}
use Rattle.pk_redo.proofs.Tables.{table_more, said_small}
use Rattle.pk_redo.proofs.record.put_table.Goals as goal

pub loop-i-preserved : goal.loop-i-preserved
loop-i-preserved c =
    let before = c.loop-i.invariant in
    record {
      table = table_more c.loop-i.batch (λ (k : ℕ). said (slice_index c.args.states.now k)) c.args.at c.loop-i.i c.packed.result (λ k. said_small (slice_index c.args.states.now k))
          (omega (arith, c.requires.fits, c.loop-i-test.true, before.len)) c.packed.ensures before.table;
      before = λ i low. get_or-set_other c.loop-i.batch _ i c.packed.result 0 (λ e. omega (arith, e, low)) ∙ before.before i low;
      len = length-set c.loop-i.batch _ c.packed.result ∙ before.len;
    }
