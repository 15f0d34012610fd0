use Rattle.std.{proofs.Common.◌≡◌, proofs.Common.◌≤◌, proofs.Common.length, specs.Prelude.vec_len, specs.Prelude.vec_capacity}
use Rattle.pk_flash.specs.Spare.{AreSpare}
use Rattle.pk_flash.proofs.spare.spare_buffers.Given as goal

abbrev pub invariant-loop-i : goal.invariant-loop-i
invariant-loop-i l =
    record {
      count : length l.spare.items ≡ l.i;
      len : vec_len l.spare ≡ l.i;
      room : l.count ≤ vec_capacity l.spare;
      spare : AreSpare l.page_bytes l.spare.items;
    }
