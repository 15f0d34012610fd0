use Rattle.std.proofs.Common.{◌≡◌, ◌∙◌, ◌≤◌, ℕ, length, sym, arith, inl, inr}
use Rattle.std.proofs.lemmas.Bool.{cases_eq}
use Rattle.pk_image.specs.Header.{file_size}
use Rattle.pk_redo.proofs.Tables.{set_apart, set_within}
use Rattle.pk_redo.proofs.Writes.{bytes_apart}
use Rattle.pk_redo.proofs.checkpoints.put_all_bytes.Goals as goal
use Rattle.pk_redo.proofs.checkpoints.put_all_bytes.Goals.{then-is_set+in_ok-put_bytes, else-is_set}

pub returns-in_err-put_bytes-clause-crash : goal.returns-in_err-put_bytes-clause-crash
returns-in_err-put_bytes-clause-crash g c marks base sets within =
    c.put_bytes.ensures.crash marks base (sets c.loop-page.page (sym c.if-is_set.ensures)) (c.loop-page.invariant.crash marks base sets within)

pub returns-in_err-put_bytes-clause-seen : goal.returns-in_err-put_bytes-clause-seen
returns-in_err-put_bytes-clause-seen g c marks base sets same =
    c.put_bytes.ensures.seen marks base (sets c.loop-page.page (sym c.if-is_set.ensures)) (c.loop-page.invariant.seen marks base sets same)

pub returns-in_err-put_bytes-clause-zeros : goal.returns-in_err-put_bytes-clause-zeros
returns-in_err-put_bytes-clause-zeros g c long zeros = c.put_bytes.ensures.zeros (c.loop-page.invariant.long long) (c.loop-page.invariant.zeros long zeros)

pub loop-page-preserved : goal.loop-page-preserved
loop-page-preserved g c =
    let shape = c.args.shape.now in
    let page = c.loop-page.page in
    let before = c.loop-page.invariant in
    elim c.if-is_set.branch [
      | then-is_set+in_ok-put_bytes w ↦ rw (w.image-is, w.extents-is, w.buffer-is) (record {
        usable = w.put_bytes.ensures.usable;
        clean = λ is. before.clean (w.put_bytes.ensures.clean is);
        buffer = w.put_bytes.auto.buffer ∙ before.buffer;
        sized = w.put_bytes.ensures.len ∙ before.sized;
        crash = λ marks base sets within. w.put_bytes.ensures.crash marks base (sets page (sym w.if-is_set.ensures)) (before.crash marks base sets within);
        seen = λ marks base sets same. w.put_bytes.ensures.seen marks base (sets page (sym w.if-is_set.ensures)) (before.seen marks base sets same);
        long = λ long. omega (arith, before.long long, w.put_bytes.ensures.torn.no_shorter);
        zeros = λ long zeros. w.put_bytes.ensures.zeros (before.long long) (before.zeros long zeros);
        written = λ long zeros k own low lacks is.
            elim (cases_eq k page) [
              | inl here ↦ rw here (w.in_ok-put_bytes.ensures.own (before.long long) (before.zeros long zeros) own (rw here at is))
              | inr other ↦
                  bytes_apart shape _ _ page k (omega (arith, set_within _ page (sym w.if-is_set.ensures), c.requires.lacks)) (omega (arith, set_within _ k lacks, c.requires.lacks)) other
                  (before.long long) w.put_bytes.ensures.torn
                  ∙ before.written long zeros k own (omega (arith, low, other)) lacks is
            ];
      })
      | else-is_set w ↦ rw (w.image-is, w.extents-is, w.buffer-is) (record {
        usable = before.usable;
        clean = before.clean;
        buffer = before.buffer;
        sized = before.sized;
        crash = before.crash;
        seen = before.seen;
        long = before.long;
        zeros = before.zeros;
        written = λ long zeros k own low lacks is.
            let other = set_apart _ page k (sym w.if-is_set.ensures) lacks in
            before.written long zeros k own (omega (arith, low, other)) lacks is;
      })
    ]

pub returns-clause-written : goal.returns-clause-written
returns-clause-written g c long zeros k own lacks is =
    c.loop-page.invariant.written long zeros k own (omega (arith, set_within _ k lacks, c.requires.lacks, c.loop-page-test.false)) lacks is
