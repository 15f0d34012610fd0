use Rattle.std.proofs.Common.{◌≡◌, ◌∙◌, ℕ, List, ◌++◌, length, take, drop, sym, ap, arith}
use Rattle.std.proofs.Math.Seq.{take-append_seam}
use Rattle.pk_base.{specs.Page.Flash, specs.Mark.after}
use Rattle.pk_redo.specs.Steps.{step_mark}
use Rattle.pk_file.{specs.Slots.pages_of, proofs.Replayed.step_more}
use Rattle.pk_file.proofs.logged.replay_steps.Goals as goal

pub loop-i-preserved : goal.loop-i-preserved
loop-i-preserved c =
    let shape = c.args.shape.now in
    let step = c.index.result.now in
    let now : Flash = pages_of c.loop-i.slots.items in
    let new : List ℕ = c.replay_step.new.room in
    let done = c.in-Ok-replay_step.ensures.pages ∙ ap (λ (log : List ℕ). after shape (step_mark shape log step) now) c.as_slice-log.ensures.value in
    let size : c.loop-i.room.len ≡ length new = sym (c.replay_step.auto.room ∙ c.as_mut_slice.ensures.len) in
    let whole : take c.loop-i.room.len (new ++ drop (length new) c.loop-i.room.items) ≡ new =
    ap (λ (n : ℕ). take n (new ++ drop (length new) c.loop-i.room.items)) size ∙ take-append_seam _ _ in
    record {
      pages = step_more shape c.args.replay.now.bytes.items c.args.replay.now.steps.items c.loop-i.i step (pages_of c.args.slots.now.items) now
          (pages_of c.replay_step.new.slots.items) (omega (arith, c.loop-i-test.true, c.len-i-end.ensures)) c.index.ensures c.loop-i.invariant.pages done;
      count = c.replay_step.ensures.count ∙ c.loop-i.invariant.count;
      fit = c.replay_step.ensures.fit;
      room = ap (λ (l : List ℕ). length l) whole
          ∙ (c.replay_step.auto.room ∙ (ap (λ (l : List ℕ). length l) c.as_mut_slice.ensures.value ∙ c.loop-i.invariant.room));
    }
