use Rattle.std.proofs.Common.{[], refl, inl, inr}
use Rattle.std.proofs.lemmas.Result.{on_ok_weaker}
use Rattle.pk_redo.proofs.Replaying.{replay_is_absolute, written_reads, written_reads_record}
use Rattle.pk_redo.proofs.image.finish.Goals as goal

pub returns-in_err-sync-clause-crash : goal.returns-in_err-sync-clause-crash
returns-in_err-sync-clause-crash g c clean base marks stands within written recorded l i may_l may_i =
    replay_is_absolute c.args.shape.now l base i stands.batches marks (stands.stands l may_l) stands.says stands.of_base (within i (c.sync.ensures.crash i may_i))

pub returns-clause-crash : goal.returns-clause-crash
returns-clause-crash g c clean base marks stands within written recorded l i may_l may_i =
    let shape = c.args.shape.now in
    let only = c.in_ok-sync.ensures.durable i may_i in
    elim (c.reset.ensures.crash clean stands.batches stands.stands l may_l) [
      | inl old ↦ replay_is_absolute shape l base i stands.batches marks old stands.says stands.of_base (within i (c.sync.ensures.crash i may_i))
      | inr (inl none) ↦ rw only (written_reads shape marks base _ l none written)
      | inr (inr one) ↦ rw only (written_reads_record shape marks base _ l _ one recorded written)
    ]

pub returns-clause-done : goal.returns-clause-done
returns-clause-done g c =
    on_ok_weaker c.reset.result (λ ready clean recorded.
    (record { first = _; later = []; ready = ready clean; says = refl; of_base = recorded }, c.in_ok-sync.ensures.durable)) c.reset.ensures.done
