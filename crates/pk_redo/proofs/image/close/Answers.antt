use Rattle.std.proofs.Common.{inl, inr}
use Rattle.std.specs.Prelude.{Result, Ok, Err, OnOk}
use Rattle.pk_redo.proofs.Gates.{shut_stands}
use Rattle.pk_redo.proofs.Replaying.{replay_is_absolute, written_reads}
use Rattle.pk_redo.proofs.image.close.Goals as goal

-- what two clauses say together
both : {T E A B C : Type 0} (r : Result T E) → (A → B → C) → OnOk r A → OnOk r B → OnOk r C
both (Ok x) f a b = f a b
both (Err e) f a b = tt

pub returns-in_err-sync-clause-crash : goal.returns-in_err-sync-clause-crash
returns-in_err-sync-clause-crash g c clean base marks stands within written l i may_l may_i =
    replay_is_absolute c.args.shape.now l base i stands.batches marks (stands.stands l may_l) stands.says stands.of_base (within i (c.sync.ensures.crash i may_i))

pub returns-clause-crash : goal.returns-clause-crash
returns-clause-crash g c clean base marks stands within written l i may_l may_i =
    let shape = c.args.shape.now in
    let only = c.in_ok-sync.ensures.durable i may_i in
    elim (c.shut.ensures.crash clean stands.batches stands.stands l may_l) [
      | inl old ↦ replay_is_absolute shape l base i stands.batches marks old stands.says stands.of_base (within i (c.sync.ensures.crash i may_i))
      | inr none ↦ rw only (written_reads shape marks base _ l none written)
    ]

pub returns-clause-done : goal.returns-clause-done
returns-clause-done g c =
    both c.shut.result (λ is synced clean. ((λ l may. shut_stands l (rw (synced l may) (is clean))), c.in_ok-sync.ensures.durable)) c.shut.ensures.shut c.shut.ensures.synced
