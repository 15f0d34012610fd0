use Rattle.std.proofs.Common.{◌<◌, length, arith, inl, inr}
use Rattle.std.proofs.lemmas.Result.{on_ok_weaker}
use Rattle.pk_redo.proofs.Gates.{first_stands, first_ready, still_shut, shut_stands}
use Rattle.pk_redo.proofs.log.reset.Goals as goal

pub returns-in_err-shut-clause-crash : goal.returns-in_err-shut-clause-crash
returns-in_err-shut-clause-crash g c clean bs stands left may = elim (c.shut.ensures.crash clean bs stands left may) [ inl old ↦ inl old | inr none ↦ inr (inl none) ]

pub returns-in_err-write_at-clause-crash : goal.returns-in_err-write_at-clause-crash
returns-in_err-write_at-clause-crash g c clean bs stands left may =
    let (before, was, torn) = c.write_at.ensures.crash left may in
    let synced = c.in_ok-shut.ensures.synced before was in
    let is = c.in_ok-shut.ensures.shut (c.write_at.ensures.clean clean) in
    inr (inl (shut_stands left (still_shut _ left _ _ (omega arith) is (rw synced at torn))))

pub returns-in_err-write_at-2-clause-crash : goal.returns-in_err-write_at-2-clause-crash
returns-in_err-write_at-2-clause-crash g c clean bs stands left may =
    let (mid, was_mid, torn_mid) = c.write_at-2.ensures.crash left may in
    let (before, was, torn) = c.write_at.ensures.crash mid was_mid in
    let synced = c.in_ok-shut.ensures.synced before was in
    let is = c.in_ok-shut.ensures.shut (c.write_at.ensures.clean (c.write_at-2.ensures.clean clean)) in
    inr (inl (shut_stands left (still_shut mid left _ _ (omega arith) (still_shut _ mid _ _ (omega arith) is (rw synced at torn)) torn_mid)))

pub returns-in_err-sync-clause-crash : goal.returns-in_err-sync-clause-crash
returns-in_err-sync-clause-crash g c clean bs stands left may =
    let (mid, was_mid, torn_mid) = c.write_at-2.ensures.crash left (c.sync.ensures.crash left may) in
    let (before, was, torn) = c.write_at.ensures.crash mid was_mid in
    let synced = c.in_ok-shut.ensures.synced before was in
    let is = c.in_ok-shut.ensures.shut (c.write_at.ensures.clean (c.write_at-2.ensures.clean (c.sync.ensures.clean clean))) in
    inr (inl (shut_stands left (still_shut mid left _ _ (omega arith) (still_shut _ mid _ _ (omega arith) is (rw synced at torn)) torn_mid)))

pub returns-in_err-write_at-3-clause-crash : goal.returns-in_err-write_at-3-clause-crash
returns-in_err-write_at-3-clause-crash g c clean bs stands left may =
    let (before, was, torn) = c.write_at-3.ensures.crash left may in
    let synced = c.in_ok-sync.ensures.durable before was in
    let some : 0 < length c.args.first.now = omega (arith, c.requires.sealed.all) in
    inr (first_stands _ _ left c.args.first.now c.args.blank.now c.requires.sealed c.requires.long (c.in_ok-write_at.ensures.written some) c.write_at-2.ensures.others
    (c.in_ok-write_at-2.ensures.written c.requires.long) c.requires.blank (rw synced at torn))

pub returns-clause-crash : goal.returns-clause-crash
returns-clause-crash g c clean bs stands left may =
    let (before, was, torn) = c.write_at-3.ensures.crash left (c.sync-2.ensures.crash left may) in
    let synced = c.in_ok-sync.ensures.durable before was in
    let some : 0 < length c.args.first.now = omega (arith, c.requires.sealed.all) in
    inr (first_stands _ _ left c.args.first.now c.args.blank.now c.requires.sealed c.requires.long (c.in_ok-write_at.ensures.written some) c.write_at-2.ensures.others
    (c.in_ok-write_at-2.ensures.written c.requires.long) c.requires.blank (rw synced at torn))

pub returns-clause-done : goal.returns-clause-done
returns-clause-done g c =
    on_ok_weaker c.sync-2.result (λ only clean left may.
    let some : 0 < length c.args.first.now = omega (arith, c.requires.sealed.all) in
    let gate = c.in_ok-write_at-3.ensures.written (omega arith) in
    let seen = first_ready _ _ _ c.args.first.now c.args.blank.now c.requires.sealed c.requires.long (c.in_ok-write_at.ensures.written some) c.write_at-2.ensures.others
    (c.in_ok-write_at-2.ensures.written c.requires.long) c.requires.blank (rw c.sync.ensures.seen at c.write_at-3.ensures.others) (gate.each 0 (omega arith)) in
    rw (only left may) seen) c.sync-2.ensures.durable
