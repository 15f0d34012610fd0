use Rattle.std.proofs.Common.{◌≡◌, refl, sym, ap, subst, arith, ℕ, ◌≤◌, [], length}
use Rattle.pk_parts.{specs.Parts.drive_limits, proofs.OwnLimits.reported_length}
use Rattle.pk_nvme.{specs.Seen.command_of, specs.Opcode.op_of, specs.declared.opcode.Opcode.TheVariants.Report}
use Rattle.pk_model.proofs.Answering.{key_spaced}
use Rattle.pk_core.{proofs.Executing.executes_quiet, proofs.Performing.looks_none, proofs.Performing.performs_looking, proofs.Performing.performs_store, proofs.Performing.performs_delete}
use Rattle.pk_core.proofs.Performing.{performs_tick}
use Rattle.pk_core.proofs.engine.perform.Goals as goal

pub returns-in-0-clause-executes : goal.returns-in-0-clause-executes
returns-in-0-clause-executes g c =
    let s = c.requires.servable in
    executes_quiet _ _ _ _ _ _ _ c.args.into.now _ s refl refl c.flush.ensures.told.1
    (c.flush.ensures.does c.args.into.now c.args.request.now c.in-0.is (g.B.Nand.state c.args.board.now) c.args.value.now s.agrees s.counted s.passed)

pub returns-in-1-clause-executes : goal.returns-in-1-clause-executes
returns-in-1-clause-executes g c = c.store.ensures.executes c.args.into.now

pub returns-in-2-clause-executes : goal.returns-in-2-clause-executes
returns-in-2-clause-executes g c = c.retrieve.ensures.executes c.args.value.now

pub returns-in-16-clause-executes : goal.returns-in-16-clause-executes
returns-in-16-clause-executes g c = c.delete.ensures.executes c.args.value.now c.args.into.now

pub returns-in-20-clause-executes : goal.returns-in-20-clause-executes
returns-in-20-clause-executes g c = c.exist.ensures.executes c.args.value.now c.args.into.now

pub returns-in-192-clause-executes : goal.returns-in-192-clause-executes
returns-in-192-clause-executes g c = c.tick_command.ensures.executes c.args.value.now c.args.into.now

pub returns-in-194-clause-executes : goal.returns-in-194-clause-executes
returns-in-194-clause-executes g c =
    let s = c.requires.servable in
    executes_quiet _ _ _ _ _ _ _ c.report.new.into _ s refl refl c.report.ensures.told.1
    (c.report.ensures.does c.in-194.is (g.B.Nand.state c.args.board.now) c.args.value.now s.agrees s.counted s.passed)

pub returns-in-0-clause-performs : goal.returns-in-0-clause-performs
returns-in-0-clause-performs g c = performs_looking 0x00 refl refl c.in-0.is looks_none

pub returns-in-194-clause-performs : goal.returns-in-194-clause-performs
returns-in-194-clause-performs g c = performs_looking 0xC2 refl refl c.in-194.is looks_none

pub returns-in-2-clause-performs : goal.returns-in-2-clause-performs
returns-in-2-clause-performs g c = performs_looking 0x02 refl refl c.in-2.is c.retrieve.ensures.only

pub returns-in-6-clause-performs : goal.returns-in-6-clause-performs
returns-in-6-clause-performs g c = performs_looking 0x06 refl refl c.in-6.is c.list.ensures.only

pub returns-in-20-clause-performs : goal.returns-in-20-clause-performs
returns-in-20-clause-performs g c = performs_looking 0x14 refl refl c.in-20.is c.exist.ensures.only

pub returns-in-1-clause-performs : goal.returns-in-1-clause-performs
returns-in-1-clause-performs g c =
    let e = c.store.ensures in
    performs_store c.in-1.is e.half e.finishes e.opens e.noted e.quiet e.spends.calls

pub returns-in-16-clause-performs : goal.returns-in-16-clause-performs
returns-in-16-clause-performs g c =
    let e = c.delete.ensures in
    performs_delete c.in-16.is e.half e.finishes e.moves e.quiet e.spends.calls

pub returns-in-192-clause-performs : goal.returns-in-192-clause-performs
returns-in-192-clause-performs g c =
    let e = c.tick_command.ensures in
    performs_tick c.in-192.is e.moves e.calls e.no_more e.done

pub report-requires-clause-space : goal.report-requires-clause-space
report-requires-clause-space g c =
    let d = c.args.parts.now in
    let spaced = key_spaced (length (drive_limits d)) d.log.shape (command_of c.args.request.now []) Report (λ n k. refl) (ap op_of c.in-194.is) c.requires.servable.passed in
    (spaced.some, subst (λ (n : ℕ). c.args.request.now.namespace ≤ n) (sym (reported_length d.spaces 1 (drive_limits d))) spaced.most)

pub returns-in-194-clause-report : goal.returns-in-194-clause-report
returns-in-194-clause-report g c = λ op. record {
  fine = λ unread. let is : c.report.result.status ≡ 0x88 = unread in let done : c.report.result.status ≡ 0 = c.report.ensures.told.0 in omega (arith, is, done);
  rests = refl;
  bytes = c.report.ensures.bytes;
}
