use Rattle.std.proofs.Common.{◌≤◌, sym, refl, subst, ap, ◌∙◌, arith}
use Rattle.pk_nvme.specs.Command.{Command}
use Rattle.pk_call.specs.Seen.{reply_of}
use Rattle.pk_host.{specs.Good.IsHanded, specs.Port.Replies, specs.Port.room_of}
use Rattle.pk_port.{specs.Steps.mount, specs.Steps.seen, proofs.Stepping.stepped_ok, proofs.Stepping.stepped_err, proofs.Stepping.chain_one}
use Rattle.pk_port.proofs.submit.DrivePortPort.submit.Goals as goal

pub serve_lent-requires-clause-handed : goal.serve_lent-requires-clause-handed
serve_lent-requires-clause-handed g c = subst IsHanded (sym (c.of-request.ensures c.args.value.now)) c.is_handed.ensures.bytes

pub completed-requires-clause-into : goal.completed-requires-clause-into
completed-requires-clause-into g c =
    let T : Command → Type 0 = λ k. c.in-Ok.outcome.data_len ≤ room_of k in
    let few = subst T (c.of-request.ensures c.args.value.now) c.in-Ok.ensures.data in
    let room = c.requires.room in
    omega (arith, few, room)

pub returns-in-Ok-clause-completes : goal.returns-in-Ok-clause-completes
returns-in-Ok-clause-completes g c =
    let is = c.of-request.ensures c.args.value.now in
    let before = mount (g.B.Nand.state c.args.self.now.board.now) (g.D.Engine.sight c.args.self.now.drive.now) in
    let after = mount (g.B.Nand.state c.serve_lent.new.board) (g.D.Engine.sight c.serve_lent.new.drive) in
    let T : Command → Type 0 = λ k. Replies (seen c.args.self.now.shape before c.args.self.now.tally.now.faults)
    (seen c.args.self.now.shape after c.answer.new.self.faults) k (reply_of c.in-Ok.outcome c.serve_lent.new.into) in
    c.completed.ensures _ _ _ (ap (λ (k : Command). k.cid) (sym is)) (subst T is (c.in-Ok.ensures.replies (ap (λ (k : Command). k.namespace) is ∙ c.requires.namespace) _ _))

pub returns-in-Ok-clause-took : goal.returns-in-Ok-clause-took
returns-in-Ok-clause-took g c = (
  refl,
  refl,
  refl,
  refl,
  refl,
  chain_one c.args.self.now.shape _ _ _ _ (c.of-request.ensures c.args.value.now)
      (stepped_ok c.args.self.now.shape (mount (g.B.Nand.state c.args.self.now.board.now) (g.D.Engine.sight c.args.self.now.drive.now))
      (mount (g.B.Nand.state c.serve_lent.new.board) (g.D.Engine.sight c.serve_lent.new.drive)) _
      (ap (λ (k : Command). k.namespace) (c.of-request.ensures c.args.value.now) ∙ c.requires.namespace) _ _ _ _ c.in-Ok.ensures.fits.shape_is _ c.in-Ok.ensures.makes
      (ap (λ t. t.faults) c.answer.ensures) (ap (λ t. t.halt) c.answer.ensures)),
)

pub returns-in-Err-clause-took : goal.returns-in-Err-clause-took
returns-in-Err-clause-took g c = (
  refl,
  refl,
  refl,
  refl,
  refl,
  chain_one c.args.self.now.shape _ _ _ _ (c.of-request.ensures c.args.value.now)
      (stepped_err c.args.self.now.shape (mount (g.B.Nand.state c.args.self.now.board.now) (g.D.Engine.sight c.args.self.now.drive.now))
      (mount (g.B.Nand.state c.serve_lent.new.board) (g.D.Engine.sight c.serve_lent.new.drive)) _
      (ap (λ (k : Command). k.namespace) (c.of-request.ensures c.args.value.now)
      ∙ c.requires.namespace) _ _ _ _ c.in-Err.ensures.fits.shape_is c.in-Err.halt c.in-Err.ensures.makes c.fail.ensures.rose c.fail.ensures.up c.fail.ensures.halt),
)
