use Rattle.std.proofs.Common.{◌≡◌, List, [], ◌∷◌, ℕ, refl, subst, ap, ◌∙◌}
use Rattle.pk_nvme.{specs.Bytes.RoomyList, specs.Command.Command, specs.Seen.command_of, specs.declared.request.Request.Request}
use Rattle.pk_gen.specs.Workload.{request_of, value_of}
use Rattle.pk_call.specs.Seen.{reply_of}
use Rattle.pk_wordrun.specs.Grouped.{exchange, StopsGroup}
use Rattle.pk_wordrun.proofs.workload.serve_turn.Goals as goal

pub returns-in-Ok-clause-turn : goal.returns-in-Ok-clause-turn
returns-in-Ok-clause-turn g c =
    let r = c.next_request-request.result in
    let o = c.in-Ok.outcome in
    let v : c.bytes.result.now ≡ value_of c.args.workload.now = c.bytes.ensures ∙ ap (λ (b : RoomyList). b.items) c.next_request-request.ensures.value in
    let e : command_of r c.bytes.result.now ≡ command_of (request_of c.args.workload.now) (value_of c.args.workload.now) =
    ap (λ (t : List ℕ). command_of r t) v ∙ ap (λ (q : Request). command_of q (value_of c.args.workload.now)) c.next_request-request.ensures.request in
    let x = exchange (command_of r c.bytes.result.now) (reply_of o c.serve_grouped.new.into) o.reads in (
      x,
      e,
      c.in-Ok.ensures.adds,
      λ all few sums. c.add.ensures all x few sums (record { opcode = refl; status = refl; reads = refl }),
    )

pub returns-in-Err-clause-turn : goal.returns-in-Err-clause-turn
returns-in-Err-clause-turn g c =
    let r = c.next_request-request.result in
    let v : c.bytes.result.now ≡ value_of c.args.workload.now = c.bytes.ensures ∙ ap (λ (b : RoomyList). b.items) c.next_request-request.ensures.value in
    let e : command_of r c.bytes.result.now ≡ command_of (request_of c.args.workload.now) (value_of c.args.workload.now) =
    ap (λ (t : List ℕ). command_of r t) v ∙ ap (λ (q : Request). command_of q (value_of c.args.workload.now)) c.next_request-request.ensures.request in
    let T : Command → Type 0 = λ k. StopsGroup (g.B.Nand.state c.args.board.now) (g.B.Nand.state c.serve_grouped.new.board) (g.D.Engine.sight c.args.drive.now) (k ∷ []) in
    subst T e c.in-Err.ensures.stops
