use Rattle.std.proofs.Common.{◌≡◌, ◌∙◌, ℕ, sym, ap, subst, arith, Option, Some, None, true, false, List, length}
use Rattle.std.specs.Prelude.{IsSome}
use Rattle.pk_base.specs.Shape.{Shape}
use Rattle.pk_nvme.specs.Seen.{command_of}
use Rattle.pk_model.{specs.Answer.early, specs.Spaces.limits_at}
use Rattle.pk_core.{proofs.Early.told_shape, proofs.engine.DriveEngine.exec.Given.Over}
use Rattle.pk_core.proofs.Recording.{HasEnded, AnswersBy, refused_ends, refused_answers, leaves_drive, answers_command, counts_calls, settles_background, shows_itself, waits_for_nothing}
use Rattle.pk_core.proofs.engine.DriveEngine.exec.Goals as goal
use Rattle.pk_parts.{specs.Parts.drive_limits, proofs.OwnLimits.limits_on}

-- ---- a command that is refused

is_refused : (g : Over) (c : goal.After-refusal g)
    → early (length (drive_limits c.self.inside.parts)) c.self.inside.parts.log.shape (command_of c.args.request.now c.args.value.now) ≡ Some c.in-Some.status
is_refused g c =
    (λ i. early (sym c.spaces.ensures.value i) (sym c.shape.ensures i) (command_of c.args.request.now c.args.value.now)) ∙ sym (c.early_fault.ensures c.args.value.now) ∙ c.in-Some.is

refused : (g : Over) (c : goal.After-refusal g)
    → HasEnded c.self.inside.parts c.self.inside.parts (g.B.Nand.state c.args.board.now) (g.B.Nand.state c.args.board.now) c.args.request.now c.args.value.now c.refusal.result c.args.into.now
refused g c =
    let may = rw (← c.self.view_is) at c.requires.serves in
    let few = c.read_count.ensures.value in
    refused_ends c.self.inside.parts (g.B.Nand.state c.args.board.now) c.args.request.now c.args.value.now c.refusal.result c.args.into.now c.in-Some.status
    may.serves.running.agrees may.serves.running.runs c.known.ensures c.read_count.ensures.flash_faults (omega (arith, few)) (is_refused g c) c.refusal.ensures

pub returns-in-Some : goal.returns-in-Some
returns-in-Some g c = rw (← c.self.view_is) (
    let h = refused g c in
    record {
      leaves = leaves_drive h;
      answers = answers_command h
          (refused_answers c.self.inside.parts (g.B.Nand.state c.args.board.now) c.args.request.now c.args.value.now c.refusal.result c.args.into.now
          c.in-Some.status (is_refused g c) c.refusal.ensures);
      cuts_stopped = h.executes.does.cuts_stopped;
      counts = counts_calls h;
      settles = settles_background h;
      shows = shows_itself h;
      quiet = waits_for_nothing h;
    })

-- ---- a command that is performed

ended : (g : Over) (c : goal.After-known-in-None g)
    → HasEnded c.self.inside.parts c.perform-outcome.new.parts (g.B.Nand.state c.args.board.now) (g.B.Nand.state c.perform-outcome.new.board)
    c.args.request.now c.args.value.now c.perform-outcome.result c.perform-outcome.new.into
ended g c = record {
  agreed = (rw (← c.self.view_is) at c.requires.serves).serves.running.agrees;
  executes = c.perform-outcome.ensures.executes;
  performs = c.perform-outcome.ensures.performs;
  keeps = c.known-in-None.ensures;
  counted = c.read_count.ensures.flash_faults;
}

answered : (g : Over) (c : goal.After-known-in-None g)
    → AnswersBy c.self.inside.parts c.perform-outcome.new.parts (g.B.Nand.state c.args.board.now) (g.B.Nand.state c.perform-outcome.new.board)
    c.args.request.now c.args.value.now c.perform-outcome.result c.args.into.now c.perform-outcome.new.into
answered g c =
    let e = c.perform-outcome.ensures in
    record {
      refused = λ some.
          let agrees = (rw (← c.self.view_is) at c.requires.serves).serves.running.agrees.0 in
          let checks : ℕ → Shape → Option ℕ = λ n s. early n s (command_of c.args.request.now c.args.value.now) in
          let d = c.self.inside.parts in
          let none : checks (length (drive_limits d)) d.log.shape ≡ None =
          (λ i. checks (sym c.spaces.ensures.value i) (sym c.shape.ensures i)) ∙ sym (c.early_fault.ensures c.args.value.now) ∙ c.in-None.is in
          let board = g.B.Nand.state c.args.board.now in
          let shape_is = told_shape d board agrees in
          let here = (λ i. checks (length (limits_at (shape_is i) board.pages)) (shape_is i)) ∙ ap (λ (limits : List ℕ). checks (length limits) d.log.shape) (limits_on d board.shape board.pages agrees) ∙ none in
          let never : false ≡ true = subst IsSome here some in
          cc;
      fine = λ is. let r = e.report is in (r.fine, r.rests);
      bytes = λ is _. (e.report is).bytes;
      fits = e.fits;
      same = e.len;
    }

pub returns-in-None : goal.returns-in-None
returns-in-None g c = rw (← c.self.view_is) (
    let h = ended g c in
    record {
      leaves = leaves_drive h;
      answers = answers_command h (answered g c);
      cuts_stopped = h.executes.does.cuts_stopped;
      counts = counts_calls h;
      settles = settles_background h;
      shows = shows_itself h;
      quiet = waits_for_nothing h;
    })
