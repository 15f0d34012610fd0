use Rattle.std.proofs.Common.{◌≡◌, sym, ap, ◌∙◌, arith, Ok}
use Rattle.pk_plan.specs.declared.owner.Owner.TheVariants.{Values}
use Rattle.pk_rootfmt.specs.Held.{Held, older_of}
use Rattle.pk_run.specs.Kept.{Kept}
use Rattle.pk_model.proofs.Steps.{Step-says, Step-broken}
use Rattle.pk_compact.proofs.NextRoot.{programs_then}
use Rattle.pk_schedule.{specs.Index.Schedule, specs.Index.index, specs.Index.output}
use Rattle.pk_schedule.proofs.Installed.{IsComplete, IsReported, ready_at, ask_prepare, ask_merge, ask_first, ask_level, ask_deep, made_prepared, first_replaces, deep_replaces, ask_release}
use Rattle.pk_schedule.proofs.Installed.{made_release, merge_breaks, merges_told}
use Rattle.pk_schedule.proofs.schedule.Schedule.install.Goals.{After-blocks-2}
use Rattle.pk_schedule.proofs.schedule.Schedule.install.Given as given
use Rattle.pk_schedule.proofs.schedule.Schedule.install.Goals as goal

-- the merge whose output is complete
merge : (g : given.Over) (c : After-blocks-2 g) → IsComplete (index c.args.log.now c.args.levels.now c.args.arena.now c.args.pool.now c.args.self.now) c.merging-level.result
merge g c = record {
  is = ready_at c.merging-level.result c.args.self.now.phase c.merging-level.ensures c.requires.phase;
  shared = c.known.ensures;
  known = c.known-2.ensures.levels;
}

reported : (g : given.Over) (c : After-blocks-2 g)
    → IsReported (index c.args.log.now c.args.levels.now c.args.arena.now c.args.pool.now c.args.self.now) c.entries-count.result c.blocks-2.result.now
reported g c =
    let out : c.output-output.result.now ≡ output c.args.self.now = c.output-output.ensures ∙ ap (λ (s : Schedule). output s) c.self.view_is in
    record { count_is = c.entries-count.ensures ∙ ap (λ (r : Kept). r.count) out; blocks_are = c.blocks-2.ensures ∙ ap (λ (r : Kept). r.blocks) out }

older_told : (g : given.Over) (c : After-blocks-2 g) → c.older-older.result ≡ older_of c.args.log.now.root.older
older_told g c = c.older-older.ensures ∙ ap (λ (h : Held). older_of h.root.older) c.root.ensures

pub prepare_root-requires-clause-may : goal.prepare_root-requires-clause-may
prepare_root-requires-clause-may g c =
    let k : IsComplete (index c.args.log.now c.args.levels.now c.args.arena.now c.args.pool.now c.args.self.now) c.requires.phase.0 =
    record { is = c.requires.phase.1; shared = c.known.ensures; known = c.known-2.ensures.levels } in
    ask_prepare k (g.B.Nand.state c.args.board.now) c.requires.may

pub returns-then-erases_next-clause-step : goal.returns-then-erases_next-clause-step
returns-then-erases_next-clause-step g c =
    let k : IsComplete (index c.args.log.now c.args.levels.now c.args.arena.now c.args.pool.now c.args.self.now) c.requires.phase.0 =
    record { is = c.requires.phase.1; shared = c.known.ensures; known = c.known-2.ensures.levels } in
    record {
      step = made_prepared k (g.B.Nand.state c.args.board.now) (g.B.Nand.state c.prepare_root.new.board) c.prepare_root.new.self
          (sym c.erases_next.ensures ∙ c.if-erases_next.true) c.prepare_root.result c.prepare_root.ensures.step.step;
      calls = c.prepare_root.ensures.step.calls;
      grows = c.prepare_root.ensures.step.grows;
    }

pub install_merge-requires-clause-programs : goal.install_merge-requires-clause-programs
install_merge-requires-clause-programs g c = programs_then c.args.log.now.next c.requires.may.4.settles.whole (sym c.erases_next.ensures ∙ c.if-erases_next.false)

pub install_merge-requires-clause-may : goal.install_merge-requires-clause-may
install_merge-requires-clause-may g c =
    let b = (goal.at.install_merge-requires-clause-may g c).After-blocks-2 in
    ask_merge (merge g b) (g.B.Nand.state c.args.board.now) (reported g b) c.requires.may

pub end_first-requires : goal.end_first-requires
end_first-requires g c =
    let b = (goal.at.end_first-requires g c).After-blocks-2 in
    record { can = ask_first (merge g b) (g.B.Nand.state c.args.board.now) c.requires.may c.if-level-eq1.true c.older-older.result (older_told g b) }

pub end_deep-requires : goal.end_deep-requires
end_deep-requires g c =
    let b = (goal.at.end_deep-requires g c).After-blocks-2 in
    let old = g.B.Nand.state c.args.board.now in
    let within = ask_level (merge g b) old c.requires.may in
    let low = within.0 in
    record { level = (omega (arith, low, c.if-level-eq1.false), within.1); can = ask_deep (merge g b) old c.requires.may (omega (arith, low, c.if-level-eq1.false)) }

pub release-requires : goal.release-requires
release-requires g c =
    let b = (goal.at.release-requires g c).After-blocks-2 in
    let old = g.B.Nand.state c.args.board.now in
    let new = g.B.Nand.state c.install_merge.new.board in
    let merges = merges_told (merge g b) old (reported g b) c.install_merge.new.self new c.in-Ok.ensures.step.step.ended in
    ask_release (merge g b) old new c.install_merge.new.self merges c.end_first.new.levels c.end_first.new.arena c.end_first.new.pool c.end_first.new.self c.requires.may
    (first_replaces (merge g b) old new c.install_merge.new.self merges c.end_first.new.levels c.end_first.new.arena c.end_first.new.pool c.end_first.new.self
    c.if-level-eq1.true c.older-older.result (older_told g b) c.end_first.ensures.ends)

pub release-requires-else-level-eq1 : goal.release-requires-else-level-eq1
release-requires-else-level-eq1 g c =
    let b = (goal.at.release-requires-else-level-eq1 g c).After-blocks-2 in
    let old = g.B.Nand.state c.args.board.now in
    let new = g.B.Nand.state c.install_merge.new.board in
    let merges = merges_told (merge g b) old (reported g b) c.install_merge.new.self new c.in-Ok.ensures.step.step.ended in
    let low = (ask_level (merge g b) old c.requires.may).0 in
    ask_release (merge g b) old new c.install_merge.new.self merges c.end_deep.new.levels c.end_deep.new.arena c.end_deep.new.pool c.end_deep.new.self c.requires.may
    (deep_replaces (merge g b) old new c.install_merge.new.self merges c.end_deep.new.levels c.end_deep.new.arena c.end_deep.new.pool c.end_deep.new.self
    (omega (arith, low, c.if-level-eq1.false)) c.end_deep.ensures.ends)

pub returns-then-level-eq1-clause-step : goal.returns-then-level-eq1-clause-step
returns-then-level-eq1-clause-step g c =
    let b = (goal.at.returns-then-level-eq1-clause-step g c).After-blocks-2 in
    let old = g.B.Nand.state c.args.board.now in
    let new = g.B.Nand.state c.install_merge.new.board in
    let once = c.in-Ok.ensures.step in
    let merges = merges_told (merge g b) old (reported g b) c.install_merge.new.self new once.step.ended in
    let replaces = first_replaces (merge g b) old new c.install_merge.new.self merges c.end_first.new.levels c.end_first.new.arena c.end_first.new.pool c.end_first.new.self
    c.if-level-eq1.true c.older-older.result (older_told g b) c.end_first.ensures.ends in
    let made = made_release (merge g b) old new c.install_merge.new.self merges c.end_first.new.levels c.end_first.new.arena c.end_first.new.pool c.end_first.new.self
    (programs_then c.args.log.now.next c.requires.may.4.settles.whole (sym c.erases_next.ensures ∙ c.if-erases_next.false)) c.end_first.ensures.rest
    c.release.new.self c.release.new.arena c.release.ensures replaces (c.end_first.ensures.counted Values) in
    record {
      step = Step-says (Ok tt) _ _ _ _ _ 1 1 old new (omega arith) (λ u ended. made) (λ broken. merge_breaks (merge g b) old (reported g b) new broken) once.step;
      calls = once.calls;
      grows = once.grows;
    }

pub returns-else-level-eq1-clause-step : goal.returns-else-level-eq1-clause-step
returns-else-level-eq1-clause-step g c =
    let b = (goal.at.returns-else-level-eq1-clause-step g c).After-blocks-2 in
    let old = g.B.Nand.state c.args.board.now in
    let new = g.B.Nand.state c.install_merge.new.board in
    let once = c.in-Ok.ensures.step in
    let merges = merges_told (merge g b) old (reported g b) c.install_merge.new.self new once.step.ended in
    let low = (ask_level (merge g b) old c.requires.may).0 in
    let replaces = deep_replaces (merge g b) old new c.install_merge.new.self merges c.end_deep.new.levels c.end_deep.new.arena c.end_deep.new.pool c.end_deep.new.self
    (omega (arith, low, c.if-level-eq1.false)) c.end_deep.ensures.ends in
    let made = made_release (merge g b) old new c.install_merge.new.self merges c.end_deep.new.levels c.end_deep.new.arena c.end_deep.new.pool c.end_deep.new.self
    (programs_then c.args.log.now.next c.requires.may.4.settles.whole (sym c.erases_next.ensures ∙ c.if-erases_next.false)) c.end_deep.ensures.rest
    c.release-else-level-eq1.new.self c.release-else-level-eq1.new.arena c.release-else-level-eq1.ensures replaces (c.end_deep.ensures.counted Values) in
    record {
      step = Step-says (Ok tt) _ _ _ _ _ 1 1 old new (omega arith) (λ u ended. made) (λ broken. merge_breaks (merge g b) old (reported g b) new broken) once.step;
      calls = once.calls;
      grows = once.grows;
    }

pub returns-in-Err-clause-step : goal.returns-in-Err-clause-step
returns-in-Err-clause-step g c =
    let b = (goal.at.returns-in-Err-clause-step g c).After-blocks-2 in
    let once = c.in-Err.ensures.step in
    record {
      step = Step-broken c.in-Err.fault _ _ _ _ _ 1 1 (g.B.Nand.state c.args.board.now) (g.B.Nand.state c.install_merge.new.board) (omega arith)
          (merge_breaks (merge g b) (g.B.Nand.state c.args.board.now) (reported g b) (g.B.Nand.state c.install_merge.new.board)) once.step;
      calls = once.calls;
      grows = tt;
    }
