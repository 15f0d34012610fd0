use Rattle.std.proofs.Common.{◌≡◌, ◌∙◌, ap, arith, subst, sym}
use Rattle.pk_run.specs.Kept.{is_pinned}
use Rattle.pk_level.{specs.Levels.IsLevels, specs.Levels.run_of, specs.Arenas.last_level}
use Rattle.pk_parts.specs.Parts.{Parts, frames_of}
use Rattle.pk_background.proofs.Filling.{all_filled, one_unfilled, pinned_next}
use Rattle.pk_background.proofs.fill.lacks_frames.Goals as goal

pub returns-then-not-is_pinned : goal.returns-then-not-is_pinned
returns-then-not-is_pinned g c =
    let levels = subst (λ (d : Parts). IsLevels d.levels) c.parts.view_is c.known.ensures.levels in
    let same = subst (λ (d : Parts). c.last_level-last.result ≡ last_level d.levels (frames_of d)) c.parts.view_is
    (c.last_level-last.ensures.value ∙ ap (last_level c.parts.inside.levels) c.frames.ensures.states) in
    let run = subst (λ (d : Parts). c.run.result.now ≡ run_of d.levels c.loop-level.level) c.parts.view_is c.run.ensures.run in
    sym (one_unfilled c.args.parts.now c.last_level-last.result c.loop-level.level same levels c.loop-level.invariant.least (omega (arith, c.loop-level-test.true)) c.last_level-last.ensures.most
    (ap is_pinned (sym run) ∙ (sym c.is_pinned.ensures ∙ c.if-not-is_pinned.true)))

pub loop-level-preserved : goal.loop-level-preserved
loop-level-preserved g c =
    let levels = subst (λ (d : Parts). IsLevels d.levels) c.parts.view_is c.known.ensures.levels in
    let run = subst (λ (d : Parts). c.run.result.now ≡ run_of d.levels c.loop-level.level) c.parts.view_is c.run.ensures.run in
    record {
      least = omega (arith, c.loop-level.invariant.least);
      below = pinned_next c.args.parts.now.levels c.loop-level.level levels c.loop-level.invariant.least
          (omega (arith, c.loop-level-test.true, c.last_level-last.ensures.most)) (ap is_pinned (sym run) ∙ (sym c.is_pinned.ensures ∙ c.if-not-is_pinned.false)) c.loop-level.invariant.below;
    }

pub returns : goal.returns
returns g c =
    let same = subst (λ (d : Parts). c.last_level-last.result ≡ last_level d.levels (frames_of d)) c.parts.view_is
    (c.last_level-last.ensures.value ∙ ap (last_level c.parts.inside.levels) c.frames.ensures.states) in
    sym (all_filled c.args.parts.now c.last_level-last.result same (λ i less. c.loop-level.invariant.below i (omega (arith, less, c.loop-level-test.false))))
