use Rattle.std.proofs.Common.{ap, arith}
use Rattle.pk_parts.proofs.Walks.{left_from, few_kept, few_of_four, few_of_caps, few_of_levels}
use Rattle.pk_parts.proofs.parts.Parts.start_keys.Goals as goal

pub returns-clause-left : goal.returns-clause-left
returns-clause-left g c flash ess stand =
    let d = c.args.self.now in
    left_from c.start.new.self c.args.from.now flash d.arena d.levels.runs d.log.active.entries d.log.frozen.entries ess (ap (λ w. w.position) c.start.ensures.walk_begun)
    (c.start.ensures.left flash d.arena d.levels.runs d.log.active.entries d.log.frozen.entries ess stand)

pub returns-clause-few : goal.returns-clause-few
returns-clause-few g c =
    let few = few_of_four c.self.inside.levels.runs _ _ _ _ 1000000 c.known.ensures.levels.four
    (few_kept c.run.result.now _ c.run.ensures.run c.known-2.ensures.kept) (few_kept c.run-2.result.now _ c.run-2.ensures.run c.known-3.ensures.kept)
    (few_kept c.run-3.result.now _ c.run-3.ensures.run c.known-4.ensures.kept) (few_kept c.run-4.result.now _ c.run-4.ensures.run c.known-5.ensures.kept) in
    rw (← c.self.view_is) (omega (arith, few))

pub returns-clause-within : goal.returns-clause-within
returns-clause-within g c =
    let its = c.known.ensures.levels in
    rw (← c.self.view_is) (few_of_levels c.self.inside.levels.shape c.self.inside.levels.pinned c.self.inside.levels.runs _ _ _ _ its.four its.each
    (few_of_caps c.run.result.now _ c.run.ensures.run c.known-2.ensures.kept) (few_of_caps c.run-2.result.now _ c.run-2.ensures.run c.known-3.ensures.kept)
    (few_of_caps c.run-3.result.now _ c.run-3.ensures.run c.known-4.ensures.kept) (few_of_caps c.run-4.result.now _ c.run-4.ensures.run c.known-5.ensures.kept))
