use Rattle.std.proofs.Common.{◌≡◌, sym, ◌∙◌, []}
use Rattle.pk_background.{specs.Spacing.SameMapAll, specs.Spacing.StaysSame, proofs.Halted.fails_running, proofs.Halted.fails_step}
use Rattle.pk_background.proofs.SpaceSteps.{spacing_begin, may_space, most_still, spacing_more, less_spacing, spacing_end, spacing_failed, end_spends, broken_spends, failed_none, failed_stays}
use Rattle.pk_background.proofs.SpaceSteps.{awaits_is, room_is}
use Rattle.pk_parts.proofs.Stopping.{fails_stopped}
use Rattle.pk_background.proofs.space.reclaim_for.Goals as goal

pub reclaims-init : goal.reclaims-init
reclaims-init g c = spacing_begin _ _ _ c.requires.may

pub awaits_space-requires : goal.awaits_space-requires
awaits_space-requires g c = most_still c.requires.may.may.ready c.reclaims.invariant c.requires.some

pub make_space_once-requires-clause-may : goal.make_space_once-requires-clause-may
make_space_once-requires-clause-may g c = may_space c.requires.may.may.ready c.reclaims.invariant c.requires.may

pub make_space_once-requires-clause-some : goal.make_space_once-requires-clause-some
make_space_once-requires-clause-some g c = most_still c.requires.may.may.ready c.reclaims.invariant c.requires.some

pub make_space_once-requires-clause-awaits : goal.make_space_once-requires-clause-awaits
make_space_once-requires-clause-awaits g c = awaits_is c.args.count c.reclaims.parts (sym c.awaits_space.ensures ∙ c.if-not-awaits_space.false)

pub reclaims-preserved : goal.reclaims-preserved
reclaims-preserved g c = spacing_more c.requires.may.may.ready c.reclaims.invariant _ _ c.in-Ok.ensures

pub reclaims-smaller : goal.reclaims-smaller
reclaims-smaller g c = less_spacing c.requires.may.may.ready c.reclaims.invariant _ _ c.in-Ok.ensures

pub returns-then-not-awaits_space-clause-step : goal.returns-then-not-awaits_space-clause-step
returns-then-not-awaits_space-clause-step g c = spacing_end c.requires.may.may.ready c.reclaims.invariant

pub returns-then-not-awaits_space-clause-room : goal.returns-then-not-awaits_space-clause-room
returns-then-not-awaits_space-clause-room g c = room_is c.args.count c.reclaims.parts (sym c.awaits_space.ensures ∙ c.if-not-awaits_space.true)

pub returns-in-Err-clause-step : goal.returns-in-Err-clause-step
returns-in-Err-clause-step g c =
    fails_step c.in-Err.fault c.fail.result c.make_space_once.new.parts c.fail.new.self c.fail.ensures.same c.fail.ensures.rest _ _
    (λ e. SameMapAll c.args.parts.now e (g.B.Nand.state c.args.board.now) (g.B.Nand.state c.make_space_once.new.board)) _ _ _ _ _
    (spacing_failed c.requires.may.may.ready c.reclaims.invariant _ _ _ c.in-Err.ensures)

pub returns-in-Err-clause-none : goal.returns-in-Err-clause-none
returns-in-Err-clause-none g c =
    fails_running c.in-Err.fault c.fail.result c.make_space_once.new.parts c.fail.new.self c.fail.ensures.same c.fail.ensures.rest (λ e. e.log.pending ≡ [])
    (failed_none c.requires.may.may.ready c.reclaims.invariant _ _ _ c.in-Err.ensures)

pub returns-in-Err-clause-stays : goal.returns-in-Err-clause-stays
returns-in-Err-clause-stays g c =
    fails_running c.in-Err.fault c.fail.result c.make_space_once.new.parts c.fail.new.self c.fail.ensures.same c.fail.ensures.rest (λ e. StaysSame c.args.parts.now e)
    (failed_stays c.requires.may.may.ready c.reclaims.invariant _ _ _ c.in-Err.ensures)

pub returns-then-not-awaits_space-clause-spends : goal.returns-then-not-awaits_space-clause-spends
returns-then-not-awaits_space-clause-spends g c = end_spends c.requires.may.may.ready c.reclaims.invariant

pub returns-in-Err-clause-spends : goal.returns-in-Err-clause-spends
returns-in-Err-clause-spends g c = broken_spends c.requires.may.may.ready c.reclaims.invariant _ _ _ c.in-Err.ensures

pub returns-in-Err-clause-stops : goal.returns-in-Err-clause-stops
returns-in-Err-clause-stops g c = fails_stopped c.in-Err.fault c.fail.result c.make_space_once.new.parts c.fail.new.self c.fail.ensures.same c.fail.ensures.rest
