use Rattle.std.proofs.Common.{sym, refl, ◌∙◌}
use Rattle.pk_base.proofs.Logic.{not_both}
use Rattle.pk_background.proofs.Halted.{fails_half}
use Rattle.pk_parts.proofs.Stopping.{fails_stopped}
use Rattle.pk_background.proofs.pair.make_whole.Goals as goal

pub finish_half-requires : goal.finish_half-requires
finish_half-requires g c = record { may = record { ready = c.requires.may.ready; stands = c.requires.may.stands; half = sym c.is_half.ensures ∙ c.if-is_half.true } }

pub returns-in-Ok-clause-rests : goal.returns-in-Ok-clause-rests
returns-in-Ok-clause-rests g c = λ none. absurd (not_both _ (sym c.is_half.ensures ∙ c.if-is_half.true) none)

pub returns-in-Err-clause-finishes : goal.returns-in-Err-clause-finishes
returns-in-Err-clause-finishes g c = λ half.
    fails_half c.in-Err.fault c.fail.result c.finish_half.new.parts c.fail.new.self c.fail.ensures.same c.fail.ensures.rest c.args.parts.now
    (g.B.Nand.state c.args.board.now) (g.B.Nand.state c.finish_half.new.board) c.in-Err.ensures

pub returns-in-Err-clause-rests : goal.returns-in-Err-clause-rests
returns-in-Err-clause-rests g c = λ none. absurd (not_both _ (sym c.is_half.ensures ∙ c.if-is_half.true) none)

pub returns-in-Err-clause-stops : goal.returns-in-Err-clause-stops
returns-in-Err-clause-stops g c = fails_stopped c.in-Err.fault c.fail.result c.finish_half.new.parts c.fail.new.self c.fail.ensures.same c.fail.ensures.rest

pub returns-else-is_half-clause-finishes : goal.returns-else-is_half-clause-finishes
returns-else-is_half-clause-finishes g c = λ half. absurd (not_both _ half (sym c.is_half.ensures ∙ c.if-is_half.false))

pub returns-else-is_half-clause-rests : goal.returns-else-is_half-clause-rests
returns-else-is_half-clause-rests g c = λ none. (refl, refl, refl)
