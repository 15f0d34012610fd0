use Rattle.std.proofs.Common.{ap, sym, ◌∙◌}
use Rattle.pk_root.specs.Installing.{repeats_next}
use Rattle.pk_parts.{specs.Parts.Parts, proofs.Halves.commit_half}
use Rattle.pk_background.proofs.Pairs.{root_finishes, commit_finishes}
use Rattle.pk_background.proofs.pair.finish_half.Goals as goal

pub finish_root-requires-clause-may : goal.finish_root-requires-clause-may
finish_root-requires-clause-may g c = record { ready = c.requires.may.ready; stands = c.requires.may.stands }

pub finish_root-requires-clause-half : goal.finish_root-requires-clause-half
finish_root-requires-clause-half g c = ap (λ (d : Parts). repeats_next d.log.next) (sym c.parts.view_is) ∙ (sym c.repeats_next.ensures ∙ c.if-repeats_next.true)

pub returns-then-repeats_next : goal.returns-then-repeats_next
returns-then-repeats_next g c = root_finishes _ _ _ _ c.finish_root.result c.finish_root.ensures

pub finish_commit-requires-clause-may : goal.finish_commit-requires-clause-may
finish_commit-requires-clause-may g c = record { ready = c.requires.may.ready; stands = c.requires.may.stands }

pub finish_commit-requires-clause-half : goal.finish_commit-requires-clause-half
finish_commit-requires-clause-half g c =
    commit_half c.args.parts.now c.requires.may.half (ap (λ (d : Parts). repeats_next d.log.next) (sym c.parts.view_is) ∙ (sym c.repeats_next.ensures ∙ c.if-repeats_next.false))

pub returns-else-repeats_next : goal.returns-else-repeats_next
returns-else-repeats_next g c =
    commit_finishes c.args.parts.now c.finish_commit.new.parts (g.B.Nand.state c.args.board.now) (g.B.Nand.state c.finish_commit.new.board) c.finish_commit.result c.finish_commit.ensures
