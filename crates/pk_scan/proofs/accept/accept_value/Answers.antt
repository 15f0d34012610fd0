use Rattle.pk_scan.{specs.Used.held_limits, specs.Adopts.owned_blocks, proofs.Accepting.accepted, proofs.Accepting.refused_untaken, proofs.Accepting.refused_value}
use Rattle.std.proofs.Common.{sym, ◌∙◌}
use Rattle.pk_scan.proofs.accept.accept_value.Goals as goal

pub returns-then-not-take_value-clause-err : goal.returns-then-not-take_value-clause-err
returns-then-not-take_value-clause-err g c taken lives uses =
    refused_untaken c.args.shape.now (held_limits c.args.named.now.root.now) (owned_blocks c.args.named.now.pool.now) taken c.args.key.now c.args.place (g.B.Nand.state c.args.board.now)
    (sym c.if-not-take_value.true ∙ c.take_value.ensures.fits taken lives uses)

pub returns-in-Ok-clause-accepted : goal.returns-in-Ok-clause-accepted
returns-in-Ok-clause-accepted g c taken lives uses =
    accepted c.args.shape.now (held_limits c.args.named.now.root.now) (owned_blocks c.args.named.now.pool.now) taken c.args.key.now c.args.place (g.B.Nand.state c.args.board.now).pages
    (sym (c.take_value.ensures.fits taken lives uses) ∙ c.if-not-take_value.false) c.in-Ok.ensures.value

pub returns-in-Err-clause-err : goal.returns-in-Err-clause-err
returns-in-Err-clause-err g c taken lives uses =
    refused_value c.args.shape.now (held_limits c.args.named.now.root.now) (owned_blocks c.args.named.now.pool.now) taken c.args.key.now c.args.place
    (g.B.Nand.state c.args.board.now) (g.B.Nand.state c.check_value.new.board) c.in-Err.error
    (sym (c.take_value.ensures.fits taken lives uses) ∙ c.if-not-take_value.false) c.in-Err.ensures.err

pub returns-in-Ok-clause-used : goal.returns-in-Ok-clause-used
returns-in-Ok-clause-used g c taken uses = c.take_value.ensures.used c.if-not-take_value.false taken uses
