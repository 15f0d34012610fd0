use Rattle.std.proofs.Common.{sym, subst}
use Rattle.pk_base.specs.Shape.{Shape}
use Rattle.pk_jrn.specs.Epochs.{JournalEpoch, AllExist}
use Rattle.pk_scan.{specs.OpeningParts.NewestHeld, proofs.RootFacts.newest_two, proofs.RootFacts.newest_exist, proofs.EpochsHeld.newest_held, proofs.Exact.newest_exact}
use Rattle.pk_scan.proofs.epochs.read_newest.Goals as goal

pub replay_in-requires-clause-blocks : goal.replay_in-requires-clause-blocks
replay_in-requires-clause-blocks g c =
    subst (λ (s : Shape). AllExist s c.newest-blocks.result) (sym c.shape.ensures)
    (newest_exist c.args.root.now.shape c.args.root.now.root c.requires.grammar c.newest-blocks.result c.newest-blocks.ensures)

pub returns-in-Ok-clause-held : goal.returns-in-Ok-clause-held
returns-in-Ok-clause-held g c =
    subst (λ (e : JournalEpoch). NewestHeld c.args.root.now.shape (g.B.Nand.state c.args.board.now).pages c.args.root.now.root c.replay_in.new.into e)
    (sym (rw (c.shape.ensures, c.epoch-number.ensures) at c.found.ensures))
    (newest_held c.args.root.now.shape (g.B.Nand.state c.args.board.now).pages c.args.root.now.root c.newest-blocks.result c.in-Ok.used c.replay_in.new.into
    (newest_two c.args.root.now.shape c.args.root.now.root c.requires.grammar) c.newest-blocks.ensures
    (rw (c.shape.ensures, c.epoch-number.ensures, c.spaces_under-spaces.ensures) at c.in-Ok.ensures.replayed) (rw (c.shape.ensures, c.epoch-number.ensures) at c.in-Ok.ensures.fits))

pub returns-in-Ok-clause-reads : goal.returns-in-Ok-clause-reads
returns-in-Ok-clause-reads g c =
    newest_exact c.args.root.now.shape (g.B.Nand.state c.args.board.now).pages c.args.root.now.root c.newest-blocks.result
    (g.B.Nand.state c.args.board.now) (g.B.Nand.state c.replay_in.new.board) (rw c.shape.ensures at c.in-Ok.ensures.reads) c.newest-blocks.ensures
    (newest_two c.args.root.now.shape c.args.root.now.root c.requires.grammar)
