use Rattle.std.{proofs.Common.◌≡◌, proofs.Common.◌∙◌, proofs.Common.◌*◌, proofs.Common.ℕ, proofs.Common.sym, proofs.Common.ap, proofs.Common.subst, proofs.Common.Err, specs.Prelude.slice_index}
use Rattle.pk_base.{specs.Shape.Shape, specs.Page.page_at, specs.Refusal.damaged}
use Rattle.pk_model.specs.Found.{older_epoch}
use Rattle.pk_jrn.specs.Epochs.{AllExist}
use Rattle.pk_scan.{proofs.RootFacts.older_exist, proofs.Boards.stays_reads, proofs.Exact.older_exact, proofs.Exact.none_exact, proofs.EpochsHeld.older_not_named, proofs.EpochsHeld.older_without}
use Rattle.pk_scan.proofs.epochs.read_older.Goals as goal

pub replay_in-requires-clause-blocks : goal.replay_in-requires-clause-blocks
replay_in-requires-clause-blocks g c =
    subst (λ (s : Shape). AllExist s c.in-Some.pair) (sym c.shape.ensures)
    (older_exist c.args.root.now.shape c.args.root.now.root c.requires.grammar c.in-Some.pair (sym c.in-Some.is ∙ c.older.ensures))

pub returns-in-None-clause-held : goal.returns-in-None-clause-held
returns-in-None-clause-held g c =
    older_not_named c.args.root.now.shape (g.B.Nand.state c.args.board.now).pages c.args.root.now.root c.args.into.now (sym c.in-None.is ∙ c.older.ensures) c.requires.empty

pub returns-then-len-eq0-clause-err : goal.returns-then-len-eq0-clause-err
returns-then-len-eq0-clause-err g c =
    let size : c.block_pages.result ≡ c.args.root.now.shape.block_pages = c.block_pages.ensures.value ∙ ap (λ (s : Shape). s.block_pages) c.shape.ensures in
    let refused = subst (λ (n : ℕ). older_epoch c.args.root.now.shape (page_at (g.B.Nand.state c.args.board.now).pages) c.args.root.now.root ≡ Err (damaged (slice_index c.in-Some.pair 0 * n)))
    (sym size)
    (older_without c.args.root.now.shape (g.B.Nand.state c.args.board.now).pages c.args.root.now.root c.in-Some.pair
    (sym c.in-Some.is ∙ c.older.ensures) c.in-Ok.field-0 c.replay_in.new.into (rw (c.shape.ensures, c.epoch.ensures, c.spaces_under-spaces.ensures) at c.in-Ok.ensures.replayed)
    (sym c.len.ensures.len ∙ c.if-len-eq0.true)) in
    (refused, (_, c.in-Ok.ensures.reads))

pub returns-in-None-clause-reads : goal.returns-in-None-clause-reads
returns-in-None-clause-reads g c =
    none_exact c.args.root.now.shape (g.B.Nand.state c.args.board.now).pages c.args.root.now.root (sym c.in-None.is ∙ c.older.ensures) (g.B.Nand.state c.args.board.now)

pub returns-then-len-eq0-clause-board : goal.returns-then-len-eq0-clause-board
returns-then-len-eq0-clause-board g c = stays_reads c.args.root.now.shape _ _ (_, c.in-Ok.ensures.reads) c.requires.ready

pub returns-else-len-eq0-clause-reads : goal.returns-else-len-eq0-clause-reads
returns-else-len-eq0-clause-reads g c =
    older_exact c.args.root.now.shape (g.B.Nand.state c.args.board.now).pages c.args.root.now.root c.in-Some.pair
    (g.B.Nand.state c.args.board.now) (g.B.Nand.state c.replay_in.new.board) (rw c.shape.ensures at c.in-Ok.ensures.reads) (sym c.in-Some.is ∙ c.older.ensures)
