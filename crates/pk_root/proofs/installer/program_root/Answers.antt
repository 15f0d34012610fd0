use Rattle.std.proofs.Common.{refl, arith}
use Rattle.pk_nand.proofs.Writing.{shape_is}
use Rattle.pk_model.specs.Laws.{IsInstall}
use Rattle.pk_root.proofs.Installs.{install, even_room, program_fits, reached_installs, went_installs, went_behind}
use Rattle.pk_root.proofs.installer.program_root.{Given.Over, Goals.After-encode}
use Rattle.pk_root.proofs.installer.program_root.Goals as goal

-- the pair is next for the root
begun : (g : Over) (c : After-encode g) → IsInstall c.args.root.now.shape (g.B.Nand.state c.args.board.now).pages c.requires.fits.0 c.args.page c.encode.new.into c.args.root.now.root
begun g c = install _ (g.B.Nand.state c.args.board.now) _ _ _ _ (rw c.shape.ensures at c.known.ensures) c.requires.ready c.requires.fits.1 c.encode.ensures.again c.requires.fits.2

pub write_first-requires-clause-exists : goal.write_first-requires-clause-exists
write_first-requires-clause-exists g c = (begun g (goal.at.write_first-requires-clause-exists g c).After-encode).exists

pub write_first-requires-clause-even : goal.write_first-requires-clause-even
write_first-requires-clause-even g c = let f = c.requires.fits in rw (shape_is _ _ c.requires.ready) f.1.possible.even

pub write_first-requires-clause-room : goal.write_first-requires-clause-room
write_first-requires-clause-room g c =
    let f = c.requires.fits in
    rw (shape_is _ _ c.requires.ready) (even_room c.args.root.now.shape c.args.page (rw c.shape.ensures at c.known.ensures) f.1.possible.even)

pub write_first-requires-clause-order : goal.write_first-requires-clause-order
write_first-requires-clause-order g c = let f = c.requires.fits in rw (shape_is _ _ c.requires.ready) f.1.possible.order

pub returns-in-Ok-clause-installs : goal.returns-in-Ok-clause-installs
returns-in-Ok-clause-installs g c =
    let h = begun g (goal.at.returns-in-Ok-clause-installs g c).After-encode in
    let order = rw (shape_is _ _ c.requires.ready) at c.in-Ok.ensures.order in
    record {
      page = c.args.page;
      was = refl;
      program = rw c.encode.ensures.bytes at c.in-Ok.ensures.ok;
      then_next = refl;
      fits = program_fits (g.B.Nand.state c.args.board.now) _ h c.in-Ok.ensures.ok c.encode.ensures.bytes c.in-Ok.ensures.cut c.in-Ok.ensures.written order;
      cuts = reached_installs c.root.ensures.pair h _ _ c.in-Ok.ensures.cuts;
    }

pub returns-in-Ok-clause-behind : goal.returns-in-Ok-clause-behind
returns-in-Ok-clause-behind g c =
    let below = c.requires.fits.1.possible.in_root_blocks in
    λ k high. c.in-Ok.ensures.cut.outside.above k (omega (arith, high, below))

pub returns-in-Err-clause-failed : goal.returns-in-Err-clause-failed
returns-in-Err-clause-failed g c =
    let h = begun g (goal.at.returns-in-Err-clause-failed g c).After-encode in
    let failed = rw c.encode.ensures.bytes at c.in-Err.ensures.err in
    record { page = c.args.page; was = refl; failed = failed; cuts = went_installs c.root.ensures.pair h _ _ c.in-Err.ensures.cuts_err }

pub returns-in-Err-clause-behind : goal.returns-in-Err-clause-behind
returns-in-Err-clause-behind g c =
    let below = c.requires.fits.1.possible.in_root_blocks in
    went_behind c.args.root.now.shape c.args.page c.encode.new.into (g.B.Nand.state c.args.board.now) (g.B.Nand.state c.write_first.new.board) below c.in-Err.ensures.cuts_err

pub returns-in-Ok-clause-ready : goal.returns-in-Ok-clause-ready
returns-in-Ok-clause-ready g c = c.in-Ok.ensures.ready _ c.requires.ready

pub returns-in-Err-clause-ready : goal.returns-in-Err-clause-ready
returns-in-Err-clause-ready g c = c.in-Err.ensures.ready _ c.requires.ready
