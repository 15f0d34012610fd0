use Rattle.std.proofs.Common.{refl, arith}
use Rattle.pk_base.{specs.Page.Flash, specs.Page.SameBehind}
use Rattle.pk_nand.{specs.Pairs.IsPairCut, proofs.Writing.shape_is}
use Rattle.pk_rootfmt.specs.Root.{root_bytes}
use Rattle.pk_root.{specs.Installing.before_pair, proofs.Installs.again_exists, proofs.Installs.again_start, proofs.Installs.again_fits, proofs.Installs.again_behind}
use Rattle.pk_root.proofs.Installs.{reached_installs, went_installs, went_left}
use Rattle.pk_root.proofs.installer.repeat_root.{Given.Over, Goals.After-encode}
use Rattle.pk_root.proofs.installer.repeat_root.Goals as goal

-- the pair as it is
start : (g : Over) (c : After-encode g)
    → IsPairCut c.args.page (root_bytes c.args.root.now.shape c.args.root.now.root) (before_pair (g.B.Nand.state c.args.board.now).pages c.args.page) (g.B.Nand.state c.args.board.now).pages
start g c = again_start _ (g.B.Nand.state c.args.board.now) _ _ _ (rw c.shape.ensures at c.known.ensures) c.requires.fits.1

-- a cut of the pair has the same pages after the root blocks
behind : (g : Over) (c : After-encode g) (f : Flash)
    → IsPairCut c.args.page (root_bytes c.args.root.now.shape c.args.root.now.root) (before_pair (g.B.Nand.state c.args.board.now).pages c.args.page) f
    → SameBehind c.args.root.now.shape (g.B.Nand.state c.args.board.now).pages f
behind g c = again_behind _ (g.B.Nand.state c.args.board.now) _ _ _ (rw c.shape.ensures at c.known.ensures) c.requires.fits.1

pub write_second-requires-clause-number : goal.write_second-requires-clause-number
write_second-requires-clause-number g c =
    let below = c.requires.fits.1.possible.install.in_root_blocks in
    let most = (rw c.shape.ensures at c.known.ensures).block_most in
    omega (arith, below, most)

pub write_second-requires-clause-exists : goal.write_second-requires-clause-exists
write_second-requires-clause-exists g c = again_exists _ (g.B.Nand.state c.args.board.now) _ _ _ (rw c.shape.ensures at c.known.ensures) c.requires.fits.1

pub write_second-requires-clause-even : goal.write_second-requires-clause-even
write_second-requires-clause-even g c = let f = c.requires.fits in rw (shape_is _ _ c.requires.ready) f.1.possible.install.even

pub write_second-requires-clause-order : goal.write_second-requires-clause-order
write_second-requires-clause-order g c = let f = c.requires.fits in rw (shape_is _ _ c.requires.ready) f.1.possible.order

pub returns-in-Ok-clause-repeats : goal.returns-in-Ok-clause-repeats
returns-in-Ok-clause-repeats g c =
    let f = c.requires.fits in
    let here = start g (goal.at.returns-in-Ok-clause-repeats g c).After-encode in
    let made = rw c.encode.ensures.bytes at c.in-Ok.ensures.ok in
    let cut = rw c.encode.ensures.bytes at c.in-Ok.ensures.cut in
    let cuts = rw c.encode.ensures.bytes at c.in-Ok.ensures.cuts in
    record {
      page = c.args.page;
      was = refl;
      program = made;
      then_next = refl;
      fits = again_fits _ (g.B.Nand.state c.args.board.now) _ _ _ (rw c.shape.ensures at c.known.ensures) f.1 _ made (cut _ here);
      cuts = reached_installs c.root.ensures.pair f.1.possible.install _ _ (cuts _ here);
    }

pub returns-in-Ok-clause-behind : goal.returns-in-Ok-clause-behind
returns-in-Ok-clause-behind g c =
    let at = (goal.at.returns-in-Ok-clause-behind g c).After-encode in
    let cut = rw c.encode.ensures.bytes at c.in-Ok.ensures.cut in
    behind g at _ (cut _ (start g at))

pub returns-in-Err-clause-failed : goal.returns-in-Err-clause-failed
returns-in-Err-clause-failed g c =
    let here = start g (goal.at.returns-in-Err-clause-failed g c).After-encode in
    let failed = rw c.encode.ensures.bytes at c.in-Err.ensures.err in
    let cuts = rw c.encode.ensures.bytes at c.in-Err.ensures.cuts_err in
    record { page = c.args.page; was = refl; failed = failed; cuts = went_installs c.root.ensures.pair c.requires.fits.1.possible.install _ _ (cuts _ here) }

pub returns-in-Err-clause-behind : goal.returns-in-Err-clause-behind
returns-in-Err-clause-behind g c =
    let at = (goal.at.returns-in-Err-clause-behind g c).After-encode in
    let cuts = rw c.encode.ensures.bytes at c.in-Err.ensures.cuts_err in
    behind g at _ (went_left _ _ _ (cuts _ (start g at)))

pub returns-in-Ok-clause-ready : goal.returns-in-Ok-clause-ready
returns-in-Ok-clause-ready g c = c.in-Ok.ensures.ready _ c.requires.ready

pub returns-in-Err-clause-ready : goal.returns-in-Err-clause-ready
returns-in-Err-clause-ready g c = c.in-Err.ensures.ready _ c.requires.ready
