use Rattle.std.proofs.Common.{◌-◌, refl, rules}
use Rattle.pk_base.{specs.Page.Flash, specs.Seen.entries as seen_all}
use Rattle.pk_nand.proofs.Writing.{shape_is}
use Rattle.pk_jrn.{specs.contracts.epoch.Epoch.the_view, specs.Epochs.before_half, specs.Appends.IsHalfMade, specs.Appends.last_bytes, proofs.Appending.NextCommit, proofs.Appending.commit_reached}
use Rattle.pk_jrn.{proofs.Appending.commit_went, proofs.Halving.again_commit, proofs.Halving.again_in_order, proofs.Halving.Ends-list, proofs.Halving.Ends-fits}
use Rattle.pk_jrn.proofs.epoch.Epoch.finish.{Given.Over, Goals.After-encode}
use Rattle.pk_jrn.proofs.epoch.Epoch.finish.Goals as goal

-- the commit before its first program
again : (g : Over) (c : After-encode g) (former : Flash) → IsHalfMade (the_view c.self.inside) (seen_all c.args.entries.now) former (g.B.Nand.state c.args.board.now).pages
    → NextCommit (before_half (the_view c.self.inside)) former (seen_all c.args.entries.now) (last_bytes (the_view c.self.inside) (seen_all c.args.entries.now))
again g c former half =
    let r = rw (← c.self.view_is) at c.requires in
    again_commit (the_view c.self.inside) former _ c.args.entries.now c.known.ensures (search rules) r.some r.most r.each r.blocks.different half

pub write_second-requires-clause-order : goal.write_second-requires-clause-order
write_second-requires-clause-order g c =
    let r = rw (← c.self.view_is) at c.requires in
    rw (shape_is _ _ r.ready, c.commit_page-page.ensures.page)
    (again_in_order (g.B.Nand.state c.args.board.now) r.half.1 (again g (goal.at.write_second-requires-clause-order g c).After-encode r.half.0 r.half.1))

pub returns-in-Ok-clause-ends : goal.returns-in-Ok-clause-ends
returns-in-Ok-clause-ends g c =
    let r = rw (← c.self.view_is) at c.requires in
    let board = g.B.Nand.state c.args.board.now in
    let new = g.B.Nand.state c.write_second.new.board in
    let before = again g (goal.at.returns-in-Ok-clause-ends g c).After-encode in
    let ok = rw (c.commit_page-page.ensures.page, c.encode.ensures) at c.in-Ok.ensures in
    rw (← c.self.view_is) (record {
      epoch_is = refl;
      program = ok.ok;
      fits = Ends-fits board r.half.1 (before r.half.0 r.half.1) new ok.ok (ok.cut r.half.0 r.half.1.cut) ok.written;
      list = λ former half. Ends-list board half (before former half) new ok.ok (ok.cut former half.cut);
      cuts = λ former half. commit_reached (before former half) board new (ok.cuts former half.cut);
    })

pub returns-in-Err-clause-failed : goal.returns-in-Err-clause-failed
returns-in-Err-clause-failed g c =
    let before = again g (goal.at.returns-in-Err-clause-failed g c).After-encode in
    let err = rw (c.commit_page-page.ensures.page, c.encode.ensures) at c.in-Err.ensures in
    rw (← c.self.view_is) (record { failed = err.err; cuts = λ former half. commit_went (before former half) _ _ (err.cuts_err former half.cut) })

pub returns-in-Err-clause-ready : goal.returns-in-Err-clause-ready
returns-in-Err-clause-ready g c = c.in-Err.ensures.ready c.args.self.now.shape c.requires.ready
