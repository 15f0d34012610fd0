use Rattle.std.proofs.Common.{◌-◌, arith, rules}
use Rattle.pk_base.specs.Seen.{entries as seen_all}
use Rattle.pk_nand.proofs.Writing.{shape_is}
use Rattle.pk_jrn.{specs.contracts.epoch.Epoch.the_view, specs.Appends.next_bytes, proofs.Places.InOrder-next_page, proofs.Halving.Begun}
use Rattle.pk_jrn.proofs.Appending.{NextCommit, takes_more, commit_left, next_commit, commit_went}
use Rattle.pk_jrn.proofs.epoch.Epoch.begin.{Given.Over, Goals.After-encode}
use Rattle.pk_jrn.proofs.epoch.Epoch.begin.Goals as goal

pub write_first-requires-clause-exists : goal.write_first-requires-clause-exists
write_first-requires-clause-exists g c =
    let r = rw (← c.self.view_is) at c.requires in
    let inside = c.commit_page-page.ensures.exists r.blocks.exist in
    let size = r.ready.flash.size in
    omega (arith, inside, size)

pub write_first-requires-clause-order : goal.write_first-requires-clause-order
write_first-requires-clause-order g c =
    let r = rw (← c.self.view_is) at c.requires in
    rw (shape_is _ _ r.ready, c.commit_page-page.ensures.page)
    (InOrder-next_page (the_view c.self.inside) _ (takes_more (the_view c.self.inside) r.left) r.whole (commit_left (the_view c.self.inside) r.left) r.fits)

-- the commit that is programmed
next : (g : Over) (c : After-encode g)
    → NextCommit (the_view c.self.inside) (g.B.Nand.state c.args.board.now).pages (seen_all c.args.entries.now) (next_bytes (the_view c.self.inside) (seen_all c.args.entries.now))
next g c =
    let r = rw (← c.self.view_is) at c.requires in
    next_commit (the_view c.self.inside) _ c.args.entries.now c.known.ensures (search rules) r.left r.whole r.some r.most r.each r.fits r.blocks.different

pub returns-in-Ok-clause-begins : goal.returns-in-Ok-clause-begins
returns-in-Ok-clause-begins g c =
    let ok = rw (c.commit_page-page.ensures.page, c.encode.ensures) at c.in-Ok.ensures in
    rw (← c.self.view_is) (Begun _ (next g (goal.at.returns-in-Ok-clause-begins g c).After-encode) _ ok.ok ok.cut ok.written ok.cuts)

pub returns-in-Ok-clause-ready : goal.returns-in-Ok-clause-ready
returns-in-Ok-clause-ready g c = c.in-Ok.ensures.ready c.args.self.now.shape c.requires.ready

pub returns-in-Err-clause-failed : goal.returns-in-Err-clause-failed
returns-in-Err-clause-failed g c =
    let h = next g (goal.at.returns-in-Err-clause-failed g c).After-encode in
    let err = rw (c.commit_page-page.ensures.page, c.encode.ensures) at c.in-Err.ensures in
    rw (← c.self.view_is) (record { failed = err.err; spells = h.spells; cuts = commit_went h _ _ err.cuts_err })

pub returns-in-Err-clause-ready : goal.returns-in-Err-clause-ready
returns-in-Err-clause-ready g c = c.in-Err.ensures.ready c.args.self.now.shape c.requires.ready
