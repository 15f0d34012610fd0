use Rattle.std.proofs.Common.{arith, rules}
use Rattle.pk_base.specs.Seen.{entries as seen_all}
use Rattle.pk_nand.{proofs.Writing.shape_is}
use Rattle.pk_jrn.{specs.contracts.epoch.Epoch.the_view, specs.Appends.next_bytes, proofs.Places.InOrder-next_page}
use Rattle.pk_jrn.proofs.Appending.{NextCommit, takes_more, commit_left, next_commit, adds_all, commit_fits, commit_reached, commit_went}
use Rattle.pk_jrn.proofs.epoch.Epoch.append.{Given.Over, Goals.After-encode}
use Rattle.pk_jrn.proofs.epoch.Epoch.append.Goals as goal

pub write_pair-requires-clause-number : goal.write_pair-requires-clause-number
write_pair-requires-clause-number g c =
    let r = rw (← c.self.view_is) at c.requires in
    let inside = c.commit_page-page.ensures.exists r.blocks.exist in
    omega (arith, inside, c.page_count.ensures.value, c.page_count.type_inv)

pub write_pair-requires-clause-exists : goal.write_pair-requires-clause-exists
write_pair-requires-clause-exists g c =
    let r = rw (← c.self.view_is) at c.requires in
    let inside = c.commit_page-page.ensures.exists r.blocks.exist in
    let size = r.ready.flash.size in
    omega (arith, inside, size)

pub write_pair-requires-clause-order : goal.write_pair-requires-clause-order
write_pair-requires-clause-order g c =
    let r = rw (← c.self.view_is) at c.requires in
    rw (shape_is _ _ r.ready, c.commit_page-page.ensures.page)
    (InOrder-next_page (the_view c.self.inside) _ (takes_more (the_view c.self.inside) r.left) r.whole (commit_left (the_view c.self.inside) r.left) r.fits)

-- the commit that is programmed
next : (g : Over) (c : After-encode g)
    → NextCommit (the_view c.self.inside) (g.B.Nand.state c.args.board.now).pages (seen_all c.args.entries.now) (next_bytes (the_view c.self.inside) (seen_all c.args.entries.now))
next g c =
    let r = rw (← c.self.view_is) at c.requires in
    next_commit (the_view c.self.inside) _ c.args.entries.now c.known.ensures (search rules) r.left r.whole r.some r.most r.each r.fits r.blocks.different

pub returns-in-Ok-clause-fits : goal.returns-in-Ok-clause-fits
returns-in-Ok-clause-fits g c =
    let ok = rw (c.commit_page-page.ensures.page, c.encode.ensures) at c.in-Ok.ensures in
    commit_fits (next g (goal.at.returns-in-Ok-clause-fits g c).After-encode) _ ok.cut ok.first ok.second

pub returns-in-Ok-clause-spells : goal.returns-in-Ok-clause-spells
returns-in-Ok-clause-spells g c = rw (← c.self.view_is) (next g (goal.at.returns-in-Ok-clause-spells g c).After-encode).spells

pub returns-in-Ok-clause-list : goal.returns-in-Ok-clause-list
returns-in-Ok-clause-list g c =
    let ok = rw (c.commit_page-page.ensures.page, c.encode.ensures) at c.in-Ok.ensures in
    rw (← c.self.view_is) (adds_all (next g (goal.at.returns-in-Ok-clause-list g c).After-encode) _ ok.cut ok.first)

pub returns-in-Ok-clause-cuts : goal.returns-in-Ok-clause-cuts
returns-in-Ok-clause-cuts g c =
    let run = rw (c.commit_page-page.ensures.page, c.encode.ensures) at c.in-Ok.ensures.cuts in
    rw (← c.self.view_is) (commit_reached (next g (goal.at.returns-in-Ok-clause-cuts g c).After-encode) _ _ run)

pub returns-in-Err-clause-spells : goal.returns-in-Err-clause-spells
returns-in-Err-clause-spells g c = rw (← c.self.view_is) (next g (goal.at.returns-in-Err-clause-spells g c).After-encode).spells

pub returns-in-Err-clause-cuts_err : goal.returns-in-Err-clause-cuts_err
returns-in-Err-clause-cuts_err g c =
    let run = rw (c.commit_page-page.ensures.page, c.encode.ensures) at c.in-Err.ensures.cuts_err in
    rw (← c.self.view_is) (commit_went (next g (goal.at.returns-in-Err-clause-cuts_err g c).After-encode) _ _ run)

pub returns-in-Err-clause-ready : goal.returns-in-Err-clause-ready
returns-in-Err-clause-ready g c = c.in-Err.ensures.ready c.args.self.now.shape c.requires.ready
