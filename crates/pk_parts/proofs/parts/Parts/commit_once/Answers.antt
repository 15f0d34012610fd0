use Rattle.std.proofs.Common.{◌≡◌, ap, arith, length, drop, ◌++◌, length-take, length-append, length-drop}
use Rattle.pk_merge.proofs.Results.{on_ok}
use Rattle.pk_parts.proofs.Committing.{shape_kept, commit_step, only_commits, no_more_left, some_programs, all_programs, nothing_done}
use Rattle.pk_parts.{proofs.Sights.begin_of, proofs.Sights.commits_seen, proofs.Staying.commit_stays}
use Rattle.pk_parts.proofs.parts.Parts.commit_once.Goals as goal

pub returns-clause-step : goal.returns-clause-step
returns-clause-step g c =
    let e = c.commit.ensures in
    let r = rw (← c.self.view_is) at c.requires in
    rw (← c.self.view_is) (commit_step c.commit.result _ c.commit.new.self (g.B.Nand.state c.args.board.now)
    (g.B.Nand.state c.commit.new.board) r.may e.ready e.ok e.stands e.holds e.cuts e.stopped e.err e.cuts_err)

pub returns-clause-rest : goal.returns-clause-rest
returns-clause-rest g c =
    rw (← c.self.view_is) (on_ok c.commit.result _ _ c.commit.ensures.ok (only_commits _ c.commit.new.self (g.B.Nand.state c.args.board.now) (g.B.Nand.state c.commit.new.board)))

pub returns-clause-pages_left : goal.returns-clause-pages_left
returns-clause-pages_left g c =
    rw (← c.self.view_is) (on_ok c.commit.result _ _ c.commit.ensures.ok (no_more_left c.self.inside.log c.commit.new.self (g.B.Nand.state c.args.board.now) (g.B.Nand.state c.commit.new.board)))

pub returns-clause-program : goal.returns-clause-program
returns-clause-program g c =
    let e = c.commit.ensures in
    rw (← c.self.view_is) (some_programs c.commit.result c.self.inside.log c.commit.new.self (g.B.Nand.state c.args.board.now) (g.B.Nand.state c.commit.new.board) e.ok e.err)

pub returns-clause-programs : goal.returns-clause-programs
returns-clause-programs g c =
    rw (← c.self.view_is) (on_ok c.commit.result _ _ c.commit.ensures.ok (all_programs c.self.inside.log c.commit.new.self (g.B.Nand.state c.args.board.now) (g.B.Nand.state c.commit.new.board)))

pub returns-clause-idle : goal.returns-clause-idle
returns-clause-idle g c =
    let e = c.commit.ensures in
    rw (← c.self.view_is) (nothing_done c.commit.result _ c.commit.new.self (g.B.Nand.state c.args.board.now) (g.B.Nand.state c.commit.new.board) e.ok e.err)

pub returns-clause-seen : goal.returns-clause-seen
returns-clause-seen g c =
    rw (← c.self.view_is)
    (on_ok c.commit.result _ _ c.commit.ensures.ok (commits_seen (begin_of c.self.view_is) c.commit.new.self (g.B.Nand.state c.args.board.now) (g.B.Nand.state c.commit.new.board)))

pub returns-clause-moves : goal.returns-clause-moves
returns-clause-moves g c =
    rw (← c.self.view_is) (on_ok c.commit.result _ _ c.commit.ensures.ok (commit_stays _ c.commit.new.self (g.B.Nand.state c.args.board.now) (g.B.Nand.state c.commit.new.board)))

pub invariant_of-self : goal.invariant_of-self
invariant_of-self g c =
    let same = shape_kept c.commit.result c.self.inside.log c.commit.new.self (g.B.Nand.state c.args.board.now) (g.B.Nand.state c.commit.new.board) c.commit.ensures.ok c.commit.ensures.kept in
    let bytes = c.self.inside.page.items in
    let now = c.commit.new.buf in
    let size = c.commit.ensures.buffer in
    let room : length c.deref_mut.result.now ≡ c.self.inside.page.len = c.deref_mut.ensures.len in
    let items : length c.deref_mut.result.now ≡ length bytes = ap length c.deref_mut.ensures.value in
    let page = c.self.invariant.0 in
    let front = length-take c.self.inside.page.len (now ++ drop (length now) bytes) in
    let whole = length-append now (drop (length now) bytes) in
    let rest = length-drop (length now) bytes in
    rw same (omega (arith, size, room, items, page, front, whole, rest), c.self.invariant.1)
