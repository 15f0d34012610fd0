use Rattle.std.proofs.Common.{rules, ap, sym, ◌∙◌}
use Rattle.pk_log.{specs.State.LogState, proofs.Pushing.some_seen, proofs.Pushing.none_seen, proofs.Standing.epoch_blocks_are}
use Rattle.pk_log.proofs.Committing.{holds_done, reaches, goes, stands_done, reaches_none}
use Rattle.pk_log.proofs.log.Log.commit.Goals as goal

pub append-requires-clause-blocks : goal.append-requires-clause-blocks
append-requires-clause-blocks g c =
    let r = rw (← c.self.view_is) at c.requires in
    let s = r.stands in
    epoch_blocks_are _ (g.B.Nand.state c.args.board.now).pages s.0 s.1 s.2

pub returns-then-is_empty-clause-cuts : goal.returns-then-is_empty-clause-cuts
returns-then-is_empty-clause-cuts g c = reaches_none c.args.self.now (g.B.Nand.state c.args.board.now)
    (sym (ap (λ (l : LogState). l.pending) c.self.view_is) ∙ none_seen c.self.inside.pending.items (search rules))

pub returns-in-Ok-clause-stands : goal.returns-in-Ok-clause-stands
returns-in-Ok-clause-stands g c top found logs =
    let l = rw (← c.self.view_is) at logs in
    let r = rw (← c.self.view_is) at c.requires in
    let some = some_seen c.self.inside.pending.items (search rules) in
    let a = rw c.deref.ensures.value at c.in-Ok.ensures in
    rw (a.ok, a.taken, c.clear.ensures.items, ← c.self.view_is)
    (stands_done _ (g.B.Nand.state c.args.board.now) top found l r.ready some _ a.spells c.len.ensures.bound (rw a.ok at a.list) (rw (a.ok, a.taken) at a.fits))

pub returns-in-Ok-clause-holds : goal.returns-in-Ok-clause-holds
returns-in-Ok-clause-holds g c top found m0 m1 maps =
    let m = rw (← c.self.view_is) at maps in
    let r = rw (← c.self.view_is) at c.requires in
    let some = some_seen c.self.inside.pending.items (search rules) in
    let a = rw c.deref.ensures.value at c.in-Ok.ensures in
    rw (a.ok, ← c.self.view_is) (holds_done _ (g.B.Nand.state c.args.board.now) top found m.logs r.ready some _ a.spells m0 m1 m.without m.all)

pub returns-in-Ok-clause-cuts : goal.returns-in-Ok-clause-cuts
returns-in-Ok-clause-cuts g c top found m0 m1 maps =
    let m = rw (← c.self.view_is) at maps in
    let r = rw (← c.self.view_is) at c.requires in
    let some = some_seen c.self.inside.pending.items (search rules) in
    let a = rw c.deref.ensures.value at c.in-Ok.ensures in
    rw (a.ok, ← c.self.view_is) (reaches _ (g.B.Nand.state c.args.board.now) top found m.logs r.ready some _ a.spells m0 m1 m.without m.all)

pub returns-in-Err-clause-cuts_err : goal.returns-in-Err-clause-cuts_err
returns-in-Err-clause-cuts_err g c top found m0 m1 maps =
    let m = rw (← c.self.view_is) at maps in
    let r = rw (← c.self.view_is) at c.requires in
    let some = some_seen c.self.inside.pending.items (search rules) in
    let a = rw c.deref.ensures.value at c.in-Err.ensures in
    rw (← c.self.view_is) (goes _ (g.B.Nand.state c.args.board.now) top found m.logs r.ready some _ a.spells m0 m1 m.without m.all (g.B.Nand.state c.append.new.board) a.err)
