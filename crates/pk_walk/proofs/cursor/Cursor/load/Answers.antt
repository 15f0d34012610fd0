use Rattle.std.proofs.Common.{ap, arith, rules, ◌≤◌}
use Rattle.pk_walk.{specs.Walking.Cursor, proofs.Following.looked, proofs.Following.looked_all, proofs.Following.come_pinned, proofs.Following.come_pinned_all, proofs.Following.has_frames}
use Rattle.pk_walk.proofs.cursor.Cursor.load.Goals as goal

pub returns-in-Some-clause-loads : goal.returns-in-Some-clause-loads
returns-in-Some-clause-loads g c = record {
  cursor = search rules;
  reads = come_pinned c.args.run.now.leases c.args.p _ c.args.self.now.loaded (g.B.Nand.state c.args.board.now) c.in-Some.ensures c.requires.may.behind;
  all = λ come. come_pinned_all c.args.run.now.leases c.args.p _ c.args.self.now.loaded (g.B.Nand.state c.args.board.now) c.in-Some.ensures c.requires.may.behind;
}

pub returns-in-Some-clause-page : goal.returns-in-Some-clause-page
returns-in-Some-clause-page g c none = absurd (has_frames c.args.run.now.leases c.args.p _ c.in-Some.ensures none)

pub returns-in-Ok-clause-loads : goal.returns-in-Ok-clause-loads
returns-in-Ok-clause-loads g c =
    let inside = ap (λ (x : Cursor). x.loaded) c.self.view_is in
    let h = c.requires.may.behind in
    let other = c.if-self-p.false in
    let before : c.args.self.now.loaded ≤ c.args.p = omega (arith, inside, h, other) in
    record {
      cursor = search rules;
      reads = looked c.args.run.now.leases c.args.self.now.loaded c.args.p (g.B.Nand.state c.args.board.now) (g.B.Nand.state c.load_page.new.board) before c.in-Ok.ensures.ok;
      all = λ come. looked_all c.args.run.now.leases c.args.self.now.loaded c.args.p (g.B.Nand.state c.args.board.now)
          (g.B.Nand.state c.load_page.new.board) (omega (arith, inside, h, other, come)) c.in-Ok.ensures.ok;
    }
