use Rattle.std.proofs.Common.{sym, ap, subst, ◌∙◌}
use Rattle.pk_base.specs.Shape.{Shape}
use Rattle.pk_walk.{specs.Walking.Walk, specs.Walking.AreOfShape, specs.Walking.seen_tops, proofs.Keeping.learned_kept, proofs.Keeping.learned_settled, proofs.Keeping.none_kept}
use Rattle.pk_walk.{proofs.Walks.Learned, proofs.Walks.comes_to_found, proofs.Walks.walks_to_found, proofs.Walks.walks_failed, proofs.Walks.is_walk_behind, proofs.walk.Walk.step.Goals.In-Ok}
use Rattle.pk_walk.proofs.walk.Walk.step.Given as given
use Rattle.pk_walk.proofs.walk.Walk.step.Goals as goal

-- the first wanted entries are known
learned : (g : given.Over) (c : In-Ok g)
    → Learned c.args.levels.now.runs c.args.arena.now c.args.active.now.entries c.args.frozen.now.entries c.args.levels.now.shape
    (g.B.Nand.state c.args.board.now) (g.B.Nand.state c.know_all.new.board)
    (record { shape = c.self.inside.shape; position = c.self.inside.position; tops = seen_tops c.self.inside.tops; cursors = c.self.inside.cursors })
    (seen_tops c.know_all.new.tops) c.know_all.new.cursors
learned g c = record {
  on = c.in-Ok.ensures.go_on;
  shows = c.in-Ok.ensures.learns.0;
  before = rw (← c.self.view_is) at c.requires.tops;
  known = c.in-Ok.ensures.learns.1;
  up = c.len.ensures.rising;
  down = c.len-2.ensures.rising;
  many = c.known.ensures.levels.four ∙ sym c.in-Ok.ensures.four;
}

pub take_least-requires-clause-kept : goal.take_least-requires-clause-kept
take_least-requires-clause-kept g c =
    let at = goal.at.take_least-requires-clause-kept g c in
    let follow = rw (← c.self.view_is) at c.requires.follow in
    learned_kept (learned g at.In-Ok) c.self.inside.orders (c.self.invariant.0.four ∙ sym c.in-Ok.ensures.four) follow c.self.invariant.1

pub take_least-requires-clause-settled : goal.take_least-requires-clause-settled
take_least-requires-clause-settled g c = learned_settled (learned g (goal.at.take_least-requires-clause-settled g c).In-Ok)

pub invariant_of-self : goal.invariant_of-self
invariant_of-self g c = (
  is_walk_behind c.args.levels.now.shape c.self.inside.shape c.take_least.new.position _ (seen_tops c.know_all.new.tops)
      (seen_tops c.take_least.new.tops) c.know_all.new.cursors c.take_least.new.self _ c.take_least.ensures.behind c.in-Ok.ensures.go_on.of_shape
      (ap (λ (w : Walk). w.shape) c.self.view_is ∙ c.requires.shape) c.take_least.ensures.four,
  c.take_least.ensures.kept,
)

pub invariant_of-self-in-Err : goal.invariant_of-self-in-Err
invariant_of-self-in-Err g c =
    let shape = ap (λ (w : Walk). w.shape) c.self.view_is ∙ c.requires.shape in (
      record { four = c.in-Err.ensures.four; each = subst (λ (s : Shape). AreOfShape s c.know_all.new.cursors) (sym shape) c.in-Err.ensures.go_on.of_shape },
      none_kept (seen_tops c.know_all.new.tops) c.know_all.new.cursors c.none-self-inside.result c.none-self-inside.ensures,
    )

pub returns-in-Ok-clause-comes : goal.returns-in-Ok-clause-comes
returns-in-Ok-clause-comes g c =
    let at = goal.at.returns-in-Ok-clause-comes g c in
    rw (← c.self.view_is) (comes_to_found (learned g at.In-Ok) c.take_least.result c.take_least.new.position c.take_least.ensures.passed
    c.take_least.ensures.least (seen_tops c.take_least.new.tops) c.take_least.new.self c.take_least.ensures.behind)

pub returns-in-Ok-clause-walks_on : goal.returns-in-Ok-clause-walks_on
returns-in-Ok-clause-walks_on g c =
    let at = goal.at.returns-in-Ok-clause-walks_on g c in
    rw (← c.self.view_is) (walks_to_found (learned g at.In-Ok) c.take_least.result c.take_least.new.position c.take_least.ensures.passed
    c.take_least.ensures.least (seen_tops c.take_least.new.tops) c.take_least.new.self c.take_least.ensures.behind)

pub returns-in-Err-clause-walks_on : goal.returns-in-Err-clause-walks_on
returns-in-Err-clause-walks_on g c =
    let tops = rw (← c.self.view_is) at c.requires.tops in
    rw (← c.self.view_is) (walks_failed c.args.levels.now.runs c.args.arena.now c.args.active.now.entries c.args.frozen.now.entries c.args.levels.now.shape (g.B.Nand.state c.args.board.now).pages
    (record { shape = c.self.inside.shape; position = c.self.inside.position; tops = seen_tops c.self.inside.tops; cursors = c.self.inside.cursors })
    (seen_tops c.know_all.new.tops) c.know_all.new.cursors c.in-Err.ensures.go_on (ap seen_tops c.in-Err.ensures.fails.0) tops)
