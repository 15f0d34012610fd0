use Rattle.std.proofs.Common.{◌∙◌, arith, sym}
use Rattle.pk_walk.proofs.Paging.{Sought-all, Sought-left, Sought-right, Sought-found}
use Rattle.pk_walk.proofs.page.first_wanted.Goals as goal

pub loop-low-init : goal.loop-low-init
loop-low-init c = record { sought = Sought-all c.args.position.now c.args.page.now c.args.from _ c.requires.within c.get_u16-high.ensures }

pub loop-low-preserved-then-wants_at : goal.loop-low-preserved-then-wants_at
loop-low-preserved-then-wants_at c = search (Sought-left c.args.position.now c.args.page.now c.args.from c.loop-low.low c.loop-low.high c.next_look-middle.result c.loop-low.invariant.sought c.next_look-middle.ensures.low c.next_look-middle.ensures.high (sym c.wants_at.ensures ∙ c.if-wants_at.true))

pub loop-low-preserved : goal.loop-low-preserved
loop-low-preserved c = search (Sought-right c.args.position.now c.args.page.now c.args.from c.loop-low.low c.loop-low.high c.next_look-middle.result c.loop-low.invariant.sought c.next_look-middle.ensures.low c.next_look-middle.ensures.high c.args.shape.now c.known.ensures c.requires.decodes (sym c.wants_at.ensures ∙ c.if-wants_at.false))

pub returns : goal.returns
returns c = Sought-found c.args.position.now c.args.page.now c.args.from c.loop-low.low c.loop-low.high c.loop-low.invariant.sought (omega (arith, c.loop-low-test.false))
