use Rattle.std.proofs.Common.{refl, sym, subst, ◌∙◌}
use Rattle.pk_words.{specs.declared.listing.ListPosition.ListPosition, specs.Listing.IsOwnPlace}
use Rattle.pk_wordrun.proofs.Lists.{own_start, own_next, IsSaying, saying_none, saying_more, saying_done, saying_ends}
use Rattle.pk_port.{specs.Steps.mount, proofs.Serving.mounted_limits}
use Rattle.pk_wordrun.proofs.list.tell_keys.Goals as goal

pub loop-next-init : goal.loop-next-init
loop-next-init g c = (
  c.requires.fits,
  c.requires.runs,
  refl,
  λ start holds.
      let a = g.B.Nand.state c.args.board.now in
      let terms = (mount (g.B.Nand.state c.args.board.now) (g.D.Engine.sight c.args.drive.now)).terms in
      let T : ListPosition → Type 0 = λ p. IsSaying c.args.from c.args.shape terms start a a p in
      subst T (sym c.from-place.ensures) (saying_none c.args.from c.args.shape terms start a c.requires.on_board holds
      (mounted_limits c.args.shape a (g.D.Engine.sight c.args.drive.now) c.requires.on_board)),
  subst IsOwnPlace (sym c.from-place.ensures) (own_start c.args.from c.requires.own),
)

pub loop-next-preserved : goal.loop-next-preserved
loop-next-preserved g c =
    let v = c.loop-next.invariant in (
      c.in-Ok-Some.ensures.fits,
      c.in-Ok-Some.ensures.runs,
      c.in-Ok-Some.ensures.terms ∙ v.2,
      λ start holds.
          let t = rw v.2 at (rw c.in-Ok-Some.field-0-is at c.in-Ok-Some.ensures.told) in
          saying_more _ _ _ _ _ _ _ (v.3 start holds) t.asked c.in-Ok-Some.next t.text t.is (g.B.Nand.state c.tell_piece.new.board) t.posted,
      own_next c.in-Ok-Some.field-0 c.in-Ok-Some.next c.in-Ok-Some.field-0-is c.in-Ok-Some.ensures.own,
    )

pub returns-in-Ok-None : goal.returns-in-Ok-None
returns-in-Ok-None g c = λ start holds.
    let v = c.loop-next.invariant in
    saying_done _ _ _ _ _ _ _ (v.3 start holds) (g.B.Nand.state c.tell_piece.new.board) (rw v.2 at (rw c.in-Ok-None.field-0-is at c.in-Ok-None.ensures.told))

pub returns-in-Err : goal.returns-in-Err
returns-in-Err g c = λ start holds.
    let v = c.loop-next.invariant in
    saying_ends _ _ _ _ _ _ _ (v.3 start holds) (g.B.Nand.state c.tell_piece.new.board) c.in-Err.end (rw v.2 at c.in-Err.ensures.ends)
