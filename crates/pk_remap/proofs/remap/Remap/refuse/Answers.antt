use Rattle.pk_remap.specs.Remapped.{remap_board}
use Rattle.pk_remap.proofs.remap.Remap.refuse.Goals as goal

pub returns-clause-board : goal.returns-clause-board
returns-clause-board g c =
    let self = c.args.self.now in
    λ i. remap_board self.image self.work self.log (c.refused.ensures i) (g.N.Nand.state self.inner)
