use Rattle.std.proofs.Common.{inl, inr, refl, subst}
use Rattle.pk_base.specs.Shape.{Shape}
use Rattle.pk_top.specs.Makes.{Makes}
use Rattle.pk_top.proofs.making.make_image.Goals as goal

pub returns-in-Ok-format : goal.returns-in-Ok-format
returns-in-Ok-format g c =
    let T : Shape → Type 0 = λ s. Makes s c.args.limits.now.each (g.B.Nand.state c.args.board.now) (g.B.Nand.state c.format.new.board) 0 in
    let done = c.in-Ok-format.ensures in
    subst T c.shape-shape.ensures (inr (record {
      made = g.B.Nand.state c.make.new.self;
      is_made = c.in-Ok.ensures.ok;
      formats = inl (record { tells = refl; holds = done.holds; limits_are = done.limits; programs = done.programs });
    }))

pub returns-in-Err-format : goal.returns-in-Err-format
returns-in-Err-format g c =
    let T : Shape → Type 0 = λ s. Makes s c.args.limits.now.each (g.B.Nand.state c.args.board.now) (g.B.Nand.state c.format.new.board) 6 in
    subst T c.shape-shape.ensures (inr (record {
      made = g.B.Nand.state c.make.new.self;
      is_made = c.in-Ok.ensures.ok;
      formats = inr (refl, c.in-Err-format.ensures.err);
    }))
