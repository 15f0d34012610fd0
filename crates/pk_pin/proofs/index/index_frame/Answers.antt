use Rattle.std.proofs.Common.{arith, refl, ◌≡◌, ◌∙◌, ◌+◌, ◌*◌, ◌≤◌, length}
use Rattle.pk_pin.proofs.Cuts.{piece_end, length-piece, chunks-put_mid}
use Rattle.pk_pin.proofs.index.index_frame.Goals as goal

pub overflow_mul-start : goal.overflow_mul-start
overflow_mul-start c = omega (arith, piece_end c.args.i c.args.n c.args.homes c.requires.inside)

pub returns-clause-tables : goal.returns-clause-tables
returns-clause-tables c =
    let a = c.args in
    let end : a.i * a.homes + a.homes ≤ length a.tables.now = omega (arith, piece_end a.i a.n a.homes c.requires.inside, c.requires.whole) in
    let size : length c.index.new.table ≡ a.homes = c.index.ensures.size ∙ length-piece (a.i * a.homes) a.homes a.tables.now end in (
      c.index.new.table,
      chunks-put_mid a.homes a.n a.tables.now c.index.new.table a.i _ _ c.requires.inside (omega arith) size refl (omega arith),
      c.index.ensures.indexed,
    )
