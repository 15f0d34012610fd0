use Rattle.std.proofs.Common.{arith, refl, ◌≡◌, ◌+◌, ◌*◌, ◌-◌, []}
use Rattle.pk_pin.proofs.Cuts.{piece_end, get_or-chunks}
use Rattle.pk_pin.proofs.index.table_of.Goals as goal

pub overflow_mul-start : goal.overflow_mul-start
overflow_mul-start c = omega (arith, piece_end c.args.i c.args.n c.args.homes c.requires.inside)

pub returns-clause-contents : goal.returns-clause-contents
returns-clause-contents c =
    let a = c.args in
    let e : a.i * a.homes + a.homes - a.i * a.homes ≡ a.homes = omega arith in
    rw (e, get_or-chunks a.homes a.n a.tables.now a.i [] c.requires.inside) refl
