use Rattle.std.{proofs.Common.sym, proofs.Common.ap, proofs.Common.arith, proofs.Common.rules, proofs.Common.length, proofs.Common.take, proofs.Common.length-take-le, proofs.lemmas.List.length-drop}
use Rattle.pk_text.{proofs.Feeding.Filled-buffer, proofs.Turning.Fed-none}
use Rattle.pk_text.proofs.feed.Feed.fill.Goals as goal

pub returns-in-Ok-clause-ok : goal.returns-in-Ok-clause-ok
returns-in-Ok-clause-ok g c =
    Filled-buffer c.args.self.now c.fetch.new.into c.self.inside.bytes.items c.self.inside.bytes.items c.self.inside.from c.self.inside.to c.in-Ok.count c.self.inside.bytes.len _ _
    (sym c.self.view_is) (omega arith) (search rules) (omega (arith, c.self.invariant)) c.in-Ok.ensures.ok

pub returns-then-self-clause-ok : goal.returns-then-self-clause-ok
returns-then-self-clause-ok g c =
    let fits = length-take-le c.self.inside.to c.self.inside.bytes.items (omega (arith, c.self.invariant)) in
    let left = length-drop c.self.inside.from (take c.self.inside.to c.self.inside.bytes.items) in
    (Fed-none _ _, omega (arith, ap length c.self.view_is, left, fits))
