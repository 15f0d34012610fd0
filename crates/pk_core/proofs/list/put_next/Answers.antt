use Rattle.pk_core.proofs.Listing.{gives_key, gives_none}
use Rattle.pk_core.proofs.list.put_next.Goals as goal

pub returns-in-Ok-Some-clause-offers : goal.returns-in-Ok-Some-clause-offers
returns-in-Ok-Some-clause-offers g c rest left =
    let gives = rw c.in-Ok-Some.field-0-is at c.in-Ok-Some.ensures.gives in (
      (gives rest left).0,
      gives_key c.args.space c.args.into.now c.put_own.new.into c.args.at c.args.at.room c.in-Ok-Some.entry c.key.result.now c.put_own.result rest
          (gives rest left).0 c.key.ensures (gives rest left).1 c.put_own.ensures.offers,
      (gives rest left).2,
    )

pub returns-in-Ok-None-clause-offers : goal.returns-in-Ok-None-clause-offers
returns-in-Ok-None-clause-offers g c rest left =
    let gives = rw c.in-Ok-None.field-0-is at c.in-Ok-None.ensures.gives in
    ((gives rest left).0, gives_none c.args.space c.args.into.now c.args.at c.args.at.room rest (gives rest left).0 (gives rest left).1, (gives rest left).2)
