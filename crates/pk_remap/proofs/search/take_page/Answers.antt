use Rattle.pk_remap.proofs.search.take_page.Goals as goal

pub returns-in-Ok-clause-few : goal.returns-in-Ok-clause-few
returns-in-Ok-clause-few c few = c.take.ensures.few c.args.spares few c.in-Ok.ensures.used
