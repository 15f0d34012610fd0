use Rattle.std.proofs.Common.{refl, sym, ap, ◌∙◌}
use Rattle.pk_nand.specs.declared.types.LoadFault.TheVariants.{Memory}
use Rattle.pk_remap.{specs.Remapped.is_open, specs.Loading.no_call_made, proofs.LogLemmas.told_unfit, proofs.Opening.missing_refused}
use Rattle.pk_remap.proofs.remap.Remap.make_inner.Goals as goal

pub make_with-requires-clause-told : goal.make_with-requires-clause-told
make_with-requires-clause-told g c =
    let self = c.args.self.now in
    c.in-Ok.ensures.told ∙ sym (told_unfit self.log (self.logs.unfit (ap is_open c.requires.missing)))

pub make_with-requires-clause-sized : goal.make_with-requires-clause-sized
make_with-requires-clause-sized g c = c.in-Ok.ensures.page ∙ c.page_bytes-size.ensures.value

pub returns-in-Err-clause-answers : goal.returns-in-Err-clause-answers
returns-in-Err-clause-answers g c =
    let self = c.args.self.now in
    missing_refused self.image c.requires.missing self.work self.log self.counts (g.N.Nand.state self.inner) c.args.shape Memory (λ at e. cc)

pub returns-in-Err-clause-cause : goal.returns-in-Err-clause-cause
returns-in-Err-clause-cause g c = c.requires.allowed

pub returns-in-Err-clause-cuts : goal.returns-in-Err-clause-cuts
returns-in-Err-clause-cuts g c = no_call_made refl
