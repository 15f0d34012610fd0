use Rattle.std.proofs.Common.{◌≡◌, length, take, refl, sym, ap, ◌∙◌, arith}
use Rattle.std.proofs.lemmas.List.{length-take-le}
use Rattle.pk_base.specs.Page.{page_at}
use Rattle.pk_nand.{specs.BoardState.BoardState, specs.declared.types.LoadFault.TheVariants.Memory}
use Rattle.pk_remap.{specs.declared.image.Image.TheVariants.Sure, specs.Logged.told, specs.Running.relocation_of, specs.Remapped.is_open, proofs.Finding.newest-found, proofs.LogLemmas.told_unfit}
use Rattle.pk_remap.{proofs.Counting.has_table, proofs.Remapping.no_bool, proofs.Remapping.holds_rest, proofs.Opening.unknown_refused, proofs.Opening.unknown_opened}
use Rattle.pk_remap.proofs.remap.Remap.open_log.Goals as goal

pub invariant_of-self : goal.invariant_of-self
invariant_of-self g c =
    let self = c.args.self.now in
    record {
      holds = holds_rest Sure self.work (g.N.Nand.state self.inner) c.requires.rests refl;
      logs = record { unfit = λ e. no_bool (sym e); sized = λ e. c.in-Ok.ensures.page ∙ c.page_bytes-size.ensures.value };
    }

pub returns-in-Ok-clause-answers : goal.returns-in-Ok-clause-answers
returns-in-Ok-clause-answers g c =
    let self = c.args.self.now in
    let inner : BoardState = g.N.Nand.state self.inner in
    let rest = c.requires.rests in
    let noted : told c.in-Ok.log ≡ told self.log = c.in-Ok.ensures.told ∙ sym (told_unfit self.log (self.logs.unfit (ap is_open c.requires.unknown))) in
    unknown_opened self.image c.requires.unknown self.work self.work self.log c.in-Ok.log self.counts inner inner refl refl noted c.requires.none_bad
    (has_table self.work inner self.work.top (relocation_of self.work).table rest.ready rest.top rest.used)

pub returns-in-Ok-clause-cause : goal.returns-in-Ok-clause-cause
returns-in-Ok-clause-cause g c =
    let self = c.args.self.now in
    let inner : BoardState = g.N.Nand.state self.inner in
    let rest = c.requires.rests in
    let room = rest.room in
    let fits = room.fits in
    let all = room.all in
    let size : length (take self.work.used self.work.serves) ≡ self.work.used = length-take-le self.work.used self.work.serves (omega (arith, fits, all)) in
    let same = c.requires.all in
    let most = rest.taken in
    record {
      shape_is = rest.ready.shape_is;
      top = (self.work.top, (relocation_of self.work).table);
      newest = newest-found self.work.shape self.work.spares (page_at inner.pages) self.work.top (relocation_of self.work).table rest.top;
      others = omega (arith, size, same, most);
    }

pub returns-in-Err-clause-answers : goal.returns-in-Err-clause-answers
returns-in-Err-clause-answers g c =
    let self = c.args.self.now in
    unknown_refused self.image c.requires.unknown self.work self.work self.log self.log self.counts (g.N.Nand.state self.inner) (g.N.Nand.state self.inner) refl refl refl Memory

pub returns-in-Ok-clause-reads : goal.returns-in-Ok-clause-reads
returns-in-Ok-clause-reads g c = refl

pub returns-in-Err-clause-reads : goal.returns-in-Err-clause-reads
returns-in-Err-clause-reads g c = refl
