use Rattle.std.proofs.Common.{◌∙◌, ap, sym, arith, rules}
use Rattle.pk_base.{specs.Page.page_at, proofs.CommitPages.second}
use Rattle.pk_jrn.{proofs.Places.pages_erased, proofs.Journals.reads_none, proofs.Journals.erased_not_whole, proofs.Journals.pair_not_whole}
use Rattle.pk_jrn.proofs.epoch.Epoch.start.Goals as goal

pub returns-clause-reads : goal.returns-clause-reads
returns-clause-reads c spaces flash all =
    let least = c.known.ensures.block_least in
    reads_none c.args.shape spaces _ c.args.number c.args.blocks c.known.ensures (search rules)
    (pair_not_whole _ _ _
    (erased_not_whole _ (pages_erased c.args.shape flash c.args.blocks 0 all (omega (arith, least))))
    (erased_not_whole _ (ap (page_at flash) (sym (second c.args.shape c.args.blocks c.known.ensures 0)) ∙ pages_erased c.args.shape flash c.args.blocks 1 all (omega (arith, least)))))
