use Rattle.pk_host.{proofs.CauseLemmas.caused_later, specs.Calls.IsOwnKey, specs.Listing.listed_by}
use Rattle.pk_host.proofs.PageLemmas.{more_lists, listing_goes, listing_ends, all_append, own_one}
use Rattle.std.{proofs.Common.◌∙◌, proofs.Common.sym, proofs.Common.ap, proofs.Common.subst, proofs.Common.List, proofs.Common.[], proofs.Common.length, proofs.Common.◌-◌, specs.Option.option_copied}
use Rattle.std.specs.List.{AllByRecursion, slice_get}
use Rattle.pk_base.specs.Key.{Key}
use Rattle.pk_nvme.specs.Command.{key_or_none}
use Rattle.pk_host.proofs.host.Host.list_all.Goals as goal

pub returns-in-Err-list_page-clause-took : goal.returns-in-Err-list_page-clause-took
returns-in-Err-list_page-clause-took g c = more_lists g.P.Port.took g.met.P.Port.took_both _ _ _ (key_or_none (option_copied c.last.result)) c.loop.invariant.0 c.list_page.ensures.took

pub returns-then-not-add-clause-took : goal.returns-then-not-add-clause-took
returns-then-not-add-clause-took g c = more_lists g.P.Port.took g.met.P.Port.took_both _ _ _ (key_or_none (option_copied c.last.result)) c.loop.invariant.0 c.list_page.ensures.took

pub returns-in-Ok-false-clause-took : goal.returns-in-Ok-false-clause-took
returns-in-Ok-false-clause-took g c = more_lists g.P.Port.took g.met.P.Port.took_both _ _ _ (key_or_none (option_copied c.last.result)) c.loop.invariant.0 c.list_page.ensures.took

pub returns-in-Ok-false-clause-lists : goal.returns-in-Ok-false-clause-lists
returns-in-Ok-false-clause-lists g c =
    listing_ends _ _ c.loop.all.items _ c.loop.invariant.1
    (ap key_or_none c.last.ensures.value ∙ ap (λ (xs : List Key). key_or_none (slice_get xs (length xs - 1))) c.deref.ensures.value)
    c.in-Ok-false.field-0 c.in-Ok-false.field-0-test c.in-Ok-false.ensures.follows c.in-Ok-false.ensures.known

pub loop-preserved : goal.loop-preserved
loop-preserved g c = (
  more_lists g.P.Port.took g.met.P.Port.took_both _ _ _ (key_or_none (option_copied c.last.result)) c.loop.invariant.0 c.list_page.ensures.took,
  listing_goes _ _ _ c.loop.all.items c.list_page.new.page _ _ c.loop.invariant.1
      (ap key_or_none c.last.ensures.value ∙ ap (λ (xs : List Key). key_or_none (slice_get xs (length xs - 1))) c.deref.ensures.value) c.in-Ok-true.ensures.pages c.list_page.ensures.leaves
      (c.add.ensures c.if-not-add.false),
  subst (AllByRecursion IsOwnKey) (sym (c.add.ensures c.if-not-add.false)) (all_append IsOwnKey c.loop.all.items c.list_page.new.page c.loop.invariant.2 c.known.ensures),
)

pub list_page-requires : goal.list_page-requires
list_page-requires g c = record {
  own = own_one (option_copied c.last.result) c.loop.all.items _ (c.last.ensures.value ∙ ap (λ (xs : List Key). slice_get xs (length xs - 1)) c.deref.ensures.value) c.loop.invariant.2;
}

pub returns-in-Err-list_page-clause-causes : goal.returns-in-Err-list_page-clause-causes
returns-in-Err-list_page-clause-causes g c =
    caused_later _ _ (g.P.Port.state c.list_page.new.port) _ (listed_by []) c.in-Err-list_page.error
    (g.met.P.Port.took_state _ _ _ c.loop.invariant.0.2) c.loop.invariant.1.leaves c.in-Err-list_page.ensures.causes
