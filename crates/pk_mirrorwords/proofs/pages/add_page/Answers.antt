use Rattle.std.{proofs.Common.◌<◌, proofs.Common.length, proofs.Common.ap, specs.Option.option_copied}
use Rattle.pk_nvme.specs.Bytes.{RoomyList}
use Rattle.pk_host.specs.Listing.{listed_by}
use Rattle.pk_mirror.proofs.PageLemmas.{own_from, page_falls}
use Rattle.pk_mirrorwords.proofs.Replying.{asks_within}
use Rattle.pk_mirrorwords.proofs.Paging.{asked_some, page_room, goes_some, goes_none, page_fails}
use Rattle.pk_mirrorwords.proofs.pages.add_page.Goals as goal

pub list_page-requires-clause-pair : goal.list_page-requires-clause-pair
list_page-requires-clause-pair g c = c.requires.pair.pair

pub list_page-requires-clause-own : goal.list_page-requires-clause-own
list_page-requires-clause-own g c = own_from (option_copied c.args.last) c.requires.from

pub add_keys-requires : goal.add_keys-requires
add_keys-requires g c =
    let within = asks_within _ _ _ _ _ _ _ (listed_by c.list_page.new.page) _ c.in-Ok-true.ensures.asks c.requires.pair.pair c.requires.pair.map c.requires.pair.told in
    page_room (g.P.Port.state c.args.first.now) (option_copied c.args.last) c.args.text.now.items c.requires.listed
    (λ m told. (asks_within _ _ _ _ _ _ _ (listed_by c.list_page.new.page) _ c.in-Ok-true.ensures.asks c.requires.pair.pair m told).0) c.list_page.new.page c.in-Ok-true.ensures.pages
    (asked_some _ _ _ _ _ _ _ c.list_page.new.page c.in-Ok-true.field-0 c.in-Ok-true.field-0-test c.in-Ok-true.ensures.asks) c.args.shape.now
    c.known.ensures c.requires.shape c.requires.pair.limit_most c.args.text.now.room c.requires.room c.requires.pair.map c.requires.pair.told within.1

pub last_of-requires : goal.last_of-requires
last_of-requires g c = asked_some _ _ _ _ _ _ _ c.list_page.new.page c.in-Ok-true.field-0 c.in-Ok-true.field-0-test c.in-Ok-true.ensures.asks

pub returns-in-Ok-true-clause-goes : goal.returns-in-Ok-true-clause-goes
returns-in-Ok-true-clause-goes g c =
    let some : 0 < length c.list_page.new.page = asked_some _ _ _ _ _ _ _ c.list_page.new.page c.in-Ok-true.field-0 c.in-Ok-true.field-0-test c.in-Ok-true.ensures.asks in
    goes_some (g.P.Port.state c.args.first.now) (option_copied c.args.last) c.args.text.now.items c.requires.listed
    (λ m told. (asks_within _ _ _ _ _ _ _ (listed_by c.list_page.new.page) _ c.in-Ok-true.ensures.asks c.requires.pair.pair m told).0) c.list_page.new.page c.in-Ok-true.ensures.pages
    c.last_of.result c.add_keys.new.text.items some c.last_of.ensures.last (ap (λ (t : RoomyList). t.items) c.add_keys.ensures.lines) c.add_keys.ensures.most c.last_of.ensures.text
    (page_falls (option_copied c.args.last) c.list_page.new.page c.last_of.result some c.last_of.ensures.last c.last_of.ensures.text c.requires.from c.in-Ok-true.ensures.above)

pub returns-in-Ok-false-clause-goes : goal.returns-in-Ok-false-clause-goes
returns-in-Ok-false-clause-goes g c =
    goes_none (g.P.Port.state c.args.first.now) (option_copied c.args.last) c.args.text.now.items c.requires.listed
    (λ m told. (asks_within _ _ _ _ _ _ _ (listed_by c.list_page.new.page) _ c.in-Ok-false.ensures.asks c.requires.pair.pair m told).0)
    c.in-Ok-false.field-0 c.in-Ok-false.field-0-test c.in-Ok-false.ensures.follows

pub returns-in-Err-clause-fails : goal.returns-in-Err-clause-fails
returns-in-Err-clause-fails g c = page_fails c.args.mirror.now _ _ _ _ c.in-Err.error c.in-Err.ensures.split.1 c.in-Err.ensures.causes
    (c.in-Err.ensures.unread c.requires.pair.map c.requires.pair.told)
