use Rattle.std.proofs.Common.{ap}
use Rattle.pk_nvme.specs.Bytes.{RoomyList}
use Rattle.pk_words.proofs.ListLemmas.{own_from, page_some, says_page, says_end}
use Rattle.pk_words.proofs.words.Words.list_after.Goals as goal

pub last_of-requires : goal.last_of-requires
last_of-requires g c = page_some (g.P.Port.state c.args.port.now) (g.P.Port.state c.list_page.new.port) _ c.list_page.new.page c.in-Ok-true.field-0 c.in-Ok-true.field-0-test c.in-Ok-true.ensures.gives

pub returns-in-Ok-true-clause-piece : goal.returns-in-Ok-true-clause-piece
returns-in-Ok-true-clause-piece g c =
    says_page (g.P.Port.state c.args.port.now) _ c.list_page.new.page _ _
    (page_some (g.P.Port.state c.args.port.now) (g.P.Port.state c.list_page.new.port) _ c.list_page.new.page c.in-Ok-true.field-0 c.in-Ok-true.field-0-test c.in-Ok-true.ensures.gives)
    c.last_of.ensures.last c.last_of.ensures.text c.requires c.list_page.ensures.above c.in-Ok-true.ensures.pages c.in-Ok-true.ensures.known (ap (λ (t : RoomyList). t.items) c.say_keys.ensures)

pub returns-in-Ok-false-clause-piece : goal.returns-in-Ok-false-clause-piece
returns-in-Ok-false-clause-piece g c =
    says_end (g.P.Port.state c.args.port.now) (g.P.Port.state c.list_page.new.port) _ c.in-Ok-false.field-0 _ c.in-Ok-false.field-0-test c.in-Ok-false.ensures.follows c.in-Ok-false.ensures.known
    (ap (λ (t : RoomyList). t.items) c.clear.ensures)

pub list_page-requires : goal.list_page-requires
list_page-requires g c = record { own = own_from _ c.requires }
