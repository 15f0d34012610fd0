use Rattle.std.{proofs.Common.◌≤◌, proofs.Common.◌∙◌, proofs.Common.ℕ, proofs.Common.arith, proofs.lemmas.List.length-map}
use Rattle.pk_file.{specs.Slots.pages_of, specs.Slots.slot_page, proofs.Rows.erase_left, proofs.Rows.erase_done}
use Rattle.pk_file.proofs.backing.erase_block.Goals as goal

pub returns-then-cleared-clause-pages : goal.returns-then-cleared-clause-pages
returns-then-cleared-clause-pages c =
    let count : ℕ = c.block_pages-count.result in
    let done : ℕ = c.erase-cleared.result.count in
    let all : count ≤ done = let e = c.erase-cleared.ensures.all c.if-cleared.true in omega (arith, e) in
    erase_done c.args.shape.now c.in-Some-Some.shape c.in-Some-Some.is-1 c.block_pages-count.ensures.shape c.args.block count done
    (pages_of c.args.slots.now.items) (pages_of c.erase_slots.new.slots.items)
    c.block_pages-count.ensures.value c.erase-cleared.ensures.most all c.requires.exists (length-map c.args.slots.now.items slot_page ∙ c.requires.count) c.erase_slots.ensures.pages

pub returns-clause-left : goal.returns-clause-left
returns-clause-left c =
    erase_left c.args.shape.now c.in-Some-Some.shape c.in-Some-Some.is-1 c.args.block c.block_pages-count.result c.erase-cleared.result.count
    (pages_of c.args.slots.now.items) (pages_of c.erase_slots.new.slots.items)
    c.block_pages-count.ensures.value c.erase-cleared.ensures.most c.erase_slots.ensures.pages
