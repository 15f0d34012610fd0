use Rattle.std.proofs.Common.{◌∙◌, length, ap, sym}
use Rattle.pk_base.specs.Page.{Page}
use Rattle.pk_nand.{specs.Operations.filled, specs.Seen.answer}
use Rattle.pk_file.{specs.Slots.slot_page, specs.Trims.bytes_in, proofs.Slotting.page_here, proofs.Slotting.room_for}
use Rattle.pk_file.proofs.slots.read_slot.Goals as goal

pub fill-requires : goal.fill-requires
fill-requires c =
    let here = page_here c.args.slots.now.items c.args.page c.index.result.now c.requires.exists c.index.ensures in
    room_for c.args.slots.now.items c.args.page (length c.args.into.now) (bytes_in c.in-Whole.kept) c.requires.full (here ∙ ap slot_page c.in-Whole.is)

pub returns-in-Erased-clause-found : goal.returns-in-Erased-clause-found
returns-in-Erased-clause-found c =
    let here = page_here c.args.slots.now.items c.args.page c.index.result.now c.requires.exists c.index.ensures in
    sym (ap answer (here ∙ ap slot_page c.in-Erased.is))

pub returns-in-Erased-clause-bytes : goal.returns-in-Erased-clause-bytes
returns-in-Erased-clause-bytes c =
    let here = page_here c.args.slots.now.items c.args.page c.index.result.now c.requires.exists c.index.ensures in
    sym (ap (λ (p : Page). filled p c.args.into.now) (here ∙ ap slot_page c.in-Erased.is))

pub returns-in-Torn-clause-found : goal.returns-in-Torn-clause-found
returns-in-Torn-clause-found c =
    let here = page_here c.args.slots.now.items c.args.page c.index.result.now c.requires.exists c.index.ensures in
    sym (ap answer (here ∙ ap slot_page c.in-Torn.is))

pub returns-in-Torn-clause-bytes : goal.returns-in-Torn-clause-bytes
returns-in-Torn-clause-bytes c =
    let here = page_here c.args.slots.now.items c.args.page c.index.result.now c.requires.exists c.index.ensures in
    sym (ap (λ (p : Page). filled p c.args.into.now) (here ∙ ap slot_page c.in-Torn.is))

pub returns-in-Whole-clause-found : goal.returns-in-Whole-clause-found
returns-in-Whole-clause-found c =
    let here = page_here c.args.slots.now.items c.args.page c.index.result.now c.requires.exists c.index.ensures in
    sym (ap answer (here ∙ ap slot_page c.in-Whole.is))

pub returns-in-Whole-clause-bytes : goal.returns-in-Whole-clause-bytes
returns-in-Whole-clause-bytes c =
    let here = page_here c.args.slots.now.items c.args.page c.index.result.now c.requires.exists c.index.ensures in
    c.fill.ensures ∙ sym (ap (λ (p : Page). filled p c.args.into.now) (here ∙ ap slot_page c.in-Whole.is))
