use Rattle.std.proofs.Common.{◌≡◌, ◌≤◌, ◌<◌, ◌∙◌, ℕ, List, length, ap, sym, subst, arith}
use Rattle.pk_base.specs.Fields.{padded}
use Rattle.pk_file.{specs.Slots.slot_page, proofs.Slotting.page_here, proofs.Logging.front_short, proofs.Logging.front_is}
use Rattle.pk_file.proofs.logged.SlotPagesPages.front.Goals as goal

pub returns-in-Whole-clause-short : goal.returns-in-Whole-clause-short
returns-in-Whole-clause-short c =
    let slots = c.args.self.now.slots.now.items in
    let inside : c.args.page < length slots = omega (arith, c.requires, c.args.self.now.count) in
    let here = page_here slots c.args.page c.index.result.now inside c.index.ensures in
    let P : List ℕ → Type 0 = λ l. length l ≤ c.args.self.now.shape.page_bytes in
    subst P (sym c.as_slice.ensures.value) (front_short c.args.self.now.shape slots c.args.page c.in-Whole.kept c.args.self.now.fit (here ∙ ap slot_page c.in-Whole.is))

pub returns-in-Whole-clause-page : goal.returns-in-Whole-clause-page
returns-in-Whole-clause-page c own owns =
    let slots = c.args.self.now.slots.now.items in
    let inside : c.args.page < length slots = omega (arith, c.requires, c.args.self.now.count) in
    let here = page_here slots c.args.page c.index.result.now inside c.index.ensures in
    front_is c.args.self.now.shape slots c.args.page c.in-Whole.kept c.args.self.now.fit (here ∙ ap slot_page c.in-Whole.is) own owns
    ∙ ap (λ (l : List ℕ). padded c.args.self.now.shape.page_bytes l) (sym c.as_slice.ensures.value)
