use Rattle.std.proofs.Common.{arith, rules, inl, ap, sym, subst, Some, option_copied}
use Rattle.std.proofs.lemmas.Grind.{common_steps}
use Rattle.pk_base.{specs.Page.IsFlash, specs.Mark.erase}
use Rattle.pk_nand.{specs.Seen.states, specs.BoardState.shape_or_none, proofs.Leaving.IsFlash-after, proofs.Leaving.IsFlash-interrupted, proofs.Leaving.full_erase}
use Rattle.pk_flash.{specs.Plan.left_of, proofs.RowLemmas.row_erased, proofs.RowLemmas.row_left, proofs.RowLemmas.row_outcome}
use Rattle.pk_flash.proofs.calls.erase_block.Goals as goal

pub returns-in-None-clause-pages : goal.returns-in-None-clause-pages
returns-in-None-clause-pages c =
    row_erased (shape_or_none c.args.shape.now) c.args.block c.block_pages_of-count.result
    (states c.args.pages.now.items) (states c.choose_row.new.pages.items) c.block_pages_of-count.ensures.value c.requires
    c.block_pages_of-count.ensures.some (rw c.in-None.is at c.choose_row.ensures)

pub returns-in-None-clause-flash : goal.returns-in-None-clause-flash
returns-in-None-clause-flash c flash =
    let shape = shape_or_none c.args.shape.now in
    subst (IsFlash shape) (sym (returns-in-None-clause-pages c)) (IsFlash-after shape (erase c.args.block) (states c.args.pages.now.items) (full_erase shape c.args.block) flash)

pub returns-in-None-clause-exact : goal.returns-in-None-clause-exact
returns-in-None-clause-exact c = record {
  answer = search rules;
  pages = λ _. row_outcome (shape_or_none c.args.shape.now) c.args.block c.block_pages_of-count.result
      (states c.args.pages.now.items) (states c.choose_row.new.pages.items) c.block_pages_of-count.ensures.value c.requires
      c.block_pages_of-count.ensures.some (left_of (option_copied c.args.left)) c.choose_row.ensures;
  noted = search rules;
  refused = grind (arith, common_steps);
}

pub returns-in-Some-clause-exact : goal.returns-in-Some-clause-exact
returns-in-Some-clause-exact c = record {
  answer = search rules;
  pages = λ _. row_outcome (shape_or_none c.args.shape.now) c.args.block c.block_pages_of-count.result
      (states c.args.pages.now.items) (states c.choose_row.new.pages.items) c.block_pages_of-count.ensures.value c.requires
      c.block_pages_of-count.ensures.some (left_of (option_copied c.args.left)) c.choose_row.ensures;
  noted = search rules;
  refused = grind (arith, common_steps);
}

pub returns-in-Some-clause-left : goal.returns-in-Some-clause-left
returns-in-Some-clause-left c =
    inl (
      row_left (shape_or_none c.args.shape.now) c.args.block c.block_pages_of-count.result
          (states c.args.pages.now.items) (states c.choose_row.new.pages.items) c.block_pages_of-count.ensures.value c.requires
          c.block_pages_of-count.ensures.some (left_of (option_copied c.args.left)) c.choose_row.ensures,
      ap (λ l. Some l) c.note.ensures.marks,
    )

pub returns-in-Some-clause-flash : goal.returns-in-Some-clause-flash
returns-in-Some-clause-flash c flash =
    let shape = shape_or_none c.args.shape.now in
    IsFlash-interrupted shape (erase c.args.block) (states c.args.pages.now.items) (states c.choose_row.new.pages.items) _ (full_erase shape c.args.block) flash
    (row_left shape c.args.block c.block_pages_of-count.result (states c.args.pages.now.items) (states c.choose_row.new.pages.items) c.block_pages_of-count.ensures.value c.requires
    c.block_pages_of-count.ensures.some (left_of (option_copied c.args.left)) c.choose_row.ensures)
