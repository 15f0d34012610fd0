use Rattle.std.proofs.Common.{List, ◌<◌, ◌∙◌, length, sym, ap, subst, arith}
use Rattle.std.proofs.lemmas.List.Elements.{All-nil}
use Rattle.pk_base.specs.Page.{page_at}
use Rattle.pk_nand.{specs.Seen.states, specs.declared.types.PageState.PageState}
use Rattle.pk_scan.proofs.Boards.{stays_same, stays_both}
use Rattle.pk_dump.{specs.Pages.AreFull, proofs.ReadPages.states_next, proofs.ReadPages.full_next}
use Rattle.pk_dump.proofs.pages.read_pages.Goals as goal

pub loop-page-init : goal.loop-page-init
loop-page-init g c = record {
  board = stays_same _ _ c.requires.ready;
  buffer = c.requires.room;
  so_far = ap states c.in-Ok.ensures.items;
  full = subst (λ xs. AreFull c.args.shape.now xs) (sym c.in-Ok.ensures.items) (All-nil _);
}

pub loop-page-preserved : goal.loop-page-preserved
loop-page-preserved g c =
    let l = c.loop-page.invariant in
    let inside : c.loop-page.page < length (g.B.Nand.state c.args.board.now).pages = omega (arith, c.loop-page-test.true, c.page_count-count.ensures.value, c.requires.ready.flash.size) in
    let found = c.in-Ok-read_page.ensures.found ∙ ap (λ flash. page_at flash c.loop-page.page) l.board.pages in
    record {
      board = stays_both _ _ _ _ l.board c.in-Ok-read_page.ensures.board;
      buffer = c.in-Ok-read_page.ensures.buffer ∙ l.buffer;
      so_far = ap states c.in-Ok-push.ensures.items ∙ states_next _ _ _ _ inside l.so_far found;
      full = subst (λ xs. AreFull c.args.shape.now xs) (sym {A = List PageState} c.in-Ok-push.ensures.items) (full_next c.args.shape.now _ _ l.full c.in-Ok-read_page.ensures.full);
    }
