use Rattle.std.proofs.Common.{◌≡◌, ℕ, ◌<◌, length, slice_index}
use Rattle.pk_base.specs.Page.{page_at}
use Rattle.pk_image.specs.Image.{state_byte}
use Rattle.pk_redo.proofs.checkpoints.note_states.Given as goal

abbrev pub invariant-loop-page : goal.invariant-loop-page
invariant-loop-page g l = record {
  len : length l.states ≡ length l.fn.states;
  noted : (k : ℕ) → k < l.page → slice_index l.states k ≡ state_byte (page_at (g.P.Pages.flash_of l.pages) k);
}
