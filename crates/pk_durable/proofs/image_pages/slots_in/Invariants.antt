use Rattle.std.proofs.Common.{◌≡◌, length}
use Rattle.pk_image.specs.Image.{pages_in_file}
use Rattle.pk_file.specs.Slots.{pages_of, AllFit}
use Rattle.pk_durable.proofs.image_pages.slots_in.Given as goal

abbrev pub invariant-loop-page : goal.invariant-loop-page
invariant-loop-page l = record {
  pages : pages_of l.slots.items ≡ pages_in_file l.shape l.file 0 l.page;
  count : length l.slots.items ≡ l.page;
  fit : AllFit l.shape l.slots.items;
}
