-- The values of a drive's map are those at its places, and each namespace keeps within its limit.
use Rattle.std.proofs.Common.{◌≡◌, ℕ, ◌<◌, sym, ap, subst, ◌∙◌, arith, T, List, length}
use Rattle.std.{specs.FinMap.entries, specs.FinMap.Entries.is_sorted}
use Rattle.pk_base.{specs.Key.Key, specs.Key.key_cmp, specs.Shape.Shape, specs.Shape.IsShape, specs.Page.Flash, specs.Page.page_at, specs.Page.whole, specs.Entry.Place, specs.Map.Map}
use Rattle.pk_base.proofs.KeyLemmas.{firsts_sorted}
use Rattle.pk_rootfmt.specs.Root.{Root, named}
use Rattle.pk_model.{specs.Found.Found, specs.Found.entries_in_order, specs.RootLimits.root_limits, specs.Values.KeepsWithin, proofs.HeldMap.nothing_fits, proofs.Merges.placed_sorted}
use Rattle.pk_model.proofs.ValueSets.{values_sound, Reads}
use Rattle.pk_law_steps.{specs.Under.counting, specs.Under.places, proofs.Counting.sorted_read, proofs.Counting.entries-rising, proofs.Untouched.Values, proofs.Untouched.values_under}
use Rattle.pk_parts.{specs.Parts.Parts, specs.Agreeing.DriveOnFlashWith}

module _ (d : Parts) (shape : Shape) (flash : Flash) (top : ℕ × Root) (found : Found) (without all : Map) (a : DriveOnFlashWith d shape flash top found without all) where
  abbrev its_places : List (Key × Place)
  its_places = places found d.log.pending

  is_shape : IsShape shape
  is_shape = a.placed.is_shape

  pub places_rise : T (is_sorted key_cmp its_places)
  places_rise = placed_sorted (counting found d.log.pending) (firsts_sorted (entries_in_order found d.log.pending))

  values : Values shape flash d.log.pending top.1 found all
  values = values_under shape flash d.log.pending top.1 found all a.pending.is_map

  pub page_sizes : (k : ℕ) (bytes : List ℕ) → page_at flash k ≡ whole bytes → length bytes ≡ shape.page_bytes
  page_sizes k bytes is = (a.is_flash.full k bytes is).0

  pub some_bytes : 0 < shape.page_bytes
  some_bytes = let least = is_shape.page_least in omega (arith, least)

  -- each namespace keeps within its limit
  pub places_within : KeepsWithin shape (root_limits shape top.1) its_places
  places_within = (values_sound shape (named top.1) (page_at flash) (root_limits shape top.1) its_places values.values (nothing_fits shape (named top.1)) values.read).within

  pub map_reads : Reads shape (named top.1) (page_at flash) its_places (entries all)
  map_reads =
      let vs = values.values in
      let read = (values_sound shape (named top.1) (page_at flash) (root_limits shape top.1) its_places vs (nothing_fits shape (named top.1)) values.read).read in
      let same : entries all ≡ vs = ap (λ (m : Map). entries m) (sym values.whole_map) ∙ entries-rising vs (sorted_read shape (named top.1) (page_at flash) its_places vs read places_rise) in
      subst (Reads shape (named top.1) (page_at flash) its_places) (sym same) read
