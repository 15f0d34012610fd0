-- A valid successor does not change the map, at any cut of its install.
use Rattle.std.proofs.Common.{◌≡◌, inl, inr, ℕ, ◌/◌, ◌<◌, sym, ap, subst, ◌∙◌, T, true, List, [], length, ◌==◌, not, Some, Ok, le→leb, ◌⊎◌}
use Rattle.std.specs.List.{AllByRecursion, list_any}
use Rattle.pk_base.{specs.Shape.Shape, specs.Shape.IsShape, specs.Page.Flash, specs.Page.page_at, specs.Page.SameBehind, specs.Entry.Entry, specs.Entry.Place, specs.Firsts.firsts}
use Rattle.pk_base.{specs.EntryChecks.IsEntry, specs.Key.Key, specs.Map.Map, proofs.ShapeLemmas.block_pages_positive, proofs.Logic.is_true, proofs.Logic.both}
use Rattle.pk_space.specs.Entries.{in_spaces}
use Rattle.pk_rootfmt.{specs.Root.Root, specs.Root.named, specs.Newest.newest_root}
use Rattle.pk_model.{specs.RootLimits.root_limits, specs.Found.Found, specs.Found.found_under, specs.Found.entries_in_order, specs.Reading.may_add, specs.Reading.map_under, proofs.Roots.newest_sound}
use Rattle.pk_model.{specs.Values.placed, specs.Values.values_of, specs.Values.all_pages, specs.Values.KeepsWithin, specs.Laws.AnyByRecursion, specs.Laws.IsPageOf, proofs.RootLimits.limits_alike}
use Rattle.pk_model.{proofs.SamePages.values_same, proofs.SamePages.map_under_same, proofs.RootAlone.found_alone, proofs.RootAlone.values_behind, proofs.Commits.root_valid}
use Rattle.pk_model.{proofs.Entries.counting_all, proofs.Entries.journal_are, proofs.Entries.meta_are, proofs.HeldMap.nothing_fits, specs.Tree.TreeFreezes, specs.Tree.Merges}
use Rattle.pk_model.proofs.ValueSets.{values_sound, values_complete, fits_parts, parts_fit}
use Rattle.pk_law_steps.{specs.Under.IsUnder, specs.Under.places, proofs.Untouched.Values, proofs.Untouched.values_under}
use Rattle.pk_law_steps.proofs.Places.{In, all_of, any_in_back, in_value, not_of}
use Rattle.pk_law_steps.specs.Next.{IsNext, Installed, Installs, tree_of}

module _ (shape : Shape) (flash new : Flash) (extra : List Entry) (top : ℕ × Root) (found : Found) (m : Map) (is_shape : IsShape shape) (entries : AllByRecursion (IsEntry shape) extra)
    (before : IsUnder shape flash extra top found m) (behind : SameBehind shape flash new) where
  positive : 0 < shape.block_pages
  positive = block_pages_positive shape is_shape

  -- the values of the map are not in the root blocks
  values_stay : (k : ℕ) → AnyByRecursion (λ e. IsPageOf shape k e.1) (placed (firsts (entries_in_order found extra))) → page_at new k ≡ page_at flash k
  values_stay k is = behind k (values_behind shape (firsts (entries_in_order found extra))
      (counting_all (IsEntry shape) shape (page_at flash) (λ k number index bytes es stands read. journal_are shape number index bytes es read)
      (λ k level index count bytes es stands read. meta_are shape level index count bytes es read) top.1 found extra before.is_found entries) k is)

  -- if the newest root is the former
  pub stays : newest_root shape (page_at new) ≡ Some top → IsUnder shape new extra top found m
  stays is_top = record {
    is_top = is_top;
    is_found = found_alone shape is_shape (page_at flash) (page_at new) behind top.1 (root_valid shape (page_at flash top.0) top.1 (newest_sound shape (page_at flash) top before.is_top).there)
        ∙ before.is_found;
    is_map = map_under_same shape (page_at flash) (page_at new) top.1 found extra values_stay ∙ before.is_map;
  }

  -- and if it is one that may follow
  module _ (page : ℕ) (root : Root) (then_found : Found) (next : IsNext shape flash extra top found root then_found) where
    abbrev es : List (Key × Place)
    es = places found extra

    values : Values shape flash extra top.1 found m
    values = values_under shape flash extra top.1 found m before.is_map

    same_limits : root_limits shape root ≡ root_limits shape top.1
    same_limits = limits_alike shape top.1 root (kept_limits next.step)
      where
        kept_limits : TreeFreezes (tree_of top.1 found) (tree_of root then_found) ⊎ Merges shape (tree_of top.1 found) (tree_of root then_found) → root.limits ≡ top.1.limits
        kept_limits (inl step) = step.limits
        kept_limits (inr step) = step.limits

    still : found_under shape (page_at new) root ≡ Ok then_found
    still = found_alone shape is_shape (page_at flash) (page_at new) behind root (subst T (sym next.grammar) tt) ∙ next.is_found

    -- no value is in a block that the root names
    apart : (k : ℕ) → In k (all_pages shape es) → T (not (list_any (λ b. b == k / shape.block_pages) (named root)))
    apart k is = not_of (list_any (λ b. b == k / shape.block_pages) (named root)) (λ t. next.outside k (in_value shape es k is) (any_in_back (k / shape.block_pages) (named root) t))

    read : values_of shape (page_at new) (root_limits shape root) (named root) [] es ≡ Ok values.values
    read =
        let moved : values_of shape (page_at new) (root_limits shape top.1) (named top.1) [] es ≡ Ok values.values =
        values_same shape (page_at flash) (page_at new) (root_limits shape top.1) (named top.1) [] es values_stay ∙ values.read in
        let there = values_sound shape (named top.1) (page_at new) (root_limits shape top.1) es values.values (nothing_fits shape (named top.1)) moved in
        let parts = fits_parts shape (named top.1) (all_pages shape es) (subst T (sym there.placed_well) tt) in
        let fit = parts_fit shape (named root) (all_pages shape es) (search (all_of (λ p. not (list_any (λ b. b == p / shape.block_pages) (named root))) (all_pages shape es) apart)) in
        values_complete shape (named root) (page_at new) (root_limits shape root) es values.values
        (record { placed_well = is_true _ fit; within = subst (λ limits. KeepsWithin shape limits es) (sym same_limits) there.within; read = there.read })

    is_map : map_under shape (page_at new) root then_found extra ≡ Ok m
    unfolding map_under
    is_map =
        let again : values_of shape (page_at new) (root_limits shape root) (named root) [] (placed (firsts (entries_in_order then_found extra)))
        ≡ Ok values.values = ap (values_of shape (page_at new) (root_limits shape root) (named root) []) next.same_places ∙ read in
        let room : may_add shape root then_found extra ≡ true = is_true _
        (both _ _ (le→leb _ _ next.room) (subst (λ limits. T (in_spaces (length limits) extra)) (sym same_limits) values.spaced)) in
        rw (room, again) (λ i. Ok (values.whole_map i))

    pub follows : newest_root shape (page_at new) ≡ Some (page, root) → IsUnder shape new extra (page, root) then_found m
    follows is_top = record { is_top = is_top; is_found = still; is_map = is_map }

pub installed : Installed
installed shape flash new extra top page found root then_found m is_shape entries before next is_top behind =
    let there = follows shape flash new extra top found m is_shape entries before behind page root then_found next is_top in (
      there,
      record {
        from = tree_of top.1 found;
        to = tree_of root then_found;
        was = record { page_of_root = top.0; is_newest = before.is_top; is_found = before.is_found };
        is = record { page_of_root = page; is_newest = is_top; is_found = there.is_found };
        step = next.step;
      },
    )

pub installs : Installs
installs shape flash cut extra top page found root then_found m is_shape entries before next either behind = elim either [
  | inl former ↦ inl (stays shape flash cut extra top found m is_shape entries before behind (former ∙ before.is_top))
  | inr new ↦ inr (follows shape flash cut extra top found m is_shape entries before behind page root then_found next new)
]
