-- No reading uses the blocks that a merge frees.
use Rattle.std.proofs.Common.{◌≡◌, ℕ, zero, suc, ◌/◌, sym, subst, List, [], ◌∷◌, length, map, slice_index_or}
use Rattle.std.specs.List.{concat}
use Rattle.pk_base.{specs.Page.page_at, specs.Firsts.firsts}
use Rattle.pk_rootfmt.specs.Root.{named}
use Rattle.pk_model.{proofs.SamePages.any_front, proofs.SamePages.any_back, proofs.Roots.newest_sound, specs.RootLimits.root_limits}
use Rattle.pk_model.proofs.Commits.{blocks_of_root, root_valid, values_apart, is_any_back}
use Rattle.pk_law_steps.{specs.Under.IsValuePage, specs.Under.places, proofs.Untouched.values_under, proofs.Places.In}
use Rattle.pk_law_steps.{specs.Merging.Freed, proofs.FourRuns.four_of_root, proofs.FourRuns.next_is_level, proofs.Merging.was_named, proofs.Merging.only, proofs.Following.merged_next}

-- a block of one run is a block of the runs
pub in_one : (b i : ℕ) (runs : List (List ℕ)) → In b (slice_index_or runs i []) → In b (concat runs)
in_one b i [] is = absurd is
in_one b zero (bs ∷ runs) is = any_front (λ c. b ≡ c) bs (concat runs) is
in_one b (suc i) (bs ∷ runs) is = any_back (λ c. b ≡ c) bs (concat runs) (in_one b i runs is)

pub freed : Freed
freed shape flash extra top found m level count taken b is_shape before is was =
    let root = top.1 in
    let next = merged_next shape flash extra top found m level count taken is_shape before is in
    let valid = root_valid shape (page_at flash top.0) root (newest_sound shape (page_at flash) top before.is_top).there in
    let four = (four_of_root shape root valid).runs in
    let which = next_is_level shape (length (firsts found.older)) (map (λ es. length es) found.runs) level is.next in
    let former : In b (named root) = was_named root level count taken four which b was in
    let values = values_under shape flash extra root found m before.is_map in (
      λ among. is.fresh b (only root level count taken four which (blocks_of_root shape root valid).different b was among) former,
      λ k here value. values_apart shape (page_at flash) (root_limits shape root) (named root) [] (places found extra) values.values values.read k (subst (λ es. IsValuePage shape es k) next.same_places value)
          (is_any_back (k / shape.block_pages) (named root) (subst (λ x. In x (named root)) (sym here) former)),
    )
