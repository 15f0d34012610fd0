-- The root after a merge is a valid successor.
use Rattle.std.proofs.Common.{◌≡◌, inl, inr, ℕ, ◌-◌, ◌/◌, refl, T, Bool, true, false, List, [], length, map, nat_le, ◌==◌, ◌||◌, if◌then◌else◌, Ok, leb→le}
use Rattle.pk_base.{specs.Shape.Shape, specs.Shape.IsShape, specs.Page.Page, specs.Page.Flash, specs.Page.page_at, specs.Page.page_in, specs.Entry.Entry, specs.Firsts.firsts, specs.Map.Map}
use Rattle.pk_base.specs.Refusal.{ensure, ◌>>=◌}
use Rattle.pk_jrnfmt.specs.Epoch.{epoch}
use Rattle.pk_rootfmt.specs.Root.{Root, is_root, named}
use Rattle.pk_model.{specs.RootLimits.root_limits, specs.RootLimits.root_spaces, specs.Found.Found, specs.Found.older_epoch, specs.Found.newest_epoch, specs.Found.found_under}
use Rattle.pk_model.{proofs.Roots.newest_sound, proofs.Commits.root_valid, proofs.Commits.values_apart, proofs.Commits.is_any_back}
use Rattle.pk_law_steps.{specs.Under.IsUnder, specs.Under.IsNamed, specs.Under.IsValuePage, specs.Under.places, proofs.Untouched.Values, proofs.Untouched.values_under, proofs.FrozenNext.no_blocks}
use Rattle.pk_law_steps.{proofs.Places.In, specs.Merging.IsMerged, specs.Merging.Merged, specs.Merging.merged_root, specs.Merging.merged_found}
use Rattle.pk_law_steps.proofs.FourRuns.{Runs, IsLevel, FourOf, Pieces, four_of_root, four_runs, next_is_level, pieces_of}
use Rattle.pk_law_steps.proofs.Merging.{runs_after, same_places, either}

-- no older epoch is named, or the former one
older_is : (shape : Shape) (spaces : ℕ) (at : ℕ → Page) (number : ℕ) (one : Bool) (blocks : List ℕ) (es : List Entry)
    → (do
      found ← epoch shape spaces at (number - 1) blocks
      _ ← ensure (length blocks == 0 || nat_le 1 (length found)) (page_in shape blocks 0)
      Ok found) ≡ Ok es
    → (do
      found ← epoch shape spaces at (number - 1) (if one then [] else blocks)
      _ ← ensure (length (if one then [] else blocks) == 0 || nat_le 1 (length found)) (page_in shape (if one then [] else blocks) 0)
      Ok found) ≡ Ok (if one then [] else es)
older_is shape spaces at number true blocks es was = let none = no_blocks shape spaces at (number - 1) in rw none refl
older_is shape spaces at number false blocks es was = was

module _ (shape : Shape) (flash : Flash) (extra : List Entry) (top : ℕ × Root) (found : Found) (m : Map) (level count : ℕ) (taken : List ℕ) (is_shape : IsShape shape)
    (before : IsUnder shape flash extra top found m) (is : IsMerged shape flash extra top found level count taken) where
  abbrev root : Root
  root = top.1

  valid : T (is_root shape root)
  valid = root_valid shape (page_at flash top.0) root (newest_sound shape (page_at flash) top before.is_top).there

  is_level : IsLevel level
  is_level = next_is_level shape (length (firsts found.older)) (map (λ es. length es) found.runs) level is.next

  four : FourOf shape root.counts root.runs
  four = four_of_root shape root valid

  values : Values shape flash extra root found m
  values = values_under shape flash extra root found m before.is_map

  pieces : Pieces shape (page_at flash) root found
  pieces = pieces_of shape (page_at flash) root found before.is_found

  lists : Runs shape (root_spaces shape root) (page_at flash) root.counts root.runs found.runs
  lists = four_runs shape (root_spaces shape root) (page_at flash) root.counts root.runs found.runs four.counts four.runs pieces.runs

  is_found : found_under shape (page_at flash) (merged_root root level count taken) ≡ Ok (merged_found level found)
  unfolding found_under root_limits
  is_found =
      let older : older_epoch shape (page_at flash) (merged_root root level count taken) ≡ Ok
      (if level == 1 then [] else found.older) = older_is shape (root_spaces shape root) (page_at flash) root.epoch (level == 1) root.older found.older pieces.older in
      let newest : newest_epoch shape (page_at flash) (merged_root root level count taken) ≡ Ok found.newest = pieces.newest in
      let runs = runs_after shape (root_spaces shape root) (page_at flash) found.newest found.older root.counts root.runs found.runs lists count taken level is_level is.stands in
      rw (older, newest, runs) refl

  -- no value is in a block that the root names
  outside : (k : ℕ) → IsValuePage shape (places found extra) k → IsNamed shape (merged_root root level count taken) k → ⊥
  outside k value among =
      let b = k / shape.block_pages in
      let former : In b (named root) → ⊥ = λ there. values_apart shape (page_at flash) (root_limits shape root) (named root) [] (places found extra) values.values values.read k value (is_any_back b (named root) there) in
      elim (either root level count taken four.runs is_level b among) [ inl fresh ↦ is.outside k value fresh | inr was ↦ former was ]

pub merged_next : Merged
merged_next shape flash extra top found m level count taken is_shape before is =
    let four = lists shape flash extra top found m level count taken is_shape before is in
    let level_is = is_level shape flash extra top found m level count taken is_shape before is in
    record {
      grammar = is.grammar;
      is_found = is_found shape flash extra top found m level count taken is_shape before is;
      room = leb→le _ _ (values shape flash extra top found m level count taken is_shape before is).room;
      same_places = same_places found.newest extra found.older found.runs four.r1 four.r2 four.r3 four.r4 four.lists_are level level_is;
      outside = outside shape flash extra top found m level count taken is_shape before is;
      step = inr (record { level = level; taken = taken; number = refl; next = is.next; epoch = refl; newest = (refl, refl); older = (refl, refl); limits = refl; blocks = refl; runs = refl });
    }
