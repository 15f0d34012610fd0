-- A flash that was just formatted may be frozen.
use Rattle.std.proofs.Common.{◌≡◌, inl, inr, ℕ, [], ◌∷◌, replicate, Some, Ok, false, refl, sym, ap, subst, arith, slice_set}
use Rattle.std.{specs.Prelude.slice_get, specs.FinMap.from_entries}
use Rattle.pk_base.specs.Shape.{Shape, checked, deepest, meta_blocks, limit, data_blocks, charge, greatest}
use Rattle.pk_base.{specs.Page.Flash, specs.Page.page_at, specs.Page.erased, specs.Page.whole, specs.Map.Map}
use Rattle.pk_plan.specs.declared.owner.Owner.TheVariants.{Journal}
use Rattle.pk_jrnfmt.specs.Epoch.{epoch}
use Rattle.pk_meta.specs.Run.{run}
use Rattle.pk_rootfmt.{specs.Root.Root, specs.Root.root_bytes, specs.Root.root_page, specs.Held.Held, specs.Held.first, specs.Newest.newest_root}
use Rattle.pk_model.{specs.Found.Found, specs.Found.found_under, specs.Found.runs_from, specs.Values.values_of, specs.Reading.map_under, specs.RootLimits.root_limits}
use Rattle.pk_pool.{specs.declared.state.BlockState.TheVariants.Owned, specs.Blocks.Blocks, specs.Blocks.unused, specs.Blocks.with_state, specs.Blocks.IsSpare, specs.Blocks.PoolOnFlash}
use Rattle.pk_root.{specs.declared.next.Next.Next, specs.Installing.InstallerOnFlash, specs.Installing.repeats_next}
use Rattle.pk_law_steps.proofs.Places.{In}
use Rattle.pk_compact.{specs.declared.freezing.FreezeJob.TheVariants.Idle, specs.FreezeSteps.IsFreezing}

abbrev pub small : Shape
small = record { page_bytes = 512; block_pages = 16; blocks = 64 }

abbrev pub made : Flash
made = slice_set (replicate 1024 erased) 0 (whole (root_bytes small first))

abbrev pub adopted : Blocks
adopted = with_state (with_state (unused small) 2 (Owned Journal)) 3 (Owned Journal)

abbrev nothing : Found
nothing = record { newest = []; older = []; runs = [] ∷ [] ∷ [] ∷ [] ∷ [] }

abbrev empty : Map
empty = from_entries []

pub small_is : checked small ≡ Ok small
unfolding checked deepest meta_blocks
small_is = refl

pub made_newest : newest_root small (page_at made) ≡ Some (0, first)
unfolding newest_root root_page deepest
made_newest = refl

made_found : found_under small (page_at made) first ≡ Ok nothing
unfolding found_under epoch runs_from run
made_found = refl

made_map : map_under small (page_at made) first nothing [] ≡ Ok empty
unfolding map_under root_limits values_of charge limit data_blocks meta_blocks deepest greatest
made_map = refl

not_named : (b : ℕ) → IsSpare adopted b → In b (2 ∷ 3 ∷ []) → ⊥
not_named b (inl free) (inl e) = let two = ap (λ x. slice_get adopted.states x) e in cc
not_named b (inl free) (inr (inl e)) = let three = ap (λ x. slice_get adopted.states x) e in cc
not_named b (inr ready) (inl e) = let two = ap (λ x. slice_get adopted.states x) e in cc
not_named b (inr ready) (inr (inl e)) = let three = ap (λ x. slice_get adopted.states x) e in cc
not_named b spare (inr (inr none)) = absurd none

is_owned : (b : ℕ) → In b (2 ∷ 3 ∷ []) → slice_get adopted.states b ≡ Some (Owned Journal)
is_owned b (inl e) = ap (λ x. slice_get adopted.states x) e
is_owned b (inr (inl e)) = ap (λ x. slice_get adopted.states x) e
is_owned b (inr (inr none)) = absurd none

abbrev top : ℕ × Root
top = (0, first)

made_may : (next : Next) → repeats_next next ≡ false → PoolOnFlash adopted made → InstallerOnFlash small next top made
    → IsFreezing adopted (record { shape = small; root = first }) next Idle made false top nothing empty
made_may next is_whole pool_fits installs = record {
  pool_shape = refl;
  pool_fits = pool_fits;
  installs = installs;
  whole = is_whole;
  top_is = refl;
  under = record { is_top = made_newest; is_found = made_found; is_map = made_map };
  none_older = refl;
  none_named = refl;
  told = refl;
  number = omega arith;
  room = omega arith;
  owned = is_owned;
  apart = record { unnamed = not_named; no_value = λ b k spare e is. is };
  taken = tt;
  different = refl;
}

pub first_may : (pool : Blocks) (root : Held) (next : Next) (flash : Flash) → root ≡ record { shape = small; root = first }
    → flash ≡ made → pool ≡ adopted → repeats_next next ≡ false → PoolOnFlash pool flash → InstallerOnFlash root.shape next (0, first) flash
    → (x : ℕ × Root) × (f : Found) × (m : Map) × IsFreezing pool root next Idle flash false x f m
first_may pool root next flash root_is flash_is pool_is is_whole pool_fits installs =
    let P : Blocks → Type 0 = λ p. PoolOnFlash p flash in
    let Q : Flash → Type 0 = λ f. PoolOnFlash adopted f in
    let R : Held → Type 0 = λ h. InstallerOnFlash h.shape next (0, first) flash in
    let S : Flash → Type 0 = λ f. InstallerOnFlash small next (0, first) f in
    let may = made_may next is_whole (subst Q flash_is (subst P pool_is pool_fits)) (subst S flash_is (subst R root_is installs)) in
    let A : Blocks → Type 0 = λ p. IsFreezing p (record { shape = small; root = first }) next Idle made false top nothing empty in
    let B : Held → Type 0 = λ h. IsFreezing pool h next Idle made false top nothing empty in
    let C : Flash → Type 0 = λ f. IsFreezing pool root next Idle f false top nothing empty in
    (top, nothing, empty, subst C (sym flash_is) (subst B (sym root_is) (subst A (sym pool_is) may)))
