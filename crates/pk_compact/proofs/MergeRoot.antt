-- The install of a merge, from its parts.
use Rattle.std.proofs.Common.{◌≡◌, ℕ, zero, suc, ◌+◌, ◌≤◌, List, [], ◌∷◌, T, length, map, slice_set, sym, ap, subst, arith, length-append, Result, Ok, Err}
use Rattle.std.specs.List.{concat}
use Rattle.pk_base.{specs.Shape.Shape, specs.Shape.IsShape, specs.Shape.meta_blocks, specs.Page.page_at, specs.Firsts.firsts, specs.Map.Map}
use Rattle.pk_nand.{specs.declared.types.Fault.Fault, specs.BoardState.BoardState, specs.Calls.IsReady}
use Rattle.pk_rootfmt.{specs.Root.Root, specs.Root.is_root, specs.Held.Held}
use Rattle.pk_model.{specs.Found.Found, specs.Growth.Grows, specs.Growth.Goes, specs.Crashes.CrashFinds, specs.Crashes.background, proofs.Roots.newest_sound, proofs.Commits.root_valid}
use Rattle.pk_root.specs.declared.next.Next.{Next}
use Rattle.pk_law_steps.{specs.Next.IsNext, specs.Merging.merged_root, specs.Merging.merged_found, proofs.FourRuns.IsLevel, proofs.FourRuns.next_is_level, proofs.Following.merged_next}
use Rattle.pk_law_steps.proofs.Amounts.{quota}
use Rattle.pk_compact.{specs.Installing.CanInstall, specs.Installing.IsInstalled, specs.Installing.InstallsRoot, specs.Installing.InstallBreaks, specs.Steps.StepByCall}
use Rattle.pk_compact.{specs.Merging.CanMerge, specs.Merging.HasMerged, specs.Merging.MergesRoot, specs.Merging.MergeBreaks, proofs.Growing.made_by, proofs.Growing.failed_by}

-- a run that is set adds at most its own blocks
pub length_set : (i : ℕ) (new : List ℕ) (runs : List (List ℕ)) → length (concat (slice_set runs i new)) ≤ length (concat runs) + length new
length_set i new [] = omega arith
length_set zero new (bs ∷ runs) = let one = length-append new (concat runs) in let all = length-append bs (concat runs) in omega (arith, one, all)
length_set (suc i) new (bs ∷ runs) = let one = length-append bs (concat (slice_set runs i new)) in let all = length-append bs
    (concat runs) in let rest = length_set i new runs in omega (arith, one, all, rest)

-- the maps for which a merge may be installed
abbrev pub Maps : Held → Next → BoardState → ℕ → ℕ → List ℕ → Type 0
Maps root next old level count taken = (top : ℕ × Root) × (found : Found) × (m : Map) × CanMerge root next old.pages top found m level count taken

module _ (root : Held) (next : Next) (level count : ℕ) (taken : List ℕ) (old : BoardState) (is_shape : IsShape root.shape) where
  abbrev then_root : Root
  then_root = merged_root root.root level count taken

  module _ (top : ℕ × Root) (found : Found) (m : Map) (may : CanMerge root next old.pages top found m level count taken) where
    valid : T (is_root root.shape root.root)
    valid = let P : Root → Type 0 = λ r. T (is_root root.shape r) in subst P may.top_is
        (root_valid root.shape (page_at old.pages top.0) top.1 (newest_sound root.shape (page_at old.pages) top may.under.is_top).there)

    which : IsLevel level
    which = next_is_level root.shape (length (firsts found.older)) (map (λ es. length es) found.runs) level may.merged.next

    pub room_enough : length (concat root.root.runs) + length taken ≤ meta_blocks root.shape
    room_enough = let all = quota root.shape is_shape root.root level count valid which may.few in let size = may.merged.size in omega (arith, all, size)

    can : CanInstall root.shape then_root next old.pages top found (merged_found level found) m
    can = record {
      installs = may.installs;
      under = may.under;
      follows = let P : Root → Type 0 = λ r. IsNext root.shape old.pages [] top found (merged_root r level count taken) (merged_found level found) in
          subst P may.top_is (merged_next root.shape old.pages [] top found m level count taken is_shape may.under may.merged);
    }

  -- ---- by the root that follows

  module _ (held : Held) (followed : held ≡ record root { root = then_root }) where
    held_can : (top : ℕ × Root) (found : Found) (m : Map) → CanMerge root next old.pages top found m level count taken
        → CanInstall held.shape held.root next old.pages top found (merged_found level found) m
    held_can top found m may = let P : Held → Type 0 = λ h. CanInstall h.shape h.root next old.pages top found (merged_found level found) m in subst P (sym followed) (can top found m may)

    pub can_install : Maps root next old level count taken → (top : ℕ × Root) × (found : Found)
        × (then_found : Found) × (m : Map) × CanInstall held.shape held.root next old.pages top found then_found m
    can_install may = (may.0, may.1, merged_found level may.1, may.2, held_can may.0 may.1 may.2 may.3)

    same_shape : held.shape ≡ root.shape
    same_shape = ap (λ h. h.shape) followed

    has_merged : (top : ℕ × Root) (found : Found) (m : Map) → CanMerge root next old.pages top found m level count taken → (next' : Next) (new : BoardState)
        → IsInstalled held.shape held.root (merged_found level found) m old next' new → HasMerged root.shape old top found m level count taken held.root next' new
    has_merged top found m may next' new is =
        let P : Held → Type 0 = λ h. IsInstalled h.shape h.root (merged_found level found) m old next' new in
        let R : Held → Type 0 = λ h. HasMerged root.shape old top found m level count taken h.root next' new in
        let i : IsInstalled root.shape then_root (merged_found level found) m old next' new = subst P followed is in
        subst R (sym followed) (record {
          page = i.page;
          root_is = ap (λ r. merged_root r level count taken) (sym may.top_is);
          under = i.under;
          installs = i.installs;
          half = i.half;
          number = i.number;
          behind = i.behind;
          cuts = i.cuts;
        })

    abbrev Install : Next → BoardState → Result Unit Fault → Type 0
    Install next' new result = StepByCall (λ u. InstallsRoot held.shape held.root next old next' new) (InstallBreaks held.shape held.root next old new) held.shape 1 old new result

    abbrev Merge : Next → BoardState → Result Unit Fault → Type 0
    Merge next' new result = StepByCall (λ u. MergesRoot root next old level count taken held.root next' new) (MergeBreaks root next old level count taken new) root.shape 1 old new result

    module _ (next' : Next) (new : BoardState) where
      ready_by_root : IsReady new held.shape → IsReady new root.shape
      ready_by_root is = let P : Shape → Type 0 = λ s. IsReady new s in subst P same_shape is

      pub merge_step : (result : Result Unit Fault) → Install next' new result → Merge next' new result
      merge_step (Ok u) is =
          made_by (λ top found m may. has_merged top found m may next' new (is.step.ended top found (merged_found level found) m (held_can top found m may)))
          is.step.works is.step.roots_few (ready_by_root is.step.ready) is.calls (subst (λ (s : Shape). Grows s old.pages new.pages) same_shape is.grows)
      merge_step (Err fault) is =
          failed_by (λ top found m may. subst (λ (s : Shape). Goes s old new (CrashFinds s background old.pages m)) same_shape
          (is.step.broken top found (merged_found level found) m (held_can top found m may))) is.step.stops is.step.stopped is.step.roots_few (ready_by_root is.step.ready) is.calls

-- ---- the root that follows has room

pub room_numbered : (root held : Held) (number i : ℕ) (new : List ℕ) → held ≡ record root { root = record root.root { number = number } }
    → length (concat root.root.runs) + length new ≤ meta_blocks root.shape
    → length (concat (slice_set held.root.runs i new)) ≤ meta_blocks held.shape
room_numbered root held number i new made room =
    let P : Held → Type 0 = λ h. length (concat (slice_set h.root.runs i new)) ≤ meta_blocks h.shape in
    subst P (sym made) (let most = length_set i new root.root.runs in omega (arith, most, room))

pub room_set : (root held again : Held) (number i count : ℕ) (new : List ℕ) → held ≡ record root { root = record root.root { number = number } }
    → again ≡ record held { root = record held.root { counts = slice_set held.root.counts i count; runs = slice_set held.root.runs i new } }
    → length (concat root.root.runs) + length new ≤ meta_blocks root.shape → length (concat again.root.runs) ≤ meta_blocks again.shape
room_set root held again number i count new made set_run room =
    let P : Held → Type 0 = λ h. length (concat h.root.runs) ≤ meta_blocks h.shape in
    subst P (sym set_run) (room_numbered root held number i new made room)
