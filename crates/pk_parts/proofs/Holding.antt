-- Levels that have all their pages in frames.
use Rattle.std.proofs.Common.{◌≡◌, inl, inr, ℕ, zero, suc, ◌+◌, ◌-◌, ◌<◌, ◌≤◌, Bool, true, false, cond, if◌then◌else◌, nat_le, List, [], ◌∷◌, length, map, slice_get, refl, ap, sym, subst, ◌∙◌, arith}
use Rattle.std.proofs.Common.{Some}
use Rattle.std.{specs.Prelude.count_by, specs.Prelude.slice_index_or, proofs.lemmas.List.Sums.sum_by-cons}
use Rattle.std.proofs.lemmas.Bool.{cases_lt, le-leb, lt-leb, leb-true}
use Rattle.pk_base.{specs.Shape.Shape, specs.Shape.need, specs.Shape.pinned, specs.Shape.run_pages, specs.Entry.Entry, specs.Map.Map, specs.Page.Flash, proofs.Logic.some_same}
use Rattle.pk_adapt.{specs.Adapted.adapted, proofs.Fitting.is_adapted}
use Rattle.pk_rootfmt.specs.Root.{Root}
use Rattle.pk_pin.specs.Frames.{Frames}
use Rattle.pk_run.specs.Kept.{Kept, empty, is_pinned}
use Rattle.pk_level.specs.Levels.{AreOfLevels, IsLevels, HaveBlocks, RunsOnFlash, reads_through}
use Rattle.pk_level.specs.Arenas.{last_level, page_counts, unfilled, unfilled_from}
use Rattle.pk_model.specs.Found.{Found}
use Rattle.pk_schedule.proofs.Backlogs.{four}
use Rattle.pk_call.specs.Sight.{AreHeldTo, pages_of_each}
use Rattle.pk_parts.specs.Parts.{Parts, counts_of, frames_of, held_by, index_of, most_looks, sight_of}
use Rattle.pk_parts.specs.Agreeing.{DriveOnFlashWith}

-- ---- how many levels have all their pages in frames

-- how many of these runs
abbrev pinned_runs : List Kept → ℕ
pinned_runs rs = count_by (λ held. held) (map is_pinned rs)

one_more : (b : Bool) (x y n : ℕ) → x + y ≡ n → (if b then 0 else 1) + x + (cond b 1 0 + y) ≡ suc n
one_more true x y n e = omega (arith, e)
one_more false x y n e = omega (arith, e)

-- a lookup reads a page of each other run
reads_counted : (rs : List Kept) → reads_through rs + pinned_runs rs ≡ length rs
reads_counted [] = refl
reads_counted (r ∷ rs) =
    let step = sum_by-cons (λ (held : Bool). cond held 1 0) (is_pinned r) (map is_pinned rs) in
    let own = one_more (is_pinned r) (reads_through rs) (pinned_runs rs) (length rs) (reads_counted rs) in
    omega (arith, step, own)

-- those of the pinned levels do
pinned_counted : (shape : Shape) (k level : ℕ) (rs : List Kept) → AreOfLevels shape k level rs → suc k ≤ level + length rs → suc k ≤ level + pinned_runs rs
pinned_counted shape k level [] are within = omega (arith, within)
pinned_counted shape k level (r ∷ rs) are within =
    let rest = pinned_counted shape k (suc level) rs are.1 (omega (arith, within)) in
    let step = sum_by-cons (λ (held : Bool). cond held 1 0) (is_pinned r) (map is_pinned rs) in
    elim (cases_lt k level) [
      | inl above ↦ omega (arith, above)
      | inr pins ↦
          let all : length r.leases ≡ length r.firsts = are.0.frames pins in
          let one : ◌≡◌ {A = ℕ} (cond (is_pinned r) 1 0) 1 = ap (λ (held : Bool). cond {A = ℕ} held 1 0) (le-leb (length r.firsts) (length r.leases) (omega (arith, all))) in
          omega (arith, rest, step, one)
    ]

-- a lookup reads at most a page of each level that has pages without a frame
pub looks_counted : (d : Parts) → IsLevels d.levels → reads_through d.levels.runs ≤ most_looks d
looks_counted d is =
    let all = reads_counted d.levels.runs in
    let four = is.four in
    omega (arith, all, four)

-- none of these is pinned
pub looks_few : (d : Parts) → IsLevels d.levels → most_looks d + d.levels.pinned ≤ 4
looks_few d is =
    let all = reads_counted d.levels.runs in
    let four = is.four in
    let most = is.most in
    let held = pinned_counted d.levels.shape d.levels.pinned 1 d.levels.runs is.each (omega (arith, four, most)) in
    omega (arith, all, four, held)

-- ---- pages without a frame

-- if no page lacks a frame, all runs up to the last one have all theirs
pub held_filled : (last level : ℕ) (rs : List Kept) (i : ℕ) → unfilled_from last level rs ≡ 0 → level + i ≤ last → i < length rs → slice_get (map is_pinned rs) i ≡ Some true
held_filled last level [] i none low inside = absurd (omega (arith, inside))
held_filled last level (r ∷ rs) zero none low inside =
    let here : (if nat_le level last then length r.firsts - length r.leases else 0) ≡ length r.firsts - length r.leases =
    ap (λ (b : Bool). if b then length r.firsts - length r.leases else 0) (le-leb level last (omega (arith, low))) in
    ap (λ (held : Bool). Some held) (le-leb (length r.firsts) (length r.leases) (omega (arith, none, here)))
held_filled last level (r ∷ rs) (suc i) none low inside = held_filled last (suc level) rs i (omega (arith, none)) (omega (arith, low)) (omega (arith, inside))

-- the pinned ones have all theirs
pinned_filled : (shape : Shape) (k level : ℕ) (rs : List Kept) (i : ℕ) → AreOfLevels shape k level rs → level + i ≤ k → i < length rs → slice_get (map is_pinned rs) i ≡ Some true
pinned_filled shape k level [] i are low inside = absurd (omega (arith, inside))
pinned_filled shape k level (r ∷ rs) zero are low inside =
    let all : length r.leases ≡ length r.firsts = are.0.frames (omega (arith, low)) in
    ap (λ (held : Bool). Some held) (le-leb (length r.firsts) (length r.leases) (omega (arith, all)))
pinned_filled shape k level (r ∷ rs) (suc i) are low inside = pinned_filled shape k (suc level) rs i are.1 (omega (arith, low)) (omega (arith, inside))

-- and the other way round
pub filled_held : (last level : ℕ) (rs : List Kept) → ((i : ℕ) → level + i ≤ last → i < length rs → slice_get (map is_pinned rs) i ≡ Some true) → unfilled_from last level rs ≡ 0
filled_held last level [] all = refl
filled_held last level (r ∷ rs) all =
    let rest = filled_held last (suc level) rs (λ i low inside. all (suc i) (omega (arith, low)) (omega (arith, inside))) in
    elim (cases_lt last level) [
      | inl above ↦ rw (lt-leb level last above) (omega (arith, rest))
      | inr within ↦
          let enough = leb-true (length r.firsts) (length r.leases) (some_same (is_pinned r) true (all 0 (omega (arith, within)) (omega arith))) in
          rw (le-leb level last within) (omega (arith, rest, enough))
    ]

-- ---- by what is seen of the drive

-- how many entries each run has
abbrev pub entries_of : List Kept → List ℕ
entries_of rs = map (λ (r : Kept). r.count) rs

-- a run has the pages of its entries
pub pages_are : (shape : Shape) (flash : Flash) (arena : Frames) (rs : List Kept) (bss : List (List ℕ)) (ess : List (List Entry)) → HaveBlocks shape rs bss → RunsOnFlash flash arena rs ess
    → page_counts rs ≡ map (run_pages shape) (entries_of rs)
pages_are shape flash arena [] bss ess have stand = refl
pages_are shape flash arena (r ∷ rs) [] ess have stand = absurd have
pages_are shape flash arena (r ∷ rs) (bs ∷ bss) [] have stand = absurd stand
pages_are shape flash arena (r ∷ rs) (bs ∷ bss) (es ∷ ess) have stand =
    let one : length r.firsts ≡ run_pages shape r.count = stand.0.pages ∙ ap (λ (s : Shape). run_pages s r.count) have.0 in
    let rest = pages_are shape flash arena rs bss ess have.2 stand.1 in
    λ i. one i ∷ rest i

pub counts_of_four : (rs : List Kept) (shape : Shape) → length rs ≡ 4
    → (slice_index_or rs 0 (empty shape 1)).count ∷ (slice_index_or rs 1 (empty shape 2)).count ∷
    (slice_index_or rs 2 (empty shape 3)).count ∷ (slice_index_or rs 3 (empty shape 4)).count ∷ [] ≡ entries_of rs
counts_of_four (a ∷ b ∷ c ∷ d ∷ []) shape e = refl
counts_of_four rs shape e = absurd (omega (arith, e))

few_pinned : (shape : Shape) (frames : ℕ) → pinned shape frames ≤ 4
few_pinned shape frames = few (nat_le (need shape 4) frames) (nat_le (need shape 3) frames) (nat_le (need shape 2) frames) (nat_le (need shape 1) frames)
  where
    few : (a b c d : Bool) → (if a then 4 else if b then 3 else if c then 2 else if d then 1 else 0) ≤ 4
    few false false false true = omega arith
    few a b c d = omega arith

module _ (d : Parts) (shape : Shape) (flash : Flash) (top : ℕ × Root) (found : Found) (without all : Map) (a : DriveOnFlashWith d shape flash top found without all) where
  runs_four : length d.levels.runs ≡ 4
  runs_four = four (index_of d) (frames_of d) flash top found a.index

  -- the last level by the numbers of a Report
  pub last_seen : last_level d.levels (frames_of d) ≡ adapted shape (frames_of d) (pages_of_each shape (counts_of d))
  last_seen =
      let entries = sym (counts_of_four d.levels.runs d.levels.shape runs_four) in
      let pages = pages_are d.log.shape flash d.arena d.levels.runs top.1.runs found.runs a.index.run_blocks a.index.stand in
      (λ i. adapted (a.index.levels_shape i) (frames_of d) (pages i))
      ∙ (λ i. adapted (a.shape_is i) (frames_of d) (map (run_pages (a.shape_is i)) (entries i)))

  pub last_few : adapted shape (frames_of d) (pages_of_each shape (counts_of d)) ≤ 4
  last_few = (is_adapted shape (frames_of d) (pages_of_each shape (counts_of d)) refl (few_pinned shape (frames_of d))).most

  -- every pinned level has all its pages in frames
  pub pinned_all : IsLevels d.levels → AreHeldTo (pinned shape (frames_of d)) (sight_of d)
  pinned_all known level least most =
      let same : pinned shape (frames_of d) ≡ d.levels.pinned = ap (λ (s : Shape). pinned s (frames_of d)) (sym a.shape_is) ∙ sym a.index.levels_pinned in
      let few = few_pinned shape (frames_of d) in
      let long = runs_four in
      pinned_filled d.levels.shape d.levels.pinned 1 d.levels.runs (level - 1) known.each (omega (arith, least, most, same)) (omega (arith, least, most, few, long))

  -- every level that may have frames for all its pages has them if no page lacks one
  pub held_if : unfilled d.levels (frames_of d) ≡ 0 → AreHeldTo (adapted shape (frames_of d) (pages_of_each shape (counts_of d))) (sight_of d)
  held_if none level least most =
      let few = last_few in
      let same = last_seen in
      let long = runs_four in
      held_filled (last_level d.levels (frames_of d)) 1 d.levels.runs (level - 1) none (omega (arith, least, most, same)) (omega (arith, least, most, few, long))

  -- and the other way round
  pub filled_if : AreHeldTo (adapted shape (frames_of d) (pages_of_each shape (counts_of d))) (sight_of d) → unfilled d.levels (frames_of d) ≡ 0
  filled_if held =
      let same = last_seen in
      filled_held (last_level d.levels (frames_of d)) 1 d.levels.runs (λ i low inside.
      let there : suc i - 1 ≡ i = omega arith in
      subst (λ (n : ℕ). slice_get (held_by d) n ≡ Some true) there (held (suc i) (omega arith) (omega (arith, low, same))))
