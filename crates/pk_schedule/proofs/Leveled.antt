-- The run of each level, and the frames that a merge into it finds free.
use Rattle.std.proofs.Common.{◌≡◌, inl, inr, ℕ, zero, suc, ◌+◌, ◌-◌, ◌*◌, ◌<◌, ◌≤◌, true, T, List, [], ◌∷◌, length, nat_le, sym, subst, arith, leb→le, take, mul-le-mul_right, le_trans}
use Rattle.std.{specs.Prelude.slice_index, specs.Prelude.slice_index_or, specs.Prelude.max, specs.Prelude.fold, specs.List.AllByRecursion, specs.List.concat}
use Rattle.pk_base.{specs.Shape.Shape, specs.Shape.cap, specs.Shape.caps, specs.Shape.page_entries, specs.Shape.pinned, specs.Merge.room}
use Rattle.pk_model.proofs.SamePages.{any_front, any_back}
use Rattle.pk_pin.specs.Frames.{Frames, free_frames}
use Rattle.pk_run.specs.Kept.{Kept, IsKept}
use Rattle.pk_level.{specs.Levels.Levels, specs.Levels.IsLevels, specs.Levels.IsOfLevel, specs.Levels.AreOfLevels, specs.Levels.HaveBlocks, specs.Levels.run_of, specs.Arenas.HasArena}
use Rattle.pk_level.proofs.Filling.{frames_fit}
use Rattle.pk_law_steps.{proofs.FourRuns.IsLevel, proofs.Places.In}

-- a run of a level, which keeps within it
pub record Fit (shape : Shape) (level : ℕ) (r : Kept) : Type 0 where
  pub same_shape : r.shape ≡ shape
  pub same_level : r.level ≡ level
  pub pages : length r.firsts ≤ cap shape level
  pub entries : r.count ≤ room shape level

fit_of : (shape : Shape) (pinned level : ℕ) (r : Kept) → IsOfLevel shape pinned level r → IsKept r → Fit shape level r
fit_of shape pinned level r o k =
    let few : length r.firsts ≤ cap shape level = subst (λ (l : ℕ). length r.firsts ≤ cap shape l) o.same_level (subst (λ (s : Shape). length r.firsts ≤ cap s r.level) o.same_shape k.pages) in
    let many : r.count ≤ length r.firsts * page_entries shape = subst (λ (s : Shape). r.count ≤ length r.firsts * page_entries s) o.same_shape k.entries in
    record { same_shape = o.same_shape; same_level = o.same_level; pages = few; entries = le_trans many (mul-le-mul_right (page_entries shape) few) }

fits_at : (shape : Shape) (pinned level : ℕ) (rs : List Kept) (i : ℕ) (d : Kept) → i < length rs
    → AreOfLevels shape pinned level rs → AllByRecursion IsKept rs → Fit shape (level + i) (slice_index_or rs i d)
fits_at shape pinned level [] i d inside of_levels kept = absurd (omega (arith, inside))
fits_at shape pinned level (r ∷ rs) zero d inside of_levels kept = subst (λ (l : ℕ). Fit shape l r) (omega arith) (fit_of shape pinned level r of_levels.0 kept.0)
fits_at shape pinned level (r ∷ rs) (suc i) d inside of_levels kept = subst (λ (l : ℕ). Fit shape l (slice_index_or rs i d))
    (omega arith) (fits_at shape pinned (suc level) rs i d (omega (arith, inside)) of_levels.1 kept.1)

pub run_fits : (levels : Levels) (level : ℕ) → IsLevels levels → AllByRecursion IsKept levels.runs → 1 ≤ level → level ≤ 4 → Fit levels.shape level (run_of levels level)
run_fits levels level is kept least most =
    let four = is.four in
    subst (λ (l : ℕ). Fit levels.shape l (run_of levels level)) (omega (arith, least)) (fits_at levels.shape levels.pinned 1 levels.runs (level - 1) _ (omega (arith, four, least, most)) is.each kept)

-- its blocks are named
pub run_blocks_in : (shape : Shape) (rs : List Kept) (bss : List (List ℕ)) (i : ℕ) (d : Kept) → i < length rs
    → HaveBlocks shape rs bss → (b : ℕ) → In b (slice_index_or rs i d).blocks → In b (concat bss)
run_blocks_in shape [] bss i d inside have b is = absurd (omega (arith, inside))
run_blocks_in shape (r ∷ rs) [] i d inside have b is = absurd have
run_blocks_in shape (r ∷ rs) (bs ∷ bss) zero d inside have b is = any_front (λ y. b ≡ y) bs (concat bss) (subst (λ (xs : List ℕ). In b xs) have.1 is)
run_blocks_in shape (r ∷ rs) (bs ∷ bss) (suc i) d inside have b is = any_back (λ y. b ≡ y) bs (concat bss) (run_blocks_in shape rs bss i d (omega (arith, inside)) have.2 b is)

-- ---- frames

-- the output of a merge into one of the pinned levels has no more pages than the largest of them
abbrev AllFit : Shape → ℕ → ℕ → Type 0
AllFit shape p level = cap shape level ≤ fold max 0 (take p (caps shape))

most_least : (a : ℕ) (xs : List ℕ) → a ≤ fold max a xs
most_least a [] = omega arith
most_least a (x ∷ xs) = let rest = most_least (max a x) xs in omega (arith, rest)

most_of : (a : ℕ) (xs : List ℕ) (p i : ℕ) → i < p → slice_index xs i ≤ fold max a (take p xs)
most_of a [] p i less = omega arith
most_of a (x ∷ xs) zero i less = absurd (omega (arith, less))
most_of a (x ∷ xs) (suc p) zero less = let rest = most_least (max a x) (take p xs) in omega (arith, rest)
most_of a (x ∷ xs) (suc p) (suc i) less = most_of (max a x) xs p i (omega (arith, less))

needed : (shape : Shape) (p level : ℕ) → IsLevel level → level ≤ p → AllFit shape p level
needed shape p level (inl e) within = subst (λ (l : ℕ). AllFit shape p l) (sym e) (most_of 0 (caps shape) p 0 (omega arith))
needed shape p level (inr (inl e)) within = subst (λ (l : ℕ). AllFit shape p l) (sym e) (most_of 0 (caps shape) p 1 (omega arith))
needed shape p level (inr (inr (inl e))) within = subst (λ (l : ℕ). AllFit shape p l) (sym e) (most_of 0 (caps shape) p 2 (omega arith))
needed shape p level (inr (inr (inr e))) within = subst (λ (l : ℕ). AllFit shape p l) (sym e) (most_of 0 (caps shape) p 3 (omega arith))

-- if no merge runs, there are frames for the output of one into a pinned level
pub frames_left : (shape : Shape) (frames : ℕ) (levels : Levels) (arena : Frames) (level : ℕ) → IsLevels levels
    → AllByRecursion IsKept levels.runs → levels.shape ≡ shape → levels.pinned ≡ pinned shape frames
    → HasArena shape frames levels arena [] → IsLevel level → nat_le level (pinned shape frames) ≡ true → cap shape level ≤ free_frames arena
frames_left shape frames levels arena level is kept same pins has is_level within =
    let p : ℕ = pinned shape frames in
    let below : level ≤ p = leb→le _ _ (subst T (sym within) tt) in
    let enough = needed shape p level is_level below in
    let free = frames_fit levels frames arena is kept (subst (λ (s : Shape). HasArena s frames levels arena []) (sym same) has) in
    let wanted : fold max 0 (take levels.pinned (caps levels.shape)) ≡ fold max 0 (take p (caps shape)) = λ i. fold max 0 (take (pins i) (caps (same i))) in
    omega (arith, enough, free, wanted)
