-- Memory into which nothing was read.
use Rattle.std.proofs.Common.{◌≡◌, ℕ, ◌≤◌, Bool, false, not, cond, List, replicate, sym, ap, subst, ◌∙◌, arith}
use Rattle.std.{specs.Prelude.count_by, proofs.lemmas.List.Folds.sum_by-replicate}
use Rattle.pk_base.specs.Shape.{Shape, pinned}
use Rattle.pk_pin.specs.Frames.{Frames, free_frames}
use Rattle.pk_level.specs.Levels.{Levels, no_runs}
use Rattle.pk_scan.{specs.OpeningParts.wanted_behind, proofs.Wanted.pinned_wants}

all_free : (n : ℕ) → count_by not (replicate n false) ≡ n
all_free n = let sum = sum_by-replicate (λ b. cond {A = ℕ} (not b) 1 0) n false in omega (arith, sum)

-- no frame is leased, so those that are wanted are free
pub frames_enough : (shape : Shape) (frames : ℕ) (levels : Levels) (arena : Frames) → levels ≡ no_runs shape (pinned shape frames)
    → arena.used ≡ replicate frames false → wanted_behind shape levels.pinned 0 ≤ free_frames arena
frames_enough shape frames levels arena levels_are none =
    let free : free_frames arena ≡ frames = ap (λ (us : List Bool). count_by not us) none ∙ all_free frames in
    let wants = pinned_wants shape frames in
    subst (λ (l : Levels). wanted_behind shape l.pinned 0 ≤ free_frames arena) (sym levels_are) (omega (arith, wants, free))
