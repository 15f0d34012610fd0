-- A run of the word `make`.
use Rattle.std.proofs.Common.{◌≡◌, inl, inr, ℕ, List, sym, ◌∙◌, ap, arith}
use Rattle.pk_base.specs.Shape.{Shape}
use Rattle.pk_nand.specs.BoardState.{BoardState}
use Rattle.pk_nand.specs.declared.types.LoadFault.{LoadFault}
use Rattle.pk_nand.specs.declared.types.LoadFault.TheVariants.{Fault}
use Rattle.pk_top.{specs.Loads.load_status, specs.Loads.no_memory, specs.Loads.not_loaded, specs.Loads.no_image, specs.Loads.has_image}
use Rattle.pk_top.specs.Makes.{MakeRun, Makes, IsMade}

-- ---- status 0

pub never_done : (fault : LoadFault) → load_status fault ≡ 0 → ⊥
never_done Fault e = omega arith
never_done other e = omega arith

formatted_made : (shape : Shape) (limits : List ℕ) (loaded new : BoardState) (status : ℕ) → status ≡ 0 → Makes shape limits loaded new status → IsMade shape limits new
formatted_made shape limits loaded new status done (inl r) = absurd (never_done r.fault (sym r.tells ∙ done))
formatted_made shape limits loaded new status done (inr m) = elim m.formats [
  | inl f ↦ record { shape_is = ap (λ (s : BoardState). s.shape) f.programs ∙ m.is_made.shape_is; holds = f.holds; limits_are = f.limits_are }
  | inr failed ↦ absurd (let e : status ≡ 6 = failed.0 in omega arith)
]

pub made_drive : (shape : Shape) (limits : List ℕ) (old new : BoardState) (status : ℕ) → MakeRun shape limits old new status → status ≡ 0 → IsMade shape limits new
made_drive shape limits old new status (no_memory is same) done = absurd (let e : status ≡ 7 = is in omega arith)
made_drive shape limits old new status (not_loaded refused) done = absurd (never_done refused.fault (sym refused.tells ∙ done))
made_drive shape limits old new status (has_image there) done = absurd (let e : status ≡ 9 = there.tells in omega arith)
made_drive shape limits old new status (no_image run) done = formatted_made shape limits run.loaded new status done run.makes
