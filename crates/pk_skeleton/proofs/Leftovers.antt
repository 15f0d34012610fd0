-- What a call that failed left of the flash, with its trail and without one.
use Rattle.std.proofs.Common.{◌≡◌, ◌⊎◌, inl, inr, List, [], Option, None, refl, sym, subst}
use Rattle.pk_base.{specs.Shape.Shape, specs.Page.Flash, specs.Mark.Mark}
use Rattle.pk_nand.{specs.Cut.Interrupted, specs.Calls.LeftBehind, proofs.CutLemmas.interrupted_none}

-- a board that records no trail
pub left_behind : (shape : Shape) (mark : Mark) (old new : Flash) → Interrupted shape mark old new [] → LeftBehind shape mark old new None None
left_behind shape mark old new begun = inl (begun, refl)

-- the mark was interrupted, or was not begun, which is an interruption that left everything
pub interrupted_by : (shape : Shape) (mark : Mark) (old new : Flash) (trail trail' : Option (List Mark)) → LeftBehind shape mark old new trail trail' → Interrupted shape mark old new []
interrupted_by shape mark old new trail trail' left = elim left [
  | inl begun ↦ begun.0
  | inr none ↦ subst (λ f. Interrupted shape mark old f []) (sym none.0) (interrupted_none shape mark old)
]
