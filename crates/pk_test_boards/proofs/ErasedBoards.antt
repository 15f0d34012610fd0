-- Boards of Erased pages.
use Rattle.std.proofs.Common.{◌≡◌, ℕ, zero, suc, ◌<◌, replicate, Result, Ok, refl, sym, ap, subst, ◌∙◌, arith}
use Rattle.pk_base.{specs.Shape.Shape, specs.Shape.page_count, specs.Shape.checked, specs.Shape.deepest, specs.Shape.meta_blocks, specs.declared.shape.ShapeError.ShapeError}
use Rattle.pk_base.specs.Page.{Flash, page_at, erased}

-- the shape of 64 blocks of 16 pages of 512 bytes
abbrev pub worked : Shape
worked = record { page_bytes = 512; block_pages = 16; blocks = 64 }

worked_is : checked worked ≡ Ok worked
unfolding checked deepest meta_blocks
worked_is = refl

pub shape_is : (s : Shape) (r : Result Shape ShapeError) → r ≡ Ok s → r ≡ checked worked → s ≡ worked
shape_is s r is told = ok_same s worked (sym is ∙ told ∙ worked_is)
  where
    ok_same : (x y : Shape) → ◌≡◌ {A = Result Shape ShapeError} (Ok x) (Ok y) → x ≡ y
    ok_same x y e = cc

pub numbers_are : (s : Shape) → s ≡ worked → (s.page_bytes ≡ 512) × (s.block_pages ≡ 16) × (s.blocks ≡ 64)
numbers_are s is = (ap (λ (x : Shape). x.page_bytes) is, ap (λ (x : Shape). x.block_pages) is, ap (λ (x : Shape). x.blocks) is)

pub erased_at : (n k : ℕ) → k < n → page_at (replicate n erased) k ≡ erased
erased_at zero k small = absurd (omega (arith, small))
erased_at (suc n) zero small = refl
erased_at (suc n) (suc k) small = erased_at n k (omega (arith, small))

-- each page of a flash that is all Erased
pub each_erased : (shape : Shape) (flash : Flash) → flash ≡ replicate (page_count shape) erased → (k : ℕ) → k < page_count shape → page_at flash k ≡ erased
each_erased shape flash all k inside = subst (λ (f : Flash). page_at f k ≡ erased) (sym all) (erased_at (page_count shape) k inside)
