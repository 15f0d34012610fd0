-- A mark that does not touch a page does not change it, done or interrupted.
use Rattle.std.proofs.Common.{◌≡◌, ◌≢◌, ◌<◌, ◌≤◌, inl, inr, ℕ, zero, suc, ◌+◌, ◌-◌, ◌*◌, ◌/◌, ◌%◌, refl, sym, ap, ◌∙◌, arith, List, [], ◌∷◌, Some, zero-add, mod-lt, div-add-mod'}
use Rattle.std.{proofs.Math.Nat.div-zero, proofs.lemmas.Nat.div-mul-add, proofs.lemmas.Option.same_Some}
use Rattle.pk_base.{specs.Shape.Shape, specs.Page.Page, specs.Page.Flash, specs.Page.page_at, specs.Page.whole}
use Rattle.pk_base.specs.Mark.{Mark, program, erase, post, after}
use Rattle.pk_nand.{specs.Cut.Cut, specs.Cut.MayLeave, specs.Cut.Touches, specs.Cut.IsPartner, specs.Cut.touched_block, proofs.Leaving.page_at-slice_set, proofs.Leaving.page_at-erased_from}

-- the first page of a pair is in the block of the second
pub partner_block : (shape : Shape) (at k : ℕ) → IsPartner shape at k → at / shape.block_pages ≡ k / shape.block_pages
partner_block shape at k is = in_block shape.block_pages is.1
  where
    in_block : (n : ℕ) → at % n % 2 ≡ 1 → at / n ≡ k / n
    in_block zero odd = div-zero at ∙ sym (div-zero k)
    in_block (suc n) odd =
        let less : at % suc n < suc n = mod-lt at (omega arith) in
        let whole : at / suc n * suc n + at % suc n ≡ at = div-add-mod' at (suc n) in
        let some : 1 ≤ at % suc n = omega (arith, odd) in
        let same : at / suc n * suc n + (at % suc n - 1) ≡ k = omega (arith, whole, some, is.0) in
        sym (div-mul-add (at / suc n) (suc n) (at % suc n - 1) (omega (arith, less))) ∙ ap (λ (p : ℕ). p / suc n) same

-- a program or an erase touches pages of one block alone
pub touches_one_block : (shape : Shape) (mark : Mark) (k : ℕ) → Touches shape mark k → touched_block shape mark ≡ Some (k / shape.block_pages)
touches_one_block shape (program at bytes) k (inl is) = ap (λ (p : ℕ). Some (p / shape.block_pages)) (sym is)
touches_one_block shape (program at bytes) k (inr is) = ap (λ (b : ℕ). Some b) (partner_block shape at k is)
touches_one_block shape (erase block) k is = ap Some (sym is)
touches_one_block shape (post bytes) k none = absurd none

pub untouched : (shape : Shape) (mark : Mark) (k : ℕ) (old new : Page) → (Touches shape mark k → ⊥) → MayLeave shape mark k old new → new ≡ old
untouched shape (program at bytes) k old new other (inl same) = same
untouched shape (program at bytes) k old new other (inr (inl is)) = absurd (other (inl is.0))
untouched shape (program at bytes) k old new other (inr (inr is)) = absurd (other (inr is.0))
untouched shape (erase block) k old new other (inl same) = same
untouched shape (erase block) k old new other (inr is) = absurd (other is.0)
untouched shape (post bytes) k old new other same = same

-- a page of another block
pub elsewhere : (shape : Shape) (mark : Mark) (k block : ℕ) (old new : Page) → touched_block shape mark ≡ Some block → k / shape.block_pages ≢ block → MayLeave shape mark k old new → new ≡ old
elsewhere shape mark k block old new touched other = untouched shape mark k old new (λ is. other (same_Some (k / shape.block_pages) block (sym (touches_one_block shape mark k is) ∙ touched)))

pub untouched_after : (shape : Shape) (mark : Mark) (flash : Flash) (k : ℕ) → (Touches shape mark k → ⊥) → page_at (after shape mark flash) k ≡ page_at flash k
untouched_after shape (program at bytes) flash k other = page_at-slice_set flash at k (whole bytes) (λ e. other (inl e))
untouched_after shape (erase block) flash k other = page_at-erased_from shape block 0 flash k (λ e. other (ap (λ n. n / shape.block_pages) (sym (zero-add k)) ∙ e))
untouched_after shape (post bytes) flash k other = refl

pub untouched_cut : (shape : Shape) (mark : Mark) (flash cut : Flash) (posted : List ℕ) (k : ℕ) → Cut shape flash (mark ∷ []) cut posted → (Touches shape mark k → ⊥) → page_at cut k ≡ page_at flash k
untouched_cut shape mark flash cut posted k (inl interrupted) other = untouched shape mark k _ _ other (interrupted.pages k)
untouched_cut shape mark flash cut posted k (inr done) other = ap (λ f. page_at f k) done.2.0 ∙ untouched_after shape mark flash k other
