-- A block that was just erased.
use Rattle.std.proofs.Common.{◌≡◌, ◌<◌, ◌≤◌, ◌+◌, ◌-◌, ◌*◌, ◌/◌, ◌%◌, ℕ, suc, length, subst, arith, zero-add}
use Rattle.std.{proofs.Math.Nat.suc-mul, proofs.Math.Nat.mul-le-mul_right, proofs.Math.Nat.mul-mod_left, proofs.lemmas.Nat.div-mul-add}
use Rattle.pk_base.{specs.Shape.Shape, specs.Shape.page_count, specs.Page.Flash, specs.Page.page_at, specs.Page.erased, specs.Mark.erase, specs.Mark.after}
use Rattle.pk_nand.{specs.BoardState.BoardState, specs.Calls.IsReady, specs.Operations.InOrder, specs.Operations.after_erase, proofs.Writing.shape_is}
use Rattle.pk_nand.proofs.Leaving.{page-erased_in, IsFlash-after, full_erase}

erased_page : (shape : Shape) (flash : Flash) (b k : ℕ) → length flash ≡ page_count shape → b < shape.blocks → b * shape.block_pages ≤ k → k < b * shape.block_pages + shape.block_pages
    → page_at (after shape (erase b) flash) k ≡ erased
erased_page shape flash b k size exists low high =
    let n : ℕ = shape.block_pages in
    let end : b * n + n ≤ shape.blocks * n = omega (arith, mul-le-mul_right {m = suc b} {n = shape.blocks} n (omega (arith, exists)), suc-mul b n) in
    let e : b * n + (k - b * n) ≡ k = omega (arith, low) in
    let block : k / n ≡ b = subst (λ (x : ℕ). x / n ≡ b) e (div-mul-add b n (k - b * n) (omega (arith, low, high))) in
    let z : 0 + k ≡ k = zero-add k in
    page-erased_in shape b 0 flash k (omega (arith, size, high, end)) (rw z block)

-- the first page of a block that was just erased is the next to be programmed
pub order_erased : (board : BoardState) (shape : Shape) (b page : ℕ) → IsReady board shape → b < shape.blocks → page ≡ b * shape.block_pages → InOrder shape (after_erase board b).pages page
order_erased board shape b page ready exists first =
    let none : page % shape.block_pages ≡ 0 = rw first (mul-mod_left b shape.block_pages) in
    rw (shape_is board shape ready) (record {
      before = λ k low high. absurd (omega (arith, none, low, high));
      behind = λ k low high. erased_page shape board.pages b k ready.flash.size exists (omega (arith, first, low)) (omega (arith, none, first, high));
    })

pub ready_erased : (board : BoardState) (shape : Shape) (b : ℕ) → IsReady board shape → IsReady (after_erase board b) shape
ready_erased board shape b ready = record {
  shape_is = ready.shape_is;
  flash = rw (shape_is board shape ready) (IsFlash-after shape (erase b) board.pages (full_erase shape b) ready.flash);
}
