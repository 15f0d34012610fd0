-- What programs and erases leave of a pool's view of a flash.
use Rattle.std.proofs.Common.{◌≡◌, ◌≢◌, ◌⊎◌, inl, inr, ℕ, ◌+◌, ◌-◌, ◌*◌, ◌/◌, ◌%◌, ◌<◌, ◌≤◌, List, [], ◌∷◌, length, Some, refl, sym, ap, ◌∙◌, subst, arith, zero-add}
use Rattle.std.{specs.Prelude.slice_get, proofs.Math.ListN.set, proofs.Math.Nat.mul-mod_left, proofs.Math.Nat.mul_assoc, proofs.Math.Nat.mul_comm, proofs.lemmas.Option.same_Some}
use Rattle.std.{proofs.lemmas.Nat.div-mul-add, proofs.lemmas.Nat.div-add-mod', proofs.lemmas.Bool.cases_eq, proofs.lemmas.Bool.cases_lt}
use Rattle.pk_base.{specs.Shape.Shape, specs.Shape.IsShape, specs.Shape.page_count, specs.Page.Flash, specs.Page.page_at, specs.Mark.Mark, specs.Mark.program, specs.Mark.erase, specs.Mark.after}
use Rattle.pk_base.proofs.BlockLemmas.{apart}
use Rattle.pk_nand.{specs.BoardState.BoardState, specs.BoardState.shape_of, specs.Cut.Interrupted, specs.Cut.touched_block, specs.Calls.IsReady, specs.Calls.LeftBehind, specs.Crash.SameOutside}
use Rattle.pk_nand.{specs.Operations.InOrder, specs.Operations.after_erase, specs.Operations.EraseFailed, specs.Operations.IsErasedBlock, proofs.Touching.elsewhere, proofs.Writing.shape_is}
use Rattle.pk_nand.proofs.Leaving.{erased_leaves, page-erased_in, interrupted_done, IsFlash-after, IsFlash-left, full_erase}
use Rattle.pk_nand.proofs.Reaching.{Reached-start, Reached-erase, Went-erase_failed}
use Rattle.pk_pool.{specs.declared.state.BlockState.BlockState, specs.Blocks.Blocks, specs.Blocks.PoolOnFlash, specs.Blocks.IsOwned, specs.Blocks.with_state}
use Rattle.pk_pool.specs.declared.state.BlockState.TheVariants.{Free, Ready, Owned}
use Rattle.pk_pool.{specs.Laws.IsNotReady, specs.Laws.IsInBlock, specs.Taking.SameButBlock, specs.Taking.ReachesIn, specs.Taking.WentIn}
use Rattle.pk_pool.proofs.States.{get-set_other, get-set_same, free_is_not_ready, owned_is_not_ready}

-- ---- pages of a block

-- a page whose number divides so is in this block, and the other way round
pub in_block : (n k b : ℕ) → 0 < n → k / n ≡ b → (b * n ≤ k) × (k < b * n + n)
in_block n k b some is =
    let whole : k / n * n + k % n ≡ k = div-add-mod' k n in
    let whole' : b * n + k % n ≡ k = let P : ℕ → Type 0 = λ x. x * n + k % n ≡ k in subst P is whole in
    (omega arith, omega arith)

pub block_of : (n k b : ℕ) → b * n ≤ k → k < b * n + n → k / n ≡ b
block_of n k b low high =
    let e : b * n + (k - b * n) ≡ k = omega arith in
    let P : ℕ → Type 0 = λ x. x / n ≡ b in
    subst P e (div-mul-add b n (k - b * n) (omega arith))

-- a block of whole pairs begins at an even page
pub even_start : (b n : ℕ) → n % 8 ≡ 0 → b * n % 2 ≡ 0
even_start b n eights =
    let pairs : n ≡ 2 * (n / 2) = omega (arith, eights) in
    let product : b * n ≡ 2 * (b * (n / 2)) = ap (λ (k : ℕ). b * k) pairs ∙ sym (mul_assoc b 2 (n / 2)) ∙ ap (λ (k : ℕ). k * (n / 2)) (mul_comm b 2) ∙ mul_assoc 2 b (n / 2) in
    omega (arith, product)

-- a page outside the block is below it or above it
outside : (n b c k : ℕ) → c ≢ b → c * n ≤ k → k < c * n + n → (k < b * n) ⊎ (b * n + n ≤ k)
outside n b c k ne low high = elim (cases_lt c b) [
  | inl below ↦ inl (omega (arith, apart c b n below, high))
  | inr above ↦ inr (let more : b < c = omega (arith, above, ne) in omega (arith, apart b c n more, low))
]

-- ---- the pool and the flash

-- if the pages of the erased blocks are the same
pub PoolOnFlash-same : (p : Blocks) (f g : Flash) → ((b k : ℕ) → slice_get p.states b ≡ Some Ready → IsInBlock p.shape b k → page_at g k ≡ page_at f k) → PoolOnFlash p f → PoolOnFlash p g
PoolOnFlash-same p f g same fits = record { erased = λ b is k low high. same b k is (low, high) ∙ fits.erased b is k low high }

-- no page outside a block differs that does not count as erased
pub PoolOnFlash-but_block : (p : Blocks) (f g : Flash) (b : ℕ) → IsNotReady p b → SameButBlock p.shape b f g → PoolOnFlash p f → PoolOnFlash p g
PoolOnFlash-but_block p f g b not_ready same fits = PoolOnFlash-same p f g (λ c k is inside.
    elim (outside p.shape.block_pages b c k (λ e. not_ready (subst (λ x. slice_get p.states x ≡ Some Ready) e is)) inside.0 inside.1) [
      | inl low ↦ same.below k low
      | inr high ↦ same.above k high
    ]) fits

-- no page outside some pages of such a block differs
pub PoolOnFlash-outside : (p : Blocks) (f g : Flash) (b first count : ℕ) → IsNotReady p b
    → b * p.shape.block_pages ≤ first → first + count ≤ b * p.shape.block_pages + p.shape.block_pages → SameOutside first count f g → PoolOnFlash p f → PoolOnFlash p g
PoolOnFlash-outside p f g b first count not_ready low high same fits = PoolOnFlash-but_block p f g b not_ready (record {
  size = same.size;
  below = λ k less. same.below k (omega (arith, less, low));
  above = λ k more. same.above k (omega (arith, more, high));
}) fits

-- a block with an owner does not count as erased
pub owned_not_ready : (p : Blocks) (b : ℕ) → IsOwned p b → slice_get p.states b ≡ Some Ready → ⊥
owned_not_ready p b owned is = owned_is_not_ready {o = owned.0} (same_Some (Owned owned.0) Ready (sym owned.1 ∙ is))

pub free_not_ready : (states : List BlockState) (b : ℕ) → slice_get states b ≡ Some Free → slice_get states b ≡ Some Ready → ⊥
free_not_ready states b free is = free_is_not_ready (same_Some Free Ready (sym free ∙ is))

-- a mark, done or not, leaves all pages of other blocks
but_block : (shape : Shape) (f g : Flash) (b : ℕ) (mark : Mark) (out : List ℕ) → 0 < shape.block_pages → touched_block shape mark ≡ Some b → Interrupted shape mark f g out → SameButBlock shape b f g
but_block shape f g b mark out some touched cut = record {
  size = cut.same_size;
  below = λ k low. elsewhere shape mark k b _ _ touched (λ is. omega (arith, low, (in_block shape.block_pages k b some is).0)) (cut.pages k);
  above = λ k high. elsewhere shape mark k b _ _ touched (λ is. omega (arith, high, (in_block shape.block_pages k b some is).1)) (cut.pages k);
}

-- an erase, done or not, leaves all pages of other blocks
pub erase_leaves : (shape : Shape) (f g : Flash) (b : ℕ) (out : List ℕ) → 0 < shape.block_pages → Interrupted shape (erase b) f g out → SameButBlock shape b f g
erase_leaves shape f g b out some cut =
    but_block shape f g b (erase b) out some refl cut

pub erased_leaves_others : (shape : Shape) (f : Flash) (b : ℕ) → 0 < shape.block_pages → SameButBlock shape b f (after shape (erase b) f)
erased_leaves_others shape f b some = erase_leaves shape f (after shape (erase b) f) b [] some (interrupted_done shape (erase b) f)

-- all pages of an erased block are Erased
pub erased_now : (shape : Shape) (f : Flash) (b : ℕ) → length f ≡ page_count shape → b < shape.blocks → IsErasedBlock shape (after shape (erase b) f) b
erased_now shape f b size exists k low high =
    let end : b * shape.block_pages + shape.block_pages ≤ shape.blocks * shape.block_pages = apart b shape.blocks shape.block_pages exists in
    page-erased_in shape b 0 f k (omega (arith, size, high, end)) (let e : 0 + k ≡ k = zero-add k in rw e (block_of shape.block_pages k b low high))

-- an erase of any block leaves the erased ones Erased
pub PoolOnFlash-erased : (p : Blocks) (f : Flash) (b : ℕ) → PoolOnFlash p f → PoolOnFlash p (after p.shape (erase b) f)
PoolOnFlash-erased p f b fits = record {
  erased = λ c is k low high. elim (erased_leaves p.shape b 0 f k) [
    | inl same ↦ same ∙ fits.erased c is k low high
    | inr is_erased ↦ is_erased.1
  ];
}

-- an erase of a block that does not count as erased, done or not
pub PoolOnFlash-erase : (p : Blocks) (f g : Flash) (b : ℕ) (out : List ℕ) → 0 < p.shape.block_pages → IsNotReady p b → Interrupted p.shape (erase b) f g out → PoolOnFlash p f → PoolOnFlash p g
PoolOnFlash-erase p f g b out some not_ready cut fits = PoolOnFlash-but_block p f g b not_ready (erase_leaves p.shape f g b out some cut) fits

-- a program in a block that does not count as erased, done or not
pub PoolOnFlash-program : (p : Blocks) (f g : Flash) (b at : ℕ) (bytes out : List ℕ) → IsNotReady p b → IsInBlock p.shape b at
    → Interrupted p.shape (program at bytes) f g out → PoolOnFlash p f → PoolOnFlash p g
PoolOnFlash-program p f g b at bytes out not_ready inside cut fits =
    PoolOnFlash-but_block p f g b not_ready
    (but_block p.shape f g b (program at bytes) out (omega (arith, inside.0, inside.1)) (ap Some (block_of p.shape.block_pages at b inside.0 inside.1)) cut) fits

pub PoolOnFlash-programmed : (p : Blocks) (f : Flash) (b at : ℕ) (bytes : List ℕ) → IsNotReady p b → IsInBlock p.shape b at
    → PoolOnFlash p f → PoolOnFlash p (after p.shape (program at bytes) f)
PoolOnFlash-programmed p f b at bytes not_ready inside fits =
    PoolOnFlash-program p f (after p.shape (program at bytes) f) b at bytes [] not_ready inside (interrupted_done p.shape (program at bytes) f) fits

-- a block that gets another state, which does not count as erased
pub PoolOnFlash-marked : (p : Blocks) (f : Flash) (b : ℕ) (t : BlockState) → (t ≡ Ready → ⊥) → PoolOnFlash p f → PoolOnFlash (with_state p b t) f
PoolOnFlash-marked p f b t not_ready fits = record {
  erased = λ c is. elim (cases_eq c b) [
    | inl same ↦ absurd (not_ready (sym (get-set_same p.states b t Ready (subst (λ k. slice_get (set p.states b t) k ≡ Some Ready) same is))))
    | inr other ↦ fits.erased c (sym (get-set_other p.states b c t other) ∙ is)
  ];
}

-- a block that counts as erased from now on
pub PoolOnFlash-ready : (p : Blocks) (f : Flash) (b : ℕ) → IsErasedBlock p.shape f b → PoolOnFlash p f → PoolOnFlash (with_state p b Ready) f
PoolOnFlash-ready p f b is_erased fits = record {
  erased = λ c is. elim (cases_eq c b) [
    | inl same ↦ subst (λ k. IsErasedBlock p.shape f k) (sym same) is_erased
    | inr other ↦ fits.erased c (sym (get-set_other p.states b c Ready other) ∙ is)
  ];
}

-- the first page of an erased block is the next one to be programmed
pub InOrder-erased : (shape : Shape) (f : Flash) (b : ℕ) → IsErasedBlock shape f b → InOrder shape f (b * shape.block_pages)
InOrder-erased shape f b is_erased =
    let none : b * shape.block_pages % shape.block_pages ≡ 0 = mul-mod_left b shape.block_pages in
    record {
      before = λ k low high. absurd (omega (arith, none, low, high));
      behind = λ k low high. is_erased k low (omega (arith, none, high));
    }

-- ---- the board

-- nothing was done
pub ReachesIn-none : (shape : Shape) (b : ℕ) (board : BoardState) → ReachesIn shape b board board
ReachesIn-none shape b board = ([], Reached-start board board (λ f _. SameButBlock shape b board.pages f) refl refl refl refl (record { size = refl; below = λ k _. refl; above = λ k _. refl }))

module _ (shape : Shape) (board : BoardState) (b : ℕ) (is_shape : IsShape shape) (ready : IsReady board shape) where
  some_pages : 0 < shape.block_pages
  some_pages = let least : 8 ≤ shape.block_pages = is_shape.block_least in omega arith

  -- an erase of block b, done or not, seen by the board
  within : (f : Flash) → Interrupted (shape_of board) (erase b) board.pages f [] → SameButBlock shape b board.pages f
  within f cut = erase_leaves shape board.pages f b [] some_pages (subst (λ s. Interrupted s (erase b) board.pages f []) (shape_is board shape ready) cut)

  done : SameButBlock shape b board.pages (after_erase board b).pages
  done = rw (shape_is board shape ready) (erased_leaves_others shape board.pages b some_pages)

  pub ReachesIn-erase : ReachesIn shape b board (after_erase board b)
  ReachesIn-erase = (erase b ∷ [], Reached-erase board (λ f _. SameButBlock shape b board.pages f) b within done)

  pub WentIn-erase : (new : BoardState) → EraseFailed board new b → WentIn shape b board new
  WentIn-erase new failed = Went-erase_failed board (λ f _. SameButBlock shape b board.pages f) new b failed within done

  pub IsReady-erase : IsReady (after_erase board b) shape
  IsReady-erase = record {
    shape_is = ready.shape_is;
    flash = rw (shape_is board shape ready) (IsFlash-after shape (erase b) board.pages (full_erase shape b) ready.flash);
  }

  pub IsReady-erase_failed : (new : BoardState) → EraseFailed board new b → IsReady new shape
  IsReady-erase_failed new failed = record {
    shape_is = ap (λ s. s.shape) failed.rest ∙ ready.shape_is;
    flash = IsFlash-left shape (erase b) board.pages new.pages board.trail new.trail (full_erase shape b) ready.flash
        (subst (λ s. LeftBehind s (erase b) board.pages new.pages board.trail new.trail) (shape_is board shape ready) failed.left);
  }

  pub erased_block : b < shape.blocks → IsErasedBlock shape (after_erase board b).pages b
  erased_block exists = rw (shape_is board shape ready) (erased_now shape board.pages b ready.flash.size exists)

module _ (p : Blocks) (board : BoardState) (b : ℕ) (is_shape : IsShape p.shape) (ready : IsReady board p.shape) (fits : PoolOnFlash p board.pages) where
  pub PoolOnFlash-after_erase : PoolOnFlash p (after_erase board b).pages
  PoolOnFlash-after_erase = rw (shape_is board p.shape ready) (PoolOnFlash-erased p board.pages b fits)

  -- if the erase failed
  pub PoolOnFlash-erase_failed : (new : BoardState) → IsNotReady p b → EraseFailed board new b → PoolOnFlash p new.pages
  PoolOnFlash-erase_failed new not_ready failed = elim failed.left [
    | inl marked ↦ PoolOnFlash-but_block p board.pages new.pages b not_ready (within p.shape board b is_shape ready new.pages marked.0) fits
    | inr same ↦ subst (PoolOnFlash p) (sym same.0) fits
  ]
