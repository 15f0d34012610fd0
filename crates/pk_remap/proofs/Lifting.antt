-- A mark of the inner flash, on the inner page or block, is the same mark of the outer flash.
use Rattle.std.proofs.Common.{◌≡◌, inl, inr, ℕ, zero, suc, ◌+◌, ◌*◌, ◌/◌, ◌%◌, ◌<◌, ◌≤◌, Bool, true, false, List, [], length, refl, sym, ap, subst, ◌∙◌, arith, zero-add}
use Rattle.std.proofs.lemmas.Nat.{div-add-mod'}
use Rattle.std.{specs.Prelude.nat_lt, specs.Prelude.slice_set, proofs.Math.Nat.mod-lt, proofs.Math.Nat.mul_comm, proofs.lemmas.Bool.Decides.nat_tests}
use Rattle.pk_base.{specs.Shape.Shape, specs.Shape.page_count, specs.Page.Page, specs.Page.Flash, specs.Page.page_at, specs.Page.whole, specs.Page.torn}
use Rattle.pk_base.specs.Mark.{Mark, program, erase, post, after, posted_by, erased_from}
use Rattle.pk_nand.{specs.Cut.Interrupted, specs.Cut.MayLeave, specs.Cut.IsPartner, proofs.Touching.partner_block}
use Rattle.pk_nand.proofs.Leaving.{length-after, page_at-slice_set, page_at-slice_set_same, page_at-erased_from, page-erased_in}
use Rattle.pk_remap.{specs.Table.SpareTable, specs.Places.inner_shape, specs.Places.place, specs.Places.placed_page, specs.Places.through_by, specs.Through.mark_below, specs.Through.IsMarkWithin}
use Rattle.pk_remap.proofs.Placing.{place-below, place-apart, placed_page-div, placed_page-mod, placed_page-apart, block_of, length-through, page-through, past-through, is_through}
use Rattle.pk_remap.proofs.Finding.{by_equal}

pub less_times : (m q n : ℕ) → q * n < m * n → q < m
less_times zero q n h = absurd (omega (arith, h))
less_times (suc m) zero n h = omega arith
less_times (suc m) (suc q) n h = let more = less_times m q n (omega (arith, h)) in omega (arith, more)

pub times_le : (q m n : ℕ) → q ≤ m → q * n ≤ m * n
times_le zero m n h = omega arith
times_le (suc q) zero n h = absurd (omega (arith, h))
times_le (suc q) (suc m) n h = let more = times_le q m n (omega (arith, h)) in omega (arith, more)

pub two_more : (m n : ℕ) → (m + 2) * n ≡ m * n + 2 * n
two_more m n = omega arith

pub leaves_same : (shape : Shape) (mark : Mark) (k : ℕ) (p : Page) → MayLeave shape mark k p p
leaves_same shape (program at bytes) k p = inl refl
leaves_same shape (erase block) k p = inl refl
leaves_same shape (post bytes) k p = refl

module _ (shape : Shape) (spares : ℕ) (table : SpareTable) (some : 0 < shape.block_pages) (used : length table.serves ≤ spares) where
  abbrev n : ℕ
  n = shape.block_pages

  -- the inner page of a page is before the table blocks
  pub placed_page-below : (k : ℕ) → k < page_count shape → placed_page shape table k < (shape.blocks + length table.serves) * n
  placed_page-below k inside =
      let b = place-below shape table (k / n) (block_of shape table some k inside) in
      let r = mod-lt k {m = n} some in
      let room : suc (place shape table (k / n)) * n ≤ (shape.blocks + length table.serves) * n = times_le
      (suc (place shape table (k / n))) (shape.blocks + length table.serves) n b in
      omega (arith, r, room)

  pub placed_page-inside : (k : ℕ) → k < page_count shape → placed_page shape table k < page_count (inner_shape shape spares)
  placed_page-inside k inside =
      let b = placed_page-below k inside in
      let room : (shape.blocks + length table.serves) * n ≤ (shape.blocks + spares + 2) * n = times_le
      (shape.blocks + length table.serves) (shape.blocks + spares + 2) n (omega (arith, used)) in
      omega (arith, b, room, mul_comm n (shape.blocks + spares + 2))

  -- the inner page of a partner is the partner of the inner page, and that of no other page is
  pub placed_page-partner : (at k : ℕ) → at < page_count shape → k < page_count shape
      → IsPartner (inner_shape shape spares) (placed_page shape table at) (placed_page shape table k) → IsPartner shape at k
  placed_page-partner at k in_at in_k is =
      let same : placed_page shape table at / n ≡ placed_page shape table k / n = partner_block
      (inner_shape shape spares) (placed_page shape table at) (placed_page shape table k) is in
      let quot : at / n ≡ k / n = place-apart shape table (at / n) (k / n) (block_of shape table some at in_at)
      (block_of shape table some k in_k) (sym (placed_page-div shape table some at) ∙ same ∙ placed_page-div shape table some k) in
      let P : ℕ → Type 0 = λ q. place shape table q * n + at % n ≡ place shape table (k / n) * n + k % n + 1 in
      let rest : at % n ≡ k % n + 1 = let moved = subst P quot is.0 in omega (arith, moved) in
      let whole_at : at / n * n + at % n ≡ at = div-add-mod' at n in
      let whole_k : k / n * n + k % n ≡ k = div-add-mod' k n in
      let Q : ℕ → Type 0 = λ q. q * n + at % n ≡ at in
      let moved_at : k / n * n + at % n ≡ at = subst Q quot whole_at in
      (omega (arith, moved_at, whole_k, rest), ap (λ (x : ℕ). x % 2) (sym (placed_page-mod shape table some at)) ∙ is.1)

  -- what an interrupted mark may leave of a page
  pub lift-leaves : (mark : Mark) (k : ℕ) (old new : Page) → IsMarkWithin shape mark → k < page_count shape
      → MayLeave (inner_shape shape spares) (mark_below shape table mark) (placed_page shape table k) old new → MayLeave shape mark k old new
  lift-leaves (program at bytes) k old new within inside (inl same) = inl same
  lift-leaves (program at bytes) k old new within inside (inr (inl is)) = inr (inl (placed_page-apart shape table some k at inside within is.0, is.1))
  lift-leaves (program at bytes) k old new within inside (inr (inr is)) = inr (inr (placed_page-partner at k within inside is.0, is.1))
  lift-leaves (erase block) k old new within inside (inl same) = inl same
  lift-leaves (erase block) k old new within inside (inr is) =
      inr (place-apart shape table (k / n) block (block_of shape table some k inside) within (sym (placed_page-div shape table some k) ∙ is.0), is.1)
  lift-leaves (post bytes) k old new within inside leaves = absurd within

  -- and of the whole flash
  pub lifts : (mark : Mark) (flash cut : Flash) → IsMarkWithin shape mark → Interrupted (inner_shape shape spares) (mark_below shape table mark) flash cut []
      → Interrupted shape mark (through_by shape table (page_at flash)) (through_by shape table (page_at cut)) []
  lifts mark flash cut within i = record {
    same_size = length-through shape table (page_at cut) ∙ sym (length-through shape table (page_at flash));
    pages = λ k. by k (nat_lt k (page_count shape)) refl;
    posted = (posted_by mark, refl);
  } where
    by : (k : ℕ) (t : Bool) → nat_lt k (page_count shape) ≡ t
        → MayLeave shape mark k (page_at (through_by shape table (page_at flash)) k) (page_at (through_by shape table (page_at cut)) k)
    by k true t =
        let inside : k < page_count shape = grind (arith, nat_tests) in
        rw (page-through shape table (page_at flash) k inside, page-through shape table (page_at cut) k inside)
        (lift-leaves mark k (page_at flash (placed_page shape table k))
        (page_at cut (placed_page shape table k)) within inside (i.pages (placed_page shape table k)))
    by k false t =
        let past : page_count shape ≤ k = grind (arith, nat_tests) in
        rw (past-through shape table (page_at flash) k past, past-through shape table (page_at cut) k past) (leaves_same shape mark k torn)

  module _ (flash : Flash) (size : length flash ≡ page_count (inner_shape shape spares)) where
    abbrev above : Flash
    above = through_by shape table (page_at flash)

    program_page : (at : ℕ) (bytes : List ℕ) (k : ℕ) → at < page_count shape → k < page_count shape
        → page_at (slice_set flash (placed_page shape table at) (whole bytes)) (placed_page shape table k) ≡ page_at (slice_set above at (whole bytes)) k
    program_page at bytes k within inside = by_equal k at (page_at (slice_set flash (placed_page shape table at) (whole bytes))
        (placed_page shape table k) ≡ page_at (slice_set above at (whole bytes)) k)
        (λ same. ap (λ (x : ℕ). page_at (slice_set flash (placed_page shape table at) (whole bytes)) (placed_page shape table x)) same
        ∙ page_at-slice_set_same flash (placed_page shape table at) (whole bytes) (omega (arith, placed_page-inside at within, size))
        ∙ sym (page_at-slice_set_same above at (whole bytes) (omega (arith, within, length-through shape table (page_at flash))))
        ∙ ap (λ (x : ℕ). page_at (slice_set above at (whole bytes)) x) (sym same))
        (λ other. page_at-slice_set flash (placed_page shape table at) (placed_page shape table k)
        (whole bytes) (λ e. other (placed_page-apart shape table some k at inside within e))
        ∙ sym (page-through shape table (page_at flash) k inside) ∙ sym (page_at-slice_set above at k (whole bytes) other))

    erase_page : (block k : ℕ) → block < shape.blocks → k < page_count shape
        → page_at (erased_from (inner_shape shape spares) (place shape table block) 0 flash) (placed_page shape table k) ≡ page_at (erased_from shape block 0 above) k
    erase_page block k within inside = by_equal (k / n) block (page_at (erased_from (inner_shape shape spares) (place shape table block) 0 flash)
        (placed_page shape table k) ≡ page_at (erased_from shape block 0 above) k)
        (λ same. page-erased_in (inner_shape shape spares) (place shape table block) 0 flash
        (placed_page shape table k) (omega (arith, placed_page-inside k inside, size))
        (ap (λ (x : ℕ). x / n) (zero-add (placed_page shape table k)) ∙ placed_page-div shape table some k ∙ ap (place shape table) same)
        ∙ sym (page-erased_in shape block 0 above k
        (omega (arith, inside, length-through shape table (page_at flash))) (ap (λ (x : ℕ). x / n) (zero-add k) ∙ same)))
        (λ other. page_at-erased_from (inner_shape shape spares) (place shape table block) 0 flash (placed_page shape table k)
        (λ e. other (place-apart shape table (k / n) block (block_of shape table some k inside) within
        (sym (placed_page-div shape table some k) ∙ ap (λ (x : ℕ). x / n) (sym (zero-add (placed_page shape table k))) ∙ e)))
        ∙ sym (page-through shape table (page_at flash) k inside)
        ∙ sym (page_at-erased_from shape block 0 above k (λ e. other (ap (λ (x : ℕ). x / n) (sym (zero-add k)) ∙ e))))

    -- a mark that is done on the inner flash is done on the outer flash
    pub lift-done : (mark : Mark) → IsMarkWithin shape mark
        → through_by shape table (page_at (after (inner_shape shape spares) (mark_below shape table mark) flash)) ≡ after shape mark above
    lift-done mark within = is_through shape table (page_at (after (inner_shape shape spares) (mark_below shape table mark) flash)) (after shape mark above)
        (length-after shape mark above ∙ length-through shape table (page_at flash)) (λ k inside. pages mark k within inside)
      where
        pages : (mark : Mark) (k : ℕ) → IsMarkWithin shape mark → k < page_count shape
            → page_at (after (inner_shape shape spares) (mark_below shape table mark) flash) (placed_page shape table k) ≡ page_at (after shape mark above) k
        pages (program at bytes) k within inside = program_page at bytes k within inside
        pages (erase block) k within inside = erase_page block k within inside
        pages (post bytes) k within inside = absurd within
