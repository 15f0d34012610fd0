-- The pages of a run's blocks.
use Rattle.std.proofs.Common.{◌≡◌, ℕ, ◌+◌, ◌-◌, ◌*◌, ◌/◌, ◌%◌, ◌<◌, ◌≤◌, sym, ap, subst, ◌∙◌, arith, List, length, slice_get, Some, mod-lt, div-add-mod', div-lt_iff_lt-mul}
use Rattle.std.{specs.Prelude.slice_index, proofs.lemmas.Nat.div-mul-add, proofs.lemmas.Nat.mod-mul-add, proofs.lemmas.Option.slice_get-get_or}
use Rattle.pk_base.{specs.Shape.Shape, specs.Shape.IsShape, specs.Shape.page_count, specs.Page.Page, specs.Page.Flash, specs.Page.page_at, specs.Page.erased, specs.Page.whole, specs.Page.page_in}
use Rattle.pk_base.{specs.Entry.Entry, proofs.BlockLemmas.apart}
use Rattle.pk_nand.specs.Operations.{InOrder}
use Rattle.pk_pin.specs.Frames.{Frames}
use Rattle.pk_run.{specs.Kept.Kept, specs.Kept.IsKept, specs.Kept.RunOnFlash, specs.Kept.page_of, proofs.Lookups.page_stands}
use Rattle.pk_merge.specs.Outputs.{IsOutput, BlocksApart}

same_rest : (x y n r s : ℕ) → x ≡ y → x * n + r ≡ y * n + s → r ≡ s
same_rest x y n r s e same = let f : x * n ≡ y * n = ap (λ k. k * n) e in omega (arith, f, same)

module _ (shape : Shape) (some : 0 < shape.block_pages) (blocks : List ℕ) where
  abbrev n : ℕ
  n = shape.block_pages

  -- the page of an index, by its block and its place in it
  pub page_of_place : (q r : ℕ) → r < n → page_in shape blocks (q * n + r) ≡ slice_index blocks q * n + r
  page_of_place q r less = λ i. slice_index blocks (div-mul-add q n r less i) * n + mod-mul-add q n r less i

  pub rest : (index : ℕ) → index % n < n
  rest index = mod-lt index some

  pub block_of_page : (index : ℕ) → page_in shape blocks index / n ≡ slice_index blocks (index / n)
  block_of_page index = div-mul-add (slice_index blocks (index / n)) n (index % n) (rest index)

  -- its block is one of the blocks
  pub block_there : (index : ℕ) → index < length blocks * n → slice_get blocks (index / n) ≡ Some (slice_index blocks (index / n))
  block_there index inside = slice_get-get_or blocks (index / n) 0 ((div-lt_iff_lt-mul some).1 inside)

  pub page_exists : ((i b : ℕ) → slice_get blocks i ≡ Some b → b < shape.blocks) → (index : ℕ) → index < length blocks * n → page_in shape blocks index < page_count shape
  page_exists all index inside =
      let end : slice_index blocks (index / n) * n + n ≤ shape.blocks * n = apart _ shape.blocks n (all (index / n) _ (block_there index inside)) in
      let r = rest index in
      omega (arith, end, r)

  -- no two indices have the same page
  pub only_index : ((i j b : ℕ) → slice_get blocks i ≡ Some b → slice_get blocks j ≡ Some b → i ≡ j) → (i j : ℕ)
      → i < length blocks * n → j < length blocks * n → page_in shape blocks j ≡ page_in shape blocks i → j ≡ i
  only_index different i j inside small same =
      let places : slice_index blocks (j / n) ≡ slice_index blocks (i / n) = sym (block_of_page j) ∙ ap (λ k. k / n) same ∙ block_of_page i in
      let quotients : j / n ≡ i / n = different (j / n) (i / n) (slice_index blocks (i / n)) (block_there j small ∙ ap (λ (b : ℕ). Some b) places) (block_there i inside) in
      let rests : j % n ≡ i % n = same_rest (slice_index blocks (j / n)) (slice_index blocks (i / n)) n (j % n) (i % n) places same in
      sym (div-add-mod' j n) ∙ (λ k. quotients k * n + rests k) ∙ div-add-mod' i n

-- nor have those of two lists of blocks that are apart
pub other_page : (shape : Shape) (some : 0 < shape.block_pages) (blocks others : List ℕ) (i j : ℕ)
    → BlocksApart others blocks → i < length blocks * shape.block_pages → j < length others * shape.block_pages
    → page_in shape others j ≡ page_in shape blocks i → ⊥
other_page shape some blocks others i j apart inside small same =
    let n : ℕ = shape.block_pages in
    let places : slice_index others (j / n) ≡ slice_index blocks (i / n) = sym (block_of_page shape some others j) ∙ ap (λ k. k / n) same ∙ block_of_page shape some blocks i in
    apart (j / n) (i / n) (slice_index blocks (i / n)) (block_there shape some others j small ∙ ap (λ (b : ℕ). Some b) places) (block_there shape some blocks i inside)

whole_erased : (p : Page) (bytes : List ℕ) → p ≡ whole bytes → p ≡ erased → ⊥
whole_erased p bytes is other = cc

-- the next page of an output is the next of its block
pub InOrder-output : (r : Kept) (flash : Flash) (arena : Frames) (es : List Entry) → IsShape r.shape → IsKept r
    → RunOnFlash r flash arena es → IsOutput r flash → length r.firsts < length r.blocks * r.shape.block_pages
    → InOrder r.shape flash (page_of r (length r.firsts))
InOrder-output r flash arena es is kept s out inside =
    let least : 8 ≤ r.shape.block_pages = is.block_least in
    let some : 0 < r.shape.block_pages = omega arith in
    let n : ℕ = r.shape.block_pages in
    let used : ℕ = length r.firsts in
    let q : ℕ = used / n in
    let b : ℕ = slice_index r.blocks q in
    let p : ℕ = used % n in
    let less : p < n = rest r.shape some r.blocks used in
    let place : page_of r used % n ≡ p = mod-mul-add b n p less in
    let split : q * n + p ≡ used = div-add-mod' used n in
    let end : q * n + n ≤ length r.blocks * n = apart q (length r.blocks) n ((div-lt_iff_lt-mul some).1 inside) in
    record {
      before = λ k low high is_erased.
          let small : k - b * n < n = omega (arith, low, high, place, less) in
          let here : page_in r.shape r.blocks (q * n + (k - b * n)) ≡ k = page_of_place r.shape some r.blocks q (k - b * n) small ∙ omega (arith, low, place) in
          let w = page_stands r flash arena es is s kept (q * n + (k - b * n)) (omega (arith, low, high, place, split)) in
          whole_erased (page_at flash k) w.0 (subst (λ (x : ℕ). page_at flash x ≡ whole w.0) here w.1) is_erased;
      behind = λ k low high.
          let small : k - b * n < n = omega (arith, low, high, place, less) in
          let here : page_in r.shape r.blocks (q * n + (k - b * n)) ≡ k = page_of_place r.shape some r.blocks q (k - b * n) small ∙ omega (arith, low, place) in
          subst (λ (x : ℕ). page_at flash x ≡ erased) here (out.unused (q * n + (k - b * n)) (omega (arith, low, high, place, split)) (omega (arith, small, end)));
    }
