-- The pages of an epoch's two blocks.
use Rattle.std.proofs.Common.{◌≡◌, ◌≢◌, ℕ, ◌+◌, ◌-◌, ◌*◌, ◌/◌, ◌%◌, ◌<◌, ◌≤◌, refl, sym, ap, subst, ◌∙◌, arith, List, Bool, true, false, if◌then◌else◌, div-add-mod', inl, inr}
use Rattle.std.{specs.Prelude.slice_index, proofs.lemmas.Nat.div-mul-add, proofs.lemmas.Nat.mod-mul-add, proofs.lemmas.Bool.cases_lt}
use Rattle.pk_base.{specs.Shape.Shape, specs.Shape.IsShape, specs.Shape.epoch_pages, specs.Shape.epoch_commits, specs.Shape.page_count, proofs.CommitPages.second, proofs.BlockLemmas.apart}
use Rattle.pk_base.specs.Page.{Page, Flash, page_at, erased, page_in, page_of_pair, commit_page, commit_at}
use Rattle.pk_base.proofs.EpochPages.{half, rest, low, high}
use Rattle.pk_nand.{specs.Operations.InOrder, specs.Crash.SameOutside}
use Rattle.pk_jrn.{specs.Epochs.JournalEpoch, specs.Epochs.EpochOnFlash, specs.Epochs.AllExist, specs.Epochs.AreErased, specs.Epochs.next_page, specs.Epochs.pages_of, specs.Laws.SameBlocks}

module _ (shape : Shape) (blocks : List ℕ) where
  -- the page of an index, by its block and its place in it
  pub page_of_place : (q r : ℕ) → r < shape.block_pages → page_in shape blocks (q * shape.block_pages + r) ≡ slice_index blocks q * shape.block_pages + r
  page_of_place q r less = λ i. slice_index blocks (div-mul-add q shape.block_pages r less i) * shape.block_pages + mod-mul-add q shape.block_pages r less i

  module _ (index : ℕ) (inside : index < epoch_pages shape) where
    pub page_exists : AllExist shape blocks → page_in shape blocks index < page_count shape
    page_exists all =
        let end : slice_index blocks (index / shape.block_pages) * shape.block_pages + shape.block_pages ≤ shape.blocks * shape.block_pages = apart _ shape.blocks shape.block_pages
        (all (index / shape.block_pages) (half shape blocks index inside)) in
        let r = rest shape blocks index inside in
        omega (arith, end, r)

-- the page at a place of an epoch is the next of its block if those before it are programmed, and it and those after it are Erased
pub InOrder-place : (shape : Shape) (blocks : List ℕ) (flash : Flash) (u : ℕ) → u < epoch_pages shape → ((j : ℕ) → j < u → page_at flash (page_in shape blocks j) ≢ erased)
    → ((j : ℕ) → u ≤ j → j < epoch_pages shape → page_at flash (page_in shape blocks j) ≡ erased) → InOrder shape flash (page_in shape blocks u)
InOrder-place shape blocks flash u inside filled free =
    let n : ℕ = shape.block_pages in
    let b : ℕ = slice_index blocks (u / n) in
    let q : ℕ = u / n in
    let r : ℕ = u % n in
    let less : r < n = rest shape blocks u inside in
    let place : page_in shape blocks u % n ≡ r = mod-mul-add b n r less in
    let split : q * n + r ≡ u = div-add-mod' u n in
    let end : q * n + n ≤ 2 * n = apart q 2 n (half shape blocks u inside) in
    record {
      before = λ k low high is.
          let small : k - b * n < n = omega (arith, low, high, place, less) in
          let here : page_in shape blocks (q * n + (k - b * n)) ≡ k = page_of_place shape blocks q (k - b * n) small ∙ omega (arith, low, place) in
          filled (q * n + (k - b * n)) (omega (arith, low, high, place, split)) (ap (page_at flash) here ∙ is);
      behind = λ k low high.
          let small : k - b * n < n = omega (arith, low, high, place, less) in
          let here : page_in shape blocks (q * n + (k - b * n)) ≡ k = page_of_place shape blocks q (k - b * n) small ∙ omega (arith, low, place) in
          subst (λ (p : ℕ). page_at flash p ≡ erased) here (free (q * n + (k - b * n)) (omega (arith, low, high, place, split)) (omega (arith, small, end)));
    }

-- the first page of the next commit of an epoch that takes more, none half made
pub InOrder-next_page : (e : JournalEpoch) (flash : Flash) → e.takes_more ≡ true → e.half ≡ false → e.used < epoch_commits e.shape → EpochOnFlash e flash → InOrder e.shape flash (next_page e)
InOrder-next_page e flash more whole_made inside fits =
    let pages : pages_of e ≡ 2 * e.used = rw whole_made refl in
    InOrder-place e.shape e.blocks flash (2 * e.used) (omega (arith, inside))
    (λ j low. fits.filled more j (omega (arith, pages, low))) (λ j low high. fits.behind more j (omega (arith, pages, low)) high)

-- ---- pages of the two blocks

-- if the blocks are Erased, each page of the epoch is
pub pages_erased : (shape : Shape) (flash : Flash) (blocks : List ℕ) (j : ℕ) → AreErased shape flash blocks → j < epoch_pages shape → page_at flash (page_in shape blocks j) ≡ erased
pages_erased shape flash blocks j all small = all (j / shape.block_pages) (half shape blocks j small) (page_in shape blocks j) (low shape blocks j small) (high shape blocks j small)

-- if the blocks are the same, each page of the epoch is
pub pages_same : (shape : Shape) (blocks : List ℕ) (old new : Flash) (j : ℕ) → SameBlocks shape blocks old new
    → j < epoch_pages shape → page_at new (page_in shape blocks j) ≡ page_at old (page_in shape blocks j)
pages_same shape blocks old new j same small = same (j / shape.block_pages) (half shape blocks j small) (page_in shape blocks j) (low shape blocks j small) (high shape blocks j small)

-- so is each commit
pub commit_same : (shape : Shape) (blocks : List ℕ) (old new : Flash) → IsShape shape → (j : ℕ) → SameBlocks shape blocks old new
    → j < epoch_commits shape → commit_at shape (page_at new) blocks j ≡ commit_at shape (page_at old) blocks j
commit_same shape blocks old new is j same small =
    let next : page_in shape blocks (2 * j + 1) ≡ commit_page shape blocks j + 1 = second shape blocks is j in
    let one : page_at new (commit_page shape blocks j) ≡ page_at old (commit_page shape blocks j) = pages_same shape blocks old new (2 * j) same (omega (arith, small)) in
    let two : page_at new (commit_page shape blocks j + 1) ≡ page_at old (commit_page shape blocks j + 1) =
    ap (page_at new) (sym next) ∙ pages_same shape blocks old new (2 * j + 1) same (omega (arith, small)) ∙ ap (page_at old) next in
    λ i. page_of_pair (commit_page shape blocks j) (one i) (two i)

-- changes within another block
pub same_elsewhere : (shape : Shape) (blocks : List ℕ) (old new : Flash) (b first count : ℕ) → ((n : ℕ) → n < 2 → slice_index blocks n ≢ b)
    → b * shape.block_pages ≤ first → first + count ≤ b * shape.block_pages + shape.block_pages → SameOutside first count old new → SameBlocks shape blocks old new
same_elsewhere shape blocks old new b first count others from to same n small k low high = elim (cases_lt (slice_index blocks n) b) [
  | inl below ↦ same.below k (let end = apart (slice_index blocks n) b shape.block_pages below in omega (arith, end, high, from))
  | inr above ↦ same.above k (
      let more : b < slice_index blocks n = let ne = others n small in omega (arith, above, ne) in
      let end = apart b (slice_index blocks n) shape.block_pages more in
      omega (arith, end, low, to))
]

pub EpochOnFlash-same : (e : JournalEpoch) (old new : Flash) → IsShape e.shape → SameBlocks e.shape e.blocks old new → EpochOnFlash e old → EpochOnFlash e new
EpochOnFlash-same e old new is same fits =
    let within = fits.within in
    record {
      two = fits.two;
      within = within;
      before = λ j small. let w = fits.before j small in (w.0, ap (λ (p : ℕ × Page). p.1) (commit_same e.shape e.blocks old new is j same (omega (arith, small, within))) ∙ w.1);
      filled = λ more j low now. fits.filled more j low (sym (pages_same e.shape e.blocks old new j same (omega (arith, pages_within e.half e.used, within, low))) ∙ now);
      behind = λ more j low high. pages_same e.shape e.blocks old new j same high ∙ fits.behind more j low high;
    }
  where
    pages_within : (half : Bool) (used : ℕ) → (if half then 2 * used - 1 else 2 * used) ≤ 2 * used
    pages_within true used = omega arith
    pages_within false used = omega arith
