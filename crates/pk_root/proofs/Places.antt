-- Where the pages of the root blocks are, and what changes after them leave.
use Rattle.std.proofs.Common.{◌≡◌, ◌≢◌, ℕ, zero, suc, ◌+◌, ◌-◌, ◌*◌, ◌/◌, ◌%◌, ◌<◌, ◌≤◌, refl, sym, ap, ◌∙◌, arith, inl, inr, List, [], ◌∷◌, length, slice_set, mod-lt, Some}
use Rattle.std.{proofs.Math.Nat.mul-le-mul_right, proofs.Math.Nat.div-lt_iff_lt-mul, proofs.lemmas.Nat.div-add-mod', proofs.lemmas.Bool.Decides.eqb_tells}
use Rattle.pk_base.{specs.Shape.Shape, specs.Page.Page, specs.Page.Flash, specs.Page.page_at, specs.Page.erased, specs.Page.whole}
use Rattle.pk_nand.{specs.Operations.InOrder, proofs.Leaving.page_at-slice_set, proofs.Leaving.page_at-slice_set_same}
use Rattle.pk_rootfmt.{specs.Root.Root, specs.Root.root_bytes, specs.Newest.newest_root}
use Rattle.pk_root.{specs.declared.next.Next.Next, specs.declared.next.Next.TheVariants.Erase, specs.declared.next.Next.TheVariants.Program, specs.declared.next.Next.TheVariants.Again}
use Rattle.pk_root.{specs.Installing.before_pair, specs.Installing.IsPossible, specs.Installing.InstallerOnFlash, specs.Laws.SameFront, proofs.Scanning.newest_among, proofs.Scanning.newest_root_same}
use Rattle.pk_seg.proofs.Readings.{whole_exists}

-- ---- two blocks of n pages

-- there is a page
pub some_pages : (n page : ℕ) → page < 2 * n → 0 < n
some_pages zero page less = absurd (omega (arith, less))
some_pages (suc n) page less = omega arith

-- a page of the root blocks is in block 0 or 1
pub block_below : (n page : ℕ) → page < 2 * n → page / n < 2
block_below n page less = (div-lt_iff_lt-mul {k = n} {x = page} {y = 2} (some_pages n page less)).1 less

-- and the other way round
pub page_below : (n page : ℕ) → 0 < n → page / n < 2 → page < 2 * n
page_below n page some less = (div-lt_iff_lt-mul {k = n} {x = page} {y = 2} some).0 less

-- not in the other one
pub not_other : (n page : ℕ) → page < 2 * n → page / n ≢ 1 - page / n
not_other n page less same = let low = block_below n page less in omega (arith, low, same)

-- its block ends if the root blocks end, or before
pub block_end : (n page : ℕ) → page < 2 * n → page - page % n + n ≤ 2 * n
block_end n page less =
    let low : page / n < 2 = block_below n page less in
    let whole : page / n * n + page % n ≡ page = div-add-mod' page n in
    omega (arith, whole, mul-le-mul_right {m = page / n} {n = 1} n (omega (arith, low)))

-- its block ends after it
pub in_block : (n page : ℕ) → page < 2 * n → page < page - page % n + n
in_block n page less = let rest : page % n < n = mod-lt page (some_pages n page less) in omega (arith, rest)

-- the first page of a root block
pub first_below : (n block : ℕ) → 0 < n → block ≤ 1 → block * n < 2 * n
first_below n block some low = omega (arith, some, mul-le-mul_right {m = block} {n = 1} n low)

-- ---- installers

-- after the page of the newest root
pub InstallerOnFlash-after : (shape : Shape) (flash : Flash) (page : ℕ) (root : Root) → newest_root shape (page_at flash) ≡ Some (page, root) → InstallerOnFlash shape (Erase page) (page, root) flash
InstallerOnFlash-after shape flash page root newest =
    let is = newest_among shape (page_at flash) (page, root) newest in
    let below : page < 2 * shape.block_pages = omega (arith, is.high) in
    record { newest = newest; possible = record { in_root_blocks = below; elsewhere = not_other shape.block_pages page below } }

-- a page that was written and made Erased again
pub set_back : (flash : Flash) (at : ℕ) (p : Page) → page_at flash at ≡ erased → slice_set (slice_set flash at p) at erased ≡ flash
set_back [] at p is = refl
set_back (x ∷ xs) zero p is = ap (λ (q : Page). q ∷ xs) (sym is)
set_back (x ∷ xs) (suc at) p is = ap (λ (qs : Flash). x ∷ qs) (set_back xs at p is)

erased_exists : (flash : Flash) (k : ℕ) → page_at flash k ≡ erased → k < length flash
erased_exists [] k is = cc
erased_exists (p ∷ ps) zero is = omega arith
erased_exists (p ∷ ps) (suc k) is = omega (arith, erased_exists ps k is)

-- the order of the pages of a root block
order_same : (shape : Shape) (page : ℕ) (old new : Flash) → SameFront shape old new → page < 2 * shape.block_pages → InOrder shape old page → InOrder shape new page
order_same shape page old new same below order = record {
  before = λ k low high e. order.before k low high (sym (same k (omega (arith, high, below))) ∙ e);
  behind = λ k low high. same k (let end = block_end shape.block_pages page below in omega (arith, high, end)) ∙ order.behind k low high;
}

-- if the pair of a page is half made
before_same : (shape : Shape) (page : ℕ) (old new : Flash) (bytes : List ℕ) → SameFront shape old new → page < 2 * shape.block_pages → page_at old page ≡ whole bytes
    → SameFront shape (before_pair old page) (before_pair new page)
before_same shape page old new bytes same below here k low = elim (eqb_tells k page) [
  | inl is ↦
      let there : page_at new page ≡ whole bytes = same page below ∙ here in
      ap (page_at (before_pair new page)) is.1 ∙ page_at-slice_set_same new page erased (whole_exists new page bytes there)
      ∙ sym (page_at-slice_set_same old page erased (whole_exists old page bytes here)) ∙ ap (page_at (before_pair old page)) (sym is.1)
  | inr other ↦ page_at-slice_set new page k erased other.1 ∙ same k low ∙ sym (page_at-slice_set old page k erased other.1)
]

possible_same : (shape : Shape) (next : Next) (top : ℕ × Root) (old new : Flash) → SameFront shape old new → IsPossible shape next top old → IsPossible shape next top new
possible_same shape (Erase beside) top old new same possible = possible
possible_same shape (Program page) top old new same possible =
    let below = possible.in_root_blocks in
    record { in_root_blocks = below; even = possible.even; order = order_same shape page old new same (omega (arith, below)) possible.order }
possible_same shape (Again page) top old new same possible =
    let install = possible.install in
    let below = install.in_root_blocks in
    let front = before_same shape page old new (root_bytes shape top.1) same (omega (arith, below)) possible.here in
    let order : InOrder shape new (page + 1) = order_same shape (page + 1) old new same below possible.order in
    let second : page_at (before_pair new page) (page + 1) ≡ erased = front (page + 1) below ∙ install.second_erased in
    record {
      at_first = possible.at_first;
      here = same page (omega (arith, below)) ∙ possible.here;
      order = order;
      former = possible.former;
      install = record {
        was = newest_root_same shape (page_at (before_pair old page)) (page_at (before_pair new page)) front ∙ install.was;
        in_root_blocks = below;
        exists = erased_exists (before_pair new page) (page + 1) second;
        even = install.even;
        first_erased = front page (omega (arith, below)) ∙ install.first_erased;
        second_erased = second;
        spells = install.spells;
        greater_number = install.greater_number;
      };
    }

-- if no page of the root blocks differs
pub newest_by_same : (shape : Shape) (old new : Flash) → SameFront shape old new → newest_root shape (page_at new) ≡ newest_root shape (page_at old)
newest_by_same shape old new same = newest_root_same shape (page_at old) (page_at new) same

pub InstallerOnFlash-by_same : (shape : Shape) (next : Next) (top : ℕ × Root) (old new : Flash) → SameFront shape old new → InstallerOnFlash shape next top old → InstallerOnFlash shape next top new
InstallerOnFlash-by_same shape next top old new same fits = record {
  newest = newest_by_same shape old new same ∙ fits.newest;
  possible = possible_same shape next top old new same fits.possible;
}
