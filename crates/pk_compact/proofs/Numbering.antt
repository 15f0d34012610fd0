-- The number of the newest root, if a freeze failed.
use Rattle.std.proofs.Common.{◌≡◌, inl, inr, ℕ, ◌+◌, ◌/◌, ◌≤◌, refl, ap, subst, arith, Some}
use Rattle.pk_base.{specs.Shape.Shape, specs.Shape.IsShape, specs.Page.Flash, specs.Page.page_at, specs.Mark.erase, specs.Mark.all_posted}
use Rattle.pk_nand.{specs.BoardState.BoardState, specs.BoardState.shape_of, specs.Calls.IsReady, specs.Operations.EraseFailed, proofs.Touching.untouched, proofs.Writing.shape_is}
use Rattle.pk_rootfmt.{specs.Root.Root, specs.Newest.newest_root}
use Rattle.pk_model.{proofs.SamePages.newest_root_same, specs.Wear.root_number}
use Rattle.pk_root.{specs.declared.next.Next.Next, specs.declared.next.Next.TheVariants.Again, specs.Installing.before_pair, specs.Installing.FailsToInstall, specs.Installing.FailsToRepeat}
use Rattle.pk_root.specs.Laws.{SameFront}
use Rattle.pk_compact.proofs.Taking.{not_behind}

pub same_newest : (shape : Shape) (old new : Flash) → newest_root shape (page_at new) ≡ newest_root shape (page_at old) → root_number shape new ≡ root_number shape old
unfolding root_number
same_newest shape old new same = rw same refl

pub is_newest : (shape : Shape) (new : Flash) (page : ℕ) (root : Root) → newest_root shape (page_at new) ≡ Some (page, root) → root_number shape new ≡ root.number
unfolding root_number
is_newest shape new page root is = rw is refl

pub same_front : (shape : Shape) (old new : Flash) → SameFront shape old new → root_number shape new ≡ root_number shape old
same_front shape old new same = same_newest shape old new (newest_root_same shape (page_at old) (page_at new) same)

-- ---- an erase of a block after the root blocks

module _ (shape : Shape) (is_shape : IsShape shape) (block : ℕ) (behind : 2 ≤ block) (old new : BoardState) (ready : IsReady old shape) where
  pub failed_front : EraseFailed old new block → SameFront shape old.pages new.pages
  failed_front failed k low = elim failed.left [
    | inl marked ↦
        untouched (shape_of old) (erase block) k _ _
        (λ is. not_behind shape block k is_shape behind low (subst (λ (s : Shape). k / s.block_pages ≡ block) (shape_is old shape ready) is)) (marked.0.pages k)
    | inr same ↦ ap (λ (f : Flash). page_at f k) same.0
  ]

-- ---- an install

pub install_number : (shape : Shape) (root : Root) (next : Next) (old new : BoardState) → root.number ≤ root_number shape old.pages + 1 → FailsToInstall shape root next old new
    → root_number shape new.pages ≤ root_number shape old.pages + 1
install_number shape root next old new few f = elim (f.cuts.1.cuts new.pages (all_posted f.cuts.0) f.cuts.1.stands).newest [
  | inl same ↦ (let e = same_newest shape old.pages new.pages same in omega (arith, e))
  | inr (inl is) ↦ (let e = is_newest shape new.pages f.page root is in omega (arith, e, few))
  | inr (inr is) ↦ (let e = is_newest shape new.pages (f.page + 1) root is in omega (arith, e, few))
]

pub repeat_number : (shape : Shape) (root : Root) (next : Next) (old new : BoardState) → root.number ≤ root_number shape old.pages
    → ((page : ℕ) → next ≡ Again page → root_number shape (before_pair old.pages page) ≤ root.number) → FailsToRepeat shape root next old new
    → root_number shape new.pages ≤ root_number shape old.pages
repeat_number shape root next old new most before f = elim (f.cuts.1.cuts new.pages (all_posted f.cuts.0) f.cuts.1.stands).newest [
  | inl same ↦ (let e = same_newest shape (before_pair old.pages f.page) new.pages same in let less = before f.page f.was in omega (arith, e, less, most))
  | inr (inl is) ↦ (let e = is_newest shape new.pages f.page root is in omega (arith, e, most))
  | inr (inr is) ↦ (let e = is_newest shape new.pages (f.page + 1) root is in omega (arith, e, most))
]
