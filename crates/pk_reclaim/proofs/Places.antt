-- The pages of a commit of the newest epoch are after the root blocks, in blocks of the journal.
use Rattle.std.proofs.Common.{◌≡◌, inl, inr, ℕ, ◌+◌, ◌*◌, ◌/◌, ◌<◌, ◌≤◌, sym, subst, ◌∙◌, arith, Some}
use Rattle.std.{specs.Prelude.slice_get, proofs.lemmas.Bool.cases_eq}
use Rattle.pk_base.{specs.Shape.Shape, specs.Shape.epoch_pages, specs.Shape.epoch_commits, specs.Page.Flash, specs.Page.page_at, specs.Page.page_in, specs.Page.commit_page, specs.Map.Map}
use Rattle.pk_base.{proofs.ShapeLemmas.block_pages_positive, proofs.CommitPages.within, proofs.CommitPages.second}
use Rattle.pk_plan.specs.declared.owner.Owner.TheVariants.{Journal}
use Rattle.pk_pool.specs.declared.state.BlockState.TheVariants.{Owned}
use Rattle.pk_rootfmt.specs.Root.{Root}
use Rattle.pk_model.{specs.Found.Found, specs.Laws.AnyByRecursion, proofs.Commits.Blocks as RootBlocks, proofs.Commits.valid_blocks, proofs.Commits.behind_roots, proofs.Commits.among_newest}
use Rattle.pk_model.proofs.SamePages.{any_front}
use Rattle.pk_reclaim.specs.Space.{ReclaimParts, SpaceOnFlash}

module _ (x : ReclaimParts) (flash : Flash) (top : ℕ × Root) (found : Found) (m : Map) (stands : SpaceOnFlash x flash top found m) (index : ℕ) (inside : index < epoch_commits x.log.shape) where
  abbrev shape : Shape
  shape = x.log.shape

  abbrev first : ℕ
  first = commit_page shape top.1.newest index

  blocks : RootBlocks top.1
  blocks = valid_blocks shape (page_at flash) top stands.logs.is_top

  positive : 0 < shape.block_pages
  positive = block_pages_positive shape stands.logs.is_shape

  last : 2 * index + 1 < epoch_pages shape
  last = within shape index inside

  start : 2 * index < epoch_pages shape
  start = omega (arith, last)

  pub high : 2 * shape.block_pages ≤ first
  high = behind_roots shape top.1 blocks positive (2 * index) start

  -- the same of the second page
  second_is : page_in shape top.1.newest (2 * index + 1) ≡ first + 1
  second_is = second shape top.1.newest stands.logs.is_shape index

  abbrev IsIn : ℕ → Type 0
  IsIn k = AnyByRecursion (λ b. k / shape.block_pages ≡ b) top.1.newest

  pub in_newest : (k : ℕ) → first ≤ k → k < first + 2 → IsIn k
  in_newest k low above = elim (cases_eq k first) [
    | inl same ↦ subst IsIn (sym same) (among_newest shape top.1 blocks positive (2 * index) start)
    | inr other ↦ (let same : first + 1 ≡ k = omega (arith, low, above, other) in subst IsIn (second_is ∙ same) (among_newest shape top.1 blocks positive (2 * index + 1) last))
  ]

  pub for_journal : (k : ℕ) → first ≤ k → k < first + 2 → slice_get x.pool.states (k / shape.block_pages) ≡ Some (Owned Journal)
  for_journal k low above = stands.journal (k / shape.block_pages) (any_front (λ b. k / shape.block_pages ≡ b) top.1.newest top.1.older (in_newest k low above))
