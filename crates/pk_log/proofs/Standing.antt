-- A log and the flash that it matches.
use Rattle.std.proofs.Common.{◌≡◌, inl, inr, ℕ, ◌+◌, ◌-◌, ◌*◌, ◌/◌, ◌<◌, ◌≤◌, refl, sym, ap, subst, ◌∙◌, arith, T, List, ◌++◌, length, slice_index, append-nil, Some, Ok}
use Rattle.std.{specs.List.concat, proofs.lemmas.Nat.div-mul-add}
use Rattle.pk_base.{specs.Shape.Shape, specs.Shape.IsShape, specs.Page.Flash, specs.Page.page_at, specs.Page.page_in, proofs.ShapeLemmas.block_pages_positive}
use Rattle.pk_rootfmt.{specs.Root.Root, specs.Root.named, specs.Root.is_root, specs.Held.Held, specs.Newest.newest_root}
use Rattle.pk_root.{specs.declared.next.Next.Next, specs.Installing.InstallerOnFlash, proofs.Places.InstallerOnFlash-after, proofs.Places.InstallerOnFlash-by_same}
use Rattle.pk_buf.specs.Table.{Table}
use Rattle.pk_jrn.{specs.Epochs.JournalEpoch, specs.Epochs.AreBlocks, specs.Epochs.EpochOnFlash, specs.Laws.SameBlocks, specs.Replays.buffer_of, proofs.Places.EpochOnFlash-same}
use Rattle.pk_model.{specs.Found.Found, specs.Found.found_under, specs.Laws.AnyByRecursion, proofs.Commits.blocks_of_root, proofs.Commits.member}
use Rattle.pk_model.proofs.SamePages.{newest_root_same, found_same, in_some_block, agree_runs, any_front, any_back, any_in_concat}
use Rattle.pk_law_steps.proofs.NewestBlocks.{newest_exist, newest_differ, valid_root}
use Rattle.pk_log.{specs.State.LogState, specs.State.opened, specs.Logs.LogOnFlash, specs.Logs.Opens, specs.Laws.SameNamed, specs.Laws.LogsElsewhere}

-- ---- the blocks of a newest epoch

-- they are two different blocks of the flash
pub blocks_are : (shape : Shape) (root : Root) → T (is_root shape root) → AreBlocks shape root.newest
blocks_are shape root is = record { exist = newest_exist shape root is; different = newest_differ shape root is }

-- the blocks of the epoch that a log writes
pub epoch_blocks_are : (log : LogState) (flash : Flash) (top : ℕ × Root) (found : Found) → LogOnFlash log flash top found → AreBlocks log.epoch.shape log.epoch.blocks
epoch_blocks_are log flash top found logs =
    let there : AreBlocks log.shape top.1.newest = blocks_are log.shape top.1 (valid_root log.shape (page_at flash) top logs.is_top) in
    subst (λ (s : Shape). AreBlocks s log.epoch.blocks) (sym logs.epoch_shape) (subst (λ (bs : List ℕ). AreBlocks log.shape bs) (sym logs.epoch_blocks) there)

-- ---- on another flash

-- the epoch that a log writes is there if no page of its blocks differs
pub epoch_stays : (log : LogState) (old new : Flash) (top : ℕ × Root) (found : Found) → LogOnFlash log old top found → SameBlocks log.shape top.1.newest old new → EpochOnFlash log.epoch new
epoch_stays log old new top found logs same =
    EpochOnFlash-same log.epoch old new (subst (λ (s : Shape). IsShape s) (sym logs.epoch_shape) logs.is_shape)
    (subst (λ (s : Shape). SameBlocks s log.epoch.blocks old new) (sym logs.epoch_shape)
    (subst (λ (bs : List ℕ). SameBlocks log.shape bs old new) (sym logs.epoch_blocks) same)) logs.epoch_fits

-- and so is all that the log matches, if root and lists are found there; what its installer does next may differ
pub stands_on : (log : LogState) (next' : Next) (old new : Flash) (top : ℕ × Root) (found : Found) → LogOnFlash log old top found
    → newest_root log.shape (page_at new) ≡ Some top → found_under log.shape (page_at new) top.1 ≡ Ok found → InstallerOnFlash log.shape next' top new
    → EpochOnFlash log.epoch new → LogOnFlash (record log { next = next' }) new top found
stands_on log next' old new top found logs is_top is_found installs epoch_fits = search

-- ---- at opening

pub opens : (held : Held) (page : ℕ) (epoch : JournalEpoch) (active frozen : Table) (flash : Flash) (found : Found) → IsShape held.shape
    → Opens held page epoch active frozen flash found → LogOnFlash (opened held page epoch active frozen) flash (page, held.root) found
opens held page epoch active frozen flash found is_shape is = record {
  is_shape = is_shape;
  is_top = is.is_top;
  root_is = refl;
  is_found = is.is_found;
  installs = InstallerOnFlash-after held.shape flash page held.root is.is_top;
  epoch_shape = is.epoch_shape;
  epoch_number = is.epoch_number;
  epoch_blocks = is.epoch_blocks;
  epoch_fits = is.epoch_fits;
  active_is = is.active_is ∙ ap (buffer_of held.shape) (sym (append-nil found.newest));
  frozen_is = is.frozen_is;
  pending_are = tt;
  spaced = refl;
  pending_few = omega arith;
  pending_room = λ some. absurd (some refl);
  pending_whole = λ some. absurd (some refl);
}

-- ---- changes elsewhere

module _ (log : LogState) (old new : Flash) (top : ℕ × Root) (found : Found) (same : SameNamed log.shape top.1 old new) (logs : LogOnFlash log old top found) where
  abbrev shape : Shape
  shape = log.shape

  abbrev root : Root
  root = top.1

  positive : 0 < shape.block_pages
  positive = block_pages_positive shape logs.is_shape

  -- pages of blocks that the root names
  named_same : (blocks : List ℕ) → ((P : ℕ → Type 0) → AnyByRecursion P blocks → AnyByRecursion P (named root)) → (j : ℕ) → page_at new (page_in shape blocks j) ≡ page_at old (page_in shape blocks j)
  named_same blocks within j = same (page_in shape blocks j) (elim (in_some_block shape positive blocks j) [ inl low ↦ inl low | inr is ↦ inr (within _ is) ])

  newest_within : (P : ℕ → Type 0) → AnyByRecursion P root.newest → AnyByRecursion P (named root)
  newest_within P is = any_front P (root.newest ++ root.older) (concat root.runs) (any_front P root.newest root.older is)

  lists_same : found_under shape (page_at new) root ≡ found_under shape (page_at old) root
  lists_same = found_same shape (page_at old) (page_at new) logs.is_shape root
      (λ j low. named_same root.newest newest_within j)
      (λ j low. named_same root.older (λ P is. any_front P (root.newest ++ root.older) (concat root.runs) (any_back P root.newest root.older is)) j)
      (agree_runs shape (page_at old) (page_at new) root.counts root.runs
      (λ blocks among. named_same blocks (λ P is. any_back P (root.newest ++ root.older) (concat root.runs) (any_in_concat P blocks root.runs among is))))

  -- a page of a block of the newest epoch
  in_epoch : (n k : ℕ) → n < 2 → slice_index root.newest n * shape.block_pages ≤ k → k < slice_index root.newest n * shape.block_pages + shape.block_pages → page_at new k ≡ page_at old k
  in_epoch n k small low high =
      let blocks = blocks_of_root shape root (valid_root shape (page_at old) top logs.is_top) in
      let two : length root.newest ≡ 2 = blocks.two in
      let b : ℕ = slice_index root.newest n in
      let rest : k - b * shape.block_pages < shape.block_pages = omega (arith, low, high) in
      let all : b * shape.block_pages + (k - b * shape.block_pages) ≡ k = omega (arith, low) in
      let here : k / shape.block_pages ≡ b = ap (λ x. x / shape.block_pages) (sym all) ∙ div-mul-add b shape.block_pages (k - b * shape.block_pages) rest in
      same k (inr (newest_within (λ x. k / shape.block_pages ≡ x) (subst (λ (y : ℕ). AnyByRecursion (λ x. y ≡ x) root.newest) (sym here) (member root.newest n (omega (arith, small, two))))))

  stays : LogOnFlash log new top found
  stays = stands_on log log.next old new top found logs
      (newest_root_same shape (page_at old) (page_at new) (λ k low. same k (inl low)) ∙ logs.is_top) (lists_same ∙ logs.is_found)
      (InstallerOnFlash-by_same shape log.next top old new (λ k low. same k (inl low)) logs.installs)
      (epoch_stays log old new top found logs (λ n small k low high. in_epoch n k small low high))

pub logs_elsewhere : LogsElsewhere
logs_elsewhere log old new top found same logs = stays log old new top found same logs
