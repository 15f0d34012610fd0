-- A commit that is cut does not change what is under the root, or has its entries in the newest epoch.
use Rattle.std.proofs.Common.{◌≡◌, inl, inr, ℕ, ◌+◌, ◌*◌, ◌<◌, ◌≤◌, ap, subst, List, [], ◌++◌, Some, Ok, append-nil, length, nat_le, true}
use Rattle.pk_base.{specs.Shape.Shape, specs.Shape.IsShape, specs.Shape.epoch_pages, specs.Shape.epoch_commits, specs.Shape.buffer, specs.Entry.Entry, specs.Map.Map, proofs.CommitPages.even_page}
use Rattle.pk_base.{specs.Page.Page, specs.Page.Flash, specs.Page.page_at, specs.Page.erased, specs.Page.whole, specs.Page.page_in, specs.Page.commit_page, specs.Page.commit_at, specs.Firsts.firsts}
use Rattle.pk_base.{proofs.Logic.both_true, specs.Refusal.ensure}
use Rattle.pk_nand.proofs.Pairing.{pair_cut, pair_read, read_first, outside_pair}
use Rattle.pk_jrnfmt.specs.Page.{journal_entries}
use Rattle.pk_rootfmt.{specs.Root.Root, specs.Newest.newest_root}
use Rattle.pk_model.{specs.Found.Found, specs.Found.found_under, specs.Reading.may_add, specs.Reading.map_under, specs.Laws.IsWholePage, proofs.StrangePages.bind_ok}
use Rattle.pk_model.proofs.Commits.{Blocks, valid_blocks, roots_stay, stands_apart, under, within_buffer, read_without, read_with, commit_start}
use Rattle.pk_law_steps.{specs.Under.IsUnder, specs.Roots.committed, specs.Roots.Commits, specs.Roots.CommitsPair, specs.Roots.Committed}

module _ (shape : Shape) (flash cut : Flash) (top : ℕ × Root) (found : Found) (es : List Entry) (index : ℕ) (bytes : List ℕ) (is_shape : IsShape shape)
    (is_top : newest_root shape (page_at flash) ≡ Some top) (is_found : found_under shape (page_at flash) top.1 ≡ Ok found) (blocks : Blocks top.1) (inside : index < epoch_commits shape)
    (before : (j : ℕ) → j < index → IsWholePage (commit_at shape (page_at flash) top.1.newest j).1)
    (behind : (j : ℕ) → 2 * index ≤ j → j < epoch_pages shape → page_at flash (page_in shape top.1.newest j) ≡ erased)
    (others : (k : ℕ) → (commit_page shape top.1.newest index ≤ k → k < commit_page shape top.1.newest index + 2 → ⊥) → page_at cut k ≡ page_at flash k) where
  abbrev at : ℕ → Page
  at = page_at flash

  abbrev at' : ℕ → Page
  at' = page_at cut

  -- a commit without a page that is whole adds nothing
  absent : (m : Map) → (IsWholePage (commit_at shape at' top.1.newest index).1 → ⊥) → map_under shape (page_at flash) top.1 found [] ≡ Ok m → IsUnder shape cut [] top found m
  absent m not_whole ok =
      record {
        is_top = roots_stay shape at at' top found es index bytes is_shape is_top is_found blocks inside before behind others;
        is_found = under shape at at' top found es index bytes is_shape is_top is_found blocks inside before behind others found.newest
            (read_without shape at at' top found es index bytes is_shape is_top is_found blocks inside before behind others not_whole);
        is_map = stands_apart shape at at' top found es index bytes is_shape is_top is_found blocks inside before behind others [] m ok;
      }

  -- a page that is whole adds its entries
  present : (m : Map) → (commit_at shape at' top.1.newest index).1 ≡ whole bytes → journal_entries shape top.1.epoch index bytes ≡ Some es
      → map_under shape (page_at flash) top.1 found es ≡ Ok m → IsUnder shape cut [] top (committed found es) m
  unfolding map_under
  present m is_whole spells ok =
      let room = within_buffer shape at at' top found es index bytes is_shape is_top is_found blocks inside before behind others m ok in
      let few : nat_le (length (firsts (found.newest ++ es))) (buffer shape) ≡ true = (both_true _ _ room).0 in
      let tested = bind_ok (ensure (may_add shape top.1 found es) (page_in shape top.1.newest 0)) _ m
      (stands_apart shape at at' top found es index bytes is_shape is_top is_found blocks inside before behind others es m ok) in
      record {
        is_top = roots_stay shape at at' top found es index bytes is_shape is_top is_found blocks inside before behind others;
        is_found = under shape at at' top found es index bytes is_shape is_top is_found blocks inside before behind others (found.newest ++ es)
            (read_with shape at at' top found es index bytes is_shape is_top is_found blocks inside before behind others bytes is_whole spells room);
        is_map = rw (append-nil (found.newest ++ es), few) tested.2;
      }

pub commits_pair : CommitsPair
commits_pair shape flash cut top found es m0 m1 index bytes is_shape first second commit is_cut =
    let p = commit_page shape top.1.newest index in
    let others = outside_pair p flash cut is_cut.outside in
    let blocks = valid_blocks shape (page_at flash) top first.is_top in
    let none : (IsWholePage (commit_at shape (page_at cut) top.1.newest index).1 → ⊥) → IsUnder shape cut [] top found m0 = λ not_whole.
    absent shape flash cut top found es index bytes is_shape first.is_top first.is_found blocks commit.in_epoch commit.before commit.behind others m0 not_whole first.is_map in
    elim (pair_read p bytes (page_at cut p) (page_at cut (p + 1)) is_cut.first is_cut.second) [
      | inl done ↦ inr (present shape flash cut top found es index bytes is_shape first.is_top first.is_found
          blocks commit.in_epoch commit.before commit.behind others m1 done commit.spells second.is_map)
      | inr not_bytes ↦ elim not_bytes [
        | inl is ↦ inl (none (λ w. subst IsWholePage is w))
        | inr is ↦ inl (none (λ w. subst IsWholePage is w))
      ]
    ]

pub commits : Commits
commits shape flash cut top found es m0 m1 index bytes posted is_shape first second commit cut_off =
    let p = commit_page shape top.1.newest index in
    commits_pair shape flash cut top found es m0 m1 index bytes is_shape first second commit
    (pair_cut shape p bytes (even_page shape top.1.newest is_shape index) flash cut posted (commit_start shape flash top.1 es index bytes is_shape commit) cut_off)

pub commit_done : Committed
commit_done shape flash now top found es m0 m1 index bytes is_shape first second commit is_cut here =
    let p = commit_page shape top.1.newest index in
    present shape flash now top found es index bytes is_shape first.is_top first.is_found (valid_blocks shape (page_at flash) top first.is_top)
    commit.in_epoch commit.before commit.behind (outside_pair p flash now is_cut.outside) m1
    (ap (λ (x : ℕ × Page). x.1) (read_first p bytes (page_at now p) (page_at now (p + 1)) here)) commit.spells second.is_map
