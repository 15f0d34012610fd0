-- Boards on which a pair is programmed.
use Rattle.std.proofs.Common.{◌≡◌, inl, inr, ◌<◌, ◌≤◌, ℕ, ◌+◌, ◌-◌, ◌*◌, ◌/◌, ◌%◌, refl, arith, le_refl, List, [], ◌∷◌, ◌++◌, length}
use Rattle.std.specs.Prelude.{slice_index}
use Rattle.pk_base.{specs.Shape.Shape, specs.Shape.IsShape, specs.Shape.epoch_commits, specs.Shape.page_count, specs.Page.Flash, specs.Page.commit_page, proofs.EpochPages.half, specs.Mark.program}
use Rattle.pk_base.{proofs.CommitPages.room, proofs.BlockLemmas.apart}
use Rattle.pk_nand.{specs.BoardState.BoardState, specs.BoardState.shape_of, specs.Calls.after_program, specs.Calls.ProgramFailed, specs.Operations.InOrder, specs.Crash.Reached, specs.Crash.Went}
use Rattle.pk_nand.{specs.Pairs.IsPairCut, proofs.Pairing.IsPairCut-start, proofs.Pairing.Reached-in_pair, proofs.Pairing.Went-in_pair_failed, proofs.Pairing.program_done, proofs.Writing.InOrder-next}
use Rattle.pk_nand.proofs.Reaching.{Reached-then, Went-then}
use Rattle.pk_pair.specs.Pairs.{AllExist}

module _ (old : BoardState) (page : ℕ) (bytes : List ℕ) (even : page % (shape_of old).block_pages % 2 ≡ 0) where
  module _ (room : page % (shape_of old).block_pages + 1 < (shape_of old).block_pages) (order : InOrder (shape_of old) old.pages page) where
    -- both pages are Erased before
    pub pair_start : IsPairCut page bytes old.pages old.pages
    pair_start = IsPairCut-start page bytes old.pages
        (inr (inl (order.behind page (le_refl page) (omega (arith, room)))))
        (inr (inl (order.behind (page + 1) (omega arith) (omega (arith, room)))))

    pub first_cut : IsPairCut page bytes old.pages (after_program old page bytes).pages
    first_cut = program_done (shape_of old) page bytes old refl even old.pages pair_start page (le_refl page) (omega arith)

    pub first_reached : Reached old (after_program old page bytes) (λ flash _. IsPairCut page bytes old.pages flash)
    first_reached = (program page bytes ∷ [], Reached-in_pair (shape_of old) page bytes old refl even old.pages pair_start page (le_refl page) (omega arith))

    pub first_failed : (new : BoardState) → ProgramFailed old new page bytes → Went old new (λ flash _. IsPairCut page bytes old.pages flash)
    first_failed new failed = Went-in_pair_failed (shape_of old) page bytes old refl even old.pages pair_start page (le_refl page) (omega arith) new failed

    pub second_next : page < length old.pages → InOrder (shape_of old) (after_program old page bytes).pages (page + 1)
    second_next exists = InOrder-next (shape_of old) old.pages page bytes exists room order

  module _ (start : Flash) (so_far : IsPairCut page bytes start old.pages) where
    pub second_cut : IsPairCut page bytes start (after_program old (page + 1) bytes).pages
    second_cut = program_done (shape_of old) page bytes old refl even start so_far (page + 1) (omega arith) (omega arith)

    pub second_reached : Reached old (after_program old (page + 1) bytes) (λ flash _. IsPairCut page bytes start flash)
    second_reached = (program (page + 1) bytes ∷ [], Reached-in_pair (shape_of old) page bytes old refl even start so_far (page + 1) (omega arith) (omega arith))

    pub second_failed : (new : BoardState) → ProgramFailed old new (page + 1) bytes → Went old new (λ flash _. IsPairCut page bytes start flash)
    second_failed new failed = Went-in_pair_failed (shape_of old) page bytes old refl even start so_far (page + 1) (omega arith) (omega arith) new failed

-- one run and then another
pub reached_both : (a b c : BoardState) (P : Flash → Type 0) → Reached a b (λ flash _. P flash) → Reached b c (λ flash _. P flash) → Reached a c (λ flash _. P flash)
reached_both a b c P first second = (first.0 ++ second.0, Reached-then first.0 second.0 a b c (λ flash _. P flash) first.1 second.1)

pub went_both : (a b c : BoardState) (P : Flash → Type 0) → Reached a b (λ flash _. P flash) → Went b c (λ flash _. P flash) → Went a c (λ flash _. P flash)
went_both a b c P first second = (first.0 ++ second.0, Went-then first.0 second.0 a b c (λ flash _. P flash) first.1 second.1)

abbrev pub pages_of : BoardState → Flash
pages_of board = board.pages

-- the pages of a commit of blocks that exist
pub pair_exists : (shape : Shape) (blocks : List ℕ) (index : ℕ) → IsShape shape → index < epoch_commits shape → AllExist shape blocks → commit_page shape blocks index + 1 < page_count shape
pair_exists shape blocks index is inside all =
    let n : ℕ = shape.block_pages in
    let end : slice_index blocks (2 * index / n) * n + n ≤ shape.blocks * n = apart _ shape.blocks n (all (2 * index / n) (half shape blocks (2 * index) (omega (arith, inside)))) in
    let more : 2 * index % n + 1 < n = room shape blocks is index in
    omega (arith, end, more)
