-- The end of a reclaim: its moves are committed, or none remained.
use Rattle.std.proofs.Common.{◌≡◌, ℕ, ◌+◌, ◌/◌, false, List, [], ◌∷◌, Some, refl, sym, ap, subst, ◌∙◌}
use Rattle.std.specs.Prelude.{slice_get, slice_set}
use Rattle.pk_base.specs.Page.{Flash, page_at, whole}
use Rattle.pk_plan.specs.declared.owner.Owner.TheVariants.{Journal, Values as for_values}
use Rattle.pk_nand.{specs.BoardState.BoardState, proofs.Leaving.page_at-slice_set}
use Rattle.pk_pool.specs.declared.state.BlockState.TheVariants.{Free, Owned}
use Rattle.pk_pool.specs.Blocks.{Blocks, PoolOnFlash, used_by, with_state}
use Rattle.pk_jrn.{specs.Epochs.next_page, specs.Appends.next_bytes}
use Rattle.pk_law_moves.specs.Moves.{moved, entries_of}
use Rattle.pk_gc.{specs.declared.course.Course.Course, specs.declared.moves.Move.Move, specs.State.placed_at, specs.State.left_of, specs.State.heads_all, specs.Committing.entries_left}
use Rattle.pk_gc.{specs.Stepping.Hands, proofs.Ending.none_changes}
use Rattle.pk_live.specs.OpenBlocks.{closed_with}
use Rattle.pk_values.{specs.State.ValuesState, specs.Placed.ValuesOnFlash, specs.Laws.SameValues}
use Rattle.pk_reclaim.{specs.Hands.hands_of, specs.Values.MovesPlaced, specs.Values.EndPlaced, proofs.Holding.programmed_pool, proofs.Holding.ValuesOnFlash-given, proofs.Holding.one_less}
use Rattle.pk_reclaim.proofs.Relocating.{relocated, ValuesOnFlash-relocated}

-- the values after the commit
relocated_is : (c : Course) (moves : List Move) (d d' : ValuesState) (heads : List ℕ) → heads ≡ heads_all d.live.heads moves
    → d'.live ≡ record { block_pages = d.live.block_pages; heads = heads; closed = closed_with d.open_block (slice_set d.live.closed c.victim false) }
    → d'.open_block ≡ Some (record { block = c.output; used = c.used }) → d' ≡ relocated c moves d
relocated_is c moves d d' heads heads_are live open_is =
    let live' : d'.live ≡ (relocated c moves d).live =
    live ∙ (λ i. record { block_pages = d.live.block_pages; heads = heads_are i; closed = closed_with d.open_block (slice_set d.live.closed c.victim false) }) in
    λ i. record { live = live' i; open_block = open_is i }

pub moves_placed : MovesPlaced
moves_placed shape c job job' d d' p q active active' epoch epoch' old new es placed give commits journal =
    subst (λ (v : ValuesState). ValuesOnFlash shape v q (c.victim ∷ []) new.pages (moved (placed_at (left_of d.live.heads job.moves)) es)) (sym data_is)
    (subst (λ (x : Blocks). ValuesOnFlash shape (relocated c job.moves d) x (c.victim ∷ []) new.pages (moved (placed_at (left_of d.live.heads job.moves)) es)) (sym pool_is)
    (ValuesOnFlash-relocated shape c job d (hands_of d p active epoch) p old.pages new.pages es placed give refl same fits))
  where
    data_is : d' ≡ relocated c job.moves d
    data_is = relocated_is c job.moves d d' (heads_all d.live.heads job.moves) refl (ap (λ (h : Hands). h.live) commits.hands) (ap (λ (h : Hands). h.front) commits.hands)

    pool_is : q ≡ p
    pool_is = ap (λ (h : Hands). h.pool) commits.hands

    bytes : List ℕ
    bytes = next_bytes epoch (entries_left d.live.heads job.moves)

    pages_are : new.pages ≡ slice_set old.pages (next_page epoch) (whole bytes)
    pages_are = ap (λ (b : BoardState). b.pages) commits.adds.begins.program

    same : SameValues shape p [] old.pages new.pages
    same k held none =
        ap (λ (f : Flash). page_at f k) pages_are
        ∙ page_at-slice_set old.pages (next_page epoch) k (whole bytes) (λ here.
        let clash : Some (Owned for_values) ≡ Some (Owned Journal) = sym held ∙ (ap (λ x. slice_get p.states (x / shape.block_pages)) here ∙ journal) in cc)

    fits : PoolOnFlash p new.pages
    fits = subst (λ (f : Flash). PoolOnFlash p f) (sym pages_are) (programmed_pool shape p (next_page epoch) bytes old.pages placed.is_shape placed.shape_is (Journal, journal) placed.fits)

-- if no entry remains, no move does
none_left : (ms : List Move) → entries_of (placed_at ms) ≡ [] → ms ≡ []
none_left [] none = refl
none_left (m ∷ ms) none = cc

pub end_placed : EndPlaced
end_placed shape c job job' d d' p q active active' epoch epoch' old new es placed give ends = (
  subst (λ (f : Flash). ValuesOnFlash shape d' q [] f es) (ap (λ (b : BoardState). b.pages) (sym ends.board))
      (subst (λ (v : ValuesState). ValuesOnFlash shape v q [] old.pages es) (sym data_is)
      (subst (λ (x : Blocks). ValuesOnFlash shape (relocated c job.moves d) x [] old.pages es) (sym pool_is)
      (ValuesOnFlash-given shape (relocated c job.moves d) p c.victim old.pages es there))),
  ap (λ (x : Blocks). used_by for_values x.states + 1) pool_is ∙ one_less shape (relocated c job.moves d) p c.victim old.pages es there,
)
  where
    data_is : d' ≡ relocated c job.moves d
    data_is = relocated_is c job.moves d d' d.live.heads (sym (none_changes d.live.heads job.moves ends.none)) (ap (λ (h : Hands). h.live) ends.hands) (ap (λ (h : Hands). h.front) ends.hands)

    pool_is : q ≡ with_state p c.victim Free
    pool_is = ap (λ (h : Hands). h.pool) ends.hands

    there : ValuesOnFlash shape (relocated c job.moves d) p (c.victim ∷ []) old.pages es
    there =
        subst (λ (ms : List Move). ValuesOnFlash shape (relocated c job.moves d) p (c.victim ∷ []) old.pages (moved (placed_at ms) es)) (none_left (left_of d.live.heads job.moves) ends.none)
        (ValuesOnFlash-relocated shape c job d (hands_of d p active epoch) p old.pages old.pages es placed give refl (λ k held none. refl) placed.fits)
