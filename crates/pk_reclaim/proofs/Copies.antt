-- A page of a value was read, or programmed into the output.
use Rattle.std.proofs.Common.{◌≡◌, inl, ℕ, ◌-◌, ◌*◌, ◌/◌, refl, sym, ap, subst, arith, true, List, [], ◌∷◌, ◌++◌}
use Rattle.pk_base.{specs.Key.Key, specs.Shape.Shape, specs.Shape.charge, specs.Page.Flash, specs.Entry.Entry, specs.Entry.Place, specs.Map.Map}
use Rattle.pk_nand.{specs.BoardState.BoardState, specs.Calls.IsReady, specs.Calls.after_program, specs.Operations.after_read}
use Rattle.pk_segfmt.proofs.StoredLemmas.{charge_some}
use Rattle.pk_rootfmt.specs.Root.{Root}
use Rattle.pk_pool.{specs.Blocks.Blocks, proofs.Fitting.block_of}
use Rattle.pk_model.specs.Found.{Found}
use Rattle.pk_law_steps.specs.Under.{places}
use Rattle.pk_gc.{specs.declared.course.Course.Course, specs.declared.course.Phase.TheVariants.Copies, specs.declared.moves.Move.Move, specs.Running.IsRunning, specs.Running.begun_move}
use Rattle.pk_gc.{specs.State.JobState, specs.State.target, specs.State.read_next, specs.State.programmed, specs.State.begun_at, specs.Standing.IsCopying, proofs.Going.next_is_value}
use Rattle.pk_gc.{specs.Stepping.ProgramsHeld, specs.Stepping.ReadsNext, specs.Stepping.BeginsValue, proofs.Copying.program_runs, proofs.Copying.target_exists}
use Rattle.pk_gc.proofs.Counting.{program_sparse, begin_sparse}
use Rattle.pk_values.{specs.State.ValuesState, specs.Placed.ValuesOnFlash}
use Rattle.pk_reclaim.{proofs.Holding.programmed_output, specs.Space.ReclaimParts, specs.Space.SpaceOnFlash, specs.Space.reclaim_parts, specs.Steps.SpaceMoves}
use Rattle.pk_reclaim.{proofs.Owners.owners_same, proofs.Owners.held_aside, proofs.Owners.others_kept, proofs.Still.IsStill, proofs.Still.none_moved, proofs.Still.still_moves, proofs.Still.names_of}
use Rattle.pk_reclaim.proofs.Quiet.{IsQuiet, SameBut, under_quiet, low_quiet, log_quiet, meta_quiet, journal_quiet, program_quiet, program_reaches}
use Rattle.pk_reclaim.proofs.Ready.{job_in, space_in, are_held, hands}
use Rattle.pk_log.specs.State.{LogState}

-- a read leaves the pages
still_read : (old new : BoardState) → new ≡ after_read old → IsStill old new
still_read old new is = record {
  shape = ap (λ (s : BoardState). s.shape) is;
  pages = ap (λ (s : BoardState). s.pages) is;
  trail = ap (λ (s : BoardState). s.trail) is;
  posted = ap (λ (s : BoardState). s.posted) is;
}

module _ (log : LogState) (values : ValuesState) (pool : Blocks) (c : Course) (moves : List Move) (entries : List Entry) (page : List ℕ) (old new : BoardState) (top : ℕ × Root) (found : Found) (m : Map)
    (ready : IsReady old log.shape) (stands : SpaceOnFlash (space_in log values pool moves entries page (Copies c)) old.pages top found m) where
  abbrev shape : Shape
  shape = log.shape

  abbrev es : List (Key × Place)
  es = places found []

  abbrev before : ReclaimParts
  before = space_in log values pool moves entries page (Copies c)

  copying : IsCopying shape c (job_in log moves entries page (Copies c)) values.live old.pages es
  copying = stands.reclaim.stands

  -- it goes on so, on this flash
  goes_on : (c' : Course) (ms : List Move) (bytes : List ℕ) (flash : Flash) → flash ≡ old.pages → c'.output ≡ c.output → IsCopying shape c' (job_in log ms [] bytes (Copies c')) values.live flash es
      → SpaceOnFlash (space_in log values pool ms [] bytes (Copies c')) flash top found m
  goes_on c' ms bytes flash same output is =
      let P : Flash → Type 0 = λ f. SpaceOnFlash (space_in log values pool ms [] bytes (Copies c')) f top found m in
      subst P (sym same) (record {
        logs = stands.logs;
        none_pending = stands.none_pending;
        under = stands.under;
        placed = subst (λ (b : ℕ). ValuesOnFlash shape values pool (b ∷ []) old.pages es) (sym output) stands.placed;
        reclaim = record { shape_is = refl; stands = subst (λ (f : Flash). IsCopying shape c' (job_in log ms [] bytes (Copies c')) values.live f es) same is; full = λ runs. stands.reclaim.full refl };
        half = stands.half;
        journal = stands.journal;
        runs = stands.runs;
        none_leaves = stands.none_leaves;
      })

  module _ (job' : JobState) where
    -- ---- the next page of a value was read

    pub read_moves : ReadsNext c (job_in log moves entries page (Copies c)) old job' new → SpaceMoves before old top found m (reclaim_parts log values pool job') new
    read_moves r =
        let still = still_read old new r.board in
        let there = space_in log values pool moves [] job'.page (Copies (read_next c)) in
        subst (λ (j : JobState). SpaceMoves before old top found m (reclaim_parts log values pool j) new) (sym r.job_is)
        (still_moves before there old new top found m still stands (owners_same pool)
        (goes_on (read_next c) moves job'.page new.pages still.pages refl (record { runs = r.runs es copying.runs; sparse = copying.sparse; closed = copying.closed })))

    -- ---- the first page of the next one was

    pub begin_moves : BeginsValue c (job_in log moves entries page (Copies c)) (hands log values pool moves entries page old.pages top found m) old job' new
        → SpaceMoves before old top found m (reclaim_parts log values pool job') new
    begin_moves r =
        let still = still_read old new r.board in
        let next = next_is_value shape c moves page values.live.heads old.pages es r.page copying.runs
        (are_held log values pool moves entries page old.pages top found m c stands ready.flash) copying.sparse r.whole r.inside.0 r.inside.1 r.head r.first in
        let key = next.1.0 in
        let place = next.1.1 in
        let is = next.1.2 in
        let c' = begun_at c (r.page - c.victim * shape.block_pages) (charge shape place.len) in
        let ms = moves ++ begun_move shape c r.page key place.len ∷ [] in
        let there = space_in log values pool ms [] job'.page (Copies c') in
        let sparse = begin_sparse shape values.live.heads c r.page (charge shape place.len) r.whole (charge_some shape stands.placed.is_shape place.len) r.inside.0 is.inside next.1.3 copying.sparse in
        subst (λ (j : JobState). SpaceMoves before old top found m (reclaim_parts log values pool j) new) (sym (r.job_is es key place is))
        (still_moves before there old new top found m still stands (owners_same pool)
        (goes_on c' ms job'.page new.pages still.pages refl (record { runs = r.runs es key place copying.runs is; sparse = sparse; closed = copying.closed })))

    -- the values are copied still
    pub begin_phase : BeginsValue c (job_in log moves entries page (Copies c)) (hands log values pool moves entries page old.pages top found m) old job' new
        → (then : Course) × (job'.phase ≡ Copies then)
    begin_phase r =
        let next = next_is_value shape c moves page values.live.heads old.pages es r.page copying.runs
        (are_held log values pool moves entries page old.pages top found m c stands ready.flash) copying.sparse r.whole r.inside.0 r.inside.1 r.head r.first in
        (_, ap (λ (j : JobState). j.phase) (r.job_is es next.1.0 next.1.1 next.1.2))

  -- ---- a page was programmed

  pub quiet : IsQuiet log pool old top found m c.output
  quiet = record {
    has = ready.shape_is;
    logs = stands.logs;
    under = stands.under;
    names = names_of before old.pages top found m stands;
    behind = copying.runs.behind_roots;
    aside = held_aside pool c.output (stands.placed.outputs_are.owned c.output (inl refl));
    unread = λ k here value. stands.placed.outputs_are.unread k value (inl here);
  }

  pub in_output : c.held ≡ true → target shape c / shape.block_pages ≡ c.output
  in_output held =
      let some = (copying.runs.held_is held).0 in
      let room = copying.runs.room in
      block_of shape.block_pages (target shape c) c.output (omega arith) (omega (arith, some, room))

  module _ (job' : JobState) (p : ProgramsHeld c (job_in log moves entries page (Copies c)) old job' new) where
    same : SameBut quiet new.pages
    same = program_quiet quiet (target shape c) page (in_output p.held) new p.board

    pages_are : new.pages ≡ (after_program old (target shape c) page).pages
    pages_are = ap (λ (s : BoardState). s.pages) p.board

    behind : IsCopying shape (programmed c) (job_in log moves [] page (Copies (programmed c))) values.live new.pages es
    behind =
        let exists = target_exists shape c moves page old.pages es copying.runs p.held ready.flash in
        record {
          runs = subst (λ (f : Flash). IsRunning shape (programmed c) moves page f es) (sym pages_are) (program_runs shape c moves page old.pages es copying.runs p.held exists);
          sparse = program_sparse shape values.live.heads c (copying.runs.held_is p.held).0 copying.sparse;
          closed = copying.closed;
        }

    stands_behind : SpaceOnFlash (space_in log values pool moves [] page (Copies (programmed c))) new.pages top found m
    stands_behind = record {
      logs = log_quiet quiet new.pages same;
      none_pending = stands.none_pending;
      under = under_quiet quiet new.pages same;
      placed = subst (λ (f : Flash). ValuesOnFlash shape values pool (c.output ∷ []) f es) (sym pages_are)
          (programmed_output shape values pool c.output (target shape c) page old.pages es stands.placed (in_output p.held));
      reclaim = record { shape_is = refl; stands = behind; full = λ runs. stands.reclaim.full refl };
      half = stands.half;
      journal = stands.journal;
      runs = stands.runs;
      none_leaves = stands.none_leaves;
    }

    pub program_moves : SpaceMoves before old top found m (reclaim_parts log values pool job') new
    program_moves = subst (λ (j : JobState). SpaceMoves before old top found m (reclaim_parts log values pool j) new) (sym p.job_is)
        (none_moved before (space_in log values pool moves [] page (Copies (programmed c))) old new top found m stands_behind
        (others_kept shape top.1 pool old.pages pool new.pages (owners_same pool) (low_quiet quiet new.pages same)
        (meta_quiet quiet new.pages same) (λ k owned other. journal_quiet quiet new.pages same k owned))
        (program_reaches quiet (target shape c) page (in_output p.held) new p.board))
