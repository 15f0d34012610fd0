-- The second program of the commit of a reclaim's moves was made, or it failed.
use Rattle.std.proofs.Common.{◌≡◌, ℕ, ◌+◌, ◌-◌, ◌*◌, ◌/◌, ◌<◌, ◌≤◌, refl, sym, ap, subst, ◌∙◌, arith, false, List, [], ◌∷◌, Some, Result, Ok, Err}
use Rattle.std.specs.Prelude.{slice_get, slice_set, IfOk, IfErr}
use Rattle.pk_base.{specs.Shape.Shape, specs.Shape.epoch_commits, specs.Page.Flash, specs.Page.page_at, specs.Page.commit_page, specs.Page.whole as whole_page, specs.Entry.Entry, specs.Map.Map}
use Rattle.pk_plan.specs.declared.owner.Owner.TheVariants.{Journal, Meta, Values as for_values}
use Rattle.pk_nand.{specs.BoardState.BoardState, specs.Calls.IsReady, specs.declared.types.Fault.Fault, specs.declared.types.Fault.TheVariants.Reading, specs.declared.types.Fault.TheVariants.Stopped}
use Rattle.pk_nand.proofs.Leaving.{page_at-slice_set}
use Rattle.pk_jrn.{specs.Epochs.JournalEpoch, specs.Epochs.EpochOnFlash, specs.Epochs.next_page, specs.Epochs.before_half, specs.Appends.last_bytes, specs.Appends.EndsCommit, specs.Appends.FailsToEnd}
use Rattle.pk_rootfmt.specs.Root.{Root}
use Rattle.pk_root.proofs.Places.{InstallerOnFlash-by_same}
use Rattle.pk_pool.{specs.declared.state.BlockState.TheVariants.Owned, specs.Blocks.Blocks, specs.Blocks.PoolOnFlash}
use Rattle.pk_model.{specs.Found.Found, specs.Laws.AnyByRecursion, specs.Growth.Goes, specs.Crashes.CrashFinds, specs.Crashes.background}
use Rattle.pk_law_steps.specs.Under.{IsUnder, places}
use Rattle.pk_gc.{specs.declared.course.Phase.Phase, specs.declared.moves.Move.Move, specs.declared.reclaimed.Reclaimed.Reclaimed, specs.State.JobState, specs.Cuts.MovesStand, specs.Breaking.BreaksIn}
use Rattle.pk_gc.specs.declared.course.Phase.TheVariants.{Idle, Copies, Commits, GivesBack}
use Rattle.pk_gc.{specs.Stepping.Hands, specs.Stepping.EndsMoves, specs.Stepping.StepsIn, proofs.Cutting.commit_ends, proofs.Cutting.commit_end_fails}
use Rattle.pk_values.{specs.State.ValuesState, specs.Placed.ValuesOnFlash, specs.Laws.SameValues, proofs.Unchanged.flash_elsewhere}
use Rattle.pk_log.{specs.State.LogState, specs.Logs.LogOnFlash}
use Rattle.pk_reclaim.{specs.Hands.hands_of, specs.Space.ReclaimParts, specs.Space.SpaceOnFlash, specs.Space.HalfMoves, specs.Space.HasRoom, specs.Space.reclaim_parts, proofs.Holding.programmed_pool}
use Rattle.pk_reclaim.{specs.Steps.SpaceMoves, specs.Steps.MakesWhole, specs.Steps.RepeatsIn, proofs.Owners.owners_same, proofs.Owners.others_kept, proofs.Given.SameParts, proofs.Given.same_parts}
use Rattle.pk_reclaim.{proofs.Places.high, proofs.Places.in_newest, proofs.Places.for_journal, proofs.Ready.job_in, proofs.Ready.space_in, proofs.Still.none_moved}

module _ (log : LogState) (values : ValuesState) (pool : Blocks) (victim : ℕ) (moves : List Move) (entries : List Entry) (page : List ℕ) (old : BoardState) (top : ℕ × Root) (found : Found) (m : Map)
    (ready : IsReady old log.shape) (stands : SpaceOnFlash (space_in log values pool moves entries page (Commits victim)) old.pages top found m) where
  abbrev shape : Shape
  shape = log.shape

  abbrev before : ReclaimParts
  before = space_in log values pool moves entries page (Commits victim)

  half : HalfMoves before old.pages top found m
  half = stands.half

  -- the last commit of the epoch, and its second page
  abbrev index : ℕ
  index = log.epoch.used - 1

  abbrev bytes : List ℕ
  bytes = last_bytes log.epoch entries

  abbrev second : ℕ
  second = next_page (before_half log.epoch) + 1

  abbrev first : ℕ
  first = commit_page shape top.1.newest index

  first_is : first + 1 ≡ second
  first_is i = commit_page (sym half.half.epoch_shape i) (sym half.half.epoch_blocks i) index + 1

  inside : index < epoch_commits shape
  inside = half.half.commit.in_epoch

  pub second_high : 2 * shape.block_pages ≤ second
  second_high = let low = high before old.pages top found m stands index inside in omega (arith, low, first_is)

  second_newest : AnyByRecursion (λ b. second / shape.block_pages ≡ b) top.1.newest
  second_newest = subst (λ (k : ℕ). AnyByRecursion (λ b. k / shape.block_pages ≡ b) top.1.newest) first_is
      (in_newest before old.pages top found m stands index inside (first + 1) (omega arith) (omega arith))

  second_journal : slice_get pool.states (second / shape.block_pages) ≡ Some (Owned Journal)
  second_journal = subst (λ (k : ℕ). slice_get pool.states (k / shape.block_pages) ≡ Some (Owned Journal)) first_is
      (for_journal before old.pages top found m stands index inside (first + 1) (omega arith) (omega arith))

  -- ---- the program failed

  pub repeat_breaks : (new : BoardState) → FailsToEnd log.epoch entries old new → Goes shape old new (CrashFinds shape background old.pages m)
  repeat_breaks new f =
      commit_end_fails shape old new half.former top half.was m half.moves half.blocks log.epoch ready half.half (subst (λ (es : List Entry). FailsToEnd log.epoch es old new) half.entries_are f)

  -- ---- it was made

  module _ (log' : LogState) (values' : ValuesState) (pool' : Blocks) (job' : JobState) (new : BoardState) (r : Reclaimed) (log_is : log' ≡ record log { active = log'.active; epoch = log'.epoch })
      (g : EndsMoves victim (job_in log moves entries page (Commits victim)) (hands_of values pool log.active log.epoch) old job' (hands_of values' pool' log'.active log'.epoch) new r) where
    abbrev then_log : LogState
    then_log = record log { epoch = record log.epoch { half = false } }

    abbrev there : ReclaimParts
    there = space_in then_log values pool moves [] job'.page (GivesBack victim)

    log_then : log' ≡ then_log
    log_then = log_is ∙ (λ i. record log { active = (ap (λ (h : Hands). h.active) g.hands) i; epoch = g.ends.epoch_is i })

    parts : SameParts values values' pool pool' log.active log'.active log'.epoch log'.epoch
    parts = same_parts values values' pool pool' log.active log'.active log'.epoch log'.epoch g.hands

    made : MovesStand shape old top half.was m half.moves new
    made =
        commit_ends shape old new half.former top half.was m half.moves half.blocks log.epoch log'.epoch ready half.half
        (subst (λ (es : List Entry). EndsCommit log.epoch es old log'.epoch new) half.entries_are g.ends)

    under : IsUnder shape new.pages [] top found m
    under = subst (λ (f : Found). IsUnder shape new.pages [] top f m) (sym half.found_is) made.under

    pages_are : new.pages ≡ slice_set old.pages second (whole_page bytes)
    pages_are = ap (λ (b : BoardState). b.pages) g.ends.program

    other_page : (k : ℕ) → (k ≡ second → ⊥) → page_at new.pages k ≡ page_at old.pages k
    other_page k other = ap (λ (f : Flash). page_at f k) pages_are ∙ page_at-slice_set old.pages second k (whole_page bytes) other

    low : (k : ℕ) → k < 2 * shape.block_pages → page_at new.pages k ≡ page_at old.pages k
    low k below = other_page k (λ same. let behind = second_high in omega (arith, same, below, behind))

    logs : LogOnFlash then_log new.pages top found
    logs = record {
      is_shape = stands.logs.is_shape;
      is_top = under.is_top;
      root_is = stands.logs.root_is;
      is_found = under.is_found;
      installs = InstallerOnFlash-by_same shape log.next top old.pages new.pages low stands.logs.installs;
      epoch_shape = stands.logs.epoch_shape;
      epoch_number = stands.logs.epoch_number;
      epoch_blocks = stands.logs.epoch_blocks;
      epoch_fits = subst (λ (e : JournalEpoch). EpochOnFlash e new.pages) g.ends.epoch_is g.ends.fits;
      active_is = stands.logs.active_is;
      frozen_is = stands.logs.frozen_is;
      pending_are = stands.logs.pending_are;
      spaced = stands.logs.spaced;
      pending_few = stands.logs.pending_few;
      pending_room = λ some. absurd (some stands.none_pending);
      pending_whole = λ some. absurd (some stands.none_pending);
    }

    same_values : SameValues shape pool (victim ∷ []) old.pages new.pages
    same_values k held none = other_page k (λ here.
        let clash : Some (Owned for_values) ≡ Some (Owned Journal) = sym held ∙ (ap (λ (x : ℕ). slice_get pool.states (x / shape.block_pages)) here ∙ second_journal) in cc)

    fits : PoolOnFlash pool new.pages
    fits = subst (λ (f : Flash). PoolOnFlash pool f) (sym pages_are)
        (programmed_pool shape pool second bytes old.pages stands.placed.is_shape stands.placed.shape_is (Journal, second_journal) stands.placed.fits)

    placed : ValuesOnFlash shape values pool (victim ∷ []) new.pages (places found [])
    placed = flash_elsewhere shape values pool (victim ∷ []) old.pages new.pages (places found []) stands.placed same_values fits

    stands_then : SpaceOnFlash there new.pages top found m
    stands_then = record {
      logs = logs;
      none_pending = stands.none_pending;
      under = under;
      placed = placed;
      reclaim = record { shape_is = refl; stands = tt; full = λ runs. stands.reclaim.full refl };
      half = refl;
      journal = stands.journal;
      runs = stands.runs;
      none_leaves = stands.none_leaves;
    }

    no_meta : (k : ℕ) → k ≡ second → slice_get pool.states (k / shape.block_pages) ≡ Some (Owned Meta) → ⊥
    no_meta k same owned = let clash : Some (Owned Meta) ≡ Some (Owned Journal) = sym owned ∙ (ap (λ (x : ℕ). slice_get pool.states (x / shape.block_pages)) same ∙ second_journal) in cc

    moves_there : SpaceMoves before old top found m there new
    moves_there =
        none_moved before there old new top found m stands_then
        (others_kept shape top.1 pool old.pages pool new.pages (owners_same pool) low
        (λ k owned. other_page k (λ same. no_meta k same owned))
        (λ k owned other. other_page k (λ same. other (subst (λ (x : ℕ). AnyByRecursion (λ b. x / shape.block_pages ≡ b) top.1.newest) (sym same) second_newest)))) made.cuts

    pub repeat_moves : SpaceMoves before old top found m (reclaim_parts log' values' pool' job') new
    repeat_moves =
        subst (λ (l : LogState). SpaceMoves before old top found m (reclaim_parts l values' pool' job') new) (sym log_then)
        (subst (λ (d : ValuesState). SpaceMoves before old top found m (reclaim_parts then_log d pool' job') new) (sym parts.values)
        (subst (λ (q : Blocks). SpaceMoves before old top found m (reclaim_parts then_log values q job') new) (sym parts.pool)
        (subst (λ (j : JobState). SpaceMoves before old top found m (reclaim_parts then_log values pool j) new) (sym g.job_is) moves_there)))

    -- there is room for every value still
    pub repeat_room : HasRoom (reclaim_parts log' values' pool' job')
    repeat_room =
        subst (λ (l : LogState). HasRoom (reclaim_parts l values' pool' job')) (sym log_then)
        (subst (λ (d : ValuesState). HasRoom (reclaim_parts then_log d pool' job')) (sym parts.values) (subst (λ (q : Blocks). HasRoom (reclaim_parts then_log values q job')) (sym parts.pool) half.room))

    pub repeat_whole : MakesWhole victim before old (reclaim_parts log' values' pool' job') new
    repeat_whole = record {
      bytes = bytes;
      first = half.can.half.here;
      pages = pages_are;
      phase = ap (λ (j : JobState). j.phase) g.job_is;
      log = log_then;
      values = parts.values;
      pool = parts.pool;
    }

-- ---- by what the step did

-- it is the one program, also if it fails, and no page is read
pub repeats_in : (phase : Phase) (job job' : JobState) (h h' : Hands) (old new : BoardState) (r : Result Reclaimed Fault)
    → IfOk r (λ x. StepsIn phase job h old job' h' new x) → IfErr r (λ e. BreaksIn phase job h old new e)
    → RepeatsIn phase old new r
repeats_in Idle job job' h h' old new r steps breaks = tt
repeats_in (Copies c) job job' h h' old new r steps breaks = tt
repeats_in (Commits victim) job job' h h' old new (Ok x) steps breaks = (
  record {
    programs = ap (λ (b : BoardState). b.programs) steps.ends.program;
    erases = ap (λ (b : BoardState). b.erases) steps.ends.program;
    reads = ap (λ (b : BoardState). b.reads) steps.ends.program;
  },
  λ e. let z : ⊥ = cc in z,
)
repeats_in (Commits victim) job job' h h' old new (Err Reading) steps breaks = absurd (let none : Reading ≡ Stopped = breaks.0 in let z : ⊥ = cc in z)
repeats_in (Commits victim) job job' h h' old new (Err Stopped) steps breaks = (
  record {
    programs = ap (λ (b : BoardState). b.programs) breaks.1.failed.rest;
    erases = ap (λ (b : BoardState). b.erases) breaks.1.failed.rest;
    reads = ap (λ (b : BoardState). b.reads) breaks.1.failed.rest;
  },
  λ e. let z : ⊥ = cc in z,
)
repeats_in (GivesBack victim) job job' h h' old new r steps breaks = tt
