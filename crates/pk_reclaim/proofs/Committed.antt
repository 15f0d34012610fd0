-- The first program of the commit of a reclaim's moves was made, or it failed.
use Rattle.std.proofs.Common.{◌≡◌, inl, ℕ, ◌+◌, ◌-◌, ◌*◌, ◌/◌, ◌<◌, ◌≤◌, refl, sym, ap, subst, ◌∙◌, arith, true, List, [], ◌∷◌, ◌++◌, length, reverse, append-nil, Some}
use Rattle.std.specs.Prelude.{slice_get, slice_set, flat_map}
use Rattle.pk_base.{specs.Key.Key, specs.Shape.Shape, specs.Shape.dense, specs.Shape.data_blocks, specs.Shape.page_entries, specs.Shape.epoch_commits, specs.Entry.Entry, specs.Entry.Place}
use Rattle.pk_base.{specs.Page.Flash, specs.Page.page_at, specs.Page.commit_page, specs.Page.whole as whole_page, specs.Firsts.firsts, specs.Map.Map}
use Rattle.pk_plan.specs.declared.owner.Owner.TheVariants.{Journal, Meta, Values as for_values}
use Rattle.pk_nand.{specs.BoardState.BoardState, specs.Calls.IsReady, proofs.Leaving.page_at-slice_set}
use Rattle.pk_jrn.{specs.Epochs.JournalEpoch, specs.Epochs.left_of, specs.Epochs.next_page, specs.Appends.next_bytes, specs.Replays.buffer_of, proofs.Appending.commit_left}
use Rattle.pk_rootfmt.specs.Root.{Root}
use Rattle.pk_root.proofs.Places.{InstallerOnFlash-by_same}
use Rattle.pk_pool.{specs.declared.state.BlockState.TheVariants.Owned, specs.Blocks.Blocks, specs.Blocks.used_by}
use Rattle.pk_model.{specs.Found.Found, specs.Laws.AnyByRecursion, specs.Values.placed as placed_of, specs.Growth.Goes, specs.Crashes.CrashFinds, specs.Crashes.background}
use Rattle.pk_law_steps.specs.Under.{IsUnder, places}
use Rattle.pk_law_moves.{specs.Moves.moved, specs.Moves.CanMove, specs.Victims.exchanged, proofs.Moving.places_move}
use Rattle.pk_gc.{specs.declared.course.Course.Course, specs.declared.course.Phase.TheVariants.Copies, specs.declared.course.Phase.TheVariants.Commits, specs.declared.moves.Move.Move}
use Rattle.pk_gc.{specs.State.JobState, specs.State.source, specs.State.placed_at, specs.State.left_of as moves_left, specs.State.entries_all, specs.Victims.AreDead, specs.Ending.CanGive}
use Rattle.pk_gc.{specs.Cuts.Journals, specs.Cuts.IsHalfMoved, specs.Cuts.MovesStand, specs.Committing.HasRoom as MovesHaveRoom, specs.Committing.FailsToAdd, specs.Committing.entries_left}
use Rattle.pk_gc.{specs.Stepping.Hands, specs.Stepping.CommitsMoves, proofs.Finishing.may_move, proofs.Finishing.entries_are as left_are, proofs.Buffering.moves_buffered, proofs.Buffering.moves_fit}
use Rattle.pk_gc.proofs.Cutting.{commit_begins, commit_begin_fails}
use Rattle.pk_values.{specs.State.ValuesState, specs.State.fits_open, specs.Placed.ValuesOnFlash, specs.Placed.HoldsValues, specs.Placed.IsOutput, specs.Laws.value_blocks}
use Rattle.pk_values.proofs.Unchanged.{lie_in_few, among_values}
use Rattle.pk_reclaim.{specs.Hands.hands_of, proofs.Ends.moves_placed, specs.Space.ReclaimParts, specs.Space.SpaceOnFlash, specs.Space.HalfMoves, specs.Space.HasRoom, specs.Space.reclaim_parts}
use Rattle.pk_reclaim.{specs.Steps.SpaceMoves, specs.Steps.with_newest, proofs.Known.as_many_known, proofs.Owners.owners_same, proofs.Owners.held_aside, proofs.Owners.others_kept}
use Rattle.pk_reclaim.{proofs.Quiet.aside_unnamed, proofs.Still.names_of, proofs.Room.fits_need, proofs.Room.entries_few, proofs.Places.high, proofs.Places.in_newest, proofs.Places.for_journal}
use Rattle.pk_reclaim.{proofs.Given.output_fits, proofs.Ready.job_in, proofs.Ready.space_in, proofs.Ready.is_copied, proofs.Ready.can_give}
use Rattle.pk_log.{specs.State.LogState, specs.Logs.LogOnFlash}

module _ (log : LogState) (values : ValuesState) (pool : Blocks) (c : Course) (moves : List Move) (entries : List Entry) (page : List ℕ) (old : BoardState) (top : ℕ × Root) (found : Found) (m : Map)
    (ready : IsReady old log.shape) (stands : SpaceOnFlash (space_in log values pool moves entries page (Copies c)) old.pages top found m)
    (whole : c.left ≡ 0) (dead : AreDead values.live.heads (source log.shape c) (c.victim * log.shape.block_pages + log.shape.block_pages)) where
  abbrev shape : Shape
  shape = log.shape

  abbrev es : List (Key × Place)
  es = places found []

  abbrev before : ReclaimParts
  before = space_in log values pool moves entries page (Copies c)

  abbrev job : JobState
  job = job_in log moves entries page (Copies c)

  abbrev hands : Hands
  hands = hands_of values pool log.active log.epoch

  -- the moves that remain, and their entries
  abbrev left_moves : List (Key × Place)
  left_moves = placed_at (moves_left values.live.heads moves)

  abbrev left_entries : List Entry
  left_entries = entries_left values.live.heads moves

  abbrev bytes : List ℕ
  bytes = next_bytes log.epoch left_entries

  abbrev where_to : List ℕ
  where_to = exchanged c.victim c.output (value_blocks pool (c.output ∷ []))

  give : CanGive shape c job hands old.pages es
  give = can_give log values pool moves entries page old.pages top found m c stands whole dead

  active_was : log.active ≡ buffer_of shape found.newest
  active_was = stands.logs.active_is ∙ ap (λ (xs : List Entry). buffer_of shape (found.newest ++ xs)) stands.none_pending ∙ ap (buffer_of shape) (append-nil found.newest)

  victim_held : HoldsValues pool c.victim × (IsOutput (c.output ∷ []) c.victim → ⊥)
  victim_held = let is = stands.placed.closed_owned c.victim stands.reclaim.stands.closed in (is.0, is.2)

  abbrev blocks : List ℕ
  blocks = value_blocks pool (c.output ∷ [])

  can_move : MovesHaveRoom log.active log.epoch left_entries → CanMove shape old.pages [] top.1 found left_moves (exchanged c.victim c.output blocks)
  can_move room =
      let few = lie_in_few shape values pool (c.output ∷ []) old.pages es stands.placed in
      may_move shape c moves page values.live.heads old.pages top.1 found blocks (is_copied log values pool moves entries page old.pages top found m c stands whole dead)
      (aside_unnamed pool top.1 c.output (names_of before old.pages top found m stands) (held_aside pool c.output (stands.placed.outputs_are.owned c.output (inl refl))))
      (among_values pool (c.output ∷ []) c.victim victim_held.0 victim_held.1) few.1 few.0
      (moves_fit shape c job hands old.pages es found.newest give active_was room)

  journals : Journals shape log.epoch old.pages top
  journals = record {
    is_shape = stands.logs.is_shape;
    is_top = stands.logs.is_top;
    epoch_shape = stands.logs.epoch_shape;
    epoch_number = stands.logs.epoch_number;
    epoch_blocks = stands.logs.epoch_blocks;
    epoch_fits = stands.logs.epoch_fits;
  }

  -- ---- the page of the entries

  page_is : commit_page shape top.1.newest log.epoch.used ≡ next_page log.epoch
  page_is i = commit_page (sym stands.logs.epoch_shape i) (sym stands.logs.epoch_blocks i) log.epoch.used

  module _ (left : 0 < left_of log.epoch) where
    inside : log.epoch.used < epoch_commits shape
    inside = subst (λ (s : Shape). log.epoch.used < epoch_commits s) stands.logs.epoch_shape (commit_left log.epoch left)

    next_high : 2 * shape.block_pages ≤ next_page log.epoch
    next_high = subst (λ (k : ℕ). 2 * shape.block_pages ≤ k) page_is (high before old.pages top found m stands log.epoch.used inside)

    next_newest : AnyByRecursion (λ b. next_page log.epoch / shape.block_pages ≡ b) top.1.newest
    next_newest =
        subst (λ (k : ℕ). AnyByRecursion (λ b. k / shape.block_pages ≡ b) top.1.newest) page_is
        (in_newest before old.pages top found m stands log.epoch.used inside (commit_page shape top.1.newest log.epoch.used) (omega arith) (omega arith))

    next_journal : slice_get pool.states (next_page log.epoch / shape.block_pages) ≡ Some (Owned Journal)
    next_journal =
        subst (λ (k : ℕ). slice_get pool.states (k / shape.block_pages) ≡ Some (Owned Journal)) page_is
        (for_journal before old.pages top found m stands log.epoch.used inside (commit_page shape top.1.newest log.epoch.used) (omega arith) (omega arith))

  -- ---- the program failed

  pub commit_breaks : (new : BoardState) → FailsToAdd left_entries log.active log.epoch old new → Goes shape old new (CrashFinds shape background old.pages m)
  commit_breaks new f = commit_begin_fails shape old new top found m left_moves where_to log.epoch ready journals f.room.1 stands.half stands.under (can_move f.room) f.fails

  -- ---- it was made

  module _ (log' : LogState) (values' : ValuesState) (pool' : Blocks) (job' : JobState) (new : BoardState)
      (ready' : IsReady new log.shape) (log_is : log' ≡ record log { active = log'.active; epoch = log'.epoch })
      (commits : CommitsMoves c job hands old job' (hands_of values' pool' log'.active log'.epoch) new) where
    abbrev then_found : Found
    then_found = with_newest found (found.newest ++ left_entries)

    abbrev then_log : LogState
    then_log = record log {
      active = record log.active { entries = entries_all values.live.heads log.active.entries moves };
      epoch = record log.epoch { used = log.epoch.used + 1; half = true };
    }

    abbrev there : ReclaimParts
    there = space_in then_log values' pool moves left_entries job'.page (Commits c.victim)

    log_then : log' ≡ then_log
    log_then = log_is ∙ (λ i. record log { active = (ap (λ (h : Hands). h.active) commits.hands) i; epoch = commits.adds.begins.epoch_is i })

    pool_same : pool' ≡ pool
    pool_same = ap (λ (h : Hands). h.pool) commits.hands

    pages_are : new.pages ≡ slice_set old.pages (next_page log.epoch) (whole_page bytes)
    pages_are = ap (λ (b : BoardState). b.pages) commits.adds.begins.program

    other_page : (k : ℕ) → (k ≡ next_page log.epoch → ⊥) → page_at new.pages k ≡ page_at old.pages k
    other_page k other = ap (λ (f : Flash). page_at f k) pages_are ∙ page_at-slice_set old.pages (next_page log.epoch) k (whole_page bytes) other

    room : MovesHaveRoom log.active log.epoch left_entries
    room = commits.adds.room

    low : (k : ℕ) → k < 2 * shape.block_pages → page_at new.pages k ≡ page_at old.pages k
    low k below = other_page k (λ same. let behind = next_high room.1 in omega (arith, same, below, behind))

    begun : IsHalfMoved shape log'.epoch old.pages new.pages top found m left_moves where_to × MovesStand shape old top found m left_moves new
    begun = commit_begins shape old new top found m left_moves where_to log.epoch log'.epoch ready journals room.1 stands.half stands.under (can_move room) commits.adds.begins

    under : IsUnder shape new.pages [] top then_found m
    under = begun.1.under

    half_moved : IsHalfMoved shape then_log.epoch old.pages new.pages top found m left_moves where_to
    half_moved = subst (λ (e : JournalEpoch). IsHalfMoved shape e old.pages new.pages top found m left_moves where_to) commits.adds.begins.epoch_is begun.0

    moves_few : length left_entries ≤ page_entries shape
    moves_few =
        let less = entries_few values.live.heads moves in
        let few = stands.reclaim.stands.runs.few in
        let sparse = stands.reclaim.stands.sparse in
        let fit = stands.logs.is_shape.moves_fit in
        omega (arith, less, few, sparse, fit)

    used_few : c.used ≤ dense shape
    used_few = let sparse = stands.reclaim.stands.sparse in omega (arith, sparse)

    room_there : HasRoom there
    room_there count most =
        fits_need (fits_open shape values' count) (data_blocks shape - 1) (used_by for_values pool.states)
        (output_fits shape values' c.output c.used count stands.placed.is_shape (ap (λ (h : Hands). h.front) commits.hands) used_few most)

    half_made : HalfMoves there new.pages top then_found m
    half_made = record {
      former = old.pages;
      was = found;
      moves = left_moves;
      blocks = where_to;
      half = half_moved;
      entries_are = refl;
      found_is = refl;
      can = record {
        some = some_of left_entries commits.adds.some;
        most = moves_few;
        each = left_are shape c old.pages es values.live.heads moves stands.reclaim.stands.runs.moves_are;
        half = half_moved.half;
      };
      room = room_there;
    }
      where
        some_of : (xs : List Entry) → (xs ≡ [] → ⊥) → 1 ≤ length xs
        some_of [] none = absurd (none refl)
        some_of (x ∷ xs) none = omega arith

    then_places : places then_found [] ≡ moved left_moves es
    then_places = stay (append-nil (found.newest ++ left_entries)) ∙ places_move found [] left_moves
      where
        stay : (found.newest ++ left_entries) ++ [] ≡ found.newest ++ left_entries → places then_found [] ≡ places found left_entries
        stay same i = placed_of (firsts (reverse (same i) ++ reverse found.older ++ flat_map (λ es. es) found.runs))

    logs : LogOnFlash then_log new.pages top then_found
    logs = record {
      is_shape = stands.logs.is_shape;
      is_top = under.is_top;
      root_is = stands.logs.root_is;
      is_found = under.is_found;
      installs = InstallerOnFlash-by_same shape log.next top old.pages new.pages low stands.logs.installs;
      epoch_shape = stands.logs.epoch_shape;
      epoch_number = stands.logs.epoch_number;
      epoch_blocks = stands.logs.epoch_blocks;
      epoch_fits = half_moved.half.fits;
      active_is = moves_buffered shape c job hands old.pages es found.newest give active_was
          ∙ ap (buffer_of shape) (sym (append-nil (found.newest ++ left_entries)))
          ∙ ap (λ (xs : List Entry). buffer_of shape ((found.newest ++ left_entries) ++ xs)) (sym stands.none_pending);
      frozen_is = stands.logs.frozen_is;
      pending_are = stands.logs.pending_are;
      spaced = stands.logs.spaced;
      pending_few = stands.logs.pending_few;
      pending_room = λ some. absurd (some stands.none_pending);
      pending_whole = λ some. absurd (some stands.none_pending);
    }

    placed : ValuesOnFlash shape values' pool (c.victim ∷ []) new.pages (places then_found [])
    placed =
        subst (λ (xs : List (Key × Place)). ValuesOnFlash shape values' pool (c.victim ∷ []) new.pages xs) (sym then_places)
        (subst (λ (p : Blocks). ValuesOnFlash shape values' p (c.victim ∷ []) new.pages (moved left_moves es)) pool_same
        (moves_placed shape c job job' values values' pool pool' log.active log'.active log.epoch log'.epoch old new es stands.placed give commits (next_journal room.1)))

    stands_then : SpaceOnFlash there new.pages top then_found m
    stands_then = record {
      logs = logs;
      none_pending = stands.none_pending;
      under = under;
      placed = placed;
      reclaim = record { shape_is = refl; stands = tt; full = λ runs. stands.reclaim.full refl };
      half = half_made;
      journal = stands.journal;
      runs = stands.runs;
      none_leaves = stands.none_leaves;
    }

    -- what was made of log, pool and job
    as_made : (P : LogState → Blocks → JobState → Type 0) → P then_log pool (job_in log moves left_entries job'.page (Commits c.victim)) → P log' pool' job'
    as_made P is =
        subst (λ (l : LogState). P l pool' job') (sym log_then)
        (subst (λ (p : Blocks). P then_log p job') (sym pool_same)
        (subst (λ (j : JobState). P then_log pool j) (sym commits.job_is) is))

    pub commit_moves : SpaceMoves before old top found m (reclaim_parts log' values' pool' job') new
    commit_moves = as_made (λ l p j. SpaceMoves before old top found m (reclaim_parts l values' p j) new) (record {
      moves = left_moves;
      newest = found.newest ++ left_entries;
      newest_is = refl;
      still = tt;
      then_places = then_places;
      as_many = as_many_known shape old.pages new.pages top found then_found m stands.logs.is_shape ready.flash ready'.flash stands.under under;
      stands = stands_then;
      others = others_kept shape top.1 pool old.pages pool new.pages (owners_same pool) low
          (λ k owned. other_page k (λ same. no_meta k same owned))
          (λ k owned other. other_page k (λ same. other (subst (λ (x : ℕ). AnyByRecursion (λ b. x / shape.block_pages ≡ b) top.1.newest) (sym same) (next_newest room.1))));
      cuts = begun.1.cuts;
    })
      where
        no_meta : (k : ℕ) → k ≡ next_page log.epoch → slice_get pool.states (k / shape.block_pages) ≡ Some (Owned Meta) → ⊥
        no_meta k same owned =
            let clash : Some (Owned Meta) ≡ Some (Owned Journal) = sym owned ∙ (ap (λ (x : ℕ). slice_get pool.states (x / shape.block_pages)) same ∙ next_journal room.1) in cc

    pub commit_room : HasRoom (reclaim_parts log' values' pool' job')
    commit_room = as_made (λ l p j. HasRoom (reclaim_parts l values' p j)) room_there
