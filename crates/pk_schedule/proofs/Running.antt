-- A step of the job of a merge that runs: the index matches the flash after it, with the same map, wherever the step is cut.
use Rattle.std.proofs.Common.{◌≡◌, ◌≢◌, inl, inr, ℕ, ◌+◌, ◌*◌, ◌/◌, ◌<◌, ◌≤◌, List, [], ◌++◌, length, Option, Some, None, refl, sym, ap, subst, ◌∙◌, arith, div-lt_iff_lt-mul}
use Rattle.std.{specs.Prelude.slice_get, specs.Prelude.slice_index, specs.List.concat}
use Rattle.pk_base.{specs.Shape.Shape, specs.Shape.IsShape, specs.Entry.Entry, specs.Page.Flash, specs.Page.page_at, specs.Map.Map, proofs.ShapeLemmas.block_pages_positive, proofs.Logic.is_true}
use Rattle.pk_nand.{specs.BoardState.BoardState, specs.Calls.IsReady, specs.Operations.after_read, specs.declared.types.Fault.TheVariants.Stopped, proofs.Reaching.Reached-start}
use Rattle.pk_pin.specs.Frames.{Frames}
use Rattle.pk_plan.{specs.declared.owner.Owner.Owner, specs.declared.owner.Owner.TheVariants.Journal, specs.declared.owner.Owner.TheVariants.Meta, specs.declared.owner.Owner.TheVariants.Values}
use Rattle.pk_rootfmt.specs.Root.{Root, named}
use Rattle.pk_pool.specs.declared.state.BlockState.TheVariants.{Free, Ready as ReadyBlock, Owned}
use Rattle.pk_pool.{specs.Blocks.Blocks, specs.Blocks.IsShared, specs.Blocks.IsSpare, proofs.States.free_is_not_root, proofs.States.ready_is_not_root, proofs.States.owned_is_not_root}
use Rattle.pk_pool.{proofs.Sharing.behind_roots, proofs.Fitting.block_of}
use Rattle.pk_run.specs.Kept.{Kept, page_of, after_look}
use Rattle.pk_level.{specs.Levels.run_of, specs.Arenas.leases_of}
use Rattle.pk_model.{specs.Found.Found, specs.Growth.Goes, specs.Crashes.CrashFinds, specs.Crashes.background, specs.Tree.run_at}
use Rattle.pk_model.proofs.SamePages.{any_back}
use Rattle.pk_root.specs.Laws.{SameFront}
use Rattle.pk_law_steps.{specs.Under.IsUnder, specs.Under.IsValuePage, specs.Under.places, proofs.Untouched.under_reads, proofs.Places.In}
use Rattle.pk_merge.{specs.Cursors.Cursor, specs.Cursors.own_page, specs.declared.source.Source.Source, specs.declared.source.Source.TheVariants.Frozen, specs.declared.source.Source.TheVariants.Run}
use Rattle.pk_merge.{specs.declared.next.Next.Next, specs.Sources.after_look_at, specs.Merging.Merger, specs.Merging.Tells, specs.Running.Running, specs.Steps.Acts, specs.Steps.Fails}
use Rattle.pk_merge.specs.declared.next.Next.TheVariants.{LoadSource, LoadTarget, Gather, TakeBlock, Program, End}
use Rattle.pk_merge.proofs.Places.{block_there, block_of_page}
use Rattle.pk_merge.{specs.Elsewhere.IsForOutput, specs.Elsewhere.LeavesRuns, specs.Elsewhere.LeavesLeases, specs.Jobs.Job, specs.Jobs.JobRuns, specs.Jobs.pins, specs.Jobs.output_of}
use Rattle.pk_compact.{specs.Laws.IsUnread, specs.Laws.CallLeaves, specs.Freezing.IsApart, specs.FreezeSteps.IsTaken, specs.FreezeSteps.taken_by, proofs.Touching.program_unread, proofs.Touching.erase_unread, proofs.TakingOne.all_more}
use Rattle.pk_log.{specs.Laws.SameNamed, proofs.Standing.logs_elsewhere}
use Rattle.pk_schedule.{specs.declared.phase.Phase.Phase, specs.Steps.MayWork, specs.Steps.IndexMoves, proofs.Settled.whole_moves, proofs.Standing.apart_top, proofs.Giving.Grown}
use Rattle.pk_schedule.specs.Index.{Index, IndexOnFlash, MergesInto, MergeStands, output, source_at, entries_at, IsSettled}
use Rattle.pk_schedule.proofs.Giving.{not_spare, one_owner}
use Rattle.pk_schedule.proofs.Grown.{Grew, SameEnd, got_in, in_got, differ_of, grew_by, grew_from, grew_none_leaves, same_page, runs_leave}

-- ---- a block for the output is read by nobody

module _ (x : Index) (frames : ℕ) (old : BoardState) (top : ℕ × Root) (found : Found) (m : Map)
    (may : MayWork x frames old.pages top found m) (shared : IsShared x.pool.shape x.pool.states) (ready : IsReady old x.log.shape) where
  stands : IndexOnFlash x frames old.pages top found
  stands = may.stands

  is_shape : IsShape x.log.shape
  is_shape = stands.logs.is_shape

  apart : IsApart x.log.shape x.pool top.1 found
  apart = apart_top x frames old.pages top found m may

  spare_behind : (b : ℕ) → IsSpare x.pool b → 2 ≤ b
  spare_behind b (inl free) = behind_roots x.pool.shape x.pool.states b Free free_is_not_root free shared
  spare_behind b (inr ready) = behind_roots x.pool.shape x.pool.states b ReadyBlock ready_is_not_root ready shared

  value_owned : (b k : ℕ) → k / x.log.shape.block_pages ≡ b → IsValuePage x.log.shape (places found []) k → slice_get x.pool.states b ≡ Some (Owned Values)
  value_owned b k here is = subst (λ (y : ℕ). slice_get x.pool.states y ≡ Some (Owned Values)) here (may.values k is)

  spare_unread : (b : ℕ) → IsSpare x.pool b → IsUnread x.log.shape top.1 found b
  spare_unread b spare = record { least = spare_behind b spare; unnamed = apart.unnamed b spare; no_value = λ k. apart.no_value b k spare }

  module _ (level : ℕ) (into : MergesInto x top.1 found level) where
    abbrev out : Kept
    out = output x.schedule

    held_unread : (b : ℕ) → In b out.blocks → IsUnread x.log.shape top.1 found b
    held_unread b among = record {
      least = behind_roots x.pool.shape x.pool.states b (Owned Meta) (owned_is_not_root {o = Meta}) (into.held.owned b among) shared;
      unnamed = into.held.unnamed b among;
      no_value = λ k here is. let e : Meta ≡ Values = one_owner x.pool Meta Values b (into.held.owned b among) (value_owned b k here is) in cc;
    }

    pub for_unread : (b : ℕ) → IsForOutput x.pool out b → IsUnread x.log.shape top.1 found b
    for_unread b (inl spare) = spare_unread b spare
    for_unread b (inr (i, got)) = held_unread b (got_in out.blocks i b got)

    -- nor is it a block of others
    for_no_other : (b : ℕ) (o : Owner) → (Meta ≡ o → ⊥) → slice_get x.pool.states b ≡ Some (Owned o) → IsForOutput x.pool out b → ⊥
    for_no_other b o other owned (inl spare) = not_spare x.pool o b owned spare
    for_no_other b o other owned (inr (i, got)) = other (one_owner x.pool Meta o b (into.held.owned b (got_in out.blocks i b got)) owned)

    -- ---- the calls of the job

    module _ (new : BoardState) where
      abbrev Holds : Flash → List ℕ → Type 0
      Holds = CrashFinds x.log.shape background old.pages m

      pub same_leaves : new.shape ≡ old.shape → new.pages ≡ old.pages → new.trail ≡ old.trail → new.posted ≡ old.posted → CallLeaves x.log.shape old top found m new
      same_leaves shape pages trail posted = record {
        under = subst (λ (f : Flash). IsUnder x.log.shape f [] top found m) (sym pages) may.under;
        cuts = ([], Reached-start old new Holds shape pages trail posted (refl, under_reads x.log.shape old.pages [] top found m may.under), tt);
      }

      none_leaves : new ≡ old → CallLeaves x.log.shape old top found m new
      none_leaves e = same_leaves (ap (λ (b : BoardState). b.shape) e) (ap (λ (b : BoardState). b.pages) e) (ap (λ (b : BoardState). b.trail) e) (ap (λ (b : BoardState). b.posted) e)

      read_leaves : new ≡ after_read old → CallLeaves x.log.shape old top found m new
      read_leaves e = same_leaves (ap (λ (b : BoardState). b.shape) e) (ap (λ (b : BoardState). b.pages) e) (ap (λ (b : BoardState). b.trail) e) (ap (λ (b : BoardState). b.posted) e)

      look_leaves : (lease : Option ℕ) → new ≡ after_look lease old → CallLeaves x.log.shape old top found m new
      look_leaves None e = read_leaves e
      look_leaves (Some l) e = none_leaves e

      source_leaves : {X : Type 0} (source : Source X) (c : Cursor) → new ≡ after_look_at source c old → CallLeaves x.log.shape old top found m new
      source_leaves (Frozen b) c e = none_leaves e
      source_leaves (Run r) c e = look_leaves (slice_get r.now.leases (own_page c)) e

      module _ {X : Type 0} (source : Source X) (target : Kept) (j : Merger) (arena : Frames)
          (es fs : List Entry) (r : Running source target (pins x.schedule.job) out j x.pool old.pages arena es fs) where
        abbrev n : ℕ
        n = x.log.shape.block_pages

        some : 0 < x.log.shape.block_pages
        some = block_pages_positive x.log.shape is_shape

        -- the block of the page that is programmed next
        abbrev block : ℕ
        block = slice_index out.blocks (length out.firsts / out.shape.block_pages)

        in_output : length out.firsts < length out.blocks * out.shape.block_pages → IsForOutput x.pool out block
        in_output place = inr (
          length out.firsts / out.shape.block_pages,
          block_there out.shape (subst (λ (s : Shape). 0 < s.block_pages) (sym into.output_shape) some) out.blocks (length out.firsts) place,
        )

        page_there : page_of out (length out.firsts) / x.log.shape.block_pages ≡ block
        page_there = ap (λ (s : Shape). page_of out (length out.firsts) / s.block_pages) (sym into.output_shape)
            ∙ block_of_page out.shape (subst (λ (s : Shape). 0 < s.block_pages) (sym into.output_shape) some) out.blocks (length out.firsts)

        place : length out.firsts ≢ length out.blocks * out.shape.block_pages → length out.firsts < length out.blocks * out.shape.block_pages
        place ne = let within = r.merging.stands.within in omega (arith, within, ne)

        pub job_leaves : (next : Next) (out' : Kept) (j' : Merger) (pool' : Blocks) (arena' : Frames) → Tells source target out j next
            → Acts source target (pins x.schedule.job) out j x.pool old arena next out' j' pool' new arena' → CallLeaves x.log.shape old top found m new
        job_leaves LoadSource out' j' pool' arena' t (l, o, p, a) = source_leaves source j.source l.board
        job_leaves LoadTarget out' j' pool' arena' t (l, o, p, a) = look_leaves (slice_get target.leases (own_page j.target)) l.board
        job_leaves Gather out' j' pool' arena' t (e, o, p, q, a) = none_leaves e
        job_leaves End out' j' pool' arena' t (e, o, p, q, a) = none_leaves e
        job_leaves TakeBlock out' j' pool' arena' t (k, e, a, fits) = elim k.choice [
          | inl taken ↦ none_leaves taken.same
          | inr erased ↦ (erase_unread x.log.shape old new top found m k.block is_shape ready may.under (spare_unread k.block k.spare)).0 erased.erase
        ]
        job_leaves Program out' j' pool' arena' t (k, e, p) =
            (program_unread x.log.shape old new top found m block (page_of out (length out.firsts)) _ is_shape ready may.under (for_unread block (in_output (place t.1))) page_there).0 k.program

        pub job_breaks : (j' : Merger) → Fails source target out j x.pool old Stopped j' new → Goes x.log.shape old new Holds
        job_breaks j' (inl erase) = (erase_unread x.log.shape old new top found m erase.block is_shape ready may.under (spare_unread erase.block (inl erase.lowest.here))).1 erase.failed
        job_breaks j' (inr program) =
            (program_unread x.log.shape old new top found m block (page_of out (length out.firsts)) _ is_shape ready may.under (for_unread block (in_output program.place)) page_there).1 program.failed

    -- ---- pages of others

    module _ (new : Flash) (end : SameEnd x.pool out old.pages new) where
      other_page : (k : ℕ) → (IsForOutput x.pool out (k / x.log.shape.block_pages) → ⊥) → page_at new k ≡ page_at old.pages k
      other_page k other = same_page x.pool out old.pages new end k (λ is. other (subst (λ (s : Shape). IsForOutput x.pool out (k / s.block_pages)) into.output_shape is))

      owned_page : (k : ℕ) (o : Owner) → (Meta ≡ o → ⊥) → slice_get x.pool.states (k / x.log.shape.block_pages) ≡ Some (Owned o) → page_at new k ≡ page_at old.pages k
      owned_page k o other owned = other_page k (for_no_other (k / x.log.shape.block_pages) o other owned)

      -- the root blocks, and those that the root names
      pub front_same : SameFront x.log.shape old.pages new
      front_same k low = other_page k (λ is.
          let least = (for_unread (k / x.log.shape.block_pages) is).least in
          let small : k / x.log.shape.block_pages < 2 = (div-lt_iff_lt-mul (block_pages_positive x.log.shape is_shape)).1 low in
          omega (arith, least, small))

      named_same : SameNamed x.log.shape top.1 old.pages new
      named_same k (inl low) = front_same k low
      named_same k (inr is) = other_page k (λ for. (for_unread (k / x.log.shape.block_pages) for).unnamed is)

      taken_same : (pool' : Blocks) → ((b : ℕ) → slice_get x.pool.states b ≡ Some (Owned Journal) → slice_get pool'.states b ≡ Some (Owned Journal))
          → (b : ℕ) → IsTaken x.log.shape x.pool old.pages top.1 b → IsTaken x.log.shape pool' new top.1 b
      taken_same pool' kept b t = record {
        least = t.least;
        most = t.most;
        owned = kept b t.owned;
        is_erased = λ k low high.
            let here : k / x.log.shape.block_pages ≡ b = block_of x.log.shape.block_pages k b low high in
            owned_page k Journal (λ e. cc) (subst (λ (y : ℕ). slice_get x.pool.states y ≡ Some (Owned Journal)) (sym here) t.owned) ∙ t.is_erased k low high;
        unnamed = t.unnamed;
      }

    -- ---- the index after it

    module _ (new : BoardState) (phase : Phase) (job : Job) (pool : Blocks) (arena : Frames)
        (is_job : job ≡ record x.schedule.job { output = job.output; merger = job.merger })
        (grew : Grew x.pool out pool (output_of job)) (end : SameEnd x.pool out old.pages new.pages) (leaves : CallLeaves x.log.shape old top found m new)
        (same_frames : length arena.used ≡ length x.arena.used) (leases : LeavesLeases out x.arena (output_of job) arena)
        (others : LeavesRuns x.pool out old.pages x.arena new.pages arena)
        (runs : JobRuns (source_at x level) (run_of x.levels level) job pool new.pages arena (entries_at x found level) (run_at found.runs level)) where
      abbrev stepped : Index
      stepped = record x { arena = arena; pool = pool; schedule = record x.schedule { job = job; phase = phase } }

      more : (n : ℕ) × Grown Meta x.pool pool n × (length (output_of job).blocks ≡ length out.blocks + n)
      more = grew_by x.pool out pool (output_of job) grew

      pool_shape : pool.shape ≡ x.log.shape
      pool_shape = more.1.shape ∙ stands.pool_shape

      out_shape : (output_of job).shape ≡ x.log.shape
      out_shape = sym runs.running.shapes.of_pool ∙ pool_shape

      unnamed : (b : ℕ) → In b (output_of job).blocks → In b (named top.1) → ⊥
      unnamed b among is = elim (grew_from x.pool out pool (output_of job) grew b among) [
        | inl was ↦ into.held.unnamed b was is
        | inr spare ↦ apart.unnamed b spare is
      ]

      pub into_then : MergesInto stepped top.1 found level
      into_then = record {
        due = into.due;
        target = ap (λ (j : Job). j.target) is_job ∙ into.target;
        has_output = runs.output;
        output_shape = out_shape;
        output_level = runs.same_level ∙ ap (λ (j : Job). j.target) is_job ∙ into.target;
        held = record {
          different = is_true _ (differ_of (output_of job).blocks runs.running.merging.output.different);
          owned = λ b among. let at = in_got (output_of job).blocks b among in runs.running.blocks.own at.0 b at.1;
          unnamed = unnamed;
        };
        spares = ap (λ (j : Job). j.spares) is_job ∙ into.spares;
        merger_shape = runs.running.shapes.of_merger ∙ out_shape;
      }

      pub index_then : MergeStands phase stepped new.pages top.1 found → IndexOnFlash stepped frames new.pages top found
      index_then merge = record {
        logs = logs_elsewhere x.log old.pages new.pages top found (named_same new.pages end) stands.logs;
        pool_shape = pool_shape;
        pool_fits = runs.running.blocks.fits;
        levels_shape = stands.levels_shape;
        levels_pinned = stands.levels_pinned;
        stand = runs_leave x.log.shape x.pool out old.pages x.arena new.pages arena others into.output_shape x.levels.runs top.1.runs found.runs stands.run_blocks stands.runs
            (λ b is among. into.held.unnamed b among (any_back (λ y. b ≡ y) (top.1.newest ++ top.1.older) (concat top.1.runs) is)) stands.stand;
        run_blocks = stands.run_blocks;
        arena_is = record {
          leases = record {
            page_bytes_is = runs.running.shapes.of_frames ∙ ap (λ (s : Shape). s.page_bytes) out_shape;
            size = same_frames ∙ stands.arena_is.leases.size;
            pinned_is = stands.arena_is.leases.pinned_is;
            only_these = leases (leases_of x.levels.runs) stands.arena_is.leases.only_these;
          };
          bare = stands.arena_is.bare;
        };
        journal = λ b is. more.1.owned Journal b (stands.journal b is);
        journal_few = more.1.others Journal (λ e. cc) ∙ stands.journal_few;
        runs = λ b is. more.1.owned Meta b (stands.runs b is);
        runs_few = (let few = stands.runs_few in let has = more.1.has in let blocks = more.2 in omega (arith, few, has, blocks));
        pins_are = ap (λ (j : Job). j.pinned) is_job ∙ stands.pins_are;
        merge = merge;
        freeze = record {
          taken = all_more (IsTaken x.log.shape x.pool old.pages top.1) (IsTaken x.log.shape pool new.pages top.1)
              (taken_by x.schedule.freeze) (taken_same new.pages end pool (more.1.owned Journal)) stands.freeze.taken;
          different = stands.freeze.different;
          none_frozen = stands.freeze.none_frozen;
        };
      }

      settles : IsSettled stepped
      settles = record { whole = may.settles.whole; none_leaves = grew_none_leaves x.pool out pool (output_of job) may.settles.none_leaves grew }

      pub moves_then : MergeStands phase stepped new.pages top.1 found → IndexMoves x frames old found m stepped new
      moves_then merge = whole_moves x frames old top found m may stepped new settles (index_then merge) refl refl may.none_pending leaves.under (record {
        size = more.1.size;
        owned = more.1.owned Values;
        no_more = more.1.no_more Values (λ e. cc);
        as_many = more.1.others Values (λ e. cc);
        pages = λ k owned. owned_page new.pages end k Values (λ e. cc) owned;
      }) leaves.cuts
