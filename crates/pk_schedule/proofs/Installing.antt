-- The root of a merge is installed, and the runs are exchanged, over an index.
use Rattle.std.proofs.Common.{◌≡◌, ◌⊎◌, inl, inr, ℕ, zero, suc, reverse, ◌∷◌, ◌+◌, ◌-◌, ◌<◌, ◌≤◌, Bool, true, false, ◌==◌, if◌then◌else◌, List, [], ◌++◌, length, map, slice_index, Some, None, refl}
use Rattle.std.proofs.Common.{sym, ap, subst, ◌∙◌, arith, length-append}
use Rattle.std.{specs.Prelude.slice_get, specs.Prelude.unwrap_or, specs.List.concat, specs.List.AllByRecursion, proofs.lemmas.Bool.cases_lt}
use Rattle.pk_base.{specs.Shape.Shape, specs.Page.Flash, specs.Page.page_at, specs.Map.Map, specs.Firsts.firsts, specs.Entry.Entry, proofs.Logic.is_true}
use Rattle.pk_buf.specs.Table.{Table}
use Rattle.pk_law_work.{specs.Rest.Lowers, specs.Rest.left_of, specs.Rest.whole_merge, specs.Backlog.due_level, specs.Steps.EndsMerge, proofs.Lowering.ends, proofs.Targets.next_told}
use Rattle.pk_plan.{specs.declared.owner.Owner.TheVariants.Journal, specs.declared.owner.Owner.TheVariants.Meta, specs.declared.owner.Owner.TheVariants.Values}
use Rattle.pk_nand.specs.BoardState.{BoardState}
use Rattle.pk_rootfmt.specs.Root.{Root, named}
use Rattle.pk_root.{specs.declared.next.Next.Next, specs.Installing.programs_next, specs.Installing.repeats_next}
use Rattle.pk_root.specs.declared.next.Next.TheVariants.{Program}
use Rattle.pk_pin.specs.Frames.{Frames}
use Rattle.pk_model.{specs.Found.Found, proofs.SamePages.any_front, proofs.SamePages.any_back, proofs.Commits.member}
use Rattle.pk_pool.{specs.declared.state.BlockState.TheVariants.Free, specs.declared.state.BlockState.TheVariants.Owned, specs.Unready.unready, proofs.Leaving.freed_unready}
use Rattle.pk_pool.specs.Blocks.{Blocks, IsShared, PoolOnFlash, used_by, freed}
use Rattle.pk_run.specs.Kept.{Kept, empty}
use Rattle.pk_level.{specs.Levels.Levels, specs.Levels.IsLevels, specs.Levels.RunsOnFlash, specs.Levels.HaveBlocks, proofs.Releasing.bare_blocks, proofs.Releasing.bare_counts}
use Rattle.pk_level.specs.Arenas.{HasArena, HasLeases, Releases, last_level, unfilled}
use Rattle.pk_law_steps.{specs.Merging.IsMerged, specs.Merging.merged_root, specs.Merging.merged_found, specs.Merging.freed_by, specs.Merging.blocks_at, specs.Under.IsUnder, specs.Next.IsNext}
use Rattle.pk_law_steps.{proofs.FreedCounts.freed_counted, proofs.Following.merged_next, proofs.Freeing.freed as freed_unread, proofs.Merging.in_after, proofs.Places.In, proofs.Places.in_append}
use Rattle.pk_law_steps.proofs.Standing.{installed}
use Rattle.pk_merge.specs.Jobs.{Job, IsIdle}
use Rattle.pk_compact.specs.FreezeSteps.{IsTaken, taken_by, install_steps}
use Rattle.pk_log.{specs.State.LogState, specs.Logs.LogOnFlash, specs.MergeSteps.LogMerged, specs.MergeSteps.frozen_after}
use Rattle.pk_schedule.{specs.declared.phase.Phase.TheVariants.Idle, specs.declared.phase.Phase.TheVariants.Ready, proofs.Backlogs.index_backlog, proofs.Giving.none_more, proofs.Giving.one_owner}
use Rattle.pk_schedule.{specs.Index.Index, specs.Index.IndexOnFlash, specs.Index.output, specs.Index.HalfStands, specs.Index.settled, proofs.Standing.named_owned, proofs.Settled.none_there}
use Rattle.pk_schedule.specs.Steps.{MayWork, KeepsValues, IndexMoves, LessIsLeft, backlog_of}
use Rattle.pk_schedule.proofs.Preparing.{no_freeze, pool_still, same_page, merge_is, due_now}
use Rattle.pk_schedule.proofs.Waiting as wait

not_values : (pool : Blocks) (b : ℕ) → (slice_get pool.states b ≡ Some (Owned Journal)) ⊎ (slice_get pool.states b ≡ Some (Owned Meta)) → slice_get pool.states b ≡ Some (Owned Values) → ⊥
not_values pool b (inl journal) values = let e : Journal ≡ Values = one_owner pool Journal Values b journal values in let c : ⊥ = cc in c
not_values pool b (inr meta) values = let e : Meta ≡ Values = one_owner pool Meta Values b meta values in let c : ⊥ = cc in c

-- the frozen buffer is empty, or as before
frozen_size : (one : Bool) (t : Table) → length (if one then record t { entries = [] } else t).entries ≡ (if one then 0 else length t.entries)
frozen_size true t = refl
frozen_size false t = refl

-- the first program leaves the second one
one_left : (a : Next) (u u' : ℕ) → programs_next a ≡ true → u' ≡ u → Lowers (install_steps a) u 1 u'
one_left (Program page) u u' programs same = record { none_ready = omega (arith, same); less = omega (arith, same) }
one_left _ u u' programs same = absurd (cc)

module _ (x : Index) (frames : ℕ) (old : BoardState) (top : ℕ × Root) (found : Found) (m : Map) (may : MayWork x frames old.pages top found m) (level : ℕ) (is : x.schedule.phase ≡ Ready level)
    (shared : IsShared x.pool.shape x.pool.states) (known : IsLevels x.levels) (new : BoardState) where
  abbrev shape : Shape
  shape = x.log.shape

  abbrev out : Kept
  out = output x.schedule

  abbrev root : Root
  root = top.1

  abbrev then_root : Root
  then_root = merged_root root level out.count out.blocks

  abbrev then_found : Found
  then_found = merged_found level found

  -- What the exchange leaves of the runs, their frames and blocks, and of the job.
  pub record Replaced (levels' : Levels) (arena' : Frames) (pool' : Blocks) (job' : Job) : Type 0 where
    pub levels_shape : levels'.shape ≡ x.levels.shape
    pub levels_pinned : levels'.pinned ≡ x.levels.pinned
    pub stand : RunsOnFlash new.pages arena' levels'.runs then_found.runs
    pub run_blocks : HaveBlocks shape levels'.runs then_root.runs
    pub arena_is : HasLeases shape frames levels' arena' []
    pub same_shape : pool'.shape ≡ x.pool.shape
    pub size : length pool'.states ≡ length x.pool.states
    pub others : (b : ℕ) → (In b (freed_by level root) → ⊥) → slice_get pool'.states b ≡ slice_get x.pool.states b
    pub gone : (b : ℕ) → In b (freed_by level root) → slice_get pool'.states b ≡ Some Free
    pub journal_fewer : used_by Journal pool'.states + length root.older ≡ used_by Journal x.pool.states + length then_root.older
    pub meta_fewer : used_by Meta pool'.states + length (concat root.runs) + length out.blocks ≡ used_by Meta x.pool.states + length (concat then_root.runs)
    pub same_values : used_by Values pool'.states ≡ used_by Values x.pool.states
    pub same_unready : unready pool'.states ≡ unready x.pool.states
    pub pool_fits : (flash : Flash) → PoolOnFlash x.pool flash → PoolOnFlash pool' flash
    pub idle : IsIdle shape job'
    pub pinned_is : job'.pinned ≡ x.schedule.job.pinned
    pub source : 2 ≤ level → slice_index (map (λ (r : Kept). r.count) levels'.runs) (level - 2) ≡ 0
    pub above : (i : ℕ) → i + 2 < level → slice_index (map (λ (r : Kept). r.count) levels'.runs) i ≡ slice_index (map (λ (r : Kept). r.count) x.levels.runs) i

  -- After the frames of the levels that may have none are freed, it is so still, and only levels that may have frames have some.
  module _ (levels' : Levels) (arena' : Frames) (pool' : Blocks) (job' : Job) (r : Replaced levels' arena' pool' job') where
    shape_is : levels'.shape ≡ shape
    shape_is = r.levels_shape ∙ may.stands.levels_shape

    -- what is asked of the release
    pub leases_are : HasLeases levels'.shape (length arena'.used) levels' arena' []
    leases_are =
        subst (λ (s : Shape). HasLeases s (length arena'.used) levels' arena' []) (sym shape_is) (subst (λ (n : ℕ). HasLeases shape n levels' arena' []) (sym r.arena_is.size) r.arena_is)

    module _ (levels_last : Levels) (arena_last : Frames) (e : Releases levels' arena' levels_last arena_last) where
      pub released_arena : HasArena shape frames levels_last arena_last []
      released_arena =
          subst (λ (s : Shape). HasArena s frames levels_last arena_last []) shape_is
          (subst (λ (n : ℕ). HasArena levels'.shape n levels_last arena_last []) r.arena_is.size (e.arena_is [] leases_are))

      abbrev last : ℕ
      last = last_level levels' (length arena'.used)

      counts_are : map (λ (k : Kept). k.count) levels_last.runs ≡ map (λ (k : Kept). k.count) levels'.runs
      counts_are = ap (λ (ls : Levels). map (λ (k : Kept). k.count) ls.runs) e.levels_are ∙ bare_counts last 1 levels'.runs

      pub released : Replaced levels_last arena_last pool' job'
      released =
          let shape_now = ap (λ (ls : Levels). ls.shape) e.levels_are ∙ r.levels_shape in
          let pinned_now = ap (λ (ls : Levels). ls.pinned) e.levels_are ∙ r.levels_pinned in
          let stand = e.stand new.pages then_found.runs r.stand in
          let blocks = subst (λ (ls : Levels). HaveBlocks shape ls.runs then_root.runs) (sym e.levels_are) (bare_blocks shape last 1 levels'.runs then_root.runs r.run_blocks) in
          let source = subst (λ (ns : List ℕ). 2 ≤ level → slice_index ns (level - 2) ≡ 0) (sym counts_are) r.source in
          let above = subst (λ (ns : List ℕ). (i : ℕ) → i + 2 < level → slice_index ns i ≡ slice_index (map (λ (k : Kept). k.count) x.levels.runs) i) (sym counts_are) r.above in
          assumption (r, released_arena.leases, shape_now, pinned_now, stand, blocks, source, above)

  module _ (log' : LogState) (programs : programs_next x.log.next ≡ true) (f : LogMerged x.log old top found m level out.count out.blocks log' new)
      (levels' : Levels) (arena' : Frames) (left : Blocks) (job' : Job) (r : Replaced levels' arena' (freed left) job') (has : HasArena shape frames levels' arena' [])
      (counted : used_by Values left.states ≡ used_by Values x.pool.states) where
    -- the pool as if the blocks that leave were free
    abbrev pool' : Blocks
    pool' = freed left

    abbrev then_log : LogState
    then_log = record x.log { root = then_root; next = log'.next; frozen = frozen_after level x.log.frozen }

    abbrev then_index : Index
    then_index = record { log = then_log; levels = levels'; arena = arena'; pool = left; schedule = record { job = job'; phase = Idle; freeze = x.schedule.freeze } }

    is_merged : IsMerged shape old.pages [] top found level out.count out.blocks
    is_merged = wait.is_merged x frames old top found m may level is shared known

    next : IsNext shape old.pages [] top found then_root then_found
    next = merged_next shape old.pages [] top found m level out.count out.blocks may.stands.logs.is_shape may.under is_merged

    -- what was freed is named no more
    not_freed : (b : ℕ) → In b (named then_root) → In b (freed_by level root) → ⊥
    not_freed b among gone = (freed_unread shape old.pages [] top found m level out.count out.blocks b may.stands.logs.is_shape may.under is_merged gone).0 among

    freed_named : (b : ℕ) → In b (freed_by level root) → In b (named root)
    freed_named = (freed_counted shape root level out.count out.blocks (is_true _ (wait.valid x frames old top found m may level is shared known))
        (wait.least x frames old top found m may level is shared known) (wait.most x frames old top found m may level is shared known)).2

    older_in : (one : Bool) (b : ℕ) → In b (if one then [] else root.older) → In b root.older
    older_in true b among = absurd among
    older_in false b among = among

    journal_stands : (b : ℕ) → In b (then_root.newest ++ then_root.older) → slice_get pool'.states b ≡ Some (Owned Journal)
    journal_stands b among =
        r.others b (not_freed b (any_front (λ c. b ≡ c) (then_root.newest ++ then_root.older) (concat then_root.runs) among))
        ∙ may.stands.journal b (elim (in_append b root.newest (if level == 1 then [] else root.older) among) [
          | inl newest ↦ any_front (λ c. b ≡ c) root.newest root.older newest
          | inr older ↦ any_back (λ c. b ≡ c) root.newest root.older (older_in (level == 1) b older)
        ])

    runs_owned : (b : ℕ) → In b (concat then_root.runs) → slice_get pool'.states b ≡ Some (Owned Meta)
    runs_owned b among =
        r.others b (not_freed b (any_back (λ c. b ≡ c) (then_root.newest ++ then_root.older) (concat then_root.runs) among))
        ∙ elim (in_after b level out.blocks root.runs among) [
          | inl fresh ↦ (wait.waits x frames old top found m may level is shared known).into.held.owned b fresh
          | inr former ↦ may.stands.runs b former
        ]

    none_taken : taken_by x.schedule.freeze ≡ []
    none_taken = wait.none_taken x frames old top found m may level is shared known

    no_blocks : length (output then_index.schedule).blocks ≡ 0
    no_blocks = ap (λ o. length (unwrap_or o (empty job'.merger.shape job'.target)).blocks) r.idle.output

    no_leases : (output then_index.schedule).leases ≡ []
    no_leases = ap (λ o. (unwrap_or o (empty job'.merger.shape job'.target)).leases) r.idle.output

    under : IsUnder shape new.pages [] (f.page, then_root) then_found m
    under = let U : LogState → Type 0 = λ l. IsUnder shape new.pages [] (f.page, l.root) then_found m in subst U f.merged_is f.under

    stands_then : IndexOnFlash (settled then_index) frames new.pages (f.page, then_root) then_found
    stands_then =
        let L : LogState → Type 0 = λ l. LogOnFlash l new.pages (f.page, l.root) then_found in
        record {
          logs = subst L f.merged_is f.logs;
          pool_shape = r.same_shape ∙ may.stands.pool_shape;
          pool_fits = r.pool_fits new.pages (pool_still x frames old.pages top found may.stands shared new.pages f.behind);
          levels_shape = r.levels_shape ∙ may.stands.levels_shape;
          levels_pinned = r.levels_pinned ∙ may.stands.levels_pinned;
          stand = r.stand;
          run_blocks = r.run_blocks;
          arena_is = subst (λ ls. HasArena shape frames levels' arena' ls) (sym no_leases) has;
          journal = journal_stands;
          journal_few =
              (let was = may.stands.journal_few in
              let fewer = r.journal_fewer in
              let one = length-append root.newest root.older in
              let two = length-append root.newest then_root.older in
              let freeze : length (taken_by x.schedule.freeze) ≡ 0 = ap (λ (xs : List ℕ). length xs) none_taken in
              omega (arith, was, fewer, one, two, freeze));
          runs = runs_owned;
          runs_few = (let was = may.stands.runs_few in let fewer = r.meta_fewer in let blocks = no_blocks in omega (arith, was, fewer, blocks));
          pins_are = r.pinned_is ∙ may.stands.pins_are;
          merge = r.idle;
          freeze = record {
            taken = subst (AllByRecursion (IsTaken shape pool' new.pages then_root)) (sym none_taken) tt;
            different = may.stands.freeze.different;
            none_frozen = λ some. absurd (let freeze : length (taken_by x.schedule.freeze) ≡ 0 = ap (λ (xs : List ℕ). length xs) none_taken in omega (arith, some, freeze));
          };
        }

    values_then : KeepsValues shape x.pool old.pages pool' new.pages
    values_then = record {
      size = r.size;
      owned = λ b owned. r.others b (λ gone. not_values x.pool b (named_owned x frames old.pages top found m may b (freed_named b gone)) owned) ∙ owned;
      no_more = none_more (freed_by level root) x.pool pool' r.others r.gone Values;
      as_many = r.same_values;
      pages = same_page x frames old.pages top found may.stands shared new.pages f.behind Values;
    }

    -- something is frozen still, or the blocks of the older epoch leave
    frozen_before : 0 < length x.log.frozen.entries
    frozen_before = not_zero (length x.log.frozen.entries) (next_told shape (backlog_of x).frozen (backlog_of x).runs level (due_now x frames old top found m may level is shared known)).0
      where
        not_zero : (n : ℕ) → (n == 0) ≡ false → 0 < n
        not_zero zero e = absurd (let z : ⊥ = cc in z)
        not_zero (suc n) e = omega arith

    older_some : 0 < length root.older
    older_some = elim (cases_lt 0 (length root.older)) [
      | inl some ↦ some
      | inr none ↦
          let empty : root.older ≡ [] = length_none root.older (omega (arith, none)) in
          let gone : found.older ≡ [] = none_there shape (page_at old.pages) root found may.under.is_found empty in
          let size : length x.log.frozen.entries ≡ length (firsts (reverse found.older)) = ap (λ (t : Table). length t.entries) may.stands.logs.frozen_is in
          let zero_keys : length (firsts (reverse found.older)) ≡ 0 = ap (λ (es : List Entry). length (firsts (reverse es))) gone in
          let some = frozen_before in
          absurd (omega (arith, some, size, zero_keys))
    ]
      where
        length_none : (xs : List ℕ) → length xs ≤ 0 → xs ≡ []
        length_none [] none = refl
        length_none (b ∷ xs) none = absurd (omega (arith, none))

    leaves_one : (one : Bool) (source : List ℕ) → ((b : ℕ) → In b ((if one then root.older else source) ++ blocks_at root.runs level) → slice_get pool'.states b ≡ Some Free) → one ≡ true
        → (b : ℕ) × (slice_get pool'.states b ≡ Some Free)
    leaves_one true source gone e = (
      slice_index root.older 0,
      gone (slice_index root.older 0) (any_front (λ c. slice_index root.older 0 ≡ c) root.older (blocks_at root.runs level) (member root.older 0 older_some)),
    )
    leaves_one false source gone e = absurd (let z : ⊥ = cc in z)

    frozen_still : (one : Bool) → one ≡ false → 0 < length (if one then record x.log.frozen { entries = [] } else x.log.frozen).entries
    frozen_still false e = frozen_before
    frozen_still true e = absurd (let z : ⊥ = cc in z)

    busy : (0 < length (frozen_after level x.log.frozen).entries) ⊎ ((b : ℕ) × (slice_get pool'.states b ≡ Some Free))
    busy = elim (level == 1) as (λ z. (level == 1) ≡ z → (0 < length (frozen_after level x.log.frozen).entries) ⊎ ((b : ℕ) × (slice_get pool'.states b ≡ Some Free))) [
      | true ↦ λ e. inr (leaves_one (level == 1) (blocks_at root.runs (level - 1)) r.gone e)
      | false ↦ λ e. inl (frozen_still (level == 1) e)
    ] refl

    half : HalfStands then_index new.pages m
    half = record { half = f.half; no_merge = refl; no_freeze = none_taken; busy = busy; counted = counted ∙ sym r.same_values }

    pub installed_moves : IndexMoves x frames old found m then_index new
    installed_moves = record {
      then_top = (f.page, then_root);
      then_found = then_found;
      stands = stands_then;
      ends = inr half;
      same_shape = refl;
      none_pending = may.none_pending;
      under = under;
      same_places = next.same_places;
      values = values_then;
      begins = inr (ap repeats_next f.half.again);
      numbers = (let same : x.log.root.number ≡ root.number = ap (λ (r : Root). r.number) may.stands.logs.root_is in omega (arith, same));
      grows = inr (installed shape old.pages new.pages [] top f.page found then_root then_found m may.stands.logs.is_shape tt may.under next under.is_top f.behind).1;
      cuts = f.cuts;
    }

    over : backlog_of then_index ≡ record (backlog_of x) {
      frozen = length (frozen_after level x.log.frozen).entries;
      runs = map (λ (r : Kept). r.count) levels'.runs;
      merge = None;
      half = true;
      unfilled = unfilled levels' (length arena'.used);
      unready = unready left.states;
    }
    over = λ i. record (backlog_of then_index) {
      freeze = (no_freeze x.schedule.freeze log'.next none_taken ∙ sym (no_freeze x.schedule.freeze x.log.next none_taken)) i;
      half = ap repeats_next f.half.again i;
    }

    pub installed_less : LessIsLeft x then_index
    installed_less =
        let step : EndsMerge shape (backlog_of x) (backlog_of then_index) = record {
          level = level;
          due = due_now x frames old top found m may level is shared known;
          was_whole = may.settles.whole;
          ended = over;
          frozen = frozen_size (level == 1) x.log.frozen;
          source = r.source;
          above = r.above;
          lowers = subst (λ o. Lowers (left_of (whole_merge shape level) o) (unready x.pool.states) 1 (unready left.states)) (sym (merge_is x frames old top found m may level is shared known))
              (one_left x.log.next (unready x.pool.states) (unready left.states) programs (sym (freed_unready left) ∙ r.same_unready));
        } in
        let less = ends shape (backlog_of x) (backlog_of then_index) (index_backlog x frames old.pages top found may.stands (shared.size ∙ ap (λ (s : Shape). s.blocks) may.stands.pool_shape)) step in
        let one_less : due_level shape (backlog_of then_index) + 1 ≡ due_level shape (backlog_of x) = less.2 in
        let same : x.log.root.number ≡ root.number = ap (λ (r : Root). r.number) may.stands.logs.root_is in
        record { work = less.0; merging = less.1; roots = omega (arith, one_less, same) }
