-- What the exchange of runs leaves after a merge: into level 1, and into a deeper one.
use Rattle.std.proofs.Common.{◌≡◌, inl, inr, ℕ, ◌+◌, ◌-◌, ◌<◌, ◌≤◌, Bool, true, false, ◌==◌, if◌then◌else◌, List, [], ◌++◌, length, map, slice_set, slice_index, slice_index_or, Some, None, refl, sym}
use Rattle.std.proofs.Common.{ap, subst, ◌∙◌, arith, length-append, append-nil}
use Rattle.std.{specs.Prelude.slice_get, specs.List.concat, proofs.lemmas.Bool.Decides.nat_tests, proofs.lemmas.List.length-set, proofs.lemmas.List.length-map}
use Rattle.pk_base.{specs.Shape.Shape, specs.Entry.Entry, specs.Map.Map, specs.Page.SameBehind, proofs.Logic.is_true}
use Rattle.pk_plan.{specs.declared.owner.Owner.Owner, specs.declared.owner.Owner.TheVariants.Journal, specs.declared.owner.Owner.TheVariants.Meta, specs.declared.owner.Owner.TheVariants.Values}
use Rattle.pk_nand.specs.BoardState.{BoardState}
use Rattle.pk_rootfmt.specs.Root.{Root, named}
use Rattle.pk_pin.{specs.Frames.Frames, specs.Frames.AreLeases, specs.Frames.times, proofs.Leases.times-append}
use Rattle.pk_model.{specs.Found.Found, specs.Tree.merged, specs.Tree.blocks_after, proofs.SamePages.any_front, proofs.SamePages.any_back}
use Rattle.pk_pool.{specs.declared.state.BlockState.TheVariants.Free, specs.Blocks.Blocks, specs.Blocks.IsShared, specs.Blocks.given_back}
use Rattle.pk_run.{specs.Kept.Kept, specs.Kept.empty, proofs.Standing.RunOnFlash-empty, specs.Leases.LeavesOthers, proofs.Leasing.are_apart, proofs.Leasing.given_bytes, proofs.Leasing.given_size}
use Rattle.pk_level.specs.Levels.{Levels, IsLevels, RunsOnFlash, HaveBlocks, run_of, with_run}
use Rattle.pk_level.specs.Arenas.{HasLeases, leases_of}
use Rattle.pk_law_steps.{specs.Merging.merged_root, specs.Merging.output_of, specs.Merging.freed_by, specs.Merging.blocks_at, proofs.FourRuns.IsLevel, proofs.FreedCounts.freed_counted}
use Rattle.pk_law_steps.proofs.Places.{In, in_append}
use Rattle.pk_merge.{specs.Jobs.Job, specs.Jobs.IsIdle, specs.Jobs.taken_from, specs.Jobs.given_to, specs.Jobs.ended, proofs.Ending.idle_one}
use Rattle.pk_schedule.{specs.declared.phase.Phase.TheVariants.Ready, specs.Exchanges.CanExchange, specs.Exchanges.Exchanges, specs.Exchanges.EndsFirst, specs.Exchanges.EndsDeep, specs.Steps.MayWork}
use Rattle.pk_schedule.{specs.Index.Index, specs.Index.output, proofs.Ended.SecondRun, proofs.Giving.GivesBack, proofs.Giving.gives_back, proofs.Giving.one_owner, proofs.Installing.Replaced}
use Rattle.pk_schedule.proofs.Preparing.{output_stands, runs_stand}
use Rattle.pk_schedule.proofs.Replacing.{RunsOnFlash-set, HaveBlocks-set, RunsOnFlash-given, at_set, at_other, map_set}
use Rattle.pk_schedule.proofs.Waiting as wait

-- ---- lists after a merge

abbrev OneRuns : ℕ → List Entry → List (List Entry) → Type 0
OneRuns level older runs = merged level older runs ≡ slice_set runs (level - 1) (output_of level (record { newest = []; older = older; runs = runs }))

one_runs : (level : ℕ) → level ≡ 1 → (older : List Entry) (runs : List (List Entry)) → OneRuns level older runs
one_runs level e older runs = subst (λ n. OneRuns n older runs) (sym e) refl

abbrev DeepRuns : ℕ → List Entry → List (List Entry) → Type 0
DeepRuns level older runs = merged level older runs ≡ slice_set (slice_set runs (level - 1) (output_of level (record { newest = []; older = older; runs = runs }))) (level - 1 - 1) []

deep_runs : (level : ℕ) → IsLevel level → 2 ≤ level → (older : List Entry) (runs : List (List Entry)) → DeepRuns level older runs
deep_runs level (inl e) deep older runs = absurd (omega (arith, e, deep))
deep_runs level (inr (inl e)) deep older runs = subst (λ n. DeepRuns n older runs) (sym e) refl
deep_runs level (inr (inr (inl e))) deep older runs = subst (λ n. DeepRuns n older runs) (sym e) refl
deep_runs level (inr (inr (inr e))) deep older runs = subst (λ n. DeepRuns n older runs) (sym e) refl

abbrev OneBlocks : ℕ → List ℕ → List (List ℕ) → Type 0
OneBlocks level taken runs = blocks_after level taken runs ≡ slice_set runs (level - 1) taken

one_blocks : (level : ℕ) → level ≡ 1 → (taken : List ℕ) (runs : List (List ℕ)) → OneBlocks level taken runs
one_blocks level e taken runs = subst (λ n. OneBlocks n taken runs) (sym e) refl

abbrev DeepBlocks : ℕ → List ℕ → List (List ℕ) → Type 0
DeepBlocks level taken runs = blocks_after level taken runs ≡ slice_set (slice_set runs (level - 1) taken) (level - 1 - 1) []

deep_blocks : (level : ℕ) → IsLevel level → 2 ≤ level → (taken : List ℕ) (runs : List (List ℕ)) → DeepBlocks level taken runs
deep_blocks level (inl e) deep taken runs = absurd (omega (arith, e, deep))
deep_blocks level (inr (inl e)) deep taken runs = subst (λ n. DeepBlocks n taken runs) (sym e) refl
deep_blocks level (inr (inr (inl e))) deep taken runs = subst (λ n. DeepBlocks n taken runs) (sym e) refl
deep_blocks level (inr (inr (inr e))) deep taken runs = subst (λ n. DeepBlocks n taken runs) (sym e) refl

not_one : (level : ℕ) → 2 ≤ level → (level == 1) ≡ false
not_one level deep = grind (arith, nat_tests)

-- how many levels are pinned is the same
pinned_taken : (j : Job) (level : ℕ) → (taken_from j level).pinned ≡ j.pinned
pinned_taken j level = by_test (level == j.target)
  where
    by_test : (b : Bool) → (if b then record j { output = None } else record j { spares = slice_set j.spares (level - 1) None }).pinned ≡ j.pinned
    by_test true = refl
    by_test false = refl

module _ (x : Index) (frames : ℕ) (old : BoardState) (top : ℕ × Root) (found : Found) (m : Map) (may : MayWork x frames old.pages top found m) (level : ℕ) (is : x.schedule.phase ≡ Ready level)
    (shared : IsShared x.pool.shape x.pool.states) (known : IsLevels x.levels) (new : BoardState) (behind : SameBehind x.log.shape old.pages new.pages) where
  abbrev shape : Shape
  shape = x.log.shape

  abbrev out : Kept
  out = output x.schedule

  abbrev root : Root
  root = top.1

  abbrev job : Job
  job = x.schedule.job

  abbrev former : Kept
  former = run_of x.levels level

  abbrev runs_one : List Kept
  runs_one = slice_set x.levels.runs (level - 1) out

  abbrev then_root : Root
  then_root = merged_root root level out.count out.blocks

  least : 1 ≤ level
  least = wait.least x frames old top found m may level is shared known

  most : level ≤ 4
  most = wait.most x frames old top found m may level is shared known

  gives_one : GivesBack Meta former.blocks x.pool (given_back x.pool former.blocks)
  gives_one = wait.gives_one x frames old top found m may level is shared known

  rows_one : AreLeases x.arena (former.leases ++ leases_of runs_one)
  rows_one = wait.rows_one x frames old top found m may level is shared known

  blocks_are : (n : ℕ) → (run_of x.levels n).blocks ≡ blocks_at root.runs n
  blocks_are = wait.blocks_are x frames old top found m may level is shared known

  -- how many blocks the roots name
  counts : (length (named then_root) + length (freed_by level root) ≡ length (named root) + length out.blocks)
  counts = (freed_counted shape root level out.count out.blocks (is_true _ (wait.valid x frames old top found m may level is shared known)) least most).0

  one_stands : RunsOnFlash new.pages x.arena runs_one (slice_set found.runs (level - 1) (output_of level found))
  one_stands = RunsOnFlash-set new.pages x.arena x.levels.runs found.runs (level - 1) out (output_of level found)
      (output_stands x frames old top found m may level is shared known new.pages behind) (runs_stand x frames old.pages top found may.stands shared new.pages behind)

  one_blocks_stand : HaveBlocks shape runs_one (slice_set root.runs (level - 1) out.blocks)
  one_blocks_stand = HaveBlocks-set shape x.levels.runs root.runs (level - 1) out (wait.waits x frames old top found m may level is shared known).into.output_shape may.stands.run_blocks

  -- ---- the blocks of the former run are free, and then these of an owner

  abbrev middle : Blocks
  middle = given_back x.pool former.blocks

  record Frees (o : Owner) (others : List ℕ) (pool' : Blocks) : Type 0 where
    two : GivesBack o others middle pool'
    freed_is : freed_by level root ≡ others ++ former.blocks
    apart : (b : ℕ) → In b former.blocks → In b others → ⊥

  module _ {o : Owner} {others : List ℕ} {pool' : Blocks} (f : Frees o others pool') where
    others_same : (b : ℕ) → (In b (freed_by level root) → ⊥) → slice_get pool'.states b ≡ slice_get x.pool.states b
    others_same b away =
        f.two.others b (λ is. away (subst (λ xs. In b xs) (sym f.freed_is) (any_front (λ c. b ≡ c) others former.blocks is)))
        ∙ gives_one.others b (λ is. away (subst (λ xs. In b xs) (sym f.freed_is) (any_back (λ c. b ≡ c) others former.blocks is)))

    all_gone : (b : ℕ) → In b (freed_by level root) → slice_get pool'.states b ≡ Some Free
    all_gone b among = elim (in_append b others former.blocks (subst (λ xs. In b xs) f.freed_is among)) [ inl is ↦ f.two.gone b is | inr is ↦ f.two.others b (f.apart b is) ∙ gives_one.gone b is ]

    concat_counts : length (concat then_root.runs) + length then_root.older + length others + length former.blocks ≡ length (concat root.runs) + length root.older + length out.blocks
    concat_counts =
        let all = counts in
        let a = length-append (then_root.newest ++ then_root.older) (concat then_root.runs) in
        let b = length-append then_root.newest then_root.older in
        let c = length-append (root.newest ++ root.older) (concat root.runs) in
        let d = length-append root.newest root.older in
        let gone : length (freed_by level root) ≡ length (others ++ former.blocks) = ap (λ (xs : List ℕ). length xs) f.freed_is in
        let e = length-append others former.blocks in
        omega (arith, all, a, b, c, d, gone, e)

  -- ---- into level 1

  module _ (one : level ≡ 1) (levels' : Levels) (arena' : Frames) (pool' : Blocks) (job' : Job) (e : EndsFirst x.levels x.arena x.pool job root.older levels' arena' pool' job') where
    exchanged : Exchanges x.levels x.arena x.pool job level out levels' arena' e.then_pool e.then_job
    exchanged = subst (λ n. Exchanges x.levels x.arena x.pool job n out levels' arena' e.then_pool e.then_job) (sym one)
        (e.first out (subst (λ n. CanExchange x.levels x.arena x.pool job n out) one (wait.exchange_one x frames old top found m may level is shared known)))

    frees : Frees Journal root.older pool'
    frees = record {
      two = subst (λ p. GivesBack Journal root.older middle p) (sym (e.freed ∙ ap (λ p. given_back p root.older) exchanged.pool_is))
          (gives_back Journal root.older middle (wait.older_differs x frames old top found m may level is shared known)
          (λ b among. wait.journal_stays x frames old top found m may level is shared known b (wait.older_owned x frames old top found m may level is shared known b among)));
      freed_is = ap (λ (t : Bool). (if t then root.older else blocks_at root.runs (level - 1)) ++ blocks_at root.runs level) (ap (λ (n : ℕ). n == 1) one) ∙ ap (λ xs. root.older ++ xs) (sym (blocks_are level));
      apart = λ b meta journal.
          let c : Meta ≡ Journal = one_owner x.pool Meta Journal b (wait.former_owned x frames old top found m may level is shared known level b meta)
          (wait.older_owned x frames old top found m may level is shared known b journal) in
          cc;
    }

    older_is : then_root.older ≡ []
    older_is = ap (λ (t : Bool). if t then [] else root.older) (ap (λ (n : ℕ). n == 1) one)

    none_left : (i l : ℕ) → slice_get former.leases i ≡ Some l → times l (leases_of runs_one) ≡ 0
    none_left = are_apart x.arena former.leases (leases_of runs_one) rows_one

    arena_here : HasLeases shape frames (with_run x.levels level out) arena' []
    arena_here = record {
      page_bytes_is = ap (λ (a : Frames). a.page_bytes) exchanged.arena_is ∙ given_bytes x.arena former.leases ∙ may.stands.arena_is.leases.page_bytes_is;
      size = ap (λ (a : Frames). length a.used) exchanged.arena_is ∙ given_size x.arena former.leases ∙ may.stands.arena_is.leases.size;
      pinned_is = may.stands.levels_pinned;
      only_these = subst (λ ls. AreLeases arena' ls) (sym (append-nil (leases_of runs_one))) (exchanged.leases (leases_of runs_one) rows_one);
    }

    idle_here : IsIdle shape (ended (given_to (taken_from job level) former))
    idle_here = subst (λ j. IsIdle shape (ended (given_to (taken_from j level) former))) (wait.job_is x frames old top found m may level is shared known)
        (idle_one shape (wait.idle_job x frames old top found m may level is shared known) level out former job.merger (wait.idle_job_is x frames old top found m may level is shared known)
        (wait.waits x frames old top found m may level is shared known).into.merger_shape least most (wait.former_of x frames old top found m may level is shared known level least)).1

    job_is : job' ≡ ended (given_to (taken_from job level) former)
    job_is = e.over ∙ ap ended exchanged.job_is

    replaced : Replaced x frames old top found m may level is shared known new (with_run x.levels level out) arena' pool' job'
    replaced = record {
      levels_shape = refl;
      levels_pinned = refl;
      stand = subst (λ ess. RunsOnFlash new.pages arena' runs_one ess) (sym (one_runs level one found.older found.runs))
          (RunsOnFlash-given former.leases new.pages x.arena arena' runs_one _ exchanged.others none_left one_stands);
      run_blocks = subst (λ bss. HaveBlocks shape runs_one bss) (sym (one_blocks level one out.blocks root.runs)) one_blocks_stand;
      arena_is = arena_here;
      same_shape = frees.two.same_shape ∙ gives_one.same_shape;
      size = frees.two.size ∙ gives_one.size;
      others = others_same frees;
      gone = all_gone frees;
      journal_fewer =
          (let two = frees.two.fewer in
          let first = gives_one.same_used Journal (λ c. cc) in
          let none : length then_root.older ≡ 0 = ap (λ (xs : List ℕ). length xs) older_is in
          omega (arith, two, first, none));
      meta_fewer =
          (let two = frees.two.same_used Meta (λ c. cc) in
          let first = gives_one.fewer in
          let all = concat_counts frees in
          let none : length then_root.older ≡ 0 = ap (λ (xs : List ℕ). length xs) older_is in
          omega (arith, two, first, all, none));
      same_values = frees.two.same_used Values (λ c. cc) ∙ gives_one.same_used Values (λ c. cc);
      same_unready = frees.two.same_unready ∙ gives_one.same_unready;
      pool_fits = λ flash fits. e.pool_fits flash (exchanged.pool_fits flash fits);
      idle = subst (λ j. IsIdle shape j) (sym job_is) idle_here;
      pinned_is = ap (λ (j : Job). j.pinned) job_is ∙ pinned_taken job level;
      source = λ deep. absurd (omega (arith, one, deep));
      above = λ i low. absurd (omega (arith, one, low));
    }

    pub replaced_one : Replaced x frames old top found m may level is shared known new levels' arena' pool' job'
    replaced_one = subst (λ ls. Replaced x frames old top found m may level is shared known new ls arena' pool' job') (sym exchanged.levels_are) replaced

  -- ---- into a deeper level

  module _ (deep : 2 ≤ level) (levels' : Levels) (arena' : Frames) (pool' : Blocks) (job' : Job) (e : EndsDeep x.levels x.arena x.pool job level levels' arena' pool' job') where
    abbrev source : Kept
    source = run_of x.levels (level - 1)

    abbrev spare : Kept
    spare = empty shape (level - 1)

    abbrev runs_two : List Kept
    runs_two = slice_set runs_one (level - 1 - 1) spare

    first : Exchanges x.levels x.arena x.pool job level out e.then_levels e.then_arena e.then_pool e.then_job
    first = e.first out (wait.exchange_one x frames old top found m may level is shared known)

    second : Exchanges e.then_levels e.then_arena e.then_pool e.then_job (level - 1) spare levels' arena' pool' e.last_job
    second = e.second spare (wait.exchange_two x frames old top found m may level is shared known deep e.then_levels e.then_arena e.then_pool e.then_job first)

    its : run_of e.then_levels (level - 1) ≡ source
    its = ap (λ (ls : Levels). run_of ls (level - 1)) first.levels_are ∙ wait.source_is x frames old top found m may level is shared known deep

    rows_two : AreLeases x.arena (former.leases ++ (source.leases ++ leases_of runs_two))
    rows_two = wait.rows_two x frames old top found m may level is shared known deep

    rows_then : AreLeases e.then_arena (source.leases ++ leases_of runs_two)
    rows_then = first.leases (source.leases ++ leases_of runs_two) rows_two

    four : length x.levels.runs ≡ 4
    four = known.four

    low_one : level - 1 - 1 < length runs_one
    low_one = let size = length-set x.levels.runs (level - 1) out in let all = four in let small = most in omega (arith, size, all, small)

    frees_deep : Frees Meta source.blocks pool'
    frees_deep = record {
      two = subst (λ p. GivesBack Meta source.blocks middle p) (sym (second.pool_is ∙ (λ i. given_back (first.pool_is i) (its i).blocks)))
          (gives_back Meta source.blocks middle (wait.former_differs x frames old top found m may level is shared known (level - 1))
          (wait.source_stays x frames old top found m may level is shared known deep));
      freed_is = ap (λ (t : Bool). (if t then root.older else blocks_at root.runs (level - 1)) ++ blocks_at root.runs level) (not_one level deep)
          ∙ (λ i. sym (blocks_are (level - 1)) i ++ sym (blocks_are level) i);
      apart = λ b target above.
          wait.runs_apart b (level - 1 - 1) (level - 1) root.runs (λ at. omega (arith, at, deep)) (wait.runs_differ x frames old top found m may level is shared known)
          (subst (λ xs. In b xs) (blocks_are (level - 1)) above) (subst (λ xs. In b xs) (blocks_are level) target);
    }

    older_deep : then_root.older ≡ root.older
    older_deep = ap (λ (t : Bool). if t then [] else root.older) (not_one level deep)

    levels_deep : levels' ≡ with_run (with_run x.levels level out) (level - 1) spare
    levels_deep = second.levels_are ∙ ap (λ (ls : Levels). with_run ls (level - 1) spare) first.levels_are

    -- ---- runs and frames

    none_first : (i l : ℕ) → slice_get former.leases i ≡ Some l → times l (leases_of runs_two) ≡ 0
    none_first i l got =
        let none = are_apart x.arena former.leases (source.leases ++ leases_of runs_two) rows_two i l got in
        let both = times-append l source.leases (leases_of runs_two) in
        omega (arith, none, both)

    none_second : (i l : ℕ) → slice_get source.leases i ≡ Some l → times l (leases_of runs_two) ≡ 0
    none_second = are_apart e.then_arena source.leases (leases_of runs_two) rows_then

    two_stand : RunsOnFlash new.pages arena' runs_two (slice_set (slice_set found.runs (level - 1) (output_of level found)) (level - 1 - 1) [])
    two_stand =
        let there = RunsOnFlash-set new.pages x.arena runs_one (slice_set found.runs (level - 1) (output_of level found))
        (level - 1 - 1) spare [] (RunOnFlash-empty shape (level - 1) new.pages x.arena may.stands.logs.is_shape) one_stands in
        let then_there = RunsOnFlash-given former.leases new.pages x.arena e.then_arena runs_two _ first.others none_first there in
        RunsOnFlash-given source.leases new.pages e.then_arena arena' runs_two _ (subst (λ (r : Kept). LeavesOthers r.leases e.then_arena arena') its second.others) none_second then_there

    arena_deep : HasLeases shape frames (with_run (with_run x.levels level out) (level - 1) spare) arena' []
    arena_deep = record {
      page_bytes_is = ap (λ (a : Frames). a.page_bytes) second.arena_is ∙ given_bytes e.then_arena (run_of e.then_levels (level - 1)).leases
          ∙ ap (λ (a : Frames). a.page_bytes) first.arena_is ∙ given_bytes x.arena former.leases ∙ may.stands.arena_is.leases.page_bytes_is;
      size = ap (λ (a : Frames). length a.used) second.arena_is ∙ given_size e.then_arena (run_of e.then_levels (level - 1)).leases
          ∙ ap (λ (a : Frames). length a.used) first.arena_is ∙ given_size x.arena former.leases ∙ may.stands.arena_is.leases.size;
      pinned_is = may.stands.levels_pinned;
      only_these = subst (λ ls. AreLeases arena' ls) (sym (append-nil (leases_of runs_two)))
          (second.leases (leases_of runs_two) (subst (λ (r : Kept). AreLeases e.then_arena (r.leases ++ leases_of runs_two)) (sym its) rows_then));
    }

    -- ---- the job

    run_second : SecondRun shape (given_to (taken_from job level) former) level
    run_second = wait.second x frames old top found m may level is shared known deep

    job_deep : job' ≡ ended (given_to (taken_from (given_to (taken_from job level) former) (level - 1)) source)
    job_deep = e.over ∙ ap ended (second.job_is ∙ (λ i. given_to (taken_from (first.job_is i) (level - 1)) (its i)))

    -- ---- counts

    abbrev count_of : Kept → ℕ
    count_of r = r.count

    source_empty : slice_index (map count_of runs_two) (level - 2) ≡ 0
    source_empty =
        let places : level - 2 ≡ level - 1 - 1 = omega arith in
        let size = length-map runs_one count_of in
        let low : level - 1 - 1 < length (map count_of runs_one) = (let one = low_one in omega (arith, one, size)) in
        ap (λ k. slice_index (map count_of runs_two) k) places
        ∙ ap (λ ns. slice_index_or ns (level - 1 - 1) 0) (map_set count_of runs_one (level - 1 - 1) spare)
        ∙ at_set (map count_of runs_one) (level - 1 - 1) 0 0 low

    above_same : (i : ℕ) → i + 2 < level → slice_index (map count_of runs_two) i ≡ slice_index (map count_of x.levels.runs) i
    above_same i low =
        ap (λ ns. slice_index_or ns i 0) (map_set count_of runs_one (level - 1 - 1) spare)
        ∙ at_other (map count_of runs_one) (level - 1 - 1) i 0 0 (λ at. omega (arith, at, low))
        ∙ ap (λ ns. slice_index_or ns i 0) (map_set count_of x.levels.runs (level - 1) out)
        ∙ at_other (map count_of x.levels.runs) (level - 1) i out.count 0 (λ at. omega (arith, at, low))

    replaced_two : Replaced x frames old top found m may level is shared known new (with_run (with_run x.levels level out) (level - 1) spare) arena' pool' job'
    replaced_two =
        let is_level = wait.is_level x frames old top found m may level is shared known in
        record {
          levels_shape = refl;
          levels_pinned = refl;
          stand = subst (λ ess. RunsOnFlash new.pages arena' runs_two ess) (sym (deep_runs level is_level deep found.older found.runs)) two_stand;
          run_blocks = subst (λ bss. HaveBlocks shape runs_two bss) (sym (deep_blocks level is_level deep out.blocks root.runs))
              (HaveBlocks-set shape runs_one (slice_set root.runs (level - 1) out.blocks) (level - 1 - 1) spare refl one_blocks_stand);
          arena_is = arena_deep;
          same_shape = frees_deep.two.same_shape ∙ gives_one.same_shape;
          size = frees_deep.two.size ∙ gives_one.size;
          others = others_same frees_deep;
          gone = all_gone frees_deep;
          journal_fewer =
              (let two = frees_deep.two.same_used Journal (λ c. cc) in
              let one = gives_one.same_used Journal (λ c. cc) in
              let same : length then_root.older ≡ length root.older = ap (λ (xs : List ℕ). length xs) older_deep in
              omega (arith, two, one, same));
          meta_fewer =
              (let two = frees_deep.two.fewer in
              let one = gives_one.fewer in
              let all = concat_counts frees_deep in
              let same : length then_root.older ≡ length root.older = ap (λ (xs : List ℕ). length xs) older_deep in
              omega (arith, two, one, all, same));
          same_values = frees_deep.two.same_used Values (λ c. cc) ∙ gives_one.same_used Values (λ c. cc);
          same_unready = frees_deep.two.same_unready ∙ gives_one.same_unready;
          pool_fits = λ flash fits. second.pool_fits flash (first.pool_fits flash fits);
          idle = subst (λ j. IsIdle shape j) (sym job_deep) (run_second.idle source (wait.former_of x frames old top found m may level is shared known (level - 1) (omega (arith, deep))));
          pinned_is = ap (λ (j : Job). j.pinned) job_deep ∙ run_second.pinned source ∙ pinned_taken job level;
          source = λ again. source_empty;
          above = above_same;
        }

    pub replaced_deep : Replaced x frames old top found m may level is shared known new levels' arena' pool' job'
    replaced_deep = subst (λ ls. Replaced x frames old top found m may level is shared known new ls arena' pool' job') (sym levels_deep) replaced_two
