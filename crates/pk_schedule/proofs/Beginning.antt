-- The next merge begins: it can be, its source has an entry, and the index is as before with it.
use Rattle.std.proofs.Common.{◌≡◌, ◌⊎◌, inl, inr, ℕ, ◌+◌, ◌-◌, ◌<◌, ◌≤◌, Bool, true, false, T, ◌==◌, if◌then◌else◌, List, [], length, map, nat_le, Option, Some, None, refl, sym, ap, subst, ◌∙◌, arith}
use Rattle.std.proofs.Common.{leb-false, le_trans}
use Rattle.std.{proofs.lemmas.Bool.Decides.nat_tests, specs.Prelude.slice_index, specs.Prelude.slice_index_or, specs.Prelude.unwrap_or, specs.List.concat, specs.List.AllByRecursion, specs.FinMap.Entries.is_sorted}
use Rattle.pk_base.{specs.Key.key_cmp, specs.Shape.Shape, specs.Shape.IsShape, specs.Shape.cap, specs.Shape.run_pages, specs.Shape.run_blocks, specs.Shape.buffer, specs.Entry.Entry, specs.Map.Map}
use Rattle.pk_base.{specs.EntryChecks.IsEntry, specs.Page.Flash, specs.Page.page_at, specs.Merge.next_merge, specs.Merge.room, proofs.Logic.is_true}
use Rattle.pk_buf.specs.Table.{Table}
use Rattle.pk_nand.{specs.BoardState.BoardState, specs.Calls.IsReady}
use Rattle.pk_pin.specs.Frames.{Frames, free_frames}
use Rattle.pk_plan.{specs.declared.owner.Owner.TheVariants.Meta, specs.Quotas.quota_of}
use Rattle.pk_rootfmt.specs.Root.{Root, is_root}
use Rattle.pk_pool.specs.Blocks.{Blocks, used_by}
use Rattle.pk_law_work.{specs.Rest.left_of, specs.Rest.whole_merge, specs.Steps.MovesMerge, proofs.Paging.few_pages, proofs.Lowering.moves as merge_moves}
use Rattle.pk_run.specs.Kept.{Kept, RunOnFlash, IsKept, empty, most_pages, most_blocks}
use Rattle.pk_level.{specs.Levels.IsLevels, specs.Levels.run_of, specs.Arenas.HasArena}
use Rattle.pk_model.{specs.Found.Found, specs.Crashes.CrashFinds, specs.Crashes.background, specs.Tree.run_at, proofs.Running.Reaches-none, proofs.Commits.root_valid, proofs.Roots.newest_sound}
use Rattle.pk_law_steps.{proofs.Untouched.under_reads, proofs.FourRuns.IsLevel, proofs.FourRuns.next_is_level, proofs.Outputs.output_fits, proofs.Amounts.quota_fits}
use Rattle.pk_merge.{specs.declared.source.Source.Source, specs.declared.source.Source.TheVariants.Frozen, specs.declared.source.Source.TheVariants.Run, specs.Merging.IsDone, specs.Outputs.AreMeta}
use Rattle.pk_merge.{specs.Sources.count_of, specs.Sources.pages_in, specs.Sources.blocks_in, specs.Sources.Has, specs.Sources.IsOf, specs.Running.CanBegin, specs.Running.merged}
use Rattle.pk_merge.specs.Remaining.{IsWithin, steps_left}
use Rattle.pk_merge.specs.Jobs.{Job, JobRuns, IsIdle, begun, pins, output_of, without}
use Rattle.pk_compact.specs.FreezeSteps.{install_steps}
use Rattle.pk_schedule.{specs.declared.phase.Phase.Phase, specs.declared.phase.Phase.TheVariants.Idle, specs.declared.phase.Phase.TheVariants.Running, specs.Sources.ShowsSame, proofs.Grown.got_in}
use Rattle.pk_schedule.specs.Index.{Index, IndexOnFlash, AreHeld, IsDue, MergesInto, MergeRuns, MergeStands, referred, output, source_at, entries_at, IsSettled}
use Rattle.pk_schedule.proofs.Entries.{output_same, frozen_many, frozen_rising, counts_same, run_stands, count_at, frozen_are, run_are}
use Rattle.pk_schedule.proofs.Leveled.{Fit, run_fits, run_blocks_in, frames_left}
use Rattle.pk_schedule.{specs.Steps.MayWork, specs.Steps.IndexMoves, specs.Steps.LessIsLeft, specs.Steps.merge_left, specs.Steps.backlog_of, proofs.Backlogs.installs_most}
use Rattle.pk_schedule.{proofs.Carried.Shown, proofs.Carried.shown, proofs.Carried.job_carried, proofs.Carried.left_same, proofs.Settled.whole_moves}

-- the source, for a buffer and runs in any memory
abbrev pub source_in : (X : Type 0) → Index → ℕ → Source X
source_in X x level = if level == 1 then Frozen (referred x.log.frozen) else Run (referred (run_of x.levels (level - 1)))

pub in_shows : (X : Type 0) (x : Index) (level : ℕ) → ShowsSame (source_in X x level) (source_at x level)
in_shows X x level = elim (level == 1) as (λ b. ShowsSame {X = X} {Y = Unit {0}} (if b then Frozen (referred x.log.frozen) else Run (referred (run_of x.levels (level - 1))))
    (if b then Frozen (referred x.log.frozen) else Run (referred (run_of x.levels (level - 1))))) [ true ↦ refl | false ↦ refl ]

-- ---- what the choice of a level says

pub record Chosen (a b c d : Bool) (level : ℕ) : Type 0 where
  pub some : a ≡ false
  pub which : (level ≡ 1) ⊎ ((level ≡ 2) × (b ≡ false)) ⊎ ((level ≡ 3) × (c ≡ false)) ⊎ ((level ≡ 4) × (d ≡ false))

same_level : (x y : ℕ) → ◌≡◌ {A = Option ℕ} (Some x) (Some y) → y ≡ x
same_level x y e = cc

chosen : (a b c d : Bool) (level : ℕ) → (if a then None else if b then Some 1 else if c then Some 2 else if d then Some 3 else Some 4) ≡ Some level → Chosen a b c d level
chosen true b c d level e = absurd (let x : ⊥ = cc in x)
chosen false true c d level e = record { some = refl; which = inl (same_level 1 level e) }
chosen false false true d level e = record { some = refl; which = inr (inl (same_level 2 level e, refl)) }
chosen false false false true level e = record { some = refl; which = inr (inr (inl (same_level 3 level e, refl))) }
chosen false false false false level e = record { some = refl; which = inr (inr (inr (same_level 4 level e, refl))) }

not_zero : (n : ℕ) → (n == 0) ≡ false → 1 ≤ n
not_zero n e = grind (arith, nat_tests)

deeper : (n : ℕ) → 1 ≤ n → (n == 1) ≡ false → 1 ≤ n - 1
deeper n some e = grind (arith, nat_tests)

module _ (x : Index) (frames : ℕ) (old : BoardState) (top : ℕ × Root) (found : Found) (m : Map) (may : MayWork x frames old.pages top found m)
    (levels_are : IsLevels x.levels) (kept : AllByRecursion IsKept x.levels.runs) (frozen_few : length x.log.frozen.entries ≤ x.log.frozen.capacity)
    (idle : x.schedule.phase ≡ Idle) (level : ℕ) (next : next_merge x.levels.shape (length x.log.frozen.entries) (map (λ r. r.count) x.levels.runs) ≡ Some level) where
  stands : IndexOnFlash x frames old.pages top found
  stands = may.stands

  is_shape : IsShape x.log.shape
  is_shape = stands.logs.is_shape

  is_idle : IsIdle x.log.shape x.schedule.job
  is_idle = subst (λ (p : Phase). MergeStands p x old.pages top.1 found) idle stands.merge

  counts : List ℕ
  counts = map (λ r. r.count) x.levels.runs

  next_now : next_merge x.log.shape (length x.log.frozen.entries) (map (λ r. r.count) x.levels.runs) ≡ Some level
  next_now = subst (λ (s : Shape). next_merge s (length x.log.frozen.entries) (map (λ r. r.count) x.levels.runs) ≡ Some level) stands.levels_shape next

  pub due : IsDue x.log.shape found level
  due = (λ i. next_merge x.log.shape (sym (frozen_many x.log.shape x.log.frozen found.older stands.logs.frozen_is) i) (sym (counts_same old.pages x.arena x.levels.runs found.runs stands.stand) i))
      ∙ next_now

  is_level : IsLevel level
  is_level = next_is_level x.log.shape (length x.log.frozen.entries) (map (λ r. r.count) x.levels.runs) level next_now

  low : 1 ≤ level
  low = omega (arith, is_level)

  high : level ≤ 4
  high = omega (arith, is_level)

  four : length x.levels.runs ≡ 4
  four = levels_are.four

  fit : (l : ℕ) → 1 ≤ l → l ≤ 4 → Fit x.log.shape l (run_of x.levels l)
  fit l least most = subst (λ (s : Shape). Fit s l (run_of x.levels l)) stands.levels_shape (run_fits x.levels l levels_are kept least most)

  -- ---- the source has an entry

  picked : Chosen (length x.log.frozen.entries == 0) (nat_le (length x.log.frozen.entries + slice_index (map (λ r. r.count) x.levels.runs) 0) (room x.log.shape 1))
      (nat_le (slice_index (map (λ r. r.count) x.levels.runs) 0 + slice_index (map (λ r. r.count) x.levels.runs) 1) (room x.log.shape 2))
      (nat_le (slice_index (map (λ r. r.count) x.levels.runs) 1 + slice_index (map (λ r. r.count) x.levels.runs) 2) (room x.log.shape 3)) level
  picked = chosen _ _ _ _ level next_now

  count_is : (i : ℕ) (d : Kept) → i < 4 → slice_index (map (λ r. r.count) x.levels.runs) i ≡ (slice_index_or x.levels.runs i d).count
  count_is i d small = count_at x.levels.runs i d (let f = four in omega (arith, f, small))

  capacity : length x.log.frozen.entries ≤ buffer x.log.shape
  capacity = subst (λ (n : ℕ). length x.log.frozen.entries ≤ n) (ap (λ (t : Table). t.capacity) stands.logs.frozen_is) frozen_few

  abbrev HasSome : ℕ → Type 0
  HasSome l = 1 ≤ count_of (source_at x l)

  pub source_some : HasSome level
  source_some = elim picked.which [
    | inl e ↦ subst HasSome (sym e) (not_zero (length x.log.frozen.entries) picked.some)
    | inr (inl (e, full)) ↦ subst HasSome (sym e) (
        let over = leb-false _ _ full in let few = capacity in let c = count_is 0 (empty x.levels.shape 1) (omega arith) in omega (arith, over, few, c))
    | inr (inr (inl (e, full))) ↦ subst HasSome (sym e) (
        let over = leb-false _ _ full in let few = (fit 1 (omega arith) (omega arith)).entries in let b = count_is 0
        (empty x.levels.shape 1) (omega arith) in let c = count_is 1 (empty x.levels.shape 2) (omega arith) in omega (arith, over, few, b, c))
    | inr (inr (inr (e, full))) ↦ subst HasSome (sym e) (
        let over = leb-false _ _ full in let few = (fit 2 (omega arith) (omega arith)).entries in let b = count_is 1
        (empty x.levels.shape 2) (omega arith) in let c = count_is 2 (empty x.levels.shape 3) (omega arith) in omega (arith, over, few, b, c))
  ]

  -- ---- no merge has an output

  none : output x.schedule ≡ empty x.schedule.job.merger.shape x.schedule.job.target
  none = ap (λ (o : Option Kept). unwrap_or o (empty x.schedule.job.merger.shape x.schedule.job.target)) is_idle.output

  has_arena : HasArena x.log.shape frames x.levels x.arena []
  has_arena = subst (λ (ls : List ℕ). HasArena x.log.shape frames x.levels x.arena ls) (ap (λ (r : Kept). r.leases) none) stands.arena_is

  no_blocks : length (output x.schedule).blocks ≡ 0
  no_blocks = ap (λ (r : Kept). length r.blocks) none

  -- ---- it can be begun

  abbrev es : List Entry
  es = entries_at x found level

  abbrev fs : List Entry
  fs = run_at found.runs level

  output_few : length (merged level es fs) ≤ room x.log.shape level
  output_few = subst (λ (xs : List Entry). length xs ≤ room x.log.shape level) (sym (output_same x found level stands.logs.frozen_is))
      (output_fits x.log.shape old.pages [] top found m level is_shape may.under due)

  run_is : (l : ℕ) → 1 ≤ l → l ≤ 4 → RunOnFlash (run_of x.levels l) old.pages x.arena (run_at found.runs l)
  run_is l least most = run_stands old.pages x.arena x.levels.runs found.runs (l - 1) (empty x.levels.shape l) (let f = four in omega (arith, f, least, most)) stands.stand

  above_is : RunOnFlash (run_of x.levels (level - 1)) old.pages x.arena (run_at found.runs (level - 1))
  above_is = run_stands old.pages x.arena x.levels.runs found.runs (level - 1 - 1) (empty x.levels.shape (level - 1)) (let f = four in let h = high in omega (arith, f, h)) stands.stand

  above_blocks : AreMeta x.pool (run_of x.levels (level - 1)).blocks
  above_blocks = λ i b got. stands.runs b
      (run_blocks_in x.log.shape x.levels.runs top.1.runs (level - 1 - 1) (empty x.levels.shape (level - 1))
      (let f = four in let h = high in omega (arith, f, h)) stands.run_blocks b (got_in _ i b got))

  target_blocks : AreMeta x.pool (run_of x.levels level).blocks
  target_blocks = λ i b got. stands.runs b
      (run_blocks_in x.log.shape x.levels.runs top.1.runs (level - 1) (empty x.levels.shape level)
      (let f = four in let h = high in let l = low in omega (arith, f, h, l)) stands.run_blocks b (got_in _ i b got))

  is_grammar : is_root x.log.shape top.1 ≡ true
  is_grammar = is_true _ (root_valid x.log.shape (page_at old.pages top.0) top.1 (newest_sound x.log.shape (page_at old.pages) top may.under.is_top).there)

  quota : used_by Meta x.pool.states + run_blocks x.log.shape (length (merged level es fs)) ≤ quota_of x.pool.shape Meta
  quota =
      let few = quota_fits x.log.shape top.1 level (length (merged level es fs)) is_shape is_grammar low high output_few in
      let used = stands.runs_few in
      let zero_blocks = no_blocks in
      let same : quota_of x.pool.shape Meta ≡ quota_of x.log.shape Meta = ap (λ (s : Shape). quota_of s Meta) stands.pool_shape in
      omega (arith, few, used, zero_blocks, same)

  pin : nat_le level x.schedule.job.pinned ≡ true → run_pages x.log.shape (length (merged level es fs)) ≤ free_frames x.arena
  pin pins =
      let free = frames_left x.log.shape frames x.levels x.arena level levels_are kept stands.levels_shape stands.levels_pinned has_arena is_level
      (subst (λ (n : ℕ). nat_le level n ≡ true) stands.pins_are pins) in
      le_trans (few_pages x.log.shape level (length (merged level es fs)) is_shape output_few) free

  above_shape : (level == 1) ≡ false → (run_of x.levels (level - 1)).shape ≡ x.log.shape
  above_shape e = (fit (level - 1) (deeper level low e) (let h = high in omega (arith, h))).same_shape

  module _ (X : Type 0) where
    -- by whether it is the frozen buffer
    abbrev source_by : Bool → Source X
    source_by b = if b then Frozen (referred x.log.frozen) else Run (referred (run_of x.levels (level - 1)))

    abbrev entries_by : Bool → List Entry
    entries_by b = if b then x.log.frozen.entries else run_at found.runs (level - 1)

    of_of : (b : Bool) → (b ≡ false → (run_of x.levels (level - 1)).shape ≡ x.log.shape) → IsOf {X = X} x.log.shape (source_by b)
    of_of true e = tt
    of_of false e = e refl

    pub can_begin : CanBegin (source_in X x level) (run_of x.levels level) (nat_le level x.schedule.job.pinned) x.log.shape level x.pool old.pages x.arena es fs
    can_begin = record {
      has = elim (level == 1) as (λ b. Has {X = X} (source_by b) old.pages x.arena (entries_by b)) [ true ↦ refl | false ↦ above_is ];
      stands = run_is level low high;
      rising = elim (level == 1) as (λ b. T (is_sorted key_cmp (entries_by b))) [ true ↦ frozen_rising x.log.shape x.log.frozen found.older stands.logs.frozen_is | false ↦ above_is.rising ];
      lists = record {
        each_source = elim (level == 1) as (λ b. AllByRecursion (IsEntry x.log.shape) (entries_by b)) [
          | true ↦ frozen_are x.log.shape old.pages top.1 found may.under.is_found x.log.frozen stands.logs.frozen_is
          | false ↦ run_are x.log.shape old.pages top.1 found may.under.is_found (level - 1)
        ];
        each_target = run_are x.log.shape old.pages top.1 found may.under.is_found level;
        few = output_few;
      };
      of_source = of_of (level == 1) above_shape;
      of_target = (fit level low high).same_shape;
      of_pool = stands.pool_shape;
      of_frames = stands.arena_is.leases.page_bytes_is;
      fits = stands.pool_fits;
      source_owned = elim (level == 1) as (λ b. AreMeta x.pool (blocks_in (source_by b))) [ true ↦ λ i y got. absurd (cc) | false ↦ above_blocks ];
      target_owned = target_blocks;
      room = quota;
      frames = pin;
    }

  -- ---- the index after its beginning

  abbrev pub job : Job
  job = begun x.schedule.job.merger.shape x.schedule.job level

  abbrev pub begun_index : Index
  begun_index = record x { schedule = record x.schedule { job = job; phase = Running level } }

  out_shape : (output_of job).shape ≡ x.log.shape
  out_shape = is_idle.merger

  into_then : MergesInto begun_index top.1 found level
  into_then =
      let held : AreHeld x.pool top.1 Meta (output begun_index.schedule).blocks = record { different = refl; owned = λ b is. absurd is; unnamed = λ b is named. is } in
      let spares = ap (λ (ss : List (Option Kept)). without ss level) is_idle.spares in
      assumption (due, out_shape, is_idle, held, spares)

  undone : IsDone (source_at x level) (run_of x.levels level) job.merger → ⊥
  undone d = let some = source_some in let none = d.0.0 in omega (arith, some, none)

  pages_few : pages_in (source_at x level) ≤ cap x.log.shape (level - 1)
  pages_few = of_pages (level == 1) refl
    where
      of_pages : (b : Bool) → (level == 1) ≡ b → pages_in {X = Unit {0}} (if b then Frozen (referred x.log.frozen) else Run (referred (run_of x.levels (level - 1)))) ≤ cap x.log.shape (level - 1)
      of_pages true e = omega arith
      of_pages false e = (fit (level - 1) (deeper level low e) (let h = high in omega (arith, h))).pages

  module _ (X : Type 0)
      (begins : CanBegin (source_in X x level) (run_of x.levels level) (pins job) x.schedule.job.merger.shape level x.pool old.pages x.arena es fs
      → JobRuns (source_in X x level) (run_of x.levels level) job x.pool old.pages x.arena es fs)
      (within : IsWithin (source_in X x level) (run_of x.levels level) (output_of job) job.merger) (ready : IsReady old x.log.shape) where
    same : Shown (source_in X x level) (source_at x level)
    same = shown (source_in X x level) (source_at x level) (in_shows X x level)

    job_runs : JobRuns (source_at x level) (run_of x.levels level) job x.pool old.pages x.arena es fs
    job_runs = job_carried (source_in X x level) (source_at x level) same (run_of x.levels level) job x.pool old.pages x.arena es fs
        (begins (subst (λ (s : Shape). CanBegin (source_in X x level) (run_of x.levels level) (pins job) s level x.pool old.pages x.arena es fs) (sym is_idle.merger) (can_begin X)))

    runs_then : MergeRuns begun_index old.pages top.1 found level
    runs_then = record { into = into_then; runs = job_runs; undone = undone }

    index_then : IndexOnFlash begun_index frames old.pages top found
    index_then =
        let few : used_by Meta x.pool.states ≡ length (concat top.1.runs) + length (output begun_index.schedule).blocks = omega (arith, stands.runs_few, no_blocks) in
        assumption (stands, has_arena, runs_then, few)

    settles : IsSettled begun_index
    settles = record { whole = may.settles.whole; none_leaves = may.settles.none_leaves }

    begin_moves : IndexMoves x frames old found m begun_index old
    begin_moves = whole_moves x frames old top found m may begun_index old settles index_then refl refl may.none_pending may.under
        (record { size = refl; owned = λ b is. is; no_more = λ b is. is; as_many = refl; pages = λ k is. refl })
        (Reaches-none x.log.shape old (CrashFinds x.log.shape background old.pages m) ready.shape_is old refl (refl, under_reads x.log.shape old.pages [] top found m may.under))

    -- ---- what remains

    whole : steps_left (source_at x level) (run_of x.levels level) (output_of job) job.merger (most_pages (output_of job)) (most_blocks (output_of job)) + 7 ≤ whole_merge x.log.shape level
    whole =
        let own : steps_left (source_in X x level) (run_of x.levels level) (output_of job) job.merger
        (most_pages (output_of job)) (most_blocks (output_of job)) + 7 ≤ whole_merge (output_of job).shape level
        = within (subst (λ (n : ℕ). n ≤ cap (output_of job).shape (level - 1)) same.pages (subst (λ (s : Shape). pages_in (source_at x level) ≤ cap s (level - 1)) (sym out_shape) pages_few))
        (subst (λ (s : Shape). length (run_of x.levels level).firsts ≤ cap s level) (sym out_shape) (fit level low high).pages) in
        let left = left_same (source_in X x level) (source_at x level) same (run_of x.levels level) (output_of job) job.merger (most_pages (output_of job)) (most_blocks (output_of job)) in
        let most = subst (λ (s : Shape). steps_left (source_in X x level) (run_of x.levels level) (output_of job) job.merger
        (most_pages (output_of job)) (most_blocks (output_of job)) + 7 ≤ whole_merge s level) out_shape own in
        omega (arith, left, most)

    begun_left : ℕ
    begun_left = steps_left (source_at x level) (run_of x.levels level) (output_of job) job.merger (most_pages (output_of job)) (most_blocks (output_of job)) + 1 + install_steps x.log.next

    not_begun : left_of (whole_merge x.log.shape level) (merge_left x.schedule.phase x) ≡ whole_merge x.log.shape level
    not_begun = ap (λ (p : Phase). left_of (whole_merge x.log.shape level) (merge_left p x)) idle

    begin_lowers : MovesMerge x.log.shape (backlog_of x) (backlog_of begun_index)
    begin_lowers = record {
      level = level;
      left = steps_left (source_at x level) (run_of x.levels level) (output_of job) job.merger (most_pages (output_of job)) (most_blocks (output_of job)) + 1 + install_steps x.log.next;
      due = next_now;
      moved = refl;
      lowers = record { none_ready = omega arith; less = (let most = whole in let few = installs_most x.log.next in let e = not_begun in omega (arith, most, few, e)) };
    }

    begin_less : LessIsLeft x begun_index
    begin_less = let l = merge_moves x.log.shape (backlog_of x) (backlog_of begun_index) begin_lowers in record { work = l.0; merging = l.1; roots = ap (λ n. x.log.root.number + n) l.2 }

  -- ---- by the contract of the job

  module _ (X : Type 0) (ready : IsReady old x.log.shape) where
    abbrev Begins : Job → Type 0
    Begins j = ((source : Source X) (target_run : Kept) (pool : Blocks) (flash : Flash) (arena : Frames) (gs hs : List Entry)
        → CanBegin source target_run (pins j) x.schedule.job.merger.shape level pool flash arena gs hs → JobRuns source target_run j pool flash arena gs hs)
        → ((source : Source X) (target_run : Kept) → IsWithin source target_run (output_of j) j.merger)
        → IndexMoves x frames old found m (record x { schedule = record x.schedule { job = j; phase = Running level } }) old
        × LessIsLeft x (record x { schedule = record x.schedule { job = j; phase = Running level } })

    pub begins_by : (j : Job) → j ≡ job → Begins j
    begins_by j is = subst Begins (sym is) (λ begins within.
        let can = begins (source_in X x level) (run_of x.levels level) x.pool old.pages x.arena es fs in
        let few = within (source_in X x level) (run_of x.levels level) in
        (begin_moves X can few ready, begin_less X can few ready))
