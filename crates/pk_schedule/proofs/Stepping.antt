-- What the step of a merge's job leaves of an index, whether it was done or a call of it failed.
use Rattle.std.proofs.Common.{◌≡◌, inl, inr, ℕ, ◌+◌, ◌≤◌, Bool, true, false, List, length, map, Option, Some, Result, Err, refl, sym, ap, subst, ◌∙◌, arith}
use Rattle.std.specs.Prelude.{unwrap_or, IsTrue, ◌↔◌}
use Rattle.pk_base.{specs.Shape.Shape, specs.Shape.cap, specs.Entry.Entry, specs.Map.Map, specs.Merge.next_merge, specs.Page.Flash, proofs.Logic.not_both}
use Rattle.pk_nand.{specs.BoardState.BoardState, specs.Calls.IsReady, specs.Effects.AtMostOneCall, specs.Effects.OnlyFlash, specs.Effects.OnlyReading, specs.declared.types.Fault.TheVariants.Reading, specs.declared.types.Fault.TheVariants.Stopped}
use Rattle.pk_nand.specs.declared.types.Fault.{Fault}
use Rattle.pk_pin.specs.Frames.{Frames}
use Rattle.pk_rootfmt.specs.Root.{Root}
use Rattle.pk_pool.{specs.Blocks.Blocks, specs.Blocks.IsShared, specs.Unready.unready}
use Rattle.pk_law_work.{specs.Rest.Lowers, specs.Rest.left_of, specs.Rest.whole_merge, specs.Steps.MovesMerge, proofs.Lowering.moves as merge_moves}
use Rattle.pk_run.specs.Kept.{Kept, RunOnFlash, empty, most_pages, most_blocks}
use Rattle.pk_level.{specs.Levels.run_of, specs.Arenas.unfilled}
use Rattle.pk_model.{specs.Found.Found, specs.Growth.Goes, specs.Crashes.CrashFinds, specs.Crashes.background, specs.Tree.run_at, specs.Wear.roots}
use Rattle.pk_law_steps.{specs.Merging.output_of as whole_output, proofs.FourRuns.next_is_level}
use Rattle.pk_merge.{specs.declared.source.Source.Source, specs.declared.source.Source.TheVariants.Frozen, specs.declared.source.Source.TheVariants.Run, specs.Cursors.Cursor}
use Rattle.pk_merge.{specs.Sources.wants_page_in, specs.Merging.Merger, specs.Merging.IsDone, specs.Merging.can_gather, specs.Running.IsOutputWhole, specs.Running.merged, proofs.Leasing.kept_leases}
use Rattle.pk_merge.{specs.Steps.Steps, specs.Steps.Fails, specs.Steps.FailsToRead, specs.Elsewhere.LeavesRuns, specs.Elsewhere.LeavesLeases, specs.Elsewhere.StepReaches, specs.Elsewhere.StepWent}
use Rattle.pk_merge.{specs.Remaining.steps_left, specs.Remaining.LowersTo, specs.Jobs.Job, specs.Jobs.JobRuns, specs.Jobs.RunsOn, specs.Jobs.Completes, specs.Jobs.pins, specs.Jobs.output_of}
use Rattle.pk_compact.{specs.Laws.CallLeaves, proofs.NextRoot.roots_same, proofs.Numbering.same_front, specs.FreezeSteps.install_steps}
use Rattle.pk_schedule.{specs.declared.phase.Phase.Phase, specs.declared.phase.Phase.TheVariants.Running, specs.declared.phase.Phase.TheVariants.Ready, specs.Sources.ShowsSame}
use Rattle.pk_schedule.specs.Index.{Index, IndexOnFlash, MergesInto, MergeRuns, MergeStands, output, source_at, entries_at}
use Rattle.pk_schedule.specs.Steps.{MayWork, IndexMoves, LessIsLeft, CallsOnce, Unmoved, merge_left, backlog_of}
use Rattle.pk_schedule.proofs.Carried.{Shown, shown, same_shown, job_carried, left_same, done_same}
use Rattle.pk_schedule.proofs.Grown.{Grew, SameEnd, acts_grow, acts_frames, reached_end, went_end}
use Rattle.pk_schedule.proofs.Entries.{output_same, frozen_many, counts_same}
use Rattle.pk_schedule.proofs.Running.{job_leaves, job_breaks, same_leaves, front_same, into_then, index_then, moves_then}

-- the fault of an answer
pub fault_is : {Y : Type 0} (a b : Fault) → ◌≡◌ {A = Result Y Fault} (Err a) (Err b) → a ≡ b
fault_is a b e = cc

pub other_answer : {Y Z : Type 0} (a b : Fault) → ◌≡◌ {A = Result Y Fault} (Err a) (Err b) → ◌≡◌ {A = Result Z Fault} (Err a) (Err b)
other_answer a b e = ap (λ (f : Fault). Err f) (fault_is a b e)

-- a step more, or the last one
goes_lowers : (a b u v i : ℕ) → Lowers a u b v → Lowers (a + 1 + i) u (b + 1 + i) v
goes_lowers a b u v i l = let less = l.less in record { none_ready = l.none_ready; less = omega (arith, less) }

ends_lowers : (a b u v i : ℕ) → Lowers a u b v → Lowers (a + 1 + i) u i v
ends_lowers a b u v i l = let less = l.less in record { none_ready = l.none_ready; less = omega (arith, less) }

wants_same : {X : Type 0} (source : Source X) (c : Cursor) (bytes : List ℕ) → wants_page_in source (record c { bytes = bytes }) ≡ wants_page_in source c
wants_same (Frozen b) c bytes = refl
wants_same (Run r) c bytes = refl

reread_left : {X : Type 0} (source : Source X) (target out : Kept) (m : Merger) (one two : List ℕ) (pages blocks : ℕ)
    → steps_left source target out (record m { source = record m.source { bytes = one }; target = record m.target { bytes = two } }) pages blocks ≡ steps_left source target out m pages blocks
unfolding can_gather
reread_left source target out m one two pages blocks = let w = wants_same source m.source one in rw w refl

module _ (x : Index) (frames : ℕ) (old : BoardState) (top : ℕ × Root) (found : Found) (m : Map)
    (may : MayWork x frames old.pages top found m) (shared : IsShared x.pool.shape x.pool.states) (ready : IsReady old x.log.shape)
    (level : ℕ) (was : x.schedule.phase ≡ Running level) where
  stands : IndexOnFlash x frames old.pages top found
  stands = may.stands

  abbrev out : Kept
  out = output x.schedule

  abbrev es : List Entry
  es = entries_at x found level

  abbrev fs : List Entry
  fs = run_at found.runs level

  abbrev target : Kept
  target = run_of x.levels level

  pub runs_now : MergeRuns x old.pages top.1 found level
  runs_now = subst (λ (p : Phase). MergeStands p x old.pages top.1 found) was stands.merge

  into : MergesInto x top.1 found level
  into = runs_now.into

  next_now : next_merge x.log.shape (length x.log.frozen.entries) (map (λ r. r.count) x.levels.runs) ≡ Some level
  next_now = (λ i. next_merge x.log.shape (frozen_many x.log.shape x.log.frozen found.older stands.logs.frozen_is i) (counts_same old.pages x.arena x.levels.runs found.runs stands.stand i)) ∙ into.due

  -- its level is one of four
  pub level_within : (1 ≤ level) × (level ≤ 4)
  level_within = omega (arith, next_is_level x.log.shape (length x.log.frozen.entries) (map (λ r. r.count) x.levels.runs) level next_now)

  -- no root is installed
  few_roots : (new : BoardState) → IsReady new x.log.shape → SameEnd x.pool out old.pages new.pages → roots new ≤ roots old + 1
  few_roots new after end =
      let same = roots_same x.log.shape old new ready after (same_front x.log.shape old.pages new.pages (front_same x frames old top found m may shared ready level into new.pages end)) in
      omega (arith, same)

  left_now : merge_left x.schedule.phase x ≡ Some (steps_left (source_at x level) target out x.schedule.job.merger (most_pages out) (most_blocks out) + 1 + install_steps x.log.next)
  left_now = ap (λ (p : Phase). merge_left p x) was

  -- by the contract of the job, whose target is the run of the level
  module _ {X : Type 0} (source : Source X) (shows : ShowsSame (source_at x level) source) (t : Kept) (is_target : t ≡ run_of x.levels level) where
    there : Shown (source_at x level) source
    there = shown (source_at x level) source shows

    back : Shown source (source_at x level)
    back = shown source (source_at x level) (same_shown (source_at x level) source shows)

    pub ran : JobRuns source t x.schedule.job x.pool old.pages x.arena es fs
    ran = subst (λ (k : Kept). JobRuns source k x.schedule.job x.pool old.pages x.arena es fs) (sym is_target)
        (job_carried (source_at x level) source there target x.schedule.job x.pool old.pages x.arena es fs runs_now.runs)

    carried_back : (job : Job) (pool : Blocks) (flash : Flash) (arena : Frames) → JobRuns source t job pool flash arena es fs → JobRuns (source_at x level) target job pool flash arena es fs
    carried_back job pool flash arena runs = job_carried source (source_at x level) back target job pool flash arena es fs
        (subst (λ (k : Kept). JobRuns source k job pool flash arena es fs) is_target runs)

    -- ---- a step that was done

    module _ (new : BoardState) (job : Job) (pool : Blocks) (arena : Frames)
        (running : RunsOn source t x.schedule.job x.pool old.pages x.arena job pool new.pages arena)
        (steps : Steps source t (pins x.schedule.job) out x.schedule.job.merger x.pool old x.arena (output_of job) job.merger pool new arena)
        (is_job : job ≡ record x.schedule.job { output = job.output; merger = job.merger })
        (others : LeavesRuns x.pool out old.pages x.arena new.pages arena)
        (leases : LeavesLeases out x.arena (output_of job) arena)
        (cuts : StepReaches x.pool out old new) where
      runs_then : JobRuns (source_at x level) target job pool new.pages arena es fs
      runs_then = carried_back job pool new.pages arena (running es fs ran)

      grew : Grew x.pool out pool (output_of job)
      grew = acts_grow source t (pins x.schedule.job) out x.schedule.job.merger x.pool old x.arena steps.next (output_of job) steps.between pool new arena steps.acts

      same_frames : length arena.used ≡ length x.arena.used
      same_frames = acts_frames source t (pins x.schedule.job) out x.schedule.job.merger x.pool old x.arena steps.next (output_of job) steps.between pool new arena steps.acts

      pub end : SameEnd x.pool out old.pages new.pages
      end = reached_end x.pool out old new cuts

      leaves : CallLeaves x.log.shape old top found m new
      leaves = job_leaves x frames old top found m may shared ready level into new source t x.schedule.job.merger x.arena es fs ran.running steps.next
          (output_of job) steps.between pool arena steps.tells steps.acts

      abbrev pub behind : Phase → Index
      behind p = record x { arena = arena; pool = pool; schedule = record x.schedule { job = job; phase = p } }

      moves_to : (p : Phase) → MergeStands p (behind p) new.pages top.1 found → IndexMoves x frames old found m (behind p) new
      moves_to p merge = moves_then x frames old top found m may shared ready level into new p job pool arena is_job grew end leaves same_frames leases others runs_then merge

      into_behind : (p : Phase) → MergesInto (behind p) top.1 found level
      into_behind p = into_then x frames old top found m may shared ready level into new p job pool arena is_job grew end leaves same_frames leases others runs_then

      abbrev Leaves : Phase → Type 0
      Leaves p = IndexMoves x frames old found m (behind p) new × LessIsLeft x (behind p)

      -- the merge goes on
      goes_on : (IsDone source t job.merger → ⊥) → IndexMoves x frames old found m (behind (Running level)) new
      goes_on undone = moves_to (Running level) (record {
        into = into_behind (Running level);
        runs = runs_then;
        undone = λ d. undone (subst (λ (k : Kept). IsDone source k job.merger) (sym is_target) (done_same source (source_at x level) back target job.merger d));
      })

      -- its output is whole
      completes : Completes source t x.schedule.job x.pool old.pages x.arena job new.pages arena true → IndexMoves x frames old found m (behind (Ready level)) new
      completes whole =
          let all : IsOutputWhole (pins x.schedule.job) (output_of job) new.pages arena (merged (output_of job).level es fs) = whole refl es fs ran in
          let is : (output_of job).level ≡ level = (into_behind (Ready level)).output_level in
          let its : merged (output_of job).level es fs ≡ whole_output level found = ap (λ (l : ℕ). merged l es fs) is ∙ output_same x found level stands.logs.frozen_is in
          let pinned : pins x.schedule.job ≡ pins job = sym (ap (λ (j : Job). pins j) is_job) in
          moves_to (Ready level) (record {
            into = into_behind (Ready level);
            whole = subst (λ (b : Bool). IsOutputWhole b (output_of job) new.pages arena (whole_output level found)) pinned
                (subst (λ (xs : List Entry). IsOutputWhole (pins x.schedule.job) (output_of job) new.pages arena xs) its all);
          })

      -- ---- what remains

      abbrev Lowers_by : Kept → Type 0
      Lowers_by k = LowersTo source k out x.schedule.job.merger x.pool (output_of job) job.merger pool (most_pages out) (most_blocks out)

      module _ (lowers : Lowers_by t) where
        abbrev Left : Kept → Merger → ℕ → ℕ → ℕ
        Left o j pages blocks = steps_left (source_at x level) target o j pages blocks

        falls : Lowers (Left out x.schedule.job.merger (most_pages out) (most_blocks out)) (unready x.pool.states)
            (Left (output_of job) job.merger (most_pages (output_of job)) (most_blocks (output_of job))) (unready pool.states)
        falls = elim (subst Lowers_by is_target lowers) [
          | inl done ↦ absurd (runs_now.undone (done_same (source_at x level) source there target x.schedule.job.merger done))
          | inr l ↦ (
              let before = left_same (source_at x level) source there target out x.schedule.job.merger (most_pages out) (most_blocks out) in
              let after = left_same (source_at x level) source there target (output_of job) job.merger (most_pages out) (most_blocks out) in
              let i = into_behind (Running level) in
              let shape : (output_of job).shape ≡ out.shape = i.output_shape ∙ sym into.output_shape in
              let at : (output_of job).level ≡ out.level = i.output_level ∙ sym into.output_level in
              let P : Shape → ℕ → Type 0 = λ s n. Lowers (Left out x.schedule.job.merger (most_pages out) (most_blocks out)) (unready x.pool.states)
              (Left (output_of job) job.merger (cap s n) (Rattle.pk_base.specs.Shape.blocks_of s (cap s n))) (unready pool.states) in
              let none_ready = l.none_ready in
              let less = l.less in
              let here : P out.shape out.level = record { none_ready = none_ready; less = omega (arith, less, before, after) } in
              subst (λ (s : Shape). P s (output_of job).level) (sym shape) (subst (λ (n : ℕ). P out.shape n) (sym at) here))
        ]

        less_to : (p : Phase) (left : ℕ) → merge_left p (behind p) ≡ Some left
            → Lowers (Left out x.schedule.job.merger (most_pages out) (most_blocks out) + 1 + install_steps x.log.next) (unready x.pool.states) left (unready pool.states) → LessIsLeft x (behind p)
        less_to p left is lower =
            let moved : MovesMerge x.log.shape (backlog_of x) (backlog_of (behind p)) = record {
              level = level;
              left = left;
              due = next_now;
              moved = λ i. record (backlog_of (behind p)) { merge = is i; unfilled = unfilled x.levels (same_frames i) };
              lowers = subst (λ (o : Option ℕ). Lowers (left_of (whole_merge x.log.shape level) o) (unready x.pool.states) left (unready pool.states)) (sym left_now) lower;
            } in
            let l = merge_moves x.log.shape (backlog_of x) (backlog_of (behind p)) moved in
            record { work = l.0; merging = l.1; roots = ap (λ n. x.log.root.number + n) l.2 }

      pub goes_by : (done : Bool) → (IsTrue done ↔ IsDone source t job.merger) → done ≡ false → Lowers_by t → Leaves x.schedule.phase
      goes_by done is e lowers = subst Leaves (sym was) (
        goes_on (λ d. not_both done (is.1 d) e),
        less_to lowers (Running level) _ refl (goes_lowers _ _ _ _ (install_steps x.log.next) (falls lowers)),
      )

      pub completes_by : (done : Bool) → done ≡ true → Completes source t x.schedule.job x.pool old.pages x.arena job new.pages arena done → Lowers_by t → Leaves (Ready level)
      completes_by done e whole lowers = (
        completes (subst (λ (b : Bool). Completes source t x.schedule.job x.pool old.pages x.arena job new.pages arena b) e whole),
        less_to lowers (Ready level) _ refl (ends_lowers _ _ _ _ (install_steps x.log.next) (falls lowers)),
      )

    -- ---- a step whose program or erase failed

    pub broken_by : (new : BoardState) (j' : Merger) (fault : Fault) → fault ≡ Stopped → Fails source t out x.schedule.job.merger x.pool old fault j' new
        → Goes x.log.shape old new (CrashFinds x.log.shape background old.pages m)
    broken_by new j' fault e fails = job_breaks x frames old top found m may shared ready level into new source t x.schedule.job.merger x.arena es fs ran.running j'
        (subst (λ (f : Fault). Fails source t out x.schedule.job.merger x.pool old f j' new) e fails)

    -- ---- a step whose read failed

    module _ (new : BoardState) (job : Job) (pool : Blocks) (arena : Frames)
        (again : RunsOn source t x.schedule.job x.pool old.pages x.arena job pool new.pages arena)
        (kept : (job.output ≡ x.schedule.job.output) × (pool ≡ x.pool) × (arena ≡ x.arena))
        (fault : Fault) (e : fault ≡ Reading) (failed : Fails source t out x.schedule.job.merger x.pool old fault job.merger new)
        (is_job : job ≡ record x.schedule.job { output = job.output; merger = job.merger }) (only : OnlyReading old new) where
      fails : FailsToRead source t x.schedule.job.merger old job.merger new
      fails = subst (λ (f : Fault). Fails source t out x.schedule.job.merger x.pool old f job.merger new) e failed

      abbrev pub reread : Phase → Index
      reread p = record x { arena = arena; pool = pool; schedule = record x.schedule { job = job; phase = p } }

      out_same : output_of job ≡ out
      out_same = ap (λ (o : Option Kept). unwrap_or o (empty job.merger.shape job.target)) (kept.0 ∙ into.has_output)

      steps_same : steps_left (source_at x level) target (output_of job) job.merger (most_pages (output_of job))
          (most_blocks (output_of job)) ≡ steps_left (source_at x level) target out x.schedule.job.merger (most_pages out) (most_blocks out)
      steps_same =
          ap (λ (o : Kept). steps_left (source_at x level) target o job.merger (most_pages o) (most_blocks o)) out_same
          ∙ ap (λ (j : Merger). steps_left (source_at x level) target out j (most_pages out) (most_blocks out)) fails.merger
          ∙ reread_left (source_at x level) target out x.schedule.job.merger job.merger.source.bytes job.merger.target.bytes (most_pages out) (most_blocks out)

      left_same_then : merge_left x.schedule.phase (reread x.schedule.phase) ≡ merge_left x.schedule.phase x
      left_same_then = subst (λ (p : Phase). merge_left p (reread p) ≡ merge_left p x) (sym was) (ap (λ (n : ℕ). Some (n + 1 + install_steps x.log.next)) steps_same)

      pub unmoved_by : Unmoved x (reread x.schedule.phase)
      unmoved_by = record {
        rest = (λ i. record x { arena = kept.2 i; pool = kept.1 i; schedule = record x.schedule { job = job } });
        same_backlog = (λ i. record (backlog_of x) { merge = left_same_then i; unfilled = unfilled x.levels (length (kept.2 i).used); unready = unready (kept.1 i).states });
        same_output = out_same;
      }

      still_runs : LeavesRuns x.pool out old.pages x.arena new.pages arena
      still_runs = λ other gs shape meta apart s. subst (λ (a : Frames). RunOnFlash other new.pages a gs) (sym kept.2) (subst (λ (f : Flash). RunOnFlash other f x.arena gs) (sym fails.same) s)

      runs_again : JobRuns (source_at x level) target job pool new.pages arena es fs
      runs_again = carried_back job pool new.pages arena (again es fs ran)

      again_grew : Grew x.pool out pool (output_of job)
      again_grew = inl (kept.1, ap (λ (r : Kept). r.blocks) out_same)

      again_leaves : CallLeaves x.log.shape old top found m new
      again_leaves = same_leaves x frames old top found m may shared ready level into new (ap (λ (b : BoardState). b.shape) only)
          (ap (λ (b : BoardState). b.pages) only) (ap (λ (b : BoardState). b.trail) only) (ap (λ (b : BoardState). b.posted) only)

      not_done : IsDone (source_at x level) target job.merger → ⊥
      not_done d = runs_now.undone (subst (λ (j : Merger). IsDone (source_at x level) target j) fails.merger d)

      pub stands_by : IndexOnFlash (reread x.schedule.phase) frames new.pages top found
      stands_by =
          let frames_same : length arena.used ≡ length x.arena.used = ap (λ (a : Frames). length a.used) kept.2 in
          let leases = kept_leases out (output_of job) x.arena arena (ap (λ (r : Kept). r.leases) out_same) kept.2 in
          subst (λ (p : Phase). IndexOnFlash (reread p) frames new.pages top found) (sym was)
          (index_then x frames old top found m may shared ready level into new (Running level) job pool arena is_job again_grew
          (inl fails.same) again_leaves frames_same leases still_runs runs_again (record {
            into = into_then x frames old top found m may shared ready level into new
                (Running level) job pool arena is_job again_grew (inl fails.same) again_leaves frames_same leases still_runs runs_again;
            runs = runs_again;
            undone = not_done;
          }))

  -- ---- what the flash is after it

  ready_by : (new : BoardState) → IsReady new x.schedule.job.merger.shape → IsReady new x.log.shape
  ready_by new after = subst (λ (s : Shape). IsReady new s) into.merger_shape after

  -- and it was one call
  calls_by : (new : BoardState) → SameEnd x.pool out old.pages new.pages → IsReady new x.schedule.job.merger.shape → AtMostOneCall old new → OnlyFlash old new → CallsOnce x.log.shape old new
  calls_by new end after calls rest = record { calls = calls; rest = rest; installs = few_roots new (ready_by new after) end; ready = ready_by new after }

  pub ok_calls : (new : BoardState) → StepReaches x.pool out old new → IsReady new x.schedule.job.merger.shape → AtMostOneCall old new → OnlyFlash old new → CallsOnce x.log.shape old new
  ok_calls new cuts = calls_by new (reached_end x.pool out old new cuts)

  -- whichever call failed
  failed_end : {Y : Type 0} (new : BoardState) (fault : Fault) → (◌≡◌ {A = Result Y Fault} (Err fault) (Err Reading) → OnlyReading old new)
      → (◌≡◌ {A = Result Y Fault} (Err fault) (Err Stopped) → StepWent x.pool out old new) → SameEnd x.pool out old.pages new.pages
  failed_end new Reading read went = inl (ap (λ (b : BoardState). b.pages) (read refl))
  failed_end new Stopped read went = went_end x.pool out old new (went refl)

  pub failed_calls : {Y : Type 0} (new : BoardState) (fault : Fault) → (◌≡◌ {A = Result Y Fault} (Err fault) (Err Reading) → OnlyReading old new)
      → (◌≡◌ {A = Result Y Fault} (Err fault) (Err Stopped) → StepWent x.pool out old new)
      → IsReady new x.schedule.job.merger.shape → AtMostOneCall old new → OnlyFlash old new → CallsOnce x.log.shape old new
  failed_calls new fault read went = calls_by new (failed_end new fault read went)
