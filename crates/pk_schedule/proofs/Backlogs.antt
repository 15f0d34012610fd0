-- The remaining work is within its bounds: buffers and runs by the lists under the root, and no job has more left than the whole of it.
use Rattle.std.proofs.Common.{◌≡◌, inl, inr, ℕ, zero, suc, ◌+◌, ◌-◌, ◌*◌, ◌<◌, ◌≤◌, refl, sym, ap, subst, ◌∙◌, arith, Bool, true, false, T, ◌==◌, if◌then◌else◌, List, [], ◌∷◌, length, map, Option}
use Rattle.std.proofs.Common.{Some, None}
use Rattle.std.proofs.lemmas.List.Sums.{count_by-le-length}
use Rattle.std.{specs.Prelude.slice_index, specs.Prelude.slice_index_or, specs.Prelude.unwrap_or, specs.Prelude.IfSome, specs.Prelude.not, specs.Prelude.nat_le, specs.Prelude.zip, specs.List.list_all}
use Rattle.pk_base.{specs.Shape.Shape, specs.Shape.IsShape, specs.Shape.page_entries, specs.Shape.buffer, specs.Shape.cap, specs.Shape.caps, specs.Shape.run_pages, specs.Entry.Entry}
use Rattle.pk_base.{specs.Page.Flash, specs.Page.page_at, specs.Firsts.firsts, specs.Merge.room, specs.Merge.next_merge}
use Rattle.pk_law_work.{specs.Rest.whole_merge, specs.Rest.whole_freeze, specs.Backlog.IsBacklog, specs.Backlog.due_level, proofs.Paging.few_pages}
use Rattle.pk_buf.specs.Table.{Table}
use Rattle.pk_jrn.proofs.Puts.{firsts-reverse}
use Rattle.pk_rootfmt.specs.Root.{Root, is_root}
use Rattle.pk_pin.specs.Frames.{Frames}
use Rattle.pk_pool.specs.Blocks.{is_ready}
use Rattle.pk_root.{specs.declared.next.Next.Next, specs.declared.next.Next.TheVariants.Erase, specs.declared.next.Next.TheVariants.Program, specs.declared.next.Next.TheVariants.Again}
use Rattle.pk_run.specs.Kept.{Kept, empty, most_pages, most_blocks}
use Rattle.pk_level.specs.Levels.{RunsOnFlash, HaveBlocks, run_of}
use Rattle.pk_model.{specs.Found.Found, specs.RootLimits.root_spaces}
use Rattle.pk_law_steps.{proofs.NewestBlocks.valid_root, proofs.Amounts.run_most, proofs.Amounts.epoch_most, proofs.Amounts.WithinCaps, proofs.Amounts.within_caps, proofs.Amounts.counted_of}
use Rattle.pk_law_steps.proofs.FourRuns.{Runs, Pieces, IsLevel, four_of_root, four_runs, pieces_of, next_is_level}
use Rattle.pk_merge.{specs.Sources.pages_in, specs.Remaining.steps_left, proofs.Counting.within}
use Rattle.pk_compact.{specs.declared.freezing.FreezeJob.FreezeJob, specs.FreezeSteps.taken_by, specs.FreezeSteps.install_steps, specs.FreezeSteps.freeze_left}
use Rattle.pk_schedule.{specs.declared.phase.Phase.Phase, specs.declared.phase.Phase.TheVariants.Idle, specs.declared.phase.Phase.TheVariants.Running, specs.declared.phase.Phase.TheVariants.Ready}
use Rattle.pk_schedule.specs.Index.{Index, IndexOnFlash, MergeStands, MergesInto, output, source_at}
use Rattle.pk_schedule.specs.Steps.{backlog_of, is_between, merge_left, freeze_rest_of}
use Rattle.pk_schedule.{proofs.Entries.counts_same, proofs.Settled.older_read}

-- ---- the runs

-- each run has the pages of as many entries as it counts
pages_are : (shape : Shape) (flash : Flash) (arena : Frames) (rs : List Kept) (bss : List (List ℕ)) (ess : List (List Entry)) (d : Kept) (i : ℕ)
    → i < length rs → HaveBlocks shape rs bss → RunsOnFlash flash arena rs ess
    → length (slice_index_or rs i d).firsts ≡ run_pages shape (slice_index (map (λ (r : Kept). r.count) rs) i)
pages_are shape flash arena [] bss ess d i less have h = absurd (omega (arith, less))
pages_are shape flash arena (r ∷ rs) (bs ∷ bss) (es ∷ ess) d zero less have h = h.0.pages ∙ ap (λ (s : Shape). run_pages s r.count) have.0
pages_are shape flash arena (r ∷ rs) (bs ∷ bss) (es ∷ ess) d (suc i) less have h = pages_are shape flash arena rs bss ess d i (omega (arith, less)) have.2 h.1
pages_are shape flash arena _ _ _ d i less have h = search

same_length : (shape : Shape) (rs : List Kept) (bss : List (List ℕ)) → HaveBlocks shape rs bss → length rs ≡ length bss
same_length shape [] [] h = refl
same_length shape (r ∷ rs) (bs ∷ bss) h = ap suc (same_length shape rs bss h.2)
same_length shape _ _ h = absurd h

four_most : (shape : Shape) (a b c d : ℕ) → a ≤ room shape 1 → b ≤ room shape 2 → c ≤ room shape 3 → d ≤ room shape 4 → (i : ℕ) → i < 4 → slice_index (a ∷ b ∷ c ∷ d ∷ []) i ≤ room shape (i + 1)
four_most shape a b c d one two three four zero less = one
four_most shape a b c d one two three four (suc zero) less = two
four_most shape a b c d one two three four (suc (suc zero)) less = three
four_most shape a b c d one two three four (suc (suc (suc zero))) less = four
four_most shape a b c d one two three four (suc (suc (suc (suc i)))) less = absurd (omega (arith, less))

-- ---- steps

pub installs_most : (next : Next) → install_steps next ≤ 3
installs_most (Erase beside) = omega arith
installs_most (Program page) = omega arith
installs_most (Again page) = omega arith

freeze_within : (job : FreezeJob) (next : Next) → IfSome (freeze_rest_of job next) (λ left. left ≤ whole_freeze)
freeze_within job next = by_test (length (taken_by job) == 0)
  where
    few : freeze_left job next ≤ whole_freeze
    few = let most = installs_most next in omega (arith, most)

    by_test : (b : Bool) → IfSome (if b then None else Some (freeze_left job next)) (λ left. left ≤ whole_freeze)
    by_test true = tt
    by_test false = few

-- ---- the whole

module _ (x : Index) (frames : ℕ) (flash : Flash) (top : ℕ × Root) (found : Found) (stands : IndexOnFlash x frames flash top found) where
  is_shape : IsShape x.log.shape
  is_shape = stands.logs.is_shape

  valid : T (is_root x.log.shape top.1)
  valid = valid_root x.log.shape (page_at flash) top stands.logs.is_top

  pieces : Pieces x.log.shape (page_at flash) top.1 found
  pieces = pieces_of x.log.shape (page_at flash) top.1 found stands.logs.is_found

  runs : Runs x.log.shape (root_spaces x.log.shape top.1) (page_at flash) top.1.counts top.1.runs found.runs
  runs = four_runs x.log.shape (root_spaces x.log.shape top.1) (page_at flash) top.1.counts top.1.runs found.runs
      (four_of_root x.log.shape top.1 valid).counts (four_of_root x.log.shape top.1 valid).runs pieces.runs

  caps_are : WithinCaps x.log.shape runs.n1 runs.n2 runs.n3 runs.n4
  caps_are = within_caps x.log.shape runs.n1 runs.n2 runs.n3 runs.n4
      (subst (λ ns. T (list_all (λ p. nat_le p.0 (p.1 * page_entries x.log.shape)) (zip ns (caps x.log.shape)))) runs.counts_are (counted_of x.log.shape top.1 valid).fit)

  -- the keys of the frozen buffer
  pub frozen_is : length x.log.frozen.entries ≡ length (firsts found.older)
  frozen_is = ap (λ (t : Table). length t.entries) stands.logs.frozen_is ∙ firsts-reverse found.older

  frozen_most : length x.log.frozen.entries ≤ buffer x.log.shape
  frozen_most =
      let few : length (firsts found.older) ≤ buffer x.log.shape = epoch_most x.log.shape (root_spaces x.log.shape top.1) (page_at flash) (top.1.epoch - 1) top.1.older found.older
      (older_read x.log.shape (page_at flash) top.1 found stands.logs.is_found) in
      let same = frozen_is in
      omega (arith, few, same)

  -- the entries of the runs
  pub entries_are : map (λ (r : Kept). r.count) x.levels.runs ≡ map length found.runs
  entries_are = counts_same flash x.arena x.levels.runs found.runs stands.stand

  pub four : length x.levels.runs ≡ 4
  four = same_length x.log.shape x.levels.runs top.1.runs stands.run_blocks ∙ (four_of_root x.log.shape top.1 valid).runs

  pub runs_most : (i : ℕ) → i < 4 → slice_index (map (λ (r : Kept). r.count) x.levels.runs) i ≤ room x.log.shape (i + 1)
  runs_most i less =
      let c = caps_are in
      let m1 = run_most x.log.shape (root_spaces x.log.shape top.1) (page_at flash) 1 runs.n1 runs.b1 runs.r1 runs.one in
      let m2 = run_most x.log.shape (root_spaces x.log.shape top.1) (page_at flash) 2 runs.n2 runs.b2 runs.r2 runs.two in
      let m3 = run_most x.log.shape (root_spaces x.log.shape top.1) (page_at flash) 3 runs.n3 runs.b3 runs.r3 runs.three in
      let m4 = run_most x.log.shape (root_spaces x.log.shape top.1) (page_at flash) 4 runs.n4 runs.b4 runs.r4 runs.four in
      let c1 = c.one in
      let c2 = c.two in
      let c3 = c.three in
      let c4 = c.four in
      let all = four_most x.log.shape (length runs.r1) (length runs.r2) (length runs.r3) (length runs.r4)
      (omega (arith, m1, c1)) (omega (arith, m2, c2)) (omega (arith, m3, c3)) (omega (arith, m4, c4)) i less in
      subst (λ (ns : List ℕ). slice_index ns i ≤ room x.log.shape (i + 1)) (sym (entries_are ∙ ap (λ (ess : List (List Entry)). map length ess) runs.lists_are)) all

  -- a run has few enough pages
  pages_most : (level : ℕ) → level - 1 < 4 → level - 1 + 1 ≡ level → length (run_of x.levels level).firsts ≤ cap x.log.shape level
  pages_most level less its =
      let counted = pages_are x.log.shape flash x.arena x.levels.runs top.1.runs found.runs (empty x.levels.shape level)
      (level - 1) (let size = four in omega (arith, size, less)) stands.run_blocks stands.stand in
      let count : ℕ = slice_index (map (λ (r : Kept). r.count) x.levels.runs) (level - 1) in
      let few = few_pages x.log.shape level count is_shape (subst (λ (l : ℕ). count ≤ room x.log.shape l) its (runs_most (level - 1) less)) in
      subst (λ (n : ℕ). n ≤ cap x.log.shape level) (sym counted) few

  level_pages : (level : ℕ) → IsLevel level → length (run_of x.levels level).firsts ≤ cap x.log.shape level
  level_pages level is = pages_most level (omega arith) (omega arith)

  -- so has the source of a merge
  source_pages : (level : ℕ) → IsLevel level → pages_in (source_at x level) ≤ cap x.log.shape (level - 1)
  source_pages level (inl e) = subst (λ (l : ℕ). pages_in (source_at x l) ≤ cap x.log.shape (l - 1)) (sym e) (omega arith)
  source_pages level (inr (inl e)) = subst (λ (l : ℕ). pages_in (source_at x l) ≤ cap x.log.shape (l - 1)) (sym e) (pages_most 1 (omega arith) refl)
  source_pages level (inr (inr (inl e))) = subst (λ (l : ℕ). pages_in (source_at x l) ≤ cap x.log.shape (l - 1)) (sym e) (pages_most 2 (omega arith) refl)
  source_pages level (inr (inr (inr e))) = subst (λ (l : ℕ). pages_in (source_at x l) ≤ cap x.log.shape (l - 1)) (sym e) (pages_most 3 (omega arith) refl)

  -- ---- the merge

  due_is : (level : ℕ) → MergesInto x top.1 found level → due_level x.log.shape (backlog_of x) ≡ level
  unfolding due_level
  due_is level m =
      ap (λ (o : Option ℕ). unwrap_or o 0) ((λ i. next_merge x.log.shape (frozen_is i) (entries_are i)) ∙ m.due)

  steps_most : (level : ℕ) → MergesInto x top.1 found level
      → steps_left (source_at x level) (run_of x.levels level) (output x.schedule) x.schedule.job.merger
      (most_pages (output x.schedule)) (most_blocks (output x.schedule)) + 1 + install_steps x.log.next ≤ whole_merge x.log.shape level
  steps_most level m =
      let out : Kept = output x.schedule in
      let which = next_is_level x.log.shape (length (firsts found.older)) (map length found.runs) level m.due in
      let S : Shape → ℕ → Type 0 = λ s l. pages_in (source_at x level) ≤ cap s (l - 1) in
      let Q : Shape → ℕ → Type 0 = λ s l. length (run_of x.levels level).firsts ≤ cap s l in
      let W : Shape → ℕ → Type 0 = λ s l. steps_left (source_at x level) (run_of x.levels level) out x.schedule.job.merger (most_pages out) (most_blocks out) + 7 ≤ whole_merge s l in
      let source : S out.shape out.level = subst (λ (s : Shape). S s out.level) (sym m.output_shape) (subst (λ (l : ℕ). S x.log.shape l) (sym m.output_level) (source_pages level which)) in
      let target : Q out.shape out.level = subst (λ (s : Shape). Q s out.level) (sym m.output_shape) (subst (λ (l : ℕ). Q x.log.shape l) (sym m.output_level) (level_pages level which)) in
      let all : W out.shape out.level = within (source_at x level) (run_of x.levels level) out x.schedule.job.merger source target in
      let own : W x.log.shape level = subst (λ (l : ℕ). W x.log.shape l) m.output_level (subst (λ (s : Shape). W s out.level) m.output_shape all) in
      let two = installs_most x.log.next in
      omega (arith, own, two)

  merge_most : (phase : Phase) → MergeStands phase x flash top.1 found → IfSome (merge_left phase x) (λ left. left ≤ whole_merge x.log.shape (due_level x.log.shape (backlog_of x)))
  merge_most Idle m = tt
  merge_most (Running level) m =
      subst (λ (l : ℕ). steps_left (source_at x level) (run_of x.levels level) (output x.schedule) x.schedule.job.merger
      (most_pages (output x.schedule)) (most_blocks (output x.schedule)) + 1 + install_steps x.log.next ≤ whole_merge x.log.shape l)
      (sym (due_is level m.into)) (steps_most level m.into)
  merge_most (Ready level) m =
      subst (λ (l : ℕ). install_steps x.log.next ≤ whole_merge x.log.shape l) (sym (due_is level m.into)) (let two = installs_most x.log.next in omega (arith, two))

  -- a merge that runs is due
  level_due : (level : ℕ) → MergesInto x top.1 found level → 1 ≤ due_level x.log.shape (backlog_of x)
  level_due level m =
      let is = due_is level m in
      let which = next_is_level x.log.shape (length (firsts found.older)) (map length found.runs) level m.due in
      omega (arith, is, which)

  phase_due : (phase : Phase) → MergeStands phase x flash top.1 found → is_between phase ≡ false → 1 ≤ due_level x.log.shape (backlog_of x)
  phase_due Idle m runs = absurd (let z : ⊥ = cc in z)
  phase_due (Running level) m runs = level_due level m.into
  phase_due (Ready level) m runs = level_due level m.into

  pub some_due : is_between x.schedule.phase ≡ false → 1 ≤ due_level x.log.shape (backlog_of x)
  some_due runs = phase_due x.schedule.phase stands.merge runs

  -- no job has more left than the whole of it, and no list is longer than it may be
  pub index_backlog : length x.pool.states ≡ x.log.shape.blocks → IsBacklog x.log.shape (backlog_of x)
  index_backlog size = record {
    frozen_most = frozen_most;
    runs_most = runs_most;
    merge_most = merge_most x.schedule.phase stands.merge;
    freeze_most = freeze_within x.schedule.freeze x.log.next;
    reclaim_most = tt;
    unready_most = (let few = count_by-le-length (λ s. not (is_ready s)) x.pool.states in omega (arith, few, size));
  }
