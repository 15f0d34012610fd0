-- What a step of the jobs leaves of the background work.
use Rattle.std.proofs.Common.{◌≡◌, ◌⊎◌, inl, inr, ℕ, ◌+◌, ◌-◌, ◌<◌, ◌≤◌, refl, sym, ap, subst, ◌∙◌, arith, Bool, true, false, cond, length, Option, Some, None}
use Rattle.std.specs.Prelude.{◌==◌, ◌&&◌, ◌||◌, if◌then◌else◌, nat_lt, is_none, map}
use Rattle.std.proofs.lemmas.Bool.Decides.{nat_tests}
use Rattle.pk_base.{specs.Shape.Shape, specs.Shape.IsShape, specs.Shape.buffer, specs.Shape.dense, specs.Shape.epoch_commits, proofs.Logic.not_both, proofs.ZeroLemmas.some_is_not_zero}
use Rattle.pk_plan.specs.declared.owner.Owner.TheVariants.{Values as for_values}
use Rattle.pk_pool.{specs.Blocks.used_by, specs.Unready.unready}
use Rattle.pk_jrn.specs.Epochs.{left_of as pages_left}
use Rattle.pk_law_work.{specs.Backlog.Backlog, specs.Backlog.is_tight, specs.Backlog.due_level, specs.Rest.Lowers, specs.Rest.left_of, specs.Rest.whole_freeze}
use Rattle.pk_law_work.specs.Work.{work, after_freeze, merging, merging_from, filling, filling_from, freezing_from, reclaiming, reclaiming_from}
use Rattle.pk_law_work.proofs.Lowering.{freeze_moves, freeze_ends}
use Rattle.pk_root.{specs.declared.next.Next.Next, specs.declared.next.Next.TheVariants.Erase}
use Rattle.pk_root.specs.Installing.{repeats_next}
use Rattle.pk_compact.{specs.declared.freezing.FreezeJob.FreezeJob, specs.FreezeSteps.taken_by, specs.FreezeSteps.freeze_left, specs.FreezeSteps.install_steps}
use Rattle.pk_log.specs.State.{LogState}
use Rattle.pk_level.specs.Arenas.{unfilled}
use Rattle.pk_schedule.specs.Index.{Index}
use Rattle.pk_schedule.specs.Steps.{FreezeMoves, Freezes, KeepsActive, backlog_of as backlog_of_index, merge_left, freeze_rest_of, has_no_merge, is_between}
use Rattle.pk_parts.specs.Parts.{Parts, index_of, sight_of, backlog_of, is_reclaim_due, reclaim_left, has_moves, may_freeze}
use Rattle.pk_background.{specs.Ticking.WantsFreeze, proofs.Ticking.no_merge_is, proofs.Ticking.none_left, proofs.Ticking.due_so, proofs.Indexing.with_index}

some_none : (left : ℕ) → ◌≡◌ {A = Option ℕ} (Some left) None → ⊥
some_none left e = cc

-- ---- what a reclaim adds to the work of the index

-- the freeze that it may need, if none runs
abbrev freeze_more : Shape → Option ℕ → Bool → ℕ
freeze_more shape freeze may = if is_none freeze && may then whole_freeze + after_freeze shape else 0

freezing_more : (shape : Shape) (freeze : Option ℕ) (may : Bool) → freezing_from shape freeze may ≡ freezing_from shape freeze false + freeze_more shape freeze may
freezing_more shape None false = refl
freezing_more shape None true = omega arith
freezing_more shape (Some left) may = omega arith

abbrev with_reclaim : Backlog → Option ℕ → Bool → Backlog
with_reclaim b rest may = record b { reclaim = rest; is_due = false; may_freeze = may }

due_beside : (shape : Shape) (b : Backlog) (rest : Option ℕ) (may : Bool) → due_level shape (with_reclaim b rest may) ≡ due_level shape (with_reclaim b None false)
unfolding due_level
due_beside shape b rest may = refl

work_beside : (shape : Shape) (b : Backlog) (rest : Option ℕ) (may : Bool)
    → work shape (with_reclaim b rest may) ≡ work shape (with_reclaim b None false) + freeze_more shape b.freeze may + reclaiming_from shape rest false
unfolding work
work_beside shape b rest may =
    let merges : merging shape (with_reclaim b rest may) ≡ merging shape (with_reclaim b None false) = ap (λ l. merging_from shape l b.merge) (due_beside shape b rest may) in
    let fills : filling shape (with_reclaim b rest may) ≡ filling shape (with_reclaim b None false) = ap (λ n. filling_from shape n b.unfilled) merges in
    let freezes = freezing_more shape b.freeze may in
    omega (arith, merges, fills, freezes)

-- whether a freeze runs follows from the blocks that it has
rest_none : (job : FreezeJob) (next : Next) → is_none (freeze_rest_of job next) ≡ (length (taken_by job) == 0)
rest_none job next = by (length (taken_by job) == 0)
  where
    by : (b : Bool) → is_none (cond {A = Option ℕ} b None (Some (freeze_left job next))) ≡ b
    by true = refl
    by false = refl

-- less remains with the reclaim if less remains of the index, and a freeze runs as before
less_beside : (shape : Shape) (b b' : Backlog) (rest : Option ℕ) (may : Bool) → is_none b'.freeze ≡ is_none b.freeze → work shape (with_reclaim b' None false) < work shape (with_reclaim b None false)
    → work shape (with_reclaim b' rest may) < work shape (with_reclaim b rest may)
less_beside shape b b' rest may same less =
    let before = work_beside shape b rest may in
    let behind = work_beside shape b' rest may in
    let freezes : freeze_more shape b'.freeze may ≡ freeze_more shape b.freeze may = ap (λ x. if x && may then whole_freeze + after_freeze shape else 0) same in
    omega (arith, before, behind, freezes, less)

-- ---- a step of a merge

module _ (d : Parts) (x' : Index) (many : used_by for_values x'.pool.states ≡ used_by for_values d.pool.states) (shape : x'.log.shape ≡ d.log.shape) where
  due_same : is_reclaim_due (with_index d x') ≡ is_reclaim_due d
  due_same = due_so d x'.log.shape (used_by for_values x'.pool.states) shape many

  -- a reclaim may need a freeze as before if the active buffer and the epoch are the same
  may_same : length x'.log.active.entries ≡ length d.log.active.entries → pages_left x'.log.epoch ≡ pages_left d.log.epoch → may_freeze (with_index d x') ≡ may_freeze d
  may_same active left = λ i. has_moves (due_same i) d.reclaim.phase && is_tight (shape i) (active i) (left i)

  -- the same amount of the reclaim remains
  left_same : reclaim_left x'.log.shape d.values.live.heads (is_reclaim_due (with_index d x')) d.reclaim.phase ≡ reclaim_left d.log.shape d.values.live.heads (is_reclaim_due d) d.reclaim.phase
  left_same = λ i. reclaim_left (shape i) d.values.live.heads (due_same i) d.reclaim.phase

  pub merge_less : x'.schedule.freeze ≡ d.schedule.freeze → KeepsActive d.log x'.log → work d.log.shape (backlog_of_index x') < work d.log.shape (backlog_of_index (index_of d))
      → (sight_of (with_index d x')).work < (sight_of d).work
  merge_less freeze keeps less =
      let may : may_freeze (with_index d x') ≡ may_freeze d = may_same (ap (λ (l : LogState). length l.active.entries) keeps) (ap (λ (l : LogState). pages_left l.epoch) keeps) in
      let same : work x'.log.shape (backlog_of (with_index d x')) ≡ work d.log.shape (with_reclaim (backlog_of_index x') (backlog_of d).reclaim (may_freeze d)) =
      λ i. work (shape i) (with_reclaim (backlog_of_index x') (left_same i) (may i)) in
      let freezes = rest_none x'.schedule.freeze x'.log.next ∙ (ap (λ j. length (taken_by j) == 0) freeze ∙ sym (rest_none d.schedule.freeze d.log.next)) in
      let lower = less_beside d.log.shape (backlog_of_index (index_of d)) (backlog_of_index x') (backlog_of d).reclaim (may_freeze d) freezes less in
      omega (arith, same, lower)

-- ---- a step of a freeze

-- a freeze that has taken a block has steps left
freeze_some_left : (job : FreezeJob) (next : Next) → (length (taken_by job) == 0) ≡ false → freeze_rest_of job next ≡ Some (freeze_left job next)
freeze_some_left job next e = ap (λ b. cond b None (Some (freeze_left job next))) e

-- an install is made in three steps at most
install_few : (next : Next) → (1 ≤ install_steps next) × (install_steps next ≤ 3)
install_few (Erase beside) = (omega arith, omega arith)
install_few next = (omega arith, omega arith)

-- no more remains than of a whole freeze, which remains if none has begun
left_least : (job : FreezeJob) (next : Next) → freeze_left job next ≤ left_of whole_freeze (freeze_rest_of job next)
left_least job next = by (length (taken_by job) == 0)
  where
    by : (b : Bool) → freeze_left job next ≤ left_of whole_freeze (cond b None (Some (freeze_left job next)))
    by true = let few = (install_few next).1 in omega (arith, few)
    by false = omega arith

-- after a freeze there is room for the moves of a reclaim
not_tight : (most moves active left : ℕ) → active + moves ≤ most → 0 < left → (nat_lt most (active + moves) || left == 0) ≡ false
not_tight most moves active left few some = grind (arith, nat_tests)

frozen_room : (shape : Shape) (active left : ℕ) → IsShape shape → active ≡ 0 → 0 < left → is_tight shape active left ≡ false
frozen_room shape active left is none some = let fit = is.moves_fit in not_tight (buffer shape) (dense shape) active left (omega (arith, fit, none)) some

and_false : (b c : Bool) → c ≡ false → b && c ≡ false
and_false true c e = e
and_false false c e = refl

module _ (d : Parts) (x' : Index) (merged : has_no_merge (index_of d) ≡ true) (was_whole : repeats_next d.log.next ≡ false)
    (wanted : freeze_rest_of d.schedule.freeze d.log.next ≡ None → may_freeze d ≡ true)
    (many : used_by for_values x'.pool.states ≡ used_by for_values d.pool.states) (shape : x'.log.shape ≡ d.log.shape) where
  abbrev later : Parts
  later = with_index d x'

  between : is_between d.schedule.phase ≡ true
  between = (no_merge_is (index_of d) merged).0

  none_frozen : length d.log.frozen.entries ≡ 0
  none_frozen = (no_merge_is (index_of d) merged).1

  -- no merge runs before it and after it
  merge_same : x'.schedule.phase ≡ d.schedule.phase → merge_left x'.schedule.phase x' ≡ merge_left d.schedule.phase (index_of d)
  merge_same phase = none_left x'.schedule.phase x' (ap is_between phase ∙ between) ∙ sym (none_left d.schedule.phase (index_of d) between)

  -- the same amount of the reclaim remains
  reclaim_same : reclaiming d.log.shape (backlog_of later) ≡ reclaiming d.log.shape (backlog_of d)
  reclaim_same = ap (λ o. reclaiming_from d.log.shape o false) (left_same d x' many shape)

  lowers_left : (left unready' : ℕ) → Lowers (freeze_left d.schedule.freeze d.log.next) (unready d.pool.states) left unready'
      → Lowers (left_of whole_freeze (backlog_of d).freeze) (backlog_of d).unready left unready'
  lowers_left left unready' lowers =
      let least = left_least d.schedule.freeze d.log.next in
      record { none_ready = lowers.none_ready; less = (let less = lowers.less in omega (arith, less, least)) }

  -- one that goes on
  pub freeze_goes : FreezeMoves (index_of d) x' → (length (taken_by x'.schedule.freeze) == 0) ≡ false → work d.log.shape (backlog_of later) < work d.log.shape (backlog_of d)
  freeze_goes f some =
      let log = f.log in
      let may : may_freeze later ≡ may_freeze d = may_same d x' many shape (ap (λ (l : LogState). length l.active.entries) log) (ap (λ (l : LogState). pages_left l.epoch) log) in
      let phase : x'.schedule.phase ≡ d.schedule.phase = ap (λ (y : Index). y.schedule.phase) f.rest in
      let levels : x'.levels ≡ d.levels = ap (λ (y : Index). y.levels) f.rest in
      let arena : x'.arena ≡ d.arena = ap (λ (y : Index). y.arena) f.rest in
      let frozen : length x'.log.frozen.entries ≡ length d.log.frozen.entries = ap (λ (l : LogState). length l.frozen.entries) log in
      let freeze = freeze_some_left x'.schedule.freeze x'.log.next some in
      let merge = merge_same phase in
      let half : repeats_next x'.log.next ≡ repeats_next d.log.next = f.whole ∙ sym was_whole in
      freeze_moves d.log.shape (backlog_of d) (backlog_of later) (record {
        left = freeze_left x'.schedule.freeze x'.log.next;
        wanted = wanted;
        moved = λ i. record (backlog_of later) {
          frozen = frozen i;
          runs = map (λ r. r.count) (levels i).runs;
          unfilled = unfilled (levels i) (length (arena i).used);
          merge = merge i;
          freeze = freeze i;
          may_freeze = may i;
          half = half i;
        };
        no_more = (let same = reclaim_same in omega (arith, same));
        lowers = lowers_left (freeze_left x'.schedule.freeze x'.log.next) (unready x'.pool.states) f.lowers;
      })

  -- one whose root has its first program
  pub freeze_over : IsShape d.log.shape → x'.log.epoch.shape ≡ x'.log.shape → Freezes (index_of d) x' → work d.log.shape (backlog_of later) < work d.log.shape (backlog_of d)
  freeze_over is epoch f =
      let phase : x'.schedule.phase ≡ d.schedule.phase = ap (λ (y : Index). y.schedule.phase) f.rest in
      let levels : x'.levels ≡ d.levels = ap (λ (y : Index). y.levels) f.rest in
      let arena : x'.arena ≡ d.arena = ap (λ (y : Index). y.arena) f.rest in
      let merge = merge_same phase in
      let freeze : freeze_rest_of x'.schedule.freeze x'.log.next ≡ None = ap (λ (y : Index). freeze_rest_of y.schedule.freeze x'.log.next) f.rest in
      let empty : length x'.log.active.entries ≡ 0 = ap (λ t. length t.entries) f.active ∙ none_frozen in
      let some : 0 < pages_left x'.log.epoch = fresh_left x'.log.epoch.takes_more (epoch_commits x'.log.epoch.shape) x'.log.epoch.used f.takes_more f.unused
      (let e = ap (λ (s : Shape). epoch_commits s) (epoch ∙ shape) in let least = is.block_least in omega (arith, e, least)) in
      let none : may_freeze later ≡ false = and_false (has_moves (is_reclaim_due later) d.reclaim.phase) (is_tight x'.log.shape (length x'.log.active.entries) (pages_left x'.log.epoch))
      (frozen_room x'.log.shape (length x'.log.active.entries) (pages_left x'.log.epoch) (subst IsShape (sym shape) is) empty some) in
      freeze_ends d.log.shape (backlog_of d) (backlog_of later) (record {
        wanted = wanted;
        none_frozen = none_frozen;
        none_merges = none_left d.schedule.phase (index_of d) between;
        was_whole = was_whole;
        ended = λ i. record (backlog_of later) {
          runs = map (λ r. r.count) (levels i).runs;
          unfilled = unfilled (levels i) (length (arena i).used);
          merge = merge i;
          freeze = freeze i;
          may_freeze = none i;
          half = f.half i;
        };
        no_more = (let same = reclaim_same in omega (arith, same));
        lowers = lowers_left 1 (unready x'.pool.states) f.lowers;
      })
    where
      fresh_left : (takes_more : Bool) (n used : ℕ) → takes_more ≡ true → used ≡ 0 → 0 < n → 0 < (if takes_more then n - used else 0)
      fresh_left true n used takes unused some = omega (arith, unused, some)
      fresh_left false n used takes unused some = absurd (not_both false takes refl)

-- a required freeze runs, or may be needed
pub freeze_wanted : (d : Parts) → WantsFreeze d → freeze_rest_of d.schedule.freeze d.log.next ≡ None → may_freeze d ≡ true
freeze_wanted d (inl some) none = absurd (some_none (freeze_left d.schedule.freeze d.log.next) (sym (freeze_some_left d.schedule.freeze d.log.next some) ∙ none))
freeze_wanted d (inr (runs, may)) none = may

-- by what a step of a freeze did
pub freeze_less : (d : Parts) (x' : Index) → has_no_merge (index_of d) ≡ true → repeats_next d.log.next ≡ false
    → (freeze_rest_of d.schedule.freeze d.log.next ≡ None → may_freeze d ≡ true) → FreezeMoves (index_of d) x' ⊎ Freezes (index_of d) x'
    → used_by for_values x'.pool.states ≡ used_by for_values d.pool.states → x'.log.shape ≡ d.log.shape
    → IsShape d.log.shape → x'.log.epoch.shape ≡ x'.log.shape → (sight_of (with_index d x')).work < (sight_of d).work
freeze_less d x' merged was_whole wanted f many shape is epoch =
    subst (λ (s : Shape). work s (backlog_of (with_index d x')) < work d.log.shape (backlog_of d)) (sym shape) (by f)
  where
    by : FreezeMoves (index_of d) x' ⊎ Freezes (index_of d) x' → work d.log.shape (backlog_of (with_index d x')) < work d.log.shape (backlog_of d)
    by (inl goes) = freeze_goes d x' merged was_whole wanted many shape goes (some_is_not_zero (length (taken_by x'.schedule.freeze)) goes.some)
    by (inr over) = freeze_over d x' merged was_whole wanted many shape is epoch over
