-- A step of merges or of a freeze with the second program of the root whose first one it made.
use Rattle.std.proofs.Common.{◌≡◌, inl, inr, ℕ, ◌+◌, ◌<◌, ◌≤◌, refl, sym, ap, subst, ◌∙◌, arith, Bool, true, false, ◌||◌, if◌then◌else◌, Result, Ok, Err}
use Rattle.pk_base.{specs.Shape.Shape, proofs.Logic.not_both}
use Rattle.pk_nand.{specs.declared.types.Fault.Fault, specs.declared.types.Fault.TheVariants.Reading, specs.declared.types.Fault.TheVariants.Stopped, specs.BoardState.BoardState}
use Rattle.pk_nand.{specs.Calls.IsReady, proofs.Effects.works_then, proofs.Effects.stops_then, proofs.Effects.only_then}
use Rattle.pk_model.specs.Wear.{roots}
use Rattle.pk_root.specs.Installing.{repeats_next}
use Rattle.pk_law_work.{specs.Backlog.due_level, specs.Work.merging_left, specs.Work.repeating}
use Rattle.pk_log.specs.State.{LogState}
use Rattle.pk_schedule.{specs.declared.phase.Stepped.Stepped, specs.declared.phase.Stepped.TheVariants.Worked, specs.declared.phase.Stepped.TheVariants.Idle}
use Rattle.pk_schedule.specs.Steps.{FreezeMoves, Freezes, backlog_of}
use Rattle.pk_gc.specs.State.{JobState}
use Rattle.pk_parts.{specs.Parts.Parts, specs.Parts.frames_of, specs.Parts.index_of, specs.Parts.is_half, specs.Parts.commits_in, proofs.Staying.stays_then}
use Rattle.pk_parts.{specs.Moves.StandsBetween, specs.Moves.MayCommit, specs.Moves.LeavesValues, specs.Moves.KeepsAll, specs.Moves.KeepsAllBetween, specs.Moves.BreaksAll, proofs.Keeping.KeepsAll-none}
use Rattle.pk_parts.{proofs.Keeping.keeps_whole}
use Rattle.pk_background.specs.Emptying.{Came, ReadsUpTo, MayEmpty, MergesOnce, MergesWhole, FreezesOnce, FreezesWhole, merges_left, merges_due}
use Rattle.pk_background.{proofs.Pairs.by_half, proofs.Pairs.or_fault, specs.Pairing.FinishesRootOr, specs.Pairing.FinishesRoot, specs.Pairing.FailsToFinish, specs.Pairing.SettlesOr}
use Rattle.pk_background.{proofs.Callings.few_one, proofs.Callings.few_program, proofs.Callings.few_then}
use Rattle.pk_background.{proofs.ReadSteps.no_fault_then, proofs.ReadSteps.halts_behind, proofs.SameMaps.KeepsAll-finished, proofs.SameMaps.BreaksAll-finished, proofs.Steps.leaves_twice}

worked_idle : {E : Type 0} → ◌≡◌ {A = Result Stepped E} (Ok Worked) (Ok Idle) → ⊥
worked_idle e = cc

err_ok : {T E : Type 0} (f : E) (x : T) → ◌≡◌ {A = Result T E} (Err f) (Ok x) → ⊥
err_ok f x e = cc

ok_same : {E : Type 0} (x y : Bool) → ◌≡◌ {A = Result Bool E} (Ok x) (Ok y) → x ≡ y
ok_same x y e = cc

-- ---- what a second program leaves

-- no value moves
pub root_leaves : (b c : Parts) (s1 s2 : BoardState) → FinishesRoot b c s1 s2 → LeavesValues b c
root_leaves b c s1 s2 fin =
    let f = fin.finishes in
    let T : Parts → Type 0 = λ x. x ≡ record b { log = x.log; levels = x.levels; arena = x.arena; schedule = x.schedule; pool = x.pool } in
    let is : c ≡ record b { log = c.log; pool = c.pool } = f.rest ∙ ap (λ (r : JobState). record b { log = c.log; pool = c.pool; reclaim = r }) fin.same_reclaim in
    record {
      rest = subst T (sym is) refl;
      frames = ap (λ (x : Parts). frames_of x) f.rest;
      same_shape = ap (λ (l : LogState). l.shape) f.log;
      as_many = f.counted;
    }

reads_same : (n : ℕ) (a b c : BoardState) → ReadsUpTo n a b → c.reads ≡ b.reads → ReadsUpTo n a c
reads_same n a b c r same = record { up = (let up = r.up in omega (arith, up, same)); few = (let few = r.few in omega (arith, few, same)) }

-- ---- before the second program

module _ (a b : Parts) (s0 s1 : BoardState) (may : MayEmpty a s0) where
  -- the reclaim is as it was, so that no commit of moves is half made
  no_commit : LeavesValues a b → commits_in b.reclaim.phase ≡ false
  no_commit leaves = ap (λ (x : Parts). commits_in x.reclaim.phase) leaves.rest ∙ may.may.stands.1.whole.moves

  then_whole : LeavesValues a b → repeats_next b.log.next ≡ false → is_half b ≡ false
  then_whole leaves whole = ap (λ (x : Bool). x || commits_in b.reclaim.phase) whole ∙ no_commit leaves

  ready_then : LeavesValues a b → IsReady s1 a.log.shape → IsReady s1 b.log.shape
  ready_then leaves ready = subst (λ (s : Shape). IsReady s1 s) (sym leaves.same_shape) ready

  settles_next : KeepsAllBetween a b s0 s1 → LeavesValues a b → IsReady s1 a.log.shape → MayCommit b s1
  settles_next keeps leaves ready =
      let there = keeps a.log.shape may.may.stands.0 may.may.stands.1 in
      record {
        ready = ready_then leaves ready;
        stands = (may.may.stands.0, subst (λ (s : Shape). StandsBetween b s s1.pages may.may.stands.0) (sym leaves.same_shape) there.stands);
      }

  pub may_settle_merge : MergesOnce a b s0 s1 (Ok Worked) → MayCommit b s1
  may_settle_merge once = settles_next once.step.came.0 once.leaves once.step.ready

  pub may_settle_freeze : FreezesOnce a b s0 s1 (Ok tt) → MayCommit b s1
  may_settle_freeze once = settles_next once.step.ended once.leaves once.step.ready

  -- ---- a step of the merges

  -- with no second program
  alone : (r : Result Stepped Fault) → MergesOnce a b s0 s1 r → Came (λ (x : Stepped). KeepsAll a b s0 s1) (KeepsAll a b s0 s1) (BreaksAll a s0 s1) s0 s1 r → MergesWhole a b s0 s1 r
  alone r once came = record {
    made = 1;
    some = omega arith;
    step = record { came = came; rest = once.step.rest; reads = once.step.reads; roots_few = once.step.roots_few; ready = once.step.ready };
    idle = once.idle;
    calls = few_one s0 s1 once.calls;
    within = once.some;
    less = λ e. let less = once.less e in omega (arith, less);
    installs = once.installs;
    due = once.due;
    none_pending = once.none_pending;
    leaves = once.leaves;
    stays = once.stays;
  }

  module _ (once : MergesOnce a b s0 s1 (Ok Worked)) (c : Parts) (s2 : BoardState) where
    shape_b : b.log.shape ≡ a.log.shape
    shape_b = once.leaves.same_shape

    merged_half : FinishesRoot b c s1 s2 → MergesWhole a c s0 s2 (Ok Worked)
    merged_half fin =
        let f = fin.finishes in
        let shape_c : c.log.shape ≡ b.log.shape = ap (λ (l : LogState). l.shape) f.log in
        let first = once.less refl in
        let second : merges_left c < merges_left b = subst (λ (s : Shape). merging_left s (backlog_of (index_of c)) < merges_left b) (sym shape_c) fin.less.merging in
        let number : c.log.root.number ≡ b.log.root.number = ap (λ (l : LogState). l.root.number) f.log in
        let roots_due : c.log.root.number + merges_due c ≡ b.log.root.number + merges_due b =
        subst (λ (s : Shape). c.log.root.number + due_level s (backlog_of (index_of c)) ≡ b.log.root.number + merges_due b) (sym shape_c) fin.less.roots in
        let same = f.same_roots in
        let due = once.due in
        record {
          made = 2;
          some = omega arith;
          step = record {
            came = (KeepsAll-finished a b s0 s1 s2 may.may.ready once.none_pending once.step.came.0 c f, no_fault_then s0 s1 s2 once.step.came.1 f.works.no_fault);
            rest = only_then s0 s1 s2 once.step.rest f.works.rest;
            reads = reads_same 1 s0 s1 s2 once.step.reads f.works.reads;
            roots_few = omega (arith, same, once.step.roots_few);
            ready = subst (λ (s : Shape). IsReady s2 s) shape_b f.ready;
          };
          idle = λ e. absurd (worked_idle e);
          calls = few_then 1 1 s0 s1 s2 (few_one s0 s1 once.calls) (few_program s1 s2 f.program);
          within = tt;
          less = λ _. omega (arith, first, second);
          installs = omega (arith, same, due);
          due = omega (arith, same, due, number, roots_due);
          none_pending = ap (λ (l : LogState). l.pending) f.log ∙ once.none_pending;
          leaves = leaves_twice a b c once.leaves (root_leaves b c s1 s2 fin);
          stays = stays_then a b c once.stays f.stays;
        }

    merged_whole : repeats_next b.log.next ≡ false → MergesWhole a b s0 s1 (Ok Worked)
    merged_whole whole = alone (Ok Worked) once (keeps_whole a b s0 s1 (then_whole once.leaves whole) once.step.came.0, once.step.came.1)

    -- the second program failed
    merged_broken : repeats_next b.log.next ≡ true → c.log.pending ≡ b.log.pending → FailsToFinish b s1 s2 → MergesWhole a c s0 s2 (Err Stopped)
    merged_broken repeats same fails =
        let first = once.less refl in
        let one : repeating b.log.shape (backlog_of (index_of b)) ≡ 1 = ap (λ (x : Bool). if x then 1 else 0) repeats in
        let fewer = fails.no_root in
        let due = once.due in
        record {
          made = 2;
          some = omega arith;
          step = record {
            came = (
              BreaksAll-finished a b s0 s1 s2 may.may.ready once.none_pending once.step.came.0 fails,
              halts_behind s0 s1 s2 once.step.came.1 (record { flash = fails.stops.flash; stop = fails.stops.stop; read = fails.stops.read }),
            );
            rest = only_then s0 s1 s2 once.step.rest fails.stops.rest;
            reads = reads_same 1 s0 s1 s2 once.step.reads fails.stops.reads;
            roots_few = omega (arith, fewer, once.step.roots_few);
            ready = subst (λ (s : Shape). IsReady s2 s) shape_b fails.ready;
          };
          idle = λ e. absurd (err_ok Stopped Idle e);
          calls = few_then 1 1 s0 s1 s2 (few_one s0 s1 once.calls) (few_program s1 s2 fails.program);
          within = omega (arith, first, one);
          less = λ e. absurd (err_ok Stopped Worked e);
          installs = omega (arith, fewer, due);
          due = tt;
          none_pending = same ∙ once.none_pending;
          leaves = tt;
          stays = tt;
        }

    merged_then : repeats_next b.log.next ≡ true → (r : Result Unit Fault) → FinishesRootOr b c s1 s2 r → MergesWhole a c s0 s2 (or_fault Worked r)
    merged_then repeats (Ok u) fin = merged_half fin
    merged_then repeats (Err f) fails = rw fails.0 (merged_broken repeats fails.1 fails.2)

    pub merged_settled : (r : Result Unit Fault) → SettlesOr b c s1 s2 r → MergesWhole a c s0 s2 (or_fault Worked r)
    merged_settled r set = by_half (repeats_next b.log.next) b c s1 s2 r (λ x s q. MergesWhole a x s0 s (or_fault Worked q)) (λ e. merged_then e r (set.half e)) set.whole merged_whole

  pub merged_idle : MergesOnce a b s0 s1 (Ok Idle) → MergesWhole a b s0 s1 (Ok Idle)
  merged_idle once = let idle = once.idle refl in alone (Ok Idle) once (KeepsAll-none a b s0 s1 idle.1 idle.2, once.step.came.1)

  pub merged_failed : (f : Fault) → MergesOnce a b s0 s1 (Err f) → MergesWhole a b s0 s1 (Err f)
  merged_failed Reading once = alone (Err Reading) once once.step.came
  merged_failed Stopped once = alone (Err Stopped) once once.step.came

  -- ---- a step of a freeze

  module _ (once : FreezesOnce a b s0 s1 (Ok tt)) (c : Parts) (s2 : BoardState) where
    -- the root has its first program
    frozen_now : repeats_next b.log.next ≡ true → Freezes (index_of a) (index_of b)
    frozen_now repeats = elim once.freezes [
      | inl on ↦ absurd (not_both (repeats_next b.log.next) repeats on.whole)
      | inr done ↦ done
    ]

    goes_on : repeats_next b.log.next ≡ false → FreezeMoves (index_of a) (index_of b)
    goes_on whole = elim once.freezes [
      | inl on ↦ on
      | inr done ↦ absurd (not_both (repeats_next b.log.next) done.half whole)
    ]

    frozen_half : (x : Bool) → x ≡ true → repeats_next b.log.next ≡ true → FinishesRoot b c s1 s2 → FreezesWhole a c s0 s2 (Ok x)
    frozen_half x is repeats fin =
        let f = fin.finishes in
        let done = frozen_now repeats in
        let few : roots s1 ≤ roots s0 + 1 = once.step.roots_few in
        record {
          made = 2;
          step = record {
            ended = KeepsAll-finished a b s0 s1 s2 may.may.ready once.none_pending once.step.ended c f;
            broken = tt;
            works = works_then s0 s1 s2 once.step.works f.works;
            stops = tt;
            stopped = tt;
            roots_few = omega (arith, f.same_roots, few);
            ready = subst (λ (s : Shape). IsReady s2 s) once.leaves.same_shape f.ready;
          };
          calls = few_then 1 1 s0 s1 s2 (few_one s0 s1 once.calls) (few_program s1 s2 f.program);
          within = omega (arith, done.lowers.less, done.lowers.none_ready);
          goes_on = λ e. absurd (not_both x is (ok_same x false e));
          begins = λ _. record {
            active = ap (λ (l : LogState). l.active) f.log ∙ done.active;
            unused = ap (λ (l : LogState). l.epoch.used) f.log ∙ done.unused;
            takes_more = ap (λ (l : LogState). l.epoch.takes_more) f.log ∙ done.takes_more;
          };
          no_root = λ e. absurd (not_both x is (ok_same x false e));
          none_pending = ap (λ (l : LogState). l.pending) f.log ∙ once.none_pending;
          leaves = leaves_twice a b c once.leaves (root_leaves b c s1 s2 fin);
          stays = stays_then a b c once.stays f.stays;
        }

    frozen_whole : (x : Bool) → x ≡ false → repeats_next b.log.next ≡ false → FreezesWhole a b s0 s1 (Ok x)
    frozen_whole x is whole = record {
      made = 1;
      step = record {
        ended = keeps_whole a b s0 s1 (then_whole once.leaves whole) once.step.ended;
        broken = tt;
        works = once.step.works;
        stops = tt;
        stopped = tt;
        roots_few = once.step.roots_few;
        ready = once.step.ready;
      };
      calls = few_one s0 s1 once.calls;
      within = omega arith;
      goes_on = λ _. (refl, goes_on whole);
      begins = λ e. absurd (not_both x (ok_same x true e) is);
      no_root = λ _. once.no_root whole;
      none_pending = once.none_pending;
      leaves = once.leaves;
      stays = once.stays;
    }

    frozen_broken : repeats_next b.log.next ≡ true → c.log.pending ≡ b.log.pending → FailsToFinish b s1 s2 → FreezesWhole a c s0 s2 (Err Stopped)
    frozen_broken repeats same fails =
        let done = frozen_now repeats in
        let few : roots s1 ≤ roots s0 + 1 = once.step.roots_few in
        record {
          made = 2;
          step = record {
            ended = tt;
            broken = BreaksAll-finished a b s0 s1 s2 may.may.ready once.none_pending once.step.ended fails;
            works = tt;
            stops = stops_then s0 s1 s2 once.step.works fails.stops;
            stopped = refl;
            roots_few = omega (arith, fails.no_root, few);
            ready = subst (λ (s : Shape). IsReady s2 s) once.leaves.same_shape fails.ready;
          };
          calls = few_then 1 1 s0 s1 s2 (few_one s0 s1 once.calls) (few_program s1 s2 fails.program);
          within = omega (arith, done.lowers.less, done.lowers.none_ready);
          goes_on = λ e. absurd (err_ok Stopped false e);
          begins = λ e. absurd (err_ok Stopped true e);
          no_root = λ e. absurd (err_ok Stopped false e);
          none_pending = same ∙ once.none_pending;
          leaves = tt;
          stays = tt;
        }

    frozen_then : (x : Bool) → x ≡ repeats_next b.log.next → repeats_next b.log.next ≡ true → (r : Result Unit Fault) → FinishesRootOr b c s1 s2 r → FreezesWhole a c s0 s2 (or_fault x r)
    frozen_then x is repeats (Ok u) fin = frozen_half x (is ∙ repeats) repeats fin
    frozen_then x is repeats (Err f) fails = rw fails.0 (frozen_broken repeats fails.1 fails.2)

    pub frozen_settled : (x : Bool) → x ≡ repeats_next b.log.next → (r : Result Unit Fault) → SettlesOr b c s1 s2 r → FreezesWhole a c s0 s2 (or_fault x r)
    frozen_settled x is r set =
        by_half (repeats_next b.log.next) b c s1 s2 r (λ y s q. FreezesWhole a y s0 s (or_fault x q)) (λ e. frozen_then x is e r (set.half e)) set.whole (λ e. frozen_whole x (is ∙ e) e)

  pub frozen_failed : (f : Fault) → FreezesOnce a b s0 s1 (Err f) → FreezesWhole a b s0 s1 (Err f)
  frozen_failed f once = record {
    made = 1;
    step = record { ended = tt; broken = once.step.broken; works = tt; stops = once.step.stops; stopped = once.step.stopped; roots_few = once.step.roots_few; ready = once.step.ready };
    calls = few_one s0 s1 once.calls;
    within = omega arith;
    goes_on = λ e. absurd (err_ok f false e);
    begins = λ e. absurd (err_ok f true e);
    no_root = λ e. absurd (err_ok f false e);
    none_pending = once.none_pending;
    leaves = tt;
    stays = tt;
  }
