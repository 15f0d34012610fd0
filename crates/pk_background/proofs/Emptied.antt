-- Merges one after another, and the steps of a freeze, inside a command.
use Rattle.std.proofs.Common.{◌≡◌, ℕ, ◌+◌, ◌-◌, ◌<◌, ◌≤◌, refl, sym, ap, subst, ◌∙◌, arith, Bool, true, false, ◌&&◌, ◌==◌, if◌then◌else◌, T, List, [], ◌∷◌, length, eqb→eq, Result, Ok, Err}
use Rattle.pk_base.{specs.Entry.Entry, specs.Key.Key, specs.Shape.Shape, specs.Shape.buffer, specs.Shape.epoch_commits, proofs.ShapeLemmas.block_pages_positive, specs.Map.Map}
use Rattle.pk_buf.specs.Table.{Table}
use Rattle.pk_jrn.specs.Epochs.{left_of}
use Rattle.pk_log.{specs.State.LogState, specs.State.needs_freeze, specs.Logs.LogOnFlash}
use Rattle.pk_law_work.{specs.Backlog.is_tight, specs.Rest.whole_freeze, specs.Work.emptying, specs.Work.repeating, specs.Calls.room_calls, specs.Calls.room_roots, specs.Calls.commit_calls}
use Rattle.pk_law_work.proofs.Within.{due_most, merging_most}
use Rattle.pk_schedule.{specs.Index.Index, specs.declared.phase.Stepped.Stepped, specs.declared.phase.Stepped.TheVariants.Worked, specs.declared.phase.Stepped.TheVariants.Idle}
use Rattle.pk_schedule.{specs.Steps.FreezeMoves, specs.Steps.backlog_of, specs.Steps.has_no_merge, specs.Steps.is_between, proofs.Backlogs.index_backlog, proofs.Backlogs.installs_most}
use Rattle.pk_nand.{specs.declared.types.Fault.Fault, specs.BoardState.BoardState, specs.Calls.IsReady}
use Rattle.pk_model.{specs.Wear.roots, proofs.Steps.RootsUpTo-le, proofs.Steps.Step-broken}
use Rattle.pk_call.specs.Calling.{FewCalls}
use Rattle.pk_background.{specs.Costs.Spends, proofs.Rooming.stands_after, proofs.Freezing.no_need, proofs.Freezing.left_some, proofs.Freezing.frozen_is_room}
use Rattle.pk_background.specs.Emptying.{StepOrRead, KeepsOrReads, MergesWhole, FreezesWhole, BeginsEpoch, HasRoom, merges_left, merges_due, freeze_left_of, MayEmpty}
use Rattle.pk_background.proofs.Steps.{none_step, keeps_later, may_after, leaves_none, leaves_twice}
use Rattle.pk_background.proofs.Callings.{few_none, few_within, few_then, spends_within, spends_then}
use Rattle.pk_background.proofs.ReadSteps.{Passes, passes_none, step_passes, reading_passes, reads_nothing, reading_failed, reading_then, reading_end, reading_within}
use Rattle.pk_parts.{specs.Parts.Parts, specs.Parts.frames_of, specs.Parts.index_of, specs.Staying.Stays, proofs.Keeping.KeepsAll-none, proofs.Keeping.KeepsAll-then, proofs.Keeping.BreaksAll-then}
use Rattle.pk_parts.specs.Moves.{StandsFor, KeepsAll, BreaksAll, MayStep, StepKeeps, LeavesValues}
use Rattle.pk_parts.proofs.Staying.{stays_same, stays_then}

-- ---- steps one after another

-- one more after those of which no call failed
pub reads_later : (r : Result Unit Fault) (a b c : Parts) (n k most : ℕ) (s0 s1 s2 : BoardState) → IsReady s0 a.log.shape → b.log.shape ≡ a.log.shape → n + k ≤ most
    → KeepsAll a b s0 s1 → Passes n s0 s1 → KeepsOrReads b c k s1 s2 r → KeepsOrReads a c most s0 s2 r
reads_later r a b c n k most s0 s1 s2 ready same few keeps passes second =
    reading_then r (λ (x : Unit). KeepsAll b c s1 s2) (λ (x : Unit). KeepsAll a c s0 s2) (KeepsAll b c s1 s2) (KeepsAll a c s0 s2) (BreaksAll b s1 s2) (BreaksAll a s0 s2)
    a.log.shape n k most s0 s1 s2 few passes (λ x kept. KeepsAll-then a b c s0 s1 s2 ready keeps kept)
    (λ kept. KeepsAll-then a b c s0 s1 s2 ready keeps kept) (λ broken. BreaksAll-then a b s0 s1 s2 ready keeps broken)
    (subst (λ (s : Shape). StepOrRead (λ (x : Unit). KeepsAll b c s1 s2) (KeepsAll b c s1 s2) (BreaksAll b s1 s2) s k s1 s2 r) same second)

-- what it answered may be forgotten
pub reads_ended : {T : Type 0} (x : T) (b c : Parts) (k : ℕ) (s1 s2 : BoardState) → KeepsOrReads b c k s1 s2 (Ok x) → KeepsOrReads {T = Unit {0}} b c k s1 s2 (Ok tt)
reads_ended x b c k s1 s2 step = record { came = step.came; rest = step.rest; reads = step.reads; roots_few = step.roots_few; ready = step.ready }

pub reads_failed : {T U : Type 0} (e : Fault) (b c : Parts) (k most : ℕ) (s1 s2 : BoardState) → k ≤ most → KeepsOrReads {T = T} b c k s1 s2 (Err e) → KeepsOrReads {T = U} b c most s1 s2 (Err e)
reads_failed {T} {U} e b c k most s1 s2 few step =
    reading_failed e (λ (x : T). KeepsAll b c s1 s2) (λ (x : U). KeepsAll b c s1 s2) (KeepsAll b c s1 s2) (KeepsAll b c s1 s2) (BreaksAll b s1 s2) (BreaksAll b s1 s2) b.log.shape k most s1 s2 few
    (λ kept. kept) (λ broken. broken) step

-- a step that reads nothing
pub keeps_reads : (r : Result Unit Fault) (b c : Parts) (k : ℕ) (s1 s2 : BoardState) → StepKeeps b c k s1 s2 r → KeepsOrReads b c k s1 s2 r
keeps_reads r b c k s1 s2 step = reads_nothing r (λ (x : Unit). KeepsAll b c s1 s2) (KeepsAll b c s1 s2) (BreaksAll b s1 s2) b.log.shape k s1 s2 step

pub passes_keeps : {T : Type 0} (x : T) (b c : Parts) (k : ℕ) (s1 s2 : BoardState) → StepKeeps b c k s1 s2 (Ok x) → Passes k s1 s2
passes_keeps {T} x b c k s1 s2 step = step_passes x (λ (y : T). KeepsAll b c s1 s2) (BreaksAll b s1 s2) b.log.shape k s1 s2 step

pub passes_reads : {T : Type 0} (x : T) (b c : Parts) (k : ℕ) (s1 s2 : BoardState) → KeepsOrReads b c k s1 s2 (Ok x) → Passes k s1 s2
passes_reads {T} x b c k s1 s2 step = reading_passes x (λ (y : T). KeepsAll b c s1 s2) (KeepsAll b c s1 s2) (BreaksAll b s1 s2) b.log.shape k s1 s2 step

-- what the next step asks
pub may_behind : (a b : Parts) (n : ℕ) (s0 s1 : BoardState) → MayStep a s0 → b.log.shape ≡ a.log.shape → KeepsOrReads {T = Unit {0}} a b n s0 s1 (Ok tt) → MayStep b s1
may_behind a b n s0 s1 may same step = record {
  ready = subst (λ (s : Shape). IsReady s1 s) (sym same) step.ready;
  stands = stands_after a b s0 s1 may.stands same step.came.0;
}

-- ---- merges

-- This many were made, they kept the map, and each lowered the remaining work; each root lowered the level that is due.
pub record Emptying (a : Parts) (s0 : BoardState) (b : Parts) (s : BoardState) : Type 0 where
  pub made : ℕ
  pub step : KeepsOrReads {T = Unit {0}} a b made s0 s (Ok tt)
  pub may : MayStep b s
  pub none_pending : b.log.pending ≡ []
  pub calls : FewCalls made s0 s
  pub left : made + merges_left b ≤ merges_left a
  pub due : roots s + merges_due b ≤ roots s0 + merges_due a
  pub leaves : LeavesValues a b
  pub stays : Stays a b

pub emptying_begin : (a : Parts) (s0 : BoardState) → MayStep a s0 → a.log.pending ≡ [] → Emptying a s0 a s0
emptying_begin a s0 may none = record {
  made = 0;
  step = reading_end tt (λ (x : Unit). KeepsAll a a s0 s0) (KeepsAll a a s0 s0) (BreaksAll a s0 s0) a.log.shape 0 s0 s0 (passes_none s0) may.ready (KeepsAll-none a a s0 s0 refl refl);
  may = may;
  none_pending = none;
  calls = few_none s0;
  left = omega arith;
  due = omega arith;
  leaves = leaves_none a;
  stays = stays_same a a refl;
}

module _ (a : Parts) (s0 : BoardState) (b : Parts) (s : BoardState) (ready : IsReady s0 a.log.shape) (on : Emptying a s0 b s) where
  passes : Passes on.made s0 s
  passes = passes_reads tt a b on.made s0 s on.step

  pub may_empty : roots s0 + merges_left a < 18446744073709551615 → MayEmpty b s
  may_empty few = record {
    may = on.may;
    none_pending = on.none_pending;
    number = (let most = on.step.roots_few in let left = on.left in omega (arith, few, most, left));
  }

  pub emptying_more : (c : Parts) (s1 : BoardState) (x : Stepped) → x ≡ Worked → MergesWhole b c s s1 (Ok x) → Emptying a s0 c s1
  emptying_more c s1 x is once =
      let less = once.less (ap (λ y. Ok y) is) in
      let one = reads_ended x b c 1 s s1 once.step in
      record {
        made = on.made + once.made;
        step = reads_later (Ok tt) a b c on.made 1 (on.made + once.made) s0 s s1 ready on.leaves.same_shape (let some = once.some in omega (arith, some)) on.step.came.0 passes one;
        may = may_behind b c 1 s s1 on.may once.leaves.same_shape one;
        none_pending = once.none_pending;
        calls = few_then on.made once.made s0 s s1 on.calls once.calls;
        left = (let left = on.left in omega (arith, left, less));
        due = (let before = on.due in let after = once.due in omega (arith, before, after));
        leaves = leaves_twice a b c on.leaves once.leaves;
        stays = stays_then a b c on.stays once.stays;
      }

  emptying_end : KeepsOrReads {T = Unit {0}} a b (merges_left a + 1) s0 s (Ok tt)
  emptying_end = reading_within (merges_left a + 1) (omega (arith, on.left)) on.step

  -- if nothing was left to do
  pub emptying_idle : (c : Parts) (s1 : BoardState) (x : Stepped) → x ≡ Idle → MergesWhole b c s s1 (Ok x) → KeepsOrReads {T = Unit {0}} a c (merges_left a + 1) s0 s1 (Ok tt)
  emptying_idle c s1 x is once =
      let idle = once.idle (ap (λ y. Ok y) is) in
      rw (idle.1, idle.2) emptying_end

  pub emptying_failed : (c : Parts) (s1 : BoardState) (e : Fault) → MergesWhole b c s s1 (Err e) → KeepsOrReads {T = Unit {0}} a c (merges_left a + 1) s0 s1 (Err e)
  emptying_failed c s1 e once =
      reads_later (Err e) a b c on.made 1 (merges_left a + 1) s0 s s1 ready on.leaves.same_shape (omega (arith, on.left)) on.step.came.0 passes (reads_failed e b c 1 1 s s1 (omega arith) once.step)

  -- four merges install four roots
  emptying_roots : (s1 : BoardState) → roots s1 ≤ roots s + merges_due b → roots s1 ≤ roots s0 + 4
  emptying_roots s1 few =
      let most = due_most a.log.shape (backlog_of (index_of a)) in
      omega (arith, few, on.due, most)

  pub idle_spends : (c : Parts) (s1 : BoardState) (x : Stepped) → x ≡ Idle → MergesWhole b c s s1 (Ok x) → Spends (merges_left a) 4 s0 s1
  idle_spends c s1 x is once =
      let idle = once.idle (ap (λ y. Ok y) is) in
      record {
        calls = subst (λ (t : BoardState). FewCalls (merges_left a) s0 t) (sym idle.2) (few_within on.made (merges_left a) s0 s (omega (arith, on.left)) on.calls);
        installs = emptying_roots s1 once.installs;
      }

  -- the call that failed was one of a merge
  pub failed_spends : (c : Parts) (s1 : BoardState) (e : Fault) → MergesWhole b c s s1 (Err e) → Spends (merges_left a) 4 s0 s1
  failed_spends c s1 e once =
      record {
        calls = few_within (on.made + once.made) (merges_left a) s0 s1 (omega (arith, on.left, once.within)) (few_then on.made once.made s0 s s1 on.calls once.calls);
        installs = emptying_roots s1 once.installs;
      }

-- ---- a freeze

-- This many steps of it were made, they kept the map, and each lowered the remaining work; none installed a root.
pub record Ongoing (a : Parts) (s0 : BoardState) (b : Parts) (s : BoardState) : Type 0 where
  pub made : ℕ
  pub step : StepKeeps {T = Unit {0}} a b made s0 s (Ok tt)
  pub may : MayStep b s
  pub none_pending : b.log.pending ≡ []
  pub none_merges : has_no_merge (index_of b) ≡ true
  pub calls : FewCalls made s0 s
  pub left : made + freeze_left_of b ≤ freeze_left_of a
  pub no_root : roots s ≡ roots s0
  pub leaves : LeavesValues a b
  pub stays : Stays a b

pub ongoing_begin : (a : Parts) (s0 : BoardState) → MayStep a s0 → a.log.pending ≡ [] → has_no_merge (index_of a) ≡ true → Ongoing a s0 a s0
ongoing_begin a s0 may none none_merges = record {
  made = 0;
  step = none_step a 0 s0 tt may.ready;
  may = may;
  none_pending = none;
  none_merges = none_merges;
  calls = few_none s0;
  left = omega arith;
  no_root = refl;
  leaves = leaves_none a;
  stays = stays_same a a refl;
}

-- it has few steps
freeze_few : (d : Parts) → freeze_left_of d ≤ 7
freeze_few d = let few = installs_most d.log.next in omega (arith, few)

-- ended steps of it, whatever they answered
ended_keeps : {T : Type 0} (x : T) (b c : Parts) (k : ℕ) (s1 s2 : BoardState) → StepKeeps b c k s1 s2 (Ok x) → StepKeeps {T = Unit {0}} b c k s1 s2 (Ok tt)
ended_keeps x b c k s1 s2 step = record { ended = step.ended; broken = tt; works = step.works; stops = tt; stopped = tt; roots_few = step.roots_few; ready = step.ready }

still_none : (x x' : Index) → FreezeMoves x x' → has_no_merge x' ≡ has_no_merge x
still_none x x' moves = λ i. is_between (same_phase i) && same_frozen i
  where
    same_phase : x'.schedule.phase ≡ x.schedule.phase
    same_phase = ap (λ (y : Index). y.schedule.phase) moves.rest

    same_frozen : (length x'.log.frozen.entries == 0) ≡ (length x.log.frozen.entries == 0)
    same_frozen = ap (λ (l : LogState). length l.frozen.entries == 0) moves.log

minus_none : (n : ℕ) → n - 0 ≡ n
minus_none n = omega arith

none_left : (between : Bool) (es : List Entry) → (between && (length es == 0)) ≡ true → es ≡ []
none_left between [] is = refl
none_left true (e ∷ es) is = let same = eqb→eq (length (e ∷ es)) 0 (subst T (sym is) tt) in absurd (omega (arith, same))
none_left false (e ∷ es) is = cc

module _ (a : Parts) (s0 : BoardState) (b : Parts) (s : BoardState) (ready : IsReady s0 a.log.shape) (on : Ongoing a s0 b s) where
  pub may_freeze : roots s0 + whole_freeze < 18446744073709551615 → MayEmpty b s
  may_freeze few = record {
    may = on.may;
    none_pending = on.none_pending;
    number = (
        let most = RootsUpTo-le on.made s0 s on.step.roots_few in
        let least = freeze_few a in
        omega (arith, few, most, on.left, least));
  }

  -- one more, and the second program of its root
  room_left : (n : ℕ) → n ≤ freeze_left_of b + 1 → on.made + n ≤ whole_freeze
  room_left n few = let left = on.left in let most = freeze_few a in omega (arith, left, few, most)

  pub ongoing_more : (c : Parts) (s1 : BoardState) (x : Bool) → x ≡ false → FreezesWhole b c s s1 (Ok x) → Ongoing a s0 c s1
  ongoing_more c s1 x is once =
      let on_with = once.goes_on (ap (λ y. Ok y) is) in
      let moves : FreezeMoves (index_of b) (index_of c) = on_with.1 in
      let single : once.made ≡ 1 = on_with.0 in
      let one = ended_keeps x b c 1 s s1 once.step in
      record {
        made = on.made + 1;
        step = keeps_later (Ok tt) a b c on.made 1 (on.made + 1) s0 s s1 tt ready on.leaves.same_shape (omega arith) on.step one;
        may = may_after b c 1 s s1 tt on.may once.leaves.same_shape one;
        none_pending = once.none_pending;
        none_merges = still_none (index_of b) (index_of c) moves ∙ on.none_merges;
        calls = few_within (on.made + once.made) (on.made + 1) s0 s1 (omega (arith, single)) (few_then on.made once.made s0 s s1 on.calls once.calls);
        left = (let left = on.left in let less = moves.lowers.less in let none = moves.lowers.none_ready in omega (arith, left, less, none));
        no_root = once.no_root (ap (λ y. Ok y) is) ∙ on.no_root;
        leaves = leaves_twice a b c on.leaves once.leaves;
        stays = stays_then a b c on.stays once.stays;
      }

  -- whether it went on, ended or failed; its last step installs a root
  pub ongoing_spends : (c : Parts) (s1 : BoardState) (r : Result Bool Fault) → FreezesWhole b c s s1 r → Spends whole_freeze 1 s0 s1
  ongoing_spends c s1 r once =
      let one : roots s1 ≤ roots s + 1 = once.step.roots_few in
      record {
        calls = few_within (on.made + once.made) whole_freeze s0 s1 (room_left once.made once.within) (few_then on.made once.made s0 s s1 on.calls once.calls);
        installs = omega (arith, one, on.no_root);
      }

  pub ongoing_end : (c : Parts) (s1 : BoardState) (x : Bool) → FreezesWhole b c s s1 (Ok x) → StepKeeps {T = Unit {0}} a c whole_freeze s0 s1 (Ok tt)
  ongoing_end c s1 x once = keeps_later (Ok tt) a b c on.made 1 whole_freeze s0 s s1 tt ready on.leaves.same_shape (room_left 1 (omega arith)) on.step (ended_keeps x b c 1 s s1 once.step)

  pub ongoing_failed : (c : Parts) (s1 : BoardState) (e : Fault) → FreezesWhole b c s s1 (Err e) → StepKeeps {T = Unit {0}} a c whole_freeze s0 s1 (Err e)
  ongoing_failed c s1 e once =
      keeps_later (Err e) a b c on.made 1 whole_freeze s0 s s1 tt ready on.leaves.same_shape (room_left 1 (omega arith)) on.step
      (Step-broken e (λ (x : Bool). KeepsAll b c s s1) (λ (x : Unit). KeepsAll b c s s1) (BreaksAll b s s1) (BreaksAll b s s1) b.log.shape 1 1 s s1 (omega arith) (λ broken. broken) once.step)

  -- ---- after it any key has room

  -- the active buffer is empty, and the newest epoch has all its commits
  module _ (c : Parts) (s1 : BoardState) (x : Bool) (ended : x ≡ true) (once : FreezesWhole b c s s1 (Ok x)) where
    freezes : BeginsEpoch b c
    freezes = once.begins (ap (λ y. Ok y) ended)

    abbrev there : (m : Map) × StandsFor c c.log.shape s1.pages m
    there = stands_after b c s s1 on.may.stands once.leaves.same_shape once.step.ended

    logs : LogOnFlash c.log s1.pages there.1.top there.1.found
    logs = there.1.with.index.logs

    none_active : c.log.active.entries ≡ []
    none_active = ap (λ (t : Table). t.entries) freezes.active ∙ none_left (is_between b.schedule.phase) b.log.frozen.entries on.none_merges

    all_left : left_of c.log.epoch ≡ epoch_commits c.log.shape
    all_left = (λ i. if freezes.takes_more i then epoch_commits (logs.epoch_shape i) - freezes.unused i else 0) ∙ minus_none (epoch_commits c.log.shape)

    any_room : (key : Key) → needs_freeze c.log key ≡ false
    any_room key =
        let was = on.may.stands.1.with.index.logs in
        let capacity : c.log.active.capacity ≡ buffer b.log.shape = ap (λ (t : Table). t.capacity) freezes.active ∙ ap (λ (t : Table). t.capacity) was.frozen_is in
        let some = left_some b.log.shape was.is_shape in
        let left = all_left in
        let positive = block_pages_positive c.log.shape logs.is_shape in
        no_need c.log key none_active (omega (arith, capacity, some)) (omega (arith, left, positive))

    pub room_behind : HasRoom c
    room_behind = record { any = any_room; wide = (λ i. is_tight c.log.shape (length (none_active i)) (all_left i)) ∙ frozen_is_room c.log.shape logs.is_shape }

-- ---- both

-- how much remains to empty the frozen buffer
pub left_most : (d : Parts) (board : BoardState) → MayStep d board → merges_left d ≤ emptying d.log.shape 4
left_most d board may =
    let there = may.stands.1 in
    let most = merging_most d.log.shape (backlog_of (index_of d)) (index_backlog (index_of d) (frames_of d) board.pages there.top there.found there.with.index there.with.placed.size) in
    let none : repeating d.log.shape (backlog_of (index_of d)) ≡ 0 = ap (λ (b : Bool). if b then 1 else 0) there.whole.settles.whole in
    omega (arith, most, none)

-- the numbers of roots last
pub merges_last : (d : Parts) (board : BoardState) → MayStep d board → roots board + room_calls d.log.shape < 18446744073709551615 → roots board + merges_left d < 18446744073709551615
merges_last d board may number =
    let left = left_most d board may in
    omega (arith, number, left)

module _ (a b : Parts) (s0 s1 : BoardState) (may : MayStep a s0) where
  pub freeze_lasts : roots s0 + room_calls a.log.shape < 18446744073709551615
      → (step : KeepsOrReads {T = Unit {0}} a b (merges_left a + 1) s0 s1 (Ok tt)) → roots s1 + whole_freeze < 18446744073709551615
  freeze_lasts number step =
      let left = left_most a s0 may in
      omega (arith, number, left, step.roots_few)

  pub room_made : (r : Result Unit Fault) (c : Parts) (s2 : BoardState) → b.log.shape ≡ a.log.shape
      → KeepsOrReads {T = Unit {0}} a b (merges_left a + 1) s0 s1 (Ok tt) → StepKeeps b c whole_freeze s1 s2 r
      → KeepsOrReads a c (room_calls a.log.shape) s0 s2 r
  room_made r c s2 same step second =
      let left = left_most a s0 may in
      reads_later r a b c (merges_left a + 1) whole_freeze (room_calls a.log.shape) s0 s1 s2 may.ready same (omega (arith, left)) step.came.0 (passes_reads tt a b (merges_left a + 1) s0 s1 step)
      (keeps_reads r b c whole_freeze s1 s2 second)

  pub room_spends : (s2 : BoardState) → Spends (merges_left a) 4 s0 s1 → Spends whole_freeze 1 s1 s2 → Spends (emptying a.log.shape 4 + whole_freeze) room_roots s0 s2
  room_spends s2 first second =
      let left = left_most a s0 may in
      spends_then (merges_left a) whole_freeze (emptying a.log.shape 4 + whole_freeze) 4 1 room_roots s0 s1 s2 (omega (arith, left)) (omega arith) first second

  pub no_room_spends : Spends (merges_left a) 4 s0 s1 → Spends (emptying a.log.shape 4 + whole_freeze) room_roots s0 s1
  no_room_spends first = let left = left_most a s0 may in spends_within (merges_left a) (emptying a.log.shape 4 + whole_freeze) 4 room_roots s0 s1 (omega (arith, left)) (omega arith) first

  pub no_room_made : (e : Fault) → KeepsOrReads {T = Unit {0}} a b (merges_left a + 1) s0 s1 (Err e) → KeepsOrReads {T = Unit {0}} a b (room_calls a.log.shape) s0 s1 (Err e)
  no_room_made e step = let left = left_most a s0 may in reads_failed e a b (merges_left a + 1) (room_calls a.log.shape) s0 s1 (omega (arith, left)) step

-- ---- after a commit

pub none_reads : (d : Parts) (most : ℕ) (board : BoardState) → IsReady board d.log.shape → KeepsOrReads {T = Unit {0}} d d most board board (Ok tt)
none_reads d most board ready = keeps_reads (Ok tt) d d most board board (none_step d most board tt ready)

pub room_committed : (r : Result Unit Fault) (a b c : Parts) (s0 s1 s2 : BoardState) → IsReady s0 a.log.shape
    → b.log.shape ≡ a.log.shape → StepKeeps {T = Unit {0}} a b 0 s0 s1 (Ok tt) → KeepsOrReads b c (room_calls b.log.shape) s1 s2 r
    → KeepsOrReads a c (room_calls a.log.shape) s0 s2 r
room_committed r a b c s0 s1 s2 ready same first second =
    let calls : room_calls b.log.shape ≡ room_calls a.log.shape = ap (λ (s : Shape). room_calls s) same in
    reads_later r a b c 0 (room_calls b.log.shape) (room_calls a.log.shape) s0 s1 s2 ready same (omega (arith, calls)) first.ended (passes_keeps tt a b 0 s0 s1 first) second

pub committed_spends : (a b : Parts) (s0 s1 s2 : BoardState) → b.log.shape ≡ a.log.shape → Spends commit_calls 0 s0 s1
    → Spends (emptying b.log.shape 4 + whole_freeze) room_roots s1 s2 → Spends (room_calls a.log.shape) room_roots s0 s2
committed_spends a b s0 s1 s2 same first second =
    let whole : emptying b.log.shape 4 ≡ emptying a.log.shape 4 = ap (λ (s : Shape). emptying s 4) same in
    spends_then commit_calls (emptying b.log.shape 4 + whole_freeze) (room_calls a.log.shape) 0 room_roots room_roots s0 s1 s2 (omega (arith, whole)) (omega arith) first second

-- the commit failed
pub not_committed : (e : Fault) (a b : Parts) (s0 s1 : BoardState) → StepKeeps {T = Unit {0}} a b 0 s0 s1 (Err e) → KeepsOrReads {T = Unit {0}} a b (room_calls a.log.shape) s0 s1 (Err e)
not_committed e a b s0 s1 step = reads_failed e a b 0 (room_calls a.log.shape) s0 s1 (omega arith) (keeps_reads (Err e) a b 0 s0 s1 step)
