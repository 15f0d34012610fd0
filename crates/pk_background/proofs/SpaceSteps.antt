-- Steps of reclaims inside a Store, until a value has room.
use Rattle.std.proofs.Common.{◌≡◌, ◌⊎◌, inl, inr, ℕ, ◌+◌, ◌-◌, ◌≤◌, ◌<◌, Bool, true, false, [], length, refl, sym, ap, subst, ◌∙◌, arith, nat_le, leb→le, T, Result, Ok, Err}
use Rattle.std.specs.Prelude.{◌&&◌, ◌||◌, OnOk}
use Rattle.pk_base.{specs.Shape.Shape, specs.Shape.data_blocks, specs.Shape.most_pages, proofs.Logic.not_both}
use Rattle.pk_plan.specs.declared.owner.Owner.TheVariants.{Values}
use Rattle.pk_pool.specs.Blocks.{used_by}
use Rattle.pk_nand.{specs.declared.types.Fault.Fault, specs.declared.types.Fault.TheVariants.Reading, specs.declared.types.Fault.TheVariants.Stopped, specs.BoardState.BoardState}
use Rattle.pk_nand.{specs.Calls.IsReady, specs.Calls.last_count, specs.Effects.AtMostOneCall, specs.Effects.NoFault, specs.Effects.OnlyFlash, proofs.Effects.only_then}
use Rattle.pk_model.specs.Wear.{roots}
use Rattle.pk_law_work.{specs.Rest.whole_freeze, specs.Rest.whole_reclaim, specs.Work.emptying, specs.Calls.room_calls, specs.Calls.room_roots}
use Rattle.pk_gc.{specs.declared.course.Phase.Phase, specs.declared.course.Course.Course, specs.State.steps_left, specs.Standing.held_blocks}
use Rattle.pk_gc.{specs.declared.course.Phase.TheVariants.Idle, specs.declared.course.Phase.TheVariants.Copies, specs.Stepping.runs_in}
use Rattle.pk_gc.specs.declared.reclaimed.Reclaimed.TheVariants.{Worked, Ended}
use Rattle.pk_background.{specs.Costs.Spends, specs.Pairing.FailsToFinish, specs.Pairing.FinishesCommit, specs.Pairing.FinishesCommitOr, specs.Pairing.CommitsOr, proofs.Inside.one_call}
use Rattle.pk_background.{specs.Emptying.Came, specs.Emptying.KeepsOrReads, specs.Emptying.OnRunning, specs.Emptying.HasRoom, specs.Emptying.ReadsUpTo, proofs.Pairs.by_half, proofs.Results.either}
use Rattle.pk_background.{proofs.Results.neither}
use Rattle.pk_background.specs.Reclaiming.{MayReclaim, Lessens, LeavesIndex, RunsOn, DoesReclaim, Waits, CannotRead, FailsReclaim, is_tight_for}
use Rattle.pk_background.proofs.ReadSteps.{no_fault_then, halts_behind, reading_within, running_says, running_both, running_ends}
use Rattle.pk_background.specs.Spacing.{MovesOrReads, SameMapAll, StaysSame, where_so, needs, has_moves, space_left, space_roots, Awaits, MaySpace, SpacesOnce}
use Rattle.pk_background.proofs.Callings.{few_none, few_one, few_program, few_within, few_then, spends_still, spends_within}
use Rattle.pk_background.proofs.SameMaps.{same_held, same_finished, breaks_finished, same_unread, breaks_failed, moves_kept, moves_later, moves_none, may_moved, passes_moved, stays_none, stays_both}
use Rattle.pk_background.proofs.Spacing.{left_at, roots_at, AwaitsAt, works_less, works_roots, ends_less, ends_roots}
use Rattle.pk_root.specs.Installing.{repeats_next}
use Rattle.pk_log.specs.State.{LogState}
use Rattle.pk_parts.{specs.Parts.Parts, specs.Parts.commits_in, specs.Parts.is_half, specs.Staying.Stays}
use Rattle.pk_parts.specs.Moves.{BreaksAll, StandsFor, StandsBetween, MayStep, MayCommit, LeavesValues}
use Rattle.pk_call.specs.Calling.{FewCalls}

-- ---- what a step asks

and_right : (x y : Bool) → (x && y) ≡ true → y ≡ true
and_right true y e = e
and_right false y e = cc

pub wanted_full : (d : Parts) (count : ℕ) → needs count d ≡ true → data_blocks d.log.shape - 1 ≤ used_by Values d.pool.states
wanted_full d count wanted = leb→le (data_blocks d.log.shape - 1) (used_by Values d.pool.states)
    (subst T (sym (and_right _ (nat_le (data_blocks d.log.shape - 1) (used_by Values d.pool.states)) wanted)) tt)

turn_at : (p : Phase) (d : Parts) (count : ℕ) → AwaitsAt p count d → used_by Values d.pool.states ≤ data_blocks d.log.shape - 1 + length (held_blocks p)
    → (runs_in p ≡ true) ⊎ (used_by Values d.pool.states ≡ data_blocks d.log.shape - 1)
turn_at p d count (inl runs) few = inl runs
turn_at Idle d count (inr wanted) few = let full = wanted_full d count wanted in inr (omega (arith, full, few))
turn_at p d count (inr wanted) few = inl refl

some_at : (p : Phase) (d : Parts) (count : ℕ) → AwaitsAt p count d → 1 ≤ left_at p count d
some_at Idle d count (inl runs) = absurd (not_both false runs refl)
some_at Idle d count (inr wanted) =
    let steps : where_so (needs count d) (whole_reclaim d.log.shape - 1) ≡ whole_reclaim d.log.shape - 1 = ap (λ x. where_so x (whole_reclaim d.log.shape - 1)) wanted in omega (arith, steps)
some_at p d count awaits = omega arith

commits_run : (p : Phase) → commits_in p ≡ true → runs_in p ≡ true
commits_run Idle e = absurd (not_both false e refl)
commits_run p e = refl

reads_more : (n k : ℕ) (a b c : BoardState) → n ≤ k → ReadsUpTo n a b → c.reads ≡ b.reads → ReadsUpTo k a c
reads_more n k a b c less r same = record { up = (let up = r.up in omega (arith, up, same)); few = (let few = r.few in omega (arith, few, same, less)) }

-- ---- what is unchanged in a step

pub leaves_stay : (b c : Parts) → LeavesIndex b c → StaysSame b c
leaves_stay b c leaves =
    subst (λ (d : Parts). StaysSame b d) (sym leaves) (record { frames = refl; stopped = refl; same_shape = refl; fresh = record { stays = λ e. e; begun = inl refl } })

pub unread_stays : (b c : Parts) (s0 s1 : BoardState) → CannotRead b c s0 s1 → StaysSame b c
unread_stays b c s0 s1 unread =
    subst (λ (d : Parts). StaysSame b d) (sym unread.rest) (record { frames = refl; stopped = refl; same_shape = refl; fresh = record { stays = λ e. e; begun = inl refl } })

pub values_stay : (b c : Parts) → LeavesValues b c → Stays b c → StaysSame b c
values_stay b c leaves stays = record { frames = leaves.frames; stopped = ap (λ (d : Parts). d.stopped) leaves.rest; same_shape = leaves.same_shape; fresh = stays.fresh }

-- ---- one step

module _ {count : ℕ} {b : Parts} {s0 : BoardState} (may : MaySpace count b s0) (most : count ≤ most_pages b.log.shape) (awaits : Awaits count b) where
  abbrev it : StandsFor b b.log.shape s0.pages may.may.stands.0
  it = may.may.stands.1

  pub may_reclaim : MayReclaim b s0
  may_reclaim = record { may = may.may; none_pending = may.none_pending; turn = turn_at b.reclaim.phase b count awaits it.with.placed.few }

  module _ (c : Parts) (s1 : BoardState) (none : c.log.pending ≡ []) (same_roots : roots s1 ≡ roots s0)
      (calls : AtMostOneCall s0 s1) (rest : OnlyFlash s0 s1) (ready : IsReady s1 b.log.shape) (reads : s0.reads ≤ last_count) where
    one_spent : Spends 1 (space_roots count b) s0 s1
    one_spent = spends_still 1 (space_roots count b) s0 s1 (few_one s0 s1 calls) same_roots

    same_shape : Lessens b c s0 s1 → c.log.shape ≡ b.log.shape
    same_shape made = ap (λ (d : Parts). d.log.shape) made.leaves

    -- no pair of a root is half made in it
    stays_whole : Lessens b c s0 s1 → commits_in c.reclaim.phase ≡ false → is_half c ≡ false
    stays_whole made moves =
        let next : repeats_next c.log.next ≡ false = ap (λ (d : Parts). repeats_next d.log.next) made.leaves ∙ it.whole.settles.whole in
        ap (λ (x : Bool). x || commits_in c.reclaim.phase) next ∙ moves

    stepped : NoFault s0 s1 → Lessens b c s0 s1 → is_half c ≡ false → 1 + space_left count c ≤ space_left count b → space_roots count c ≤ space_roots count b → SpacesOnce count b c s0 s1 (Ok tt)
    stepped sound made whole less roots_less = record {
      made = 1;
      some = omega arith;
      step = record {
        came = (same_held b c s0 s1 none whole made.holds, sound);
        rest = rest;
        reads = one_call s0 s1 reads calls;
        roots_few = omega (arith, same_roots);
        ready = ready;
      };
      spends = one_spent;
      within = omega (arith, less);
      left = less;
      roots_left = omega (arith, same_roots, roots_less);
      none_pending = none;
      stays = leaves_stay b c made.leaves;
    }

    -- ---- a step after which a reclaim runs

    module _ (sound : NoFault s0 s1) (made : DoesReclaim b c s0 s1 Worked) where
      first_less : 1 + space_left count c ≤ space_left count b
      first_less = works_less count b c (same_shape made.0) most b.reclaim.phase c.reclaim.phase awaits made.0.falls made.1

      first_roots : space_roots count c ≤ space_roots count b
      first_roots = works_roots count b c (same_shape made.0) most b.reclaim.phase c.reclaim.phase awaits made.0.falls made.1

      most_then : count ≤ most_pages c.log.shape
      most_then = subst (λ (s : Shape). count ≤ most_pages s) (sym (same_shape made.0)) most

      -- no commit is half made
      worked : commits_in c.reclaim.phase ≡ false → SpacesOnce count b c s0 s1 (Ok tt)
      worked moves = stepped sound made.0 (stays_whole made.0 moves) first_less first_roots

      pub may_end : MayCommit c s1
      may_end =
          let there = made.0.holds b.log.shape may.may.stands.0 it in
          record {
            ready = subst (λ (s : Shape). IsReady s1 s) (sym (same_shape made.0)) ready;
            stands = (may.may.stands.0, subst (λ (s : Shape). StandsBetween c s s1.pages may.may.stands.0) (sym (same_shape made.0)) there.stands);
          }

      module _ (e : Parts) (s2 : BoardState) where
        -- the second program of the commit was made
        committed : FinishesCommit c e s1 s2 → SpacesOnce count b e s0 s2 (Ok tt)
        committed fin =
            let f = fin.finishes in
            let shape_e : e.log.shape ≡ c.log.shape = ap (λ (l : LogState). l.shape) f.log in
            let runs : AwaitsAt c.reclaim.phase count c = inl (ap runs_in fin.was) in
            let on = subst (λ (p : Phase). RunsOn p c e) (sym fin.phase) fin.room in
            let first = first_less in
            let second : 1 + space_left count e ≤ space_left count c = works_less count c e shape_e most_then c.reclaim.phase e.reclaim.phase runs fin.falls on in
            let one = first_roots in
            let two : space_roots count e ≤ space_roots count c = works_roots count c e shape_e most_then c.reclaim.phase e.reclaim.phase runs fin.falls on in
            let same = f.same_roots in
            record {
              made = 2;
              some = omega arith;
              step = record {
                came = (same_finished b c s0 s1 s2 may.may.ready none made.0.holds e f, no_fault_then s0 s1 s2 sound f.works.no_fault);
                rest = only_then s0 s1 s2 rest f.works.rest;
                reads = reads_more 1 2 s0 s1 s2 (omega arith) (one_call s0 s1 reads calls) f.works.reads;
                roots_few = omega (arith, same, same_roots);
                ready = subst (λ (s : Shape). IsReady s2 s) (same_shape made.0) f.ready;
              };
              spends = spends_still 2 (space_roots count b) s0 s2 (few_then 1 1 s0 s1 s2 (few_one s0 s1 calls) (few_program s1 s2 f.program)) (same ∙ same_roots);
              within = omega (arith, first, second);
              left = omega (arith, first, second);
              roots_left = omega (arith, same, same_roots, one, two);
              none_pending = ap (λ (l : LogState). l.pending) f.log ∙ none;
              stays = stays_both b c e (leaves_stay b c made.0.leaves) (leaves_stay c e fin.leaves);
            }

        -- or it failed
        uncommitted : commits_in c.reclaim.phase ≡ true → FailsToFinish c s1 s2 → SpacesOnce count b e s0 s2 (Err Stopped)
        uncommitted moves fails =
            let first = first_less in
            let some = some_at c.reclaim.phase c count (inl (commits_run c.reclaim.phase moves)) in
            let fewer = fails.no_root in
            record {
              made = 2;
              some = omega arith;
              step = record {
                came = (
                  breaks_finished b c s0 s1 s2 may.may.ready none made.0.holds fails,
                  halts_behind s0 s1 s2 sound (record { flash = fails.stops.flash; stop = fails.stops.stop; read = fails.stops.read }),
                );
                rest = only_then s0 s1 s2 rest fails.stops.rest;
                reads = reads_more 1 2 s0 s1 s2 (omega arith) (one_call s0 s1 reads calls) fails.stops.reads;
                roots_few = omega (arith, fewer, same_roots);
                ready = subst (λ (s : Shape). IsReady s2 s) (same_shape made.0) fails.ready;
              };
              spends = record {
                calls = few_then 1 1 s0 s1 s2 (few_one s0 s1 calls) (few_program s1 s2 fails.program);
                installs = omega (arith, fewer, same_roots);
              };
              within = omega (arith, first, some);
              left = tt;
              roots_left = tt;
              none_pending = tt;
              stays = tt;
            }

        ended_so : (r : Result Unit Fault) → commits_in c.reclaim.phase ≡ true → FinishesCommitOr c e s1 s2 r → SpacesOnce count b e s0 s2 r
        ended_so (Ok u) moves fin = committed fin
        ended_so (Err f) moves fails = rw fails.0 (uncommitted moves fails.2)

        pub worked_then : (r : Result Unit Fault) → CommitsOr c e s1 s2 r → SpacesOnce count b e s0 s2 r
        worked_then r ends =
            by_half (commits_in c.reclaim.phase) c e s1 s2 r (λ x s q. SpacesOnce count b x s0 s q) (λ moves. ended_so r moves (ends.half moves)) ends.whole worked

    pub ended : NoFault s0 s1 → DoesReclaim b c s0 s1 Ended → SpacesOnce count b c s0 s1 (Ok tt)
    ended sound made =
        let same = ap (λ (d : Parts). d.log.shape) made.0.leaves in
        let less = ends_less count b c same most b.reclaim.phase awaits it.with.reclaim.full made.1.given made.1.from in
        let roots_less = ends_roots count b c same most b.reclaim.phase awaits it.with.reclaim.full made.1.given made.1.from in
        stepped sound made.0 (stays_whole made.0 (ap commits_in made.1.idle)) (subst (λ (p : Phase). 1 + left_at p count c ≤ space_left count b) (sym made.1.idle) less)
        (subst (λ (p : Phase). roots_at p count c ≤ space_roots count b) (sym made.1.idle) roots_less)

    failed : (e : Fault) → Came {T = Unit {0}} (λ (u : Unit). SameMapAll b c s0 s1) (SameMapAll b c s0 s1) (BreaksAll b s0 s1) s0 s1 (Err e)
        → OnRunning {T = Unit {0}} (StaysSame b c) (Err e) → OnRunning {T = Unit {0}} (c.log.pending ≡ []) (Err e) → SpacesOnce count b c s0 s1 (Err e)
    failed e came stays none_pending = record {
      made = 1;
      some = omega arith;
      step = record { came = came; rest = rest; reads = one_call s0 s1 reads calls; roots_few = omega (arith, same_roots); ready = ready };
      spends = one_spent;
      within = some_at b.reclaim.phase b count awaits;
      left = tt;
      roots_left = tt;
      none_pending = none_pending;
      stays = stays;
    }

    pub space_failed : (e : Fault) → s0.read_faults ≤ last_count → FailsReclaim b c s0 s1 e → SpacesOnce count b c s0 s1 (Err e)
    space_failed Reading few is =
        failed Reading
        (same_unread b c s0 s1 is, record { read = is.read; up = omega (arith, is.read, few); flash = is.flash; no_stop = ap (λ (s : BoardState). s.stop_faults) is.only })
        (unread_stays b c s0 s1 is) none
    space_failed Stopped few is = failed Stopped (breaks_failed b s0 s1 is.0, record { flash = is.1.flash; stop = is.1.stop; read = is.1.read }) tt tt

  -- ---- the moves find no room

  calls_left : (c : Course) → is_tight_for b ≡ true → left_at (Copies c) count b ≡ steps_left b.log.shape b.values.live.heads c + room_calls b.log.shape
  calls_left c tight = ap (λ x. steps_left b.log.shape b.values.live.heads c + where_so x (room_calls b.log.shape)) tight

  pub waits_number : (c : Parts) (s1 : BoardState) → Waits b c s0 s1 → roots s1 + room_calls c.log.shape < 18446744073709551615
  waits_number c s1 waits =
      let here : space_left count b ≡ left_at (Copies waits.course) count b = ap (λ p. left_at p count b) waits.copies in
      let calls = calls_left waits.course waits.tight in
      let few : roots s0 + room_calls b.log.shape < 18446744073709551615 = omega (arith, may.number, here, calls) in
      rw (waits.same, waits.board) few

  pub waits_may : (c : Parts) (s1 : BoardState) → Waits b c s0 s1 → MayStep c s1
  waits_may c s1 waits = rw (waits.same, waits.board) may.may

  module _ (course : Course) (copies : b.reclaim.phase ≡ Copies course) (tight : is_tight_for b ≡ true) (d : Parts) (s2 : BoardState) where
    less_frozen : LeavesValues b d → is_tight_for d ≡ false → room_calls b.log.shape + space_left count d ≤ space_left count b
    less_frozen leaves wide =
        let there : d.reclaim.phase ≡ Copies course = ap (λ (x : Parts). x.reclaim.phase) leaves.rest ∙ copies in
        let before : space_left count b ≡ left_at (Copies course) count b = ap (λ p. left_at p count b) copies in
        let after : space_left count d ≡ left_at (Copies course) count d = ap (λ p. left_at p count d) there in
        let steps : steps_left d.log.shape d.values.live.heads course ≡ steps_left b.log.shape b.values.live.heads course = λ i. steps_left
        (leaves.same_shape i) (ap (λ (x : Parts). x.values.live.heads) leaves.rest i) course in
        let none : where_so (true && is_tight_for d) (room_calls d.log.shape) ≡ 0 = ap (λ x. where_so x (room_calls d.log.shape)) wide in
        let calls = calls_left course tight in
        omega (arith, before, after, steps, none, calls)

    room_within : room_calls b.log.shape ≤ space_left count b
    room_within =
        let before : space_left count b ≡ left_at (Copies course) count b = ap (λ p. left_at p count b) copies in
        let calls = calls_left course tight in
        omega (arith, before, calls)

    -- the roots of that room are those that remained
    roots_before : space_roots count b ≡ room_roots
    roots_before = ap (λ p. roots_at p count b) copies ∙ ap (λ x. where_so x room_roots) tight

    room_spent : Spends (room_calls b.log.shape) room_roots s0 s2 → Spends (room_calls b.log.shape) (space_roots count b) s0 s2
    room_spent spends = subst (λ (n : ℕ). Spends (room_calls b.log.shape) n s0 s2) (sym roots_before) spends

    roots_frozen : LeavesValues b d → is_tight_for d ≡ false → roots s2 ≤ roots s0 + room_roots → roots s2 + space_roots count d ≤ roots s0 + space_roots count b
    roots_frozen leaves wide few =
        let there : d.reclaim.phase ≡ Copies course = ap (λ (x : Parts). x.reclaim.phase) leaves.rest ∙ copies in
        let none : space_roots count d ≡ 0 = ap (λ p. roots_at p count d) there ∙ ap (λ x. where_so x room_roots) wide in
        let all = roots_before in
        omega (arith, few, none, all)

    frozen_once : (r : Result Unit Fault) → KeepsOrReads b d (room_calls b.log.shape) s0 s2 r → Spends (room_calls b.log.shape) room_roots s0 s2
        → OnOk r (HasRoom d) → OnRunning (d.log.pending ≡ []) r → OnRunning (LeavesValues b d) r → OnRunning (Stays b d) r
        → SpacesOnce count b d s0 s2 r
    frozen_once r step spends room none leaves stays = record {
      made = room_calls b.log.shape;
      some = omega arith;
      step = moves_kept r b d (room_calls b.log.shape) s0 s2 step;
      spends = room_spent spends;
      within = room_within;
      left = running_ends (LeavesValues b d) (HasRoom d) (room_calls b.log.shape + space_left count d ≤ space_left count b) r (λ is has. less_frozen is has.wide) leaves room;
      roots_left = running_ends (LeavesValues b d) (HasRoom d) (roots s2 + space_roots count d ≤ roots s0 + space_roots count b) r
          (λ is has. roots_frozen is has.wide spends.installs) leaves room;
      none_pending = none;
      stays = running_says (LeavesValues b d × Stays b d) (StaysSame b d) r (λ both. values_stay b d both.0 both.1) (running_both (LeavesValues b d) (Stays b d) r leaves stays);
    }

  pub space_frozen : (c d : Parts) (s1 s2 : BoardState) (r : Result Unit Fault) → Waits b c s0 s1
      → KeepsOrReads c d (room_calls c.log.shape) s1 s2 r → Spends (emptying c.log.shape 4 + whole_freeze) room_roots s1 s2 → OnOk r (HasRoom d)
      → OnRunning (d.log.pending ≡ []) r → OnRunning (LeavesValues c d) r → OnRunning (Stays c d) r → SpacesOnce count b d s0 s2 r
  space_frozen c d s1 s2 r waits step spends room none leaves stays =
      frozen_once waits.course waits.copies waits.tight d s2 r (rw (waits.same, waits.board) at step)
      (spends_within (emptying b.log.shape 4 + whole_freeze) (room_calls b.log.shape) room_roots room_roots s0 s2 (omega arith) (omega arith) (rw (waits.same, waits.board) at spends)) room none
      (rw waits.same at leaves) (rw waits.same at stays)

-- ---- several steps

pub where_most : (b : Bool) (n : ℕ) → where_so b n ≤ n
where_most true n = omega arith
where_most false n = omega arith

-- This many calls were made, the map is kept, and less remains, of roots too.
pub record Spacing (count : ℕ) (a : Parts) (s0 : BoardState) (b : Parts) (s : BoardState) : Type 0 where
  pub made : ℕ
  pub step : MovesOrReads {T = Unit {0}} a b made s0 s (Ok tt)
  pub may : MayStep b s
  pub none_pending : b.log.pending ≡ []
  pub calls : FewCalls made s0 s
  pub left : made + space_left count b ≤ space_left count a
  pub roots_left : roots s + space_roots count b ≤ roots s0 + space_roots count a
  pub stays : StaysSame a b

pub spacing_begin : (count : ℕ) (a : Parts) (s0 : BoardState) → MaySpace count a s0 → Spacing count a s0 a s0
spacing_begin count a s0 may = record {
  made = 0;
  step = moves_none a s0 may.may.ready;
  may = may.may;
  none_pending = may.none_pending;
  calls = few_none s0;
  left = omega arith;
  roots_left = omega arith;
  stays = stays_none a;
}

module _ {count : ℕ} {a : Parts} {s0 : BoardState} {b : Parts} {s : BoardState} (ready : IsReady s0 a.log.shape) (on : Spacing count a s0 b s) where
  pub may_space : MaySpace count a s0 → MaySpace count b s
  may_space may = record {
    may = on.may;
    none_pending = on.none_pending;
    number = (let few = may.number in let most = on.step.roots_few in let left = on.left in omega (arith, few, most, left));
  }

  pub most_still : count ≤ most_pages a.log.shape → count ≤ most_pages b.log.shape
  most_still most = subst (λ (x : Shape). count ≤ most_pages x) (sym on.stays.same_shape) most

  pub spacing_more : (c : Parts) (s1 : BoardState) → SpacesOnce count b c s s1 (Ok tt) → Spacing count a s0 c s1
  spacing_more c s1 once = record {
    made = on.made + once.made;
    step = moves_later (Ok tt) a b c on.made once.made (on.made + once.made) s0 s s1 ready on.stays.same_shape (omega arith) on.step.came.0 (passes_moved a b on.made s0 s on.step) once.step;
    may = may_moved b c once.made s s1 on.may once.stays.same_shape once.step;
    none_pending = once.none_pending;
    calls = few_then on.made once.made s0 s s1 on.calls once.spends.calls;
    left = (let first = on.left in let second = once.left in omega (arith, first, second));
    roots_left = (let first = on.roots_left in let second = once.roots_left in omega (arith, first, second));
    stays = stays_both a b c on.stays once.stays;
  }

  pub less_spacing : (c : Parts) (s1 : BoardState) → SpacesOnce count b c s s1 (Ok tt) → space_left count c < space_left count b
  less_spacing c s1 once = let some = once.some in let left = once.left in omega (arith, some, left)

  -- the roots of one room at most
  spacing_roots : (s1 : BoardState) → roots s1 ≤ roots s + space_roots count b → roots s1 ≤ roots s0 + room_roots
  spacing_roots s1 few =
      let most = where_most (has_moves a.reclaim.phase count a && is_tight_for a) room_roots in
      omega (arith, few, on.roots_left, most)

  pub spacing_end : MovesOrReads {T = Unit {0}} a b (space_left count a) s0 s (Ok tt)
  spacing_end = reading_within (space_left count a) (omega (arith, on.left)) on.step

  pub end_spends : Spends (space_left count a) room_roots s0 s
  end_spends =
      record { calls = few_within on.made (space_left count a) s0 s (omega (arith, on.left)) on.calls; installs = spacing_roots s (omega arith) }

  pub broken_spends : (e : Fault) (c : Parts) (s1 : BoardState) → SpacesOnce count b c s s1 (Err e) → Spends (space_left count a) room_roots s0 s1
  broken_spends e c s1 once =
      record {
        calls = few_within (on.made + once.made) (space_left count a) s0 s1 (omega (arith, on.left, once.within)) (few_then on.made once.made s0 s s1 on.calls once.spends.calls);
        installs = spacing_roots s1 once.spends.installs;
      }

  pub spacing_failed : (e : Fault) (c : Parts) (s1 : BoardState) → SpacesOnce count b c s s1 (Err e) → MovesOrReads {T = Unit {0}} a c (space_left count a) s0 s1 (Err e)
  spacing_failed e c s1 once =
      let left = on.left in
      let within = once.within in
      moves_later (Err e) a b c on.made once.made (space_left count a) s0 s s1 ready on.stays.same_shape (omega (arith, left, within)) on.step.came.0 (passes_moved a b on.made s0 s on.step) once.step

  pub failed_none : (e : Fault) (c : Parts) (s1 : BoardState) → SpacesOnce count b c s s1 (Err e) → OnRunning {T = Unit {0}} (c.log.pending ≡ []) (Err e)
  failed_none e c s1 once = once.none_pending

  pub failed_stays : (e : Fault) (c : Parts) (s1 : BoardState) → SpacesOnce count b c s s1 (Err e) → OnRunning {T = Unit {0}} (StaysSame a c) (Err e)
  failed_stays Reading c s1 once = stays_both a b c on.stays once.stays
  failed_stays Stopped c s1 once = tt

-- ---- whether there is more to do

pub awaits_is : (count : ℕ) (d : Parts) → (runs_in d.reclaim.phase || needs count d) ≡ true → Awaits count d
awaits_is count d e = either (runs_in d.reclaim.phase) (needs count d) e

pub room_is : (count : ℕ) (d : Parts) → (runs_in d.reclaim.phase || needs count d) ≡ false → needs count d ≡ false
room_is count d e = (neither (runs_in d.reclaim.phase) (needs count d) e).1
