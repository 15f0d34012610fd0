-- A background step of the jobs, by the drive and its board.
use Rattle.std.proofs.Common.{◌≡◌, inl, inr, ℕ, refl, sym, ap, subst, ◌∙◌, arith, Bool, true, false, List, [], ◌∷◌, length, Some, Ok}
use Rattle.std.{specs.Prelude.◌&&◌, specs.Prelude.◌==◌, specs.Prelude.not, specs.Prelude.map, specs.Prelude.count_by, specs.Prelude.slice_get, proofs.lemmas.Bool.eq-eqb, proofs.lemmas.Bool.eqb-true}
use Rattle.pk_base.{specs.Shape.Shape, specs.Firsts.firsts, specs.Page.Flash, specs.Merge.next_merge, proofs.Logic.not_both}
use Rattle.pk_rootfmt.specs.Root.{Root}
use Rattle.pk_nand.{specs.BoardState.BoardState, specs.Calls.IsReady, specs.Effects.AtMostOneCall, specs.Effects.made_no_call, specs.Effects.made_erase, proofs.Effects.works_erase}
use Rattle.pk_nand.{proofs.Effects.stops_erase}
use Rattle.pk_law_work.proofs.Targets.{next_told}
use Rattle.pk_pool.{specs.Blocks.PoolOnFlash, specs.Blocks.IsShared, specs.Blocks.IsOwned, specs.Taking.ErasesOne, specs.Taking.ErasesNone, specs.Taking.FailsToErase}
use Rattle.pk_pool.{specs.Blocks.is_free, proofs.Sharing.none_free}
use Rattle.pk_compact.specs.FreezeSteps.{taken_by}
use Rattle.pk_model.{specs.Found.Found, specs.Reading.reading, specs.Crashes.CrashFinds, specs.Crashes.background}
use Rattle.pk_call.{specs.Sight.IsIdle, specs.declared.types.Ticked.TheVariants.Worked, specs.declared.types.Ticked.TheVariants.Idle, specs.declared.types.Ticked.TheVariants.Fault}
use Rattle.pk_schedule.{specs.declared.phase.Phase.Phase, specs.Index.Index, specs.Index.MergeStands, specs.Index.merging, specs.Steps.has_no_merge, specs.Steps.is_between}
use Rattle.pk_schedule.specs.declared.phase.Phase.TheVariants.{Idle as NoMerge, Running, Ready}
use Rattle.pk_gc.specs.Stepping.{runs_in}
use Rattle.pk_parts.{specs.Parts.Parts, specs.Parts.index_of, specs.Parts.sight_of, specs.Parts.is_half, specs.Parts.is_reclaim_due, proofs.Halves.whole_of, proofs.Unchanging.own_whole}
use Rattle.pk_parts.{specs.Agreeing.DriveOnFlashWith, specs.Agreeing.IsWhole, proofs.Staying.stays_same, proofs.Staying.stays_frees, proofs.Staying.step_stays}
use Rattle.pk_background.{specs.Filling.lacks_frames, specs.Ticking.MayTick, specs.Ticking.Advances, specs.Ticking.WantsReclaim, specs.Ticking.wants_reclaim}
use Rattle.pk_background.proofs.Ticking.{erase_holds, erase_broken, busy_spare, some_free}
use Rattle.pk_background.proofs.Ordering.{erase_due, none_due, makes_erase}
use Rattle.pk_background.{proofs.Results.either, proofs.Results.neither, proofs.ReadSteps.read_cuts, proofs.TickSteps.made_advances, proofs.TickSteps.stop_advances}

-- ---- answers

idle_fine : Idle ≡ Fault false → ⊥
idle_fine e = cc

idle_worked : Idle ≡ Worked → ⊥
idle_worked e = cc

-- ---- if a merge runs, or something is frozen

level_some : (shape : Shape) (frozen : ℕ) (runs : List ℕ) (level : ℕ) → next_merge shape frozen runs ≡ Some level → level ≡ 0 → ⊥
level_some shape frozen runs level due none = elim (next_told shape frozen runs level due).1 [
  | inl one ↦ omega (arith, one, none)
  | inr (inl two) ↦ (let e = two.0 in omega (arith, e, none))
  | inr (inr (inl three)) ↦ (let e = three.0 in omega (arith, e, none))
  | inr (inr (inr four)) ↦ (let e = four.0 in omega (arith, e, none))
]

merge_busy : (p : Phase) (x : Index) (flash : Flash) (root : Root) (found : Found) → MergeStands p x flash root found
    → is_between p && (length x.log.frozen.entries == 0) ≡ false → merging p ≡ 0 → length x.log.frozen.entries ≡ 0 → ⊥
merge_busy NoMerge x flash root found stands busy none empty = not_both true refl (sym (eq-eqb (length x.log.frozen.entries) 0 empty) ∙ busy)
merge_busy (Running level) x flash root found stands busy none empty = level_some x.log.shape (length (firsts found.older)) (map length found.runs) level stands.into.due none
merge_busy (Ready level) x flash root found stands busy none empty = level_some x.log.shape (length (firsts found.older)) (map length found.runs) level stands.into.due none

pub not_none : (b : Bool) → not b ≡ true → b ≡ false
not_none true e = absurd (not_both false e refl)
not_none false e = refl

pub wants_is : (d : Parts) → wants_reclaim d ≡ true → WantsReclaim d
wants_is d e = either (runs_in d.reclaim.phase) (is_reclaim_due d) e

none_there : (bs : List ℕ) → length bs ≡ 0 → bs ≡ []
none_there [] e = refl
none_there (b ∷ bs) e = absurd (omega (arith, e))

-- ---- a step

module _ (d : Parts) (old new : BoardState) (m : MayTick d old) (none_half : is_half d ≡ false) where
  whole : IsWhole d
  whole = whole_of d old.pages m.agrees.top m.agrees.found m.agrees.without m.agrees.course none_half

  with : DriveOnFlashWith d d.log.shape old.pages m.agrees.top m.agrees.found m.agrees.without m.agrees.all
  with = own_whole d old m.agrees whole

  no_pair : {X : Type 0} → is_half d ≡ true → X
  no_pair half = absurd (not_both (is_half d) half none_half)

  -- it is not idle if a merge runs, or something is frozen
  pub busy_merge : has_no_merge (index_of d) ≡ false → IsIdle d.log.shape old.pages (sight_of d) → ⊥
  busy_merge busy idle = merge_busy d.schedule.phase (index_of d) old.pages m.agrees.top.1 m.agrees.found with.index.merge busy idle.no_merge idle.none_frozen

  -- none does by what is seen
  pub merged_seen : merging d.schedule.phase ≡ 0 → length d.log.frozen.entries ≡ 0 → has_no_merge (index_of d) ≡ true
  merged_seen none empty = by (has_no_merge (index_of d)) refl
    where
      by : (b : Bool) → has_no_merge (index_of d) ≡ b → has_no_merge (index_of d) ≡ true
      by true e = e
      by false busy = absurd (merge_busy d.schedule.phase (index_of d) old.pages m.agrees.top.1 m.agrees.found with.index.merge busy none empty)

  -- ---- an erase

  pub erase_advances : (d' : Parts) → ErasesOne d.pool old d'.pool new → d' ≡ record d { pool = d'.pool } → IsShared d.pool.shape d.pool.states → IsReady new d.pool.shape
      → ((b : ℕ) → IsOwned d.pool b → slice_get d'.pool.states b ≡ slice_get d.pool.states b) → PoolOnFlash d'.pool new.pages
      → has_no_merge (index_of d) ≡ true → (length (taken_by d.schedule.freeze) == 0) ≡ true → wants_reclaim d ≡ false → lacks_frames d ≡ false → Advances d d' old new Worked
  erase_advances d' one rest shared ready owned fits merged frozen reclaimed filled =
      let own_ready = subst (λ s. IsReady new s) with.placed.shape_is ready in
      let is = erase_holds d old new m.agrees whole one.block one.lowest.here shared one.erase own_ready d'.pool one.marked fits owned m.none in
      let works = works_erase old new one.block one.erase in
      let few = some_free d.pool.states one.block one.lowest.here in
      subst (λ (e : Parts). Advances d e old new Worked) (sym rest)
      (made_advances d old m (record d { pool = d'.pool }) new own_ready (subst (λ b. AtMostOneCall old b) (sym one.erase) (made_erase (refl, refl, refl))) works.rest is.2 no_pair no_pair no_pair
      is.1 (busy_spare d old m.agrees shared one.block one.lowest.here) m.none is.0 works.no_fault refl refl
      (stays_frees d (record d { pool = d'.pool }) (step_stays d (record d { pool = d'.pool }) old new (inl one) refl)) (omega arith) (inl refl) is.3
      (makes_erase d (record d { pool = d'.pool }) old new none_half merged frozen reclaimed filled few (record { erases = one; rest = refl })))

  pub idle_advances : (d' : Parts) → ErasesNone d.pool old d'.pool new → d' ≡ record d { pool = d'.pool } → has_no_merge (index_of d) ≡ true
      → (length (taken_by d.schedule.freeze) == 0) ≡ true → wants_reclaim d ≡ false → lacks_frames d ≡ false → Advances d d' old new Idle
  idle_advances d' none rest merged frozen reclaimed filled =
      let same : d' ≡ d = rest ∙ ap (λ p. record d { pool = p }) none.kept in
      subst (λ (e : Parts). Advances d e old new Idle) (sym same)
      (subst (λ (b : BoardState). Advances d d old b Idle) (sym none.same) (record {
        ticks = record {
          stands = λ _ shape terms x st. st;
          cuts = λ _ shape terms x st. read_cuts shape (CrashFinds shape background old.pages x) old old refl (refl, subst (λ p. reading shape old.pages p ≡ Ok x) m.none st.map_is);
          cuts_stopped = λ e. absurd (not_both false e refl);
          idle_rests = λ _. (refl, refl);
          unmade = λ e. absurd (idle_fine e);
          grows = λ _. inl refl;
          rest = refl;
          calls = made_no_call (refl, refl, refl);
          unread = λ e. absurd (idle_fine e);
          up = omega arith;
          flash_up = λ _. omega arith;
          worked = λ e. absurd (idle_worked e);
          stop = λ e. absurd (not_both false e refl);
          no_stop = λ _. refl;
          installs = omega arith;
        };
        stops = m.unstopped;
        none = m.none;
        agrees = λ _. m.agrees;
        moves = λ _. stays_frees d d (stays_same d d refl);
        repeats = no_pair;
        pair = no_pair;
        finishes = no_pair;
        begins = λ _. inl refl;
        number = λ _. omega arith;
        lowers = λ e. absurd (idle_worked e);
        idle = λ _. (
          record {
            whole = none_half;
            no_merge = merged;
            no_freeze = none_there (taken_by d.schedule.freeze) (eqb-true (length (taken_by d.schedule.freeze)) 0 frozen);
            no_reclaim = (neither (runs_in d.reclaim.phase) (is_reclaim_due d) reclaimed).0;
            none_due = (neither (runs_in d.reclaim.phase) (is_reclaim_due d) reclaimed).1;
            all_filled = filled;
            none_free = none.none_free;
          },
          refl,
        );
        busy = λ _. refl;
        order = record {
          made = λ e. absurd (idle_worked e);
          idle = (λ _. none_due d none_half merged frozen reclaimed filled (eq-eqb (count_by is_free d.pool.states) 0 (none_free d.pool.states none.none_free)), λ _. refl);
        };
      }))

  pub erase_failed : (d' : Parts) → FailsToErase d.pool old new → d' ≡ record d { stopped = true } → IsShared d.pool.shape d.pool.states → IsReady new d.pool.shape
      → has_no_merge (index_of d) ≡ true → (length (taken_by d.schedule.freeze) == 0) ≡ true → wants_reclaim d ≡ false → lacks_frames d ≡ false → Advances d d' old new (Fault true)
  erase_failed d' failed rest shared ready merged frozen reclaimed filled =
      let is = erase_broken d old new m.agrees whole failed.block failed.lowest.here shared failed.failed m.none in
      let made = failed.failed.rest in
      let stops = stops_erase old new failed.block failed.failed in
      stop_advances d old m d' new (subst (λ s. IsReady new s) with.placed.shape_is ready) (made_erase (ap (λ b. b.reads) made, ap (λ b. b.programs) made, ap (λ b. b.erases) made)) stops.rest
      is.1 no_pair (busy_spare d old m.agrees shared failed.block failed.lowest.here) (ap (λ (e : Parts). e.log.pending) rest ∙ m.none) (ap (λ (e : Parts). e.stopped) rest) is.0 stops
      (erase_due d none_half merged frozen reclaimed filled (some_free d.pool.states failed.block failed.lowest.here))
