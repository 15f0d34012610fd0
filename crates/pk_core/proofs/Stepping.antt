-- Background steps one after another.
use Rattle.std.proofs.Common.{◌≡◌, ◌≢◌, inl, inr, ℕ, ◌+◌, ◌-◌, ◌<◌, ◌≤◌, refl, sym, ap, subst, ◌∙◌, arith, true, false, List, [], ◌++◌, Some, None, Ok, length}
use Rattle.std.proofs.lemmas.Bool.{le-leb, leb-false}
use Rattle.pk_base.{specs.Shape.Shape, specs.Page.Flash, specs.Page.page_at, specs.Map.Map, specs.Mark.all_posted}
use Rattle.pk_nvme.{specs.Reply.Reply, specs.Reply.refusal, specs.Seen.command_of, specs.declared.request.Request.Request, specs.Opcode.op_of}
use Rattle.pk_nvme.{specs.declared.opcode.Opcode.TheVariants.Tick}
use Rattle.pk_nand.{specs.BoardState.BoardState, specs.BoardState.shape_or_none, specs.Calls.Rose, specs.Calls.last_count, proofs.Reaching.Reached-start, proofs.Effects.only_then}
use Rattle.pk_nand.specs.Effects.{NoFault, AtMostOneCall, made_no_call, made_read, made_program, made_erase}
use Rattle.pk_model.{specs.Answer.early, specs.Answer.success, specs.Reading.reading, specs.Run.Step, specs.Crashes.CrashFinds, specs.Crashes.background, specs.Spaces.Terms}
use Rattle.pk_model.{specs.Crashes.change, specs.Wear.number_of, specs.Wear.root_number, specs.Wear.roots, specs.Wear.is_worn}
use Rattle.pk_model.proofs.Growing.{weaken, weaken_went, at_end, Reaches-then, Goes-then}
use Rattle.pk_call.{specs.Sight.Sight, specs.Call.command_on, specs.Drive.HoldsMap, specs.Exec.most_installs, specs.Seen.stopped_by, specs.Seen.reply_of, specs.declared.types.Outcome.Outcome}
use Rattle.pk_call.{specs.declared.types.Ticked.Ticked, specs.declared.types.Ticked.TheVariants.Worked, specs.declared.types.Ticked.TheVariants.Idle, specs.declared.types.Ticked.TheVariants.Fault}
use Rattle.pk_rootfmt.{specs.Root.Root, specs.Newest.newest_root}
use Rattle.pk_parts.{specs.Parts.Parts, specs.Parts.drive_limits, specs.Parts.sight_of, specs.Parts.terms_of, specs.Agreeing.DriveOnFlash, specs.Staying.StaysOrFrees, proofs.Unchanging.for_its_map}
use Rattle.pk_parts.proofs.Staying.{stays_same, stays_frees}
use Rattle.pk_core.{specs.Done.Does, specs.Quiet.eleven, specs.Stepping.has_failed, specs.Stepping.BackgroundSteps, specs.Stepping.outcome_of, proofs.Staying.frees_then}
use Rattle.pk_core.proofs.Unchanging.{same_early, not_read, ok_sound, served, unread_step}
use Rattle.pk_background.{specs.Ticking.MayTick, specs.Ticking.Ticks, specs.Ticking.HasNoStep, specs.Ticking.Advances, proofs.Ticking.yes_no}
use Rattle.pk_background.proofs.Callings.{few_more, few_within, spends_same}

-- the drive agrees with its board after this many steps, of which none failed
pub record Ongoing (first : Parts) (old : BoardState) (d : Parts) (board : BoardState) (made : ℕ) : Type 0 where
  pub agrees : DriveOnFlash d board.shape board.pages
  pub unstopped : d.stopped ≡ false
  pub none : d.log.pending ≡ []
  pub steps : (most : ℕ) → made ≤ most → BackgroundSteps old board (sight_of first) (sight_of d) Worked most
  pub less : (sight_of d).work + made ≤ (sight_of first).work
  pub number : d.log.root.number ≤ first.log.root.number + made
  pub counted : board.read_faults ≤ last_count
  pub stays : StaysOrFrees first d

-- ---- no step

pub steps_none : (old : BoardState) (s : Sight) (most : ℕ) → old.reads ≤ last_count → s.pending ≡ [] → BackgroundSteps old old s s Worked most
steps_none old s most few none = record {
  stands = λ _ shape frames m st. st;
  found = record {
    cuts = λ _ shape frames m st. ([], Reached-start old old (CrashFinds shape background old.pages m) refl refl refl refl (refl, subst (λ p. reading shape old.pages p ≡ Ok m) none st.map_is), tt);
    cuts_stopped = λ e. absurd (yes_no false refl e);
  };
  rest = refl;
  spends = spends_same most most old old refl;
  few = few;
  more_reads = omega arith;
  within = omega arith;
  up = omega arith;
  flash_up = λ _. omega arith;
  unread = λ e. let other : Worked ≡ Fault false = e in absurd cc;
  sound = λ _. (refl, refl, refl, refl);
  stop = λ e. absurd (yes_no false refl e);
  no_stop = λ _. refl;
}

-- ---- one more step

record OneRead (a b : BoardState) : Type 0 where
  few : b.reads ≤ last_count
  more : a.reads ≤ b.reads
  within : b.reads ≤ a.reads + 1

one_read : (a b : BoardState) → a.reads ≤ last_count → AtMostOneCall a b → OneRead a b
one_read a b few calls = elim calls [
  | made_no_call none ↦ (let e = none.0 in record { few = omega (arith, e, few); more = omega (arith, e); within = omega (arith, e) })
  | made_read one ↦ (let e = one.0 in record { few = omega (arith, e, few); more = omega (arith, e, few); within = omega (arith, e, few) })
  | made_program program ↦ (let e = program.0 in record { few = omega (arith, e, few); more = omega (arith, e); within = omega (arith, e) })
  | made_erase erase ↦ (let e = erase.0 in record { few = omega (arith, e, few); more = omega (arith, e); within = omega (arith, e) })
]

-- a step that did not fail met no fault
sound_step : (a b : BoardState) (s t : Sight) (answer : Ticked) → Ticks a b s t answer → has_failed answer ≡ false → NoFault a b
sound_step a b s t Worked ticks e = ticks.worked refl
sound_step a b s t Idle ticks e = subst (λ x. NoFault a x) (sym (ticks.idle_rests refl).0) (refl, refl, refl, refl)
sound_step a b s t (Fault stopped) ticks e = absurd (yes_no true e refl)

module _ {s0 s1 : BoardState} {e0 e1 : Sight} {n : ℕ} (first : BackgroundSteps s0 s1 e0 e1 Worked n) where
  -- a cut after the steps so far is one after the first
  seen : (shape : Shape) (frames : Terms) (m : Map) (st : HoldsMap shape frames s0 e0 m) (f : Flash) (q : List ℕ)
      → CrashFinds shape background s0.pages m f q → CrashFinds shape background s0.pages m f (all_posted (first.found.cuts refl shape frames m st).0 ++ q)
  seen shape frames m st f q cut =
      let run = first.found.cuts refl shape frames m st in
      let ends = at_end run.0 s0 s1 (CrashFinds shape background s0.pages m) run.1 in
      (ap (λ (xs : List ℕ). xs ++ q) ends.0 ∙ cut.0, cut.1)

  pub steps_more : (s2 : BoardState) (e2 : Sight) (answer : Ticked) (most : ℕ) → n < most → Ticks s1 s2 e1 e2 answer → BackgroundSteps s0 s2 e0 e2 answer most
  steps_more s2 e2 answer most less ticks =
      let calm = first.sound refl in
      let reads = one_read s1 s2 first.few ticks.calls in
      record {
        stands = λ runs shape frames m st. ticks.stands runs shape frames m (first.stands refl shape frames m st);
        found = record {
          cuts = λ runs shape frames m st.
              let run = first.found.cuts refl shape frames m st in
              Reaches-then shape run.0 s0 s1 (CrashFinds shape background s0.pages m) st.shape_is run.1 run.2 s2
              (CrashFinds shape background s0.pages m) (seen shape frames m st) (ticks.cuts runs shape frames m (first.stands refl shape frames m st));
          cuts_stopped = λ stops shape frames m st.
              let run = first.found.cuts refl shape frames m st in
              Goes-then shape run.0 s0 s1 (CrashFinds shape background s0.pages m) st.shape_is run.1 run.2 s2
              (CrashFinds shape background s0.pages m) (seen shape frames m st) (ticks.cuts_stopped stops shape frames m (first.stands refl shape frames m st));
        };
        rest = only_then s0 s1 s2 first.rest ticks.rest;
        spends = record {
          calls = few_within (n + 1) most s0 s2 (omega (arith, less)) (few_more n s0 s1 s2 first.spends.calls ticks.calls);
          installs = (let a = first.spends.installs in let b = ticks.installs in omega (arith, a, b, less));
        };
        few = reads.few;
        more_reads = (let a = first.more_reads in let b = reads.more in omega (arith, a, b));
        within = (let a = first.within in let b = reads.within in omega (arith, a, b, less));
        up = (let a = first.up in let b = ticks.up in omega (arith, a, b));
        flash_up = λ few. (let same = calm.0 in let b = ticks.flash_up (omega (arith, same, few)) in omega (arith, same, b));
        unread = λ e. subst (λ k. Rose k s2.read_faults) calm.1 (ticks.unread e);
        sound = λ e. let next = sound_step s1 s2 e1 e2 answer ticks e in (next.0 ∙ calm.0, next.1 ∙ calm.1, next.2 ∙ calm.2, next.3 ∙ calm.3);
        stop = λ e. subst (λ k. Rose k s2.stop_faults) calm.2 (ticks.stop e);
        no_stop = λ e. ticks.no_stop e ∙ calm.2;
      }

-- one that did not stop the drive leaves no more to do
no_more_step : (d e : Parts) (a b : BoardState) (answer : Ticked) → Advances d e a b answer → stopped_by answer ≡ false → (sight_of e).work ≤ (sight_of d).work
no_more_step d e a b Worked step runs = let less = step.lowers refl in omega (arith, less)
no_more_step d e a b Idle step runs = let same = ap (λ (s : Sight). s.work) (step.ticks.idle_rests refl).1 in omega (arith, same)
no_more_step d e a b (Fault true) step runs = absurd (yes_no true runs refl)
no_more_step d e a b (Fault false) step runs = let same = ap (λ (s : Sight). s.work) (step.ticks.unmade refl).0 in omega (arith, same)

-- ---- the answer of the command

module _ (old new : BoardState) (d d' : Parts) (r : Request) (v : List ℕ) (a : DriveOnFlash d old.shape old.pages) (passed : early (length (drive_limits d)) d.log.shape (command_of r []) ≡ None) (op : r.opcode ≡ 0xC0) where
  passes : early (length (drive_limits d)) d.log.shape (command_of r v) ≡ None
  passes = same_early (length (drive_limits d)) d.log.shape r v ∙ passed

  -- the clauses that every answer has alike
  does_steps : (answer : Ticked) (reply : Reply) (reads : ℕ) → BackgroundSteps old new (sight_of d) (sight_of d') answer r.size → reads ≡ new.reads - old.reads
      → Step d.log.shape (terms_of d) a.all (command_of r v) reply a.all
      → (reply.status ≡ 0x88 → stopped_by answer ≡ false → Rose old.read_faults new.read_faults)
      → (reply.status ≢ 0x88 → NoFault old new)
      → (stopped_by answer ≡ true → reply.status ≡ 0x88)
      → Does old new (sight_of d) (sight_of d') (command_of r v) reply reads (stopped_by answer)
  does_steps answer reply reads w is step unread sound status =
      let few = w.few in
      let more = w.more_reads in
      record {
        stands = λ runs shape frames m st. let run = w.found.cuts runs shape frames m st in record {
          left = m;
          stepped = for_its_map d old a (λ s f x. Step s f x (command_of r v) reply x) step shape frames m st;
          reached = (
            run.0,
            weaken run.0 old new (CrashFinds shape background old.pages m) (CrashFinds shape (change m) old.pages m) (λ f q cut. (cut.0, inr (inl cut.1))) run.1,
            run.2,
          );
          stands = w.stands runs shape frames m st;
          bounded = λ e. absurd (not_read Tick r.opcode (ap op_of op) (λ other. cc) e);
          held_bounded = λ e. absurd (not_read Tick r.opcode (ap op_of op) (λ other. cc) e);
        };
        cuts_stopped = λ stops shape frames m st.
            let run = w.found.cuts_stopped stops shape frames m st in (
              run.0,
              weaken_went run.0 old new (CrashFinds shape background old.pages m)
                  (CrashFinds shape (command_on old (command_of r v)) old.pages m) (λ f q cut. (cut.0, inr (inl cut.1))) run.1,
              run.2,
            );
        rest = w.rest;
        reads_are = omega (arith, is, few, more);
        up = w.up;
        flash_up = w.flash_up;
        unread = unread;
        sound = sound;
        stop = w.stop;
        stop_status = status;
        no_stop = w.no_stop;
        installs = subst (λ (x : ℕ). roots new ≤ roots old + most_installs x r.size) (sym op) w.spends.installs;
      }

  -- a step that did not fail
  by_fine : (answer : Ticked) (reads : ℕ) → stopped_by answer ≡ false → has_failed answer ≡ false → BackgroundSteps old new (sight_of d) (sight_of d') answer r.size → reads ≡ new.reads - old.reads
      → Does old new (sight_of d) (sight_of d') (command_of r v) (success 0 []) reads (stopped_by answer)
  by_fine answer reads runs fine w is =
      does_steps answer (success 0 []) reads w is
      (served d.log.shape (terms_of d) a.all (command_of r v) passes Tick eleven (success 0 []) a.all refl (ap op_of op) refl refl refl)
      (λ e _. absurd (ok_sound e)) (λ _. w.sound fine) (λ e. absurd (yes_no (stopped_by answer) runs e))

  pub tick_does : (answer : Ticked) (o : Outcome) (into : List ℕ) (reads : ℕ)
      → BackgroundSteps old new (sight_of d) (sight_of d') answer r.size → reads ≡ new.reads - old.reads → o ≡ outcome_of answer reads
      → Does old new (sight_of d) (sight_of d') (command_of r v) (reply_of o into) o.reads o.stopped
  tick_does answer o into reads w is told =
      subst (λ (x : Outcome). Does old new (sight_of d) (sight_of d') (command_of r v) (reply_of x into) x.reads x.stopped) (sym told) (by_cases answer w)
    where
      by_cases : (l : Ticked) → BackgroundSteps old new (sight_of d) (sight_of d') l r.size
          → Does old new (sight_of d) (sight_of d') (command_of r v) (reply_of (outcome_of l reads) into) (outcome_of l reads).reads (outcome_of l reads).stopped
      by_cases Worked w = by_fine Worked reads refl refl w is
      by_cases Idle w = by_fine Idle reads refl refl w is
      by_cases (Fault stopped) w =
          does_steps (Fault stopped) (refusal 0x88) reads w is (unread_step d.log.shape (terms_of d) a.all (command_of r v) passes)
          (λ _ e. w.unread (ap (λ b. Fault b) e)) (λ e. absurd (e refl)) (λ _. refl)

-- ---- the loop

-- before the first step
pub ongoing_none : (d : Parts) (board : BoardState) → MayTick d board → board.reads ≤ last_count → Ongoing d board d board 0
ongoing_none d board may few = record {
  agrees = may.agrees;
  unstopped = may.unstopped;
  none = may.none;
  steps = λ most _. steps_none board (sight_of d) most few may.none;
  less = omega arith;
  number = omega arith;
  counted = may.counted;
  stays = stays_frees d d (stays_same d d refl);
}

module _ {first d : Parts} {old board : BoardState} {made : ℕ} (o : Ongoing first old d board made) where
  -- a further step may be made
  pub ongoing_may : (most : ℕ) → made < most → first.log.root.number + most ≤ 18446744073709551615 → MayTick d board
  ongoing_may most more numbers = record { agrees = o.agrees; unstopped = o.unstopped; none = o.none; number = (let e = o.number in omega (arith, e, more, numbers)); counted = o.counted }

  module _ {e : Parts} {next : BoardState} {answer : Ticked} (step : Advances d e board next answer) where
    -- it ends after any step
    pub ongoing_last : (most : ℕ) → made < most → BackgroundSteps old next (sight_of first) (sight_of e) answer most
    ongoing_last most less = steps_more (o.steps made (omega arith)) next (sight_of e) answer most less step.ticks

    pub ongoing_stays : stopped_by answer ≡ false → StaysOrFrees first e
    ongoing_stays runs = frees_then first d e o.stays (step.moves runs)

    pub ongoing_no_more : stopped_by answer ≡ false → (sight_of e).work ≤ (sight_of first).work
    ongoing_no_more runs = let was = o.less in let now = no_more_step d e board next answer step runs in omega (arith, was, now)

  -- it goes on after a step that worked
  pub ongoing_more : {e : Parts} {next : BoardState} → Advances d e board next Worked → Ongoing first old e next (made + 1)
  ongoing_more {e} {next} step = record {
    agrees = step.agrees refl;
    unstopped = step.stops;
    none = step.none;
    steps = λ most less. ongoing_last step most (omega (arith, less));
    less = (let was = o.less in let now = step.lowers refl in omega (arith, was, now));
    number = (let was = o.number in let now = step.number refl in omega (arith, was, now));
    counted = (let was = o.counted in let same = (step.ticks.worked refl).1 in omega (arith, was, same));
    stays = frees_then first d e o.stays (step.moves refl);
  }

-- if no step remains, nothing remains but a reclaim
pub ongoing_done : {d e : Parts} {board next : BoardState} → Advances d e board next Idle → HasNoStep e
ongoing_done step = let idle = step.idle refl in subst HasNoStep (sym idle.1) idle.0

pub stopped_is : (o : Outcome) (answer : Ticked) (reads : ℕ) → o ≡ outcome_of answer reads → o.stopped ≡ stopped_by answer
stopped_is o Worked reads told = ap (λ x. x.stopped) told
stopped_is o Idle reads told = ap (λ x. x.stopped) told
stopped_is o (Fault stopped) reads told = ap (λ x. x.stopped) told

other_status : ◌≡◌ {A = ℕ} 0x88 0 → ⊥
other_status e = cc

-- no data comes
pub none_come : (o : Outcome) (answer : Ticked) (reads : ℕ) → o ≡ outcome_of answer reads → o.data_len ≡ 0
none_come o answer reads told = ap (λ (x : Outcome). x.data_len) told ∙ by answer
  where
    by : (t : Ticked) → (outcome_of t reads).data_len ≡ 0
    by Worked = refl
    by Idle = refl
    by (Fault stopped) = refl

pub not_failed : (o : Outcome) (answer : Ticked) (reads : ℕ) → o ≡ outcome_of answer reads → o.status ≡ 0 → has_failed answer ≡ false
not_failed o Worked reads told e = refl
not_failed o Idle reads told e = refl
not_failed o (Fault stopped) reads told e = absurd (other_status (sym (ap (λ x. x.status) told) ∙ e))

-- ---- the numbers of roots

-- the number of the newest root is that of the journal's root
number_seen : (d : Parts) (board : BoardState) → DriveOnFlash d board.shape board.pages → roots board ≡ d.log.root.number
unfolding root_number
number_seen d board a =
    let told : newest_root (shape_or_none board.shape) (page_at board.pages) ≡ Some a.top = subst
    (λ o. newest_root (shape_or_none o) (page_at board.pages) ≡ Some a.top) (sym a.told_is) a.with.committed.is_top in
    let newest : roots board ≡ a.top.1.number = ap number_of told in
    let kept = ap (λ (r : Root). r.number) a.with.index.logs.root_is in
    omega (arith, newest, kept)

-- the numbers of roots are not used up on a board that is not worn
pub number_low : (d : Parts) (board : BoardState) → DriveOnFlash d board.shape board.pages → is_worn board ≡ false → d.log.root.number < 9223372036854775808
number_low d board a unworn =
    let least = leb-false 9223372036854775808 (roots board) unworn in
    let seen = number_seen d board a in
    omega (arith, least, seen)

-- they are used up if the newest root has such a number
pub number_high : (d : Parts) (board : BoardState) → DriveOnFlash d board.shape board.pages → 9223372036854775808 ≤ d.log.root.number → is_worn board ≡ true
number_high d board a many = let seen = number_seen d board a in le-leb 9223372036854775808 (roots board) (omega (arith, many, seen))

pub tick_may : (d : Parts) (board : BoardState) → DriveOnFlash d board.shape board.pages → d.stopped ≡ false
    → d.log.pending ≡ [] → is_worn board ≡ false → board.read_faults ≤ last_count → MayTick d board
tick_may d board agrees runs none unworn counted = record {
  agrees = agrees;
  unstopped = runs;
  none = none;
  number = (let low = number_low d board agrees unworn in omega (arith, low));
  counted = counted;
}

pub tick_numbers : (d : Parts) (board : BoardState) (steps : ℕ) → DriveOnFlash d board.shape board.pages → is_worn board ≡ false → steps < 4294967296 → d.log.root.number + steps ≤ 18446744073709551615
tick_numbers d board steps agrees unworn few = let low = number_low d board agrees unworn in omega (arith, low, few)
