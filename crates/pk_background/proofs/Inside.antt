-- Steps of merges and of a freeze inside a command: each keeps the map.
use Rattle.std.proofs.Common.{◌≡◌, ◌⊎◌, inl, inr, ℕ, zero, suc, ◌+◌, ◌-◌, ◌<◌, ◌≤◌, refl, sym, ap, subst, ◌∙◌, arith, Bool, true, false, [], length, Option, Some, None, Result, Ok, Err}
use Rattle.std.specs.Prelude.{IfSome, OnOk, OnErr}
use Rattle.pk_base.{specs.Shape.Shape, specs.Page.Flash, specs.Page.page_at, specs.Map.Map}
use Rattle.pk_nand.{specs.declared.types.Fault.Fault, specs.declared.types.Fault.TheVariants.Reading, specs.declared.types.Fault.TheVariants.Stopped, specs.BoardState.BoardState}
use Rattle.pk_nand.{specs.Calls.IsReady, specs.Calls.Rose, specs.Calls.last_count, proofs.Writing.shape_is}
use Rattle.pk_nand.specs.Effects.{AtMostOneCall, NoFault, OnlyFlash, OnlyReading, Works, Stops, made_no_call, made_read, made_program, made_erase}
use Rattle.pk_rootfmt.{specs.Root.Root, specs.Newest.newest_root}
use Rattle.pk_model.{specs.Found.Found, specs.Reading.reading, specs.Growth.Goes, specs.Crashes.CrashFinds, specs.Crashes.background, specs.Crashes.commit}
use Rattle.pk_model.{specs.Wear.root_number, specs.Wear.roots}
use Rattle.pk_law_steps.{specs.Under.places, proofs.Untouched.under_reads}
use Rattle.pk_root.{specs.declared.next.Next.Next, specs.declared.next.Next.TheVariants.Erase}
use Rattle.pk_root.specs.Installing.{repeats_next}
use Rattle.pk_plan.specs.declared.owner.Owner.TheVariants.{Values}
use Rattle.pk_pool.specs.Blocks.{used_by}
use Rattle.pk_compact.specs.FreezeSteps.{install_steps}
use Rattle.pk_schedule.{specs.declared.phase.Phase.Phase, specs.declared.phase.Stepped.Stepped, specs.declared.phase.Stepped.TheVariants.Worked, specs.declared.phase.Stepped.TheVariants.Idle}
use Rattle.pk_schedule.{specs.declared.phase.Phase.TheVariants.Idle as Between, specs.declared.phase.Phase.TheVariants.Running, specs.declared.phase.Phase.TheVariants.Ready, proofs.Backlogs.some_due}
use Rattle.pk_schedule.specs.Index.{Index, IndexOnFlash, settled}
use Rattle.pk_schedule.specs.Steps.{MayWork, MayFreeze, IndexMoves, Moves, Unmoved, StandsStill, Breaks, KeepsActive, FreezeMoves, Freezes, FreezeBreaks, Less, LessIsLeft, backlog_of, merge_left}
use Rattle.pk_schedule.specs.Steps.{has_no_merge, is_between}
use Rattle.pk_log.specs.State.{LogState}
use Rattle.pk_jrn.specs.Epochs.{JournalEpoch}
use Rattle.pk_law_work.{specs.Backlog.due_level, specs.Work.merging_left, specs.Work.merging_from}
use Rattle.pk_parts.{specs.Parts.Parts, specs.Parts.frames_of, specs.Parts.index_of, specs.Parts.outputs_of, specs.Agreeing.DriveOnFlashWith, specs.Staying.Stays, proofs.Standing.same_found}
use Rattle.pk_parts.specs.Moves.{StandsFor, StandsBetween, Keeps, KeepsAll, KeepsBetween, KeepsAllBetween, BreaksAll, LeavesValues}
use Rattle.pk_parts.{proofs.Halves.counted_index, proofs.Halves.whole_like, proofs.Keeping.KeepsAll-none, proofs.Keeping.keeps_between, proofs.Staying.stays_same}
use Rattle.pk_background.specs.Reclaiming.{ReclaimHolds, HoldsAll, FailsAll}
use Rattle.pk_background.specs.Emptying.{Came, ReadsUpTo, OnRunning, MayEmpty, MergesOnce, FreezesOnce, merges_left, merges_due}
use Rattle.pk_background.proofs.Indexing.{with_index, may_work as may_work_with, agrees_like, moved_with, moved_course}
use Rattle.pk_background.{proofs.ReadSteps.read_cuts, proofs.ReadSteps.running_says, proofs.SameMaps.commit_cuts, proofs.SameMaps.breaks_failed, proofs.Steps.leaves_none}

-- ---- what a step asks

number_top : (shape : Shape) (flash : Flash) (top : ℕ × Root) → newest_root shape (page_at flash) ≡ Some top → root_number shape flash ≡ top.1.number
unfolding root_number
number_top shape flash top is = rw is refl

-- as many roots were installed as the index counts for itself
pub number_is : (x : Index) (frames : ℕ) (board : BoardState) (top : ℕ × Root) (found : Found) → IsReady board x.log.shape → IndexOnFlash x frames board.pages top found
    → roots board ≡ x.log.root.number
number_is x frames board top found ready stands =
    ap (λ (s : Shape). root_number s board.pages) (shape_is board x.log.shape ready)
    ∙ number_top x.log.shape board.pages top stands.logs.is_top
    ∙ sym (ap (λ (r : Root). r.number) stands.logs.root_is)

module _ (d : Parts) (old : BoardState) (may : MayEmpty d old) where
  -- the map of the drive on its own shape
  abbrev pub Here : Map → Type 0
  Here m = StandsFor d d.log.shape old.pages m

  pub may_work : (m : Map) (there : Here m) → MayWork (index_of d) (frames_of d) old.pages there.top there.found m
  may_work m there = may_work_with d old.pages there.top there.found there.without m there.with may.none_pending there.whole.settles (
      let of_log : roots old ≡ d.log.root.number = number_is (index_of d) (frames_of d) old there.top there.found may.may.ready there.with.index in
      omega (arith, may.number, of_log))

  -- for some map
  pub some_work : (frames : ℕ) × (top : ℕ × Root) × (found : Found) × (m : Map) × MayWork (index_of d) frames old.pages top found m
  some_work = let some = may.may.stands in (frames_of d, some.1.top, some.1.found, some.0, may_work some.0 some.1)

  pub some_freeze : has_no_merge (index_of d) ≡ true → (frames : ℕ) × (top : ℕ × Root) × (found : Found) × (m : Map) × MayFreeze (index_of d) frames old.pages top found m
  some_freeze none = let some = may.may.stands in (frames_of d, some.1.top, some.1.found, some.0, record { may = may_work some.0 some.1; none_merges = none })

  -- no pair of a root is half made before, so that a step of a freeze is not a second program
  pub freeze_first : (done : Bool) (r : Result Bool Fault) → r ≡ Ok done → done ≡ repeats_next d.log.next → r ≡ Ok false
  freeze_first done r is turn = is ∙ ap Ok (turn ∙ may.may.stands.1.whole.settles.whole)

  pub freeze_breaks : (new : BoardState) → has_no_merge (index_of d) ≡ true → FreezeBreaks (index_of d) old new → Breaks (index_of d) old new
  freeze_breaks new none breaks frames top found m ok = breaks frames top found m (inl (record { may = ok; none_merges = none }))

  -- ---- the map

  -- what holds on the drive's own shape holds on each one that it has
  on_own_shape : (P : Shape → Map → Type 0) → ((m : Map) → Here m → P d.log.shape m) → (shape : Shape) (m : Map) → StandsFor d shape old.pages m → P shape m
  on_own_shape P holds shape m stands = let Q : Shape → Type 0 = λ s. StandsFor d s old.pages m → P s m in subst Q stands.with.shape_is (holds m) stands

  module _ (x : Index) (new : BoardState) (ready : IsReady new d.log.shape) (epoch : x.log.epoch.half ≡ false) (moves : Moves (index_of d) old x new) where
    moved_is : (m : Map) (there : Here m) → IndexMoves (index_of d) (frames_of d) old there.found m x new
    moved_is m there = moves (frames_of d) there.top there.found m (may_work m there)

    abbrev moved_stands : (m : Map) (there : Here m) → StandsBetween (with_index d x) d.log.shape new.pages m
    moved_stands m there =
        let is = moved_is m there in
        record {
          top = is.then_top;
          found = is.then_found;
          without = m;
          with = moved_with d old new there.top there.found there.without m there.with may.none_pending x ready is;
          course = moved_course d old new there.top there.found there.without m there.with may.none_pending x ready is there.whole epoch;
        }

    -- wherever it is cut
    pub moved_holds : HoldsAll d (with_index d x) old new
    moved_holds = on_own_shape (λ s m. ReclaimHolds (with_index d x) s m old new) (λ m there. record { stands = moved_stands m there; cuts = (moved_is m there).cuts })

    pub moved_keeps : KeepsAllBetween d (with_index d x) old new
    moved_keeps = on_own_shape (λ s m. KeepsBetween d (with_index d x) s m old new) (λ m there.
        let is = moved_is m there in
        record {
          stands = moved_stands m there;
          same_places = λ was.
              ap (places is.then_found) is.none_pending
              ∙ is.same_places
              ∙ ap (λ (f : Found). places f []) (same_found d d.log.shape old.pages m was there)
              ∙ sym (ap (places was.found) may.none_pending);
          still = inr (under_reads d.log.shape new.pages [] is.then_top is.then_found m is.under);
          cuts = commit_cuts d.log.shape m old new is.cuts;
        })

  pub broken_fails : (new : BoardState) → Breaks (index_of d) old new → FailsAll d old new
  broken_fails new breaks = on_own_shape (λ s m. Goes s old new (CrashFinds s background old.pages m)) (λ m there. breaks (frames_of d) there.top there.found m (may_work m there))

  -- a read failed: of the schedule alone something differs
  abbrev pub with_job : Index → Parts
  with_job x = record d { schedule = record d.schedule { job = x.schedule.job } }

  pub still_keeps : (x : Index) (new : BoardState) → Unmoved (index_of d) x → OnlyReading old new → StandsStill (index_of d) old x new → KeepsAll d (with_index d x) old new
  still_keeps x new unmoved read_only still =
      let same : new.pages ≡ old.pages = ap (λ (b : BoardState). b.pages) read_only in
      on_own_shape (λ s m. Keeps d (with_index d x) s m old new) (λ m there.
      let I : Index → Flash → Type 0 = λ y f. IndexOnFlash y (frames_of d) f there.top there.found in
      let its_index = subst (λ y. I y old.pages) unmoved.rest (subst (λ f. I x f) same (still (frames_of d) there.top there.found m (may_work m there))) in
      let agrees = agrees_like d d.levels d.arena (record d.schedule { job = x.schedule.job }) d.reclaim.page d.log.shape old.pages there.top there.found there.without m there.with its_index
      there.with.reclaim in
      subst (λ (e : Parts). Keeps d e d.log.shape m old new) (sym (ap (with_index d) unmoved.rest)) (record {
        stands = record {
          top = there.top;
          found = there.found;
          without = there.without;
          with = subst (λ (f : Flash). DriveOnFlashWith (with_job x) d.log.shape f there.top there.found there.without m) (sym same) agrees;
          whole = whole_like d (with_job x) refl (λ none. none) refl refl there.whole;
        };
        same_places = λ was. ap (λ (f : Found). places f d.log.pending) (same_found d d.log.shape old.pages m was there);
        still = inl (ap (λ (f : Flash). reading d.log.shape f []) same);
        cuts = read_cuts d.log.shape (CrashFinds d.log.shape commit old.pages m) old new read_only (refl, inl refl);
      }))

-- ---- the board

pub one_call : (old new : BoardState) → old.reads ≤ last_count → AtMostOneCall old new → ReadsUpTo 1 old new
one_call old new few (made_no_call (same, p, e)) = record { up = omega (arith, same); few = omega (arith, same) }
one_call old new few (made_read (one, p, e)) = record { up = omega (arith, one, few); few = omega (arith, one) }
one_call old new few (made_program (same, p, e)) = record { up = omega (arith, same); few = omega (arith, same) }
one_call old new few (made_erase (same, p, e)) = record { up = omega (arith, same); few = omega (arith, same) }

-- ---- a step of the merges

installs_some : (next : Next) → 1 ≤ install_steps next
installs_some (Erase beside) = omega arith
installs_some next = omega arith

-- a merge that runs has steps left
running_some : (phase : Phase) (x : Index) → IfSome (merge_left phase x) (λ left. 1 ≤ left)
running_some Between x = tt
running_some (Running level) x = omega arith
running_some (Ready level) x = installs_some x.log.next

merging_some : (shape : Shape) (level : ℕ) (merge : Option ℕ) → 1 ≤ level → IfSome merge (λ left. 1 ≤ left) → 1 ≤ merging_from shape level merge
merging_some shape zero merge due some = absurd (omega (arith, due))
merging_some shape (suc level) None due some = omega arith
merging_some shape (suc level) (Some left) due some = omega (arith, some)

-- what the schedule says of one
pub record MergeStep (x : Index) (old : BoardState) (x' : Index) (new : BoardState) (r : Result Stepped Fault) : Type 0 where
  pub idle : r ≡ Ok Idle → (has_no_merge x ≡ true) × (x' ≡ x) × (new ≡ old)
  pub moves : r ≡ Ok Worked → Moves x old x' new
  pub less : r ≡ Ok Worked → Less x old.pages x'
  pub active : KeepsActive x.log x'.log
  pub running : OnErr r (is_between x.schedule.phase ≡ false)
  pub unmoved : r ≡ Err Reading → Unmoved x x' × OnlyReading old new
  pub again : r ≡ Err Reading → StandsStill x old x' new
  pub unread : r ≡ Err Reading → Rose old.read_faults new.read_faults × Rose old.flash_faults new.flash_faults
  pub broken : r ≡ Err Stopped → Breaks x old new × Stops old new
  pub sound : OnOk r (NoFault old new)
  pub calls : AtMostOneCall old new
  pub rest : OnlyFlash old new
  pub installs : roots new ≤ roots old + 1
  pub ready : IsReady new x.log.shape

module _ (d : Parts) (old : BoardState) (may : MayEmpty d old) (x : Index) (new : BoardState) where
  abbrev pub its : Parts
  its = with_index d x

  same_shape : KeepsActive d.log x.log → x.log.shape ≡ d.log.shape
  same_shape active = ap (λ (l : LogState). l.shape) active

  same_epoch : KeepsActive d.log x.log → x.log.epoch ≡ d.log.epoch
  same_epoch active = ap (λ (l : LogState). l.epoch) active

  -- no commit of the epoch is half made
  pub whole_epoch : KeepsActive d.log x.log → x.log.epoch.half ≡ false
  whole_epoch active = ap (λ (e : JournalEpoch). e.half) (same_epoch active) ∙ may.may.stands.1.whole.epoch

  -- the map that it represents
  abbrev some : (m : Map) × StandsFor d d.log.shape old.pages m
  some = may.may.stands

  moved : Moves (index_of d) old x new → IndexMoves (index_of d) (frames_of d) old some.1.found some.0 x new
  moved moves = moves (frames_of d) some.1.top some.1.found some.0 (may_work d old may some.0 some.1)

  -- as many blocks have values, also if some leave
  pub moved_many : Moves (index_of d) old x new → used_by Values x.pool.states ≡ used_by Values d.pool.states
  moved_many moves = let is = moved moves in counted_index x new.pages some.0 is.ends ∙ is.values.as_many

  pub moved_leaves : x.log.shape ≡ d.log.shape → Moves (index_of d) old x new → LeavesValues d its
  moved_leaves same moves = let is = moved moves in record { rest = refl; frames = is.stands.arena_is.leases.size; same_shape = same; as_many = moved_many moves }

  -- an epoch that goes on
  pub moved_stays : x.log.epoch ≡ d.log.epoch → Moves (index_of d) old x new → Stays d its
  moved_stays same moves =
      let is = moved moves in
      let was = some.1.with.index.logs in
      record {
        fresh = record {
          stays = λ more. ap (λ (e : JournalEpoch). e.takes_more) same ∙ more;
          begun = inl (
              ap (λ (r : Root). r.epoch) is.stands.logs.root_is
              ∙ sym is.stands.logs.epoch_number
              ∙ ap (λ (e : JournalEpoch). e.number) same
              ∙ was.epoch_number
              ∙ sym (ap (λ (r : Root). r.epoch) was.root_is));
        };
        blocks = record { used = ap (λ (n : ℕ). n - length (outputs_of d)) (moved_many moves); open_same = refl };
      }

  -- one that begins
  pub begun_stays : x.log.epoch.takes_more ≡ true → Moves (index_of d) old x new → Stays d its
  begun_stays more moves = record {
    fresh = record { stays = λ was. more; begun = inr more };
    blocks = record { used = ap (λ (n : ℕ). n - length (outputs_of d)) (moved_many moves); open_same = refl };
  }

  -- what else is unchanged if the index is this one
  unchanged : (y : Index) → x ≡ y → LeavesValues d (with_index d y) → Stays d (with_index d y) → LeavesValues d its × Stays d its
  unchanged y same leaves stays = subst (λ (z : Index). LeavesValues d (with_index d z) × Stays d (with_index d z)) (sym same) (leaves, stays)

  merge_came : (r : Result Stepped Fault) → MergeStep (index_of d) old x new r → old.read_faults ≤ last_count
      → Came (λ (s : Stepped). KeepsAllBetween d its old new) (KeepsAll d its old new) (BreaksAll d old new) old new r
  merge_came (Ok Idle) step few = let idle = step.idle refl in (keeps_between d its old new (KeepsAll-none d its old new (ap (with_index d) idle.1) idle.2), step.sound)
  merge_came (Ok Worked) step few = (moved_keeps d old may x new step.ready (whole_epoch step.active) (step.moves refl), step.sound)
  merge_came (Err Reading) step few =
      let unmoved = step.unmoved refl in
      let rose = step.unread refl in (
        still_keeps d old may x new unmoved.0 unmoved.1 (step.again refl),
        record { read = rose.0; up = (let up = rose.0 in omega (arith, up, few)); flash = rose.1; no_stop = ap (λ (b : BoardState). b.stop_faults) unmoved.1 },
      )
  merge_came (Err Stopped) step few =
      let broken = step.broken refl in
      (breaks_failed d old new (broken_fails d old may new broken.0), record { flash = broken.1.flash; stop = broken.1.stop; read = broken.1.read })

  merge_keeps : (r : Result Stepped Fault) → MergeStep (index_of d) old x new r → OnRunning (LeavesValues d its × Stays d its) r
  merge_keeps (Ok Idle) step = unchanged (index_of d) (step.idle refl).1 (leaves_none d) (stays_same d d refl)
  merge_keeps (Ok Worked) step = (moved_leaves (same_shape step.active) (step.moves refl), moved_stays (same_epoch step.active) (step.moves refl))
  merge_keeps (Err Reading) step =
      unchanged (record (index_of d) { schedule = record d.schedule { job = x.schedule.job } }) (step.unmoved refl).0.rest (record { rest = refl; frames = refl; same_shape = refl; as_many = refl })
      (record { fresh = record { stays = λ e. e; begun = inl refl }; blocks = record { used = refl; open_same = refl } })
  merge_keeps (Err Stopped) step = tt

  -- ---- what remained if a call failed

  merge_some : (r : Result Stepped Fault) → MergeStep (index_of d) old x new r → OnErr r (1 ≤ merges_left d)
  merge_some (Ok s) step = tt
  merge_some (Err e) step =
      let due : 1 ≤ merges_due d = some_due (index_of d) (frames_of d) old.pages some.1.top some.1.found some.1.with.index step.running in
      let least = merging_some d.log.shape (merges_due d) (merge_left d.schedule.phase (index_of d)) due (running_some d.schedule.phase (index_of d)) in
      omega (arith, least)

  -- ---- the roots

  was_number : roots old ≡ d.log.root.number
  was_number = number_is (index_of d) (frames_of d) old some.1.top some.1.found may.may.ready some.1.with.index

  its_number : IsReady new d.log.shape → x.log.shape ≡ d.log.shape → Moves (index_of d) old x new → roots new ≡ x.log.root.number
  its_number ready same moves =
      let is = moved moves in
      number_is (settled x) (frames_of d) new is.then_top is.then_found (subst (λ (s : Shape). IsReady new s) (sym same) ready) is.stands

  its_less : Less (index_of d) old.pages x → LessIsLeft (index_of d) x
  its_less less = less (frames_of d) some.1.top some.1.found some.0 (may_work d old may some.0 some.1)

  -- what is due of an index on this shape
  abbrev due_of : Index → ℕ
  due_of y = due_level d.log.shape (backlog_of y)

  merge_due : (r : Result Stepped Fault) → MergeStep (index_of d) old x new r → OnOk r (roots new + merges_due its ≤ roots old + merges_due d)
  merge_due (Ok Idle) step =
      let idle = step.idle refl in
      let board : roots new ≡ roots old = ap roots idle.2 in
      let due : merges_due its ≡ merges_due d = ap (λ (y : Index). merges_due (with_index d y)) idle.1 in
      omega (arith, board, due)
  merge_due (Ok Worked) step =
      let same = same_shape step.active in
      let was = was_number in
      let is = its_number step.ready same (step.moves refl) in
      let less = (its_less (step.less refl)).roots in
      let few : roots new + due_of x ≤ roots old + merges_due d = omega (arith, was, is, less) in
      subst (λ (s : Shape). roots new + due_level s (backlog_of x) ≤ roots old + merges_due d) (sym same) few
  merge_due (Err e) step = tt

  merge_installs : (r : Result Stepped Fault) → MergeStep (index_of d) old x new r → roots new ≤ roots old + merges_due d
  merge_installs (Ok s) step = let few : roots new + merges_due its ≤ roots old + merges_due d = merge_due (Ok s) step in omega (arith, few)
  merge_installs (Err e) step =
      let due : 1 ≤ merges_due d = some_due (index_of d) (frames_of d) old.pages some.1.top some.1.found some.1.with.index step.running in
      omega (arith, step.installs, due)

  pub merges_once : (r : Result Stepped Fault) → MergeStep (index_of d) old x new r → old.read_faults ≤ last_count → old.reads ≤ last_count → MergesOnce d its old new r
  merges_once r step few few_reads = record {
    step = record {
      came = merge_came r step few;
      rest = step.rest;
      reads = one_call old new few_reads step.calls;
      roots_few = step.installs;
      ready = step.ready;
    };
    idle = λ is. let idle = step.idle is in (idle.0, ap (with_index d) idle.1, idle.2);
    calls = step.calls;
    some = merge_some r step;
    less = λ is.
        let less = (its_less (step.less is)).merging in
        subst (λ (s : Shape). merging_left s (backlog_of x) < merges_left d) (sym (same_shape step.active)) less;
    installs = merge_installs r step;
    due = merge_due r step;
    none_pending = ap (λ (l : LogState). l.pending) step.active ∙ may.none_pending;
    leaves = running_says (LeavesValues d its × Stays d its) (LeavesValues d its) r (λ both. both.0) (merge_keeps r step);
    stays = running_says (LeavesValues d its × Stays d its) (Stays d its) r (λ both. both.1) (merge_keeps r step);
  }

  -- ---- a step of a freeze

  -- what a freeze that goes on or ends says
  abbrev pub FreezeDone : Type 0
  FreezeDone = FreezeMoves (index_of d) x ⊎ Freezes (index_of d) x

  freeze_stays : Moves (index_of d) old x new → FreezeDone → Stays d its
  freeze_stays moves (inl on) = moved_stays (ap (λ (l : LogState). l.epoch) on.log) moves
  freeze_stays moves (inr done) = begun_stays done.takes_more moves

  pub freeze_epoch : FreezeDone → x.log.epoch.half ≡ false
  freeze_epoch (inl on) = ap (λ (l : LogState). l.epoch.half) on.log ∙ some.1.whole.epoch
  freeze_epoch (inr done) = done.whole_epoch

  -- a step after which no root is half made installs none
  freeze_root : IsReady new d.log.shape → x.log.shape ≡ d.log.shape → Moves (index_of d) old x new → FreezeDone → repeats_next x.log.next ≡ false → roots new ≡ roots old
  freeze_root ready same moves (inl on) whole = its_number ready same moves ∙ ap (λ (l : LogState). l.root.number) on.log ∙ sym was_number
  freeze_root ready same moves (inr done) whole = absurd (let clash : true ≡ false = sym done.half ∙ whole in let z : ⊥ = cc in z)

  pub freeze_went : Moves (index_of d) old x new → FreezeDone → (x.log.shape ≡ d.log.shape) × (x.log.pending ≡ d.log.pending)
      → Works old new → AtMostOneCall old new → roots new ≤ roots old + 1 → IsReady new d.log.shape
      → FreezesOnce d its old new (Ok tt)
  freeze_went moves freezes same works calls few ready = record {
    step = record {
      ended = moved_keeps d old may x new ready (freeze_epoch freezes) moves;
      broken = tt;
      works = works;
      stops = tt;
      stopped = tt;
      roots_few = few;
      ready = ready;
    };
    calls = calls;
    freezes = freezes;
    no_root = freeze_root ready same.0 moves freezes;
    none_pending = same.1 ∙ may.none_pending;
    leaves = moved_leaves same.0 moves;
    stays = freeze_stays moves freezes;
  }

  pub freeze_failed : (fault : Fault) → (x.log.shape ≡ d.log.shape) × (x.log.pending ≡ d.log.pending)
      → fault ≡ Stopped → Breaks (index_of d) old new → Stops old new → AtMostOneCall old new → roots new ≤ roots old + 1
      → IsReady new d.log.shape → FreezesOnce d its old new (Err fault)
  freeze_failed fault same stopped broken stops calls few ready = record {
    step = record {
      ended = tt;
      broken = breaks_failed d old new (broken_fails d old may new broken);
      works = tt;
      stops = stops;
      stopped = stopped;
      roots_few = few;
      ready = ready;
    };
    calls = calls;
    freezes = tt;
    no_root = tt;
    none_pending = same.1 ∙ may.none_pending;
    leaves = tt;
    stays = tt;
  }
