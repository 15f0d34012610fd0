-- A step of the job that was handed the newest epoch and the active buffer of the log, and the live values and the open block.
use Rattle.std.proofs.Common.{◌≡◌, ◌⊎◌, inl, inr, ℕ, refl, ap, subst, sym, arith, Option, Some, None, Result, Ok, Err}
use Rattle.std.specs.Prelude.{IfOk, IfErr, OnErr, MatchOption}
use Rattle.pk_base.{specs.Shape.Shape, specs.Shape.IsShape, specs.Page.Flash}
use Rattle.pk_nand.{specs.declared.types.Fault.Fault, specs.declared.types.Fault.TheVariants.Reading, specs.declared.types.Fault.TheVariants.Stopped, specs.BoardState.BoardState, specs.Calls.IsReady}
use Rattle.pk_pool.specs.Blocks.{Blocks, IsShared}
use Rattle.pk_live.{specs.Values.Values, specs.declared.open_block.OpenBlock.OpenBlock}
use Rattle.pk_buf.specs.Table.{Table}
use Rattle.pk_jrn.specs.Epochs.{JournalEpoch}
use Rattle.pk_gc.{specs.declared.course.Phase.Phase, specs.declared.reclaimed.Reclaimed.Reclaimed, specs.State.JobState, specs.Victims.Chooses, specs.Stepping.Hands, specs.Stepping.Steps}
use Rattle.pk_gc.specs.declared.course.Phase.TheVariants.{Idle, Copies, Commits, GivesBack}
use Rattle.pk_gc.specs.declared.reclaimed.Reclaimed.TheVariants.{Worked, NeedsFreeze, Ended}
use Rattle.pk_gc.specs.Breaking.{BreaksIn, JobBroken}
use Rattle.pk_values.{specs.State.ValuesState, specs.State.IsSmall, specs.Placed.IsOpenIn}
use Rattle.pk_log.specs.State.{LogState}
use Rattle.pk_reclaim.{specs.Hands.hands_of, specs.Space.ReclaimParts, specs.Space.reclaim_parts, specs.Steps.ReclaimMoves, specs.Steps.Does, proofs.Stepping.Somewhere}
use Rattle.pk_reclaim.proofs.Whole.{Below, Whole, whole}

module _ (log : LogState) (values : ValuesState) (pool pool' : Blocks) (job job' : JobState) (live' : Values)
    (front' : Option OpenBlock) (active' : Table) (epoch' : JournalEpoch) (old new : BoardState) where
  abbrev hands : Hands
  hands = hands_of values pool log.active log.epoch

  abbrev log' : LogState
  log' = record log { active = active'; epoch = epoch' }

  abbrev values' : ValuesState
  values' = record { live = live'; open_block = front' }

  -- what the job's step said
  pub record Handed (result : Result Reclaimed Fault) : Type 0 where
    pub ready : IsReady old log.shape
    pub then_ready : IsReady new job.shape
    pub shared : IsShared pool.shape pool.states
    pub where_is : Somewhere (reclaim_parts log values pool job) old
    pub shape : job'.shape ≡ job.shape
    pub steps : IfOk result (λ r. Steps job hands old job' (hands_of values' pool' active' epoch') new r)
    pub breaks : IfErr result (λ e. JobBroken job hands old new e)
    pub kept : OnErr result (job' ≡ record job { page = job'.page })
    pub kept_parts : OnErr result ((live'.heads ≡ values.live.heads) × (pool' ≡ pool) × (active' ≡ log.active) × (epoch' ≡ log.epoch))
    pub kept_values : OnErr result ((front' ≡ values.open_block) × (live' ≡ values.live)
        ⊎ (job.phase ≡ Idle) × (victim : ℕ) × Chooses job.shape values.live values.open_block live' front' victim)

  -- if none runs, no read can fail
  idle_stops : (phase : Phase) (e : Fault) → phase ≡ Idle → BreaksIn phase job hands old new e → e ≡ Stopped
  idle_stops Idle e is b = b.0
  idle_stops (Copies c) e is b = cc
  idle_stops (Commits victim) e is b = cc
  idle_stops (GivesBack victim) e is b = absurd b

  values_kept : (e : Fault) → JobBroken job hands old new e → (front' ≡ values.open_block) × (live' ≡ values.live)
      ⊎ (job.phase ≡ Idle) × (victim : ℕ) × Chooses job.shape values.live values.open_block live' front' victim → e ≡ Reading → values' ≡ values
  values_kept e b (inl same) reading = λ i. record { live = same.1 i; open_block = same.0 i }
  values_kept e b (inr chose) reading = let stops = idle_stops job.phase e chose.0 b in cc

  below : (result : Result Reclaimed Fault) → Handed result → Below log log' values values' pool pool' job job' old new result
  below (Ok r) h = record {
    ready = h.ready;
    then_ready = subst (λ (s : Shape). IsReady new s) h.where_is.may.stands.reclaim.shape_is h.then_ready;
    shared = h.shared;
    where_is = h.where_is;
    rest = refl;
    shape = h.shape;
    steps = h.steps;
    breaks = tt;
    kept = tt;
    kept_job = tt;
    kept_pool = tt;
    kept_values = tt;
  }
  below (Err e) h = record {
    ready = h.ready;
    then_ready = subst (λ (s : Shape). IsReady new s) h.where_is.may.stands.reclaim.shape_is h.then_ready;
    shared = h.shared;
    where_is = h.where_is;
    rest = refl;
    shape = h.shape;
    steps = tt;
    breaks = h.breaks;
    kept = λ i. record log { active = h.kept_parts.2 i; epoch = h.kept_parts.3 i };
    kept_job = h.kept;
    kept_pool = h.kept_parts.1;
    kept_values = values_kept e h.breaks h.kept_values;
  }

  pub handed : (result : Result Reclaimed Fault) → Handed result → Whole log log' values values' pool pool' job job' old new result
  handed result h = whole log log' values values' pool pool' job job' old new result (below result h)

  -- ---- the open block is within every flash

  small_open : (shape : Shape) (o : Option OpenBlock) (p : Blocks) (flash : Flash) → IsShape shape → MatchOption o (Unit {0}) (λ x. IsOpenIn shape p flash x) → IsSmall o
  small_open shape None p flash is_shape open_is = tt
  small_open shape (Some o) p flash is_shape open_is =
      (omega (arith, open_is.exists, is_shape.blocks_most), omega (arith, open_is.within, is_shape.block_most))

  small_moved : Somewhere (reclaim_parts log values pool job) old → ReclaimMoves (reclaim_parts log values pool job) old (reclaim_parts log' values' pool' job') new → IsSmall front'
  small_moved s moves =
      let stands = (moves s.top s.found s.m s.may).stands in
      small_open log.shape front' pool' new.pages stands.placed.is_shape stands.placed.open_is

  small_done : (r : Reclaimed) → IsSmall values.open_block → Somewhere (reclaim_parts log values pool job) old → Does (reclaim_parts log values pool job) old (reclaim_parts log' values' pool' job') new r → IsSmall front'
  small_done Worked small s d = small_moved s d.moves
  small_done NeedsFreeze small s d = subst (λ (o : Option OpenBlock). IsSmall o) (sym (ap (λ (x : ReclaimParts). x.values.open_block) d.same)) small
  small_done Ended small s d = small_moved s d.moves

  small_kept : IsSmall values.open_block → (front' ≡ values.open_block) × (live' ≡ values.live)
      ⊎ (job.phase ≡ Idle) × (victim : ℕ) × Chooses job.shape values.live values.open_block live' front' victim → IsSmall front'
  small_kept small (inl same) = subst (λ (o : Option OpenBlock). IsSmall o) (sym same.0) small
  small_kept small (inr chose) = elim chose.2.1 [
    | inl same ↦ subst (λ (o : Option OpenBlock). IsSmall o) (sym same.1) small
    | inr closed ↦ subst (λ (o : Option OpenBlock). IsSmall o) (sym closed.1) tt
  ]

  pub small_behind : (result : Result Reclaimed Fault) → IsSmall values.open_block → Handed result → IsSmall front'
  small_behind (Ok r) small h = small_done r small h.where_is (handed (Ok r) h).does
  small_behind (Err e) small h = small_kept small h.kept_values
