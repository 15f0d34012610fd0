-- A step of the install of a merge, for whatever is on the flash.
use Rattle.std.proofs.Common.{◌≡◌, ℕ, ◌≤◌, true, List, [], ◌∷◌, length, refl, sym, ap, subst, ◌∙◌, arith, Option, Result}
use Rattle.pk_base.specs.Map.{Map}
use Rattle.pk_nand.{specs.declared.types.Fault.Fault, specs.BoardState.BoardState}
use Rattle.pk_rootfmt.{specs.Root.Root, specs.Held.older_of, specs.Held.blocks_or_none}
use Rattle.pk_root.specs.Installing.{erases_next, programs_next}
use Rattle.pk_pin.specs.Frames.{Frames}
use Rattle.pk_model.{specs.Found.Found, specs.Steps.Step, proofs.Steps.Step-says}
use Rattle.pk_plan.specs.declared.owner.Owner.TheVariants.{Values}
use Rattle.pk_pool.{specs.Blocks.Blocks, specs.Blocks.IsShared, specs.Blocks.freed, specs.Blocks.used_by, proofs.Leaving.freed_same}
use Rattle.pk_level.{specs.Levels.Levels, specs.Levels.IsLevels, specs.Arenas.HasLeases, specs.Arenas.Releases}
use Rattle.pk_log.specs.State.{LogState}
use Rattle.pk_log.specs.MergeSteps.{MayPrepare, LogPrepared, LogPrepares, LogPrepareBreaks, MayMerge, LogMerges, LogMergeBreaks}
use Rattle.pk_schedule.{specs.declared.phase.Phase.Phase, specs.declared.phase.Phase.TheVariants.Idle, specs.declared.phase.Phase.TheVariants.Ready}
use Rattle.pk_schedule.{specs.Exchanges.CanEndFirst, specs.Exchanges.EndsFirst, specs.Exchanges.CanEndDeep, specs.Exchanges.EndsDeep, proofs.Preparing.prepared_moves, proofs.Preparing.prepared_less}
use Rattle.pk_schedule.{specs.Index.Index, specs.Index.Schedule, specs.Index.merging, specs.Index.output, proofs.Replaced.replaced_one, proofs.Replaced.replaced_deep}
use Rattle.pk_schedule.{specs.Steps.MayWork, specs.Steps.IndexMoves, specs.Steps.LessIsLeft, specs.Steps.StepsOn, specs.Steps.Breaks, proofs.Calling.steps_on}
use Rattle.pk_schedule.proofs.Installing.{Replaced, installed_moves, installed_less, leases_are, released, released_arena}
use Rattle.pk_schedule.proofs.Waiting as wait

same_older : (blocks : List ℕ) → blocks_or_none (older_of blocks) ≡ blocks
same_older [] = refl
same_older (b ∷ bs) = refl

-- the level of a merge whose output is complete
pub ready_at : (n : ℕ) (p : Phase) → n ≡ merging p → (level : ℕ) × (p ≡ Ready level) → p ≡ Ready n
ready_at n p told (level, is) = is ∙ ap (λ (l : ℕ). Ready l) (sym (told ∙ ap merging is))

-- for which the index may be the one of the flash
abbrev pub Stands : Index → BoardState → Type 0
Stands x old = (frames : ℕ) × (top : ℕ × Root) × (found : Found) × (m : Map) × MayWork x frames old.pages top found m

-- A merge into this level whose output is complete.
pub record IsComplete (x : Index) (level : ℕ) : Type 0 where
  pub is : x.schedule.phase ≡ Ready level
  pub shared : IsShared x.pool.shape x.pool.states
  pub known : IsLevels x.levels

-- how many entries its output has, and its blocks
pub record IsReported (x : Index) (count : ℕ) (blocks : List ℕ) : Type 0 where
  pub count_is : count ≡ (output x.schedule).count
  pub blocks_are : blocks ≡ (output x.schedule).blocks

module _ {x : Index} {level : ℕ} (k : IsComplete x level) (old : BoardState) where
  -- ---- what is asked of the parts

  pub ask_prepare : Stands x old → (top : ℕ × Root) × (found : Found) × (m : Map) × MayPrepare x.log old.pages top found m
  ask_prepare s = (s.1, s.2, s.3, wait.may_prepare x s.0 old s.1 s.2 s.3 s.4 level k.is k.shared k.known)

  -- the output, as it is reported
  module _ {count : ℕ} {blocks : List ℕ} (r : IsReported x count blocks) where
    told : (P : ℕ → List ℕ → Type 0) → P (output x.schedule).count (output x.schedule).blocks → P count blocks
    told P is = subst (λ n. P n blocks) (sym r.count_is) (subst (λ bs. P (output x.schedule).count bs) (sym r.blocks_are) is)

    pub may_merge : (frames : ℕ) (top : ℕ × Root) (found : Found) (m : Map) → MayWork x frames old.pages top found m → MayMerge x.log old.pages top found m level count blocks
    may_merge frames top found m may = told (λ n bs. MayMerge x.log old.pages top found m level n bs) (wait.may_merge x frames old top found m may level k.is k.shared k.known)

    pub ask_merge : Stands x old → (top : ℕ × Root) × (found : Found) × (m : Map) × MayMerge x.log old.pages top found m level count blocks
    ask_merge s = (s.1, s.2, s.3, may_merge s.0 s.1 s.2 s.3 s.4)

    pub merge_breaks : (new : BoardState) → LogMergeBreaks x.log old level count blocks new → Breaks x old new
    merge_breaks new broken frames top found m may = broken top found m (may_merge frames top found m may)

    pub merges_told : (log' : LogState) (new : BoardState) → LogMerges x.log old level count blocks log' new → LogMerges x.log old level (output x.schedule).count (output x.schedule).blocks log' new
    merges_told log' new merges =
        let P : ℕ → List ℕ → Type 0 = λ n bs. LogMerges x.log old level n bs log' new in
        subst (λ n. P n (output x.schedule).blocks) r.count_is (subst (λ bs. P count bs) r.blocks_are merges)

  older_is : (s : Stands x old) → blocks_or_none (older_of x.log.root.older) ≡ s.1.1.older
  older_is s = same_older x.log.root.older ∙ ap (λ (r : Root). r.older) s.4.stands.logs.root_is

  pub ask_first : Stands x old → level ≡ 1 → (older : Option (List ℕ)) → older ≡ older_of x.log.root.older → CanEndFirst x.levels x.arena (freed x.pool) x.schedule.job (blocks_or_none older)
  ask_first s one older told = subst (λ os. CanEndFirst x.levels x.arena (freed x.pool) x.schedule.job os) (sym (ap blocks_or_none told ∙ older_is s))
      (subst (λ (p : Blocks). CanEndFirst x.levels x.arena p x.schedule.job s.1.1.older)
      (sym (freed_same x.pool s.4.settles.none_leaves)) (wait.can_end_first x s.0 old s.1 s.2 s.3 s.4 level k.is k.shared k.known one))

  pub ask_level : Stands x old → (1 ≤ level) × (level ≤ 4)
  ask_level s = (wait.least x s.0 old s.1 s.2 s.3 s.4 level k.is k.shared k.known, wait.most x s.0 old s.1 s.2 s.3 s.4 level k.is k.shared k.known)

  pub ask_deep : Stands x old → 2 ≤ level → CanEndDeep x.levels x.arena (freed x.pool) x.schedule.job level
  ask_deep s deep = subst (λ (p : Blocks). CanEndDeep x.levels x.arena p x.schedule.job level)
      (sym (freed_same x.pool s.4.settles.none_leaves)) (wait.can_end_deep x s.0 old s.1 s.2 s.3 s.4 level k.is k.shared k.known deep)

  -- ---- what the step leaves

  abbrev Made : Index → BoardState → Type 0
  Made x' new = (frames : ℕ) (top : ℕ × Root) (found : Found) (m : Map) → MayWork x frames old.pages top found m → IndexMoves x frames old found m x' new × LessIsLeft x x'

  module _ (new : BoardState) (log' : LogState) where
    prepared : erases_next x.log.next ≡ true → LogPrepares x.log old log' new → Made (record x { log = log' }) new
    prepared erases prepares frames top found m may =
        let p = prepares top found m (wait.may_prepare x frames old top found m may level k.is k.shared k.known) in
        let Q : LogState → Type 0 = λ l. LogPrepared x.log old top found m l new in
        let P : LogState → Type 0 = λ l. IndexMoves x frames old found m (record x { log = l }) new × LessIsLeft x (record x { log = l }) in
        let q : Q (record x.log { next = log'.next }) = subst Q p.same_log p in
        subst P (sym p.same_log) (
          prepared_moves x frames old top found m may level k.is k.shared k.known new log'.next erases q,
          prepared_less x frames old top found m may level k.is k.shared k.known new log'.next erases q,
        )

    pub made_prepared : erases_next x.log.next ≡ true → (r : Result Unit Fault)
        → Step (λ u. LogPrepares x.log old log' new) (LogPrepareBreaks x.log old new) x.log.shape 0 old new r
        → Step (λ u. StepsOn x old (record x { log = log' }) new) (Breaks x old new) x.log.shape 1 old new r
    made_prepared erases r step = Step-says r _ _ _ _ _ 0 1 old new (omega arith) (λ u ended. steps_on x old (record x { log = log' }) new (prepared erases ended))
        (λ broken frames top found m may. broken top found m (wait.may_prepare x frames old top found m may level k.is k.shared k.known)) step

    module _ (merges : LogMerges x.log old level (output x.schedule).count (output x.schedule).blocks log' new)
        (levels' : Levels) (arena' : Frames) (pool' : Blocks) (schedule' : Schedule) where
      -- what the exchange leaves, for whatever is on the flash
      abbrev Replaces : Type 0
      Replaces = (frames : ℕ) (top : ℕ × Root) (found : Found) (m : Map) (may : MayWork x frames old.pages top found m)
          → Replaced x frames old top found m may level k.is k.shared k.known new levels' arena' (freed pool') schedule'.job

      pub first_replaces : level ≡ 1 → (older : Option (List ℕ)) → older ≡ older_of x.log.root.older
          → EndsFirst x.levels x.arena (freed x.pool) x.schedule.job (blocks_or_none older) levels' arena' (freed pool') schedule'.job → Replaces
      first_replaces one older told e frames top found m may =
          let f = merges top found m (wait.may_merge x frames old top found m may level k.is k.shared k.known) in
          let here = subst (λ (p : Blocks). EndsFirst x.levels x.arena p x.schedule.job (blocks_or_none older) levels' arena' (freed pool') schedule'.job)
          (freed_same x.pool may.settles.none_leaves) e in
          let e' = subst (λ os. EndsFirst x.levels x.arena x.pool x.schedule.job os levels' arena' (freed pool') schedule'.job) (ap blocks_or_none told ∙ older_is (frames, top, found, m, may)) here in
          replaced_one x frames old top found m may level k.is k.shared k.known new f.behind one levels' arena' (freed pool') schedule'.job e'

      pub deep_replaces : 2 ≤ level → EndsDeep x.levels x.arena (freed x.pool) x.schedule.job level levels' arena' (freed pool') schedule'.job → Replaces
      deep_replaces deep e frames top found m may =
          let f = merges top found m (wait.may_merge x frames old top found m may level k.is k.shared k.known) in
          replaced_deep x frames old top found m may level k.is k.shared k.known new f.behind deep levels' arena' (freed pool') schedule'.job
          (subst (λ (p : Blocks). EndsDeep x.levels x.arena p x.schedule.job level levels' arena' (freed pool') schedule'.job) (freed_same x.pool may.settles.none_leaves) e)

      -- so the frames of the levels that may have none may be freed
      pub ask_release : Stands x old → Replaces → (others : List ℕ) × HasLeases levels'.shape (length arena'.used) levels' arena' others
      ask_release s replaces = (
        [],
        leases_are x s.0 old s.1 s.2 s.3 s.4 level k.is k.shared k.known new levels' arena' (freed pool') schedule'.job (replaces s.0 s.1 s.2 s.3 s.4),
      )

      module _ (programs : programs_next x.log.next ≡ true) (rest : schedule' ≡ record x.schedule { job = schedule'.job; phase = Idle })
          (levels_last : Levels) (arena_last : Frames) (e : Releases levels' arena' levels_last arena_last) where
        abbrev then_index : LogState → Schedule → Index
        then_index l s = record { log = l; levels = levels_last; arena = arena_last; pool = pool'; schedule = s }

        abbrev ended_schedule : Schedule
        ended_schedule = record x.schedule { job = schedule'.job; phase = Idle }

        pub made_release : Replaces → used_by Values pool'.states ≡ used_by Values x.pool.states → StepsOn x old (then_index log' schedule') new
        made_release replaces counted = steps_on x old (then_index log' schedule') new (λ frames top found m may.
            let f = merges top found m (wait.may_merge x frames old top found m may level k.is k.shared k.known) in
            let was = replaces frames top found m may in
            let r = released x frames old top found m may level k.is k.shared k.known new levels' arena' (freed pool') schedule'.job was levels_last arena_last e in
            let has = released_arena x frames old top found m may level k.is k.shared k.known new levels' arena' (freed pool') schedule'.job was levels_last arena_last e in
            let P : LogState → Schedule → Type 0 = λ l s. IndexMoves x frames old found m (then_index l s) new × LessIsLeft x (then_index l s) in
            subst (λ s. P log' s) (sym rest) (subst (λ l. P l ended_schedule) (sym f.merged_is) (
              installed_moves x frames old top found m may level k.is k.shared k.known new log' programs f levels_last arena_last pool' schedule'.job r has counted,
              installed_less x frames old top found m may level k.is k.shared k.known new log' programs f levels_last arena_last pool' schedule'.job r has counted,
            )))
