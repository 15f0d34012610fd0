-- A merge whose output is complete: what its install requires.
use Rattle.std.proofs.Common.{◌≡◌, inl, inr, ℕ, zero, suc, ◌-◌, ◌/◌, ◌<◌, ◌≤◌, true, T, List, [], ◌∷◌, ◌++◌, length, map, slice_set, slice_index_or, Some, None, Ok, refl, sym, ap, subst, ◌∙◌, arith}
use Rattle.std.proofs.Common.{le→leb}
use Rattle.std.{specs.Prelude.slice_get, proofs.lemmas.List.length-set, specs.List.concat, specs.List.AllByRecursion}
use Rattle.pk_base.{specs.Shape.Shape, specs.Shape.IsShape, specs.Shape.run_blocks, specs.Entry.Entry, specs.Firsts.firsts, specs.Merge.room, specs.Merge.next_merge, specs.Page.page_at, specs.Map.Map}
use Rattle.pk_base.{proofs.Logic.is_true, specs.declared.sizes.TheConstants.MOST_SPACES}
use Rattle.pk_meta.specs.Run.{run}
use Rattle.pk_plan.specs.declared.owner.Owner.TheVariants.{Journal, Meta, Values}
use Rattle.pk_nand.specs.BoardState.{BoardState}
use Rattle.pk_rootfmt.specs.Root.{Root, is_root, named, differ}
use Rattle.pk_pin.{specs.Frames.Frames, specs.Frames.AreLeases, specs.Frames.times, proofs.Leases.times-append}
use Rattle.pk_model.{specs.Found.Found, proofs.Commits.blocks_of_root, proofs.Commits.differ_front, proofs.Commits.apart, proofs.SamePages.any_back, specs.RootLimits.root_spaces}
use Rattle.pk_pool.{specs.declared.state.BlockState.TheVariants.Owned, specs.Blocks.given_back, specs.Blocks.Blocks, specs.Blocks.IsShared, proofs.Sharing.behind_roots, proofs.Sharing.exists}
use Rattle.pk_pool.proofs.States.{owned_is_not_root}
use Rattle.pk_run.{specs.Kept.Kept, specs.Kept.empty, specs.Leases.AreLeased, proofs.Leasing.are_leased, proofs.Pieces.run_in}
use Rattle.pk_level.{specs.Levels.Levels, specs.Levels.IsLevels, specs.Levels.run_of, specs.Levels.with_run, specs.Arenas.leases_of, specs.Arenas.IsPinnedIf}
use Rattle.pk_law_steps.{specs.Merging.IsMerged, specs.Merging.output_of, specs.Merging.blocks_at, proofs.FourRuns.IsLevel, proofs.FourRuns.next_is_level, proofs.Freeing.in_one}
use Rattle.pk_law_steps.{proofs.NewestBlocks.valid_root, proofs.Outputs.output_fits, proofs.Places.In, proofs.Places.differ_back, proofs.Spelling.merged_grammar, proofs.OutputSpaces.output_in_spaces}
use Rattle.pk_merge.specs.Jobs.{Job, IsIdle, AreOwned, all_spare, held_at, taken_from, given_to, pins}
use Rattle.pk_merge.{specs.Laws.IsFormer, specs.Laws.done_with, proofs.Ending.idle_one}
use Rattle.pk_compact.specs.FreezeSteps.{taken_by}
use Rattle.pk_log.specs.MergeSteps.{MayPrepare, MayMerge}
use Rattle.pk_schedule.{specs.declared.phase.Phase.TheVariants.Ready, specs.Index.Index, specs.Index.MergeStands, specs.Index.MergeWaits, specs.Index.output, specs.Steps.MayWork, proofs.Grown.got_in}
use Rattle.pk_schedule.{specs.Exchanges.CanExchange, specs.Exchanges.Exchanges, specs.Exchanges.CanFree, specs.Exchanges.CanEndFirst, specs.Exchanges.CanEndDeep, proofs.Backlogs.frozen_is}
use Rattle.pk_schedule.{proofs.Ended.SecondRun, proofs.Ended.second_run, proofs.Giving.GivesBack, proofs.Giving.gives_back, proofs.Giving.one_owner}
use Rattle.pk_schedule.proofs.Replacing.{blocks_at_level, of_level, at_other, leases_set, places_differ}

-- ---- different runs

pub run_differs : (i : ℕ) (runs : List (List ℕ)) → T (differ (concat runs)) → T (differ (slice_index_or runs i []))
run_differs i [] d = tt
run_differs zero (bs ∷ runs) d = differ_front bs (concat runs) d
run_differs (suc i) (bs ∷ runs) d = run_differs i runs (differ_back bs (concat runs) d)

pub runs_apart : (b i j : ℕ) (runs : List (List ℕ)) → (i ≡ j → ⊥) → T (differ (concat runs)) → In b (slice_index_or runs i []) → In b (slice_index_or runs j []) → ⊥
runs_apart b i j [] away d one other = one
runs_apart b zero zero (bs ∷ runs) away d one other = away refl
runs_apart b zero (suc j) (bs ∷ runs) away d one other = apart b bs (concat runs) d one (in_one b j runs other)
runs_apart b (suc i) zero (bs ∷ runs) away d one other = apart b bs (concat runs) d other (in_one b i runs one)
runs_apart b (suc i) (suc j) (bs ∷ runs) away d one other = runs_apart b i j runs (λ e. away (ap suc e)) (differ_back bs (concat runs) d) one other

all_from : (P : ℕ → Type 0) (xs : List ℕ) → ((b : ℕ) → In b xs → P b) → AllByRecursion P xs
all_from P [] each = tt
all_from P (x ∷ xs) each = (each x (inl refl), all_from P xs (λ b is. each b (inr is)))

length_none : (xs : List ℕ) → (0 < length xs → ⊥) → xs ≡ []
length_none [] none = refl
length_none (x ∷ xs) none = absurd (none (omega arith))

-- a merge is next only if something is frozen
some_frozen : (shape : Shape) (frozen : ℕ) (counts : List ℕ) (level : ℕ) → next_merge shape frozen counts ≡ Some level → 0 < frozen
some_frozen shape zero counts level next = absurd (let x : ⊥ = cc in x)
some_frozen shape (suc n) counts level next = omega arith

module _ (x : Index) (frames : ℕ) (old : BoardState) (top : ℕ × Root) (found : Found) (m : Map) (may : MayWork x frames old.pages top found m) (level : ℕ) (is : x.schedule.phase ≡ Ready level)
    (shared : IsShared x.pool.shape x.pool.states) (known : IsLevels x.levels) where
  abbrev shape : Shape
  shape = x.log.shape

  abbrev job : Job
  job = x.schedule.job

  abbrev out : Kept
  out = output x.schedule

  abbrev root : Root
  root = top.1

  pub waits : MergeWaits x old.pages root found level
  waits = subst (λ p. MergeStands p x old.pages root found) is may.stands.merge

  is_shape : IsShape shape
  is_shape = may.stands.logs.is_shape

  pub valid : T (is_root shape root)
  valid = valid_root shape (page_at old.pages) top may.stands.logs.is_top

  pub is_level : IsLevel level
  is_level = next_is_level shape (length (firsts found.older)) (map (λ es. length es) found.runs) level waits.into.due

  pub least : 1 ≤ level
  least = omega (arith, is_level)

  pub most : level ≤ 4
  most = omega (arith, is_level)

  pub all_differ : T (differ (named root))
  all_differ = (blocks_of_root shape root valid).different

  pub runs_differ : T (differ (concat root.runs))
  runs_differ = differ_back (root.newest ++ root.older) (concat root.runs) all_differ

  -- ---- nothing is taken for a freeze

  pub frozen_some : 0 < length x.log.frozen.entries
  frozen_some =
      let same = frozen_is x frames old.pages top found may.stands in
      let some = some_frozen shape (length (firsts found.older)) (map (λ es. length es) found.runs) level waits.into.due in
      omega (arith, same, some)

  pub none_taken : taken_by x.schedule.freeze ≡ []
  none_taken = length_none (taken_by x.schedule.freeze)
      (λ some. let none : length x.log.frozen.entries ≡ 0 = ap (λ (xs : List Entry). length xs) (may.stands.freeze.none_frozen some) in let more = frozen_some in omega (arith, none, more))

  -- ---- the root that follows

  pub few : out.count ≤ room shape level
  few =
      let fits = output_fits shape old.pages [] top found m level is_shape may.under waits.into.due in
      let many : length (output_of level found) ≡ out.count = waits.whole.stands.many in
      omega (arith, fits, many)

  size : length out.blocks ≡ run_blocks shape out.count
  size = waits.whole.blocks ∙ ap (λ (s : Shape). run_blocks s out.count) waits.into.output_shape

  inside : (b : ℕ) → In b out.blocks → (2 ≤ b) × (b < shape.blocks)
  inside b among =
      let owned = waits.into.held.owned b among in (
        behind_roots x.pool.shape x.pool.states b (Owned Meta) (owned_is_not_root {o = Meta}) owned shared,
        subst (λ (s : Shape). b < s.blocks) may.stands.pool_shape (exists x.pool.shape x.pool.states b (Owned Meta) owned shared),
      )

  pub is_merged : IsMerged shape old.pages [] top found level out.count out.blocks
  is_merged = record {
    next = waits.into.due;
    stands = run_in shape MOST_SPACES (root_spaces shape root) (page_at old.pages) level out.count out.blocks (output_of level found)
        (subst (λ (s : Shape). run s MOST_SPACES (page_at old.pages) level out.count out.blocks ≡ Ok (output_of level found)) waits.into.output_shape
        (subst (λ l. run out.shape MOST_SPACES (page_at old.pages) l out.count out.blocks ≡ Ok (output_of level found)) waits.into.output_level waits.whole.stands.read))
        (output_in_spaces shape (page_at old.pages) root found level may.under.is_found);
    size = size;
    grammar = merged_grammar shape root level out.count out.blocks (is_true _ valid) least most few size waits.into.held.different inside waits.into.held.unnamed
        (let number = may.number in let same : x.log.root.number ≡ root.number = ap (λ (r : Root). r.number) may.stands.logs.root_is in omega (arith, number, same));
    fresh = waits.into.held.unnamed;
    outside = λ k value among. no_other (one_owner x.pool Values Meta (k / shape.block_pages) (may.values k value) (waits.into.held.owned (k / shape.block_pages) among));
  }
    where
      no_other : Values ≡ Meta → ⊥
      no_other e = cc

  pub may_prepare : MayPrepare x.log old.pages top found m
  may_prepare = record { logs = may.stands.logs; under = may.under }

  pub may_merge : MayMerge x.log old.pages top found m level out.count out.blocks
  may_merge = record { logs = may.stands.logs; under = may.under; merged = is_merged; few = few; number = may.number }

  -- ---- the job

  abbrev pub idle_job : Job
  idle_job = record { pinned = job.pinned; target = 0; output = None; merger = job.merger; spares = all_spare shape }

  pub job_is : done_with shape idle_job level out job.merger ≡ job
  job_is = λ i. record { pinned = job.pinned; target = sym waits.into.target i; output = sym waits.into.has_output i; merger = job.merger; spares = sym waits.into.spares i }

  pub idle_job_is : IsIdle shape idle_job
  idle_job_is = record { target = refl; output = refl; spares = refl; merger = waits.into.merger_shape }

  -- the former run of a level
  pub former_of : (n : ℕ) → 1 ≤ n → IsFormer shape n (run_of x.levels n)
  former_of n some =
      let it = of_level x.levels.shape x.levels.pinned 1 x.levels.runs (n - 1) (empty x.levels.shape n)
      (λ k e. record { same_shape = refl; same_level = omega (arith, e, some); frames = λ le. refl }) known.each n (omega (arith, some)) in
      record { same_shape = it.same_shape ∙ may.stands.levels_shape; same_level = it.same_level }

  pub blocks_are : (n : ℕ) → (run_of x.levels n).blocks ≡ blocks_at root.runs n
  blocks_are n = blocks_at_level shape x.levels.runs root.runs (n - 1) (empty x.levels.shape n) refl may.stands.run_blocks

  pub former_owned : (n b : ℕ) → In b (run_of x.levels n).blocks → slice_get x.pool.states b ≡ Some (Owned Meta)
  former_owned n b among = may.stands.runs b (in_one b (n - 1) root.runs (subst (λ xs. In b xs) (blocks_are n) among))

  pub former_differs : (n : ℕ) → T (differ (run_of x.levels n).blocks)
  former_differs n = subst (λ xs. T (differ xs)) (sym (blocks_are n)) (run_differs (n - 1) root.runs runs_differ)

  -- ---- leases

  abbrev runs_one : List Kept
  runs_one = slice_set x.levels.runs (level - 1) out

  pub rows_one : AreLeases x.arena ((run_of x.levels level).leases ++ leases_of runs_one)
  rows_one l =
      let low : level - 1 < length x.levels.runs = (let four = known.four in let small = most in omega (arith, four, small)) in
      let set = leases_set l (level - 1) x.levels.runs out (empty x.levels.shape level) low in
      let now = times-append l (run_of x.levels level).leases (leases_of runs_one) in
      let was = times-append l (leases_of x.levels.runs) out.leases in
      let same : times l ((run_of x.levels level).leases ++ leases_of runs_one) ≡ times l (leases_of x.levels.runs ++ out.leases) = omega (arith, set, now, was) in
      same ∙ may.stands.arena_is.leases.only_these l

  pub exchange_one : CanExchange x.levels x.arena x.pool job level out
  exchange_one = record {
    held = subst (λ j. held_at j level ≡ Some out) job_is
        (idle_one shape idle_job level out (run_of x.levels level) job.merger idle_job_is waits.into.merger_shape least most (former_of level least)).0;
    of_level = record {
      same_shape = waits.into.output_shape ∙ sym may.stands.levels_shape;
      same_level = waits.into.output_level;
      frames = λ le.
          let pinned_is : job.pinned ≡ x.levels.pinned = may.stands.pins_are ∙ sym may.stands.levels_pinned in
          let told : pins job ≡ true = is_true _ (le→leb job.target job.pinned (let target = waits.into.target in omega (arith, le, pinned_is, target))) in
          subst (λ b. IsPinnedIf b out) told waits.whole.pinned;
    };
    owned = record { meta = λ i b got. former_owned level b (got_in (run_of x.levels level).blocks i b got); different = places_differ (run_of x.levels level).blocks (former_differs level) };
    leased = are_leased x.arena [] (run_of x.levels level).leases (leases_of runs_one) rows_one;
  }

  -- the pool after the exchange
  pub gives_one : GivesBack Meta (run_of x.levels level).blocks x.pool (given_back x.pool (run_of x.levels level).blocks)
  gives_one = gives_back Meta (run_of x.levels level).blocks x.pool (former_differs level) (former_owned level)

  -- ---- a merge into level 1

  -- the journal's blocks are unchanged
  pub journal_stays : (b : ℕ) → slice_get x.pool.states b ≡ Some (Owned Journal) → slice_get (given_back x.pool (run_of x.levels level).blocks).states b ≡ Some (Owned Journal)
  journal_stays b owned = gives_one.others b (λ among. other_owner (one_owner x.pool Journal Meta b owned (former_owned level b among))) ∙ owned
    where
      other_owner : Journal ≡ Meta → ⊥
      other_owner e = cc

  pub older_differs : T (differ root.older)
  older_differs = differ_back root.newest root.older (differ_front (root.newest ++ root.older) (concat root.runs) all_differ)

  pub older_owned : (b : ℕ) → In b root.older → slice_get x.pool.states b ≡ Some (Owned Journal)
  older_owned b among = may.stands.journal b (any_back (λ c. b ≡ c) root.newest root.older among)

  free_older : CanFree (given_back x.pool (run_of x.levels level).blocks) root.older
  free_older = record { different = is_true _ older_differs; owned = all_from _ root.older (λ b among. journal_stays b (older_owned b among)) }

  pub can_end_first : level ≡ 1 → CanEndFirst x.levels x.arena x.pool job root.older
  can_end_first one = record {
    out = out;
    first = subst (λ n. CanExchange x.levels x.arena x.pool job n out) one exchange_one;
    then_free = λ levels' arena' pool' job' e.
        let free : CanFree (given_back x.pool (run_of x.levels 1).blocks) root.older = subst (λ n. CanFree (given_back x.pool (run_of x.levels n).blocks) root.older) one free_older in
        subst (λ p. CanFree p root.older) (sym e.pool_is) free;
  }

  -- ---- a merge into a deeper level

  module _ (deep : 2 ≤ level) where
    abbrev source : Kept
    source = run_of x.levels (level - 1)

    abbrev runs_two : List Kept
    runs_two = slice_set runs_one (level - 1 - 1) (empty shape (level - 1))

    -- the source's run is still in its place
    pub source_is : run_of (with_run x.levels level out) (level - 1) ≡ source
    source_is = at_other x.levels.runs (level - 1) (level - 1 - 1) out (empty x.levels.shape (level - 1)) (λ e. omega (arith, e, deep))

    pub rows_two : AreLeases x.arena ((run_of x.levels level).leases ++ (source.leases ++ leases_of runs_two))
    rows_two l =
        let four = known.four in
        let small = most in
        let size_one : length runs_one ≡ length x.levels.runs = length-set x.levels.runs (level - 1) out in
        let low : level - 1 - 1 < length runs_one = omega (arith, four, small, size_one) in
        let set = leases_set l (level - 1 - 1) runs_one (empty shape (level - 1)) (empty x.levels.shape (level - 1)) low in
        let here : times l (run_of (with_run x.levels level out) (level - 1)).leases ≡ times l source.leases = ap (λ (r : Kept). times l r.leases) source_is in
        let none : times l (empty shape (level - 1)).leases ≡ 0 = refl in
        let one = times-append l (run_of x.levels level).leases (leases_of runs_one) in
        let two = times-append l (run_of x.levels level).leases (source.leases ++ leases_of runs_two) in
        let three = times-append l source.leases (leases_of runs_two) in
        let same : times l ((run_of x.levels level).leases ++ (source.leases ++ leases_of runs_two)) ≡ times l
        ((run_of x.levels level).leases ++ leases_of runs_one) = omega (arith, set, here, none, one, two, three) in
        same ∙ rows_one l

    pub source_stays : (b : ℕ) → In b source.blocks → slice_get (given_back x.pool (run_of x.levels level).blocks).states b ≡ Some (Owned Meta)
    source_stays b among =
        gives_one.others b (λ there. runs_apart b (level - 1 - 1) (level - 1) root.runs (λ e. omega (arith, e, deep)) runs_differ
        (subst (λ xs. In b xs) (blocks_are (level - 1)) among) (subst (λ xs. In b xs) (blocks_are level) there)) ∙ former_owned (level - 1) b among

    pub second : SecondRun shape (given_to (taken_from job level) (run_of x.levels level)) level
    second = subst (λ j. SecondRun shape (given_to (taken_from j level) (run_of x.levels level)) level) job_is
        (second_run shape idle_job level out (run_of x.levels level) job.merger idle_job_is waits.into.merger_shape deep most (former_of level least))

    pub exchange_two : (levels' : Levels) (arena' : Frames) (pool' : Blocks) (job' : Job) → Exchanges x.levels x.arena x.pool job level out levels' arena' pool' job'
        → CanExchange levels' arena' pool' job' (level - 1) (empty shape (level - 1))
    exchange_two levels' arena' pool' job' e =
        let its : run_of levels' (level - 1) ≡ source = ap (λ (ls : Levels). run_of ls (level - 1)) e.levels_are ∙ source_is in
        record {
          held = subst (λ j. held_at j (level - 1) ≡ Some (empty shape (level - 1))) (sym e.job_is) second.held;
          of_level = record { same_shape = sym (ap (λ (ls : Levels). ls.shape) e.levels_are ∙ may.stands.levels_shape); same_level = refl; frames = λ le. refl };
          owned = subst (λ (r : Kept). AreOwned pool' r.blocks) (sym its) (subst (λ p. AreOwned p source.blocks) (sym e.pool_is) (record {
            meta = λ i b got. source_stays b (got_in source.blocks i b got);
            different = places_differ source.blocks (former_differs (level - 1));
          }));
          leased = subst (λ (r : Kept). AreLeased arena' r.leases) (sym its) (are_leased arena' [] source.leases (leases_of runs_two) (e.leases (source.leases ++ leases_of runs_two) rows_two));
        }

    pub can_end_deep : CanEndDeep x.levels x.arena x.pool job level
    can_end_deep = record {
      out = out;
      first = exchange_one;
      then_second = λ levels' arena' pool' job' e. (empty shape (level - 1), exchange_two levels' arena' pool' job' e);
    }
