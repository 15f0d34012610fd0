-- A step of a freeze, over an index.
use Rattle.std.proofs.Common.{◌≡◌, ◌⊎◌, inl, inr, ℕ, ◌+◌, ◌/◌, ◌<◌, slice_index, Bool, true, false, not, ◌==◌, if◌then◌else◌, T, List, [], ◌∷◌, ◌++◌, length, reverse, Some, Result, Ok, Err, refl, sym}
use Rattle.std.proofs.Common.{ap, subst, ◌∙◌, arith, length-append, append-nil, eqb→eq}
use Rattle.std.proofs.lemmas.Bool.{ltb-true}
use Rattle.std.{specs.Prelude.slice_get, specs.Prelude.MatchBool, specs.Prelude.IfOk, specs.Prelude.OnOk, specs.Prelude.OnErr, specs.List.concat, specs.List.AllByRecursion}
use Rattle.pk_base.{specs.Shape.Shape, specs.Entry.Entry, specs.Firsts.firsts, specs.Page.page_at, specs.Map.Map, proofs.Logic.both_true}
use Rattle.pk_buf.specs.Table.{Table}
use Rattle.pk_plan.{specs.declared.owner.Owner.Owner, specs.declared.owner.Owner.TheVariants.Journal, specs.declared.owner.Owner.TheVariants.Meta, specs.declared.owner.Owner.TheVariants.Values}
use Rattle.pk_nand.{specs.declared.types.Fault.Fault, specs.BoardState.BoardState, specs.Effects.Stops}
use Rattle.pk_model.{specs.Steps.Step, specs.Found.Found, specs.Found.entries_in_order, specs.Values.placed, proofs.Commits.blocks_of_root, proofs.Commits.differ_front, proofs.Commits.member}
use Rattle.pk_model.proofs.SamePages.{any_front}
use Rattle.pk_rootfmt.specs.Root.{Root, differ}
use Rattle.pk_root.{specs.declared.next.Next.Next, specs.Installing.repeats_next}
use Rattle.pk_jrn.proofs.Puts.{firsts-reverse}
use Rattle.pk_pool.specs.declared.state.BlockState.TheVariants.{Free, Owned}
use Rattle.pk_pool.specs.Blocks.{Blocks, IsShared, used_by, NoneLeaves, given_back, freed}
use Rattle.pk_pool.proofs.Leaving.{left_and_freed, freed_same, freed_fits}
use Rattle.pk_merge.{specs.Jobs.IsIdle, specs.Elsewhere.IsElsewhere}
use Rattle.pk_law_steps.{specs.Under.IsUnder, specs.Under.places, specs.Next.tree_of, specs.Roots.frozen, specs.Roots.frozen_root, proofs.NewestBlocks.valid_root, proofs.Places.In}
use Rattle.pk_law_steps.proofs.UnderRoot.{none_named}
use Rattle.pk_compact.{specs.Freezing.IsApart, specs.FreezeSteps.IsTaken, specs.FreezeSteps.TakesOne, specs.FreezeSteps.taken_by, specs.declared.freezing.FreezeJob.FreezeJob, proofs.TakingOne.all_in}
use Rattle.pk_compact.specs.declared.freezing.FreezeJob.TheVariants.{Idle as NoFreeze}
use Rattle.pk_log.{specs.State.LogState, specs.Logs.LogOnFlash, proofs.Buffers.none_of_firsts, proofs.Buffers.tells_some}
use Rattle.pk_log.specs.FreezeSteps.{freeze_begun, CanStep, LogGoesOn, LogFrozen, LogSteps, LogStepBreaks}
use Rattle.pk_schedule.{specs.declared.phase.Phase.TheVariants.Idle, proofs.Keeping.elsewhere, proofs.Keeping.index_on, proofs.Standing.idle_of, proofs.Standing.apart_top, proofs.Standing.owned_beyond}
use Rattle.pk_schedule.specs.Index.{Index, IndexOnFlash, MergeStands, IsSettled, HalfStands, settled}
use Rattle.pk_schedule.specs.Steps.{MayWork, MayFreeze, KeepsValues, IndexMoves, Moves, Breaks, FreezeMoves, Freezes, has_no_merge, is_between}
use Rattle.pk_schedule.proofs.Giving.{GivesBack, gives_back, left_counted, none_more, Grown, grown_none, grown_one, one_owner}
use Rattle.pk_schedule.{proofs.Settled.none_leaves_set, proofs.Settled.whole_moves, proofs.Preparing.runs_stand, proofs.Preparing.same_page as same_page_behind}

length_none : {X : Type 0} (xs : List X) → length xs ≡ 0 → xs ≡ []
length_none [] none = refl
length_none (x ∷ xs) none = absurd (omega (arith, none))

-- ---- the pool after a step that goes on

-- only the journal may have some more
grown : (pool : Blocks) (job : FreezeJob) (pool' : Blocks) (job' : FreezeJob) → TakesOne pool job pool' job' → (n : ℕ) × Grown Journal pool pool' n × (length (taken_by job') ≡ length (taken_by job) + n)
grown pool job pool' job' (inl same) =
    (0, grown_none Journal pool pool' same.0, (let e : length (taken_by job') ≡ length (taken_by job) = ap (λ j. length (taken_by j)) same.1 in omega (arith, e)))
grown pool job pool' job' (inr (b, spare, pool_is, job_is)) =
    (1, grown_one Journal pool pool' b spare pool_is, ap (λ (xs : List ℕ). length xs) job_is ∙ length-append (taken_by job) (b ∷ []))

-- no block leaves
none_leave : (pool : Blocks) (job : FreezeJob) (pool' : Blocks) (job' : FreezeJob) → NoneLeaves pool → TakesOne pool job pool' job' → NoneLeaves pool'
none_leave pool job pool' job' none (inl same) = subst NoneLeaves (sym same.0) none
none_leave pool job pool' job' none (inr (b, spare, pool_is, job_is)) = subst NoneLeaves (sym pool_is) (none_leaves_set pool b (Owned Journal) refl none)

-- ---- a freeze leaves the entries that count

same_places : (found : Found) → found.older ≡ [] → places (frozen found) [] ≡ places found []
same_places found none = ap (λ es. placed (firsts es)) entries
  where
    entries : entries_in_order (frozen found) [] ≡ entries_in_order found []
    entries = rw (none, append-nil found.newest, append-nil (reverse found.newest)) refl

module _ (x : Index) (frames : ℕ) (old : BoardState) (top : ℕ × Root) (found : Found) (m : Map) (may : MayWork x frames old.pages top found m) (none : has_no_merge x ≡ true) where
  abbrev shape : Shape
  shape = x.log.shape

  idle : (x.schedule.phase ≡ Idle) × IsIdle x.log.shape x.schedule.job
  idle = idle_of x.schedule.phase x old.pages top.1 found (both_true (is_between x.schedule.phase) (length x.log.frozen.entries == 0) none).0 may.stands.merge

  none_frozen : x.log.frozen.entries ≡ []
  none_frozen = length_none x.log.frozen.entries (eqb→eq (length x.log.frozen.entries) 0 (subst T (sym (both_true (is_between x.schedule.phase) (length x.log.frozen.entries == 0) none).1) tt))

  none_older : found.older ≡ []
  none_older =
      let same : x.log.frozen.entries ≡ firsts (reverse found.older) = ap (λ (t : Table). t.entries) may.stands.logs.frozen_is in
      none_of_firsts found.older (sym (firsts-reverse found.older) ∙ ap length (sym same ∙ none_frozen))

  no_older : top.1.older ≡ []
  no_older = none_named shape (page_at old.pages) top.1 found may.stands.logs.is_found none_older

  two : length top.1.newest ≡ 2
  two = (blocks_of_root shape top.1 (valid_root shape (page_at old.pages) top may.stands.logs.is_top)).two

  journal_used : used_by Journal x.pool.states ≡ 2 + length (taken_by x.schedule.freeze)
  journal_used =
      let few = may.stands.journal_few in
      let all = length-append top.1.newest top.1.older in
      let gone : length top.1.older ≡ 0 = ap (λ (xs : List ℕ). length xs) no_older in
      let pair = two in
      omega (arith, few, all, gone, pair)

  pub can_step : CanStep x.log x.pool x.schedule.freeze old.pages top found m
  can_step =
      let root_is = may.stands.logs.root_is in
      let R : Root → Type 0 = λ r. AllByRecursion (IsTaken shape x.pool old.pages r) (taken_by x.schedule.freeze) in
      let A : Root → Type 0 = λ r. IsApart shape x.pool r found in
      record {
        logs = may.stands.logs;
        whole = may.settles.whole;
        none_pending = may.none_pending;
        none_frozen = none_frozen;
        under = may.under;
        pool_shape = may.stands.pool_shape;
        pool_fits = may.stands.pool_fits;
        number = may.number;
        room = (let used = journal_used in omega (arith, used));
        owned = λ b is. may.stands.journal b (any_front (λ c. b ≡ c) top.1.newest top.1.older (subst (λ (r : Root). In b r.newest) root_is is));
        apart = subst A (sym root_is) (apart_top x frames old.pages top found m may);
        taken = subst R (sym root_is) may.stands.freeze.taken;
        different = may.stands.freeze.different;
      }

  module _ (shared : IsShared x.pool.shape x.pool.states) (pool' : Blocks) (new : BoardState) where
    -- ---- the freeze goes on

    module _ (next' : Next) (job' : FreezeJob) (on : LogGoesOn x.log x.pool x.schedule.freeze old top found m (record x.log { next = next' }) pool' job' new) where
      abbrev on_index : Index
      on_index = record x { log = record x.log { next = next' }; pool = pool'; schedule = record x.schedule { freeze = job' } }

      more : (n : ℕ) × Grown Journal x.pool pool' n × (length (taken_by job') ≡ length (taken_by x.schedule.freeze) + n)
      more = grown x.pool x.schedule.freeze pool' job' on.takes

      -- no page of a block differs that is not the journal's, nor one that the root names
      same_page : (o : Owner) (k : ℕ) → slice_get x.pool.states (k / shape.block_pages) ≡ Some (Owned o) → (In (k / shape.block_pages) (taken_by job') → ⊥) → page_at new.pages k ≡ page_at old.pages k
      same_page o k owned away = on.elsewhere k (owned_beyond x frames old.pages top found may.stands shared o k owned) away

      not_journal : (o : Owner) (b : ℕ) → (Journal ≡ o → ⊥) → slice_get x.pool.states b ≡ Some (Owned o) → In b (taken_by job') → ⊥
      not_journal o b away owned is = away (one_owner pool' Journal o b (all_in (IsTaken shape pool' new.pages x.log.root) (taken_by job') b on.still.taken is).owned (more.1.owned o b owned))

      beside : IsElsewhere x.pool old.pages pool' new.pages
      beside = elsewhere shape x.pool old.pages pool' new.pages may.stands.pool_shape more.1.shape on.still.pool_fits (more.1.others Meta (λ e. cc)) (more.1.owned Meta)
          (λ k owned. same_page Meta k owned (not_journal Meta (k / shape.block_pages) (λ e. cc) owned))

      stands_on : IndexOnFlash on_index frames new.pages top found
      stands_on =
          let R : Root → Type 0 = λ r. AllByRecursion (IsTaken shape pool' new.pages r) (taken_by job') in
          index_on x frames old.pages new.pages top found may.stands pool' beside x.log.epoch x.log.active x.log.pending found.newest next' job' on.still.logs (more.1.owned Journal)
          (let was = may.stands.journal_few in let now = more.1.has in let size = more.2 in omega (arith, was, now, size))
          (record { taken = subst R may.stands.logs.root_is on.still.taken; different = on.still.different; none_frozen = λ some. none_frozen })

      values_on : KeepsValues shape x.pool old.pages pool' new.pages
      values_on = record {
        size = more.1.size;
        owned = more.1.owned Values;
        no_more = more.1.no_more Values (λ e. cc);
        as_many = more.1.others Values (λ e. cc);
        pages = λ k owned. same_page Values k owned (not_journal Values (k / shape.block_pages) (λ e. cc) owned);
      }

      settles : IsSettled on_index
      settles = record { whole = on.still.whole; none_leaves = none_leave x.pool x.schedule.freeze pool' job' may.settles.none_leaves on.takes }

      pub went_on : IndexMoves x frames old found m on_index new × FreezeMoves x on_index
      went_on = (
        whole_moves x frames old top found m may on_index new settles stands_on refl refl may.none_pending on.still.under values_on on.cuts,
        record { log = refl; whole = on.still.whole; rest = refl; lowers = on.lowers; some = on.some },
      )

    -- ---- its root has its first program

    module _ (log' : LogState) (job' : FreezeJob) (f : LogFrozen x.log x.pool x.schedule.freeze old top found m log' pool' job' new) where
      abbrev then_root : Root
      then_root = frozen_root top.1 found f.first f.second

      abbrev then_log : LogState
      then_log = freeze_begun x.log then_root log'.next (f.first ∷ f.second ∷ [])

      abbrev over_index : Index
      over_index = record x { log = then_log; pool = pool'; schedule = record x.schedule { freeze = NoFreeze } }

      -- the pool as if the blocks that leave were free
      abbrev free : Blocks
      free = freed pool'

      -- the blocks that leave, and the older epoch's
      abbrev gone : List ℕ
      gone = if length found.newest == 0 then top.1.newest else []

      abbrev older : List ℕ
      older = if length found.newest == 0 then [] else top.1.newest

      in_gone : (z : Bool) (b : ℕ) → In b (if z then top.1.newest else []) → In b top.1.newest
      in_gone true b is = is
      in_gone false b is = absurd is

      either : (z : Bool) → length (if z then [] else top.1.newest) + length (if z then top.1.newest else []) ≡ 2
      either true = let e = two in omega (arith, e)
      either false = let e = two in omega (arith, e)

      newest_differs : T (differ top.1.newest)
      newest_differs = differ_front top.1.newest top.1.older
          (differ_front (top.1.newest ++ top.1.older) (concat top.1.runs) (blocks_of_root shape top.1 (valid_root shape (page_at old.pages) top may.stands.logs.is_top)).different)

      gone_differs : (z : Bool) → T (differ (if z then top.1.newest else []))
      gone_differs true = newest_differs
      gone_differs false = tt

      newest_owned : (b : ℕ) → In b top.1.newest → slice_get x.pool.states b ≡ Some (Owned Journal)
      newest_owned b is = may.stands.journal b (any_front (λ c. b ≡ c) top.1.newest top.1.older is)

      free_is : free ≡ given_back x.pool gone
      free_is = ap freed f.pool_is ∙ left_and_freed Journal x.pool gone ∙ ap (λ (p : Blocks). given_back p gone) (freed_same x.pool may.settles.none_leaves)

      gives : GivesBack Journal gone x.pool free
      gives = let P : Blocks → Type 0 = λ p. GivesBack Journal gone x.pool p in
          subst P (sym free_is) (gives_back Journal gone x.pool (gone_differs (length found.newest == 0)) (λ b is. newest_owned b (in_gone (length found.newest == 0) b is)))

      -- a block of another owner is unchanged, and so does one of the journal that is not given back
      stays : (o : Owner) (b : ℕ) → slice_get x.pool.states b ≡ Some (Owned o) → (In b gone → ⊥) → slice_get free.states b ≡ Some (Owned o)
      stays o b owned away = gives.others b away ∙ owned

      other_stays : (o : Owner) → (Journal ≡ o → ⊥) → (b : ℕ) → slice_get x.pool.states b ≡ Some (Owned o) → slice_get free.states b ≡ Some (Owned o)
      other_stays o away b owned = stays o b owned (λ is. away (one_owner x.pool Journal o b (newest_owned b (in_gone (length found.newest == 0) b is)) owned))

      taken : AllByRecursion (IsTaken shape x.pool old.pages top.1) (f.first ∷ f.second ∷ [])
      taken = subst (AllByRecursion (IsTaken shape x.pool old.pages top.1)) f.taken_are may.stands.freeze.taken

      taken_stays : (b : ℕ) → IsTaken shape x.pool old.pages top.1 b → slice_get free.states b ≡ Some (Owned Journal)
      taken_stays b t = stays Journal b t.owned
          (λ is. t.unnamed (any_front (λ c. b ≡ c) (top.1.newest ++ top.1.older) (concat top.1.runs) (any_front (λ c. b ≡ c) top.1.newest top.1.older (in_gone (length found.newest == 0) b is))))

      older_stays : (z : Bool) (b : ℕ) → ((b' : ℕ) → (In b' (if z then top.1.newest else []) → ⊥) → slice_get free.states b' ≡ slice_get x.pool.states b')
          → In b (if z then [] else top.1.newest) → slice_get free.states b ≡ Some (Owned Journal)
      older_stays true b others is = absurd is
      older_stays false b others is = others b (λ there. there) ∙ newest_owned b is

      journal_stays : (b : ℕ) → In b ((f.first ∷ f.second ∷ []) ++ older) → slice_get free.states b ≡ Some (Owned Journal)
      journal_stays b (inl e) = subst (λ n. slice_get free.states n ≡ Some (Owned Journal)) (sym e) (taken_stays f.first taken.0)
      journal_stays b (inr (inl e)) = subst (λ n. slice_get free.states n ≡ Some (Owned Journal)) (sym e) (taken_stays f.second taken.1.0)
      journal_stays b (inr (inr is)) = older_stays (length found.newest == 0) b gives.others is

      stands_over : IndexOnFlash (settled over_index) frames new.pages (f.page, then_root) (frozen found)
      stands_over =
          let L : LogState → Type 0 = λ l. LogOnFlash l new.pages (f.page, l.root) (frozen found) in
          record {
            logs = subst L f.begun_is f.logs;
            pool_shape = gives.same_shape ∙ may.stands.pool_shape;
            pool_fits = freed_fits pool' new.pages f.pool_fits;
            levels_shape = may.stands.levels_shape;
            levels_pinned = may.stands.levels_pinned;
            stand = runs_stand x frames old.pages top found may.stands shared new.pages f.behind;
            run_blocks = may.stands.run_blocks;
            arena_is = may.stands.arena_is;
            journal = journal_stays;
            journal_few =
                (let was = journal_used in
                let fewer = gives.fewer in
                let freeze : length (taken_by x.schedule.freeze) ≡ 2 = ap (λ (xs : List ℕ). length xs) f.taken_are in
                let all = either (length found.newest == 0) in
                let front = length-append (f.first ∷ f.second ∷ []) older in
                omega (arith, was, fewer, freeze, all, front));
            runs = λ b is. other_stays Meta (λ e. cc) b (may.stands.runs b is);
            runs_few = gives.same_used Meta (λ e. cc) ∙ may.stands.runs_few;
            pins_are = may.stands.pins_are;
            merge = subst (λ p. MergeStands p (settled over_index) new.pages then_root (frozen found)) (sym idle.0) idle.1;
            freeze = record { taken = tt; different = refl; none_frozen = λ some. absurd (omega (arith, some)) };
          }

      values_over : KeepsValues shape x.pool old.pages free new.pages
      values_over = record {
        size = gives.size;
        owned = other_stays Values (λ e. cc);
        no_more = none_more gone x.pool free gives.others gives.gone Values;
        as_many = gives.same_used Values (λ e. cc);
        pages = same_page_behind x frames old.pages top found may.stands shared new.pages f.behind Values;
      }

      -- something is frozen, or the former epoch's blocks leave
      keys : length x.log.active.entries ≡ length (firsts found.newest)
      keys =
          ap (λ (t : Table). length t.entries) may.stands.logs.active_is
          ∙ ap (λ (es : List Entry). length (firsts (reverse (found.newest ++ es)))) may.none_pending
          ∙ ap (λ (es : List Entry). length (firsts (reverse es))) (append-nil found.newest)
          ∙ firsts-reverse found.newest

      frozen_some : (length found.newest == 0) ≡ false → 0 < length x.log.active.entries
      frozen_some some = ltb-true 0 (length x.log.active.entries) (not_false _ (sym some ∙ tells_some found.newest (length x.log.active.entries) keys))
        where
          not_false : (b : Bool) → false ≡ not b → b ≡ true
          not_false true e = refl
          not_false false e = cc

      leaves_one : (length found.newest == 0) ≡ true → (b : ℕ) × (slice_get free.states b ≡ Some Free)
      leaves_one none_there = (
        slice_index top.1.newest 0,
        gives.gone (slice_index top.1.newest 0)
            (subst (λ (z : Bool). In (slice_index top.1.newest 0) (if z then top.1.newest else [])) (sym none_there) (member top.1.newest 0 (let e = two in omega (arith, e)))),
      )

      busy : (0 < length x.log.active.entries) ⊎ ((b : ℕ) × (slice_get free.states b ≡ Some Free))
      busy = elim (length found.newest == 0) as (λ z. (length found.newest == 0) ≡ z → (0 < length x.log.active.entries) ⊎ ((b : ℕ) × (slice_get free.states b ≡ Some Free))) [
        | true ↦ λ e. inr (leaves_one e)
        | false ↦ λ e. inl (frozen_some e)
      ] refl

      half : HalfStands over_index new.pages m
      half = record {
        half = f.half;
        no_merge = idle.0;
        no_freeze = refl;
        busy = busy;
        counted =
            ap (λ (p : Blocks). used_by Values p.states) f.pool_is
            ∙ left_counted Journal Values gone x.pool (gone_differs (length found.newest == 0)) (λ b is. newest_owned b (in_gone (length found.newest == 0) b is))
            ∙ sym values_over.as_many;
      }

      moves_over : IndexMoves x frames old found m over_index new
      moves_over =
          let U : LogState → Type 0 = λ l. IsUnder shape new.pages [] (f.page, l.root) (frozen found) m in
          let under : U then_log = subst U f.begun_is f.under in
          record {
            then_top = (f.page, then_root);
            then_found = frozen found;
            stands = stands_over;
            ends = inr half;
            same_shape = refl;
            none_pending = may.none_pending;
            under = under;
            same_places = same_places found none_older;
            values = values_over;
            begins = inr (ap repeats_next f.half.again);
            numbers = (let e : x.log.root.number ≡ top.1.number = ap (λ (r : Root). r.number) may.stands.logs.root_is in omega (arith, e));
            grows = inr (record {
              from = tree_of top.1 found;
              to = tree_of then_root (frozen found);
              was = record { page_of_root = top.0; is_newest = may.under.is_top; is_found = may.under.is_found };
              is = record { page_of_root = f.page; is_newest = under.is_top; is_found = under.is_found };
              step = inl (record { number = refl; none_frozen = none_older; epoch = refl; empty = refl; older = refl; frozen = refl; blocks = refl; runs = refl; limits = refl });
            });
            cuts = f.cuts;
          }

      pub went_over : IndexMoves x frames old found m over_index new × Freezes x over_index
      went_over = (moves_over, record { rest = refl; active = refl; frozen = refl; unused = refl; takes_more = refl; whole_epoch = refl; half = ap repeats_next f.half.again; lowers = f.lowers })

-- ---- either way, by what the log's step did

abbrev stepped_index : Index → LogState → Blocks → FreezeJob → Index
stepped_index x log' pool' job' = record x { log = log'; pool = pool'; schedule = record x.schedule { freeze = job' } }

module _ (x : Index) (none : has_no_merge x ≡ true) (shared : IsShared x.pool.shape x.pool.states) (old : BoardState) (log' : LogState) (pool' : Blocks) (job' : FreezeJob) (new : BoardState) where
  abbrev Made : Bool → ℕ → ℕ × Root → Found → Map → Type 0
  Made done frames top found m = IndexMoves x frames old found m (stepped_index x log' pool' job') new
      × MatchBool done (Freezes x (stepped_index x log' pool' job')) (FreezeMoves x (stepped_index x log' pool' job'))

  made : (done : Bool) → LogSteps x.log x.pool x.schedule.freeze old done log' pool' job' new
      → (frames : ℕ) (top : ℕ × Root) (found : Found) (m : Map) → MayWork x frames old.pages top found m → Made done frames top found m
  made true steps frames top found m may =
      let f = steps top found m (can_step x frames old top found m may none) in
      let P : LogState → FreezeJob → Type 0 = λ l j. IndexMoves x frames old found m (stepped_index x l pool' j) new × Freezes x (stepped_index x l pool' j) in
      let there : LogState = freeze_begun x.log (frozen_root top.1 found f.first f.second) log'.next (f.first ∷ f.second ∷ []) in
      subst (λ l. P l job') (sym f.begun_is) (subst (λ j. P there j) (sym f.idle) (went_over x frames old top found m may none shared pool' new log' job' f))
  made false steps frames top found m may =
      let on = steps top found m (can_step x frames old top found m may none) in
      let Q : LogState → Type 0 = λ l. LogGoesOn x.log x.pool x.schedule.freeze old top found m l pool' job' new in
      let P : LogState → Type 0 = λ l. IndexMoves x frames old found m (stepped_index x l pool' job') new × FreezeMoves x (stepped_index x l pool' job') in
      subst P (sym on.same_log) (went_on x frames old top found m may none shared pool' new log'.next job' (subst Q on.same_log on))

  abbrev LogStep : Result Bool Fault → Type 0
  LogStep r = Step (λ done. LogSteps x.log x.pool x.schedule.freeze old done log' pool' job' new) (LogStepBreaks x.log x.pool x.schedule.freeze old new) x.log.shape 1 old new r

  pub moves : (r : Result Bool Fault) → LogStep r → OnOk r (Moves x old (stepped_index x log' pool' job') new)
  moves (Ok done) step = λ frames top found m may. (made done step.ended frames top found m may).0
  moves (Err fault) step = tt

  pub freezes : (r : Result Bool Fault) → LogStep r → (frames : ℕ) × (top : ℕ × Root) × (found : Found) × (m : Map) × MayFreeze x frames old.pages top found m
      → IfOk r (λ done. MatchBool done (Freezes x (stepped_index x log' pool' job')) (FreezeMoves x (stepped_index x log' pool' job')))
  freezes (Ok done) step may = (made done step.ended may.0 may.1 may.2 may.3 may.4.may).1
  freezes (Err fault) step may = tt

  pub broken : (r : Result Bool Fault) → LogStep r → OnErr r (Breaks x old new × Stops old new)
  broken (Ok done) step = tt
  broken (Err fault) step = (λ frames top found m may. step.broken top found m (can_step x frames old top found m may none), step.stops)
