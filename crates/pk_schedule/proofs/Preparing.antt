-- The erase before the root of a merge, over an index.
use Rattle.std.proofs.Common.{◌≡◌, ℕ, ◌+◌, ◌/◌, ◌<◌, true, false, List, [], length, Some, None, refl, sym, ap, subst, ◌∙◌, arith, mul-le-mul_right}
use Rattle.std.{specs.Prelude.slice_get, specs.List.AllByRecursion}
use Rattle.pk_base.{specs.Shape.Shape, specs.Merge.next_merge, specs.Page.Flash, specs.Page.page_at, specs.Page.SameBehind, specs.Map.Map, proofs.ShapeLemmas.block_pages_positive}
use Rattle.pk_law_work.{specs.Rest.Lowers, specs.Rest.left_of, specs.Rest.whole_merge, specs.Steps.MovesMerge, proofs.Lowering.moves}
use Rattle.pk_plan.{specs.declared.owner.Owner.Owner, specs.declared.owner.Owner.TheVariants.Meta, specs.declared.owner.Owner.TheVariants.Values}
use Rattle.pk_nand.specs.BoardState.{BoardState}
use Rattle.pk_rootfmt.specs.Root.{Root}
use Rattle.pk_root.{specs.declared.next.Next.Next, specs.Installing.erases_next, specs.Installing.programs_next, specs.Installing.repeats_next}
use Rattle.pk_root.specs.declared.next.Next.TheVariants.{Erase, Program}
use Rattle.pk_model.{specs.Found.Found, specs.Laws.AnyByRecursion}
use Rattle.pk_pool.{specs.declared.state.BlockState.TheVariants.Owned, specs.declared.state.BlockState.TheVariants.Ready as ReadyBlock, proofs.Fitting.PoolOnFlash-same, proofs.Sharing.behind_roots}
use Rattle.pk_pool.{specs.Blocks.Blocks, specs.Blocks.IsShared, specs.Blocks.PoolOnFlash, proofs.States.ready_is_not_root, specs.Unready.unready}
use Rattle.pk_run.specs.Kept.{Kept, RunOnFlash}
use Rattle.pk_level.{specs.Levels.IsLevels, specs.Levels.RunsOnFlash}
use Rattle.pk_law_steps.specs.Merging.{output_of as whole_output}
use Rattle.pk_compact.{specs.FreezeSteps.IsTaken, specs.FreezeSteps.taken_by, specs.FreezeSteps.install_steps, specs.declared.freezing.FreezeJob.FreezeJob, proofs.NextRoot.programs_whole}
use Rattle.pk_log.{specs.MergeSteps.LogPrepared, specs.Logs.LogOnFlash}
use Rattle.pk_schedule.{specs.declared.phase.Phase.TheVariants.Ready, proofs.Backlogs.frozen_is, proofs.Backlogs.entries_are, proofs.Keeping.RunOnFlash-same, proofs.Keeping.RunsOnFlash-same, proofs.Keeping.elsewhere, proofs.Keeping.index_on}
use Rattle.pk_schedule.{specs.Index.Index, specs.Index.IndexOnFlash, specs.Index.MergeWaits, specs.Index.output, specs.Index.IsSettled, proofs.Standing.owned_beyond}
use Rattle.pk_schedule.specs.Steps.{MayWork, KeepsValues, IndexMoves, LessIsLeft, backlog_of, merge_left, freeze_rest_of}
use Rattle.pk_schedule.{proofs.Waiting.waits, proofs.Waiting.none_taken, proofs.Settled.whole_moves}

-- a block that counts as erased is after the root blocks
pub pool_behind : (pool : Blocks) (old new : Flash) → IsShared pool.shape pool.states → SameBehind pool.shape old new → PoolOnFlash pool old → PoolOnFlash pool new
pool_behind pool old new shared behind fits = PoolOnFlash-same pool old new (λ b k ready inside.
    let least = behind_roots pool.shape pool.states b ReadyBlock ready_is_not_root ready shared in
    let twice = mul-le-mul_right pool.shape.block_pages least in
    let low = inside.0 in
    behind k (omega (arith, twice, low))) fits

-- ---- no page after the root blocks differs

module _ (x : Index) (frames : ℕ) (old : Flash) (top : ℕ × Root) (found : Found) (stands : IndexOnFlash x frames old top found) (shared : IsShared x.pool.shape x.pool.states)
    (new : Flash) (behind : SameBehind x.log.shape old new) where
  pub same_page : (o : Owner) (k : ℕ) → slice_get x.pool.states (k / x.log.shape.block_pages) ≡ Some (Owned o) → page_at new k ≡ page_at old k
  same_page o k owned = behind k (owned_beyond x frames old top found stands shared o k owned)

  pub pool_still : PoolOnFlash x.pool new
  pool_still = pool_behind x.pool old new shared (subst (λ (s : Shape). SameBehind s old new) (sym stands.pool_shape) behind) stands.pool_fits

  pub runs_stand : RunsOnFlash new x.arena x.levels.runs found.runs
  runs_stand = RunsOnFlash-same x.log.shape old new x.arena x.levels.runs top.1.runs found.runs (block_pages_positive x.log.shape stands.logs.is_shape) stands.run_blocks
      (λ k among. same_page Meta k (stands.runs (k / x.log.shape.block_pages) among)) stands.stand

  -- with no freeze, and another call of the installer next
  pub index_behind : (next : Next) → taken_by x.schedule.freeze ≡ [] → LogOnFlash (record x.log { next = next }) new top found
      → IndexOnFlash (record x { log = record x.log { next = next } }) frames new top found
  index_behind next none logs =
      let still = elsewhere x.log.shape x.pool old x.pool new stands.pool_shape refl pool_still refl (λ b is. is) (same_page Meta) in
      index_on x frames old new top found stands x.pool still x.log.epoch x.log.active x.log.pending found.newest next x.schedule.freeze logs (λ b is. is) stands.journal_few (record {
        taken = subst (AllByRecursion (IsTaken x.log.shape x.pool new top.1)) (sym none) tt;
        different = stands.freeze.different;
        none_frozen = stands.freeze.none_frozen;
      })

-- no freeze runs
pub no_freeze : (job : FreezeJob) (next : Next) → taken_by job ≡ [] → freeze_rest_of job next ≡ None
no_freeze job next none = rw (ap (λ (xs : List ℕ). length xs) none) refl

-- an install has one step less after its erase
one_fewer : (a b : Next) (u : ℕ) → programs_next a ≡ true → erases_next b ≡ true → Lowers (install_steps b) u (install_steps a) u
one_fewer (Program page) (Erase beside) u programs erases = record { none_ready = omega arith; less = omega arith }
one_fewer _ _ u programs erases = absurd (cc)

module _ (x : Index) (frames : ℕ) (old : BoardState) (top : ℕ × Root) (found : Found) (m : Map) (may : MayWork x frames old.pages top found m) (level : ℕ) (is : x.schedule.phase ≡ Ready level)
    (shared : IsShared x.pool.shape x.pool.states) (known : IsLevels x.levels) where
  abbrev shape : Shape
  shape = x.log.shape

  abbrev out : Kept
  out = output x.schedule

  ready : MergeWaits x old.pages top.1 found level
  ready = waits x frames old top found m may level is shared known

  none : taken_by x.schedule.freeze ≡ []
  none = none_taken x frames old top found m may level is shared known

  -- a flash of which no page after the root blocks differs
  module _ (new : Flash) (behind : SameBehind shape old.pages new) where
    pub output_stands : RunOnFlash out new x.arena (whole_output level found)
    output_stands =
        let own : (k : ℕ) → AnyByRecursion (λ b. k / out.shape.block_pages ≡ b) out.blocks → page_at new k ≡ page_at old.pages k =
        λ k among. same_page x frames old.pages top found may.stands shared new behind Meta k (ready.into.held.owned (k / shape.block_pages) (subst (λ (s : Shape). AnyByRecursion (λ b. k / s.block_pages ≡ b) out.blocks) ready.into.output_shape among)) in
        RunOnFlash-same out old.pages new x.arena (whole_output level found)
        (subst (λ (s : Shape). 0 < s.block_pages) (sym ready.into.output_shape) (block_pages_positive shape may.stands.logs.is_shape)) own ready.whole.stands

  -- what remains of the merge, and that it is the next one
  pub merge_is : merge_left x.schedule.phase x ≡ Some (install_steps x.log.next)
  merge_is = ap (λ q. merge_left q x) is

  pub due_now : next_merge shape (backlog_of x).frozen (backlog_of x).runs ≡ Some level
  due_now = (λ i. next_merge shape (frozen_is x frames old.pages top found may.stands i) (entries_are x frames old.pages top found may.stands i)) ∙ ready.into.due

  module _ (new : BoardState) (next' : Next) (erases : erases_next x.log.next ≡ true) (p : LogPrepared x.log old top found m (record x.log { next = next' }) new) where
    abbrev then_index : Index
    then_index = record x { log = record x.log { next = next' } }

    stands_on : IndexOnFlash then_index frames new.pages top found
    stands_on = index_behind x frames old.pages top found may.stands shared new.pages p.behind next' none p.logs

    whole : repeats_next next' ≡ false
    whole = programs_whole next' p.programs

    settles : IsSettled then_index
    settles = record { whole = whole; none_leaves = may.settles.none_leaves }

    values : KeepsValues shape x.pool old.pages x.pool new.pages
    values = record { size = refl; owned = λ b is. is; no_more = λ b is. is; as_many = refl; pages = same_page x frames old.pages top found may.stands shared new.pages p.behind Values }

    pub prepared_moves : IndexMoves x frames old found m then_index new
    prepared_moves = whole_moves x frames old top found m may then_index new settles stands_on refl refl may.none_pending p.under values p.cuts

    moved : backlog_of then_index ≡ record (backlog_of x) { merge = Some (install_steps next') }
    moved = λ i. record (backlog_of x) {
      merge = ap (λ q. merge_left q then_index) is i;
      freeze = (no_freeze x.schedule.freeze next' none ∙ sym (no_freeze x.schedule.freeze x.log.next none)) i;
      half = (whole ∙ sym may.settles.whole) i;
    }

    pub prepared_less : LessIsLeft x then_index
    prepared_less =
        let step : MovesMerge shape (backlog_of x) (backlog_of then_index) = record {
          level = level;
          left = install_steps next';
          due = due_now;
          moved = moved;
          lowers = subst (λ o. Lowers (left_of (whole_merge shape level) o) (unready x.pool.states) (install_steps next') (unready x.pool.states))
              (sym merge_is) (one_fewer next' x.log.next (unready x.pool.states) p.programs erases);
        } in
        let less = moves shape (backlog_of x) (backlog_of then_index) step in
        record { work = less.0; merging = less.1; roots = ap (λ n. x.log.root.number + n) less.2 }
