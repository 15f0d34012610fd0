-- The second program of a root, over an index.
use Rattle.std.proofs.Common.{◌≡◌, ◌⊎◌, inl, inr, ℕ, ◌+◌, true, false, refl, sym, ap, subst, ◌∙◌, arith, Result, Ok, Err}
use Rattle.std.{specs.Prelude.OnOk, specs.Prelude.OnErr}
use Rattle.pk_base.{specs.Shape.Shape, specs.Page.Flash, specs.Map.Map}
use Rattle.pk_law_work.{specs.Steps.EndsPair, proofs.Lowering.pair_ends}
use Rattle.pk_plan.{specs.declared.owner.Owner.TheVariants.Values}
use Rattle.pk_nand.{specs.BoardState.BoardState, specs.declared.types.Fault.Fault}
use Rattle.pk_pin.specs.Frames.{Frames}
use Rattle.pk_rootfmt.specs.Root.{Root}
use Rattle.pk_root.{specs.declared.next.Next.Next, specs.Installing.repeats_next}
use Rattle.pk_pool.{specs.Blocks.Blocks, specs.Blocks.IsShared, specs.Blocks.freed, specs.Unready.unready}
use Rattle.pk_pool.{proofs.Leaving.freed_unready, proofs.Leaving.shared_freed, proofs.Leaving.none_leaves}
use Rattle.pk_level.{specs.Levels.Levels}
use Rattle.pk_model.specs.Found.{Found}
use Rattle.pk_compact.{specs.Steps.StepByCall}
use Rattle.pk_log.{specs.State.LogState, specs.Finishing.MayFinish, specs.Finishing.LogFinished, specs.Finishing.LogFinishes, specs.Finishing.LogFinishBreaks}
use Rattle.pk_schedule.{specs.declared.phase.Phase.Phase, specs.declared.phase.Phase.TheVariants.Idle, proofs.Preparing.index_behind, proofs.Preparing.same_page, proofs.Preparing.no_freeze}
use Rattle.pk_schedule.{specs.Index.Index, specs.Index.Schedule, specs.Index.IndexOnFlash, specs.Index.settled, specs.Index.index}
use Rattle.pk_schedule.specs.Steps.{MayFreeze, MaySettle, IndexSettles, Settles, SettleBreaks, LessIsLeft, backlog_of, merge_left}

module _ (x : Index) (frames : ℕ) (old : BoardState) (top : ℕ × Root) (found : Found) (m : Map) (may : MaySettle x frames old.pages top found m) where
  abbrev shape : Shape
  shape = x.log.shape

  abbrev free : Blocks
  free = freed x.pool

  pub may_finish : MayFinish x.log old.pages top found m
  may_finish = record { logs = may.stands.logs; under = may.under; half = may.half.half }

  -- nothing after the root blocks differs
  module _ (shared : IsShared x.pool.shape x.pool.states) (new : BoardState) (next' : Next) (f : LogFinished x.log old top found m (record x.log { next = next' }) new) where
    abbrev then_index : Index
    then_index = record (settled x) { log = record x.log { next = next' } }

    free_shared : IsShared free.shape free.states
    free_shared = shared_freed x.pool.shape x.pool.states shared

    stands_then : IndexOnFlash then_index frames new.pages top found
    stands_then = index_behind (settled x) frames old.pages top found may.stands free_shared new.pages f.behind next' may.half.no_freeze f.logs

    ended : backlog_of then_index ≡ record (backlog_of x) { half = false; unready = unready free.states }
    ended = λ i. record (backlog_of x) {
      merge = (no_merge x.schedule.phase then_index x may.half.no_merge) i;
      freeze = (no_freeze x.schedule.freeze next' may.half.no_freeze ∙ sym (no_freeze x.schedule.freeze x.log.next may.half.no_freeze)) i;
      half = f.whole i;
      unready = unready free.states;
    }
      where
        no_merge : (p : Phase) (y z : Index) → p ≡ Idle → merge_left p y ≡ merge_left p z
        no_merge p y z idle = ap (λ (q : Phase). merge_left q y) idle ∙ sym (ap (λ (q : Phase). merge_left q z) idle)

    less : LessIsLeft x then_index
    less =
        let step : EndsPair (backlog_of x) (backlog_of then_index) = record {
          was_half = ap repeats_next may.half.half.again;
          ended = ended;
          none_more = (let same = freed_unready x.pool in omega (arith, same));
        } in
        let l = pair_ends shape (backlog_of x) (backlog_of then_index) step in
        record { work = l.0; merging = l.1; roots = ap (λ (n : ℕ). x.log.root.number + n) l.2 }

    pub index_settles : IndexSettles x frames old top found m then_index new
    index_settles = record {
      stands = stands_then;
      settles = record { whole = f.whole; none_leaves = none_leaves x.pool };
      pages = f.pages;
      log = refl;
      rest = refl;
      under = f.under;
      values = record {
        size = refl;
        owned = λ b is. is;
        no_more = λ b is. is;
        as_many = refl;
        pages = same_page (settled x) frames old.pages top found may.stands free_shared new.pages f.behind Values;
      };
      less = less;
      number = f.number;
      grows = inl (f.under.is_top ∙ sym may.under.is_top);
      cuts = f.cuts;
    }

-- ---- by what the log's call did

module _ (x : Index) (shared : IsShared x.pool.shape x.pool.states) (old new : BoardState) (log' : LogState) (same : log' ≡ record x.log { next = log'.next }) where
  pub settles : (pool' : Blocks) → pool' ≡ freed x.pool → LogFinishes x.log old log' new → Settles x old (record x { log = log'; pool = pool' }) new
  settles pool' pool_is finishes frames top found m may =
      let Q : LogState → Type 0 = λ l. LogFinished x.log old top found m l new in
      let P : LogState → Blocks → Type 0 = λ l p. IndexSettles x frames old top found m (record x { log = l; pool = p }) new in
      let f : LogFinished x.log old top found m (record x.log { next = log'.next }) new = subst Q same (finishes top found m (may_finish x frames old top found m may)) in
      subst (λ (p : Blocks). P log' p) (sym pool_is) (subst (λ (l : LogState). P l (freed x.pool)) (sym same) (index_settles x frames old top found m may shared new log'.next f))

  pub settle_breaks : LogFinishBreaks x.log old new → SettleBreaks x old new
  settle_breaks breaks frames top found m may = breaks top found m (may_finish x frames old top found m may)

module _ (log log' : LogState) (pool pool' : Blocks) (s : Schedule) (shared : IsShared pool.shape pool.states) (old new : BoardState) (same : log' ≡ record log { next = log'.next }) where
  abbrev Call : Result Unit Fault → Type 0
  Call r = StepByCall (λ u. LogFinishes log old log' new) (LogFinishBreaks log old new) log.shape 1 old new r

  pub settles_all : (r : Result Unit Fault) → Call r → OnOk r (pool' ≡ freed pool)
      → OnOk r ((levels : Levels) (arena : Frames) → Settles (index log levels arena pool s) old (index log' levels arena pool' s) new)
  settles_all (Ok u) call pool_is = λ levels arena. settles (index log levels arena pool s) shared old new log' same pool' pool_is call.step.ended
  settles_all (Err fault) call pool_is = tt

  pub breaks_all : (r : Result Unit Fault) → Call r → OnErr r ((levels : Levels) (arena : Frames) → SettleBreaks (index log levels arena pool s) old new)
  breaks_all (Ok u) call = tt
  breaks_all (Err fault) call = λ levels arena. settle_breaks (index log levels arena pool s) shared old new log' same call.step.broken

-- ---- a step of a freeze: of an index that is whole, or of one that is half made

module _ (x : Index) (frames : ℕ) (flash : Flash) (top : ℕ × Root) (found : Found) (m : Map) (may : MayFreeze x frames flash top found m ⊎ MaySettle x frames flash top found m) where
  is_half : MaySettle x frames flash top found m → repeats_next x.log.next ≡ true
  is_half half = ap repeats_next half.half.half.again

  pub at_half : repeats_next x.log.next ≡ true → MaySettle x frames flash top found m
  at_half repeats = elim may [
    | inl whole ↦ absurd (let clash : true ≡ false = sym repeats ∙ whole.may.settles.whole in let z : ⊥ = cc in z)
    | inr half ↦ half
  ]

  pub at_whole : repeats_next x.log.next ≡ false → MayFreeze x frames flash top found m
  at_whole whole = elim may [
    | inl here ↦ here
    | inr half ↦ absurd (let clash : false ≡ true = sym whole ∙ is_half half in let z : ⊥ = cc in z)
  ]
