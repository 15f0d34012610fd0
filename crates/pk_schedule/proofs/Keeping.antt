-- An index is as before if others change pages and owners that are none of its own, if entries are noted, and if they are committed.
use Rattle.std.proofs.Common.{◌≡◌, ◌⊎◌, inl, inr, ℕ, ◌+◌, ◌*◌, ◌/◌, ◌%◌, ◌<◌, List, [], ◌∷◌, ◌++◌, length, map, slice_index, Option, Some, refl, sym, ap, subst, ◌∙◌, arith, mod-lt, div-lt_iff_lt-mul}
use Rattle.std.{specs.Prelude.slice_get, specs.Prelude.unwrap_or, specs.List.concat, specs.List.AllByRecursion, proofs.lemmas.Nat.div-mul-add}
use Rattle.pk_base.{specs.Shape.Shape, specs.Shape.IsShape, specs.Shape.pinned, specs.Page.Flash, specs.Page.page_at, specs.Entry.Entry, specs.Firsts.firsts, proofs.ShapeLemmas.block_pages_positive}
use Rattle.pk_buf.specs.Table.{Table}
use Rattle.pk_plan.specs.declared.owner.Owner.TheVariants.{Journal, Meta}
use Rattle.pk_rootfmt.specs.Root.{Root, named}
use Rattle.pk_pin.specs.Frames.{Frames}
use Rattle.pk_pool.{specs.declared.state.BlockState.TheVariants.Owned, specs.Blocks.Blocks, specs.Blocks.PoolOnFlash, specs.Blocks.used_by, proofs.Fitting.block_of}
use Rattle.pk_run.{specs.Kept.Kept, specs.Kept.RunOnFlash, specs.Kept.page_of, specs.Kept.empty, proofs.Standing.RunOnFlash-elsewhere}
use Rattle.pk_level.{specs.Levels.Levels, specs.Levels.RunsOnFlash, specs.Levels.HaveBlocks, specs.Levels.run_of, specs.Arenas.HasArena}
use Rattle.pk_jrn.specs.Epochs.{JournalEpoch}
use Rattle.pk_model.{specs.Found.Found, specs.Laws.AnyByRecursion, specs.Tree.run_at, proofs.Commits.member, proofs.SamePages.any_front, proofs.SamePages.any_back}
use Rattle.pk_law_steps.{specs.Roots.committed, proofs.FourRuns.IsLevel, proofs.FourRuns.next_is_level}
use Rattle.pk_root.specs.declared.next.Next.{Next}
use Rattle.pk_merge.{specs.Elsewhere.IsElsewhere, specs.Jobs.Job, specs.Jobs.IsIdle, specs.Jobs.pins, specs.Jobs.output_of, proofs.Elsewhere.runs_elsewhere}
use Rattle.pk_compact.{specs.declared.freezing.FreezeJob.FreezeJob, specs.declared.freezing.FreezeJob.TheVariants.Idle as NoFreeze, specs.FreezeSteps.IsTaken, specs.FreezeSteps.taken_by}
use Rattle.pk_log.{specs.State.LogState, specs.State.all_committed, specs.State.pushed, specs.Logs.LogOnFlash, specs.Laws.SameNamed, proofs.Standing.logs_elsewhere}
use Rattle.pk_schedule.{specs.declared.phase.Phase.Phase, specs.declared.phase.Phase.TheVariants.Idle, specs.declared.phase.Phase.TheVariants.Running, specs.declared.phase.Phase.TheVariants.Ready}
use Rattle.pk_schedule.specs.Index.{Index, Schedule, IndexOnFlash, MergesInto, MergeRuns, MergeWaits, MergeStands, FreezeStands, AreHeld, index, merging, output, source_at, entries_at}

-- ---- runs

-- a page of a run is in one of its blocks
page_named : (r : Kept) (j : ℕ) → 0 < r.shape.block_pages → j < length r.blocks * r.shape.block_pages → AnyByRecursion (λ b. page_of r j / r.shape.block_pages ≡ b) r.blocks
page_named r j some small =
    let n : ℕ = r.shape.block_pages in
    let inside : j / n < length r.blocks = (div-lt_iff_lt-mul some).1 small in
    let here : page_of r j / n ≡ slice_index r.blocks (j / n) = div-mul-add (slice_index r.blocks (j / n)) n (j % n) (mod-lt j some) in
    subst (λ (x : ℕ). AnyByRecursion (λ b. x ≡ b) r.blocks) (sym here) (member r.blocks (j / n) inside)

-- a run is unchanged if no page of its blocks differs
pub RunOnFlash-same : (r : Kept) (old new : Flash) (arena : Frames) (es : List Entry) → 0 < r.shape.block_pages
    → ((k : ℕ) → AnyByRecursion (λ b. k / r.shape.block_pages ≡ b) r.blocks → page_at new k ≡ page_at old k)
    → RunOnFlash r old arena es → RunOnFlash r new arena es
RunOnFlash-same r old new arena es some same s =
    let within = s.within in
    RunOnFlash-elsewhere r old new arena arena es (λ j small. same (page_of r j) (page_named r j some (omega (arith, small, within)))) (λ j lease got is. (is, refl)) s

-- runs are unchanged if no page of their blocks differs
pub RunsOnFlash-same : (shape : Shape) (old new : Flash) (arena : Frames) (rs : List Kept) (bss : List (List ℕ)) (ess : List (List Entry)) → 0 < shape.block_pages → HaveBlocks shape rs bss
    → ((k : ℕ) → AnyByRecursion (λ b. k / shape.block_pages ≡ b) (concat bss) → page_at new k ≡ page_at old k)
    → RunsOnFlash old arena rs ess → RunsOnFlash new arena rs ess
RunsOnFlash-same shape old new arena [] [] [] some have same s = tt
RunsOnFlash-same shape old new arena (r ∷ rs) (bs ∷ bss) (es ∷ ess) some have same s =
    let S : Shape → List ℕ → Type 0 = λ x xs. (k : ℕ) → AnyByRecursion (λ b. k / x.block_pages ≡ b) xs → page_at new k ≡ page_at old k in
    let here : S shape bs = λ k is. same k (any_front (λ b. k / shape.block_pages ≡ b) bs (concat bss) is) in
    let own : S r.shape r.blocks = subst (λ (x : Shape). S x r.blocks) (sym have.0) (subst (λ (xs : List ℕ). S shape xs) (sym have.1) here) in (
      RunOnFlash-same r old new arena es (subst (λ (x : Shape). 0 < x.block_pages) (sym have.0) some) own s.0,
      RunsOnFlash-same shape old new arena rs bss ess some have.2 (λ k is. same k (any_back (λ b. k / shape.block_pages ≡ b) bs (concat bss) is)) s.1,
    )
RunsOnFlash-same shape old new arena _ _ _ some have same s = search

-- ---- what others may change

-- No page of a root block differs, nor one of a block that is owned for the journal or for runs; these blocks stay owned, and no others are.
pub record IsBeside (pool : Blocks) (old : Flash) (pool' : Blocks) (new : Flash) : Type 0 where
  pub meta : IsElsewhere pool old pool' new
  pub low : (k : ℕ) → k < 2 * pool.shape.block_pages → page_at new k ≡ page_at old k
  pub owned : (b : ℕ) → slice_get pool.states b ≡ Some (Owned Journal) → slice_get pool'.states b ≡ Some (Owned Journal)
  pub used : used_by Journal pool'.states ≡ used_by Journal pool.states
  pub same : (b k : ℕ) → slice_get pool.states b ≡ Some (Owned Journal) → k / pool.shape.block_pages ≡ b → page_at new k ≡ page_at old k

pub elsewhere : (shape : Shape) (pool : Blocks) (old : Flash) (pool' : Blocks) (new : Flash) → pool.shape ≡ shape → pool'.shape ≡ pool.shape → PoolOnFlash pool' new
    → used_by Meta pool'.states ≡ used_by Meta pool.states → ((b : ℕ) → slice_get pool.states b ≡ Some (Owned Meta) → slice_get pool'.states b ≡ Some (Owned Meta))
    → ((k : ℕ) → slice_get pool.states (k / shape.block_pages) ≡ Some (Owned Meta) → page_at new k ≡ page_at old k) → IsElsewhere pool old pool' new
elsewhere shape pool old pool' new of_pool same_shape fits used owned same = record {
  shape = same_shape;
  fits = fits;
  used = used;
  owned = owned;
  same = λ b k is here. same k (subst (λ (c : ℕ). slice_get pool.states c ≡ Some (Owned Meta)) (sym here ∙ ap (λ (s : Shape). k / s.block_pages) of_pool) is);
}

-- The blocks of the journal stay owned, and no others are; no page of these blocks differs.
pub record KeepsTaken (pool : Blocks) (taken : List ℕ) (old : Flash) (pool' : Blocks) (new : Flash) : Type 0 where
  pub owned : (b : ℕ) → slice_get pool.states b ≡ Some (Owned Journal) → slice_get pool'.states b ≡ Some (Owned Journal)
  pub used : used_by Journal pool'.states ≡ used_by Journal pool.states
  pub same : (b k : ℕ) → AnyByRecursion (λ c. b ≡ c) taken → k / pool.shape.block_pages ≡ b → page_at new k ≡ page_at old k

pub any_split : (P : ℕ → Type 0) (xs ys : List ℕ) → AnyByRecursion P (xs ++ ys) → AnyByRecursion P xs ⊎ AnyByRecursion P ys
any_split P [] ys is = inr is
any_split P (x ∷ xs) ys (inl is) = inl (inl is)
any_split P (x ∷ xs) ys (inr is) = elim (any_split P xs ys is) [ inl front ↦ inl (inr front) | inr back ↦ inr back ]

-- what holds of each of a list is shown of it and the ones that remain
all_of : (P Q : ℕ → Type 0) (xs : List ℕ) → ((x : ℕ) → AnyByRecursion (λ c. x ≡ c) xs → P x → Q x) → AllByRecursion P xs → AllByRecursion Q xs
all_of P Q [] each all = tt
all_of P Q (x ∷ xs) each all = (each x (inl refl) all.0, all_of P Q xs (λ y is. each y (inr is)) all.1)

pub member_all : (P : ℕ → Type 0) (xs : List ℕ) (x : ℕ) → AllByRecursion P xs → AnyByRecursion (λ c. x ≡ c) xs → P x
member_all P [] x all is = absurd is
member_all P (y ∷ ys) x all (inl e) = subst P (sym e) all.0
member_all P (y ∷ ys) x all (inr is) = member_all P ys x all.1 is

-- ---- the log with another newest epoch, over changed pages and owners

module _ (x : Index) (frames : ℕ) (old new : Flash) (top : ℕ × Root) (found : Found) (stands : IndexOnFlash x frames old top found)
    (pool' : Blocks) (e : IsElsewhere x.pool old pool' new) where
  is_shape : IsShape x.log.shape
  is_shape = stands.logs.is_shape

  some_pages : 0 < x.log.shape.block_pages
  some_pages = block_pages_positive x.log.shape stands.logs.is_shape

  -- a page of a block that is owned for runs
  meta_page : (k : ℕ) → slice_get x.pool.states (k / x.log.shape.block_pages) ≡ Some (Owned Meta) → page_at new k ≡ page_at old k
  meta_page k owned = e.same (k / x.log.shape.block_pages) k owned (ap (λ (s : Shape). k / s.block_pages) stands.pool_shape)

  runs_stand : RunsOnFlash new x.arena x.levels.runs found.runs
  runs_stand = RunsOnFlash-same x.log.shape old new x.arena x.levels.runs top.1.runs found.runs some_pages stands.run_blocks
      (λ k is. meta_page k (stands.runs (k / x.log.shape.block_pages) is)) stands.stand

  held : AreHeld x.pool top.1 Meta (output x.schedule).blocks → AreHeld pool' top.1 Meta (output x.schedule).blocks
  held h = record { different = h.different; owned = λ b is. e.owned b (h.owned b is); unnamed = h.unnamed }

  module _ (epoch : JournalEpoch) (active : Table) (pending newest : List Entry) (next : Next) (job : FreezeJob) where
    abbrev log_then : LogState
    log_then = record x.log { epoch = epoch; active = active; pending = pending; next = next }

    abbrev found_then : Found
    found_then = record found { newest = newest }

    abbrev then : Index
    then = record x { log = log_then; pool = pool'; schedule = record x.schedule { freeze = job } }

    into_then : (level : ℕ) → MergesInto x top.1 found level → MergesInto then top.1 found_then level
    into_then level m = let here = held m.held in assumption (m, here)

    runs_then : (level : ℕ) → MergeRuns x old top.1 found level → MergeRuns then new top.1 found_then level
    runs_then level m =
        let into = into_then level m.into in
        let running = runs_elsewhere x.pool pool' old new e (source_at x level) (run_of x.levels level) (pins x.schedule.job)
        (output x.schedule) x.schedule.job.merger x.arena (entries_at x found level) (run_at found.runs level) (subst IsShape (sym m.into.output_shape) is_shape) m.runs.running in
        assumption (m, into, running)

    waits_then : (level : ℕ) → MergeWaits x old top.1 found level → MergeWaits then new top.1 found_then level
    waits_then level m =
        let out : Kept = output x.schedule in
        let own : (k : ℕ) → AnyByRecursion (λ b. k / out.shape.block_pages ≡ b) out.blocks → page_at new k ≡ page_at old k =
        λ k is. meta_page k (m.into.held.owned (k / x.log.shape.block_pages) (subst (λ (s : Shape). AnyByRecursion (λ b. k / s.block_pages ≡ b) out.blocks) m.into.output_shape is)) in
        let stand = RunOnFlash-same out old new x.arena _ (subst (λ (s : Shape). 0 < s.block_pages) (sym m.into.output_shape) some_pages) own m.whole.stands in
        record { into = into_then level m.into; whole = assumption (m.whole, stand) }

    merge_then : (phase : Phase) → MergeStands phase x old top.1 found → MergeStands phase then new top.1 found_then
    merge_then Idle m = m
    merge_then (Running level) m = runs_then level m
    merge_then (Ready level) m = waits_then level m

    -- with these blocks of the journal, and this freeze
    pub index_on : LogOnFlash log_then new top found_then → ((b : ℕ) → slice_get x.pool.states b ≡ Some (Owned Journal) → slice_get pool'.states b ≡ Some (Owned Journal))
        → used_by Journal pool'.states ≡ length (top.1.newest ++ top.1.older) + length (taken_by job) → FreezeStands then new top.1 → IndexOnFlash then frames new top found_then
    index_on logs owned few freeze =
        let shape_now = e.shape ∙ stands.pool_shape in
        let journal : (b : ℕ) → AnyByRecursion (λ c. b ≡ c) (top.1.newest ++ top.1.older) → slice_get pool'.states b ≡ Some (Owned Journal) = λ b is. owned b (stands.journal b is) in
        let runs : (b : ℕ) → AnyByRecursion (λ c. b ≡ c) (concat top.1.runs) → slice_get pool'.states b ≡ Some (Owned Meta) = λ b is. e.owned b (stands.runs b is) in
        let runs_few = e.used ∙ stands.runs_few in
        let merge = merge_then x.schedule.phase stands.merge in
        assumption (stands, logs, few, freeze, e.fits, runs_stand, shape_now, journal, runs, runs_few, merge)

  -- the freeze is as far as it was
  module _ (j : KeepsTaken x.pool (taken_by x.schedule.freeze) old pool' new) (epoch : JournalEpoch) (active : Table) (pending newest : List Entry) where
    abbrev after : Index
    after = record x { log = record x.log { epoch = epoch; active = active; pending = pending }; pool = pool' }

    freeze_then : FreezeStands x old top.1 → FreezeStands after new top.1
    freeze_then f = record {
      taken = all_of (IsTaken x.log.shape x.pool old top.1) (IsTaken x.log.shape pool' new top.1) (taken_by x.schedule.freeze)
          (λ b is t. record {
            least = t.least;
            most = t.most;
            owned = j.owned b t.owned;
            is_erased = λ k low high. j.same b k is (ap (λ (s : Shape). k / s.block_pages) stands.pool_shape ∙ block_of x.log.shape.block_pages k b low high) ∙ t.is_erased k low high;
            unnamed = t.unnamed;
          }) f.taken;
      different = f.different;
      none_frozen = f.none_frozen;
    }

    pub index_then : LogOnFlash after.log new top (record found { newest = newest }) → IndexOnFlash after frames new top (record found { newest = newest })
    index_then logs = index_on epoch active pending newest x.log.next x.schedule.freeze logs j.owned (j.used ∙ stands.journal_few) (freeze_then stands.freeze)

-- ---- changes elsewhere

same_of : (s t : Shape) (k b : ℕ) → s ≡ t → k / t.block_pages ≡ b → k / s.block_pages ≡ b
same_of s t k b e is = ap (λ (x : Shape). k / x.block_pages) e ∙ is

module _ (x : Index) (frames : ℕ) (old new : Flash) (top : ℕ × Root) (found : Found) (stands : IndexOnFlash x frames old top found) (pool' : Blocks) (e : IsBeside x.pool old pool' new) where
  -- no page of a block that the root names differs
  named_same : SameNamed x.log.shape top.1 old new
  named_same k (inl small) = e.low k (subst (λ (s : Shape). k < 2 * s.block_pages) (sym stands.pool_shape) small)
  named_same k (inr is) =
      let at : k / x.pool.shape.block_pages ≡ k / x.log.shape.block_pages = ap (λ (s : Shape). k / s.block_pages) stands.pool_shape in
      elim (any_split (λ b. k / x.log.shape.block_pages ≡ b) (top.1.newest ++ top.1.older) (concat top.1.runs) is) [
        | inl journal ↦ e.same (k / x.log.shape.block_pages) k (stands.journal (k / x.log.shape.block_pages) journal) at
        | inr meta ↦ e.meta.same (k / x.log.shape.block_pages) k (stands.runs (k / x.log.shape.block_pages) meta) at
      ]

  taken_same : KeepsTaken x.pool (taken_by x.schedule.freeze) old pool' new
  taken_same = record {
    owned = e.owned;
    used = e.used;
    same = λ b k is here. e.same b k (member_all (IsTaken x.log.shape x.pool old top.1) (taken_by x.schedule.freeze) b stands.freeze.taken is).owned here;
  }

  -- if no page differs that is its own, an index matches next to other owners of the other blocks
  pub index_elsewhere : IndexOnFlash (record x { pool = pool' }) frames new top found
  index_elsewhere = index_then x frames old new top found stands pool' e.meta taken_same x.log.epoch x.log.active x.log.pending found.newest
      (logs_elsewhere x.log old new top found named_same stands.logs)

-- ---- a commit

-- no page differs but in this block of the newest epoch
module _ (x : Index) (frames : ℕ) (old new : Flash) (top : ℕ × Root) (found : Found) (stands : IndexOnFlash x frames old top found)
    (block : ℕ) (among : AnyByRecursion (λ b. block ≡ b) top.1.newest)
    (others : (k : ℕ) → (k / x.log.shape.block_pages ≡ block → ⊥) → page_at new k ≡ page_at old k) (fits : PoolOnFlash x.pool new) where
  block_owned : slice_get x.pool.states block ≡ Some (Owned Journal)
  block_owned = stands.journal block (any_front (λ c. block ≡ c) top.1.newest top.1.older among)

  not_both : (b : ℕ) → slice_get x.pool.states b ≡ Some (Owned Meta) → slice_get x.pool.states b ≡ Some (Owned Journal) → ⊥
  not_both b one other = cc

  meta_same : IsElsewhere x.pool old x.pool new
  meta_same = record {
    shape = refl;
    fits = fits;
    used = refl;
    owned = λ b is. is;
    same = λ b k is here. others k (λ e.
        let its : b ≡ block = sym here ∙ ap (λ (s : Shape). k / s.block_pages) stands.pool_shape ∙ e in
        not_both b is (subst (λ (n : ℕ). slice_get x.pool.states n ≡ Some (Owned Journal)) (sym its) block_owned));
  }

  taken_apart : KeepsTaken x.pool (taken_by x.schedule.freeze) old x.pool new
  taken_apart = record {
    owned = λ b is. is;
    used = refl;
    same = λ b k is here. others k (λ e.
        let its : b ≡ block = sym here ∙ ap (λ (s : Shape). k / s.block_pages) stands.pool_shape ∙ e in
        let t = member_all (IsTaken x.log.shape x.pool old top.1) (taken_by x.schedule.freeze) b stands.freeze.taken is in
        t.unnamed (subst (λ (n : ℕ). AnyByRecursion (λ c. n ≡ c) (named top.1)) (sym its)
        (any_front (λ c. block ≡ c) (top.1.newest ++ top.1.older) (concat top.1.runs) (any_front (λ c. block ≡ c) top.1.newest top.1.older among))));
  }

  -- after a commit, which programs two pages of the newest epoch
  pub index_committed : LogOnFlash (all_committed x.log) new top (committed found x.log.pending) → IndexOnFlash (record x { log = all_committed x.log }) frames new top (committed found x.log.pending)
  index_committed logs = index_then x frames old new top found stands x.pool meta_same taken_apart (all_committed x.log).epoch x.log.active [] (found.newest ++ x.log.pending) logs

-- ---- an entry in memory

-- with one more entry that waits
pub index_pushed : (x : Index) (frames : ℕ) (flash : Flash) (top : ℕ × Root) (found : Found) (e : Entry) → IndexOnFlash x frames flash top found → LogOnFlash (pushed x.log e) flash top found
    → IndexOnFlash (record x { log = pushed x.log e }) frames flash top found
index_pushed x frames flash top found e stands logs =
    let still : IsElsewhere x.pool flash x.pool flash = record { shape = refl; fits = stands.pool_fits; used = refl; owned = λ b is. is; same = λ b k is here. refl } in
    index_then x frames flash flash top found stands x.pool still (record { owned = λ b is. is; used = refl; same = λ b k is here. refl }) x.log.epoch
    (pushed x.log e).active (pushed x.log e).pending found.newest logs

-- ---- opening

-- if nothing runs
module _ (log : LogState) (levels : Levels) (arena : Frames) (pool : Blocks) (frames : ℕ) (flash : Flash) (top : ℕ × Root) (found : Found) where
  -- what opening found of an index
  pub record IsFound : Type 0 where
    pub logs : LogOnFlash log flash top found
    pub pool_shape : pool.shape ≡ log.shape
    pub pool_fits : PoolOnFlash pool flash
    pub levels_shape : levels.shape ≡ log.shape
    pub levels_pinned : levels.pinned ≡ pinned log.shape frames
    pub stand : RunsOnFlash flash arena levels.runs found.runs
    pub run_blocks : HaveBlocks log.shape levels.runs top.1.runs
    pub arena_is : HasArena log.shape frames levels arena []
    pub journal : (b : ℕ) → AnyByRecursion (λ c. b ≡ c) (top.1.newest ++ top.1.older) → slice_get pool.states b ≡ Some (Owned Journal)
    pub journal_few : used_by Journal pool.states ≡ length (top.1.newest ++ top.1.older)
    pub runs : (b : ℕ) → AnyByRecursion (λ c. b ≡ c) (concat top.1.runs) → slice_get pool.states b ≡ Some (Owned Meta)
    pub runs_few : used_by Meta pool.states ≡ length (concat top.1.runs)

  -- no run is taken of an idle job
  idle_output : (job : Job) → IsIdle log.shape job → output_of job ≡ empty job.merger.shape job.target
  idle_output job is = ap (λ (o : Option Kept). unwrap_or o (empty job.merger.shape job.target)) is.output

  idle_opens : IsFound → (job : Job) → IsIdle log.shape job → job.pinned ≡ pinned log.shape frames
      → IndexOnFlash (index log levels arena pool (record { job = job; phase = Idle; freeze = NoFreeze })) frames flash top found
  idle_opens f job is pins_are =
      let none = idle_output job is in
      let frames_are = subst (λ (ls : List ℕ). HasArena log.shape frames levels arena ls) (sym (ap (λ (r : Kept). r.leases) none)) f.arena_is in
      let blocks : length (output_of job).blocks ≡ 0 = ap (λ (r : Kept). length r.blocks) none in
      let journal_few : used_by Journal pool.states ≡ length (top.1.newest ++ top.1.older) + 0 = omega (arith, f.journal_few) in
      let runs_few : used_by Meta pool.states ≡ length (concat top.1.runs) + length (output_of job).blocks = omega (arith, f.runs_few, blocks) in
      let no_freeze : FreezeStands (index log levels arena pool (record { job = job; phase = Idle; freeze = NoFreeze })) flash top.1 =
      record { taken = tt; different = refl; none_frozen = λ some. absurd (omega (arith, some)) } in
      assumption (f, frames_are, journal_few, runs_few, pins_are, is, no_freeze)

  -- an index that was found matches with a schedule in which nothing runs
  pub index_opens : IsFound → (s : Schedule) → (s.phase ≡ Idle) × (s.freeze ≡ NoFreeze) × IsIdle log.shape s.job
      → s.job.pinned ≡ pinned log.shape frames → IndexOnFlash (index log levels arena pool s) frames flash top found
  index_opens f s idle pins_are =
      let S : Phase → FreezeJob → Type 0 = λ p j. IndexOnFlash (index log levels arena pool (record { job = s.job; phase = p; freeze = j })) frames flash top found in
      subst (λ (p : Phase). S p s.freeze) (sym idle.0) (subst (λ (j : FreezeJob). S Idle j) (sym idle.1) (idle_opens f s.job idle.2 pins_are))

-- ---- no merge

no_leases : (shape : Shape) (job : Job) → IsIdle shape job → (output_of job).leases ≡ []
no_leases shape job is = ap (λ (o : Option Kept). (unwrap_or o (empty job.merger.shape job.target)).leases) is.output

not_level : (level : ℕ) → IsLevel level → level ≡ 0 → ⊥
not_level level is none = omega arith

idle_in : (phase : Phase) (x : Index) (flash : Flash) (root : Root) (found : Found) → MergeStands phase x flash root found → merging phase ≡ 0 → IsIdle x.log.shape x.schedule.job
idle_in Idle x flash root found m none = m
idle_in (Running level) x flash root found m none = absurd (not_level level (next_is_level x.log.shape (length (firsts found.older)) (map length found.runs) level m.into.due) none)
idle_in (Ready level) x flash root found m none = absurd (not_level level (next_is_level x.log.shape (length (firsts found.older)) (map length found.runs) level m.into.due) none)

-- if no merge runs, its output has no frames
pub idle_leases : (x : Index) (frames : ℕ) (flash : Flash) (top : ℕ × Root) (found : Found) → IndexOnFlash x frames flash top found → merging x.schedule.phase ≡ 0 → (output x.schedule).leases ≡ []
idle_leases x frames flash top found stands none = no_leases x.log.shape x.schedule.job (idle_in x.schedule.phase x flash top.1 found stands.merge none)
