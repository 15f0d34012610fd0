-- What opening found makes parts that agree with the flash.
use Rattle.std.proofs.Common.{◌≡◌, ℕ, ◌-◌, ◌/◌, List, [], false, length, refl, sym, ap, subst, ◌∙◌, arith}
use Rattle.pk_base.{specs.Shape.Shape, specs.Shape.IsShape, specs.Shape.pinned, specs.Page.Flash, specs.Page.IsFlash, specs.Entry.Entry, specs.Entry.Place, specs.Key.Key, specs.Map.Map}
use Rattle.pk_rootfmt.specs.Root.{named}
use Rattle.pk_root.specs.Installing.{repeats_next}
use Rattle.pk_jrn.specs.Epochs.{JournalEpoch}
use Rattle.pk_plan.specs.declared.owner.Owner.TheVariants.{Values as for_values}
use Rattle.pk_pool.specs.Blocks.{Blocks, used_by}
use Rattle.pk_level.{specs.Arenas.HasArena, specs.Levels.HaveBlocks}
use Rattle.pk_merge.specs.Jobs.{IsIdle}
use Rattle.pk_compact.specs.declared.freezing.FreezeJob.TheVariants.{Idle as NoFreeze}
use Rattle.pk_schedule.{specs.declared.phase.Phase.TheVariants.Idle, specs.Index.Schedule, specs.Index.IndexOnFlash, specs.Index.index, specs.Index.merging, proofs.Keeping.IsFound, proofs.Keeping.index_opens}
use Rattle.pk_model.specs.Found.{Found}
use Rattle.pk_law_steps.specs.Under.{IsUnder, places}
use Rattle.pk_log.{specs.State.LogState, specs.State.opened, specs.Logs.LogOnFlash, specs.Logs.Opens}
use Rattle.pk_values.{specs.State.ValuesState, specs.State.with_none_open, specs.Placed.IsOutput, specs.Placed.ValuesOnFlash, specs.Placed.FoundAtOpening}
use Rattle.pk_gc.{specs.declared.course.Phase.Phase, specs.declared.course.Phase.TheVariants.Idle as NoReclaim, specs.State.JobState, specs.Stepping.runs_in, specs.Standing.held_blocks}
use Rattle.pk_scan.{specs.Opened.ListsOnFlash, specs.Opened.BlocksOnFlash, specs.Opened.FoundOnFlash, specs.declared.contents.Found.Found as Opened, specs.Used.IsUseOf}
use Rattle.pk_walk.specs.Walking.{Walk}
use Rattle.pk_parts.{specs.Parts.Parts, specs.Parts.commits_in, specs.Opening.OpenedOn, proofs.Reclaiming.reclaim_rests}

-- the lists are what a log is opened with
log_opens : {A : Type 0} (shape : Shape) (flash : Flash) (frames : ℕ) (f : Opened A) (found : Found) (m : Map)
    → ListsOnFlash shape flash frames f found m → Opens f.root f.root_page f.epoch f.active f.frozen flash found
log_opens shape flash frames f found m has =
    let S : Shape → Type 0 = λ s. Opens (record { shape = s; root = f.root.root }) f.root_page f.epoch f.active f.frozen flash found in
    let epoch_is = has.epoch_is.1 in
    subst S (sym has.shape_is)
    (search (ap (λ (e : JournalEpoch). e.shape) epoch_is, ap (λ (e : JournalEpoch). e.number) epoch_is, ap (λ (e : JournalEpoch). e.blocks) epoch_is))

-- and the blocks with their owners those that values are found in
values_found : {A : Type 0} (shape : Shape) (flash : Flash) (f : Opened A) (found : Found) → IsShape shape
    → BlocksOnFlash shape flash f found → FoundAtOpening shape (named f.root.root) f.live f.pool flash (places found [])
values_found shape flash f found is has = search (has.owners.pool_fits flash)

-- the parts of a drive made of what was found
module _ {A : Type 0} (shape : Shape) (flash : Flash) (frames : ℕ) (f : Opened A) (log : LogState) (values : ValuesState) (s : Schedule) (job : JobState) (walk : Walk) where
  abbrev parts : Parts
  parts = record { log = log; levels = f.levels; arena = f.arena; schedule = s; values = values; reclaim = job; pool = f.pool; spaces = f.spaces; stopped = false; walk = walk }

  -- the index of what was found, in which nothing runs
  index_found : IsShape f.root.shape → (was : FoundOnFlash shape flash frames f) → log ≡ opened f.root f.root_page f.epoch f.active f.frozen
      → ((x : Flash) (found : Found) → Opens f.root f.root_page f.epoch f.active f.frozen x found → LogOnFlash log x (f.root_page, f.root.root) found)
      → (s.phase ≡ Idle) × (s.freeze ≡ NoFreeze) × IsIdle f.root.shape s.job → s.job.pinned ≡ pinned f.root.shape (length f.arena.used)
      → IndexOnFlash (index log f.levels f.arena f.pool s) (length f.arena.used) flash (f.root_page, f.root.root) was.found
  index_found held was log_is stands idle pins =
      let own : f.root.shape ≡ log.shape = sym (ap (λ (l : LogState). l.shape) log_is) in
      let its : shape ≡ log.shape = sym was.lists.shape_is ∙ own in
      let frames_are : frames ≡ length f.arena.used = sym was.lists.arena_is.leases.size in
      let found : IsFound log f.levels f.arena f.pool (length f.arena.used) flash (f.root_page, f.root.root) was.found = record {
        logs = stands flash was.found (log_opens shape flash frames f was.found was.map was.lists);
        pool_shape = was.blocks.owners.pool_shape ∙ its;
        pool_fits = was.blocks.owners.pool_fits flash;
        levels_shape = was.lists.levels_shape ∙ its;
        levels_pinned = was.lists.levels_pinned ∙ (λ i. pinned (its i) (frames_are i));
        stand = was.lists.stand;
        run_blocks = subst (λ (x : Shape). HaveBlocks x f.levels.runs f.root.root.runs) its was.lists.run_blocks;
        arena_is = subst (λ (n : ℕ). HasArena log.shape n f.levels f.arena []) frames_are (subst (λ (x : Shape). HasArena x frames f.levels f.arena []) its was.lists.arena_is);
        journal = was.blocks.owners.journal;
        journal_few = was.blocks.owners.journal_few;
        runs = was.blocks.owners.runs;
        runs_few = was.blocks.owners.runs_few;
      } in
      index_opens log f.levels f.arena f.pool (length f.arena.used) flash (f.root_page, f.root.root) was.found found s
      (idle.0, idle.1, subst (λ (x : Shape). IsIdle x s.job) own idle.2) (pins ∙ ap (λ (x : Shape). pinned x (length f.arena.used)) own)

  pub opens_on : IsShape f.root.shape → IsFlash shape flash → FoundOnFlash shape flash frames f
      → log ≡ opened f.root f.root_page f.epoch f.active f.frozen
      → ((x : Flash) (found : Found) → Opens f.root f.root_page f.epoch f.active f.frozen x found → LogOnFlash log x (f.root_page, f.root.root) found)
      → values ≡ with_none_open f.live → ((s : Shape) (named : List ℕ) (p : Blocks) (x : Flash) (es : List (Key × Place)) → FoundAtOpening s named f.live p x es → ValuesOnFlash s values p [] x es)
      → (s.phase ≡ Idle) × (s.freeze ≡ NoFreeze) × IsIdle f.root.shape s.job → s.job.pinned ≡ pinned f.root.shape (length f.arena.used)
      → (job.shape ≡ f.root.shape) × (job.phase ≡ NoReclaim) × (job.moves ≡ [])
      → OpenedOn shape flash frames parts
  opens_on held is_flash was log_is stands space_is places_so idle pins rests =
      let is : IsShape shape = subst IsShape was.lists.shape_is held in
      let none : log.pending ≡ [] = ap (λ (l : LogState). l.pending) log_is in
      let placed : ValuesOnFlash shape values f.pool [] flash (places was.found []) = places_so shape
      (named f.root.root) f.pool flash (places was.found []) (values_found shape flash f was.found is was.blocks) in
      record {
        top = (f.root_page, f.root.root);
        found = was.found;
        all = was.map;
        with = record {
          shape_is = ap (λ (l : LogState). l.shape) log_is ∙ was.lists.shape_is;
          is_flash = is_flash;
          index = index_found held was log_is stands idle pins;
          committed = was.lists.under;
          pending = subst (λ (es : List Entry). IsUnder shape flash es (f.root_page, f.root.root) was.found was.map) (sym none) was.lists.under;
          placed =
              subst (λ (es : List Entry). ValuesOnFlash shape values f.pool (held_blocks job.phase) flash (places was.found es)) (sym none)
              (subst (λ (p : Phase). ValuesOnFlash shape values f.pool (held_blocks p) flash (places was.found [])) (sym rests.1) placed);
          former = placed.owned;
          former_read = λ k is. subst (λ (p : Phase). IsOutput (held_blocks p) (k / shape.block_pages) → ⊥) (sym rests.1) (λ none_held. none_held);
          reclaim = reclaim_rests shape job values.live f.pool flash (places was.found log.pending) (rests.0 ∙ was.lists.shape_is) (ap runs_in rests.1);
          uses = subst (λ (es : List Entry). IsUseOf shape f.spaces (places was.found es)) (sym none) was.uses;
        };
        whole = record {
          settles = record {
            whole = ap (λ (l : LogState). repeats_next l.next) log_is;
            none_leaves = (values_found shape flash f was.found is was.blocks).none_leaves;
          };
          moves = ap commits_in rests.1;
          epoch = ap (λ (l : LogState). l.epoch.half) log_is ∙ ap (λ (e : JournalEpoch). e.half) was.lists.epoch_is.1;
        };
        frames_are = was.lists.arena_is.leases.size;
        runs = refl;
        none_pending = none;
        takes_none = ap (λ (l : LogState). l.epoch.takes_more) log_is ∙ ap (λ (e : JournalEpoch). e.takes_more) was.lists.epoch_is.1;
        none_open = ap (λ (s : ValuesState). s.open_block) space_is;
        blocks_are = ap (λ (p : Phase). used_by for_values f.pool.states - length (held_blocks p)) rests.1 ∙ (omega arith ∙ was.blocks.values_are);
        rests = ap runs_in rests.1;
        closed = was.lists.closed;
        no_merge = ap merging idle.0;
      }
