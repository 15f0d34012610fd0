-- A drive that agrees with its flash is steady: its numbers are those of what is on the flash.
use Rattle.std.proofs.Common.{◌≡◌, ◌≢◌, inl, inr, ℕ, ◌+◌, ◌*◌, ◌/◌, ◌<◌, ◌≤◌, refl, sym, ap, subst, ◌∙◌, arith, true, false, List, [], ◌++◌, length, map, Option, Some, None, div-add-mod', mod-lt}
use Rattle.std.specs.Prelude.{slice_get, count_by, MatchOption, IfSome, ◌%◌, ◌&&◌, not}
use Rattle.std.{specs.List.concat, proofs.lemmas.Option.slice_get_within}
use Rattle.pk_base.{specs.Shape.Shape, specs.Shape.IsShape, specs.Shape.page_entries, specs.Shape.pinned, specs.Shape.run_pages, specs.Page.Flash, specs.Entry.Entry, specs.Map.Map}
use Rattle.pk_base.{specs.Firsts.firsts, specs.Merge.next_merge, proofs.ShapeLemmas.block_pages_positive, proofs.ShapeLemmas.entries_some, proofs.Logic.is_true, proofs.Logic.some_same}
use Rattle.pk_adapt.specs.Adapted.{adapted}
use Rattle.pk_buf.specs.Table.{Table}
use Rattle.pk_rootfmt.specs.Root.{Root, differ}
use Rattle.pk_plan.{specs.declared.owner.Owner.Owner, specs.declared.owner.Owner.TheVariants.Journal, specs.declared.owner.Owner.TheVariants.Meta, specs.declared.owner.Owner.TheVariants.Values}
use Rattle.pk_pin.specs.Frames.{leased_frames}
use Rattle.pk_pool.{specs.declared.state.BlockState.BlockState, specs.Blocks.Blocks, specs.Blocks.is_ready, specs.Blocks.is_owned_by, proofs.States.ready_is_not_root, proofs.Leaving.shared_freed}
use Rattle.pk_pool.specs.declared.state.BlockState.TheVariants.{Root as RootBlock, Free, Ready, Owned, Leaving}
use Rattle.pk_pool.proofs.Sharing.{behind_roots}
use Rattle.pk_nand.{specs.Operations.IsErasedBlock, specs.BoardState.BoardState, specs.Effects.OnlyFlash}
use Rattle.pk_run.specs.Kept.{Kept}
use Rattle.pk_level.specs.Arenas.{AreBareAbove}
use Rattle.pk_jrn.proofs.Puts.{firsts-reverse}
use Rattle.pk_model.{specs.Found.Found, specs.Values.all_pages}
use Rattle.pk_call.{specs.Sight.Sight, specs.Sight.entries_of_runs, specs.Sight.most_work, specs.Sight.pages_of_each, specs.Exec.IsNextMerge}
use Rattle.pk_call.specs.Steady.{Steadies, IsSteady, IsReadyBlock, HasReady, live_blocks, output_frames, pages_of_runs}
use Rattle.pk_law_steps.{specs.Under.IsValuePage, specs.Under.places, proofs.Places.In, proofs.Places.in_append, proofs.Places.few_blocks, proofs.Places.in_value}
use Rattle.pk_live.proofs.Ranges.{has}
use Rattle.pk_values.{specs.Placed.HoldsValues, specs.Placed.IsOpenIn, specs.Laws.is_for_values, proofs.Outputs.no_member, proofs.Outputs.freed, proofs.Outputs.freed_is, proofs.Outputs.used_freed}
use Rattle.pk_values.specs.State.{OpenBlock}
use Rattle.pk_law_work.{specs.Rest.whole_merge, specs.Rest.whole_reclaim, specs.Backlog.IsBacklog, specs.Backlog.due_level, specs.Work.work, proofs.Within.work_most}
use Rattle.pk_schedule.{specs.Steps.backlog_of as backlog_of_index, specs.declared.phase.Phase.Phase, specs.Index.Index, specs.Index.MergeStands, specs.Index.merging}
use Rattle.pk_schedule.specs.declared.phase.Phase.TheVariants.{Idle, Running, Ready as ReadyToInstall}
use Rattle.pk_schedule.proofs.Backlogs.{index_backlog, four, entries_are}
use Rattle.pk_parts.{proofs.Reclaiming.reclaim_within, specs.Agreeing.DriveOnFlashWith, specs.Agreeing.DriveOnFlash, proofs.Holding.counts_of_four, proofs.Holding.pinned_all}
use Rattle.pk_parts.specs.Parts.{Parts, IsParts, sight_of, counts_of, block_if_open, frames_of, index_of, outputs_of, backlog_of, is_reclaim_due, reclaim_left, settled_parts}
use Rattle.pk_core.{specs.Agreeing.DriveOnFlashBetween, proofs.Leased.leased_least, proofs.Leased.leased_pinned, proofs.Leased.leased_most, proofs.Seen.seen_same}
use Rattle.pk_core.proofs.Places.{blocks_from, many_blocks, has_state, blocks_differ, block_in, all_in}

-- ---- the blocks that are erased

ready_only : (s : BlockState) → is_ready s ≡ true → s ≡ Ready
ready_only RootBlock e = cc
ready_only Free e = cc
ready_only Ready e = refl
ready_only (Owned o) e = cc
ready_only (Leaving o) e = cc

ready_or_owned : (p : Blocks) (b : ℕ) (o : Owner) → slice_get p.states b ≡ Some Ready → slice_get p.states b ≡ Some (Owned o) → ⊥
ready_or_owned p b o ready owned = cc

-- the block of a page
block_has : (shape : Shape) (k b : ℕ) → 0 < shape.block_pages → k / shape.block_pages ≡ b → (b * shape.block_pages ≤ k) × (k < b * shape.block_pages + shape.block_pages)
block_has shape k b some is =
    let n : ℕ = shape.block_pages in
    let whole : b * n + k % n ≡ k = subst (λ x. x * n + k % n ≡ k) is (div-add-mod' k n) in
    let less = mod-lt k some in
    (omega (arith, whole), omega (arith, whole, less))

-- the open block has an owner
open_is_owned : (shape : Shape) (pool : Blocks) (flash : Flash) (o : Option OpenBlock) (b : ℕ)
    → MatchOption o (Unit {0}) (λ x. IsOpenIn shape pool flash x) → block_if_open o ≡ Some b → HoldsValues pool b
open_is_owned shape pool flash None b is e = cc
open_is_owned shape pool flash (Some o) b is e = subst (HoldsValues pool) (some_same o.block b e) is.owned

-- a block that is one for values has a state that says so
for_values_told : (o : Option BlockState) → is_for_values o ≡ true → (s : BlockState) × (o ≡ Some s) × (is_owned_by Values s ≡ true)
for_values_told None e = cc
for_values_told (Some s) e = (s, refl, e)

-- the level that is due follows from the index
due_of : (shape : Shape) (d : Parts) → due_level shape (backlog_of d) ≡ due_level shape (backlog_of_index (index_of d))
unfolding due_level
due_of shape d = refl

-- ---- the merge

-- the merge that runs is the next one
merge_due : (phase : Phase) (x : Index) (flash : Flash) (root : Root) (found : Found) → MergeStands phase x flash root found
    → merging phase ≢ 0 → next_merge x.log.shape (length (firsts found.older)) (map length found.runs) ≡ Some (merging phase)
merge_due Idle x flash root found m some = absurd (some refl)
merge_due (Running level) x flash root found m some = m.into.due
merge_due (ReadyToInstall level) x flash root found m some = m.into.due

-- ---- the work

module _ (d : Parts) (shape : Shape) (flash : Flash) (top : ℕ × Root) (found : Found) (without all : Map) (a : DriveOnFlashWith d shape flash top found without all) where
  within : IsBacklog d.log.shape (backlog_of d)
  within =
      let index = index_backlog (index_of d) (frames_of d) flash top found a.index (a.placed.size ∙ ap (λ s. s.blocks) (sym a.shape_is)) in
      record {
        frozen_most = index.frozen_most;
        runs_most = index.runs_most;
        merge_most = subst (λ l. IfSome (backlog_of d).merge (λ left. left ≤ whole_merge d.log.shape l)) (sym (due_of d.log.shape d)) index.merge_most;
        freeze_most = index.freeze_most;
        reclaim_most = subst (λ (s : Shape). IfSome (reclaim_left s d.values.live.heads (is_reclaim_due d) d.reclaim.phase) (λ left. left ≤ whole_reclaim s))
            (sym a.shape_is) (reclaim_within d.reclaim.phase shape (is_reclaim_due d) d.reclaim d.values.live flash (places found d.log.pending) a.reclaim.stands);
        unready_most = index.unready_most;
      }

  work_is : work d.log.shape (backlog_of d) < most_work shape
  unfolding most_work
  work_is =
      subst (λ s. work d.log.shape (backlog_of d) < most_work s) a.shape_is (work_most d.log.shape (backlog_of d) a.index.logs.is_shape within)

-- ---- the blocks, the lists and the runs

module _ (d : Parts) (shape : Shape) (flash : Flash) (top : ℕ × Root) (found : Found) (without all : Map)
    (a : DriveOnFlashWith d shape flash top found without all) (keeps : IsParts d) where
  ready_block : (b : ℕ) → slice_get d.pool.states b ≡ Some Ready → IsReadyBlock shape flash top.1 (block_if_open d.values.open_block) b
  ready_block b ready = record {
    behind_roots = behind_roots d.pool.shape d.pool.states b Ready ready_is_not_root ready keeps.shared;
    exists = (let within = slice_get_within d.pool.states b Ready ready in let size = a.placed.size in omega (arith, within, size));
    unnamed = λ is. elim (in_append b (top.1.newest ++ top.1.older) (concat top.1.runs) is) [
      | inl journal ↦ ready_or_owned d.pool b Journal ready (a.index.journal b journal)
      | inr meta ↦ ready_or_owned d.pool b Meta ready (a.index.runs b meta)
    ];
    not_open = λ e. ready_or_owned d.pool b Values ready (open_is_owned shape d.pool flash d.values.open_block b a.placed.open_is e);
    all_erased = λ k is.
        let here = block_has shape k b (block_pages_positive shape a.placed.is_shape) is in
        let within : IsErasedBlock shape flash b = subst (λ s. IsErasedBlock s flash b) a.placed.shape_is (a.placed.fits.erased b ready) in
        within k here.0 here.1;
  }

  has_ready : HasReady shape flash top.1 (block_if_open d.values.open_block) (count_by is_ready d.pool.states)
  has_ready = record {
    blocks = blocks_from is_ready 0 d.pool.states;
    many = (let e = many_blocks is_ready 0 d.pool.states in omega (arith, e));
    different = is_true (differ (blocks_from is_ready 0 d.pool.states)) (blocks_differ is_ready 0 d.pool.states);
    each = all_in (IsReadyBlock shape flash top.1 (block_if_open d.values.open_block)) (blocks_from is_ready 0 d.pool.states) (λ b is.
        let has = has_state is_ready 0 d.pool.states b is in
        let told = has.2 in
        let same : b ≡ has.0 = omega (arith, told) in
        ready_block b (subst (λ k. slice_get d.pool.states k ≡ Some Ready) (sym same) (has.3 ∙ ap Some (ready_only has.1 has.4))));
  }

  -- ---- the blocks in use

  -- a block with a page of a value is one for values that no reclaim holds
  value_block : (k : ℕ) → IsValuePage shape (places found d.log.pending) k
      → (s : BlockState) × (slice_get (freed d.pool.states (outputs_of d)) (k / shape.block_pages) ≡ Some s) × (is_owned_by Values s ≡ true)
  value_block k is =
      let b : ℕ = k / shape.block_pages in
      let held : is_for_values (slice_get d.pool.states b) ≡ true = ap is_for_values (a.placed.owned k is) in
      let no_output : has b (outputs_of d) ≡ false = no_member b (outputs_of d) (a.placed.outputs_are.unread k is) in
      for_values_told (slice_get (freed d.pool.states (outputs_of d)) b) (freed_is (outputs_of d) d.pool.states b ∙ (λ i. held i && not (no_output i)))

  live_within : live_blocks shape found d.log.pending ≤ (counts_of d).blocks
  live_within =
      let held : List BlockState = freed d.pool.states (outputs_of d) in
      let blocks : List ℕ = blocks_from (is_owned_by Values) 0 held in
      let few = few_blocks shape (all_pages shape (places found d.log.pending)) blocks (λ k is.
      let none : 0 + k / shape.block_pages ≡ k / shape.block_pages = omega arith in
      let there = value_block k (in_value shape (places found d.log.pending) k is) in
      subst (λ x. In x blocks) none (block_in (is_owned_by Values) 0 held (k / shape.block_pages) there.0 there.1 there.2)) in
      let many = many_blocks (is_owned_by Values) 0 held in
      let left = used_freed (outputs_of d) d.pool.states a.placed.outputs_are.different a.placed.outputs_are.owned in
      omega (arith, few, many, left)

  -- ---- the lists

  active_is : length d.log.active.entries ≡ length (firsts (found.newest ++ d.log.pending))
  active_is = ap (λ (t : Table). length t.entries) a.index.logs.active_is ∙ firsts-reverse (found.newest ++ d.log.pending)

  frozen_is : length d.log.frozen.entries ≡ length (firsts found.older)
  frozen_is = ap (λ (t : Table). length t.entries) a.index.logs.frozen_is ∙ firsts-reverse found.older

  -- ---- the runs

  four_are : entries_of_runs (counts_of d) ≡ map (λ (r : Kept). r.count) d.levels.runs
  four_are = counts_of_four d.levels.runs d.levels.shape (four (index_of d) (frames_of d) flash top found a.index)

  runs_are : entries_of_runs (counts_of d) ≡ map length found.runs
  runs_are = four_are ∙ entries_are (index_of d) (frames_of d) flash top found a.index

  next_is : IsNextMerge shape (counts_of d)
  next_is some =
      let due = merge_due d.schedule.phase (index_of d) flash top.1 found a.index.merge some in
      (λ i. next_merge (sym a.shape_is i) (frozen_is i) (runs_are i)) ∙ due

  least_leased : pages_of_runs shape (pinned shape (frames_of d)) (entries_of_runs (counts_of d)) ≤ leased_frames d.arena
  least_leased =
      subst (λ (ns : List ℕ). pages_of_runs shape (pinned shape (frames_of d)) ns ≤ leased_frames d.arena) (sym four_are) (leased_least d shape flash top found without all a keeps.levels)

  -- at opening no page more has a frame
  pub pinned_leased : AreBareAbove d.levels.pinned 1 d.levels.runs → merging d.schedule.phase ≡ 0
      → leased_frames d.arena ≡ pages_of_runs shape (pinned shape (frames_of d)) (entries_of_runs (counts_of d))
  pinned_leased bare none =
      subst (λ (ns : List ℕ). leased_frames d.arena ≡ pages_of_runs shape (pinned shape (frames_of d)) ns) (sym four_are)
      (leased_pinned d shape flash top found without all a keeps.levels bare none)

  most_leased : leased_frames d.arena ≤ pages_of_runs shape (adapted shape (frames_of d) (pages_of_each shape (counts_of d))) (entries_of_runs (counts_of d)) + output_frames shape (counts_of d)
  most_leased =
      subst (λ (ns : List ℕ). leased_frames d.arena ≤ pages_of_runs shape (adapted shape (frames_of d) (map (run_pages shape) ns)) ns + output_frames shape (counts_of d)) (sym four_are)
      (leased_most d shape flash top found without all a)

  -- ---- all of it

  pub agrees_steady : length d.log.pending < page_entries shape → IsSteady shape flash (sight_of d)
  agrees_steady few = record {
    tree = record { root = top.1; found = found };
    is_tree = record { page_of_root = top.0; is_newest = a.committed.is_top; is_found = a.committed.is_found };
    active = active_is;
    frozen = frozen_is;
    runs = runs_are;
    merge = next_is;
    pinned_held = pinned_all d shape flash top found without all a keeps.levels;
    leased_least = least_leased;
    leased_most = most_leased;
    ready = has_ready;
    blocks_least = live_within;
    blocks_most = (let few = a.placed.few in omega (arith, few));
    few_pending = few;
    work_most = work_is d shape flash top found without all a;
  }

-- ---- between two commands

-- bounded work remains, whatever is pending
pub few_left : (d : Parts) (told : Option Shape) (shape : Shape) (flash : Flash) → DriveOnFlash d told flash → told ≡ Some shape → (sight_of d).work < most_work shape
few_left d told shape flash a told_is =
    let there : (sight_of (settled_parts d)).work < most_work a.shape = work_is (settled_parts d) a.shape flash a.top a.found a.without a.all a.with in
    let here : (sight_of d).work < most_work a.shape = subst (λ (x : Sight). x.work < most_work a.shape) (seen_same d told flash a) there in
    subst (λ s. (sight_of d).work < most_work s) (some_same a.shape shape (sym a.told_is ∙ told_is)) here

pub between_steady : (d : Parts) (told : Option Shape) (shape : Shape) (flash : Flash) → DriveOnFlashBetween d told flash
    → told ≡ Some shape → IsParts d → IsSteady shape flash (sight_of d)
between_steady d told shape flash is told_is keeps =
    let a = is.0 in
    let same : a.shape ≡ shape = some_same a.shape shape (sym a.told_is ∙ told_is) in
    let few : length d.log.pending < page_entries a.shape = subst (λ s. length d.log.pending < page_entries s) a.with.shape_is is.1 in
    let there : IsSteady a.shape flash (sight_of (settled_parts d)) = agrees_steady
    (settled_parts d) a.shape flash a.top a.found a.without a.all a.with (record { shared = shared_freed d.pool.shape d.pool.states keeps.shared; levels = keeps.levels }) few in
    let here : IsSteady a.shape flash (sight_of d) = subst (IsSteady a.shape flash) (seen_same d told flash a) there in
    subst (λ s. IsSteady s flash (sight_of d)) same here

-- it is so after a call that left no more than its flash
pub steadies : (e : Parts) (old new : BoardState) (before : Sight) → DriveOnFlashBetween e new.shape new.pages
    → OnlyFlash old new → IsParts e → Steadies old new before (sight_of e)
steadies e old new before is rest keeps shape frames m stands = between_steady e new.shape shape new.pages is (ap (λ (b : BoardState). b.shape) rest ∙ stands.shape_is) keeps

-- if nothing is pending, the drive is as it is between two commands
pub between_none : (d : Parts) (told : Option Shape) (flash : Flash) → DriveOnFlash d told flash → d.log.pending ≡ [] → DriveOnFlashBetween d told flash
between_none d told flash a none =
    let some : 0 < page_entries d.log.shape = entries_some d.log.shape (subst IsShape (sym a.with.shape_is) a.with.placed.is_shape) in
    (a, subst (λ (es : List Entry). length es < page_entries d.log.shape) (sym none) some)
