-- A commit of the pending entries keeps the map.
use Rattle.std.proofs.Common.{◌≡◌, ◌≢◌, ◌⊎◌, inl, inr, ℕ, ◌+◌, ◌-◌, ◌/◌, ◌<◌, ◌≤◌, if◌then◌else◌, arith, Bool, true, false, List, [], ◌++◌, reverse, Some, Result, Ok, Err, refl, sym, ap, subst, ◌∙◌}
use Rattle.std.proofs.Common.{append-nil}
use Rattle.std.{specs.Prelude.slice_get, specs.Prelude.IsOk, specs.Prelude.IfErr, specs.Prelude.OnOk, specs.Prelude.OnErr, specs.List.flat_map}
use Rattle.pk_base.{specs.Shape.Shape, specs.Shape.epoch_commits, specs.Shape.commit_programs, specs.Page.Flash, specs.Page.page_at, specs.Page.whole, specs.Page.commit_page, specs.Key.Key}
use Rattle.pk_base.{specs.Entry.Entry, specs.Entry.Place, specs.Firsts.firsts, specs.Map.Map, specs.Mark.all_posted, proofs.CommitPages.block_of_pair}
use Rattle.pk_plan.specs.declared.owner.Owner.TheVariants.{Journal}
use Rattle.pk_nand.{specs.declared.types.Fault.Fault, specs.declared.types.Fault.TheVariants.Stopped, specs.BoardState.BoardState, proofs.Leaving.page_at-slice_set, proofs.Writing.shape_is}
use Rattle.pk_nand.{specs.Calls.IsReady, specs.Calls.after_program, specs.Calls.after_programs, specs.Effects.Works, specs.Effects.Stops, specs.Pairs.programs_of_pair}
use Rattle.pk_nand.proofs.Effects.{works_none, works_program, works_then, stops_program, stops_then}
use Rattle.pk_rootfmt.{specs.Root.Root, specs.Newest.newest_root}
use Rattle.pk_pool.{specs.declared.state.BlockState.TheVariants.Owned, specs.Blocks.PoolOnFlash}
use Rattle.pk_jrn.{specs.Epochs.left_of, specs.Epochs.next_page, specs.Appends.next_bytes, proofs.Appending.commit_left}
use Rattle.pk_model.{specs.Found.Found, specs.Values.placed, specs.Laws.AnyByRecursion, proofs.Commits.valid_blocks, proofs.Commits.pair_among, proofs.SamePages.any_front, specs.Growth.Goes}
use Rattle.pk_model.{specs.Crashes.CrashFinds, specs.Crashes.commit, specs.Wear.root_number, specs.Wear.roots, proofs.Growing.weaken, proofs.Growing.weaken_went, proofs.Growing.at_end}
use Rattle.pk_law_steps.{specs.Under.IsUnder, specs.Under.IsValuePage, specs.Under.places, specs.Roots.committed, proofs.Untouched.under_reads}
use Rattle.pk_scan.specs.Used.{IsUseOf}
use Rattle.pk_values.{specs.Placed.ValuesOnFlash, proofs.Unchanged.flash_elsewhere}
use Rattle.pk_call.specs.Commit.{ProgramsOfCommit}
use Rattle.pk_log.specs.State.{LogState, all_committed}
use Rattle.pk_log.specs.Commits.{CommitsNone, CommitsAll, CommitFailed, CommitStands, CommitHolds, CommitReaches, CommitGoes, CommitCut as LogCut, Maps}
use Rattle.pk_gc.specs.Standing.{ReclaimOnFlash}
use Rattle.pk_parts.{specs.Parts.Parts, specs.Parts.frames_of, specs.Parts.index_of, specs.Parts.outputs_of, specs.Agreeing.DriveOnFlashWith, proofs.Halves.whole_like, proofs.Keeping.KeepsAll-none}
use Rattle.pk_parts.specs.Moves.{MayCommit, StepKeeps, OnlyCommits, StandsFor, StandsBetween, Keeps, KeepsAll, BreaksAll}
use Rattle.pk_parts.{proofs.Standing.same_found, proofs.Elsewhere.values_same, proofs.Elsewhere.still_fits, proofs.Reclaiming.reclaim_elsewhere}
use Rattle.pk_schedule.proofs.Keeping.{index_committed}

-- the drive with another log
abbrev pub with_log : Parts → LogState → Parts
with_log d log = record d { log = log }

-- the places are those with the pending entries
pub places_committed : (found : Found) (es : List Entry) → places (committed found es) [] ≡ places found es
places_committed found es = ap (λ (xs : List Entry). placed (firsts (reverse xs ++ reverse found.older ++ flat_map (λ ys. ys) found.runs))) (append-nil (found.newest ++ es))

-- ---- the two pages of the epoch's next commit were programmed

module _ (d : Parts) (old new : BoardState) (top : ℕ × Root) (found : Found) (without m : Map) (agrees : DriveOnFlashWith d d.log.shape old.pages top found without m)
    (some : d.log.pending ≢ []) (bytes : List ℕ) (made : new ≡ after_programs old (programs_of_pair (next_page d.log.epoch) bytes)) (ready : IsReady new d.log.shape)
    (logs_after : CommitStands d.log old (all_committed d.log) new) (holds : CommitHolds d.log old new) where
  abbrev its : Shape
  its = d.log.shape

  -- the first of them, as the root names it, and its block
  abbrev at : ℕ
  at = commit_page its top.1.newest d.log.epoch.used

  abbrev block : ℕ
  block = at / its.block_pages

  inside : d.log.epoch.used < epoch_commits its
  inside = let logs = agrees.index.logs in subst (λ (s : Shape). d.log.epoch.used < epoch_commits s) logs.epoch_shape (commit_left d.log.epoch (logs.pending_room some))

  at_is : at ≡ next_page d.log.epoch
  at_is i = commit_page (sym agrees.index.logs.epoch_shape i) (sym agrees.index.logs.epoch_blocks i) d.log.epoch.used

  -- both are in that block
  in_block : (k : ℕ) → at ≤ k → k < at + 2 → k / its.block_pages ≡ block
  in_block k least less =
      let is = agrees.index.logs.is_shape in
      block_of_pair its top.1.newest is d.log.epoch.used k least less ∙ sym (block_of_pair its top.1.newest is d.log.epoch.used at (omega arith) (omega arith))

  others : (k : ℕ) → (k / its.block_pages ≡ block → ⊥) → page_at new.pages k ≡ page_at old.pages k
  others k away =
      ap (λ (s : BoardState). page_at s.pages k) (made ∙ sym (ap (λ (p : ℕ). after_programs old (programs_of_pair p bytes)) at_is))
      ∙ page_at-slice_set (after_program old at bytes).pages (at + 1) k (whole bytes) (λ e. away (in_block k (omega (arith, e)) (omega (arith, e))))
      ∙ page_at-slice_set old.pages at k (whole bytes) (λ e. away (in_block k (omega (arith, e)) (omega (arith, e))))

  among : AnyByRecursion (λ b. block ≡ b) top.1.newest
  among = pair_among its agrees.index.logs.is_shape top.1 (valid_blocks its (page_at old.pages) top agrees.index.logs.is_top) d.log.epoch.used inside at (omega arith) (omega arith)

  owned : slice_get d.pool.states block ≡ Some (Owned Journal)
  owned = agrees.index.journal block (any_front (λ c. block ≡ c) top.1.newest top.1.older among)

  maps : Maps d.log old top found without m
  maps = record { logs = agrees.index.logs; without = agrees.committed; all = agrees.pending }

  after_is : DriveOnFlashWith (with_log d (all_committed d.log)) its new.pages top (committed found d.log.pending) m m
  after_is =
      let under = holds top found without m maps in
      let same = sym (places_committed found d.log.pending) in
      let fits : PoolOnFlash d.pool new.pages = still_fits its d.pool old.pages new.pages block owned others agrees.placed.shape_is agrees.placed.fits in
      let values : ValuesOnFlash its d.values d.pool (outputs_of d) new.pages (places found d.log.pending) =
      flash_elsewhere its d.values d.pool (outputs_of d) old.pages new.pages (places found d.log.pending) agrees.placed
      (values_same its d.pool old.pages new.pages block owned others (outputs_of d)) fits in
      record {
        shape_is = refl;
        is_flash = ready.flash;
        index = index_committed (index_of d) (frames_of d) old.pages new.pages top found agrees.index block among others fits (logs_after top found agrees.index.logs);
        committed = under;
        pending = under;
        placed = subst (λ (es : List (Key × Place)). ValuesOnFlash its d.values d.pool (outputs_of d) new.pages es) same values;
        former = λ k is. agrees.placed.owned k (subst (λ (es : List (Key × Place)). IsValuePage its es k) (sym same) is);
        former_read = λ k is. agrees.placed.outputs_are.unread k (subst (λ (es : List (Key × Place)). IsValuePage its es k) (sym same) is);
        reclaim =
            subst (λ (es : List (Key × Place)). ReclaimOnFlash its d.reclaim d.values.live d.pool new.pages es) same
            (reclaim_elsewhere its d.reclaim d.values d.pool d.pool old.pages new.pages (places found d.log.pending) agrees.reclaim agrees.placed refl
            (λ k held not_open. values_same its d.pool old.pages new.pages block owned others [] k held (λ none. none)));
        uses = subst (IsUseOf its d.spaces) same agrees.uses;
      }

-- ---- cuts

module _ (shape : Shape) (top : ℕ × Root) (found : Found) (es : List Entry) (start : Flash) (m0 m1 : Map) (before : IsUnder shape start [] top found m0) where
  pub cut_of_log : (flash : Flash) (posted : List ℕ) → LogCut shape top found es m0 m1 flash posted → CrashFinds shape commit start m1 flash posted
  cut_of_log flash posted cut = (
    cut.0,
    elim cut.1 [
      | inl without ↦ inl (under_reads shape flash [] top found m0 without ∙ sym (under_reads shape start [] top found m0 before))
      | inr all ↦ inr (under_reads shape flash [] top (committed found es) m1 all)
    ],
  )

pub maps_of : (d : Parts) (board : BoardState) (top : ℕ × Root) (found : Found) (without m : Map)
    → DriveOnFlashWith d d.log.shape board.pages top found without m → Maps d.log board top found without m
maps_of d board top found without m agrees = record { logs = agrees.index.logs; without = agrees.committed; all = agrees.pending }

-- ---- the whole commit

module _ (d : Parts) (log' : LogState) (old new : BoardState) (ready : IsReady new d.log.shape)
    (logs_after : CommitStands d.log old log' new) (holds : CommitHolds d.log old new) (reaches : CommitReaches d.log old new) where
  all_keep : CommitsAll d.log old log' new → (m : Map) → StandsFor d d.log.shape old.pages m → Keeps d (with_log d log') d.log.shape m old new
  all_keep all m stands =
      let agrees = stands.with in
      let maps = maps_of d old stands.top stands.found stands.without m agrees in
      let under = holds stands.top stands.found stands.without m maps in
      let run = reaches stands.top stands.found stands.without m maps in
      let L : LogState → Type 0 = λ l. CommitStands d.log old l new in
      let K : LogState → Type 0 = λ l. Keeps d (with_log d l) d.log.shape m old new in
      subst K (sym all.taken) (record {
        stands = record {
          top = stands.top;
          found = committed stands.found d.log.pending;
          without = m;
          with = after_is d old new stands.top stands.found stands.without m agrees all.some (next_bytes d.log.epoch d.log.pending) all.board ready (subst L all.taken logs_after) holds;
          whole = whole_like d (with_log d (all_committed d.log)) refl (λ none. none) refl refl stands.whole;
        };
        same_places = λ was. places_committed stands.found d.log.pending ∙ ap (λ (f : Found). places f d.log.pending) (same_found d d.log.shape old.pages m was stands);
        still = inr (under_reads d.log.shape new.pages [] stands.top (committed stands.found d.log.pending) m under);
        cuts = (
          run.0,
          weaken run.0 old new (LogCut d.log.shape stands.top stands.found d.log.pending stands.without m) (CrashFinds d.log.shape commit old.pages m)
              (cut_of_log d.log.shape stands.top stands.found d.log.pending old.pages stands.without m agrees.committed) run.1,
          run.2,
        );
      })

  pub commit_keeps : CommitsNone d.log old log' new ⊎ CommitsAll d.log old log' new → KeepsAll d (with_log d log') old new
  commit_keeps (inl none) shape m stands = KeepsAll-none d (with_log d log') old new (ap (λ (l : LogState). with_log d l) none.kept) none.board shape m stands
  commit_keeps (inr all) shape m stands =
      let P : Shape → Type 0 = λ s. StandsFor d s old.pages m → Keeps d (with_log d log') s m old new in
      subst P stands.with.shape_is (λ there. all_keep all m there) stands

pub commit_breaks : (d : Parts) (old new : BoardState) → CommitGoes d.log old new → BreaksAll d old new
commit_breaks d old new goes shape m stands =
    let P : Shape → Type 0 = λ s. StandsFor d s old.pages m → Goes s old new (CrashFinds s commit old.pages m) in
    subst P stands.with.shape_is (λ there.
    let maps = maps_of d old there.top there.found there.without m there.with in
    let run = goes there.top there.found there.without m maps in (
      run.0,
      weaken_went run.0 old new (LogCut d.log.shape there.top there.found d.log.pending there.without m) (CrashFinds d.log.shape commit old.pages m)
          (cut_of_log d.log.shape there.top there.found d.log.pending old.pages there.without m there.with.committed) run.1,
      run.2,
    )) stands

-- ---- the counts

pub commit_works : (log log' : LogState) (old new : BoardState) → CommitsNone log old log' new ⊎ CommitsAll log old log' new → Works old new
commit_works log log' old new (inl none) = works_none old new none.board
commit_works log log' old new (inr all) =
    let at = next_page log.epoch in
    let bytes = next_bytes log.epoch log.pending in
    let mid : BoardState = after_program old at bytes in
    works_then old mid new (works_program old mid at bytes refl) (works_program mid new (at + 1) bytes all.board)

pub commit_stops : (log : LogState) (old new : BoardState) → CommitFailed log old new → Stops old new
commit_stops log old new failed =
    let at = next_page log.epoch in
    let bytes = next_bytes log.epoch log.pending in
    let mid : BoardState = after_program old at bytes in
    elim failed.failed [
      | inl first ↦ stops_program old new at bytes first
      | inr second ↦ stops_then old mid new (works_program old mid at bytes refl) (stops_program mid new (at + 1) bytes second)
    ]

-- ---- the newest root

number_same : (shape : Shape) (old new : Flash) (top : ℕ × Root) → newest_root shape (page_at old) ≡ Some top
    → newest_root shape (page_at new) ≡ Some top → root_number shape new ≡ root_number shape old
unfolding root_number
number_same shape old new top was is = rw (was, is) refl

roots_of : (old new : BoardState) (shape : Shape) (top : ℕ × Root) → IsReady old shape → IsReady new shape
    → newest_root shape (page_at old.pages) ≡ Some top → newest_root shape (page_at new.pages) ≡ Some top → roots new ≡ roots old
roots_of old new shape top before after was is =
    let same = number_same shape old.pages new.pages top was is in
    ap (λ (s : Shape). root_number s new.pages) (shape_is new shape after) ∙ same ∙ ap (λ (s : Shape). root_number s old.pages) (sym (shape_is old shape before))

top_in_cut : (shape : Shape) (top : ℕ × Root) (found : Found) (es : List Entry) (m0 m1 : Map) (flash : Flash) (posted : List ℕ)
    → LogCut shape top found es m0 m1 flash posted → newest_root shape (page_at flash) ≡ Some top
top_in_cut shape top found es m0 m1 flash posted cut = elim cut.1 [ inl without ↦ without.is_top | inr all ↦ all.is_top ]

-- the maps of a drive of which a pair may be half made
maps_between : (d : Parts) (board : BoardState) (m : Map) (s : StandsBetween d d.log.shape board.pages m) → Maps d.log board s.top s.found s.without m
maps_between d board m s = record { logs = s.with.index.logs; without = s.with.committed; all = s.with.pending }

pub commit_roots : (d : Parts) (m : Map) (old new : BoardState) → IsReady old d.log.shape → IsReady new d.log.shape
    → StandsBetween d d.log.shape old.pages m → CommitReaches d.log old new → roots new ≡ roots old
commit_roots d m old new before after there reaches =
    let run = reaches there.top there.found there.without m (maps_between d old m there) in
    roots_of old new d.log.shape there.top before after there.with.index.logs.is_top
    (top_in_cut d.log.shape there.top there.found d.log.pending there.without m new.pages (all_posted run.0)
    (at_end run.0 old new (LogCut d.log.shape there.top there.found d.log.pending there.without m) run.1))

pub commit_roots_err : (d : Parts) (m : Map) (old new : BoardState) → IsReady old d.log.shape
    → IsReady new d.log.shape → StandsBetween d d.log.shape old.pages m → CommitGoes d.log old new → roots new ≡ roots old
commit_roots_err d m old new before after there goes =
    let run = goes there.top there.found there.without m (maps_between d old m there) in
    roots_of old new d.log.shape there.top before after there.with.index.logs.is_top
    (top_in_cut d.log.shape there.top there.found d.log.pending there.without m new.pages (all_posted run.0)
    (run.1.cuts new.pages (all_posted run.0) run.1.stands))

-- ---- the commits left of the epoch

one_less : (more : Bool) (pages used : ℕ) → (if more then pages - (used + 1) else 0) ≤ (if more then pages - used else 0)
one_less true pages used = omega arith
one_less false pages used = omega arith

pub no_more_left : (log log' : LogState) (old new : BoardState) → CommitsNone log old log' new ⊎ CommitsAll log old log' new → left_of log'.epoch ≤ left_of log.epoch
no_more_left log log' old new (inl none) = subst (λ (l : LogState). left_of l.epoch ≤ left_of log.epoch) (sym none.kept) (le_itself (left_of log.epoch))
  where
    le_itself : (n : ℕ) → n ≤ n
    le_itself n = omega arith
no_more_left log log' old new (inr all) =
    subst (λ (l : LogState). left_of l.epoch ≤ left_of log.epoch) (sym all.taken) (one_less log.epoch.takes_more (epoch_commits log.epoch.shape) log.epoch.used)

-- ---- by what the call answered

-- the shape is unchanged
pub shape_kept : (r : Result Unit Fault) (log log' : LogState) (old new : BoardState)
    → OnOk r (CommitsNone log old log' new ⊎ CommitsAll log old log' new) → OnErr r (log' ≡ log) → log'.shape ≡ log.shape
shape_kept (Ok x) log log' old new made kept = elim made [
  | inl none ↦ ap (λ (l : LogState). l.shape) none.kept
  | inr all ↦ ap (λ (l : LogState). l.shape) all.taken
]
shape_kept (Err e) log log' old new made kept = ap (λ (l : LogState). l.shape) kept

-- both programs of a commit
both_programs : (least : ℕ) (log log' : LogState) (old new : BoardState) → least ≤ 2 → CommitsAll log old log' new → ProgramsOfCommit least old new
both_programs least log log' old new few all =
    subst (ProgramsOfCommit least old) (sym all.board) (record { made = 2; some = few; most = omega arith; programs = refl; erases = refl; reads = refl })

-- one of them failed
failed_programs : (log : LogState) (old new : BoardState) → CommitFailed log old new → ProgramsOfCommit 1 old new
failed_programs log old new f = elim f.failed [
  | inl first ↦ subst (ProgramsOfCommit 1 old) (sym first.rest) (record { made = 1; some = omega arith; most = omega arith; programs = refl; erases = refl; reads = refl })
  | inr second ↦ subst (ProgramsOfCommit 1 old) (sym second.rest) (record { made = 2; some = omega arith; most = omega arith; programs = refl; erases = refl; reads = refl })
]

-- if entries were pending, one program was made at least, whether or not it failed
pub some_programs : (r : Result Unit Fault) (log log' : LogState) (old new : BoardState) → OnOk r (CommitsNone log old log' new ⊎ CommitsAll log old log' new) → OnErr r (CommitFailed log old new)
    → log.pending ≢ [] → ProgramsOfCommit 1 old new
some_programs (Ok x) log log' old new (inl none) failed some = absurd (some none.none)
some_programs (Ok x) log log' old new (inr all) failed some = both_programs 1 log log' old new (omega arith) all
some_programs (Err e) log log' old new made failed some = failed_programs log old new failed

-- and both of them if none failed
pub all_programs : (log log' : LogState) (old new : BoardState) → CommitsNone log old log' new ⊎ CommitsAll log old log' new → log.pending ≢ [] → ProgramsOfCommit commit_programs old new
all_programs log log' old new (inl none) some = absurd (some none.none)
all_programs log log' old new (inr all) some = both_programs commit_programs log log' old new (omega arith) all

-- if none were, nothing was done
pub nothing_done : (r : Result Unit Fault) (d : Parts) (log' : LogState) (old new : BoardState)
    → OnOk r (CommitsNone d.log old log' new ⊎ CommitsAll d.log old log' new) → OnErr r (CommitFailed d.log old new)
    → d.log.pending ≡ [] → IsOk r × (with_log d log' ≡ d) × (new ≡ old)
nothing_done (Ok x) d log' old new (inl none) failed is = (refl, ap (λ (l : LogState). with_log d l) none.kept, none.board)
nothing_done (Ok x) d log' old new (inr all) failed is = absurd (all.some is)
nothing_done (Err e) d log' old new made failed is = absurd (failed.some is)

-- ---- the step

pub only_commits : (d : Parts) (log' : LogState) (old new : BoardState) → CommitsNone d.log old log' new ⊎ CommitsAll d.log old log' new → OnlyCommits d (with_log d log')
only_commits d log' old new (inl none) = let P : LogState → Type 0 = λ l. OnlyCommits d (with_log d l) in subst P (sym none.kept) refl
only_commits d log' old new (inr all) = let P : LogState → Type 0 = λ l. OnlyCommits d (with_log d l) in subst P (sym all.taken) refl

pub commit_step : (r : Result Unit Fault) (d : Parts) (log' : LogState) (old new : BoardState) → MayCommit d old → IsReady new d.log.shape
    → OnOk r (CommitsNone d.log old log' new ⊎ CommitsAll d.log old log' new) → OnOk r (CommitStands d.log old log' new) → OnOk r (CommitHolds d.log old new) → OnOk r (CommitReaches d.log old new)
    → IfErr r (λ e. e ≡ Stopped) → OnErr r (CommitFailed d.log old new) → OnErr r (CommitGoes d.log old new) → StepKeeps d (with_log d log') 0 old new r
commit_step (Ok x) d log' old new may after made stands holds reaches stopped failed goes = record {
  ended = commit_keeps d log' old new after stands holds reaches made;
  broken = tt;
  works = commit_works d.log log' old new made;
  stops = tt;
  stopped = tt;
  roots_few = commit_roots d may.stands.0 old new may.ready after may.stands.1 reaches;
  ready = after;
}
commit_step (Err e) d log' old new may after made stands holds reaches stopped failed goes = record {
  ended = tt;
  broken = commit_breaks d old new goes;
  works = tt;
  stops = commit_stops d.log old new failed;
  stopped = stopped;
  roots_few = commit_roots_err d may.stands.0 old new may.ready after may.stands.1 goes;
  ready = after;
}
