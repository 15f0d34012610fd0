-- The whole of opening, by what its parts found.
use Rattle.std.{proofs.Common.◌≡◌, proofs.Common.ℕ, proofs.Common.◌+◌, proofs.Common.◌<◌, proofs.Common.◌≤◌, proofs.Common.true, proofs.Common.List, proofs.Common.[], specs.List.AllByRecursion}
use Rattle.std.proofs.Common.{◌∷◌, length, refl, sym, ap, subst, ◌∙◌, arith, Some, None, Result, Ok, Err}
use Rattle.pk_base.{specs.Shape.Shape, specs.Shape.buffer, specs.Shape.root_pages, specs.Shape.pinned, specs.Entry.Entry, specs.Firsts.firsts}
use Rattle.pk_base.{specs.EntryChecks.IsEntry, specs.EntryChecks.IsPlace, specs.Page.Flash, specs.Page.page_at, specs.Refusal.Refusal, specs.Refusal.damaged}
use Rattle.pk_nand.{specs.BoardState.BoardState, specs.Counts.after_reads}
use Rattle.pk_rootfmt.{specs.Root.Root, specs.Root.named, specs.Root.is_root, specs.Newest.newest_root}
use Rattle.pk_buf.specs.Table.{Table}
use Rattle.pk_jrn.{specs.Epochs.JournalEpoch, specs.Replays.buffer_of, proofs.Puts.firsts-reverse, specs.EpochReads.epoch_reads}
use Rattle.pk_pin.specs.Frames.{Frames, free_frames}
use Rattle.pk_level.{specs.Levels.Levels, specs.Arenas.leases_of}
use Rattle.pk_live.specs.Values.{no_values, Values}
use Rattle.pk_walk.{specs.Visible.visible, specs.Walking.Walk, specs.Walking.IsLeft, specs.Walking.most_read}
use Rattle.pk_plan.specs.declared.owner.Owner.TheVariants.{Values as for_values}
use Rattle.pk_pool.specs.Blocks.{Blocks, used_by, unused}
use Rattle.pk_model.{specs.Found.Found, specs.Found.found_under, specs.Found.entries_in_order, specs.Reading.reading, specs.RootLimits.root_limits}
use Rattle.pk_model.specs.Values.{placed, values_of, all_pages, blocks_with}
use Rattle.pk_model.proofs.Entries.{counting_all, journal_are, meta_are}
use Rattle.pk_law_steps.{specs.Under.places, proofs.Untouched.value_page_whole, proofs.Untouched.not_erased}
use Rattle.pk_scan.{specs.Starting.IsAtStart, specs.Opening.OnlyReads, specs.Opening.NotOpened, specs.Runs.LeasedMore, specs.declared.contents.Found.Found as Opened, specs.Adopts.HasOwners}
use Rattle.pk_scan.{specs.OpeningParts.PartNotOpened, specs.OpeningParts.HoldsFound, specs.OpeningParts.ReadsValues, specs.OpeningParts.wanted_behind, specs.declared.contents.Memory.Memory as Working}
use Rattle.pk_scan.specs.Memory.{FoundNothing, IsUnread, AwaitsLists, HoldsLists, LoadsLists, FindsLists, AwaitsValues}
use Rattle.pk_scan.specs.declared.errors.OpenError.TheVariants.{NotFormatted, Damaged}
use Rattle.pk_scan.{specs.Opened.FoundOnFlash, specs.Reads.opening_reads, specs.Reads.reads_under, specs.Reads.list_reads, specs.Reads.value_reads, specs.Reads.pages_of_runs, specs.Reads.run_reads}
use Rattle.pk_scan.{proofs.Boards.reads_sum, proofs.RunReads.run_reads_are, specs.declared.errors.OpenError.OpenError, proofs.Leasing.arena_opened, proofs.Leasing.bare_of, proofs.Room.frames_enough, specs.Used.IsUseOf}
use Rattle.pk_scan.{proofs.Opened.behind_reads, proofs.Under.visible_places, proofs.Under.found_refuses, proofs.Under.values_refuse, proofs.Under.stands_under}
use Rattle.pk_space.specs.Uses.{Use}

-- ---- the keys that exist

placed_all : (shape : Shape) (es : List Entry) → AllByRecursion (IsEntry shape) es → AllByRecursion (λ e. IsPlace shape e.1) (placed es)
placed_all shape [] all = tt
placed_all shape ((key, None) ∷ es) all = placed_all shape es all.1
placed_all shape ((key, Some place) ∷ es) all = (all.0.1, placed_all shape es all.1)

entries_are : (shape : Shape) (flash : Flash) (root : Root) (found : Found) → found_under shape (page_at flash) root ≡ Ok found → AllByRecursion (IsEntry shape) (firsts (entries_in_order found []))
entries_are shape flash root found is =
    counting_all (IsEntry shape) shape (page_at flash) (λ k number index bytes es stands read. journal_are shape number index bytes es read)
    (λ k level index count bytes es stands read. meta_are shape level index count bytes es read) root found [] is tt

pub places_are : (shape : Shape) (flash : Flash) (root : Root) (found : Found) → found_under shape (page_at flash) root ≡ Ok found → AllByRecursion (λ e. IsPlace shape e.1) (places found [])
places_are shape flash root found is = placed_all shape (firsts (entries_in_order found [])) (entries_are shape flash root found is)

module _ {shape : Shape} {flash : Flash} {root : Root} {active frozen : Table} {epoch : JournalEpoch} {arena : Frames} {levels : Levels} {found : Found}
    (held : HoldsFound shape flash root active frozen epoch arena levels found) where
  -- a walk that is at its start has them still to give
  pub left_to_give : (walk : Walk) → IsAtStart walk → IsLeft walk flash arena levels.runs active.entries frozen.entries (places found [])
  left_to_give walk starts =
      let all : visible (active.entries ∷ frozen.entries ∷ found.runs) ≡ places found [] =
      ap (λ (t : Table). visible (t.entries ∷ frozen.entries ∷ found.runs)) held.active_is
      ∙ ap (λ (t : Table). visible ((buffer_of shape found.newest).entries ∷ t.entries ∷ found.runs)) held.frozen_is ∙ visible_places found in
      subst (IsLeft walk flash arena levels.runs active.entries frozen.entries) all (starts.gives flash arena levels.runs active.entries frozen.entries found.runs held.stand)

  -- the entries of the newest epoch have room in a write buffer
  few_newest : length active.entries ≤ active.capacity → length (firsts found.newest) ≤ buffer shape
  few_newest room =
      let here = subst (λ (t : Table). length t.entries ≤ t.capacity) held.active_is room in
      let same = firsts-reverse found.newest in
      omega (arith, here, same)

-- ---- refusals

-- if a part refuses, so does the reading of the flash
pub as_whole : {X : Type 0} (part : Result X Refusal) (shape : Shape) (old new : BoardState) (e : OpenError)
    → ((refusal : Refusal) → part ≡ Err refusal → reading shape old.pages [] ≡ Err refusal) → PartNotOpened part old new e → NotOpened shape old new e
as_whole part shape old new NotFormatted passes why = absurd why
as_whole part shape old new (Damaged page) passes why = (passes (damaged page) why.0, why.1)
as_whole part shape old new _ passes why = why

module _ (shape : Shape) (page : ℕ) (root : Root) (old : BoardState) (top : newest_root shape (page_at old.pages) ≡ Some (page, root))
    (now : BoardState) (reads : OnlyReads old now) (same : now.pages ≡ old.pages) where
  pub lists_refuse : (new : BoardState) (e : OpenError) → PartNotOpened (found_under shape (page_at now.pages) root) now new e → NotOpened shape old new e
  lists_refuse new e why =
      let part = found_under shape (page_at old.pages) root in
      as_whole part shape old new e (found_refuses shape old.pages page root top)
      (behind_reads part old now new e reads (subst (λ (f : Flash). PartNotOpened (found_under shape (page_at f) root) now new e) same why))

  pub values_refused : (found : Found) → found_under shape (page_at old.pages) root ≡ Ok found → length (firsts found.newest) ≤ buffer shape → (new : BoardState) (e : OpenError)
      → PartNotOpened (values_of shape (page_at now.pages) (root_limits shape root) (named root) [] (places found [])) now new e → NotOpened shape old new e
  values_refused found is room new e why =
      let part = values_of shape (page_at old.pages) (root_limits shape root) (named root) [] (places found []) in
      as_whole part shape old new e (values_refuse shape old.pages page root top found is room)
      (behind_reads part old now new e reads (subst (λ (f : Flash). PartNotOpened (values_of shape (page_at f) (root_limits shape root) (named root) [] (places found [])) now new e) same why))

-- ---- lists

-- the lists were read after the root
pub root_then_lists : (shape : Shape) (root : Root) (old now new : BoardState) → now ≡ after_reads (root_pages shape) old → now.pages ≡ old.pages
    → new ≡ after_reads (list_reads shape (page_at now.pages) root) now → new ≡ after_reads (root_pages shape + list_reads shape (page_at old.pages) root) old
root_then_lists shape root old now new first same second =
    let lists : ℕ = list_reads shape (page_at old.pages) root in
    let sum : lists + root_pages shape ≡ root_pages shape + lists = omega arith in
    reads_sum old now new (root_pages shape) lists (root_pages shape + lists) sum first (subst (λ (f : Flash). new ≡ after_reads (list_reads shape (page_at f) root) now) same second)

-- the root was found, and after it the lists
pub finds_lists : {A : Type 0} (flash now : Flash) (old mid new : Opened A) (found : Found)
    → new ≡ record mid { active = new.active; frozen = new.frozen; levels = new.levels; arena = new.arena; epoch = new.epoch }
    → mid.root.shape ≡ old.root.shape → mid.levels ≡ old.levels → mid.arena ≡ old.arena → now ≡ flash
    → newest_root old.root.shape (page_at flash) ≡ Some (mid.root_page, mid.root.root) → mid.root_page < root_pages old.root.shape
    → is_root old.root.shape mid.root.root ≡ true → old.levels.shape ≡ old.root.shape → length new.active.entries ≤ new.active.capacity → LoadsLists now mid new found → FindsLists flash old new found
finds_lists flash now old mid new found kept shape levels arena same top place grammar levels_shape few loads =
    let root_is : new.root ≡ mid.root = ap (λ x. x.root) kept in
    let page_is : new.root_page ≡ mid.root_page = ap (λ x. x.root_page) kept in
    record {
      top = rw (page_is, root_is) top;
      place = rw page_is place;
      grammar = rw root_is grammar;
      held = rw root_is (subst (λ (f : Flash). HoldsFound old.root.shape f mid.root.root new.active new.frozen new.epoch new.arena new.levels found) same
          (subst (λ (s : Shape). HoldsFound s now mid.root.root new.active new.frozen new.epoch new.arena new.levels found) shape loads.held));
      few = few;
      more = subst (λ (a : Frames). LeasedMore a new.arena (leases_of new.levels.runs)) arena loads.more;
      pinned_is = loads.pinned_is ∙ ap (λ (l : Levels). l.pinned) levels;
      levels_shape = loads.levels_shape ∙ ap (λ (l : Levels). l.shape) levels ∙ levels_shape;
    }

-- ---- in one call

module _ {A : Type 0} {shape : Shape} {frames : ℕ} {before f : Opened A} {found : Found} (old now : BoardState) (unread : FoundNothing shape frames before)
    (root_is : f.root.shape ≡ before.root.shape) (same : now.pages ≡ old.pages) (finds : FindsLists old.pages before f found) where
  -- the lists still match the board after them
  pub held_behind : HoldsLists now.pages f found
  held_behind =
      subst (λ (x : Flash). HoldsFound f.root.shape x f.root.root f.active f.frozen f.epoch f.arena f.levels found) (sym same)
      (subst (λ (s : Shape). HoldsFound s old.pages f.root.root f.active f.frozen f.epoch f.arena f.levels found) (sym root_is) finds.held)

  held_here : HoldsFound shape old.pages f.root.root f.active f.frozen f.epoch f.arena f.levels found
  held_here = subst (λ (s : Shape). HoldsFound s old.pages f.root.root f.active f.frozen f.epoch f.arena f.levels found) unread.root_shape finds.held

  shape_is : f.root.shape ≡ shape
  shape_is = root_is ∙ unread.root_shape

  top_here : newest_root shape (page_at old.pages) ≡ Some (f.root_page, f.root.root)
  top_here = subst (λ (s : Shape). newest_root s (page_at old.pages) ≡ Some (f.root_page, f.root.root)) unread.root_shape finds.top

  pub scan_refuses : OnlyReads old now → (new : BoardState) (e : OpenError)
      → PartNotOpened (values_of f.root.shape (page_at now.pages) (root_limits f.root.shape f.root.root) (named f.root.root) [] (places found [])) now new e → NotOpened shape old new e
  scan_refuses reads new e why =
      values_refused shape f.root_page f.root.root old top_here now reads same found held_here.finds (few_newest held_here finds.few) new e
      (subst (λ (s : Shape). PartNotOpened (values_of s (page_at now.pages) (root_limits s f.root.root) (named f.root.root) [] (places found [])) now new e) shape_is why)

  pinned_here : f.levels.pinned ≡ pinned shape frames
  pinned_here = finds.pinned_is ∙ ap (λ (l : Levels). l.pinned) unread.no_run

  pub scan_opened : (live : Values) → ReadsValues f.root.shape now.pages (root_limits f.root.shape f.root.root) (named f.root.root) live (places found []) → (pool : Blocks) → HasOwners f.root.shape f.root.root live pool
      → used_by for_values pool.states ≡ length (blocks_with f.root.shape (all_pages f.root.shape (places found []))) → (u : Use) → IsUseOf f.root.shape u (places found [])
      → FoundOnFlash shape old.pages frames (record f { live = live; pool = pool; spaces = u })
  scan_opened live there pool owners values_are u uses =
      let values = subst (λ (s : Shape). ReadsValues s old.pages (root_limits s f.root.root) (named f.root.root) live (places found [])) shape_is
      (subst (λ (x : Flash). ReadsValues f.root.shape x (root_limits f.root.shape f.root.root) (named f.root.root) live (places found [])) same there) in
      let under = stands_under shape old.pages f.root_page f.root.root top_here found held_here.finds (few_newest held_here finds.few) values.values values.read in
      record {
        found = found;
        map = under.0;
        lists = record {
          shape_is = shape_is;
          grammar = subst (λ (s : Shape). is_root s f.root.root ≡ true) unread.root_shape finds.grammar;
          place = subst (λ (s : Shape). f.root_page < root_pages s) unread.root_shape finds.place;
          under = under.1;
          active_is = held_here.active_is;
          frozen_is = held_here.frozen_is;
          epoch_is = held_here.epoch_is;
          epoch_fits = held_here.epoch_fits;
          levels_shape = finds.levels_shape ∙ unread.root_shape;
          levels_pinned = pinned_here;
          stand = held_here.stand;
          run_blocks = held_here.run_blocks;
          arena_is = arena_opened shape frames before.arena f.arena f.levels f.root.root.counts finds.held.run_frames
              (finds.levels_shape ∙ unread.root_shape) pinned_here unread.page_bytes unread.all_free finds.more;
          closed = bare_of f.levels.pinned f.levels.pinned 1 f.levels.runs f.root.root.counts (omega arith) finds.held.run_frames;
        };
        blocks = record {
          lives = values.lives;
          written = λ k is. not_erased (page_at old.pages k) (value_page_whole shape old.pages [] (f.root_page, f.root.root) found under.0 under.1 k is);
          owners = subst (λ (s : Shape). HasOwners s f.root.root live pool) shape_is owners;
          values_are = subst (λ (s : Shape). used_by for_values pool.states ≡ length (blocks_with s (all_pages s (places found [])))) shape_is values_are;
        };
        uses = subst (λ (s : Shape). IsUseOf s u (places found [])) shape_is uses;
      }

  opened_is : opening_reads shape old.pages frames ≡ root_pages shape + epoch_reads shape (page_at old.pages) f.root.root.older + epoch_reads shape
      (page_at old.pages) f.root.root.newest + run_reads shape (pinned shape frames) 1 f.root.root.counts + value_reads shape (places found [])
  unfolding opening_reads reads_under
  opened_is = rw (top_here, held_here.finds) refl

  -- what was read, part by part
  pub scan_reads : (new : BoardState) → now ≡ after_reads (root_pages before.root.shape + list_reads before.root.shape (page_at old.pages) f.root.root) old
      → new ≡ after_reads (most_read f.levels.runs + value_reads f.root.shape (places found [])) now → new ≡ after_reads (opening_reads shape old.pages frames) old
  scan_reads new first second =
      let root = f.root.root in
      let runs = run_reads_are shape old.pages f.arena f.levels.pinned 1 f.levels.runs found.runs root.runs root.counts held_here.stand held_here.run_blocks held_here.run_frames in
      reads_sum old now new (root_pages shape + list_reads shape (page_at old.pages) root) (most_read f.levels.runs + value_reads shape (places found [])) (opening_reads shape old.pages frames)
      (sum (root_pages shape) (epoch_reads shape (page_at old.pages) root.older) (epoch_reads shape (page_at old.pages) root.newest)
      (pages_of_runs shape root.counts) (most_read f.levels.runs) (run_reads shape (pinned shape frames) 1 root.counts)
      (value_reads shape (places found [])) (runs ∙ ap (λ (n : ℕ). run_reads shape n 1 root.counts) pinned_here) ∙ sym opened_is)
      (subst (λ (s : Shape). now ≡ after_reads (root_pages s + list_reads s (page_at old.pages) root) old) unread.root_shape first)
      (subst (λ (s : Shape). new ≡ after_reads (most_read f.levels.runs + value_reads s (places found [])) now) shape_is second)
    where
      sum : (roots older newest once again all values : ℕ) → once + again ≡ all → (again + values) + (roots + (older + newest + once)) ≡ roots + older + newest + all + values
      sum roots older newest once again all values e = omega (arith, e)

-- an arena of free frames has those that are wanted
pub awaits_lists : {A : Type 0} (shape : Shape) (frames : ℕ) (f : Opened A) → FoundNothing shape frames f → AwaitsLists f
awaits_lists shape frames f none = record {
  active_none = rw none.root_shape none.active_none;
  frozen_none = rw none.root_shape none.frozen_none;
  levels_shape = ap (λ (l : Levels). l.shape) none.no_run ∙ sym none.root_shape;
  page_bytes = rw none.root_shape none.page_bytes;
  free = subst (λ (s : Shape). wanted_behind s f.levels.pinned 0 ≤ free_frames f.arena) (sym none.root_shape) (frames_enough shape frames f.levels f.arena none.no_run none.all_free);
}

-- after the lists the values may be read
pub awaits_values : {A : Type 0} (shape : Shape) (frames : ℕ) (flash : Flash) (was now : Working A) (found : Found) → IsUnread shape frames was → FindsLists flash was.found now.found found
    → now.found.root.shape ≡ was.found.root.shape → now.found.live ≡ was.found.live → now.walk ≡ was.walk
    → now.found.pool ≡ was.found.pool → now.found.spaces ≡ was.found.spaces → length now.page.items ≡ was.found.root.shape.page_bytes → AwaitsValues now
awaits_values shape frames flash was now found unread finds root_is live walk pool spaces room =
    let is : now.found.root.shape ≡ shape = root_is ∙ unread.nothing.root_shape in
    record {
      grammar = rw root_is finds.grammar;
      levels_shape = finds.levels_shape ∙ sym root_is;
      walk_shape = ap (λ w. w.shape) walk ∙ unread.walk_shape ∙ sym is;
      starts = subst (λ w. IsAtStart w) (sym walk) unread.starts;
      none_live = live ∙ unread.nothing.none_live ∙ ap (λ (s : Shape). no_values s) (sym is);
      pool_unused = pool ∙ unread.nothing.pool_unused ∙ ap (λ (s : Shape). unused s) (sym is);
      none_used = spaces ∙ unread.nothing.none_used;
      page_room = room ∙ ap (λ (s : Shape). s.page_bytes) (sym root_is);
    }
