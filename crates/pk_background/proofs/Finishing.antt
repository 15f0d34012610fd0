-- The second program of the newest root, stated for the drive.
use Rattle.std.proofs.Common.{◌≡◌, inl, inr, ℕ, ◌+◌, ◌-◌, ◌/◌, ◌%◌, ◌<◌, ◌≤◌, arith, mod-lt, refl, sym, ap, subst, ◌∙◌, true, List, [], length, Result, Ok, Err}
use Rattle.std.specs.Prelude.{OnOk, OnErr, IfErr}
use Rattle.pk_base.{specs.Shape.Shape, specs.Page.Flash, specs.Page.page_at, proofs.ShapeLemmas.block_pages_positive, specs.Entry.Entry, specs.Map.Map, specs.Refusal.Refusal}
use Rattle.pk_plan.specs.declared.owner.Owner.TheVariants.{Values}
use Rattle.pk_rootfmt.specs.Root.{Root, root_bytes}
use Rattle.pk_root.{specs.declared.next.Next.Next, specs.Installing.repeats_next, specs.Installing.IsPossible, specs.Installing.MayRepeat}
use Rattle.pk_call.specs.Half.{HasHalf, MakesPair}
use Rattle.pk_nand.{specs.declared.types.Fault.Fault, specs.declared.types.Fault.TheVariants.Stopped, specs.BoardState.BoardState, specs.Calls.IsReady, proofs.Writing.shape_is}
use Rattle.pk_nand.specs.Effects.{OneProgram, Works, Stops}
use Rattle.pk_pool.specs.Blocks.{Blocks, used_by, freed}
use Rattle.pk_model.{specs.Found.Found, specs.Growth.Goes, specs.Crashes.CrashFinds, specs.Crashes.background, specs.Wear.root_number, specs.Wear.roots}
use Rattle.pk_law_steps.{specs.Under.IsUnder, specs.Under.places, proofs.Untouched.under_reads}
use Rattle.pk_scan.specs.Used.{IsUseOf}
use Rattle.pk_values.{specs.Placed.ValuesOnFlash, proofs.Unchanged.ValuesOnFlash-kept}
use Rattle.pk_gc.specs.Standing.{ReclaimOnFlash}
use Rattle.pk_log.specs.State.{LogState}
use Rattle.pk_level.specs.Levels.{Levels}
use Rattle.pk_pin.specs.Frames.{Frames}
use Rattle.pk_schedule.{specs.Index.Index, specs.Index.index, specs.Steps.KeepsActive, specs.Steps.MaySettle, specs.Steps.IndexSettles, specs.Steps.Settles, specs.Steps.SettleBreaks}
use Rattle.pk_parts.{specs.Parts.Parts, specs.Parts.frames_of, specs.Parts.index_of, specs.Parts.outputs_of, specs.Parts.settled_parts, specs.Moves.StandsBetween, specs.Moves.MayCommit}
use Rattle.pk_parts.{specs.Agreeing.DriveOnFlashWith, specs.Agreeing.IsWhole, specs.Agreeing.IsHalfRoot, specs.Staying.Stays, proofs.Halves.root_of, proofs.Reclaiming.reclaim_elsewhere}
use Rattle.pk_parts.{proofs.Standing.found_between, proofs.Unchanging.same_ok}
use Rattle.pk_background.{specs.Pairing.Finished, specs.Pairing.FinishesRoot, specs.Pairing.FinishesRootOr, proofs.Remaining.merge_less}

-- ---- with nothing pending the flash has the map of the drive

pub maps_same : (d : Parts) (shape : Shape) (flash : Flash) (m : Map) (s : StandsBetween d shape flash m) → d.log.pending ≡ [] → s.without ≡ m
maps_same d shape flash m s none =
    let all : IsUnder shape flash [] s.top s.found m = subst (λ (es : List Entry). IsUnder shape flash es s.top s.found m) none s.with.pending in
    same_ok {E = Refusal} s.without m (sym (under_reads shape flash [] s.top s.found s.without s.with.committed) ∙ under_reads shape flash [] s.top s.found m all)

-- ---- the step

-- A pair is half made, and so it is: the drive matches on its own shape, for the map of the flash.
pub record HalfHere (d : Parts) (flash : Flash) (m : Map) (Half : ℕ × Root → Found → Map → Type 0) : Type 0 where
  pub top : ℕ × Root
  pub found : Found
  pub with : DriveOnFlashWith (settled_parts d) d.log.shape flash top found m m
  pub half : Half top found m

pub half_here : (d : Parts) (flash : Flash) (m : Map) (Half : ℕ × Root → Found → Map → Type 0) (s : StandsBetween d d.log.shape flash m)
    → d.log.pending ≡ [] → Half s.top s.found s.without → HalfHere d flash m Half
half_here d flash m Half s none half =
    let same = maps_same d d.log.shape flash m s none in
    record {
      top = s.top;
      found = s.found;
      with = subst (λ (w : Map). DriveOnFlashWith (settled_parts d) d.log.shape flash s.top s.found w m) same s.with;
      half = subst (λ (w : Map). Half s.top s.found w) same half;
    }

-- what holds on the drive's own shape holds on each one that it has
pub on_own_shape : (d : Parts) (flash : Flash) (P : Shape → Map → Type 0) → ((m : Map) → StandsBetween d d.log.shape flash m → P d.log.shape m)
    → (shape : Shape) (m : Map) → StandsBetween d shape flash m → P shape m
on_own_shape d flash P holds shape m stands = let Q : Shape → Type 0 = λ s. StandsBetween d s flash m → P s m in subst Q stands.with.shape_is (holds m) stands

-- the pair of the root
abbrev pub RootHere : Parts → Flash → Map → Type 0
RootHere d flash m = HalfHere d flash m (λ top found w. IsHalfRoot d flash w)

root_here : (d : Parts) (flash : Flash) (m : Map) → StandsBetween d d.log.shape flash m → repeats_next d.log.next ≡ true → RootHere d flash m
root_here d flash m s repeats = let half = root_of d flash s.top s.found s.without s.course repeats in half_here d flash m (λ top found w. IsHalfRoot d flash w) s half.none_pending half

pub may_settle : (d : Parts) (flash : Flash) (m : Map) (h : RootHere d flash m) → MaySettle (index_of d) (frames_of d) flash h.top h.found m
may_settle d flash m h = record {
  stands = h.with.index;
  half = h.half.index;
  none_pending = h.half.none_pending;
  under = h.with.committed;
  values = h.with.former;
}

-- for some map
pub some_settle : (d : Parts) (board : BoardState) → MayCommit d board → repeats_next d.log.next ≡ true → (m : Map) × RootHere d board.pages m
some_settle d board may repeats = (may.stands.0, root_here d board.pages may.stands.0 may.stands.1 repeats)

module _ (d : Parts) (log' : LogState) (pool' : Blocks) (old new : BoardState) (ready : IsReady new d.log.shape)
    (settles : Settles (index_of d) old (index log' d.levels d.arena pool' d.schedule) new) where
  abbrev then_index : Index
  then_index = index log' d.levels d.arena pool' d.schedule

  abbrev pub then_drive : Parts
  then_drive = record d { log = log'; pool = pool' }

  module _ (m : Map) (h : RootHere d old.pages m) where
    its : IndexSettles (index_of d) (frames_of d) old h.top h.found m then_index new
    its = settles (frames_of d) h.top h.found m (may_settle d old.pages m h)

    same_pending : log'.pending ≡ d.log.pending
    same_pending = ap (λ (l : LogState). l.pending) its.log

    none : log'.pending ≡ []
    none = same_pending ∙ h.half.none_pending

    same_shape : log'.shape ≡ d.log.shape
    same_shape = ap (λ (l : LogState). l.shape) its.log

    pool_is : pool' ≡ freed d.pool
    pool_is = ap (λ (x : Index). x.pool) its.rest

    counted : used_by Values pool'.states ≡ used_by Values d.pool.states
    counted = ap (λ (p : Blocks). used_by Values p.states) pool_is ∙ sym h.half.index.counted

    placed_before : ValuesOnFlash d.log.shape d.values (freed d.pool) (outputs_of d) old.pages (places h.found [])
    placed_before = subst (λ (es : List Entry). ValuesOnFlash d.log.shape d.values (freed d.pool) (outputs_of d) old.pages (places h.found es)) h.half.none_pending h.with.placed

    reclaim_before : ReclaimOnFlash d.log.shape d.reclaim d.values.live (freed d.pool) old.pages (places h.found [])
    reclaim_before = subst (λ (es : List Entry). ReclaimOnFlash d.log.shape d.reclaim d.values.live (freed d.pool) old.pages (places h.found es)) h.half.none_pending h.with.reclaim

    placed_then : ValuesOnFlash d.log.shape d.values pool' (outputs_of d) new.pages (places h.found [])
    placed_then =
        let shapes = its.stands.pool_shape ∙ (same_shape ∙ sym h.with.index.pool_shape) in
        ValuesOnFlash-kept d.log.shape d.values (freed d.pool) pool' (outputs_of d) old.pages new.pages
        (places h.found []) placed_before shapes its.values.size its.values.as_many its.values.owned its.values.no_more
        (λ k held no_output. its.values.pages k held) its.stands.pool_fits

    reclaim_then : ReclaimOnFlash d.log.shape d.reclaim d.values.live pool' new.pages (places h.found [])
    reclaim_then =
        reclaim_elsewhere d.log.shape d.reclaim d.values (freed d.pool) pool' old.pages new.pages
        (places h.found []) reclaim_before placed_before its.values.as_many (λ k held not_open. its.values.pages k held)

    with_then : DriveOnFlashWith then_drive d.log.shape new.pages h.top h.found m m
    with_then = record {
      shape_is = same_shape;
      is_flash = ready.flash;
      index = its.stands;
      committed = its.under;
      pending = subst (λ (es : List Entry). IsUnder d.log.shape new.pages es h.top h.found m) (sym none) its.under;
      placed = subst (λ (es : List Entry). ValuesOnFlash d.log.shape d.values pool' (outputs_of d) new.pages (places h.found es)) (sym none) placed_then;
      former = λ k is. its.values.owned (k / d.log.shape.block_pages) (h.with.former k is);
      former_read = h.with.former_read;
      reclaim = subst (λ (es : List Entry). ReclaimOnFlash d.log.shape d.reclaim d.values.live pool' new.pages (places h.found es)) (sym none) reclaim_then;
      uses = subst (λ (es : List Entry). IsUseOf d.log.shape d.spaces (places h.found es)) (sym same_pending) h.with.uses;
    }

    whole_then : IsWhole then_drive
    whole_then = record { settles = its.settles; moves = h.half.moves; epoch = ap (λ (l : LogState). l.epoch.half) its.log ∙ h.half.epoch }

    log_is : log' ≡ record d.log { next = log'.next; epoch = record d.log.epoch { half = log'.epoch.half } }
    log_is = let T : LogState → Type 0 = λ l. l ≡ record d.log { next = l.next; epoch = record d.log.epoch { half = l.epoch.half } } in subst T (sym its.log) refl

    -- the pair has the root in its first page, and its second one is the next of the block
    repeatable : MayRepeat d.log.shape h.half.index.half.page h.top old.pages
    repeatable = subst (λ (n : Next). IsPossible d.log.shape n h.top old.pages) h.half.index.half.again h.with.index.logs.installs.possible

    abbrev half_is : HasHalf d.log.shape old.pages
    half_is =
        let page : ℕ = h.half.index.half.page in
        let less : (page + 1) % d.log.shape.block_pages < d.log.shape.block_pages = mod-lt (page + 1) (block_pages_positive d.log.shape h.with.index.logs.is_shape) in
        record {
          top = h.top;
          is_newest = h.with.index.logs.is_top;
          page = h.top.0;
          under = inl refl;
          bytes = root_bytes d.log.shape h.top.1;
          first = ap (page_at old.pages) repeatable.at_first ∙ repeatable.here;
          second = ap (λ (p : ℕ). page_at old.pages (p + 1)) repeatable.at_first ∙ repeatable.order.behind (page + 1) (omega arith) (omega (arith, less));
        }

    pair_made : MakesPair d.log.shape old.pages new.pages
    pair_made = record { half = half_is; pages = its.pages; same_root = its.under.is_top ∙ sym h.with.committed.is_top }

    keeps_active : KeepsActive d.log log'
    keeps_active = let T : LogState → Type 0 = λ l. KeepsActive d.log l in subst T (sym its.log) refl

    stays_then : Stays d then_drive
    stays_then = record {
      fresh = record { stays = λ more. ap (λ (l : LogState). l.epoch.takes_more) its.log ∙ more; begun = inl (ap (λ (l : LogState). l.root.epoch) its.log) };
      blocks = record { used = ap (λ (n : ℕ). n - length (outputs_of d)) counted; open_same = refl };
    }

    same_roots : IsReady old d.log.shape → roots new ≡ roots old
    same_roots before =
        ap (λ (s : Shape). root_number s new.pages) (shape_is new d.log.shape ready) ∙ its.number ∙ ap (λ (s : Shape). root_number s old.pages) (sym (shape_is old d.log.shape before))

  -- so for every map, on every shape, that it represents
  finished_all : repeats_next d.log.next ≡ true → (shape : Shape) (m : Map) → StandsBetween d shape old.pages m → Finished d then_drive shape m old new
  finished_all repeats = on_own_shape d old.pages (λ t m. Finished d then_drive t m old new) (λ m there.
      let h = root_here d old.pages m there repeats in
      let is = its m h in
      record {
        stands = record { top = h.top; found = h.found; without = m; with = with_then m h; whole = whole_then m h };
        same_found = λ was. found_between d d d.log.shape old.pages m m was (record { top = h.top; found = h.found; without = m; with = h.with; course = inr (inl h.half) });
        cuts = is.cuts;
        grows = is.grows;
      })

  pub finishes_root : MayCommit d old → repeats_next d.log.next ≡ true → Works old new → OneProgram old new → FinishesRoot d then_drive old new
  finishes_root may repeats works program =
      let some = some_settle d old may repeats in
      let m = some.0 in
      let h = some.1 in
      let is = its m h in
      record {
        finishes = record {
          finished = finished_all repeats;
          log = log_is m h;
          rest = refl;
          counted = counted m h;
          stays = stays_then m h;
          lowers = merge_less d then_index (counted m h) (same_shape m h) refl (keeps_active m h) is.less.work;
          works = works;
          program = program;
          pair = pair_made m h;
          same_roots = same_roots m h may.ready;
          ready = ready;
        };
        less = is.less;
        same_reclaim = refl;
        same_epoch = ap (λ (l : LogState). l.epoch) is.log;
      }

-- ---- the program failed

fails_root : (d : Parts) (old new : BoardState) → SettleBreaks (index_of d) old new → repeats_next d.log.next ≡ true → (shape : Shape) (m : Map) → StandsBetween d shape old.pages m
    → Goes shape old new (CrashFinds shape background old.pages m)
fails_root d old new breaks repeats = on_own_shape d old.pages (λ t m. Goes t old new (CrashFinds t background old.pages m)) (λ m there.
    let h = root_here d old.pages m there repeats in breaks (frames_of d) h.top h.found m (may_settle d old.pages m h))

-- ---- by the answer

pub root_or : (r : Result Unit Fault) (d : Parts) (log' : LogState) (pool' : Blocks) (old new : BoardState) → MayCommit d old → repeats_next d.log.next ≡ true → IsReady new d.log.shape
    → OnOk r ((levels : Levels) (arena : Frames) → Settles (index d.log levels arena d.pool d.schedule) old (index log' levels arena pool' d.schedule) new)
    → OnErr r ((levels : Levels) (arena : Frames) → SettleBreaks (index d.log levels arena d.pool d.schedule) old new) → IfErr r (λ e. e ≡ Stopped) → OnErr r (Stops old new) → OnOk r (Works old new)
    → OneProgram old new → roots new ≤ roots old → log' ≡ record d.log { next = log'.next } → FinishesRootOr d (record d { log = log'; pool = pool' }) old new r
root_or (Ok u) d log' pool' old new may repeats ready settles breaks stopped stops works program fewer same =
    finishes_root d log' pool' old new ready (settles d.levels d.arena) may repeats works program
root_or (Err e) d log' pool' old new may repeats ready settles breaks stopped stops works program fewer same = (
  stopped,
  ap (λ (l : LogState). l.pending) same,
  record { fails = fails_root d old new (breaks d.levels d.arena) repeats; stops = stops; program = program; no_root = fewer; ready = ready },
)
