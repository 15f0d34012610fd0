-- A background step that reads a page into a frame.
use Rattle.std.proofs.Common.{◌≡◌, inl, inr, ℕ, zero, suc, ◌+◌, ◌-◌, ◌<◌, ◌≤◌, refl, sym, ap, subst, ◌∙◌, arith, Bool, true, false, if◌then◌else◌, nat_le, List, [], ◌∷◌, ◌++◌, length, length-set, map}
use Rattle.std.proofs.Common.{sum, slice_get, slice_set, Some, Ok}
use Rattle.std.proofs.lemmas.Option.{slice_get-get_or}
use Rattle.std.{specs.Prelude.not, specs.Prelude.◌==◌, specs.List.AllByRecursion, proofs.lemmas.Bool.cases_lt, proofs.lemmas.Bool.eqb-true, proofs.lemmas.Bool.eq-eqb}
use Rattle.pk_base.{specs.Shape.Shape, specs.Shape.cap, specs.Shape.caps, specs.Page.Flash, specs.Entry.Entry, proofs.Logic.not_both, proofs.Logic.some_same}
use Rattle.pk_rootfmt.specs.Root.{Root}
use Rattle.pk_nand.{specs.BoardState.BoardState, specs.Calls.IsReady, specs.Effects.OnlyFlash, specs.Effects.OnlyReading, specs.Effects.made_read}
use Rattle.pk_nand.{specs.Operations.ReadFailed, specs.Operations.after_read}
use Rattle.pk_pin.specs.Frames.{Frames, filled}
use Rattle.pk_run.specs.Kept.{Kept, IsKept, empty, is_pinned}
use Rattle.pk_level.specs.Levels.{Levels, IsLevels, IsOfLevel, AreOfLevels, HaveBlocks, RunsOnFlash, run_of, with_run}
use Rattle.pk_level.specs.Arenas.{FillsOne, HasArena, last_level, unfilled, unfilled_from}
use Rattle.pk_level.proofs.Filling.{framed_blocks, framed_counts, got_of}
use Rattle.pk_model.{specs.Found.Found, specs.Crashes.CrashFinds, specs.Crashes.background, specs.Reading.reading, specs.Wear.roots}
use Rattle.pk_law_work.{specs.Work.work, proofs.Lowering.fills}
use Rattle.pk_schedule.{specs.declared.phase.Phase.Phase, specs.Index.Index, specs.Index.IndexOnFlash, specs.Index.MergeStands, specs.Index.merging, specs.Index.output, proofs.Backlogs.four}
use Rattle.pk_schedule.{specs.Steps.has_no_merge, specs.Steps.is_between, proofs.Keeping.idle_leases}
use Rattle.pk_call.specs.declared.types.Ticked.TheVariants.{Worked, Fault}
use Rattle.pk_parts.{specs.Parts.Parts, specs.Parts.backlog_of, specs.Parts.frames_of, specs.Parts.index_of, specs.Parts.is_half, specs.Parts.sight_of, specs.Agreeing.DriveOnFlashWith}
use Rattle.pk_parts.{specs.Moves.StandsFor, specs.Staying.Stays, proofs.Halves.between, proofs.Halves.whole_like, proofs.Standing.reads_as, proofs.Staying.stays_frees, proofs.Staying.stays_same}
use Rattle.pk_parts.{proofs.Holding.filled_held, proofs.Holding.held_filled, proofs.Holding.last_few, proofs.Holding.last_seen, proofs.Unchanging.agrees_ready}
use Rattle.pk_background.{proofs.Indexing.agrees_like, proofs.ReadSteps.read_cuts, specs.Filling.FillsSpare, specs.Filling.lacks_frames, specs.Ticking.MayTick, specs.Ticking.Advances}
use Rattle.pk_background.specs.Ticking.{wants_reclaim}
use Rattle.pk_background.proofs.Ordering.{fill_due, makes_fill}
use Rattle.pk_compact.specs.FreezeSteps.{taken_by}
use Rattle.pk_background.proofs.Ticking.{busy_unfilled, no_merge_is, no_phase, none_left}
use Rattle.pk_background.proofs.TickSteps.{its_whole, made_advances, read_grows, unread_advances}

-- ---- whether a page lacks a frame

map_got : (rs : List Kept) (i : ℕ) (r : Kept) → slice_get rs i ≡ Some r → slice_get (map is_pinned rs) i ≡ Some (is_pinned r)
map_got [] i r got = cc
map_got (x ∷ rs) zero r got = let same : x ≡ r = cc in ap (λ (y : Kept). Some (is_pinned y)) same
map_got (x ∷ rs) (suc i) r got = map_got rs i r got

-- the runs of all levels before this one have all their pages in frames
abbrev pub AllPinnedBelow : List Kept → ℕ → Type 0
AllPinnedBelow rs level = (i : ℕ) → 1 + i < level → slice_get (map is_pinned rs) i ≡ Some true

its_pin : (levels : Levels) (level : ℕ) → IsLevels levels → 1 ≤ level → level ≤ 4 → slice_get (map is_pinned levels.runs) (level - 1) ≡ Some (is_pinned (run_of levels level))
its_pin levels level is least few = map_got levels.runs (level - 1) (run_of levels level) (got_of levels level is least few)

pub none_below : (rs : List Kept) → AllPinnedBelow rs 1
none_below rs i less = absurd (omega (arith, less))

pub pinned_next : (levels : Levels) (level : ℕ) → IsLevels levels → 1 ≤ level → level ≤ 4 → is_pinned (run_of levels level) ≡ true → AllPinnedBelow levels.runs level → AllPinnedBelow levels.runs (level + 1)
pinned_next levels level is least few here below i less = elim (cases_lt (1 + i) level) [
  | inl before ↦ below i before
  | inr at ↦
      let same : level - 1 ≡ i = omega (arith, at, less) in
      subst (λ (n : ℕ). slice_get (map is_pinned levels.runs) n ≡ Some true) same (its_pin levels level is least few ∙ ap (λ (b : Bool). Some b) here)
]

pub all_filled : (d : Parts) (last : ℕ) → last ≡ last_level d.levels (frames_of d) → AllPinnedBelow d.levels.runs (last + 1) → lacks_frames d ≡ false
all_filled d last same below =
    let none : unfilled_from last 1 d.levels.runs ≡ 0 = filled_held last 1 d.levels.runs (λ i low inside. below i (omega (arith, low))) in
    let all : unfilled d.levels (frames_of d) ≡ 0 = subst (λ (n : ℕ). unfilled_from n 1 d.levels.runs ≡ 0) same none in
    ap not (eq-eqb (unfilled d.levels (frames_of d)) 0 all)

pub one_unfilled : (d : Parts) (last level : ℕ) → last ≡ last_level d.levels (frames_of d) → IsLevels d.levels → 1 ≤ level → level ≤ last → last ≤ 4 → is_pinned (run_of d.levels level) ≡ false → lacks_frames d ≡ true
one_unfilled d last level same is least within few lacks = by (unfilled d.levels (frames_of d) == 0) refl
  where
    by : (b : Bool) → (unfilled d.levels (frames_of d) == 0) ≡ b → not b ≡ true
    by false e = refl
    by true e =
        let none : unfilled_from last 1 d.levels.runs ≡ 0 = subst (λ (n : ℕ). unfilled_from n 1 d.levels.runs ≡ 0) (sym same) (eqb-true (unfilled d.levels (frames_of d)) 0 e) in
        let four = is.four in
        let held = held_filled last 1 d.levels.runs (level - 1) none (omega (arith, least, within)) (omega (arith, least, within, few, four)) in
        absurd (not_both (is_pinned (run_of d.levels level)) (some_same _ _ (sym (its_pin d.levels level is least (omega (arith, within, few))) ∙ held)) lacks)

-- ---- of a drive in which no merge runs

merge_still : (p : Phase) (x : Index) (ls : Levels) (fr : Frames) (flash : Flash) (root : Root) (found : Found) → is_between p ≡ true → MergeStands p x flash root found
    → MergeStands p (record x { levels = ls; arena = fr }) flash root found
merge_still p x ls fr flash root found e = subst (λ q. MergeStands q x flash root found → MergeStands q (record x { levels = ls; arena = fr }) flash root found) (sym (no_phase p e)) (λ stands. stands)

-- ---- how many pages may lack a frame

at_most : (b : Bool) (x y : ℕ) → (if b then x - y else 0) ≤ x
at_most true x y = omega arith
at_most false x y = omega arith

run_few : (shape : Shape) (k level : ℕ) (r : Kept) → IsOfLevel shape k level r → IsKept r → length r.firsts ≤ cap shape level
run_few shape k level r is kept = subst (λ (l : ℕ). length r.firsts ≤ cap shape l) is.same_level (subst (λ (s : Shape). length r.firsts ≤ cap s r.level) is.same_shape kept.pages)

unfilled_few : (shape : Shape) (k last : ℕ) (rs : List Kept) → length rs ≡ 4 → AreOfLevels shape k 1 rs → AllByRecursion IsKept rs → unfilled_from last 1 rs ≤ sum (caps shape)
unfilled_few shape k last (a ∷ b ∷ c ∷ d ∷ []) long are kept =
    let one = run_few shape k 1 a are.0 kept.0 in
    let two = run_few shape k 2 b are.1.0 kept.1.0 in
    let three = run_few shape k 3 c are.1.1.0 kept.1.1.0 in
    let last_one = run_few shape k 4 d are.1.1.1.0 kept.1.1.1.0 in
    let p = at_most (nat_le 1 last) (length a.firsts) (length a.leases) in
    let q = at_most (nat_le 2 last) (length b.firsts) (length b.leases) in
    let r = at_most (nat_le 3 last) (length c.firsts) (length c.leases) in
    let s = at_most (nat_le 4 last) (length d.firsts) (length d.leases) in
    omega (arith, one, two, three, last_one, p, q, r, s)
unfilled_few shape k last rs long are kept = absurd (omega (arith, long))

module _ (d : Parts) (old : BoardState) (m : MayTick d old) (none_half : is_half d ≡ false) (merged : has_no_merge (index_of d) ≡ true) where
  its : StandsFor d d.log.shape old.pages m.agrees.all
  its = its_whole d old m none_half

  no_pair : {X : Type 0} → is_half d ≡ true → X
  no_pair half = absurd (not_both (is_half d) half none_half)

  no_merge : (is_between d.schedule.phase ≡ true) × (length d.log.frozen.entries ≡ 0)
  no_merge = no_merge_is (index_of d) merged

  -- ---- what a step asks

  its_index : IndexOnFlash (index_of d) (frames_of d) old.pages its.top its.found
  its_index = its.with.index

  none_output : (output d.schedule).leases ≡ []
  none_output = idle_leases (index_of d) (frames_of d) old.pages its.top its.found its_index (ap merging (no_phase d.schedule.phase no_merge.0))

  pub may_ready : IsReady old d.levels.shape
  may_ready = subst (λ (s : Shape). IsReady old s) (sym its_index.levels_shape) (agrees_ready d old m.agrees)

  pub may_stand : (ess : List (List Entry)) × RunsOnFlash old.pages d.arena d.levels.runs ess
  may_stand = (its.found.runs, its_index.stand)

  pub may_arena : HasArena d.levels.shape (length d.arena.used) d.levels d.arena []
  may_arena = subst (λ (s : Shape). HasArena s (frames_of d) d.levels d.arena []) (sym its_index.levels_shape)
      (subst (λ (others : List ℕ). HasArena d.log.shape (frames_of d) d.levels d.arena others) none_output its_index.arena_is)

  -- ---- a page was read into a frame

  module _ (ls : Levels) (fr : Frames) (f : FillsOne d.levels d.arena old ls fr (after_read old)) (ready : IsReady (after_read old) d.log.shape)
      (stand : (ess : List (List Entry)) → RunsOnFlash old.pages d.arena d.levels.runs ess → RunsOnFlash old.pages fr ls.runs ess)
      (arena : HasArena ls.shape (length fr.used) ls fr []) where
    abbrev after_it : Parts
    after_it = record d { levels = ls; arena = fr }

    abbrev own : Kept
    own = run_of d.levels f.level

    abbrev framed : Kept
    framed = record own { leases = own.leases ++ f.fills.fills.lease ∷ [] }

    levels_behind : ls ≡ with_run d.levels f.level framed
    levels_behind = f.fills.levels_are ∙ ap (λ (r : Kept). with_run d.levels f.level r) f.fills.fills.run_is

    runs_behind : ls.runs ≡ slice_set d.levels.runs (f.level - 1) framed
    runs_behind = ap (λ (x : Levels). x.runs) levels_behind

    same_size : length fr.used ≡ frames_of d
    same_size = ap (λ (a : Frames). length a.used) f.fills.fills.arena_is ∙ length-set d.arena.used f.fills.fills.lease true

    got : slice_get d.levels.runs (f.level - 1) ≡ Some own
    got =
        let above = f.above in
        let up_to = f.up_to in
        let few = last_few d d.log.shape old.pages its.top its.found its.without m.agrees.all its.with in
        let same = last_seen d d.log.shape old.pages its.top its.found its.without m.agrees.all its.with in
        let long = four (index_of d) (frames_of d) old.pages its.top its.found its_index in
        slice_get-get_or d.levels.runs (f.level - 1) (empty d.levels.shape f.level) (omega (arith, above, up_to, few, same, long))

    index_behind : IndexOnFlash (index_of after_it) (frames_of after_it) old.pages its.top its.found
    index_behind =
        let I : ℕ → Type 0 = λ n. IndexOnFlash (index_of after_it) n old.pages its.top its.found in
        let shape_behind : ls.shape ≡ d.log.shape = ap (λ (x : Levels). x.shape) levels_behind ∙ its_index.levels_shape in
        let sized : HasArena d.log.shape (frames_of d) ls fr [] =
        subst (λ (n : ℕ). HasArena d.log.shape n ls fr []) same_size (subst (λ (s : Shape). HasArena s (length fr.used) ls fr []) shape_behind arena) in
        subst I (sym same_size) (record {
          logs = its_index.logs;
          pool_shape = its_index.pool_shape;
          pool_fits = its_index.pool_fits;
          levels_shape = shape_behind;
          levels_pinned = ap (λ (x : Levels). x.pinned) levels_behind ∙ its_index.levels_pinned;
          stand = stand its.found.runs its_index.stand;
          run_blocks = subst (λ (rs : List Kept). HaveBlocks d.log.shape rs its.top.1.runs) (sym runs_behind)
              (framed_blocks f.fills.fills.lease d.log.shape d.levels.runs (f.level - 1) own its.top.1.runs got its_index.run_blocks);
          arena_is = subst (λ (others : List ℕ). HasArena d.log.shape (frames_of d) ls fr others) (sym none_output) sized;
          journal = its_index.journal;
          journal_few = its_index.journal_few;
          runs = its_index.runs;
          runs_few = its_index.runs_few;
          pins_are = its_index.pins_are;
          merge = merge_still d.schedule.phase (index_of d) ls fr old.pages its.top.1 its.found no_merge.0 its_index.merge;
          freeze = record { taken = its_index.freeze.taken; different = its_index.freeze.different; none_frozen = its_index.freeze.none_frozen };
        })

    with_behind : DriveOnFlashWith after_it d.log.shape old.pages its.top its.found its.without m.agrees.all
    with_behind = agrees_like d ls fr d.schedule d.reclaim.page d.log.shape old.pages its.top its.found its.without m.agrees.all its.with index_behind its.with.reclaim

    stands_behind : StandsFor after_it d.log.shape old.pages m.agrees.all
    stands_behind = record { top = its.top; found = its.found; without = its.without; with = with_behind; whole = whole_like d after_it refl (λ none. none) refl refl its.whole }

    less_behind : IsLevels d.levels → AllByRecursion IsKept d.levels.runs → (sight_of after_it).work < (sight_of d).work
    less_behind known kept =
        let one = f.less in
        let counts : map (λ (r : Kept). r.count) ls.runs ≡ map (λ (r : Kept). r.count) d.levels.runs =
        ap (λ (rs : List Kept). map (λ (r : Kept). r.count) rs) runs_behind ∙ framed_counts f.fills.fills.lease d.levels.runs (f.level - 1) own got in
        let left = none_left d.schedule.phase (index_of after_it) no_merge.0 ∙ sym (none_left d.schedule.phase (index_of d) no_merge.0) in
        let few = unfilled_few d.levels.shape d.levels.pinned (last_level d.levels (frames_of d)) d.levels.runs known.four known.each kept in
        fills d.log.shape (backlog_of d) (backlog_of after_it) (record {
          filled = λ i. record (backlog_of after_it) { runs = counts i; merge = left i };
          one_less = one;
          few = subst (λ (s : Shape). unfilled d.levels (frames_of d) ≤ sum (caps s)) its_index.levels_shape few;
          none_frozen = no_merge.1;
        })

    stays : Stays d after_it
    stays = record { fresh = record { stays = λ e. e; begun = inl refl }; blocks = record { used = refl; open_same = refl } }

    fills_behind : (length (taken_by d.schedule.freeze) == 0) ≡ true → wants_reclaim d ≡ false → lacks_frames d ≡ true → IsLevels d.levels
        → AllByRecursion IsKept d.levels.runs → Advances d after_it old (after_read old) Worked
    fills_behind frozen reclaimed lacks known kept =
        let here : reading d.log.shape old.pages [] ≡ Ok m.agrees.all =
        subst (λ (es : List Entry). reading d.log.shape old.pages es ≡ Ok m.agrees.all) m.none (reads_as d d.log.shape old.pages m.agrees.all its) in
        made_advances d old m after_it (after_read old) ready (made_read (refl, refl, refl)) refl (omega arith) no_pair no_pair no_pair (inl refl) (busy_unfilled d old m.agrees lacks) m.none
        (record {
          stands = between after_it d.log.shape old.pages m.agrees.all stands_behind;
          cuts = read_cuts d.log.shape (CrashFinds d.log.shape background old.pages m.agrees.all) old (after_read old) refl (refl, here);
        })
        (refl, refl, refl, refl) same_size refl (stays_frees d after_it stays) (omega arith) (inl refl) (less_behind known kept)
        (makes_fill d after_it old (after_read old) none_half merged frozen reclaimed lacks (record { fills = f; rest = refl; stand = stand; arena = arena }))

  pub fills_one : (d' : Parts) (new : BoardState) → FillsSpare d d' old new → IsReady new d.log.shape
      → (length (taken_by d.schedule.freeze) == 0) ≡ true → wants_reclaim d ≡ false → lacks_frames d ≡ true → IsLevels d.levels → AllByRecursion IsKept d.levels.runs → Advances d d' old new Worked
  fills_one d' new is ready frozen reclaimed lacks known kept =
      let read : new ≡ after_read old = is.fills.read in
      let f = subst (λ (b : BoardState). FillsOne d.levels d.arena old d'.levels d'.arena b) read is.fills in
      let made = fills_behind d'.levels d'.arena f (subst (λ (b : BoardState). IsReady b d.log.shape) read ready)
      (λ ess each. subst (λ (b : BoardState). RunsOnFlash b.pages d'.arena d'.levels.runs ess) read (is.stand ess each)) is.arena frozen reclaimed lacks known kept in
      subst (λ (e : Parts). Advances d e old new Worked) (sym is.rest)
      (subst (λ (b : BoardState). Advances d (record d { levels = d'.levels; arena = d'.arena }) old b Worked) (sym read) made)

  -- ---- the read failed

  pub fills_none : (d' : Parts) (new : BoardState) (page : ℕ) → ReadFailed old new page → d' ≡ d → IsReady new d.log.shape
      → (length (taken_by d.schedule.freeze) == 0) ≡ true → wants_reclaim d ≡ false → lacks_frames d ≡ true → Advances d d' old new (Fault false)
  fills_none d' new page failed same ready frozen reclaimed lacks =
      let rest = failed.rest in
      let only : OnlyReading old new = subst (λ (b : BoardState). OnlyReading old b) (sym rest) refl in
      let flash : OnlyFlash old new = subst (λ (b : BoardState). OnlyFlash old b) (sym rest) refl in
      let as_many : roots new ≡ roots old = ap roots rest in
      subst (λ (e : Parts). Advances d e old new (Fault false)) (sym same)
      (unread_advances d old m d new ready (made_read (ap (λ (b : BoardState). b.reads) rest, ap (λ (b : BoardState). b.programs) rest, ap (λ (b : BoardState). b.erases) rest)) flash
      (omega (arith, as_many)) no_pair no_pair no_pair (read_grows d.log.shape old new only) (busy_unfilled d old m.agrees lacks) m.none refl its only failed.read failed.flash refl refl
      (stays_frees d d (stays_same d d refl)) (omega arith) (fill_due d none_half merged frozen reclaimed lacks))
