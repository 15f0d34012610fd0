-- From what one background step did to what a Tick promises.
use Rattle.std.proofs.Common.{◌≡◌, ◌⊎◌, inl, inr, ◌+◌, ◌<◌, ◌≤◌, sym, ap, subst, ◌∙◌, arith, refl, Bool, true, false, List, [], Ok}
use Rattle.pk_base.{specs.Shape.Shape, specs.Page.Flash, specs.Page.page_at, specs.Entry.Entry, proofs.Logic.not_both}
use Rattle.pk_rootfmt.specs.Newest.{newest_root}
use Rattle.pk_nand.{specs.BoardState.BoardState, specs.BoardState.shape_or_none, specs.Calls.IsReady, specs.Calls.Rose}
use Rattle.pk_nand.specs.Effects.{AtMostOneCall, OneProgram, NoFault, OnlyFlash, OnlyReading, Stops}
use Rattle.pk_model.{specs.Growth.Grows, specs.Growth.Reaches, specs.Growth.Goes, specs.Wear.roots, specs.Crashes.CrashFinds, specs.Crashes.background, specs.Reading.reading, specs.Spaces.limits_at}
use Rattle.pk_model.proofs.Growing.{reached_limits}
use Rattle.pk_call.{specs.Sight.IsIdle, specs.Half.MakesPair, specs.Drive.HoldsMap, specs.declared.types.Ticked.TheVariants.Worked, specs.declared.types.Ticked.TheVariants.Idle}
use Rattle.pk_call.{specs.declared.types.Ticked.TheVariants.Fault}
use Rattle.pk_parts.{specs.Parts.Parts, specs.Parts.drive_limits, specs.Parts.frames_of, specs.Parts.sight_of, specs.Parts.is_half, specs.Parts.index_of, specs.Parts.settled_parts}
use Rattle.pk_parts.specs.Moves.{StandsFor, StandsBetween}
use Rattle.pk_parts.{specs.Staying.StaysOrFrees, proofs.OwnLimits.limits_on, proofs.Unchanging.for_its_map, proofs.Unchanging.agrees_ready, proofs.Halves.stands as whole_stands}
use Rattle.pk_background.{proofs.ReadSteps.read_cuts, proofs.Inside.number_is}
use Rattle.pk_parts.proofs.Standing.{agrees_so, agrees_between, reads_as, reads_between, stands_between}
use Rattle.pk_background.{specs.Reclaiming.ReclaimHolds, specs.Reclaiming.HoldsAll, specs.Reclaiming.FailsAll, specs.Ticking.MayTick, specs.Ticking.Advances}
use Rattle.pk_background.specs.Order.{MakesDue, due_step, nothing}

-- ---- answers

worked_fine : Worked ≡ Fault false → ⊥
worked_fine e = cc

stopped_fine : Fault true ≡ Fault false → ⊥
stopped_fine e = cc

stopped_idle : (b : Bool) → Fault b ≡ Idle → ⊥
stopped_idle b e = cc

stopped_worked : (b : Bool) → Fault b ≡ Worked → ⊥
stopped_worked b e = cc

worked_idle : Worked ≡ Idle → ⊥
worked_idle e = cc

-- ---- steps

-- reads leave the tree
pub read_grows : (shape : Shape) (old new : BoardState) → OnlyReading old new → Grows shape old.pages new.pages
read_grows shape old new only = inl (ap (λ (f : Flash). newest_root shape (page_at f)) (ap (λ (b : BoardState). b.pages) only))

module _ (d : Parts) (old : BoardState) (m : MayTick d old) where
  -- the map that the drive represents
  pub its_stand : StandsBetween d d.log.shape old.pages m.agrees.all
  its_stand = stands_between d old.shape old.pages m.agrees

  pub its_whole : is_half d ≡ false → StandsFor d d.log.shape old.pages m.agrees.all
  its_whole none = whole_stands d d.log.shape old.pages m.agrees.all its_stand none

  own_limits : limits_at d.log.shape old.pages ≡ drive_limits d
  own_limits = limits_on d old.shape old.pages m.agrees

  -- as many roots were installed as its log counts
  numbered : (e : Parts) (board : BoardState) → IsReady board d.log.shape → StandsBetween e d.log.shape board.pages m.agrees.all → roots board ≡ e.log.root.number
  numbered e board ready s =
      number_is (index_of (settled_parts e)) (frames_of e) board s.top s.found (subst (λ (t : Shape). IsReady board t) (sym s.with.shape_is) ready) s.with.index

  -- of a drive of which no pair is half made
  pub whole_holds : (d' : Parts) (new : BoardState) → is_half d ≡ false → HoldsAll d d' old new → ReclaimHolds d' d.log.shape m.agrees.all old new
  whole_holds d' new none holds = holds d.log.shape m.agrees.all (its_whole none)

  pub whole_fails : (d' : Parts) (new : BoardState) → is_half d ≡ false → FailsAll d old new → Goes d.log.shape old new (CrashFinds d.log.shape background old.pages m.agrees.all)
  whole_fails d' new none fails = fails d.log.shape m.agrees.all (its_whole none)

  module _ (d' : Parts) (new : BoardState) (ready : IsReady new d.log.shape) (calls : AtMostOneCall old new) (rest : OnlyFlash old new)
      (installs : roots new ≤ roots old + 1) (repeats : is_half d ≡ true → OneProgram old new) where
    grown : Grows d.log.shape old.pages new.pages → Grows (shape_or_none old.shape) old.pages new.pages
    grown grows = subst (λ o. Grows (shape_or_none o) old.pages new.pages) (sym (agrees_ready d old m.agrees).shape_is) grows

    paired : MakesPair d.log.shape old.pages new.pages → MakesPair (shape_or_none old.shape) old.pages new.pages
    paired is = subst (λ o. MakesPair (shape_or_none o) old.pages new.pages) (sym (agrees_ready d old m.agrees).shape_is) is

    -- the root is the same, or the pair of another one is half made
    begun : StandsBetween d' d.log.shape new.pages m.agrees.all → (d'.log.root.number ≡ d.log.root.number) ⊎ (is_half d' ≡ true) → (roots new ≡ roots old) ⊎ (is_half d' ≡ true)
    begun stands (inl same) = inl (numbered d' new ready stands ∙ same ∙ sym (numbered d old (agrees_ready d old m.agrees) its_stand))
    begun stands (inr half) = inr half

    limits_after : Reaches d.log.shape old new (CrashFinds d.log.shape background old.pages m.agrees.all) → limits_at d.log.shape new.pages ≡ drive_limits d
    limits_after cuts = reached_limits d.log.shape old new (CrashFinds d.log.shape background old.pages m.agrees.all) (agrees_ready d old m.agrees).shape_is cuts ∙ own_limits

    -- a step that worked: the map is unchanged, and less work remains
    pub made_advances : (is_half d ≡ true → is_half d' ≡ false) → (is_half d ≡ true → MakesPair d.log.shape old.pages new.pages) → Grows d.log.shape old.pages new.pages
        → (IsIdle d.log.shape old.pages (sight_of d) → ⊥) → d'.log.pending ≡ [] → ReclaimHolds d' d.log.shape m.agrees.all old new
        → NoFault old new → frames_of d' ≡ frames_of d → d'.stopped ≡ d.stopped → StaysOrFrees d d'
        → d'.log.root.number ≤ d.log.root.number + 1 → (d'.log.root.number ≡ d.log.root.number) ⊎ (is_half d' ≡ true)
        → (sight_of d').work < (sight_of d).work → MakesDue (due_step d) d d' old new → Advances d d' old new Worked
    made_advances finishes pair grows busy none here sound frames stopped frees number begins less makes =
        record {
          ticks = record {
            stands = λ _. for_its_map d old m.agrees (λ s f x. HoldsMap s f new (sight_of d') x)
                (record { shape_is = ready.shape_is; frames_is = frames; limits_is = limits_after here.cuts; map_is = reads_between d' d.log.shape new.pages m.agrees.all here.stands });
            cuts = λ _. for_its_map d old m.agrees (λ s f x. Reaches s old new (CrashFinds s background old.pages x)) here.cuts;
            cuts_stopped = λ e. absurd (not_both false e refl);
            idle_rests = λ e. absurd (worked_idle e);
            unmade = λ e. absurd (worked_fine e);
            grows = λ _. grown grows;
            rest = rest;
            calls = calls;
            unread = λ e. absurd (worked_fine e);
            up = (let e = sound.1 in omega (arith, e));
            flash_up = λ _. (let e = sound.0 in omega (arith, e));
            worked = λ _. sound;
            stop = λ e. absurd (not_both false e refl);
            no_stop = λ _. sound.2;
            installs = installs;
          };
          stops = stopped ∙ m.unstopped;
          none = none;
          agrees = λ _. agrees_between d' new.shape d.log.shape new.pages m.agrees.all ready.shape_is here.stands;
          moves = λ _. frees;
          repeats = repeats;
          pair = λ half _. paired (pair half);
          finishes = λ half _. finishes half;
          begins = λ _. begun here.stands begins;
          number = λ _. number;
          lowers = λ _. less;
          idle = λ e. absurd (worked_idle e);
          busy = λ idle. absurd (busy idle);
          order = record { made = λ _. makes; idle = (λ e. absurd (worked_idle e), λ none. absurd (subst (λ k. MakesDue k d d' old new) none makes)) };
        }

    -- a step of which a read failed: the state of the drive is unchanged
    pub unread_advances : (is_half d ≡ true → is_half d' ≡ false) → (is_half d ≡ true → MakesPair d.log.shape old.pages new.pages)
        → Grows d.log.shape old.pages new.pages → (IsIdle d.log.shape old.pages (sight_of d) → ⊥)
        → d'.log.pending ≡ [] → sight_of d' ≡ sight_of d → StandsFor d' d.log.shape old.pages m.agrees.all → OnlyReading old new → Rose old.read_faults new.read_faults
        → Rose old.flash_faults new.flash_faults
        → frames_of d' ≡ frames_of d → d'.stopped ≡ d.stopped → StaysOrFrees d d' → d'.log.root.number ≤ d.log.root.number + 1 → (due_step d ≡ nothing → ⊥) → Advances d d' old new (Fault false)
    unread_advances finishes pair grows busy none seen stands only rose flash frames stopped frees number some =
        let counted = m.counted in
        let pages_same : new.pages ≡ old.pages = ap (λ (b : BoardState). b.pages) only in
        let S : Flash → Type 0 = λ f. StandsFor d' d.log.shape f m.agrees.all in
        let still : StandsFor d' d.log.shape new.pages m.agrees.all = subst S (sym pages_same) stands in
        record {
          ticks = record {
            stands = λ _. for_its_map d old m.agrees (λ s f x. HoldsMap s f new (sight_of d') x)
                (record { shape_is = ready.shape_is; frames_is = frames; limits_is = ap (limits_at d.log.shape) pages_same ∙ own_limits; map_is = reads_as d' d.log.shape new.pages m.agrees.all still });
            cuts = λ _. for_its_map d old m.agrees (λ s f x. Reaches s old new (CrashFinds s background old.pages x))
                (read_cuts d.log.shape (CrashFinds d.log.shape background old.pages m.agrees.all) old new only
                (refl, subst (λ (es : List Entry). reading d.log.shape old.pages es ≡ Ok m.agrees.all) m.none (reads_between d d.log.shape old.pages m.agrees.all its_stand)));
            cuts_stopped = λ e. absurd (not_both false e refl);
            idle_rests = λ e. absurd (stopped_idle false e);
            unmade = λ _. (seen, only);
            grows = λ _. grown grows;
            rest = rest;
            calls = calls;
            unread = λ _. rose;
            up = omega (arith, rose, counted);
            flash_up = λ few. omega (arith, flash, few);
            worked = λ e. absurd (stopped_worked false e);
            stop = λ e. absurd (not_both false e refl);
            no_stop = λ _. ap (λ (b : BoardState). b.stop_faults) only;
            installs = installs;
          };
          stops = stopped ∙ m.unstopped;
          none = none;
          agrees = λ _. agrees_so d' new.shape d.log.shape new.pages m.agrees.all ready.shape_is still;
          moves = λ _. frees;
          repeats = repeats;
          pair = λ half _. paired (pair half);
          finishes = λ half _. finishes half;
          begins = λ _. inl (ap roots only);
          number = λ _. number;
          lowers = λ e. absurd (stopped_worked false e);
          idle = λ e. absurd (stopped_idle false e);
          busy = λ idle. absurd (busy idle);
          order = record { made = λ e. absurd (stopped_worked false e); idle = (λ e. absurd (stopped_idle false e), λ none. absurd (some none)) };
        }

    -- a step that stopped the drive
    pub stop_advances : (IsIdle d.log.shape old.pages (sight_of d) → ⊥) → d'.log.pending ≡ [] → d'.stopped ≡ true
        → Goes d.log.shape old new (CrashFinds d.log.shape background old.pages m.agrees.all) → Stops old new
        → (due_step d ≡ nothing → ⊥) → Advances d d' old new (Fault true)
    stop_advances busy none stopped goes stops some = record {
      ticks = record {
        stands = λ e. absurd (not_both true refl e);
        cuts = λ e. absurd (not_both true refl e);
        cuts_stopped = λ _. for_its_map d old m.agrees (λ s f x. Goes s old new (CrashFinds s background old.pages x)) goes;
        idle_rests = λ e. absurd (stopped_idle true e);
        unmade = λ e. absurd (stopped_fine e);
        grows = λ e. absurd (not_both true refl e);
        rest = rest;
        calls = calls;
        unread = λ e. absurd (stopped_fine e);
        up = (let e = stops.read in omega (arith, e));
        flash_up = λ few. (let e = stops.flash in omega (arith, e, few));
        worked = λ e. absurd (stopped_worked true e);
        stop = λ _. stops.stop;
        no_stop = λ e. absurd (not_both true refl e);
        installs = installs;
      };
      stops = stopped;
      none = none;
      agrees = λ e. absurd (not_both true refl e);
      moves = λ e. absurd (not_both true refl e);
      repeats = repeats;
      pair = λ half e. absurd (not_both true refl e);
      finishes = λ half e. absurd (not_both true refl e);
      begins = λ e. absurd (not_both true refl e);
      number = λ e. absurd (not_both true refl e);
      lowers = λ e. absurd (stopped_worked true e);
      idle = λ e. absurd (stopped_idle true e);
      busy = λ idle. absurd (busy idle);
      order = record { made = λ e. absurd (stopped_worked true e); idle = (λ e. absurd (stopped_idle true e), λ none. absurd (some none)) };
    }
