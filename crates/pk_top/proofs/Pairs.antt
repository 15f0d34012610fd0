-- A run of a word on a pair of images, from the loads on.
use Rattle.std.proofs.Common.{◌≡◌, ◌≢◌, ◌⊎◌, inl, inr, ℕ, ◌<◌, ◌≤◌, List, [], map, Bool, ◌==◌, eqb-true, eq-eqb, if◌then◌else◌, Option, Some, None, IsSome, option_and_then, Result}
use Rattle.std.proofs.Common.{Ok, Err, refl, sym, ◌∙◌, ap, subst, arith, true, false}
use Rattle.std.{proofs.lemmas.List.length-map, specs.FinMap.len, specs.FinMap.entries, specs.FinMap.len-entries}
use Rattle.pk_base.{specs.Entry.Entry, specs.Map.Map, specs.Page.Flash, specs.Refusal.Refusal, specs.Refusal.not_formatted, specs.Refusal.damaged}
use Rattle.pk_base.specs.Shape.{Shape, IsShape}
use Rattle.pk_nand.{specs.BoardState.BoardState, specs.Calls.Rose, specs.Calls.Loaded, specs.Calls.IsReady, specs.Calls.longer, specs.Effects.OnlyReading}
use Rattle.pk_nand.specs.declared.types.LoadFault.{LoadFault}
use Rattle.pk_nand.specs.declared.types.LoadFault.TheVariants.{Fault, BadImage, Memory}
use Rattle.pk_model.{specs.Spaces.terms_at, specs.Spaces.limits_at, specs.Spaces.in_space, specs.Laws.MapHeld, specs.Reading.reading, specs.Reading.Holds, specs.Reading.Refuses}
use Rattle.pk_model.specs.Wear.{roots, is_worn}
use Rattle.pk_call.{specs.Sight.Sight, specs.Sight.map_of, specs.Drive.HoldsMap}
use Rattle.pk_serve.{specs.Complete.NoneRose, proofs.Limiting.limits_some, proofs.Limiting.first_most}
use Rattle.pk_scan.{specs.Reads.opening_reads, specs.Opening.NotOpened, proofs.ValuesHeld.limit_few, specs.declared.errors.OpenError.OpenError}
use Rattle.pk_scan.specs.declared.errors.OpenError.TheVariants.{NotFormatted, Damaged, Fault as ReadFault, Memory as NoMemory}
use Rattle.pk_mirrorwords.proofs.Paging.{keys_few}
use Rattle.pk_mirrorwords.specs.PairTasks.{PairTask, put, get, delete, list as list_all, resync, IsAllowed, map_left}
use Rattle.pk_wordrun.{specs.declared.end.WordEnd.WordEnd, specs.Tasks.answer, specs.Tasks.list as list_keys}
use Rattle.pk_wordrun.specs.declared.end.WordEnd.TheVariants.{Done, Output, Flash as FlashFailed, Worn}
use Rattle.pk_words.specs.Question.{put as put_one, get as get_one, delete as delete_one}
use Rattle.pk_top.{specs.Words.Word, specs.Words.ask, specs.Words.word_of, proofs.Within.short_within}
use Rattle.pk_top.{specs.PairWords.for_pair, specs.PairWords.is_resync, specs.PairWords.pair_task_of, specs.declared.asking.TheConstants.WORD_FRAMES, specs.Asks.word_status, specs.Ends.open_status}
use Rattle.pk_top.{specs.Loads.load_status, specs.Loads.HasReason, specs.Serves.NotServed, specs.Serves.behind_opening, specs.Statuses.Untouched, specs.Statuses.Tells}
use Rattle.pk_top.{proofs.Asked.input_still, proofs.Answering.worn_never, proofs.Opened.found_shape, proofs.Opened.found_pages, proofs.Opened.none_missing, proofs.Opened.same_roots}
use Rattle.pk_top.{proofs.Opened.Goes-reading, proofs.Opened.Goes-behind}
use Rattle.pk_top.specs.PairRuns.{NotFound, AskedPair, AsksPair, PairRun, PairTells, LacksPair, PairRefused, PairWhole, PairFlashFailed, HasNoPair, PairOutcome, no_speaker, first_unopened}
use Rattle.pk_top.specs.PairRuns.{second_unopened, limits_differ}
use Rattle.pk_top.specs.PairRuns.{pair_asked, no_pair_memory, first_missing, second_missing, shapes_differ, pair_found}
use Rattle.pk_top.proofs.Telling.{When, tells_refused, tells_not, tells_no_drive, reads_untouched, wants_untouched, wants_sound, untouched_same, load_untouched, refused_untouched}
use Rattle.pk_mirrorrun.specs.PairTold.{EitherUnread, text_by, HoldsPart, first_limit, KeptFirst, KeptSecond, PairFinished, PairEnds, most_pair_roots, UsedRoots, PairTold}

-- the first namespace of a map that a flash holds has no more keys than the limit of the shape has pages
few_keys : (shape : Shape) (b : BoardState) (m : Map) → IsShape shape → MapHeld → IsReady b shape → Holds shape b.pages m → len (in_space 1 m) ≤ 1048576
few_keys shape b m is law ready held =
    let good = law shape b.pages [] m is ready.flash tt held in
    let most = limit_few shape is in
    let pages = keys_few shape (in_space 1 m) is in
    let few = good.each_few 1 (omega arith) (limits_some shape b.pages [] m held) in
    let first = first_most shape b.pages [] m held in
    let size = len-entries (in_space 1 m) in
    let names = length-map (entries (in_space 1 m)) (λ e. e.0) in
    omega (arith, most, pages, few, first, size, names)

-- ---- the limits of two drives

-- what a test of them says of their flashes
pub limits_tested : (agrees agrees' : Option Shape → Flash → Type 0) (shape : Shape) (one two : BoardState) (frames : ℕ) (d e : Sight) (b : Bool)
    → ((s : Shape) (f g : Flash) (m n : Map) → agrees (Some s) f → d.stopped ≡ false → map_of s f d ≡ Ok m → agrees' (Some s) g → e.stopped ≡ false → map_of s g e ≡ Ok n
    → b ≡ (first_limit s f == first_limit s g))
    → agrees one.shape one.pages → agrees' two.shape two.pages → d.stopped ≡ false → e.stopped ≡ false → ((m : Map) × HoldsMap shape (terms_at shape one.pages frames) one d m)
    → ((m : Map) × HoldsMap shape (terms_at shape two.pages frames) two e m) → b ≡ (first_limit shape one.pages == first_limit shape two.pages)
limits_tested agrees agrees' shape one two frames d e b tested agreed agreed' runs runs' stands stands' =
    tested shape one.pages two.pages stands.0 stands'.0 (subst (λ (s : Option Shape). agrees s one.pages) stands.1.shape_is agreed) runs stands.1.map_is
    (subst (λ (s : Option Shape). agrees' s two.pages) stands'.1.shape_is agreed') runs' stands'.1.map_is

pub is_one : (x y : ℕ) (b : Bool) → b ≡ (x == y) → b ≡ true → x ≡ y
is_one x y b test equal = eqb-true x y (sym test ∙ equal)

pub is_other : (x y : ℕ) (b : Bool) → b ≡ (x == y) → b ≡ false → x ≢ y
is_other x y b test differ same = let clash : true ≡ false = sym (eq-eqb x y same) ∙ sym test ∙ differ in cc

-- ---- what was done on two images

module _ (task : PairTask) (shape : Shape) (loaded new loaded' new' : BoardState) where
  abbrev FirstFrom : Flash → List ℕ → Type 0
  FirstFrom flash posted = (m : Map) → Holds shape loaded.pages m → KeptFirst task (EitherUnread loaded new loaded' new') shape (limits_at shape loaded.pages) m flash posted

  abbrev SecondFrom : Flash → List ℕ → Type 0
  SecondFrom flash posted = (m : Map) → Holds shape loaded'.pages m → KeptSecond shape (limits_at shape loaded'.pages) m flash posted

  -- only reads were made of both
  asks_still : (status : ℕ) → OnlyReading loaded new → OnlyReading loaded' new' → PairOutcome task shape loaded new loaded' new' status → AsksPair task shape loaded new loaded' new' status
  asks_still status only also outcome = record {
    kept = record {
      first = Goes-reading shape loaded new FirstFrom only (λ m holds. record { held = inl holds; same_limits = refl; said = inl refl });
      second = Goes-reading shape loaded' new' SecondFrom also (λ m holds. record { map = m; held = holds; others = λ space apart. refl; same_limits = refl; silent = refl });
    };
    first_input = input_still loaded new only;
    second_input = input_still loaded' new' also;
    outcome = outcome;
  }

  -- memory for the words was missing
  pub AsksPair-memory : (status : ℕ) → status ≡ 7 → new ≡ loaded → new' ≡ loaded' → OnlyReading loaded new → OnlyReading loaded' new' → AsksPair task shape loaded new loaded' new' status
  AsksPair-memory status is same same' only also = asks_still status only also (no_speaker is same same')

  -- the first drive was not opened
  pub AsksPair-first : (status : ℕ) (error : OpenError) → status ≡ open_status error → NotOpened shape loaded new error
      → OnlyReading loaded new → new' ≡ loaded' → OnlyReading loaded' new' → AsksPair task shape loaded new loaded' new' status
  AsksPair-first status error tells reason only same' also =
      asks_still status only also (first_unopened (record { error = error; tells = tells; reason = reason; only_reads = only }) same')

  -- or the second
  pub AsksPair-second : (status : ℕ) (error : OpenError) → status ≡ open_status error → new ≡ behind_opening shape WORD_FRAMES loaded
      → OnlyReading loaded new → NotOpened shape loaded' new' error → OnlyReading loaded' new'
      → AsksPair task shape loaded new loaded' new' status
  AsksPair-second status error tells is only reason also =
      asks_still status only also (second_unopened is (record { error = error; tells = tells; reason = reason; only_reads = also }))

  -- both were opened
  module _ (drive : Sight) (start : Map) (stands : HoldsMap shape (terms_at shape loaded.pages WORD_FRAMES) (behind_opening shape WORD_FRAMES loaded) drive start) (none : drive.pending ≡ [])
      (drive' : Sight) (other : Map) (stands' : HoldsMap shape (terms_at shape loaded'.pages WORD_FRAMES) (behind_opening shape WORD_FRAMES loaded') drive' other) (none' : drive'.pending ≡ []) where
    start-held : Holds shape loaded.pages start
    start-held = let T : List Entry → Type 0 = λ p. reading shape loaded.pages p ≡ Ok start in subst T none stands.map_is

    other-held : Holds shape loaded'.pages other
    other-held = let T : List Entry → Type 0 = λ p. reading shape loaded'.pages p ≡ Ok other in subst T none' stands'.map_is

    first-from : (flash : Flash) (posted : List ℕ) → KeptFirst task (EitherUnread loaded new loaded' new') shape (limits_at shape loaded.pages) start flash posted → FirstFrom flash posted
    first-from flash posted kept m holds =
        let held : Holds shape loaded.pages start = start-held in
        let same : start ≡ m = cc in
        subst (λ (s : Map). KeptFirst task (EitherUnread loaded new loaded' new') shape (limits_at shape loaded.pages) s flash posted) same kept

    second-from : (flash : Flash) (posted : List ℕ) → KeptSecond shape (limits_at shape loaded'.pages) other flash posted → SecondFrom flash posted
    second-from flash posted kept m holds =
        let held : Holds shape loaded'.pages other = other-held in
        let same : other ≡ m = cc in
        subst (λ (s : Map). KeptSecond shape (limits_at shape loaded'.pages) s flash posted) same kept

    pub AsksPair-told : (status : ℕ) (end : WordEnd) → status ≡ word_status end
        → PairTold task shape start other (behind_opening shape WORD_FRAMES loaded) new (behind_opening shape WORD_FRAMES loaded') new' end
        → most_pair_roots start other < 4611686018427387904 → first_limit shape loaded.pages ≡ first_limit shape loaded'.pages → AsksPair task shape loaded new loaded' new' status
    AsksPair-told status end tells told few one_limit = record {
      kept = record {
        first = Goes-behind shape WORD_FRAMES loaded new (KeptFirst task (EitherUnread loaded new loaded' new') shape (limits_at shape loaded.pages) start) FirstFrom first-from told.first_kept;
        second = Goes-behind shape WORD_FRAMES loaded' new' (KeptSecond shape (limits_at shape loaded'.pages) other) SecondFrom second-from told.second_kept;
      };
      first_input = record { input = told.first_input.input; in_faults = told.first_input.in_faults };
      second_input = record { input = told.second_input.input; in_faults = told.second_input.in_faults };
      outcome = pair_asked end tells (
          record {
            start = start;
            holds = start-held;
            other = other;
            holds_other = other-held;
            one_limit = one_limit;
            ends = told.ends;
            first_used = told.first_used;
            second_used = told.second_used;
            few = few;
          });
    }

    -- and their limits differ
    pub AsksPair-differ : (status : ℕ) → status ≡ 8 → new ≡ behind_opening shape WORD_FRAMES loaded → new' ≡ behind_opening shape WORD_FRAMES loaded' → OnlyReading loaded new
        → OnlyReading loaded' new'
        → first_limit shape loaded.pages ≢ first_limit shape loaded'.pages → AsksPair task shape loaded new loaded' new' status
    AsksPair-differ status tells is is' only also differ = asks_still status only also (limits_differ (
        record {
          tells = tells;
          start = start;
          holds = start-held;
          other = other;
          holds_other = other-held;
          differ = differ;
          first_opened = is;
          second_opened = is';
        }))

module _ (task : PairTask) (shape : Shape) (loaded new loaded' new' : BoardState) where
  pub AsksPair-limits : (d e : Sight) (status : ℕ) → status ≡ 8 → new ≡ behind_opening shape WORD_FRAMES loaded → new' ≡ behind_opening shape WORD_FRAMES loaded'
      → OnlyReading loaded new → OnlyReading loaded' new' → ((m : Map) × HoldsMap shape (terms_at shape new.pages WORD_FRAMES) new d m)
      → ((m : Map) × HoldsMap shape (terms_at shape new'.pages WORD_FRAMES) new' e m) → d.pending ≡ [] → e.pending ≡ []
      → first_limit shape new.pages ≢ first_limit shape new'.pages → AsksPair task shape loaded new loaded' new' status
  AsksPair-limits d e status tells is is' only also stands stands' none none' differ =
      let T : BoardState → Type 0 = λ b. (m : Map) × HoldsMap shape (terms_at shape b.pages WORD_FRAMES) b d m in
      let U : BoardState → Type 0 = λ b. (m : Map) × HoldsMap shape (terms_at shape b.pages WORD_FRAMES) b e m in
      let at : T (behind_opening shape WORD_FRAMES loaded) = subst T is stands in
      let next : U (behind_opening shape WORD_FRAMES loaded') = subst U is' stands' in
      AsksPair-differ task shape loaded new loaded' new' d at.0 at.1 none e next.0 next.1 none' status tells is is' only also
      (λ same. differ (ap (first_limit shape) (ap (λ (s : BoardState). s.pages) only) ∙ same ∙ sym (ap (first_limit shape) (ap (λ (s : BoardState). s.pages) also))))

  pub AsksPair-opened : (one two : BoardState) (d e : Sight) (status : ℕ) (end : WordEnd) → one ≡ behind_opening shape WORD_FRAMES loaded → two ≡ behind_opening shape WORD_FRAMES loaded'
      → ((m : Map) × HoldsMap shape (terms_at shape one.pages WORD_FRAMES) one d m)
      → ((m : Map) × HoldsMap shape (terms_at shape two.pages WORD_FRAMES) two e m) → d.pending ≡ [] → e.pending ≡ [] → status ≡ word_status end
      → ((m other : Map) → Holds shape one.pages m → Holds shape two.pages other → PairTold task shape m other one new two new' end)
      → first_limit shape one.pages ≡ first_limit shape two.pages → IsShape shape → MapHeld → IsReady loaded shape → IsReady loaded' shape
      → AsksPair task shape loaded new loaded' new' status
  AsksPair-opened one two d e status end is is' stands stands' none none' tells told one_limit is_shape law ready ready' =
      let T : BoardState → Type 0 = λ b. (m : Map) × HoldsMap shape (terms_at shape b.pages WORD_FRAMES) b d m in
      let U : BoardState → Type 0 = λ b. (m : Map) × HoldsMap shape (terms_at shape b.pages WORD_FRAMES) b e m in
      let at : T (behind_opening shape WORD_FRAMES loaded) = subst T is stands in
      let also : U (behind_opening shape WORD_FRAMES loaded') = subst U is' stands' in
      let S : BoardState → Type 0 = λ b. (m other : Map) → Holds shape b.pages m → Holds shape two.pages other → PairTold task shape m other b new two new' end in
      let R : BoardState → Type 0 = λ b. (m other : Map) → Holds shape loaded.pages m → Holds shape b.pages other
      → PairTold task shape m other (behind_opening shape WORD_FRAMES loaded) new b new' end in
      let said = subst R is' (subst S is told) in
      AsksPair-told task shape loaded new loaded' new' d at.0 at.1 none e also.0 also.1 none' status end tells
      (said at.0 also.0 (start-held task shape loaded new loaded' new' d at.0 at.1 none e also.0 also.1 none') (other-held task shape loaded new loaded' new' d at.0 at.1 none e also.0 also.1 none'))
      (let one_few = few_keys shape loaded at.0 is_shape law ready (start-held task shape loaded new loaded' new' d at.0 at.1 none e also.0 also.1 none') in
      let two_few = few_keys shape loaded' also.0 is_shape law ready' (other-held task shape loaded new loaded' new' d at.0 at.1 none e also.0 also.1 none') in
      omega (arith, one_few, two_few))
      (ap (first_limit shape) (sym (ap (λ (s : BoardState). s.pages) is)) ∙ one_limit ∙ ap (first_limit shape) (ap (λ (s : BoardState). s.pages) is'))

-- ---- what the status says

module _ (old new old' new' : BoardState) (status : ℕ) where
  -- what a status says
  abbrev PairMeans : ℕ → Type 0
  PairMeans n =
      When (n == 5) (Rose old.out_faults new.out_faults) × When (n == 6) (PairFlashFailed old new old' new') × When (n == 7) (Untouched old new × Untouched old' new')
      × When (n == 8) (HasNoPair new new' × Untouched old new × Untouched old' new') × When (n == 10) (((is_worn new ≡ true) ⊎ (is_worn new' ≡ true)) × (new.posted ≡ old.posted))

  tells_by : (n : ℕ) → status ≡ n → (status ≡ 0) ⊎ ((status ≡ 5) ⊎ ((status ≡ 6) ⊎ ((status ≡ 7) ⊎ ((status ≡ 8) ⊎ (status ≡ 10))))) → PairMeans n → PairTells old new old' new' status
  tells_by n is one h =
      let at : (k : ℕ) → status ≡ k → PairMeans k = λ k e. subst PairMeans (sym is ∙ e) h in
      record {
        is_one = one;
        output = λ e. (at 5 e).0;
        flash = λ e. (at 6 e).1;
        memory = λ e. (at 7 e).2;
        no_drive = λ e. (at 8 e).3;
        worn = λ e. (at 10 e).4;
      }

  -- the statuses of what was not found or not opened
  abbrev IsFault : Type 0
  IsFault = (status ≡ 6) ⊎ ((status ≡ 7) ⊎ (status ≡ 8))

  one_fault : IsFault → (status ≡ 0) ⊎ ((status ≡ 5) ⊎ ((status ≡ 6) ⊎ ((status ≡ 7) ⊎ ((status ≡ 8) ⊎ (status ≡ 10)))))
  one_fault (inl e) = inr (inr (inl e))
  one_fault (inr (inl e)) = inr (inr (inr (inl e)))
  one_fault (inr (inr e)) = inr (inr (inr (inr (inl e))))

  -- the first failed
  by_first : IsFault → Tells old new status → (status ≡ 7 → Untouched old new) → Untouched old' new' → PairTells old new old' new' status
  by_first one tells wants other = record {
    is_one = one_fault one;
    output = λ e. absurd (omega (arith, one, e));
    flash = λ e. elim (tells.flash e) [
      | inl stop ↦ inl (inl stop)
      | inr (rose, gives) ↦ inr (inl rose, gives)
    ];
    memory = λ e. (wants e, other);
    no_drive = λ e. (inl (tells.no_drive e).0, (tells.no_drive e).1, other);
    worn = λ e. absurd (omega (arith, one, e));
  }

  -- or the second
  by_second : IsFault → Tells old' new' status → (status ≡ 7 → Untouched old' new') → Untouched old new → PairTells old new old' new' status
  by_second one tells wants first = record {
    is_one = one_fault one;
    output = λ e. absurd (omega (arith, one, e));
    flash = λ e. elim (tells.flash e) [
      | inl stop ↦ inl (inr stop)
      | inr (rose, gives) ↦ inr (inr rose, first.gives)
    ];
    memory = λ e. (first, wants e);
    no_drive = λ e. (inr (inl (tells.no_drive e).0), first, (tells.no_drive e).1);
    worn = λ e. absurd (omega (arith, one, e));
  }

-- the statuses of a load and of an opening
load_one : (status : ℕ) (fault : LoadFault) → status ≡ load_status fault → (status ≡ 6) ⊎ ((status ≡ 7) ⊎ (status ≡ 8))
load_one status Fault e = inl e
load_one status (BadImage at) e = inr (inr e)
load_one status Memory e = inr (inl e)

open_one : (status : ℕ) (error : OpenError) → status ≡ open_status error → (status ≡ 6) ⊎ ((status ≡ 7) ⊎ (status ≡ 8))
open_one status NotFormatted e = inr (inr e)
open_one status (Damaged page) e = inr (inr e)
open_one status ReadFault e = inl e
open_one status NoMemory e = inr (inl e)

not_found_one : (old new : BoardState) (status : ℕ) → NotFound old new status → (status ≡ 6) ⊎ ((status ≡ 7) ⊎ (status ≡ 8))
not_found_one old new status (inl r) = load_one status r.fault r.tells
not_found_one old new status (inr (e, found)) = inr (inr e)

not_found_tells : (old new : BoardState) (status : ℕ) → NotFound old new status → Tells old new status
not_found_tells old new status (inl r) = tells_refused old new status r
not_found_tells old new status (inr (e, found)) = tells_no_drive old new status e (inl found.shape_is) (load_untouched old new None found)

not_found_wants : (old new : BoardState) (status : ℕ) → NotFound old new status → status ≡ 7 → Untouched old new
not_found_wants old new status (inl r) e = refused_untouched old new (wants_sound old new r.fault (sym r.tells ∙ e) r.reason) r.failed
not_found_wants old new status (inr (is, found)) e = load_untouched old new None found

-- a drive that was opened is as it was found
opened_untouched : (shape : Shape) (old loaded new : BoardState) → Loaded old loaded (Some shape) → new ≡ behind_opening shape WORD_FRAMES loaded → Untouched old new
opened_untouched shape old loaded new found is = reads_untouched shape old loaded new found (opening_reads shape loaded.pages WORD_FRAMES, is)

still_untouched : (shape : Shape) (old loaded new : BoardState) → Loaded old loaded (Some shape) → new ≡ loaded → Untouched old new
still_untouched shape old loaded new found is = subst (λ (s : BoardState). Untouched old s) (sym is) (load_untouched old loaded (Some shape) found)

module _ (task : PairTask) (shape : Shape) (old loaded new old' loaded' new' : BoardState) (found : Loaded old loaded (Some shape)) (found' : Loaded old' loaded' (Some shape)) where
  end_tells : (start other : Map) (end : WordEnd) (status : ℕ) → status ≡ word_status end
      → PairEnds task shape start other (behind_opening shape WORD_FRAMES loaded) new (behind_opening shape WORD_FRAMES loaded') new' end → PairTells old new old' new' status
  end_tells start other Done status is ends = tells_by old new old' new' status 0 is (inl is) (tt, tt, tt, tt, tt)
  end_tells start other Output status is ends =
      tells_by old new old' new' status 5 is (inr (inl is)) (subst (λ (n : ℕ). Rose n new.out_faults) (ap (λ (s : BoardState). s.out_faults) found.rest) ends.0, tt, tt, tt, tt)
  end_tells start other FlashFailed status is ends =
      tells_by old new old' new' status 6 is (inr (inr (inl is))) (
        tt,
        inl (elim ends [
          | inl stop ↦ inl (subst (λ (n : ℕ). Rose n new.stop_faults) (ap (λ (s : BoardState). s.stop_faults) found.rest) stop)
          | inr stop ↦ inr (subst (λ (n : ℕ). Rose n new'.stop_faults) (ap (λ (s : BoardState). s.stop_faults) found'.rest) stop)
        ]),
        tt,
        tt,
        tt,
      )
  end_tells start other Worn status is ends = tells_by old new old' new' status 10 is (inr (inr (inr (inr (inr is))))) (
    tt,
    tt,
    tt,
    tt,
    (elim ends.worn [ inl w ↦ inl w.worn | inr w ↦ inr w.worn ], ends.silent ∙ ap (λ (s : BoardState). s.posted) found.rest),
  )

  asks_tells : (status : ℕ) → AsksPair task shape loaded new loaded' new' status → PairTells old new old' new' status
  asks_tells status asks = elim asks.outcome [
    | no_speaker is same same' ↦
        tells_by old new old' new' status 7 is (inr (inr (inr (inl is)))) (tt, tt, (still_untouched shape old loaded new found same, still_untouched shape old' loaded' new' found' same'), tt, tt)
    | first_unopened n same' ↦
        by_first old new old' new' status (open_one status n.error n.tells) (tells_not shape old loaded new found status n.error n.tells n.reason n.only_reads)
        (λ e. wants_untouched shape old loaded new found n.error (sym n.tells ∙ e) n.reason) (still_untouched shape old' loaded' new' found' same')
    | second_unopened is n ↦
        by_second old new old' new' status (open_one status n.error n.tells) (tells_not shape old' loaded' new' found' status n.error n.tells n.reason n.only_reads)
        (λ e. wants_untouched shape old' loaded' new' found' n.error (sym n.tells ∙ e) n.reason) (opened_untouched shape old loaded new found is)
    | limits_differ l ↦
        tells_by old new old' new' status 8 l.tells (inr (inr (inr (inr (inl l.tells))))) (
          tt,
          tt,
          tt,
          (
            inr (inr (inr (
              shape,
              (
                ap (λ (s : BoardState). s.shape) l.first_opened ∙ found.shape_is,
                ap (λ (s : BoardState). s.shape) l.second_opened ∙ found'.shape_is,
                λ same. l.differ (ap (first_limit shape) (sym (ap (λ (s : BoardState). s.pages) l.first_opened)) ∙ same
                    ∙ ap (first_limit shape) (ap (λ (s : BoardState). s.pages) l.second_opened)),
              ),
            ))),
            opened_untouched shape old loaded new found l.first_opened,
            opened_untouched shape old' loaded' new' found' l.second_opened,
          ),
          tt,
        )
    | pair_asked end is asked ↦ end_tells asked.start asked.other end status is asked.ends
  ]

pub pair_tells : (task : PairTask) (old new old' new' : BoardState) (status : ℕ) → PairRun task old new old' new' status → PairTells old new old' new' status
pair_tells task old new old' new' status (no_pair_memory is same same') =
    tells_by old new old' new' status 7 is (inr (inr (inr (inl is)))) (tt, tt, (untouched_same old new same, untouched_same old' new' same'), tt, tt)
pair_tells task old new old' new' status (first_missing missing same') =
    by_first old new old' new' status (not_found_one old new status missing) (not_found_tells old new status missing) (not_found_wants old new status missing) (untouched_same old' new' same')
pair_tells task old new old' new' status (second_missing shape found missing) =
    by_second old new old' new' status (not_found_one old' new' status missing) (not_found_tells old' new' status missing)
    (not_found_wants old' new' status missing) (load_untouched old new (Some shape) found)
pair_tells task old new old' new' status (shapes_differ o) = tells_by old new old' new' status 8 o.tells (inr (inr (inr (inr (inl o.tells))))) (
  tt,
  tt,
  tt,
  (
    inr (inr (inl (o.shape, o.other, o.found.shape_is, o.found'.shape_is, o.differ))),
    load_untouched old new (Some o.shape) o.found,
    load_untouched old' new' (Some o.other) o.found',
  ),
  tt,
)
pair_tells task old new old' new' status (pair_found f) = asks_tells task f.shape old f.loaded new old' f.loaded' new' f.found f.found' status f.asks

-- ---- boards that hold no pair

no_map : (shape : Shape) (pages : Flash) (m : Map) (refusal : Refusal) → Holds shape pages m → reading shape pages [] ≡ Err refusal → ⊥
no_map shape pages m refusal held refuses = let clash : ◌≡◌ {A = Result Map Refusal} (Ok m) (Err refusal) = sym held ∙ refuses in cc

refused_one : (status : ℕ) → (status ≡ 6) ⊎ ((status ≡ 7) ⊎ (status ≡ 8)) → (status ≡ 8) ⊎ ((status ≡ 7) ⊎ (status ≡ 6))
refused_one status (inl e) = inr (inr e)
refused_one status (inr (inl e)) = inr (inl e)
refused_one status (inr (inr e)) = inl e

-- a flash that holds a map is not refused
not_refused : (s shape : Shape) (one two : Flash) (m : Map) (refusal : Refusal) → s ≡ shape → one ≡ two → Holds s one m → Refuses shape two refusal → ⊥
not_refused s shape one two m refusal same pages held refuses =
    no_map shape two m refusal (subst (λ (f : Flash). Holds shape f m) pages (subst (λ (x : Shape). Holds x one m) same held)) refuses

-- two drives that were opened are a pair
no_lack : (s shape other : Shape) (old old' loaded loaded' : BoardState) (m k : Map) → s ≡ shape → s ≡ other → loaded.pages ≡ old.pages → loaded'.pages ≡ old'.pages
    → Holds s loaded.pages m → Holds s loaded'.pages k → first_limit s loaded.pages ≡ first_limit s loaded'.pages → LacksPair shape other old old' → ⊥
no_lack s shape other old old' loaded loaded' m k one two pages pages' held held' same (inl differ) = differ (sym one ∙ two)
no_lack s shape other old old' loaded loaded' m k one two pages pages' held held' same (inr (inl (refusal, refuses))) = not_refused s shape loaded.pages old.pages m refusal one pages held refuses
no_lack s shape other old old' loaded loaded' m k one two pages pages' held held' same (inr (inr (inl (refusal, refuses)))) = not_refused s other loaded'.pages old'.pages k refusal two pages' held' refuses
no_lack s shape other old old' loaded loaded' m k one two pages pages' held held' same (inr (inr (inr differ))) =
    differ (ap (λ (x : Shape). first_limit x old.pages) (sym one) ∙ ap (first_limit s) (sym pages) ∙ same ∙ ap (first_limit s) pages' ∙ ap (λ (x : Shape). first_limit x old'.pages) two)

asks_refused : (task : PairTask) (s : Shape) (old loaded new old' loaded' new' : BoardState) (status : ℕ) → Loaded old loaded (Some s) → Loaded old' loaded' (Some s)
    → AsksPair task s loaded new loaded' new' status → PairRefused old old' status
asks_refused task s old loaded new old' loaded' new' status found found' asks shape other has has' lacks = elim asks.outcome [
  | no_speaker is same same' ↦ inr (inl is)
  | first_unopened n same' ↦ refused_one status (open_one status n.error n.tells)
  | second_unopened is n ↦ refused_one status (open_one status n.error n.tells)
  | limits_differ l ↦ inl l.tells
  | pair_asked end is asked ↦ absurd (no_lack s shape other old old' loaded loaded' asked.start asked.other
      (found_shape old loaded s shape has found) (found_shape old' loaded' s other has' found')
      (found_pages old loaded (Some s) shape has found) (found_pages old' loaded' (Some s) other has' found')
      asked.holds asked.holds_other asked.one_limit lacks)
]

pub pair_refused : (task : PairTask) (old new old' new' : BoardState) (status : ℕ) → PairRun task old new old' new' status → PairRefused old old' status
pair_refused task old new old' new' status (no_pair_memory is same same') shape other has has' lacks = inr (inl is)
pair_refused task old new old' new' status (first_missing missing same') shape other has has' lacks = refused_one status (not_found_one old new status missing)
pair_refused task old new old' new' status (second_missing s found missing) shape other has has' lacks = refused_one status (not_found_one old' new' status missing)
pair_refused task old new old' new' status (shapes_differ o) shape other has has' lacks = inl o.tells
pair_refused task old new old' new' status (pair_found f) shape other has has' lacks =
    asks_refused task f.shape old f.loaded new old' f.loaded' new' status f.found f.found' f.asks shape other has has' lacks

-- ---- where no call fails

-- a drive that was far from worn is not worn, if no call fails
worn_not : (old loaded new : BoardState) (shape : Shape) (m other : Map) → old.shape ≡ Some shape → Loaded old loaded (Some shape) → roots old < 4611686018427387904 → NoneRose old new
    → most_pair_roots m other < 4611686018427387904 → UsedRoots m other loaded new → is_worn new ≡ true → ⊥
worn_not old loaded new shape m other has found far none few (inl stop) worn = none.stops (subst (λ (n : ℕ). Rose n new.stop_faults) (ap (λ (s : BoardState). s.stop_faults) found.rest) stop)
worn_not old loaded new shape m other has found far none few (inr used) worn =
    worn_never (roots loaded) (roots new) (most_pair_roots m other) worn used (subst (λ (n : ℕ). n < 4611686018427387904) (same_roots old loaded (Some shape) shape has found) far) few

module _ (task : PairTask) (old new old' new' : BoardState) (status : ℕ) (shape : Shape) (m other : Map) (has : old.shape ≡ Some shape)
    (has' : old'.shape ≡ Some shape) (held : Holds shape old.pages m) (held' : Holds shape old'.pages other)
    (one_limit : first_limit shape old.pages ≡ first_limit shape old'.pages) (far : roots old < 4611686018427387904) (far' : roots old' < 4611686018427387904) (none : NoneRose old new) (none' : NoneRose old' new')
    (sound : Rose old.flash_faults new.flash_faults → ⊥) (sound' : Rose old'.flash_faults new'.flash_faults → ⊥) where
  abbrev limits : List ℕ
  limits = limits_at shape old.pages

  abbrev IsDone : Type 0
  IsDone =
      (status ≡ 0) × (new.posted ≡ longer old.posted (text_by shape limits task m)) × Holds shape new.pages (map_left shape limits task m)
      × HoldsPart shape new'.pages (in_space 1 (map_left shape limits task m)) other

  -- the image is there
  none_lost : (o o' : BoardState) (s : ℕ) → o.shape ≡ Some shape → NotFound o o' s → s ≡ 8 → ⊥
  none_lost o o' s is (inl r) e = by r.fault r.tells r.reason
    where
      by : (fault : LoadFault) → s ≡ load_status fault → HasReason o o' fault → ⊥
      by (BadImage at) tells reason = reason.2 (subst IsSome (sym is) refl)
      by Fault tells reason = omega (arith, e, tells)
      by Memory tells reason = omega (arith, e, tells)
  none_lost o o' s is (inr (tells, found)) e = none_missing o o' shape is found

  module _ (loaded loaded' : BoardState) (found : Loaded old loaded (Some shape)) (found' : Loaded old' loaded' (Some shape)) where
    pages_same : loaded.pages ≡ old.pages
    pages_same = found_pages old loaded (Some shape) shape has found

    pages_same' : loaded'.pages ≡ old'.pages
    pages_same' = found_pages old' loaded' (Some shape) shape has' found'

    limits_same : limits_at shape loaded.pages ≡ limits
    limits_same = ap (limits_at shape) pages_same

    holds_loaded : Holds shape loaded.pages m
    holds_loaded = subst (λ (f : Flash). Holds shape f m) (sym pages_same) held

    holds_loaded' : Holds shape loaded'.pages other
    holds_loaded' = subst (λ (f : Flash). Holds shape f other) (sym pages_same') held'

    not_no_drive : (o n : BoardState) (k : Map) → Holds shape o.pages k → NotServed shape o n status → status ≡ 8 → ⊥
    not_no_drive o n k holds s e = by s.error s.tells s.reason
      where
        by : (error : OpenError) → status ≡ open_status error → NotOpened shape o n error → ⊥
        by NotFormatted is reason = no_map shape o.pages k not_formatted holds reason.0
        by (Damaged page) is reason = no_map shape o.pages k (damaged page) holds reason.0
        by ReadFault is reason = omega (arith, e, is)
        by NoMemory is reason = omega (arith, e, is)

    same_start : (asked : Map) → Holds shape loaded.pages asked → asked ≡ m
    same_start asked holds = let h : ◌≡◌ {A = Result Map Refusal} (Ok asked) (Ok m) = sym holds ∙ holds_loaded in cc

    same_other : (asked : Map) → Holds shape loaded'.pages asked → asked ≡ other
    same_other asked holds = let h : ◌≡◌ {A = Result Map Refusal} (Ok asked) (Ok other) = sym holds ∙ holds_loaded' in cc

    done_by : (start start' : Map) → start ≡ m → start' ≡ other → status ≡ 0
        → PairFinished task shape start start' (behind_opening shape WORD_FRAMES loaded) new (behind_opening shape WORD_FRAMES loaded') new' → IsDone
    done_by start start' same same' is f = elim f.says [
      | inl said ↦ (
        is,
        f.posted ∙ ap (λ (o : Option (List ℕ)). longer o f.text) (ap (λ (s : BoardState). s.posted) found.rest) ∙ ap (longer old.posted) (said.text_is ∙ ap (λ (l : List ℕ). text_by shape l task start) limits_same
            ∙ ap (text_by shape limits task) same),
        subst (λ (x : Map). Holds shape new.pages (map_left shape limits task x)) same (subst (λ (l : List ℕ). Holds shape new.pages (map_left shape l task start)) limits_same said.first_holds),
        subst (λ (x : Map). HoldsPart shape new'.pages (in_space 1 (map_left shape limits task m)) x) same'
            (subst (λ (x : Map). HoldsPart shape new'.pages (in_space 1 (map_left shape limits task x)) start') same
            (subst (λ (l : List ℕ). HoldsPart shape new'.pages (in_space 1 (map_left shape l task start)) start') limits_same said.second_holds)),
      )
      | inr (unread, line) ↦ absurd (elim unread [
        | inl rose ↦ none.reads (subst (λ (n : ℕ). Rose n new.read_faults) (ap (λ (s : BoardState). s.read_faults) found.rest) rose)
        | inr rose ↦ none'.reads (subst (λ (n : ℕ). Rose n new'.read_faults) (ap (λ (s : BoardState). s.read_faults) found'.rest) rose)
      ])
    ]

    -- the word is done, where its status is none of a fault
    asked_done : AsksPair task shape loaded new loaded' new' status → (status ≡ 0) ⊎ ((status ≡ 8) ⊎ (status ≡ 10)) → IsDone
    asked_done asks one = elim asks.outcome [
      | no_speaker is same same' ↦ absurd (omega (arith, one, is))
      | first_unopened n same' ↦ absurd (not_no_drive loaded new m holds_loaded n (let fault = open_one status n.error n.tells in omega (arith, one, fault)))
      | second_unopened is n ↦ absurd (not_no_drive loaded' new' other holds_loaded' n (let fault = open_one status n.error n.tells in omega (arith, one, fault)))
      | limits_differ l ↦ absurd (l.differ (ap (first_limit shape) pages_same ∙ one_limit ∙ sym (ap (first_limit shape) pages_same')))
      | pair_asked end is asked ↦ by end is asked
    ]
      where
        by : (end : WordEnd) → status ≡ word_status end → AskedPair task shape loaded new loaded' new' end → IsDone
        by Done is asked = done_by asked.start asked.other (same_start asked.start asked.holds) (same_other asked.other asked.holds_other) is asked.ends
        by Worn is asked = absurd (elim asked.ends.worn [
          | inl w ↦ worn_not old loaded new shape asked.start asked.other has found far none asked.few asked.first_used w.worn
          | inr w ↦ worn_not old' loaded' new' shape asked.start asked.other has' found' far' none' asked.few asked.second_used w.worn
        ])
        by Output is asked = absurd (omega (arith, one, is))
        by FlashFailed is asked = absurd (omega (arith, one, is))

  -- the same of images that were found with some shape
  found_done : (s : Shape) (loaded loaded' : BoardState) → Loaded old loaded (Some s) → Loaded old' loaded' (Some s) → AsksPair task s loaded new loaded' new' status
      → (status ≡ 0) ⊎ ((status ≡ 8) ⊎ (status ≡ 10)) → IsDone
  found_done s loaded loaded' found found' asks one =
      let same = found_shape old loaded s shape has found in
      let A : Shape → Type 0 = λ x. AsksPair task x loaded new loaded' new' status in
      asked_done loaded loaded' (subst (λ (x : Shape). Loaded old loaded (Some x)) same found) (subst (λ (x : Shape). Loaded old' loaded' (Some x)) same found') (subst A same asks) one

  run_done : PairRun task old new old' new' status → (status ≡ 0) ⊎ ((status ≡ 8) ⊎ (status ≡ 10)) → IsDone
  run_done (no_pair_memory is same same') one = absurd (omega (arith, one, is))
  run_done (first_missing missing same') one = absurd (none_lost old new status has missing (let fault = not_found_one old new status missing in omega (arith, one, fault)))
  run_done (second_missing s found missing) one = absurd (none_lost old' new' status has' missing (let fault = not_found_one old' new' status missing in omega (arith, one, fault)))
  run_done (shapes_differ o) one = absurd (o.differ (found_shape old new o.shape shape has o.found ∙ sym (found_shape old' new' o.other shape has' o.found')))
  run_done (pair_found f) one = found_done f.shape f.loaded f.loaded' f.found f.found' f.asks one

  whole_by : ((status ≡ 0) ⊎ ((status ≡ 8) ⊎ (status ≡ 10)) → IsDone) → PairTells old new old' new' status → IsDone ⊎ ((status ≡ 7) × Untouched old new × Untouched old' new')
  whole_by done tells = elim tells.is_one [
    | inl e ↦ inl (done (inl e))
    | inr (inl e) ↦ absurd (none.output (tells.output e))
    | inr (inr (inl e)) ↦ absurd (elim (tells.flash e) [
      | inl stops ↦ elim stops [ inl stop ↦ none.stops stop | inr stop ↦ none'.stops stop ]
      | inr (roses, gives) ↦ elim roses [ inl rose ↦ sound rose | inr rose ↦ sound' rose ]
    ])
    | inr (inr (inr (inl e))) ↦ inr (e, (tells.memory e).0, (tells.memory e).1)
    | inr (inr (inr (inr (inl e)))) ↦ inl (done (inr (inl e)))
    | inr (inr (inr (inr (inr e)))) ↦ inl (done (inr (inr e)))
  ]

pub pair_whole : (task : PairTask) (old new old' new' : BoardState) (status : ℕ) → PairRun task old new old' new' status → PairWhole task old new old' new' status
pair_whole task old new old' new' status run shape m other has has' held held' one_limit far far' none none' sound sound' =
    whole_by task old new old' new' status shape m other has has' held held' one_limit far far' none none' sound sound'
    (run_done task old new old' new' status shape m other has has' held held' one_limit far far' none none' sound sound' run) (pair_tells task old new old' new' status run)

-- ---- from the loads on

-- a board that was loaded holds its pages
loaded_again : (old loaded : BoardState) (shape : Shape) → Loaded old loaded (Some shape) → Loaded loaded loaded (Some shape)
loaded_again old loaded shape l =
    record { shape_is = l.shape_is; none_bad = l.none_bad; ready = l.ready; bare = l.bare; held = λ some. (refl, refl); rest = refl }

asks_whole : (task : PairTask) (s : Shape) (old loaded new old' loaded' new' : BoardState) (status : ℕ) → Loaded old loaded (Some s) → Loaded old' loaded' (Some s)
    → AsksPair task s loaded new loaded' new' status → PairWhole task old new old' new' status
asks_whole task s old loaded new old' loaded' new' status found found' asks shape m other has has' held held' one_limit far far' none none' sound sound' =
    whole_by task old new old' new' status shape m other has has' held held' one_limit far far' none none' sound sound'
    (found_done task old new old' new' status shape m other has has' held held' one_limit far far' none none' sound sound' s loaded loaded' found found' asks)
    (asks_tells task s old loaded new old' loaded' new' found found' status asks)

pub found_pair : (task : PairTask) (shape : Shape) (old loaded new old' loaded' new' : BoardState) (status : ℕ) → Loaded old loaded (Some shape) → Loaded old' loaded' (Some shape)
    → AsksPair task shape loaded new loaded' new' status → PairRun task old new old' new' status
found_pair task shape old loaded new old' loaded' new' status found found' asks =
    let again = loaded_again old loaded shape found in
    let again' = loaded_again old' loaded' shape found' in
    pair_found (record {
      shape = shape;
      loaded = loaded;
      loaded' = loaded';
      found = found;
      found' = found';
      asks = asks;
      refused = asks_refused task shape loaded loaded new loaded' loaded' new' status again again' asks;
      complete = asks_whole task shape loaded loaded new loaded' loaded' new' status again again' asks;
    })

-- ---- the words

-- a key that the words name is of the first namespace, and a value is short
allowed_same : (t task : PairTask) → Some t ≡ Some task → IsAllowed t → IsAllowed task
allowed_same t task e allowed = let same : t ≡ task = cc in subst IsAllowed same allowed

short_by : (words : List (List ℕ)) (task : PairTask) (w : Word) → Some w ≡ word_of words → for_pair w ≡ Some task → IsAllowed task
short_by words task (ask (answer (put_one k v))) is e = allowed_same (put k v) task e (short_within words (ask (answer (put_one k v))) is (answer (put_one k v)) refl)
short_by words task (ask (answer (get_one k))) is e = allowed_same (get k) task e (short_within words (ask (answer (get_one k))) is (answer (get_one k)) refl)
short_by words task (ask (answer (delete_one k))) is e = allowed_same (delete k) task e (short_within words (ask (answer (delete_one k))) is (answer (delete_one k)) refl)
short_by words task (ask (list_keys None)) is e = allowed_same list_all task e tt
short_by words task w is e = absurd (cc)

short_of : (words : List (List ℕ)) (task : PairTask) (o : Option Word) (b : Bool) → o ≡ word_of words
    → (if b then Some resync else option_and_then for_pair o) ≡ Some task → IsAllowed task
short_of words task o true is e = allowed_same resync task e tt
short_of words task None false is e = absurd (cc)
short_of words task (Some w) false is e = short_by words task w is e

pub short_pair : (words : List (List ℕ)) (task : PairTask) → Some task ≡ pair_task_of words → IsAllowed task
short_pair words task e = short_of words task (word_of words) (is_resync words) refl (sym e)
