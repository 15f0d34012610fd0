-- A key gets a value, wherever that has room.
use Rattle.std.proofs.Common.{◌≡◌, inl, inr, ℕ, ◌+◌, ◌-◌, ◌≤◌, ◌<◌, Bool, true, false, List, [], length, refl, sym, ap, subst, ◌∙◌, arith, nat_le, Option, Result, Ok, Err}
use Rattle.std.{specs.Prelude.◌&&◌, specs.Prelude.not, specs.Prelude.OnOk, specs.FinMap.insert, specs.FinMap.Entries.find}
use Rattle.pk_base.{specs.Entry.Entry, specs.Entry.Place, specs.Key.Key, specs.Key.key_cmp, specs.Page.Flash, specs.Map.Map, proofs.ShapeLemmas.entries_some}
use Rattle.pk_base.specs.Shape.{Shape, IsShape, data_blocks, charge, page_entries}
use Rattle.pk_plan.specs.declared.owner.Owner.TheVariants.{Values}
use Rattle.pk_pool.specs.Blocks.{used_by}
use Rattle.pk_nand.{specs.declared.types.Fault.Fault, specs.declared.types.Fault.TheVariants.Reading, specs.declared.types.Fault.TheVariants.Stopped, specs.BoardState.BoardState}
use Rattle.pk_nand.{specs.Calls.IsReady, specs.Calls.last_count, specs.Effects.OnlyFlash}
use Rattle.pk_model.{specs.Found.Found, specs.Growth.Reaches, specs.Growth.Goes, specs.Crashes.CrashFinds, specs.Crashes.commit, specs.Wear.roots, specs.Wear.is_worn}
use Rattle.pk_law_work.specs.Calls.{room_calls}
use Rattle.pk_law_steps.specs.Under.{places}
use Rattle.pk_log.specs.State.{needs_freeze}
use Rattle.pk_values.specs.State.{fits_open}
use Rattle.pk_parts.{specs.Parts.Parts, specs.Parts.counts_of, specs.Parts.most_looks, specs.Parts.is_half, specs.Agreeing.DriveOnFlash, specs.Moves.StandsFor, specs.Moves.MayStep}
use Rattle.pk_parts.{specs.Moves.KeepsAll, specs.Moves.BreaksAll, proofs.Halves.between, proofs.Halves.is_whole, proofs.Halves.stands as whole_stands, proofs.Standing.found_once, proofs.Standing.agrees_between}
use Rattle.pk_parts.{specs.Staying.StaysFresh, specs.Staying.StaysOrOpens, specs.Quiet.ReadsOnly, specs.Quiet.ReadsFailing, specs.Quiet.Looks, proofs.Keeping.board_has, proofs.Staying.fresh_then}
use Rattle.pk_background.{specs.Emptying.OnRunning, specs.Reclaiming.CannotRead, proofs.SpaceSteps.wanted_full, proofs.Stored.blocks_most, proofs.Stored.blocks_at}
use Rattle.pk_background.specs.Spacing.{SameMapAll, MovesOrReads, StaysSame, needs}
use Rattle.pk_background.proofs.ReadSteps.{passes_none, read_cuts, reading_then, reading_failed, running_says}
use Rattle.pk_background.proofs.SameMaps.{same_of, same_unread, passes_moved}
use Rattle.pk_changes.{specs.Changes.MayPut, specs.Changes.CanPut, specs.Changes.ChangesAll, specs.Changes.FailsToChange, specs.Changes.PutsOrReads, specs.Changes.StaysBetween}
use Rattle.pk_changes.proofs.Changing.{kept_goes}
use Rattle.pk_core.{specs.Programming.ReadsNone, proofs.Amounts.store_few, proofs.Amounts.numbers_last}
use Rattle.pk_core.proofs.Later.{Leads, changes_later, can_store_later}
use Rattle.pk_core.specs.Whole.{MayStore, SameMapBetween, StoresWhole, CanStore, store_most}

-- ---- a lookup finds the former value

pub reaches_behind : (shape : Shape) (old new : BoardState) (n : ℕ) (P : Flash → List ℕ → Type 0) → Reaches shape (record old { reads = n }) new P → Reaches shape old new P
reaches_behind shape old new n P run = (run.0, record { trail = run.1.trail; posted = run.1.posted; same_shape = run.1.same_shape; cuts = run.1.cuts; stands = run.1.stands }, run.2)

pub goes_behind : (shape : Shape) (old new : BoardState) (n : ℕ) (P : Flash → List ℕ → Type 0) → Goes shape (record old { reads = n }) new P → Goes shape old new P
goes_behind shape old new n P run = (run.0, record { trail = run.1.trail; posted = run.1.posted; same_shape = run.1.same_shape; cuts = run.1.cuts; stands = run.1.stands }, run.2)

-- if no pair is half made, the drive represents its map as it is
pub may_step : {d : Parts} {board : BoardState} {key : Key} {value : List ℕ} → CanStore d board key value → is_half d ≡ false → MayStep d board
may_step {d} {board} can whole = record { ready = can.ready; stands = (can.may.0, whole_stands d d.log.shape board.pages can.may.0 can.may.1.stands whole) }

-- so a step that keeps the map keeps it by the one relation
pub same_whole : (a b : Parts) (s0 s1 : BoardState) → is_half a ≡ false → SameMapAll a b s0 s1 → SameMapBetween a b s0 s1
same_whole a b s0 s1 whole same shape m was = same shape m (whole_stands a shape s0.pages m was whole)

pub its_drive : (d : Parts) (board : BoardState) (key : Key) (value : List ℕ) → CanStore d board key value → DriveOnFlash d board.shape board.pages
its_drive d board key value can = agrees_between d board.shape d.log.shape board.pages can.may.0 can.ready.shape_is can.may.1.stands

module _ (d : Parts) (flash : Flash) (key : Key) (value : List ℕ) (p : Option Place) (whole : is_half d ≡ false) (looks : Looks d flash key p) where
  found_may : (shape : Shape) (m : Map) → MayStore d shape flash m key value → MayPut d shape flash m key value p
  found_may shape m may =
      let P : Shape → Type 0 = λ s. MayStore d s flash m key value → MayPut d s flash m key value p in
      let here : P d.log.shape = λ is.
      let stands = whole_stands d d.log.shape flash m is.stands whole in
      record {
        stands = stands;
        old_is = (looks stands.top stands.found m stands.with.index.logs stands.with.index.stand stands.with.pending).placed;
        bytes = is.bytes;
        room = is.room;
      } in
      subst P may.stands.with.shape_is here may

  pub found_can : (e : Parts) (s0 s1 : BoardState) → e ≡ d → s0.pages ≡ flash → s1.pages ≡ s0.pages → IsReady s1 d.log.shape → CanStore d s0 key value → CanPut e s1 key value p
  found_can e s0 s1 same was pages ready can =
      let T : Parts → Type 0 = λ x. CanPut x s1 key value p in
      let M : Flash → Type 0 = λ f. MayStore d d.log.shape f can.may.0 key value in
      let Q : Flash → Type 0 = λ f. MayPut d d.log.shape f can.may.0 key value p in
      let put : Q flash = found_may d.log.shape can.may.0 (subst M was can.may.1) in
      subst T (sym same) (record { ready = ready; may = (can.may.0, subst Q (sym (pages ∙ was)) put); short = can.short; few = can.few })

-- the map changes after the reads of a lookup
pub found_stores : (r : Result Unit Fault) (d e c : Parts) (s0 s1 s2 : BoardState) (key : Key) (value : List ℕ) (p : Option Place) → IsReady s0 d.log.shape → is_half d ≡ false
    → e ≡ d → Looks d s0.pages key p → ReadsOnly s0 s1 (most_looks d)
    → PutsOrReads e c (room_calls e.log.shape) s1 s2 key value p r → StoresWhole d c (4 + room_calls d.log.shape) s0 s2 key value r
found_stores r d e c s0 s1 s2 key value p ready whole same looks made second =
    let mid : BoardState = record s0 { reads = s1.reads } in
    let here = subst (λ (x : Parts). PutsOrReads x c (room_calls x.log.shape) s1 s2 key value p r) same second in
    let there : PutsOrReads d c (room_calls d.log.shape) mid s2 key value p r = subst (λ (s : BoardState). PutsOrReads d c (room_calls d.log.shape) s s2 key value p r) made.board here in
    changes_later looked (λ m. insert m key value) (λ shape m. MayStore d shape s0.pages m key value) (λ shape m. MayPut d shape s0.pages m key value p)
    (λ shape m may. may.stands) (found_may d s0.pages key value p whole looks) c s2 r (KeepsAll d c mid s2) (λ s. room_calls s) (4 + room_calls d.log.shape) (omega arith) (same_of d c mid s2) there
  where
    looked : Leads d d 4 s0 (record s0 { reads = s1.reads })
    looked =
        let within = made.within in
        record {
          before = ready;
          kept = λ shape m was. record {
            stands = whole_stands d shape s0.pages m was whole;
            still = inl refl;
            cuts = read_cuts shape (CrashFinds shape commit s0.pages m) s0 (record s0 { reads = s1.reads }) refl (refl, inl refl);
          };
          same_shape = refl;
          frames = refl;
          stopped = refl;
          passes = record { no_fault = (refl, refl, refl, refl); rest = refl; reads = record { up = made.up; few = omega (arith, within) }; roots_few = omega arith };
        }

pub found_numbers : (d e : Parts) (s0 s1 : BoardState) → e ≡ d → ReadsOnly s0 s1 (most_looks d)
    → roots s0 + room_calls d.log.shape < 18446744073709551615 → roots s1 + room_calls e.log.shape < 18446744073709551615
found_numbers d e s0 s1 same made few =
    let roots_same : roots s1 ≡ roots s0 = ap (λ (s : BoardState). roots s) made.board in
    let calls : room_calls e.log.shape ≡ room_calls d.log.shape = ap (λ (x : Parts). room_calls x.log.shape) same in
    omega (arith, roots_same, calls, few)

-- a read of the lookup failed
unread_parts : (d e : Parts) (s0 s1 : BoardState) (most : ℕ) → e ≡ d → ReadsFailing s0 s1 most → CannotRead d e s0 s1
unread_parts d e s0 s1 most same made =
    subst (λ (x : Parts). CannotRead d x s0 s1) (sym same) (record { rest = refl; stands = λ shape m stands. stands; only = made.board; read = made.rose; flash = made.flash })

pub found_unread : (d e : Parts) (s0 s1 : BoardState) (k : ℕ) (key : Key) (value : List ℕ) → e ≡ d → s0.read_faults ≤ last_count → ReadsFailing s0 s1 (most_looks d) → IsReady s1 d.log.shape
    → is_half d ≡ false → StoresWhole d e (4 + k) s0 s1 key value (Err Reading)
found_unread d e s0 s1 k key value same few made ready whole =
    let up = made.up in
    let within = made.within in
    let rose = made.rose in
    let roots_same : roots s1 ≡ roots s0 = ap (λ (s : BoardState). roots s) made.board in
    record {
      came = (
        same_whole d e s0 s1 whole (same_unread d e s0 s1 (unread_parts d e s0 s1 (most_looks d) same made)),
        record { read = rose; up = omega (arith, rose, few); flash = made.flash; no_stop = ap (λ (s : BoardState). s.stop_faults) made.board },
      );
      rest = subst (λ (s : BoardState). OnlyFlash s0 s) (sym made.board) refl;
      reads = record { up = up; few = omega (arith, within) };
      roots_few = omega (arith, roots_same);
      ready = ready;
    }

pub between_same : (d e : Parts) → e ≡ d → length d.log.pending < page_entries d.log.shape → StaysBetween d e
between_same d e same few = let T : Parts → Type 0 = λ x. StaysBetween d x in subst T (sym same) (record { frames = refl; stopped = refl; same_shape = refl; few = few })

-- ---- after the reclaims

module _ {a b : Parts} {s0 s1 : BoardState} {n : ℕ} {key : Key} {value : List ℕ} (can : CanStore a s0 key value) (whole : is_half a ≡ false)
    (stays : StaysSame a b) (none : b.log.pending ≡ []) (step : MovesOrReads {T = Unit {0}} a b n s0 s1 (Ok tt)) where
  pub reclaims_lead : Leads a b n s0 s1
  reclaims_lead = record {
    before = can.ready;
    kept = same_whole a b s0 s1 whole step.came.0;
    same_shape = stays.same_shape;
    frames = stays.frames;
    stopped = stays.stopped;
    passes = passes_moved a b n s0 s1 step;
  }

  pub can_behind : CanStore b s1 key value
  can_behind =
      let some = entries_some a.log.shape can.may.1.stands.with.index.logs.is_shape in
      let empty : length b.log.pending ≡ 0 = ap (λ (es : List Entry). length es) none in
      can_store_later reclaims_lead key value step.ready (omega (arith, some, empty)) can

  pub whole_behind : is_half b ≡ false
  whole_behind = is_whole b (reclaims_lead.kept a.log.shape can.may.0 can.may.1.stands).stands.whole

  pub room_behind : needs (charge a.log.shape (length value)) b ≡ false → needs (charge b.log.shape (length value)) b ≡ false
  room_behind room = subst (λ (s : Shape). needs (charge s (length value)) b ≡ false) (sym stays.same_shape) room

  pub numbers_behind : roots s0 + (n + room_calls a.log.shape) < 18446744073709551615 → roots s1 + room_calls b.log.shape < 18446744073709551615
  numbers_behind few =
      let most = step.roots_few in
      let calls : room_calls b.log.shape ≡ room_calls a.log.shape = ap (λ (s : Shape). room_calls s) stays.same_shape in
      omega (arith, few, most, calls)

pub stores_failed : (e : Fault) (a b : Parts) (s0 s1 : BoardState) (n most : ℕ) (key : Key) (value : List ℕ) → CanStore a s0 key value → is_half a ≡ false
    → n ≤ most → MovesOrReads {T = Unit {0}} a b n s0 s1 (Err e) → StoresWhole a b most s0 s1 key value (Err e)
stores_failed e a b s0 s1 n most key value can whole few step =
    reading_failed e (λ (x : Unit). SameMapAll a b s0 s1) (λ (x : Unit). ChangesAll (λ shape m. MayStore a shape s0.pages m key value) (λ m. insert m key value) b s0 s1)
    (SameMapAll a b s0 s1) (SameMapBetween a b s0 s1) (BreaksAll a s0 s1) (FailsToChange (λ shape m. MayStore a shape s0.pages m key value) (λ m. insert m key value) s0 s1)
    a.log.shape n most s0 s1 few (same_whole a b s0 s1 whole)
    (λ breaks shape m may.
    let stands = whole_stands a shape s0.pages m may.stands whole in
    kept_goes shape s0 s1 (board_has a s0 shape m can.ready stands) m (insert m key value) (breaks shape m stands)) step

-- ---- what is unchanged

-- if the reclaims failed
stays_none : (a b : Parts) → IsShape a.log.shape → StaysSame a b → b.log.pending ≡ [] → StaysBetween a b
stays_none a b is same none =
    let some = entries_some a.log.shape is in
    let empty = ap (λ (es : List Entry). length es) none in
    record { frames = same.frames; stopped = same.stopped; same_shape = same.same_shape; few = omega (arith, some, empty) }

pub stays_failed : (e : Fault) (a b : Parts) (s0 : BoardState) (key : Key) (value : List ℕ) → CanStore a s0 key value
    → OnRunning {T = Unit {0}} (StaysSame a b) (Err e) → OnRunning {T = Unit {0}} (b.log.pending ≡ []) (Err e)
    → OnRunning {T = Unit {0}} (StaysBetween a b) (Err e)
stays_failed Reading a b s0 key value can same none = stays_none a b can.may.1.stands.with.index.logs.is_shape same none
stays_failed Stopped a b s0 key value can same none = tt

pub fresh_behind : (r : Result Unit Fault) (a b c : Parts) (count : ℕ) → StaysSame a b → OnRunning (StaysOrOpens b c count) r → OnRunning (StaysFresh a c) r
fresh_behind r a b c count first second = running_says (StaysOrOpens b c count) (StaysFresh a c) r (λ is. fresh_then a b c first.fresh is.fresh) second

pub fresh_failed : (e : Fault) (a b : Parts) → OnRunning {T = Unit {0}} (StaysSame a b) (Err e) → OnRunning {T = Unit {0}} (StaysFresh a b) (Err e)
fresh_failed e a b same = running_says {T = Unit {0}} (StaysSame a b) (StaysFresh a b) (Err e) (λ is. is.fresh) same

-- ---- no more blocks are in use

blocks_least : (d : Parts) (flash : Flash) (m : Map) (count : ℕ) → StandsFor d d.log.shape flash m → needs count d ≡ true → data_blocks d.log.shape - 1 ≤ (counts_of d).blocks
blocks_least d flash m count stands wanted = blocks_at d.reclaim.phase (used_by Values d.pool.states) (data_blocks d.log.shape) (wanted_full d count wanted) stands.with.reclaim.full

not_left : (x y : Bool) → (not x && y) ≡ true → x ≡ false
not_left true y e = cc
not_left false y e = refl

pub no_fit : (d : Parts) (count : ℕ) → needs count d ≡ true → fits_open d.log.shape d.values count ≡ false
no_fit d count wanted = not_left (fits_open d.log.shape d.values count) (nat_le (data_blocks d.log.shape - 1) (used_by Values d.pool.states)) wanted

module _ (a : Parts) (s0 : BoardState) (key : Key) (value : List ℕ) (count : ℕ) (can : CanStore a s0 key value) (whole : is_half a ≡ false) (wanted : needs count a ≡ true) where
  makes_room : (c : Parts) (s2 : BoardState) (m : Map) → StandsFor c a.log.shape s2.pages m → StaysFresh a c → StaysOrOpens a c count
  makes_room c s2 m stands fresh =
      let most = blocks_most c a.log.shape s2.pages m stands in
      let may = may_step can whole in
      let least = blocks_least a s0.pages may.stands.0 count may.stands.1 wanted in
      record { fresh = fresh; blocks = inr (inr (record { no_room = no_fit a count wanted; no_more = omega (arith, most, least) })) }

  pub opens_behind : (r : Result Unit Fault) (c : Parts) (s2 : BoardState) (most : ℕ) → StoresWhole a c most s0 s2 key value r → OnRunning (StaysFresh a c) r → OnRunning (StaysOrOpens a c count) r
  opens_behind (Ok x) c s2 most step fresh = makes_room c s2 (insert can.may.0 key value) (step.came.0 a.log.shape can.may.0 can.may.1).stands fresh
  opens_behind (Err Reading) c s2 most step fresh = makes_room c s2 can.may.0 (step.came.0 a.log.shape can.may.0 can.may.1.stands).stands fresh
  opens_behind (Err Stopped) c s2 most step fresh = tt

-- ---- if it has room

module _ (d : Parts) (s0 : BoardState) (key : Key) (value : List ℕ) (p : Option Place) (can : CanPut d s0 key value p) where
  pub store_can : CanStore d s0 key value
  store_can = record {
    ready = can.ready;
    may = (can.may.0, record { stands = between d d.log.shape s0.pages can.may.0 can.may.1.stands; bytes = can.may.1.bytes; room = can.may.1.room });
    short = can.short;
    few = can.few;
  }

  pub was_whole : is_half d ≡ false
  was_whole = is_whole d can.may.1.stands.whole

  put_may : (shape : Shape) (m : Map) → MayStore d shape s0.pages m key value → MayPut d shape s0.pages m key value p
  put_may shape m may =
      let P : Shape → Type 0 = λ s. MayStore d s s0.pages m key value → MayPut d s s0.pages m key value p in
      let was = can.may.1 in
      let here : P d.log.shape = λ is. record {
        stands = whole_stands d d.log.shape s0.pages m is.stands was_whole;
        old_is = ap (λ (f : Found). find key_cmp key (places f d.log.pending)) (found_one (whole_stands d d.log.shape s0.pages m is.stands was_whole)) ∙ was.old_is;
        bytes = is.bytes;
        room = is.room;
      } in
      subst P may.stands.with.shape_is here may
    where
      found_one : (stands : StandsFor d d.log.shape s0.pages m) → stands.found ≡ can.may.1.stands.found
      found_one stands = found_once d d d.log.shape s0.pages can.may.1.stands.top stands.top can.may.1.stands.found
          stands.found can.may.1.stands.without can.may.0 stands.without m can.may.1.stands.with stands.with

  pub put_stores : (r : Result Unit Fault) (c : Parts) (s2 : BoardState) (n most : ℕ) → n ≤ most → PutsOrReads d c n s0 s2 key value p r → StoresWhole d c most s0 s2 key value r
  put_stores r c s2 n most few step =
      let put : Map → Map = λ m. insert m key value in
      let May : Shape → Map → Type 0 = λ shape m. MayPut d shape s0.pages m key value p in
      let Store : Shape → Map → Type 0 = λ shape m. MayStore d shape s0.pages m key value in
      reading_then r (λ (x : Unit). ChangesAll May put c s0 s2) (λ (x : Unit). ChangesAll Store put c s0 s2) (KeepsAll d c s0 s2) (SameMapBetween d c s0 s2)
      (FailsToChange May put s0 s2) (FailsToChange Store put s0 s2) d.log.shape 0 n most s0 s0 s2 (omega (arith, few)) (passes_none s0)
      (λ x puts shape m may. puts shape m (put_may shape m may)) (λ keeps. same_whole d c s0 s2 was_whole (same_of d c s0 s2 keeps)) (λ fails shape m may. fails shape m (put_may shape m may)) step

pub reads_if_room : (r : Result Unit Fault) (d : Parts) (key : Key) (count : ℕ) (old new : BoardState)
    → OnOk r (needs_freeze d.log key ≡ false → new.reads ≡ old.reads) → OnOk r (ReadsNone d key count old new)
reads_if_room (Ok x) d key count old new quiet = λ fits. quiet
reads_if_room (Err e) d key count old new quiet = tt

-- ---- the numbers of roots last

pub room_most : {d : Parts} {board : BoardState} {key : Key} {value : List ℕ} → CanStore d board key value → is_worn board ≡ false → roots board + store_most d.log.shape < 18446744073709551615
room_most {d} {board} can unworn =
    let few = store_few d.log.shape can.may.1.stands.with.index.logs.is_shape in
    numbers_last board (store_most d.log.shape) unworn (omega (arith, few))
