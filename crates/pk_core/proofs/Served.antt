-- The answers of commands that change the map.
use Rattle.std.proofs.Common.{◌≡◌, ◌≢◌, ◌⊎◌, inl, inr, ℕ, ◌+◌, ◌-◌, ◌/◌, ◌%◌, ◌<◌, ◌≤◌, refl, sym, ap, subst, ◌∙◌, arith, Bool, true, false, not, ◌&&◌, ◌||◌, ◌==◌, List, [], length, nat_le, is_some}
use Rattle.std.proofs.Common.{take, Option, Some, None, Result, Ok, Err, leb-true}
use Rattle.std.{specs.Prelude.MatchOption, specs.FinMap.get, specs.FinMap.insert, specs.FinMap.remove, specs.FinMap.contains_key}
use Rattle.pk_base.{specs.Choices.or_else, specs.Entry.Place, specs.Fields.AreBytes, specs.Key.Key, specs.Key.IsKey, specs.Key.space_of, specs.Page.Flash}
use Rattle.pk_base.{specs.Shape.Shape, specs.Shape.charge, specs.Shape.greatest, specs.Shape.page_entries, specs.Map.Map, specs.Map.live, specs.Map.pages_if_some}
use Rattle.pk_nvme.{specs.Command.Command, specs.Command.key, specs.Reply.refusal, specs.Seen.command_of, specs.declared.request.Request.Request, specs.Opcode.op_of}
use Rattle.pk_nvme.specs.declared.opcode.Opcode.{Opcode}
use Rattle.pk_nvme.specs.declared.opcode.Opcode.TheVariants.{Store, Retrieve, Delete}
use Rattle.pk_nand.{specs.declared.types.Fault.Fault, specs.declared.types.Fault.TheVariants.Reading, specs.declared.types.Fault.TheVariants.Stopped, specs.Calls.last_count}
use Rattle.pk_nand.{specs.BoardState.BoardState, specs.BoardState.shape_of, specs.Effects.NoFault, specs.Effects.OnlyFlash}
use Rattle.pk_model.{specs.Answer.early, specs.Answer.check, specs.Answer.late_of, specs.Answer.success, specs.Answer.effect, specs.Answer.map_after, specs.Answer.reply_of as by_kind, specs.Run.Step}
use Rattle.pk_model.{specs.Growth.Reaches, specs.Growth.Goes}
use Rattle.pk_model.{proofs.Answering.serves, proofs.Answering.store_sized, proofs.Answering.IsSpace, proofs.Answering.key_spaced, specs.Wear.roots}
use Rattle.pk_model.{proofs.Machines.store_check, proofs.Machines.live_stored, specs.Crashes.CrashFinds, specs.Crashes.commit, specs.Crashes.change}
use Rattle.pk_model.{proofs.Growing.weaken, proofs.Growing.weaken_went, proofs.Growing.reached_limits, specs.Spaces.limit_of, specs.Spaces.limits_at, specs.Spaces.in_space}
use Rattle.pk_model.proofs.SpaceLemmas.{get_own, in_space-insert}
use Rattle.pk_call.{specs.Call.command_on, specs.Exec.Executed, specs.Exec.most_installs, specs.Exec.most_store_roots, specs.Seen.reply_of as shown}
use Rattle.pk_call.specs.declared.types.Outcome.{Outcome}
use Rattle.pk_parts.{specs.Parts.Parts, specs.Parts.sight_of, specs.Parts.frames_of, specs.Parts.terms_of, specs.Parts.drive_limits, specs.Agreeing.DriveOnFlash, specs.Finding.IsPlaceIn}
use Rattle.pk_parts.{specs.Moves.StandsFor, specs.Moves.StandsBetween, specs.Stopping.StoppedOn, specs.Quiet.ReadsOnly, specs.Quiet.Looks, proofs.OwnLimits.limits_on, proofs.Halves.between}
use Rattle.pk_parts.{proofs.Standing.agrees_so, proofs.Unchanging.own, proofs.Unchanging.looked, proofs.Unchanging.for_its_map, proofs.Unchanging.agrees_ready}
use Rattle.pk_core.{specs.Done.Does, specs.Done.Executes, specs.Quiet.eleven, specs.Serving.IsServable, specs.Serving.IsCounted, specs.Serving.outcome_for, proofs.Early.told_shape}
use Rattle.pk_core.specs.Whole.{MayStore, MayTakeBetween, CanStoreOver, CanTakeBetween, ChangesOrReads, StoresWhole, TakesWhole}
use Rattle.pk_core.proofs.Unchanging.{not_read, does_none, served, unread_step, refused_step, key_there, key_missing, value_of, same_early, ok_sound, missing_sound}
use Rattle.pk_core.{specs.LookedUp.IsLookedUp, proofs.SpaceRoom.has_room_for, proofs.Counting.live_own, proofs.Standing.still_stands, proofs.Statuses.store_refuses, proofs.Stored.reaches_behind}
use Rattle.pk_core.{proofs.Stored.goes_behind, proofs.Executing.executes_quiet, proofs.Executing.never}
use Rattle.pk_background.{specs.Emptying.Unread, specs.Emptying.Halts, specs.Emptying.OnRunning}
use Rattle.pk_changes.{specs.Changes.Changes, specs.Changes.StaysBetween, specs.Noting.pages_at}
use Rattle.pk_space.specs.Uses.{space_live}

-- ---- what a Store asks

pub store_short : (spaces : ℕ) (shape : Shape) (r : Request) → r.opcode ≡ 0x01 → early spaces shape (command_of r []) ≡ None → r.size ≤ greatest shape
store_short spaces shape r is passed = store_sized spaces shape (command_of r []) (ap op_of is) passed

-- ---- a command that changed the map

-- a command of this kind, which is no Retrieve, passed its checks and leaves this map
module _ {d : Parts} {old : BoardState} {r : Request} (s : IsServable d old r) (v : List ℕ) (k : Opcode) (is : op_of r.opcode ≡ Some k) (apart : k ≡ Retrieve → ⊥) (left : Map)
    (late : late_of d.log.shape (limit_of (drive_limits d) r.namespace) (in_space r.namespace s.agrees.all) (command_of r v) (Some k) ≡ None)
    (makes : effect s.agrees.all (command_of r v) (Some k) ≡ left) (one : most_installs r.opcode r.size ≡ most_store_roots)
    (plain : success 0 [] ≡ by_kind d.log.shape (limit_of (drive_limits d) r.namespace) (frames_of d) (in_space r.namespace s.agrees.all) eleven (command_of r v) (Some k)) where
  passes : early (length (drive_limits d)) d.log.shape (command_of r v) ≡ None
  passes = same_early (length (drive_limits d)) d.log.shape r v ∙ s.passed

  other : op_of r.opcode ≡ Some Retrieve → ⊥
  other = not_read k r.opcode is apart

  told : old.shape ≡ Some d.log.shape
  told = s.agrees.told_is ∙ ap (λ x. Some x) (sym s.agrees.with.shape_is)

  module _ (e : Parts) (new : BoardState) (few_roots : roots new ≤ roots old + most_store_roots) (count : IsCounted old new) (into : List ℕ) (reads : ℕ) where
    abbrev Done : Outcome → Type 0
    Done o = Executes d e old new (command_of r v) o into (new.reads - old.reads)

    -- the drive runs on with this map, and no call failed or a read did
    runs_on : (m : Map) (status : ℕ) → OnlyFlash old new → StaysBetween d e → StandsFor e d.log.shape new.pages m
        → Reaches d.log.shape old new (CrashFinds d.log.shape (change m) old.pages s.agrees.all) → Step d.log.shape (terms_of d) s.agrees.all (command_of r v) (refusal status) m
        → (NoFault old new × (status ≢ 0x88)) ⊎ (Unread old new × (status ≡ 0x88)) → Done (record { status = status; result = 0; data_len = 0; reads = reads; stopped = false })
    runs_on m status rest stays stands cuts step faults =
        let its_shape : new.shape ≡ Some d.log.shape = ap (λ (b : BoardState). b.shape) rest ∙ told in
        let limits = reached_limits d.log.shape old new (CrashFinds d.log.shape (change m) old.pages s.agrees.all) told cuts ∙ limits_on d old.shape old.pages s.agrees in
        let up = count.up in
        let few = count.few in
        record {
          stops = stays.stopped ∙ s.runs;
          agrees = λ _. (agrees_so e new.shape d.log.shape new.pages m its_shape stands, subst (λ (x : Shape). length e.log.pending < page_entries x) (sym stays.same_shape) stays.few);
          does = record {
            stands = λ _. for_its_map d old s.agrees (λ x f y. Executed x f old (sight_of d) new (sight_of e) y (command_of r v) (refusal status) (new.reads - old.reads)) (record {
              left = m;
              stepped = step;
              reached = cuts;
              stands = still_stands e new d.log.shape (terms_of d) m its_shape stays.frames limits (between e d.log.shape new.pages m stands);
              bounded = λ e. absurd (other e);
              held_bounded = λ e. absurd (other e);
            });
            cuts_stopped = λ e. absurd (never e refl);
            rest = rest;
            reads_are = omega (arith, up, few);
            up = elim faults [ inl none ↦ (let same = none.0.1 in omega (arith, same)) | inr unread ↦ unread.0.up ];
            flash_up = λ few. elim faults [ inl none ↦ (let same = none.0.0 in omega (arith, same)) | inr unread ↦ (let rose = unread.0.flash in omega (arith, rose, few)) ];
            unread = λ e _. elim faults [ inl none ↦ absurd (none.1 e) | inr unread ↦ unread.0.read ];
            sound = λ sound. elim faults [ inl none ↦ none.0 | inr unread ↦ absurd (sound unread.1) ];
            stop = λ e. absurd (never e refl);
            stop_status = λ e. absurd (never e refl);
            no_stop = λ _. elim faults [ inl none ↦ none.0.2 | inr unread ↦ unread.0.no_stop ];
            installs = omega (arith, few_roots, one);
          };
        }

    -- if the change is cut, the command is
    exec_cut : (f : Flash) (q : List ℕ) → CrashFinds d.log.shape (change left) old.pages s.agrees.all f q → CrashFinds d.log.shape (command_on old (command_of r v)) old.pages s.agrees.all f q
    exec_cut f q (quiet, inl same) = (quiet, inl same)
    exec_cut f q (quiet, inr (inl is)) = (quiet, inr (inl is))
    exec_cut f q (quiet, inr (inr to)) =
        let limits : limits_at (shape_of old) old.pages ≡ drive_limits d = ap (λ (s : Shape). limits_at s old.pages) (told_shape d old s.agrees) ∙ limits_on d old.shape old.pages s.agrees in
        let leaves = (serves d.log.shape (terms_of d) s.agrees.all eleven (command_of r v) k is passes late).leaves ∙ makes in
        (quiet, inr (inr (to ∙ ap (λ m. Ok m) (sym (ap (λ (limits : List ℕ). map_after d.log.shape limits s.agrees.all (command_of r v)) limits ∙ leaves)))))

    stopped : OnlyFlash old new → e.stopped ≡ true → Goes d.log.shape old new (CrashFinds d.log.shape (change left) old.pages s.agrees.all) → Halts old new
        → Done (record { status = 0x88; result = 0; data_len = 0; reads = reads; stopped = true })
    stopped rest stops went halts =
        let up = count.up in
        let few = count.few in
        record {
          stops = stops;
          agrees = λ e. absurd (never refl e);
          does = record {
            stands = λ e. absurd (never refl e);
            cuts_stopped = λ _. for_its_map d old s.agrees (λ x f m. Goes x old new (CrashFinds x (command_on old (command_of r v)) old.pages m)) (
              went.0,
              weaken_went went.0 old new (CrashFinds d.log.shape (change left) old.pages s.agrees.all)
                  (CrashFinds d.log.shape (command_on old (command_of r v)) old.pages s.agrees.all) exec_cut went.1,
              went.2,
            );
            rest = rest;
            reads_are = omega (arith, up, few);
            up = (let same = halts.read in omega (arith, same));
            flash_up = λ few. (let rose = halts.flash in omega (arith, rose, few));
            unread = λ _ e. absurd (never refl e);
            sound = λ e. absurd (e refl);
            stop = λ _. halts.stop;
            stop_status = λ _. refl;
            no_stop = λ e. absurd (never refl e);
            installs = omega (arith, few_roots, one);
          };
        }

    -- if the map is kept, the change is to the same map
    kept_cut : (f : Flash) (q : List ℕ) → CrashFinds d.log.shape commit old.pages s.agrees.all f q → CrashFinds d.log.shape (change s.agrees.all) old.pages s.agrees.all f q
    kept_cut f q (quiet, inl same) = (quiet, inl same)
    kept_cut f q (quiet, inr is) = (quiet, inr (inl is))

    came : (answer : Result Unit Fault) (May : Shape → Map → Type 0) (changed : Map → Map) → May d.log.shape s.agrees.all → StandsBetween d d.log.shape old.pages s.agrees.all
        → changed s.agrees.all ≡ left → (most : ℕ) (o : Outcome) → ChangesOrReads May changed d e most old new answer
        → OnRunning (StaysBetween d e) answer → StoppedOn e answer → o ≡ outcome_for answer reads → Done o
    came (Ok u) May changed may was is_left most o w stays stops told_is =
        let c = subst (λ (m : Map). Changes e d.log.shape s.agrees.all m old new) is_left (w.came.0 d.log.shape s.agrees.all may) in
        let step = served d.log.shape (terms_of d) s.agrees.all (command_of r v) passes k eleven (success 0 []) left refl is late makes plain in
        subst Done (sym told_is) (runs_on left 0 w.rest stays c.stands c.cuts step (inl (w.came.1, ok_sound)))
    came (Err Reading) May changed may was is_left most o w stays stops told_is =
        let c = w.came.0 d.log.shape s.agrees.all was in
        let cuts : Reaches d.log.shape old new (CrashFinds d.log.shape (change s.agrees.all) old.pages s.agrees.all) = (
          c.cuts.0,
          weaken c.cuts.0 old new (CrashFinds d.log.shape commit old.pages s.agrees.all) (CrashFinds d.log.shape (change s.agrees.all) old.pages s.agrees.all) kept_cut c.cuts.1,
          c.cuts.2,
        ) in
        subst Done (sym told_is)
        (runs_on s.agrees.all 0x88 w.rest stays c.stands cuts (unread_step d.log.shape (terms_of d) s.agrees.all (command_of r v) passes) (inr (w.came.1, refl)))
    came (Err Stopped) May changed may was is_left most o w stays stops told_is =
        let went = subst (λ (m : Map). Goes d.log.shape old new (CrashFinds d.log.shape (change m) old.pages s.agrees.all)) is_left (w.came.0 d.log.shape s.agrees.all may) in
        subst Done (sym told_is) (stopped w.rest stops went w.came.1)

-- nothing was read
none_read : (n : ℕ) → 0 ≡ n - n
none_read n = omega arith

-- a command that was refused did nothing
refused : {d : Parts} {old : BoardState} {r : Request} (s : IsServable d old r) (v into : List ℕ) (status : ℕ) (o : Outcome) (reads : ℕ) → status ≢ 0x88
    → Step d.log.shape (terms_of d) s.agrees.all (command_of r v) (refusal status) s.agrees.all
    → o ≡ record { status = status; result = 0; data_len = 0; reads = reads; stopped = false } → Executes d d old old (command_of r v) o into (old.reads - old.reads)
refused {d} {old} {r} s v into status o reads sound step told =
    executes_quiet d d old old r (command_of r v) o into (old.reads - old.reads) s refl refl (ap (λ (x : Outcome). x.stopped) told)
    (subst (λ (x : Outcome). Does old old (sight_of d) (sight_of d) (command_of r v) (shown x into) (old.reads - old.reads) x.stopped) (sym told)
    (subst (λ (n : ℕ). Does old old (sight_of d) (sight_of d) (command_of r v) (refusal status) n false) (none_read old.reads)
    (does_none d old s.agrees (command_of r v) (refusal status) s.counted sound step)))

-- ---- the checks of a Store

-- if none failed, the live pages are within their limit
within : (options live most : ℕ) (there : Bool) → store_check options there live most ≡ None → live ≤ most
within options live most there is = by_cases (not (options % 2 == 1) || there) (not (options / 2 % 2 == 1 && there)) (nat_le live most) refl is
  where
    by_cases : (a b c : Bool) → nat_le live most ≡ c → or_else (check a 0x87) (or_else (check b 0x89) (check c 0x81)) ≡ None → live ≤ most
    by_cases false b c l e = cc
    by_cases true false c l e = cc
    by_cases true true false l e = cc
    by_cases true true true l e = leb-true live most l

-- ---- a command whose key has its value at a place

module _ {d : Parts} {old : BoardState} {r : Request} {k : Key} {o : Option Place} {before : ℕ} (u : IsLookedUp d old r k o before) where
  placed_there : IsPlaceIn d.log.shape old.pages u.servable.agrees.found d.log.pending u.servable.agrees.all k o
  placed_there = looked d old u.servable.agrees k o u.looks

  abbrev its_drive : StandsBetween d d.log.shape old.pages u.servable.agrees.all
  its_drive = record { top = u.servable.agrees.top; found = u.servable.agrees.found; without = u.servable.agrees.without; with = own d old u.servable.agrees; course = u.servable.agrees.course }

is_there_same : (d : Parts) (old : BoardState) (a : DriveOnFlash d old.shape old.pages) (k : Key) (o : Option Place) → IsKey k → Looks d old.pages k o → is_some o ≡ contains_key a.all k
is_there_same d old a k None is_key looks = ap is_some (sym (looked d old a k None looks).there)
is_there_same d old a k (Some p) is_key looks = ap is_some (sym (value_of d old a k p is_key looks).is_there)

pages_same : (d : Parts) (old : BoardState) (a : DriveOnFlash d old.shape old.pages) (k : Key) (o : Option Place)
    → IsKey k → Looks d old.pages k o → pages_at d.log.shape o ≡ pages_if_some d.log.shape (get a.all k)
pages_same d old a k None is_key looks = ap (pages_if_some d.log.shape) (sym (looked d old a k None looks).there)
pages_same d old a k (Some p) is_key looks =
    let there = value_of d old a k p is_key looks in
    ap (charge d.log.shape) (sym there.size) ∙ ap (pages_if_some d.log.shape) (sym there.is_there)

pub short_place : (d : Parts) (old : BoardState) (a : DriveOnFlash d old.shape old.pages) (k : Key) (o : Option Place)
    → IsKey k → Looks d old.pages k o → MatchOption o (Unit {0}) (λ p. p.len ≤ greatest d.log.shape)
short_place d old a k None is_key looks = tt
short_place d old a k (Some p) is_key looks = (value_of d old a k p is_key looks).short

-- ---- a Store

module _ {d : Parts} {old : BoardState} {r : Request} {k : Key} {o : Option Place} {before : ℕ} (value : List ℕ) (u : IsLookedUp d old r k o before)
    (op : r.opcode ≡ 0x01) (whole : length value ≡ r.size) (is_key : IsKey k) (bytes : AreBytes k) where
  abbrev c : Command
  c = command_of r value

  abbrev all : Map
  all = u.servable.agrees.all

  -- the part of the map that its namespace has, and the limit of that
  abbrev part : Map
  part = in_space r.namespace u.servable.agrees.all

  abbrev most : ℕ
  most = limit_of (drive_limits d) (space_of k)

  abbrev live_before : ℕ
  live_before = space_live d.spaces (space_of k)

  abbrev after_pages : ℕ
  after_pages = live_before - pages_at d.log.shape o + charge d.log.shape r.size

  its_space : IsSpace (length (drive_limits d)) r.namespace
  its_space = key_spaced (length (drive_limits d)) d.log.shape (command_of r []) Store (λ n k. refl) (ap op_of op) u.servable.passed

  -- the key is of this namespace
  own_key : space_of k ≡ r.namespace
  own_key = ap space_of u.named

  pub key_within : space_of k ≤ length (drive_limits d)
  key_within = subst (λ (n : ℕ). n ≤ length (drive_limits d)) (sym own_key) its_space.most

  own_value : get part (key c) ≡ get all (key c)
  own_value = get_own r.namespace all (take c.key_len c.key_bytes)

  live_is : live_before ≡ live d.log.shape part
  live_is = ap (space_live d.spaces) own_key ∙ live_own d old u.servable.agrees r.namespace its_space.some its_space.most

  held_is : pages_at d.log.shape o ≡ pages_if_some d.log.shape (get part (key c))
  held_is = pages_same d old u.servable.agrees k o is_key u.looks ∙ ap (λ q. pages_if_some d.log.shape (get all q)) u.named ∙ ap (pages_if_some d.log.shape) (sym own_value)

  late_is : store_check r.options (is_some o) after_pages most ≡ late_of d.log.shape (limit_of (drive_limits d) r.namespace) part c (Some Store)
  late_is =
      let there = is_there_same d old u.servable.agrees k o is_key u.looks ∙ ap (contains_key all) u.named ∙ ap is_some (sym own_value) in
      λ i. store_check r.options (there i) (live_is i - held_is i + charge d.log.shape r.size) (limit_of (drive_limits d) (own_key i))

  pub store_refused : (status : ℕ) (into : List ℕ) (outcome : Outcome) (reads : ℕ) → store_check r.options (is_some o) after_pages most ≡ Some status
      → outcome ≡ record { status = status; result = 0; data_len = 0; reads = reads; stopped = false } → Executes d d old old c outcome into (old.reads - old.reads)
  store_refused status into outcome reads failed told =
      refused u.servable value into status outcome reads (store_refuses r.options after_pages most status (is_some o) failed).1
      (refused_step d.log.shape (terms_of d) all c (same_early (length (drive_limits d)) d.log.shape r value ∙ u.servable.passed) Store status (ap op_of op) (sym late_is ∙ failed)) told

  module _ (passed : store_check r.options (is_some o) after_pages most ≡ None) where
    -- its namespace has room for the value
    own_room : live d.log.shape (in_space (space_of k) (insert all k value)) ≤ limit_of (drive_limits d) (space_of k)
    own_room =
        let few = within r.options after_pages most (is_some o) passed in
        let held = held_is ∙ ap (λ q. pages_if_some d.log.shape (get part q)) (sym u.named) in
        let same = live_stored d.log.shape part k value live_before (pages_at d.log.shape o) (charge d.log.shape r.size) live_is held (ap (charge d.log.shape) (sym whole)) in
        let put_in = ap (live d.log.shape) (in_space-insert r.namespace all k own_key value) in
        subst (λ (n : ℕ). live d.log.shape (in_space n (insert all k value)) ≤ most) (sym own_key) (omega (arith, few, same, put_in))

    abbrev may_store : MayStore d d.log.shape old.pages all k value
    may_store =
        let some : 1 ≤ space_of k = subst (λ (n : ℕ). 1 ≤ n) (sym own_key) its_space.some in
        record { stands = its_drive u; bytes = bytes; room = has_room_for d old u.servable.agrees k value some key_within own_room }

    pub can_put : CanStoreOver d old k value o
    can_put = record {
      can = record {
        ready = agrees_ready d old u.servable.agrees;
        may = (all, may_store);
        short = let short = store_short (length (drive_limits d)) d.log.shape r op u.servable.passed in omega (arith, short, whole);
        few = u.servable.few;
      };
      old_is = (placed_there u).placed;
    }

    -- the result of putting it
    pub store_came : (answer : Result Unit Fault) (e : Parts) (new : BoardState) (most : ℕ) (into : List ℕ) (outcome : Outcome) (reads : ℕ)
        → StoresWhole d e most old new k value answer → roots new ≤ roots old + most_store_roots → IsCounted old new → OnRunning (StaysBetween d e) answer
        → StoppedOn e answer → outcome ≡ outcome_for answer reads → Executes d e old new c outcome into (new.reads - old.reads)
    store_came answer e new most into outcome reads step few count =
        came u.servable value Store (ap op_of op) (λ e. cc) (insert all k value) (sym late_is ∙ passed) (ap (λ q. insert all q value) (sym u.named)) (ap (λ x. most_installs x r.size) op) refl
        e new few count into reads answer (λ shape m. MayStore d shape old.pages m k value) (λ m. insert m k value) may_store may_store.stands refl most outcome step

-- ---- a Delete

pub delete_missing : {d : Parts} {old : BoardState} {r : Request} {k : Key} {before : ℕ} (v : List ℕ) → IsLookedUp d old r k None before → r.opcode ≡ 0x10
    → (into : List ℕ) (outcome : Outcome) (reads : ℕ) → outcome ≡ record { status = 0x87; result = 0; data_len = 0; reads = reads; stopped = false }
    → Executes d d old old (command_of r v) outcome into (old.reads - old.reads)
delete_missing {d} {old} {r} {k} v u op into outcome reads told =
    let missing = subst (λ q. get u.servable.agrees.all q ≡ None) u.named (placed_there u).there in
    refused u.servable v into 0x87 outcome reads missing_sound
    (key_missing d.log.shape (terms_of d) u.servable.agrees.all (command_of r v) (same_early (length (drive_limits d)) d.log.shape r v ∙ u.servable.passed) Delete refl (ap op_of op) missing) told

module _ {d : Parts} {old : BoardState} {r : Request} {k : Key} {p : Place} {before : ℕ} (v : List ℕ) (u : IsLookedUp d old r k (Some p) before)
    (op : r.opcode ≡ 0x10) (is_key : IsKey k) (bytes : AreBytes k) where
  abbrev its_map : Map
  its_map = u.servable.agrees.all

  may_take : MayTakeBetween d d.log.shape old.pages its_map k p
  may_take =
      let its_space = key_spaced (length (drive_limits d)) d.log.shape (command_of r []) Delete (λ n k. refl) (ap op_of op) u.servable.passed in
      let own : space_of k ≤ length (drive_limits d) = subst (λ (n : ℕ). n ≤ length (drive_limits d)) (sym (ap space_of u.named)) its_space.most in
      let spaced = subst (λ (limits : List ℕ). space_of k ≤ length limits) (sym (limits_on d old.shape old.pages u.servable.agrees)) own in
      record { stands = its_drive u; old_is = (placed_there u).placed; bytes = bytes; spaced = spaced }

  pub can_take : CanTakeBetween d old k p
  can_take = record { ready = agrees_ready d old u.servable.agrees; may = (its_map, may_take); few = u.servable.few }

  -- the result of taking it out
  pub delete_came : (answer : Result Unit Fault) (e : Parts) (new : BoardState) (most : ℕ) (into : List ℕ) (outcome : Outcome) (reads : ℕ)
      → TakesWhole d e most old new k p answer → roots new ≤ roots old + most_store_roots → IsCounted old new → OnRunning (StaysBetween d e) answer
      → StoppedOn e answer → outcome ≡ outcome_for answer reads → Executes d e old new (command_of r v) outcome into (new.reads - old.reads)
  delete_came answer e new most into outcome reads step few count =
      let there = value_of d old u.servable.agrees k p is_key u.looks in
      let late = key_there d.log.shape (terms_of d) its_map (command_of r v) (same_early (length (drive_limits d)) d.log.shape r v ∙ u.servable.passed)
      Delete there.value refl (subst (λ q. get its_map q ≡ Some there.value) u.named there.is_there) in
      came u.servable v Delete (ap op_of op) (λ e. cc) (remove its_map k) late (ap (λ q. remove its_map q) (sym u.named)) (ap (λ x. most_installs x r.size) op) refl
      e new few count into reads answer (λ shape m. MayTakeBetween d shape old.pages m k p) (λ m. remove m k) may_take may_take.stands refl most outcome step

-- ---- after the reads of a lookup

pub does_behind : (d f : Parts) {old mid new : BoardState} {most : ℕ} {c : Command} (into : List ℕ) (o : Outcome) → ReadsOnly old mid most → (op_of c.opcode ≡ Some Retrieve → ⊥)
    → IsCounted mid new → o.reads ≡ new.reads - old.reads
    → Does mid new (sight_of d) (sight_of f) c (shown o into) (new.reads - mid.reads) o.stopped → Does old new (sight_of d) (sight_of f) c (shown o into) o.reads o.stopped
does_behind d f {old} {mid} {new} {most} {c} into o made no_read count told_is does =
    let n : ℕ = mid.reads in
    let few : n ≤ last_count = made.few in
    let up : old.reads ≤ n = made.up in
    let x : Does (record old { reads = n }) new (sight_of d) (sight_of f) c (shown o into) (new.reads - n) o.stopped = subst
    (λ (b : BoardState). Does b new (sight_of d) (sight_of f) c (shown o into) (new.reads - n) o.stopped) made.board does in
    let more = count.up in
    let last = count.few in
    record {
      stands = λ run shape frames m st.
          let y = x.stands run shape frames m (record { shape_is = st.shape_is; frames_is = st.frames_is; limits_is = st.limits_is; map_is = st.map_is }) in
          record {
            left = y.left;
            stepped = y.stepped;
            reached = reaches_behind shape old new n (CrashFinds shape (change y.left) old.pages m) y.reached;
            stands = y.stands;
            bounded = λ k. absurd (no_read k);
            held_bounded = λ k. absurd (no_read k);
          };
      cuts_stopped = λ run shape frames m st. goes_behind shape old new n (CrashFinds shape (command_on old c) old.pages m)
          (x.cuts_stopped run shape frames m (record { shape_is = st.shape_is; frames_is = st.frames_is; limits_is = st.limits_is; map_is = st.map_is }));
      rest = x.rest;
      reads_are = omega (arith, told_is, more, last, up);
      up = x.up;
      flash_up = x.flash_up;
      unread = x.unread;
      sound = x.sound;
      stop = x.stop;
      stop_status = x.stop_status;
      no_stop = x.no_stop;
      installs = x.installs;
    }
