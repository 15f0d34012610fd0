-- Commands that only read: what they leave of the board, and what they answer.
use Rattle.std.proofs.Common.{◌≡◌, ◌≢◌, inl, inr, ℕ, ◌+◌, ◌-◌, ◌≤◌, refl, sym, ap, subst, ◌∙◌, arith, min, cond, List, [], ◌∷◌, length, take, true, false, Option, Some, None, unwrap_or}
use Rattle.std.{specs.Prelude.is_some, proofs.lemmas.List.take_min, specs.List.AllByRecursion, specs.List.flat_map, specs.Ordering.eq_by_cmp, specs.FinMap.get, specs.FinMap.Entries.find}
use Rattle.pk_base.{specs.Fields.u32, specs.Key.Key, specs.Key.IsKey, specs.Key.key_cmp, specs.Shape.Shape, specs.Shape.IsShape, specs.Shape.greatest, specs.Shape.pinned, specs.Shape.fetched}
use Rattle.pk_base.{specs.Page.Flash, specs.Page.page_at, proofs.Logic.not_both, proofs.Logic.some_same, proofs.ShapeLemmas.fetched_charge, proofs.ShapeLemmas.charge_most, specs.Entry.Place}
use Rattle.pk_base.{specs.EntryChecks.IsPlace, specs.Map.Map}
use Rattle.pk_nvme.{specs.Command.Command, specs.Command.key, specs.Reply.Reply, specs.Reply.refusal, specs.Seen.command_of, specs.declared.request.Request.Request, specs.Opcode.op_of}
use Rattle.pk_nvme.specs.declared.opcode.Opcode.{Opcode}
use Rattle.pk_nvme.specs.declared.opcode.Opcode.TheVariants.{Retrieve, Exist, Report}
use Rattle.pk_rootfmt.specs.Root.{Root}
use Rattle.pk_segfmt.{specs.Head.IsHead, proofs.StoredLemmas.value_found}
use Rattle.pk_seg.{specs.Stored.IsFront, specs.Counts.ReadsFailed}
use Rattle.pk_nand.{specs.BoardState.BoardState, specs.Calls.Rose, specs.Calls.last_count, specs.Counts.after_reads, specs.Effects.NoFault, specs.Effects.OnlyReading, proofs.Reaching.Reached-start}
use Rattle.pk_model.{specs.Answer.early, specs.Answer.fault_of, specs.Answer.late_of, specs.Answer.success, specs.Answer.reply_of, specs.Answer.check, specs.Answer.effect, specs.Found.Found}
use Rattle.pk_model.{specs.Bounds.most_reads, specs.Bounds.most_reads_of, specs.Run.Step, proofs.Answering.refuses_late, proofs.Answering.serves, proofs.SpaceLemmas.get_own, specs.Crashes.CrashFinds}
use Rattle.pk_model.{specs.Crashes.change, specs.Spaces.Terms, specs.Spaces.limit_of, specs.Spaces.in_space}
use Rattle.pk_call.{specs.Sight.Sight, specs.Sight.Counts, specs.Sight.InSpace, specs.Sight.levels_held, specs.Drive.HoldsMap, specs.Drive.CountsMap}
use Rattle.pk_call.{specs.Seen.reply_of as shown, specs.declared.types.Outcome.Outcome, specs.Exec.most_reads_beyond, specs.Exec.most_unheld_reads, specs.Exec.report_of, specs.Meter.reads_after}
use Rattle.pk_law_steps.specs.Under.{places}
use Rattle.pk_parts.specs.Parts.{Parts, drive_limits, sight_of, frames_of, most_looks, settled_parts, terms_of}
use Rattle.pk_parts.proofs.Unchanging.{reads_none, reads_more, reads_break, own, for_its_map, looked}
use Rattle.pk_parts.{specs.Agreeing.DriveOnFlashWith, specs.Agreeing.DriveOnFlash, specs.Finding.IsPlaceIn, specs.Quiet.ReadsOnly, specs.Quiet.ReadsFailing, specs.Quiet.Looks}
use Rattle.pk_core.{specs.Done.Does, specs.Done.Executes, specs.Quiet.ValueThere, specs.Quiet.eleven, specs.Serving.IsServable, proofs.Executing.executes_quiet, proofs.Sights.only_reads}

-- ---- the clauses of a command that only reads

-- a command of another kind is no Retrieve
pub not_read : (k : Opcode) (x : ℕ) → op_of x ≡ Some k → (k ≡ Retrieve → ⊥) → op_of x ≡ Some Retrieve → ⊥
not_read k x is apart e = apart (some_same k Retrieve (sym is ∙ e))

-- a Retrieve reads no more than it may, by the pinned levels and by those that have all their pages in frames
abbrev pub ReadsWithin : Shape → Terms → Sight → Map → Command → ℕ → Type 0
ReadsWithin shape terms s m c reads =
    (op_of c.opcode ≡ Some Retrieve → reads ≤ most_reads shape terms m c) × (op_of c.opcode ≡ Some Retrieve → reads ≤ most_unheld_reads shape terms s m c)

beyond_less : (shape : Shape) (frames levels : ℕ) (c : Command) (refused : Option ℕ) (value : Option (List ℕ)) → pinned shape frames ≤ levels
    → most_reads_beyond shape levels c refused value ≤ most_reads_of shape frames c refused value
beyond_less shape frames levels c (Some status) value held = omega arith
beyond_less shape frames levels c None None held = omega (arith, held)
beyond_less shape frames levels c None (Some v) held = omega (arith, held)

-- the second bound is at most the first one
within_both : (shape : Shape) (terms : Terms) (s : Sight) (m : Map) (c : Command) (reads : ℕ) → pinned shape terms.frames ≤ levels_held s
    → (op_of c.opcode ≡ Some Retrieve → reads ≤ most_unheld_reads shape terms s m c) → ReadsWithin shape terms s m c reads
within_both shape terms s m c reads held within =
    let less = beyond_less shape terms.frames (levels_held s) c (early (length terms.limits) shape c) (get m (key c)) held in
    (λ is. (let few = within is in omega (arith, few, less)), within)

-- it may answer this on every map that the drive represents, and reads no more than it may
abbrev pub AnswersAll : BoardState → Sight → Command → Reply → ℕ → Type 0
AnswersAll old s c reply reads =
    (shape : Shape) (terms : Terms) (m : Map) → HoldsMap shape terms old s m → Step shape terms m c reply m × ReadsWithin shape terms s m c reads

-- nothing was done to the flash but reads, of which one may have failed
pub does_still : (old new : BoardState) (s : Sight) (c : Command) (reply : Reply) (reads : ℕ) → OnlyReading old new → new.reads ≡ reads_after old.reads reads
    → old.read_faults ≤ new.read_faults → (old.flash_faults ≤ last_count → old.flash_faults ≤ new.flash_faults)
    → (reply.status ≡ 0x88 → Rose old.read_faults new.read_faults) → (reply.status ≢ 0x88 → NoFault old new) → AnswersAll old s c reply reads → Does old new s s c reply reads false
does_still old new s c reply reads made are up flash_up unread sound answers =
    let n : ℕ = new.reads in
    let all : ℕ = new.flash_faults in
    let failed : ℕ = new.read_faults in
    let at : Option ℕ = new.failed_at in
    let P : BoardState → Type 0 = λ b. Does old b s s c reply reads false in
    subst P (sym made) (record {
      stands = λ _ shape frames m st. let a = answers shape frames m st in record {
        left = m;
        stepped = a.0;
        reached = (
          [],
          Reached-start old (record old { reads = n; flash_faults = all; read_faults = failed; failed_at = at })
              (CrashFinds shape (change m) old.pages m) refl refl refl refl (refl, inl refl),
          tt,
        );
        stands = record { shape_is = st.shape_is; frames_is = st.frames_is; limits_is = st.limits_is; map_is = st.map_is };
        bounded = a.1.0;
        held_bounded = a.1.1;
      };
      cuts_stopped = λ e. absurd (not_both false e refl);
      rest = refl;
      reads_are = are;
      up = up;
      flash_up = flash_up;
      unread = λ e _. unread e;
      sound = λ e. let none = sound e in (none.0, none.1, refl, none.3);
      stop = λ e. absurd (not_both false e refl);
      stop_status = λ e. absurd (not_both false e refl);
      no_stop = λ _. refl;
      installs = omega arith;
    })

pub does_reads : (old new : BoardState) (s : Sight) (c : Command) (reply : Reply) (most reads : ℕ)
    → ReadsOnly old new most → reads ≡ new.reads - old.reads → reply.status ≢ 0x88 → AnswersAll old s c reply reads → Does old new s s c reply reads false
does_reads old new s c reply most reads made is sound answers =
    let up = made.up in
    let few = made.few in
    let read = ap (λ (b : BoardState). b.read_faults) made.board in
    let flash = ap (λ (b : BoardState). b.flash_faults) made.board in
    does_still old new s c reply reads (only_reads old new most made) (omega (arith, is, up, few)) (omega (arith, read)) (λ _. omega (arith, flash)) (λ e. absurd (sound e))
    (λ _. (flash, read, ap (λ (b : BoardState). b.stop_faults) made.board, ap (λ (b : BoardState). b.failed_at) made.board)) answers

-- nothing was read
pub does_none : (d : Parts) (board : BoardState) (a : DriveOnFlash d board.shape board.pages) (c : Command) (reply : Reply) → board.reads ≤ last_count
    → reply.status ≢ 0x88 → Step d.log.shape (terms_of d) a.all c reply a.all → Does board board (sight_of d) (sight_of d) c reply 0 false
does_none d board a c reply few sound step =
    does_reads board board (sight_of d) c reply 0 0 (reads_none board few) (omega arith) sound
    (for_its_map d board a (λ s f m. Step s f m c reply m × ReadsWithin s f (sight_of d) m c 0) (step, (λ is. omega arith, λ is. omega arith)))

pub does_unread : (old new : BoardState) (s : Sight) (c : Command) (most reads : ℕ) → old.read_faults ≤ last_count
    → ReadsFailing old new most → reads ≡ new.reads - old.reads → AnswersAll old s c (refusal 0x88) reads → Does old new s s c (refusal 0x88) reads false
does_unread old new s c most reads faults made is answers =
    let up = made.up in
    let few = made.few in
    let rose = made.rose in
    let flash = made.flash in
    does_still old new s c (refusal 0x88) reads made.board (omega (arith, is, up, few))
    (omega (arith, rose, faults)) (λ most. omega (arith, flash, most)) (λ _. rose) (λ e. absurd (e refl)) answers

-- ---- the value at a place

found_has : (P : Key × Place → Type 0) (k : Key) (p : Place) (es : List (Key × Place)) → find key_cmp k es ≡ Some p → AllByRecursion P es → (q : Key) × P (q, p)
found_has P k p [] e all = cc
found_has P k p (x ∷ xs) e all =
    elim (eq_by_cmp key_cmp k x.0) as (λ b. cond b (Some x.1) (find key_cmp k xs) ≡ Some p → (q : Key) × P (q, p)) [
      | true ↦ λ is. (x.0, subst (λ y. P (x.0, y)) (some_same x.1 p is) all.0)
      | false ↦ λ is. found_has P k p xs is all.1
    ] e

pub value_there : (d : Parts) (flash : Flash) (top : ℕ × Root) (found : Found) (without all : Map) (k : Key) (p : Place) → IsKey k
    → DriveOnFlashWith d d.log.shape flash top found without all → IsPlaceIn d.log.shape flash found d.log.pending all k (Some p) → ValueThere d.log.shape flash all k p
value_there d flash top found without all k p is_key a is =
    let shape = d.log.shape in
    let v : List ℕ = is.there.0 in
    let lies = (found_has (λ e. IsPlace shape e.1) k p (places found d.log.pending) is.placed a.placed.places).1 in
    let head : IsHead shape k p.len = record { is_key = is_key; short = lies.short } in
    let stands = value_found shape (page_at flash) k p v a.index.logs.is_shape head (λ page bytes whole. (a.is_flash.full page bytes whole).0) is.there.1 in
    let own_head : IsHead shape k (length v) = subst (λ n. IsHead shape k n) (sym stands.0) head in
    record {
      value = v;
      is_there = is.there.2;
      size = stands.0;
      short = lies.short;
      front = λ n few. record { is_head = own_head; long = (let e = stands.0 in omega (arith, few, e)); stored = stands.1 };
    }

-- ---- answers

pub same_early : (spaces : ℕ) (shape : Shape) (r : Request) (v : List ℕ) → early spaces shape (command_of r v) ≡ early spaces shape (command_of r [])
same_early spaces shape r v = elim (op_of r.opcode) as (λ o. fault_of spaces shape (command_of r v) o ≡ fault_of spaces shape (command_of r []) o) [ None ↦ refl | Some k ↦ refl ]

module _ (shape : Shape) (terms : Terms) (m : Map) (c : Command) (passed : early (length terms.limits) shape c ≡ None) where
  -- the keys of its namespace, and the limit
  abbrev part : Map
  part = in_space c.namespace m

  abbrev most : ℕ
  most = limit_of terms.limits c.namespace

  pub unread_step : Step shape terms m c (refusal 0x88) m
  unread_step = inr (record { not_early = passed; replied = refl; leaves = refl })

  -- how many pages it may read
  pub most_there : (s : Sight) (v : List ℕ) → get m (key c) ≡ Some v → most_unheld_reads shape terms s m c ≡ 4 - levels_held s + fetched shape (min (length v) c.size)
  most_there s v there = λ i. most_reads_beyond shape (levels_held s) c (passed i) (there i)

  pub most_least : (s : Sight) → 4 - levels_held s ≤ most_unheld_reads shape terms s m c
  most_least s = subst (λ e. 4 - levels_held s ≤ most_reads_beyond shape (levels_held s) c e (get m (key c))) (sym passed) (by_value (get m (key c)))
    where
      by_value : (o : Option (List ℕ)) → 4 - levels_held s ≤ most_reads_beyond shape (levels_held s) c None o
      by_value None = omega arith
      by_value (Some v) = omega arith

  -- its key is of its namespace
  pub own_value : get part (key c) ≡ get m (key c)
  own_value = get_own c.namespace m (take c.key_len c.key_bytes)

  pub served : (k : Opcode) (own : List ℕ) (a : Reply) (left : Map) → length own ≡ 11 → op_of c.opcode ≡ Some k → late_of shape most part c (Some k) ≡ None → effect m c (Some k) ≡ left
      → a ≡ reply_of shape most terms.frames part own c (Some k) → Step shape terms m c a left
  served k own a left eleven is late leaves answer =
      let s = serves shape terms m own c k is passed late in
      inl (record { own = own; eleven = eleven; replied = answer ∙ sym s.replied; leaves = sym (s.leaves ∙ leaves) })

  pub refused_step : (k : Opcode) (status : ℕ) → op_of c.opcode ≡ Some k → late_of shape most part c (Some k) ≡ Some status → Step shape terms m c (refusal status) m
  refused_step k status is late =
      let s = refuses_late shape terms m eleven c k status is passed late in
      inl (record { own = eleven; eleven = refl; replied = sym s.replied; leaves = sym s.leaves })

  pub report_step : (here : InSpace) (n : Counts) (bytes : List ℕ) → c.opcode ≡ 0xC2 → CountsMap shape terms c.namespace m here n → bytes ≡ report_of here n → Step shape terms m c (success 0 bytes) m
  report_step here n bytes is told same =
      let more : List ℕ = n.leased ∷ n.active ∷ n.frozen ∷ n.run1 ∷ n.run2 ∷ n.run3 ∷ n.run4 ∷ n.epoch ∷ n.blocks ∷ n.ready ∷ n.merge ∷ [] in
      served Report more (success 0 bytes) m refl (ap op_of is) refl refl
      (ap (success 0) same ∙ (λ i. success 0 (flat_map u32 (told.live_is i ∷ told.limit_is i ∷ told.keys_is i ∷ told.pinned_is i ∷ told.frames_is i ∷ more))))

  -- a command of this kind asks whether its key exists
  abbrev AsksKey : Opcode → Type 0
  AsksKey k = late_of shape most part c (Some k) ≡ check (is_some (get part (key c))) 0x87

  pub key_there : (k : Opcode) (v : List ℕ) → AsksKey k → get m (key c) ≡ Some v → late_of shape most part c (Some k) ≡ None
  key_there k v asks there = asks ∙ ap (λ o. check (is_some o) 0x87) (own_value ∙ there)

  pub key_missing : (k : Opcode) → AsksKey k → op_of c.opcode ≡ Some k → get m (key c) ≡ None → Step shape terms m c (refusal 0x87) m
  key_missing k asks is missing = refused_step k 0x87 is (asks ∙ ap (λ o. check (is_some o) 0x87) (own_value ∙ missing))

  pub retrieve_there : (v bytes : List ℕ) (len : ℕ) → c.opcode ≡ 0x02 → get m (key c) ≡ Some v → length v ≡ len → bytes ≡ take c.size v → Step shape terms m c (success len bytes) m
  retrieve_there v bytes len is there size same =
      served Retrieve eleven (success len bytes) m refl (ap op_of is) (key_there Retrieve v refl there) refl
      ((λ i. success (sym size i) (same i)) ∙ ap (λ o. success (length (unwrap_or o [])) (take c.size (unwrap_or o []))) (sym (own_value ∙ there)))

-- ---- pages of a value

pub few_fetched : (shape : Shape) (n : ℕ) → IsShape shape → n ≤ greatest shape → fetched shape n ≤ 64
few_fetched shape n is short =
    let few = fetched_charge shape n in
    let most = charge_most shape n is short in
    let block = is.block_most in
    omega (arith, few, most, block)

-- ---- the answers of commands that look a key up

pub ok_sound : ◌≡◌ {A = ℕ} 0 0x88 → ⊥
ok_sound e = cc

pub missing_sound : ◌≡◌ {A = ℕ} 0x87 0x88 → ⊥
missing_sound e = omega (arith, e)

-- the value that a lookup found
pub value_of : (d : Parts) (old : BoardState) (a : DriveOnFlash d old.shape old.pages) (k : Key) (p : Place) → IsKey k → Looks d old.pages k (Some p) → ValueThere d.log.shape old.pages a.all k p
value_of d old a k p is_key looks = value_there (settled_parts d) old.pages a.top a.found a.without a.all k p is_key (own d old a) (looked d old a k (Some p) looks)

-- the outcome of a command that did not stop the drive
abbrev told : ℕ → ℕ → ℕ → ℕ → Outcome
told status result len reads = record { status = status; result = result; data_len = len; reads = reads; stopped = false }

module _ {d d' : Parts} {old : BoardState} {r : Request} (s : IsServable d old r) (same : d' ≡ d)
    (unheld : most_looks d + d.levels.pinned ≤ 4) (new : BoardState) (v into : List ℕ) where
  pub passes : early (length (drive_limits d)) d.log.shape (command_of r v) ≡ None
  passes = same_early (length (drive_limits d)) d.log.shape r v ∙ s.passed

  -- the pinned levels are held
  held_least : pinned d.log.shape (frames_of d) ≤ levels_held (sight_of d)
  held_least = let same = (own d old s.agrees).index.levels_pinned in omega (arith, unheld, same)

  -- the step on the map of the drive, and how many pages may be read
  abbrev Allows : Reply → ℕ → Type 0
  Allows reply reads = Step d.log.shape (terms_of d) s.agrees.all (command_of r v) reply s.agrees.all × (reads ≤ most_unheld_reads d.log.shape (terms_of d) (sight_of d) s.agrees.all (command_of r v))

  on_all : (reply : Reply) (reads : ℕ) → Allows reply reads → AnswersAll old (sight_of d) (command_of r v) reply reads
  on_all reply reads here =
      for_its_map d old s.agrees (λ x f m. Step x f m (command_of r v) reply m × ReadsWithin x f (sight_of d) m (command_of r v) reads)
      (here.0, within_both d.log.shape (terms_of d) (sight_of d) s.agrees.all (command_of r v) reads held_least (λ _. here.1))

  -- the drive and the pages of the board are unchanged
  ended : (o x : Outcome) → o ≡ x → x.stopped ≡ false → new.pages ≡ old.pages
      → Does old new (sight_of d) (sight_of d) (command_of r v) (shown x into) x.reads x.stopped → Executes d d' old new (command_of r v) o into o.reads
  ended o x is runs pages does =
      executes_quiet d d' old new r (command_of r v) o into o.reads s same pages (ap (λ (y : Outcome). y.stopped) is ∙ runs)
      (subst (λ (y : Outcome). Does old new (sight_of d) (sight_of d') (command_of r v) (shown y into) y.reads y.stopped) (sym is)
      (subst (λ (e : Parts). Does old new (sight_of d) (sight_of e) (command_of r v) (shown x into) x.reads x.stopped) (sym same) does))

  by_reads : (o : Outcome) (status result len reads most : ℕ) → o ≡ told status result len reads → status ≢ 0x88 → ReadsOnly old new most → reads ≡ new.reads - old.reads
      → Allows (shown (told status result len reads) into) reads → Executes d d' old new (command_of r v) o into o.reads
  by_reads o status result len reads most is sound made count here =
      ended o (told status result len reads) is refl (ap (λ (b : BoardState). b.pages) made.board)
      (does_reads old new (sight_of d) (command_of r v) (shown (told status result len reads) into) most reads made count sound (on_all (shown (told status result len reads) into) reads here))

  by_unread : (o : Outcome) (reads most : ℕ) → o ≡ told 0x88 0 0 reads → old.read_faults ≤ last_count → ReadsFailing old new most → reads ≡ new.reads - old.reads
      → reads ≤ most_unheld_reads d.log.shape (terms_of d) (sight_of d) s.agrees.all (command_of r v) → Executes d d' old new (command_of r v) o into o.reads
  by_unread o reads most is faults made count bound =
      ended o (told 0x88 0 0 reads) is refl (ap (λ (b : BoardState). b.pages) made.board)
      (does_unread old new (sight_of d) (command_of r v) most reads faults made count
      (on_all (refusal 0x88) reads (unread_step d.log.shape (terms_of d) s.agrees.all (command_of r v) passes, bound)))

  -- a lookup whose read failed
  pub unread_look : (o : Outcome) (reads : ℕ) → o ≡ told 0x88 0 0 reads → old.read_faults ≤ last_count
      → ReadsFailing old new (most_looks d) → reads ≡ new.reads - old.reads → Executes d d' old new (command_of r v) o into o.reads
  unread_look o reads is faults made count =
      let least = most_least d.log.shape (terms_of d) s.agrees.all (command_of r v) passes (sight_of d) in
      let within = made.within in
      by_unread o reads (most_looks d) is faults made count (omega (arith, least, within, count))

  -- one after which nothing more was read
  by_look : (o : Outcome) (status reads : ℕ) → o ≡ told status 0 0 reads → status ≢ 0x88 → ReadsOnly old new (most_looks d) → reads ≡ new.reads - old.reads
      → Step d.log.shape (terms_of d) s.agrees.all (command_of r v) (refusal status) s.agrees.all → Executes d d' old new (command_of r v) o into o.reads
  by_look o status reads is sound made count step =
      let least = most_least d.log.shape (terms_of d) s.agrees.all (command_of r v) passes (sight_of d) in
      let within = made.within in
      by_reads o status 0 0 reads (most_looks d) is sound made count (step, omega (arith, least, within, count))

  pub exist_found : (o : Outcome) (reads : ℕ) (k : Key) (p : Place) → r.opcode ≡ 0x14 → k ≡ key (command_of r v) → Looks d old.pages k (Some p)
      → o ≡ told 0 0 0 reads → ReadsOnly old new (most_looks d) → reads ≡ new.reads - old.reads → Executes d d' old new (command_of r v) o into o.reads
  exist_found o reads k p op named looks is made count =
      let there = (looked d old s.agrees k (Some p) looks).there in
      let late = key_there d.log.shape (terms_of d) s.agrees.all (command_of r v) passes Exist there.0 refl (subst (λ q. get s.agrees.all q ≡ Some there.0) named there.2) in
      by_look o 0 reads is ok_sound made count (served d.log.shape (terms_of d) s.agrees.all (command_of r v) passes Exist eleven (success 0 []) s.agrees.all refl (ap op_of op) late refl refl)

  pub none_found : (kind : Opcode) (o : Outcome) (reads : ℕ) (k : Key) → AsksKey d.log.shape (terms_of d) s.agrees.all (command_of r v) passes kind → op_of r.opcode ≡ Some kind
      → k ≡ key (command_of r v) → Looks d old.pages k None → o ≡ told 0x87 0 0 reads → ReadsOnly old new (most_looks d) → reads ≡ new.reads - old.reads
      → Executes d d' old new (command_of r v) o into o.reads
  none_found kind o reads k asks op named looks is made count =
      let missing = subst (λ q. get s.agrees.all q ≡ None) named (looked d old s.agrees k None looks).there in
      by_look o 0x87 reads is missing_sound made count (key_missing d.log.shape (terms_of d) s.agrees.all (command_of r v) passes kind asks op missing)

-- ---- a value that is handed over

-- the lookup of a Retrieve found a value, of which this much is handed over
pub record Handed (d e : Parts) (old mid : BoardState) (r : Request) (k : Key) (p : Place) (n : ℕ) : Type 0 where
  pub servable : IsServable d old r
  pub is_key : IsKey k
  pub named : k ≡ key (command_of r [])
  pub looks : Looks d old.pages k (Some p)
  pub size : n ≡ min p.len r.size
  pub same : e ≡ d
  pub pages : mid.pages ≡ old.pages
  pub reads : ReadsOnly old mid (most_looks d)

module _ {d e : Parts} {old mid : BoardState} {r : Request} {k : Key} {p : Place} {n : ℕ} (h : Handed d e old mid r k p n) where
  there : ValueThere d.log.shape old.pages h.servable.agrees.all k p
  there = value_of d old h.servable.agrees k p h.is_key h.looks

  -- its pages, on the flash after the lookup
  front_then : (q : Key) (w : List ℕ) → IsFront d.log.shape old.pages p.page n q w → IsFront e.log.shape mid.pages p.page n q w
  front_then q w is = subst (λ x. IsFront x.log.shape mid.pages p.page n q w) (sym h.same) (subst (λ f. IsFront d.log.shape f p.page n q w) (sym h.pages) is)

  pub front_of : (q : Key) × (w : List ℕ) × IsFront e.log.shape mid.pages p.page n q w
  front_of = let is = h.size in (k, there.value, front_then k there.value (there.front n (omega (arith, is))))

  pub room_of : (room : ℕ) → greatest d.log.shape ≤ room → n ≤ room
  room_of room all = let short = there.short in let is = h.size in omega (arith, is, short, all)

  -- the reads are few
  pub few_of : most_looks d + fetched d.log.shape n ≤ 68
  few_of =
      let short = there.short in
      let is = h.size in
      let most = few_fetched d.log.shape n (own d old h.servable.agrees).index.logs.is_shape (omega (arith, is, short)) in
      omega (arith, most)

  module _ (new : BoardState) where
    pub value_reads : new ≡ after_reads (fetched e.log.shape n) mid → ReadsOnly old new (most_looks d + fetched d.log.shape n)
    value_reads made = reads_more old mid new (most_looks d) (fetched d.log.shape n) h.reads (subst (λ x. new ≡ after_reads (fetched x.log.shape n) mid) h.same made)

    pub value_breaks : ReadsFailed mid new p.page (fetched e.log.shape n) → ReadsFailing old new (most_looks d + fetched d.log.shape n)
    value_breaks broken =
        let f = subst (λ x. ReadsFailed mid new p.page (fetched x.log.shape n)) h.same broken in
        reads_break old mid new (most_looks d) f.made (fetched d.log.shape n) (p.page + f.made) h.reads f.within f.failed

    module _ (f : Parts) (same : f ≡ d) (unheld : most_looks d + d.levels.pinned ≤ 4)
        (v into : List ℕ) (o : Outcome) (reads : ℕ) (count : reads ≡ new.reads - old.reads) where
      its_value : get h.servable.agrees.all (key (command_of r v)) ≡ Some there.value
      its_value = subst (λ q. get h.servable.agrees.all q ≡ Some there.value) h.named there.is_there

      -- how much may be read
      most_found : most_unheld_reads d.log.shape (terms_of d) (sight_of d) h.servable.agrees.all (command_of r v) ≡ most_looks d + fetched d.log.shape n
      most_found =
          most_there d.log.shape (terms_of d) h.servable.agrees.all (command_of r v) (passes h.servable same unheld new v into) (sight_of d) there.value its_value
          ∙ ap (λ k. most_looks d + fetched d.log.shape k) (ap (λ x. min x r.size) there.size ∙ sym h.size)

      pub retrieve_found : r.opcode ≡ 0x02 → ((q : Key) (w : List ℕ) → IsFront e.log.shape mid.pages p.page n q w → take n into ≡ take n w)
          → o ≡ told 0 p.len n reads → new ≡ after_reads (fetched e.log.shape n) mid → Executes d f old new (command_of r v) o into o.reads
      retrieve_found op filled is after =
          let made = value_reads after in
          let w = there.value in
          let size = h.size in
          let n_is : n ≡ min r.size (length w) = (let e = there.size in omega (arith, size, e)) in
          let bytes : take n into ≡ take r.size w = filled k w (front_then k w (there.front n (omega (arith, size)))) ∙ (ap (λ (x : ℕ). take x w) n_is ∙ take_min r.size w) in
          let most = most_found in
          let within = made.within in
          by_reads h.servable same unheld new v into o 0 p.len n reads (most_looks d + fetched d.log.shape n) is ok_sound made count (
            retrieve_there d.log.shape (terms_of d) h.servable.agrees.all (command_of r v) (passes h.servable same unheld new v into) w (take n into) p.len op its_value there.size bytes,
            omega (arith, most, within, count),
          )

      pub unread_value : o ≡ told 0x88 0 0 reads → old.read_faults ≤ last_count → ReadsFailed mid new p.page (fetched e.log.shape n) → Executes d f old new (command_of r v) o into o.reads
      unread_value is faults broken =
          let made = value_breaks broken in
          let most = most_found in
          let within = made.within in
          by_unread h.servable same unheld new v into o reads (most_looks d + fetched d.log.shape n) is faults made count (omega (arith, most, within, count))
