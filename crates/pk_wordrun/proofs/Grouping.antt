-- Commands that are committed in groups: what was kept is kept.
use Rattle.std.proofs.Common.{◌≡◌, ◌≢◌, inl, inr, ℕ, ◌+◌, ◌≤◌, ◌<◌, List, [], ◌∷◌, ◌++◌, Option, Ok, refl, sym, ap, subst, ◌∙◌, arith, append-nil, replicate}
use Rattle.std.proofs.lemmas.Fn.{FoldsTo-push}
use Rattle.pk_base.{specs.Shape.Shape, specs.Page.Flash, specs.Entry.Entry, specs.Mark.all_posted, specs.Map.Map}
use Rattle.pk_nvme.{specs.Command.Command, specs.Reply.Reply}
use Rattle.pk_nand.{specs.BoardState.BoardState, specs.Calls.Rose, specs.Effects.OnlyFlash, proofs.Effects.only_then}
use Rattle.pk_model.{specs.Answer.reply, specs.Answer.map_after, specs.Crashes.CrashFinds, specs.Crashes.commit, specs.Crashes.command, specs.Growth.Reaches, specs.Growth.Goes, specs.Wear.roots}
use Rattle.pk_model.{specs.Kept.Kept, specs.Kept.AtMost, specs.Kept.rise, specs.Reading.reading, specs.Reading.Holds, specs.Run.Exchange, specs.Run.commands, specs.Run.faults}
use Rattle.pk_model.proofs.Growing.{weaken, at_end, Reaches-then, Goes-then, Limited, Reaches-limited, Goes-limited}
use Rattle.pk_model.specs.Spaces.{Terms, limits_at}
use Rattle.pk_call.{specs.Sight.Sight, specs.Call.KeepsMap, specs.Call.CallReaches, specs.Call.CallGoes, specs.Drive.HoldsMap, specs.Exec.Executed, specs.Exec.ExecStands, specs.Exec.most_installs}
use Rattle.pk_call.specs.Meter.{Meter, Metered, MeteredAll, meter, reads_after}
use Rattle.pk_serve.{specs.Serving.StepWithin, proofs.Answering.reply_other, proofs.Answering.answers, proofs.Limiting.limits_on, proofs.Limiting.limits_held}
use Rattle.pk_serve.proofs.Counting.{at_most-zero, at_most-more, at_most-one, commands-push, faults-one}
use Rattle.pk_port.{specs.Asking.KeptSilently, specs.Asking.Asked, proofs.Growing.few_more, proofs.Growing.few_same, proofs.Growing.silent-more, proofs.Growing.asked-none}
use Rattle.pk_wordrun.proofs.Keeping.{Kept-front, Goes-weaken}
use Rattle.pk_wordrun.specs.Grouped.{exchange, Grouped, StoppedIn, KeepsGroup, AddsToGroup, StopsGroup}

module _ (shape : Shape) (terms : Terms) (start : Map) (a b : BoardState) (drive : Sight) (all : List Exchange) (w : Grouped shape terms start a b drive all) where
  abbrev now : Option ℕ
  now = rise a.read_faults b.read_faults

  -- what is there now is kept, and no byte was given out
  present : KeptSilently shape terms start (commands all) now b.pages (all_posted w.reached.0)
  present = at_end w.reached.0 a b (KeptSilently shape terms start (commands all) now) w.reached.1

  -- a flash that holds what this one holds, within the same limits
  kept_same : (f : Flash) → reading shape f [] ≡ reading shape b.pages [] → limits_at shape f ≡ limits_at shape b.pages → Kept shape terms start (commands all) now [] f
  kept_same f e limited =
      let k = present.1 in
      Kept-front shape terms start (commands all) now f k.served k.unserved k.map_left k.from_front k.ran (e ∙ k.held) (limited ∙ k.same_limits) k.few_faults

  module _ (later : ℕ) (up : b.read_faults ≤ later) where
    abbrev bound : Option ℕ
    bound = rise a.read_faults later

    few_later : AtMost bound (faults all)
    few_later = at_most-more a.read_faults b.read_faults later (faults all) up w.few

    -- what is kept of these commands is kept of more
    with_more : (more : List Command) (f : Flash) → Kept shape terms start (commands all) now [] f → Kept shape terms start (commands all ++ more) bound [] f
    with_more more f k = (silent-more shape terms start (commands all) more now bound (λ n h. at_most-more a.read_faults b.read_faults later n up h) f [] (refl, k)).1

    -- a flash that holds all that was served
    kept_all : (more : List Command) (f : Flash) → reading shape f [] ≡ Ok w.left → limits_at shape f ≡ limits_at shape b.pages → Kept shape terms start (commands all ++ more) bound [] f
    kept_all more f e limited = Kept-front shape terms start (commands all ++ more) bound f all more w.left refl w.ran e (limited ∙ w.stands.limits_is) few_later

    -- a flash that holds the map after one more command
    kept_next : (c : Command) (f : Flash) → reading shape f [] ≡ Ok (map_after shape terms.limits w.left c) → limits_at shape f ≡ limits_at shape b.pages
        → Kept shape terms start (commands all ++ c ∷ []) bound [] f
    kept_next c f e limited =
        let x : Exchange = exchange c (reply shape terms w.left (replicate 11 0) c) 0 in
        let other : faults (x ∷ []) ≡ 0 = elim (faults-one x) [ inl good ↦ good.1 | inr bad ↦ absurd (reply_other shape terms w.left (replicate 11 0) c bad.0) ] in
        Kept-front shape terms start (commands all ++ c ∷ []) bound f (all ++ x ∷ []) [] (map_after shape terms.limits w.left c) (append-nil (commands (all ++ x ∷ [])) ∙ commands-push all x)
        (FoldsTo-push (StepWithin shape terms) start all w.left x (map_after shape terms.limits w.left c) w.ran (inl (answers shape terms w.left c), λ _. omega arith)) e
        (limited ∙ w.stands.limits_is) (few_more bound all x 0 other (few_same bound all few_later))

    -- every cut of one more command
    command_cut : (c : Command) (f : Flash) (q : List ℕ) → Limited shape b (CrashFinds shape (command terms.limits c) b.pages w.left) f q
        → KeptSilently shape terms start (commands all ++ c ∷ []) bound f (all_posted w.reached.0 ++ q)
    command_cut c f q cut = (
      ap (λ t. t ++ q) present.0 ∙ cut.0.0,
      elim cut.0.1 [
        | inl same ↦ with_more (c ∷ []) f (kept_same f same cut.1)
        | inr more ↦ elim more [ inl held ↦ kept_all (c ∷ []) f held cut.1 | inr next ↦ kept_next c f next cut.1 ]
      ],
    )

    -- every cut of a commit
    commit_cut : (f : Flash) (q : List ℕ) → Limited shape b (CrashFinds shape commit b.pages w.left) f q → KeptSilently shape terms start (commands all ++ []) bound f (all_posted w.reached.0 ++ q)
    commit_cut f q cut = (
      ap (λ t. t ++ q) present.0 ∙ cut.0.0,
      elim cut.0.1 [ inl same ↦ with_more [] f (kept_same f same cut.1) | inr held ↦ kept_all [] f held cut.1 ],
    )

    -- what was kept so far, with more commands
    abbrev before : (more : List Command) → Reaches shape a b (KeptSilently shape terms start (commands all ++ more) bound)
    before more = (
      w.reached.0,
      weaken w.reached.0 a b (KeptSilently shape terms start (commands all) now) (KeptSilently shape terms start (commands all ++ more) bound)
          (silent-more shape terms start (commands all) more now bound (λ n h. at_most-more a.read_faults b.read_faults later n up h)) w.reached.1,
      w.reached.2,
    )

  module _ (c : BoardState) (up : b.read_faults ≤ c.read_faults) where
    abbrev kept_then : List Command → Flash → List ℕ → Type 0
    kept_then more = KeptSilently shape terms start (commands all ++ more) (rise a.read_faults c.read_faults)

    -- the marks so far, and those of a call whose cuts are kept
    reaches_more : (more : List Command) (P : Flash → List ℕ → Type 0)
        → ((f : Flash) (q : List ℕ) → Limited shape b P f q → kept_then more f (all_posted w.reached.0 ++ q)) → Reaches shape b c P → Reaches shape a c (kept_then more)
    reaches_more more P cuts reached =
        let so_far = before c.read_faults up more in
        Reaches-then shape so_far.0 a b (kept_then more) w.shape_is so_far.1 so_far.2 c (Limited shape b P) cuts (Reaches-limited shape b c P w.stands.shape_is reached)

    -- the same of a call that stopped the drive
    stopped_more : (more : List Command) (P : Flash → List ℕ → Type 0) → ((f : Flash) (q : List ℕ) → Limited shape b P f q → kept_then more f (all_posted w.reached.0 ++ q)) → Goes shape b c P
        → Rose b.stop_faults c.stop_faults → OnlyFlash b c → StoppedIn shape terms start a c (commands all ++ more)
    stopped_more more P cuts went stop rest =
        let so_far = before c.read_faults up more in
        let R : ℕ → Type 0 = λ n. Rose n c.stop_faults in
        record {
          kept = Goes-then shape so_far.0 a b (kept_then more) w.shape_is so_far.1 so_far.2 c (Limited shape b P) cuts (Goes-limited shape b c P w.stands.shape_is went);
          stop = subst R w.no_stop stop;
          rest = only_then a b c w.rest rest;
        }

    -- one more command was served
    pub grouped_next : (e : Sight) (cmd : Command) (rep : Reply) (reads : ℕ)
        → Reaches shape b c (CrashFinds shape (command terms.limits cmd) b.pages w.left) → Executed shape terms b drive c e w.left cmd rep reads → OnlyFlash b c
        → (rep.status ≡ 0x88 → Rose b.read_faults c.read_faults) → (rep.status ≢ 0x88 → c.read_faults ≡ b.read_faults) → c.stop_faults ≡ b.stop_faults → c.reads ≡ reads_after b.reads reads
        → roots b < 9223372036854775808 → roots c ≤ roots b + most_installs cmd.opcode cmd.size → Grouped shape terms start a c e (all ++ exchange cmd rep reads ∷ [])
    grouped_next e cmd rep reads reached done rest unread sound no_stop read unworn few_roots =
        let x : Exchange = exchange cmd rep reads in
        let n = rise a.read_faults c.read_faults in
        let R : List Command → Type 0 = λ l. Reaches shape a c (KeptSilently shape terms start l n) in
        record {
          left = done.left;
          ran = FoldsTo-push (StepWithin shape terms) start all w.left x done.left w.ran (done.stepped, done.bounded);
          few = elim (faults-one x) [
            | inl good ↦ few_more n all x 0 good.1 (few_same n all (few_later c.read_faults up))
            | inr bad ↦ few_more n all x 1 bad.1 (at_most-one a.read_faults b.read_faults c.read_faults (faults all) w.rose (unread bad.0) w.few)
          ];
          metered = FoldsTo-push Metered (meter a) all (meter b) x (meter c) w.metered (record { reads = read; failed = unread; sound = sound; unworn = unworn; installs = few_roots });
          stands = done.stands;
          shape_is = w.shape_is;
          reached = subst R (sym (commands-push all x)) (reaches_more (cmd ∷ []) (CrashFinds shape (command terms.limits cmd) b.pages w.left) (command_cut c.read_faults up cmd) reached);
          rose = (let rose = w.rose in omega (arith, up, rose));
          no_stop = no_stop ∙ w.no_stop;
          rest = only_then a b c w.rest rest;
        }

    -- one more command stopped the drive
    pub stopped_next : (cmd : Command) → Goes shape b c (CrashFinds shape (command terms.limits cmd) b.pages w.left)
        → Rose b.stop_faults c.stop_faults → OnlyFlash b c → StoppedIn shape terms start a c (commands all ++ cmd ∷ [])
    stopped_next cmd went stop rest = stopped_more (cmd ∷ []) (CrashFinds shape (command terms.limits cmd) b.pages w.left) (command_cut c.read_faults up cmd) went stop rest

    -- what was pending was committed
    pub grouped_commit : (e : Sight) → Reaches shape b c (CrashFinds shape commit b.pages w.left) → HoldsMap shape terms c e w.left → OnlyFlash b c
        → c.read_faults ≡ b.read_faults → c.stop_faults ≡ b.stop_faults → c.reads ≡ b.reads → roots c ≡ roots b → Grouped shape terms start a c e all
    grouped_commit e reached stands rest same_faults no_stop read same_roots =
        let n = rise a.read_faults c.read_faults in
        let R : List Command → Type 0 = λ l. Reaches shape a c (KeptSilently shape terms start l n) in
        let same : meter b ≡ meter c = λ k. record { reads = sym read k; read_faults = sym same_faults k; roots = sym same_roots k } in
        let M : Meter → Type 0 = λ t. MeteredAll (meter a) all t in
        record {
          left = w.left;
          ran = w.ran;
          few = few_later c.read_faults up;
          metered = subst M same w.metered;
          stands = stands;
          shape_is = w.shape_is;
          reached = subst R (append-nil (commands all)) (reaches_more [] (CrashFinds shape commit b.pages w.left) (commit_cut c.read_faults up) reached);
          rose = (let rose = w.rose in omega (arith, up, rose));
          no_stop = no_stop ∙ w.no_stop;
          rest = only_then a b c w.rest rest;
        }

    -- a commit stopped the drive
    pub stopped_commit : Goes shape b c (CrashFinds shape commit b.pages w.left) → Rose b.stop_faults c.stop_faults → OnlyFlash b c → StoppedIn shape terms start a c (commands all ++ [])
    stopped_commit went stop rest = stopped_more [] (CrashFinds shape commit b.pages w.left) (commit_cut c.read_faults up) went stop rest

  -- where nothing is pending the flash holds the map
  pub grouped_asked : drive.pending ≡ [] → (cs : List Command) → commands all ≡ cs → (w' : Asked shape terms start a b cs) × (w'.answered.all ≡ all)
  grouped_asked none cs are =
      let M : List Entry → Type 0 = λ p. reading shape b.pages p ≡ Ok w.left in
      let R : List Command → Type 0 = λ l. Reaches shape a b (KeptSilently shape terms start l now) in (
        record {
          left = w.left;
          answered = record { all = all; are = are; ran = w.ran; few = w.few; metered = w.metered };
          held = subst M none w.stands.map_is;
          same_limits = w.stands.limits_is;
          shape_is = w.shape_is;
          reached = subst R are w.reached;
          rose = w.rose;
          no_stop = w.no_stop;
          rest = w.rest;
        },
        refl,
      )

-- nothing was served yet
pub grouped_none : (shape : Shape) (terms : Terms) (start : Map) (a : BoardState) (drive : Sight)
    → HoldsMap shape terms a drive start → Holds shape a.pages start → Grouped shape terms start a a drive []
grouped_none shape terms start a drive stands holds =
    let w = asked-none shape terms start a stands.shape_is holds stands.limits_is in
    record {
      left = start;
      ran = refl;
      few = at_most-zero (rise a.read_faults a.read_faults);
      metered = refl;
      stands = stands;
      shape_is = stands.shape_is;
      reached = w.reached;
      rose = omega arith;
      no_stop = refl;
      rest = refl;
    }

-- ---- calls of a drive

module _ (b c : BoardState) (d : Sight) (rest : OnlyFlash b c) where
  pub keeps_commit : (e : Sight) → CallReaches b c d commit → KeepsMap b c d e → c.read_faults ≡ b.read_faults
      → c.stop_faults ≡ b.stop_faults → c.reads ≡ b.reads → roots c ≡ roots b → KeepsGroup b c d e
  keeps_commit e reaches stands same no_stop read roots_same shape terms start a all w =
      grouped_commit shape terms start a b d all w c (omega (arith, same)) e (reaches shape terms w.left w.stands) (stands shape terms w.left w.stands) rest same no_stop read roots_same

  pub stops_commit : CallGoes b c d commit → c.read_faults ≡ b.read_faults → Rose b.stop_faults c.stop_faults → StopsGroup b c d []
  stops_commit went same stop shape terms start a all w = stopped_commit shape terms start a b d all w c (omega (arith, same)) (went shape terms w.left w.stands) stop rest

  pub adds_next : (e : Sight) (cmd : Command) (rep : Reply) (reads : ℕ) → CallReaches b c d (command (limits_on b) cmd) → ExecStands b c d e cmd rep reads → b.read_faults ≤ c.read_faults
      → (rep.status ≡ 0x88 → Rose b.read_faults c.read_faults) → (rep.status ≢ 0x88 → c.read_faults ≡ b.read_faults) → c.stop_faults ≡ b.stop_faults → c.reads ≡ reads_after b.reads reads
      → roots b < 9223372036854775808 → roots c ≤ roots b + most_installs cmd.opcode cmd.size → AddsToGroup b c d e (exchange cmd rep reads)
  adds_next e cmd rep reads reaches stands up unread sound no_stop read unworn few shape terms start a all w =
      grouped_next shape terms start a b d all w c up e cmd rep reads
      (subst (λ (limits : List ℕ). Reaches shape b c (CrashFinds shape (command limits cmd) b.pages w.left)) (limits_held shape terms b d w.left w.stands) (reaches shape terms w.left w.stands))
      (stands shape terms w.left w.stands) rest unread sound no_stop read unworn few

  pub stops_next : (cmd : Command) → CallGoes b c d (command (limits_on b) cmd) → b.read_faults ≤ c.read_faults → Rose b.stop_faults c.stop_faults → StopsGroup b c d (cmd ∷ [])
  stops_next cmd went up stop shape terms start a all w = stopped_next shape terms start a b d all w c up cmd
      (subst (λ (limits : List ℕ). Goes shape b c (CrashFinds shape (command limits cmd) b.pages w.left)) (limits_held shape terms b d w.left w.stands) (went shape terms w.left w.stands)) stop rest

-- ---- one command between two commits

-- more commands were not served
pub goes_more : (shape : Shape) (terms : Terms) (start : Map) (a c : BoardState) (cs more all : List Command) (n : Option ℕ) → cs ++ more ≡ all
    → Goes shape a c (KeptSilently shape terms start cs n) → Goes shape a c (KeptSilently shape terms start all n)
goes_more shape terms start a c cs more all n is went =
    let G : List Command → Type 0 = λ l. Goes shape a c (KeptSilently shape terms start l n) in
    subst G is (Goes-weaken shape a c (KeptSilently shape terms start cs n) (KeptSilently shape terms start (cs ++ more) n) (silent-more shape terms start cs more n n (λ k h. h)) went)

pub stopped_weaker : (shape : Shape) (terms : Terms) (start : Map) (a c : BoardState) (cs more all : List Command)
    → cs ++ more ≡ all → StoppedIn shape terms start a c cs → StoppedIn shape terms start a c all
stopped_weaker shape terms start a c cs more all is s = record { kept = goes_more shape terms start a c cs more all (rise a.read_faults c.read_faults) is s.kept; stop = s.stop; rest = s.rest }

-- it stopped before the command
pub stops_before : (b c : BoardState) (d : Sight) (cmd : Command) → StopsGroup b c d [] → StopsGroup b c d (cmd ∷ [])
stops_before b c d cmd h shape terms start a all w =
    stopped_weaker shape terms start a c (commands all ++ []) (cmd ∷ []) (commands all ++ cmd ∷ []) (ap (λ l. l ++ cmd ∷ []) (append-nil (commands all))) (h shape terms start a all w)

module _ (b c f : BoardState) (d e : Sight) (keeps : KeepsGroup b c d e) where
  -- it stopped in the command
  pub stops_in : (cmd : Command) → StopsGroup c f e (cmd ∷ []) → StopsGroup b f d (cmd ∷ [])
  stops_in cmd h shape terms start a all w = h shape terms start a all (keeps shape terms start a all w)

  module _ (g : Sight) (x : Exchange) (adds : AddsToGroup c f e g x) (h : BoardState) where
    -- the command was served
    pub adds_all : (i : Sight) → KeepsGroup f h g i → AddsToGroup b h d i x
    adds_all i more shape terms start a all w = more shape terms start a (all ++ x ∷ []) (adds shape terms start a all (keeps shape terms start a all w))

    -- it stopped after the command
    pub stops_after : StopsGroup f h g [] → StopsGroup b h d (x.command ∷ [])
    stops_after more shape terms start a all w =
        let S : List Command → Type 0 = λ l. StoppedIn shape terms start a h l in
        subst S (append-nil (commands (all ++ x ∷ [])) ∙ commands-push all x) (more shape terms start a (all ++ x ∷ []) (adds shape terms start a all (keeps shape terms start a all w)))
