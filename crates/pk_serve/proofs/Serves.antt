-- The steps of serving: what was kept is kept.
use Rattle.std.proofs.Common.{◌≡◌, ◌≢◌, ◌⊎◌, inl, inr, ℕ, suc, ◌+◌, ◌≤◌, ◌<◌, List, [], ◌∷◌, ◌++◌, length, take, Option, Some, None, Ok, refl, sym, ◌∙◌, ap, subst, arith, append_assoc, append-nil}
use Rattle.std.proofs.Common.{replicate}
use Rattle.std.proofs.lemmas.Fn.{FoldsTo-push}
use Rattle.pk_base.{specs.Shape.Shape, specs.Shape.commit_programs, specs.Page.Flash, specs.Mark.Mark, specs.Mark.post, specs.Mark.all_posted, specs.Map.Map}
use Rattle.pk_nvme.{specs.Command.Command, specs.Reply.Reply, specs.Reply.reply_record}
use Rattle.pk_nand.{specs.BoardState.BoardState, specs.BoardState.shape_or_none, specs.Cut.Cut, specs.Calls.Rose, specs.Calls.longer, specs.Operations.after_post, specs.Operations.PostFailed}
use Rattle.pk_nand.{specs.Crash.ReachedBy, proofs.Reaching.Reached-start, proofs.Reaching.Reached-post, proofs.Reaching.Reached-then, proofs.CutLemmas.posted-append, specs.Effects.OnlyFlash}
use Rattle.pk_model.{specs.Answer.reply, specs.Answer.map_after, specs.Run.Exchange, specs.Run.commands, specs.Run.faults, specs.Reading.reading, specs.Kept.AtMost, specs.Kept.rise, specs.Wear.roots}
use Rattle.pk_model.{specs.Growth.GrowsAlong, specs.Growth.Reaches, specs.Growth.Goes, specs.Crashes.CrashFinds, specs.Crashes.commit, specs.Crashes.command}
use Rattle.pk_model.proofs.Growing.{weaken, at_end, grows_behind, Goes-then, GrowsAlong-post, Goes-post_failed, Limited, Goes-limited, cut_limits}
use Rattle.pk_model.{specs.Spaces.Terms, specs.Spaces.limits_at, specs.Run.RunWithin, specs.Run.records}
use Rattle.pk_call.{specs.Sight.Sight, specs.Drive.HoldsMap, specs.Meter.Metered, specs.Meter.meter, specs.Meter.reads_after, specs.Calling.most_calls_of}
use Rattle.pk_call.specs.Exec.{Executed, most_installs}
use Rattle.pk_serve.{specs.Calling.calls_of, specs.Calling.owed, specs.Calling.most_calls_of_all, specs.Answered.Answered, proofs.Calling.owed_most, proofs.Calling.most_calls-append}
use Rattle.pk_serve.{specs.Serving.KeptAt, specs.Serving.Serving, specs.Serving.Cutoff, specs.Serving.Next, specs.Serving.StepWithin, proofs.Answering.reply_other, proofs.Answering.answers}
use Rattle.pk_serve.proofs.Counting.{at_most-zero, at_most-more, at_most-one, commands-push, records-push, faults-push, faults-one}

-- a flash that holds the map after these exchanges, of which a prefix of the records was posted
pub kept-with : (shape : Shape) (terms : Terms) (start : Map) (cs more : List Command) (n : Option ℕ) (f : Flash) (posted unposted : List ℕ) (all : List Exchange) (m : Map)
    → commands all ++ more ≡ cs → RunWithin shape terms start all m → reading shape f [] ≡ Ok m → limits_at shape f ≡ terms.limits
    → posted ++ unposted ≡ records 0 all → AtMost n (faults all) → KeptAt shape terms start cs n f posted
kept-with shape terms start cs more n f posted unposted all m front ran held limited begins few = record {
  served = all;
  unserved = more;
  from_front = front;
  map_left = m;
  ran = ran;
  held = held;
  same_limits = limited;
  unposted = unposted;
  begins = begins;
  few_faults = few;
}

-- nothing was served yet
pub kept-start : (shape : Shape) (terms : Terms) (start : Map) (n : Option ℕ) (f : Flash) → reading shape f [] ≡ Ok start → limits_at shape f ≡ terms.limits → KeptAt shape terms start [] n f []
kept-start shape terms start n f held limited = kept-with shape terms start [] [] n f [] [] [] start refl refl held limited refl (at_most-zero n)

-- more commands, more faults, and a flash that holds the same
kept-moved : (shape : Shape) (terms : Terms) (start : Map) (cs more : List Command) (n later : Option ℕ) → ((k : ℕ) → AtMost n k → AtMost later k)
    → (f g : Flash) → reading shape g [] ≡ reading shape f [] → limits_at shape g ≡ limits_at shape f → (q : List ℕ)
    → KeptAt shape terms start cs n f q → KeptAt shape terms start (cs ++ more) later g q
kept-moved shape terms start cs more n later up f g e limited q k = kept-with shape terms start (cs ++ more) (k.unserved ++ more) later g q k.unposted k.served k.map_left
    (sym (append_assoc (commands k.served) k.unserved more) ∙ ap (λ l. l ++ more) k.from_front) k.ran (e ∙ k.held) (limited ∙ k.same_limits) k.begins (up (faults k.served) k.few_faults)

pub kept-more : (shape : Shape) (terms : Terms) (start : Map) (cs more : List Command) (n later : Option ℕ) → ((k : ℕ) → AtMost n k → AtMost later k)
    → (f : Flash) (q : List ℕ) → KeptAt shape terms start cs n f q → KeptAt shape terms start (cs ++ more) later f q
kept-more shape terms start cs more n later up f = kept-moved shape terms start cs more n later up f f refl refl

-- two consecutive posts
longer-append : (told : Option (List ℕ)) (xs ys : List ℕ) → longer (longer told xs) ys ≡ longer told (xs ++ ys)
longer-append None xs ys = refl
longer-append (Some told) xs ys = ap (λ l. Some l) (append_assoc told xs ys)

-- what was read from one board to another: nothing, or by one more command
abbrev ReadBehind : BoardState → BoardState → List Command → Type 0
ReadBehind b c more = (c.reads ≡ b.reads) ⊎ ((n : ℕ) × (c.reads ≡ reads_after b.reads n) × (more ≢ []))

-- nothing more was posted
none_more : (P : List ℕ → Type 0) (out q : List ℕ) → q ≡ [] → P out → P (out ++ q)
none_more P out q e h = subst P (sym (ap (λ t. out ++ t) e ∙ append-nil out)) h

-- at every cut of a call the limits are those of the board before it
limited_by : (shape : Shape) (b c : BoardState) (P : Flash → List ℕ → Type 0) → b.shape ≡ Some shape → (reached : Reaches shape b c P) → ReachedBy reached.0 b c (Limited shape b P)
limited_by shape b c P has reached = record {
  trail = reached.1.trail;
  posted = reached.1.posted;
  same_shape = reached.1.same_shape;
  cuts = λ f q cut. (reached.1.cuts f q cut, cut_limits shape b.pages reached.0 reached.2 f q (subst (λ s. Cut s b.pages reached.0 f q) (ap shape_or_none has) cut));
  stands = reached.1.stands;
}

-- the bound on faults for a list with one more
pub few_more : (n : Option ℕ) (xs : List Exchange) (x : Exchange) (k : ℕ) → faults (x ∷ []) ≡ k → AtMost n (faults xs + k) → AtMost n (faults (xs ++ x ∷ []))
few_more n xs x k e h = subst (λ f. AtMost n f) (sym (faults-push xs x ∙ ap (λ f. faults xs + f) e)) h

module _ (shape : Shape) (terms : Terms) (start : Map) (a b : BoardState) (drive : Sight) (unposted : List ℕ) (all : List Exchange) (m : Map)
    (w : Serving shape terms start a b drive unposted all m) where
  -- more faults later
  more_faults : (later : ℕ) → b.read_faults ≤ later → (k : ℕ) → AtMost (rise a.read_faults b.read_faults) k → AtMost (rise a.read_faults later) k
  more_faults later up k h = at_most-more a.read_faults b.read_faults later k up h

  -- what exists now is kept
  present : KeptAt shape terms start (commands all) (rise a.read_faults b.read_faults) b.pages (all_posted w.marks)
  present = at_end w.marks a b (KeptAt shape terms start (commands all) (rise a.read_faults b.read_faults)) w.run

  -- ---- a command

  -- a flash that holds what this one holds, or all that was served
  stood : (more : List Command) (later : ℕ) → b.read_faults ≤ later → (f : Flash) → (reading shape f [] ≡ reading shape b.pages []) ⊎ (reading shape f [] ≡ Ok m)
      → limits_at shape f ≡ limits_at shape b.pages → KeptAt shape terms start (commands all ++ more) (rise a.read_faults later) f (all_posted w.marks)
  stood more later up f (inl same) limited = kept-moved shape terms start (commands all) more (rise a.read_faults b.read_faults)
      (rise a.read_faults later) (more_faults later up) b.pages f same limited (all_posted w.marks) present
  stood more later up f (inr held) limited = kept-with shape terms start (commands all ++ more) more (rise a.read_faults later) f (all_posted w.marks) unposted all m
      refl w.ran held (limited ∙ w.stands.limits_is) w.records_are (more_faults later up (faults all) w.few_faults)

  -- a flash that holds the map after one more command
  kept_next : (c : Command) (later : ℕ) → b.read_faults ≤ later → (f : Flash) → reading shape f [] ≡ Ok (map_after shape terms.limits m c) → limits_at shape f ≡ limits_at shape b.pages
      → KeptAt shape terms start (commands all ++ c ∷ []) (rise a.read_faults later) f (all_posted w.marks)
  kept_next c later up f e limited =
      let x : Exchange = record { command = c; reply = reply shape terms m (replicate 11 0) c; reads = 0 } in
      let r : List ℕ = reply_record (suc (length all)) c.cid (reply shape terms m (replicate 11 0) c) 0 in
      kept-with shape terms start (commands all ++ c ∷ []) [] (rise a.read_faults later) f (all_posted w.marks) (unposted ++ r) (all ++ x ∷ []) (map_after shape terms.limits m c)
      (append-nil (commands (all ++ x ∷ [])) ∙ commands-push all x)
      (FoldsTo-push (StepWithin shape terms) start all m x (map_after shape terms.limits m c) w.ran (inl (answers shape terms m c), λ _. omega arith)) e (limited ∙ w.stands.limits_is)
      (sym (append_assoc (all_posted w.marks) unposted r) ∙ (ap (λ t. t ++ r) w.records_are ∙ sym (records-push 0 all x (length all) (omega arith))))
      (elim (faults-one x) [
        | inl good ↦ few_more (rise a.read_faults later) all x 0 good.1 (subst (λ k. AtMost (rise a.read_faults later) k) (omega arith) (more_faults later up (faults all) w.few_faults))
        | inr bad ↦ absurd (reply_other shape terms m (replicate 11 0) c bad.0)
      ])

  -- every cut of a command
  exec_cut : (c : Command) (later : ℕ) → b.read_faults ≤ later → (f : Flash) (q : List ℕ) → Limited shape b (CrashFinds shape (command terms.limits c) b.pages m) f q
      → KeptAt shape terms start (commands all ++ c ∷ []) (rise a.read_faults later) f (all_posted w.marks ++ q)
  exec_cut c later up f q cut =
      none_more (λ t. KeptAt shape terms start (commands all ++ c ∷ []) (rise a.read_faults later) f t) (all_posted w.marks) q cut.0.0 (elim cut.0.1 [
        | inl same ↦ stood (c ∷ []) later up f (inl same) cut.1
        | inr (inl held) ↦ stood (c ∷ []) later up f (inr held) cut.1
        | inr (inr next) ↦ kept_next c later up f next cut.1
      ])

  -- what was kept so far, with more commands and more faults
  before : (more : List Command) (later : ℕ) → b.read_faults ≤ later → ReachedBy w.marks a b (KeptAt shape terms start (commands all ++ more) (rise a.read_faults later))
  before more later up = weaken w.marks a b (KeptAt shape terms start (commands all) (rise a.read_faults b.read_faults)) (KeptAt shape terms start (commands all ++ more) (rise a.read_faults later))
      (kept-more shape terms start (commands all) more (rise a.read_faults b.read_faults) (rise a.read_faults later) (more_faults later up)) w.run

  -- the marks so far, and those of a call whose cuts are kept, with more commands
  extend : (more : List Command) (c : BoardState) (P : Flash → List ℕ → Type 0) → b.read_faults ≤ c.read_faults
      → ((f : Flash) (q : List ℕ) → P f q → KeptAt shape terms start (commands all ++ more) (rise a.read_faults c.read_faults) f (all_posted w.marks ++ q))
      → (ms : List Mark) → ReachedBy ms b c P → ReachedBy (w.marks ++ ms) a c (KeptAt shape terms start (commands all ++ more) (rise a.read_faults c.read_faults))
  extend more c P up kept ms run =
      let K : Flash → List ℕ → Type 0 = KeptAt shape terms start (commands all ++ more) (rise a.read_faults c.read_faults) in
      Reached-then w.marks ms a b c K (before more c.read_faults up) (weaken ms b c P (λ f q. K f (all_posted w.marks ++ q)) kept run)

  silently : (ms : List Mark) → all_posted ms ≡ [] → all_posted (w.marks ++ ms) ≡ all_posted w.marks
  silently ms none = posted-append w.marks ms ∙ (ap (λ t. all_posted w.marks ++ t) none ∙ append-nil (all_posted w.marks))

  grown : (ms : List Mark) → GrowsAlong shape b.pages ms → GrowsAlong shape a.pages (w.marks ++ ms)
  grown ms more = grows_behind shape w.marks a b (KeptAt shape terms start (commands all) (rise a.read_faults b.read_faults)) w.shape_is w.run w.grows ms more

  -- what was answered, if these bytes were posted after it
  answered_by : (c : BoardState) (more : List Command) (out rest : List ℕ) → out ++ rest ≡ unposted → c.posted ≡ longer b.posted out → b.read_faults ≤ c.read_faults → ReadBehind b c more
      → calls_of c ≤ calls_of a + most_calls_of_all shape (commands all ++ take 1 more) → Answered shape terms start a c (commands all ++ more)
  answered_by c more out rest front is up read few_calls = record {
    served = all;
    unserved = more;
    from_front = refl;
    left = m;
    ran = w.ran;
    last = meter b;
    metered = w.metered;
    behind = read;
    up = up;
    few_calls = few_calls;
    posted = all_posted w.marks ++ out;
    unposted = rest;
    begins = append_assoc (all_posted w.marks) out rest ∙ (ap (λ t. all_posted w.marks ++ t) front ∙ w.records_are);
    posted_are = is ∙ (ap (λ o. longer o out) w.run.posted ∙ longer-append a.posted (all_posted w.marks) out);
  }

  extend_went : (more : List Command) (c : BoardState) (P : Flash → List ℕ → Type 0) → b.read_faults ≤ c.read_faults
      → ((f : Flash) (q : List ℕ) → P f q → KeptAt shape terms start (commands all ++ more) (rise a.read_faults c.read_faults) f (all_posted w.marks ++ q))
      → ((f : Flash) (q : List ℕ) → P f q → (rest : List ℕ) × (q ++ rest ≡ unposted)) → ReadBehind b c more → calls_of c ≤ calls_of a + most_calls_of_all shape (commands all ++ take 1 more)
      → Goes shape b c P → Cutoff shape terms start a c (commands all ++ more)
  extend_went more c P up kept fronts read few_calls went =
      let out = all_posted went.0 in
      let front = fronts c.pages out (went.1.cuts c.pages out went.1.stands) in
      record {
        went = Goes-then shape w.marks a b (KeptAt shape terms start (commands all ++ more) (rise a.read_faults c.read_faults)) w.shape_is (before more c.read_faults up) w.grows c P kept went;
        answered = answered_by c more out front.0 front.1 went.1.posted up read few_calls;
      }

  -- the calls of one more command, and of the commit that is owed after it
  calls_next : (c : BoardState) (cmd : Command) (owed_behind : ℕ) → owed_behind ≤ commit_programs
      → calls_of c ≤ calls_of b + most_calls_of shape cmd.opcode cmd.size → calls_of c + owed_behind ≤ calls_of a + most_calls_of_all shape (commands all ++ cmd ∷ [])
  calls_next c cmd owed_behind most few =
      let so_far = w.few_calls in
      let whole = most_calls-append shape (commands all) (cmd ∷ []) in
      omega (arith, most, few, so_far, whole)

  -- a command was served
  pub Serving-exec : (c : BoardState) (e : Sight) (cmd : Command) (rep : Reply) (reads taken : ℕ) → taken ≡ length all
      → Reaches shape b c (CrashFinds shape (command terms.limits cmd) b.pages m) → Executed shape terms b drive c e m cmd rep reads → OnlyFlash b c
      → b.read_faults ≤ c.read_faults → (rep.status ≡ 0x88 → Rose b.read_faults c.read_faults) → (rep.status ≢ 0x88 → c.read_faults ≡ b.read_faults)
      → c.stop_faults ≡ b.stop_faults → c.reads ≡ reads_after b.reads reads → roots b < 9223372036854775808 → roots c ≤ roots b + most_installs cmd.opcode cmd.size
      → calls_of c ≤ calls_of b + most_calls_of shape cmd.opcode cmd.size → Next shape terms start a c e (unposted ++ reply_record (suc taken) cmd.cid rep reads) all m cmd
  Serving-exec c e cmd rep reads taken size reached done rest up unread sound no_stop read unworn few_roots few_calls =
      let x : Exchange = record { command = cmd; reply = rep; reads = reads } in
      let silent : all_posted reached.0 ≡ [] = (at_end reached.0 b c (CrashFinds shape (command terms.limits cmd) b.pages m) reached.1).0 in
      let limited = limited_by shape b c (CrashFinds shape (command terms.limits cmd) b.pages m) w.stands.shape_is reached in
      let more = extend (cmd ∷ []) c (Limited shape b (CrashFinds shape (command terms.limits cmd) b.pages m)) up (exec_cut cmd c.read_faults up) reached.0 limited in
      record {
        x = x;
        is = refl;
        m = done.left;
        step = (done.stepped, done.bounded);
        serving = record {
          ran = FoldsTo-push (StepWithin shape terms) start all m x done.left w.ran (done.stepped, done.bounded);
          stands = done.stands;
          marks = w.marks ++ reached.0;
          run = rw commands-push more;
          grows = grown reached.0 reached.2;
          shape_is = w.shape_is;
          records_are =
              ap (λ t. t ++ (unposted ++ reply_record (suc taken) cmd.cid rep reads)) (silently reached.0 silent)
              ∙ (sym (append_assoc (all_posted w.marks) unposted (reply_record (suc taken) cmd.cid rep reads))
              ∙ (ap (λ t. t ++ reply_record (suc taken) cmd.cid rep reads) w.records_are ∙ sym (records-push 0 all x taken (omega (arith, size)))));
          few_faults = elim (faults-one x) [
            | inl good ↦ few_more (rise a.read_faults c.read_faults) all x 0 good.1
                (subst (λ k. AtMost (rise a.read_faults c.read_faults) k) (omega arith) (more_faults c.read_faults up (faults all) w.few_faults))
            | inr bad ↦ few_more (rise a.read_faults c.read_faults) all x 1 bad.1 (at_most-one a.read_faults b.read_faults c.read_faults (faults all) w.rose (unread bad.0) w.few_faults)
          ];
          rose = omega (arith, w.rose, up);
          metered = FoldsTo-push Metered (meter a) all (meter b) x (meter c) w.metered (record { reads = read; failed = unread; sound = sound; unworn = unworn; installs = few_roots });
          few_calls = rw commands-push (calls_next c cmd (owed e.pending) (owed_most e.pending) few_calls);
          no_faults = record {
            output = ap (λ s. s.out_faults) rest ∙ w.no_faults.output;
            stop = no_stop ∙ w.no_faults.stop;
          };
        };
      }

  -- a command stopped the drive
  pub Cutoff-exec : (c : BoardState) (cmd : Command) → Goes shape b c (CrashFinds shape (command terms.limits cmd) b.pages m)
      → b.read_faults ≤ c.read_faults → (reads : ℕ) → c.reads ≡ reads_after b.reads reads
      → calls_of c ≤ calls_of b + most_calls_of shape cmd.opcode cmd.size → Cutoff shape terms start a c (commands all ++ cmd ∷ [])
  Cutoff-exec c cmd went up reads read few_calls =
      let next = calls_next c cmd 0 (omega arith) few_calls in
      extend_went (cmd ∷ []) c (Limited shape b (CrashFinds shape (command terms.limits cmd) b.pages m)) up (exec_cut cmd c.read_faults up)
      (λ f q cut. (unposted, ap (λ t. t ++ unposted) cut.0.0)) (inr (reads, read, λ e. cc)) (omega (arith, next))
      (Goes-limited shape b c (CrashFinds shape (command terms.limits cmd) b.pages m) w.stands.shape_is went)

  -- ---- a commit

  commit_cut : (later : ℕ) → b.read_faults ≤ later → (f : Flash) (q : List ℕ) → Limited shape b (CrashFinds shape commit b.pages m) f q
      → KeptAt shape terms start (commands all ++ []) (rise a.read_faults later) f (all_posted w.marks ++ q)
  commit_cut later up f q cut = none_more (λ t. KeptAt shape terms start (commands all ++ []) (rise a.read_faults later) f t) (all_posted w.marks) q cut.0.0 (stood [] later up f cut.0.1 cut.1)

  -- the calls of a run that ends here, and a commit that was owed
  calls_here : (c : BoardState) → calls_of c ≤ calls_of b + owed drive.pending → calls_of c ≤ calls_of a + most_calls_of_all shape (commands all ++ [])
  calls_here c few =
      let so_far = w.few_calls in
      let whole = most_calls-append shape (commands all) [] in
      omega (arith, few, so_far, whole)

  -- what was pending is on the flash
  pub Serving-commit : (c : BoardState) (e : Sight) → Reaches shape b c (CrashFinds shape commit b.pages m) → HoldsMap shape terms c e m → OnlyFlash b c
      → c.read_faults ≡ b.read_faults → c.stop_faults ≡ b.stop_faults → c.reads ≡ b.reads → roots c ≡ roots b → calls_of c + owed e.pending ≤ calls_of b + owed drive.pending
      → Serving shape terms start a c e unposted all m
  Serving-commit c e reached stands rest same_reads no_stop read same_roots few_calls =
      let up : b.read_faults ≤ c.read_faults = omega (arith, same_reads) in
      let silent : all_posted reached.0 ≡ [] = (at_end reached.0 b c (CrashFinds shape commit b.pages m) reached.1).0 in
      let limited = limited_by shape b c (CrashFinds shape commit b.pages m) w.stands.shape_is reached in
      let more = extend [] c (Limited shape b (CrashFinds shape commit b.pages m)) up (commit_cut c.read_faults up) reached.0 limited in
      let same : meter b ≡ meter c = λ k. record { reads = sym read k; read_faults = sym same_reads k; roots = sym same_roots k } in
      record {
        ran = w.ran;
        stands = stands;
        marks = w.marks ++ reached.0;
        run = rw append-nil at more;
        grows = grown reached.0 reached.2;
        shape_is = w.shape_is;
        records_are = ap (λ t. t ++ unposted) (silently reached.0 silent) ∙ w.records_are;
        few_faults = more_faults c.read_faults up (faults all) w.few_faults;
        rose = omega (arith, w.rose, up);
        metered = rw same at w.metered;
        few_calls = (let so_far = w.few_calls in omega (arith, so_far, few_calls));
        no_faults = record {
          output = ap (λ s. s.out_faults) rest ∙ w.no_faults.output;
          stop = no_stop ∙ w.no_faults.stop;
        };
      }

  pub Cutoff-commit : (c : BoardState) → Goes shape b c (CrashFinds shape commit b.pages m) → c.read_faults ≡ b.read_faults → c.reads ≡ b.reads → calls_of c ≤ calls_of b + owed drive.pending
      → Cutoff shape terms start a c (commands all)
  Cutoff-commit c went same_reads read few_calls =
      let up : b.read_faults ≤ c.read_faults = omega (arith, same_reads) in
      rw append-nil at
      (extend_went [] c (Limited shape b (CrashFinds shape commit b.pages m)) up (commit_cut c.read_faults up) (λ f q cut. (unposted, ap (λ t. t ++ unposted) cut.0.0)) (inl read)
      (calls_here c few_calls) (Goes-limited shape b c (CrashFinds shape commit b.pages m) w.stands.shape_is went))

  -- ---- a post of a prefix of what is not posted, if nothing is pending

  -- the flash holds the map
  held_now : drive.pending ≡ [] → reading shape b.pages [] ≡ Ok m
  held_now none = rw none at w.stands.map_is

  post_cut : reading shape b.pages [] ≡ Ok m → (bytes behind : List ℕ) → bytes ++ behind ≡ unposted → (out rest : List ℕ) → out ++ rest ≡ bytes
      → KeptAt shape terms start (commands all ++ []) (rise a.read_faults b.read_faults) b.pages (all_posted w.marks ++ out)
  post_cut held bytes behind front out rest is = kept-with shape terms start (commands all ++ []) [] (rise a.read_faults b.read_faults) b.pages (all_posted w.marks ++ out) (rest ++ behind) all m
      refl w.ran held w.stands.limits_is (append_assoc (all_posted w.marks) out (rest ++ behind) ∙ (ap (λ t. all_posted w.marks ++ t) (sym (append_assoc out rest behind)
      ∙ (ap (λ t. t ++ behind) is ∙ front)) ∙ w.records_are)) w.few_faults

  pub Serving-post : (bytes behind : List ℕ) → drive.pending ≡ [] → bytes ++ behind ≡ unposted → Serving shape terms start a (after_post b bytes) drive behind all m
  Serving-post bytes behind none front =
      let P : Flash → List ℕ → Type 0 = λ f q. KeptAt shape terms start (commands all ++ []) (rise a.read_faults b.read_faults) f (all_posted w.marks ++ q) in
      let more = extend [] (after_post b bytes) P (omega arith) (λ f q h. h) (post bytes ∷ []) (Reached-post b bytes P (post_cut (held_now none) bytes behind front)) in
      record {
        ran = w.ran;
        stands = record { shape_is = w.stands.shape_is; frames_is = w.stands.frames_is; limits_is = w.stands.limits_is; map_is = w.stands.map_is };
        marks = w.marks ++ post bytes ∷ [];
        run = rw append-nil at more;
        grows = grown (post bytes ∷ []) (GrowsAlong-post shape b.pages bytes);
        shape_is = w.shape_is;
        records_are = ap (λ t. t ++ behind) (posted-append w.marks (post bytes ∷ []) ∙ ap (λ t. all_posted w.marks ++ t) (append-nil bytes))
            ∙ (append_assoc (all_posted w.marks) bytes behind ∙ (ap (λ t. all_posted w.marks ++ t) front ∙ w.records_are));
        few_faults = w.few_faults;
        rose = w.rose;
        metered = w.metered;
        few_calls = w.few_calls;
        no_faults = record { output = w.no_faults.output; stop = w.no_faults.stop };
      }

  pub Cutoff-post : (c : BoardState) (bytes behind : List ℕ) → drive.pending ≡ [] → bytes ++ behind ≡ unposted → PostFailed b c bytes → Cutoff shape terms start a c (commands all)
  Cutoff-post c bytes behind none front failed =
      let same : c.read_faults ≡ b.read_faults = ap (λ s. s.read_faults) failed.rest in
      let K : Flash → List ℕ → Type 0 = λ f q. KeptAt shape terms start (commands all ++ []) (rise a.read_faults b.read_faults) f (all_posted w.marks ++ q) in
      let P : Flash → List ℕ → Type 0 = λ f q. K f q × ((rest : List ℕ) × (q ++ rest ≡ unposted)) in
      let up : b.read_faults ≤ c.read_faults = omega (arith, same) in
      let N : ℕ → Type 0 = λ n. (f : Flash) (q : List ℕ) → P f q → KeptAt shape terms start (commands all ++ []) (rise a.read_faults n) f (all_posted w.marks ++ q) in
      rw append-nil at
      (extend_went [] c P up (subst N (sym same) (λ f q h. h.0)) (λ f q h. h.1) (inl (ap (λ s. s.reads) failed.rest)) (calls_here c (let none = ap calls_of failed.rest in omega (arith, none)))
      (Goes-post_failed shape b bytes P
      (λ out rest is. (post_cut (held_now none) bytes behind front out rest is, (rest ++ behind, sym (append_assoc out rest behind) ∙ (ap (λ t. t ++ behind) is ∙ front)))) c failed))

  -- ---- calls that leave the flash and the host's bytes

  -- an input that may have failed
  pub Serving-inputs : (left : Option (List ℕ)) (count : ℕ) → Serving shape terms start a (record b { input = left; in_faults = count }) drive unposted all m
  Serving-inputs left count = record {
    ran = w.ran;
    stands = record { shape_is = w.stands.shape_is; frames_is = w.stands.frames_is; limits_is = w.stands.limits_is; map_is = w.stands.map_is };
    marks = w.marks;
    run = record { trail = w.run.trail; posted = w.run.posted; same_shape = w.run.same_shape; cuts = w.run.cuts; stands = w.run.stands };
    grows = w.grows;
    shape_is = w.shape_is;
    records_are = w.records_are;
    few_faults = w.few_faults;
    rose = w.rose;
    metered = w.metered;
    few_calls = w.few_calls;
    no_faults = record { output = w.no_faults.output; stop = w.no_faults.stop };
  }

-- nothing was served yet
pub Serving-start : (shape : Shape) (terms : Terms) (start : Map) (a : BoardState) (drive : Sight)
    → HoldsMap shape terms a drive start → drive.pending ≡ [] → Serving shape terms start a a drive [] [] start
Serving-start shape terms start a drive stands none =
    record {
      ran = refl;
      stands = stands;
      marks = [];
      run = Reached-start a a (KeptAt shape terms start [] (rise a.read_faults a.read_faults)) refl refl refl refl
          (kept-start shape terms start (rise a.read_faults a.read_faults) a.pages (rw none at stands.map_is) stands.limits_is);
      grows = tt;
      shape_is = stands.shape_is;
      records_are = refl;
      few_faults = at_most-zero (rise a.read_faults a.read_faults);
      rose = omega arith;
      metered = refl;
      few_calls = (let nothing = ap owed none in omega (arith, nothing));
      no_faults = record { output = refl; stop = refl };
    }
