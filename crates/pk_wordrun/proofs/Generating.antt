-- A workload, one command after another, and its summary.
use Rattle.std.proofs.Common.{◌≡◌, ℕ, zero, suc, ◌+◌, ◌*◌, ◌%◌, ◌<◌, ◌≤◌, ◌==◌, nat_le, nat_lt, if◌then◌else◌, List, [], ◌∷◌, ◌++◌, length, Option, Some, Ok, Bool, true, false, not, refl, sym, ◌∙◌}
use Rattle.std.proofs.Common.{ap, subst, arith, append-nil, append_assoc, length-append}
use Rattle.std.{specs.FinMap.len, proofs.lemmas.List.length-map, proofs.lemmas.Bool.Decides.nat_tests}
use Rattle.pk_base.{specs.Shape.Shape, specs.Page.Flash as Pages, specs.Entry.Entry, specs.Map.Map, specs.Map.live}
use Rattle.pk_nvme.{specs.Command.Command, specs.Seen.command_of, specs.declared.request.Request.Request}
use Rattle.pk_nvme.specs.declared.opcode.TheConstants.{STORE, RETRIEVE, LIST, DELETE, EXIST}
use Rattle.pk_nand.{specs.BoardState.BoardState, specs.Operations.after_post, specs.Operations.PostFailed}
use Rattle.pk_gen.specs.Workload.{Generator, workload, generator, request_of, value_of, a_of, b_of, c_of, is_store, value_len, request, tick}
use Rattle.pk_call.{specs.Drive.CountsMap, specs.Exec.most_installs, specs.Meter.meter, specs.Meter.MeteredAll, specs.Seen.in_space_of, specs.declared.types.Counts.Counts}
use Rattle.pk_call.{specs.Sight.InSpace, specs.Sight.Sight, specs.Sight.in_space_at, specs.Sight.map_of, specs.Running.DriveRuns}
use Rattle.pk_model.{specs.Growth.Goes, specs.Kept.rise, specs.Wear.is_worn, specs.Wear.roots, specs.Reading.reading, specs.Reading.Holds, specs.Run.Exchange, specs.Run.commands}
use Rattle.pk_model.{proofs.Growing.Goes-reaches, specs.Spaces.Terms, specs.Spaces.in_space, specs.Spaces.terms_at}
use Rattle.pk_serve.{specs.Answered.installs, proofs.Counting.metered-roots, proofs.Counting.metered-unworn, proofs.Counting.few_unworn, proofs.Counting.commands-push}
use Rattle.pk_port.{specs.Asking.KeptSilently, specs.declared.halt.Halt.TheVariants.Stopped, specs.declared.halt.Halt.TheVariants.Worn as UsedUp, specs.Steps.mount}
use Rattle.pk_port.proofs.Serving.{mounted_limits}
use Rattle.pk_wordrun.{specs.Generated.Generating, specs.Generated.Generated, specs.Generated.Unfinished, specs.Summary.summary_lines, specs.Sums.Sums, proofs.Resting.never_both}
use Rattle.pk_wordrun.{specs.Grouped.StoppedIn, specs.Grouped.KeepsGroup, specs.Grouped.AddsToGroup, specs.Grouped.StopsGroup, specs.Tasks.generate, specs.Tasks.SaysTask}
use Rattle.pk_wordrun.{specs.Told.Told, specs.Told.turn_roots, specs.declared.end.WordEnd.TheVariants.Done, specs.declared.end.WordEnd.TheVariants.Output, specs.declared.summary.Summary.Summary}
use Rattle.pk_wordrun.{proofs.Grouping.grouped_none, proofs.Grouping.grouped_asked, proofs.Grouping.goes_more, proofs.Grouping.stopped_weaker, proofs.Telling.keeps-flash, proofs.Telling.flash_unworn}
use Rattle.pk_wordrun.{proofs.Telling.word-posted, proofs.Telling.word-unposted}

-- ---- the commands of a workload

-- the command of a turn
abbrev pub command_at : ℕ → ℕ → Command
command_at begin turn = command_of (request_of (generator begin turn)) (value_of (generator begin turn))

workload-length : (begin count : ℕ) → length (workload begin count) ≡ count
workload-length begin zero = refl
workload-length begin (suc n) = let e = workload-length begin n in let more = length-append (workload begin n) (command_at begin n ∷ []) in omega (arith, e, more)

-- ---- the roots that they install

-- the command of a turn, by its draws
abbrev picked : Bool → Bool → Bool → Bool → Bool → ℕ → ℕ → ℕ → Request
picked s r d e t cid b c =
    if s then request STORE cid b (value_len c)
    else if r then request RETRIEVE cid b 4096
    else if d then request DELETE cid b 0
    else if e then request EXIST cid b 0
    else if t then tick cid
    else request LIST cid b 1024

few_of : (s r d e t : Bool) (cid b c : ℕ) → most_installs (picked s r d e t cid b c).opcode (picked s r d e t cid b c).size ≤ turn_roots
few_of false false false false false cid b c = omega arith
few_of s r d e t cid b c = omega arith

few_at : (begin turn : ℕ) → most_installs (command_at begin turn).opcode (command_at begin turn).size ≤ turn_roots
few_at begin turn =
    let g : Generator = generator begin turn in
    few_of (is_store (a_of g)) (nat_lt (a_of g % 10) 7) (a_of g % 10 == 7) (a_of g % 10 == 8) (b_of g % 2 == 1) g.cid (b_of g) (c_of g)

installs-push : (cs : List Command) (c : Command) → installs (cs ++ c ∷ []) ≡ installs cs + most_installs c.opcode c.size
installs-push [] c = omega arith
installs-push (d ∷ cs) c = let e = installs-push cs c in omega (arith, e)

installs_few : (begin count : ℕ) → installs (workload begin count) ≤ turn_roots * count
installs_few begin zero = omega arith
installs_few begin (suc n) = let e = installs_few begin n in let more = installs-push (workload begin n) (command_at begin n) in let few = few_at begin n in omega (arith, e, more, few)

-- the first ones come before more
abbrev Front : ℕ → ℕ → ℕ → Type 0
Front begin turn count = (more : List Command) × (workload begin count ≡ workload begin turn ++ more)

front : (begin turn count : ℕ) → turn ≤ count → Front begin turn count
front begin turn zero few =
    let is : turn ≡ zero = omega (arith, few) in
    ([], subst (λ t. workload begin zero ≡ workload begin t ++ []) (sym is) refl)
front begin turn (suc n) few = by (nat_le turn n) refl (λ small. front begin turn n small)
  where
    by : (b : Bool) → nat_le turn n ≡ b → (turn ≤ n → Front begin turn n) → Front begin turn (suc n)
    by true e before =
        let r = before (grind (arith, nat_tests, e)) in
        (r.0 ++ command_at begin n ∷ [], ap (λ (l : List Command). l ++ command_at begin n ∷ []) r.1 ∙ append_assoc (workload begin turn) r.0 (command_at begin n ∷ []))
    by false e before =
        let is : turn ≡ suc n = grind (arith, nat_tests, e, few) in
        ([], subst (λ t. workload begin (suc n) ≡ workload begin t ++ []) (sym is) (sym (append-nil (workload begin (suc n)))))

-- ---- turns

-- before the first
pub generating_none : (begin : ℕ) (shape : Shape) (start : Map) (a : BoardState) (d : Sight) (s : Summary) → a.shape ≡ Some shape → d.pending ≡ [] → Holds shape a.pages start → Sums s []
    → Generating begin 0 shape (mount a d).terms start a a d s
generating_none begin shape start a d s has none holds sums =
    let M : List Entry → Type 0 = λ p. reading shape a.pages p ≡ Ok start in
    record {
      all = [];
      are = refl;
      grouped = grouped_none shape (mount a d).terms start a d
          (record { shape_is = has; frames_is = refl; limits_is = mounted_limits shape a d has; map_is = subst M (sym none) holds }) holds;
      sums = sums;
    }

module _ (begin turn : ℕ) (shape : Shape) (terms : Terms) (start : Map) (a b : BoardState) (d : Sight) (counts : Summary) (w : Generating begin turn shape terms start a b d counts) where
  -- as many were answered
  turns_are : length w.all ≡ turn
  turns_are = sym (length-map w.all (λ (x : Exchange). x.command)) ∙ (ap (λ (l : List Command). length l) w.are ∙ workload-length begin turn)

  -- one more
  pub generating_next : (c : BoardState) (e : Sight) (count : ℕ) → turn < count → count < 4294967296 → (g : Generator) → g ≡ generator begin turn → (counted : Summary)
      → (x : Exchange) × (x.command ≡ command_of (request_of g) (value_of g)) × AddsToGroup b c d e x
      × ((all : List Exchange) → length all < 4294967295 → Sums counts all → Sums counted (all ++ x ∷ []))
      → Generating begin (turn + 1) shape terms start a c e counted
  generating_next c e count small few g at counted (x, is, adds, sums) =
      let is_at : x.command ≡ command_at begin turn = is ∙ ap (λ (v : Generator). command_of (request_of v) (value_of v)) at in
      let next : suc turn ≡ turn + 1 = omega arith in
      let T : ℕ → Type 0 = λ n. Generating begin n shape terms start a c e counted in
      let size = turns_are in
      subst T next (record {
        all = w.all ++ x ∷ [];
        are = commands-push w.all x ∙ (ap (λ (l : List Command). l ++ x.command ∷ []) w.are ∙ ap (λ (k : Command). workload begin turn ++ k ∷ []) is_at);
        grouped = adds shape terms start a w.all w.grouped;
        sums = sums w.all (omega (arith, size, small, few)) w.sums;
      })

  -- the drive was stopped in or before these commands
  unfinished_in : (count : ℕ) (cs more : List Command) (c : BoardState) → workload begin count ≡ cs ++ more
      → StoppedIn shape terms start a c cs → Unfinished begin count shape terms start a c Stopped
  unfinished_in count cs more c is s =
      let all = stopped_weaker shape terms start a c cs more (workload begin count) (sym is) s in
      record { kept = all.kept; ends = all.stop; used = λ e. absurd (flash_unworn e); input = keeps-flash a c s.rest }

  -- in the command of this turn or before it
  pub unfinished_turn : (count : ℕ) (c : BoardState) → turn < count → (g : Generator) → g ≡ generator begin turn → StopsGroup b c d (command_of (request_of g) (value_of g) ∷ [])
      → Unfinished begin count shape terms start a c Stopped
  unfinished_turn count c small g at h =
      let G : Generator → Type 0 = λ v. StopsGroup b c d (command_of (request_of v) (value_of v) ∷ []) in
      let stopped = subst G at h in
      let more = front begin (suc turn) count (omega (arith, small)) in
      let S : List Command → Type 0 = λ l. StoppedIn shape terms start a c (l ++ command_at begin turn ∷ []) in
      unfinished_in count (workload begin turn ++ command_at begin turn ∷ []) more.0 c more.1 (subst S w.are (stopped shape terms start a w.all w.grouped))

  -- in a commit
  pub unfinished_commit : (count : ℕ) (c : BoardState) → turn ≤ count → StopsGroup b c d [] → Unfinished begin count shape terms start a c Stopped
  unfinished_commit count c small h =
      let more = front begin turn count small in
      let S : List Command → Type 0 = λ l. StoppedIn shape terms start a c l in
      unfinished_in count (workload begin turn) more.0 c more.1 (subst S (append-nil (commands w.all) ∙ w.are) (h shape terms start a w.all w.grouped))

  -- the roots that were installed are few
  roots_few : (c : BoardState) (count : ℕ) → MeteredAll (meter a) w.all (meter c) → turn ≤ count → roots c ≤ roots a + turn_roots * count
  roots_few c count metered small =
      let up = metered-roots w.all (meter a) (meter c) metered in
      let T : List Command → Type 0 = λ l. roots c ≤ roots a + installs l in
      let all = subst T w.are up in
      let few = installs_few begin turn in
      omega (arith, all, few, small)

  -- no more roots are installed
  pub unfinished_worn : (count : ℕ) (c : BoardState) (e : Sight) → turn < count → KeepsGroup b c d e → e.pending ≡ [] → roots c ≡ roots b → is_worn b ≡ true
      → Unfinished begin count shape terms start a c UsedUp
  unfinished_worn count c e small keeps none same worn =
      let g = keeps shape terms start a w.all w.grouped in
      let more = front begin turn count (omega (arith, small)) in
      let R : List Command → Type 0 = λ l. Goes shape a c (KeptSilently shape terms start l (rise a.read_faults c.read_faults)) in
      record {
        kept = goes_more shape terms start a c (workload begin turn) more.0 (workload begin count) (rise a.read_faults c.read_faults) (sym more.1)
            (subst R w.are (Goes-reaches shape a c (KeptSilently shape terms start (commands w.all) (rise a.read_faults c.read_faults)) g.reached));
        ends = (
          ap (λ n. nat_le 9223372036854775808 n) same ∙ worn,
          record { output = ap (λ (x : BoardState). x.out_faults) g.rest; stop = g.no_stop },
          (turn, small, (grouped_asked shape terms start a c e w.all g none (workload begin turn) w.are).0),
        );
        used = λ _. roots_few c count g.metered (omega (arith, small));
        input = keeps-flash a c g.rest;
      }

  -- all was committed
  pub generated_all : (c : BoardState) (e : Sight) → KeepsGroup b c d e → e.pending ≡ [] → Generated begin turn shape terms start a c counts
  generated_all c e keeps none =
      let w' = grouped_asked shape terms start a c e w.all (keeps shape terms start a w.all w.grouped) none (workload begin turn) w.are in
      record { asked = w'.0; sums = subst (Sums counts) (sym w'.1) w.sums }

-- ---- the summary

-- the numbers that a drive counts of its first namespace are those of the map that the flash holds
pub counted : (agrees : Option Shape → Pages → Type 0) (shape : Shape) (b : BoardState) (d : Sight) (counts : Counts)
    → b.shape ≡ Some shape → DriveRuns agrees d b → d.pending ≡ [] → in_space_of counts ≡ in_space_at d.spaces 1
    → ((s : Shape) (f : Pages) (m : Map) → agrees (Some s) f → d.stopped ≡ false → map_of s f d ≡ Ok m → CountsMap s (terms_at s f d.counts.frames) 1 m (in_space_at d.spaces 1) d.counts)
    → (m : Map) → Holds shape b.pages m → (counts.keys ≡ len (in_space 1 m)) × (counts.live ≡ live shape (in_space 1 m))
counted agrees shape b d counts has running none numbers told m held =
    let A : Option Shape → Type 0 = λ o. agrees o b.pages in
    let R : List Entry → Type 0 = λ p. reading shape b.pages p ≡ Ok m in
    let is = told shape b.pages m (subst A has running.agrees) running.runs (subst R (sym none) held) in
    (ap (λ (c : InSpace). c.keys) numbers ∙ is.keys_is, ap (λ (c : InSpace). c.live) numbers ∙ is.live_is)

module _ (begin count : ℕ) (shape : Shape) (terms : Terms) (start : Map) (a b : BoardState) (s : Summary) (w : Generated begin count shape terms start a b s) (keys pages : ℕ)
    (are : (keys ≡ len (in_space 1 w.asked.left)) × (pages ≡ live shape (in_space 1 w.asked.left))) where
  abbrev text : List ℕ
  text = summary_lines w.asked.answered.all keys pages

  abbrev Says : List Exchange → List ℕ → Map → Type 0
  Says = SaysTask (generate begin count) a.read_faults b.read_faults shape terms start

  says_left : Says w.asked.answered.all text w.asked.left
  says_left = ap (λ k. summary_lines w.asked.answered.all k pages) are.0 ∙ ap (λ p. summary_lines w.asked.answered.all (len (in_space 1 w.asked.left)) p) are.1

  -- a workload that has a command does not begin on a worn drive
  unworn_before : not (count == 0) ≡ true → is_worn a ≡ false
  unworn_before some =
      let all = w.asked.answered.all in
      let none : all ≡ [] → ⊥ =
      λ e.
      let is : count ≡ 0 = sym (workload-length begin count) ∙ ap (λ (l : List Command). length l) (sym w.asked.answered.are ∙ ap commands e) in
      let T : ℕ → Type 0 = λ n. not (n == 0) ≡ true in
      never_both (subst T is some) in
      few_unworn a (metered-unworn all (meter a) (meter b) none w.asked.answered.metered)

  module _ (last : BoardState) where
    pub told_summary : last ≡ after_post b text → Told (generate begin count) shape terms start a last Done
    told_summary = word-posted (generate begin count) shape terms start (workload begin count) a b w.asked refl text says_left unworn_before (λ e. never_both e) (λ f q k. k) last

    -- the output failed
    pub told_unposted : PostFailed b last text → Told (generate begin count) shape terms start a last Output
    told_unposted = word-unposted (generate begin count) shape terms start (workload begin count) a b w.asked refl text says_left unworn_before (λ e. never_both e) (λ f q k. k) last
