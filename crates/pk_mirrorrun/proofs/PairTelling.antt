-- What a word of a pair makes of both boards.
use Rattle.std.proofs.Common.{◌≡◌, ◌⊎◌, inl, inr, ℕ, ◌≤◌, List, [], length, Option, Some, None, refl, sym, ap, subst, ◌∙◌, true, false, arith, ◌∷◌}
use Rattle.std.specs.FinMap.{get as value_at}
use Rattle.pk_base.{specs.Shape.Shape, specs.Page.Flash, specs.Map.Map, proofs.Logic.some_same}
use Rattle.pk_nvme.specs.Command.{Command}
use Rattle.pk_nand.{specs.BoardState.BoardState, specs.Calls.Rose, specs.Calls.longer, specs.Operations.after_post, specs.Operations.PostFailed, specs.Effects.OnlyFlash}
use Rattle.pk_model.{specs.Growth.Goes, specs.Kept.rise, specs.Reading.reading, specs.Reading.Holds, specs.Spaces.limits_at, specs.Spaces.limit_of, specs.Spaces.in_space}
use Rattle.pk_model.{specs.Wear.roots, specs.Wear.is_worn, proofs.Growing.weaken_went, proofs.Growing.Goes-reaches, specs.Run.Exchange, specs.Run.commands}
use Rattle.pk_call.{specs.Sight.Sight, specs.Meter.Meter, specs.Meter.meter}
use Rattle.pk_words.specs.Lines.{failed_line}
use Rattle.pk_serve.{proofs.Counting.metered-unworn, proofs.Counting.few_unworn, proofs.Limiting.limits_some}
use Rattle.pk_mirror.specs.Causes.{NotEmpty}
use Rattle.pk_port.{specs.Asking.KeptSilently, specs.Asking.KeptWord, specs.Steps.Standing, specs.Steps.HasCause, specs.Steps.Chain, specs.Steps.standing, specs.Steps.seen}
use Rattle.pk_port.proofs.Serving.{mounted_limits}
use Rattle.pk_port.{proofs.Stepping.part_of, proofs.Stepping.part_held, specs.Chained.installs, specs.Chained.AllServed, specs.Chained.HaltedAt, specs.Chained.Chained, specs.declared.halt.Halt.Halt}
use Rattle.pk_port.{specs.declared.halt.Halt.TheVariants.Stopped, specs.declared.halt.Halt.TheVariants.Worn as UsedUp, proofs.Growing.asked-posts, proofs.Growing.asked-post_failed}
use Rattle.pk_port.proofs.Chaining.{chained}
use Rattle.pk_wordrun.{specs.Ends.end_of, specs.Told.KeepsInput, specs.declared.end.WordEnd.WordEnd, specs.declared.end.WordEnd.TheVariants.Done, specs.declared.end.WordEnd.TheVariants.Output}
use Rattle.pk_wordrun.specs.declared.end.WordEnd.TheVariants.{Flash as FlashFailed, Worn}
use Rattle.pk_wordrun.{proofs.Telling.keeps-flash}
use Rattle.pk_mirrorwords.specs.PairTasks.{PairTask, map_left}
use Rattle.pk_mirrorwords.specs.PairAnswers.{PairSaid, PairFault, AreOfWord, AreOfPair, AsksSecond}
use Rattle.pk_mirrorrun.specs.PairTold.{IsServing, EitherUnread, text_by, Walk, BothWalked, end_by, PostsText, KeptFirst, KeptSecond, PairAnswered, PairEnds, most_pair_roots, UsedRoots, PairTold}
use Rattle.pk_mirrorrun.specs.PairTold.{ServedUnworn, WornBefore, PairWorn, OnSecond, WholeOnSecond}
use Rattle.pk_mirrorrun.proofs.Commands.{ran_first, ran_second, kept_first, kept_second, change_keeps_others, part_left, same_parts, first_installs, second_installs}
use Rattle.pk_mirrorrun.proofs.Unworn.{all_unworn, worn_before}

-- ---- one drive

-- its limits are those of its flash, and it has a namespace
pub record Begins (shape : Shape) (start : Map) (p : Standing) : Type 0 where
  pub within : limits_at shape p.on.board.pages ≡ p.on.terms.limits
  pub some : 1 ≤ length p.on.terms.limits

pub begins_as : (shape : Shape) (start : Map) (board : BoardState) (drive : Sight) (faults : ℕ) (halt : Option Halt) → IsServing shape board drive → Holds shape board.pages start
    → Begins shape start (standing board drive faults halt)
begins_as shape start board drive faults halt s holds =
    let within = mounted_limits shape board drive s.shape_is in
    record { within = within; some = subst (λ (limits : List ℕ). 1 ≤ length limits) within (limits_some shape board.pages [] start holds) }

-- the first namespace of the map after the session, as the port reports it
part_is : (shape : Shape) (start : Map) (cs : List Command) (p q : Standing) (w : AllServed shape start cs p q) (m : Map)
    → part_of (reading shape q.on.board.pages []) ≡ Some m → in_space 1 w.asked.left ≡ m
part_is shape start cs p q w m told = part_held (reading shape q.on.board.pages []) w.asked.left m w.asked.held told

-- the map after the session, if the port reports what the word leaves of the first namespace
left_is : (task : PairTask) (shape : Shape) (start : Map) (cs : List Command) (p q : Standing) (begun : Begins shape start p) (w : AllServed shape start cs p q) → AreOfWord task cs
    → part_of (reading shape q.on.board.pages []) ≡ Some (map_left shape (limit_of p.on.terms.limits 1 ∷ []) task (in_space 1 start)) → w.asked.left ≡ map_left shape p.on.terms.limits task start
left_is task shape start cs p q begun w are told =
    same_parts w.asked.left (map_left shape p.on.terms.limits task start)
    (part_is shape start cs p q w _ told ∙ sym (part_left task shape p.on.terms begun.some start))
    (λ k other. elim (ran_first task shape p.on.terms start w.asked.left w.asked.answered.all (subst (AreOfWord task) (sym w.asked.answered.are) are) w.asked.answered.ran) [
      | inl before ↦ ap (λ (m : Map). value_at m k) before ∙ sym (change_keeps_others task shape p.on.terms.limits start k other)
      | inr after ↦ ap (λ (m : Map). value_at m k) after
    ])

-- what holds at every cut may be weakened
weaker : {shape : Shape} (a b : BoardState) (P Q : Flash → List ℕ → Type 0) → ((f : Flash) (posted : List ℕ) → P f posted → Q f posted) → Goes shape a b P → Goes shape a b Q
weaker a b P Q h run = (run.0, weaken_went run.0 a b P Q h run.1, run.2)

module _ (shape : Shape) (start : Map) (cs : List Command) (p q : Standing) where
  -- if the board was cut, the commands were kept
  kept_by : Chained shape start cs p q → Goes shape p.on.board q.on.board (KeptSilently shape p.on.terms start cs (rise p.on.board.read_faults q.on.board.read_faults))
  kept_by (inl w) = Goes-reaches shape p.on.board q.on.board (KeptSilently shape p.on.terms start cs (rise p.on.board.read_faults q.on.board.read_faults)) w.asked.reached
  kept_by (inr h) = h.kept

  only_flash : Chained shape start cs p q → OnlyFlash p.on.board q.on.board
  only_flash (inl w) = w.asked.rest
  only_flash (inr h) = h.rest

  used_by : (m other : Map) → installs cs ≤ most_pair_roots m other → Chained shape start cs p q → UsedRoots m other p.on.board q.on.board
  used_by m other few (inl w) = let most = w.few in inr (omega (arith, most, few))
  used_by m other few (inr h) = elim h.why [
    | inl stop ↦ inl stop
    | inr (same, going, most) ↦ inr (omega (arith, most, few))
  ]

  -- no command was left without an answer
  all_served : p.halt ≡ None → q.halt ≡ None → Chained shape start cs p q → AllServed shape start cs p q
  all_served before none (inl w) = w
  all_served before none (inr h) = let clash : ◌≡◌ {A = Option Halt} None (Some h.halt) = sym none ∙ h.is in absurd (cc)

  -- one was, for this reason
  halted_at : (halt : Halt) → p.halt ≡ None → q.halt ≡ Some halt → Chained shape start cs p q → (h : HaltedAt shape start cs p q) × (h.halt ≡ halt)
  halted_at halt before is (inl w) = let clash : ◌≡◌ {A = Option Halt} None (Some halt) = sym before ∙ sym w.same_halt ∙ is in absurd (cc)
  halted_at halt before is (inr h) = (h, some_same h.halt halt (sym h.is ∙ is))

  stopped_by : HaltedAt shape start cs p q → q.on.stopped ≡ true → Rose p.on.board.stop_faults q.on.board.stop_faults
  stopped_by h stopped = elim h.why [
    | inl stop ↦ stop
    | inr (same, going, few) ↦ absurd (let clash : true ≡ false = sym stopped ∙ going in cc)
  ]

  -- the second of a pair
  second_kept : AreOfPair cs → Chained shape start cs p q → Goes shape p.on.board q.on.board (KeptSecond shape p.on.terms.limits start)
  second_kept are w = weaker p.on.board q.on.board (KeptSilently shape p.on.terms start cs (rise p.on.board.read_faults q.on.board.read_faults)) (KeptSecond shape p.on.terms.limits start)
      (λ f posted k. record {
        map = k.1.map_left;
        held = k.1.held;
        others = kept_second shape p.on.terms start cs (rise p.on.board.read_faults q.on.board.read_faults) [] f are k.1;
        same_limits = k.1.same_limits;
        silent = k.0;
      }) (kept_by w)

-- a drive that served a command was not worn before it
unworn_by : (shape : Shape) (start : Map) (p q : Standing) → p.on.board.shape ≡ Some shape
    → Holds shape p.on.board.pages start → Begins shape start p → p.on.stopped ≡ false → p.halt ≡ None → q.halt ≡ None → Walk shape NotEmpty p q
    → is_worn p.on.board ≡ false
unworn_by shape start p q has holds begun going before none walk =
    let w = all_served shape start walk.0 p q before none (chained shape start p walk.0 q has holds begun.within going walk.2) in
    let run = w.asked.answered in
    few_unworn p.on.board (metered-unworn run.all (meter p.on.board) (meter q.on.board) (λ nothing. walk.1 (sym run.are ∙ ap commands nothing)) run.metered)

-- neither drive was worn, and the second served all that differed
pub record BothUnworn (task : PairTask) (shape : Shape) (m other : Map) (a c d : BoardState) : Type 0 where
  pub first : is_worn a ≡ false
  pub second : is_worn c ≡ false
  pub whole : ServedUnworn (WholeOnSecond task m other) shape c d

-- ---- both

module _ (task : PairTask) (shape : Shape) (m other : Map) (cs ds : List Command) (p p' q q' : Standing) (are : AreOfWord task cs)
    (of : OnSecond task m other ds) (begun : Begins shape m p) (begun' : Begins shape other q) (walk : Chained shape m cs p p') (too : Chained shape other ds q q') where
  abbrev a : BoardState
  a = p.on.board

  abbrev b : BoardState
  b = p'.on.board

  abbrev c : BoardState
  c = q.on.board

  abbrev d : BoardState
  d = q'.on.board

  -- the limits of the first
  abbrev limits : List ℕ
  limits = p.on.terms.limits

  -- in the words of the flash
  first_by : (new : BoardState) (failed : Type 0) → Goes shape a new (KeptFirst task failed shape limits m) → Goes shape a new (KeptFirst task failed shape (limits_at shape a.pages) m)
  first_by new failed = subst (λ (ls : List ℕ). Goes shape a new (KeptFirst task failed shape ls m)) (sym begun.within)

  second_by : Goes shape c d (KeptSecond shape (limits_at shape c.pages) other)
  second_by = subst (λ (ls : List ℕ). Goes shape c d (KeptSecond shape ls other)) (sym begun'.within) (second_kept shape other ds q q' of.only too)

  -- without a post
  silent : (failed : Type 0) (n : Option ℕ) (f : Flash) (posted : List ℕ) → KeptSilently shape p.on.terms m cs n f posted → KeptFirst task failed shape limits m f posted
  silent failed n f posted k = record { held = kept_first task shape p.on.terms m cs n [] f are k.1; same_limits = k.1.same_limits; said = inl k.0 }

  first_silent : (failed : Type 0) → Goes shape a b (KeptFirst task failed shape limits m)
  first_silent failed = weaker a b (KeptSilently shape p.on.terms m cs (rise a.read_faults b.read_faults)) (KeptFirst task failed shape limits m)
      (silent failed (rise a.read_faults b.read_faults)) (kept_by shape m cs p p' walk)

  -- what is the same whatever the end is
  told : (last : BoardState) (end : WordEnd) → Goes shape a last (KeptFirst task (EitherUnread a last c d) shape limits m) → PairEnds task shape m other a last c d end
      → UsedRoots m other a last → KeepsInput a last → PairTold task shape m other a last c d end
  told last end kept ends used input = record {
    first_kept = first_by last (EitherUnread a last c d) kept;
    second_kept = second_by;
    ends = ends;
    first_used = used;
    second_used = used_by shape other ds q q' m other (second_installs task m other ds of) too;
    first_input = input;
    second_input = keeps-flash c d (only_flash shape other ds q q' too);
  }

  used_first : UsedRoots m other a b
  used_first = used_by shape m cs p p' m other (first_installs task m other cs are) walk

  ended : (end : WordEnd) → PairEnds task shape m other a b c d end → PairTold task shape m other a b c d end
  ended end ends = told b end (first_silent (EitherUnread a b c d)) ends used_first (keeps-flash a b (only_flash shape m cs p p' walk))

  -- a drive is worn
  worn_by : WornBefore (AreOfWord task) shape a b ⊎ WornBefore (OnSecond task m other) shape c d → PairWorn task shape m other a b c d
  worn_by worn = record { worn = worn; silent = ap (λ (s : BoardState). s.posted) (only_flash shape m cs p p' walk) }

  first_halted : (h : HaltedAt shape m cs p p') (halt : Halt) → h.halt ≡ halt → p.halt ≡ None → Chain shape p cs p' → PairEnds task shape m other a b c d (end_of halt)
  first_halted h Stopped is none chain = inl (stopped_by shape m cs p p' h (subst (λ (x : Halt). HasCause p'.on x) is h.cause))
  first_halted h UsedUp is none chain =
      worn_by (inl (worn_before (AreOfWord task) shape p cs p' h.halt are none h.is chain (subst (λ (x : Halt). HasCause p'.on x) is h.cause)))

  second_halted : (h : HaltedAt shape other ds q q') (halt : Halt) → h.halt ≡ halt → q.halt ≡ None → Chain shape q ds q' → PairEnds task shape m other a b c d (end_of halt)
  second_halted h Stopped is none chain = inr (stopped_by shape other ds q q' h (subst (λ (x : Halt). HasCause q'.on x) is h.cause))
  second_halted h UsedUp is none chain =
      worn_by (inr (worn_before (OnSecond task m other) shape q ds q' h.halt of none h.is chain (subst (λ (x : Halt). HasCause q'.on x) is h.cause)))

  -- a drive halted
  pub told-halted : (one two : Option Halt) (end : WordEnd) → p.halt ≡ None → q.halt ≡ None → p'.halt ≡ one → q'.halt ≡ two → end_by one two ≡ Some end
      → Chain shape p cs p' → Chain shape q ds q' → PairTold task shape m other a b c d end
  told-halted None None end first second is also by chain chain' = absurd (let clash : ◌≡◌ {A = Option WordEnd} None (Some end) = by in cc)
  told-halted None (Some halt) end first second is also by chain chain' =
      let (h, same) = halted_at shape other ds q q' halt second also too in
      ended end (subst (λ (e : WordEnd). PairEnds task shape m other a b c d e) (some_same (end_of halt) end by) (second_halted h halt same second chain'))
  told-halted (Some halt) two end first second is also by chain chain' =
      let (h, same) = halted_at shape m cs p p' halt first is walk in
      ended end (subst (λ (e : WordEnd). PairEnds task shape m other a b c d e) (some_same (end_of halt) end by) (first_halted h halt same first chain))

  -- if neither did, no port failed
  pub no_fault : p.halt ≡ None → q.halt ≡ None → p'.halt ≡ None → q'.halt ≡ None → p.faults ≡ 0 → q.faults ≡ 0
      → PairFault (seen shape p.on p.faults) (seen shape p'.on p'.faults) (seen shape q.on q.faults) (seen shape q'.on q'.faults) → ⊥
  no_fault first second none nor zero too_zero (inl rose) =
      let same = (all_served shape m cs p p' first none walk).same_faults in
      let now : Rose 0 0 = subst (λ (n : ℕ). Rose n n) zero (subst (λ (n : ℕ). Rose p.faults n) same rose) in absurd (omega (arith, now))
  no_fault first second none nor zero too_zero (inr rose) =
      let same = (all_served shape other ds q q' second nor too).same_faults in
      let now : Rose 0 0 = subst (λ (n : ℕ). Rose n n) too_zero (subst (λ (n : ℕ). Rose q.faults n) same rose) in absurd (omega (arith, now))

  -- ---- the text

  module _ (w : AllServed shape m cs p p') (v : AllServed shape other ds q q') (text : List ℕ)
      (said : PairSaid (BothUnworn task shape m other a c d) task (seen shape p.on p.faults) (seen shape p'.on p'.faults) (seen shape q.on q.faults) (seen shape q'.on q'.faults) (in_space 1 m) text)
      (one_served : ServedUnworn (AreOfWord task) shape a b) (two_served : ServedUnworn (OnSecond task m other) shape c d) where
    -- what the text says of the map that the first drive holds
    abbrev Says : List Exchange → List ℕ → Map → Type 0
    Says all t left = ((left ≡ map_left shape limits task m) × (t ≡ text_by shape limits task m)) ⊎ (EitherUnread a b c d × (t ≡ failed_line))

    says : Says w.asked.answered.all text w.asked.left
    says = elim said [
      | inl (unworn, done) ↦ inl (left_is task shape m cs p p' begun w are done.first_left, done.spelled)
      | inr unread ↦ inr unread
    ]

    posting : (from to : Meter) (f : Flash) (posted : List ℕ) → KeptWord Says shape p.on.terms m cs from to f posted → KeptFirst task (EitherUnread a b c d) shape limits m f posted
    posting from to f posted (k, inl none) = record {
      held = kept_first task shape p.on.terms m cs (rise from.read_faults to.read_faults) [] f are k;
      same_limits = k.same_limits;
      said = inl none;
    }
    posting from to f posted (k, inr s) = record {
      held = kept_first task shape p.on.terms m cs (rise from.read_faults to.read_faults) [] f are k;
      same_limits = k.same_limits;
      said = elim s.says [
        | inl (left, spelled) ↦ inr (inl (subst (λ (x : Map). Holds shape f x) left s.held, (s.unposted, s.front ∙ spelled)))
        | inr (failed, spelled) ↦ inr (inr (failed, (s.unposted, s.front ∙ spelled)))
      ];
    }

    -- what every cut of the first board keeps
    abbrev word : Flash → List ℕ → Type 0
    word = KeptWord Says shape p.on.terms m cs (meter a) (meter b)

    -- what holds at the end
    finished_says : PairAnswered task shape m other a (after_post b text) c d text ⊎ (EitherUnread a b c d × (text ≡ failed_line))
    finished_says = elim said [
      | inl (unworn, done) ↦ inl (record {
        text_is = done.spelled ∙ ap (λ (ls : List ℕ). text_by shape ls task m) (sym begun.within);
        first_holds = subst (λ (x : Map). Holds shape b.pages x)
            (left_is task shape m cs p p' begun w are done.first_left ∙ ap (λ (ls : List ℕ). map_left shape ls task m) (sym begun.within)) w.asked.held;
        second_holds = (
          v.asked.left,
          v.asked.held,
          part_is shape other ds q q' v _ done.second_left ∙ sym (part_left task shape p.on.terms begun.some m) ∙ ap (λ (ls : List ℕ). in_space 1 (map_left shape ls task m)) (sym begun.within),
          ran_second shape q.on.terms other v.asked.left v.asked.answered.all (subst AreOfPair (sym v.asked.answered.are) of.only) v.asked.answered.ran,
        );
        whole = unworn.whole;
        first_unworn = unworn.first;
        second_unworn = unworn.second;
      })
      | inr unread ↦ inr unread
    ]

    -- it was posted
    posted : PairTold task shape m other a (after_post b text) c d Done
    posted = told (after_post b text) Done
        (weaker a (after_post b text) word (KeptFirst task (EitherUnread a b c d) shape limits m) (posting (meter a) (meter b))
        (Goes-reaches shape a (after_post b text) word (asked-posts Says shape p.on.terms m cs a b w.asked text says)))
        (record {
          text = text;
          posted = ap (λ t. longer t text) (ap (λ (s : BoardState). s.posted) w.asked.rest);
          says = finished_says;
          no_output = ap (λ (s : BoardState). s.out_faults) w.asked.rest;
          first_sound = w.asked.no_stop;
          second_sound = v.asked.no_stop;
          began = record { unposted = b; first = one_served; posts = refl; second = two_served };
        })
        used_first
        (record { input = ap (λ (s : BoardState). s.input) w.asked.rest; in_faults = ap (λ (s : BoardState). s.in_faults) w.asked.rest })

    pub told-posted : (last : BoardState) → last ≡ after_post b text → PairTold task shape m other a last c d Done
    told-posted last is = subst (λ (s : BoardState). PairTold task shape m other a s c d Done) (sym is) posted

    -- the output failed
    pub told-unposted : (last : BoardState) → PostFailed b last text → PairTold task shape m other a last c d Output
    told-unposted last failed =
        let same : last.read_faults ≡ b.read_faults = ap (λ (s : BoardState). s.read_faults) failed.rest in
        let same_stop : last.stop_faults ≡ b.stop_faults = ap (λ (s : BoardState). s.stop_faults) failed.rest in
        let out : Rose a.out_faults last.out_faults = subst (λ (k : ℕ). Rose k last.out_faults) (ap (λ (s : BoardState). s.out_faults) w.asked.rest) failed.faults in
        let F : ℕ → Type 0 = λ k. Goes shape a last (KeptFirst task (Rose a.read_faults k ⊎ Rose c.read_faults d.read_faults) shape limits m) in
        told last Output
        (subst F (sym same) (weaker a last word (KeptFirst task (EitherUnread a b c d) shape limits m) (posting (meter a) (meter b))
        (asked-post_failed Says shape p.on.terms m cs a b w.asked text says last failed)))
        (out, record { unposted = b; first = one_served; posts = failed.rest; second = two_served })
        (elim used_first [
          | inl stop ↦ inl (subst (λ (k : ℕ). Rose a.stop_faults k) (sym same_stop) stop)
          | inr most ↦ inr (let same_roots : roots last ≡ roots b = ap roots failed.rest in omega (arith, most, same_roots))
        ])
        (record {
          input = ap (λ (s : BoardState). s.input) failed.rest ∙ ap (λ (s : BoardState). s.input) w.asked.rest;
          in_faults = ap (λ (s : BoardState). s.in_faults) failed.rest ∙ ap (λ (s : BoardState). s.in_faults) w.asked.rest;
        })

-- ---- from the commands that took both ports

pub both_none : (one two : Option Halt) → end_by one two ≡ None → (one ≡ None) × (two ≡ None)
both_none None None e = (refl, refl)
both_none None (Some halt) e = let clash : ◌≡◌ {A = Option WordEnd} (Some (end_of halt)) None = e in absurd (cc)
both_none (Some halt) two e = let clash : ◌≡◌ {A = Option WordEnd} (Some (end_of halt)) None = e in absurd (cc)

-- commands took two drives that serve, and no command before them was left without an answer
pub record Walked (task : PairTask) (shape : Shape) (m other : Map) (p p' q q' : Standing) : Type 0 where
  pub has : p.on.board.shape ≡ Some shape
  pub has' : q.on.board.shape ≡ Some shape
  pub holds : Holds shape p.on.board.pages m
  pub holds' : Holds shape q.on.board.pages other
  pub begun : Begins shape m p
  pub begun' : Begins shape other q
  pub going : p.on.stopped ≡ false
  pub going' : q.on.stopped ≡ false
  pub walk : Walk shape (AreOfWord task) p p'
  pub too : Walk shape (AsksSecond task (seen shape p.on p.faults) (seen shape q.on q.faults)) q q'
  pub first : p.halt ≡ None
  pub second : q.halt ≡ None

module _ {task : PairTask} {shape : Shape} {m other : Map} {p p' q q' : Standing} (h : Walked task shape m other p p' q q') where
  one : Chained shape m h.walk.0 p p'
  one = chained shape m p h.walk.0 p' h.has h.holds h.begun.within h.going h.walk.2

  two : Chained shape other h.too.0 q q'
  two = chained shape other q h.too.0 q' h.has' h.holds' h.begun'.within h.going' h.too.2

  of_second : OnSecond task m other h.too.0
  of_second = h.too.1.known (in_space 1 m) (in_space 1 other) (ap part_of h.holds) (ap part_of h.holds')

  pub tells-halted : (end : WordEnd) → Some end ≡ end_by p'.halt q'.halt → PairTold task shape m other p.on.board p'.on.board q.on.board q'.on.board end
  tells-halted end by = told-halted task shape m other h.walk.0 h.too.0 p p' q q' h.walk.1 of_second h.begun h.begun' one two p'.halt q'.halt end h.first h.second refl refl (sym by) h.walk.2 h.too.2

  one_unworn : p'.halt ≡ None → ServedUnworn (AreOfWord task) shape p.on.board p'.on.board
  one_unworn none = all_unworn (AreOfWord task) shape p h.walk.0 p' h.walk.1 none h.walk.2

  two_unworn : q'.halt ≡ None → ServedUnworn (OnSecond task m other) shape q.on.board q'.on.board
  two_unworn nor = all_unworn (OnSecond task m other) shape q h.too.0 q' of_second nor h.too.2

  -- what was said after commands was said of drives that were not worn
  unworn : p'.halt ≡ None → q'.halt ≡ None → (text : List ℕ)
      → PairSaid (BothWalked task shape p p' q q') task (seen shape p.on p.faults) (seen shape p'.on p'.faults) (seen shape q.on q.faults) (seen shape q'.on q'.faults) (in_space 1 m) text
      → PairSaid (BothUnworn task shape m other p.on.board q.on.board q'.on.board) task (seen shape p.on p.faults) (seen shape p'.on p'.faults) (seen shape q.on q.faults) (seen shape q'.on q'.faults) (in_space 1 m) text
  unworn none nor text (inl (asked, done)) =
      inl (
        record {
          first = unworn_by shape m p p' h.has h.holds h.begun h.going h.first none asked.first;
          second = unworn_by shape other q q' h.has' h.holds' h.begun' h.going' h.second nor asked.second;
          whole = all_unworn (WholeOnSecond task m other) shape q asked.whole.0 q'
              (asked.whole.1 (in_space 1 m) (in_space 1 other) (ap part_of h.holds) (ap part_of h.holds')) nor asked.whole.2;
        },
        done,
      )
  unworn none nor text (inr unread) = inr unread

  -- no drive halted, and this was said
  module _ (by : end_by p'.halt q'.halt ≡ None) (text : List ℕ)
      (said : PairSaid (BothWalked task shape p p' q q') task (seen shape p.on p.faults)
      (seen shape p'.on p'.faults) (seen shape q.on q.faults) (seen shape q'.on q'.faults) (in_space 1 m) text) where
    none : p'.halt ≡ None
    none = (both_none p'.halt q'.halt by).0

    nor : q'.halt ≡ None
    nor = (both_none p'.halt q'.halt by).1

    first_served : AllServed shape m h.walk.0 p p'
    first_served = all_served shape m h.walk.0 p p' h.first none one

    second_served : AllServed shape other h.too.0 q q'
    second_served = all_served shape other h.too.0 q q' h.second nor two

    pub tells-said : (last : BoardState) (end : WordEnd) → PostsText p'.on.board last text end → PairTold task shape m other p.on.board last q.on.board q'.on.board end
    tells-said last Done posted = told-posted task shape m other h.walk.0 h.too.0 p p' q q' h.walk.1 of_second h.begun h.begun' one two first_served second_served
        text (unworn none nor text said) (one_unworn none) (two_unworn nor) last posted
    tells-said last Output failed = told-unposted task shape m other h.walk.0 h.too.0 p p' q q' h.walk.1 of_second h.begun h.begun' one two first_served second_served
        text (unworn none nor text said) (one_unworn none) (two_unworn nor) last failed
    tells-said last FlashFailed never = absurd never
    tells-said last Worn never = absurd never

  pub faults-never : end_by p'.halt q'.halt ≡ None → p.faults ≡ 0 → q.faults ≡ 0
      → PairFault (seen shape p.on p.faults) (seen shape p'.on p'.faults) (seen shape q.on q.faults) (seen shape q'.on q'.faults) → ⊥
  faults-never by zero zero' fault =
      let (none, nor) = both_none p'.halt q'.halt by in no_fault task shape m other h.walk.0 h.too.0 p p' q q' h.walk.1 of_second h.begun h.begun' one two h.first h.second none nor zero zero' fault
