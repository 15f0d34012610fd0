-- Each step of a reclaim lowers what remains of it.
use Rattle.std.proofs.Common.{◌≡◌, ◌≢◌, inl, inr, ℕ, zero, suc, ◌+◌, ◌-◌, ◌*◌, ◌<◌, ◌≤◌, refl, sym, ap, subst, ◌∙◌, arith, true, false, List, [], ◌∷◌, take, sum, Option, Some, None}
use Rattle.std.{specs.Prelude.slice_get, specs.Prelude.slice_index, specs.Prelude.unwrap_or, specs.Prelude.MatchOption, proofs.lemmas.Bool.cases_eq, proofs.lemmas.List.Sums.sum_by-cons}
use Rattle.pk_base.specs.Shape.{Shape, charge, dense}
use Rattle.pk_segfmt.proofs.StoredLemmas.{charge_some}
use Rattle.pk_law_work.{specs.Rest.steps_of, specs.Rest.left_of, specs.Rest.whole_reclaim, specs.Rest.Lowers, specs.Jobs.reclaim_rest}
use Rattle.pk_plan.specs.declared.owner.Owner.TheVariants.{Values as for_values}
use Rattle.pk_nand.specs.BoardState.{BoardState}
use Rattle.pk_pool.{specs.declared.state.BlockState.TheVariants.Free, specs.declared.state.BlockState.TheVariants.Owned, specs.Blocks.Blocks, specs.Blocks.IsOwned, specs.Blocks.with_state}
use Rattle.pk_pool.{specs.Unready.unready, proofs.States.get-set_other, proofs.Counting.given_back, proofs.Counting.take_pays}
use Rattle.pk_live.{specs.Values.Values, specs.Values.IsClosed, specs.Values.block_sum, specs.declared.open_block.OpenBlock.OpenBlock, specs.OpenBlocks.closed_with}
use Rattle.pk_gc.{specs.declared.course.Course.Course, specs.declared.course.Phase.Phase, specs.declared.reclaimed.Reclaimed.Reclaimed, specs.Beginning.Begins, specs.Committing.entries_left}
use Rattle.pk_gc.specs.declared.course.Phase.TheVariants.{Idle, Copies, Commits, GivesBack}
use Rattle.pk_gc.specs.declared.reclaimed.Reclaimed.TheVariants.{Worked, NeedsFreeze, Ended}
use Rattle.pk_gc.specs.State.{JobState, unseen, live_from, live_unseen, steps_left, left_in, read_next, programmed, started}
use Rattle.pk_gc.{specs.Victims.HoldsValues, specs.Victims.IsFull, specs.Victims.Chooses, specs.Lowering.left_behind, specs.Lowering.StepLowers, specs.Lowering.LiveOfBlock}
use Rattle.pk_gc.specs.Stepping.{Hands, CanGoOn, CanStepIn, StepsIn, ReclaimGoesOn, Tries}
use Rattle.pk_gc.proofs.Counting.{read_falls, program_falls, begin_falls}

-- ---- live pages

live_behind : (x : ℕ) (xs : List ℕ) (page n : ℕ) → live_from (x ∷ xs) (suc page) n ≡ live_from xs page n
live_behind x xs page zero = refl
live_behind x xs page (suc n) = ap (λ k. slice_index xs page + live_from (x ∷ xs) k n) (next page) ∙ ap (λ k. slice_index xs page + k) (live_behind x xs (page + 1) n)
  where
    next : (a : ℕ) → suc a + 1 ≡ suc (a + 1)
    next a = omega arith

live_none : (page n : ℕ) → live_from [] page n ≡ 0
live_none page zero = refl
live_none page (suc n) = let rest = live_none (page + 1) n in omega (arith, rest)

live_first : (xs : List ℕ) (n : ℕ) → live_from xs 0 n ≡ sum (take n xs)
live_first [] zero = refl
live_first [] (suc n) = live_none 0 (suc n)
live_first (x ∷ xs) zero = refl
live_first (x ∷ xs) (suc n) =
    let rest = live_behind x xs 0 n in
    let more = live_first xs n in
    let all = sum_by-cons (λ y. y) x (take n xs) in
    omega (arith, rest, more, all)

pub live_of_block : LiveOfBlock
live_of_block xs zero n = live_first xs n
live_of_block [] (suc page) n = live_none (suc page) n ∙ none n
  where
    none : (n : ℕ) → 0 ≡ sum (take n [])
    none zero = refl
    none (suc n) = refl
live_of_block (x ∷ xs) (suc page) n = live_behind x xs page n ∙ live_of_block xs page n

-- at the start all live pages of the victim are unseen
live_at_start : (shape : Shape) (heads : List ℕ) (victim output : ℕ) → live_unseen shape heads (started victim output) ≡ block_sum heads shape.block_pages victim
live_at_start shape heads victim output =
    let n : ℕ = shape.block_pages in
    let page : unseen shape (started victim output) ≡ victim * n = omega arith in
    let size : victim * n + n - victim * n ≡ n = omega arith in
    ap (λ k. live_from heads k (victim * n + n - k)) page ∙ ap (live_from heads (victim * n)) size ∙ live_of_block heads (victim * n) n

-- ---- the victim

chosen_pages : (shape : Shape) (live : Values) (front : Option OpenBlock) (live' : Values) (front' : Option OpenBlock) (b : ℕ)
    → Chooses shape live front live' front' b → live'.block_pages ≡ live.block_pages
chosen_pages shape live front live' front' b is = elim is.1 [ inl same ↦ ap (λ (v : Values). v.block_pages) same.0 | inr closed ↦ ap (λ (v : Values). v.block_pages) closed.0 ]

-- it is a block for values
victim_held : (shape : Shape) (live : Values) (front : Option OpenBlock) (pool : Blocks) (live' : Values) (front' : Option OpenBlock) (b : ℕ)
    → IsFull shape live front pool → Chooses shape live front live' front' b → HoldsValues pool b
victim_held shape live front pool live' front' b full is = elim is.1 [
  | inl same ↦ full.closed_owned b (subst (λ (v : Values). IsClosed v b) same.0 is.0.least.closed)
  | inr closed ↦ behind front full.open_owned (subst (λ (v : Values). IsClosed v b) closed.0 is.0.least.closed)
]
  where
    behind : (o : Option OpenBlock) → MatchOption o (Unit {0}) (λ x. HoldsValues pool x.block) → slice_get (closed_with o live.closed) b ≡ Some true → HoldsValues pool b
    behind None owned there = full.closed_owned b there
    behind (Some o) owned there = elim (cases_eq b o.block) [
      | inl same ↦ subst (λ k. HoldsValues pool k) (sym same) owned
      | inr other ↦ full.closed_owned b (sym (get-set_other live.closed o.block b true other) ∙ there)
    ]

-- ---- what remains

lowers_by : (left before left' behind a u : ℕ) → left' ≡ a → behind ≡ u → before ≤ u → a + u < left + before → Lowers left before left' behind
lowers_by left before left' behind a u same_left same_unready none less = record { none_ready = omega (arith, same_unready, none); less = omega (arith, same_left, same_unready, less) }

module _ (job : JobState) (h : Hands) (old : BoardState) (job' : JobState) (h' : Hands) (new : BoardState) where
  abbrev heads : List ℕ
  heads = h.live.heads

  abbrev LowersFrom : ℕ → Type 0
  LowersFrom left = Lowers left (unready h.pool.states) (left_behind job' h') (unready h'.pool.states)

  -- if the job and the hands are these
  become : (left : ℕ) (next : JobState) (hands : Hands) → job' ≡ next → h' ≡ hands → unready h.pool.states ≤ unready hands.pool.states
      → left_behind next hands + unready hands.pool.states < left + unready h.pool.states → LowersFrom left
  become left next hands job_is hands_are none less =
      lowers_by left (unready h.pool.states) (left_behind job' h') (unready h'.pool.states) (left_behind next hands) (unready hands.pool.states)
      (λ i. left_behind (job_is i) (hands_are i)) (ap (λ (x : Hands). unready x.pool.states) hands_are) none less

  -- a block is freed
  given : (left victim : ℕ) (next : JobState) (hands : Hands) → next.phase ≡ Idle → hands.pool ≡ with_state h.pool victim Free
      → job' ≡ next → h' ≡ hands → (owned : IsOwned h.pool victim) → 0 < left → LowersFrom left
  given left victim next hands idle pool_is job_is hands_are owned some =
      let same : unready hands.pool.states ≡ unready h.pool.states = ap (λ (p : Blocks). unready p.states) pool_is ∙ given_back h.pool.states victim owned.0 owned.1 in
      let none : left_behind next hands ≡ 0 = ap (λ (p : Phase). unwrap_or (left_in next.shape hands.live.heads p) 0) idle in
      become left next hands job_is hands_are (omega (arith, same)) (omega (arith, same, none, some))

  module _ (c : Course) (on : CanGoOn c job h old.pages) where
    abbrev left : ℕ
    left = steps_left job.shape heads c

    tries : (r : Reclaimed) → Tries c job h old job' h' new r → r ≢ NeedsFreeze → LowersFrom left
    tries Worked is free =
        let made = is.finishes in
        become left (record job { phase = Commits c.victim; entries = entries_left heads job.moves; page = job'.page }) _ made.job_is made.hands
        (omega arith) (more (c.left + live_unseen job.shape heads c) _ (unready h.pool.states))
      where
        more : (pages less u : ℕ) → 2 + u < (pages - less) + pages + 2 * 0 + 3 + u
        more pages less u = omega arith
    tries NeedsFreeze is free = absurd (free refl)
    tries Ended is free =
        let made = is.finishes in
        let end = on.end is.whole is.dead in
        given left c.victim (record job { phase = Idle; entries = [] }) _ refl refl made.job_is made.hands end.owned (omega arith)

    goes_on : (r : Reclaimed) → ReclaimGoesOn c job h old job' h' new r → r ≢ NeedsFreeze → LowersFrom left
    goes_on r (inl copy) free = elim copy.2 [
      | inl programs ↦
          become left (record job { phase = Copies (programmed c); entries = [] }) h programs.job_is copy.1 (omega arith)
          (let falls = program_falls job.shape heads c programs.held (on.runs.held_is programs.held).0 in omega (arith, falls))
      | inr others ↦ elim others [
        | inl reads ↦
            become left (record job { phase = Copies (read_next c); entries = []; page = job'.page }) h reads.job_is copy.1
            (omega arith) (let falls = read_falls job.shape heads c reads.free reads.some in omega (arith, falls))
        | inr begins ↦
            let next = on.next begins.whole begins.page begins.inside.0 begins.inside.1 begins.head begins.first in
            let key = next.1.0 in
            let place = next.1.1 in
            let is = next.1.2 in
            let count = next.1.3 in
            let falls = begin_falls job.shape heads c begins.page (charge job.shape place.len) begins.free begins.whole
            (charge_some job.shape on.runs.is_shape place.len) begins.inside.0 is.inside count in
            become left _ h (begins.job_is on.es key place is) copy.1 (omega arith) (omega (arith, falls))
      ]
    ]
    goes_on r (inr at_end) free = tries r at_end free

  begins_by : job.phase ≡ Idle → (r : Reclaimed) → IsFull job.shape h.live h.front h.pool
      → Begins job h.live h.front h.pool old job' h'.live h'.front h'.pool new r → r ≢ NeedsFreeze → LowersFrom (whole_reclaim job.shape - 2)
  begins_by idle Worked full is free =
      let left' : ℕ = steps_left job.shape h'.live.heads (started is.victim is.output) in
      let n : h'.live.block_pages ≡ job.shape.block_pages = chosen_pages job.shape h.live h.front h'.live h'.front is.victim is.chooses ∙ full.block_pages_is in
      let few : block_sum h'.live.heads job.shape.block_pages is.victim ≤ dense job.shape = subst (λ k. block_sum h'.live.heads k is.victim ≤ dense job.shape) n is.chooses.0.sparse in
      let all = live_at_start job.shape h'.live.heads is.victim is.output in
      let within : left' + 2 ≤ whole_reclaim job.shape - 2 = pages_within (live_unseen job.shape h'.live.heads (started is.victim is.output)) (dense job.shape) (omega (arith, few, all)) in
      let pays = take_pays h.pool is.output for_values (whole_reclaim job.shape - 2) left' is.spare within in
      lowers_by (whole_reclaim job.shape - 2) (unready h.pool.states) (left_behind job' h') (unready h'.pool.states) left' (unready (with_state h.pool is.output (Owned for_values)).states)
      (ap (λ (j : JobState). left_behind j h') is.job_is) (ap (λ (p : Blocks). unready p.states) is.taken) pays.none_ready pays.less
    where
      pages_within : (pages most : ℕ) → pages ≤ most → (0 + pages - 0) + (0 + pages) + 2 * 0 + 3 + 2 ≤ most + most + 2 * 1 + 8 - 2
      pages_within pages most few = omega (arith, few)
  begins_by idle NeedsFreeze full is free = absurd is
  begins_by idle Ended full is free =
      let held = victim_held job.shape h.live h.front h.pool is.chosen h'.front is.victim full is.chooses in
      given (whole_reclaim job.shape - 2) is.victim job h' idle is.given is.kept refl (for_values, held) (omega arith)

pub step_lowers : StepLowers
step_lowers job h old job' h' new r can steps free = by_phase job.phase refl can steps
  where
    by_phase : (p : Phase) → job.phase ≡ p → CanStepIn p job h old.pages → StepsIn p job h old job' h' new r
        → Lowers (left_of (whole_reclaim job.shape - 2) (left_in job.shape h.live.heads p)) (unready h.pool.states) (left_behind job' h') (unready h'.pool.states)
    by_phase Idle idle full begun = begins_by job h old job' h' new idle r full begun.0 free
    by_phase (Copies c) is on gone = goes_on job h old job' h' new c on r gone free
    by_phase (Commits victim) is half ends =
        become job h old job' h' new (steps_of (reclaim_rest 0 false 2)) (record job { phase = GivesBack victim; entries = []; page = job'.page })
        (record h { epoch = h'.epoch }) ends.job_is ends.hands (omega arith) (omega arith)
    by_phase (GivesBack victim) is owned gives = given job h old job' h' new (steps_of (reclaim_rest 0 false 1)) victim
        (record job { phase = Idle; entries = [] }) _ refl refl gives.job_is gives.hands owned (omega arith)
