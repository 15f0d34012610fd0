-- A step of a freeze of a log.
use Rattle.std.proofs.Common.{◌≡◌, ℕ, ◌-◌, ◌+◌, ◌*◌, ◌/◌, ◌<◌, ◌≤◌, refl, sym, ap, subst, ◌∙◌, arith, Bool, true, false, not, ◌==◌, List, [], ◌∷◌, ◌++◌, length, reverse, nat_lt, slice_index}
use Rattle.std.proofs.Common.{if◌then◌else◌, append-nil, mul-le-mul_right}
use Rattle.std.{specs.List.concat, proofs.lemmas.Nat.div-mul-add}
use Rattle.pk_base.{specs.Page.Flash, specs.Page.page_at, specs.Entry.Entry, specs.Firsts.firsts, specs.Map.Map}
use Rattle.pk_law_work.specs.Rest.{Lowers}
use Rattle.pk_plan.specs.declared.owner.Owner.TheVariants.{Journal}
use Rattle.pk_nand.specs.BoardState.{BoardState}
use Rattle.pk_space.specs.Entries.{in_spaces}
use Rattle.pk_rootfmt.{specs.Root.Root, specs.Root.named, specs.Held.Held, specs.Held.two_of}
use Rattle.pk_root.specs.declared.next.Next.{Next}
use Rattle.pk_buf.specs.Table.{Table}
use Rattle.pk_jrn.{specs.Epochs.started, specs.Epochs.AreErased, specs.Epochs.EpochOnFlash, specs.Replays.buffer_of, proofs.Puts.firsts-reverse}
use Rattle.pk_model.{specs.Found.Found, specs.RootLimits.root_spaces, proofs.Commits.blocks_of_root, proofs.Commits.member, proofs.SamePages.any_front}
use Rattle.pk_pool.{specs.declared.state.BlockState.TheVariants.Leaving, specs.Blocks.Blocks, specs.Blocks.PoolOnFlash, specs.Blocks.with_state, specs.Blocks.given_back, specs.Blocks.left_by}
use Rattle.pk_pool.{specs.Unready.unready, proofs.Leaving.left_unready, proofs.States.get-set_other}
use Rattle.pk_law_steps.{specs.Roots.frozen, specs.Roots.frozen_root, proofs.NewestBlocks.valid_root, proofs.Places.In, proofs.UnderRoot.none_named}
use Rattle.pk_compact.{specs.Freezing.IsApart, specs.declared.freezing.FreezeJob.FreezeJob, proofs.TakingOne.all_in, proofs.Pairs.two_are, proofs.Pairs.two_same}
use Rattle.pk_compact.specs.FreezeSteps.{IsFreezing, IsTaken, AreOwned, FreezeGoesOn, FreezeInstalled, FreezeSteps, taken_by, freeze_left}
use Rattle.pk_log.{specs.State.LogState, specs.Logs.LogOnFlash, specs.FreezeSteps.freeze_begun, specs.FreezeSteps.CanStep, specs.FreezeSteps.LogGoesOn, specs.FreezeSteps.LogFrozen}
use Rattle.pk_log.{proofs.Buffers.none_of_firsts, proofs.Buffers.tells_some, proofs.Buffers.two_erased, proofs.Standing.epoch_stays, proofs.Standing.stands_on}

-- what a step did, by its answer
module _ (pool : Blocks) (held : Held) (next : Next) (job : FreezeJob) (old : BoardState) (has_entries : Bool)
    (pool' : Blocks) (root' : Held) (next' : Next) (job' : FreezeJob) (new : BoardState) (answer : Bool)
    (steps : FreezeSteps pool held next job old has_entries answer pool' root' next' job' new) (top : ℕ × Root)
    (found : Found) (m : Map) (is : IsFreezing pool held next job old.pages has_entries top found m) where
  pub installed_by : answer ≡ true → FreezeInstalled pool held next job old has_entries top found m pool' root'.root next' job' new
  installed_by e = let P : Bool → Type 0 = λ b. FreezeSteps pool held next job old has_entries b pool' root' next' job' new in subst P e steps top found m is

  pub goes_on_by : answer ≡ false → FreezeGoesOn pool held next job old has_entries top found m pool' root' next' job' new
  goes_on_by e = let P : Bool → Type 0 = λ b. FreezeSteps pool held next job old has_entries b pool' root' next' job' new in subst P e steps top found m is

-- the blocks of an epoch leave, or are unchanged: as many blocks are not ready
same_unready : (h : Bool) (pool : Blocks) (blocks : List ℕ) → AreOwned pool blocks
    → unready (left_by Journal pool (if h then [] else slice_index blocks 0 ∷ slice_index blocks 1 ∷ [])).states ≡ unready pool.states
same_unready true pool blocks are = refl
same_unready false pool blocks are =
    let still = get-set_other pool.states (slice_index blocks 0) (slice_index blocks 1) (Leaving Journal) are.different ∙ are.second in
    let one = left_unready pool.states (slice_index blocks 0) Journal Journal are.first in
    let other = left_unready (with_state pool (slice_index blocks 0) (Leaving Journal)).states (slice_index blocks 1) Journal Journal still in
    other ∙ one

-- which blocks, by the entries of the epoch
which : (h b : Bool) (xs : List ℕ) → b ≡ not h → (if h then [] else xs) ≡ (if b then xs else [])
which true false xs e = refl
which false true xs e = refl
which true true xs e = absurd (let x : ⊥ = cc in x)
which false false xs e = absurd (let x : ⊥ = cc in x)

module _ (log : LogState) (pool : Blocks) (job : FreezeJob) (old : BoardState) (top : ℕ × Root) (found : Found) (m : Map) (can : CanStep log pool job old.pages top found m) where
  abbrev has_entries : Bool
  has_entries = nat_lt 0 (length log.active.entries)

  abbrev held : Held
  held = record { shape = log.shape; root = log.root }

  -- ---- before the step

  none_older : found.older ≡ []
  none_older =
      let same : log.frozen.entries ≡ firsts (reverse found.older) = ap (λ (t : Table). t.entries) can.logs.frozen_is in
      none_of_firsts found.older (sym (firsts-reverse found.older) ∙ ap length (sym same ∙ can.none_frozen))

  told : (length found.newest == 0) ≡ not has_entries
  told =
      let keys : length log.active.entries ≡ length (firsts found.newest) =
      ap (λ (t : Table). length t.entries) can.logs.active_is
      ∙ ap (λ (es : List Entry). length (firsts (reverse (found.newest ++ es)))) can.none_pending
      ∙ ap (λ (es : List Entry). length (firsts (reverse es))) (append-nil found.newest)
      ∙ firsts-reverse found.newest
      in
      tells_some found.newest (length log.active.entries) keys

  pub is_freezing : IsFreezing pool held log.next job old.pages has_entries top found m
  is_freezing =
      let logs = can.logs in
      let named_none : top.1.older ≡ [] = none_named log.shape (page_at old.pages) top.1 found logs.is_found none_older in
      search (sym logs.root_is, none_older, ap (λ (r : Root). r.older) logs.root_is ∙ named_none, told)

  -- ---- the freeze goes on

  module _ (pool' : Blocks) (root' : Held) (next' : Next) (job' : FreezeJob) (new : BoardState) (on : FreezeGoesOn pool held log.next job old has_entries top found m pool' root' next' job' new) where
    by_held : IsFreezing pool' held next' job' new.pages has_entries top found m
    by_held = let P : Held → Type 0 = λ h. IsFreezing pool' h next' job' new.pages has_entries top found m in subst P on.same_root on.still

    -- no page of the newest epoch differs
    in_epoch : (n k : ℕ) → n < 2 → slice_index top.1.newest n * log.shape.block_pages ≤ k
        → k < slice_index top.1.newest n * log.shape.block_pages + log.shape.block_pages → page_at new.pages k ≡ page_at old.pages k
    in_epoch n k small low high =
        let blocks = blocks_of_root log.shape top.1 (valid_root log.shape (page_at old.pages) top can.logs.is_top) in
        let two : length top.1.newest ≡ 2 = blocks.two in
        let b : ℕ = slice_index top.1.newest n in
        let rest : k - b * log.shape.block_pages < log.shape.block_pages = omega (arith, low, high) in
        let all : b * log.shape.block_pages + (k - b * log.shape.block_pages) ≡ k = omega (arith, low) in
        let here : k / log.shape.block_pages ≡ b = ap (λ x. x / log.shape.block_pages) (sym all) ∙ div-mul-add b log.shape.block_pages (k - b * log.shape.block_pages) rest in
        let twice : 2 * log.shape.block_pages ≤ b * log.shape.block_pages = mul-le-mul_right log.shape.block_pages (blocks.beyond n small) in
        let among : In b top.1.newest = member top.1.newest n (omega (arith, small, two)) in
        let is_named : In b (named log.root) = let P : Root
        → Type 0 = λ r. In b (named r) in subst P (sym can.logs.root_is)
        (any_front (λ c. b ≡ c) (top.1.newest ++ top.1.older) (concat top.1.runs) (any_front (λ c. b ≡ c) top.1.newest top.1.older among)) in
        on.elsewhere k (omega (arith, twice, low))
        (λ taken. (all_in (IsTaken log.shape pool' new.pages log.root) (taken_by job') b by_held.taken (subst (λ x. In x (taken_by job')) here taken)).unnamed is_named)

    still_logs : LogOnFlash (record log { next = next' }) new.pages top found
    still_logs = stands_on log next' old.pages new.pages top found can.logs by_held.under.is_top by_held.under.is_found by_held.installs
        (epoch_stays log old.pages new.pages top found can.logs (λ n small k low high. in_epoch n k small low high))

    goes_on : LogGoesOn log pool job old top found m (record log { next = next' }) pool' job' new
    goes_on = record {
      still = search (
        still_logs,
        by_held.whole,
        can.none_pending,
        can.none_frozen,
        by_held.under,
        by_held.pool_shape,
        by_held.pool_fits,
        can.number,
        by_held.room,
        by_held.owned,
        by_held.apart,
        by_held.taken,
        by_held.different,
      );
      same_log = refl;
      lowers = on.lowers;
      takes = on.takes;
      some = on.some;
      elsewhere = on.elsewhere;
      cuts = on.cuts;
    }

    pub log_goes_on : (log' : LogState) → log' ≡ record log { shape = root'.shape; root = root'.root; next = next' } → LogGoesOn log pool job old top found m log' pool' job' new
    log_goes_on log' is =
        let P : LogState → Type 0 = λ l. LogGoesOn log pool job old top found m l pool' job' new in
        let Q : Held → Type 0 = λ h. LogGoesOn log pool job old top found m (record log { shape = h.shape; root = h.root; next = next' }) pool' job' new in
        subst P (sym is) (subst Q (sym on.same_root) goes_on)

  -- ---- the freeze is made

  module _ (middle : Blocks) (root' : Root) (next' : Next) (job' : FreezeJob) (new : BoardState)
      (done : FreezeInstalled pool held log.next job old has_entries top found m middle root' next' job' new) where
    newest_two : length log.root.newest ≡ 2
    newest_two = search (blocks_of_root, valid_root)

    -- what `retire_epoch` asks for
    pub former_owned : (former : List ℕ) → former ≡ two_of log.root.newest → AreOwned middle former
    former_owned former told_by =
        let P : List ℕ → Type 0 = λ xs. AreOwned middle xs in
        let Q : Blocks → Type 0 = λ p. AreOwned p (two_of log.root.newest) in
        subst P (sym told_by) (subst Q (sym done.same_pool) done.former)

    module _ (former : List ℕ) (pool' : Blocks) (told_by : former ≡ two_of log.root.newest)
        (given : pool' ≡ left_by Journal middle (if has_entries then [] else slice_index former 0 ∷ slice_index former 1 ∷ []))
        (fits : PoolOnFlash middle new.pages → PoolOnFlash pool' new.pages) where
      given_two : pool' ≡ left_by Journal pool (if has_entries then [] else slice_index (two_of log.root.newest) 0 ∷ slice_index (two_of log.root.newest) 1 ∷ [])
      given_two = search

      two_newest : slice_index (two_of log.root.newest) 0 ∷ slice_index (two_of log.root.newest) 1 ∷ [] ≡ log.root.newest
      two_newest = ap (λ xs. slice_index xs 0 ∷ slice_index xs 1 ∷ []) (two_same log.root.newest newest_two) ∙ two_are log.root.newest newest_two

      pool_is : pool' ≡ left_by Journal pool (if length found.newest == 0 then top.1.newest else [])
      pool_is = given_two
          ∙ ap (λ xs. left_by Journal pool (if has_entries then [] else xs)) (two_newest ∙ ap (λ (r : Root). r.newest) can.logs.root_is)
          ∙ ap (λ xs. left_by Journal pool xs) (which has_entries (length found.newest == 0) top.1.newest told)

      module _ (blocks : List ℕ) (blocks_are : blocks ≡ two_of root'.newest)
          (starts : (flash : Flash) → AreErased log.shape flash blocks → EpochOnFlash (started log.shape root'.epoch blocks) flash) where
        these : blocks ≡ done.first ∷ done.second ∷ []
        these = blocks_are ∙ ap (λ (r : Root). two_of r.newest) done.root_is

        stands_begun : LogOnFlash (freeze_begun log root' next' blocks) new.pages (done.page, root') (frozen found)
        stands_begun =
            let logs = can.logs in
            record {
              is_shape = logs.is_shape;
              is_top = done.under.is_top;
              root_is = refl;
              is_found = done.under.is_found;
              installs = done.installs;
              epoch_shape = refl;
              epoch_number = refl;
              epoch_blocks = these ∙ sym (ap (λ (r : Root). r.newest) done.root_is);
              epoch_fits = starts new.pages (subst (λ (bs : List ℕ). AreErased log.shape new.pages bs)
                  (sym these) (two_erased log.shape new.pages done.first done.second done.first_erased done.second_erased));
              active_is = logs.frozen_is ∙ ap (buffer_of log.shape) (none_older ∙ sym can.none_pending);
              frozen_is = logs.active_is ∙ ap (buffer_of log.shape) (ap (λ (es : List Entry). found.newest ++ es) can.none_pending ∙ append-nil found.newest);
              pending_are = logs.pending_are;
              spaced = ap (in_spaces (root_spaces log.shape root')) can.none_pending;
              pending_few = logs.pending_few;
              pending_room = λ some. absurd (some can.none_pending);
              pending_whole = λ some. absurd (some can.none_pending);
            }

        made : LogFrozen log pool job old top found m (freeze_begun log root' next' blocks) pool' job' new
        made =
            let W : List ℕ → Type 0 = λ bs. IsApart log.shape (given_back pool bs) root' (frozen found) in
            let bs_are : (if has_entries then [] else slice_index (two_of log.root.newest) 0 ∷ slice_index (two_of log.root.newest) 1 ∷ []) ≡ (if length found.newest == 0 then top.1.newest else []) =
            ap (λ xs. if has_entries then [] else xs) (two_newest ∙ ap (λ (r : Root). r.newest) can.logs.root_is) ∙ which has_entries (length found.newest == 0) top.1.newest told in
            let same : unready pool'.states ≡ unready pool.states = ap (λ (p : Blocks). unready p.states) given_two ∙ same_unready has_entries pool (two_of log.root.newest) done.former in
            let middle_same : unready middle.states ≡ unready pool.states = ap (λ (p : Blocks). unready p.states) done.same_pool in
            let L : ℕ → Type 0 = λ u. Lowers (freeze_left job log.next) (unready pool.states) 1 u in
            search (
              ap (λ (r : Root). freeze_begun log r next' blocks) done.root_is ∙ ap (λ bs. freeze_begun log (frozen_root top.1 found done.first done.second) next' bs) these,
              stands_begun,
              ap taken_by done.was,
              done.done,
              fits done.pool_fits,
              pool_is,
              subst W bs_are done.apart,
              subst L (middle_same ∙ sym same) done.lowers,
            )

        pub log_frozen : (log' : LogState) → log' ≡ freeze_begun log root' next' blocks → LogFrozen log pool job old top found m log' pool' job' new
        log_frozen log' is = let P : LogState → Type 0 = λ l. LogFrozen log pool job old top found m l pool' job' new in subst P (sym is) made
