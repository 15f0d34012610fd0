-- Which background step is due, by what is known of a drive.
use Rattle.std.proofs.Common.{◌≡◌, ◌⊎◌, inl, inr, ℕ, ◌+◌, ◌≤◌, refl, sym, ap, subst, ◌∙◌, arith, Bool, true, false, length, if◌then◌else◌}
use Rattle.std.{specs.Prelude.not, specs.Prelude.◌==◌, specs.Prelude.count_by, proofs.lemmas.Bool.eqb-true}
use Rattle.pk_base.proofs.Logic.{not_both}
use Rattle.pk_nand.specs.BoardState.{BoardState}
use Rattle.pk_pool.{specs.Blocks.Blocks, specs.Blocks.is_free, specs.Blocks.is_ready, specs.Unready.unready, proofs.Sharing.count-set}
use Rattle.pk_pool.specs.declared.state.BlockState.TheVariants.{Free, Ready}
use Rattle.pk_compact.specs.FreezeSteps.{taken_by}
use Rattle.pk_schedule.{specs.Index.Index, specs.Steps.has_no_merge}
use Rattle.pk_level.specs.Arenas.{unfilled}
use Rattle.pk_gc.specs.Stepping.{runs_in}
use Rattle.pk_parts.specs.Parts.{Parts, frames_of, index_of, is_half, is_reclaim_due}
use Rattle.pk_background.{specs.Filling.FillsSpare, specs.Filling.lacks_frames, specs.Ticking.WantsFreeze, specs.Ticking.WantsReclaim, specs.Ticking.wants_reclaim, proofs.Results.neither}
use Rattle.pk_background.specs.Order.{Due, pair, merge, freeze, reclaim, start, fill, erase, nothing, due_step, MakesDue, MergeMade, FreezeMade, ReclaimMade, EraseMade}

-- the first of the steps that applies
abbrev first : Bool → Bool → Bool → Bool → Bool → Bool → Bool → Due
first half merged rests runs due lacks erased =
    if half then pair
    else if not merged then merge
    else if not rests then freeze
    else if runs then reclaim
    else if due then start
    else if lacks then fill
    else if not erased then erase
    else nothing

abbrev is_nothing : Due → Bool
is_nothing nothing = true
is_nothing k = false

pub not_zero : (n : ℕ) → 1 ≤ n → (n == 0) ≡ false
not_zero n less = by (n == 0) refl
  where
    by : (b : Bool) → (n == 0) ≡ b → (n == 0) ≡ false
    by false e = e
    by true e = absurd (let none = eqb-true n 0 e in omega (arith, less, none))

module _ (d : Parts) where
  some_due : (k : Due) → is_nothing k ≡ false → due_step d ≡ k → due_step d ≡ nothing → ⊥
  some_due k some is none = not_both (is_nothing k) (ap is_nothing (sym is ∙ none)) some

  due_pair : is_half d ≡ true → due_step d ≡ pair
  due_pair half = λ i.
      first (half i) (has_no_merge (index_of d)) (length (taken_by d.schedule.freeze) == 0) (runs_in d.reclaim.phase) (is_reclaim_due d) (lacks_frames d) (count_by is_free d.pool.states == 0)

  pub pair_due : is_half d ≡ true → due_step d ≡ nothing → ⊥
  pair_due half = some_due pair refl (due_pair half)

  module _ (half : is_half d ≡ false) where
    pub due_merge : has_no_merge (index_of d) ≡ false → due_step d ≡ merge
    due_merge busy = λ i.
        first (half i) (busy i) (length (taken_by d.schedule.freeze) == 0) (runs_in d.reclaim.phase) (is_reclaim_due d) (lacks_frames d) (count_by is_free d.pool.states == 0)

    pub merge_due : has_no_merge (index_of d) ≡ false → due_step d ≡ nothing → ⊥
    merge_due busy = some_due merge refl (due_merge busy)

    module _ (merged : has_no_merge (index_of d) ≡ true) where
      pub due_freeze : (length (taken_by d.schedule.freeze) == 0) ≡ false → due_step d ≡ freeze
      due_freeze some = λ i. first (half i) (merged i) (some i) (runs_in d.reclaim.phase) (is_reclaim_due d) (lacks_frames d) (count_by is_free d.pool.states == 0)

      module _ (frozen : (length (taken_by d.schedule.freeze) == 0) ≡ true) where
        pub due_reclaim : runs_in d.reclaim.phase ≡ true → due_step d ≡ reclaim
        due_reclaim runs = λ i. first (half i) (merged i) (frozen i) (runs i) (is_reclaim_due d) (lacks_frames d) (count_by is_free d.pool.states == 0)

        pub due_start : runs_in d.reclaim.phase ≡ false → is_reclaim_due d ≡ true → due_step d ≡ start
        due_start rests due = λ i. first (half i) (merged i) (frozen i) (rests i) (due i) (lacks_frames d) (count_by is_free d.pool.states == 0)

        due_fill : wants_reclaim d ≡ false → lacks_frames d ≡ true → due_step d ≡ fill
        due_fill reclaimed lacks =
            let none = neither (runs_in d.reclaim.phase) (is_reclaim_due d) reclaimed in
            λ i. first (half i) (merged i) (frozen i) (none.0 i) (none.1 i) (lacks i) (count_by is_free d.pool.states == 0)

        pub fill_due : wants_reclaim d ≡ false → lacks_frames d ≡ true → due_step d ≡ nothing → ⊥
        fill_due reclaimed lacks = some_due fill refl (due_fill reclaimed lacks)

        due_behind : wants_reclaim d ≡ false → lacks_frames d ≡ false → (b : Bool) → (count_by is_free d.pool.states == 0) ≡ b → due_step d ≡ (if not b then erase else nothing)
        due_behind reclaimed filled b erased =
            let none = neither (runs_in d.reclaim.phase) (is_reclaim_due d) reclaimed in
            λ i. first (half i) (merged i) (frozen i) (none.0 i) (none.1 i) (filled i) (erased i)

        pub none_due : wants_reclaim d ≡ false → lacks_frames d ≡ false → (count_by is_free d.pool.states == 0) ≡ true → due_step d ≡ nothing
        none_due reclaimed filled erased = due_behind reclaimed filled true erased

        pub erase_due : wants_reclaim d ≡ false → lacks_frames d ≡ false → 1 ≤ count_by is_free d.pool.states → due_step d ≡ nothing → ⊥
        erase_due reclaimed filled some = some_due erase refl (due_behind reclaimed filled false (not_zero (count_by is_free d.pool.states) some))

        by_reclaim : (b : Bool) → runs_in d.reclaim.phase ≡ b → WantsReclaim d → (due_step d ≡ reclaim) ⊎ (due_step d ≡ start)
        by_reclaim true runs wants = inl (due_reclaim runs)
        by_reclaim false rests (inl runs) = absurd (not_both (runs_in d.reclaim.phase) runs rests)
        by_reclaim false rests (inr due) = inr (due_start rests due)

        pub reclaim_due : WantsReclaim d → due_step d ≡ nothing → ⊥
        reclaim_due wants = elim (by_reclaim (runs_in d.reclaim.phase) refl wants) [
          | inl is ↦ some_due reclaim refl is
          | inr is ↦ some_due start refl is
        ]

      freeze_due_at : (b : Bool) → (length (taken_by d.schedule.freeze) == 0) ≡ b → WantsFreeze d → due_step d ≡ nothing → ⊥
      freeze_due_at false some wants = some_due freeze refl (due_freeze some)
      freeze_due_at true none (inl some) = absurd (not_both (length (taken_by d.schedule.freeze) == 0) none some)
      freeze_due_at true none (inr wants) = some_due reclaim refl (due_reclaim none wants.0)

      pub freeze_due : WantsFreeze d → due_step d ≡ nothing → ⊥
      freeze_due wants = freeze_due_at (length (taken_by d.schedule.freeze) == 0) refl wants

  -- ---- what is made

  module _ (d' : Parts) (old new : BoardState) where
    abbrev Made : Due → Type 0
    Made k = MakesDue k d d' old new

    pub makes_pair : is_half d ≡ true → Made pair → Made (due_step d)
    makes_pair half is = subst Made (sym (due_pair half)) is

    module _ (half : is_half d ≡ false) where
      pub makes_merge : has_no_merge (index_of d) ≡ false → Made merge → Made (due_step d)
      makes_merge busy is = subst Made (sym (due_merge half busy)) is

      module _ (merged : has_no_merge (index_of d) ≡ true) where
        makes_freeze_at : (b : Bool) → (length (taken_by d.schedule.freeze) == 0) ≡ b → WantsFreeze d → FreezeMade d d' → Made (due_step d)
        makes_freeze_at false some wants is = subst Made (sym (due_freeze half merged some)) is
        makes_freeze_at true none (inl some) is = absurd (not_both (length (taken_by d.schedule.freeze) == 0) none some)
        makes_freeze_at true none (inr wants) is = subst Made (sym (due_reclaim half merged none wants.0)) (inr (wants.1, is))

        pub makes_freeze : WantsFreeze d → FreezeMade d d' → Made (due_step d)
        makes_freeze wants is = makes_freeze_at (length (taken_by d.schedule.freeze) == 0) refl wants is

        module _ (frozen : (length (taken_by d.schedule.freeze) == 0) ≡ true) where
          pub makes_reclaim : WantsReclaim d → ReclaimMade d d' → Made (due_step d)
          makes_reclaim wants is = elim (by_reclaim half merged frozen (runs_in d.reclaim.phase) refl wants) [
            | inl here ↦ subst Made (sym here) (inl is)
            | inr here ↦ subst Made (sym here) is
          ]

          pub makes_fill : wants_reclaim d ≡ false → lacks_frames d ≡ true → Made fill → Made (due_step d)
          makes_fill reclaimed lacks is = subst Made (sym (due_fill half merged frozen reclaimed lacks)) is

          pub makes_erase : wants_reclaim d ≡ false → lacks_frames d ≡ false → 1 ≤ count_by is_free d.pool.states → Made erase → Made (due_step d)
          makes_erase reclaimed filled some is = subst Made (sym (due_behind half merged frozen reclaimed filled false (not_zero (count_by is_free d.pool.states) some))) is

    -- ---- a step of one kind is not one of another

    -- an erase gets a block ready, and no step of a reclaim does
    pub erase_no_reclaim : EraseMade d d' old new → ReclaimMade d d' → ⊥
    erase_no_reclaim is steps =
        let one = is.erases in
        let all = count-set (λ s. not (is_ready s)) d.pool.states one.block Free Ready one.lowest.here in
        let fewer : unready d'.pool.states + 1 ≡ unready d.pool.states = ap (λ (p : Blocks). unready p.states + 1) one.marked ∙ omega (arith, all) in
        let none = steps.falls.none_ready in
        omega (arith, fewer, none)

    -- a page that is read into a frame is one less to read, and no step of a freeze or of a reclaim reads one
    pub fill_no_reclaim : FillsSpare d d' old new → ReclaimMade d d' → ⊥
    fill_no_reclaim is steps =
        let less = is.fills.less in
        let same = ap (λ (e : Parts). unfilled e.levels (frames_of e)) steps.leaves in
        omega (arith, less, same)

    pub fill_no_freeze : FillsSpare d d' old new → FreezeMade d d' → ⊥
    fill_no_freeze is steps = elim steps.further [
      | inl moves ↦ (let less = is.fills.less in let same = ap (λ (x : Index). unfilled x.levels (length x.arena.used)) moves.rest in omega (arith, less, same))
      | inr ends ↦ (let less = is.fills.less in let same = ap (λ (x : Index). unfilled x.levels (length x.arena.used)) ends.rest in omega (arith, less, same))
    ]

    -- no reclaim begins, goes on or ends in a step of the merges
    pub merge_no_reclaim : MergeMade d d' → d'.reclaim ≡ d.reclaim
    merge_no_reclaim steps = ap (λ (e : Parts). e.reclaim) steps.leaves.rest
