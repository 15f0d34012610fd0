-- What remains of the reclaims inside a Store, and how one of their steps lowers it.
use Rattle.std.proofs.Common.{◌≡◌, ◌⊎◌, inl, inr, ℕ, ◌+◌, ◌-◌, ◌≤◌, Bool, true, false, refl, sym, ap, subst, ◌∙◌, arith, nat_le}
use Rattle.std.{specs.Prelude.◌&&◌, specs.Prelude.not, specs.Prelude.unwrap_or, proofs.lemmas.Bool.le-leb}
use Rattle.pk_base.{specs.Shape.Shape, specs.Shape.data_blocks, specs.Shape.most_pages, proofs.Logic.not_both}
use Rattle.pk_plan.specs.declared.owner.Owner.TheVariants.{Values}
use Rattle.pk_pool.{specs.Blocks.used_by, specs.Unready.unready}
use Rattle.pk_law_work.{specs.Rest.whole_reclaim, specs.Rest.left_of, specs.Rest.Lowers, specs.Calls.room_calls, specs.Calls.room_roots}
use Rattle.pk_gc.{specs.declared.course.Phase.Phase, specs.State.left_in, specs.Stepping.runs_in}
use Rattle.pk_gc.specs.declared.course.Phase.TheVariants.{Idle, Copies, Commits, GivesBack}
use Rattle.pk_log.specs.State.{LogState}
use Rattle.pk_values.specs.State.{fits_open, needs_reclaim}
use Rattle.pk_parts.specs.Parts.{Parts}
use Rattle.pk_reclaim.{specs.Space.HasRoom as HasSpace, specs.Steps.RoomBehind}
use Rattle.pk_background.specs.Reclaiming.{RunsOn, is_tight_for, space_of}
use Rattle.pk_background.specs.Spacing.{where_so, needs, steps_for, has_moves}

pub and_true : (x : Bool) → (x && true) ≡ x
and_true true = refl
and_true false = refl

-- what remains when the reclaim has come this far
abbrev pub left_at : Phase → ℕ → Parts → ℕ
left_at p count d = steps_for p count d + where_so (has_moves p count d && is_tight_for d) (room_calls d.log.shape)

-- and how many roots
abbrev pub roots_at : Phase → ℕ → Parts → ℕ
roots_at p count d = where_so (has_moves p count d && is_tight_for d) room_roots

-- from one point to a later one less remains
abbrev pub FallsTo : Phase → Parts → Phase → Parts → Type 0
FallsTo p b q c =
    Lowers (left_of (whole_reclaim b.log.shape - 2) (left_in b.log.shape b.values.live.heads p))
    (unready b.pool.states) (unwrap_or (left_in c.log.shape c.values.live.heads q) 0) (unready c.pool.states)

-- a reclaim runs, or is to run
abbrev pub AwaitsAt : Phase → ℕ → Parts → Type 0
AwaitsAt p count d = (runs_in p ≡ true) ⊎ (needs count d ≡ true)

pub tight_same : (b c : Parts) → c.log ≡ b.log → is_tight_for c ≡ is_tight_for b
tight_same b c same = ap (λ (l : LogState). is_tight_for (record b { log = l })) same

module _ (count : ℕ) (b c : Parts) (same_shape : c.log.shape ≡ b.log.shape) (most : count ≤ most_pages b.log.shape) where
  has_room : HasSpace (space_of c) → needs count c ≡ false
  has_room values = values count (subst (λ (s : Shape). count ≤ most_pages s) (sym same_shape) most)

  -- if one is to begin, and if the value has room
  whole_left : needs count b ≡ true → where_so (needs count b) (whole_reclaim b.log.shape - 1) ≡ whole_reclaim b.log.shape - 1
  whole_left wanted = ap (λ x. where_so x (whole_reclaim b.log.shape - 1)) wanted

  none_left : needs count c ≡ false → where_so (needs count c) (whole_reclaim c.log.shape - 1) ≡ 0
  none_left room = ap (λ x. where_so x (whole_reclaim c.log.shape - 1)) room

  none_room : needs count c ≡ false → (n : ℕ) → where_so (needs count c && is_tight_for c) n ≡ 0
  none_room room n = ap (λ x. where_so (x && is_tight_for c) n) room

  -- the moves may need a freeze as before
  still_tight : c.log ≡ b.log → (n : Shape → ℕ) → where_so (is_tight_for c) (n c.log.shape) ≡ where_so (is_tight_for b) (n b.log.shape)
  still_tight same n = λ i. where_so (tight_same b c same i) (n (same_shape i))

  begins : needs count b ≡ true → (n : ℕ) → where_so (needs count b && is_tight_for b) n ≡ where_so (is_tight_for b) n
  begins wanted n = ap (λ x. where_so (x && is_tight_for b) n) wanted

  -- ---- a step of a reclaim that runs on

  pub works_less : (p q : Phase) → AwaitsAt p count b → FallsTo p b q c → RunsOn q b c → 1 + left_at q count c ≤ left_at p count b
  works_less p Idle awaits falls on = absurd on
  works_less Idle q (inl runs) falls on = absurd (not_both false runs refl)
  works_less Idle (Copies d) (inr wanted) falls on =
      omega (arith, falls.less, falls.none_ready, still_tight on room_calls, whole_left wanted, begins wanted (room_calls b.log.shape))
  works_less (Copies e) (Copies d) awaits falls on = omega (arith, falls.less, falls.none_ready, still_tight on room_calls)
  works_less Idle (Commits other) (inr wanted) falls on = omega (arith, whole_left wanted)
  works_less (Copies e) (Commits other) awaits falls on = omega arith
  works_less Idle (GivesBack other) (inr wanted) falls on = omega (arith, whole_left wanted, none_left (has_room on), none_room (has_room on) (room_calls c.log.shape))
  works_less (Copies e) (GivesBack other) awaits falls on = omega (arith, none_left (has_room on), none_room (has_room on) (room_calls c.log.shape))
  works_less (Commits victim) (GivesBack other) awaits falls on = omega (arith, none_left (has_room on), none_room (has_room on) (room_calls c.log.shape))
  works_less p q awaits falls on = absurd (omega (arith, falls.less, falls.none_ready))

  -- no more roots
  pub works_roots : (p q : Phase) → AwaitsAt p count b → FallsTo p b q c → RunsOn q b c → roots_at q count c ≤ roots_at p count b
  works_roots p Idle awaits falls on = absurd on
  works_roots Idle (Copies d) (inl runs) falls on = absurd (not_both false runs refl)
  works_roots Idle (Copies d) (inr wanted) falls on = omega (arith, still_tight on (λ s. room_roots), begins wanted room_roots)
  works_roots (Copies e) (Copies d) awaits falls on = omega (arith, still_tight on (λ s. room_roots))
  works_roots p (Commits other) awaits falls on = omega arith
  works_roots p (GivesBack other) awaits falls on = omega (arith, none_room (has_room on) room_roots)
  works_roots p q awaits falls on = absurd (omega (arith, falls.less, falls.none_ready))

  -- ---- one that ends it

  full_needs : (used : ℕ) (fits : Bool) → data_blocks b.log.shape - 1 ≤ used → not fits && nat_le (data_blocks b.log.shape - 1) used ≡ not fits
  full_needs used fits full = ap (λ x. not fits && x) (le-leb (data_blocks b.log.shape - 1) used full) ∙ and_true (not fits)

  -- a value needs a reclaim as before, if a block is freed
  needs_same : (victim : ℕ) → (runs_in (GivesBack victim) ≡ true → used_by Values b.pool.states ≡ data_blocks b.log.shape)
      → used_by Values c.pool.states + 1 ≡ used_by Values b.pool.states → RoomBehind (GivesBack victim) (space_of b) (space_of c) → needs count c ≡ needs count b
  needs_same victim full given from =
      let all = full refl in
      let before : needs count b ≡ not (fits_open b.log.shape b.values count) = full_needs (used_by Values b.pool.states) (fits_open b.log.shape b.values count) (omega (arith, all)) in
      let after : needs_reclaim b.log.shape b.values c.pool count ≡ not (fits_open b.log.shape b.values count) = full_needs
      (used_by Values c.pool.states) (fits_open b.log.shape b.values count) (omega (arith, all, given)) in
      (λ i. needs_reclaim (same_shape i) (from.1 i) c.pool count) ∙ (after ∙ sym before)

  pub ends_less : (p : Phase) → AwaitsAt p count b → (runs_in p ≡ true → used_by Values b.pool.states ≡ data_blocks b.log.shape) → used_by Values c.pool.states + 1 ≡ used_by Values b.pool.states
      → RoomBehind p (space_of b) (space_of c) → 1 + left_at Idle count c ≤ left_at p count b
  ends_less Idle (inl runs) full given from = absurd (not_both false runs refl)
  ends_less Idle (inr wanted) full given from = omega (arith, whole_left wanted, none_left (has_room from), none_room (has_room from) (room_calls c.log.shape))
  ends_less (Copies e) awaits full given from = omega (arith, none_left (has_room from), none_room (has_room from) (room_calls c.log.shape))
  ends_less (Commits victim) awaits full given from = absurd from
  ends_less (GivesBack victim) awaits full given from =
      let same = needs_same victim full given from in
      let steps : where_so (needs count c) (whole_reclaim c.log.shape - 1) ≡ where_so (needs count b) (whole_reclaim b.log.shape - 1) = λ i. where_so (same i) (whole_reclaim (same_shape i) - 1) in
      let moves : where_so (needs count c && is_tight_for c) (room_calls c.log.shape) ≡ where_so (needs count b && is_tight_for b)
      (room_calls b.log.shape) = λ i. where_so (same i && tight_same b c from.0 i) (room_calls (same_shape i)) in
      omega (arith, steps, moves)

  -- no more roots
  pub ends_roots : (p : Phase) → AwaitsAt p count b → (runs_in p ≡ true → used_by Values b.pool.states ≡ data_blocks b.log.shape) → used_by Values c.pool.states + 1 ≡ used_by Values b.pool.states
      → RoomBehind p (space_of b) (space_of c) → roots_at Idle count c ≤ roots_at p count b
  ends_roots (Commits victim) awaits full given from = absurd from
  ends_roots (GivesBack victim) awaits full given from =
      let same = needs_same victim full given from in
      let moves : where_so (needs count c && is_tight_for c) room_roots ≡ where_so (needs count b && is_tight_for b) room_roots = λ i. where_so (same i && tight_same b c from.0 i) room_roots in
      omega (arith, moves)
  ends_roots p awaits full given from = omega (arith, none_room (has_room from) room_roots)
