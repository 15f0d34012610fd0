-- Room for values, and for the moves of a reclaim.
use Rattle.std.proofs.Common.{◌≡◌, inl, inr, ℕ, zero, suc, ◌+◌, ◌-◌, ◌<◌, ◌≤◌, refl, sym, ap, subst, ◌∙◌, arith, Bool, true, false, cond, List, [], ◌∷◌, length}
use Rattle.std.{specs.Prelude.nat_le, specs.Prelude.nat_lt, specs.Prelude.not, specs.Prelude.◌&&◌, specs.Prelude.◌||◌, specs.Prelude.◌==◌, proofs.lemmas.List.Sums.count_by-le-length}
use Rattle.std.proofs.lemmas.Bool.{lt-leb, lt-ltb, le-ltb, ne_eqb, cases_lt}
use Rattle.pk_base.specs.Shape.{Shape, buffer, dense, epoch_commits}
use Rattle.pk_law_work.specs.Backlog.{is_tight}
use Rattle.pk_buf.specs.Table.{Table}
use Rattle.pk_jrn.specs.Epochs.{JournalEpoch, left_of}
use Rattle.pk_law_moves.specs.Moves.{entries_of}
use Rattle.pk_gc.{specs.declared.moves.Move.Move, specs.State.is_left, specs.State.is_new, specs.State.placed_at, specs.State.left_of as moves_left}
use Rattle.pk_gc.specs.Committing.{HasRoom as MovesHaveRoom, entries_left, new_keys}
use Rattle.pk_reclaim.specs.Laws.{FreezeMakesRoom}

-- ---- for values

and_no : (b : Bool) → (b && false) ≡ false
and_no true = refl
and_no false = refl

-- if more than one block remains for values, none requires a reclaim
pub no_need : (fits : Bool) (a used : ℕ) → used < a → (not fits && nat_le a used) ≡ false
no_need fits a used less = ap (λ (b : Bool). not fits && b) (lt-leb a used less) ∙ and_no (not fits)

-- nor one that fits the open block
pub fits_need : (fits : Bool) (a used : ℕ) → fits ≡ true → (not fits && nat_le a used) ≡ false
fits_need true a used is = refl
fits_need false a used is = cc

-- ---- for moves

-- no more entries than moves
pub entries_few : (heads : List ℕ) (ms : List Move) → length (entries_left heads ms) ≤ length ms
entries_few heads [] = omega arith
entries_few heads (m ∷ ms) =
    let rest = entries_few heads ms in
    elim (is_left heads m) as (λ b. length (entries_of (placed_at (cond b (m ∷ moves_left heads ms) (moves_left heads ms)))) ≤ suc (length ms)) [
      | true ↦ omega (arith, rest)
      | false ↦ omega (arith, rest)
    ]

or_yes : (b : Bool) → (b || true) ≡ true
or_yes true = refl
or_yes false = refl

tight_if : (active k most cap left : ℕ) → ((active + k ≤ cap) × (0 < left) → ⊥) → k ≤ most → (nat_lt cap (active + most) || left == 0) ≡ true
tight_if active k most cap zero none few = or_yes (nat_lt cap (active + most))
tight_if active k most cap (suc left) none few = elim (cases_lt cap (active + k)) [
  | inl less ↦ ap (λ (b : Bool). b || suc left == 0) (lt-ltb cap (active + most) (omega (arith, less, few)))
  | inr enough ↦ absurd (none (enough, omega arith))
]

-- if the moves have no room, the active buffer or the epoch is tight
pub tight_known : (shape : Shape) (active : Table) (e : JournalEpoch) (heads : List ℕ) (ms : List Move)
    → active.capacity ≡ buffer shape → length ms ≤ dense shape → (MovesHaveRoom active e (entries_left heads ms) → ⊥)
    → is_tight shape (length active.entries) (left_of e) ≡ true
tight_known shape active e heads ms capacity few none =
    let least = entries_few heads ms in
    let counted = count_by-le-length (is_new active.entries) (entries_left heads ms) in
    tight_if (length active.entries) (new_keys active (entries_left heads ms)) (dense shape) (buffer shape) (left_of e)
    (λ room. none (subst (λ (n : ℕ). length active.entries + new_keys active (entries_left heads ms) ≤ n) (sym capacity) room.0, room.1)) (omega (arith, least, counted, few))

-- after a freeze it is not
pub freeze_makes_room : FreezeMakesRoom
freeze_makes_room shape active e is_shape none same unused more =
    let left : left_of e ≡ epoch_commits shape - 0 = λ i. cond (more i) (epoch_commits (same i) - unused i) 0 in
    let commits : epoch_commits shape ≡ shape.block_pages = refl in
    let fits = is_shape.moves_fit in
    let least = is_shape.block_least in
    let no : length active.entries ≡ 0 = ap length none in
    let small : nat_lt (buffer shape) (length active.entries + dense shape) ≡ false = le-ltb (buffer shape) (length active.entries + dense shape) (omega (arith, no, fits)) in
    let some : (left_of e == 0) ≡ false = ne_eqb (left_of e) 0 (λ is. omega (arith, is, left, commits, least)) in
    λ i. small i || some i
