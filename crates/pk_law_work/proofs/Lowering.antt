-- Each step lowers the work.
use Rattle.std.proofs.Common.{◌≡◌, inl, inr, ℕ, zero, suc, ◌+◌, ◌-◌, ◌<◌, ◌≤◌, arith, refl, sym, ap, subst, Bool, true, false}
use Rattle.std.specs.Prelude.{Option, Some, None, unwrap_or, ◌==◌, nat_le, slice_index, min}
use Rattle.pk_base.{specs.Shape.Shape, specs.Shape.buffer, specs.Merge.room, specs.Merge.next_merge}
use Rattle.pk_law_work.{specs.Rest.left_of, specs.Rest.whole_merge, specs.Rest.whole_freeze, specs.Backlog.Backlog, specs.Backlog.IsBacklog, specs.Backlog.due_level, specs.Steps.EndsMerge}
use Rattle.pk_law_work.specs.Work.{emptying, merging_from, merging, freezing_from, freezing, reclaiming, filling_from, filling, most_filling, after_freeze, repeating, work}
use Rattle.pk_law_work.specs.Laws.{MergeMoves, MergeEnds, FreezeMoves, FreezeEnds, PairEnds, Reclaims, FrameFills}
use Rattle.pk_law_work.{proofs.Emptying.emptying-suc, proofs.Emptying.emptying-zero, proofs.Emptying.emptying_rises, proofs.Within.due_most, proofs.Within.filling_within}
use Rattle.pk_law_work.proofs.Targets.{next_told, first_next, second_next, third_next}

pub due-some : (shape : Shape) (b : Backlog) (level : ℕ) → next_merge shape b.frozen b.runs ≡ Some level → due_level shape b ≡ level
unfolding due_level
due-some shape b level due = ap (λ o. unwrap_or o 0) due

pub due-none : (shape : Shape) (b : Backlog) → b.frozen ≡ 0 → due_level shape b ≡ 0
unfolding due_level
due-none shape b none = rw none refl

-- the level that is due follows from what is frozen and from the runs
due-same : (shape : Shape) (b b' : Backlog) → b'.frozen ≡ b.frozen → b'.runs ≡ b.runs → due_level shape b' ≡ due_level shape b
unfolding due_level
due-same shape b b' frozen runs = rw frozen (rw runs refl)

level_least : (shape : Shape) (b : Backlog) (level : ℕ) → next_merge shape b.frozen b.runs ≡ Some level → 1 ≤ level
level_least shape b level due = elim (next_told shape b.frozen b.runs level due).1 [
  | inl one ↦ omega arith
  | inr (inl two) ↦ omega (arith, two.0)
  | inr (inr (inl three)) ↦ omega (arith, three.0)
  | inr (inr (inr four)) ↦ omega (arith, four.0)
]

merging_first : (shape : Shape) (level : ℕ) (merge : Option ℕ) → 1 ≤ level → merging_from shape level merge ≡ left_of (whole_merge shape level) merge + emptying shape (level - 1)
merging_first shape zero merge some = absurd (omega arith)
merging_first shape (suc level) merge some = let e : level ≡ suc level - 1 = omega arith in omega (arith, ap (emptying shape) e)

-- the merges that are due begin with the one into this level
merging-due : (shape : Shape) (b : Backlog) (level : ℕ) → next_merge shape b.frozen b.runs ≡ Some level → merging shape b ≡ left_of (whole_merge shape level) b.merge + emptying shape (level - 1)
merging-due shape b level due = rw (due-some shape b level due) (merging_first shape level b.merge (level_least shape b level due))

-- whole merges remain if none runs
merging_none : (shape : Shape) (level : ℕ) → merging_from shape level None ≡ emptying shape level
merging_none shape zero = sym (emptying-zero shape)
merging_none shape (suc level) = omega (arith, emptying-suc shape level)

-- the same if none is known to run
merging_idle : (shape : Shape) (level : ℕ) (merge : Option ℕ) → merge ≡ None → merging_from shape level merge ≡ emptying shape level
merging_idle shape level merge none = rw none (merging_none shape level)

-- ---- pages to be filled

-- if less is ahead, no more pages count
filling_falls : (shape : Shape) (ahead ahead' unfilled : ℕ) → ahead' ≤ ahead → filling_from shape ahead' unfilled ≤ filling_from shape ahead unfilled
filling_falls shape zero zero unfilled less = omega arith
filling_falls shape zero (suc ahead') unfilled less = absurd (omega (arith, less))
filling_falls shape (suc ahead) zero unfilled less = omega arith
filling_falls shape (suc ahead) (suc ahead') unfilled less = omega arith

-- if something is ahead, no more than as many as there may be
filling_ahead : (shape : Shape) (ahead ahead' unfilled unfilled' : ℕ) → 0 < ahead → filling_from shape ahead' unfilled' ≤ filling_from shape ahead unfilled
filling_ahead shape zero ahead' unfilled unfilled' some = absurd (omega (arith, some))
filling_ahead shape (suc ahead) zero unfilled unfilled' some = omega arith
filling_ahead shape (suc ahead) (suc ahead') unfilled unfilled' some = omega arith

filling_none : (shape : Shape) (ahead unfilled : ℕ) → ahead ≡ 0 → filling_from shape ahead unfilled ≡ min unfilled (most_filling shape)
filling_none shape zero unfilled none = refl
filling_none shape (suc ahead) unfilled none = absurd (omega (arith, none))

pub moves : MergeMoves
unfolding work
moves shape b b' step =
    let same : due_level shape b' ≡ due_level shape b = due-same shape b b' (ap (λ x. x.frozen) step.moved) (ap (λ x. x.runs) step.moved) in
    let due : next_merge shape b'.frozen b'.runs ≡ Some step.level = rw (ap (λ x. x.frozen) step.moved) (rw (ap (λ x. x.runs) step.moved) step.due) in
    let was : merging shape b ≡ left_of (whole_merge shape step.level) b.merge + emptying shape (step.level - 1) = merging-due shape b step.level step.due in
    let is : merging shape b' ≡ left_of (whole_merge shape step.level) b'.merge + emptying shape (step.level - 1) = merging-due shape b' step.level due in
    let now : left_of (whole_merge shape step.level) b'.merge ≡ step.left = rw (ap (λ x. x.merge) step.moved) refl in
    let freezes : freezing shape b' ≡ freezing shape b = rw (ap (λ x. x.freeze) step.moved) (rw (ap (λ x. x.may_freeze) step.moved) refl) in
    let reclaims : reclaiming shape b' ≡ reclaiming shape b = rw (ap (λ x. x.reclaim) step.moved) (rw (ap (λ x. x.is_due) step.moved) refl) in
    let none : b.unready ≤ b'.unready = step.lowers.none_ready in
    let half : repeating shape b' ≡ repeating shape b = rw (ap (λ x. x.half) step.moved) refl in
    let less : step.left + b'.unready < left_of (whole_merge shape step.level) b.merge + b.unready = step.lowers.less in
    let fills : filling shape b' ≤ filling shape b = filling_ahead shape (merging shape b) (merging shape b') b.unfilled b'.unfilled (omega arith) in
    (omega arith, omega arith, same)

-- after the end of a merge the one into the level above is due, and after the first none
one_less : (shape : Shape) (b b' : Backlog) → IsBacklog shape b → (step : EndsMerge shape b b') → due_level shape b' + 1 ≡ step.level
one_less shape b b' is step =
    let seen = next_told shape b.frozen b.runs step.level step.due in
    elim seen.1 [
      | inl one ↦
          let frozen : b'.frozen ≡ 0 = rw step.frozen (rw one refl) in
          omega (arith, due-none shape b' frozen)
      | inr (inl two) ↦
          let frozen : b'.frozen ≡ b.frozen = rw step.frozen (rw two.0 refl) in
          let some : (b'.frozen == 0) ≡ false = rw frozen seen.0 in
          let few : b'.frozen ≤ buffer shape = rw frozen is.frozen_most in
          let source : 2 ≤ 2 → slice_index b'.runs 0 ≡ 0 = rw two.0 at step.source in
          omega (arith, due-some shape b' 1 (first_next shape b'.frozen b'.runs some few (source (omega arith))), two.0)
      | inr (inr (inl three)) ↦
          let frozen : b'.frozen ≡ b.frozen = rw step.frozen (rw three.0 refl) in
          let some : (b'.frozen == 0) ≡ false = rw frozen seen.0 in
          let source : 2 ≤ 3 → slice_index b'.runs 1 ≡ 0 = rw three.0 at step.source in
          let first : slice_index b'.runs 0 ≡ slice_index b.runs 0 = step.above 0 (omega (arith, three.0)) in
          let full : nat_le (b'.frozen + slice_index b'.runs 0) (room shape 1) ≡ false = rw frozen (rw first three.1) in
          let few : slice_index b'.runs 0 ≤ room shape 1 = rw first (is.runs_most 0 (omega arith)) in
          omega (arith, due-some shape b' 2 (second_next shape b'.frozen b'.runs some full few (source (omega arith))), three.0)
      | inr (inr (inr four)) ↦
          let frozen : b'.frozen ≡ b.frozen = rw step.frozen (rw four.0 refl) in
          let some : (b'.frozen == 0) ≡ false = rw frozen seen.0 in
          let source : 2 ≤ 4 → slice_index b'.runs 2 ≡ 0 = rw four.0 at step.source in
          let first : slice_index b'.runs 0 ≡ slice_index b.runs 0 = step.above 0 (omega (arith, four.0)) in
          let second : slice_index b'.runs 1 ≡ slice_index b.runs 1 = step.above 1 (omega (arith, four.0)) in
          let full : nat_le (b'.frozen + slice_index b'.runs 0) (room shape 1) ≡ false = rw frozen (rw first four.1) in
          let full' : nat_le (slice_index b'.runs 0 + slice_index b'.runs 1) (room shape 2) ≡ false = rw first (rw second four.2) in
          let few : slice_index b'.runs 1 ≤ room shape 2 = rw second (is.runs_most 1 (omega arith)) in
          omega (arith, due-some shape b' 3 (third_next shape b'.frozen b'.runs some full full' few (source (omega arith))), four.0)
    ]

pub ends : MergeEnds
unfolding work
ends shape b b' is step =
    let level : due_level shape b ≡ step.level = due-some shape b step.level step.due in
    let one : due_level shape b' + 1 ≡ step.level = one_less shape b b' is step in
    let less_one : step.level - 1 ≡ due_level shape b' = omega arith in
    let was : merging shape b ≡ left_of (whole_merge shape step.level) b.merge + emptying shape (step.level - 1) = merging-due shape b step.level step.due in
    let behind : emptying shape (step.level - 1) ≡ emptying shape (due_level shape b') = ap (emptying shape) less_one in
    let is' : merging shape b' ≡ emptying shape (due_level shape b') = merging_idle shape (due_level shape b') b'.merge (ap (λ x. x.merge) step.ended) in
    let freezes : freezing shape b' ≡ freezing shape b = rw (ap (λ x. x.freeze) step.ended) (rw (ap (λ x. x.may_freeze) step.ended) refl) in
    let reclaims : reclaiming shape b' ≡ reclaiming shape b = rw (ap (λ x. x.reclaim) step.ended) (rw (ap (λ x. x.is_due) step.ended) refl) in
    let none : b.unready ≤ b'.unready = step.lowers.none_ready in
    let less : 1 + b'.unready < left_of (whole_merge shape step.level) b.merge + b.unready = step.lowers.less in
    let left : repeating shape b' ≡ 1 = rw (ap (λ x. x.half) step.ended) refl in
    let fills : filling shape b' ≤ filling shape b = filling_ahead shape (merging shape b) (merging shape b') b.unfilled b'.unfilled (omega arith) in
    (omega arith, omega arith, omega arith)

-- a freeze that runs or may be needed has its remaining steps, and what comes after it
freezing_wanted : (shape : Shape) (freeze : Option ℕ) (may : Bool) → (freeze ≡ None → may ≡ true) → freezing_from shape freeze may ≡ left_of whole_freeze freeze + after_freeze shape
freezing_wanted shape None false wanted = let e : false ≡ true = wanted refl in cc
freezing_wanted shape None true wanted = refl
freezing_wanted shape (Some rest) may wanted = refl

pub freeze_moves : FreezeMoves
unfolding work
freeze_moves shape b b' step =
    let same : due_level shape b' ≡ due_level shape b = due-same shape b b' (ap (λ x. x.frozen) step.moved) (ap (λ x. x.runs) step.moved) in
    let merges : merging shape b' ≡ merging shape b = rw same (rw (ap (λ x. x.merge) step.moved) refl) in
    let was : freezing shape b ≡ left_of whole_freeze b.freeze + after_freeze shape = freezing_wanted shape b.freeze b.may_freeze step.wanted in
    let is : freezing shape b' ≡ step.left + after_freeze shape = rw (ap (λ x. x.freeze) step.moved) refl in
    let reclaims : reclaiming shape b' ≤ reclaiming shape b = step.no_more in
    let none : b.unready ≤ b'.unready = step.lowers.none_ready in
    let less : step.left + b'.unready < left_of whole_freeze b.freeze + b.unready = step.lowers.less in
    let half : repeating shape b' ≡ repeating shape b = rw (ap (λ x. x.half) step.moved) refl in
    let same_unfilled : b'.unfilled ≡ b.unfilled = ap (λ x. x.unfilled) step.moved in
    let falls = filling_falls shape (merging shape b) (merging shape b') b.unfilled (omega arith) in
    let fills : filling shape b' ≤ filling shape b = subst (λ (u : ℕ). filling_from shape (merging shape b') u ≤ filling shape b) (sym same_unfilled) falls in
    omega arith

pub freeze_ends : FreezeEnds
unfolding work
freeze_ends shape b b' step =
    let none_merges : b'.merge ≡ None = rw (ap (λ x. x.merge) step.ended) step.none_merges in
    let is : merging shape b' ≡ emptying shape (due_level shape b') = merging_idle shape (due_level shape b') b'.merge none_merges in
    let most : emptying shape (due_level shape b') ≤ emptying shape 4 = emptying_rises shape (due_level shape b') (due_most shape b') in
    let was : freezing shape b ≡ left_of whole_freeze b.freeze + after_freeze shape = freezing_wanted shape b.freeze b.may_freeze step.wanted in
    let none : freezing shape b' ≡ 0 = rw (ap (λ x. x.freeze) step.ended) (rw (ap (λ x. x.may_freeze) step.ended) refl) in
    let reclaims : reclaiming shape b' ≤ reclaiming shape b = step.no_more in
    let none_ready : b.unready ≤ b'.unready = step.lowers.none_ready in
    let less : 1 + b'.unready < left_of whole_freeze b.freeze + b.unready = step.lowers.less in
    let left : repeating shape b' ≡ 1 = rw (ap (λ x. x.half) step.ended) refl in
    let fills : filling shape b' ≤ most_filling shape = filling_within shape (merging shape b') b'.unfilled in
    omega arith

pub pair_ends : PairEnds
unfolding work
pair_ends shape b b' step =
    let same : due_level shape b' ≡ due_level shape b = due-same shape b b' (ap (λ x. x.frozen) step.ended) (ap (λ x. x.runs) step.ended) in
    let merges : merging shape b' ≡ merging shape b = rw same (rw (ap (λ x. x.merge) step.ended) refl) in
    let freezes : freezing shape b' ≡ freezing shape b = rw (ap (λ x. x.freeze) step.ended) (rw (ap (λ x. x.may_freeze) step.ended) refl) in
    let reclaims : reclaiming shape b' ≡ reclaiming shape b = rw (ap (λ x. x.reclaim) step.ended) (rw (ap (λ x. x.is_due) step.ended) refl) in
    let same_unfilled : b'.unfilled ≡ b.unfilled = ap (λ x. x.unfilled) step.ended in
    let falls = filling_falls shape (merging shape b) (merging shape b') b.unfilled (omega arith) in
    let fills : filling shape b' ≤ filling shape b = subst (λ (u : ℕ). filling_from shape (merging shape b') u ≤ filling shape b) (sym same_unfilled) falls in
    let was : repeating shape b ≡ 1 = rw step.was_half refl in
    let is : repeating shape b' ≡ 0 = rw (ap (λ x. x.half) step.ended) refl in
    let fewer : b'.unready ≤ b.unready = step.none_more in
    (omega arith, omega arith, same)

less_freezing : (shape : Shape) (freeze : Option ℕ) (may may' : Bool) → (may' ≡ true → may ≡ true) → freezing_from shape freeze may' ≤ freezing_from shape freeze may
less_freezing shape None may false only = omega arith
less_freezing shape None false true only = let e : false ≡ true = only refl in cc
less_freezing shape None true true only = omega arith
less_freezing shape (Some rest) may may' only = omega arith

pub reclaims : Reclaims
unfolding work
reclaims shape b b' step =
    let same : due_level shape b' ≡ due_level shape b = due-same shape b b' (ap (λ x. x.frozen) step.stepped) (ap (λ x. x.runs) step.stepped) in
    let merges : merging shape b' ≡ merging shape b = rw same (rw (ap (λ x. x.merge) step.stepped) refl) in
    let freezes : freezing shape b' ≡ freezing_from shape b.freeze b'.may_freeze = rw (ap (λ x. x.freeze) step.stepped) refl in
    let fewer = less_freezing shape b.freeze b.may_freeze b'.may_freeze step.no_freeze in
    let less : reclaiming shape b' + b'.unready < reclaiming shape b + b.unready = step.lowers.less in
    let half : repeating shape b' ≡ repeating shape b = rw (ap (λ x. x.half) step.stepped) refl in
    let same_unfilled : b'.unfilled ≡ b.unfilled = ap (λ x. x.unfilled) step.stepped in
    let falls = filling_falls shape (merging shape b) (merging shape b') b.unfilled (omega arith) in
    let fills : filling shape b' ≤ filling shape b = subst (λ (u : ℕ). filling_from shape (merging shape b') u ≤ filling shape b) (sym same_unfilled) falls in
    omega arith

pub fills : FrameFills
unfolding work
fills shape b b' step =
    let same : due_level shape b' ≡ due_level shape b = due-same shape b b' (ap (λ x. x.frozen) step.filled) (ap (λ x. x.runs) step.filled) in
    let merges : merging shape b' ≡ merging shape b = rw same (rw (ap (λ x. x.merge) step.filled) refl) in
    let freezes : freezing shape b' ≡ freezing shape b = rw (ap (λ x. x.freeze) step.filled) (rw (ap (λ x. x.may_freeze) step.filled) refl) in
    let reclaims : reclaiming shape b' ≡ reclaiming shape b = rw (ap (λ x. x.reclaim) step.filled) (rw (ap (λ x. x.is_due) step.filled) refl) in
    let ready : b'.unready ≡ b.unready = ap (λ x. x.unready) step.filled in
    let half : repeating shape b' ≡ repeating shape b = rw (ap (λ x. x.half) step.filled) refl in
    let no_merge : merging shape b ≡ 0 = rw (due-none shape b step.none_frozen) refl in
    let was = filling_none shape (merging shape b) b.unfilled (omega arith) in
    let is = filling_none shape (merging shape b') b'.unfilled (omega arith) in
    let one = step.one_less in
    let few = step.few in
    omega arith
