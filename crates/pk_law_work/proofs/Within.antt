-- The work is less than its bound, and so are the calls of a command.
use Rattle.std.proofs.Common.{ℕ, zero, suc, ◌+◌, ◌*◌, ◌≤◌, arith, Bool, true, false}
use Rattle.std.specs.Prelude.{Option, Some, None, IfSome, unwrap_or, if◌then◌else◌, ◌==◌, nat_le, slice_index}
use Rattle.pk_base.{specs.Shape.Shape, specs.Shape.deepest, specs.Shape.most_calls, specs.Merge.room}
use Rattle.pk_law_work.{specs.Rest.left_of, specs.Rest.whole_merge, specs.Rest.whole_freeze, specs.Rest.whole_reclaim, specs.Backlog.Backlog, specs.Backlog.due_level, specs.Calls.CallsMost}
use Rattle.pk_law_work.specs.Work.{emptying, merging_from, merging, freezing_from, freezing, reclaiming_from, reclaiming, filling_from, filling, most_filling, after_freeze, repeating, work}
use Rattle.pk_law_work.{specs.Laws.WorkMost, specs.Laws.MergingMost, proofs.Emptying.deep, proofs.Emptying.emptying_most, proofs.Emptying.emptying_rises, proofs.Emptying.emptying-suc}

picked_most : (b0 b1 b2 b3 : Bool) → unwrap_or (if b0 then None else if b1 then Some 1 else if b2 then Some 2 else if b3 then Some 3 else Some 4) 0 ≤ 4
picked_most true b1 b2 b3 = omega arith
picked_most false true b2 b3 = omega arith
picked_most false false true b3 = omega arith
picked_most false false false true = omega arith
picked_most false false false false = omega arith

-- the level that is due is one of the four, or none
pub due_most : (shape : Shape) (b : Backlog) → due_level shape b ≤ 4
unfolding due_level
due_most shape b = picked_most (b.frozen == 0) (nat_le (b.frozen + slice_index b.runs 0) (room shape 1))
    (nat_le (slice_index b.runs 0 + slice_index b.runs 1) (room shape 2)) (nat_le (slice_index b.runs 1 + slice_index b.runs 2) (room shape 3))

left_within : (whole : ℕ) (job : Option ℕ) → IfSome job (λ left. left ≤ whole) → left_of whole job ≤ whole
left_within whole None most = omega arith
left_within whole (Some rest) most = most

merging_within : (shape : Shape) (level : ℕ) (merge : Option ℕ) → level ≤ 4 → IfSome merge (λ left. left ≤ whole_merge shape level) → merging_from shape level merge ≤ emptying shape 4
merging_within shape zero merge few most = omega arith
merging_within shape (suc level) merge few most =
    omega (arith, left_within (whole_merge shape (suc level)) merge most, emptying-suc shape level, emptying_rises shape (suc level) few)

freezing_within : (shape : Shape) (freeze : Option ℕ) (may : Bool) → IfSome freeze (λ left. left ≤ whole_freeze) → freezing_from shape freeze may ≤ whole_freeze + after_freeze shape
freezing_within shape None false most = omega arith
freezing_within shape None true most = omega arith
freezing_within shape (Some rest) may most = omega arith

reclaiming_within : (shape : Shape) (reclaim : Option ℕ) (due : Bool) → IfSome reclaim (λ left. left ≤ whole_reclaim shape) → reclaiming_from shape reclaim due ≤ whole_reclaim shape
reclaiming_within shape None false most = omega arith
reclaiming_within shape None true most = omega arith
reclaiming_within shape (Some rest) due most = most

pub filling_within : (shape : Shape) (ahead unfilled : ℕ) → filling_from shape ahead unfilled ≤ most_filling shape
filling_within shape zero unfilled = omega arith
filling_within shape (suc ahead) unfilled = omega arith

pub merging_most : MergingMost
merging_most shape b is = merging_within shape (due_level shape b) b.merge (due_most shape b) is.merge_most

pub work_most : WorkMost
unfolding most_calls work
work_most shape b is backlog =
    let merges : merging shape b ≤ emptying shape 4 = merging_most shape b backlog in
    let freezes : freezing shape b ≤ whole_freeze + after_freeze shape = freezing_within shape b.freeze b.may_freeze backlog.freeze_most in
    let reclaims : reclaiming shape b ≤ whole_reclaim shape = reclaiming_within shape b.reclaim b.is_due backlog.reclaim_most in
    let empties : emptying shape 4 ≤ 372 + 3 * deepest shape = emptying_most shape is in
    let unready : b.unready ≤ shape.blocks = backlog.unready_most in
    let half : repeating shape b ≤ 1 = one_at_most b.half in
    let fills : filling shape b ≤ most_filling shape = filling_within shape (merging shape b) b.unfilled in
    omega arith
  where
    one_at_most : (half : Bool) → (if half then 1 else 0) ≤ 1
    one_at_most true = omega arith
    one_at_most false = omega arith

pub calls_most : CallsMost
unfolding most_calls
calls_most shape is =
    let empties : emptying shape 4 ≤ 372 + 3 * deepest shape = emptying_most shape is in
    let many : 24 ≤ deepest shape = deep shape in
    (omega arith, omega arith, omega arith, omega arith)
