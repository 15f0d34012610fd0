-- Planned failures: which call is to fail, and what it leaves.
use Rattle.std.specs.Prelude.{◌≡◌, ℕ, ◌==◌, if◌then◌else◌, List, [], ◌∷◌, Option, Some, None, Result, Ok, Err, ⊤}
use Rattle.pk_nand.{specs.Calls.counted, specs.declared.types.PageState.PageState}
use Rattle.pk_flash.{specs.declared.types.Left.Left, specs.declared.types.Left.TheVariants.Done, specs.declared.types.Planned.Planned}

-- the second, or the first if there is none
abbrev pub later : Option Left → Option Left → Option Left
later first None = first
later first (Some left) = Some left

-- what a plan has the call with this number leave, if it is for it
abbrev pub left_if_planned : Planned → ℕ → Option Left
left_if_planned next call = if next.call == call then Some next.left else None

-- what the call with this number is to leave, if it is to fail: what the last plan for it says
abbrev pub planned_left : List Planned → ℕ → Option Left
planned_left [] call = None
planned_left (next ∷ plan) call = later (left_if_planned next call) (planned_left plan call)

-- what a call leaves: what was planned, or all that it does
abbrev pub left_of : Option Left → Left
left_of None = Done
left_of (Some left) = left

-- a call with room fails exactly if it is to
abbrev pub AnswersBy : {X E : Type 0} → Option Left → Result X E → Type 0
AnswersBy None (Ok x) = ⊤
AnswersBy None (Err e) = ⊥
AnswersBy (Some left) (Ok x) = ⊥
AnswersBy (Some left) (Err e) = ⊤

-- one call more was made; what is planned is unchanged, and so do the pages as the board was passed in
pub record Turned (calls calls' : ℕ) (plan plan' : List Planned) (start start' : List PageState) : Type 0 where
  pub one_more : calls' ≡ counted calls
  pub same_plan : plan' ≡ plan
  pub same_start : start' ≡ start
