-- Plans that grow.
use Rattle.std.proofs.Common.{◌≡◌, ℕ, List, [], ◌∷◌, ◌++◌, refl, sym, ap, ◌∙◌, subst, true, false, T, ◌==◌, if◌then◌else◌, eqb→eq, Option, Some, None}
use Rattle.std.proofs.Math.Dec.{eqb_refl}
use Rattle.pk_flash.{specs.declared.types.Left.Left, specs.declared.types.Planned.Planned, specs.Plan.later, specs.Plan.left_if_planned, specs.Plan.planned_left}
use Rattle.pk_base.proofs.Logic.{is_true}

later-none : (o : Option Left) → later None o ≡ o
later-none None = refl
later-none (Some left) = refl

later-later : (a b c : Option Left) → later a (later b c) ≡ later (later a b) c
later-later a b None = refl
later-later a b (Some left) = refl

pub planned-append : (call : ℕ) (plan : List Planned) (next : Planned) → planned_left (plan ++ next ∷ []) call ≡ later (planned_left plan call) (left_if_planned next call)
planned-append call [] next = sym (later-none (left_if_planned next call))
planned-append call (p ∷ plan) next = ap (later (left_if_planned p call)) (planned-append call plan next) ∙ later-later (left_if_planned p call) (planned_left plan call) (left_if_planned next call)

pub left-same : (next : Planned) → left_if_planned next next.call ≡ Some next.left
left-same next = rw (is_true (next.call == next.call) (eqb_refl next.call)) refl

pub left-other : (call : ℕ) (next : Planned) → (call ≡ next.call → ⊥) → left_if_planned next call ≡ None
left-other call next other =
    elim (next.call == call) as (λ b. (next.call == call) ≡ b → (if b then Some next.left else None) ≡ None) [
      | true ↦ λ e. absurd (other (sym (eqb→eq _ _ (subst T (sym e) tt))))
      | false ↦ λ e. refl
    ] refl

-- one plan more for this call, or for another one
pub later-same : (call : ℕ) (plan : List Planned) (next : Planned) → next.call ≡ call → planned_left (plan ++ next ∷ []) call ≡ Some next.left
later-same call plan next is =
    let P : ℕ → Type 0 = λ n. planned_left (plan ++ next ∷ []) n ≡ Some next.left in
    subst P is (planned-append next.call plan next ∙ ap (later (planned_left plan next.call)) (left-same next))

pub later-other : (call : ℕ) (plan : List Planned) (next : Planned) → (call ≡ next.call → ⊥) → planned_left (plan ++ next ∷ []) call ≡ planned_left plan call
later-other call plan next other = planned-append call plan next ∙ ap (later (planned_left plan call)) (left-other call next other)
