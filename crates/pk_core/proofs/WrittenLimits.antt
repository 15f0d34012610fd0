-- The limits that the root of a drive has.
use Rattle.std.proofs.Common.{◌≡◌, ℕ, ◌+◌, ◌-◌, ◌*◌, ◌≤◌, refl, sym, ap, ◌∙◌, arith, Bool, true, false, List, [], ◌∷◌, length, slice_index, nat_le, nat_lt, ◌==◌, ◌||◌, not, sum, le→leb, if◌then◌else◌}
use Rattle.std.proofs.Common.{Some, OnOk, Result, Ok, Err, subst}
use Rattle.std.{proofs.lemmas.List.Sums.sum_by-cons, specs.Prelude.bytes_eq, proofs.lemmas.Bool.Decides.nat_tests}
use Rattle.pk_base.{specs.Shape.Shape, specs.Shape.limit, specs.Shape.meta_blocks, specs.Page.Flash, specs.Page.page_at, specs.declared.sizes.TheConstants.MOST_SPACES, proofs.Logic.is_true}
use Rattle.pk_space.{specs.Limits.AcceptsLimits, specs.Limits.has_zero, specs.Limits.has_no_room, specs.declared.limits.TheConstants.LIMITS_LIST_FROM}
use Rattle.pk_rootfmt.{specs.Root.fit_in, specs.Root.has_limits_room, specs.Root.are_limits, specs.Root.limits_of, specs.Root.written_limits, specs.Held.first_with, proofs.LimitLemmas.by_test}
use Rattle.pk_rootfmt.{specs.Newest.newest_root, specs.Newest.limits_if, proofs.PageLemmas.same_bytes}
use Rattle.pk_model.specs.Spaces.{limits_at}

-- limits that a drive may have are those of a root, unless they are the one limit of the shape
fits : (left : ℕ) (ls : List ℕ) → has_zero ls ≡ false → sum ls ≤ left → fit_in left ls ≡ true
fits left [] no_zero within = refl
fits left (l ∷ ls) no_zero within =
    let parts = neither (l == 0) (has_zero ls) no_zero in
    let some : nat_le 1 l ≡ true = not_zero l parts.0 in
    let all : l + sum ls ≤ left = subst (λ (n : ℕ). n ≤ left) (sum_by-cons (λ (x : ℕ). x) l ls) within in
    let less : nat_le l left ≡ true = is_true (nat_le l left) (le→leb l left (omega (arith, all))) in
    let rest : fit_in (left - l) ls ≡ true = fits (left - l) ls parts.1 (omega (arith, all)) in
    rw (some, less, rest) refl
  where
    neither : (a b : Bool) → (a || b) ≡ false → (a ≡ false) × (b ≡ false)
    neither true b e = cc
    neither false b e = (refl, e)

    not_zero : (n : ℕ) → (n == 0) ≡ false → nat_le 1 n ≡ true
    not_zero n e = grind (arith, nat_tests)

pub other_limits : (shape : Shape) (limits : List ℕ) → (length limits ≡ 1 → slice_index limits 0 ≡ limit shape → ⊥) → bytes_eq limits (limit shape ∷ []) ≡ false
other_limits shape limits other = by_test (bytes_eq limits (limit shape ∷ [])) (bytes_eq limits (limit shape ∷ []) ≡ false)
    (λ yes. let same = same_bytes limits (limit shape ∷ []) yes in absurd (other (ap length same) (ap (λ (ls : List ℕ). slice_index ls 0) same)))
    (λ no. no)

pub root_grammar : (shape : Shape) (limits : List ℕ) → AcceptsLimits shape limits → bytes_eq limits (limit shape ∷ []) ≡ false → are_limits shape limits ≡ true
root_grammar shape [] accepts other = absurd (let some = accepts.some in omega (arith, some))
root_grammar shape (l ∷ ls) accepts other =
    let all : List ℕ = l ∷ ls in
    let roomy : has_no_room shape ≡ false = has_room (has_no_room shape) (bytes_eq all (limit shape ∷ [])) accepts.room other in
    let room : has_limits_room shape ≡ true = not_less shape.page_bytes (LIMITS_LIST_FROM + 2 * (meta_blocks shape + 4)) roomy in
    let few : nat_le (length all) MOST_SPACES ≡ true = is_true _ (le→leb (length all) MOST_SPACES accepts.most) in
    let fit : fit_in (limit shape) all ≡ true = fits (limit shape) all accepts.no_zero accepts.within in
    rw (room, few, fit) refl
  where
    has_room : (tight same : Bool) → (not tight || same) ≡ true → same ≡ false → tight ≡ false
    has_room true true e f = cc
    has_room true false e f = cc
    has_room false same e f = refl

    not_less : (a b : ℕ) → nat_lt a b ≡ false → nat_le b a ≡ true
    not_less a b e = grind (arith, nat_tests)

-- a drive has the limits that its root says
pub limits_again : (shape : Shape) (limits : List ℕ) → 1 ≤ length limits → limits_of shape (written_limits shape limits) ≡ limits
limits_again shape [] some = absurd (omega (arith, some))
limits_again shape (l ∷ ls) some = by_test (bytes_eq (l ∷ ls) (limit shape ∷ [])) (limits_of shape (written_limits shape (l ∷ ls)) ≡ l ∷ ls)
    (λ yes. ap (λ (b : Bool). limits_of shape (if b then [] else l ∷ ls)) yes ∙ sym (same_bytes (l ∷ ls) (limit shape ∷ []) yes))
    (λ no. ap (λ (b : Bool). limits_of shape (if b then [] else l ∷ ls)) no)

pub limits_read : (shape : Shape) (flash : Flash) (limits : List ℕ) → newest_root shape (page_at flash) ≡ Some (0, first_with (written_limits shape limits)) → 1 ≤ length limits
    → limits_at shape flash ≡ limits
unfolding limits_at
limits_read shape flash limits is some = ap (limits_if shape) is ∙ limits_again shape limits some

-- so has one that was made without a failure
pub made_limits : {E : Type 0} (r : Result Unit E) (shape : Shape) (flash : Flash) (limits written : List ℕ) → written ≡ written_limits shape limits → 1 ≤ length limits
    → OnOk r (newest_root shape (page_at flash) ≡ Some (0, first_with written)) → OnOk r (limits_at shape flash ≡ limits)
made_limits (Ok u) shape flash limits written is some newest =
    limits_read shape flash limits (newest ∙ ap (λ (ls : List ℕ). Some (0, first_with ls)) is) some
made_limits (Err e) shape flash limits written is some newest = newest
