-- The frames that pinned levels need exist: only as many levels are pinned as have them.
use Rattle.std.proofs.Common.{◌≡◌, ℕ, ◌≤◌, Bool, true, false, refl, arith}
use Rattle.std.{specs.Prelude.nat_le, specs.Prelude.if◌then◌else◌, proofs.lemmas.Bool.leb-true}
use Rattle.pk_base.specs.Shape.{Shape, need, pinned}
use Rattle.pk_scan.specs.OpeningParts.{wanted_behind}

module _ (shape : Shape) (frames : ℕ) where
  abbrev Wants : ℕ → Type 0
  Wants levels = wanted_behind shape levels 0 ≤ frames

  pick : (b4 b3 b2 b1 : Bool) → (b4 ≡ true → Wants 4) → (b3 ≡ true → Wants 3) → (b2 ≡ true → Wants 2)
      → (b1 ≡ true → Wants 1) → Wants (if b4 then 4 else if b3 then 3 else if b2 then 2 else if b1 then 1 else 0)
  pick true b3 b2 b1 h4 h3 h2 h1 = h4 refl
  pick false true b2 b1 h4 h3 h2 h1 = h3 refl
  pick false false true b1 h4 h3 h2 h1 = h2 refl
  pick false false false true h4 h3 h2 h1 = h1 refl
  pick false false false false h4 h3 h2 h1 = omega arith

  pub pinned_wants : wanted_behind shape (pinned shape frames) 0 ≤ frames
  pinned_wants =
      pick (nat_le (need shape 4) frames) (nat_le (need shape 3) frames) (nat_le (need shape 2) frames) (nat_le (need shape 1) frames)
      (λ e. let h = leb-true (need shape 4) frames e in omega (arith, h)) (λ e. let h = leb-true (need shape 3) frames e in omega (arith, h))
      (λ e. let h = leb-true (need shape 2) frames e in omega (arith, h)) (λ e. let h = leb-true (need shape 1) frames e in omega (arith, h))
