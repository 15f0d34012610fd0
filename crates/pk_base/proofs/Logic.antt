-- Truth values, comparisons and answers, by cases.
use Rattle.std.proofs.Common.{◌≡◌, ◌⊎◌, inl, inr, refl, Bool, true, false, ◌&&◌, ◌||◌, T, ℕ, Option, Some, Result, Ok, Ordering, Less, Equal, Greater}
use Rattle.std.{specs.Prelude.⊤, specs.Ordering.is_lt, specs.Ordering.is_eq}
use Rattle.pk_base.specs.Refusal.{Refusal, ensure}

-- ---- truth values

pub is_true : (b : Bool) → T b → b ≡ true
is_true true p = refl
is_true false p = absurd p

pub of_true : (b : Bool) → b ≡ true → T b
of_true true e = tt
of_true false e = cc

pub not_both : (b : Bool) → b ≡ true → b ≡ false → ⊥
not_both b p q = cc

pub both_true : (a b : Bool) → (a && b) ≡ true → (a ≡ true) × (b ≡ true)
both_true true true e = (refl, refl)
both_true true false e = cc
both_true false b e = cc

pub left_part : (a b : Bool) → T (a && b) → T a
left_part true b p = tt
left_part false b p = p

pub right_part : (a b : Bool) → T (a && b) → T b
right_part true b p = p
right_part false b p = absurd p

pub both : (a b : Bool) → T a → T b → T (a && b)
both true b p q = q
both false b p q = p

pub or_cases : (a b : Bool) → T (a || b) → T a ⊎ T b
or_cases true b p = inl tt
or_cases false b p = inr p

-- ---- comparisons

pub less : (o : Ordering) → T (is_lt o) → o ≡ Less
less Less p = refl
less Equal p = absurd p
less Greater p = absurd p

pub lt_less : (o : Ordering) → is_lt o ≡ true → o ≡ Less
lt_less Less e = refl
lt_less Equal e = cc
lt_less Greater e = cc

pub equal : (o : Ordering) → is_eq o ≡ true → o ≡ Equal
equal Less e = cc
equal Equal e = refl
equal Greater e = cc

-- ---- answers

pub some_same : {X : Type 0} (x y : X) → ◌≡◌ {A = Option X} (Some x) (Some y) → x ≡ y
some_same x y e = cc

pub ok_same : {A : Type 0} (x y : A) → ◌≡◌ {A = Result A Refusal} (Ok x) (Ok y) → x ≡ y
ok_same x y e = cc

pub passed : (b : Bool) (page : ℕ) (u : ⊤) → ensure b page ≡ Ok u → T b
passed true page u e = tt
passed false page u e = cc
