-- What is said of an answer, from what else is said of it.
use Rattle.std.{proofs.Common.◌≡◌, proofs.Common.◌⊎◌, proofs.Common.inl, proofs.Common.inr, proofs.Common.refl, proofs.Common.Bool, proofs.Common.true, proofs.Common.false, proofs.Common.Result}
use Rattle.std.{proofs.Common.Ok, proofs.Common.Err, specs.Prelude.◌||◌, specs.Prelude.IfOk, specs.Prelude.OnOk}
use Rattle.pk_base.proofs.Logic.{not_both}

pub on_ok : {X Y : Type 0} (A : X → Type 0) (B : Type 0) (r : Result X Y) → ((x : X) → A x → B) → IfOk r A → OnOk r B
on_ok A B (Ok x) f a = f x a
on_ok A B (Err e) f a = tt

pub not_wanted_ok : {X E : Type 0} (A : Type 0) (r : Result X E) (b : Bool) → b ≡ true → OnOk r (b ≡ false → A)
not_wanted_ok A (Ok x) b wanted = λ e. absurd (not_both b wanted e)
not_wanted_ok A (Err e) b wanted = tt

-- ---- of two truth values

pub either : (x y : Bool) → (x || y) ≡ true → (x ≡ true) ⊎ (y ≡ true)
either true y e = inl refl
either false y e = inr e

pub neither : (x y : Bool) → (x || y) ≡ false → (x ≡ false) × (y ≡ false)
neither true y e = absurd (not_both true refl e)
neither false y e = (refl, e)
