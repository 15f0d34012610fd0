-- What holds of an answer, from what holds of another.
use Rattle.std.{proofs.Common.◌≡◌, proofs.Common.subst, specs.Prelude.Result, specs.Prelude.Ok, specs.Prelude.Err, specs.Prelude.OnOk, specs.Prelude.OnErr, specs.Prelude.IfOk, specs.Prelude.IfErr}

pub on_ok : {X E : Type 0} (r : Result X E) (P Q : Type 0) → OnOk r P → (P → Q) → OnOk r Q
on_ok (Ok x) P Q h f = f h
on_ok (Err e) P Q h f = h

pub if_ok : {X E : Type 0} (r : Result X E) (P Q : X → Type 0) → IfOk r P → ((x : X) → P x → Q x) → IfOk r Q
if_ok (Ok x) P Q h f = f x h
if_ok (Err e) P Q h f = h

pub if_err : {X E : Type 0} (r : Result X E) (P Q : E → Type 0) → IfErr r P → ((e : E) → P e → Q e) → IfErr r Q
if_err (Ok x) P Q h f = h
if_err (Err e) P Q h f = f e h

-- what holds of a value that was answered, from two facts
pub if_ok_also : {X E : Type 0} (r : Result X E) (P : Type 0) (Q R : X → Type 0) → OnOk r P → IfOk r Q → ((x : X) → P → Q x → R x) → IfOk r R
if_ok_also (Ok x) P Q R h g f = f x h g
if_ok_also (Err e) P Q R h g f = h

-- what holds in either case
pub either : {X E : Type 0} (r : Result X E) (P : Type 0) (Q : E → Type 0) (R : Type 0) → OnOk r P → IfErr r Q → (P → R) → ((e : E) → Q e → R) → R
either (Ok x) P Q R h g f k = f h
either (Err e) P Q R h g f k = k e g

-- what holds of a refusal, if it is this one
pub of_err : {X E : Type 0} (r : Result X E) (e : E) (Q : E → Type 0) → r ≡ Err e → IfErr r Q → Q e
of_err r e Q is h = subst (λ (x : Result _ _). IfErr x Q) is h

pub at_err : {X E : Type 0} (r : Result X E) (e : E) (P : Type 0) → r ≡ Err e → OnErr r P → P
at_err r e P is h = subst (λ (x : Result _ _). OnErr x P) is h
