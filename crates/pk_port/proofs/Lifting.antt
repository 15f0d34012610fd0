-- A contract whose premise says only that a proof exists, from the one over the premise itself.
-- A struct keeps no more of a relation that is not known to have one proof at most, as `agrees` of an engine.
use Prim.Native.Nat.{ℕ}
use mathlib.Core.Logic.{∥∥₁_elim}
use mathlib.Core.List.{List}
use seplogic.Ra.Ura.{Ura}
use base.Logic.{ent, via, sep, emp, guard_i, guard_e, mono_r}
use contract.Monad.{Fun, fact}
use types.Logic.{Logic}
use denote.Triple.Statement.{Triple}
use denote.Triple.Entry.{on_entry}
use borrow.Fn.Kind.{ParamKind, ResultKind}
use borrow.Fn.Kinds.{In, Out, sig_of}
use borrow.Fn.Function.{plain_of}

module _ {M : Type 1} {𝓤 : Ura M} (𝓛 : Logic 𝓤) where
  some_fact : (φ ψ : Type 0) → (φ → ∥ ψ ∥₁) → ent 𝓤 (fact 𝓤 φ) (fact 𝓤 ψ)
  some_fact φ ψ h = guard_e 𝓤 φ (emp 𝓤) (λ p. record { apply = λ a k. ∥∥₁_elim (h p) ((fact 𝓤 ψ).holds_prop a) (λ q. (guard_i 𝓤 ψ (emp 𝓤) q).apply a k) })

  pub lifted : (n : ℕ) (ps : List (ParamKind n)) (r : ResultKind n) (run : Fun 𝓤) (P Q : In n ps) (O : Out n ps r)
      → ((κs : _) (a : _) → Q κs a → ∥ P κs a ∥₁)
      → Triple 𝓤 run (plain_of 𝓛 n ps r P O) → Triple 𝓤 run (plain_of 𝓛 n ps r Q O)
  lifted n ps r run P Q O up t y =
      via 𝓤 (sep 𝓤 (on_entry 𝓛 (sig_of n ps r) y.0.0 y.0.1 y.0.3 y.0.4) (fact 𝓤 (P y.0.0 y.0.3)))
      (mono_r 𝓤 (on_entry 𝓛 (sig_of n ps r) y.0.0 y.0.1 y.0.3 y.0.4) (some_fact (Q y.0.0 y.0.3) (P y.0.0 y.0.3) (up y.0.0 y.0.3)))
      (t y)
