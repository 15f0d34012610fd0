-- What the counts of faults show, whatever the drive represents.
use Rattle.std.proofs.Common.{◌≡◌, ℕ, sym, subst, ap, ◌∙◌, Bool, List}
use Rattle.pk_base.specs.Shape.{Shape}
use Rattle.pk_nand.{specs.BoardState.BoardState, specs.Calls.Rose, specs.Operations.after_post, specs.Effects.OnlyFlash, proofs.Effects.rose_from}
use Rattle.pk_serve.{specs.Ends.HasCause, specs.Ends.NoFaults, specs.Ends.IsFault, specs.Ends.Blames, specs.declared.end.End.End}
use Rattle.pk_serve.specs.Input.{Entered, Valued, NoValue, TookFailed, NoEntry}
use Rattle.pk_serve.specs.declared.end.End.TheVariants.{Done, Truncated, Input, Output, Flash, Worn}

pub quiet-then : (a b c : BoardState) → NoFaults a b → NoFaults b c → NoFaults a c
quiet-then a b c p q = record { output = q.output ∙ p.output; stop = q.stop ∙ p.stop }

pub cause-then : (a b c : BoardState) (end : End) → NoFaults a b → HasCause b c end → HasCause a c end
cause-then a b c Output q h = rose_from q.output h
cause-then a b c Flash q h = rose_from q.stop h
cause-then a b c end q h = h

pub quiet-flash : (a b : BoardState) → OnlyFlash a b → b.stop_faults ≡ a.stop_faults → NoFaults a b
quiet-flash a b rest same = record { output = ap (λ (s : BoardState). s.out_faults) rest; stop = same }

pub quiet-post : (a b : BoardState) (bytes : List ℕ) → b ≡ after_post a bytes → NoFaults a b
quiet-post a b bytes is = record { output = ap (λ (s : BoardState). s.out_faults) is; stop = ap (λ (s : BoardState). s.stop_faults) is }

-- ---- the end of a call, as it is reported

pub blames-cause : (a b : BoardState) (end : End) → HasCause a b end → Blames a b end
blames-cause a b Output h = h
blames-cause a b Flash h = h
blames-cause a b end h = absurd h

pub blames-then : (a b c : BoardState) (end : End) → b.in_faults ≡ a.in_faults → NoFaults a b → Blames b c end → Blames a c end
blames-then a b c Input i q h = (rose_from i h.0, quiet-then a b c q h.1)
blames-then a b c Output i q h = rose_from q.output h
blames-then a b c Flash i q h = rose_from q.stop h
blames-then a b c end i q h = (h.0 ∙ i, quiet-then a b c q h.1)

rose_to : (a b c : ℕ) → c ≡ b → Rose a b → Rose a c
rose_to a b c e h = let T : ℕ → Type 0 = λ n. Rose a n in subst T (sym e) h

-- what follows had no fault
pub blames-still : (a b c : BoardState) (end : End) → Blames a b end → c.in_faults ≡ b.in_faults → NoFaults b c → Blames a c end
blames-still a b c Input h i q = (rose_to _ _ _ i h.0, quiet-then a b c h.1 q)
blames-still a b c Output h i q = rose_to _ _ _ q.output h
blames-still a b c Flash h i q = rose_to _ _ _ q.stop h
blames-still a b c end h i q = (i ∙ h.0, quiet-then a b c h.1 q)

-- an end that is no fault of the output or the flash, and what failed after it
unfailed : (a b : BoardState) (end : End) → (IsFault end → ⊥) → Blames a b end → NoFaults a b
unfailed a b Output n h = absurd (n tt)
unfailed a b Flash n h = absurd (n tt)
unfailed a b end n h = h.1

pub blames-behind : (a b c : BoardState) (end fault : End) → (IsFault end → ⊥) → Blames a b end → HasCause b c fault → Blames a c fault
blames-behind a b c end fault n h cause = blames-cause a c fault (cause-then a b c fault (unfailed a b end n h) cause)

-- ---- what is taken of the input

module _ (a b : BoardState) where
  quiet-rest : b ≡ record a { input = b.input; in_faults = b.in_faults } → NoFaults a b
  quiet-rest is = record { output = ap (λ (s : BoardState). s.out_faults) is; stop = ap (λ (s : BoardState). s.stop_faults) is }

  quiet-input : b ≡ record a { input = b.input } → (b.in_faults ≡ a.in_faults) × NoFaults a b
  quiet-input is = (
    ap (λ (s : BoardState). s.in_faults) is,
    record { output = ap (λ (s : BoardState). s.out_faults) is; stop = ap (λ (s : BoardState). s.stop_faults) is },
  )

  pub blames-entry : (no_more : Bool) (end : End) → NoEntry a b no_more end → Blames a b end
  blames-entry no_more Done h = (h.same, quiet-rest h.left.rest)
  blames-entry no_more Truncated h = (h.0.same, quiet-rest h.0.left.rest)
  blames-entry no_more Input h = (h.0.rose, quiet-rest h.0.left.rest)
  blames-entry no_more Output h = absurd h
  blames-entry no_more Flash h = absurd h
  blames-entry no_more Worn h = quiet-input h.0.rest

  -- a value that was taken, or not to its end
  pub quiet-value : {shape : Shape} {opcode size : ℕ} {handed : List ℕ} → Valued a b shape opcode size handed → (b.in_faults ≡ a.in_faults) × NoFaults a b
  quiet-value h = quiet-input h.rest

  pub quiet-no_value : {opcode size : ℕ} → NoValue a b opcode size → (b.in_faults ≡ a.in_faults) × NoFaults a b
  quiet-no_value h = quiet-input h.rest

  pub blames-value : {size : ℕ} → TookFailed a b size → Rose a.in_faults b.in_faults × NoFaults a b
  blames-value h = (h.rose, quiet-rest h.rest)

  pub quiet-entry : {entry : List ℕ} → Entered a b entry → (b.in_faults ≡ a.in_faults) × NoFaults a b
  quiet-entry h = quiet-input h.rest
