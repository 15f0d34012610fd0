-- What was taken of a script, whatever the drive represents.
use Rattle.std.proofs.Common.{◌≡◌, ◌⊎◌, inl, inr, ℕ, ◌+◌, List, [], ◌∷◌, ◌++◌, length, refl, sym, ◌∙◌, ap, subst, arith, append-nil, append_assoc, length-append, true, Bool}
use Rattle.pk_nand.{specs.BoardState.BoardState, specs.Calls.put_back, specs.Calls.AtEnd}
use Rattle.pk_model.{specs.Script.script, specs.Wear.is_worn}
use Rattle.pk_call.specs.Sight.{Sight}
use Rattle.pk_serve.{specs.Ends.IsFault, specs.Input.InputAdvances, specs.Input.NoEntry, specs.Input.Quits, specs.Further.most_entries, specs.declared.end.End.End}
use Rattle.pk_serve.specs.Script.{Consumed, Consumes, SaysOfScript}
use Rattle.pk_serve.specs.declared.end.End.TheVariants.{Done, Truncated, Output, Flash, Worn}
use Rattle.pk_serve.proofs.Scripts.{taken-append, put_back-nil, Spells-none, Spells-append}
use Rattle.pk_serve.proofs.Closing.{told, script_none, script_read, script_whole, front_none}

pub consumed-none : (a : BoardState) → Consumed a a 0 []
consumed-none a = record { cs = []; bytes = []; count = refl; input = put_back-nil a.input; spells = Spells-none }

pub consumes_failed : (a b : BoardState) (end : End) → IsFault end → Consumes a b end
consumes_failed a b Output f = tt
consumes_failed a b Flash f = tt
consumes_failed a b end f = absurd f

module _ (a b c : BoardState) (taken : ℕ) (w : Consumed a b taken []) where
  plain : a.input ≡ put_back w.bytes b.input
  plain = w.input ∙ ap (λ t. put_back t b.input) (append-nil w.bytes)

  pub consumed-next : (d e : Sight) (held now_held : List ℕ) → InputAdvances b c d e held now_held taken → Consumed a c (taken + 1) []
  consumed-next d e held now_held n = record {
    cs = w.cs ++ n.c ∷ [];
    bytes = w.bytes ++ n.bytes;
    count = omega (arith, w.count, length-append w.cs (n.c ∷ []));
    input = taken-append a.input b.input c.input w.bytes n.bytes plain n.input ∙ ap (λ t. put_back t c.input) (sym (append-nil (w.bytes ++ n.bytes)));
    spells = Spells-append w.bytes n.bytes w.cs (n.c ∷ []) w.spells n.spells;
  }

  consumed-part : (part : List ℕ) → b.input ≡ put_back part c.input → Consumed a c taken part
  consumed-part part more = record { cs = w.cs; bytes = w.bytes; count = w.count; input = taken-append a.input b.input c.input w.bytes part plain more; spells = w.spells }

  pub consumes-entry : (no_more : Bool) → (no_more ≡ true → (taken ≡ most_entries) ⊎ (is_worn b ≡ true)) → (end : End) → NoEntry b c no_more end → Consumes a c end
  consumes-entry no_more why Done n = (taken, consumed-part [] n.left.input, n.at_end)
  consumes-entry no_more why Truncated k = let n = k.0 in (taken, n.part, n.some, n.left.is_part, consumed-part n.part n.left.input, n.at_end)
  consumes-entry no_more why Worn k =
      let n = k.0 in (taken, n.part, n.some, consumed-part n.part n.input, elim (why k.1) [ inl full ↦ inl full | inr worn ↦ inr (ap is_worn n.rest ∙ worn) ])
  consumes-entry no_more why end n = tt

  pub consumes-quits : (d : Sight) (held : List ℕ) (end : End) → Quits b c d held taken end → Consumes a c end
  consumes-quits d held end (inl n) = consumes-entry (is_worn b) (λ worn. inr worn) end n
  consumes-quits d held end (inr f) = consumes_failed a c end f.fault

-- the input and the roots are unchanged
module _ (a b c : BoardState) (same : c.input ≡ b.input) (worn : is_worn c ≡ is_worn b) where
  consumed-still : (taken : ℕ) (part : List ℕ) → Consumed a b taken part → Consumed a c taken part
  consumed-still taken part w = record { cs = w.cs; bytes = w.bytes; count = w.count; input = w.input ∙ ap (put_back (w.bytes ++ part)) (sym same); spells = w.spells }

  pub consumes-still : (end : End) → Consumes a b end → Consumes a c end
  consumes-still Done h = (h.0, consumed-still h.0 [] h.1, subst AtEnd (sym same) h.2)
  consumes-still Truncated (taken, part, some, is_part, w, at_end) = (taken, part, some, is_part, consumed-still taken part w, subst AtEnd (sym same) at_end)
  consumes-still Worn (taken, part, some, w, cause) = (taken, part, some, consumed-still taken part w, elim cause [ inl full ↦ inl full | inr is ↦ inr (worn ∙ is) ])
  consumes-still end h = tt

-- ---- an input that is recorded

pub says_of_script : (a b : BoardState) (end : End) → Consumes a b end → SaysOfScript a b end
says_of_script a b Done (taken, w, at_end) input is =
    (ap (λ s. s.1) (script_read a.input b.input input w.bytes [] w.cs is w.input at_end w.spells script_none), at_end)
says_of_script a b Truncated (taken, part, some, is_part, w, at_end) input is =
    let e = script_read a.input b.input input w.bytes part w.cs is w.input at_end w.spells is_part in
    (λ z. some (sym (ap (λ s. s.1) e) ∙ z), at_end)
says_of_script a b Worn (taken, part, some, w, cause) input is =
    let i = told b.input (w.bytes ++ part) input (sym is ∙ w.input) in
    let e : script w.bytes ≡ (w.cs, []) = script_whole w.bytes w.cs w.spells in (
      w.bytes,
      part ++ i.0,
      i.2 ∙ append_assoc w.bytes part i.0,
      (λ z. some (front_none part i.0 z)),
      ap (λ s. s.1) e,
      elim cause [ inl full ↦ inl (ap (λ s. length s.0) e ∙ (sym w.count ∙ full)) | inr worn ↦ inr worn ],
    )
says_of_script a b end h input is = tt
