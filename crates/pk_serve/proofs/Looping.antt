-- The loop over the commands of the input.
use Rattle.std.proofs.Common.{◌≡◌, ◌⊎◌, inl, inr, ℕ, ◌+◌, ◌<◌, List, [], ◌∷◌, ◌++◌, refl, sym, ◌∙◌, ap, subst, arith, append-nil, length-append, true, false, Bool}
use Rattle.pk_base.{specs.Shape.Shape, specs.Map.Map}
use Rattle.pk_nand.{specs.BoardState.BoardState, specs.Calls.put_back}
use Rattle.pk_model.{specs.Run.commands, specs.Wear.is_worn, specs.Spaces.Terms}
use Rattle.pk_call.{specs.Sight.Sight, specs.Drive.HoldsMap}
use Rattle.pk_serve.{specs.Ends.IsFault, specs.Serving.Serving, specs.Input.Spells, specs.Input.InputAdvances, specs.Input.InputFails, specs.Input.NoEntry, specs.Input.Quits}
use Rattle.pk_serve.{specs.Loop.Looping, specs.Loop.Finished, specs.Loop.Failed, specs.Loop.Finish, specs.Further.most_entries, specs.declared.end.End.End, proofs.Counting.commands-push}
use Rattle.pk_serve.specs.declared.end.End.TheVariants.{Done, Truncated, Input, Output, Flash, Worn}
use Rattle.pk_serve.{proofs.Serves.Serving-start, proofs.Serves.Serving-inputs, proofs.Scripts.taken-append, proofs.Scripts.put_back-nil, proofs.Scripts.Spells-none, proofs.Scripts.Spells-append}

pub Looping-start : (shape : Shape) (terms : Terms) (start : Map) (a : BoardState) (drive : Sight) (held : List ℕ)
    → held ≡ [] → HoldsMap shape terms a drive start → drive.pending ≡ [] → Looping shape terms start a a drive held 0
Looping-start shape terms start a drive held empty stands none =
    record {
      all = [];
      m = start;
      bytes = [];
      serving = rw empty (Serving-start shape terms start a drive stands none);
      count = refl;
      few = omega arith;
      input = put_back-nil a.input;
      spells = Spells-none;
    }

module _ (shape : Shape) (terms : Terms) (start : Map) (a b c : BoardState) (d e : Sight) (held now_held : List ℕ) (taken : ℕ) (w : Looping shape terms start a b d held taken) where
  pub Looping-next : taken < most_entries → InputAdvances b c d e held now_held taken → Looping shape terms start a c e now_held (taken + 1)
  Looping-next few n =
      let x = n.serves shape terms start a w.all w.m w.count w.serving in
      record {
        all = w.all ++ x.x ∷ [];
        m = x.m;
        bytes = w.bytes ++ n.bytes;
        serving = x.serving;
        count = omega (arith, w.count, length-append w.all (x.x ∷ []));
        few = omega (arith, few);
        input = taken-append a.input b.input c.input w.bytes n.bytes w.input n.input;
        spells = subst (λ l. Spells (w.bytes ++ n.bytes) l) (sym (commands-push w.all x.x ∙ ap (λ cmd. commands w.all ++ cmd ∷ []) x.is))
            (Spells-append w.bytes n.bytes (commands w.all) (n.c ∷ []) w.spells n.spells);
      }

  -- bytes after the commands were taken
  finished : (part : List ℕ) → b.input ≡ put_back part c.input → c ≡ record b { input = c.input; in_faults = c.in_faults } → e ≡ d → now_held ≡ held → Finished shape terms start a c e now_held part
  finished part more rest same_drive same_held =
      let there : Serving shape terms start a c d held w.all w.m = rw (← rest) at (Serving-inputs shape terms start a b d held w.all w.m w.serving c.input c.in_faults) in
      record {
        all = w.all;
        m = w.m;
        bytes = w.bytes;
        few = omega (arith, w.count, w.few);
        serving = rw (same_held, same_drive) there;
        input = taken-append a.input b.input c.input w.bytes part w.input more;
        spells = w.spells;
      }

  -- it fails in a command
  failed : (end : End) → InputFails b c d held taken end → Failed shape terms start a c end
  failed end f =
      let r = f.stops shape terms start a w.all w.m w.count w.serving in
      record {
        cs = commands w.all ++ f.c ∷ [];
        bytes = w.bytes ++ f.bytes;
        part = [];
        cutoff = r.0;
        input = taken-append a.input b.input c.input w.bytes f.bytes w.input f.input ∙ ap (λ t. put_back t c.input) (sym (append-nil (w.bytes ++ f.bytes)));
        spells = Spells-append w.bytes f.bytes (commands w.all) (f.c ∷ []) w.spells f.spells;
        cause = r.1;
      }

  -- the board is unchanged but for its input
  worn_too : c ≡ record b { input = c.input; in_faults = c.in_faults } → is_worn c ≡ is_worn b
  worn_too rest = ap is_worn rest

  -- no fault of the input
  both_fields : c ≡ record b { input = c.input } → c ≡ record b { input = c.input; in_faults = c.in_faults }
  both_fields p = p ∙ ap (λ (k : ℕ). record b { input = c.input; in_faults = k }) (sym (ap (λ s. s.in_faults) p))

  -- nothing was left open if the input ends
  pub none_taken : (no_more : Bool) (why : no_more ≡ true → (taken ≡ most_entries) ⊎ (is_worn b ≡ true)) (go : no_more ≡ false → (taken < most_entries) × (is_worn b ≡ false)) (end : End)
      → b.in_faults ≡ a.in_faults → e ≡ d → now_held ≡ held → NoEntry b c no_more end → Finish shape terms start a c e now_held end
  unfolding finished
  none_taken no_more why go Done same sd sh n = record { finished = finished [] n.left.input n.left.rest sd sh; at_end = n.at_end; same = n.same ∙ same }
  none_taken no_more why go Truncated same sd sh k = let n = k.0 in let f = go k.1 in record {
    part = n.part;
    some = n.some;
    is_part = n.left.is_part;
    finished = finished n.part n.left.input n.left.rest sd sh;
    goes_on = (omega (arith, f.0, w.count), worn_too n.left.rest ∙ f.1);
    at_end = n.at_end;
    same = n.same ∙ same;
  }
  none_taken no_more why go Input same sd sh k = let n = k.0 in record {
    part = n.part;
    goes_on = λ z. (let f = go (k.1 z) in (omega (arith, f.0, w.count), worn_too n.left.rest ∙ f.1));
    is_part = n.left.is_part;
    finished = finished n.part n.left.input n.left.rest sd sh;
    rose = rw same at n.rose;
  }
  none_taken no_more why go Worn same sd sh n =
      let k = n.0 in
      let rest : c ≡ record b { input = c.input; in_faults = c.in_faults } = both_fields k.rest in
      record {
        part = k.part;
        some = k.some;
        finished = finished k.part k.input rest sd sh;
        cause = elim (why n.1) [ inl full ↦ inl (sym w.count ∙ full) | inr worn ↦ inr (worn_too rest ∙ worn) ];
        same = ap (λ s. s.in_faults) k.rest ∙ same;
      }
  none_taken no_more why go end same sd sh n = absurd n

  command_failed : (end : End) → InputFails b c d held taken end → Finish shape terms start a c e now_held end
  command_failed Output f = failed Output f
  command_failed Flash f = failed Flash f
  command_failed end f = absurd (failed end f).cause

  -- a command was not served
  pub Finish-quits : taken < most_entries → (end : End) → b.in_faults ≡ a.in_faults
      → IsFault end ⊎ ((e ≡ d) × (now_held ≡ held)) → Quits b c d held taken end → Finish shape terms start a c e now_held end
  Finish-quits few end same idle (inr f) = command_failed end f
  Finish-quits few end same (inr o) (inl n) = none_taken (is_worn b) (λ h. inr h) (λ h. (few, h)) end same o.0 o.1 n
  Finish-quits few Output same (inl o) (inl n) = absurd n
  Finish-quits few Flash same (inl o) (inl n) = absurd n
  Finish-quits few end same (inl o) (inl n) = absurd o
