-- What a word says, from the reply of its command.
use Rattle.std.proofs.Common.{◌≡◌, inl, inr, ℕ, ◌≤◌, min, true, false, if◌then◌else◌, List, [], ◌∷◌, length, take, Option, Some, None, Result, Ok, Err, refl, sym, ap, subst, ◌∙◌, arith}
use Rattle.std.{proofs.lemmas.List.take_all, specs.FinMap.get, specs.FinMap.entries, specs.FinMap.get-entries, specs.FinMap.Entries.find, specs.Ordering.is_eq, specs.List.AllByRecursion}
use Rattle.pk_base.{specs.Fields.AreBytes, specs.Key.Key, specs.Key.IsKey, specs.Key.key_cmp, specs.Shape.Shape, specs.Shape.greatest, specs.Map.Map, specs.Map.IsMap}
use Rattle.pk_nand.specs.Calls.{Rose}
use Rattle.pk_nvme.{specs.Command.Command, specs.Reply.Reply, specs.declared.opcode.Opcode.TheVariants.Retrieve}
use Rattle.pk_host.{specs.declared.types.HostError.HostError, specs.declared.types.HostError.TheVariants.Refused, specs.declared.types.HostError.TheVariants.Port, specs.Port.PortState}
use Rattle.pk_host.{specs.Calls.retrieve_of, specs.Outcomes.Gives, specs.Outcomes.Fetches, specs.Outcomes.IsFront, specs.Outcomes.IsCause, specs.Outcomes.IsRefusal, specs.Outcomes.retrieved}
use Rattle.pk_host.{proofs.CallLemmas.leaves_map, proofs.CauseLemmas.retrieve_cause}
use Rattle.pk_words.{specs.Lines.status_line, specs.Lines.value_line, specs.Says.SaysStatus, specs.Says.SaysValue, specs.Says.SaysFound, specs.Said.Said, specs.Said.IsStatus}

-- a word that says how its command was answered
pub said_status : {X : Type 0} (of : Reply → Result X HostError) (old new : PortState) (c : Command) (outcome : Result X HostError) (status : ℕ) (text : List ℕ)
    → Gives old new c of outcome → IsStatus of outcome (Ok status) → text ≡ status_line status → Said (SaysStatus c) old new text
said_status of old new c outcome status text (inr fault) is spelled m told = absurd (is.0 fault.0)
said_status of old new c outcome status text (inl (a, x, e)) is spelled m told =
    let s = x.answers m told in record {
      frames = s.frames;
      frames_is = s.frames_is;
      left = s.left;
      says = record {
        reply = a;
        stepped = s.stepped;
        unread = x.unread;
        spelled = spelled ∙ ap status_line (sym (is.1 a e));
      };
      told = s.told;
    }

-- ---- the value of a key

found_small : (bound : ℕ) (es : List (Key × List ℕ)) (q : Key) (v : List ℕ) → AllByRecursion (λ e. (length e.1 ≤ bound) × AreBytes e.1) es → find key_cmp q es ≡ Some v → length v ≤ bound
found_small bound [] q v all found = cc
found_small bound (e ∷ es) q v all found =
    elim (is_eq (key_cmp q e.0)) as (λ b. (if b then Some e.1 else find key_cmp q es) ≡ Some v → length v ≤ bound) [
      | true ↦ λ h. let same : e.1 ≡ v = cc in subst (λ (xs : List ℕ). length xs ≤ bound) same all.0.0
      | false ↦ λ h. found_small bound es q v all.1 h
    ] found

-- a value of a map is no longer than the greatest
value_small : (shape : Shape) (m : Map) (q : Key) (v : List ℕ) → IsMap shape m → get m q ≡ Some v → length v ≤ greatest shape
value_small shape m q v h found = found_small (greatest shape) (entries m) q v h.values (sym (get-entries m q) ∙ found)

-- the prefix that was fetched into a buffer of that size is the whole value
whole_front : (value : Option (List ℕ)) (len : ℕ) (into : List ℕ) (bound : ℕ) → ((v : List ℕ) → value ≡ Some v → length v ≤ bound)
    → length into ≡ bound → IsFront value (Some len) into → value ≡ Some (take len into)
whole_front None len into bound small sized h = cc
whole_front (Some v) len into bound small sized h =
    let fits = small v refl in
    let n : len ≡ length v = cc (h.0) in
    let least : min (length v) (length into) ≡ len = omega (arith, fits, sized, n) in
    let all : take (length into) v ≡ v = take_all (length into) v (omega (arith, fits, sized)) in
    ap (λ (xs : List ℕ). Some xs) (sym all ∙ sym h.1 ∙ ap (λ (k : ℕ). take k into) least)

module _ (old new : PortState) (key : Key) (size : ℕ) where
  -- what is found on the port's map
  found_on : (text : List ℕ) (r : Result (Option ℕ) HostError) → Gives old new (retrieve_of key size) retrieved r → (r ≡ Err Port → ⊥)
      → ((m : Map) → IsMap old.shape m → old.map ≡ Some m → SaysFound (Rose old.read_faults new.read_faults) (value_line (get m key)) text) → Said (SaysValue key) old new text
  found_on text r (inr fault) not_port found m told = absurd (not_port fault.0)
  found_on text r (inl (a, x, e)) not_port found m told =
      let s = x.answers m told in record {
        frames = s.frames;
        frames_is = s.frames_is;
        left = m;
        says = (refl, found m s.within.sized told);
        told = leaves_map old new (retrieve_of key size) Retrieve a refl (λ m. refl) x m told;
      }

  pub said_value : (o : Option ℕ) (len : ℕ) (into text : List ℕ) → o ≡ Some len → length into ≡ greatest old.shape
      → Gives old new (retrieve_of key size) retrieved (Ok o) → Fetches old key o into → text ≡ value_line (Some (take len into)) → Said (SaysValue key) old new text
  said_value o len into text is sized gives fetches spelled = found_on text (Ok o) gives (λ e. cc) (λ m held told.
      let here = subst (λ (x : Option ℕ). IsFront (get m key) x into) is (fetches m told) in
      let value = whole_front (get m key) len into (greatest old.shape) (λ v found. value_small old.shape m key v held found) sized here in
      inl (spelled ∙ ap value_line (sym value)))

  none_missing : (value : Option (List ℕ)) (into : List ℕ) → IsFront value None into → value ≡ None
  none_missing None into h = refl
  none_missing (Some v) into h = cc

  pub said_missing : (o : Option ℕ) (into text : List ℕ) → o ≡ None → Gives old new (retrieve_of key size) retrieved (Ok o)
      → Fetches old key o into → text ≡ value_line None → Said (SaysValue key) old new text
  said_missing o into text is gives fetches spelled = found_on text (Ok o) gives (λ e. cc) (λ m held told.
      let here = subst (λ (x : Option ℕ). IsFront (get m key) x into) is (fetches m told) in
      inl (spelled ∙ ap value_line (sym (none_missing (get m key) into here))))

  pub said_failed : (error : HostError) (status : ℕ) (text : List ℕ) → error ≡ Refused status → IsKey key
      → Gives old new (retrieve_of key size) retrieved (Err error) → text ≡ status_line status → Said (SaysValue key) old new text
  said_failed error status text is is_key gives spelled =
      let cause : IsRefusal old new retrieved status = subst (λ (e : HostError). IsCause old new retrieved e) is (retrieve_cause old new key size error is_key gives) in
      found_on text (Err error) gives (λ e. cc (is, e)) (λ m held told.
      let read = cause.told m told in
      inr (cause.unread read, spelled ∙ ap status_line read))
