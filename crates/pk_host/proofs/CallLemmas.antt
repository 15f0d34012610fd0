-- What each call answers, from the reply of its command.
use Rattle.std.proofs.Common.{◌≡◌, ℕ, ◌≤◌, min, List, [], length, take, Bool, true, false, ◌==◌, if◌then◌else◌, Option, Some, None, Result, Ok, Err, IfOk, OnOk, is_some, unwrap_or, refl, sym, ap}
use Rattle.std.proofs.Common.{subst, ◌∙◌, arith}
use Rattle.std.{proofs.lemmas.Bool.eqb-true, proofs.lemmas.List.length-take-le, proofs.lemmas.List.length-take, specs.FinMap.get, specs.FinMap.contains_key, specs.FinMap.insert, specs.FinMap.remove}
use Rattle.pk_base.{specs.Key.Key, specs.Key.IsKey, specs.Key.bytes_of, specs.Key.space_of, specs.Map.Map}
use Rattle.pk_nvme.{specs.Command.Command, specs.Command.key, specs.Reply.Reply, specs.Opcode.op_of, specs.declared.opcode.Opcode.Opcode, specs.declared.status.TheConstants.KEY_DOES_NOT_EXIST}
use Rattle.pk_nvme.specs.declared.opcode.Opcode.TheVariants.{Store, Retrieve, Delete, Exist}
use Rattle.pk_nvme.specs.declared.opcode.TheConstants.{STORE, RETRIEVE, DELETE, EXIST}
use Rattle.pk_model.specs.Answer.{effect, success}
use Rattle.pk_host.{specs.declared.types.HostError.HostError, specs.declared.types.HostError.TheVariants.Refused, specs.Port.PortState, specs.Port.Replies}
use Rattle.pk_host.specs.Calls.{of_bytes, of_key, retrieve_of, delete_of, exist_of}
use Rattle.pk_host.specs.Outcomes.{existed, found, Tests, Deletes, Leaves, Fetches, IsFront}
use Rattle.pk_host.proofs.CommandLemmas.{there, missing, same_map, success_served, key-of_key, delete_by, exist_by, retrieve_by, store_by}

-- a success and a missing key are the two answers
pub found_cases : {X : Type 0} (hit miss : X) (a : Reply) (r : Result X HostError) (P : X → Type 0)
    → r ≡ found hit miss a → (a.status ≡ 0 → P hit) → (a.status ≡ KEY_DOES_NOT_EXIST → P miss) → IfOk r P
found_cases hit miss a r P e at_hit at_miss = subst (λ x. IfOk x P) (sym e) (
    elim (a.status == 0) as (λ b. (a.status == 0) ≡ b → IfOk (if b then Ok hit else if a.status == KEY_DOES_NOT_EXIST then Ok miss else Err (Refused a.status)) P) [
      | true ↦ λ z. at_hit (eqb-true a.status 0 z)
      | false ↦ λ z. elim (a.status == KEY_DOES_NOT_EXIST) as (λ b. (a.status == KEY_DOES_NOT_EXIST) ≡ b → IfOk (if b then Ok miss else Err (Refused a.status)) P) [
        | true ↦ λ y. at_miss (eqb-true a.status KEY_DOES_NOT_EXIST y)
        | false ↦ λ y. tt
      ] refl
    ] refl)

-- the bytes of the command's key are those that were passed
module _ (old new : PortState) (k : Key) (k' : List ℕ) (same : k' ≡ bytes_of k) (h : IsKey k) (first : space_of k ≡ 1) (a : Reply) where
  for_key : (of : List ℕ → Command) → Replies old new (of k') a → Replies old new (of (bytes_of k)) a
  for_key of x = subst (λ (q : List ℕ). Replies old new (of q) a) same x

  for_delete : Replies old new (of_bytes DELETE k' 0 0 []) a → Replies old new (delete_of k) a
  for_delete x = for_key (λ q. of_bytes DELETE q 0 0 []) x

  for_exist : Replies old new (of_bytes EXIST k' 0 0 []) a → Replies old new (exist_of k) a
  for_exist x = for_key (λ q. of_bytes EXIST q 0 0 []) x

  key_is : (opcode : ℕ) → key (of_key opcode k 0 0 []) ≡ k
  key_is opcode = key-of_key opcode k 0 0 [] (h, first)

  pub delete_tests : (r : Result Bool HostError) → Replies old new (of_bytes DELETE k' 0 0 []) a → r ≡ existed a → IfOk r (λ b. Tests old k b)
  delete_tests r x e = found_cases true false a r (λ b. Tests old k b) e
      (λ zero m told. let s = (for_delete x).answers m told in
      sym (there old.shape old.limit s.frames m (delete_of k) Delete refl s.within.alone a s.left refl (delete_by old.shape old.limit m k h s.within.alone) zero s.stepped).0
      ∙ ap (contains_key m) (key_is DELETE))
      (λ none m told. let s = (for_delete x).answers m told in
      sym (missing old.shape old.limit s.frames m (delete_of k) Delete refl s.within.alone a s.left refl (delete_by old.shape old.limit m k h s.within.alone) (λ own. refl) none s.stepped).0
      ∙ ap (contains_key m) (key_is DELETE))

  pub delete_leaves : (r : Result Bool HostError) → Replies old new (of_bytes DELETE k' 0 0 []) a → r ≡ existed a → IfOk r (λ b. Deletes old new k b)
  delete_leaves r x e = found_cases true false a r (λ b. Deletes old new k b) e
      (λ zero m told. let s = (for_delete x).answers m told in
      s.told ∙ ap (λ (n : Map). Some n)
      ((there old.shape old.limit s.frames m (delete_of k) Delete refl s.within.alone a s.left refl (delete_by old.shape old.limit m k h s.within.alone) zero s.stepped).1.leaves
      ∙ ap (remove m) (key_is DELETE)))
      (λ none m told. let s = (for_delete x).answers m told in
      s.told ∙ ap (λ (n : Map). Some n)
      (missing old.shape old.limit s.frames m (delete_of k) Delete refl s.within.alone a s.left refl (delete_by old.shape old.limit m k h s.within.alone) (λ own. refl) none s.stepped).1)

  pub exist_tests : (r : Result Bool HostError) → Replies old new (of_bytes EXIST k' 0 0 []) a → r ≡ existed a → IfOk r (λ b. Tests old k b)
  exist_tests r x e = found_cases true false a r (λ b. Tests old k b) e
      (λ zero m told. let s = (for_exist x).answers m told in
      sym (there old.shape old.limit s.frames m (exist_of k) Exist refl s.within.alone a s.left refl (exist_by old.shape old.limit m k h s.within.alone) zero s.stepped).0
      ∙ ap (contains_key m) (key_is EXIST))
      (λ none m told. let s = (for_exist x).answers m told in
      sym (missing old.shape old.limit s.frames m (exist_of k) Exist refl s.within.alone a s.left refl (exist_by old.shape old.limit m k h s.within.alone) (λ own. refl) none s.stepped).0
      ∙ ap (contains_key m) (key_is EXIST))

  pub store_leaves : (value : List ℕ) (options : ℕ) → Replies old new (of_bytes STORE k' (length value) options value) a → a.status ≡ 0 → Leaves old new (λ m. insert m k value)
  store_leaves value options x zero m told =
      let s = (for_key (λ q. of_bytes STORE q (length value) options value) x).answers m told in
      let served = success_served old.shape old.limit s.frames m (of_key STORE k (length value) options value) Store refl s.within.alone a s.left refl
      (store_by old.shape old.limit m k h s.within.alone options value) zero s.stepped in
      s.told ∙ ap (λ (n : Map). Some n) (served.leaves ∙ ap (λ (q : Key). insert m q value) (key-of_key STORE k (length value) options value (h, first)))

  -- a prefix of a value that exists
  front_there : (m : Map) (value : Option (List ℕ)) (into : List ℕ) (len size status : ℕ) → is_some value ≡ true → length into ≡ size → len ≤ length into
      → a ≡ success (length (unwrap_or value [])) (take size (unwrap_or value [])) → a.data_bytes ≡ take len into → IsFront value (Some a.result) into
  front_there m None into len size status there sized fits e front_is = cc
  front_there m (Some value) into len size status there sized fits e front_is =
      let whole : a.result ≡ length value = ap (λ (r : Reply). r.result) e in
      let front : take len into ≡ take size value = sym front_is ∙ ap (λ (r : Reply). r.data_bytes) e in
      let n : len ≡ min size (length value) = sym (length-take-le len into fits) ∙ ap (λ (xs : List ℕ). length xs) front ∙ length-take size value in (
        ap (λ (x : ℕ). Some x) whole,
        ap (λ (x : ℕ). take x into) (omega (arith, n, sized)) ∙ front ∙ ap (λ (x : ℕ). take x value) (sym sized),
      )

  pub retrieve_there : (into : List ℕ) (size len : ℕ) → Replies old new (of_bytes RETRIEVE k' size 0 []) a → a.status ≡ 0 → length into ≡ size → len ≤ length into → a.data_bytes ≡ take len into
      → Fetches old k (Some a.result) into
  retrieve_there into size len x zero sized fits front_is m told =
      let s = (for_key (λ q. of_bytes RETRIEVE q size 0 []) x).answers m told in
      let both = there old.shape old.limit s.frames m (retrieve_of k size) Retrieve refl s.within.alone a s.left refl (retrieve_by old.shape old.limit m k h s.within.alone size) zero s.stepped in
      let is : key (retrieve_of k size) ≡ k = key-of_key RETRIEVE k size 0 [] (h, first) in
      front_there m (get m k) into len size 0 (sym (ap (contains_key m) is) ∙ both.0) sized fits
      (both.1.replied ∙ ap (λ (q : Key). success (length (unwrap_or (get m q) [])) (take size (unwrap_or (get m q) []))) is) front_is

  none_there : (value : Option (List ℕ)) (into : List ℕ) → is_some value ≡ false → IsFront value None into
  none_there None into e = refl
  none_there (Some value) into e = cc

  pub retrieve_missing : (into : List ℕ) (size : ℕ) → Replies old new (of_bytes RETRIEVE k' size 0 []) a → a.status ≡ KEY_DOES_NOT_EXIST → Fetches old k None into
  retrieve_missing into size x none m told =
      let s = (for_key (λ q. of_bytes RETRIEVE q size 0 []) x).answers m told in
      let both = missing old.shape old.limit s.frames m (retrieve_of k size) Retrieve refl s.within.alone a s.left refl
      (retrieve_by old.shape old.limit m k h s.within.alone size) (λ own. refl) none s.stepped in
      none_there (get m k) into (sym (ap (contains_key m) (key-of_key RETRIEVE k size 0 [] (h, first))) ∙ both.0)

-- a command of a kind that leaves the map leaves the port's
pub leaves_map : (old new : PortState) (c : Command) (k : Opcode) (a : Reply) → op_of c.opcode ≡ Some k → ((m : Map) → effect m c (Some k) ≡ m) → Replies old new c a → Leaves old new (λ m. m)
leaves_map old new c k a is stays x m told =
    let s = x.answers m told in
    s.told ∙ ap (λ (n : Map). Some n) (same_map old.shape old.limit s.frames m c k a s.left is (stays m) s.stepped)

pub ok_if : {X : Type 0} (r : Result X HostError) (P : Type 0) → P → OnOk r P
ok_if (Ok x) P p = p
ok_if (Err e) P p = tt
