-- What the definition answers to the one command of each call.
use Rattle.std.proofs.Common.{◌≡◌, ◌==◌, inl, inr, ℕ, ◌≤◌, List, [], ◌∷◌, length, Bool, true, false, ◌&&◌, ◌||◌, not, nat_le, Some, None, refl, sym, ap, ◌∙◌, arith}
use Rattle.std.{proofs.lemmas.List.take_at, proofs.lemmas.Bool.le-leb, proofs.lemmas.Bool.eq-eqb, specs.FinMap.contains_key}
use Rattle.pk_base.{specs.Choices.or_else, specs.Key.Key, specs.Key.IsKey, specs.Key.bytes_of, specs.Shape.Shape, specs.Shape.greatest, specs.Map.Map}
use Rattle.pk_nvme.{specs.Command.Command, specs.Command.key, specs.Command.must_exist, specs.Command.must_be_new, specs.Reply.Reply, specs.Reply.refusal, specs.Opcode.op_of}
use Rattle.pk_nvme.{specs.declared.opcode.Opcode.Opcode, specs.declared.opcode.Opcode.TheVariants.Store}
use Rattle.pk_nvme.specs.declared.status.TheConstants.{CAPACITY_EXCEEDED, INVALID_VALUE_SIZE, INVALID_KEY_SIZE, KEY_DOES_NOT_EXIST, UNRECOVERED_ERROR, KEY_EXISTS}
use Rattle.pk_nvme.specs.declared.opcode.TheConstants.{STORE, RETRIEVE, DELETE, EXIST}
use Rattle.pk_model.specs.Answer.{check, late_of, live_after, refused, reply, reply_of, map_after, effect, Answer}
use Rattle.pk_model.{specs.Run.Step, specs.Spaces.one_space, specs.Spaces.limit_of, specs.Spaces.in_space}
use Rattle.pk_host.{specs.Calls.of_key, specs.Calls.report, specs.Outcomes.list_of, proofs.SpellingLemmas.IsFirstKey, proofs.SpellingLemmas.in_first}

zero_is_not_87 : ◌≡◌ {A = ℕ} 0 KEY_DOES_NOT_EXIST → ⊥
zero_is_not_87 e = omega (arith, e)

fault_is_not_87 : ◌≡◌ {A = ℕ} UNRECOVERED_ERROR KEY_DOES_NOT_EXIST → ⊥
fault_is_not_87 e = omega (arith, e)

-- ---- a command that is served

module _ (shape : Shape) (most frames : ℕ) (m : Map) (c : Command) (k : Opcode) where
  -- the reply and the map of a command of this kind
  pub record ServedAs (a : Reply) (left : Map) : Type 0 where
    pub own : List ℕ
    pub eleven : length own ≡ 11
    pub replied : a ≡ reply_of shape most frames m own c (Some k)
    pub leaves : left ≡ effect m c (Some k)

  refuses : (a : Reply) (left : Map) (status : ℕ) → refused shape (most ∷ []) m c ≡ Some status → Answer shape (one_space frames most) m c a left → (a ≡ refusal status) × (left ≡ m)
  unfolding reply map_after
  refuses a left status e x = (x.replied ∙ rw e refl, x.leaves ∙ rw e refl)

  stores_effect : (a : Reply) (left : Map) → op_of c.opcode ≡ Some k → refused shape (most ∷ []) m c ≡ None → Answer shape (one_space frames most) m c a left → left ≡ effect m c (Some k)
  unfolding map_after
  stores_effect a left is none x = x.leaves ∙ rw (none, is) refl

  -- a command of a kind that leaves the map leaves it, whatever it is answered
  pub same_map : (a : Reply) (left : Map) → op_of c.opcode ≡ Some k → effect m c (Some k) ≡ m → Step shape (one_space frames most) m c a left → left ≡ m
  same_map a left is stays (inl x) =
      elim (refused shape (most ∷ []) m c) as (λ r. refused shape (most ∷ []) m c ≡ r → left ≡ m) [
        | None ↦ λ e. stores_effect a left is e x ∙ stays
        | Some s ↦ λ e. (refuses a left s e x).1
      ] refl
  same_map a left is stays (inr u) = u.leaves

  -- in the namespace, of which the map is
  module _ (first : c.namespace ≡ 1) (alone : in_space 1 m ≡ m) where
    served : (a : Reply) (left : Map) → op_of c.opcode ≡ Some k → refused shape (most ∷ []) m c ≡ None → Answer shape (one_space frames most) m c a left → ServedAs a left
    unfolding reply
    served a left is none x = record {
      own = x.own;
      eleven = x.eleven;
      replied =
          x.replied ∙ rw (none, is) refl
          ∙ ap (λ (n : ℕ). reply_of shape (limit_of (most ∷ []) n) frames (in_space n m) x.own c (Some k)) first
          ∙ ap (λ (n : Map). reply_of shape most frames n x.own c (Some k)) alone;
      leaves = stores_effect a left is none x;
    }

    -- a success is served, if no refusal has status 0
    pub success_served : (a : Reply) (left : Map) → op_of c.opcode ≡ Some k → (refused shape (most ∷ []) m c ≡ Some 0 → ⊥)
        → a.status ≡ 0 → Step shape (one_space frames most) m c a left → ServedAs a left
    success_served a left is none zero (inl x) =
        elim (refused shape (most ∷ []) m c) as (λ r. refused shape (most ∷ []) m c ≡ r → ServedAs a left) [
          | None ↦ λ e. served a left is e x
          | Some s ↦ λ e. absurd (none (e ∙ ap (λ (n : ℕ). Some n) (sym (ap (λ (r : Reply). r.status) (refuses a left s e x).0) ∙ zero)))
        ] refl
    success_served a left is none zero (inr u) = absurd (let clash : UNRECOVERED_ERROR ≡ 0 = sym (ap (λ (r : Reply). r.status) u.replied) ∙ zero in cc)

    -- ---- a command that is refused exactly if its key is missing

    pub there : (a : Reply) (left : Map) → op_of c.opcode ≡ Some k
        → refused shape (most ∷ []) m c ≡ check (contains_key m (key c)) KEY_DOES_NOT_EXIST → a.status ≡ 0 → Step shape (one_space frames most) m c a left
        → (contains_key m (key c) ≡ true) × ServedAs a left
    there a left is by zero (inl x) =
        elim (contains_key m (key c)) as (λ b. contains_key m (key c) ≡ b → (contains_key m (key c) ≡ true) × ServedAs a left) [
          | true ↦ λ e. (e, served a left is (by ∙ ap (λ b. check b KEY_DOES_NOT_EXIST) e) x)
          | false ↦ λ e. absurd (let clash : KEY_DOES_NOT_EXIST ≡ 0 = sym (ap (λ (r : Reply). r.status) (refuses a left KEY_DOES_NOT_EXIST (by ∙ ap (λ b. check b KEY_DOES_NOT_EXIST) e) x).0)
              ∙ zero in cc)
        ] refl
    there a left is by zero (inr u) = absurd (let clash : UNRECOVERED_ERROR ≡ 0 = sym (ap (λ (r : Reply). r.status) u.replied) ∙ zero in cc)

    pub missing : (a : Reply) (left : Map) → op_of c.opcode ≡ Some k → refused shape (most ∷ []) m c ≡ check (contains_key m (key c)) KEY_DOES_NOT_EXIST
        → ((own : List ℕ) → (reply_of shape most frames m own c (Some k)).status ≡ 0) → a.status ≡ KEY_DOES_NOT_EXIST → Step shape (one_space frames most) m c a left
        → (contains_key m (key c) ≡ false) × (left ≡ m)
    missing a left is by none status (inl x) =
        elim (contains_key m (key c)) as (λ b. contains_key m (key c) ≡ b → (contains_key m (key c) ≡ false) × (left ≡ m)) [
          | true ↦ λ e. absurd (
              let s = served a left is (by ∙ ap (λ b. check b KEY_DOES_NOT_EXIST) e) x in
              zero_is_not_87 (sym (none s.own) ∙ sym (ap (λ (r : Reply). r.status) s.replied) ∙ status))
          | false ↦ λ e. (e, (refuses a left KEY_DOES_NOT_EXIST (by ∙ ap (λ b. check b KEY_DOES_NOT_EXIST) e) x).1)
        ] refl
    missing a left is by none status (inr u) = absurd (fault_is_not_87 (sym (ap (λ (r : Reply). r.status) u.replied) ∙ status))

    -- what is neither a success nor refused is a failed read
    pub only_fault : (a : Reply) (left : Map) → op_of c.opcode ≡ Some k → refused shape (most ∷ []) m c ≡ None
        → ((own : List ℕ) → (reply_of shape most frames m own c (Some k)).status ≡ 0) → (a.status == 0) ≡ false
        → Step shape (one_space frames most) m c a left → a.status ≡ UNRECOVERED_ERROR
    only_fault a left is none zero e (inl x) =
        let s = served a left is none x in
        absurd (let clash : true ≡ false = sym (eq-eqb a.status 0 (ap (λ (r : Reply). r.status) s.replied ∙ zero s.own)) ∙ e in cc)
    only_fault a left is none zero e (inr u) = ap (λ (r : Reply). r.status) u.replied

    pub keyed_fault : (a : Reply) (left : Map) → op_of c.opcode ≡ Some k → refused shape (most ∷ []) m c ≡ check (contains_key m (key c)) KEY_DOES_NOT_EXIST
        → ((own : List ℕ) → (reply_of shape most frames m own c (Some k)).status ≡ 0)
        → (a.status == 0) ≡ false → (a.status == KEY_DOES_NOT_EXIST) ≡ false → Step shape (one_space frames most) m c a left → a.status ≡ UNRECOVERED_ERROR
    keyed_fault a left is by zero e f (inl x) =
        elim (contains_key m (key c)) as (λ b. contains_key m (key c) ≡ b → a.status ≡ UNRECOVERED_ERROR) [
          | true ↦ λ t. only_fault a left is (by ∙ ap (λ b. check b KEY_DOES_NOT_EXIST) t) zero e (inl x)
          | false ↦ λ t. absurd (let clash : true ≡ false = sym
              (eq-eqb a.status KEY_DOES_NOT_EXIST (ap (λ (r : Reply). r.status) (refuses a left KEY_DOES_NOT_EXIST (by ∙ ap (λ b. check b KEY_DOES_NOT_EXIST) t) x).0)) ∙ f in cc)
        ] refl
    keyed_fault a left is by zero e f (inr u) = ap (λ (r : Reply). r.status) u.replied

-- ---- the checks of each command

-- the key of a command is the key that it was made for
pub key_named : (opcode : ℕ) (k : Key) (size options : ℕ) (value : List ℕ) → key (of_key opcode k size options value) ≡ 1 ∷ bytes_of k
key_named opcode k size options value = ap (λ (bytes : List ℕ). 1 ∷ bytes) (take_at (bytes_of k) _ (length (bytes_of k)) refl)

pub key-of_key : (opcode : ℕ) (k : Key) (size options : ℕ) (value : List ℕ) → IsFirstKey k → key (of_key opcode k size options value) ≡ k
key-of_key opcode k size options value h = key_named opcode k size options value ∙ in_first k h

key_length : (k : Key) → IsKey k → (nat_le 1 (length (bytes_of k)) && nat_le (length (bytes_of k)) 16) ≡ true
key_length k h = rw (le-leb 1 (length (bytes_of k)) h.some, le-leb (length (bytes_of k)) 16 h.most) refl

module _ (shape : Shape) (most : ℕ) (m : Map) (k : Key) (h : IsKey k) (alone : in_space 1 m ≡ m) where
  -- by the check of the key's length, and then by that the key exists
  keyed_by : (c : Command)
      → refused shape (most ∷ []) m c
      ≡ or_else (or_else (check (nat_le 1 (length (bytes_of k)) && nat_le (length (bytes_of k)) 16) INVALID_KEY_SIZE) None) (check (contains_key (in_space 1 m) (key c)) KEY_DOES_NOT_EXIST)
      → refused shape (most ∷ []) m c ≡ check (contains_key m (key c)) KEY_DOES_NOT_EXIST
  keyed_by c is =
      is ∙ ap (λ b. or_else (or_else (check b INVALID_KEY_SIZE) None) (check (contains_key (in_space 1 m) (key c)) KEY_DOES_NOT_EXIST)) (key_length k h)
      ∙ ap (λ (n : Map). check (contains_key n (key c)) KEY_DOES_NOT_EXIST) alone

  pub delete_by : refused shape (most ∷ []) m (of_key DELETE k 0 0 []) ≡ check (contains_key m (key (of_key DELETE k 0 0 []))) KEY_DOES_NOT_EXIST
  delete_by = keyed_by (of_key DELETE k 0 0 []) refl

  pub exist_by : refused shape (most ∷ []) m (of_key EXIST k 0 0 []) ≡ check (contains_key m (key (of_key EXIST k 0 0 []))) KEY_DOES_NOT_EXIST
  exist_by = keyed_by (of_key EXIST k 0 0 []) refl

  pub retrieve_by : (size : ℕ) → refused shape (most ∷ []) m (of_key RETRIEVE k size 0 []) ≡ check (contains_key m (key (of_key RETRIEVE k size 0 []))) KEY_DOES_NOT_EXIST
  retrieve_by size = keyed_by (of_key RETRIEVE k size 0 []) refl

  not_zero : (fits is_there is_new room : Bool)
      → or_else (check fits INVALID_VALUE_SIZE) (or_else (check is_there KEY_DOES_NOT_EXIST) (or_else (check is_new KEY_EXISTS) (check room CAPACITY_EXCEEDED))) ≡ Some 0 → ⊥
  not_zero true true true false e = cc
  not_zero _ _ _ _ e = cc

  pub store_by : (options : ℕ) (value : List ℕ) → refused shape (most ∷ []) m (of_key STORE k (length value) options value) ≡ Some 0 → ⊥
  store_by options value e =
      let c : Command = of_key STORE k (length value) options value in
      let checks : refused shape (most ∷ []) m c ≡ or_else (check (nat_le (length value) (greatest shape)) INVALID_VALUE_SIZE) (late_of shape most m c (Some Store)) =
      ap (λ b. or_else (or_else (check b INVALID_KEY_SIZE) (check (nat_le (length value) (greatest shape)) INVALID_VALUE_SIZE)) (late_of shape most (in_space 1 m) c (Some Store))) (key_length k h)
      ∙ ap (λ (n : Map). or_else (check (nat_le (length value) (greatest shape)) INVALID_VALUE_SIZE) (late_of shape most n c (Some Store))) alone in
      not_zero (nat_le (length value) (greatest shape)) (not (must_exist c) || contains_key m (key c))
      (not (must_be_new c && contains_key m (key c))) (nat_le (live_after shape m c) most) (sym checks ∙ e)

-- a List of 65,536 bytes is never refused
pub list_by : (shape : Shape) (most : ℕ) (m : Map) (from : Key) → length (bytes_of from) ≤ 16 → refused shape (most ∷ []) m (list_of from) ≡ None
list_by shape most m from short = ap (λ b. or_else (or_else (check b INVALID_KEY_SIZE) None) None) (le-leb (length (bytes_of from)) 16 short)

-- nor is a Report
pub report_by : (shape : Shape) (most : ℕ) (m : Map) → refused shape (most ∷ []) m report ≡ None
report_by shape most m = refl
