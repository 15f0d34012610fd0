-- The replies of the definition: their data fit the buffer that is asked for, and none is a read error.
use Rattle.std.proofs.Common.{◌≡◌, ◌≢◌, ℕ, ◌-◌, ◌*◌, ◌≤◌, ◌==◌, min, refl, sym, subst, ◌∙◌, arith, Bool, true, false, not, ◌&&◌, ◌||◌, nat_le, if◌then◌else◌, List, [], ◌∷◌, length, flat_map}
use Rattle.std.proofs.Common.{Option, Some, None, unwrap_or, length-append}
use Rattle.std.{proofs.lemmas.Bool.leb-true, proofs.lemmas.Bool.eq-eqb, proofs.lemmas.List.length-take, specs.FinMap.get, specs.FinMap.contains_key, specs.FinMap.len}
use Rattle.pk_base.{specs.Choices.or_else, specs.Key.Key, specs.Fields.u32, specs.Shape.Shape, specs.Shape.greatest, specs.Shape.pinned, specs.Map.Map, specs.Map.keys_from, specs.Map.live}
use Rattle.pk_nvme.{specs.declared.opcode.Opcode.Opcode, specs.declared.limits.TheConstants.COUNT_BYTES, specs.Opcode.op_of, specs.Reply.Reply}
use Rattle.pk_nvme.specs.declared.opcode.Opcode.TheVariants.{Flush, Store, Retrieve, List as ListKeys, Delete, Exist, Report}
use Rattle.pk_nvme.specs.declared.status.TheConstants.{SUCCESSFUL_COMPLETION, INVALID_COMMAND_OPCODE, INVALID_FIELD_IN_COMMAND, INVALID_NAMESPACE_OR_FORMAT, CAPACITY_EXCEEDED, INVALID_VALUE_SIZE}
use Rattle.pk_nvme.specs.declared.status.TheConstants.{INVALID_KEY_SIZE, KEY_DOES_NOT_EXIST, UNRECOVERED_ERROR, KEY_EXISTS}
use Rattle.pk_nvme.specs.Command.{Command, key, must_exist, must_be_new}
use Rattle.pk_model.specs.Answer.{check, is_namespace, is_key_length, size_fault, fault_of, early, late_of, live_after, refused, reply, reply_of, listed, fitting, list_bytes}
use Rattle.pk_model.{specs.Machine.no_numbers, specs.Spaces.Terms, specs.Spaces.limit_of, specs.Spaces.in_space, proofs.Answering.list_sized}
use Rattle.pk_host.{specs.Port.room_for, specs.Port.room_of, proofs.LeftLemmas.answered_by}

-- ---- what fits

pub length-numbers : (ns : List ℕ) → length (flat_map u32 ns) ≡ 4 * length ns
length-numbers [] = refl
length-numbers (n ∷ ns) = let front = length-append (u32 n) (flat_map u32 ns) in let rest = length-numbers ns in omega (arith, front, rest)

fitting_bytes : (room : ℕ) (ks : List Key) → length (flat_map listed (fitting room ks)) ≤ room
fitting_bytes room [] = omega arith
fitting_bytes room (k ∷ ks) = elim (nat_le (length (listed k)) room) as (λ b. nat_le (length (listed k)) room ≡ b
    → length (flat_map listed (if b then k ∷ fitting (room - length (listed k)) ks else [])) ≤ room) [
      | true ↦ λ e.
          let fits = leb-true (length (listed k)) room e in
          let rest = fitting_bytes (room - length (listed k)) ks in
          let whole = length-append (listed k) (flat_map listed (fitting (room - length (listed k)) ks)) in
          omega (arith, fits, rest, whole)
      | false ↦ λ e. omega arith
    ] refl

list_fits : (size : ℕ) (ks : List Key) → 4 ≤ size → length (list_bytes (fitting (min size 65536 - 4) ks)) ≤ size
list_fits size ks least =
    let keys = fitting_bytes (min size 65536 - 4) ks in
    let whole = length-append (u32 (length (fitting (min size 65536 - 4) ks))) (flat_map listed (fitting (min size 65536 - 4) ks)) in
    omega (arith, keys, whole, least)

-- the data of a command that is served
served_fits : (spaces : ℕ) (shape : Shape) (most frames : ℕ) (m : Map) (own : List ℕ) → length own ≡ 11 → (c : Command) (k : Opcode) → op_of c.opcode ≡ Some k → early spaces shape c ≡ None
    → length (reply_of shape most frames m own c (Some k)).data_bytes ≤ room_for c.size (Some k)
served_fits spaces shape most frames m own eleven c Retrieve is passed = let n = length-take c.size (unwrap_or (get m (key c)) []) in omega (arith, n)
served_fits spaces shape most frames m own eleven c ListKeys is passed = list_fits c.size (keys_from (key c) m) (list_sized spaces shape c is passed).least
served_fits spaces shape most frames m own eleven c Report is passed =
    let n = length-numbers (live shape m ∷ most ∷ len m ∷ pinned shape frames ∷ frames ∷ own) in omega (arith, n, eleven)
served_fits spaces shape most frames m own eleven c Flush is passed = omega arith
served_fits spaces shape most frames m own eleven c _ is passed = omega arith

module _ (shape : Shape) (terms : Terms) (m : Map) (own : List ℕ) (eleven : length own ≡ 11) (c : Command) where
  -- the reply of the definition
  abbrev answer : Reply
  answer = reply shape terms m own c

  -- the part of the map that it reads, and its limit
  abbrev part : Map
  part = in_space c.namespace m

  abbrev most : ℕ
  most = limit_of terms.limits c.namespace

  pub data_fit : length answer.data_bytes ≤ room_of c
  data_fit = answered_by shape terms m own c (λ a _. length a.data_bytes ≤ room_of c) (λ status e. omega arith) (λ k is passed late.
      subst (λ (o : Option Opcode). length (reply_of shape most terms.frames part own c (Some k)).data_bytes ≤ room_for c.size o) (sym is)
      (served_fits (length terms.limits) shape most terms.frames part own eleven c k is passed))

-- ---- no read error

-- none of these checks reports a read error
abbrev IsOther : Option ℕ → Type 0
IsOther None = Unit {0}
IsOther (Some status) = status ≢ UNRECOVERED_ERROR

other_first : (p q : Option ℕ) → IsOther p → IsOther q → IsOther (or_else p q)
other_first None q h k = k
other_first (Some status) q h k = h

other_check : (b : Bool) (status : ℕ) → status ≢ UNRECOVERED_ERROR → IsOther (check b status)
other_check true status h = tt
other_check false status h = h

differs : (status : ℕ) → (status == UNRECOVERED_ERROR) ≡ false → status ≢ UNRECOVERED_ERROR
differs status other e = let same = eq-eqb status UNRECOVERED_ERROR e in let clash : true ≡ false = sym same ∙ other in cc

other_size : (shape : Shape) (k : Opcode) (size : ℕ) → IsOther (size_fault shape k size)
other_size shape Store size = other_check (nat_le size (greatest shape)) INVALID_VALUE_SIZE (differs INVALID_VALUE_SIZE refl)
other_size shape ListKeys size = other_check (nat_le COUNT_BYTES size) INVALID_FIELD_IN_COMMAND (differs INVALID_FIELD_IN_COMMAND refl)
other_size shape _ size = tt

other_early : (spaces : ℕ) (shape : Shape) (c : Command) (o : Option Opcode) → IsOther (fault_of spaces shape c o)
other_early spaces shape c None = differs INVALID_COMMAND_OPCODE refl
other_early spaces shape c (Some k) =
    other_first (check (is_namespace spaces k c.namespace) INVALID_NAMESPACE_OR_FORMAT) _
    (other_check (is_namespace spaces k c.namespace) INVALID_NAMESPACE_OR_FORMAT (differs INVALID_NAMESPACE_OR_FORMAT refl))
    (other_first (check (is_key_length k c.key_len) INVALID_KEY_SIZE) _ (other_check (is_key_length k c.key_len) INVALID_KEY_SIZE (differs INVALID_KEY_SIZE refl)) (other_size shape k c.size))

module _ (shape : Shape) (most : ℕ) (m : Map) (c : Command) where
  other_missing : IsOther (check (contains_key m (key c)) KEY_DOES_NOT_EXIST)
  other_missing = other_check (contains_key m (key c)) KEY_DOES_NOT_EXIST (differs KEY_DOES_NOT_EXIST refl)

  other_late : (o : Option Opcode) → IsOther (late_of shape most m c o)
  other_late None = tt
  other_late (Some Store) =
      other_first (check (not (must_exist c) || contains_key m (key c)) KEY_DOES_NOT_EXIST) _
      (other_check (not (must_exist c) || contains_key m (key c)) KEY_DOES_NOT_EXIST (differs KEY_DOES_NOT_EXIST refl))
      (other_first (check (not (must_be_new c && contains_key m (key c))) KEY_EXISTS) _ (other_check (not (must_be_new c && contains_key m (key c))) KEY_EXISTS (differs KEY_EXISTS refl))
      (other_check (nat_le (live_after shape m c) most) CAPACITY_EXCEEDED (differs CAPACITY_EXCEEDED refl)))
  other_late (Some Retrieve) = other_missing
  other_late (Some Delete) = other_missing
  other_late (Some Exist) = other_missing
  other_late _ = tt

module _ (shape : Shape) (terms : Terms) (m : Map) (c : Command) where
  abbrev part_of : Map
  part_of = in_space c.namespace m

  abbrev most_of : ℕ
  most_of = limit_of terms.limits c.namespace

  other_refused : IsOther (refused shape terms.limits m c)
  other_refused = other_first (early (length terms.limits) shape c) _ (other_early (length terms.limits) shape c (op_of c.opcode)) (other_late shape most_of part_of c (op_of c.opcode))

  success_of : (k : Opcode) → (reply_of shape most_of terms.frames part_of no_numbers c (Some k)).status ≡ SUCCESSFUL_COMPLETION
  success_of Flush = refl
  success_of _ = refl

  -- the machine never answers so
  pub no_read_error : (reply shape terms m no_numbers c).status ≢ UNRECOVERED_ERROR
  no_read_error = answered_by shape terms m no_numbers c (λ a _. a.status ≢ UNRECOVERED_ERROR)
      (λ status e. subst IsOther e other_refused) (λ k is passed late e. differs SUCCESSFUL_COMPLETION refl (sym (success_of k) ∙ e))
