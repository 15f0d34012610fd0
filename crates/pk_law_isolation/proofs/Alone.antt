-- A command in one namespace, in the drive that has this namespace alone.
use Rattle.std.proofs.Common.{◌≡◌, inl, inr, ℕ, ◌+◌, ◌-◌, ◌≤◌, ◌∷◌, [], List, true, false, not, min, refl, sym, ap, ◌∙◌, ◌==◌, ◌||◌, Some, None, Option, unwrap_or, is_some, map, filter, is_lt, length}
use Rattle.std.proofs.Common.{take, flat_map}
use Rattle.std.specs.FinMap.{get, contains_key, entries}
use Rattle.pk_base.{specs.Choices.or_else, specs.Shape.Shape, specs.Shape.charge, specs.Shape.pinned, specs.Key.key_cmp, specs.Key.bytes_of, specs.Fields.u32}
use Rattle.pk_base.specs.Map.{Map, keys_from, pages_if_some}
use Rattle.pk_nvme.{specs.declared.opcode.Opcode.Opcode, specs.Opcode.op_of, specs.Command.Command, specs.Command.key, specs.Reply.Reply}
use Rattle.pk_nvme.specs.declared.opcode.Opcode.TheVariants.{Flush, Store, Retrieve, List as ListKeys, Delete, Exist, Report}
use Rattle.pk_nvme.specs.declared.limits.TheConstants.{ALL_NAMESPACES, COUNT_BYTES, MOST_LIST_BYTES}
use Rattle.pk_nvme.specs.declared.status.TheConstants.{INVALID_NAMESPACE_OR_FORMAT, INVALID_KEY_SIZE, KEY_DOES_NOT_EXIST}
use Rattle.pk_model.{specs.Spaces.Terms, specs.Spaces.limit_of, specs.Spaces.is_space, specs.Spaces.in_space, specs.Run.Step, proofs.SpaceLemmas.get_own}
use Rattle.pk_model.specs.Answer.{check, is_namespace, is_key_length, size_fault, fault_of, early, live_after, store_fault, late_of, refused, effect, map_after, success, list_bytes, fitting, reply_of}
use Rattle.pk_model.specs.Answer.{reply, Answer}
use Rattle.pk_law_isolation.specs.Isolation.{map_alone, terms_alone, command_alone, key_in_first}
use Rattle.pk_law_isolation.proofs.Lists.{from_moved, fitting_moved, listed_moved}
use Rattle.pk_law_isolation.proofs.Unfolded.{reply_unless, effect_unless, reply_is, map_after_is}
use Rattle.pk_law_isolation.proofs.Parts.{get_first, live_alone, len_alone, entries_alone, part_in, alone_insert, alone_remove, insert_elsewhere, remove_elsewhere, first_alone}

-- ---- checks that read the command alone

passes : (spaces n : ℕ) (op : Opcode) → is_space spaces n ≡ true → is_namespace spaces op n ≡ true
passes spaces n Flush is = ap (λ t. t || n == ALL_NAMESPACES) is
passes spaces n op is = is

module _ (shape : Shape) (spaces : ℕ) (c : Command) (is : is_space spaces c.namespace ≡ true) where
  same_fault : (op : Option Opcode) → fault_of 1 shape (command_alone c) op ≡ fault_of spaces shape c op
  same_fault None = refl
  same_fault (Some op) = ap (λ t. or_else (check t INVALID_NAMESPACE_OR_FORMAT) (or_else (check (is_key_length op c.key_len) INVALID_KEY_SIZE) (size_fault shape op c.size)))
      (passes 1 1 op refl ∙ sym (passes spaces c.namespace op is))

  pub same_early : early 1 shape (command_alone c) ≡ early spaces shape c
  same_early = same_fault (op_of c.opcode)

-- ---- checks that read its namespace of the map

module _ (shape : Shape) (c : Command) (some : 1 ≤ c.namespace) (m : Map) where
  same_get : get (map_alone c.namespace m) (key (command_alone c)) ≡ get (in_space c.namespace m) (key c)
  same_get = get_first c.namespace some m (bytes_of (key c)) ∙ sym (get_own c.namespace m (bytes_of (key c)))

  same_there : contains_key (map_alone c.namespace m) (key (command_alone c)) ≡ contains_key (in_space c.namespace m) (key c)
  same_there = ap is_some same_get

  same_live : live_after shape (map_alone c.namespace m) (command_alone c) ≡ live_after shape (in_space c.namespace m) c
  same_live = λ i. live_alone c.namespace some shape m i - pages_if_some shape (same_get i) + charge shape c.size

  same_late : (most : ℕ) (op : Option Opcode) → late_of shape most (map_alone c.namespace m) (command_alone c) op ≡ late_of shape most (in_space c.namespace m) c op
  same_late most (Some Store) = λ i. store_fault c (same_there i) (same_live i) most
  same_late most (Some Retrieve) = ap (λ t. check t KEY_DOES_NOT_EXIST) same_there
  same_late most (Some Delete) = ap (λ t. check t KEY_DOES_NOT_EXIST) same_there
  same_late most (Some Exist) = ap (λ t. check t KEY_DOES_NOT_EXIST) same_there
  same_late most op = refl

  -- ---- replies

  same_keys : keys_from (key (command_alone c)) (map_alone c.namespace m) ≡ map key_in_first (keys_from (key c) (in_space c.namespace m))
  same_keys =
      ap (λ es. filter (λ k. not (is_lt (key_cmp k (1 ∷ bytes_of (key c))))) (map (λ e. e.0) es)) (entries_alone c.namespace some m)
      ∙ from_moved c.namespace (bytes_of (key c)) (entries (in_space c.namespace m)) (part_in c.namespace some m)

  same_listing : (room : ℕ) → list_bytes (fitting room (keys_from (key (command_alone c)) (map_alone c.namespace m))) ≡ list_bytes (fitting room (keys_from (key c) (in_space c.namespace m)))
  same_listing room =
      ap (λ ks. list_bytes (fitting room ks)) same_keys ∙ ap list_bytes (fitting_moved room (keys_from (key c) (in_space c.namespace m)))
      ∙ listed_moved (fitting room (keys_from (key c) (in_space c.namespace m)))

  same_reply : (most frames : ℕ) (own : List ℕ) (op : Option Opcode)
      → reply_of shape most frames (map_alone c.namespace m) own (command_alone c) op ≡ reply_of shape most frames (in_space c.namespace m) own c op
  same_reply most frames own (Some Retrieve) = ap (λ (o : Option (List ℕ)). let value = unwrap_or o [] in success (length value) (take c.size value)) same_get
  same_reply most frames own (Some ListKeys) = ap (success 0) (same_listing (min c.size MOST_LIST_BYTES - COUNT_BYTES))
  same_reply most frames own (Some Report) =
      λ i. success 0 (flat_map u32 (live_alone c.namespace some shape m i ∷ most ∷ len_alone c.namespace some m i ∷ pinned shape frames ∷ frames ∷ own))
  same_reply most frames own op = refl

  -- ---- the map after the command

  same_effect : (op : Option Opcode) → map_alone c.namespace (effect m c op) ≡ effect (map_alone c.namespace m) (command_alone c) op
  same_effect (Some Store) = alone_insert c.namespace some m (bytes_of (key c)) c.value
  same_effect (Some Delete) = alone_remove c.namespace some m (bytes_of (key c))
  same_effect op = refl

  left_unless : (o : Option ℕ) → map_alone c.namespace (effect_unless m c o) ≡ effect_unless (map_alone c.namespace m) (command_alone c) o
  left_unless (Some status) = refl
  left_unless None = same_effect (op_of c.opcode)

  -- ---- the answer

  module _ (terms : Terms) (is : is_space (length terms.limits) c.namespace ≡ true) where
    same_refused : refused shape (terms_alone terms c.namespace).limits (map_alone c.namespace m) (command_alone c) ≡ refused shape terms.limits m c
    same_refused = λ i. or_else (same_early shape (length terms.limits) c is i) (late i)
      where
        late : late_of shape (limit_of terms.limits c.namespace) (in_space 1 (map_alone c.namespace m)) (command_alone c) (op_of c.opcode)
            ≡ late_of shape (limit_of terms.limits c.namespace) (in_space c.namespace m) c (op_of c.opcode)
        late = ap (λ n. late_of shape (limit_of terms.limits c.namespace) n (command_alone c) (op_of c.opcode)) (first_alone c.namespace some m)
            ∙ same_late (limit_of terms.limits c.namespace) (op_of c.opcode)

    reply_if : (own : List ℕ) (o : Option ℕ)
        → reply_unless shape (terms_alone terms c.namespace) (map_alone c.namespace m) own (command_alone c) o ≡ reply_unless shape terms m own c o
    reply_if own (Some status) = refl
    reply_if own None =
        ap (λ n. reply_of shape (limit_of terms.limits c.namespace) terms.frames n own (command_alone c) (op_of c.opcode)) (first_alone c.namespace some m)
        ∙ same_reply (limit_of terms.limits c.namespace) terms.frames own (op_of c.opcode)

    answered : (own : List ℕ) → reply shape (terms_alone terms c.namespace) (map_alone c.namespace m) own (command_alone c) ≡ reply shape terms m own c
    answered own =
        reply_is shape (terms_alone terms c.namespace) (map_alone c.namespace m) own (command_alone c)
        ∙ ap (reply_unless shape (terms_alone terms c.namespace) (map_alone c.namespace m) own (command_alone c)) same_refused
        ∙ reply_if own (refused shape terms.limits m c) ∙ sym (reply_is shape terms m own c)

    left : map_alone c.namespace (map_after shape terms.limits m c) ≡ map_after shape (terms_alone terms c.namespace).limits (map_alone c.namespace m) (command_alone c)
    left =
        ap (map_alone c.namespace) (map_after_is shape terms.limits m c) ∙ left_unless (refused shape terms.limits m c)
        ∙ ap (effect_unless (map_alone c.namespace m) (command_alone c)) (sym same_refused)
        ∙ sym (map_after_is shape (terms_alone terms c.namespace).limits (map_alone c.namespace m) (command_alone c))

    pub own_answer : (a : Reply) (m' : Map) → Answer shape terms m c a m' → Answer shape (terms_alone terms c.namespace) (map_alone c.namespace m) (command_alone c) a (map_alone c.namespace m')
    own_answer a m' answer = record {
      own = answer.own;
      eleven = answer.eleven;
      replied = answer.replied ∙ sym (answered answer.own);
      leaves = ap (map_alone c.namespace) answer.leaves ∙ left;
    }

    pub own_step : (a : Reply) (m' : Map) → Step shape terms m c a m' → Step shape (terms_alone terms c.namespace) (map_alone c.namespace m) (command_alone c) a (map_alone c.namespace m')
    own_step a m' (inl answer) = inl (own_answer a m' answer)
    own_step a m' (inr fault) = inr (record {
      not_early = same_early shape (length terms.limits) c is ∙ fault.not_early;
      replied = fault.replied;
      leaves = ap (map_alone c.namespace) fault.leaves;
    })

-- ---- a command in another namespace

module _ (shape : Shape) (terms : Terms) (space : ℕ) (some : 1 ≤ space) (c : Command) (differ : (space == c.namespace) ≡ false) (m : Map) where
  other_effect : (op : Option Opcode) → map_alone space (effect m c op) ≡ map_alone space m
  other_effect (Some Store) = insert_elsewhere space some c.namespace differ m (bytes_of (key c)) c.value
  other_effect (Some Delete) = remove_elsewhere space some c.namespace differ m (bytes_of (key c))
  other_effect op = refl

  other_unless : (o : Option ℕ) → map_alone space (effect_unless m c o) ≡ map_alone space m
  other_unless (Some status) = refl
  other_unless None = other_effect (op_of c.opcode)

  other_left : map_alone space (map_after shape terms.limits m c) ≡ map_alone space m
  other_left = ap (map_alone space) (map_after_is shape terms.limits m c) ∙ other_unless (refused shape terms.limits m c)

  pub other_answer : (a : Reply) (m' : Map) → Answer shape terms m c a m' → map_alone space m' ≡ map_alone space m
  other_answer a m' answer = ap (map_alone space) answer.leaves ∙ other_left

  pub other_step : (a : Reply) (m' : Map) → Step shape terms m c a m' → map_alone space m' ≡ map_alone space m
  other_step a m' (inl answer) = other_answer a m' answer
  other_step a m' (inr fault) = ap (map_alone space) fault.leaves
