-- A command on a map, and on the list of the maps of its namespaces.
use Rattle.std.proofs.Common.{length, ◌≡◌, ℕ, zero, suc, ◌+◌, ◌-◌, ◌≤◌, ◌<◌, ◌∷◌, [], List, Bool, true, false, refl, sym, ap, ◌∙◌, ◌==◌, ◌||◌, if◌then◌else◌, nat_le, subst, arith, ne_eqb, leb-true}
use Rattle.std.proofs.Common.{slice_index_or, slice_set, Some, None, Option}
use Rattle.std.specs.FinMap.{empty}
use Rattle.pk_base.{specs.Choices.or_else, specs.Shape.Shape, specs.Map.Map, proofs.Logic.both_true}
use Rattle.pk_nvme.{specs.declared.limits.TheConstants.ALL_NAMESPACES, specs.declared.opcode.Opcode.Opcode, specs.Opcode.op_of, specs.Command.Command, specs.Reply.Reply, specs.Reply.refusal}
use Rattle.pk_nvme.specs.declared.opcode.Opcode.TheVariants.{Flush}
use Rattle.pk_nvme.specs.declared.status.TheConstants.{INVALID_COMMAND_OPCODE, INVALID_NAMESPACE_OR_FORMAT, INVALID_KEY_SIZE}
use Rattle.pk_model.specs.Spaces.{Terms, is_space, limit_of, in_space}
use Rattle.pk_model.specs.Answer.{check, is_namespace, is_key_length, size_fault, fault_of, early, late_of, refused, effect, map_after, reply_of, reply, Answer, success}
use Rattle.pk_law_isolation.{specs.Isolation.map_alone, specs.Isolation.terms_alone, specs.Isolation.command_alone, proofs.Alone.own_answer, proofs.Alone.other_answer}
use Rattle.pk_law_isolation.specs.Parts.{space_maps_from, space_maps, answering_space, AnsweredIn, AnsweredIf, IsRefused, AnswerBy, AnsweredInParts}
use Rattle.pk_law_isolation.proofs.Unfolded.{reply_unless, effect_unless, reply_is, map_after_is}

or_true : (t : Bool) → (t || true) ≡ true
or_true true = refl
or_true false = refl

-- ---- the list of parts

part_at : (from n i : ℕ) (m : Map) → i < n → slice_index_or (space_maps_from from n m) i empty ≡ map_alone (from + i) m
part_at from zero i m less = absurd (omega (arith, less))
part_at from (suc n) zero m less = let same : from ≡ from + 0 = omega arith in ap (λ k. map_alone k m) same
part_at from (suc n) (suc i) m less = part_at (from + 1) n i m (omega (arith, less)) ∙ ap (λ k. map_alone k m) (omega arith)

-- if one part alone differs, the list is set there
others_stay : (from n : ℕ) (m m' : Map) → ((k : ℕ) → from ≤ k → map_alone k m' ≡ map_alone k m) → space_maps_from from n m' ≡ space_maps_from from n m
others_stay from zero m m' same = refl
others_stay from (suc n) m m' same = λ i. same from (omega arith) i ∷ others_stay (from + 1) n m m' (λ k above. same k (omega (arith, above))) i

set_at : (from n i : ℕ) (m m' : Map) → i < n → ((k : ℕ) → from ≤ k → (k ≡ from + i → ⊥) → map_alone k m' ≡ map_alone k m)
    → space_maps_from from n m' ≡ slice_set (space_maps_from from n m) i (map_alone (from + i) m')
set_at from zero i m m' less same = absurd (omega (arith, less))
set_at from (suc n) zero m m' less same = let here : from ≡ from + 0 = omega arith in
    λ i. map_alone (here i) m' ∷ others_stay (from + 1) n m m' (λ k above. same k (omega (arith, above)) (λ is. omega (arith, above, is))) i
set_at from (suc n) (suc j) m m' less same =
    let there : (from + 1) + j ≡ from + suc j = omega arith in
    λ i. same from (omega arith) (λ is. omega (arith, is)) i
    ∷ (set_at (from + 1) n j m m' (omega (arith, less)) (λ k above apart. same k (omega (arith, above)) (λ is. apart (omega (arith, is))))
    ∙ ap (λ k. slice_set (space_maps_from (from + 1) n m) j (map_alone k m')) there) i

-- ---- a command

module _ (shape : Shape) (terms : Terms) (m m' : Map) (c : Command) (a : Reply) (small : length terms.limits < ALL_NAMESPACES) (answer : Answer shape terms m c a m') where
  -- a check that reads the command alone refuses it
  module _ (status : ℕ) (refuses : early (length terms.limits) shape c ≡ Some status) where
    refused_is : refused shape terms.limits m c ≡ Some status
    refused_is = ap (λ o. or_else o (late_of shape (limit_of terms.limits c.namespace) (in_space c.namespace m) c (op_of c.opcode))) refuses

    refused_reply : a ≡ refusal status
    refused_reply = answer.replied ∙ reply_is shape terms m answer.own c ∙ ap (reply_unless shape terms m answer.own c) refused_is

    stays : m' ≡ m
    stays = answer.leaves ∙ map_after_is shape terms.limits m c ∙ ap (effect_unless m c) refused_is

    is_refused : IsRefused status (space_maps terms m) a (space_maps terms m')
    is_refused = (refused_reply, ap (space_maps terms) stays)

  -- ---- in a namespace of its own

  module _ (is : is_space (length terms.limits) c.namespace ≡ true) where
    within : (1 ≤ c.namespace) × (c.namespace ≤ length terms.limits)
    within =
        let tests = both_true (nat_le 1 c.namespace) (nat_le c.namespace (length terms.limits)) is in
        (leb-true 1 c.namespace tests.0, leb-true c.namespace (length terms.limits) tests.1)

    named : answering_space c ≡ c.namespace
    named = ap (λ (t : Bool). if t then 1 else c.namespace) (ne_eqb c.namespace ALL_NAMESPACES (λ all. omega (arith, all, within.1, small)))

    place : 1 + (c.namespace - 1) ≡ c.namespace
    place = omega (arith, within.0)

    in_own : AnsweredIn shape terms (space_maps terms m) c a (space_maps terms m')
    in_own = record {
      left = map_alone c.namespace m';
      answer =
          subst (λ n. Answer shape (terms_alone terms n) (slice_index_or (space_maps terms m) (n - 1) empty) (command_alone c) a (map_alone c.namespace m')) (sym named)
          (subst (λ part. Answer shape (terms_alone terms c.namespace) part (command_alone c) a (map_alone c.namespace m'))
          (sym (part_at 1 (length terms.limits) (c.namespace - 1) m (omega (arith, within)) ∙ ap (λ n. map_alone n m) place))
          (own_answer shape c within.0 m terms is a m' answer));
      others =
          set_at 1 (length terms.limits) (c.namespace - 1) m m' (omega (arith, within))
          (λ k above apart. other_answer shape terms k above c (ne_eqb k c.namespace (λ same. apart (same ∙ sym place))) m a m' answer)
          ∙ ap (λ n. slice_set (space_maps terms m) (c.namespace - 1) (map_alone n m')) place
          ∙ ap (λ n. slice_set (space_maps terms m) (n - 1) (map_alone c.namespace m')) (sym named);
    }

  -- ---- a Flush in all namespaces

  module _ (flush : op_of c.opcode ≡ Some Flush) (all : (c.namespace == ALL_NAMESPACES) ≡ true) where
    abbrev first : Map
    first = slice_index_or (space_maps terms m) 0 empty

    none_here : refused shape terms.limits m c ≡ None
    none_here =
        ap (λ op. or_else (fault_of (length terms.limits) shape c op) (late_of shape (limit_of terms.limits c.namespace) (in_space c.namespace m) c op)) flush
        ∙ ap (λ t. or_else (or_else (check t INVALID_NAMESPACE_OR_FORMAT) None) None)
        (ap (λ t. is_space (length terms.limits) c.namespace || t) all ∙ or_true (is_space (length terms.limits) c.namespace))

    none_there : (part : Map) → refused shape (terms_alone terms 1).limits part (command_alone c) ≡ None
    none_there part = ap (λ op. or_else (fault_of 1 shape (command_alone c) op) (late_of shape (limit_of terms.limits 1) (in_space 1 part) (command_alone c) op)) flush

    said_here : a ≡ success 0 []
    said_here =
        answer.replied ∙ reply_is shape terms m answer.own c ∙ ap (reply_unless shape terms m answer.own c) none_here
        ∙ ap (reply_of shape (limit_of terms.limits c.namespace) terms.frames (in_space c.namespace m) answer.own c) flush

    said_there : (part : Map) (own : List ℕ) → reply shape (terms_alone terms 1) part own (command_alone c) ≡ success 0 []
    said_there part own =
        reply_is shape (terms_alone terms 1) part own (command_alone c) ∙ ap (reply_unless shape (terms_alone terms 1) part own (command_alone c)) (none_there part)
        ∙ ap (reply_of shape (limit_of terms.limits 1) terms.frames (in_space 1 part) own (command_alone c)) flush

    left_here : m' ≡ m
    left_here = answer.leaves ∙ map_after_is shape terms.limits m c ∙ ap (effect_unless m c) none_here ∙ ap (effect m c) flush

    left_there : (part : Map) → map_after shape (terms_alone terms 1).limits part (command_alone c) ≡ part
    left_there part = map_after_is shape (terms_alone terms 1).limits part (command_alone c) ∙ ap (effect_unless part (command_alone c)) (none_there part) ∙ ap (effect part (command_alone c)) flush

    first_named : answering_space c ≡ 1
    first_named = ap (λ (t : Bool). if t then 1 else c.namespace) all

    set_first : (ms : List Map) → ms ≡ slice_set ms 0 (slice_index_or ms 0 empty)
    set_first [] = refl
    set_first (part ∷ ms) = refl

    in_all : AnsweredIn shape terms (space_maps terms m) c a (space_maps terms m')
    in_all = record {
      left = first;
      answer = subst (λ n. Answer shape (terms_alone terms n) (slice_index_or (space_maps terms m) (n - 1) empty) (command_alone c) a first) (sym first_named) (record {
        own = answer.own;
        eleven = answer.eleven;
        replied = said_here ∙ sym (said_there first answer.own);
        leaves = sym (left_there first);
      });
      others = ap (space_maps terms) left_here ∙ set_first (space_maps terms m) ∙ ap (λ n. slice_set (space_maps terms m) (n - 1) first) (sym first_named);
    }

  in_namespace : (op : Opcode) → op_of c.opcode ≡ Some op → is_namespace (length terms.limits) op c.namespace ≡ true → AnsweredIn shape terms (space_maps terms m) c a (space_maps terms m')
  in_namespace Flush e is =
      elim (is_space (length terms.limits) c.namespace) as (λ t. is_space (length terms.limits) c.namespace ≡ t
      → (t || c.namespace == ALL_NAMESPACES) ≡ true → AnsweredIn shape terms (space_maps terms m) c a (space_maps terms m')) [
        | true ↦ λ inside _. in_own inside
        | false ↦ λ outside all. in_all e all
      ] refl is
  in_namespace op e is = in_own is

  answer_by : (o : Option Opcode) → op_of c.opcode ≡ o → AnswerBy shape terms (space_maps terms m) c a (space_maps terms m') o
  answer_by None e = is_refused INVALID_COMMAND_OPCODE (ap (fault_of (length terms.limits) shape c) e)
  answer_by (Some op) e =
      elim (is_namespace (length terms.limits) op c.namespace) as (λ t. is_namespace (length terms.limits) op c.namespace ≡ t
      → AnsweredIf shape terms (space_maps terms m) c a (space_maps terms m') t) [
        | true ↦ λ is. in_namespace op e is
        | false ↦ λ is. is_refused INVALID_NAMESPACE_OR_FORMAT (ap (fault_of (length terms.limits) shape c) e
            ∙ ap (λ t. or_else (check t INVALID_NAMESPACE_OR_FORMAT) (or_else (check (is_key_length op c.key_len) INVALID_KEY_SIZE) (size_fault shape op c.size))) is)
      ] refl

pub answered_in_parts : AnsweredInParts
answered_in_parts shape terms m m' c a small answer = answer_by shape terms m m' c a small answer (op_of c.opcode) refl
