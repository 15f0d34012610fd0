-- The map that a command leaves: keys and values of their sizes, within the limit of live pages.
use Rattle.std.proofs.Common.{◌≡◌, ℕ, refl, sym, ap, subst, ◌∙◌, arith, Bool, true, false, not, ◌&&◌, ◌||◌, ◌==◌, nat_le, if◌then◌else◌, List, [], ◌∷◌, length, Option, Some, None}
use Rattle.std.{proofs.lemmas.Bool.leb-true, proofs.lemmas.List.length-take-le, specs.FinMap.get, specs.FinMap.contains_key, specs.FinMap.insert, specs.FinMap.remove, specs.FinMap.empty}
use Rattle.pk_base.{specs.Choices.or_else, specs.Shape.Shape, specs.Shape.charge, specs.Key.IsKey, specs.Key.bytes_of, specs.Map.Map, specs.Map.live, specs.Map.pages_if_some, proofs.Logic.some_same}
use Rattle.pk_nvme.specs.declared.opcode.TheConstants.{FLUSH, STORE, RETRIEVE, LIST, DELETE, EXIST, TICK, REPORT}
use Rattle.pk_nvme.specs.declared.opcode.Opcode.TheVariants.{Flush, Store, Retrieve, List as ListKeys, Delete, Exist, Tick, Report}
use Rattle.pk_nvme.specs.declared.status.TheConstants.{CAPACITY_EXCEEDED, KEY_DOES_NOT_EXIST, KEY_EXISTS}
use Rattle.pk_nvme.{specs.Reply.Reply, specs.Reply.refusal, specs.declared.opcode.Opcode.Opcode, specs.Opcode.op_of, specs.Command.Command, specs.Command.key, specs.Command.must_exist}
use Rattle.pk_nvme.{specs.Command.must_be_new}
use Rattle.pk_model.specs.Answer.{check, fault_of, early, late_of, live_after, refused, reply, reply_of, map_after, effect}
use Rattle.pk_model.proofs.Answering.{refuses_with, serves, key_sized, key_spaced, store_sized}
use Rattle.pk_model.{proofs.HeldMap.key_is_bytes, proofs.Machines.live-empty, proofs.Machines.live-remove, proofs.Machines.live_stored}
use Rattle.pk_model.{specs.Spaces.Terms, specs.Spaces.limit_of, specs.Spaces.in_space, specs.Spaces.one_space, proofs.SpaceLemmas.in_space-empty, proofs.SpaceLemmas.in_space-insert}
use Rattle.pk_model.{proofs.SpaceLemmas.in_space-remove}
use Rattle.pk_host.{specs.Good.IsGoodMap, specs.Good.IsHanded, proofs.EntryLemmas.map_empty, proofs.EntryLemmas.map_insert, proofs.EntryLemmas.map_remove}

-- ---- checks that passed

pub first_none : (p q : Option ℕ) → or_else p q ≡ None → (p ≡ None) × (q ≡ None)
first_none None q h = (refl, h)
first_none (Some s) q h = cc

check_none : (b : Bool) (s : ℕ) → check b s ≡ None → b ≡ true
check_none true s h = refl
check_none false s h = cc

-- a choice that is not the first one is of the rest
otherwise : {A : Type 0} (b : Bool) (x : A) (y : Option A) (z : A) → (x ≡ z → ⊥) → (if b then Some x else y) ≡ Some z → y ≡ Some z
otherwise true x y z other e = absurd (other (some_same x z e))
otherwise false x y z other e = e

-- no other number is that of a Store
store_alone : (n : ℕ) → op_of n ≡ Some Store → (n == STORE) ≡ true
store_alone n e = by (n == STORE) (otherwise (n == FLUSH) Flush _ Store (λ h. cc) e)
  where
    by : (b : Bool) → (if b then Some Store else if n == RETRIEVE then Some Retrieve else if n == LIST then Some ListKeys else if n == DELETE then Some Delete
        else if n == EXIST then Some Exist else if n == TICK then Some Tick else if n == REPORT then Some Report else None) ≡ Some Store → b ≡ true
    by true e = refl
    by false e =
        let last : ◌≡◌ {A = Option Opcode} None (Some Store) = otherwise (n == REPORT) Report None Store (λ h. cc) (otherwise (n == TICK) Tick _ Store (λ h. cc)
        (otherwise (n == EXIST) Exist _ Store (λ h. cc) (otherwise (n == DELETE) Delete _ Store (λ h. cc)
        (otherwise (n == LIST) ListKeys _ Store (λ h. cc) (otherwise (n == RETRIEVE) Retrieve _ Store (λ h. cc) e))))) in cc

-- ---- the map afterwards

-- what holds of the reply and the map of each refusal, and of each command that is served, holds of those of the command
module _ (shape : Shape) (terms : Terms) (m : Map) (own : List ℕ) (c : Command) (P : Reply → Map → Type 0)
    (refuses : (status : ℕ) → refused shape terms.limits m c ≡ Some status → P (refusal status) m)
    (serves_so : (k : Opcode) → op_of c.opcode ≡ Some k → early (length terms.limits) shape c ≡ None → late_of shape (limit_of terms.limits c.namespace) (in_space c.namespace m) c (Some k) ≡ None
    → P (reply_of shape (limit_of terms.limits c.namespace) terms.frames (in_space c.namespace m) own c (Some k)) (effect m c (Some k))) where
  same_so : (a a' : Reply) (n n' : Map) → a ≡ a' → n ≡ n' → P a' n' → P a n
  same_so a a' n n' e f p = subst (λ (x : Reply). P x n) (sym e) (subst (λ (y : Map). P a' y) (sym f) p)

  served_by : (o : Option Opcode) → op_of c.opcode ≡ o → early (length terms.limits) shape c ≡ None → late_of shape (limit_of terms.limits c.namespace) (in_space c.namespace m) c o ≡ None
      → P (reply shape terms m own c) (map_after shape terms.limits m c)
  served_by None is passed late =
      absurd (let clash : ◌≡◌ {A = Option ℕ} (Some 1) None = sym (ap (λ (o : Option Opcode). fault_of (length terms.limits) shape c o) is) ∙ passed in cc)
  served_by (Some k) is passed late = let s = serves shape terms m own c k is passed late in same_so _ _ _ _ s.replied s.leaves (serves_so k is passed late)

  pub answered_by : P (reply shape terms m own c) (map_after shape terms.limits m c)
  answered_by = elim (refused shape terms.limits m c) as (λ r. refused shape terms.limits m c ≡ r → P (reply shape terms m own c) (map_after shape terms.limits m c)) [
    | Some status ↦ λ e. (let r = refuses_with shape terms m own c status e in same_so _ _ _ _ r.replied r.leaves (refuses status e))
    | None ↦ λ e.
        let both = first_none (early (length terms.limits) shape c) (late_of shape (limit_of terms.limits c.namespace) (in_space c.namespace m) c (op_of c.opcode)) e in
        served_by (op_of c.opcode) refl both.0 both.1
  ] refl

pub good_empty : (shape : Shape) (most : ℕ) → IsGoodMap shape most empty
good_empty shape most = let none = live-empty shape in record { sized = map_empty shape; alone = in_space-empty 1; few = omega (arith, none) }

module _ (shape : Shape) (most : ℕ) (m : Map) (c : Command) (good : IsGoodMap shape most m) (handed : IsHanded c) where
  -- the checks on the namespace, which is the only one, are those on the map
  own_late : op_of c.opcode ≡ Some Store → early 1 shape c ≡ None
      → late_of shape (limit_of (most ∷ []) c.namespace) (in_space c.namespace m) c (Some Store) ≡ late_of shape most m c (Some Store)
  own_late is passed =
      let spaced = key_spaced 1 shape c Store (λ n k. refl) is passed in
      let one : c.namespace ≡ 1 = omega (arith, spaced.some, spaced.most) in
      ap (λ (n : ℕ). late_of shape (limit_of (most ∷ []) n) (in_space n m) c (Some Store)) one
      ∙ ap (λ (n : Map). late_of shape most n c (Some Store)) good.alone

  -- a Store that passed all checks
  good_store : op_of c.opcode ≡ Some Store → early 1 shape c ≡ None
      → late_of shape (limit_of (most ∷ []) c.namespace) (in_space c.namespace m) c (Some Store) ≡ None → IsGoodMap shape most (insert m (key c) c.value)
  good_store is passed there =
      let late : late_of shape most m c (Some Store) ≡ None = sym (own_late is passed) ∙ there in
      let sized = key_sized 1 shape c Store (λ n. refl) is passed in
      let spaced = key_spaced 1 shape c Store (λ n k. refl) is passed in
      let key_length : length (bytes_of (key c)) ≡ c.key_len = length-take-le c.key_len c.key_bytes (omega (arith, sized.most, handed.place_size)) in
      let whole : length c.value ≡ c.size = handed.whole.whole ∙ ap (λ b. if b then c.size else 0) (store_alone c.opcode is) in
      let small = store_sized 1 shape c is passed in
      let otherwise = first_none (check (not (must_be_new c && contains_key m (key c))) KEY_EXISTS) (check (nat_le (live_after shape m c) most) CAPACITY_EXCEEDED)
      (first_none (check (not (must_exist c) || contains_key m (key c)) KEY_DOES_NOT_EXIST)
      (or_else (check (not (must_be_new c && contains_key m (key c))) KEY_EXISTS) (check (nat_le (live_after shape m c) most) CAPACITY_EXCEEDED)) late).1 in
      let within = leb-true (live_after shape m c) most (check_none (nat_le (live_after shape m c) most) CAPACITY_EXCEEDED otherwise.1) in
      let is_live : live_after shape m c ≡ live shape (insert m (key c) c.value) =
      live_stored shape m (key c) c.value (live shape m) (pages_if_some shape (get m (key c))) (charge shape c.size) refl refl (ap (charge shape) (sym whole)) in
      let is_key : IsKey (key c) =
      record { some = omega (arith, key_length, sized.some); most = omega (arith, key_length, sized.most); space_some = spaced.some; space_most = omega (arith, spaced.most) } in
      record {
        sized = map_insert shape m (key c) c.value good.sized is_key (key_is_bytes (key c) is_key handed.key_bytes)
            (omega (arith, whole, small)) handed.value_bytes;
        alone = in_space-insert 1 m (key c) (omega (arith, spaced.some, spaced.most)) c.value ∙ ap (λ (n : Map). insert n (key c) c.value) good.alone;
        few = omega (arith, is_live, within);
      }

  good_delete : op_of c.opcode ≡ Some Delete → early 1 shape c ≡ None → IsGoodMap shape most (remove m (key c))
  good_delete is passed =
      let spaced = key_spaced 1 shape c Delete (λ n k. refl) is passed in
      let whole = live-remove shape m (key c) in
      let few = good.few in
      record {
        sized = map_remove shape m (key c) good.sized;
        alone = in_space-remove 1 m (key c) (omega (arith, spaced.some, spaced.most)) ∙ ap (λ (n : Map). remove n (key c)) good.alone;
        few = omega (arith, whole, few);
      }

  good_effect : (k : Opcode) → op_of c.opcode ≡ Some k → early 1 shape c ≡ None
      → late_of shape (limit_of (most ∷ []) c.namespace) (in_space c.namespace m) c (Some k) ≡ None → IsGoodMap shape most (effect m c (Some k))
  good_effect Store is passed late = good_store is passed late
  good_effect Delete is passed late = good_delete is passed
  good_effect _ is passed late = good

  pub good_left : IsGoodMap shape most (map_after shape (most ∷ []) m c)
  good_left = answered_by shape (one_space 0 most) m [] c (λ a n. IsGoodMap shape most n) (λ status e. good) good_effect
