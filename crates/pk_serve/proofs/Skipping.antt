-- A Store that is too large is refused whatever its value is.
use Rattle.std.proofs.Common.{◌≡◌, ◌≢◌, inl, inr, ℕ, ◌<◌, List, [], length, Option, Some, None, refl, sym, ◌∙◌, ap, subst, arith, false, nat_le, Ok}
use Rattle.std.proofs.lemmas.Bool.Decides.{nat_tests}
use Rattle.pk_base.{specs.Choices.or_else, specs.Shape.Shape, specs.Shape.greatest, specs.Page.Flash, specs.Map.Map}
use Rattle.pk_nvme.{specs.Command.Command, specs.Reply.Reply, specs.Reply.refusal, specs.Opcode.op_of}
use Rattle.pk_nvme.specs.declared.opcode.Opcode.TheVariants.{Store, Retrieve}
use Rattle.pk_nand.specs.BoardState.{BoardState, shape_or_none}
use Rattle.pk_model.specs.Answer.{check, is_namespace, is_key_length, fault_of, early, late_of, refused, reply, map_after}
use Rattle.pk_model.specs.Spaces.{Terms, limit_of, in_space}
use Rattle.pk_model.{specs.Run.Step, specs.Growth.Goes, specs.Crashes.CrashFinds, specs.Crashes.command}
use Rattle.pk_serve.proofs.Weakening.{goes_as}
use Rattle.pk_call.{specs.Sight.Sight, specs.Call.CallGoes, specs.Exec.Executed, specs.Exec.ExecStands, specs.Exec.IsValue}

abbrev store_early : ℕ → Shape → ℕ → ℕ → ℕ → Option ℕ
store_early spaces shape namespace key_len size =
    or_else (check (is_namespace spaces Store namespace) 0x0B) (or_else (check (is_key_length Store key_len) 0x86) (check (nat_le size (greatest shape)) 0x85))

early_is : (spaces : ℕ) (shape : Shape) (c : Command) → c.opcode ≡ 0x01 → early spaces shape c ≡ store_early spaces shape c.namespace c.key_len c.size
early_is spaces shape c e = ap (λ o. fault_of spaces shape c (op_of o)) e

first_some : (p q : Option ℕ) → (s : ℕ) × (q ≡ Some s) → (s : ℕ) × (or_else p q ≡ Some s)
first_some (Some t) q h = (t, refl)
first_some None q h = h

too_large : (spaces : ℕ) (shape : Shape) (namespace key_len size : ℕ) → greatest shape < size → (s : ℕ) × (store_early spaces shape namespace key_len size ≡ Some s)
too_large spaces shape namespace key_len size large =
    let e : nat_le size (greatest shape) ≡ false = grind (arith, nat_tests) in
    first_some (check (is_namespace spaces Store namespace) 0x0B) (or_else (check (is_key_length Store key_len) 0x86) (check (nat_le size (greatest shape)) 0x85))
    (first_some (check (is_key_length Store key_len) 0x86) (check (nat_le size (greatest shape)) 0x85) (0x85, ap (λ b. check b 0x85) e))

-- a command that is refused early
module _ (shape : Shape) (terms : Terms) (m : Map) (own : List ℕ) (c : Command) (s : ℕ) (e : early (length terms.limits) shape c ≡ Some s) where
  refused_is : refused shape terms.limits m c ≡ Some s
  refused_is = ap (λ o. or_else o (late_of shape (limit_of terms.limits c.namespace) (in_space c.namespace m) c (op_of c.opcode))) e

  leaves : map_after shape terms.limits m c ≡ m
  unfolding map_after
  leaves = rw refused_is refl

  replies : reply shape terms m own c ≡ refusal s
  unfolding reply
  replies = rw refused_is refl

-- two commands that are refused early alike
module _ (shape : Shape) (terms : Terms) (c d : Command) (s : ℕ) (ec : early (length terms.limits) shape c ≡ Some s) (ed : early (length terms.limits) shape d ≡ Some s) where
  step_too : (m : Map) (a : Reply) (m' : Map) → Step shape terms m c a m' → Step shape terms m d a m'
  step_too m a m' (inl x) = inl (record {
    own = x.own;
    eleven = x.eleven;
    replied = x.replied ∙ (replies shape terms m x.own c s ec ∙ sym (replies shape terms m x.own d s ed));
    leaves = x.leaves ∙ (leaves shape terms m x.own c s ec ∙ sym (leaves shape terms m x.own d s ed));
  })
  step_too m a m' (inr x) = absurd (let h : None ≡ Some s = sym x.not_early ∙ ec in cc)

  cut_too : (start : Flash) (m : Map) (f : Flash) (q : List ℕ) → CrashFinds shape (command terms.limits c) start m f q → CrashFinds shape (command terms.limits d) start m f q
  cut_too start m f q (quiet, inr (inr next)) = (quiet, inr (inl (next ∙ ap (λ x. Ok x) (leaves shape terms m [] c s ec))))
  cut_too start m f q (quiet, inl same) = (quiet, inl same)
  cut_too start m f q (quiet, inr (inl all)) = (quiet, inr (inl all))

-- a Retrieve is no Store
no_retrieve : (opcode : ℕ) → opcode ≡ 0x01 → op_of opcode ≢ Some Retrieve
no_retrieve opcode e h = let g : Some Store ≡ Some Retrieve = sym (ap op_of e) ∙ h in cc

module _ (old new : BoardState) (before after : Sight) (c : Command) (v : List ℕ) (is : IsValue (shape_or_none old.shape) c.opcode c.size c.value v) where
  -- the two refusals
  refused_both : (spaces : ℕ) (shape : Shape) → old.shape ≡ Some shape → (c.opcode ≡ 0x01) × (greatest (shape_or_none old.shape) < c.size)
      → (s : ℕ) × (early spaces shape c ≡ Some s) × (early spaces shape (record c { value = v }) ≡ Some s)
  refused_both spaces shape same large =
      let r = too_large spaces shape c.namespace c.key_len c.size (subst (λ s. greatest s < c.size) (ap shape_or_none same) large.1) in
      (r.0, early_is spaces shape c large.0 ∙ r.1, early_is spaces shape (record c { value = v }) large.0 ∙ r.1)

  pub stands_value : (rep : Reply) (reads : ℕ) → ExecStands old new before after c rep reads → ExecStands old new before after (record c { value = v }) rep reads
  stands_value rep reads h shape terms m s = elim is [
    | inl same ↦ subst (λ x. Executed shape terms old before new after m (record c { value = x }) rep reads) (sym same) (h shape terms m s)
    | inr large ↦ (let r = refused_both (length terms.limits) shape s.shape_is large in let x = h shape terms m s in record {
      left = x.left;
      stepped = step_too shape terms c (record c { value = v }) r.0 r.1 r.2 m rep x.left x.stepped;
      reached = x.reached;
      stands = x.stands;
      bounded = λ k. absurd (no_retrieve c.opcode large.0 k);
      held_bounded = λ k. absurd (no_retrieve c.opcode large.0 k);
    })
  ]

  pub went_value : (limits : List ℕ) → CallGoes old new before (command limits c) → CallGoes old new before (command limits (record c { value = v }))
  went_value limits h shape terms m s = elim is [
    | inl same ↦ subst (λ x. Goes shape old new (CrashFinds shape (command limits (record c { value = x })) old.pages m)) (sym same) (h shape terms m s)
    | inr large ↦ (
        let r = refused_both (length limits) shape s.shape_is large in
        goes_as shape old new (cut_too shape (record { frames = terms.frames; limits = limits }) c (record c { value = v }) r.0 r.1 r.2 old.pages m) (h shape terms m s))
  ]
