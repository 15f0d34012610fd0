-- The commands of a run without read errors fix its replies, but for a Report's numbers of the drive's own.
use Rattle.std.proofs.Common.{◌≡◌, inl, inr, ℕ, ◌+◌, ◌∷◌, [], List, true, false, refl, sym, ap, ◌∙◌, ◌==◌, if◌then◌else◌, Some, None, Option, subst, take, flat_map, arith}
use Rattle.std.{specs.FinMap.len, proofs.Math.Seq.take-append_seam, proofs.lemmas.Grind.flat_map-append}
use Rattle.pk_base.{specs.Shape.Shape, specs.Shape.pinned, specs.Fields.u32, specs.Map.Map, specs.Map.live}
use Rattle.pk_nvme.{specs.declared.opcode.Opcode.Opcode, specs.Opcode.op_of, specs.Command.Command, specs.Reply.Reply}
use Rattle.pk_nvme.specs.declared.opcode.Opcode.TheVariants.{Report}
use Rattle.pk_model.{specs.Spaces.Terms, specs.Spaces.limit_of, specs.Spaces.in_space, specs.Answer.reply_of, specs.Answer.reply, specs.Answer.refused, specs.Answer.success}
use Rattle.pk_model.specs.Run.{Step, Run, Exchange, commands, faults}
use Rattle.pk_law_isolation.{proofs.Unfolded.reply_unless, proofs.Unfolded.reply_is, specs.Isolation.told_reply, specs.Isolation.told_replies, specs.Isolation.Fixed}

front : (a b c d e : ℕ) (own : List ℕ) → take 20 (flat_map u32 (a ∷ b ∷ c ∷ d ∷ e ∷ own)) ≡ flat_map u32 (a ∷ b ∷ c ∷ d ∷ e ∷ [])
front a b c d e own =
    ap (take 20) (flat_map-append u32 (a ∷ b ∷ c ∷ d ∷ e ∷ []) own) ∙ take-append_seam (flat_map u32 (a ∷ b ∷ c ∷ d ∷ e ∷ [])) (flat_map u32 own)

module _ (shape : Shape) (terms : Terms) (m : Map) (c : Command) (own own' : List ℕ) where
  told_alike : (most frames : ℕ) (p : Map) (op : Option Opcode) → told_reply op (reply_of shape most frames p own c op) ≡ told_reply op (reply_of shape most frames p own' c op)
  told_alike most frames p (Some Report) =
      ap (success 0) (front (live shape p) most (len p) (pinned shape frames) frames own ∙ sym (front (live shape p) most (len p) (pinned shape frames) frames own'))
  told_alike most frames p op = refl

  told_unless : (o : Option ℕ) → told_reply (op_of c.opcode) (reply_unless shape terms m own c o) ≡ told_reply (op_of c.opcode) (reply_unless shape terms m own' c o)
  told_unless (Some status) = refl
  told_unless None = told_alike (limit_of terms.limits c.namespace) terms.frames (in_space c.namespace m) (op_of c.opcode)

  told_same : told_reply (op_of c.opcode) (reply shape terms m own c) ≡ told_reply (op_of c.opcode) (reply shape terms m own' c)
  told_same =
      ap (told_reply (op_of c.opcode)) (reply_is shape terms m own c) ∙ told_unless (refused shape terms.limits m c)
      ∙ ap (told_reply (op_of c.opcode)) (sym (reply_is shape terms m own' c))

head_none : (s n : ℕ) → (if s == 0x88 then 1 else 0) + n ≡ 0 → (s ≡ 0x88 → ⊥) × (n ≡ 0)
head_none s n none = elim (s == 0x88) as (λ b. (s == 0x88) ≡ b → (if b then 1 else 0) + n ≡ 0 → (s ≡ 0x88 → ⊥) × (n ≡ 0)) [
  | true ↦ λ e z. absurd (omega (arith, z))
  | false ↦ λ e z. (λ is. let clash : (0x88 == 0x88) ≡ false = subst (λ k. (k == 0x88) ≡ false) is e in cc, omega (arith, z))
] refl none

module _ (shape : Shape) (terms : Terms) where
  two : (m m' m'' : Map) (c : Command) (a b : Reply) → Step shape terms m c a m' → Step shape terms m c b m'' → (a.status ≡ 0x88 → ⊥) → (b.status ≡ 0x88 → ⊥)
      → (told_reply (op_of c.opcode) a ≡ told_reply (op_of c.opcode) b) × (m' ≡ m'')
  two m m' m'' c a b (inl x) (inl y) none none' =
      (ap (told_reply (op_of c.opcode)) x.replied ∙ told_same shape terms m c x.own y.own ∙ sym (ap (told_reply (op_of c.opcode)) y.replied), x.leaves ∙ sym y.leaves)
  two m m' m'' c a b (inr x) step none none' = absurd (none (ap (λ (r : Reply). r.status) x.replied))
  two m m' m'' c a b (inl x) (inr y) none none' = absurd (none' (ap (λ (r : Reply). r.status) y.replied))

  pub two_runs : (m m' m'' : Map) (xs ys : List Exchange) → Run shape terms m xs m' → Run shape terms m ys m'' → commands xs ≡ commands ys → faults xs ≡ 0 → faults ys ≡ 0
      → (told_replies xs ≡ told_replies ys) × (m' ≡ m'')
  two_runs m m' m'' [] [] run run' same none none' = (refl, sym run ∙ run')
  two_runs m m' m'' [] (y ∷ ys) run run' same none none' = cc
  two_runs m m' m'' (x ∷ xs) [] run run' same none none' = cc
  two_runs m m' m'' (x ∷ xs) (y ∷ ys) (next, step, rest) (next', step', rest') same none none' =
      let here = head_none x.reply.status (faults xs) none in
      let there = head_none y.reply.status (faults ys) none' in
      let all : x.command ∷ commands xs ≡ y.command ∷ commands ys = same in
      let same_first : y.command ≡ x.command = cc in
      let one = two m next next' x.command x.reply y.reply step (subst (λ c. Step shape terms m c y.reply next') same_first step') here.0 there.0 in
      let more = two_runs next m' m'' xs ys rest (subst (λ n. Run shape terms n ys m'') (sym one.1) rest') (cc) here.1 there.1 in
      ((λ i. (one.0 ∙ ap (λ (c : Command). told_reply (op_of c.opcode) y.reply) (sym same_first)) i ∷ more.0 i), more.1)

pub fixed : Fixed
fixed shape terms m m' m'' xs ys run run' same none none' = two_runs shape terms m m' m'' xs ys run run' same none none'
