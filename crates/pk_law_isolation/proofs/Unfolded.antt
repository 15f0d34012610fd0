-- A reply and the map after, by the status with which the command is refused, if it is.
use Rattle.std.proofs.Common.{◌≡◌, ℕ, List, Option, Some, None, refl}
use Rattle.pk_base.{specs.Shape.Shape, specs.Map.Map}
use Rattle.pk_nvme.{specs.Command.Command, specs.Opcode.op_of, specs.Reply.Reply, specs.Reply.refusal}
use Rattle.pk_model.{specs.Spaces.Terms, specs.Spaces.limit_of, specs.Spaces.in_space, specs.Answer.refused, specs.Answer.effect, specs.Answer.map_after, specs.Answer.reply_of, specs.Answer.reply}

abbrev pub reply_unless : Shape → Terms → Map → List ℕ → Command → Option ℕ → Reply
reply_unless shape terms m own c (Some status) = refusal status
reply_unless shape terms m own c None = reply_of shape (limit_of terms.limits c.namespace) terms.frames (in_space c.namespace m) own c (op_of c.opcode)

abbrev pub effect_unless : Map → Command → Option ℕ → Map
effect_unless m c (Some status) = m
effect_unless m c None = effect m c (op_of c.opcode)

pub reply_is : (shape : Shape) (terms : Terms) (m : Map) (own : List ℕ) (c : Command) → reply shape terms m own c ≡ reply_unless shape terms m own c (refused shape terms.limits m c)
unfolding reply
reply_is shape terms m own c =
    elim (refused shape terms.limits m c) as (λ r. refused shape terms.limits m c ≡ r → reply shape terms m own c ≡ reply_unless shape terms m own c r) [
      | Some status ↦ λ e. rw e refl
      | None ↦ λ e. rw e refl
    ] refl

pub map_after_is : (shape : Shape) (limits : List ℕ) (m : Map) (c : Command) → map_after shape limits m c ≡ effect_unless m c (refused shape limits m c)
unfolding map_after
map_after_is shape limits m c =
    elim (refused shape limits m c) as (λ r. refused shape limits m c ≡ r → map_after shape limits m c ≡ effect_unless m c r) [
      | Some status ↦ λ e. rw e refl
      | None ↦ λ e. rw e refl
    ] refl
