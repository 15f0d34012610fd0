-- No answer on a map is an unrecovered read error.
use Rattle.std.proofs.Common.{arith, unwrap_or, ◌≡◌, ◌≢◌, ℕ, List, length, Option, Some, None, refl, ap, Bool, true, false, nat_le, replicate, ◌&&◌, ◌||◌, not}
use Rattle.std.specs.FinMap.{contains_key}
use Rattle.pk_base.{specs.Choices.or_else, specs.Shape.Shape, specs.Shape.greatest, specs.Map.Map}
use Rattle.pk_nvme.{specs.Command.Command, specs.Command.key, specs.Command.must_exist, specs.Command.must_be_new, specs.Opcode.op_of, specs.declared.opcode.Opcode.Opcode}
use Rattle.pk_nvme.specs.declared.opcode.Opcode.TheVariants.{Store, Retrieve, List as ListKeys, Delete, Exist}
use Rattle.pk_model.specs.Answer.{check, is_namespace, is_key_length, size_fault, fault_of, early, late_of, live_after, refused, reply, reply_of, Answer, map_after}
use Rattle.pk_model.specs.Spaces.{Terms, limit_of, in_space}

-- not this status
abbrev Other : Option ℕ → Type 0
Other o = o ≢ Some 0x88

first_other : (p q : Option ℕ) → Other p → Other q → Other (or_else p q)
first_other (Some s) q hp hq = hp
first_other None q hp hq = hq

check_other : (b : Bool) (s : ℕ) → Other (Some s) → Other (check b s)
check_other true s h = λ e. cc
check_other false s h = h

differ : (s t : ℕ) → s ≢ t → Some s ≢ Some t
differ s t h e = h (ap (λ o. unwrap_or o s) e)

size_other : (shape : Shape) (k : Opcode) (size : ℕ) → Other (size_fault shape k size)
size_other shape Store size = check_other (nat_le size (greatest shape)) 0x85 (differ 0x85 0x88 (omega arith))
size_other shape ListKeys size = check_other (nat_le 4 size) 0x02 (differ 0x02 0x88 (omega arith))
size_other shape k size = λ e. cc

fault_other : (spaces : ℕ) (shape : Shape) (c : Command) (k : Option Opcode) → Other (fault_of spaces shape c k)
fault_other spaces shape c None = differ 0x01 0x88 (omega arith)
fault_other spaces shape c (Some k) =
    first_other (check (is_namespace spaces k c.namespace) 0x0B) _ (check_other (is_namespace spaces k c.namespace) 0x0B (differ 0x0B 0x88 (omega arith)))
    (first_other (check (is_key_length k c.key_len) 0x86) _ (check_other (is_key_length k c.key_len) 0x86 (differ 0x86 0x88 (omega arith))) (size_other shape k c.size))

missing : (b : Bool) → Other (check b 0x87)
missing b = check_other b 0x87 (differ 0x87 0x88 (omega arith))

late_other : (shape : Shape) (most : ℕ) (m : Map) (c : Command) (k : Option Opcode) → Other (late_of shape most m c k)
late_other shape most m c (Some Store) =
    first_other (check (not (must_exist c) || contains_key m (key c)) 0x87) _ (missing (not (must_exist c) || contains_key m (key c)))
    (first_other (check (not (must_be_new c && contains_key m (key c))) 0x89) _ (check_other (not (must_be_new c && contains_key m (key c))) 0x89 (differ 0x89 0x88 (omega arith)))
    (check_other (nat_le (live_after shape m c) most) 0x81 (differ 0x81 0x88 (omega arith))))
late_other shape most m c (Some Retrieve) = missing (contains_key m (key c))
late_other shape most m c (Some Delete) = missing (contains_key m (key c))
late_other shape most m c (Some Exist) = missing (contains_key m (key c))
late_other shape most m c k = λ e. cc

success_of : (shape : Shape) (most frames : ℕ) (m : Map) (own : List ℕ) (c : Command) (k : Option Opcode) → (reply_of shape most frames m own c k).status ≡ 0
success_of shape most frames m own c (Some Retrieve) = refl
success_of shape most frames m own c k = refl

differ_from_success : {n : ℕ} → n ≡ 0 → n ≢ 0x88
differ_from_success e x = omega arith

-- the reply of the definition is no unrecovered read error
pub reply_other : (shape : Shape) (terms : Terms) (m : Map) (own : List ℕ) (c : Command) → (reply shape terms m own c).status ≢ 0x88
unfolding reply
reply_other shape terms m own c = by (refused shape terms.limits m c) refl
    (first_other (early (length terms.limits) shape c) (late_of shape (limit_of terms.limits c.namespace) (in_space c.namespace m) c (op_of c.opcode))
    (fault_other (length terms.limits) shape c (op_of c.opcode)) (late_other shape (limit_of terms.limits c.namespace) (in_space c.namespace m) c (op_of c.opcode)))
  where
    by : (o : Option ℕ) → refused shape terms.limits m c ≡ o → Other o → (reply shape terms m own c).status ≢ 0x88
    by (Some s) e h = rw e (λ x. h (ap (λ n. Some n) x))
    by None e h = rw e (λ x. differ_from_success (success_of shape (limit_of terms.limits c.namespace) terms.frames (in_space c.namespace m) own c (op_of c.opcode)) x)

-- the map after a command, by the definition
pub answers : (shape : Shape) (terms : Terms) (m : Map) (c : Command) → Answer shape terms m c (reply shape terms m (replicate 11 0) c) (map_after shape terms.limits m c)
answers shape terms m c = record { own = replicate 11 0; eleven = refl; replied = refl; leaves = refl }
