-- What refuses a command is no success.
use Rattle.std.proofs.Common.{◌≡◌, ◌≢◌, ℕ, ◌/◌, ◌%◌, refl, sym, ap, subst, ◌∙◌, arith, Bool, true, false, not, ◌&&◌, ◌||◌, ◌==◌, nat_le, Option, Some, None}
use Rattle.pk_base.{specs.Choices.or_else, specs.Shape.Shape, specs.Shape.greatest, proofs.Logic.some_same}
use Rattle.pk_nvme.{specs.Command.Command, specs.declared.opcode.Opcode.Opcode, specs.Opcode.op_of}
use Rattle.pk_nvme.specs.declared.opcode.Opcode.TheVariants.{Flush, Store, Retrieve, List as ListKeys, Delete, Exist, Tick, Report}
use Rattle.pk_model.{specs.Answer.check, specs.Answer.is_namespace, specs.Answer.is_key_length, specs.Answer.size_fault, specs.Answer.fault_of, specs.Answer.early, proofs.Machines.store_check}
use Rattle.pk_call.specs.declared.types.Outcome.{Outcome}

none_some : (x : ℕ) → ◌≡◌ {A = Option ℕ} None (Some x) → ⊥
none_some x e = cc

-- a check that fails gives its status
says : (P : ℕ → Type 0) (x status : ℕ) → P x → ◌≡◌ {A = Option ℕ} (Some x) (Some status) → P status
says P x status here is = subst P (some_same x status is) here

-- one of two checks fails, or what follows them
two_checks : (P : ℕ → Type 0) (a b : Bool) (x y status : ℕ) (last : Option ℕ) → P x → P y → (last ≡ Some status → P status) → or_else (check a x) (or_else (check b y) last) ≡ Some status → P status
two_checks P false b x y status last one other follows is = says P x status one is
two_checks P true false x y status last one other follows is = says P y status other is
two_checks P true true x y status last one other follows is = follows is

one_check : (P : ℕ → Type 0) (a : Bool) (x status : ℕ) → P x → check a x ≡ Some status → P status
one_check P false x status here is = says P x status here is
one_check P true x status here is = absurd (none_some status is)

-- ---- the checks of a Store on the map

-- no success, and no read that failed
abbrev Refuses : ℕ → Type 0
Refuses x = (x ≢ 0) × (x ≢ 0x88)

pub store_refuses : (options live most status : ℕ) (there : Bool) → store_check options there live most ≡ Some status → (status ≢ 0) × (status ≢ 0x88)
store_refuses options live most status there is =
    two_checks Refuses (not (options % 2 == 1) || there) (not (options / 2 % 2 == 1 && there)) 0x87 0x89 status (check (nat_le live most) 0x81) (λ e. omega (arith, e), λ e. omega (arith, e))
    (λ e. omega (arith, e), λ e. omega (arith, e)) (one_check Refuses (nat_le live most) 0x81 status (λ e. omega (arith, e), λ e. omega (arith, e))) is

-- ---- those that read the command alone

module _ (P : ℕ → Type 0) (opcode : P 0x01) (namespace : P 0x0B) (key : P 0x86) (value : P 0x85) (field : P 0x02) where
  size_says : (shape : Shape) (k : Opcode) (size status : ℕ) → size_fault shape k size ≡ Some status → P status
  size_says shape Store size status is = one_check P (nat_le size (greatest shape)) 0x85 status value is
  size_says shape ListKeys size status is = one_check P (nat_le 4 size) 0x02 status field is
  size_says shape Flush size status is = absurd (none_some status is)
  size_says shape Retrieve size status is = absurd (none_some status is)
  size_says shape Delete size status is = absurd (none_some status is)
  size_says shape Exist size status is = absurd (none_some status is)
  size_says shape Tick size status is = absurd (none_some status is)
  size_says shape Report size status is = absurd (none_some status is)

  fault_says : (spaces : ℕ) (shape : Shape) (c : Command) (k : Option Opcode) (status : ℕ) → fault_of spaces shape c k ≡ Some status → P status
  fault_says spaces shape c None status is = says P 0x01 status opcode is
  fault_says spaces shape c (Some k) status is = two_checks P (is_namespace spaces k c.namespace)
      (is_key_length k c.key_len) 0x0B 0x86 status (size_fault shape k c.size) namespace key (size_says shape k c.size status) is

pub early_refuses : (spaces : ℕ) (shape : Shape) (c : Command) (status : ℕ) → early spaces shape c ≡ Some status → (status ≢ 0) × (status ≢ 0x88)
early_refuses spaces shape c status is = fault_says Refuses (λ e. omega (arith, e), λ e. omega (arith, e)) (λ e. omega (arith, e), λ e. omega (arith, e)) (λ e. omega (arith, e), λ e. omega (arith, e))
    (λ e. omega (arith, e), λ e. omega (arith, e)) (λ e. omega (arith, e), λ e. omega (arith, e)) spaces shape c (op_of c.opcode) status is

-- ---- an outcome of such a status

pub told_refused : (o : Outcome) (status result data_len reads : ℕ) (stopped : Bool)
    → o ≡ record { status = status; result = result; data_len = data_len; reads = reads; stopped = stopped } → status ≢ 0 → o.status ≡ 0 → ⊥
told_refused o status result data_len reads stopped told ne e = ne (sym (ap (λ (x : Outcome). x.status) told) ∙ e)

pub told_sound : (o : Outcome) (status result data_len reads : ℕ) (stopped : Bool)
    → o ≡ record { status = status; result = result; data_len = data_len; reads = reads; stopped = stopped } → status ≢ 0x88 → o.status ≡ 0x88 → ⊥
told_sound o status result data_len reads stopped told ne e = ne (sym (ap (λ (x : Outcome). x.status) told) ∙ e)

-- a success does not stop the drive
pub zero_runs : (o : Outcome) → (o.stopped ≡ true → o.status ≡ 0x88) → o.status ≡ 0 → o.stopped ≡ false
zero_runs o stops zero = by o.stopped stops
  where
    by : (b : Bool) → (b ≡ true → o.status ≡ 0x88) → b ≡ false
    by false f = refl
    by true f = let e = f refl in absurd (omega (arith, zero, e))
