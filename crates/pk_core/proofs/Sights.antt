-- How what is seen of a drive changes in a call.
use Rattle.std.proofs.Common.{◌≡◌, ℕ, ◌≤◌, refl, sym, ap, subst, ◌∙◌, arith, Bool, true, false, not, ◌||◌, ◌==◌}
use Rattle.pk_nand.{specs.BoardState.BoardState, specs.Calls.last_count, specs.Effects.OnlyReading, specs.Effects.Works, specs.Effects.Stops}
use Rattle.pk_nvme.specs.declared.request.Request.{Request}
use Rattle.pk_call.{specs.Calling.only_looks, specs.Settling.may_raise}
use Rattle.pk_parts.specs.Quiet.{ReadsOnly, ReadsFailing}

-- ---- what only reads

pub only_reads : (old new : BoardState) (most : ℕ) → ReadsOnly old new most → OnlyReading old new
only_reads old new most made =
    let T : BoardState → Type 0 = λ b. OnlyReading old b in
    subst T (sym made.board) refl

pub only_failing : (old new : BoardState) (most : ℕ) → ReadsFailing old new most → OnlyReading old new
only_failing old new most made = made.board

-- ---- counts of faults

pub works_up : (old new : BoardState) → Works old new → old.flash_faults ≤ new.flash_faults
works_up old new works = let same = works.no_fault.0 in omega (arith, same)

pub stops_up : (old new : BoardState) → Stops old new → old.flash_faults ≤ last_count → old.flash_faults ≤ new.flash_faults
stops_up old new stops few = let rose = stops.flash in omega (arith, rose, few)

-- ---- by the opcode

-- a test of an opcode does not say what it does not say of this number
pub apart : (f : ℕ → Bool) (number : ℕ) (b : Bool) → f number ≡ b → (opcode : ℕ) → opcode ≡ number → f opcode ≡ not b → ⊥
apart f number true says opcode is e = let clash : true ≡ false = sym says ∙ (ap f (sym is) ∙ e) in cc
apart f number false says opcode is e = let clash : false ≡ true = sym says ∙ (ap f (sym is) ∙ e) in cc

-- what only looks does not raise the work
pub looks_raises : (r : Request) → only_looks r.opcode ≡ true → may_raise r.opcode ≡ true → ⊥
looks_raises r only raises = by (r.opcode == 0x01) (r.opcode == 0x10) (r.opcode == 0xC0) only raises
  where
    by : (store delete tick : Bool) → not (store || delete || tick) ≡ true → (store || delete) ≡ true → ⊥
    by true delete tick none some = cc
    by false true tick none some = cc
    by false false tick none some = cc
