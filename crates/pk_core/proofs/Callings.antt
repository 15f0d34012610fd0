-- How many flash operations a command makes.
use Rattle.std.proofs.Common.{◌≡◌, ℕ, ◌+◌, ◌-◌, ◌≤◌, sym, ap, subst, ◌∙◌, arith, false}
use Rattle.std.specs.Prelude.{if◌then◌else◌, ◌==◌}
use Rattle.pk_base.{specs.Shape.Shape, specs.Shape.IsShape, specs.Shape.most_calls, proofs.ShapeLemmas.block_pages_positive}
use Rattle.pk_nand.{specs.BoardState.BoardState, specs.BoardState.shape_or_none, specs.Calls.last_count, specs.Counts.counted_by, specs.Effects.OnlyReading}
use Rattle.pk_model.specs.Wear.{roots}
use Rattle.pk_call.specs.Calling.{FewCalls, most_calls_of}
use Rattle.pk_background.{specs.Costs.Spends, proofs.Callings.spends_still}
use Rattle.pk_parts.{specs.Parts.Parts, specs.Parts.most_looks, specs.Agreeing.DriveOnFlash, specs.Quiet.ReadsOnly, specs.Quiet.ReadsFailing, proofs.Unchanging.counted_by-min}
use Rattle.pk_core.proofs.Sights.{only_reads, only_failing}

-- ---- reads alone

reads_are : (before now : ℕ) → before ≤ now → now ≤ last_count → now ≡ counted_by (now - before) before
reads_are before now up few = let e = counted_by-min (now - before) before (omega (arith, up, few)) in omega (arith, e, up, few)

few_only : (old new : BoardState) (n : ℕ) → OnlyReading old new → new.reads ≤ old.reads + n → old.reads ≤ new.reads → new.reads ≤ last_count → FewCalls n old new
few_only old new n only within up few = record {
  reads_made = new.reads - old.reads;
  programs_made = 0;
  erases_made = 0;
  few = omega (arith, within);
  reads = reads_are old.reads new.reads up few;
  programs = ap (λ (b : BoardState). b.programs) only;
  erases = ap (λ (b : BoardState). b.erases) only;
}

pub few_reads : (old new : BoardState) (most n : ℕ) → most ≤ n → ReadsOnly old new most → FewCalls n old new
few_reads old new most n less made = let within = made.within in few_only old new n (only_reads old new most made) (omega (arith, within, less)) made.up made.few

pub few_breaks : (old new : BoardState) (most n : ℕ) → most ≤ n → ReadsFailing old new most → FewCalls n old new
few_breaks old new most n less made = let within = made.within in few_only old new n (only_failing old new most made) (omega (arith, within, less)) made.up made.few

pub looks_less : (d : Parts) → most_looks d ≤ 68
looks_less d = omega arith

-- a lookup and the pages of a value are few
looks_few : (shape : Shape) → IsShape shape → 68 ≤ most_calls shape
unfolding most_calls
looks_few shape is = let some = block_pages_positive shape is in omega (arith, some)

its_shape : (d : Parts) (old : BoardState) → DriveOnFlash d old.shape old.pages → IsShape d.log.shape
its_shape d old a = subst IsShape (sym a.with.shape_is) a.with.placed.is_shape

pub few_looked : (d : Parts) (old new : BoardState) → DriveOnFlash d old.shape old.pages → (most : ℕ) → most ≤ 68 → ReadsOnly old new most → FewCalls (most_calls d.log.shape) old new
few_looked d old new a most less made = let least = looks_few d.log.shape (its_shape d old a) in few_reads old new most (most_calls d.log.shape) (omega (arith, least, less)) made

pub few_failed : (d : Parts) (old new : BoardState) → DriveOnFlash d old.shape old.pages → (most : ℕ) → most ≤ 68 → ReadsFailing old new most → FewCalls (most_calls d.log.shape) old new
few_failed d old new a most less made = let least = looks_few d.log.shape (its_shape d old a) in few_breaks old new most (most_calls d.log.shape) (omega (arith, least, less)) made

-- ---- calls and roots

pub spends_reads : (old new : BoardState) (most n k : ℕ) → most ≤ n → ReadsOnly old new most → Spends n k old new
spends_reads old new most n k less made = spends_still n k old new (few_reads old new most n less made) (ap (λ (b : BoardState). roots b) made.board)

pub spends_breaks : (old new : BoardState) (most n k : ℕ) → most ≤ n → ReadsFailing old new most → Spends n k old new
spends_breaks old new most n k less made = spends_still n k old new (few_breaks old new most n less made) (ap (λ (b : BoardState). roots b) made.board)

-- a lookup failed
pub spends_failed : (d : Parts) (old new : BoardState) → DriveOnFlash d old.shape old.pages → (most k : ℕ) → most ≤ 68 → ReadsFailing old new most → Spends (most_calls d.log.shape) k old new
spends_failed d old new a most k less made = spends_still (most_calls d.log.shape) k old new (few_failed d old new a most less made) (ap (λ (b : BoardState). roots b) made.board)

-- ---- a List

-- the levels have the shape of the log
pub few_of_shape : (d : Parts) (old new : BoardState) → DriveOnFlash d old.shape old.pages → FewCalls (most_calls d.levels.shape) old new → FewCalls (most_calls d.log.shape) old new
few_of_shape d old new a f = subst (λ s. FewCalls (most_calls s) old new) a.with.index.levels_shape f

-- ---- by the opcode

pub few_for_looks : (shape : Shape) (opcode number size : ℕ) → (number == 0xC0) ≡ false → (old new : BoardState)
    → opcode ≡ number → FewCalls (most_calls shape) old new → FewCalls (most_calls_of shape opcode size) old new
few_for_looks shape opcode number size other old new is f =
    subst (λ o. FewCalls (most_calls_of shape o size) old new) (sym is) (subst (λ b. FewCalls (if b then size else most_calls shape) old new) (sym other) f)

pub few_for_tick : (shape : Shape) (opcode size : ℕ) → opcode ≡ 0xC0 → (old new : BoardState) → FewCalls size old new → FewCalls (most_calls_of shape opcode size) old new
few_for_tick shape opcode size is old new f = subst (λ o. FewCalls (most_calls_of shape o size) old new) (sym is) f

-- the board has the shape of the log
pub few_told : (d : Parts) (old new : BoardState) → DriveOnFlash d old.shape old.pages → (opcode size : ℕ)
    → FewCalls (most_calls_of d.log.shape opcode size) old new → FewCalls (most_calls_of (shape_or_none old.shape) opcode size) old new
few_told d old new a opcode size f = subst (λ s. FewCalls (most_calls_of s opcode size) old new) (a.with.shape_is ∙ sym (ap shape_or_none a.told_is)) f
