-- What a List is answered, and how many pages were read for it.
use Rattle.std.proofs.Common.{◌≡◌, inl, inr, ℕ, zero, suc, ◌+◌, ◌<◌, ◌≤◌, min, refl, sym, ap, subst, ◌∙◌, arith, false, List, take, Option}
use Rattle.pk_nand.{specs.BoardState.BoardState, specs.Calls.counted, specs.Calls.last_count, specs.Counts.counted_by}
use Rattle.pk_call.{specs.Calling.FewCalls, specs.declared.types.Outcome.Outcome}
use Rattle.pk_walk.specs.Walking.{Reads, ReadsFail}
use Rattle.pk_core.specs.Listed.{ListsInto}

-- ---- counts of reads

counted_is : (k n : ℕ) → n ≤ last_count → counted_by k n ≡ min (n + k) last_count
counted_is zero n few = omega (arith, few)
counted_is (suc k) n few = ap counted (counted_is k n few) ∙ omega (arith, few)

-- the count of a board, before and after reads
pub reads_between : (most : ℕ) (old new : BoardState) → old.reads ≤ last_count → most ≤ 4000000 → Reads 0 most old new → (old.reads ≤ new.reads) × (new.reads < old.reads + 4294967296)
reads_between most old new few bound reads =
    let count : new.reads ≡ min (old.reads + reads.0) last_count = ap (λ (b : BoardState). b.reads) reads.2 ∙ counted_is reads.0 old.reads few in
    let upto = reads.1 in
    (omega (arith, count, few), omega (arith, count, few, upto, bound))

pub reads_until : (most : ℕ) (old new : BoardState) → old.reads ≤ last_count → most ≤ 4000000 → ReadsFail 0 most old new → (old.reads ≤ new.reads) × (new.reads < old.reads + 4294967296)
reads_until most old new few bound (k, page, upto, failed) =
    let count : new.reads ≡ counted (min (old.reads + k) last_count) = ap (λ (b : BoardState). b.reads) failed.rest ∙ ap counted (counted_is k old.reads few) in
    (omega (arith, count, few), omega (arith, count, few, upto, bound))

-- ---- the answer

pub lists_read : (most : ℕ) (old new : BoardState) (o : Outcome) (len reads : ℕ) (into bytes : List ℕ)
    → o ≡ record { status = 0; result = 0; data_len = len; reads = reads; stopped = false } → new.reads ≤ last_count → Reads 0 most old new
    → old.reads + reads ≡ new.reads → take len into ≡ bytes → ListsInto old new o into bytes
lists_read most old new o len n into bytes told few reads count data_is = subst (λ (x : Outcome). ListsInto old new x into bytes) (sym told) (record {
  runs = refl;
  result_is = refl;
  board_is = subst (λ (b : BoardState). b ≡ record old { reads = b.reads; flash_faults = b.flash_faults; read_faults = b.read_faults; failed_at = b.failed_at }) (sym reads.2) refl;
  reads = omega (arith, few, count);
  up = let same = ap (λ (b : BoardState). b.read_faults) reads.2 in omega (arith, same);
  flash_up = λ _. let same = ap (λ (b : BoardState). b.flash_faults) reads.2 in omega (arith, same);
  answered = inl (
    refl,
    data_is,
    (ap (λ (b : BoardState). b.flash_faults) reads.2, ap (λ (b : BoardState). b.read_faults) reads.2, ap (λ (b : BoardState). b.stop_faults) reads.2, ap (λ (b : BoardState). b.failed_at) reads.2),
  );
})

pub lists_unread : (most : ℕ) (old new : BoardState) (o : Outcome) (reads : ℕ) (into bytes : List ℕ)
    → o ≡ record { status = 0x88; result = 0; data_len = 0; reads = reads; stopped = false } → new.reads ≤ last_count → old.read_faults ≤ last_count
    → ReadsFail 0 most old new → old.reads + reads ≡ new.reads → ListsInto old new o into bytes
lists_unread most old new o n into bytes told few faults (k, page, upto, failed) count =
    let rose = failed.read in
    let flash = failed.flash in
    subst (λ (x : Outcome). ListsInto old new x into bytes) (sym told) (record {
      runs = refl;
      result_is = refl;
      board_is = failed.rest ∙ ap (λ (f : Option ℕ). record old { reads = counted (counted_by k old.reads); flash_faults = new.flash_faults; read_faults = new.read_faults; failed_at = f })
          (sym (ap (λ (b : BoardState). b.failed_at) failed.rest))
          ∙ ap (λ (n : ℕ). record old { reads = n; flash_faults = new.flash_faults; read_faults = new.read_faults; failed_at = new.failed_at }) (sym (ap (λ (b : BoardState). b.reads) failed.rest));
      reads = omega (arith, few, count);
      up = omega (arith, rose, faults);
      flash_up = λ most. omega (arith, flash, most);
      answered = inr (refl, refl, failed.read);
    })

-- ---- flash operations

pub few_listed : (most n : ℕ) (old new : BoardState) → Reads 0 most old new → most < n → FewCalls n old new
few_listed most n old new made less = record {
  reads_made = made.0;
  programs_made = 0;
  erases_made = 0;
  few = (let upto = made.1 in omega (arith, upto, less));
  reads = ap (λ (b : BoardState). b.reads) made.2;
  programs = ap (λ (b : BoardState). b.programs) made.2;
  erases = ap (λ (b : BoardState). b.erases) made.2;
}

pub few_unlisted : (most n : ℕ) (old new : BoardState) → ReadsFail 0 most old new → most < n → FewCalls n old new
few_unlisted most n old new made less = record {
  reads_made = suc made.0;
  programs_made = 0;
  erases_made = 0;
  few = (let upto = made.2 in omega (arith, upto, less));
  reads = ap (λ (b : BoardState). b.reads) made.3.rest;
  programs = ap (λ (b : BoardState). b.programs) made.3.rest;
  erases = ap (λ (b : BoardState). b.erases) made.3.rest;
}
