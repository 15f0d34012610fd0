-- What flash operations do to a board apart from its pages: single ones, and two parts of a run.
use Rattle.std.proofs.Common.{◌≡◌, ℕ, List, refl, sym, ap, subst, ◌∙◌}
use Rattle.pk_nand.{specs.BoardState.BoardState, specs.Calls.Rose, specs.Calls.after_program, specs.Calls.ProgramFailed, specs.Operations.after_erase, specs.Operations.EraseFailed}
use Rattle.pk_nand.specs.Effects.{OnlyFlash, Works, Stops}

-- ---- single calls

pub works_none : (old new : BoardState) → new ≡ old → Works old new
works_none old new same = let T : BoardState → Type 0 = λ b. Works old b in subst T (sym same) (record { no_fault = (refl, refl, refl, refl); reads = refl; rest = refl })

pub works_erase : (old new : BoardState) (block : ℕ) → new ≡ after_erase old block → Works old new
works_erase old new block made = let T : BoardState → Type 0 = λ b. Works old b in subst T (sym made) (record { no_fault = (refl, refl, refl, refl); reads = refl; rest = refl })

pub works_program : (old new : BoardState) (page : ℕ) (bytes : List ℕ) → new ≡ after_program old page bytes → Works old new
works_program old new page bytes made = let T : BoardState → Type 0 = λ b. Works old b in subst T (sym made) (record { no_fault = (refl, refl, refl, refl); reads = refl; rest = refl })

pub stops_erase : (old new : BoardState) (block : ℕ) → EraseFailed old new block → Stops old new
stops_erase old new block failed =
    let Q : BoardState → Type 0 = λ b. OnlyFlash old b in
    record {
      flash = failed.flash;
      stop = failed.stop;
      read = ap (λ s. s.read_faults) failed.rest;
      reads = ap (λ s. s.reads) failed.rest;
      rest = subst Q (sym failed.rest) refl;
    }

pub stops_program : (old new : BoardState) (page : ℕ) (bytes : List ℕ) → ProgramFailed old new page bytes → Stops old new
stops_program old new page bytes failed =
    let Q : BoardState → Type 0 = λ b. OnlyFlash old b in
    record {
      flash = failed.flash;
      stop = failed.stop;
      read = ap (λ s. s.read_faults) failed.rest;
      reads = ap (λ s. s.reads) failed.rest;
      rest = subst Q (sym failed.rest) refl;
    }

-- ---- two parts

pub only_then : (a b c : BoardState) → OnlyFlash a b → OnlyFlash b c → OnlyFlash a c
only_then a b c first second =
    let T : BoardState → Type 0 = λ s. c ≡ record s {
      pages = c.pages;
      trail = c.trail;
      reads = c.reads;
      programs = c.programs;
      erases = c.erases;
      flash_faults = c.flash_faults;
      read_faults = c.read_faults;
      stop_faults = c.stop_faults;
      failed_at = c.failed_at;
    } in
    subst T first second

pub works_then : (a b c : BoardState) → Works a b → Works b c → Works a c
works_then a b c first second = record {
  no_fault = (second.no_fault.0 ∙ first.no_fault.0, second.no_fault.1 ∙ first.no_fault.1, second.no_fault.2 ∙ first.no_fault.2, second.no_fault.3 ∙ first.no_fault.3);
  reads = second.reads ∙ first.reads;
  rest = only_then a b c first.rest second.rest;
}

pub rose_from : {a b c : ℕ} → b ≡ a → Rose b c → Rose a c
rose_from {a} {b} {c} same rose = let T : ℕ → Type 0 = λ n. Rose n c in subst T same rose

pub stops_then : (a b c : BoardState) → Works a b → Stops b c → Stops a c
stops_then a b c first second = record {
  flash = rose_from first.no_fault.0 second.flash;
  stop = rose_from first.no_fault.2 second.stop;
  read = second.read ∙ first.no_fault.1;
  reads = second.reads ∙ first.reads;
  rest = only_then a b c first.rest second.rest;
}
