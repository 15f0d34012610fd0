-- The pages of a value that were reserved, and then written.
use Rattle.std.proofs.Common.{◌≡◌, ◌≢◌, ◌⊎◌, inl, inr, ℕ, zero, suc, ◌+◌, ◌-◌, ◌<◌, ◌≤◌, List, length, Result, Ok, Err, refl, sym, ap, subst, ◌∙◌, arith}
use Rattle.std.specs.Prelude.{IfOk, OnErr}
use Rattle.pk_base.{specs.Key.Key, specs.Shape.Shape, specs.Shape.charge, specs.Page.Flash, specs.Page.page_at, specs.Page.erased, specs.Page.whole, proofs.ShapeLemmas.charge_even}
use Rattle.pk_segfmt.specs.Stored.{page_of, IsStored}
use Rattle.pk_nand.{specs.BoardState.BoardState, specs.Calls.ProgramFailed, specs.declared.types.Fault.Fault, specs.Crash.Reached, specs.Crash.SameOutside}
use Rattle.pk_model.proofs.Growing.{at_end}
use Rattle.pk_pool.{specs.Blocks.Blocks, specs.Taking.TakesReady, specs.Taking.ErasesFree, specs.Taking.FailsToErase}
use Rattle.pk_seg.specs.Stored.{written}
use Rattle.pk_values.{specs.State.ValuesState, specs.State.with_written, specs.State.next_page, specs.Placed.StayPlaced, specs.Reserving.TakesNextOrOpens, specs.Reserving.WritesNext}
use Rattle.pk_values.specs.Entries.{IsInOpen}
use Rattle.pk_call.specs.Calling.{FewCalls}
use Rattle.pk_background.{specs.Costs.place_calls, proofs.Callings.few_same, proofs.Callings.few_within, proofs.Callings.few_then}
use Rattle.pk_changes.{specs.Placing.Reserves, specs.Placing.PlacesValue, specs.Placing.FailsToWrite, specs.Placing.FailsToPlace, proofs.Programming.written_programs}

not_whole : (bytes : List ℕ) → whole bytes ≡ erased → ⊥
not_whole bytes e = cc

-- a page of a stored value is written
stored_page : (shape : Shape) (flash : Flash) (key : Key) (page : ℕ) (value : List ℕ) → IsStored shape (page_at flash) key page value
    → (k : ℕ) → page ≤ k → k < page + charge shape (length value) → page_at flash k ≢ erased
stored_page shape flash key page value stored k low high is =
    let whole_sum : page + (k - page) ≡ k = omega (arith, low) in
    let here = subst (λ (j : ℕ). page_at flash j ≡ whole (page_of shape key value (k - page))) whole_sum (stored (k - page) (omega (arith, low, high))) in
    not_whole (page_of shape key value (k - page)) (sym here ∙ is)

pub writes_next : (shape : Shape) (key : Key) (value : List ℕ) (page : ℕ) (values : ValuesState) (between new : BoardState)
    → page ≡ next_page shape values
    → Reached between new (λ flash _. SameOutside page (charge shape (length value)) between.pages flash)
    → IsStored shape (page_at new.pages) key page value
    → WritesNext shape values (charge shape (length value)) between.pages new.pages
writes_next shape key value page values between new next run stored =
    let count : ℕ = charge shape (length value) in
    let outside : SameOutside page count between.pages new.pages = at_end run.0 between new (λ flash _. SameOutside page count between.pages flash) run.1 in
    record {
      pairs = charge_even shape (length value);
      outside = subst (λ (p : ℕ). SameOutside p count between.pages new.pages) next outside;
      written = λ k low high. stored_page shape new.pages key page value stored k (omega (arith, low, next)) (omega (arith, high, next));
    }

pub places_value : (shape : Shape) (key : Key) (value : List ℕ) (d : ValuesState) (p : Blocks) (old : BoardState) (page count : ℕ) (values d' : ValuesState) (q : Blocks) (between new : BoardState)
    → count ≡ charge shape (length value)
    → Reserves shape d p old page count values q between
    → d' ≡ with_written values count → IsInOpen shape d' (next_page shape values) count
    → ((pool : Blocks) (f g : Flash) → WritesNext shape values count f g → StayPlaced shape values pool f d' pool g)
    → IsStored shape (page_at new.pages) key page value
    → new ≡ written shape key page value (charge shape (length value)) between
    → Reached between new (λ flash _. SameOutside page (charge shape (length value)) between.pages flash)
    → PlacesValue shape key value d p old page d' q new
places_value shape key value d p old page count values d' q between new is_count reserved counted in_open after stored writes run =
    let next : page ≡ next_page shape values = reserved.pages.next in
    let n : ℕ = charge shape (length value) in
    record {
      values = values;
      between = between;
      reserved = subst (λ (c : ℕ). Reserves shape d p old page c values q between) is_count reserved;
      counted = subst (λ (c : ℕ). d' ≡ with_written values c) is_count counted;
      in_open = subst (λ (a : ℕ). IsInOpen shape d' a n) (sym next) (subst (λ (c : ℕ). IsInOpen shape d' (next_page shape values) c) is_count in_open);
      writes = writes;
      stored = stored;
      placed = λ outputs es placed.
          after q between.pages new.pages (subst (λ (c : ℕ). WritesNext shape values c between.pages new.pages) (sym is_count) (writes_next shape key value page values between new next run stored))
          outputs es (reserved.placed outputs es placed);
    }

-- ---- how many calls are made

written_reads : (shape : Shape) (key : Key) (page : ℕ) (value : List ℕ) (k : ℕ) (board : BoardState) → (written shape key page value k board).reads ≡ board.reads
written_reads shape key page value zero board = refl
written_reads shape key page value (suc k) board = written_reads shape key page value k board

-- each page by a program
few_written : (shape : Shape) (key : Key) (page : ℕ) (value : List ℕ) (k : ℕ) (board : BoardState) → FewCalls k board (written shape key page value k board)
few_written shape key page value k board =
    let made = written_programs shape key page value k board in
    record { reads_made = 0; programs_made = k; erases_made = 0; few = omega arith; reads = written_reads shape key page value k board; programs = made.programs; erases = made.erases }

few_failed_program : (old new : BoardState) (at : ℕ) (bytes : List ℕ) → ProgramFailed old new at bytes → FewCalls 1 old new
few_failed_program old new at bytes failed = record {
  reads_made = 0;
  programs_made = 1;
  erases_made = 0;
  few = omega arith;
  reads = ap (λ (b : BoardState). b.reads) failed.rest;
  programs = ap (λ (b : BoardState). b.programs) failed.rest;
  erases = ap (λ (b : BoardState). b.erases) failed.rest;
}

-- a block by at most one erase
few_chosen : (p : Blocks) (old : BoardState) (block : ℕ) (new : BoardState) → TakesReady p old block new ⊎ ErasesFree p old block new → FewCalls 1 old new
few_chosen p old block new (inl ready) = few_same 1 old new ready.same
few_chosen p old block new (inr free) = record {
  reads_made = 0;
  programs_made = 0;
  erases_made = 1;
  few = omega arith;
  reads = ap (λ (b : BoardState). b.reads) free.erase;
  programs = ap (λ (b : BoardState). b.programs) free.erase;
  erases = ap (λ (b : BoardState). b.erases) free.erase;
}

few_not_erased : (p : Blocks) (old new : BoardState) → FailsToErase p old new → FewCalls 1 old new
few_not_erased p old new fails = record {
  reads_made = 0;
  programs_made = 0;
  erases_made = 1;
  few = omega arith;
  reads = ap (λ (b : BoardState). b.reads) fails.failed.rest;
  programs = ap (λ (b : BoardState). b.programs) fails.failed.rest;
  erases = ap (λ (b : BoardState). b.erases) fails.failed.rest;
}

few_taken : (shape : Shape) (d : ValuesState) (p : Blocks) (old : BoardState) (count : ℕ) (d' : ValuesState) (q : Blocks) (new : BoardState)
    → TakesNextOrOpens shape d p old count d' q new → FewCalls 1 old new
few_taken shape d p old count d' q new (inl next) = few_same 1 old new next.same_board
few_taken shape d p old count d' q new (inr opens) = few_chosen p old opens.block new opens.choice

module _ (shape : Shape) (key : Key) (value : List ℕ) (d : ValuesState) (p : Blocks) (old : BoardState) (new : BoardState) where
  abbrev count : ℕ
  count = charge shape (length value)

  few_places : (page : ℕ) (d' : ValuesState) (q : Blocks) → PlacesValue shape key value d p old page d' q new → FewCalls (1 + count) old new
  few_places page d' q is =
      few_then 1 count old is.between new (few_taken shape d p old count is.values q is.between is.reserved.taken)
      (subst (λ (b : BoardState). FewCalls count is.between b) (sym is.writes) (few_written shape key page value count is.between))

  few_not_written : FailsToWrite shape key value d p old new → FewCalls (1 + count) old new
  few_not_written fails =
      let f = fails.failed in
      let mid : BoardState = written shape key fails.page value f.made fails.between in
      let within = f.within in
      let pages = few_then f.made 1 fails.between mid new (few_written shape key fails.page value f.made fails.between)
      (few_failed_program mid new (fails.page + f.made) (page_of shape key value f.made) f.failed) in
      few_within (1 + (f.made + 1)) (1 + count) old new (omega (arith, within))
      (few_then 1 (f.made + 1) old fails.between new (few_taken shape d p old count fails.values fails.pool fails.between fails.reserved.taken) pages)

  few_fails : FailsToPlace shape key value d p old new → FewCalls (1 + count) old new
  few_fails (inl erase) = few_within 1 (1 + count) old new (omega arith) (few_not_erased p old new erase)
  few_fails (inr write) = few_not_written write

  pub few_placed : (r : Result ℕ Fault) (d' : ValuesState) (q : Blocks) → IfOk r (λ page. PlacesValue shape key value d p old page d' q new)
      → OnErr r (FailsToPlace shape key value d p old new) → FewCalls (place_calls count) old new
  few_placed (Ok page) d' q places fails = few_places page d' q places
  few_placed (Err e) d' q places fails = few_fails fails
