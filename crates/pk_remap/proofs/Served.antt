-- The steps of a relocation one after another.
use Rattle.std.proofs.Common.{◌≡◌, inl, inr, ℕ, suc, ◌+◌, ◌*◌, ◌<◌, true, false, refl, sym, ap, subst, ◌∙◌, arith, Some}
use Rattle.std.specs.Prelude.{Ok, Err}
use Rattle.pk_base.{specs.Page.Flash, specs.Page.page_at, specs.Page.torn as torn_page, specs.Mark.after}
use Rattle.pk_nand.{specs.BoardState.BoardState, specs.Calls.Rose, specs.Crash.Went, specs.declared.types.NandFault.NandFault}
use Rattle.pk_remap.{specs.declared.relocation.Relocation.Relocation as InMemory, specs.Places.placed_page, specs.Through.through, specs.Through.MayShow, specs.Stepping.IsTableBlock}
use Rattle.pk_remap.specs.Relocating.{Relocation, block, copies_of}
use Rattle.pk_remap.specs.Running.{relocation_of, AtPhase, RelocationRuns, SameCall, NoReadFailed, RelocationStops, StepOutcome, reading, in_table, no_spare, torn}
use Rattle.pk_remap.specs.Serving.{PassesSafely, ServingStops, ServingOutcome, read_failed, table_failed, spares_failed, page_is_torn}

-- after some steps that go on
pub record SoFar (r : InMemory) (before : Flash) (old : BoardState) (r' : InMemory) (new : BoardState) : Type 0 where
  pub passes : PassesSafely r before old new
  pub runs : RelocationRuns r' before new
  pub same : SameCall r r'
  pub again : relocation_of r' ≡ record (relocation_of r) { taken = r'.taken }
  pub faults : NoReadFailed old new

pub so_far_start : (r : InMemory) (before : Flash) (old : BoardState) → RelocationRuns r before old → SoFar r before old r old
so_far_start r before old runs = record {
  passes = (0, refl);
  runs = runs;
  same = record {
    shape = refl;
    spares = refl;
    call = refl;
    bytes = refl;
    taken = omega arith;
    most = let left = runs.goes_on.serving.left in omega (arith, left);
    room = runs.room;
  };
  again = refl;
  faults = record { reads = refl; stops = inl refl };
}

same_then : (a b c : InMemory) → SameCall a b → SameCall b c → SameCall a c
same_then a b c one two = record {
  shape = two.shape ∙ one.shape;
  spares = two.spares ∙ one.spares;
  call = two.call ∙ one.call;
  bytes = two.bytes ∙ one.bytes;
  taken = let p = one.taken in let q = two.taken in omega (arith, p, q);
  most = let p = two.most in let q = one.spares in omega (arith, p, q);
  room = two.room;
}

module _ (r : InMemory) (before : Flash) (old : BoardState) (r1 : InMemory) (mid : BoardState) (far : SoFar r before old r1 mid) where
  went_more : (new : BoardState) → Went mid new (λ flash _. MayShow r1.shape r1.spares before (relocation_of r1).mark flash) → PassesSafely r before old new
  went_more new went =
      let P : Relocation → Type 0 = λ q. Went mid new (λ flash _. MayShow q.shape q.spares before q.mark flash) in
      (suc far.passes.0, (mid, far.passes.1, subst P far.again went))

  rose_more : (stop' : ℕ) → Rose mid.stop_faults stop' → Rose old.stop_faults stop'
  rose_more stop' rose = elim far.faults.stops [
    | inl same ↦ (let P : ℕ → Type 0 = λ x. Rose x stop' in subst P same rose)
    | inr before_it ↦ omega (arith, before_it, rose)
  ]

  pub so_far_more : (r2 : InMemory) (new : BoardState) → StepOutcome r1 before mid (Ok false) r2 new → SoFar r before old r2 new
  so_far_more r2 new step = record {
    passes = went_more new step.0;
    runs = step.1;
    same = same_then r r1 r2 far.same step.3;
    again = step.4 ∙ ap (λ (q : Relocation). record q { taken = r2.taken }) far.again;
    faults = record {
      reads = step.5.reads ∙ far.faults.reads;
      stops = elim step.5.stops [
        | inl same ↦ elim far.faults.stops [
          | inl same' ↦ inl (same ∙ same')
          | inr rose ↦ inr (let P : ℕ → Type 0 = λ x. Rose old.stop_faults x in subst P (sym same) rose)
        ]
        | inr rose ↦ inr (rose_more new.stop_faults rose)
      ];
    };
  }

  pub served_now : (u : Unit) (r2 : InMemory) (new : BoardState) → StepOutcome r1 before mid (Ok true) r2 new → ServingOutcome r before old (Ok u) r2 new
  served_now u r2 new step =
      let P : Relocation → Type 0 = λ q. through q.shape q.spares new.pages ≡ Some (after q.shape q.mark before) in
      (went_more new step.0, step.1.rests, subst P far.again step.1.done, same_then r r1 r2 far.same step.2)

  stopped_why : (r2 : InMemory) (new : BoardState) → RelocationStops r1 mid r2 new → ServingStops (relocation_of r) old r2.taken new
  stopped_why r2 new (reading rose) = read_failed (let P : ℕ → Type 0 = λ x. Rose x new.read_faults in subst P far.faults.reads rose)
  stopped_why r2 new (in_table rose b is at) =
      let P : Relocation → Type 0 = λ q. IsTableBlock q.shape q.spares b in
      table_failed (rose_more new.stop_faults rose) b (subst P far.again is) at
  stopped_why r2 new (no_spare rose none) = spares_failed (rose_more new.stop_faults rose) (let same = far.same.spares in omega (arith, same, none))
  stopped_why r2 new (torn k phase found pages) =
      let P : Relocation → Type 0 = λ q. (k < copies_of q.shape q.mark)
      × (page_at new.pages (placed_page q.shape q.table (block q * q.shape.block_pages + k)) ≡ torn_page) in
      let at_read = subst (AtPhase r1 before mid.pages) phase far.runs.phase_fits in
      let here = ap (λ (f : Flash). page_at f (placed_page r1.shape (relocation_of r1).table (block (relocation_of r1) * r1.shape.block_pages + k))) pages
      ∙ found in
      let own = subst P far.again (at_read.2, here) in
      page_is_torn k own.0 own.1

  pub stopped_now : (e : NandFault) (r2 : InMemory) (new : BoardState) → StepOutcome r1 before mid (Err e) r2 new → ServingOutcome r before old (Err e) r2 new
  stopped_now e r2 new step = (went_more new step.0, stopped_why r2 new step.1, same_then r r1 r2 far.same step.2)
