-- Calls of the outer flash over a relocation at rest.
use Rattle.std.proofs.Common.{◌≡◌, ◌≢◌, ◌⊎◌, inl, inr, ℕ, zero, suc, ◌+◌, ◌-◌, ◌*◌, ◌/◌, ◌%◌, ◌<◌, ◌≤◌, Bool, true, false, List, [], length, take, refl, sym, ap, subst, ◌∙◌, arith, Some, None}
use Rattle.std.proofs.Math.Nat.{mul_comm}
use Rattle.std.{specs.Prelude.max, specs.Prelude.Result, specs.Prelude.Ok, specs.Prelude.Err, specs.Prelude.Vec, specs.Prelude.◌==◌, specs.Prelude.◌&&◌, proofs.Math.Nat.mod-lt}
use Rattle.std.{proofs.lemmas.Bool.Decides.nat_tests, proofs.lemmas.Nat.div-add-mod', specs.declared.alloc.Global.Global, proofs.lemmas.List.length-take-le}
use Rattle.pk_base.{specs.declared.sizes.TheConstants.MOST_PAGE_BYTES, specs.Shape.Shape, specs.Shape.page_count, specs.Mark.Mark, specs.Mark.program, specs.Mark.erase, specs.Mark.after}
use Rattle.pk_base.{proofs.Logic.both_true, specs.Page.Page, specs.Page.Flash, specs.Page.page_at, specs.Page.erased, specs.Page.whole, specs.Page.torn, specs.Page.IsPage}
use Rattle.pk_nand.{specs.BoardState.BoardState, specs.Cut.Interrupted, proofs.Writing.shape_is, specs.Counts.after_reads, specs.Crash.Went, proofs.CutLemmas.interrupted_none, specs.Effects.OnlyFlash}
use Rattle.pk_nand.proofs.Leaving.{interrupted_done, page_at-slice_set, IsFlash-interrupted, full_program, full_erase}
use Rattle.pk_nand.specs.Operations.{InOrder, after_read, after_erase, ReadFailed, EraseFailed}
use Rattle.pk_nand.specs.declared.types.NandFault.{NandFault}
use Rattle.pk_nand.{specs.Calls.Rose, specs.Calls.IsReady, specs.Calls.after_program, specs.Calls.ProgramFailed, specs.Calls.LeftBy, proofs.Reaching.Reached-start, proofs.Reaching.Went-reached}
use Rattle.pk_remap.{proofs.Placing.place-below, proofs.Placing.block_of as page_block, proofs.Placing.page-through, proofs.Placing.div-of, proofs.Placing.mod-of, specs.declared.top.Top.Top}
use Rattle.pk_remap.{proofs.Lifting.times_le, proofs.Lifting.placed_page-inside, proofs.Running.went, proofs.Running.none_pair, specs.declared.layout.TheConstants.MOST_SPARES}
use Rattle.pk_remap.{specs.Table.SpareTable, specs.Table.table_of, specs.Table.is_table, specs.Newest.table_in, specs.Newest.newest_table, specs.Newest.IsNewest, proofs.TableLemmas.page_spells}
use Rattle.pk_remap.{specs.Searched.table_found, specs.Searched.UsesAtMost, proofs.Finding.found-newest, proofs.Standing.may_show, specs.declared.phase.Phase.TheVariants.EraseSpare}
use Rattle.pk_remap.{specs.declared.relocation.Call.Call, specs.declared.relocation.Call.TheVariants.Program, specs.declared.relocation.Call.TheVariants.Erase, specs.Stepping.RelocationGoesOn}
use Rattle.pk_remap.{specs.declared.relocation.Relocation.Relocation as InMemory, specs.Places.inner_shape, specs.Places.place, specs.Places.placed_page, proofs.Turning.next_kept}
use Rattle.pk_remap.{specs.Through.through, specs.Through.MayShow, specs.Through.mark_below, specs.Beginning.CanRelocate, specs.Beginning.CallHasFailed, proofs.Stepping.ready_again}
use Rattle.pk_remap.{proofs.Stepping.ready_same, specs.Relocating.Relocation, specs.Relocating.block_of, specs.Relocating.copies_of, specs.Relocating.IsTop, specs.Relocating.SameTables}
use Rattle.pk_remap.specs.Running.{relocation_of, mark_of, HasPageBuffers, HasTurn, RelocationRuns, IsAtRest, SameCall}
use Rattle.pk_remap.specs.Serving.{PassesCount, PassesCalls, ServingStops, ServingOutcome, read_failed, table_failed, spares_failed, page_is_torn, for_mark, outer_of, SameSpares, OuterCall}
use Rattle.pk_remap.specs.Serving.{OuterOutcome, HasPartner, PartnerKept, PartnerOutcome, CanFind, FindOutcome, found_top, RelocationServes}
use Rattle.pk_remap.proofs.Calls.{erase_reached, erase_went, program_reached, program_went, left_interrupted}
use Rattle.pk_remap.proofs.Beginning.{table_kept, calls_below, done_below, fails_below}
use Rattle.pk_remap.specs.Counting.{SparesCounted, UsesOnlyTaken, HasTable, OuterFailed}
use Rattle.pk_remap.proofs.Counting.{only_same, only_read as only_after_read, only_read_failed, counted_done, has_table}

-- a call before others
pub passes_before : (P : Flash → Type 0) (a b c : BoardState) (n : ℕ) → Went a b (λ flash _. P flash) → PassesCount P n b c → PassesCount P (suc n) a c
passes_before P a b c zero went same = let T : BoardState → Type 0 = λ s. Went a s (λ flash _. P flash) in (a, refl, subst T (sym same) went)
passes_before P a b c (suc n) went more = (more.0, passes_before P a b more.0 n went more.1, more.2)

-- the same causes, seen from before a call that failed
stops_since : (q : Relocation) (old mid : BoardState) (taken : ℕ) (new : BoardState) → Rose old.stop_faults mid.stop_faults → mid.read_faults ≡ old.read_faults
    → ServingStops q mid taken new → ServingStops q old taken new
stops_since q old mid taken new rose reads (read_failed r) = read_failed (let P : ℕ → Type 0 = λ x. Rose x new.read_faults in subst P reads r)
stops_since q old mid taken new rose reads (table_failed r b is at) = table_failed (omega (arith, rose, r)) b is at
stops_since q old mid taken new rose reads (spares_failed r none) = spares_failed (omega (arith, rose, r)) none
stops_since q old mid taken new rose reads (page_is_torn k less found) = page_is_torn k less found

module _ (r : InMemory) (old : BoardState) (rest : IsAtRest r old) (mark : Mark) (outer : OuterCall r mark old.pages) where
  abbrev inner : Shape
  inner = inner_shape r.shape r.spares

  abbrev below : Mark
  below = mark_below r.shape (relocation_of r).table mark

  abbrev before : Flash
  before = outer_of r old.pages

  pub can : CanRelocate (for_mark r mark) old
  can = record {
    ready = rest.ready;
    shape_is = rest.shape_is;
    few = rest.few;
    within = outer.within;
    call = outer.call;
    grammar = rest.grammar;
    used = rest.used;
    taken = rest.taken;
    top = rest.top;
  }

  n_some : 0 < r.shape.block_pages
  n_some = let least = rest.shape_is.block_least in omega (arith, least)

  pub safe_cut : (cut : Flash) → Interrupted inner below old.pages cut [] → MayShow r.shape r.spares before mark cut
  safe_cut cut i = calls_below (for_mark r mark) old cut can i

  tables_kept : (cut : Flash) → Interrupted inner below old.pages cut [] → SameTables (relocation_of r) old.pages cut
  tables_kept cut i k there = table_kept (for_mark r mark) old can cut i k there

  turn_kept : (cut : Flash) → Interrupted inner below old.pages cut [] → HasTurn r cut
  turn_kept cut i pair is = next_kept r.shape r.spares r.top n_some old.pages cut pair (tables_kept cut i) (rest.turn pair is)

  same_spares : SameSpares r r
  same_spares = record { shape = refl; spares = refl; taken = omega arith; most = rest.taken; room = rest.room }

  -- the call was done
  pub done_now : (u : Unit) (new : BoardState) → IsReady new inner → new.pages ≡ after inner below old.pages
      → Went old new (λ flash _. MayShow r.shape r.spares before mark flash) → OuterOutcome r mark old (Ok u) r new
  done_now u new ready pages went =
      let own = done_below (for_mark r mark) old can in
      let i : Interrupted inner below old.pages new.pages [] = done_interrupted' pages in
      let S : Flash → Type 0 = λ f. through r.shape r.spares f ≡ Some (after r.shape mark before) in (
        (1, (old, refl, went)),
        record {
          ready = ready;
          shape_is = rest.shape_is;
          few = rest.few;
          grammar = rest.grammar;
          used = rest.used;
          taken = rest.taken;
          top = subst (IsTop (relocation_of r)) (sym pages) own.top;
          turn = turn_kept new.pages i;
          room = rest.room;
        },
        subst S (sym pages) own.shown,
        same_spares,
      )
    where
      done_interrupted' : new.pages ≡ after inner below old.pages → Interrupted inner below old.pages new.pages []
      done_interrupted' pages =
          let T : Flash → Type 0 = λ f. Interrupted inner below old.pages f [] in
          subst T (sym pages) (interrupted_done inner below old.pages)

  -- it failed, with no spare left
  pub none_left : (e : NandFault) (new : BoardState) → r.spares ≤ r.taken → Rose old.stop_faults new.stop_faults
      → Went old new (λ flash _. MayShow r.shape r.spares before mark flash) → OuterOutcome r mark old (Err e) r new
  none_left e new none rose went = ((1, (old, refl, went)), spares_failed rose none, same_spares)

  -- the newest table is the same
  pub left_table : (new : BoardState) → new.shape ≡ old.shape → LeftBy below old new → IsReady new inner → HasTable r new
  left_table new same left ready =
      let failed : CallHasFailed (for_mark r mark) old new = fails_below (for_mark r mark) old new can same left in
      has_table r new r.top (relocation_of r).table ready failed.top rest.used

  -- it failed, and a relocation begins to serve it
  module _ (new : BoardState) (same : new.shape ≡ old.shape) (left : LeftBy below old new) (call : Call) (kept : Bool) (bytes : Vec ℕ Global)
      (mark_is : mark_of call (take r.shape.page_bytes bytes.items) ≡ mark)
      (room : r.taken < r.spares) (bytes_room : MOST_PAGE_BYTES ≤ length bytes.items) where
    abbrev begun : InMemory
    begun = record r { call = call; kept = kept; bytes = bytes; phase = EraseSpare }

    pub begun_runs : ((k : ℕ) → (kept && (suc k == copies_of r.shape mark)) ≡ true
        → page_at (after r.shape mark before) (block_of r.shape mark * r.shape.block_pages + k) ≡ whole (take r.shape.page_bytes r.partner.items))
        → RelocationRuns begun before new
    begun_runs partner =
        let failed : CallHasFailed (for_mark r mark) old new = fails_below (for_mark r mark) old new can same left in
        let i : Interrupted inner below old.pages new.pages [] = left_interrupted old new inner below rest.ready left in
        let P : Mark → Type 0 = λ m. RelocationGoesOn (for_mark r m) before new in
        let Q : Mark → Type 0 = λ m. (k : ℕ) → (kept && (suc k == copies_of r.shape m)) ≡ true
        → page_at (after r.shape m before) (block_of r.shape m * r.shape.block_pages + k) ≡ whole (take r.shape.page_bytes r.partner.items) in
        record {
          goes_on = subst P (sym mark_is) (failed.begins room);
          phase_fits = failed.top;
          partner = subst Q (sym mark_is) partner;
          turn = turn_kept new.pages i;
          room = record { fits = rest.room.fits; all = rest.room.all; kept_page = rest.room.kept_page; new_page = bytes_room; read_page = rest.room.read_page };
        }

    spares_of : (r' : InMemory) → SameCall begun r' → SameSpares r r'
    spares_of r' same = record { shape = same.shape; spares = same.spares; taken = same.taken; most = same.most; room = same.room }

    -- it was served, or the relocation stopped
    pub served_outer : (result : Result Unit NandFault) (r' : InMemory) (end : BoardState)
        → Went old new (λ flash _. MayShow r.shape r.spares before mark flash)
        → Rose old.stop_faults new.stop_faults → new.read_faults ≡ old.read_faults
        → ServingOutcome begun before new result r' end → OuterOutcome r mark old result r' end
    served_outer (Ok u) r' end went rose reads own =
        let P : Mark → Type 0 = λ m. PassesCalls (MayShow r.shape r.spares before m) new end in
        let D : Mark → Type 0 = λ m. through r.shape r.spares end.pages ≡ Some (after r.shape m before) in
        let passes = subst P mark_is own.0 in (
          (suc passes.0, passes_before (MayShow r.shape r.spares before mark) old new end passes.0 went passes.1),
          own.1,
          subst D mark_is own.2,
          spares_of r' own.3,
        )
    served_outer (Err e) r' end went rose reads own =
        let P : Mark → Type 0 = λ m. PassesCalls (MayShow r.shape r.spares before m) new end in
        let D : Mark → Type 0 = λ m. ServingStops (for_mark r m) new r'.taken end in
        let passes = subst P mark_is own.0 in (
          (suc passes.0, passes_before (MayShow r.shape r.spares before mark) old new end passes.0 went passes.1),
          stops_since (for_mark r mark) old new r'.taken end rose reads (subst D mark_is own.1),
          spares_of r' own.2,
        )

-- ---- erases

-- the inner call of an erase
module _ (r : InMemory) (old : BoardState) (rest : IsAtRest r old) (block : ℕ) (inside : block < r.shape.blocks) where
  abbrev at : ℕ
  at = place r.shape (relocation_of r).table block

  pub erase_call : OuterCall r (erase block) old.pages
  erase_call = record { within = inside; call = tt }

  pub erase_inside : at < r.shape.blocks + r.spares + 2
  erase_inside =
      let below = place-below r.shape (relocation_of r).table block inside in
      let used = rest.used in
      let taken = rest.taken in
      omega (arith, below, used, taken)

  pub erase_done : (u : Unit) (new : BoardState) → new ≡ after_erase old at → OuterOutcome r (erase block) old (Ok u) r new
  erase_done u new is =
      let pages : new.pages ≡ after (inner_shape r.shape r.spares) (erase at) old.pages =
      ap (λ s. s.pages) is ∙ ap (λ (s : Shape). after s (erase at) old.pages) (shape_is old (inner_shape r.shape r.spares) rest.ready) in
      let T : Flash → Type 0 = λ f. Interrupted (inner_shape r.shape r.spares) (erase at) old.pages f [] in
      let i = subst T (sym pages) (interrupted_done (inner_shape r.shape r.spares) (erase at) old.pages) in
      let ready : IsReady new (inner_shape r.shape r.spares) = record {
        shape_is = ap (λ s. s.shape) is ∙ rest.ready.shape_is;
        flash = IsFlash-interrupted (inner_shape r.shape r.spares) (erase at) old.pages new.pages []
            (full_erase (inner_shape r.shape r.spares) at) rest.ready.flash i;
      } in
      done_now r old rest (erase block) erase_call u new ready pages
      (went old new (λ flash _. MayShow r.shape r.spares (outer_of r old.pages) (erase block) flash)
      (erase_reached old (inner_shape r.shape r.spares) rest.ready
      (λ f. MayShow r.shape r.spares (outer_of r old.pages) (erase block) f) at (safe_cut r old rest (erase block) erase_call) new is))

  pub erase_went' : (new : BoardState) → EraseFailed old new at → Went old new (λ flash _. MayShow r.shape r.spares (outer_of r old.pages) (erase block) flash)
  erase_went' new failed =
      erase_went old (inner_shape r.shape r.spares) rest.ready
      (λ f. MayShow r.shape r.spares (outer_of r old.pages) (erase block) f) at (safe_cut r old rest (erase block) erase_call) new failed

  abbrev erase_begun : InMemory
  erase_begun = record r { call = Erase block; kept = false; phase = EraseSpare }

  pub erase_begins : (new : BoardState) → EraseFailed old new at → r.taken < r.spares → RelocationRuns erase_begun (outer_of r old.pages) new
  erase_begins new failed room =
      begun_runs r old rest (erase block) erase_call new (ap (λ s. s.shape) failed.rest) failed.left
      (Erase block) false r.bytes refl room rest.room.new_page (λ k e. cc)

  pub erase_served : (new : BoardState) → EraseFailed old new at → r.taken < r.spares → (result : Result Unit NandFault) (r' : InMemory) (end : BoardState)
      → RelocationServes erase_begun new result r' end → OuterOutcome r (erase block) old result r' end
  erase_served new failed room result r' end own =
      served_outer r old rest (erase block) erase_call new (ap (λ s. s.shape) failed.rest) failed.left (Erase block) false r.bytes refl room rest.room.new_page
      result r' end (erase_went' new failed) failed.stop (ap (λ s. s.read_faults) failed.rest) (own (outer_of r old.pages) (erase_begins new failed room))

  pub erase_none_left : (e : NandFault) (new : BoardState) → EraseFailed old new at → r.spares ≤ r.taken → OuterOutcome r (erase block) old (Err e) r new
  erase_none_left e new failed none = none_left r old rest (erase block) erase_call e new none failed.stop (erase_went' new failed)

  pub erase_left : (new : BoardState) → EraseFailed old new at → HasTable r new
  erase_left new failed =
      let same = ap (λ s. s.shape) failed.rest in
      left_table r old rest (erase block) erase_call new same failed.left
      (ready_again old new (inner_shape r.shape r.spares) (erase at) rest.ready same (full_erase (inner_shape r.shape r.spares) at)
      (left_interrupted old new (inner_shape r.shape r.spares) (erase at) rest.ready failed.left))

-- ---- pages

module _ (r : InMemory) (old : BoardState) (rest : IsAtRest r old) (page : ℕ) (inside : page < page_count r.shape) where
  abbrev n : ℕ
  n = r.shape.block_pages

  -- the block of the page, and the inner block that has it
  abbrev b : ℕ
  b = page / r.shape.block_pages

  abbrev here : ℕ
  here = place r.shape (relocation_of r).table (page / r.shape.block_pages)

  abbrev at_page : ℕ
  at_page = placed_page r.shape (relocation_of r).table page

  some_pages : 0 < n
  some_pages = let least = rest.shape_is.block_least in omega (arith, least)

  b_inside : b < r.shape.blocks
  b_inside = page_block r.shape (relocation_of r).table some_pages page inside

  used_spares : length (relocation_of r).table.serves ≤ r.spares
  used_spares = let used = rest.used in let taken = rest.taken in omega (arith, used, taken)

  pub page_inside : at_page < length old.pages
  page_inside =
      let size = rest.ready.flash.size in
      let own = placed_page-inside r.shape r.spares (relocation_of r).table some_pages used_spares page inside in
      omega (arith, size, own)

  -- the page of the outer flash
  pub outer_page : page_at (outer_of r old.pages) page ≡ page_at old.pages at_page
  outer_page = page-through r.shape (relocation_of r).table (page_at old.pages) page inside

  -- the pages of the inner block are those of the block
  row_page : (j : ℕ) → j < n → page_at old.pages (here * n + j) ≡ page_at (outer_of r old.pages) (b * n + j)
  row_page j less =
      let room : suc b * n ≤ r.shape.blocks * n = times_le (suc b) r.shape.blocks n b_inside in
      let there : b * n + j < page_count r.shape = omega (arith, room, mul_comm n r.shape.blocks, less) in
      let same : placed_page r.shape (relocation_of r).table (b * n + j) ≡ here * n + j =
      (λ i. place r.shape (relocation_of r).table (div-of b n j less i) * n + mod-of b n j less i) in
      sym (page-through r.shape (relocation_of r).table (page_at old.pages) (b * n + j) there ∙ ap (page_at old.pages) same)

  -- a program in order is in order in the inner block
  pub inner_order : InOrder r.shape (outer_of r old.pages) page → InOrder (inner_shape r.shape r.spares) old.pages at_page
  inner_order order =
      let o : ℕ = page % n in
      let less : o < n = mod-lt page {m = n} some_pages in
      let rest_is : at_page % n ≡ o = mod-of here n o less in
      let whole_page : b * n + o ≡ page = div-add-mod' page n in record {
        before = λ k from to e.
            let j : ℕ = k - here * n in
            let k_is : here * n + j ≡ k = omega (arith, from, rest_is) in
            let below : j < o = omega (arith, from, to, rest_is) in
            order.before (b * n + j) (omega (arith, whole_page)) (omega (arith, whole_page, below))
            (sym (row_page j (omega (arith, below, less))) ∙ ap (page_at old.pages) k_is ∙ e);
        behind = λ k from to.
            let j : ℕ = k - here * n in
            let k_is : here * n + j ≡ k = omega (arith, from) in
            let past : o ≤ j = omega (arith, from) in
            let inside_row : j < n = omega (arith, from, to, rest_is) in
            ap (page_at old.pages) (sym k_is) ∙ row_page j inside_row
            ∙ order.behind (b * n + j) (omega (arith, whole_page, past)) (omega (arith, whole_page, inside_row));
      }

  module _ (bytes : List ℕ) (full : IsPage r.shape bytes) (order : InOrder r.shape (outer_of r old.pages) page) where
    abbrev shape_in : Shape
    shape_in = inner_shape r.shape r.spares

    abbrev Q : Flash → Type 0
    Q f = MayShow r.shape r.spares (outer_of r old.pages) (program page bytes) f

    pub program_call : OuterCall r (program page bytes) old.pages
    program_call = record { within = inside; call = (order, full) }

    pub program_done : (u : Unit) (new : BoardState) → new ≡ after_program old at_page bytes → OuterOutcome r (program page bytes) old (Ok u) r new
    program_done u new is =
        let pages : new.pages ≡ after shape_in (program at_page bytes) old.pages =
        ap (λ s. s.pages) is ∙ ap (λ (s : Shape). after s (program at_page bytes) old.pages) (shape_is old shape_in rest.ready) in
        let T : Flash → Type 0 = λ f. Interrupted shape_in (program at_page bytes) old.pages f [] in
        let i = subst T (sym pages) (interrupted_done shape_in (program at_page bytes) old.pages) in
        let ready : IsReady new shape_in = record {
          shape_is = ap (λ s. s.shape) is ∙ rest.ready.shape_is;
          flash = IsFlash-interrupted shape_in (program at_page bytes) old.pages new.pages [] (full_program shape_in at_page bytes full) rest.ready.flash i;
        } in
        done_now r old rest (program page bytes) program_call u new ready pages
        (went old new (λ flash _. Q flash)
        (program_reached old shape_in rest.ready Q at_page bytes (safe_cut r old rest (program page bytes) program_call) new is))

    program_went' : (new : BoardState) → ProgramFailed old new at_page bytes → Went old new (λ flash _. Q flash)
    program_went' new failed = program_went old shape_in rest.ready Q at_page bytes (safe_cut r old rest (program page bytes) program_call) new failed

    pub program_none_left : (e : NandFault) (new : BoardState) → ProgramFailed old new at_page bytes → r.spares ≤ r.taken
        → OuterOutcome r (program page bytes) old (Err e) r new
    program_none_left e new failed none = none_left r old rest (program page bytes) program_call e new none failed.stop (program_went' new failed)

    pub program_left : (new : BoardState) → ProgramFailed old new at_page bytes → HasTable r new
    program_left new failed =
        let same = ap (λ s. s.shape) failed.rest in
        left_table r old rest (program page bytes) program_call new same failed.left
        (ready_again old new shape_in (program at_page bytes) rest.ready same (full_program shape_in at_page bytes full)
        (left_interrupted old new shape_in (program at_page bytes) rest.ready failed.left))

    module _ (new : BoardState) (failed : ProgramFailed old new at_page bytes) (room : r.taken < r.spares) (buffer : Vec ℕ Global)
        (front : take r.shape.page_bytes buffer.items ≡ bytes) (large : MOST_PAGE_BYTES ≤ length buffer.items) where
      abbrev program_begun : InMemory
      program_begun = record r { call = Program page; bytes = buffer; phase = EraseSpare }

      pub program_begins : HasPartner r page (outer_of r old.pages) → RelocationRuns program_begun (outer_of r old.pages) new
      program_begins partner =
          begun_runs r old rest (program page bytes) program_call new (ap (λ s. s.shape) failed.rest) failed.left (Program page) r.kept buffer
          (ap (program page) front) room large (λ k is. by k (both_true r.kept (suc k == page % n) is))
        where
          by : (k : ℕ) → (r.kept ≡ true) × ((suc k == page % n) ≡ true)
              → page_at (after r.shape (program page bytes) (outer_of r old.pages)) (page / n * n + k) ≡ whole (take r.shape.page_bytes r.partner.items)
          by k is =
              let test = is.1 in
              let last : suc k ≡ page % n = grind (arith, nat_tests) in
              let whole_page : b * n + page % n ≡ page = div-add-mod' page n in
              let own = partner is.0 in
              let k_is : b * n + k ≡ page - 1 = omega (arith, whole_page, last) in
              page_at-slice_set (outer_of r old.pages) page (page / n * n + k) (whole bytes) (λ e. omega (arith, e, whole_page, last))
              ∙ ap (page_at (outer_of r old.pages)) k_is ∙ own.1

      pub program_served : HasPartner r page (outer_of r old.pages) → (result : Result Unit NandFault) (r' : InMemory) (end : BoardState)
          → RelocationServes program_begun new result r' end → OuterOutcome r (program page bytes) old result r' end
      program_served partner result r' end own =
          served_outer r old rest (program page bytes) program_call new (ap (λ s. s.shape) failed.rest) failed.left (Program page) r.kept buffer
          (ap (program page) front) room large result r' end (program_went' new failed) failed.stop (ap (λ s. s.read_faults) failed.rest)
          (own (outer_of r old.pages) (program_begins partner))

-- ---- the first page of a pair

module _ (r : InMemory) (old : BoardState) (rest : IsAtRest r old) where
  -- over the same pages it rests still
  pub rests_again : (kept : Bool) (partner : Vec ℕ Global) (new : BoardState)
      → MOST_PAGE_BYTES ≤ length partner.items → new.shape ≡ old.shape → new.pages ≡ old.pages
      → IsAtRest (record r { kept = kept; partner = partner }) new
  rests_again kept partner new large shape pages = record {
    ready = ready_same old new (inner_shape r.shape r.spares) rest.ready shape pages;
    shape_is = rest.shape_is;
    few = rest.few;
    grammar = rest.grammar;
    used = rest.used;
    taken = rest.taken;
    top = subst (IsTop (relocation_of r)) (sym pages) rest.top;
    turn = subst (HasTurn r) (sym pages) rest.turn;
    room = record { fits = rest.room.fits; all = rest.room.all; kept_page = large; new_page = rest.room.new_page; read_page = rest.room.read_page };
  }

  false_kept : {X : Type 0} → false ≡ true → X
  false_kept e = absurd cc

  -- nothing was read
  pub kept_none : (page : ℕ) (u : Unit) → PartnerOutcome r page old (Ok u) (record r { kept = false }) old
  kept_none page u = record {
    rests = rests_again false r.partner old rest.room.kept_page refl refl;
    partner = λ e. false_kept e;
    others = refl;
    board = inl refl;
  }

  -- a page was read that is not Whole
  pub kept_other : (page : ℕ) (u : Unit) (partner : Vec ℕ Global) (new : BoardState) → MOST_PAGE_BYTES ≤ length partner.items → new ≡ after_read old
      → PartnerOutcome r page old (Ok u) (record r { kept = false; partner = partner }) new
  kept_other page u partner new large is = record {
    rests = rests_again false partner new large (ap (λ s. s.shape) is) (ap (λ s. s.pages) is);
    partner = λ e. false_kept e;
    others = refl;
    board = inr is;
  }

  module _ (page : ℕ) (inside : page < page_count r.shape) (odd : page % r.shape.block_pages % 2 ≢ 0) where
    pub second_page : 1 ≤ page % r.shape.block_pages
    second_page = by (page % r.shape.block_pages) odd
      where
        by : (o : ℕ) → o % 2 ≢ 0 → 1 ≤ o
        by zero other = absurd (other refl)
        by (suc o) other = omega arith

    pub page_some : 1 ≤ page
    page_some =
        let whole_page : page / r.shape.block_pages * r.shape.block_pages + page % r.shape.block_pages ≡ page = div-add-mod' page r.shape.block_pages in
        let some = second_page in
        omega (arith, whole_page, some)

    pub kept_whole : (u : Unit) (partner : Vec ℕ Global) (new : BoardState) (bytes : List ℕ) → MOST_PAGE_BYTES ≤ length partner.items → new ≡ after_read old
        → page_at (outer_of r old.pages) (page - 1) ≡ whole bytes → take r.shape.page_bytes partner.items ≡ bytes
        → PartnerOutcome r page old (Ok u) (record r { kept = true; partner = partner }) new
    kept_whole u partner new bytes large is found taken = record {
      rests = rests_again true partner new large (ap (λ s. s.shape) is) (ap (λ s. s.pages) is);
      partner = λ e. (second_page, found ∙ ap (λ (x : List ℕ). whole x) (sym taken));
      others = refl;
      board = inr is;
    }

-- ---- the search for the newest table

grammar_of : (shape : Shape) (spares : ℕ) (table : SpareTable) (p : Page) → table_in shape spares p ≡ Some table → is_table shape spares table ≡ true
grammar_of shape spares table (whole bytes) e = (page_spells shape spares bytes table e).is
grammar_of shape spares table erased e = let none : None ≡ Some table = e in absurd cc
grammar_of shape spares table torn e = let none : None ≡ Some table = e in absurd cc

module _ (r : InMemory) (old : BoardState) (may : CanFind r old) (top : Top) (serves : List ℕ) (copy : Vec ℕ Global) where
  abbrev table : SpareTable
  table = table_of top.number top.used serves

  pub found_rests : newest_table r.shape r.spares (page_at old.pages) ≡ table_found (Some top) serves
      → UsesAtMost r.spares (Some top) → length serves ≡ MOST_SPARES
      → MOST_PAGE_BYTES ≤ length copy.items → (new : BoardState) → new ≡ after_reads (2 * r.shape.block_pages) old
      → IsAtRest (found_top (record r { serves = serves; copy = copy }) top) new × (new ≡ after_reads (2 * r.shape.block_pages) old)
      × SameSpares r (found_top (record r { serves = serves; copy = copy }) top)
  found_rests found few all large new is =
      let newest : IsNewest r.shape r.spares (page_at old.pages) top.page table = found-newest r.shape r.spares (page_at old.pages) top.page table found in
      let pages : new.pages ≡ old.pages = ap (λ s. s.pages) is in
      let most = may.few in
      let taken = may.taken in
      let used : length (take top.used serves) ≡ top.used = length-take-le top.used serves (omega (arith, few, most, all)) in
      let T : Flash → Type 0 = λ f. IsNewest r.shape r.spares (page_at f) top.page table in
      let fits : HasPageBuffers (found_top (record r { serves = serves; copy = copy }) top) =
      record { fits = omega (arith, few, most); all = all; kept_page = may.room.kept_page; new_page = may.room.new_page; read_page = large } in (
        record {
          ready = ready_same old new (inner_shape r.shape r.spares) may.ready (ap (λ s. s.shape) is) pages;
          shape_is = may.shape_is;
          few = may.few;
          grammar = grammar_of r.shape r.spares table (page_at old.pages top.page) newest.is;
          used = omega (arith, used);
          taken = omega (arith, few, taken);
          top = subst T (sym pages) newest;
          turn = λ pair e. none_pair pair e;
          room = fits;
        },
        is,
        record { shape = refl; spares = refl; taken = omega arith; most = omega (arith, few, taken); room = fits },
      )

  -- no spare is taken that was not
  pub found_taken : newest_table r.shape r.spares (page_at old.pages) ≡ table_found (Some top) serves
      → UsesAtMost r.spares (Some top) → length serves ≡ MOST_SPARES → UsesOnlyTaken r old.pages → max r.taken top.used ≡ r.taken
  found_taken found few all uses =
      let newest : IsNewest r.shape r.spares (page_at old.pages) top.page table = found-newest r.shape r.spares (page_at old.pages) top.page table found in
      let most = may.few in
      let used : length (take top.used serves) ≡ top.used = length-take-le top.used serves (omega (arith, few, most, all)) in
      let own : length (take top.used serves) ≤ r.taken = uses top.page table newest in
      omega (arith, used, own)

-- ---- a program with the first page of its pair in memory

-- the same causes, seen from before a read
stops_same : (q : Relocation) (old mid : BoardState) (taken : ℕ) (new : BoardState) → mid.stop_faults ≡ old.stop_faults → mid.read_faults ≡ old.read_faults
    → ServingStops q mid taken new → ServingStops q old taken new
stops_same q old mid taken new stops reads (read_failed r) = read_failed (let P : ℕ → Type 0 = λ x. Rose x new.read_faults in subst P reads r)
stops_same q old mid taken new stops reads (table_failed r b is at) = table_failed (let P : ℕ → Type 0 = λ x. Rose x new.stop_faults in subst P stops r) b is at
stops_same q old mid taken new stops reads (spares_failed r none) = spares_failed (let P : ℕ → Type 0 = λ x. Rose x new.stop_faults in subst P stops r) none
stops_same q old mid taken new stops reads (page_is_torn k less found) = page_is_torn k less found

-- the board after at most one read
pub record OnlyRead (old mid : BoardState) : Type 0 where
  pub shape : mid.shape ≡ old.shape
  pub pages : mid.pages ≡ old.pages
  pub trail : mid.trail ≡ old.trail
  pub posted : mid.posted ≡ old.posted
  pub stops : mid.stop_faults ≡ old.stop_faults

only_read : (old mid : BoardState) → (mid ≡ old) ⊎ (mid ≡ after_read old) → OnlyRead old mid × (mid.read_faults ≡ old.read_faults)
only_read old mid (inl is) =
    let T : BoardState → Type 0 = λ s. OnlyRead old s × (s.read_faults ≡ old.read_faults) in
    subst T (sym is) (record { shape = refl; pages = refl; trail = refl; posted = refl; stops = refl }, refl)
only_read old mid (inr is) =
    let T : BoardState → Type 0 = λ s. OnlyRead old s × (s.read_faults ≡ old.read_faults) in
    subst T (sym is) (record { shape = refl; pages = refl; trail = refl; posted = refl; stops = refl }, refl)

module _ (r : InMemory) (old : BoardState) (rest : IsAtRest r old) (mark : Mark) where
  abbrev Safe : Flash → Type 0
  Safe f = MayShow r.shape r.spares (outer_of r old.pages) mark f

  read_went : (mid : BoardState) → OnlyRead old mid → Went old mid (λ flash _. Safe flash)
  read_went mid is =
      let here : Safe old.pages =
      may_show r.shape r.spares (outer_of r old.pages) old.pages mark r.top
      (relocation_of r).table rest.top (interrupted_none r.shape mark (outer_of r old.pages)) in
      ([], Went-reached [] old mid (λ flash _. Safe flash) (Reached-start old mid (λ flash _. Safe flash) is.shape is.pages is.trail is.posted here))

  pub read_stopped : (e : NandFault) (at : ℕ) (r' : InMemory) (new : BoardState)
      → ReadFailed old new at → SameSpares r r' → OuterOutcome r mark old (Err e) r' new
  read_stopped e at r' new failed same =
      let is : OnlyRead old new = subst (OnlyRead old) (sym failed.rest) (record { shape = refl; pages = refl; trail = refl; posted = refl; stops = refl }) in
      ((1, (old, refl, read_went new is)), read_failed failed.read, same)

  module _ (kept : Bool) (partner : Vec ℕ Global) (mid : BoardState) (board : (mid ≡ old) ⊎ (mid ≡ after_read old)) where
    abbrev with_partner : InMemory
    with_partner = record r { kept = kept; partner = partner }

    pub after_partner : (result : Result Unit NandFault) (r' : InMemory) (new : BoardState)
        → OuterOutcome with_partner mark mid result r' new → OuterOutcome r mark old result r' new
    after_partner (Ok u) r' new own =
        let is = only_read old mid board in
        let P : Flash → Type 0 = λ f. PassesCalls (MayShow r.shape r.spares (outer_of r f) mark) mid new in
        let D : Flash → Type 0 = λ f. through r.shape r.spares new.pages ≡ Some (after r.shape mark (outer_of r f)) in
        let passes = subst P is.0.pages own.0 in (
          (suc passes.0, passes_before Safe old mid new passes.0 (read_went mid is.0) passes.1),
          own.1,
          subst D is.0.pages own.2,
          record { shape = own.3.shape; spares = own.3.spares; taken = own.3.taken; most = own.3.most; room = own.3.room },
        )
    after_partner (Err e) r' new own =
        let is = only_read old mid board in
        let P : Flash → Type 0 = λ f. PassesCalls (MayShow r.shape r.spares (outer_of r f) mark) mid new in
        let passes = subst P is.0.pages own.0 in (
          (suc passes.0, passes_before Safe old mid new passes.0 (read_went mid is.0) passes.1),
          stops_same (for_mark r mark) old mid r'.taken new is.0.stops is.1 own.1,
          record { shape = own.2.shape; spares = own.2.spares; taken = own.2.taken; most = own.2.most; room = own.2.room },
        )

-- after the first page of the pair was read the program is in order, and the page is in memory
module _ (r : InMemory) (page : ℕ) (old : BoardState) (r1 : InMemory) (mid : BoardState) (kept : PartnerKept r page old r1 mid) where
  pub same_shape : r1.shape ≡ r.shape
  same_shape = ap (λ (x : InMemory). x.shape) kept.others

  pub kept_outcome : IsAtRest r old → (mark : Mark) (result : Result Unit NandFault) (r' : InMemory) (new : BoardState)
      → OuterOutcome r1 mark mid result r' new → OuterOutcome r mark old result r' new
  kept_outcome rest mark result r' new own =
      let T : InMemory → Type 0 = λ x. OuterOutcome x mark mid result r' new in
      after_partner r old rest mark r1.kept r1.partner mid kept.board result r' new (subst T kept.others own)

  -- no spare was taken
  pub kept_counted : SparesCounted 0 r old r1 mid × (mid.read_faults ≡ old.read_faults) × (mid.stop_faults ≡ old.stop_faults)
  kept_counted =
      let is = only_read old mid kept.board in
      let rest : OnlyFlash old mid = elim kept.board [ inl same ↦ only_same old mid same | inr read ↦ only_after_read old mid read ] in
      let taken : r1.taken ≡ r.taken = ap (λ (x : InMemory). x.taken) kept.others in
      (counted_done r r1 old mid rest 0 is.0.stops (omega (arith, taken)), is.1, is.0.stops)

-- the read of the first page of the pair failed
pub partner_failed : (r : InMemory) (old : BoardState) → IsAtRest r old → (at : ℕ) (r' : InMemory) (new : BoardState) → ReadFailed old new at
    → r' ≡ record r { kept = r'.kept; partner = r'.partner } → OuterFailed r old r' new
partner_failed r old rest at r' new failed others =
    let again : InMemory = record r { kept = r'.kept; partner = r'.partner } in
    let T : InMemory → Type 0 = λ x. HasTable x new in
    let taken : r'.taken ≡ r.taken = ap (λ (x : InMemory). x.taken) others in
    let pages : new.pages ≡ old.pages = ap (λ s. s.pages) failed.rest in
    let ready = ready_same old new (inner_shape r.shape r.spares) rest.ready (ap (λ s. s.shape) failed.rest) pages in
    let top : IsTop (relocation_of r) new.pages = subst (IsTop (relocation_of r)) (sym pages) rest.top in
    record {
      counts = counted_done r r' old new (only_read_failed old new at failed) 0 (ap (λ s. s.stop_faults) failed.rest) (omega (arith, taken));
      table = subst T (sym others) (has_table again new r.top (relocation_of r).table ready top rest.used);
      faults = inl failed.read;
    }

-- the search keeps the shape and the spares, whatever it finds
pub find_same : (r : InMemory) (old : BoardState) (result : Result Bool NandFault) (r' : InMemory) (new : BoardState) → FindOutcome r old result r' new → SameSpares r r'
find_same r old (Ok true) r' new own = own.2
find_same r old (Ok false) r' new own = own.2
find_same r old (Err e) r' new own = own.1
