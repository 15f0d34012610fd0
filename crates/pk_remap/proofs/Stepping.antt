-- The steps of a relocation, call by call.
use Rattle.std.proofs.Common.{◌≡◌, ◌≢◌, ◌⊎◌, inl, inr, ℕ, suc, ◌+◌, ◌-◌, ◌*◌, ◌/◌, ◌%◌, ◌<◌, ◌≤◌, Bool, true, false, List, [], length, refl, sym, ap, subst, ◌∙◌, arith, Some, zero-add}
use Rattle.std.{specs.Prelude.nat_lt, proofs.Math.Nat.mod-lt, proofs.Math.Nat.mul_comm, proofs.lemmas.Bool.Decides.nat_tests, proofs.lemmas.Nat.div-add-mod'}
use Rattle.pk_base.{specs.Shape.Shape, specs.Shape.page_count, specs.Mark.Mark, specs.Mark.program, specs.Mark.erase, specs.Mark.post, specs.Mark.after}
use Rattle.pk_base.specs.Page.{Page, Flash, page_at, erased, whole, torn, IsPage, IsFlash}
use Rattle.pk_nand.{specs.BoardState.BoardState, specs.BoardState.shape_of, specs.Cut.Interrupted, specs.Cut.MayLeave, specs.Cut.touched_block, proofs.Writing.shape_is}
use Rattle.pk_nand.{specs.Calls.IsReady, specs.Calls.after_program, specs.Calls.ProgramFailed, specs.Calls.LeftBy, specs.Calls.Rose, specs.Operations.after_erase, specs.Operations.EraseFailed}
use Rattle.pk_nand.proofs.Leaving.{IsFlash-interrupted, IsFlash-after, full_program, full_erase, page_at-slice_set, page_at-slice_set_same, page_at-erased_from, page-erased_in}
use Rattle.pk_remap.{specs.Table.table_bytes, specs.Places.inner_shape, specs.Places.placed_page, specs.Places.through_by, specs.Through.MayShow, specs.Through.IsMarkWithin, proofs.Finding.pair-first}
use Rattle.pk_remap.proofs.Finding.{by_equal}
use Rattle.pk_remap.specs.Relocating.{Relocation, block_of, block, copies_of, fill_of, spare_block, spare_page, next_table, IsSpareFilled, IsSpareFull, IsCall, IsRelocating, IsTop, IsTablePair}
use Rattle.pk_remap.specs.Stepping.{with_next_spare, ReachedSafely, WentSafely, RelocationGoesOn, SpareErased, PageWritten, SpareFailed, TableErased, FirstWritten, SecondWritten, IsOtherTable}
use Rattle.pk_remap.specs.Stepping.{IsSource, ErasesSpare, FailsToEraseSpare, ReadsSource, WritesInOrder, WritesSpare, FailsToWriteSpare, Fills, ErasesTable, FailsToEraseTable, WritesFirst}
use Rattle.pk_remap.specs.Stepping.{FailsToWriteFirst, WritesSecond, FailsToWriteSecond}
use Rattle.pk_remap.proofs.Cutting.{some, spare_before_tables, spare_top, spare_tables, spare_above, spare_cut, turn_top, turn_above, turn_cut, next_again, pair_table, OneOfTables, exchange}
use Rattle.pk_remap.proofs.Cutting.{spare_page_before, pair_full, pair_above, pair_beside, pair_cut}
use Rattle.pk_remap.proofs.Calls.{program_reached, program_went, erase_reached, erase_went, left_interrupted, done_interrupted}
use Rattle.pk_remap.{specs.Newest.table_in, specs.Newest.IsTablePage, specs.Newest.IsNewest, specs.Newest.IsNewestBeside, proofs.Placing.page-through, proofs.Placing.div-of, proofs.Placing.mod-of}
use Rattle.pk_remap.{proofs.Lifting.times_le, proofs.Lifting.two_more, proofs.Standing.shows, proofs.Standing.NoneOr}

-- ---- what is unchanged

-- the relocation goes on if the inner flash is ready and the outer flash is what the call may leave
serving_again : (r : Relocation) (before flash new : Flash) → IsRelocating r before flash
    → IsFlash (inner_shape r.shape r.spares) new → Interrupted r.shape r.mark before (through_by r.shape r.table (page_at new)) []
    → IsRelocating r before new
serving_again r before flash new serving full above = record {
  shape_is = serving.shape_is;
  few = serving.few;
  whole_above = serving.whole_above;
  within = serving.within;
  call = serving.call;
  grammar = serving.grammar;
  used = serving.used;
  left = serving.left;
  whole_below = full;
  above = above;
}

serving_next : (r : Relocation) (before flash : Flash) → IsRelocating r before flash → r.taken + 1 < r.spares → IsRelocating (with_next_spare r) before flash
serving_next r before flash serving room = record {
  shape_is = serving.shape_is;
  few = serving.few;
  whole_above = serving.whole_above;
  within = serving.within;
  call = serving.call;
  grammar = serving.grammar;
  used = let used = serving.used in omega (arith, used);
  left = room;
  whole_below = serving.whole_below;
  above = serving.above;
}

-- a board is ready after a call, too
pub ready_again : (old new : BoardState) (shape : Shape) (mark : Mark) → IsReady old shape
    → new.shape ≡ old.shape → ((at : ℕ) (bytes : List ℕ) → mark ≡ program at bytes → IsPage shape bytes)
    → Interrupted shape mark old.pages new.pages [] → IsReady new shape
ready_again old new shape mark ready same full i = record {
  shape_is = same ∙ ready.shape_is;
  flash = IsFlash-interrupted shape mark old.pages new.pages [] full ready.flash i;
}

-- and after reads alone
pub ready_same : (old new : BoardState) (shape : Shape) → IsReady old shape → new.shape ≡ old.shape → new.pages ≡ old.pages → IsReady new shape
ready_same old new shape ready same pages = record { shape_is = same ∙ ready.shape_is; flash = subst (IsFlash shape) (sym pages) ready.flash }

-- the pages of the spare exist
spare_inside : (r : Relocation) (before flash : Flash) → IsRelocating r before flash → (i : ℕ) → i < r.shape.block_pages → spare_page r i < length flash
spare_inside r before flash serving i less =
    let own = spare_page_before r before flash serving i less in
    let size = serving.whole_below.size in
    let room = times_le (r.shape.blocks + r.spares) (r.shape.blocks + r.spares + 2) r.shape.block_pages (omega arith) in
    omega (arith, own, size, mul_comm r.shape.block_pages (r.shape.blocks + r.spares + 2), room)

-- and so does a table page
pub table_inside : (r : Relocation) (before flash : Flash) → IsRelocating r before flash → (k : ℕ) → IsTablePage r.shape r.spares k → k < length flash
table_inside r before flash serving k there =
    let size = serving.whole_below.size in
    omega (arith, size, there.to, mul_comm r.shape.block_pages (r.shape.blocks + r.spares + 2), two_more (r.shape.blocks + r.spares) r.shape.block_pages)

module _ (r : Relocation) (before : Flash) (old : BoardState) (on : RelocationGoesOn r before old) where
  abbrev shape : Shape
  shape = r.shape

  abbrev n : ℕ
  n = r.shape.block_pages

  abbrev inner : Shape
  inner = inner_shape r.shape r.spares

  abbrev serving : IsRelocating r before old.pages
  serving = on.serving

  pub n_some : 0 < n
  n_some = some r before old.pages serving

  spare_div : (i : ℕ) → i < n → spare_page r i / n ≡ spare_block r
  spare_div i less = div-of (spare_block r) n i less

  -- ---- the erase of the spare

  module _ (top : IsTop r old.pages) where
    erase_cut : (cut : Flash) → Interrupted inner (erase (spare_block r)) old.pages cut [] → MayShow shape r.spares before r.mark cut
    erase_cut cut i = spare_cut r before old.pages serving (erase (spare_block r)) cut [] refl i top

    pub spare_erased : (new : BoardState) → new ≡ after_erase old (spare_block r) → SpareErased r before old new
    spare_erased new is =
        let pages : new.pages ≡ after (shape_of old) (erase (spare_block r)) old.pages = ap (λ s. s.pages) is in
        let i : Interrupted inner (erase (spare_block r)) old.pages new.pages [] = done_interrupted old inner
        (erase (spare_block r)) new.pages on.ready pages in
        let ready : IsReady new inner = ready_again old new inner
        (erase (spare_block r)) on.ready (ap (λ s. s.shape) is) (full_erase inner (spare_block r)) i in
        let same : after (shape_of old) (erase (spare_block r)) old.pages ≡ after inner (erase (spare_block r)) old.pages = ap
        (λ (s : Shape). after s (erase (spare_block r)) old.pages) (shape_is old inner on.ready) in
        record {
          cuts = erase_reached old inner on.ready (λ cut. MayShow shape r.spares before r.mark cut) (spare_block r) erase_cut new is;
          goes_on = record {
            ready = ready;
            serving = serving_again r before old.pages new.pages serving ready.flash
                (spare_above r before old.pages serving (erase (spare_block r)) new.pages [] refl i);
          };
          top = spare_top r before old.pages serving (erase (spare_block r)) new.pages [] refl i top;
          filled = record {
            copied = λ k none. absurd (omega (arith, none));
            rest = λ k from less. ap (λ (f : Flash). page_at f (spare_page r k)) (pages ∙ same)
                ∙ page-erased_in inner (spare_block r) 0 old.pages (spare_page r k)
                (spare_inside r before old.pages serving k less) (ap (λ (x : ℕ). x / n) (zero-add (spare_page r k)) ∙ spare_div k less);
          };
          tables = spare_tables r before old.pages serving (erase (spare_block r)) new.pages [] refl i;
        }

    -- what a failed call on the spare leaves
    in_spare_failed : (mark : Mark) (new : BoardState) → touched_block inner mark ≡ Some (spare_block r)
        → ((at : ℕ) (bytes : List ℕ) → mark ≡ program at bytes → IsPage inner bytes) → new.shape ≡ old.shape
        → LeftBy mark old new → WentSafely r before old new → new.read_faults ≡ old.read_faults
        → Rose old.stop_faults new.stop_faults → SpareFailed r before old new
    in_spare_failed mark new touched full same left cuts reads stop =
        let i : Interrupted inner mark old.pages new.pages [] = left_interrupted old new inner mark on.ready left in
        let ready : IsReady new inner = ready_again old new inner mark on.ready same full i in
        record {
          cuts = cuts;
          ready = ready;
          goes_on = λ room. record {
            ready = ready;
            serving = serving_next r before new.pages
                (serving_again r before old.pages new.pages serving ready.flash (spare_above r before old.pages serving mark new.pages [] touched i)) room;
          };
          top = spare_top r before old.pages serving mark new.pages [] touched i top;
          tables = spare_tables r before old.pages serving mark new.pages [] touched i;
          reads = reads;
          stop = stop;
        }

    pub erase_failed : (new : BoardState) → EraseFailed old new (spare_block r) → SpareFailed r before old new
    erase_failed new failed =
        in_spare_failed (erase (spare_block r)) new refl (full_erase inner (spare_block r)) (ap (λ s. s.shape) failed.rest) failed.left
        (erase_went old inner on.ready (λ cut. MayShow shape r.spares before r.mark cut) (spare_block r) erase_cut new failed)
        (ap (λ s. s.read_faults) failed.rest) failed.stop

    -- ---- a program of the spare

    module _ (k : ℕ) (less : k < n) (bytes : List ℕ) (source : IsSource r before k bytes) where
      in_block : touched_block inner (program (spare_page r k) bytes) ≡ Some (spare_block r)
      in_block = ap (λ (b : ℕ). Some b) (spare_div k less)

      -- the bytes fill a page
      full : IsPage shape bytes
      full =
          let whole_after : IsFlash shape (after shape r.mark before) = IsFlash-after shape r.mark before (full_mark r.mark serving.call) serving.whole_above in
          whole_after.full (block r * n + k) bytes source
        where
          full_mark : (mark : Mark) → IsCall shape mark before → (at : ℕ) (bs : List ℕ) → mark ≡ program at bs → IsPage shape bs
          full_mark (program at' bytes') call = full_program shape at' bytes' call.1
          full_mark (erase b) call = full_erase shape b
          full_mark (post bs) call = absurd call

      write_cut : (cut : Flash) → Interrupted inner (program (spare_page r k) bytes) old.pages cut [] → MayShow shape r.spares before r.mark cut
      write_cut cut i = spare_cut r before old.pages serving (program (spare_page r k) bytes) cut [] in_block i top

      pub page_written : (new : BoardState) → IsSpareFilled r before old.pages k
          → new ≡ after_program old (spare_page r k) bytes → PageWritten r before k old new
      page_written new filled is =
          let pages : new.pages ≡ after (shape_of old) (program (spare_page r k) bytes) old.pages = ap (λ s. s.pages) is in
          let i : Interrupted inner (program (spare_page r k) bytes) old.pages new.pages [] = done_interrupted old inner
          (program (spare_page r k) bytes) new.pages on.ready pages in
          let ready : IsReady new inner = ready_again old new inner (program (spare_page r k) bytes) on.ready
          (ap (λ s. s.shape) is) (full_program inner (spare_page r k) bytes full) i in
          record {
            cuts = program_reached old inner on.ready (λ cut. MayShow shape r.spares before r.mark cut) (spare_page r k) bytes write_cut new is;
            goes_on = record {
              ready = ready;
              serving = serving_again r before old.pages new.pages serving ready.flash
                  (spare_above r before old.pages serving (program (spare_page r k) bytes) new.pages [] in_block i);
            };
            top = spare_top r before old.pages serving (program (spare_page r k) bytes) new.pages [] in_block i top;
            filled = record {
              copied = λ j below. ap (λ (f : Flash). page_at f (spare_page r j)) pages ∙ copied j below;
              rest = λ j from inside. ap (λ (f : Flash). page_at f (spare_page r j)) pages
                  ∙ page_at-slice_set old.pages (spare_page r k) (spare_page r j) (whole bytes) (λ e. omega (arith, e, from))
                  ∙ filled.rest j (omega (arith, from)) inside;
            };
            tables = spare_tables r before old.pages serving (program (spare_page r k) bytes) new.pages [] in_block i;
          }
        where
          copied : (j : ℕ) → j < suc k → page_at (after (shape_of old) (program (spare_page r k) bytes) old.pages) (spare_page r j)
              ≡ page_at (after shape r.mark before) (block r * n + j)
          copied j below =
              let P : ℕ → Type 0 = λ x. page_at (after (shape_of old) (program (spare_page r k) bytes) old.pages)
              (spare_page r x) ≡ page_at (after shape r.mark before) (block r * n + x) in
              by_equal j k (P j)
              (λ same. subst P (sym same) (page_at-slice_set_same old.pages (spare_page r k) (whole bytes) (spare_inside r before old.pages serving k less) ∙ sym source))
              (λ other. page_at-slice_set old.pages (spare_page r k) (spare_page r j) (whole bytes) (λ e. other (omega (arith, e)))
              ∙ filled.copied j (omega (arith, below, other)))

      pub write_failed : (new : BoardState) → ProgramFailed old new (spare_page r k) bytes → SpareFailed r before old new
      write_failed new failed =
          in_spare_failed (program (spare_page r k) bytes) new in_block
          (full_program inner (spare_page r k) bytes full) (ap (λ s. s.shape) failed.rest) failed.left
          (program_went old inner on.ready (λ cut. MayShow shape r.spares before r.mark cut) (spare_page r k) bytes write_cut new failed)
          (ap (λ s. s.read_faults) failed.rest) failed.stop

  -- ---- the erase of the other table block

  module _ (top : IsTop r old.pages) (other : ℕ) (is_other : IsOtherTable r other) where
    turn_erase_cut : (cut : Flash) → Interrupted inner (erase other) old.pages cut [] → MayShow shape r.spares before r.mark cut
    turn_erase_cut cut i = turn_cut r before old.pages serving other cut [] is_other.from is_other.beside i top

    -- the newest table is the former one
    pub table_erase_top : (new : BoardState) → EraseFailed old new other → IsReady new inner × IsTop r new.pages
    table_erase_top new failed =
        let i : Interrupted inner (erase other) old.pages new.pages [] = left_interrupted old new inner (erase other) on.ready failed.left in (
          ready_again old new inner (erase other) on.ready (ap (λ s. s.shape) failed.rest) (full_erase inner other) i,
          turn_top r before old.pages serving other new.pages [] is_other.from is_other.beside i top,
        )

    pub table_erase_failed : (new : BoardState) → EraseFailed old new other → WentSafely r before old new
    table_erase_failed new failed = erase_went old inner on.ready (λ cut. MayShow shape r.spares before r.mark cut) other turn_erase_cut new failed

    other_page : (k : ℕ) → k < n → (other * n + k) / n ≡ other
    other_page k less = div-of other n k less

    other_inside : (k : ℕ) → k < n → other * n + k < length old.pages
    other_inside k less =
        let size = serving.whole_below.size in
        let to = is_other.to in
        let room : suc other * n ≤ (shape.blocks + r.spares + 2) * n = times_le (suc other) (shape.blocks + r.spares + 2) n to in
        omega (arith, size, mul_comm n (shape.blocks + r.spares + 2), room, less)

    other_is_table : (k : ℕ) → k < n → IsTablePage shape r.spares (other * n + k)
    other_is_table k less =
        let from : (shape.blocks + r.spares) * n ≤ other * n = times_le (shape.blocks + r.spares) other n is_other.from in
        let to : suc other * n ≤ (shape.blocks + r.spares + 2) * n = times_le (suc other) (shape.blocks + r.spares + 2) n is_other.to in
        record { from = omega (arith, from); to = omega (arith, to, less, two_more (shape.blocks + r.spares) n) }

    pub table_erased : (new : BoardState) → IsSpareFull r before old.pages → new ≡ after_erase old other → TableErased r before other old new
    table_erased new full is =
        let pages : new.pages ≡ after (shape_of old) (erase other) old.pages = ap (λ s. s.pages) is in
        let i : Interrupted inner (erase other) old.pages new.pages [] = done_interrupted old inner (erase other) new.pages on.ready pages in
        let ready : IsReady new inner = ready_again old new inner (erase other) on.ready (ap (λ s. s.shape) is) (full_erase inner other) i in
        let same : after (shape_of old) (erase other) old.pages ≡ after inner (erase other) old.pages = ap
        (λ (s : Shape). after s (erase other) old.pages) (shape_is old inner on.ready) in
        let new_top : IsTop r new.pages = turn_top r before old.pages serving other new.pages [] is_other.from is_other.beside i top in
        let least = serving.shape_is.block_least in
        let first : IsTablePage shape r.spares (other * n + 0) = other_is_table 0 n_some in
        let zero_is : other * n + 0 ≡ other * n = omega arith in
        let one_is : other * n + 1 ≡ suc (other * n) = omega arith in
        let rest : other * n % n ≡ 0 = ap (λ (x : ℕ). x % n) (sym zero_is) ∙ mod-of other n 0 n_some in
        record {
          cuts = erase_reached old inner on.ready (λ cut. MayShow shape r.spares before r.mark cut) other turn_erase_cut new is;
          goes_on = record {
            ready = ready;
            serving = serving_again r before old.pages new.pages serving ready.flash
                (turn_above r before old.pages serving other new.pages [] is_other.from is_other.beside i);
          };
          full = λ k less. ap (λ (f : Flash). page_at f (spare_page r k)) (pages ∙ same)
              ∙ page_at-erased_from inner other 0 old.pages (spare_page r k)
              (λ e. let own : spare_block r ≡ other = sym (spare_div k less) ∙ ap (λ (x : ℕ). x / n) (sym (zero-add (spare_page r k)))
              ∙ e in omega (arith, own, spare_before_tables r before old.pages serving, is_other.from))
              ∙ full k less;
          top = new_top;
          next = record {
            is_table = subst (IsTablePage shape r.spares) zero_is first;
            even = ap (λ (x : ℕ). x % 2) rest;
            room = omega (arith, rest, least);
            not_first = λ e. is_other.beside (ap (λ (x : ℕ). x / n) (e ∙ sym zero_is) ∙ other_page 0 n_some);
            not_second = λ e. is_other.beside (ap (λ (x : ℕ). x / n) (e ∙ sym one_is) ∙ other_page 1 (omega (arith, least)));
            order = record {
              before = λ k from to. absurd (omega (arith, from, to, rest));
              behind = λ k from to.
                  let e : other * n + (k - other * n) ≡ k = omega (arith, from) in
                  let inside : k - other * n < n = omega (arith, from, to, rest) in
                  ap (λ (f : Flash). page_at f k) (pages ∙ same)
                  ∙ page-erased_in inner other 0 old.pages k (let room = other_inside (k - other * n) inside in omega (arith, room, e))
                  (ap (λ (x : ℕ). x / n) (zero-add k ∙ sym e) ∙ other_page (k - other * n) inside);
            };
          };
        }

  -- ---- the two programs of the next table

  module _ (pair : ℕ) (is_pair : IsTablePair r old.pages pair) (full : IsSpareFull r before old.pages) where
    abbrev bytes : List ℕ
    bytes = table_bytes shape r.spares (next_table r)

    abbrev Or : ℕ → Type 0
    Or k = NoneOr shape r.spares n_some (next_table r) (page_at old.pages k)

    erased_or : (k : ℕ) → page_at old.pages k ≡ erased → Or k
    erased_or k is = inl (ap (table_in shape r.spares) is)

    whole_or : (k : ℕ) → page_at old.pages k ≡ whole bytes → Or k
    whole_or k is = inr (ap (table_in shape r.spares) is ∙ next_again r before old.pages serving)

    module _ (page : IsPage shape bytes) (at : ℕ) (is_at : (at ≡ pair) ⊎ (at ≡ suc pair)) (first : Or pair) (second : Or (suc pair)) where
      table_cut : (cut : Flash) → Interrupted inner (program at bytes) old.pages cut [] → MayShow shape r.spares before r.mark cut
      table_cut cut i = pair_cut r before old.pages serving pair at is_pair full is_at first second cut [] i

      pub table_reached : (new : BoardState) → new ≡ after_program old at bytes → ReachedSafely r before old new
      table_reached new is = program_reached old inner on.ready (λ cut. MayShow shape r.spares before r.mark cut) at bytes table_cut new is

      pub table_went : (new : BoardState) → ProgramFailed old new at bytes → WentSafely r before old new
      table_went new failed = program_went old inner on.ready (λ cut. MayShow shape r.spares before r.mark cut) at bytes table_cut new failed

      -- the newest table is the former or the next one
      pub table_left : (new : BoardState) → ProgramFailed old new at bytes → IsReady new inner × OneOfTables r new.pages
      table_left new failed =
          let i : Interrupted inner (program at bytes) old.pages new.pages [] = left_interrupted old new inner (program at bytes) on.ready failed.left in (
            ready_again old new inner (program at bytes) on.ready (ap (λ s. s.shape) failed.rest) (full_program inner at bytes page) i,
            pair_table r before old.pages serving pair at is_pair full is_at first second new.pages [] i,
          )

      table_i : (new : BoardState) → new ≡ after_program old at bytes → Interrupted inner (program at bytes) old.pages new.pages []
      table_i new is = done_interrupted old inner (program at bytes) new.pages on.ready (ap (λ s. s.pages) is)

      table_ready : (new : BoardState) → new ≡ after_program old at bytes → IsReady new inner
      table_ready new is = ready_again old new inner (program at bytes) on.ready (ap (λ s. s.shape) is) (full_program inner at bytes page) (table_i new is)

      table_above : (new : BoardState) → new ≡ after_program old at bytes → Interrupted shape r.mark before (through_by shape r.table (page_at new.pages)) []
      table_above new is = pair_above r before old.pages serving pair at is_pair full is_at first second new.pages [] (table_i new is)

      table_full : (new : BoardState) → new ≡ after_program old at bytes → IsSpareFull r before new.pages
      table_full new is = pair_full r before old.pages serving pair at is_pair full is_at first second new.pages [] (table_i new is)

      table_beside : (new : BoardState) → new ≡ after_program old at bytes → IsNewestBeside shape r.spares pair (page_at new.pages) r.top r.table
      table_beside new is = pair_beside r before old.pages serving pair at is_pair full is_at first second new.pages [] (table_i new is)

    pub first_written : (new : BoardState) → IsPage shape bytes → page_at old.pages pair ≡ erased
        → page_at old.pages (suc pair) ≡ erased → new ≡ after_program old pair bytes → FirstWritten r before pair old new
    first_written new page one two is =
        let first : Or pair = erased_or pair one in
        let second : Or (suc pair) = erased_or (suc pair) two in
        let pages : new.pages ≡ after (shape_of old) (program pair bytes) old.pages = ap (λ s. s.pages) is in
        let ready = table_ready page pair (inl refl) first second new is in
        record {
          cuts = table_reached page pair (inl refl) first second new is;
          goes_on = record {
            ready = ready;
            serving = serving_again r before old.pages new.pages serving ready.flash (table_above page pair (inl refl) first second new is);
          };
          full = table_full page pair (inl refl) first second new is;
          is_pair = record {
            beside = table_beside page pair (inl refl) first second new is;
            first = is_pair.first;
            second = is_pair.second;
            even = is_pair.even;
          };
          first = ap (λ (f : Flash). page_at f pair) pages ∙ page_at-slice_set_same old.pages pair (whole bytes) (table_inside r before old.pages serving pair is_pair.first);
        }

    pub second_written : (new : BoardState) → IsPage shape bytes → page_at old.pages pair ≡ whole bytes
        → page_at old.pages (suc pair) ≡ erased → new ≡ after_program old (suc pair) bytes
        → SecondWritten r before pair old new
    second_written new page one two is =
        let first : Or pair = whole_or pair one in
        let second : Or (suc pair) = erased_or (suc pair) two in
        let pages : new.pages ≡ after (shape_of old) (program (suc pair) bytes) old.pages = ap (λ s. s.pages) is in
        let again = next_again r before old.pages serving in
        let here : page_at new.pages pair ≡ whole bytes =
        ap (λ (f : Flash). page_at f pair) pages ∙ page_at-slice_set old.pages (suc pair) pair (whole bytes) (λ e. omega (arith, e)) ∙ one in
        let behind : page_at new.pages (suc pair) ≡ whole bytes =
        ap (λ (f : Flash). page_at f (suc pair)) pages ∙ page_at-slice_set_same old.pages (suc pair) (whole bytes) (table_inside r before old.pages serving (suc pair) is_pair.second) in
        let newest : IsNewest shape r.spares (page_at new.pages) pair (next_table r) =
        pair-first shape r.spares (page_at new.pages) r.top r.table (next_table r) pair (table_beside page (suc pair) (inr refl) first second new is)
        (let e : r.table.number < r.table.number + 1 = omega arith in e) is_pair.first is_pair.second
        (ap (table_in shape r.spares) here ∙ again) (inr (ap (table_in shape r.spares) behind ∙ again)) in
        record {
          cuts = table_reached page (suc pair) (inr refl) first second new is;
          ready = table_ready page (suc pair) (inr refl) first second new is;
          newest = newest;
          done = shows shape r.spares new.pages pair (next_table r) newest
              ∙ ap (λ (f : Flash). Some f) (exchange r before old.pages serving new.pages
              (table_full page (suc pair) (inr refl) first second new is) (table_above page (suc pair) (inr refl) first second new is));
        }

-- ---- the pages of the block once the call is done

module _ (shape : Shape) (before : Flash) (some : 0 < shape.block_pages) where
  -- the pages before the call's are unchanged and not Erased
  row_of : (at : ℕ) → at / shape.block_pages * shape.block_pages + at % shape.block_pages ≡ at
  row_of at = div-add-mod' at shape.block_pages

  pub low_page : (mark : Mark) (i : ℕ) → IsCall shape mark before → i < copies_of shape mark
      → (page_at (after shape mark before) (block_of shape mark * shape.block_pages + i) ≡ page_at before (block_of shape mark * shape.block_pages + i))
      × (page_at before (block_of shape mark * shape.block_pages + i) ≢ erased)
  low_page (program at bytes) i call less =
      let row = row_of at in (
        page_at-slice_set before at (at / shape.block_pages * shape.block_pages + i) (whole bytes) (λ e. omega (arith, e, row, less)),
        call.0.before (at / shape.block_pages * shape.block_pages + i) (omega (arith, row, less)) (omega (arith, row, less)),
      )
  low_page (erase b) i call less = absurd (omega (arith, less))
  low_page (post bytes) i call less = absurd call

  pub high_page : (mark : Mark) (i : ℕ) → IsCall shape mark before → IsMarkWithin shape mark
      → length before ≡ page_count shape → fill_of shape mark ≤ i → i < shape.block_pages
      → page_at (after shape mark before) (block_of shape mark * shape.block_pages + i) ≡ erased
  high_page (program at bytes) i call within size from to =
      let row = row_of at in
      page_at-slice_set before at (at / shape.block_pages * shape.block_pages + i) (whole bytes) (λ e. omega (arith, e, row, from))
      ∙ call.0.behind (at / shape.block_pages * shape.block_pages + i) (omega (arith, row, from)) (omega (arith, row, to))
  high_page (erase b) i call within size from to =
      page-erased_in shape b 0 before (b * shape.block_pages + i)
      (omega (arith, size, mul_comm shape.block_pages shape.blocks, times_le (suc b) shape.blocks shape.block_pages within, to))
      (ap (λ (x : ℕ). x / shape.block_pages) (zero-add (b * shape.block_pages + i)) ∙ div-of b shape.block_pages i to)
  high_page (post bytes) i call within size from to = absurd call

  pub copies_less : (mark : Mark) → IsCall shape mark before → copies_of shape mark < shape.block_pages
  copies_less (program at bs) call = mod-lt at {m = shape.block_pages} some
  copies_less (erase b) call = some
  copies_less (post bs) call = absurd call

  pub low_inside : (mark : Mark) (i : ℕ) → IsMarkWithin shape mark → i < copies_of shape mark → block_of shape mark * shape.block_pages + i < page_count shape
  low_inside (program at bytes) i within less = let row = row_of at in omega (arith, row, less, within)
  low_inside (erase b) i within less = absurd (omega (arith, less))
  low_inside (post bytes) i within less = absurd within

-- a page before the call's that is not Torn after the interrupted call was the same before
low_same : (shape : Shape) (mark : Mark) (i : ℕ) (old new : Page) → i < copies_of shape mark → new ≢ torn
    → MayLeave shape mark (block_of shape mark * shape.block_pages + i) old new → old ≡ new
low_same shape (program at bs) i old new less other (inl same) = sym same
low_same shape (program at bs) i old new less other (inr (inl is)) = let row : at / shape.block_pages * shape.block_pages + at % shape.block_pages
    ≡ at = div-add-mod' at shape.block_pages in absurd (omega (arith, is.0, row, less))
low_same shape (program at bs) i old new less other (inr (inr is)) = absurd (other is.1)
low_same shape (erase b) i old new less other leaves = absurd (omega (arith, less))
low_same shape (post bs) i old new less other leaves = absurd (omega (arith, less))

-- a page that is to be copied, if it is not Torn, is that of the outer flash before the call
copied_page : (r : Relocation) (before flash : Flash) (k : ℕ) (p : Page) → IsRelocating r before flash → k < copies_of r.shape r.mark → p ≢ torn
    → page_at flash (placed_page r.shape r.table (block r * r.shape.block_pages + k)) ≡ p → page_at before (block r * r.shape.block_pages + k) ≡ p
copied_page r before flash k p serving less other is =
    let at : ℕ = block r * r.shape.block_pages + k in
    let inside = low_inside r.shape before (some r before flash serving) r.mark k serving.within less in
    let shown : page_at (through_by r.shape r.table (page_at flash)) at ≡ p = page-through r.shape r.table (page_at flash) at inside ∙ is in
    let P : Page → Type 0 = λ p. MayLeave r.shape r.mark at (page_at before at) p in
    low_same r.shape r.mark k (page_at before at) p less other (subst P shown (serving.above.pages at))

-- a page that is to be copied is not Erased
pub copies_written : (r : Relocation) (before flash : Flash) (k : ℕ) → IsRelocating r before flash → k < copies_of r.shape r.mark
    → page_at flash (placed_page r.shape r.table (block r * r.shape.block_pages + k)) ≡ erased → ⊥
copies_written r before flash k serving less is =
    (low_page r.shape before (some r before flash serving) r.mark k serving.call less).1 (copied_page r before flash k erased serving less (λ e. cc) is)

-- ---- the laws

pub erases_spare : ErasesSpare
erases_spare r before old new on top is = spare_erased r before old on top new is

pub fails_to_erase_spare : FailsToEraseSpare
fails_to_erase_spare r before old new on top failed = erase_failed r before old on top new failed

pub reads_source : ReadsSource
reads_source r before flash k bytes serving less is =
    (low_page r.shape before (some r before flash serving) r.mark k serving.call less).0 ∙ copied_page r before flash k (whole bytes) serving less (λ e. cc) is

pub writes_in_order : WritesInOrder
writes_in_order r before flash k serving most filled =
    let n : ℕ = r.shape.block_pages in
    let n_some = some r before flash serving in
    let less : k < n = let few = copies_less r.shape before n_some r.mark serving.call in omega (arith, most, few) in
    let rest : spare_page r k % n ≡ k = mod-of (spare_block r) n k less in (
      spare_inside r before flash serving k less,
      record {
        before = λ j from to.
            let i : ℕ = j - spare_block r * n in
            let e : spare_page r i ≡ j = omega (arith, from, rest) in
            let below : i < k = omega (arith, from, to, rest) in
            let low = low_page r.shape before n_some r.mark i serving.call (omega (arith, below, most)) in
            λ is. low.1 (sym low.0 ∙ sym (filled.copied i below) ∙ ap (page_at flash) e ∙ is);
        behind = λ j from to.
            let i : ℕ = j - spare_block r * n in
            let e : spare_page r i ≡ j = omega (arith, from) in
            ap (page_at flash) (sym e) ∙ filled.rest i (omega (arith, from)) (omega (arith, from, to, rest));
      },
    )

pub writes_page : WritesSpare
writes_page r before k bytes old new on top less filled source is = page_written r before old on top k less bytes source new filled is

pub fails_to_write : FailsToWriteSpare
fails_to_write r before k bytes old new on top less source failed = write_failed r before old on top k less bytes source new failed

pub fills : Fills
fills r before flash serving filled i less = by (nat_lt i (fill_of r.shape r.mark)) refl
  where
    by : (t : Bool) → nat_lt i (fill_of r.shape r.mark) ≡ t
        → page_at flash (spare_page r i) ≡ page_at (after r.shape r.mark before) (block r * r.shape.block_pages + i)
    by true t = let below : i < fill_of r.shape r.mark = grind (arith, nat_tests) in filled.copied i below
    by false t =
        let past : fill_of r.shape r.mark ≤ i = grind (arith, nat_tests) in
        filled.rest i past less ∙ sym (high_page r.shape before
        (some r before flash serving) r.mark i serving.call serving.within serving.whole_above.size past less)

pub erases_table : ErasesTable
erases_table r before other old new on top full is_other is = table_erased r before old on top other is_other new full is

pub fails_to_erase_table : FailsToEraseTable
fails_to_erase_table r before other old new on top is_other failed = table_erase_failed r before old on top other is_other new failed

pub writes_first : WritesFirst
writes_first r before pair old new on page is_pair full one two is = first_written r before old on pair is_pair full new page one two is

pub fails_to_write_first : FailsToWriteFirst
fails_to_write_first r before pair old new on page is_pair full one two failed =
    table_went r before old on pair is_pair full page pair (inl refl) (erased_or r before old on pair is_pair full pair one)
    (erased_or r before old on pair is_pair full (suc pair) two) new failed

pub writes_second : WritesSecond
writes_second r before pair old new on page is_pair full one two is = second_written r before old on pair is_pair full new page one two is

pub fails_to_write_second : FailsToWriteSecond
fails_to_write_second r before pair old new on page is_pair full one two failed =
    table_went r before old on pair is_pair full page (suc pair) (inr refl)
    (whole_or r before old on pair is_pair full pair one) (erased_or r before old on pair is_pair full (suc pair) two) new failed

-- ---- the newest table after a failed call in a table block

pub first_left : (r : Relocation) (before : Flash) (pair : ℕ) (old new : BoardState) → RelocationGoesOn r before old
    → IsPage r.shape (table_bytes r.shape r.spares (next_table r)) → IsTablePair r old.pages pair → IsSpareFull r before old.pages
    → page_at old.pages pair ≡ erased → page_at old.pages (suc pair) ≡ erased → ProgramFailed old new pair (table_bytes r.shape r.spares (next_table r))
    → IsReady new (inner_shape r.shape r.spares) × OneOfTables r new.pages
first_left r before pair old new on page is_pair full one two failed =
    table_left r before old on pair is_pair full page pair (inl refl) (erased_or r before old on pair is_pair full pair one)
    (erased_or r before old on pair is_pair full (suc pair) two) new failed

pub second_left : (r : Relocation) (before : Flash) (pair : ℕ) (old new : BoardState) → RelocationGoesOn r before old
    → IsPage r.shape (table_bytes r.shape r.spares (next_table r)) → IsTablePair r old.pages pair → IsSpareFull r before old.pages
    → page_at old.pages pair ≡ whole (table_bytes r.shape r.spares (next_table r)) → page_at old.pages (suc pair) ≡ erased
    → ProgramFailed old new (suc pair) (table_bytes r.shape r.spares (next_table r))
    → IsReady new (inner_shape r.shape r.spares) × OneOfTables r new.pages
second_left r before pair old new on page is_pair full one two failed =
    table_left r before old on pair is_pair full page (suc pair) (inr refl)
    (whole_or r before old on pair is_pair full pair one) (erased_or r before old on pair is_pair full (suc pair) two) new failed
