-- A value that is written page by page.
use Rattle.std.proofs.Common.{◌≡◌, ◌≢◌, ◌<◌, ◌≤◌, ◌+◌, ◌-◌, ◌*◌, ◌%◌, ℕ, zero, suc, List, [], ◌∷◌, ◌++◌, length, sym, ◌∙◌, ap, subst, refl, arith, below_more}
use Rattle.std.proofs.Math.ListN.{set}
use Rattle.pk_base.{specs.Key.Key, specs.Shape.Shape, specs.Shape.page_count, specs.Shape.charge, specs.Mark.program}
use Rattle.pk_base.specs.Page.{Flash, page_at, whole, IsPage}
use Rattle.pk_nand.{specs.BoardState.BoardState, specs.BoardState.shape_of, specs.Cut.Interrupted, specs.Operations.InOrder, specs.Crash.SameOutside, specs.Crash.Reached, specs.Crash.Went}
use Rattle.pk_nand.{specs.Calls.Rose, specs.Calls.IsReady, specs.Calls.ProgramFailed, specs.Calls.after_program, specs.Calls.LeftBehind, specs.Pairs.first_of_pair, specs.Pairs.SameOutsidePair}
use Rattle.pk_nand.proofs.Leaving.{page_at-slice_set, page_at-slice_set_same, IsFlash-left, full_program}
use Rattle.pk_nand.proofs.Reaching.{Went-then, Went-program_failed, Reached-then, Reached-program, Reached-start}
use Rattle.pk_nand.proofs.Pairing.{pair_even, pair_low, pair_high}
use Rattle.pk_nand.proofs.Writing.{mod-add, SameOutside-set, SameOutside-cut, InOrder-next, shape_is}
use Rattle.pk_segfmt.specs.Stored.{page_of}
use Rattle.pk_seg.specs.Stored.{written, WriteFailed}

-- nothing differs
pub SameOutside-same : (first count : ℕ) (f : Flash) → SameOutside first count f f
SameOutside-same first count f = record { size = refl; below = λ k _. refl; above = λ k _. refl }

-- the board stays ready if a program fails
pub IsReady-failed : (board new : BoardState) (shape : Shape) (at : ℕ) (bytes : List ℕ) → IsPage shape bytes → ProgramFailed board new at bytes → IsReady board shape → IsReady new shape
IsReady-failed board new shape at bytes full failed ready = record {
  shape_is = ap (λ s. s.shape) failed.rest ∙ ready.shape_is;
  flash = IsFlash-left shape (program at bytes) board.pages new.pages board.trail new.trail (full_program shape at bytes full) ready.flash
      (subst (λ s. LeftBehind s (program at bytes) board.pages new.pages board.trail new.trail) (shape_is board shape ready) failed.left);
}

-- i of the pages were programmed
pub record Writing (old now : BoardState) (shape : Shape) (key : Key) (value : List ℕ) (page count i : ℕ) : Type 0 where
  pub board : now ≡ written shape key page value i old
  pub ready : IsReady now shape
  pub order : page % shape.block_pages + i < shape.block_pages → InOrder shape now.pages (page + i)
  pub stored : (k : ℕ) → k < i → page_at now.pages (page + k) ≡ whole (page_of shape key value k)
  pub outside : SameOutside page count old.pages now.pages
  pub cuts : Reached old now (λ f _. SameOutside page count old.pages f)
  pub counts : (now.flash_faults ≡ old.flash_faults) × (now.stop_faults ≡ old.stop_faults) × (now.read_faults ≡ old.read_faults)

pub Writing-start : (old : BoardState) (shape : Shape) (key : Key) (value : List ℕ) (page count : ℕ) → IsReady old shape → InOrder shape old.pages page → Writing old old shape key value page count 0
Writing-start old shape key value page count ready order =
    let e : page ≡ page + 0 = omega arith in
    record {
      board = refl;
      ready = ready;
      order = λ _. subst (InOrder shape old.pages) e order;
      stored = λ k less. absurd (omega (arith, less));
      outside = SameOutside-same page count old.pages;
      cuts = ([], Reached-start old old (λ f _. SameOutside page count old.pages f) refl refl refl refl (SameOutside-same page count old.pages));
      counts = (refl, refl, refl);
    }

-- a page that is even in its block is so by the board's shape
even_of : (board : BoardState) (shape : Shape) (page : ℕ) → IsReady board shape → page % shape.block_pages % 2 ≡ 0 → page % (shape_of board).block_pages % 2 ≡ 0
even_of board shape page ready even = subst (λ (s : Shape). page % s.block_pages % 2 ≡ 0) (sym (shape_is board shape ready)) even

-- one page more
Writing-next : (old now : BoardState) (shape : Shape) (key : Key) (value : List ℕ) (page count i : ℕ)
    → page % shape.block_pages % 2 ≡ 0 → i < count → page + count ≤ page_count shape → IsReady (after_program now (page + i) (page_of shape key value i)) shape
    → Writing old now shape key value page count i → Writing old (after_program now (page + i) (page_of shape key value i)) shape key value page count (i + 1)
Writing-next old now shape key value page count i even less all ready w =
    let bytes : List ℕ = page_of shape key value i in
    let size = w.ready.flash.size in
    let lt : page + i < length now.pages = omega (arith, size, less, all) in
    let P : Flash → List ℕ → Type 0 = λ f _. SameOutside page count old.pages f in
    let outside : SameOutside page count old.pages (set now.pages (page + i) (whole bytes)) = SameOutside-set page count
    (page + i) old.pages now.pages (whole bytes) w.outside (omega arith) (omega (arith, less)) in
    let suc_i : suc i ≡ i + 1 = omega arith in
    record {
      board = let Q : ℕ → Type 0 = λ k. after_program now (page + i) bytes ≡ written shape key page value k old in subst Q suc_i (ap (λ b. after_program b (page + i) bytes) w.board);
      ready = ready;
      order = λ more. let next : InOrder shape (set now.pages (page + i) (whole bytes)) ((page + i) + 1) = InOrder-next shape now.pages
          (page + i) bytes lt (let m = mod-add page i shape.block_pages (omega (arith, more)) in omega (arith, m, more)) (w.order (omega (arith, more))) in
          let Q : ℕ → Type 0 = λ p. InOrder shape (set now.pages (page + i) (whole bytes)) p in let e : (page + i) + 1 ≡ page + (i + 1) = omega arith in subst Q e next;
      stored =
          let Q : ℕ → Type 0 = λ k. page_at (set now.pages (page + i) (whole bytes)) (page + k) ≡ whole (page_of shape key value k) in
          λ k low. below_more Q i (λ k below. page_at-slice_set now.pages (page + i) (page + k) (whole bytes) (λ same. absurd (omega (arith, below, same))) ∙ w.stored k below)
          (page_at-slice_set_same now.pages (page + i) (whole bytes) lt) k (omega (arith, low));
      outside = outside;
      cuts = (
        w.cuts.0 ++ program (page + i) bytes ∷ [],
        Reached-then w.cuts.0 (program (page + i) bytes ∷ []) old now (after_program now (page + i) bytes) P w.cuts.1
            (Reached-program now P (page + i) bytes
            (λ f cut. SameOutside-cut (shape_of now) page count (page + i) old.pages now.pages f bytes []
            (even_of now shape page w.ready even) w.outside (omega arith) (omega (arith, less)) cut) outside),
      );
      counts = w.counts;
    }

-- the same, by what the call says
pub Writing-written : (old now new : BoardState) (shape : Shape) (key : Key) (value : List ℕ) (page count i : ℕ) (bytes : List ℕ)
    → page % shape.block_pages % 2 ≡ 0 → bytes ≡ page_of shape key value i → new ≡ after_program now (page + i) bytes → IsReady new shape → i < count → page + count ≤ page_count shape
    → Writing old now shape key value page count i → Writing old new shape key value page count (i + 1)
Writing-written old now new shape key value page count i bytes even bytes_are made ready less all w =
    let e : new ≡ after_program now (page + i) (page_of shape key value i) = made ∙ ap (λ (q : List ℕ). after_program now (page + i) q) bytes_are in
    subst (λ (b : BoardState). Writing old b shape key value page count (i + 1)) (sym e)
    (Writing-next old now shape key value page count i even less all (subst (λ (b : BoardState). IsReady b shape) e ready) w)

-- the next page fails
pub Writing-failed : (old now new : BoardState) (shape : Shape) (key : Key) (value : List ℕ) (page count i : ℕ)
    → page % shape.block_pages % 2 ≡ 0 → i < count → Writing old now shape key value page count i
    → ProgramFailed now new (page + i) (page_of shape key value i) → Went old new (λ f _. SameOutside page count old.pages f)
Writing-failed old now new shape key value page count i even less w failed =
    let bytes : List ℕ = page_of shape key value i in
    let P : Flash → List ℕ → Type 0 = λ f _. SameOutside page count old.pages f in
    let last = Went-program_failed now P new (page + i) bytes failed
    (λ f cut. SameOutside-cut (shape_of now) page count (page + i) old.pages now.pages f bytes [] (even_of now shape page w.ready even) w.outside (omega arith) (omega (arith, less)) cut)
    (SameOutside-set page count (page + i) old.pages now.pages (whole bytes) w.outside (omega arith) (omega (arith, less))) in
    (w.cuts.0 ++ last.0, Went-then w.cuts.0 last.0 old now new P w.cuts.1 last.1)

pub WriteFailed-next : (old now new : BoardState) (shape : Shape) (key : Key) (value : List ℕ) (page i : ℕ)
    → i < charge shape (length value) → Writing old now shape key value page (charge shape (length value)) i
    → ProgramFailed now new (page + i) (page_of shape key value i) → WriteFailed shape key page value old new
WriteFailed-next old now new shape key value page i less w failed = record {
  made = i;
  within = less;
  failed = subst (λ b. ProgramFailed b new (page + i) (page_of shape key value i)) w.board failed;
  flash = subst (λ n. Rose n new.flash_faults) w.counts.0 failed.flash;
  stop = subst (λ n. Rose n new.stop_faults) w.counts.1 failed.stop;
  read = ap (λ s. s.read_faults) failed.rest ∙ w.counts.2;
}

-- ---- one page

module _ (old : BoardState) (page : ℕ) (bytes : List ℕ) where
  abbrev first : ℕ
  first = first_of_pair (shape_of old) page

  abbrev P : Flash → List ℕ → Type 0
  P f _ = SameOutsidePair (shape_of old) page old.pages f

  within : (f : Flash) → Interrupted (shape_of old) (program page bytes) old.pages f [] → P f []
  within f cut = SameOutside-cut (shape_of old) first 2 page old.pages old.pages f bytes [] (pair_even (shape_of old) page)
      (SameOutside-same first 2 old.pages) (pair_low (shape_of old) page) (pair_high (shape_of old) page) cut

  done : P (after_program old page bytes).pages []
  done = SameOutside-set first 2 page old.pages old.pages (whole bytes) (SameOutside-same first 2 old.pages) (pair_low (shape_of old) page) (pair_high (shape_of old) page)

  pub one_program : Reached old (after_program old page bytes) P
  one_program = (program page bytes ∷ [], Reached-program old P page bytes within done)

  pub one_failed : (new : BoardState) → ProgramFailed old new page bytes → Went old new P
  one_failed new failed = Went-program_failed old P new page bytes failed within done
