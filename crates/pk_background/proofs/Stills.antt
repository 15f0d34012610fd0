-- Calls of the flash that change no page that is read, or kept.
use Rattle.std.proofs.Common.{◌≡◌, ◌⊎◌, inl, inr, ℕ, zero, suc, ◌+◌, ◌/◌, ◌%◌, ◌<◌, ◌≤◌, refl, sym, ap, ◌∙◌, arith, List, [], ◌++◌, length, Some}
use Rattle.pk_base.{specs.Shape.Shape, specs.Shape.charge, specs.Key.Key, specs.Page.Flash, specs.Page.page_at, specs.Entry.Entry}
use Rattle.pk_base.specs.Mark.{Mark, program, erase, after, all_posted}
use Rattle.pk_segfmt.specs.Stored.{page_of}
use Rattle.pk_rootfmt.specs.Root.{Root}
use Rattle.pk_nand.{specs.BoardState.BoardState, specs.Cut.Interrupted, specs.Cut.Touches, specs.Calls.after_program, specs.Calls.ProgramFailed, proofs.Leaving.interrupted_done}
use Rattle.pk_nand.{specs.Operations.after_erase, specs.Operations.EraseFailed, proofs.Touching.untouched, specs.Effects.Works, specs.Effects.Stops}
use Rattle.pk_nand.proofs.Effects.{works_none, works_program, works_then, stops_program, stops_then}
use Rattle.pk_seg.specs.Stored.{written, WriteFailed}
use Rattle.pk_model.{specs.Found.Found, specs.Spaces.limits_at, specs.Growth.Grows, specs.Growth.Reaches, specs.Growth.Goes}
use Rattle.pk_model.proofs.Growing.{at_end, top_limits, Reaches-then, Goes-then}
use Rattle.pk_model.proofs.Running.{Reaches-none, Reaches-erase, Goes-erase, Reaches-program, Goes-program}
use Rattle.pk_background.proofs.Unread.{IsReadBy, SameRead, same_top}

-- the page is read, or kept
abbrev pub IsStill : Shape → Root → Found → List Entry → (ℕ → Type 0) → ℕ → Type 0
IsStill shape root found pending kept k = IsReadBy shape root found pending k ⊎ kept k

-- kept: which other pages are kept
module _ (shape : Shape) (root : Root) (found : Found) (pending : List Entry) (kept : ℕ → Type 0) (start : Flash) where
  -- no such page differs
  abbrev pub SameStill : Flash → Type 0
  SameStill flash = (k : ℕ) → IsStill shape root found pending kept k → page_at flash k ≡ page_at start k

  -- nothing was posted, and no such page differs
  abbrev pub StillCut : Flash → List ℕ → Type 0
  StillCut flash posted = (posted ≡ []) × SameStill flash

  pub read_still : (flash : Flash) → SameStill flash → SameRead shape root found pending start flash
  read_still flash same k is = same k (inl is)

  grows_still : (a b : Flash) → SameStill a → SameStill b → Grows shape a b
  grows_still a b first second = inl (same_top shape root found pending start b (read_still b second) ∙ sym (same_top shape root found pending start a (read_still a first)))

  limits_still : (a b : Flash) → SameStill a → SameStill b → limits_at shape b ≡ limits_at shape a
  limits_still a b first second =
      top_limits shape b a (same_top shape root found pending start b (read_still b second) ∙ sym (same_top shape root found pending start a (read_still a first)))

  module _ (a b c : BoardState) (has : a.shape ≡ Some shape) (begun : Reaches shape a b StillCut) where
    silent : all_posted begun.0 ≡ []
    silent = (at_end begun.0 a b StillCut begun.1).0

    behind : (f : Flash) (q : List ℕ) → StillCut f q → StillCut f (all_posted begun.0 ++ q)
    behind f q holds = (ap (λ t. t ++ q) silent ∙ holds.0, holds.1)

    pub still_then : Reaches shape b c StillCut → Reaches shape a c StillCut
    still_then more = Reaches-then shape begun.0 a b StillCut has begun.1 begun.2 c StillCut behind more

    pub still_goes : Goes shape b c StillCut → Goes shape a c StillCut
    still_goes more = Goes-then shape begun.0 a b StillCut has begun.1 begun.2 c StillCut behind more

  pub still_end : (a b : BoardState) → Reaches shape a b StillCut → SameStill b.pages
  still_end a b run = (at_end run.0 a b StillCut run.1).1

  pub went_end : (a b : BoardState) → Goes shape a b StillCut → SameStill b.pages
  went_end a b run = (run.1.cuts _ _ run.1.stands).1

  module _ (old : BoardState) (has : old.shape ≡ Some shape) (so_far : SameStill old.pages) where
    pub still_none : (new : BoardState) → new ≡ old → Reaches shape old new StillCut
    still_none new same = Reaches-none shape old StillCut has new same (refl, so_far)

    -- a flash operation that touches no page that is read
    module _ (mark : Mark) (unread : (k : ℕ) → Touches shape mark k → IsStill shape root found pending kept k → ⊥) where
      within : (f : Flash) → Interrupted shape mark old.pages f [] → StillCut f []
      within f cut = (refl, λ k is. untouched shape mark k _ _ (λ here. unread k here is) (cut.pages k) ∙ so_far k is)

      grows : Grows shape old.pages (after shape mark old.pages)
      grows = grows_still old.pages (after shape mark old.pages) so_far (within (after shape mark old.pages) (interrupted_done shape mark old.pages)).1

      limited : (f : Flash) → Interrupted shape mark old.pages f [] → limits_at shape f ≡ limits_at shape old.pages
      limited f cut = limits_still old.pages f so_far (within f cut).1

    -- an erase of a block of which no page is read
    module _ (block : ℕ) (unread : (k : ℕ) → k / shape.block_pages ≡ block → IsStill shape root found pending kept k → ⊥) where
      pub still_erase : (new : BoardState) → new ≡ after_erase old block → Reaches shape old new StillCut
      still_erase new made = Reaches-erase shape old StillCut has block (within (erase block) unread) (grows (erase block) unread) (limited (erase block) unread) new made

      pub still_erase_failed : (new : BoardState) → EraseFailed old new block → Goes shape old new StillCut
      still_erase_failed new failed = Goes-erase shape old StillCut has block (within (erase block) unread) (grows (erase block) unread) (limited (erase block) unread) new failed

    -- a program of a page that is not read, in a pair of which no page is
    module _ (page : ℕ) (bytes : List ℕ) (unread : (k : ℕ) → Touches shape (program page bytes) k → IsStill shape root found pending kept k → ⊥) where
      pub still_program : (new : BoardState) → new ≡ after_program old page bytes → Reaches shape old new StillCut
      still_program new made = Reaches-program shape old StillCut has page bytes (within (program page bytes) unread) (grows (program page bytes) unread) (limited (program page bytes) unread) new made

      pub still_program_failed : (new : BoardState) → ProgramFailed old new page bytes → Goes shape old new StillCut
      still_program_failed new failed =
          Goes-program shape old StillCut has page bytes (within (program page bytes) unread) (grows (program page bytes) unread) (limited (program page bytes) unread) new failed

  -- the pages of a value, whole pairs
  module _ (old : BoardState) (has : old.shape ≡ Some shape) (so_far : SameStill old.pages) (key : Key) (page : ℕ) (value : List ℕ)
      (even : page % shape.block_pages % 2 ≡ 0) (unread : (k : ℕ) → page ≤ k → k < page + charge shape (length value) → IsStill shape root found pending kept k → ⊥) where
    shape_stays : (n : ℕ) → (written shape key page value n old).shape ≡ Some shape
    shape_stays zero = has
    shape_stays (suc n) = shape_stays n

    -- the first page of the pair is one of them
    touched : (n k : ℕ) (bytes : List ℕ) → n < charge shape (length value) → Touches shape (program (page + n) bytes) k → (page ≤ k) × (k < page + charge shape (length value))
    touched n k bytes less (inl same) = (omega (arith, same), omega (arith, same, less))
    touched zero k bytes less (inr partner) =
        let first : page + zero ≡ page = omega arith in
        let odd : page % shape.block_pages % 2 ≡ 1 = ap (λ (p : ℕ). p % shape.block_pages % 2) (sym first) ∙ partner.1 in
        absurd (omega (arith, even, odd))
    touched (suc n) k bytes less (inr partner) = let next = partner.0 in (omega (arith, next), omega (arith, next, less))

    untouched_value : (n : ℕ) (bytes : List ℕ) → n < charge shape (length value) → (k : ℕ) → Touches shape (program (page + n) bytes) k → IsStill shape root found pending kept k → ⊥
    untouched_value n bytes less k here is = let within = touched n k bytes less here in unread k within.0 within.1 is

    pub still_written : (n : ℕ) → n ≤ charge shape (length value) → Reaches shape old (written shape key page value n old) StillCut
    still_written zero most = still_none old has so_far old refl
    still_written (suc n) most =
        let before = still_written n (omega (arith, most)) in
        let now : BoardState = written shape key page value n old in
        still_then old now (written shape key page value (suc n) old) has before
        (still_program now (shape_stays n) (still_end old now before) (page + n) (page_of shape key value n)
        (untouched_value n (page_of shape key value n) (omega (arith, most))) (written shape key page value (suc n) old) refl)

    pub still_write_failed : (new : BoardState) → WriteFailed shape key page value old new → Goes shape old new StillCut
    still_write_failed new failed =
        let within = failed.within in
        let n : ℕ = failed.made in
        let before = still_written n (omega (arith, within)) in
        let now : BoardState = written shape key page value n old in
        still_goes old now new has before
        (still_program_failed now (shape_stays n) (still_end old now before) (page + n) (page_of shape key value n)
        (untouched_value n (page_of shape key value n) (omega (arith, within))) new failed.failed)

-- ---- counts

pub works_written : (shape : Shape) (key : Key) (page : ℕ) (value : List ℕ) (n : ℕ) (old : BoardState) → Works old (written shape key page value n old)
works_written shape key page value zero old = works_none old old refl
works_written shape key page value (suc n) old =
    works_then old (written shape key page value n old) (written shape key page value (suc n) old) (works_written shape key page value n old)
    (works_program (written shape key page value n old) (written shape key page value (suc n) old) (page + n) (page_of shape key value n) refl)

pub stops_written : (shape : Shape) (key : Key) (page : ℕ) (value : List ℕ) (old new : BoardState) → WriteFailed shape key page value old new → Stops old new
stops_written shape key page value old new failed =
    stops_then old (written shape key page value failed.made old) new (works_written shape key page value failed.made old)
    (stops_program (written shape key page value failed.made old) new (page + failed.made) (page_of shape key value failed.made) failed.failed)
