-- What the programs of a pair leave wherever they are cut, and how a pair is read then.
use Rattle.std.proofs.Common.{◌≡◌, ◌⊎◌, ◌<◌, ◌≤◌, inl, inr, ℕ, zero, suc, ◌+◌, ◌-◌, ◌*◌, ◌/◌, ◌%◌, mod-lt, div-add-mod', refl, sym, ap, subst, ◌∙◌, arith, List, [], ◌∷◌, ◌++◌, length}
use Rattle.std.{proofs.Math.Nat.mod-zero, proofs.lemmas.Nat.div-mul-add, proofs.lemmas.Bool.cases_lt}
use Rattle.pk_base.{specs.Shape.Shape, specs.Page.Page, specs.Page.Flash, specs.Page.page_at, specs.Page.erased, specs.Page.whole, specs.Page.torn, specs.Page.page_of_pair}
use Rattle.pk_base.specs.Mark.{program, after}
use Rattle.pk_nand.{specs.BoardState.BoardState, specs.BoardState.shape_of, specs.Cut.Cut, specs.Cut.MayLeave, specs.Cut.Interrupted, specs.Calls.after_program, specs.Calls.ProgramFailed}
use Rattle.pk_nand.{specs.Crash.SameOutside, specs.Crash.ReachedBy, specs.Crash.Went, proofs.Leaving.interrupted_done, proofs.Writing.SameOutside-cut}
use Rattle.pk_nand.specs.Pairs.{first_of_pair, HoldsAtMost, IsPairCut, marks_of_pair}
use Rattle.pk_nand.proofs.Reaching.{Reached-program, Went-program_failed}

-- ---- where a pair lies

-- its first page is even in its block
pub pair_even : (shape : Shape) (page : ℕ) → first_of_pair shape page % shape.block_pages % 2 ≡ 0
pair_even shape page = of shape.block_pages
  where
    of : (n : ℕ) → (page - page % n % 2) % n % 2 ≡ 0
    of zero = let same : page % 0 ≡ page = mod-zero page in let first : (page - page % 0 % 2) % 0 ≡ page - page % 0 % 2 = mod-zero (page - page % 0 % 2) in omega (arith, same, first)
    of (suc n) =
        let whole : page / suc n * suc n + page % suc n ≡ page = div-add-mod' page (suc n) in
        let less : page % suc n < suc n = mod-lt page (omega arith) in
        let r : ℕ = page % suc n - page % suc n % 2 in
        let e : page / suc n * suc n + r ≡ page - page % suc n % 2 = omega (arith, whole) in
        let quot : (page / suc n * suc n + r) / suc n ≡ page / suc n = div-mul-add (page / suc n) (suc n) r (omega (arith, less)) in
        let all : (page / suc n * suc n + r) / suc n * suc n + (page / suc n * suc n + r) % suc n ≡ page / suc n * suc n + r = div-add-mod' (page / suc n * suc n + r) (suc n) in
        let product : (page / suc n * suc n + r) / suc n * suc n ≡ page / suc n * suc n = ap (λ (k : ℕ). k * suc n) quot in
        let rest : (page / suc n * suc n + r) % suc n ≡ r = omega (arith, all, product) in
        let moved : (page - page % suc n % 2) % suc n ≡ r = ap (λ (k : ℕ). k % suc n) (sym e) ∙ rest in
        omega (arith, moved)

pub pair_low : (shape : Shape) (page : ℕ) → first_of_pair shape page ≤ page
pair_low shape page = omega arith

pub pair_high : (shape : Shape) (page : ℕ) → page < first_of_pair shape page + 2
pair_high shape page = omega arith

-- ---- cuts

-- a program leaves of a page that holds its bytes or nothing such a page
pub holds_left : (shape : Shape) (at k : ℕ) (bytes : List ℕ) (old new : Page) → HoldsAtMost bytes old → MayLeave shape (program at bytes) k old new → HoldsAtMost bytes new
holds_left shape at k bytes old new holds (inl same) = subst (HoldsAtMost bytes) (sym same) holds
holds_left shape at k bytes old new holds (inr (inl (_, inl is))) = inl is
holds_left shape at k bytes old new holds (inr (inl (_, inr is))) = inr (inr is)
holds_left shape at k bytes old new holds (inr (inr (_, is))) = inr (inr is)

pub IsPairCut-start : (page : ℕ) (bytes : List ℕ) (flash : Flash) → HoldsAtMost bytes (page_at flash page) → HoldsAtMost bytes (page_at flash (page + 1)) → IsPairCut page bytes flash flash
IsPairCut-start page bytes flash first second = record { outside = record { size = refl; below = λ k less. refl; above = λ k past. refl }; first = first; second = second }

module _ (shape : Shape) (page : ℕ) (bytes : List ℕ) (even : page % shape.block_pages % 2 ≡ 0) where
  -- a program of one of its pages more, done or not
  pub IsPairCut-cut : (at : ℕ) (old f g : Flash) (out : List ℕ) → page ≤ at → at < page + 2 → IsPairCut page bytes old f → Interrupted shape (program at bytes) f g out → IsPairCut page bytes old g
  IsPairCut-cut at old f g out low high so_far cut = record {
    outside = SameOutside-cut shape page 2 at old f g bytes out even so_far.outside low high cut;
    first = holds_left shape at page bytes _ _ so_far.first (cut.pages page);
    second = holds_left shape at (page + 1) bytes _ _ so_far.second (cut.pages (page + 1));
  }

  pub IsPairCut-done : (at : ℕ) (old f : Flash) → page ≤ at → at < page + 2 → IsPairCut page bytes old f → IsPairCut page bytes old (after shape (program at bytes) f)
  IsPairCut-done at old f low high so_far = IsPairCut-cut at old f (after shape (program at bytes) f) [] low high so_far (interrupted_done shape (program at bytes) f)

  -- the programs of both
  pub pair_cut : (old cut : Flash) (posted : List ℕ) → IsPairCut page bytes old old → Cut shape old (marks_of_pair page bytes) cut posted → IsPairCut page bytes old cut
  pair_cut old cut posted start (inl first) = IsPairCut-cut page old old cut posted (omega arith) (omega arith) start first
  pair_cut old cut posted start (inr (_, _, inl second)) = IsPairCut-cut (page + 1) old _ cut _ (omega arith) (omega arith) (IsPairCut-done page old old (omega arith) (omega arith) start) second
  pair_cut old cut posted start (inr (_, _, inr (_, _, done))) =
      subst (IsPairCut page bytes old) (sym done.0) (IsPairCut-done (page + 1) old _ (omega arith) (omega arith) (IsPairCut-done page old old (omega arith) (omega arith) start))

-- ---- on a board

module _ (shape : Shape) (page : ℕ) (bytes : List ℕ) (old : BoardState) (same : shape_of old ≡ shape)
    (even : page % shape.block_pages % 2 ≡ 0) (start : Flash) (so_far : IsPairCut page bytes start old.pages) where
  abbrev P : Flash → List ℕ → Type 0
  P flash _ = IsPairCut page bytes start flash

  module _ (at : ℕ) (low : page ≤ at) (high : at < page + 2) where
    within : (flash : Flash) → Interrupted (shape_of old) (program at bytes) old.pages flash [] → P flash []
    within flash cut = IsPairCut-cut shape page bytes even at start old.pages flash [] low high so_far (subst (λ s. Interrupted s (program at bytes) old.pages flash []) same cut)

    pub program_done : IsPairCut page bytes start (after_program old at bytes).pages
    program_done = IsPairCut-done shape page bytes even at start old.pages low high so_far

    -- one of its pages was programmed
    pub Reached-in_pair : ReachedBy (program at bytes ∷ []) old (after_program old at bytes) P
    Reached-in_pair = Reached-program old P at bytes within program_done

    -- or the program failed
    pub Went-in_pair_failed : (new : BoardState) → ProgramFailed old new at bytes → Went old new P
    Went-in_pair_failed new failed = Went-program_failed old P new at bytes failed within program_done

-- ---- how it is read

-- the page by which such a pair is read has no bytes but these
pub pair_read : (page : ℕ) (bytes : List ℕ) (first second : Page) → HoldsAtMost bytes first → HoldsAtMost bytes second → HoldsAtMost bytes (page_of_pair page first second).1
pair_read page bytes (whole b) second (inl is) other = inl is
pair_read page bytes (whole b) second (inr (inl is)) other = inr (inl is)
pair_read page bytes (whole b) second (inr (inr is)) other = inr (inr is)
pair_read page bytes erased second holds other = other
pair_read page bytes torn second holds other = other

-- it is read by its first page if that is whole
pub read_first : (page : ℕ) (bytes : List ℕ) (first second : Page) → first ≡ whole bytes → page_of_pair page first second ≡ (page, whole bytes)
read_first page bytes (whole b) second is = ap (λ (p : Page). (page, p)) is
read_first page bytes erased second is = cc
read_first page bytes torn second is = cc

-- such a page is whole, or not
pub whole_or_not : (bytes : List ℕ) (page : Page) → HoldsAtMost bytes page → (page ≡ whole bytes) ⊎ (page ≡ whole bytes → ⊥)
whole_or_not bytes page (inl is) = inl is
whole_or_not bytes page (inr (inl is)) = inr (λ e. let clash : erased ≡ whole bytes = sym is ∙ e in cc)
whole_or_not bytes page (inr (inr is)) = inr (λ e. let clash : torn ≡ whole bytes = sym is ∙ e in cc)

-- outside the pair nothing differs
pub outside_pair : (page : ℕ) (old cut : Flash) → SameOutside page 2 old cut → (k : ℕ) → (page ≤ k → k < page + 2 → ⊥) → page_at cut k ≡ page_at old k
outside_pair page old cut same k other = elim (cases_lt k page) [
  | inl low ↦ same.below k low
  | inr high ↦ elim (cases_lt k (page + 2)) [ inl less ↦ absurd (other high less) | inr past ↦ same.above k past ]
]
