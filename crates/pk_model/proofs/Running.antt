-- Single flash operations that post nothing, along which the tree of lists grows, and what follows them.
use Rattle.std.proofs.Common.{◌≡◌, inl, inr, ℕ, List, [], ◌∷◌, ◌++◌, Some, refl, sym, ap, subst, ◌∙◌}
use Rattle.pk_base.{specs.Shape.Shape, specs.Page.Flash, specs.Map.Map, specs.Mark.Mark, specs.Mark.program, specs.Mark.erase, specs.Mark.after, specs.Mark.posted_by, specs.Mark.all_posted}
use Rattle.pk_nand.{specs.BoardState.BoardState, specs.BoardState.shape_of, specs.BoardState.shape_or_none, specs.Cut.Cut, specs.Cut.Interrupted, proofs.Leaving.interrupted_done}
use Rattle.pk_nand.{specs.Calls.longer, specs.Calls.LeftBy, specs.Calls.after_program, specs.Calls.ProgramFailed, specs.Operations.after_erase, specs.Operations.EraseFailed}
use Rattle.pk_nand.proofs.CutLemmas.{interrupted_none}
use Rattle.pk_nand.proofs.Reaching.{Reached-start, Reached-erase, Reached-program, Went-reached, silent_cuts, longer-nil}
use Rattle.pk_model.{specs.Spaces.limits_at, specs.Growth.Grows, specs.Growth.KeepsLimits, specs.Growth.Reaches, specs.Growth.Goes, specs.Crashes.CrashFinds, specs.Crashes.background}
use Rattle.pk_model.proofs.Growing.{at_end}

module _ (shape : Shape) (old : BoardState) (P : Flash → List ℕ → Type 0) (has : old.shape ≡ Some shape) where
  is_shape_of : shape_of old ≡ shape
  is_shape_of = ap shape_or_none has

  -- nothing was done
  pub Reaches-none : (new : BoardState) → new ≡ old → P old.pages [] → Reaches shape old new P
  Reaches-none new same here = ([], Reached-start old new P (ap (λ s. s.shape) same) (ap (λ s. s.pages) same) (ap (λ s. s.trail) same) (ap (λ s. s.posted) same) here, tt)

  -- a mark that gives nothing out, done or interrupted
  module _ (mark : Mark) (silent : posted_by mark ≡ []) (within : (f : Flash) → Interrupted shape mark old.pages f [] → P f [])
      (grows : Grows shape old.pages (after shape mark old.pages)) (limited : (f : Flash) → Interrupted shape mark old.pages f [] → limits_at shape f ≡ limits_at shape old.pages) where
    within_board : (f : Flash) → Interrupted (shape_of old) mark old.pages f [] → P f []
    within_board f cut = within f (subst (λ s. Interrupted s mark old.pages f []) is_shape_of cut)

    keeps : KeepsLimits shape old.pages mark
    keeps f posted cut = limited f (record { same_size = cut.same_size; pages = cut.pages; posted = (posted_by mark, refl) })

    done : P (after (shape_of old) mark old.pages) []
    done = within_board _ (interrupted_done (shape_of old) mark old.pages)

    -- a call that failed
    pub Goes-failed : (new : BoardState) → LeftBy mark old new → new.shape ≡ old.shape → new.posted ≡ old.posted → all_posted (mark ∷ []) ≡ [] → Goes shape old new P
    Goes-failed new left same_shape same_posted none = elim left [
      | inl marked ↦ (
        mark ∷ [],
        record {
          trail = marked.1;
          posted = same_posted ∙ (sym (longer-nil old.posted) ∙ ap (λ t. longer old.posted t) (sym none));
          same_shape = same_shape;
          cuts = silent_cuts (shape_of old) mark old.pages silent P within_board done;
          stands = let T : List ℕ → Type 0 = λ t. Cut (shape_of old) old.pages (mark ∷ []) new.pages t in subst T (sym none) (inl marked.0);
        },
        ((grows, keeps), tt),
      )
      | inr same ↦ ([], Went-reached [] old new P (Reached-start old new P same_shape same.0 same.1 same_posted (within old.pages (interrupted_none shape mark old.pages))), tt)
    ]

  module _ (block : ℕ) (within : (f : Flash) → Interrupted shape (erase block) old.pages f [] → P f [])
      (grows : Grows shape old.pages (after shape (erase block) old.pages)) (limited : (f : Flash) → Interrupted shape (erase block) old.pages f [] → limits_at shape f ≡ limits_at shape old.pages) where
    pub Reaches-erase : (new : BoardState) → new ≡ after_erase old block → Reaches shape old new P
    Reaches-erase new made =
        let Q : BoardState → Type 0 = λ b. Reaches shape old b P in
        subst Q (sym made) (
          erase block ∷ [],
          Reached-erase old P block (within_board (erase block) refl within grows limited) (done (erase block) refl within grows limited),
          ((grows, keeps (erase block) refl within grows limited), tt),
        )

    pub Goes-erase : (new : BoardState) → EraseFailed old new block → Goes shape old new P
    Goes-erase new failed = Goes-failed (erase block) refl within grows limited new failed.left (ap (λ s. s.shape) failed.rest) (ap (λ s. s.posted) failed.rest) refl

  module _ (page : ℕ) (bytes : List ℕ) (within : (f : Flash) → Interrupted shape (program page bytes) old.pages f [] → P f [])
      (grows : Grows shape old.pages (after shape (program page bytes) old.pages))
      (limited : (f : Flash) → Interrupted shape (program page bytes) old.pages f [] → limits_at shape f ≡ limits_at shape old.pages) where
    pub Reaches-program : (new : BoardState) → new ≡ after_program old page bytes → Reaches shape old new P
    Reaches-program new made =
        let Q : BoardState → Type 0 = λ b. Reaches shape old b P in
        subst Q (sym made) (
          program page bytes ∷ [],
          Reached-program old P page bytes (within_board (program page bytes) refl within grows limited) (done (program page bytes) refl within grows limited),
          ((grows, keeps (program page bytes) refl within grows limited), tt),
        )

    pub Goes-program : (new : BoardState) → ProgramFailed old new page bytes → Goes shape old new P
    Goes-program new failed = Goes-failed (program page bytes) refl within grows limited new failed.left (ap (λ s. s.shape) failed.rest) (ap (λ s. s.posted) failed.rest) refl

-- ---- two parts of a run that holds a map throughout

module _ (shape : Shape) (m : Map) (a b c : BoardState) (has : a.shape ≡ Some shape) (begun : Reaches shape a b (CrashFinds shape background a.pages m)) where
  nothing_posted : all_posted begun.0 ≡ []
  nothing_posted = (at_end begun.0 a b (CrashFinds shape background a.pages m) begun.1).0

  behind : (f : Flash) (q : List ℕ) → CrashFinds shape background a.pages m f q → CrashFinds shape background a.pages m f (all_posted begun.0 ++ q)
  behind f q holds = (ap (λ t. t ++ q) nothing_posted ∙ holds.0, holds.1)
