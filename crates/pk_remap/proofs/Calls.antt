-- One call of a board of a known shape: each cut of its mark, if it is done or failed.
use Rattle.std.proofs.Common.{◌≡◌, inl, inr, ℕ, List, [], ◌∷◌, sym, subst}
use Rattle.pk_base.{specs.Shape.Shape, specs.Page.Flash, specs.Mark.Mark, specs.Mark.program, specs.Mark.erase, specs.Mark.after}
use Rattle.pk_nand.{specs.BoardState.BoardState, specs.BoardState.shape_of, specs.Cut.Interrupted, specs.Calls.IsReady, specs.Calls.after_program, specs.Calls.ProgramFailed, specs.Calls.LeftBy}
use Rattle.pk_nand.{specs.Operations.after_erase, specs.Operations.EraseFailed, specs.Crash.Reached, specs.Crash.Went, proofs.CutLemmas.interrupted_none, proofs.Leaving.interrupted_done}
use Rattle.pk_nand.{proofs.Reaching.Reached-program, proofs.Reaching.Reached-erase, proofs.Reaching.Went-program_failed, proofs.Reaching.Went-erase_failed, proofs.Writing.shape_is}

module _ (old : BoardState) (shape : Shape) (ready : IsReady old shape) (P : Flash → Type 0) where
  abbrev own : (flash : Flash) (mark : Mark) → Interrupted (shape_of old) mark old.pages flash [] → Interrupted shape mark old.pages flash []
  own flash mark i = let T : Shape → Type 0 = λ s. Interrupted s mark old.pages flash [] in subst T (shape_is old shape ready) i

  module _ (at : ℕ) (bytes : List ℕ) (within : (flash : Flash) → Interrupted shape (program at bytes) old.pages flash [] → P flash) where
    done_program : P (after_program old at bytes).pages
    done_program = within (after_program old at bytes).pages
        (own (after_program old at bytes).pages (program at bytes) (interrupted_done (shape_of old) (program at bytes) old.pages))

    pub program_reached : (new : BoardState) → new ≡ after_program old at bytes → Reached old new (λ flash _. P flash)
    program_reached new is =
        let T : BoardState → Type 0 = λ s. Reached old s (λ flash _. P flash) in
        subst T (sym is) (
          program at bytes ∷ [],
          Reached-program old (λ flash _. P flash) at bytes (λ flash i. within flash (own flash (program at bytes) i)) done_program,
        )

    pub program_went : (new : BoardState) → ProgramFailed old new at bytes → Went old new (λ flash _. P flash)
    program_went new failed = Went-program_failed old (λ flash _. P flash) new at bytes failed
        (λ flash i. within flash (own flash (program at bytes) i)) done_program

  module _ (block : ℕ) (within : (flash : Flash) → Interrupted shape (erase block) old.pages flash [] → P flash) where
    done_erase : P (after_erase old block).pages
    done_erase = within (after_erase old block).pages
        (own (after_erase old block).pages (erase block) (interrupted_done (shape_of old) (erase block) old.pages))

    pub erase_reached : (new : BoardState) → new ≡ after_erase old block → Reached old new (λ flash _. P flash)
    erase_reached new is =
        let T : BoardState → Type 0 = λ s. Reached old s (λ flash _. P flash) in
        subst T (sym is) (erase block ∷ [], Reached-erase old (λ flash _. P flash) block (λ flash i. within flash (own flash (erase block) i)) done_erase)

    pub erase_went : (new : BoardState) → EraseFailed old new block → Went old new (λ flash _. P flash)
    erase_went new failed = Went-erase_failed old (λ flash _. P flash) new block failed (λ flash i. within flash (own flash (erase block) i)) done_erase

-- what a failed call left is what its interrupted mark may leave
pub left_interrupted : (old new : BoardState) (shape : Shape) (mark : Mark)
    → IsReady old shape → LeftBy mark old new → Interrupted shape mark old.pages new.pages []
left_interrupted old new shape mark ready left =
    let T : Shape → Type 0 = λ s. Interrupted s mark old.pages new.pages [] in
    let U : Flash → Type 0 = λ f. Interrupted shape mark old.pages f [] in
    elim left [
      | inl marked ↦ subst T (shape_is old shape ready) marked.0
      | inr same ↦ subst U (sym same.0) (interrupted_none shape mark old.pages)
    ]

-- the flash after a call is what its interrupted mark may leave, too
pub done_interrupted : (old : BoardState) (shape : Shape) (mark : Mark) (flash : Flash) → IsReady old shape
    → flash ≡ after (shape_of old) mark old.pages → Interrupted shape mark old.pages flash []
done_interrupted old shape mark flash ready is =
    let T : Shape → Type 0 = λ s. Interrupted s mark old.pages (after (shape_of old) mark old.pages) [] in
    let U : Flash → Type 0 = λ f. Interrupted shape mark old.pages f [] in
    subst U (sym is) (subst T (shape_is old shape ready) (interrupted_done (shape_of old) mark old.pages))
