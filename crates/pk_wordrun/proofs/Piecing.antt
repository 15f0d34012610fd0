-- A piece of a list whose command was served.
use Rattle.std.proofs.Common.{◌≡◌, ◌∙◌, ap, refl, subst, sym, true, ℕ, List, [], Option}
use Rattle.pk_base.{specs.Map.Map, specs.Shape.Shape}
use Rattle.pk_nand.specs.BoardState.{BoardState}
use Rattle.pk_model.{specs.Reading.reading, specs.Reading.Holds, specs.Run.Exchange}
use Rattle.pk_call.specs.Calling.{only_looks}
use Rattle.pk_serve.specs.Serving.{StepWithin}
use Rattle.pk_port.specs.Steps.{Mounted, Serves, seen}
use Rattle.pk_words.{specs.Listing.Piece, specs.Listing.asked_at, specs.declared.listing.ListPosition.ListPosition}
use Rattle.pk_words.specs.declared.listing.ListPosition.TheVariants.{First, From, After}
use Rattle.pk_wordrun.specs.Pieces.{PieceAsked}

piece_looks : (place : ListPosition) → only_looks (asked_at place).opcode ≡ true
piece_looks First = refl
piece_looks (From key) = refl
piece_looks (After key) = refl

module _ (shape : Shape) (old new : Mounted) (place : ListPosition) (x : Exchange) (s : Serves shape old new (asked_at place) x) where
  -- the map is unchanged
  step_same : (m : Map) → Holds shape old.board.pages m → StepWithin shape old.terms m x m
  step_same m holds =
      let held : Holds shape old.board.pages s.map = s.held in
      let before : s.map ≡ m = cc in
      let left : Holds shape old.board.pages s.left = ap (λ f. reading shape f []) (sym (ap (λ (b : BoardState). b.pages) (s.looks (piece_looks place)))) ∙ s.holds in
      let after : s.left ≡ m = cc in
      subst (λ (l : Map). StepWithin shape old.terms m x l) after (subst (λ (k : Map). StepWithin shape old.terms k x s.left) before s.step)

  pub piece_asked : (next : Option ListPosition) (text : List ℕ) → Piece (seen shape old 0) (seen shape new 0) place next text
      → PieceAsked shape old.terms old.board new.board place next text
  piece_asked next text piece =
      let T : Mounted → Type 0 = λ m. Piece (seen shape old 0) (seen shape m 0) place next text in
      record { piece = subst T s.new_is piece; x = x; is = s.is; step = step_same; metered = s.metered; reads = s.looks (piece_looks place); up = s.up }
