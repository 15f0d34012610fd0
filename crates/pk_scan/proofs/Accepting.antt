-- One step of the reading of values.
use Rattle.std.proofs.Common.{◌≡◌, ℕ, suc, ◌-◌, Bool, true, false, List, [], ◌∷◌, ◌++◌, sym, ap, ◌∙◌}
use Rattle.std.specs.Prelude.{Result, Ok, if◌then◌else◌}
use Rattle.pk_base.{specs.Key.Key, specs.Shape.Shape, specs.Entry.Place, specs.Page.Page, specs.Page.Flash, specs.Page.page_at}
use Rattle.pk_base.specs.Refusal.{Refusal, ◌>>=◌, ensure}
use Rattle.pk_nand.{specs.BoardState.BoardState, specs.Counts.after_reads}
use Rattle.pk_segfmt.specs.Value.{value_at}
use Rattle.pk_model.specs.Values.{fits_after, values_of}
use Rattle.pk_scan.{specs.Checked.HasValue, specs.Checked.NotFound, specs.Accepted.Accepted, specs.Accepted.RefusedWith, specs.Accepted.NotAccepted, specs.declared.errors.PageError.PageError}
use Rattle.pk_scan.specs.declared.errors.PageError.TheVariants.{Damaged, Fault}

module _ (shape : Shape) (limits named : List ℕ) (taken : List (Key × Place)) (key : Key) (place : Place) where
  abbrev now : List (Key × Place)
  now = taken ++ (key, place) ∷ []

  abbrev fit : Bool
  fit = fits_after shape limits named taken (key, place)

  module _ (at : ℕ → Page) (rest : List (Key × Place)) where
    -- what is done after the test of the pages, and after the value
    abbrev behind : Result (List ℕ) Refusal → Result (List (Key × List ℕ)) Refusal
    behind value = value >>= (λ v. values_of shape at limits named now rest >>= (λ others. Ok ((key, v) ∷ others)))

    step_is : (b : Bool) → fit ≡ b → values_of shape at limits named taken ((key, place) ∷ rest) ≡ (ensure b place.page >>= (λ t. behind (value_at shape at key place)))
    unfolding values_of
    step_is b e = ap (λ c. ensure c place.page >>= (λ t. behind (value_at shape at key place))) e

  pub accepted : (flash : Flash) → fit ≡ true → HasValue shape flash key place → Accepted shape flash limits named taken key place
  accepted flash passes has = record {
    value = has.0;
    found = has.1;
    goes_on = λ rest. step_is (page_at flash) rest true passes ∙ ap (λ v. behind (page_at flash) rest v) has.1;
  }

  pub refused_untaken : (board : BoardState) → false ≡ fit → RefusedWith shape board board limits named taken key place place.page
  refused_untaken board e = record {
    refusal = λ rest. step_is (page_at board.pages) rest false (sym e);
    board = ap (λ b. if b then after_reads (suc (place.page - place.page)) board else board) e;
  }

  pub refused_value : (old new : BoardState) (e : PageError) → fit ≡ true → NotFound shape old new key place e → NotAccepted shape old new limits named taken key place e
  refused_value old new (Damaged page) passes refused = record {
    refusal = λ rest. step_is (page_at old.pages) rest true passes ∙ ap (λ v. behind (page_at old.pages) rest v) refused.refusal;
    board = refused.board ∙ ap (λ b. if b then after_reads (suc (page - place.page)) old else old) (sym passes);
  }
  refused_value old new Fault passes refused = (passes, refused)
