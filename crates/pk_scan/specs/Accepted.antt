-- A value as the next one that the reading of a flash reaches.
use Rattle.std.specs.Prelude.{◌≡◌, ℕ, suc, ◌-◌, List, [], ◌∷◌, ◌++◌, true, Ok, Err, if◌then◌else◌}
use Rattle.pk_base.{specs.Key.Key, specs.Shape.Shape, specs.Entry.Place, specs.Page.Flash, specs.Page.page_at, specs.Refusal.damaged, specs.Refusal.◌>>=◌}
use Rattle.pk_nand.{specs.BoardState.BoardState, specs.Counts.after_reads}
use Rattle.pk_segfmt.specs.Value.{value_at}
use Rattle.pk_model.specs.Values.{fits_after, values_of}
use Rattle.pk_scan.{specs.Checked.Faulted, specs.declared.errors.PageError.PageError, specs.declared.errors.PageError.TheVariants.Damaged, specs.declared.errors.PageError.TheVariants.Fault}

-- After the values that were taken, the reading finds this one and goes on with the others.
pub record Accepted (shape : Shape) (flash : Flash) (limits named : List ℕ) (taken : List (Key × Place)) (key : Key) (place : Place) : Type 0 where
  pub value : List ℕ
  pub found : value_at shape (page_at flash) key place ≡ Ok value
  pub goes_on : (rest : List (Key × Place))
      → values_of shape (page_at flash) limits named taken ((key, place) ∷ rest)
      ≡ (values_of shape (page_at flash) limits named (taken ++ (key, place) ∷ []) rest >>= (λ others. Ok ((key, value) ∷ others)))

-- The reading refuses this value with the page. Its pages were read up to this one, or none if they may not be taken.
pub record RefusedWith (shape : Shape) (old new : BoardState) (limits named : List ℕ) (taken : List (Key × Place)) (key : Key) (place : Place) (page : ℕ) : Type 0 where
  pub refusal : (rest : List (Key × Place)) → values_of shape (page_at old.pages) limits named taken ((key, place) ∷ rest) ≡ Err (damaged page)
  pub board : new ≡ (if fits_after shape limits named taken (key, place) then after_reads (suc (page - place.page)) old else old)

-- why the value was not accepted
abbrev pub NotAccepted : Shape → BoardState → BoardState → List ℕ → List ℕ → List (Key × Place) → Key → Place → PageError → Type 0
NotAccepted shape old new limits named taken key place (Damaged page) = RefusedWith shape old new limits named taken key place page
NotAccepted shape old new limits named taken key place Fault = (fits_after shape limits named taken (key, place) ≡ true) × Faulted shape old new key place
