-- The pages of an image, one after another.
use Rattle.std.proofs.Common.{◌≡◌, ◌∙◌, ℕ, zero, suc, ◌+◌, List, [], ◌∷◌, ◌++◌, sym, ap, arith, zero-add}
use Rattle.std.proofs.lemmas.List.{map-append}
use Rattle.pk_base.{specs.Shape.Shape, specs.Page.Page, specs.Page.Flash}
use Rattle.pk_image.{specs.Image.page_in_file, specs.Image.pages_in_file}
use Rattle.pk_file.{specs.declared.slot.Slot.Slot, specs.Slots.slot_page, specs.Slots.pages_of}

pages_more : (shape : Shape) (file : List ℕ) (k n : ℕ) → pages_in_file shape file k (suc n) ≡ pages_in_file shape file k n ++ page_in_file shape file (k + n) ∷ []
pages_more shape file k zero = let first : k ≡ k + 0 = omega arith in ap (λ (m : ℕ). page_in_file shape file m ∷ []) first
pages_more shape file k (suc n) =
    let next : (k + 1) + n ≡ k + suc n = omega arith in
    ap (λ (ps : Flash). page_in_file shape file k ∷ ps)
    (pages_more shape file (k + 1) n ∙ ap (λ (m : ℕ). pages_in_file shape file (k + 1) n ++ page_in_file shape file m ∷ []) next)

-- one more slot
pub slots_more : (shape : Shape) (file : List ℕ) (slots : List Slot) (slot : Slot) (i : ℕ) → pages_of slots ≡ pages_in_file shape file 0 i → slot_page slot ≡ page_in_file shape file i
    → pages_of (slots ++ slot ∷ []) ≡ pages_in_file shape file 0 (i + 1)
slots_more shape file slots slot i before own =
    let page : page_in_file shape file i ≡ page_in_file shape file (0 + i) = ap (page_in_file shape file) (sym (zero-add i)) in
    let next : suc i ≡ i + 1 = omega arith in
    map-append slot_page slots (slot ∷ [])
    ∙ (ap (λ (ps : Flash). ps ++ slot_page slot ∷ []) before
    ∙ (ap (λ (p : Page). pages_in_file shape file 0 i ++ p ∷ []) (own ∙ page)
    ∙ (sym (pages_more shape file 0 i) ∙ ap (λ (n : ℕ). pages_in_file shape file 0 n) next)))
