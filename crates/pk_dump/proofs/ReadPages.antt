-- Pages that are read into memory, one after another.
use Rattle.std.proofs.Common.{◌≡◌, ◌<◌, ◌+◌, ℕ, List, length, zero, suc, arith, take, ◌++◌, [], ◌∷◌, All, refl, sym, ◌∙◌, ap}
use Rattle.std.proofs.Math.Seq.{take-suc}
use Rattle.std.{proofs.Math.Numerals.add-one, proofs.lemmas.List.map-append, proofs.lemmas.List.Elements.All-append, proofs.lemmas.Option.unwrap_or-slice_get}
use Rattle.pk_base.{specs.Shape.Shape, specs.Page.Page, specs.Page.Flash, specs.Page.page_at, specs.Page.erased, specs.Page.whole, specs.Page.torn, specs.Page.IsFlash}
use Rattle.pk_nand.{specs.Seen.answer, specs.Seen.state, specs.Seen.states, specs.Operations.filled, specs.declared.types.PageState.PageState, specs.declared.types.PageRead.PageRead}
use Rattle.pk_dump.specs.Pages.{IsFullPage, AreFull, read_as}

-- what a read finds and leaves in the buffer is the page
pub read_as-answer : (page : Page) (old : List ℕ) → read_as (answer page) (filled page old) ≡ page
read_as-answer erased old = refl
read_as-answer (whole bytes) old = refl
read_as-answer torn old = refl

pub page_read : (page seen : Page) (old new : List ℕ) (found : PageRead) → found ≡ answer page → new ≡ filled page old → seen ≡ read_as found new → seen ≡ page
page_read page seen old new found is left seen_is = rw (is, left) at seen_is ∙ read_as-answer page old

-- a page of a flash is full
pub full_page : (shape : Shape) (flash : Flash) (at : ℕ) (page : Page) → IsFlash shape flash → page ≡ page_at flash at → IsFullPage shape page
full_page shape flash at page fits is bytes whole_is = (fits.full at bytes (sym is ∙ whole_is)).0

-- ---- one page after another

pub states_next : (pages : List PageState) (p : PageState) (flash : Flash) (k : ℕ) → k < length flash → states pages ≡ take k flash → state p ≡ page_at flash k
    → states (pages ++ p ∷ []) ≡ take (k + 1) flash
states_next pages p flash k inside so_far is =
    map-append state pages (p ∷ []) ∙ ap (λ (xs : Flash). xs ++ state p ∷ []) so_far ∙ ap (λ (x : Page). take k flash ++ x ∷ []) (is ∙ unwrap_or-slice_get flash k torn)
    ∙ sym (take-suc flash k torn inside) ∙ ap (λ (n : ℕ). take n flash) (sym (add-one k))

pub full_next : (shape : Shape) (pages : List PageState) (p : PageState) → AreFull shape pages → IsFullPage shape (state p) → AreFull shape (pages ++ p ∷ [])
full_next shape pages p full one = All-append (λ page. IsFullPage shape (state page)) pages (p ∷ []) full alone
  where
    alone : All (λ page. IsFullPage shape (state page)) (p ∷ [])
    alone zero d inside = one
    alone (suc k) d inside = absurd (omega (arith, inside))
