-- What was found under a root, list by list.
use Rattle.std.proofs.Common.{◌≡◌, ℕ, ◌-◌, subst, ◌∙◌, Bool, true, false, ◌||◌, ◌==◌, T, List, [], length, nat_le, Ok, eqb→eq}
use Rattle.std.proofs.lemmas.List.{nil_from_length}
use Rattle.pk_base.{specs.Shape.Shape, specs.Page.Page, specs.Page.page_in, specs.Entry.Entry, specs.Refusal.ensure, proofs.Logic.ok_same, proofs.Logic.passed}
use Rattle.pk_rootfmt.specs.Root.{Root}
use Rattle.pk_jrnfmt.specs.Epoch.{epoch}
use Rattle.pk_model.{specs.RootLimits.root_spaces, specs.Found.Found, specs.Found.newest_epoch, specs.Found.found_under, proofs.StrangePages.bind_ok}
use Rattle.pk_law_steps.proofs.FourRuns.{pieces_of}

-- ---- the entries of the newest epoch

pub newest_found : (shape : Shape) (at : ℕ → Page) (root : Root) (found : Found) → found_under shape at root ≡ Ok found → newest_epoch shape at root ≡ Ok found.newest
newest_found shape at root found is = (pieces_of shape at root found is).newest

-- ---- an older epoch without entries is not named

or_false : (b : Bool) → T (b || false) → T b
or_false true t = tt
or_false false t = t

pub none_named : (shape : Shape) (at : ℕ → Page) (root : Root) (found : Found) → found_under shape at root ≡ Ok found → found.older ≡ [] → root.older ≡ []
none_named shape at root found is none =
    let es = bind_ok (epoch shape (root_spaces shape root) at (root.epoch - 1) root.older) _ found.older (pieces_of shape at root found is).older in
    let tested = bind_ok (ensure (length root.older == 0 || nat_le 1 (length es.0)) (page_in shape root.older 0)) _ found.older es.2 in
    let empty : es.0 ≡ [] = ok_same es.0 found.older tested.2 ∙ none in
    let passes : T (length root.older == 0 || nat_le 1 (length es.0)) = passed _ _ tested.0 tested.1 in
    nil_from_length root.older (eqb→eq _ _ (or_false (length root.older == 0) (subst (λ (xs : List Entry). T (length root.older == 0 || nat_le 1 (length xs))) empty passes)))
