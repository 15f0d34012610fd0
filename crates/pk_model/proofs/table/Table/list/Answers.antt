use Rattle.std.{proofs.Common.◌∙◌, proofs.Common.sym, proofs.Common.ap, proofs.Common.map, proofs.Common.List, proofs.Common.ℕ, proofs.Common.◌∷◌, specs.FinMap.keys}
use Rattle.pk_base.{specs.Key.Key, specs.Map.Map}
use Rattle.pk_model.{specs.Listing.Listing, specs.Listing.offered_all, proofs.Tables.entries-tree}
use Rattle.pk_model.proofs.table.Table.list.Goals as goal

pub returns : goal.returns
returns c =
    let from : Key = c.args.space ∷ c.args.from.now in
    let start : Listing = c.args.page.now in
    let listed : List Key → Listing = λ ks. offered_all from start ks in
    let inside : List (Key × List ℕ) = c.self.inside.entries.entries in
    ap (λ (ks : List Key). offered_all from c.loop-key.page ks) (sym c.in-None.ensures.steps.0) ∙ c.loop-key.invariant
    ∙ ap listed (c.into_iter-key-iterator.ensures.into_iter_gives ∙ c.keys-key-items.ensures.rest)
    ∙ ap (λ (es : List (Key × List ℕ)). listed (map (λ e. e.0) es)) (sym (entries-tree inside c.keys-key-items.ensures.ordered))
    ∙ ap (λ (m : Map). listed (keys m)) c.self.view_is
