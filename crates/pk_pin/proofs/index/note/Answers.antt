use Rattle.std.proofs.Common.{◌≡◌, ◌∙◌, ℕ, ap, length}
use Rattle.pk_homes.{specs.Hash.hash_of_cell, specs.Homes.home_of}
use Rattle.pk_pin.specs.Index.{hash_in}
use Rattle.pk_pin.proofs.index.note.Goals as goal

pub returns : goal.returns
returns c =
    let here : c.home-at.result ≡ home_of (hash_in c.args.page.now c.args.i) (length c.args.table.now) =
    c.home-at.ensures.place ∙ ap (λ (h : ℕ). home_of h (length c.args.table.now)) (c.hash_cell.ensures ∙ ap hash_of_cell c.cell_of.ensures.value) in
    rw here at c.add.ensures
