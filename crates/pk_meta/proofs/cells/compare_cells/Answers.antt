use Rattle.std.proofs.Common.{◌≡◌, ◌+◌, ◌-◌, arith, sym, ap, subst, ◌∙◌, ℕ, List, ◌∷◌, take, drop, get_or}
use Rattle.pk_base.{specs.Key.IsKey, specs.Key.key_cmp, specs.Entry.key_of, specs.EntryBytes.entry_at, proofs.EntryLemmas.key_of_at}
use Rattle.pk_meta.proofs.CellLemmas.{cell_len, cell_size, cell_space, cell_is_key}
use Rattle.pk_meta.proofs.cells.compare_cells.Goals as goal

end_is : (size : ℕ) → 4 + size - 4 ≡ size
end_is size = omega arith

pub bounds-b-0 : goal.bounds-b-0
bounds-b-0 c = omega (arith, cell_len c.args.b.now c.requires.right)

pub bounds-b-2 : goal.bounds-b-2
bounds-b-2 c = omega (arith, cell_len c.args.b.now c.requires.right)

pub overflow_add-b : goal.overflow_add-b
overflow_add-b c = let h = cell_space c.args.b.now c.requires.right in omega (arith, h)

pub slice_bounds-of-end : goal.slice_bounds-of-end
slice_bounds-of-end c = let h = cell_size c.args.b.now c.requires.right in let l = cell_len c.args.b.now c.requires.right in omega (arith, h, l)

pub of-key-requires : goal.of-key-requires
of-key-requires c =
    let b : List ℕ = c.args.b.now in
    subst (λ (n : ℕ). IsKey ((get_or b 2 0 + 1) ∷ take n (drop 4 b))) (sym (end_is (get_or b 0 0))) (cell_is_key b c.requires.right)

pub compare_cell-requires : goal.compare_cell-requires
compare_cell-requires c = let h = cell_size c.args.a.now c.requires.left in let l = cell_len c.args.a.now c.requires.left in omega (arith, h, l)

pub returns : goal.returns
returns c =
    let b : List ℕ = c.args.b.now in
    let key : c.of-key.result ≡ key_of (entry_at b) =
    c.of-key.ensures ∙ ap (λ (n : ℕ). (get_or b 2 0 + 1) ∷ take n (drop 4 b)) (end_is (get_or b 0 0)) ∙ sym (key_of_at b) in
    c.compare_cell.ensures ∙ (λ i. key_cmp (sym (key_of_at c.args.a.now) i) (key i))
