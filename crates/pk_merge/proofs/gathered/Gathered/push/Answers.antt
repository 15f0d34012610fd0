use Rattle.std.proofs.Common.{◌≡◌, ◌+◌, ◌*◌, ◌<◌, ◌≤◌, ℕ, List, length, sym, ap, subst, ◌∙◌, arith, refl}
use Rattle.pk_base.{specs.Shape.Shape, specs.Shape.IsShape, specs.Shape.page_entries, specs.EntryBytes.entries_from, proofs.WriteLemmas.slice_len}
use Rattle.pk_meta.proofs.CellLemmas.{cell_len}
use Rattle.pk_merge.{specs.Gathering.HasGathered, proofs.Filling.many_from, proofs.Filling.pushed, proofs.Filling.part_written}
use Rattle.pk_merge.proofs.gathered.Gathered.push.Goals as goal

-- a page that is not full has room for the bytes of an entry
fits : (shape : Shape) (n : ℕ) (items : List ℕ) → IsShape shape → length items ≡ shape.page_bytes → length (entries_from 32 n items) < page_entries shape
    → (n < page_entries shape) × (64 + 32 * n ≤ length items)
fits shape n items is sized less =
    let least = is.page_least in
    let room = subst (λ (k : ℕ). k < page_entries shape) (many_from 32 n items) less in
    (room, omega (arith, least, sized, room))

pub slice_bounds-copy_from_slice-end : goal.slice_bounds-copy_from_slice-end
slice_bounds-copy_from_slice-end g c =
    let less = rw (← c.self.view_is) at c.requires.room in
    let f = fits c.self.inside.shape c.self.inside.count c.self.inside.page.items c.known.ensures c.self.invariant.sized less in
    let h = f.1 in
    let same = ap length c.deref_mut.ensures.value in
    omega (arith, h, same)

pub copy_from_slice-requires : goal.copy_from_slice-requires
copy_from_slice-requires g c =
    let less = rw (← c.self.view_is) at c.requires.room in
    let f = fits c.self.inside.shape c.self.inside.count c.self.inside.page.items c.known.ensures c.self.invariant.sized less in
    let h = f.1 in
    let same = ap length c.deref_mut.ensures.value in
    slice_len (32 + 32 * c.self.inside.count) c.deref_mut.result.now (omega (arith, h, same)) ∙ sym (cell_len c.args.cell.now c.requires.cell)

pub invariant_of-self : goal.invariant_of-self
invariant_of-self g c =
    let less = rw (← c.self.view_is) at c.requires.room in
    let f = fits c.self.inside.shape c.self.inside.count c.self.inside.page.items c.known.ensures c.self.invariant.sized less in
    let h = f.1 in
    let w = part_written c.self.inside.page.len (32 + 32 * c.self.inside.count) c.self.inside.page.items c.deref_mut.result.now c.copy_from_slice.new.self c.args.cell.now
    c.deref_mut.ensures.value c.copy_from_slice.ensures.after c.deref_mut.ensures.len (omega (arith, h)) (cell_len c.args.cell.now c.requires.cell) in
    subst (λ (page : List ℕ). HasGathered c.self.inside.shape (c.self.inside.count + 1) page) (sym w.0)
    (pushed c.self.inside.shape c.known.ensures c.self.inside.count c.self.inside.page.items c.self.invariant c.args.cell.now c.requires.cell f.0 _ w.1 refl).1

pub returns-clause-entries : goal.returns-clause-entries
returns-clause-entries g c =
    let less = rw (← c.self.view_is) at c.requires.room in
    let f = fits c.self.inside.shape c.self.inside.count c.self.inside.page.items c.known.ensures c.self.invariant.sized less in
    let h = f.1 in
    let w = part_written c.self.inside.page.len (32 + 32 * c.self.inside.count) c.self.inside.page.items c.deref_mut.result.now c.copy_from_slice.new.self c.args.cell.now
    c.deref_mut.ensures.value c.copy_from_slice.ensures.after c.deref_mut.ensures.len (omega (arith, h)) (cell_len c.args.cell.now c.requires.cell) in
    rw (← c.self.view_is) (ap (λ (page : List ℕ). entries_from 32 (c.self.inside.count + 1) page) w.0
    ∙ (pushed c.self.inside.shape c.known.ensures c.self.inside.count c.self.inside.page.items c.self.invariant c.args.cell.now c.requires.cell f.0 _ w.1 refl).0)
