use Rattle.std.proofs.Common.{◌≡◌, ◌∙◌, ◌+◌, ◌*◌, ◌<◌, ◌≤◌, ◌∷◌, [], List, ℕ, map, ap, sym, subst, arith, length, take, drop, get_or, refl, Some}
use Rattle.pk_base.{specs.Shape.Shape, specs.Shape.IsShape, specs.Shape.run_blocks, specs.Shape.meta_blocks, specs.Fields.u16_at, specs.FieldFaults.u64_at}
use Rattle.pk_rootfmt.{specs.Root.parts, specs.Root.u16s_at, specs.Root.page_limits, specs.Root.list_from, proofs.PageLemmas.Journal}
use Rattle.pk_rootfmt.{specs.Held.Held, specs.Held.total, proofs.RunLemmas.total_small, proofs.RunLemmas.whole}
use Rattle.pk_rootfmt.proofs.FillLemmas.{sizes_at, journal_facts, sizes_fit, sizes_room, filled, limit_facts, limits_few}
use Rattle.pk_rootfmt.{proofs.root.Root.fill.Given.Over, proofs.root.Root.fill.Goals.After-list_from-from}
use Rattle.pk_rootfmt.proofs.root.Root.fill.Goals as goal

-- what a page that passes says of its lists, once the shape and the sizes are known
module _ (g : Over) (c : After-list_from-from g) (fits : (i : ℕ) → get_or c.args.page.now i 0 < 256) where
  same : c.self.inside.shape ≡ c.args.self.now.shape
  same = ap (λ (h : Held). h.shape) c.self.view_is

  shape_is : IsShape c.args.self.now.shape
  shape_is = subst IsShape same c.known.ensures

  sizes_is : c.sizes_of-sizes.result ≡ sizes_at c.args.self.now.shape c.args.page.now
  sizes_is = c.sizes_of-sizes.ensures ∙ (λ i. map (run_blocks (same i)) (c.get_u32.ensures i ∷ c.get_u32-2.ensures i ∷ c.get_u32-3.ensures i ∷ c.get_u32-4.ensures i ∷ []))

  journal : Journal c.args.page.now (list_from c.args.page.now) (u16_at c.args.page.now 18) (u64_at c.args.page.now 32)
  journal = journal_facts c.args.self.now.shape c.args.page.now fits c.requires.sized shape_is c.requires.passes

  few : total (sizes_at c.args.self.now.shape c.args.page.now) ≤ meta_blocks c.args.self.now.shape
  few = sizes_fit c.args.self.now.shape c.args.page.now fits c.requires.sized shape_is c.requires.passes

  room : list_from c.args.page.now + 2 * u16_at c.args.page.now 18 + 2 * total (sizes_at c.args.self.now.shape c.args.page.now) ≤ length c.args.page.now
  room = sizes_room c.args.self.now.shape c.args.page.now fits c.requires.sized shape_is c.requires.passes

pub overflow_add-from : goal.overflow_add-from
overflow_add-from g c =
    let at = (goal.at.overflow_add-from g c).After-list_from-from in
    let fits : (i : ℕ) → get_or c.args.page.now i 0 < 256 = λ i. omega (arith, c.type_inv.page i) in
    omega (arith, room g at fits, c.get_u16-journal.ensures, c.list_from-from.ensures, c.requires.sized, (shape_is g at fits).page_most)

pub read_blocks-requires-clause-there : goal.read_blocks-requires-clause-there
read_blocks-requires-clause-there g c =
    let at = (goal.at.read_blocks-requires-clause-there g c).After-list_from-from in
    let fits : (i : ℕ) → get_or c.args.page.now i 0 < 256 = λ i. omega (arith, c.type_inv.page i) in
    omega (arith, room g at fits, c.get_u16-journal.ensures, c.list_from-from.ensures)

pub read_blocks-requires-clause-room : goal.read_blocks-requires-clause-room
read_blocks-requires-clause-room g c =
    let at = (goal.at.read_blocks-requires-clause-room g c).After-list_from-from in
    let fits : (i : ℕ) → get_or c.args.page.now i 0 < 256 = λ i. omega (arith, c.type_inv.page i) in
    let most = (journal g at fits).most in omega (arith, most, c.get_u16-journal.ensures, c.self.invariant.epochs_room)

pub total-requires : goal.total-requires
total-requires g c =
    let at = (goal.at.total-requires g c).After-list_from-from in
    let fits : (i : ℕ) → get_or c.args.page.now i 0 < 256 = λ i. omega (arith, c.type_inv.page i) in
    omega (arith, ap total (sizes_is g at fits), total_small c.args.self.now.shape (total (sizes_at c.args.self.now.shape c.args.page.now)) (shape_is g at fits) (few g at fits))

pub read_blocks-requires-2-clause-there : goal.read_blocks-requires-2-clause-there
read_blocks-requires-2-clause-there g c =
    let at = (goal.at.read_blocks-requires-2-clause-there g c).After-list_from-from in
    let fits : (i : ℕ) → get_or c.args.page.now i 0 < 256 = λ i. omega (arith, c.type_inv.page i) in
    omega (arith, room g at fits, c.get_u16-journal.ensures, c.total.ensures, ap total (sizes_is g at fits), c.list_from-from.ensures)

pub read_blocks-requires-2-clause-room : goal.read_blocks-requires-2-clause-room
read_blocks-requires-2-clause-room g c =
    let at = (goal.at.read_blocks-requires-2-clause-room g c).After-list_from-from in
    let fits : (i : ℕ) → get_or c.args.page.now i 0 < 256 = λ i. omega (arith, c.type_inv.page i) in
    omega (arith, few g at fits, ap total (sizes_is g at fits), c.total.ensures, ap length c.deref_mut.ensures.value, c.self.invariant.room, ap meta_blocks (same g at fits))

pub invariant_of-self : goal.invariant_of-self
invariant_of-self g c =
    let at = (goal.at.invariant_of-self g c).After-list_from-from in
    let fits : (i : ℕ) → get_or c.args.page.now i 0 < 256 = λ i. omega (arith, c.type_inv.page i) in
    let sized : length c.read_blocks-2.new.into ≡ length c.self.inside.blocks.items = c.read_blocks-2.ensures.len ∙ ap length c.deref_mut.ensures.value in
    let even = (journal g at fits).even in
    record {
      epochs_room = c.read_blocks.ensures.len ∙ c.self.invariant.epochs_room;
      epochs_fit = rw c.get_u16-journal.ensures even;
      four_counts = refl;
      four = ap length (sizes_is g at fits);
      room = ap length (whole c.self.inside.blocks.len c.read_blocks-2.new.into c.self.inside.blocks.items sized (omega arith)) ∙ sized ∙ c.self.invariant.room;
      fits = omega (arith, few g at fits, ap total (sizes_is g at fits), ap meta_blocks (same g at fits));
      limits_room = ap length c.limits_in-self-inside.ensures;
      limits_fit = omega (arith, limits_few c.args.self.now.shape c.args.page.now fits c.requires.sized (shape_is g at fits) c.requires.passes, c.spaces_of-self-inside.ensures);
    }

pub returns-clause-root : goal.returns-clause-root
returns-clause-root g c =
    let at = (goal.at.returns-clause-root g c).After-list_from-from in
    let shape : Shape = c.args.self.now.shape in
    let page : List ℕ = c.args.page.now in
    let fits : (i : ℕ) → get_or c.args.page.now i 0 < 256 = λ i. omega (arith, c.type_inv.page i) in
    let sized : length c.read_blocks-2.new.into ≡ length c.self.inside.blocks.items = c.read_blocks-2.ensures.len ∙ ap length c.deref_mut.ensures.value in
    let kept = whole c.self.inside.blocks.len c.read_blocks-2.new.into c.self.inside.blocks.items sized (omega arith) in
    let journal_is = c.get_u16-journal.ensures in
    let count : c.total.result ≡ total (sizes_at shape page) = c.total.ensures ∙ ap total (sizes_is g at fits) in
    let from_is = c.list_from-from.ensures in
    let epochs_read = subst (λ (f : ℕ). take (u16_at page 18) c.read_blocks.new.into ≡ u16s_at (u16_at page 18) (drop f page)) from_is
    (subst (λ (k : ℕ). take k c.read_blocks.new.into ≡ u16s_at k (drop c.list_from-from.result page)) journal_is c.read_blocks.ensures.front) in
    let blocks_read = subst (λ (n : ℕ). take n c.read_blocks-2.new.into ≡ u16s_at n (drop (c.list_from-from.result + 2 * c.get_u16-journal.result) page)) count c.read_blocks-2.ensures.front in
    let runs_read = subst (λ (f : ℕ). take (total (sizes_at shape page)) c.read_blocks-2.new.into ≡ u16s_at (total (sizes_at shape page)) (drop (f + 2 * u16_at page 18) page)) from_is
    (subst (λ (k : ℕ). take (total (sizes_at shape page)) c.read_blocks-2.new.into ≡ u16s_at (total (sizes_at shape page)) (drop (c.list_from-from.result + 2 * k) page)) journal_is blocks_read) in
    let limits_read : take c.spaces_of-self-inside.result c.limits_in-self-inside.result ≡ page_limits page =
    (λ i. take (c.spaces_of-self-inside.ensures i) (c.limits_in-self-inside.ensures i)) ∙ (limit_facts shape page fits c.requires.sized (shape_is g at fits) c.requires.passes).kept in
    filled shape page fits c.requires.sized (shape_is g at fits) c.requires.passes c.read_blocks.new.into c.read_blocks-2.new.into epochs_read runs_read
    ∙ (λ i. Some (record {
      number = sym c.get_u64-self-inside.ensures i;
      epoch = sym c.get_u64-self-inside-2.ensures i;
      newest = take 2 (take (sym journal_is i) c.read_blocks.new.into);
      older = drop 2 (take (sym journal_is i) c.read_blocks.new.into);
      counts = sym c.get_u32.ensures i ∷ sym c.get_u32-2.ensures i ∷ sym c.get_u32-3.ensures i ∷ sym c.get_u32-4.ensures i ∷ [];
      runs = parts (sym (sizes_is g at fits) i) (sym kept i);
      limits = sym limits_read i;
    }))
