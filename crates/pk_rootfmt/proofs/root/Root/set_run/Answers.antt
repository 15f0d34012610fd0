use Rattle.std.proofs.Common.{◌≡◌, ◌∙◌, ◌-◌, ◌≤◌, List, ap, sym, subst, arith, length, ℕ}
use Rattle.std.{specs.Prelude.slice_set, specs.List.concat, proofs.lemmas.List.length-set}
use Rattle.pk_base.specs.Shape.{meta_blocks}
use Rattle.pk_rootfmt.{specs.Held.Held, specs.Held.total, specs.Root.parts, proofs.RunLemmas.joined_set, proofs.RunLemmas.whole}
use Rattle.pk_rootfmt.proofs.root.Root.set_run.Goals as goal

pub put_run-requires-clause-room : goal.put_run-requires-clause-room
put_run-requires-clause-room g c =
    let i : ℕ = c.args.level - 1 in
    let new : List ℕ = c.args.blocks.now in
    let inside = c.self.inside in
    let own : length (concat (slice_set (parts inside.sizes inside.blocks.items) i new)) ≤ meta_blocks inside.shape = subst
    (λ (h : Held). length (concat (slice_set h.root.runs i new)) ≤ meta_blocks h.shape) (sym c.self.view_is) c.requires.room in
    omega (arith, own, joined_set inside.sizes inside.blocks.items i new (omega (arith, c.self.invariant.room, c.self.invariant.fits)), c.self.invariant.room, ap length c.deref_mut.ensures.value)

pub invariant_of-self : goal.invariant_of-self
invariant_of-self g c =
    let i : ℕ = c.args.level - 1 in
    let new : List ℕ = c.args.blocks.now in
    let inside = c.self.inside in
    let own : length (concat (slice_set (parts inside.sizes inside.blocks.items) i new)) ≤ meta_blocks inside.shape = subst
    (λ (h : Held). length (concat (slice_set h.root.runs i new)) ≤ meta_blocks h.shape) (sym c.self.view_is) c.requires.room in
    let joined = joined_set inside.sizes inside.blocks.items i new (omega (arith, c.self.invariant.room, c.self.invariant.fits)) in
    let sized : length c.put_run.new.items ≡ length inside.blocks.items = c.put_run.ensures.len ∙ ap length c.deref_mut.ensures.value in
    record {
      epochs_room = c.self.invariant.epochs_room;
      epochs_fit = c.self.invariant.epochs_fit;
      four_counts = length-set inside.entries i c.args.entries ∙ c.self.invariant.four_counts;
      four = ap length c.put_run.ensures.sizes ∙ length-set inside.sizes i (length new) ∙ c.self.invariant.four;
      room = ap length (whole inside.blocks.len c.put_run.new.items inside.blocks.items sized (omega arith)) ∙ sized ∙ c.self.invariant.room;
      fits = omega (arith, ap total c.put_run.ensures.sizes, own, joined);
      limits_room = c.self.invariant.limits_room;
      limits_fit = c.self.invariant.limits_fit;
    }
