use Rattle.std.proofs.Common.{◌∙◌, ◌+◌, ◌-◌, ◌/◌, ℕ, arith, sym, subst}
use Rattle.pk_meta.proofs.FindLemmas.{Narrowed, place_key, to_right, to_left, nowhere, all_of}
use Rattle.pk_base.proofs.KeyLemmas.{same_key}
use Rattle.pk_meta.proofs.halving.place_of.Goals as goal

pub loop-low-preserved-in-Less : goal.loop-low-preserved-in-Less
loop-low-preserved-in-Less c = record {
  narrowed = to_right c.args.shape.now c.args.page.now c.args.key.now c.known.ensures c.requires.decodes c.loop-low.low c.loop-low.high _ c.loop-low.invariant.narrowed (omega arith)
      (sym c.compare_at.ensures ∙ c.in-Less.is);
}

pub loop-low-preserved : goal.loop-low-preserved
loop-low-preserved c = record {
  narrowed = to_left c.args.shape.now c.args.page.now c.args.key.now c.known.ensures c.requires.decodes c.loop-low.low c.loop-low.high _ c.loop-low.invariant.narrowed (omega arith) (omega arith)
      (sym c.compare_at.ensures ∙ c.in-Greater.is);
}

pub loop-low-init : goal.loop-low-init
loop-low-init c = record {
  narrowed = subst (λ (n : ℕ). Narrowed c.args.key.now c.args.page.now 0 n) (sym c.get_u16-high.ensures) (all_of c.args.key.now c.args.page.now);
}

pub returns-in-Equal : goal.returns-in-Equal
returns-in-Equal c =
    let middle : ℕ = c.loop-low.low + (c.loop-low.high - c.loop-low.low) / 2 in (
      omega (arith, c.loop-low.invariant.narrowed.end, c.loop-low-test.true),
      same_key (place_key c.args.page.now middle) c.args.key.now (sym c.compare_at.ensures ∙ c.in-Equal.is),
    )

pub returns : goal.returns
returns c =
    nowhere c.args.shape.now c.args.page.now c.args.key.now c.known.ensures c.loop-low.low c.loop-low.high c.loop-low.invariant.narrowed (omega arith)
