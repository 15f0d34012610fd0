use Rattle.std.proofs.Common.{◌∙◌, arith}
use Rattle.pk_base.specs.Shape.{IsShape}
use Rattle.pk_plan.specs.declared.owner.Owner.{Owner}
use Rattle.pk_plan.specs.declared.owner.Owner.TheVariants.{Journal, Meta, Values}
use Rattle.pk_scan.proofs.Naming.{may_epochs, may_runs, names_owned, none_used, two_newest, runs_are_four}
use Rattle.pk_scan.proofs.adopt.adopt_blocks.Goals as goal

pub adopt_epochs-requires : goal.adopt_epochs-requires
adopt_epochs-requires g c =
    let is : IsShape c.args.root.now.shape = rw c.shape.ensures at c.known.ensures in
    let root = c.args.root.now.root in
    record { two = two_newest c.args.root.now.shape root is c.requires.root; may = may_epochs c.args.root.now.shape root is c.requires.root c.args.pool.now c.requires.unused }

pub adopt_runs-requires : goal.adopt_runs-requires
adopt_runs-requires g c =
    let is : IsShape c.args.root.now.shape = rw c.shape.ensures at c.known.ensures in
    let root = c.args.root.now.root in
    record {
      four = runs_are_four c.args.root.now.shape root is c.requires.root;
      may = may_runs c.args.root.now.shape root is c.requires.root c.args.pool.now c.adopt_epochs.new.pool c.requires.unused c.adopt_epochs.ensures;
    }

pub returns : goal.returns
returns g c =
    let is : IsShape c.args.root.now.shape = rw c.shape.ensures at c.known.ensures in
    let named = names_owned c.args.root.now.root c.args.pool.now c.adopt_epochs.new.pool c.adopt_runs.new.pool c.adopt_epochs.ensures c.adopt_runs.ensures in
    let none = λ (o : Owner). none_used c.args.root.now.shape c.args.root.now.root is c.requires.root o c.args.pool.now c.requires.unused in
    record { named = named; journal = omega (arith, named.journal, none Journal); meta = omega (arith, named.meta, none Meta); values = named.values ∙ none Values }
