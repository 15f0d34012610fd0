-- Entries that pass their test are of namespaces of the format.
use Rattle.std.{proofs.Common.◌≡◌, proofs.Common.ℕ, proofs.Common.◌≤◌, proofs.Common.T, proofs.Common.List, proofs.Common.[], proofs.Common.◌∷◌, proofs.Common.le→leb, specs.List.AllByRecursion}
use Rattle.pk_base.{specs.declared.sizes.TheConstants.MOST_SPACES, specs.Shape.Shape, specs.Entry.Entry, specs.EntryChecks.IsEntry, proofs.EntryLemmas.key_is_key, proofs.Logic.both}
use Rattle.pk_space.specs.Entries.{in_spaces}

pub in_most_spaces : (shape : Shape) (es : List Entry) → AllByRecursion (IsEntry shape) es → T (in_spaces MOST_SPACES es)
in_most_spaces shape [] all = tt
in_most_spaces shape (e ∷ es) all = both _ _ (le→leb _ _ (key_is_key shape e all.0).space_most) (in_most_spaces shape es all.1)
