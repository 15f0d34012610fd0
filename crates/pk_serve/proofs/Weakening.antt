-- What holds at every cut, weakened.
use Rattle.std.proofs.Common.{ℕ, List}
use Rattle.pk_base.{specs.Shape.Shape, specs.Page.Flash}
use Rattle.pk_nand.specs.BoardState.{BoardState}
use Rattle.pk_model.{specs.Growth.Reaches, specs.Growth.Goes, proofs.Growing.weaken, proofs.Growing.weaken_went}

pub reaches_as : (shape : Shape) (a b : BoardState) {P Q : Flash → List ℕ → Type 0} → ((f : Flash) (q : List ℕ) → P f q → Q f q) → Reaches shape a b P → Reaches shape a b Q
reaches_as shape a b {P = P} {Q = Q} up reached = (reached.0, weaken reached.0 a b P Q up reached.1, reached.2)

pub goes_as : (shape : Shape) (a b : BoardState) {P Q : Flash → List ℕ → Type 0} → ((f : Flash) (q : List ℕ) → P f q → Q f q) → Goes shape a b P → Goes shape a b Q
goes_as shape a b {P = P} {Q = Q} up went = (went.0, weaken_went went.0 a b P Q up went.1, went.2)
