-- The replies in one namespace are those of a drive that has it alone.
use Rattle.std.proofs.Common.{◌≡◌, ℕ, ◌+◌, [], ◌∷◌, List, true, false, refl, sym, ◌∙◌, ◌==◌, if◌then◌else◌, arith}
use Rattle.pk_model.specs.Run.{Exchange, faults}
use Rattle.pk_law_isolation.{specs.Isolation.map_alone, specs.Isolation.terms_alone, specs.Isolation.command_alone, specs.Isolation.exchanges_in, specs.Isolation.SameReplies, proofs.Fixing.fixed}
use Rattle.pk_law_isolation.proofs.Isolating.{isolated}

-- a run without read errors has none in a namespace
faults_in : (space : ℕ) (xs : List Exchange) → faults xs ≡ 0 → faults (exchanges_in space xs) ≡ 0
faults_in space [] none = refl
faults_in space (x ∷ xs) none =
    let failed : ℕ = if x.reply.status == 0x88 then 1 else 0 in
    let rest = faults_in space xs (omega (arith, none)) in
    elim (x.command.namespace == space) as (λ t. faults (if t then record x { command = command_alone x.command } ∷ exchanges_in space xs else exchanges_in space xs) ≡ 0) [
      | true ↦ (let sum : failed + faults xs ≡ 0 = none in omega (arith, sum, rest))
      | false ↦ rest
    ]

pub same_replies : SameReplies
same_replies shape terms space m m' left xs ys some most run none lone same none_alone =
    let here = isolated shape terms space m m' xs some most run in
    (fixed shape (terms_alone terms space) (map_alone space m) (map_alone space m') left (exchanges_in space xs) ys here.0 lone (here.1 ∙ sym same) (faults_in space xs none) none_alone).0
