use Rattle.std.proofs.Common.{arith}
use Rattle.pk_asm.proofs.PrintedLemmas.{prints}
use Rattle.pk_asm.proofs.printed.print.Goals as goal

pub returns-in-Some-clause-prints : goal.returns-in-Some-clause-prints
returns-in-Some-clause-prints c =
    prints c.args.number c.args.entry.now c.args.value.now (omega arith) (λ i. omega (arith, c.fits-entry i)) (λ i. omega (arith, c.type_inv.value i))

pub returns-in-None-clause-prints : goal.returns-in-None-clause-prints
returns-in-None-clause-prints c =
    prints c.args.number c.args.entry.now c.args.value.now (omega arith) (λ i. omega (arith, c.fits-entry i)) (λ i. omega (arith, c.type_inv.value i))
