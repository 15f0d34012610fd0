use Rattle.std.proofs.Common.{refl}
use Rattle.pk_nvme.specs.declared.opcode.Opcode.TheVariants.{Retrieve}
use Rattle.pk_host.proofs.CallLemmas.{retrieve_there, retrieve_missing, leaves_map}
use Rattle.pk_host.proofs.host.Host.retrieve.Goals as goal

pub returns-in-0-clause-fetches : goal.returns-in-0-clause-fetches
returns-in-0-clause-fetches g c = retrieve_there _ _ _ _ c.bytes.ensures.value c.bytes.ensures.key c.requires.own _ _ _ _ c.in-Ok.ensures.replies c.in-0.is c.ask.auto.into c.in-Ok.ensures.fits refl

pub returns-in-0-clause-leaves : goal.returns-in-0-clause-leaves
returns-in-0-clause-leaves g c = leaves_map _ _ _ Retrieve _ refl (λ m. refl) c.in-Ok.ensures.replies

pub returns-in-135-clause-fetches : goal.returns-in-135-clause-fetches
returns-in-135-clause-fetches g c = retrieve_missing _ _ _ _ c.bytes.ensures.value c.bytes.ensures.key c.requires.own _ _ _ c.in-Ok.ensures.replies c.in-135.is

pub returns-in-135-clause-leaves : goal.returns-in-135-clause-leaves
returns-in-135-clause-leaves g c = leaves_map _ _ _ Retrieve _ refl (λ m. refl) c.in-Ok.ensures.replies
