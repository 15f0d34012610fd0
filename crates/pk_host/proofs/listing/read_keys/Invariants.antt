use Rattle.std.specs.Option.{option_copied}
use Rattle.pk_nvme.specs.Command.{key_or_none}
use Rattle.pk_host.proofs.ReadLemmas.{IsReading}
use Rattle.pk_host.proofs.listing.read_keys.Given as goal

abbrev pub invariant-loop-i : goal.invariant-loop-i
invariant-loop-i l = IsReading l.bytes (key_or_none (option_copied l.from)) l.count l._i l.at l.page
