-- The reply that a completion reports.
use Rattle.std.specs.Prelude.{ℕ, List, take}
use Rattle.pk_nvme.specs.Reply.{Reply}
use Rattle.pk_host.specs.declared.ask.Received.{Received}

-- with the data at the start of a buffer
abbrev pub replied : Received → List ℕ → Reply
replied r into = record { status = r.status; result = r.result; data_bytes = take r.len into }
