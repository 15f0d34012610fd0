-- A map in memory as a port: its map is known, and no read fails.
use Rattle.std.specs.Prelude.{ℕ, Some, None}
use Rattle.pk_base.specs.Shape.{limit}
use Rattle.pk_model.specs.Machine.{Machine}
use Rattle.pk_host.specs.Port.{PortState}

-- what a host sees of a machine and of the count of failed calls
abbrev pub seen : Machine → ℕ → PortState
seen machine faults = record {
  map = Some machine.map;
  shape = machine.shape;
  limit = limit machine.shape;
  frames = None;
  port_faults = faults;
  read_faults = 0;
}
