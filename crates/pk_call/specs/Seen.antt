-- How contracts see what a drive answers.
use Rattle.std.specs.Prelude.{ℕ, List, take, Bool, false}
use Rattle.pk_nvme.specs.Reply.{Reply}
use Rattle.pk_call.specs.Sight as sight
use Rattle.pk_call.{specs.declared.types.Outcome.Outcome, specs.declared.types.Counts.Counts, specs.declared.types.Ticked.Ticked}
use Rattle.pk_call.specs.declared.types.Ticked.TheVariants.{Worked, Idle, Fault}

-- the reply that an outcome reports, with its data at the start of a buffer
abbrev pub reply_of : Outcome → List ℕ → Reply
reply_of o into = record { status = o.status; result = o.result; data_bytes = take o.data_len into }

-- a step stopped the drive
abbrev pub stopped_by : Ticked → Bool
stopped_by Worked = false
stopped_by Idle = false
stopped_by (Fault stopped) = stopped

-- what a Report says of its namespace
abbrev pub in_space_of : Counts → sight.InSpace
in_space_of c = record { live = c.live; limit = c.limit; keys = c.keys }

-- and of the drive
abbrev pub counts_of : Counts → sight.Counts
counts_of c = record {
  pinned = c.pinned;
  frames = c.frames;
  leased = c.leased;
  active = c.active;
  frozen = c.frozen;
  run1 = c.run1;
  run2 = c.run2;
  run3 = c.run3;
  run4 = c.run4;
  epoch = c.epoch;
  blocks = c.blocks;
  ready = c.ready;
  merge = c.merge;
}
