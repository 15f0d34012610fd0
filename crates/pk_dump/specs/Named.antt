-- What a root names: its epochs, and the pages of its runs.
use Rattle.std.specs.Prelude.{ℕ, ◌-◌, ◌*◌, min, Option, option_map}
use Rattle.pk_base.specs.Shape.{Shape, page_entries}
use Rattle.pk_rootfmt.{specs.Root.Root, specs.Held.two_of, specs.Held.older_of}
use Rattle.pk_dump.{specs.declared.journal.NamedEpoch.NamedEpoch, specs.declared.run.Wanted.Wanted}

-- the newest epoch: its number, and its blocks
abbrev pub newest_named : Root → NamedEpoch
newest_named root = record { number = root.epoch; blocks = two_of root.newest }

-- the older one, if there is one: its number is one less
abbrev pub older_named : Root → Option NamedEpoch
older_named root = option_map (λ blocks. record { number = root.epoch - 1; blocks = blocks }) (older_of root.older)

-- the page of this index in a run of this level with n entries, as the reading of the run has it
abbrev pub wanted_of : Shape → ℕ → ℕ → ℕ → Wanted
wanted_of shape level count index = record { level = level; index = index; count = min (page_entries shape) (count - index * page_entries shape) }
