-- When a run takes a further command.
use Rattle.std.specs.Prelude.{◌≡◌, ◌<◌, ℕ, false}
use Rattle.pk_nand.specs.BoardState.{BoardState}
use Rattle.pk_model.specs.Wear.{is_worn}

-- the most entries of a run, 2^32 - 1: the count of those served, in each completion, has 32 bits
abbrev pub most_entries : ℕ
most_entries = 4294967295

-- fewer entries were taken than a run takes, and the drive is not worn: another one may be taken after these
abbrev pub TakesMore : BoardState → ℕ → Type 0
TakesMore board taken = (taken < most_entries) × (is_worn board ≡ false)
