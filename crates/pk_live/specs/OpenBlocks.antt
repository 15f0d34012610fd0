-- The block that takes the next values, if there is one.
use Rattle.std.specs.Prelude.{◌≢◌, ℕ, List, Bool, slice_set, true, Option, Some, None}
use Rattle.pk_live.specs.declared.open_block.OpenBlock.{OpenBlock}

-- a block is another one than the open block
abbrev pub IsNotOpen : Option OpenBlock → ℕ → Type 0
IsNotOpen None b = Unit {0}
IsNotOpen (Some o) b = b ≢ o.block

-- the open block is closed, if there is one
abbrev pub closed_with : Option OpenBlock → List Bool → List Bool
closed_with None closed = closed
closed_with (Some o) closed = slice_set closed o.block true
