-- What a block after the root blocks is for.
use Rattle.std.specs.Prelude.{ℕ, ◌-◌, List, [], if◌then◌else◌, slice_index_or}
use Rattle.pk_rootfmt.{specs.Root.Root, specs.Held.two_of, specs.Held.older_of, specs.Held.blocks_or_none}
use Rattle.pk_scan.specs.Adopts.{is_among}
use Rattle.pk_dump.specs.declared.picture.BlockUse.{BlockUse}
use Rattle.pk_dump.specs.declared.picture.BlockUse.TheVariants.{Newest, Older, Run, Rest}

-- the blocks of the run of this level
abbrev pub run_of : Root → ℕ → List ℕ
run_of root level = slice_index_or root.runs (level - 1) []

-- the blocks of the newest epoch, those of the older one, and those of the runs in their order
abbrev pub use_of : Root → ℕ → BlockUse
use_of root block =
    if is_among (two_of root.newest) block then Newest
    else if is_among (blocks_or_none (older_of root.older)) block then Older
    else if is_among (run_of root 1) block then Run 1
    else if is_among (run_of root 2) block then Run 2
    else if is_among (run_of root 3) block then Run 3
    else if is_among (run_of root 4) block then Run 4
    else Rest
