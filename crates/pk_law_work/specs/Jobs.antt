-- What remains of each job, by how far it has come.
use Rattle.std.specs.Prelude.{ℕ, ◌-◌, Bool, if◌then◌else◌}
use Rattle.pk_base.{specs.declared.sizes.TheConstants.EPOCH_BLOCKS, specs.Shape.Shape, specs.Shape.run_pages, specs.Shape.run_blocks}
use Rattle.pk_law_work.specs.Rest.{Rest}

-- A merge that still has this many pages to read, with an output of n entries, of which this many pages are programmed and this many blocks
-- taken.
abbrev pub merge_rest : Shape → ℕ → ℕ → ℕ → ℕ → ℕ → Rest
merge_rest shape unread entries programmed taken others = record {
  reads = unread;
  programs = run_pages shape entries - programmed;
  takes = run_blocks shape entries - taken;
  others = others;
}

-- a freeze after this many blocks were taken
abbrev pub freeze_rest : ℕ → ℕ → Rest
freeze_rest taken others = record { reads = 0; programs = 0; takes = EPOCH_BLOCKS - taken; others = others }

-- a reclaim that still has this many live pages to copy, of which one may be read
abbrev pub reclaim_rest : ℕ → Bool → ℕ → Rest
reclaim_rest pages held others = record { reads = pages - (if held then 1 else 0); programs = pages; takes = 0; others = others }
