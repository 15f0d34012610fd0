-- How large the output of a merge gets: the statements.
use Rattle.std.specs.Prelude.{◌≡◌, ℕ, ◌+◌, ◌≤◌, List, length, map, true, Some}
use Rattle.std.specs.List.{concat}
use Rattle.pk_base.{specs.Shape.Shape, specs.Shape.IsShape, specs.Shape.run_blocks, specs.Shape.meta_blocks, specs.Page.Flash, specs.Entry.Entry, specs.Firsts.firsts, specs.Map.Map}
use Rattle.pk_base.specs.Merge.{room, next_merge}
use Rattle.pk_rootfmt.specs.Root.{Root, is_root}
use Rattle.pk_model.specs.Found.{Found}
use Rattle.pk_law_steps.{specs.Under.IsUnder, specs.Merging.output_of}

-- The output of the next merge fits into its run. Into run 4 that is so since each of its keys has a value, or is deleted by an entry of the buffers or of runs 1 and 2.
abbrev pub OutputFits : Type 0
OutputFits =
    (shape : Shape) (flash : Flash) (extra : List Entry) (top : ℕ × Root) (found : Found) (m : Map) (level : ℕ) → IsShape shape
    → IsUnder shape flash extra top found m → next_merge shape (length (firsts found.older)) (map length found.runs) ≡ Some level
    → length (output_of level found) ≤ room shape level

-- The blocks of all runs and those of an output are no more than the meta blocks.
abbrev pub QuotaFits : Type 0
QuotaFits =
    (shape : Shape) (root : Root) (level count : ℕ) → IsShape shape → is_root shape root ≡ true → 1 ≤ level → level ≤ 4 → count ≤ room shape level
    → length (concat root.runs) + run_blocks shape count ≤ meta_blocks shape
