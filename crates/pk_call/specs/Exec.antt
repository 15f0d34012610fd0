-- What one command does, for every map that the drive may represent.
use Rattle.std.specs.Prelude.{◌≡◌, ◌≢◌, ◌⊎◌, ℕ, ◌+◌, ◌-◌, ◌*◌, ◌≤◌, ◌<◌, min, length, List, [], ◌∷◌, flat_map, Option, Some, None, ◌==◌, if◌then◌else◌}
use Rattle.std.specs.FinMap.{get}
use Rattle.pk_nvme.{specs.declared.opcode.TheConstants.STORE, specs.declared.opcode.TheConstants.TICK, specs.Command.Command, specs.Command.key, specs.Reply.Reply, specs.Opcode.op_of}
use Rattle.pk_nvme.specs.declared.opcode.Opcode.TheVariants.{Retrieve}
use Rattle.pk_base.{specs.Shape.Shape, specs.Shape.fetched, specs.Shape.greatest, specs.Map.Map, specs.Merge.next_merge, specs.Fields.u32}
use Rattle.pk_nand.specs.BoardState.{BoardState}
use Rattle.pk_model.{specs.Answer.early, specs.Spaces.Terms, specs.Run.Step, specs.Growth.Reaches, specs.Crashes.CrashFinds, specs.Crashes.change, specs.Bounds.most_reads}
use Rattle.pk_call.{specs.Sight.InSpace, specs.Sight.Sight, specs.Sight.Counts, specs.Sight.levels_held, specs.Sight.numbers, specs.Drive.HoldsMap}

-- most pages that a Retrieve reads if this many levels have all their pages in frames, by its status if it is refused, and by the value of its key
abbrev pub most_reads_beyond : Shape → ℕ → Command → Option ℕ → Option (List ℕ) → ℕ
most_reads_beyond shape levels c (Some status) value = 0
most_reads_beyond shape levels c None None = 4 - levels
most_reads_beyond shape levels c None (Some value) = 4 - levels + fetched shape (min (length value) c.size)

-- at most one page of each level that has pages without a frame, and the value's pages that are returned
abbrev pub most_unheld_reads : Shape → Terms → Sight → Map → Command → ℕ
most_unheld_reads shape terms drive m c = most_reads_beyond shape (levels_held drive) c (early (length terms.limits) shape c) (get m (key c))

-- A command that did not stop the drive. A crash within it finds the map before it, or the map that its reply says. What a Retrieve reads is
-- bounded by the pinned levels, and by those that have all their pages in frames as it begins.
pub record Executed (shape : Shape) (terms : Terms) (old : BoardState) (before : Sight) (new : BoardState) (after : Sight)
    (m : Map) (c : Command) (reply : Reply) (reads : ℕ) : Type 0 where
  pub left : Map
  pub stepped : Step shape terms m c reply left
  pub reached : Reaches shape old new (CrashFinds shape (change left) old.pages m)
  pub stands : HoldsMap shape terms new after left
  pub bounded : op_of c.opcode ≡ Some Retrieve → reads ≤ most_reads shape terms m c
  pub held_bounded : op_of c.opcode ≡ Some Retrieve → reads ≤ most_unheld_reads shape terms before m c

abbrev pub ExecStands : BoardState → BoardState → Sight → Sight → Command → Reply → ℕ → Type 0
ExecStands old new before after c reply reads =
    (shape : Shape) (terms : Terms) (m : Map) → HoldsMap shape terms old before m → Executed shape terms old before new after m c reply reads

-- most roots of a Store: a reclaim and its entry may each need room, which takes four merges and a freeze, and each of these a root
abbrev pub most_store_roots : ℕ
most_store_roots = 2 * (4 + 1)

-- most roots that a command installs: a Tick one for each step, another at most ten
abbrev pub most_installs : ℕ → ℕ → ℕ
most_installs opcode size = if opcode == TICK then size else most_store_roots

-- the bytes of a Report
abbrev pub report_of : InSpace → Counts → List ℕ
report_of here counts = flat_map u32 (numbers here counts)

-- a merge that runs is the next one, by the entries of the frozen buffer and of the runs
abbrev pub IsNextMerge : Shape → Counts → Type 0
IsNextMerge shape c = c.merge ≢ 0 → next_merge shape c.frozen (c.run1 ∷ c.run2 ∷ c.run3 ∷ c.run4 ∷ []) ≡ Some c.merge

-- The value of a command, and what is passed of it: nothing if it is too large.
abbrev pub IsValue : Shape → ℕ → ℕ → List ℕ → List ℕ → Type 0
IsValue shape opcode size handed value = (value ≡ handed) ⊎ ((opcode ≡ STORE) × (greatest shape < size))
