-- How what is seen of a drive changes in a call.
use Rattle.std.specs.Prelude.{◌≡◌, ◌≢◌, ◌⊎◌, ℕ, ◌+◌, ◌-◌, ◌/◌, ◌<◌, ◌≤◌, ◌==◌, if◌then◌else◌, [], ◌++◌, length, true, false, Some, IsSome}
use Rattle.std.specs.FinMap.Entries.{find}
use Rattle.pk_base.{specs.Key.Key, specs.Key.key_cmp, specs.Page.Flash, specs.Page.page_at, specs.Page.commit_page, specs.Page.erased, specs.Entry.Place, specs.Firsts.firsts, specs.Map.Map}
use Rattle.pk_base.specs.Shape.{Shape, charge, buffer, page_entries, epoch_commits, pinned, commit_programs}
use Rattle.pk_rootfmt.{specs.Root.Root, specs.Newest.newest_root}
use Rattle.pk_nvme.{specs.Command.Command, specs.Command.key, specs.declared.opcode.TheConstants.STORE}
use Rattle.pk_nand.{specs.BoardState.BoardState, specs.Counts.counted_by}
use Rattle.pk_model.{specs.Spaces.Terms, specs.Found.entries_in_order, specs.Tree.Tree, specs.Tree.IsTree}
use Rattle.pk_call.{specs.Sight.Sight, specs.Sight.free_pages, specs.Drive.HoldsMap}

-- ---- a commit

-- Of what is seen only the pending entries, the commits of the epoch and the remaining work may differ.
abbrev pub Commits : Sight → Sight → Type 0
Commits before after = after ≡ record before { pending = []; counts = record before.counts { epoch = after.counts.epoch }; work = after.work }

-- ---- epochs

-- An epoch that the drive began stays one that it began, and so is one that follows another.
pub record KeepsFresh (shape : Shape) (old new : Flash) (before after : Sight) : Type 0 where
  pub stays : before.fresh ≡ true → after.fresh ≡ true
  pub begun : (top top' : ℕ × Root) → newest_root shape (page_at old) ≡ Some top → newest_root shape (page_at new) ≡ Some top'
      → (top'.1.epoch ≡ top.1.epoch) ⊎ (after.fresh ≡ true)

-- ---- blocks for values

-- The blocks in use are more only after a Store, by one, and only if another block takes values then.
abbrev pub BlocksGrow : ℕ → Sight → Sight → Type 0
BlocksGrow opcode before after =
    (after.counts.blocks ≤ before.counts.blocks)
    ⊎ ((opcode ≡ STORE) × (after.counts.blocks ≡ before.counts.blocks + 1) × (after.open_block ≢ before.open_block))

-- this many pages are Erased in the open block
abbrev pub HasOpenRoom : Shape → Flash → Sight → ℕ → Type 0
HasOpenRoom shape flash drive count = (b : ℕ) × (drive.open_block ≡ Some b) × (count ≤ free_pages shape flash b)

-- The open block is the one that the command's value was written to, and the one before if the value had room in it.
pub record StoresIn (shape : Shape) (old new : Flash) (before after : Sight) (c : Command) : Type 0 where
  pub tree : Tree
  pub is_tree : IsTree shape new tree
  pub place : Place
  pub found : find key_cmp (key c) (entries_in_order tree.found after.pending) ≡ Some (Some place)
  pub in_open : after.open_block ≡ Some (place.page / shape.block_pages)
  pub stays : HasOpenRoom shape old before (charge shape c.size) → after.open_block ≡ before.open_block

-- for every map that the drive may represent
abbrev pub Stores : BoardState → BoardState → Sight → Sight → Command → Type 0
Stores old new before after c = (shape : Shape) (terms : Terms) (m : Map) → HoldsMap shape terms old before m → StoresIn shape old.pages new.pages before after c

-- ---- a Store or a Delete that waits for nothing

-- An entry of this key has room in memory, and a commit of the journal to go to, and no pair is half made.
pub record IsQuiet (shape : Shape) (flash : Flash) (drive : Sight) (key : Key) : Type 0 where
  pub tree : Tree
  pub is_tree : IsTree shape flash tree
  pub room : IsSome (find key_cmp key (firsts (tree.found.newest ++ drive.pending))) ⊎ (length (firsts (tree.found.newest ++ drive.pending)) < buffer shape)
  pub fresh : drive.fresh ≡ true
  pub whole : drive.half ≡ false
  pub commit : (page_at flash (commit_page shape tree.root.newest (epoch_commits shape - 1)) ≡ erased) ⊎ (drive.pending ≢ [])

-- the programs of a commit, if the entry is the last one that a commit takes
abbrev pub commits_for : Shape → Sight → ℕ
commits_for shape drive = if length drive.pending + 1 == page_entries shape then commit_programs else 0

-- This many programs were made, the reads of a lookup, and no erase.
pub record Quietly (shape : Shape) (old new : BoardState) (frames reads programs : ℕ) : Type 0 where
  pub programs_are : new.programs ≡ counted_by programs old.programs
  pub no_erase : new.erases ≡ old.erases
  pub few_reads : reads ≤ 4 - pinned shape frames
