-- How a log matches a flash.
use Rattle.std.specs.Prelude.{◌≡◌, ◌≢◌, ℕ, ◌<◌, ◌≤◌, [], ◌++◌, length, true, false, Some, Ok}
use Rattle.std.specs.List.{AllByRecursion}
use Rattle.pk_base.{specs.Shape.IsShape, specs.Shape.page_entries, specs.Page.Flash, specs.Page.page_at}
use Rattle.pk_space.specs.Entries.{in_spaces}
use Rattle.pk_rootfmt.{specs.Root.Root, specs.Held.Held, specs.Newest.newest_root}
use Rattle.pk_root.specs.Installing.{InstallerOnFlash}
use Rattle.pk_buf.specs.Table.{Table}
use Rattle.pk_jrn.{specs.Epochs.JournalEpoch, specs.Epochs.left_of, specs.Epochs.EpochOnFlash, specs.Replays.buffer_of}
use Rattle.pk_model.{specs.Found.Found, specs.Found.found_under, specs.Laws.IsStorable, specs.RootLimits.root_spaces}
use Rattle.pk_log.specs.State.{LogState}

-- The newest root with its page, and what is found under it, are what the log keeps: the epoch is the root's newest one, the
-- active buffer has its entries and after them the pending ones, and the frozen one those of the older epoch.
pub record LogOnFlash (log : LogState) (flash : Flash) (top : ℕ × Root) (found : Found) : Type 0 where
  pub is_shape : IsShape log.shape
  pub is_top : newest_root log.shape (page_at flash) ≡ Some top
  pub root_is : log.root ≡ top.1
  pub is_found : found_under log.shape (page_at flash) top.1 ≡ Ok found
  pub installs : InstallerOnFlash log.shape log.next top flash
  pub epoch_shape : log.epoch.shape ≡ log.shape
  pub epoch_number : log.epoch.number ≡ top.1.epoch
  pub epoch_blocks : log.epoch.blocks ≡ top.1.newest
  pub epoch_fits : EpochOnFlash log.epoch flash
  pub active_is : log.active ≡ buffer_of log.shape (found.newest ++ log.pending)
  pub frozen_is : log.frozen ≡ buffer_of log.shape found.older
  pub pending_are : AllByRecursion (IsStorable log.shape) log.pending
  -- their keys are of namespaces of the drive
  pub spaced : in_spaces (root_spaces log.shape top.1) log.pending ≡ true
  pub pending_few : length log.pending ≤ page_entries log.shape
  -- the epoch has a commit left for them, and none of its commits is half made
  pub pending_room : log.pending ≢ [] → 0 < left_of log.epoch
  pub pending_whole : log.pending ≢ [] → log.epoch.half ≡ false

-- the same of what was found at opening, if nothing is pending
pub record Opens (held : Held) (page : ℕ) (epoch : JournalEpoch) (active frozen : Table) (flash : Flash) (found : Found) : Type 0 where
  pub is_top : newest_root held.shape (page_at flash) ≡ Some (page, held.root)
  pub is_found : found_under held.shape (page_at flash) held.root ≡ Ok found
  pub epoch_shape : epoch.shape ≡ held.shape
  pub epoch_number : epoch.number ≡ held.root.epoch
  pub epoch_blocks : epoch.blocks ≡ held.root.newest
  pub epoch_fits : EpochOnFlash epoch flash
  pub active_is : active ≡ buffer_of held.shape found.newest
  pub frozen_is : frozen ≡ buffer_of held.shape found.older
