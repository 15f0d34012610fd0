-- What a step of a merge does: one action, and then entries are taken; and why it fails.
use Rattle.std.specs.Prelude.{◌≡◌, ◌⊎◌, suc, Bool, false, [], slice_get}
use Rattle.pk_nand.{specs.BoardState.BoardState, specs.Operations.ReadFailed, specs.declared.types.Fault.Fault}
use Rattle.pk_nand.specs.declared.types.Fault.TheVariants.{Reading, Stopped}
use Rattle.pk_pin.specs.Frames.{Frames}
use Rattle.pk_pool.{specs.Blocks.Blocks, specs.Blocks.PoolOnFlash, specs.Taking.FailsToErase}
use Rattle.pk_run.specs.Kept.{Kept, page_of, after_look}
use Rattle.pk_merge.{specs.declared.source.Source.Source, specs.declared.next.Next.Next, specs.Cursors.Follows, specs.Cursors.own_page}
use Rattle.pk_merge.specs.declared.next.Next.TheVariants.{LoadSource, LoadTarget, Gather, TakeBlock, Program, End}
use Rattle.pk_merge.{specs.Sources.FollowsIn, specs.Sources.LookFails, specs.Sources.after_look_at, specs.Merging.Merger, specs.Merging.can_gather, specs.Merging.GoesOn, specs.Merging.Tells}
use Rattle.pk_merge.specs.Outputs.{TakesBlock, ProgramsPage, FailsToProgram}

-- ---- loads

-- the page at the source's cursor was loaded, by one read or from a frame
pub record LoadsSource {X : Type 0} (source : Source X) (m : Merger) (old : BoardState) (m' : Merger) (new : BoardState) : Type 0 where
  pub board : new ≡ after_look_at source m.source old
  pub merger : m' ≡ record m { source = record m.source { loaded = suc (own_page m.source); bytes = m'.source.bytes } }
  pub follows : FollowsIn source old.pages m'.source

-- the page at the target's cursor was
pub record LoadsTarget (target : Kept) (m : Merger) (old : BoardState) (m' : Merger) (new : BoardState) : Type 0 where
  pub board : new ≡ after_look (slice_get target.leases (own_page m.target)) old
  pub merger : m' ≡ record m { target = record m.target { loaded = suc (own_page m.target); bytes = m'.target.bytes } }
  pub follows : Follows old.pages target m'.target

module _ {X : Type 0} (source : Source X) (target : Kept) where
  -- ---- a step that is done

  -- the action that comes next was done, with at most one flash operation
  abbrev pub Acts : Bool → Kept → Merger → Blocks → BoardState → Frames → Next → Kept → Merger → Blocks → BoardState → Frames → Type 0
  Acts pins out m pool old arena LoadSource out' m' pool' new arena' = LoadsSource source m old m' new × (out' ≡ out) × (pool' ≡ pool) × (arena' ≡ arena)
  Acts pins out m pool old arena LoadTarget out' m' pool' new arena' = LoadsTarget target m old m' new × (out' ≡ out) × (pool' ≡ pool) × (arena' ≡ arena)
  Acts pins out m pool old arena Gather out' m' pool' new arena' = (new ≡ old) × (m' ≡ m) × (out' ≡ out) × (pool' ≡ pool) × (arena' ≡ arena)
  Acts pins out m pool old arena TakeBlock out' m' pool' new arena' = TakesBlock pool out old pool' out' new × (m' ≡ m) × (arena' ≡ arena) × PoolOnFlash pool' new.pages
  Acts pins out m pool old arena Program out' m' pool' new arena' = ProgramsPage pins out m.gathered old arena out' new arena' × (m' ≡ record m { gathered = [] }) × (pool' ≡ pool)
  Acts pins out m pool old arena End out' m' pool' new arena' = (new ≡ old) × (m' ≡ m) × (out' ≡ out) × (pool' ≡ pool) × (arena' ≡ arena)

  -- One action, and then entries are taken until a page is needed for the next one, those of a page are there, or none remains.
  pub record Steps (pins : Bool) (out : Kept) (m : Merger) (pool : Blocks) (old : BoardState) (arena : Frames) (out' : Kept) (m' : Merger) (pool' : Blocks) (new : BoardState) (arena' : Frames) : Type 0 where
    pub next : Next
    pub between : Merger
    pub tells : Tells source target out m next
    pub acts : Acts pins out m pool old arena next out' between pool' new arena'
    pub gathers : GoesOn source target out'.level between m'
    pub stuck : can_gather source target m' ≡ false

  -- ---- a step that failed

  -- The read of a page that comes next failed. Only the bytes that a cursor has of a page differ.
  pub record FailsToRead (m : Merger) (old : BoardState) (m' : Merger) (new : BoardState) : Type 0 where
    pub read : LookFails source m.source old new ⊎ ReadFailed old new (page_of target (own_page m.target))
    pub merger : m' ≡ record m { source = record m.source { bytes = m'.source.bytes }; target = record m.target { bytes = m'.target.bytes } }
    pub follows_source : FollowsIn source old.pages m'.source
    pub follows_target : Follows old.pages target m'.target
    pub same : new.pages ≡ old.pages

  -- the cause of each fault
  abbrev pub Fails : Kept → Merger → Blocks → BoardState → Fault → Merger → BoardState → Type 0
  Fails out m pool old Reading m' new = FailsToRead m old m' new
  Fails out m pool old Stopped m' new = FailsToErase pool old new ⊎ FailsToProgram out m.gathered old new
