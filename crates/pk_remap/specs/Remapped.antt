-- A flash with spare blocks, as a board: its pages are those of the outer flash, its counts are its own.
use Rattle.std.specs.Prelude.{◌≡◌, ℕ, ◌+◌, ◌-◌, ◌≤◌, Bool, true, false, [], length, unwrap_or, Option, Some, None, Result, Ok, Err}
use Rattle.pk_base.{specs.Shape.Shape, specs.Shape.IsShape, specs.Page.Flash, specs.Page.page_at}
use Rattle.pk_nand.{specs.BoardState.BoardState, specs.Calls.counted, specs.Effects.OnlyReading, specs.Effects.NoFault, specs.declared.types.LoadFault.LoadFault}
use Rattle.pk_nand.specs.declared.types.LoadFault.TheVariants.{Fault, BadImage, Memory}
use Rattle.pk_nand.specs.declared.types.NandFault.{NandFault}
use Rattle.pk_remap.{specs.declared.layout.TheConstants.MOST_SPARES, specs.declared.counts.BoardCounts.BoardCounts, specs.declared.image.Image.Image, specs.declared.mark_log.MarkLog.MarkLog}
use Rattle.pk_remap.specs.declared.image.Image.TheVariants.{Unknown, Missing, Unsure, Sure}
use Rattle.pk_remap.{specs.declared.relocation.Relocation.Relocation as InMemory, specs.Through.through, specs.Newest.newest_table, specs.Table.is_table, specs.Noted.no_marks, specs.Logged.told}
use Rattle.pk_remap.{specs.Running.relocation_of, specs.Running.HasPageBuffers, specs.Running.HasTurn, specs.Counting.HasTable, specs.Counting.SearchFailed}

-- ---- its counts

abbrev pub no_counts : BoardCounts
no_counts = record { reads = 0; programs = 0; erases = 0; flash_faults = 0; read_faults = 0; stop_faults = 0; in_faults = 0; out_faults = 0; failed_at = None; bad = None }

-- after a refusal of a load or a make
abbrev pub with_refusal : LoadFault → BoardCounts → BoardCounts
with_refusal Fault counts = record counts { flash_faults = counted counts.flash_faults }
with_refusal (BadImage at) counts = record counts { bad = Some at }
with_refusal Memory counts = counts

-- after a program or an erase in this block that failed
abbrev pub with_stop : ℕ → BoardCounts → BoardCounts
with_stop block counts = record counts { flash_faults = counted counts.flash_faults; stop_faults = counted counts.stop_faults; failed_at = Some block }

-- ---- what it means

-- the shape of an inner flash without its spares and its table blocks
abbrev pub without_spares : Shape → ℕ → Shape
without_spares shape spares = record shape { blocks = shape.blocks - (spares + 2) }

-- the outer flash; without a table it has no page
abbrev pub outer_pages : Shape → ℕ → Flash → Flash
outer_pages shape spares flash = unwrap_or (through shape spares flash) []

-- the image has a table
abbrev pub is_open : Image → Bool
is_open Unknown = false
is_open Missing = false
is_open Unsure = true
is_open Sure = true

abbrev pub is_missing : Image → Bool
is_missing Unknown = false
is_missing Missing = true
is_missing Unsure = false
is_missing Sure = false

abbrev pub is_sure : Image → Bool
is_sure Unknown = false
is_sure Missing = false
is_sure Unsure = false
is_sure Sure = true

abbrev pub open_shape : Bool → Shape → Option Shape
open_shape false shape = None
open_shape true shape = Some shape

abbrev pub open_pages : Bool → Shape → ℕ → Flash → Flash
open_pages false shape spares flash = []
open_pages true shape spares flash = outer_pages shape spares flash

-- the board
abbrev pub remap_board : Image → InMemory → MarkLog → BoardCounts → BoardState → BoardState
remap_board image work log counts inner = record {
  shape = open_shape (is_open image) work.shape;
  bare = is_missing image;
  pages = open_pages (is_open image) work.shape work.spares inner.pages;
  trail = told log;
  reads = counts.reads;
  programs = counts.programs;
  erases = counts.erases;
  flash_faults = counts.flash_faults;
  read_faults = counts.read_faults;
  stop_faults = counts.stop_faults;
  failed_at = counts.failed_at;
  bad = counts.bad;
  input = inner.input;
  posted = inner.posted;
  in_faults = counts.in_faults;
  out_faults = counts.out_faults;
}

-- before its first call: the host is that of the inner board
abbrev pub fresh_remap : ℕ → BoardState → BoardState
fresh_remap log inner = record {
  shape = None;
  bare = false;
  pages = [];
  trail = no_marks log;
  reads = 0;
  programs = 0;
  erases = 0;
  flash_faults = 0;
  read_faults = 0;
  stop_faults = 0;
  failed_at = None;
  bad = None;
  input = inner.input;
  posted = inner.posted;
  in_faults = 0;
  out_faults = 0;
}

-- the spares that are left; none before there is a table
abbrev pub open_spares_left : Bool → InMemory → ℕ
open_spares_left false work = 0
open_spares_left true work = work.spares - work.taken

abbrev pub spares_left : Image → InMemory → ℕ
spares_left image work = open_spares_left (is_open image) work

-- ---- what is known of it between calls

-- the newest table is in memory
pub record HoldsTable (work : InMemory) (inner : BoardState) : Type 0 where
  pub grammar : is_table work.shape work.spares (relocation_of work).table ≡ true
  pub used : length (relocation_of work).table.serves ≤ work.taken
  pub newest : newest_table work.shape work.spares (page_at inner.pages) ≡ Some (work.top, (relocation_of work).table)
  pub turn : HasTurn work inner.pages

-- what is known of the inner flash
pub record RemapHolds (image : Image) (work : InMemory) (inner : BoardState) : Type 0 where
  pub shape_is : IsShape work.shape
  pub few : work.spares ≤ MOST_SPARES
  pub taken : work.taken ≤ work.spares
  pub room : HasPageBuffers work
  pub missing : is_missing image ≡ true → inner.bare ≡ true
  pub opened : is_open image ≡ true → HasTable work inner
  pub sure : is_sure image ≡ true → HoldsTable work inner

-- the log has its room once there is a table
pub record HasLog (image : Image) (shape : Shape) (log : MarkLog) : Type 0 where
  pub unfit : is_open image ≡ false → log.page_bytes ≡ 0
  pub sized : is_open image ≡ true → log.page_bytes ≡ shape.page_bytes

-- ---- the search for the newest table

-- the same shape and spares, of which as many are taken
pub record SameTaken (work work' : InMemory) : Type 0 where
  pub shape : work'.shape ≡ work.shape
  pub spares : work'.spares ≡ work.spares
  pub taken : work'.taken ≡ work.taken

-- the newest table is in memory, and nothing was done but reads
pub record TableIsFound (work : InMemory) (old : BoardState) (image' : Image) (work' : InMemory) (new : BoardState) : Type 0 where
  pub sure : image' ≡ Sure
  pub same : SameTaken work work'
  pub reads : OnlyReading old new
  pub no_fault : NoFault old new

-- a read of the search failed
pub record TableNotFound (work : InMemory) (old : BoardState) (image' : Image) (work' : InMemory) (new : BoardState) : Type 0 where
  pub unsure : image' ≡ Unsure
  pub same : SameTaken work work'
  pub failed : SearchFailed old new

abbrev pub FindsTable : InMemory → BoardState → Result Unit NandFault → Image → InMemory → BoardState → Type 0
FindsTable work old (Ok u) image' work' new = TableIsFound work old image' work' new
FindsTable work old (Err e) image' work' new = TableNotFound work old image' work' new
