-- What a step of a walk does: what it finds, where it leaves the cursors, and what it reads. Pages of a run that has frames are read from no flash.
use Rattle.std.specs.Prelude.{◌≡◌, ℕ, suc, ◌+◌, ◌-◌, ◌*◌, ◌/◌, ◌%◌, ◌<◌, ◌≤◌, Bool, true, false, nat_lt, List, [], ◌∷◌, length, is_some, option_map, slice_get, Option, Some, None}
use Rattle.std.specs.List.{AllByRecursion}
use Rattle.pk_base.{specs.Shape.Shape, specs.Shape.page_entries, specs.Entry.Entry, specs.declared.sizes.TheConstants.HEAD_BYTES, specs.declared.sizes.TheConstants.ENTRY_BYTES, specs.Fields.number_at}
use Rattle.pk_base.{specs.EntryBytes.cell_at, specs.EntryBytes.cell_key, specs.Page.Flash, specs.Page.page_at, specs.Page.whole, specs.Seen.entry as seen}
use Rattle.pk_base.specs.declared.entry.Entry.{Entry as RustEntry}
use Rattle.pk_nand.{specs.BoardState.BoardState, specs.Calls.IsReady, specs.Operations.ReadFailed, specs.declared.types.Fault.Fault, specs.declared.types.Fault.TheVariants.Reading}
use Rattle.pk_meta.specs.PageChecks.{Decodes}
use Rattle.pk_pin.specs.Frames.{Frames, IsLeased, frame_of}
use Rattle.pk_run.specs.Kept.{Kept, RunOnFlash, page_of}
use Rattle.pk_level.specs.Levels.{RunsOnFlash}
use Rattle.pk_walk.{specs.declared.position.Position.Position, specs.declared.orders.Orders.Orders as RustOrders, specs.Visible.is_wanted, specs.Visible.wanted, specs.Visible.first_of}
use Rattle.pk_walk.specs.Heads.{Head, entry_in, known_as, least_of, order_of}
use Rattle.pk_walk.specs.Walking.{Cursor, Tops, Walk, AreOfShape, Follows, FollowEach, HasPassed, Passes, Reads, ReadsAll, ReadsFail, ShowBoth, SkipsNoPage, SkipsNone, all_left, cursors_behind}
use Rattle.pk_walk.specs.Walking.{pages_read, most_read, read_of, tops_behind}

-- ---- a page of a run

-- the bytes of a page: those in its frame, or, if it has none, those that were read
abbrev pub seen_bytes : List ℕ → Frames → Option ℕ → List ℕ
seen_bytes read arena None = read
seen_bytes read arena (Some lease) = frame_of arena lease

-- of the last page that the cursor has come past
abbrev pub bytes_in : Kept → Frames → Cursor → List ℕ
bytes_in r arena c = seen_bytes c.bytes arena (slice_get r.leases (c.loaded - 1))

-- The cursor has the page of its place, in a frame or as it was read, and there is an entry at it.
pub record HasPage (r : Kept) (arena : Frames) (c : Cursor) : Type 0 where
  pub loaded : c.loaded ≡ suc (c.place / page_entries c.shape)
  pub leased : (lease : ℕ) → slice_get r.leases (c.loaded - 1) ≡ Some lease → IsLeased arena lease
  pub sized : length (bytes_in r arena c) ≡ c.shape.page_bytes
  pub decodes : Decodes c.shape (bytes_in r arena c)
  pub within : c.place % page_entries c.shape < number_at 2 10 (bytes_in r arena c)

-- Page p of the run is there, and the cursor has passed no later one; and if the page has no frame, it has its bytes if it has passed it.
pub record MayLoad (flash : Flash) (r : Kept) (p : ℕ) (c : Cursor) : Type 0 where
  pub exists : p < length r.firsts
  pub behind : c.loaded ≤ suc p
  pub holds : slice_get r.leases p ≡ None → c.loaded ≡ suc p → page_at flash (page_of r p) ≡ whole c.bytes

-- The cursor has passed page p; pages were read at most once as it passed them, and exactly once if it skipped none.
pub record Loads (r : Kept) (p : ℕ) (old new : BoardState) (c d : Cursor) : Type 0 where
  pub cursor : d ≡ record c { loaded = suc p; bytes = d.bytes }
  pub reads : Reads (read_of r.leases c.loaded) (read_of r.leases (suc p)) old new
  pub all : p ≤ c.loaded → ReadsAll (read_of r.leases c.loaded) (read_of r.leases (suc p)) old new

-- Page p, which the cursor has not come past, could not be read.
pub record FailsToLoad (r : Kept) (p : ℕ) (old new : BoardState) (c d : Cursor) : Type 0 where
  pub cursor : d ≡ record c { bytes = d.bytes }
  pub before : c.loaded ≤ p
  pub failed : ReadFailed old new (page_of r p)

-- ---- an entry of a run

-- The cursor is at its place, and follows the run wherever it did.
pub record StaysAt (flash : Flash) (r : Kept) (c d : Cursor) : Type 0 where
  pub place : d ≡ record c { loaded = d.loaded; bytes = d.bytes }
  pub follows : (es : List Entry) (position : Position) → Follows flash r es position c → Follows flash r es position d

-- The cursor has the page of its place; it was read at most once, and exactly once if none was skipped.
pub record CursorLooks (r : Kept) (arena : Frames) (old new : BoardState) (c d : Cursor) : Type 0 where
  pub page : page_at old.pages (page_of r (c.place / page_entries r.shape)) ≡ whole (bytes_in r arena d)
  pub loaded : d.loaded ≡ suc (c.place / page_entries r.shape)
  pub here : d.place < d.loaded * page_entries d.shape
  pub reads : Reads (read_of r.leases c.loaded) (read_of r.leases d.loaded) old new
  pub all : HasPassed c → ReadsAll (read_of r.leases c.loaded) (read_of r.leases d.loaded) old new

-- The page of the cursor's place could not be read, and it has come past no page.
pub record FailsToShow (r : Kept) (old new : BoardState) (c d : Cursor) : Type 0 where
  pub kept : d.loaded ≡ c.loaded
  pub failed : ReadFailed old new (page_of r (c.place / page_entries r.shape))

-- From a place on in a page the first wanted entry is at this place; or none is wanted, and this is the end.
pub record IsFirstWanted (position : Position) (page : List ℕ) (from place : ℕ) : Type 0 where
  pub forth : from ≤ place
  pub most : place ≤ number_at 2 10 page
  pub before : (k : ℕ) → from ≤ k → k < place → is_wanted position (cell_key (cell_at (HEAD_BYTES + ENTRY_BYTES * k) page)) ≡ false
  pub at : place < number_at 2 10 page → is_wanted position (cell_key (cell_at (HEAD_BYTES + ENTRY_BYTES * place) page)) ≡ true

-- The cursor went on in its page, of these bytes, to the first wanted entry from its place on, or, if none was found, past the last.
pub record CursorMoves (position : Position) (page : List ℕ) (c d : Cursor) (found : Bool) : Type 0 where
  pub to : ℕ
  pub first : IsFirstWanted position page (c.place % page_entries c.shape) to
  pub cursor : d ≡ record c { place = c.place - c.place % page_entries c.shape + to }
  pub tells : found ≡ nat_lt to (number_at 2 10 page)

-- ---- the first wanted entry of a run

-- the cursor's place is that of this entry, and it has its page
pub record IsAt (r : Kept) (flash : Flash) (arena : Frames) (d : Cursor) (e : Entry) : Type 0 where
  pub inside : d.place < r.count
  pub loaded : d.loaded ≡ suc (d.place / page_entries r.shape)
  pub is : (es : List Entry) → RunOnFlash r flash arena es → slice_get es d.place ≡ Some e

-- This is the first entry of the run that is wanted, and the cursor is at it, or there is none; each page up to it was read at most once, and exactly
-- once if none is skipped.
pub record FindsIn (r : Kept) (arena : Frames) (position : Position) (old new : BoardState) (c d : Cursor) (answer : Option RustEntry) : Type 0 where
  pub found : (es : List Entry) → RunOnFlash r old.pages arena es → option_map seen answer ≡ first_of (wanted (is_wanted position) es)
  pub at : (e : RustEntry) → answer ≡ Some e → IsAt r old.pages arena d (seen e)
  pub past : answer ≡ None → r.count ≤ d.place
  pub sought : d.head ≡ None
  pub reads : Reads (read_of r.leases c.loaded) (read_of r.leases d.loaded) old new
  pub all : SkipsNoPage position → HasPassed c → ReadsAll (read_of r.leases c.loaded) (read_of r.leases d.loaded) old new
  pub ended : answer ≡ None → SkipsNoPage position → HasPassed c → d.loaded ≡ length r.firsts

-- the cursor with what was found at its place, and past it
abbrev pub holding : Option Entry → Cursor → Cursor
holding None c = record c { head = Some None }
holding (Some e) c = record c { place = suc c.place; head = Some (Some e); has_found = true }

-- The cursor knows the first wanted entry of the run; each page up to it was read at most once, and exactly once if none is skipped.
pub record ShowsIn (r : Kept) (position : Position) (old new : BoardState) (c d : Cursor) : Type 0 where
  pub known : is_some d.head ≡ true
  pub reads : Reads (read_of r.leases c.loaded) (read_of r.leases d.loaded) old new
  pub all : SkipsNoPage position → HasPassed c → ReadsAll (read_of r.leases c.loaded) (read_of r.leases d.loaded) old new
  pub ended : d.head ≡ Some None → SkipsNoPage position → HasPassed c → d.loaded ≡ length r.firsts

-- The cursor follows the run from this position on, and has skipped no page if none is skipped.
pub record GoesOn (flash : Flash) (arena : Frames) (r : Kept) (position : Position) (c d : Cursor) : Type 0 where
  pub follows : (es : List Entry) → RunOnFlash r flash arena es → Follows flash r es position d
  pub shape : d.shape ≡ c.shape
  pub passed : SkipsNoPage position → HasPassed c → HasPassed d

-- The first wanted entry may be looked for: the board may be called, and the cursor follows the run.
pub record MaySeek (r : Kept) (arena : Frames) (position : Position) (old : BoardState) (c : Cursor) : Type 0 where
  pub ready : IsReady old r.shape
  pub shape_is : c.shape ≡ r.shape
  pub entries : List Entry
  pub stands : RunOnFlash r old.pages arena entries
  pub follows : Follows old.pages r entries position c

-- Whether or not a read failed, the cursor goes on, the flash is unchanged, and the board may be called as before.
pub record SeeksOn (r : Kept) (arena : Frames) (position : Position) (old new : BoardState) (c d : Cursor) : Type 0 where
  pub goes_on : GoesOn old.pages arena r position c d
  pub same : new.pages ≡ old.pages
  pub ready : IsReady new r.shape

-- A page of the run that the cursor comes past could not be read.
pub record FailsToSeek (r : Kept) (old new : BoardState) (c d : Cursor) (fault : Fault) : Type 0 where
  pub reading : fault ≡ Reading
  pub reads : ReadsFail (read_of r.leases c.loaded) (read_of r.leases d.loaded) old new

-- ---- the first wanted entry of several runs

-- the cursor knows the first wanted entry of its run
abbrev pub IsKnown : Cursor → Type 0
IsKnown c = is_some c.head ≡ true

-- the cursor knows that there is none
abbrev pub HasNone : Cursor → Type 0
HasNone c = c.head ≡ Some None

-- The cursors know the first wanted entries of the runs; each page up to them was read at most once, and exactly once if none is skipped.
pub record ShowsEach (rs : List Kept) (position : Position) (old new : BoardState) (cs ds : List Cursor) : Type 0 where
  pub known : AllByRecursion IsKnown ds
  pub reads : Reads (pages_read rs cs) (pages_read rs ds) old new
  pub all : SkipsNoPage position → AllByRecursion HasPassed cs → ReadsAll (pages_read rs cs) (pages_read rs ds) old new
  pub ended : AllByRecursion HasNone ds → SkipsNoPage position → AllByRecursion HasPassed cs → pages_read rs ds ≡ most_read rs

-- The cursors follow the runs from this position on, and have skipped no page if none is skipped.
pub record GoOn (flash : Flash) (arena : Frames) (shape : Shape) (rs : List Kept) (position : Position) (cs ds : List Cursor) : Type 0 where
  pub follow : (ess : List (List Entry)) → RunsOnFlash flash arena rs ess → FollowEach flash rs ess position ds
  pub of_shape : AreOfShape shape ds
  pub passed : SkipsNoPage position → AllByRecursion HasPassed cs → AllByRecursion HasPassed ds

-- ---- the next entry of a walk

-- what is known of the runs' first wanted entries
abbrev pub heads_of : List Cursor → List Head
heads_of [] = []
heads_of (c ∷ cs) = c.head ∷ heads_of cs

-- and of those of the buffers and the runs
abbrev pub heads_in : Tops → List Cursor → List Head
heads_in t cs = t.active ∷ t.frozen ∷ heads_of cs

-- What was not known of the buffers was looked for.
abbrev pub AreKnown : List Entry → List Entry → Position → Tops → Tops → Type 0
AreKnown active frozen position t u =
    u ≡ record { active = known_as (first_of (wanted (is_wanted position) active)) t.active; frozen = known_as (first_of (wanted (is_wanted position) frozen)) t.frozen }

-- How each but the first compares with the least of those before it.
pub record AreOrders (a b c d e f : Head) (o : RustOrders) : Type 0 where
  pub frozen_is : o.frozen ≡ order_of (least_of (a ∷ [])) (entry_in b)
  pub first_is : o.first ≡ order_of (least_of (a ∷ b ∷ [])) (entry_in c)
  pub second_is : o.second ≡ order_of (least_of (a ∷ b ∷ c ∷ [])) (entry_in d)
  pub third_is : o.third ≡ order_of (least_of (a ∷ b ∷ c ∷ d ∷ [])) (entry_in e)
  pub fourth_is : o.fourth ≡ order_of (least_of (a ∷ b ∷ c ∷ d ∷ e ∷ [])) (entry_in f)

-- those of the key that was returned have to be looked for, and the others are unchanged
abbrev pub GoBehind : Option Entry → Tops → List Cursor → Tops → List Cursor → Type 0
GoBehind None t cs u ds = (u ≡ t) × (ds ≡ cs)
GoBehind (Some e) t cs u ds = (u ≡ tops_behind e.0 t) × (ds ≡ cursors_behind e.0 cs)

-- the first entry that remains in the buffers and the runs
abbrev pub first_left : Position → List Entry → List Entry → List (List Entry) → Option Entry
first_left position active frozen ess = first_of (all_left position (active ∷ frozen ∷ ess))

-- This is the next of the entries that remain, or there is none; each page up to it was read at most once, and exactly once if none is skipped.
pub record Comes (rs : List Kept) (arena : Frames) (active frozen : List Entry) (old new : BoardState) (w v : Walk) (answer : Option RustEntry) : Type 0 where
  pub passes : (ess : List (List Entry)) → RunsOnFlash old.pages arena rs ess → Passes answer (all_left w.position (active ∷ frozen ∷ ess)) (all_left v.position (active ∷ frozen ∷ ess))
  pub reads : Reads (pages_read rs w.cursors) (pages_read rs v.cursors) old new
  pub exact : SkipsNone w → ReadsAll (pages_read rs w.cursors) (pages_read rs v.cursors) old new
  pub ended : answer ≡ None → SkipsNone w → pages_read rs v.cursors ≡ most_read rs

-- The walk's cursors follow the runs from its position on, as it does the buffers, and it has skipped no page if it had skipped none.
pub record WalksOn (flash : Flash) (arena : Frames) (rs : List Kept) (active frozen : List Entry) (w v : Walk) : Type 0 where
  pub follow : (ess : List (List Entry)) → RunsOnFlash flash arena rs ess → FollowEach flash rs ess v.position v.cursors × ShowBoth active frozen v.position v.tops
  pub same_shape : v.shape ≡ w.shape
  pub skips_none : SkipsNone w → SkipsNone v
