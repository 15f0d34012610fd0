-- What is merged into a run: the frozen write buffer, or the run of the level above.
use Rattle.std.specs.Prelude.{◌≡◌, ⊤, ℕ, ◌≤◌, Bool, false, List, [], length, slice_get, slice_index_or, ◌<◌, Some}
use Rattle.pk_base.{specs.Shape.Shape, specs.Key.no_key, specs.Entry.Entry, specs.Entry.gone_entry, specs.EntryBytes.entry_at, specs.Page.Flash}
use Rattle.pk_pin.specs.Frames.{Frames}
use Rattle.pk_nand.{specs.BoardState.BoardState, specs.Operations.ReadFailed}
use Rattle.pk_run.specs.Kept.{RunOnFlash, page_of, after_look}
use Rattle.pk_merge.{specs.declared.source.Source.Source, specs.declared.source.Source.TheVariants.Frozen, specs.declared.source.Source.TheVariants.Run}
use Rattle.pk_merge.specs.Cursors.{Cursor, Follows, own_page, own_cell, wants_page, MayLoad, Loads, FailsToLoad}

-- how many entries it has
abbrev pub count_of : {X : Type 0} → Source X → ℕ
count_of (Frozen b) = length b.now.entries
count_of (Run r) = r.now.count

-- and how many pages; a buffer has none
abbrev pub pages_in : {X : Type 0} → Source X → ℕ
pages_in (Frozen b) = 0
pages_in (Run r) = length r.now.firsts

-- the blocks of its pages
abbrev pub blocks_in : {X : Type 0} → Source X → List ℕ
blocks_in (Frozen b) = []
blocks_in (Run r) = r.now.blocks

-- these are its entries
abbrev pub Has : {X : Type 0} → Source X → Flash → Frames → List Entry → Type 0
Has (Frozen b) flash arena es = es ≡ b.now.entries
Has (Run r) flash arena es = RunOnFlash r.now flash arena es

-- a cursor is among them
abbrev pub FollowsIn : {X : Type 0} → Source X → Flash → Cursor → Type 0
FollowsIn (Frozen b) flash c = (c.place ≤ length b.now.entries) × (c.loaded ≡ 0)
FollowsIn (Run r) flash c = Follows flash r.now c

-- the entry at its place
abbrev pub head_in : {X : Type 0} → Source X → Cursor → Entry
head_in (Frozen b) c = slice_index_or b.now.entries c.place (gone_entry no_key)
head_in (Run r) c = entry_at (own_cell c)

-- the entry at its place is on a page that it has not reached
abbrev pub wants_page_in : {X : Type 0} → Source X → Cursor → Bool
wants_page_in (Frozen b) c = false
wants_page_in (Run r) c = wants_page c

-- the entry at a cursor's place is known: it is one of them, on a page that the cursor has
pub record HasNextEntry {X : Type 0} (source : Source X) (c : Cursor) : Type 0 where
  pub here : (flash : Flash) × (arena : Frames) × (es : List Entry) × Has source flash arena es × FollowsIn source flash c
  pub exists : c.place < count_of source
  pub loaded : wants_page_in source c ≡ false

-- this is the entry at a cursor's place
abbrev pub IsNextEntry : {X : Type 0} → Source X → Cursor → Entry → Type 0
IsNextEntry source c e = (flash : Flash) (arena : Frames) (es : List Entry) → Has source flash arena es → FollowsIn source flash c → slice_get es c.place ≡ Some e

-- it is for a flash of this shape
abbrev pub IsOf : {X : Type 0} → Shape → Source X → Type 0
IsOf shape (Frozen b) = ⊤
IsOf shape (Run r) = r.now.shape ≡ shape

-- the board after a look at the page of a cursor's place: one read, and none if the page has a frame
abbrev pub after_look_at : {X : Type 0} → Source X → Cursor → BoardState → BoardState
after_look_at (Frozen b) c board = board
after_look_at (Run r) c board = after_look (slice_get r.now.leases (own_page c)) board

-- the read of the page of a cursor's place failed
abbrev pub LookFails : {X : Type 0} → Source X → Cursor → BoardState → BoardState → Type 0
LookFails (Frozen b) c old new = ⊥
LookFails (Run r) c old new = ReadFailed old new (page_of r.now (own_page c))

-- ---- loads of the page of a cursor's place, which is one of a run

-- it may be loaded
abbrev pub MayLoadIn : {X : Type 0} → Source X → Cursor → BoardState → Frames → Type 0
MayLoadIn (Frozen b) c board arena = ⊥
MayLoadIn (Run r) c board arena = MayLoad r.now c board arena

-- it was
abbrev pub LoadsIn : {X : Type 0} → Source X → Cursor → BoardState → Cursor → BoardState → Type 0
LoadsIn (Frozen b) c old c' new = ⊥
LoadsIn (Run r) c old c' new = Loads r.now c old c' new

-- its read failed
abbrev pub FailsToLoadIn : {X : Type 0} → Source X → Cursor → BoardState → Cursor → BoardState → Type 0
FailsToLoadIn (Frozen b) c old c' new = ⊥
FailsToLoadIn (Run r) c old c' new = FailsToLoad r.now c old c' new
