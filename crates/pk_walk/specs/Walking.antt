-- A walk over two write buffers and four runs: what it keeps, and what remains of it.
use Rattle.std.specs.Prelude.{◌≡◌, ⊤, ℕ, suc, ◌+◌, ◌-◌, ◌*◌, ◌/◌, ◌<◌, ◌≤◌, Bool, true, false, slice_get, List, [], ◌∷◌, ◌++◌, length, drop, Option, Some, None}
use Rattle.std.specs.List.{AllByRecursion, flat_map}
use Rattle.pk_base.{specs.Key.Key, specs.Shape.Shape, specs.Shape.page_entries, specs.Entry.Entry, specs.Entry.Place, specs.Entry.put_entry, specs.Firsts.firsts, specs.Seen.entry}
use Rattle.pk_base.{specs.declared.entry.Entry.Entry as RustEntry, specs.Page.Flash, specs.Page.page_at, specs.Page.whole}
use Rattle.pk_nand.{specs.BoardState.BoardState, specs.Operations.ReadFailed, specs.Counts.after_reads}
use Rattle.pk_pin.specs.Frames.{Frames}
use Rattle.pk_run.specs.Kept.{Kept, page_of}
use Rattle.pk_level.specs.Levels.{RunsOnFlash}
use Rattle.pk_walk.{specs.Visible.visible, specs.Visible.is_wanted, specs.Visible.wanted, specs.declared.buffers.Tops.Tops as RustTops, specs.declared.position.Position.Position}
use Rattle.pk_walk.specs.Heads.{Head, IsNextWanted, Shows, head_after, held, seen_head}
use Rattle.pk_walk.specs.declared.position.Position.TheVariants.{First, From, Above}

-- A place among the entries of a run; how many pages of the run the walk has passed, and the bytes of the last of them if it was read; and
-- the first wanted entry, which is just before the place. A cursor that has found one wants all those from its place on.
pub record Cursor : Type 0 where
  pub shape : Shape
  pub place : ℕ
  pub loaded : ℕ
  pub bytes : List ℕ
  pub head : Head
  pub has_found : Bool

-- before all entries of a run
abbrev pub at_start : Cursor → Cursor
at_start c = record c { place = 0; loaded = 0; head = None; has_found = false }

-- each cursor of a list there
abbrev pub all_at_start : List Cursor → List Cursor
all_at_start [] = []
all_at_start (c ∷ cs) = at_start c ∷ all_at_start cs

-- if the walk moves past a key that is not above what the cursors have
abbrev pub cursors_behind : Key → List Cursor → List Cursor
cursors_behind key [] = []
cursors_behind key (c ∷ cs) = record c { head = head_after key c.head } ∷ cursors_behind key cs

-- what is known of the first wanted entries of the two write buffers
pub record Tops : Type 0 where
  pub active : Head
  pub frozen : Head

-- as memory has them
abbrev pub seen_tops : RustTops → Tops
seen_tops t = record { active = seen_head t.active.head; frozen = seen_head t.frozen.head }

-- nothing
abbrev pub none_known : Tops
none_known = record { active = None; frozen = None }

-- if the walk moves past a key that is not above them
abbrev pub tops_behind : Key → Tops → Tops
tops_behind key t = record { active = head_after key t.active; frozen = head_after key t.frozen }

-- the keys that were returned are before a position; the write buffers, and a cursor in each of the four runs
pub record Walk : Type 0 where
  pub shape : Shape
  pub position : Position
  pub tops : Tops
  pub cursors : List Cursor

-- the position at which a walk from a key begins, or from the first
abbrev pub first_position : Option Key → Position
first_position None = First
first_position (Some key) = From key

-- at the start of a walk from this position
abbrev pub walk_begun : Walk → Position → Walk
walk_begun w position = record w { position = position; tops = none_known; cursors = all_at_start w.cursors }

-- each cursor is for runs of this shape
abbrev pub AreOfShape : Shape → List Cursor → Type 0
AreOfShape shape [] = ⊤
AreOfShape shape (c ∷ cs) = (c.shape ≡ shape) × AreOfShape shape cs

-- what every walk keeps to
pub record IsWalk (w : Walk) : Type 0 where
  pub four : length w.cursors ≡ 4
  pub each : AreOfShape w.shape w.cursors

-- ---- cursors and runs

-- No wanted key of the run is before the cursor but the one that it has; and if the page of its place has no frame, it has that page if it has passed it.
pub record Follows (flash : Flash) (r : Kept) (es : List Entry) (position : Position) (c : Cursor) : Type 0 where
  pub pages : c.loaded ≤ length r.firsts
  pub behind : c.loaded ≤ suc (c.place / page_entries r.shape)
  pub holds : slice_get r.leases (c.place / page_entries r.shape) ≡ None → c.loaded ≡ suc (c.place / page_entries r.shape) → page_at flash (page_of r (c.place / page_entries r.shape)) ≡ whole c.bytes
  pub left : wanted (is_wanted position) es ≡ held c.head ++ wanted (is_wanted position) (drop c.place es)
  pub ended : c.head ≡ Some None → r.count ≤ c.place
  pub sure : c.has_found ≡ true → (0 < c.loaded) × ((i : ℕ) (e : Entry) → c.place ≤ i → slice_get es i ≡ Some e → IsNextWanted position c.head e)

-- the cursors follow the runs of the levels, one each
abbrev pub FollowEach : Flash → List Kept → List (List Entry) → Position → List Cursor → Type 0
FollowEach flash [] ess position cs = ⊤
FollowEach flash (r ∷ rs) [] position cs = ⊤
FollowEach flash (r ∷ rs) (es ∷ ess) position [] = ⊤
FollowEach flash (r ∷ rs) (es ∷ ess) position (c ∷ cs) = Follows flash r es position c × FollowEach flash rs ess position cs

-- what is known of the write buffers is right
abbrev pub ShowBoth : List Entry → List Entry → Position → Tops → Type 0
ShowBoth active frozen position t = Shows active position t.active × Shows frozen position t.frozen

-- ---- walks that skip no page

-- the cursor has come past the page of each entry before it
abbrev pub HasPassed : Cursor → Type 0
HasPassed c = c.place ≤ c.loaded * page_entries c.shape

-- A run is searched from its first page on, or from where its cursor is: only from a key on may pages be skipped.
abbrev pub SkipsNoPage : Position → Type 0
SkipsNoPage First = ⊤
SkipsNoPage (From key) = ⊥
SkipsNoPage (Above key) = ⊤

-- The walk began at the first key, and so has come past each page before its cursors.
pub record SkipsNone (w : Walk) : Type 0 where
  pub position : SkipsNoPage w.position
  pub passed : AllByRecursion HasPassed w.cursors

-- ---- what remains

-- The keys that the walk still has to return, with their places: those wanted of the keys that exist in the entries of the
-- buffers and of the runs on the flash.
pub record IsLeft (w : Walk) (flash : Flash) (arena : Frames) (runs : List Kept) (active frozen : List Entry) (rest : List (Key × Place)) : Type 0 where
  pub ess : List (List Entry)
  pub stand : RunsOnFlash flash arena runs ess
  pub follow : FollowEach flash runs ess w.position w.cursors
  pub tops : ShowBoth active frozen w.position w.tops
  pub is : rest ≡ wanted (is_wanted w.position) (visible (active ∷ frozen ∷ ess))

-- the first of them was answered, or that there is none; and these remain
abbrev pub WalkGives : Option RustEntry → List (Key × Place) → List (Key × Place) → Type 0
WalkGives found [] later = (found ≡ None) × (later ≡ [])
WalkGives None (x ∷ rest) later = ⊥
WalkGives (Some e) (x ∷ rest) later = (entry e ≡ put_entry x.0 x.1) × (later ≡ rest)

-- ---- reads

-- how many pages were read at most, of n that were passed: none of the first ones, which have frames
abbrev pub read_of : List ℕ → ℕ → ℕ
read_of leases pages = pages - length leases

-- of all the pages that the cursors have come past
abbrev pub pages_read : List Kept → List Cursor → ℕ
pages_read [] cs = 0
pages_read (r ∷ rs) [] = 0
pages_read (r ∷ rs) (c ∷ cs) = read_of r.leases c.loaded + pages_read rs cs

-- and of all the pages of the runs
abbrev pub most_read : List Kept → ℕ
most_read [] = 0
most_read (r ∷ rs) = read_of r.leases (length r.firsts) + most_read rs

-- Nothing was done but reads, at most as many as a number of pages rose from before to after.
abbrev pub Reads : ℕ → ℕ → BoardState → BoardState → Type 0
Reads before after old new = (k : ℕ) × (k + before ≤ after) × (new ≡ after_reads k old)

-- Nothing was done but reads, just as many as a number of pages rose by from before to after.
abbrev pub ReadsAll : ℕ → ℕ → BoardState → BoardState → Type 0
ReadsAll before after old new = (k : ℕ) × (k + before ≡ after) × (new ≡ after_reads k old)

-- at most this many were done, and then a read failed
abbrev pub ReadsFail : ℕ → ℕ → BoardState → BoardState → Type 0
ReadsFail before after old new = (k page : ℕ) × (k + before ≤ after) × ReadFailed (after_reads k old) new page

-- ---- inside

-- all entries of the wanted keys, with those of deleted ones, that count
abbrev pub all_left : Position → List (List Entry) → List Entry
all_left position lists = wanted (is_wanted position) (firsts (flat_map (λ es. es) lists))

-- the first of them was found, or that there is none; and these remain
abbrev pub Passes : Option RustEntry → List Entry → List Entry → Type 0
Passes found [] later = (found ≡ None) × (later ≡ [])
Passes None (x ∷ rest) later = ⊥
Passes (Some e) (x ∷ rest) later = (entry e ≡ x) × (later ≡ rest)
