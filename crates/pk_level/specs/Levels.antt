-- The four runs of a drive, and a lookup through them.
use Rattle.std.specs.Prelude.{◌≡◌, ⊤, ℕ, suc, ◌+◌, ◌-◌, ◌<◌, ◌≤◌, Bool, nat_lt, ◌&&◌, if◌then◌else◌, List, [], ◌∷◌, length, slice_index_or, slice_set, MatchOption}
use Rattle.std.{specs.List.flat_map, specs.FinMap.Entries.find}
use Rattle.pk_base.{specs.declared.sizes.TheConstants.LEVELS, specs.Key.Key, specs.Key.key_cmp, specs.Shape.Shape, specs.Entry.Entry, specs.Page.Flash}
use Rattle.pk_nand.{specs.BoardState.BoardState, specs.Operations.ReadFailed, specs.Counts.after_reads}
use Rattle.pk_pin.specs.Frames.{Frames}
use Rattle.pk_run.{specs.Kept.Kept, specs.Kept.IsPinned, specs.Kept.RunOnFlash, specs.Kept.empty, specs.Kept.is_pinned, specs.Search.RunLooks}

-- how many levels have frames for all their pages, and runs 1 to 4
pub record Levels : Type 0 where
  pub shape : Shape
  pub pinned : ℕ
  pub runs : List Kept

-- four runs without entries
abbrev pub no_runs : Shape → ℕ → Levels
no_runs shape pinned = record { shape = shape; pinned = pinned; runs = empty shape 1 ∷ empty shape 2 ∷ empty shape 3 ∷ empty shape 4 ∷ [] }

-- the run of a level
abbrev pub run_of : Levels → ℕ → Kept
run_of levels level = slice_index_or levels.runs (level - 1) (empty levels.shape level)

abbrev pub with_run : Levels → ℕ → Kept → Levels
with_run levels level r = record levels { runs = slice_set levels.runs (level - 1) r }

-- a run may be at this level: it is one of it, and all its pages have frames if those of the level have
pub record IsOfLevel (shape : Shape) (pinned level : ℕ) (r : Kept) : Type 0 where
  pub same_shape : r.shape ≡ shape
  pub same_level : r.level ≡ level
  pub frames : level ≤ pinned → IsPinned r

-- runs from a level on
abbrev pub AreOfLevels : Shape → ℕ → ℕ → List Kept → Type 0
AreOfLevels shape pinned level [] = ⊤
AreOfLevels shape pinned level (r ∷ rs) = IsOfLevel shape pinned level r × AreOfLevels shape pinned (suc level) rs

-- what all levels keep to
pub record IsLevels (levels : Levels) : Type 0 where
  pub most : levels.pinned ≤ LEVELS
  pub four : length levels.runs ≡ LEVELS
  pub each : AreOfLevels levels.shape levels.pinned 1 levels.runs

-- the entries of the runs on the flash are those of these lists
abbrev pub RunsOnFlash : Flash → Frames → List Kept → List (List Entry) → Type 0
RunsOnFlash flash arena [] [] = ⊤
RunsOnFlash flash arena [] (es ∷ ess) = ⊥
RunsOnFlash flash arena (r ∷ rs) [] = ⊥
RunsOnFlash flash arena (r ∷ rs) (es ∷ ess) = RunOnFlash r flash arena es × RunsOnFlash flash arena rs ess

-- the runs have this shape, and their pages are in these blocks
abbrev pub HaveBlocks : Shape → List Kept → List (List ℕ) → Type 0
HaveBlocks shape [] [] = ⊤
HaveBlocks shape [] (bs ∷ bss) = ⊥
HaveBlocks shape (r ∷ rs) [] = ⊥
HaveBlocks shape (r ∷ rs) (bs ∷ bss) = (r.shape ≡ shape) × (r.blocks ≡ bs) × HaveBlocks shape rs bss

-- all entries, those of the first run first
abbrev pub all_entries : List (List Entry) → List Entry
all_entries ess = flat_map (λ es. es) ess

-- most reads of a lookup in a run: none if all its pages have frames
abbrev pub most_reads : Kept → ℕ
most_reads r = if is_pinned r then 0 else 1

abbrev pub reads_through : List Kept → ℕ
reads_through [] = 0
reads_through (r ∷ rs) = most_reads r + reads_through rs

-- Runs are looked into from the first on, down to the one with an entry of the key: by at most one read each, and by none if the page has a frame.
abbrev pub LooksFor : Key → List Kept → List (List Entry) → BoardState → BoardState → Type 0
LooksFor key [] ess old new = new ≡ old
LooksFor key (r ∷ rs) [] old new = new ≡ old
LooksFor key (r ∷ rs) (es ∷ ess) old new =
    (between : BoardState) × RunLooks r key old between × MatchOption (find key_cmp key es) (LooksFor key rs ess between new) (λ place. new ≡ between)

-- a level is held if it is below the pinned ones and all its pages have frames
abbrev pub is_held : ℕ → ℕ → Kept → Bool
is_held pinned level r = nat_lt pinned level && is_pinned r

-- how many levels are held, of those from this one on
abbrev pub held_from : ℕ → ℕ → List Kept → ℕ
held_from pinned level [] = 0
held_from pinned level (r ∷ rs) = (if is_held pinned level r then 1 else 0) + held_from pinned (suc level) rs

abbrev pub held_levels : Levels → ℕ
held_levels levels = held_from levels.pinned 1 levels.runs

-- nothing but at most n reads
abbrev pub ReadsUpTo : ℕ → BoardState → BoardState → Type 0
ReadsUpTo n old new = (k : ℕ) × (k ≤ n) × (new ≡ after_reads k old)

-- a read failed, after fewer than n others that did not
abbrev pub ReadFailsWithin : ℕ → BoardState → BoardState → Type 0
ReadFailsWithin n old new = (k page : ℕ) × (k < n) × ReadFailed (after_reads k old) new page
