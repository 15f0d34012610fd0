-- A merge that runs: where it is, what it does next, and what remains of it.
use Rattle.std.specs.Prelude.{◌≡◌, ◌≢◌, ◌⊎◌, ℕ, ◌+◌, ◌*◌, ◌<◌, ◌≤◌, Bool, true, T, not, ◌&&◌, ◌||◌, ◌==◌, nat_lt, List, [], ◌∷◌, ◌++◌, length, drop}
use Rattle.std.specs.FinMap.Entries.{is_sorted}
use Rattle.pk_base.{specs.Key.key_cmp, specs.Shape.Shape, specs.Shape.page_entries, specs.Entry.Entry, specs.Page.Flash}
use Rattle.pk_meta.specs.Over.{over, kept_at}
use Rattle.pk_pin.specs.Frames.{Frames}
use Rattle.pk_run.specs.Kept.{Kept, RunOnFlash}
use Rattle.pk_merge.{specs.declared.source.Source.Source, specs.declared.next.Next.Next, specs.Sources.count_of, specs.Sources.Has, specs.Sources.FollowsIn, specs.Sources.wants_page_in}
use Rattle.pk_merge.specs.declared.next.Next.TheVariants.{LoadSource, LoadTarget, Gather, TakeBlock, Program, End}
use Rattle.pk_merge.specs.Cursors.{Cursor, Follows, at_start, passed, wants_page}

-- a cursor in the source and one in the target, and the entries that were taken for the next page
pub record Merger : Type 0 where
  pub shape : Shape
  pub source : Cursor
  pub target : Cursor
  pub gathered : List Entry

-- at the start of a merge
abbrev pub restarted : Merger → Merger
restarted m = record m { source = at_start m.source; target = at_start m.target; gathered = [] }

-- what remains of the merge of two lists into a run of this level, after this many entries of each
abbrev pub left_of : ℕ → List Entry → List Entry → ℕ → ℕ → List Entry
left_of level es fs i j = kept_at level (over (drop i es) (drop j fs))

abbrev pub left : ℕ → List Entry → List Entry → Merger → List Entry
left level es fs m = left_of level es fs m.source.place m.target.place

-- ---- entries that are taken

-- after an entry of the source alone, of the target alone, and of both: of one key that of the source is taken
abbrev pub takes_source : ℕ → Entry → Merger → Merger
takes_source level e m = record m { source = passed m.source; gathered = m.gathered ++ kept_at level (e ∷ []) }

abbrev pub takes_target : ℕ → Entry → Merger → Merger
takes_target level e m = record m { target = passed m.target; gathered = m.gathered ++ kept_at level (e ∷ []) }

abbrev pub takes_both : ℕ → Entry → Merger → Merger
takes_both level e m = record m { source = passed m.source; target = passed m.target; gathered = m.gathered ++ kept_at level (e ∷ []) }

-- how many entries of both were taken
abbrev pub taken : Merger → ℕ
taken m = m.source.place + m.target.place

-- ---- what it does next

module _ {X : Type 0} (source : Source X) (target : Kept) where
  -- no entry remains of either
  abbrev pub IsAtEnd : Merger → Type 0
  IsAtEnd m = (count_of source ≤ m.source.place) × (target.count ≤ m.target.place)

  -- every entry was taken, and none waits for its page
  abbrev pub IsDone : Merger → Type 0
  IsDone m = IsAtEnd m × (m.gathered ≡ [])

  -- the next page has entries, as many as there may be
  pub record HasNextPage (m : Merger) : Type 0 where
    pub some : 1 ≤ length m.gathered
    pub all : (length m.gathered ≡ page_entries m.shape) ⊎ IsAtEnd m

  abbrev pub is_left_of_source : Merger → Bool
  is_left_of_source m = nat_lt m.source.place (count_of source)

  abbrev pub is_left_of_target : Merger → Bool
  is_left_of_target m = nat_lt m.target.place target.count

  -- the next entry is known, and there is room for it in its page
  unfoldable pub can_gather : Merger → Bool
  can_gather m =
      not (length m.gathered == page_entries m.shape) && (is_left_of_source m || is_left_of_target m)
      && not (is_left_of_source m && wants_page_in source m.source) && not (is_left_of_target m && wants_page m.target)

  -- why this comes next
  abbrev pub Tells : Kept → Merger → Next → Type 0
  Tells out m LoadSource = (m.source.place < count_of source) × (wants_page_in source m.source ≡ true)
  Tells out m LoadTarget = (m.target.place < target.count) × (wants_page m.target ≡ true)
  Tells out m Gather = can_gather m ≡ true
  Tells out m TakeBlock = HasNextPage m × (length out.firsts ≡ length out.blocks * out.shape.block_pages)
  Tells out m Program = HasNextPage m × (length out.firsts ≢ length out.blocks * out.shape.block_pages)
  Tells out m End = IsDone m

  -- The cursors are among the sorted entries of source and target.
  pub record StandsIn (flash : Flash) (arena : Frames) (es fs : List Entry) (m : Merger) : Type 0 where
    pub has : Has source flash arena es
    pub stands : RunOnFlash target flash arena fs
    pub rising : T (is_sorted key_cmp es)
    pub source_at : FollowsIn source flash m.source
    pub target_at : Follows flash target m.target

  -- It is as before, and with the entries that were taken since the same remains.
  pub record GoesOn (level : ℕ) (old new : Merger) : Type 0 where
    pub stands : (flash : Flash) (arena : Frames) (es fs : List Entry) → StandsIn flash arena es fs old → StandsIn flash arena es fs new
    pub same : (flash : Flash) (arena : Frames) (es fs : List Entry) → StandsIn flash arena es fs old → old.gathered ++ left level es fs old ≡ new.gathered ++ left level es fs new
    pub shape : new.shape ≡ old.shape
    pub source_pages : new.source.loaded ≡ old.source.loaded
    pub target_pages : new.target.loaded ≡ old.target.loaded
    pub no_fewer : length old.gathered ≤ length new.gathered
