-- What steps make of the work, and how much it is: the statements.
use Rattle.std.specs.Prelude.{◌≡◌, ℕ, ◌+◌, ◌-◌, ◌*◌, ◌<◌, ◌≤◌, List, length, sum, slice_index, Bool, true, false}
use Rattle.pk_base.{specs.declared.sizes.TheConstants.EPOCH_BLOCKS, specs.Merge.room}
use Rattle.pk_base.specs.Shape.{Shape, IsShape, buffer, dense, epoch_commits, blocks_of, cap, run_pages, run_blocks, most_pages, data_blocks, limit, most_calls}
use Rattle.pk_law_work.specs.Rest.{steps_of, other_steps, whole_merge, whole_freeze, whole_reclaim}
use Rattle.pk_law_work.{specs.Jobs.merge_rest, specs.Jobs.freeze_rest, specs.Jobs.reclaim_rest, specs.Backlog.Backlog, specs.Backlog.IsBacklog, specs.Backlog.is_tight, specs.Backlog.due_level}
use Rattle.pk_law_work.specs.Work.{emptying, merging, merging_left, work}
use Rattle.pk_law_work.specs.Steps.{MovesMerge, EndsMerge, MovesFreeze, EndsFreeze, EndsPair, StepsReclaim, FillsFrame, ErasesBlock}

-- the work is always less than this
abbrev pub WorkMost : Type 0
WorkMost = (shape : Shape) (b : Backlog) → IsShape shape → IsBacklog shape b → work shape b < 4 * most_calls shape + 2 * shape.blocks

-- what remains to empty the frozen buffer is at most four whole merges
abbrev pub MergingMost : Type 0
MergingMost = (shape : Shape) (b : Backlog) → IsBacklog shape b → merging shape b ≤ emptying shape 4

-- A step of a merge lowers the work, and what remains to empty the frozen buffer; the level that is due is the same, or one less after an end.
abbrev pub MergeMoves : Type 0
MergeMoves =
    (shape : Shape) (b b' : Backlog) → MovesMerge shape b b'
    → (work shape b' < work shape b) × (merging_left shape b' < merging_left shape b) × (due_level shape b' ≡ due_level shape b)

abbrev pub MergeEnds : Type 0
MergeEnds =
    (shape : Shape) (b b' : Backlog) → IsBacklog shape b → EndsMerge shape b b'
    → (work shape b' < work shape b) × (merging_left shape b' < merging_left shape b) × (due_level shape b' + 1 ≡ due_level shape b)

-- each step of a freeze lowers the work
abbrev pub FreezeMoves : Type 0
FreezeMoves = (shape : Shape) (b b' : Backlog) → MovesFreeze shape b b' → work shape b' < work shape b

abbrev pub FreezeEnds : Type 0
FreezeEnds = (shape : Shape) (b b' : Backlog) → EndsFreeze shape b b' → work shape b' < work shape b

-- the second program of a root lowers both, and the level that is due is the same
abbrev pub PairEnds : Type 0
PairEnds =
    (shape : Shape) (b b' : Backlog) → EndsPair b b'
    → (work shape b' < work shape b) × (merging_left shape b' < merging_left shape b) × (due_level shape b' ≡ due_level shape b)

-- so does each step of a reclaim
abbrev pub Reclaims : Type 0
Reclaims = (shape : Shape) (b b' : Backlog) → StepsReclaim shape b b' → work shape b' < work shape b

-- so does a page that is read into a frame
abbrev pub FrameFills : Type 0
FrameFills = (shape : Shape) (b b' : Backlog) → FillsFrame shape b b' → work shape b' < work shape b

-- so does an erase of a free block
abbrev pub Erases : Type 0
Erases = (shape : Shape) (b b' : Backlog) → ErasesBlock b b' → work shape b' < work shape b

-- If it is not tight, that many moves have room; and it is not tight after a freeze.
abbrev pub RoomForMoves : Type 0
RoomForMoves = (shape : Shape) (active left moves : ℕ) → is_tight shape active left ≡ false → moves ≤ dense shape → (active + moves ≤ buffer shape) × (0 < left)

abbrev pub FrozenIsRoom : Type 0
FrozenIsRoom = (shape : Shape) → IsShape shape → is_tight shape 0 (epoch_commits shape) ≡ false

-- No job has more left than the whole of it.
abbrev pub MergeWithin : Type 0
MergeWithin =
    (shape : Shape) (level unread entries programmed taken others : ℕ) → IsShape shape → unread ≤ cap shape (level - 1) + cap shape level → entries ≤ room shape level
    → others ≤ other_steps → steps_of (merge_rest shape unread entries programmed taken others) ≤ whole_merge shape level

abbrev pub FreezeWithin : Type 0
FreezeWithin = (taken others : ℕ) → others ≤ other_steps → steps_of (freeze_rest taken others) ≤ whole_freeze

abbrev pub ReclaimWithin : Type 0
ReclaimWithin = (shape : Shape) (pages others : ℕ) (held : Bool) → pages ≤ dense shape → others ≤ other_steps → steps_of (reclaim_rest pages held others) + 2 ≤ whole_reclaim shape

-- A page that is programmed leaves one step less of a merge, and a block that is taken leaves two less of a merge or a freeze.
abbrev pub MergePrograms : Type 0
MergePrograms =
    (shape : Shape) (unread entries programmed taken others : ℕ) → programmed < run_pages shape entries
    → steps_of (merge_rest shape unread entries (programmed + 1) taken others) + 1 ≡ steps_of (merge_rest shape unread entries programmed taken others)

abbrev pub MergeTakes : Type 0
MergeTakes =
    (shape : Shape) (unread entries programmed taken others : ℕ) → taken < run_blocks shape entries
    → steps_of (merge_rest shape unread entries programmed (taken + 1) others) + 2 ≡ steps_of (merge_rest shape unread entries programmed taken others)

abbrev pub FreezeTakes : Type 0
FreezeTakes = (taken others : ℕ) → taken < EPOCH_BLOCKS → steps_of (freeze_rest (taken + 1) others) + 2 ≡ steps_of (freeze_rest taken others)

-- A page that is read leaves one step less of a reclaim, and so does its program.
abbrev pub ReclaimReads : Type 0
ReclaimReads = (pages others : ℕ) → 0 < pages → steps_of (reclaim_rest pages true others) + 1 ≡ steps_of (reclaim_rest pages false others)

abbrev pub ReclaimPrograms : Type 0
ReclaimPrograms = (pages others : ℕ) → steps_of (reclaim_rest pages false others) + 1 ≡ steps_of (reclaim_rest (pages + 1) true others)

-- A run has as many pages and blocks as its level allows.
abbrev pub FewPages : Type 0
FewPages = (shape : Shape) (level entries : ℕ) → IsShape shape → entries ≤ room shape level → run_pages shape entries ≤ cap shape level

abbrev pub FewBlocks : Type 0
FewBlocks = (shape : Shape) (level entries : ℕ) → IsShape shape → entries ≤ room shape level → run_blocks shape entries ≤ blocks_of shape (cap shape level)

-- if as many data blocks are in use as there may be, one of them has few enough live pages to be reclaimed
abbrev pub LightVictim : Type 0
LightVictim =
    (shape : Shape) (live : List ℕ) → IsShape shape → length live ≡ data_blocks shape - 1 → sum live ≤ limit shape
    → (i : ℕ) × (i < length live) × (slice_index live i ≤ dense shape)

-- a block with so few pages written takes every value, so that no other reclaim is due
abbrev pub RoomBehind : Type 0
RoomBehind = (shape : Shape) (used : ℕ) → used ≤ dense shape → used + most_pages shape ≤ shape.block_pages
