-- The first step of a reclaim.
use Rattle.std.specs.Prelude.{◌≡◌, ◌⊎◌, ℕ, ◌<◌, ◌≤◌, [], false, Option, slice_set}
use Rattle.pk_base.specs.declared.sizes.TheConstants.{ROOT_BLOCKS}
use Rattle.pk_plan.specs.declared.owner.Owner.TheVariants.{Values as for_values}
use Rattle.pk_nand.{specs.BoardState.BoardState, specs.Operations.IsErasedBlock}
use Rattle.pk_pool.{specs.declared.state.BlockState.TheVariants.Free, specs.declared.state.BlockState.TheVariants.Owned, specs.Blocks.Blocks, specs.Blocks.IsSpare, specs.Blocks.with_state}
use Rattle.pk_pool.specs.Taking.{ReachesIn, TakesReady, ErasesFree}
use Rattle.pk_live.{specs.Values.Values, specs.Values.count_of, specs.declared.open_block.OpenBlock.OpenBlock}
use Rattle.pk_gc.{specs.declared.reclaimed.Reclaimed.Reclaimed, specs.declared.course.Phase.TheVariants.Copies, specs.State.JobState, specs.State.started, specs.Victims.Chooses}
use Rattle.pk_gc.specs.declared.reclaimed.Reclaimed.TheVariants.{Worked, NeedsFreeze, Ended}

-- The victim has live pages, and a block without an owner was taken for their copies, by at most one erase.
pub record Starts (job : JobState) (live : Values) (front : Option OpenBlock) (p : Blocks) (old : BoardState) (job' : JobState) (live' : Values) (front' : Option OpenBlock) (q : Blocks) (new : BoardState) : Type 0 where
  pub victim : ℕ
  pub output : ℕ
  pub chooses : Chooses job.shape live front live' front' victim
  pub spare : IsSpare p output
  pub place : ROOT_BLOCKS ≤ output × output < p.shape.blocks
  pub taken : q ≡ with_state p output (Owned for_values)
  pub choice : TakesReady p old output new ⊎ ErasesFree p old output new
  pub are_erased : IsErasedBlock p.shape new.pages output
  pub cuts : ReachesIn p.shape output old new
  pub job_is : job' ≡ record job { phase = Copies (started victim output); moves = []; entries = [] }

-- The victim has no live page, and was freed.
pub record GivesBack (job : JobState) (live : Values) (front : Option OpenBlock) (p : Blocks) (old : BoardState) (job' : JobState) (live' : Values) (front' : Option OpenBlock) (q : Blocks) (new : BoardState) : Type 0 where
  pub victim : ℕ
  pub chosen : Values
  pub chooses : Chooses job.shape live front chosen front' victim
  pub empty : count_of chosen victim ≡ 0
  pub forgotten : live' ≡ record chosen { closed = slice_set chosen.closed victim false }
  pub given : q ≡ with_state p victim Free
  pub kept : job' ≡ job
  pub same : new ≡ old

-- what it did, by its answer
abbrev pub Begins : JobState → Values → Option OpenBlock → Blocks → BoardState → JobState → Values → Option OpenBlock → Blocks → BoardState → Reclaimed → Type 0
Begins job live front p old job' live' front' q new Worked = Starts job live front p old job' live' front' q new
Begins job live front p old job' live' front' q new NeedsFreeze = ⊥
Begins job live front p old job' live' front' q new Ended = GivesBack job live front p old job' live' front' q new
