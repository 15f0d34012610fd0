-- Background steps one after another, and the answer of the command that requests them.
use Rattle.std.specs.Prelude.{◌≡◌, ℕ, ◌+◌, ◌≤◌, ◌⊎◌, Bool, true, false}
use Rattle.pk_model.specs.declared.wear.TheConstants.{WORN_FROM}
use Rattle.pk_nvme.specs.declared.status.TheConstants.{SUCCESSFUL_COMPLETION, UNRECOVERED_ERROR}
use Rattle.pk_nand.{specs.BoardState.BoardState, specs.Calls.Rose, specs.Calls.last_count, specs.Effects.OnlyFlash, specs.Effects.NoFault}
use Rattle.pk_call.{specs.Sight.Sight, specs.Call.KeepsMap, specs.Running.FoundAfterCrash, specs.Seen.stopped_by, specs.declared.types.Ticked.Ticked, specs.declared.types.Outcome.Outcome}
use Rattle.pk_call.specs.declared.types.Ticked.TheVariants.{Worked, Idle, Fault}
use Rattle.pk_model.specs.Crashes.{background}
use Rattle.pk_background.{specs.Costs.Spends, specs.Ticking.HasNoStep}
use Rattle.pk_parts.specs.Parts.{Parts, sight_of}

-- a flash operation failed
abbrev pub has_failed : Ticked → Bool
has_failed Worked = false
has_failed Idle = false
has_failed (Fault stopped) = true

-- What at most n steps did together to a drive and its board, if the last of them answered this.
pub record BackgroundSteps (old new : BoardState) (before after : Sight) (answer : Ticked) (most : ℕ) : Type 0 where
  pub stands : stopped_by answer ≡ false → KeepsMap old new before after
  pub found : FoundAfterCrash old new before background (stopped_by answer)
  pub rest : OnlyFlash old new
  pub spends : Spends most most old new
  pub few : new.reads ≤ last_count
  pub more_reads : old.reads ≤ new.reads
  pub within : new.reads ≤ old.reads + most
  pub up : old.read_faults ≤ new.read_faults
  pub flash_up : old.flash_faults ≤ last_count → old.flash_faults ≤ new.flash_faults
  pub unread : answer ≡ Fault false → Rose old.read_faults new.read_faults
  pub sound : has_failed answer ≡ false → NoFault old new
  pub stop : stopped_by answer ≡ true → Rose old.stop_faults new.stop_faults
  pub no_stop : stopped_by answer ≡ false → new.stop_faults ≡ old.stop_faults

-- a success without data, or the status of a call that failed, after this many reads
abbrev pub outcome_of : Ticked → ℕ → Outcome
outcome_of Worked reads = record { status = SUCCESSFUL_COMPLETION; result = 0; data_len = 0; reads = reads; stopped = false }
outcome_of Idle reads = record { status = SUCCESSFUL_COMPLETION; result = 0; data_len = 0; reads = reads; stopped = false }
outcome_of (Fault stopped) reads = record { status = UNRECOVERED_ERROR; result = 0; data_len = 0; reads = reads; stopped = stopped }

-- no step remains, or none is made any more, as the drive is worn
abbrev pub MakesNoMore : Parts → Type 0
MakesNoMore after = HasNoStep after ⊎ (WORN_FROM ≤ after.log.root.number)

-- this many steps fewer remain, or none is made any more
abbrev pub Lessens : Parts → Parts → ℕ → Type 0
Lessens before after steps = ((sight_of after).work + steps ≤ (sight_of before).work) ⊎ MakesNoMore after
