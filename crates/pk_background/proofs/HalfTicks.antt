-- A background step that makes the second program of a pair, by the drive and its board.
use Rattle.std.proofs.Common.{◌≡◌, inl, refl, ap, ◌∙◌, arith, true}
use Rattle.pk_nand.{specs.BoardState.BoardState, specs.Effects.AtMostOneCall, specs.Effects.OneProgram, specs.Effects.made_program}
use Rattle.pk_pool.specs.Blocks.{IsShared}
use Rattle.pk_log.specs.State.{LogState}
use Rattle.pk_call.specs.declared.types.Ticked.TheVariants.{Worked, Fault}
use Rattle.pk_parts.{specs.Parts.Parts, specs.Parts.frames_of, specs.Parts.is_half, proofs.Halves.between, proofs.Halves.is_whole, proofs.Staying.stays_frees, proofs.Unchanging.agrees_ready}
use Rattle.pk_background.{specs.Pairing.MayFinishHalf, specs.Pairing.FinishesHalf, specs.Pairing.FailsToFinish, specs.Ticking.MayTick, specs.Ticking.Advances, proofs.Ticking.busy_half}
use Rattle.pk_background.{proofs.TickSteps.its_stand, proofs.TickSteps.made_advances, proofs.TickSteps.stop_advances, proofs.Ordering.pair_due, proofs.Ordering.makes_pair}

-- one program is one flash operation
program_calls : (old new : BoardState) → OneProgram old new → AtMostOneCall old new
program_calls old new one = made_program (one.reads, one.programs, one.erases)

module _ (d : Parts) (old : BoardState) (m : MayTick d old) (half : is_half d ≡ true) where
  pub may_finish : MayFinishHalf d old
  may_finish = record { ready = agrees_ready d old m.agrees; stands = (m.agrees.all, its_stand d old m); half = half }

  module _ (d' : Parts) (new : BoardState) (shared : IsShared d.pool.shape d.pool.states) where
    pub half_advances : FinishesHalf d d' old new → Advances d d' old new Worked
    half_advances f =
        let done = f.finished d.log.shape m.agrees.all (its_stand d old m) in
        let same = f.same_roots in
        let number = ap (λ (l : LogState). l.root.number) f.log in
        made_advances d old m d' new f.ready (program_calls old new f.program) f.works.rest (omega (arith, same))
        (λ _. f.program) (λ _. is_whole d' done.stands.whole) (λ _. f.pair) done.grows (busy_half d old m.agrees shared half)
        (ap (λ (l : LogState). l.pending) f.log ∙ m.none)
        (record {
          stands = between d' d.log.shape new.pages m.agrees.all done.stands;
          cuts = done.cuts;
        }) f.works.no_fault (ap (λ (e : Parts). frames_of e) f.rest) (ap (λ (e : Parts). e.stopped) f.rest) (stays_frees d d' f.stays) (omega (arith, number)) (inl number) f.lowers
        (makes_pair d d' old new half (f.program, f.pair, is_whole d' done.stands.whole))

    pub half_stops : d'.log.pending ≡ d.log.pending → FailsToFinish d old new → Advances d (record d' { stopped = true }) old new (Fault true)
    half_stops same fails =
        let fewer = fails.no_root in
        stop_advances d old m (record d' { stopped = true }) new fails.ready (program_calls old new fails.program) fails.stops.rest
        (omega (arith, fewer)) (λ _. fails.program) (busy_half d old m.agrees shared half)
        (same ∙ m.none) refl (fails.fails d.log.shape m.agrees.all (its_stand d old m)) fails.stops (pair_due d half)
