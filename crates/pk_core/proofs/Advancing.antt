-- What a background step reports of the remaining work, and what is seen of its order.
use Rattle.std.{proofs.Common.◌≡◌, specs.Prelude.◌↔◌}
use Rattle.pk_nand.specs.BoardState.{BoardState}
use Rattle.pk_pool.specs.Blocks.{IsShared}
use Rattle.pk_call.{specs.Sight.IsIdle, specs.Tick.TellsIdle, specs.Tick.LowersWork, specs.Tick.KeepsOrder, specs.Tick.SeenOrder, specs.Tick.SettlesStep}
use Rattle.pk_call.{specs.declared.types.Ticked.Ticked, specs.declared.types.Ticked.TheVariants.Idle}
use Rattle.pk_parts.{specs.Parts.Parts, specs.Parts.sight_of, proofs.Unchanging.for_its_map}
use Rattle.pk_background.{specs.Ticking.MayTick, specs.Ticking.Advances, proofs.Ticking.none_idle, proofs.SeenOrder.seen_order}

-- ---- what the step answers

module _ (d d' : Parts) (old new : BoardState) (m : MayTick d old) (answer : Ticked) (made : Advances d d' old new answer) where
  lowers_advanced : LowersWork old (sight_of d) (sight_of d') answer
  lowers_advanced e shape frames x st = made.lowers e

  pub tells_advanced : IsShared d.pool.shape d.pool.states → TellsIdle old (sight_of d) answer
  tells_advanced shared =
      for_its_map d old m.agrees (λ s f x. (answer ≡ Idle) ↔ IsIdle s old.pages (sight_of d)) (λ e. none_idle d old m.agrees shared (made.idle e).0, made.busy)

  order_advanced : IsShared d.pool.shape d.pool.states → KeepsOrder old (sight_of d) (sight_of d') answer
  order_advanced shared runs =
      for_its_map d old m.agrees (λ s f x. SeenOrder s old.pages (sight_of d) (sight_of d')) (seen_order d d' old new m shared answer made runs)

  pub settles_advanced : IsShared d.pool.shape d.pool.states → SettlesStep old new (sight_of d) (sight_of d') answer
  settles_advanced shared = record {
    lowers = lowers_advanced;
    order = order_advanced shared;
    begins = made.begins;
    repeats = made.repeats;
    pair = made.pair;
    finishes = made.finishes;
  }
