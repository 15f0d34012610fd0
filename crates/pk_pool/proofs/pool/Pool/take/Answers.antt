use Rattle.std.{proofs.Common.arith, proofs.Common.refl, proofs.lemmas.Option.slice_get_within}
use Rattle.pk_pool.specs.declared.state.BlockState.TheVariants.{Free, Ready, Owned}
use Rattle.pk_pool.proofs.States.{set_is, free_is_not_root, ready_is_not_root, owned_is_not_ready}
use Rattle.pk_pool.proofs.Sharing.{shared_taken, used_taken, one_is_left, behind_roots, exists, few}
use Rattle.pk_pool.proofs.Fitting.{PoolOnFlash-marked, PoolOnFlash-after_erase, ReachesIn-none, ReachesIn-erase, WentIn-erase, IsReady-erase, erased_block}
use Rattle.pk_nand.proofs.Writing.{shape_is}
use Rattle.pk_pool.proofs.pool.Pool.take.Goals as goal

-- ---- a block that was erased

pub invariant_of-self : goal.invariant_of-self
invariant_of-self g c =
    let l = rw c.deref.ensures.value at c.in-Some.ensures in
    let below = rw (← c.self.view_is) at c.requires.below in
    shared_taken _ _ _ Ready _ ready_is_not_root l.here c.self.invariant below

pub returns-in-Some-clause-place : goal.returns-in-Some-clause-place
returns-in-Some-clause-place g c =
    let l = rw c.deref.ensures.value at c.in-Some.ensures in
    rw (← c.self.view_is) (behind_roots _ _ _ Ready ready_is_not_root l.here c.self.invariant, exists _ _ _ Ready l.here c.self.invariant)

pub returns-in-Some-clause-owned : goal.returns-in-Some-clause-owned
returns-in-Some-clause-owned g c = let l = rw c.deref.ensures.value at c.in-Some.ensures in set_is c.self.inside.states.items c.in-Some.b Ready (Owned c.args.owner) l.here

pub returns-in-Some-clause-cuts : goal.returns-in-Some-clause-cuts
returns-in-Some-clause-cuts g c = ReachesIn-none c.args.self.now.shape _ _

pub returns-in-Some-clause-fits : goal.returns-in-Some-clause-fits
returns-in-Some-clause-fits g c = let f = rw (← c.self.view_is) at c.requires.fits in PoolOnFlash-marked _ _ c.in-Some.b (Owned c.args.owner) owned_is_not_ready f

-- ---- a block that is erased now

pub overflow_cast-b : goal.overflow_cast-b
overflow_cast-b g c = let l = rw c.deref-in-None.ensures.value at c.in-Some-lowest.ensures in omega (arith, few _ _ _ Free l.here c.self.invariant)

pub overflow_cast-result-in-Ok : goal.overflow_cast-result-in-Ok
overflow_cast-result-in-Ok g c = let l = rw c.deref-in-None.ensures.value at c.in-Some-lowest.ensures in omega (arith, few _ _ _ Free l.here c.self.invariant)

pub erase-requires : goal.erase-requires
erase-requires g c =
    let l = rw c.deref-in-None.ensures.value at c.in-Some-lowest.ensures in
    rw (shape_is _ _ c.requires.ready, ← c.self.view_is) (exists _ _ _ Free l.here c.self.invariant)

pub index_mut-requires-in-Ok : goal.index_mut-requires-in-Ok
index_mut-requires-in-Ok g c =
    let l = rw c.deref-in-None.ensures.value at c.in-Some-lowest.ensures in omega (arith, slice_get_within c.self.inside.states.items c.in-Some-lowest.b Free l.here)

pub invariant_of-self-in-Ok : goal.invariant_of-self-in-Ok
invariant_of-self-in-Ok g c =
    let l = rw c.deref-in-None.ensures.value at c.in-Some-lowest.ensures in
    let below = rw (← c.self.view_is) at c.requires.below in
    shared_taken _ _ _ Free _ free_is_not_root l.here c.self.invariant below

pub unreachable-requires : goal.unreachable-requires
unreachable-requires g c =
    let below = rw (← c.self.view_is) at c.requires.below in
    one_is_left _ _ c.args.owner c.self.invariant below (rw c.deref.ensures.value at c.in-None.ensures) (rw c.deref-in-None.ensures.value at c.in-None-lowest.ensures)

pub returns-in-Ok-clause-place : goal.returns-in-Ok-clause-place
returns-in-Ok-clause-place g c =
    let l = rw c.deref-in-None.ensures.value at c.in-Some-lowest.ensures in
    rw (← c.self.view_is) (behind_roots _ _ _ Free free_is_not_root l.here c.self.invariant, exists _ _ _ Free l.here c.self.invariant)

pub returns-in-Ok-clause-owned : goal.returns-in-Ok-clause-owned
returns-in-Ok-clause-owned g c = let l = rw c.deref-in-None.ensures.value at c.in-Some-lowest.ensures in set_is c.self.inside.states.items c.in-Some-lowest.b Free (Owned c.args.owner) l.here

pub returns-in-Ok-clause-erased : goal.returns-in-Ok-clause-erased
returns-in-Ok-clause-erased g c =
    let l = rw c.deref-in-None.ensures.value at c.in-Some-lowest.ensures in
    let r = rw (← c.self.view_is) at c.requires.ready in
    rw (c.in-Ok.ensures.ok, ← c.self.view_is) (erased_block _ _ c.in-Some-lowest.b c.self.invariant.plan.is_shape r (exists _ _ _ Free l.here c.self.invariant))

pub returns-in-Ok-clause-cuts : goal.returns-in-Ok-clause-cuts
returns-in-Ok-clause-cuts g c =
    let r = rw (← c.self.view_is) at c.requires.ready in
    rw (c.in-Ok.ensures.ok, ← c.self.view_is) (ReachesIn-erase _ _ c.in-Some-lowest.b c.self.invariant.plan.is_shape r)

pub returns-in-Ok-clause-ready : goal.returns-in-Ok-clause-ready
returns-in-Ok-clause-ready g c =
    let r = rw (← c.self.view_is) at c.requires.ready in
    rw c.in-Ok.ensures.ok (IsReady-erase _ _ c.in-Some-lowest.b c.self.invariant.plan.is_shape r)

pub returns-in-Ok-clause-fits : goal.returns-in-Ok-clause-fits
returns-in-Ok-clause-fits g c =
    let r = rw (← c.self.view_is) at c.requires.ready in
    let f = rw (← c.self.view_is) at c.requires.fits in
    rw c.in-Ok.ensures.ok (PoolOnFlash-marked _ _ c.in-Some-lowest.b (Owned c.args.owner) owned_is_not_ready (PoolOnFlash-after_erase _ _ c.in-Some-lowest.b c.self.invariant.plan.is_shape r f))

pub returns-in-Err-clause-failed : goal.returns-in-Err-clause-failed
returns-in-Err-clause-failed g c =
    let l = rw c.deref-in-None.ensures.value at c.in-Some-lowest.ensures in
    let r = rw (← c.self.view_is) at c.requires.ready in
    rw (← c.self.view_is) (record {
      block = c.in-Some-lowest.b;
      lowest = l;
      failed = c.in-Err.ensures.err;
      cuts = WentIn-erase _ _ c.in-Some-lowest.b c.self.invariant.plan.is_shape r _ c.in-Err.ensures.err;
    })

pub returns-in-Some-clause-counted : goal.returns-in-Some-clause-counted
returns-in-Some-clause-counted g c = let l = rw c.deref.ensures.value at c.in-Some.ensures in rw (← c.self.view_is) (used_taken c.self.inside.states.items c.in-Some.b Ready c.args.owner refl l.here)

pub returns-in-Ok-clause-counted : goal.returns-in-Ok-clause-counted
returns-in-Ok-clause-counted g c = let l = rw c.deref-in-None.ensures.value at c.in-Some-lowest.ensures in rw
    (← c.self.view_is) (used_taken c.self.inside.states.items c.in-Some-lowest.b Free c.args.owner refl l.here)
