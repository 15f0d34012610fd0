use Rattle.std.proofs.Common.{refl}
use Rattle.pk_pool.{specs.declared.state.BlockState.TheVariants.Free, specs.declared.state.BlockState.TheVariants.Ready, proofs.States.get-set_other}
use Rattle.pk_pool.proofs.Sharing.{shared_ready, exists, free_not_owned}
use Rattle.pk_pool.proofs.Fitting.{PoolOnFlash-ready, PoolOnFlash-after_erase, PoolOnFlash-erase_failed, ReachesIn-erase, WentIn-erase, IsReady-erase, erased_block, free_not_ready}
use Rattle.pk_pool.proofs.pool.Pool.erase_one.Goals as goal

pub invariant_of-self : goal.invariant_of-self
invariant_of-self g c = let l = rw c.deref.ensures.value at c.in-Some.ensures in shared_ready _ _ _ l.here c.self.invariant

pub returns-in-Ok-clause-cases : goal.returns-in-Ok-clause-cases
returns-in-Ok-clause-cases g c =
    let l = rw (c.deref.ensures.value) at c.in-Some.ensures in
    let r = rw (← c.self.view_is) at c.requires.ready in
    rw (← c.self.view_is) (record {
      block = c.in-Some.b;
      lowest = l;
      marked = refl;
      erase = c.in-Ok.ensures.ok;
      cuts = rw c.in-Ok.ensures.ok (ReachesIn-erase _ _ c.in-Some.b c.self.invariant.plan.is_shape r);
    })

pub returns-in-Ok-clause-ready : goal.returns-in-Ok-clause-ready
returns-in-Ok-clause-ready g c =
    let r = rw (← c.self.view_is) at c.requires.ready in
    rw c.in-Ok.ensures.ok (IsReady-erase _ _ c.in-Some.b c.self.invariant.plan.is_shape r)

pub returns-in-Ok-clause-owned : goal.returns-in-Ok-clause-owned
returns-in-Ok-clause-owned g c =
    let l = rw c.deref.ensures.value at c.in-Some.ensures in
    rw (← c.self.view_is) (λ b owned. get-set_other c.self.inside.states.items c.in-Some.b b Ready (free_not_owned c.self.inside.plan _ _ b l.here owned))

pub returns-in-Ok-clause-fits : goal.returns-in-Ok-clause-fits
returns-in-Ok-clause-fits g c =
    let l = rw c.deref.ensures.value at c.in-Some.ensures in
    let r = rw (← c.self.view_is) at c.requires.ready in
    let f = rw (← c.self.view_is) at c.requires.fits in
    let i = c.self.invariant in
    rw c.in-Ok.ensures.ok (PoolOnFlash-ready _ _ c.in-Some.b (erased_block _ _ c.in-Some.b i.plan.is_shape r (exists _ _ _ Free l.here i))
    (PoolOnFlash-after_erase _ _ c.in-Some.b i.plan.is_shape r f))

pub returns-in-Err-clause-failed : goal.returns-in-Err-clause-failed
returns-in-Err-clause-failed g c =
    let l = rw c.deref.ensures.value at c.in-Some.ensures in
    let r = rw (← c.self.view_is) at c.requires.ready in
    rw (← c.self.view_is) (record {
      block = c.in-Some.b;
      lowest = l;
      failed = c.in-Err.ensures.err;
      cuts = WentIn-erase _ _ c.in-Some.b c.self.invariant.plan.is_shape r _ c.in-Err.ensures.err;
    })

pub returns-in-Err-clause-fits : goal.returns-in-Err-clause-fits
returns-in-Err-clause-fits g c =
    let l = rw c.deref.ensures.value at c.in-Some.ensures in
    let r = rw (← c.self.view_is) at c.requires.ready in
    let f = rw (← c.self.view_is) at c.requires.fits in
    rw (← c.self.view_is) (PoolOnFlash-erase_failed _ _ c.in-Some.b c.self.invariant.plan.is_shape r f _ (free_not_ready c.self.inside.states.items c.in-Some.b l.here) c.in-Err.ensures.err)
