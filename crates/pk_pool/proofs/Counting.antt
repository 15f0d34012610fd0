-- Counts of blocks after one changes its state.
use Rattle.std.{proofs.Common.inl, proofs.Common.inr, proofs.Common.[], proofs.Common.◌∷◌, proofs.Common.refl, proofs.Common.arith, specs.Prelude.not, proofs.lemmas.List.Sums.sum_by-cons}
use Rattle.pk_pool.{specs.declared.state.BlockState.BlockState, specs.Blocks.is_ready, proofs.Sharing.count-set}
use Rattle.pk_pool.specs.declared.state.BlockState.TheVariants.{Root, Free, Ready, Owned}
use Rattle.pk_pool.specs.Unready.{Erased, TakenReady, TakenFree, GivenBack, AllCounted, TakePays}

pub erased : Erased
erased states b is = omega (arith, count-set (λ s. not (is_ready s)) states b Free Ready is)

pub taken_ready : TakenReady
taken_ready states b o is = omega (arith, count-set (λ s. not (is_ready s)) states b Ready (Owned o) is)

pub taken_free : TakenFree
taken_free states b o is = omega (arith, count-set (λ s. not (is_ready s)) states b Free (Owned o) is)

pub given_back : GivenBack
given_back states b o is = omega (arith, count-set (λ s. not (is_ready s)) states b (Owned o) Free is)

pub all_counted : AllCounted
all_counted [] = refl
all_counted (Root ∷ ss) = omega (arith, all_counted ss, sum_by-cons {X = BlockState})
all_counted (_ ∷ ss) = omega (arith, all_counted ss, sum_by-cons {X = BlockState})

pub take_pays : TakePays
take_pays p b o left left' (inl free) less = let e = taken_free p.states b o free in record { none_ready = omega arith; less = omega arith }
take_pays p b o left left' (inr ready) less = let e = taken_ready p.states b o ready in record { none_ready = omega arith; less = omega arith }
