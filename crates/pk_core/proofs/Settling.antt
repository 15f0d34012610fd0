-- The background work settles, command by command.
use Rattle.std.proofs.Common.{◌≡◌, inl, inr, ℕ, sym, ap, subst, ◌∙◌, arith, Some}
use Rattle.pk_base.{specs.Shape.Shape, proofs.Logic.some_same}
use Rattle.pk_nand.{specs.BoardState.BoardState, specs.Effects.OnlyFlash}
use Rattle.pk_pool.specs.Blocks.{IsShared}
use Rattle.pk_call.{specs.Sight.IsIdle, specs.Settling.HasEnded, specs.Settling.Settles, specs.Settling.RestsAfter}
use Rattle.pk_parts.{specs.Parts.Parts, specs.Parts.sight_of, specs.Agreeing.DriveOnFlash}
use Rattle.pk_background.{specs.Ticking.HasNoStep, proofs.Ticking.none_idle}
use Rattle.pk_core.{specs.Stepping.MakesNoMore, specs.Stepping.Lessens, proofs.Stepping.number_high, proofs.Steadying.few_left}

module _ (d e : Parts) (old new : BoardState) (steps : ℕ) (a : DriveOnFlash e new.shape new.pages)
    (shared : IsShared e.pool.shape e.pool.states) (rest : OnlyFlash old new) (lessens : Lessens d e steps) where
  -- a drive with no step left is idle
  idle_there : (shape : Shape) → old.shape ≡ Some shape → HasNoStep e → IsIdle shape new.pages (sight_of e)
  idle_there shape has none =
      let told : new.shape ≡ Some shape = ap (λ (b : BoardState). b.shape) rest ∙ has in
      let same : e.log.shape ≡ shape = a.with.shape_is ∙ some_same a.shape shape (sym a.told_is ∙ told) in
      subst (λ s. IsIdle s new.pages (sight_of e)) same (none_idle e new a shared none)

  -- no further step is made
  ended_there : (shape : Shape) → old.shape ≡ Some shape → MakesNoMore e → HasEnded shape new (sight_of e)
  ended_there shape has (inl none) = inl (idle_there shape has none)
  ended_there shape has (inr many) = inr (number_high e new a many)

  pub settles_there : Settles old new (sight_of d) (sight_of e) steps
  settles_there shape frames m stands = elim lessens [ inl less ↦ inl less | inr last ↦ inr (ended_there shape stands.shape_is last) ]

  -- as many steps as may ever remain are the last ones
  pub rests_there : DriveOnFlash d old.shape old.pages → RestsAfter old new (sight_of d) (sight_of e) steps
  rests_there agrees shape frames m stands most =
      let few = few_left d old.shape shape old.pages agrees stands.shape_is in
      elim lessens [ inl less ↦ absurd (omega (arith, few, less, most)) | inr last ↦ ended_there shape stands.shape_is last ]
