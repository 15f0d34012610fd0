-- What a load and a make of a flash with spare blocks answer, and what they do to its board.
use Rattle.std.specs.Prelude.{◌≡◌, ◌≢◌, ℕ, Option, Some, Result, Err, IfOk, OnOk, OnErr}
use Rattle.pk_base.specs.Shape.{Shape}
use Rattle.pk_nand.{specs.BoardState.BoardState, specs.Calls.IsReady, specs.Calls.Rose, specs.Calls.Loaded, specs.Calls.LoadFailed, specs.Calls.Made, specs.Calls.MakeFailed}
use Rattle.pk_nand.{specs.declared.types.LoadFault.LoadFault, specs.declared.types.LoadFault.TheVariants.Fault, specs.declared.types.LoadFault.TheVariants.BadImage}

pub record LoadAnswers (old : BoardState) (result : Result (Option Shape) LoadFault) (new : BoardState) : Type 0 where
  pub ok : IfOk result (λ found. Loaded old new found)
  pub err : OnErr result (LoadFailed old new)
  pub fault : result ≡ Err Fault → Rose old.flash_faults new.flash_faults
  pub no_fault : result ≢ Err Fault → new.flash_faults ≡ old.flash_faults
  pub ready : (shape : Shape) → new.shape ≡ Some shape → IsReady new shape
  pub bad : (at : ℕ) → result ≡ Err (BadImage at) → new.bad ≡ Some at

pub record MakeAnswers (old : BoardState) (shape : Shape) (result : Result Unit LoadFault) (new : BoardState) : Type 0 where
  pub ok : OnOk result (Made old new shape)
  pub err : OnErr result (MakeFailed old new)
  pub fault : result ≡ Err Fault → Rose old.flash_faults new.flash_faults
  pub no_fault : result ≢ Err Fault → new.flash_faults ≡ old.flash_faults
  pub ready : (own : Shape) → new.shape ≡ Some own → IsReady new own
  pub bad : (at : ℕ) → result ≢ Err (BadImage at)
