-- What a word says over a port.
use Rattle.std.{specs.Prelude.◌≡◌, specs.Prelude.◌≢◌, specs.Prelude.ℕ, specs.Prelude.List, specs.Prelude.Some, specs.Prelude.Result, specs.Prelude.Ok, specs.Prelude.Err, specs.Option.IfSome}
use Rattle.pk_base.{specs.Map.Map, specs.Shape.Shape}
use Rattle.pk_nand.specs.Calls.{Rose}
use Rattle.pk_nvme.specs.Reply.{Reply}
use Rattle.pk_host.{specs.declared.types.HostError.HostError, specs.declared.types.HostError.TheVariants.Port, specs.declared.types.PortFault.PortFault, specs.Port.PortState}
use Rattle.pk_words.specs.Says.{Saying}

-- what contracts see of the words: the shape of the drives that they are for, and the text that was said last
pub record Spoken : Type 0 where
  pub shape : Shape
  pub text : List ℕ

-- from this map on, the port's map afterwards is the one of the text; that a read failed is said only if one did
pub record SaidOn (Says : Saying) (old new : PortState) (text : List ℕ) (m : Map) : Type 0 where
  pub frames : ℕ
  pub frames_is : IfSome old.frames (λ f. frames ≡ f)
  pub left : Map
  pub says : Says (Rose old.read_faults new.read_faults) old.shape old.limit frames m text left
  pub told : new.map ≡ Some left

-- the text is the definition's, from the port's map, if that is known
abbrev pub Said : Saying → PortState → PortState → List ℕ → Type 0
Said Says old new text = (m : Map) → old.map ≡ Some m → SaidOn Says old new text m

-- the status of the reply of which this outcome is made; a fault if it is made of none
abbrev pub IsStatus : {X : Type 0} → (Reply → Result X HostError) → Result X HostError → Result ℕ PortFault → Type 0
IsStatus of outcome (Ok status) = (outcome ≢ Err Port) × ((a : Reply) → outcome ≡ of a → a.status ≡ status)
IsStatus of outcome (Err fault) = (a : Reply) → outcome ≢ of a
