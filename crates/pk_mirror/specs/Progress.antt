-- How far a resync has come, from two ports on to two others, and how it ends early.
use Rattle.std.{specs.Prelude.◌≡◌, specs.Prelude.ℕ, specs.Prelude.List, specs.Prelude.Some, specs.List.AllByRecursion}
use Rattle.pk_base.{specs.Key.Key, specs.Map.Map}
use Rattle.pk_nvme.{specs.Command.Command, specs.declared.opcode.TheConstants.STORE, specs.declared.opcode.TheConstants.DELETE}
use Rattle.pk_host.{specs.Port.PortState, specs.Outcomes.TookSome}
use Rattle.pk_mirror.{specs.Agreement.AreAny, specs.Agreement.IsPart, specs.Causes.IsCause, specs.Causes.AreAsking, specs.Visits.OnlyReadsFail, specs.declared.error.MirrorError.MirrorError}
use Rattle.pk_mirror.specs.Spending.{OnlyLooks, Spent, Spending, ToDelete, ToStore}

module _ {P Q : Type 0} (stateP : P → PortState) (tookP : P → List Command → P → Type 0) (stateQ : Q → PortState) (tookQ : Q → List Command → Q → Type 0) where
  -- Both drives were only looked at.
  pub record Looked (first first' : P) (second second' : Q) : Type 0 where
    pub took_first : TookSome tookP AreAsking first first'
    pub took_second : TookSome tookQ (AllByRecursion OnlyLooks) second second'
    pub first_keeps : (stateP first').map ≡ (stateP first).map
    pub second_keeps : (stateQ second').map ≡ (stateQ second).map

  module _ (Keeps : Map → Map → Type 0) (Wanted : Map → Map → Key → Type 0) (opcode : ℕ) where
    -- A part of a phase was done.
    pub record Progress (first first' : P) (second second' : Q) : Type 0 where
      pub took_first : TookSome tookP AreAsking first first'
      pub took_second : TookSome tookQ (Spent Keeps Wanted opcode (stateP first) (stateQ second) (stateQ second')) second second'
      pub same : (stateP first').map ≡ (stateP first).map
      pub goes : (a b : Map) → (stateP first).map ≡ Some a → (stateQ second).map ≡ Some b → Keeps a b → (b' : Map) × ((stateQ second').map ≡ Some b') × Keeps a b'

    -- A phase ended with this error.
    pub record Failure (first first' : P) (second second' : Q) (e : MirrorError) : Type 0 where
      pub took_first : TookSome tookP AreAsking first first'
      pub took_second : TookSome tookQ (Spending Keeps Wanted opcode (stateP first) (stateQ second)) second second'
      pub same : (stateP first').map ≡ (stateP first).map
      pub causes : IsCause (stateP first) (stateP first') (stateQ second) (stateQ second') e
      pub unread : OnlyReadsFail Keeps (stateP first) (stateQ second) e

  -- what is not the first's is deleted
  abbrev pub Dropped : P → P → Q → Q → Type 0
  Dropped = Progress AreAny ToDelete DELETE

  abbrev pub DropFails : P → P → Q → Q → MirrorError → Type 0
  DropFails = Failure AreAny ToDelete DELETE

  -- what the second lacks is stored
  abbrev pub Copied : P → P → Q → Q → Type 0
  Copied = Progress IsPart ToStore STORE

  abbrev pub CopyFails : P → P → Q → Q → MirrorError → Type 0
  CopyFails = Failure IsPart ToStore STORE
