-- Why a call of a pair has no answer, and which drive decided it.
use Rattle.std.specs.Prelude.{◌≡◌, ◌≢◌, ◌⊎◌, ℕ, List, [], Bool, true, false, ◌==◌, Result, Ok, Err}
use Rattle.std.specs.List.{AllByRecursion}
use Rattle.pk_base.specs.Key.{Key}
use Rattle.pk_nvme.{specs.Command.Command, specs.Reply.Reply, specs.declared.status.TheConstants.SUCCESSFUL_COMPLETION, specs.declared.status.TheConstants.UNRECOVERED_ERROR}
use Rattle.pk_nand.specs.Calls.{Rose}
use Rattle.pk_host.{specs.Port.PortState, specs.Port.Replies, specs.Port.Took, specs.Calls.retrieve_of, specs.Outcomes.list_of, specs.Outcomes.TookSome, specs.declared.types.HostError.HostError}
use Rattle.pk_host.specs.declared.types.HostError.TheVariants.{Refused as HostRefused, Port as HostPort, Memory}
use Rattle.pk_mirror.{specs.declared.error.Side.Side, specs.declared.error.Side.TheVariants.First, specs.declared.error.Side.TheVariants.Second, specs.declared.error.MirrorError.MirrorError}
use Rattle.pk_mirror.specs.declared.error.MirrorError.TheVariants.{Refused, Port, Split}

-- the error of this side; that memory is missing is none, as no command of a pair takes any
abbrev pub IsOn : Side → HostError → MirrorError → Type 0
IsOn side (HostRefused status) error = error ≡ Refused side status
IsOn side HostPort error = error ≡ Port side
IsOn side Memory error = ⊥

-- what the pair answers if this side decides it
abbrev pub Decides : {X : Type 0} → Side → Result X HostError → Result X MirrorError → Type 0
Decides side (Ok x) result = result ≡ Ok x
Decides side (Err error) result = (e : MirrorError) × (result ≡ Err e) × IsOn side error e

-- the port failed
abbrev pub is_port : HostError → Bool
is_port (HostRefused status) = false
is_port HostPort = true
is_port Memory = false

abbrev pub port_failed : {X : Type 0} → Result X HostError → Bool
port_failed (Ok x) = false
port_failed (Err error) = is_port error

-- the port failed, or the drive could not read
abbrev pub is_unanswered : HostError → Bool
is_unanswered (HostRefused status) = status == UNRECOVERED_ERROR
is_unanswered HostPort = true
is_unanswered Memory = false

abbrev pub unanswered : {X : Type 0} → Result X HostError → Bool
unanswered (Ok x) = false
unanswered (Err error) = is_unanswered error

-- ---- causes

-- A completion of this drive decided: after some commands of the call, one more was refused with this status, and nothing was asked after it.
-- That a read failed is answered only if one did.
pub record RefusedBy (old new : PortState) (status : ℕ) : Type 0 where
  pub before : List Command
  pub asked : PortState
  pub took : Took old asked before
  pub command : Command
  pub reply : Reply
  pub replies : Replies asked new command reply
  pub status_is : reply.status ≡ status
  pub no_success : (status == SUCCESSFUL_COMPLETION) ≡ false
  pub unread : status ≡ UNRECOVERED_ERROR → Rose old.read_faults new.read_faults

-- why a call has no answer on a pair that is not split: the completion of that side decided it, or that side's port failed
abbrev pub IsCause : PortState → PortState → PortState → PortState → MirrorError → Type 0
IsCause first first' second second' (Refused First status) = RefusedBy first first' status
IsCause first first' second second' (Refused Second status) = RefusedBy second second' status
IsCause first first' second second' (Port First) = Rose first.port_faults first'.port_faults
IsCause first first' second second' (Port Second) = Rose second.port_faults second'.port_faults
IsCause first first' second second' Split = ⊥

-- if a completion decided, a read failed
abbrev pub IsReadError : MirrorError → Type 0
IsReadError (Refused side status) = status ≡ UNRECOVERED_ERROR
IsReadError (Port side) = Unit {0}
IsReadError Split = Unit {0}

-- a port or a read of this drive failed
abbrev pub HasFailed : PortState → PortState → Type 0
HasFailed old new = Rose old.port_faults new.port_faults ⊎ Rose old.read_faults new.read_faults

-- the second decided, and each drive had failed
abbrev pub BothFailed : PortState → PortState → PortState → PortState → MirrorError → Type 0
BothFailed first first' second second' (Refused First status) = ⊥
BothFailed first first' second second' (Port First) = ⊥
BothFailed first first' second second' (Refused Second status) = HasFailed first first' × HasFailed second second'
BothFailed first first' second second' (Port Second) = HasFailed first first' × HasFailed second second'
BothFailed first first' second second' Split = Unit {0}

-- ---- the commands of a call

-- a List or a Retrieve
abbrev pub OnlyAsks : Command → Type 0
OnlyAsks c = ((from : Key) × (c ≡ list_of from)) ⊎ ((key : Key) × (size : ℕ) × (c ≡ retrieve_of key size))

abbrev pub AreAsking : List Command → Type 0
AreAsking cs = AllByRecursion OnlyAsks cs

-- at least one command
abbrev pub NotEmpty : List Command → Type 0
NotEmpty cs = cs ≢ []

-- each port took at least one command
abbrev pub BothAsked : {P Q : Type 0} → (P → List Command → P → Type 0) → (Q → List Command → Q → Type 0) → P → P → Q → Q → Type 0
BothAsked tookP tookQ first first' second second' = TookSome tookP NotEmpty first first' × TookSome tookQ NotEmpty second second'
