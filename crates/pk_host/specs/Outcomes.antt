-- What a call of a host makes of the reply to its command.
use Rattle.std.specs.Prelude.{◌≡◌, ◌⊎◌, ℕ, List, [], ◌∷◌, length, take, min, Bool, true, false, ◌==◌, if◌then◌else◌, Option, Some, None, Result, Ok, Err}
use Rattle.std.{specs.Option.option_map, specs.Option.IfSome, specs.FinMap.get, specs.FinMap.contains_key, specs.FinMap.remove, specs.List.AllByRecursion}
use Rattle.pk_base.{specs.Key.Key, specs.Map.Map}
use Rattle.pk_nvme.{specs.declared.opcode.TheConstants.LIST, specs.declared.limits.TheConstants.MOST_LIST_BYTES, specs.Command.Command, specs.Reply.Reply}
use Rattle.pk_nvme.specs.declared.status.TheConstants.{SUCCESSFUL_COMPLETION, KEY_DOES_NOT_EXIST, UNRECOVERED_ERROR}
use Rattle.pk_nand.specs.Calls.{Rose}
use Rattle.pk_model.specs.Answer.{report_bytes}
use Rattle.pk_host.{specs.Port.PortState, specs.Port.Replies, specs.declared.sizes.TheConstants.FIRST_BYTES, specs.declared.types.HostError.HostError, specs.Calls.of_key, specs.Calls.retrieve_of}
use Rattle.pk_host.specs.declared.types.HostError.TheVariants.{Refused, Port, Memory}

abbrev pub list_of : Key → Command
list_of from = of_key LIST from MOST_LIST_BYTES 0 []

abbrev pub stored : Reply → Result (Unit {0}) HostError
stored a = if a.status == SUCCESSFUL_COMPLETION then Ok tt else Err (Refused a.status)

-- a missing key is an answer
abbrev pub found : {X : Type 0} → X → X → Reply → Result X HostError
found there missing a =
    if a.status == SUCCESSFUL_COMPLETION then Ok there else
    if a.status == KEY_DOES_NOT_EXIST then Ok missing else Err (Refused a.status)

-- the whole length of the value
abbrev pub retrieved : Reply → Result (Option ℕ) HostError
retrieved a = found (Some a.result) None a

abbrev pub existed : Reply → Result Bool HostError
existed = found true false

-- the command was answered, and this is made of the reply; or the port failed
abbrev pub Gives : {X : Type 0} → PortState → PortState → Command → (Reply → Result X HostError) → Result X HostError → Type 0
Gives old new c of result =
    ((a : Reply) × Replies old new c a × (result ≡ of a)) ⊎ ((result ≡ Err Port) × Rose old.port_faults new.port_faults)

-- A call that only asks was refused with this status, that of a reply of which it makes no answer; if the map is known, a read failed.
pub record IsRefusal {X : Type 0} (old new : PortState) (of : Reply → Result X HostError) (status : ℕ) : Type 0 where
  pub reply : Reply
  pub refused : of reply ≡ Err (Refused status)
  pub unread : status ≡ UNRECOVERED_ERROR → Rose old.read_faults new.read_faults
  pub told : (m : Map) → old.map ≡ Some m → status ≡ UNRECOVERED_ERROR

-- why a call that only asks has no answer: it was refused, the port failed, or memory is missing
abbrev pub IsCause : {X : Type 0} → PortState → PortState → (Reply → Result X HostError) → HostError → Type 0
IsCause old new of (Refused status) = IsRefusal old new of status
IsCause old new of Port = Rose old.port_faults new.port_faults
IsCause old new of Memory = Unit {0}

-- the map, if it is known, is changed by f
abbrev pub Leaves : PortState → PortState → (Map → Map) → Type 0
Leaves old new f = (m : Map) → old.map ≡ Some m → new.map ≡ Some (f m)

-- the key's value has this length, and a prefix of it is in the buffer
abbrev pub IsFront : Option (List ℕ) → Option ℕ → List ℕ → Type 0
IsFront None len into = len ≡ None
IsFront (Some value) len into = (len ≡ Some (length value)) × (take (min (length value) (length into)) into ≡ take (length into) value)

abbrev pub Fetches : PortState → Key → Option ℕ → List ℕ → Type 0
Fetches p key len into = (m : Map) → p.map ≡ Some m → IsFront (get m key) len into

-- a key that was there was taken away
abbrev pub Deletes : PortState → PortState → Key → Bool → Type 0
Deletes old new key there = Leaves old new (λ m. if there then remove m key else m)

-- the key exists
abbrev pub Tests : PortState → Key → Bool → Type 0
Tests p key there = (m : Map) → p.map ≡ Some m → there ≡ contains_key m key

-- the key's value
abbrev pub Gets : PortState → Key → Option (List ℕ) → Type 0
Gets p key value = (m : Map) → p.map ≡ Some m → value ≡ get m key

-- the first bytes of the value, at most n, and its whole length
abbrev pub Cuts : PortState → Key → ℕ → Option (List ℕ) → Option ℕ → Type 0
Cuts p key most bytes whole = (m : Map) → p.map ≡ Some m → (bytes ≡ option_map (take most) (get m key)) × (whole ≡ option_map length (get m key))

abbrev pub KeyHas : PortState → Key → ℕ → Option (List ℕ) → Type 0
KeyHas p key most bytes = (m : Map) → p.map ≡ Some m → bytes ≡ option_map (take most) (get m key)

-- sixteen numbers: five of the map and of the drive's frames, if their number is known, and eleven of the drive's own
abbrev pub Numbers : PortState → List ℕ → Type 0
Numbers p bytes =
    (m : Map) → p.map ≡ Some m → (frames : ℕ) × IfSome p.frames (λ f. frames ≡ f) × (own : List ℕ) × (length own ≡ 11) × (bytes ≡ report_bytes p.shape p.limit frames m own)

abbrev pub AtMostOne : Command → List Command → Type 0
AtMostOne c cs = (cs ≡ []) ⊎ (cs ≡ c ∷ [])

-- at most two Retrieves of this key, the first with 4,096 bytes
abbrev pub AreRetrieves : Key → List Command → Type 0
AreRetrieves key cs = AtMostOne (retrieve_of key FIRST_BYTES) cs ⊎ ((size : ℕ) × (cs ≡ retrieve_of key FIRST_BYTES ∷ retrieve_of key size ∷ []))

-- Lists and nothing else
abbrev pub AreLists : List Command → Type 0
AreLists cs = AllByRecursion (λ c. (from : Key) × (c ≡ list_of from)) cs

-- some of them took a port to another
abbrev pub TookSome : {P : Type 0} → (P → List Command → P → Type 0) → (List Command → Type 0) → P → P → Type 0
TookSome took Are old new = (cs : List Command) × Are cs × took old cs new
