-- The keys that the data of a List spell, and the page of keys after a key.
use Rattle.std.specs.Prelude.{◌≡◌, ◌⊎◌, ℕ, zero, suc, ◌+◌, ◌-◌, min, List, [], ◌∷◌, length, take, drop, filter, Bool, ◌&&◌, ◌==◌, nat_le, nat_lt, if◌then◌else◌, Option, Some, None, Result, Ok, Err}
use Rattle.std.{specs.Ordering.is_lt, specs.FinMap.keys, specs.List.AllByRecursion}
use Rattle.pk_base.{specs.Key.Key, specs.Key.IsKey, specs.Key.key_cmp, specs.declared.sizes.TheConstants.KEY_BYTES, specs.Fields.u16_at, specs.Fields.u32_at, specs.Map.Map, specs.Map.keys_from}
use Rattle.pk_model.specs.Answer.{listed, fitting}
use Rattle.pk_nvme.{specs.Reply.Reply, specs.declared.limits.TheConstants.NAMESPACE, specs.declared.limits.TheConstants.COUNT_BYTES, specs.declared.limits.TheConstants.MOST_LIST_BYTES}
use Rattle.pk_nvme.specs.declared.status.TheConstants.{SUCCESSFUL_COMPLETION}
use Rattle.pk_host.{specs.declared.sizes.TheConstants.MOST_KEYS, specs.Calls.IsOwnKey, specs.declared.types.HostError.HostError, specs.declared.types.HostError.TheVariants.Refused}
use Rattle.pk_host.specs.Port.{PortState}

-- ---- reading

-- two bytes of length and as many of a key are there
abbrev pub has_key : List ℕ → Bool
has_key bytes = nat_le 1 (u16_at bytes 0) && nat_le (u16_at bytes 0) KEY_BYTES && nat_le (2 + u16_at bytes 0) (length bytes)

-- the key, in the drive's namespace, that is spelled first
abbrev pub first_key : List ℕ → Option Key
first_key bytes = if has_key bytes then Some (NAMESPACE ∷ take (u16_at bytes 0) (drop 2 bytes)) else None

-- a key, if there is one, and the keys after it
abbrev pub and_then : Option Key → (Key → List Key) → List Key
and_then None rest = []
and_then (Some key) rest = key ∷ rest key

-- n keys, one after another, up to the first that is none
abbrev pub keys_in : ℕ → List ℕ → List Key
keys_in zero bytes = []
keys_in (suc n) bytes = and_then (first_key bytes) (λ key. keys_in n (drop (length (listed key)) bytes))

-- the keys that the data of a List spell: their number, then they
abbrev pub keys_of : List ℕ → List Key
keys_of bytes = keys_in (min (u32_at bytes 0) MOST_KEYS) (drop COUNT_BYTES bytes)

-- ---- pages of keys

-- a key of the namespace in which commands are passed, or none
abbrev pub IsStart : Key → Type 0
IsStart from = (from ≡ []) ⊎ (IsKey from × IsOwnKey from)

abbrev pub above : Key → List Key → List Key
above from ks = filter (λ k. is_lt (key_cmp from k)) ks

-- the bytes for keys in the data of one List
abbrev pub list_room : ℕ
list_room = MOST_LIST_BYTES - COUNT_BYTES

-- the keys after this one that one List of 65,536 bytes from it on gives; all keys are above the empty one
abbrev pub page_after : Key → Map → List Key
page_after from m = above from (fitting list_room (keys_from from m))

-- the page, if the map is known
abbrev pub Pages : PortState → Key → List Key → Type 0
Pages p from page = (m : Map) → p.map ≡ Some m → page ≡ page_after from m

-- whether a key follows, if the map is known
abbrev pub Follows : PortState → Key → Bool → Type 0
Follows p from more = (m : Map) → p.map ≡ Some m → more ≡ nat_lt 0 (length (above from (keys m)))

-- the keys of a map that is known have 1 to 16 bytes
abbrev pub TellsKeys : PortState → Type 0
TellsKeys p = (m : Map) → p.map ≡ Some m → AllByRecursion IsKey (keys m)

-- all keys, if the map is known
abbrev pub ListsAll : PortState → List Key → Type 0
ListsAll p all = (m : Map) → p.map ≡ Some m → all ≡ keys m

-- ---- what a call makes of a reply

-- whether a key follows
abbrev pub listed_by : List Key → Reply → Result Bool HostError
listed_by page a = if a.status == SUCCESSFUL_COMPLETION then Ok (nat_lt 0 (length page)) else Err (Refused a.status)
