-- Which commands a resync asks of the second drive that change its map.
use Rattle.std.specs.Prelude.{◌≡◌, ◌≢◌, ◌⊎◌, ℕ, ◌+◌, ◌≤◌, ◌==◌, if◌then◌else◌, List, [], ◌∷◌, ◌++◌, Contains, true, false, Some}
use Rattle.std.{specs.List.AllByRecursion, specs.FinMap.get, specs.FinMap.contains_key, specs.FinMap.len}
use Rattle.pk_base.{specs.Key.Key, specs.Map.Map}
use Rattle.pk_nvme.{specs.Command.Command, specs.Command.key, specs.declared.opcode.TheConstants.STORE, specs.declared.opcode.TheConstants.DELETE}
use Rattle.pk_nvme.specs.declared.limits.TheConstants.{NAMESPACE}
use Rattle.pk_host.{specs.Port.PortState, specs.Calls.exist_of}
use Rattle.pk_mirror.{specs.Causes.OnlyAsks, specs.Agreement.AreAny, specs.Agreement.IsPart, specs.Agreement.HaveSame}

-- a List, a Retrieve or an Exist
abbrev pub OnlyLooks : Command → Type 0
OnlyLooks c = OnlyAsks c ⊎ ((key : Key) × (c ≡ exist_of key))

-- a command of this opcode, in the first namespace
abbrev pub IsOwnOf : ℕ → Command → Type 0
IsOwnOf opcode c = (c.opcode ≡ opcode) × (c.namespace ≡ NAMESPACE)

-- one that looks, or a command of this opcode in the first namespace
abbrev pub LooksOr : ℕ → Command → Type 0
LooksOr opcode c = OnlyLooks c ⊎ IsOwnOf opcode c

-- one that looks, a Delete or a Store
abbrev pub LooksOrChanges : Command → Type 0
LooksOrChanges c = LooksOr DELETE c ⊎ IsOwnOf STORE c

-- how many of the commands have this opcode
abbrev pub opcode_count : ℕ → List Command → ℕ
opcode_count opcode [] = 0
opcode_count opcode (c ∷ cs) = (if c.opcode == opcode then 1 else 0) + opcode_count opcode cs

-- the keys that the commands of this opcode name
abbrev pub named_keys : ℕ → List Command → List Key
named_keys opcode [] = []
named_keys opcode (c ∷ cs) = (if c.opcode == opcode then key c ∷ [] else []) ++ named_keys opcode cs

-- no key is named twice
abbrev pub AreOnce : List Key → Type 0
AreOnce [] = Unit {0}
AreOnce (k ∷ ks) = AllByRecursion (λ q. k ≢ q) ks × AreOnce ks

-- This holds of each of the keys, and none is named twice.
pub record EachOnce (Wanted : Key → Type 0) (ks : List Key) : Type 0 where
  pub each : AllByRecursion Wanted ks
  pub once : AreOnce ks

-- a key of the second, which the first lacks or has with another value
abbrev pub ToDelete : Map → Map → Key → Type 0
ToDelete first second key = (contains_key second key ≡ true) × (get second key ≢ get first key)

-- a key of the first that the second lacks
abbrev pub ToStore : Map → Map → Key → Type 0
ToStore first second key = (contains_key first key ≡ true) × (contains_key second key ≡ false)

-- a key of the first, which the second lacks or has with another value
abbrev pub ToCopy : Map → Map → Key → Type 0
ToCopy first second key = (contains_key first key ≡ true) × (get second key ≢ get first key)

-- a Store has the value that this map has
abbrev pub IsCopy : Map → Command → Type 0
IsCopy m c = c.opcode ≡ STORE → get m (key c) ≡ Some c.value

-- The Deletes and Stores of a resync, or of one that ended early, where the first drive has the map a and the second b: it deletes no key but
-- those of the second that the first lacks or has with another value, each once, and stores no key but those of the first that the second lacked
-- or had with another value, each once and with the first's value. So it deletes at most as many keys as the second has, and stores at most as
-- many as the first has.
pub record OnlyDiffering (a b : Map) (cs : List Command) : Type 0 where
  pub deletes_once : EachOnce (ToDelete a b) (named_keys DELETE cs)
  pub stores_once : EachOnce (ToCopy a b) (named_keys STORE cs)
  pub copies : AllByRecursion (IsCopy a) cs
  pub deletes : opcode_count DELETE cs ≤ len b
  pub stores : opcode_count STORE cs ≤ len a

-- Those of a resync that is done: it deletes exactly the keys of the second that the first lacks or has with another value, and stores exactly
-- the keys of the first that the second lacked or had with another value.
pub record AllDiffering (a b : Map) (cs : List Command) : Type 0 where
  pub differing : OnlyDiffering a b cs
  pub all_deleted : (k : Key) → ToDelete a b k → Contains (named_keys DELETE cs) k
  pub all_stored : (k : Key) → ToCopy a b k → Contains (named_keys STORE cs) k

-- What a resync asks of the second drive, at any exit: it looks, deletes and stores, and if the maps are known, what differs.
pub record AreOfResync (first second : PortState) (cs : List Command) : Type 0 where
  pub only : AllByRecursion LooksOrChanges cs
  pub known : (a b : Map) → first.map ≡ Some a → second.map ≡ Some b → OnlyDiffering a b cs

-- and all that differs, if it is done
pub record AreWholeResync (first second : PortState) (cs : List Command) : Type 0 where
  pub only : AllByRecursion LooksOrChanges cs
  pub known : (a b : Map) → first.map ≡ Some a → second.map ≡ Some b → AllDiffering a b cs

-- ---- one phase

-- From one map of the second to another, by a change of each of these keys: each was wanted, once, and is no more; no other key came to be
-- wanted, where both drives had the same they still have, and no other key has another value.
pub record Changed (Wanted : Map → Map → Key → Type 0) (a b b' : Map) (ks : List Key) : Type 0 where
  pub were : EachOnce (Wanted a b) ks
  pub done : AllByRecursion (λ k. Wanted a b' k → ⊥) ks
  pub still : (k : Key) → Wanted a b' k → Wanted a b k
  pub same : (k : Key) → HaveSame a b k → HaveSame a b' k
  pub others : (k : Key) → AllByRecursion (λ q. k ≢ q) ks → get b' k ≡ get b k

module _ (Keeps : Map → Map → Type 0) (Wanted : Map → Map → Key → Type 0) (opcode : ℕ) where
  -- All was done: the commands of this opcode changed wanted keys, and Deletes left a part.
  pub record Spent (first second second' : PortState) (cs : List Command) : Type 0 where
    pub only : AllByRecursion (LooksOr opcode) cs
    pub changed : (a b b' : Map) → first.map ≡ Some a → second.map ≡ Some b → second'.map ≡ Some b' → Keeps a b → Changed Wanted a b b' (named_keys opcode cs)
    pub lessens : opcode ≡ DELETE → (a b b' : Map) → first.map ≡ Some a → second.map ≡ Some b → second'.map ≡ Some b' → Keeps a b → IsPart b b'
    pub copies : (a : Map) → first.map ≡ Some a → AllByRecursion (IsCopy a) cs

  -- At any exit: they name wanted keys, each once.
  pub record Spending (first second : PortState) (cs : List Command) : Type 0 where
    pub only : AllByRecursion (LooksOr opcode) cs
    pub were : (a b : Map) → first.map ≡ Some a → second.map ≡ Some b → Keeps a b → EachOnce (Wanted a b) (named_keys opcode cs)
    pub copies : (a : Map) → first.map ≡ Some a → AllByRecursion (IsCopy a) cs

abbrev pub Deleted : PortState → PortState → PortState → List Command → Type 0
Deleted = Spent AreAny ToDelete DELETE

abbrev pub Deleting : PortState → PortState → List Command → Type 0
Deleting = Spending AreAny ToDelete DELETE

abbrev pub Stored : PortState → PortState → PortState → List Command → Type 0
Stored = Spent IsPart ToStore STORE

abbrev pub Storing : PortState → PortState → List Command → Type 0
Storing = Spending IsPart ToStore STORE
