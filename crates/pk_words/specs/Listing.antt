-- A list of keys that is said piece by piece.
use Rattle.std.specs.Prelude.{◌≡◌, ◌⊎◌, ◌<◌, ℕ, zero, suc, ◌+◌, ◌-◌, ◌*◌, ◌^◌, List, [], ◌∷◌, ◌++◌, Option, Some, None}
use Rattle.std.specs.FinMap.{keys}
use Rattle.pk_base.{specs.Fields.AreBytes, specs.Key.Key, specs.Key.IsKey, specs.Map.Map, specs.Map.keys_from, specs.declared.sizes.TheConstants.KEY_BYTES}
use Rattle.pk_nand.specs.Calls.{Rose}
use Rattle.pk_nvme.specs.Command.{Command}
use Rattle.pk_host.{specs.Port.PortState, specs.Calls.IsOwnKey, specs.Calls.exist_of, specs.Outcomes.Leaves, specs.Outcomes.list_of, specs.Listing.above}
use Rattle.pk_words.{specs.Lines.failed_line, specs.Lines.key_lines, specs.Says.wanted_keys, specs.declared.listing.ListPosition.ListPosition}
use Rattle.pk_words.specs.declared.listing.ListPosition.TheVariants.{First, From, After}

-- the keys that are not said yet
abbrev pub keys_left : ListPosition → Map → List Key
keys_left First m = keys_from [] m
keys_left (From key) m = keys_from key m
keys_left (After key) m = above key (keys m)

-- at a key of the namespace in which commands are passed
abbrev pub IsOwnPlace : ListPosition → Type 0
IsOwnPlace First = Unit {0}
IsOwnPlace (From key) = IsOwnKey key
IsOwnPlace (After key) = IsOwnKey key

-- where a list begins
abbrev pub start_at : Option Key → ListPosition
start_at None = First
start_at (Some key) = From key

-- after a key, or at the first key of all
abbrev pub position_after : Option Key → ListPosition
position_after None = First
position_after (Some key) = After key

-- the command that a list goes on with
abbrev pub asked_at : ListPosition → Command
asked_at First = list_of []
asked_at (From key) = exist_of key
asked_at (After key) = list_of key

-- ---- how far a list has come

-- a key as a number that rises with it: its namespace and bytes as digits to the base 257, and a missing byte below all others
unfoldable pub rank : ℕ → Key → ℕ
rank zero key = 0
rank (suc n) [] = 0
rank (suc n) (byte ∷ key) = suc byte * 257 ^ n + rank n key

-- A key of 1 to 16 bytes, of the namespace in which commands are passed.
pub record IsText (key : Key) : Type 0 where
  pub is_key : IsKey key
  pub own : IsOwnKey key
  pub bytes : AreBytes key

-- at most n pieces come after a key
unfoldable pub pieces_after : Key → ℕ
pieces_after key = 257 ^ (KEY_BYTES + 1) - rank (KEY_BYTES + 1) key

unfoldable pub most_pieces : ℕ
most_pieces = 257 ^ (KEY_BYTES + 1)

-- at most n pieces remain: each makes it less
abbrev pub pieces_left : ListPosition → ℕ
pieces_left First = most_pieces + 1
pieces_left (From key) = pieces_after key + 1
pieces_left (After key) = pieces_after key

-- ---- a piece

-- The lines of the next keys.
pub record Continues (old : PortState) (place next : ListPosition) (text : List ℕ) : Type 0 where
  pub lines : (m : Map) → old.map ≡ Some m → (page : List Key) × (keys_left place m ≡ page ++ keys_left next m) × (text ≡ key_lines page)
  pub falls : pieces_left next < pieces_left place

-- no key remains, or a read failed, which is said
abbrev pub ListEnds : PortState → PortState → ListPosition → List ℕ → Type 0
ListEnds old new place text =
    (m : Map) → old.map ≡ Some m → ((text ≡ []) × (keys_left place m ≡ [])) ⊎ (Rose old.read_faults new.read_faults × (text ≡ failed_line))

-- a list goes on at the next place, or it has ended
abbrev pub Piece : PortState → PortState → ListPosition → Option ListPosition → List ℕ → Type 0
Piece old new place (Some next) text = Continues old place next text
Piece old new place None text = ListEnds old new place text

-- ---- all pieces

-- Some pieces were said: their lines are those of the first keys that are wanted, and the keys that remain are the others.
pub record Listed (from : Option Key) (start now : PortState) (place : ListPosition) (text : List ℕ) : Type 0 where
  pub leaves : Leaves start now (λ m. m)
  pub lines : (m : Map) → start.map ≡ Some m → (front : List Key) × (text ≡ key_lines front) × (wanted_keys from m ≡ front ++ keys_left place m)
