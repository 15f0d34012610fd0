-- Keys that are listed one after another into a room, up to the first that does not fit.
use Rattle.std.specs.Prelude.{ℕ, ◌+◌, ◌-◌, ◌++◌, List, [], ◌∷◌, length, Bool, true, nat_le, if◌then◌else◌, Option, None, Some}
use Rattle.std.specs.Ordering.{is_lt}
use Rattle.pk_base.specs.Key.{Key, key_cmp, bytes_of}
use Rattle.pk_model.specs.Answer.{item_bytes}

-- the bytes of the keys so far, how many they are, the room that remains, and whether a key did not fit
pub record Listing : Type 0 where
  pub bytes : List ℕ
  pub count : ℕ
  pub left : ℕ
  pub full : Bool

-- one more key of these bytes
abbrev pub offered_bytes : Listing → List ℕ → Listing
offered_bytes l bytes =
    if l.full then l else
    if nat_le (length (item_bytes bytes)) l.left
    then record l { bytes = l.bytes ++ item_bytes bytes; count = l.count + 1; left = l.left - length (item_bytes bytes) }
    else record l { full = true }

-- one more key
abbrev pub offered : Listing → Key → Listing
offered l k = offered_bytes l (bytes_of k)

-- one more key, unless it is below the first that is wanted
abbrev pub offered_from : Key → Listing → Key → Listing
offered_from from l k = if is_lt (key_cmp k from) then l else offered l k

abbrev pub offered_all : Key → Listing → List Key → Listing
offered_all from l [] = l
offered_all from l (k ∷ ks) = offered_all from (offered_from from l k) ks
