-- Which keys exist in lists of entries, and which of them a walk still wants.
use Rattle.std.specs.Prelude.{◌≡◌, Bool, true, false, not, if◌then◌else◌, List, [], ◌∷◌, filter, slice_get, Option, Some, None}
use Rattle.std.{specs.List.flat_map, specs.Ordering.is_lt, specs.Ordering.is_gt, specs.declared.cmp.Ordering.TheVariants.Less}
use Rattle.pk_base.{specs.Key.Key, specs.Key.key_cmp, specs.Entry.Entry, specs.Entry.Place, specs.Firsts.firsts}
use Rattle.pk_model.specs.Values.{placed}
use Rattle.pk_walk.specs.declared.position.Position.{Position}
use Rattle.pk_walk.specs.declared.position.Position.TheVariants.{First, From, Above}

-- The keys that exist, with their places, rising: in the lists the first entry of a key counts, and a deleted key is not there.
abbrev pub visible : List (List Entry) → List (Key × Place)
visible lists = placed (firsts (flat_map (λ es. es) lists))

-- the key is one of those from this position on
abbrev pub is_wanted : Position → Key → Bool
is_wanted First key = true
is_wanted (From from) key = not (is_lt (key_cmp key from))
is_wanted (Above from) key = is_gt (key_cmp key from)

-- the position after what was found, if anything was
abbrev pub behind_found : Option Entry → Position → Position
behind_found None position = position
behind_found (Some e) position = Above e.0

-- what a list has of the keys that are wanted
abbrev pub wanted : {X : Type 0} → (Key → Bool) → List (Key × X) → List (Key × X)
wanted is_one es = filter (λ e. is_one e.0) es

-- the first entry of a list
abbrev pub first_of : List Entry → Option Entry
first_of es = slice_get es 0

-- of two entries the one whose key is lower, and of one key the first
abbrev pub lesser : Option Entry → Option Entry → Option Entry
lesser None b = b
lesser (Some x) None = Some x
lesser (Some x) (Some y) = if is_gt (key_cmp x.0 y.0) then Some y else Some x

-- of all lists the first wanted entry whose key is lowest, and of one key that of the first list
abbrev pub least_first : (Key → Bool) → List (List Entry) → Option Entry
least_first is_one [] = None
least_first is_one (es ∷ ess) = lesser (first_of (wanted is_one es)) (least_first is_one ess)

-- nothing below this key is wanted
abbrev pub WantsFrom : (Key → Bool) → Key → Type 0
WantsFrom is_one key = (k : Key) → key_cmp k key ≡ Less → is_one k ≡ false
