-- The first entry of a list that a walk still wants, as far as it was looked for.
use Rattle.std.specs.Prelude.{◌≡◌, ⊤, T, if◌then◌else◌, List, [], ◌∷◌, Option, Some, None}
use Rattle.std.{specs.Ordering.is_eq, specs.declared.cmp.Ordering.Ordering, specs.declared.cmp.Ordering.TheVariants.Less, specs.declared.cmp.Ordering.TheVariants.Greater}
use Rattle.pk_base.{specs.Key.Key, specs.Key.key_cmp, specs.Entry.Entry, specs.Seen.entry}
use Rattle.pk_walk.{specs.declared.head.Head.Head as RustHead, specs.declared.head.Head.TheVariants.Sought, specs.declared.head.Head.TheVariants.Ended, specs.declared.head.Head.TheVariants.Stands}
use Rattle.pk_walk.{specs.declared.position.Position.Position, specs.Visible.is_wanted, specs.Visible.wanted, specs.Visible.first_of, specs.Visible.lesser}

-- nothing is known of it; there is none; or it is this one
abbrev pub Head : Type 0
Head = Option (Option Entry)

-- as memory has it
abbrev pub seen_head : RustHead → Head
seen_head Sought = None
seen_head Ended = Some None
seen_head (Stands e) = Some (Some (entry e))

-- the entry, if it is known
abbrev pub entry_in : Head → Option Entry
entry_in None = None
entry_in (Some found) = found

-- the list of it
abbrev pub held : Head → List Entry
held None = []
held (Some None) = []
held (Some (Some e)) = e ∷ []

-- what is known once it was looked for
abbrev pub known_as : Option Entry → Head → Head
known_as found None = Some found
known_as found (Some first) = Some first

-- what is known if it was returned
abbrev pub let_go : Head → Head
let_go None = None
let_go (Some None) = Some None
let_go (Some (Some e)) = None

-- and if the walk moves past a key that is not above it
abbrev pub head_after : Key → Head → Head
head_after key None = None
head_after key (Some None) = Some None
head_after key (Some (Some e)) = if is_eq (key_cmp e.0 key) then None else Some (Some e)

-- what is known is right
abbrev pub Shows : List Entry → Position → Head → Type 0
Shows es position None = ⊤
Shows es position (Some found) = found ≡ first_of (wanted (is_wanted position) es)

-- the entry is wanted next, or after the one that is known
abbrev pub IsNextWanted : Position → Head → Entry → Type 0
IsNextWanted position None e = T (is_wanted position e.0)
IsNextWanted position (Some None) e = ⊤
IsNextWanted position (Some (Some first)) e = key_cmp first.0 e.0 ≡ Less

-- ---- several

-- the order of two entries by their keys, if one that is not there is above all
abbrev pub order_of : Option Entry → Option Entry → Ordering
order_of None None = Less
order_of None (Some y) = Greater
order_of (Some x) None = Less
order_of (Some x) (Some y) = key_cmp x.0 y.0

-- the entry whose key is lowest, and of one key the first
abbrev pub least_of : List Head → Option Entry
least_of [] = None
least_of (h ∷ hs) = lesser (entry_in h) (least_of hs)
