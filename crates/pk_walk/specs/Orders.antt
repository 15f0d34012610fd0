-- How the first wanted entries of a walk's sources compare with each other, and what of it is kept from one key to the next.
use Rattle.std.specs.Prelude.{◌≡◌, ⊤, true, List, [], ◌∷◌, ◌++◌, is_some, Option, Some, None}
use Rattle.std.{specs.List.AllByRecursion, specs.declared.cmp.Ordering.Ordering}
use Rattle.pk_walk.{specs.declared.orders.Orders.Orders as RustOrders, specs.declared.orders.KeptOrders.KeptOrders as RustKeptOrders, specs.Walking.Cursor, specs.Walking.Tops}
use Rattle.pk_walk.{specs.Heads.Head, specs.Heads.entry_in, specs.Heads.least_of, specs.Heads.order_of, specs.Steps.AreOrders, specs.Steps.heads_of}

-- the entry was looked for
abbrev pub IsSettled : Head → Type 0
IsSettled h = is_some h ≡ true

-- How an entry that was looked for compares with the least of some that were.
pub record IsOrder (hs : List Head) (h : Head) (o : Ordering) : Type 0 where
  pub before : AllByRecursion IsSettled hs
  pub settled : IsSettled h
  pub is : o ≡ order_of (least_of hs) (entry_in h)

-- it is that if it is kept
abbrev pub MayKeep : List Head → Head → Option Ordering → Type 0
MayKeep hs h None = ⊤
MayKeep hs h (Some o) = IsOrder hs h o

-- each of several is, with those before it
abbrev pub EachKept : List Head → List Head → List (Option Ordering) → Type 0
EachKept hs [] os = ⊤
EachKept hs (h ∷ rest) [] = ⊤
EachKept hs (h ∷ rest) (o ∷ os) = MayKeep hs h o × EachKept (hs ++ h ∷ []) rest os

-- those of the sources after the active buffer
abbrev pub as_list : RustKeptOrders → List (Option Ordering)
as_list k = k.frozen ∷ k.first ∷ k.second ∷ k.third ∷ k.fourth ∷ []

-- none
abbrev pub no_orders : RustKeptOrders
no_orders = record { frozen = None; first = None; second = None; third = None; fourth = None }

-- what is kept is so of the buffers and the runs
abbrev pub AreKept : Tops → List Cursor → RustKeptOrders → Type 0
AreKept t cs k = EachKept (t.active ∷ []) (t.frozen ∷ heads_of cs) (as_list k)

-- the orders are those of these six heads
abbrev pub AreOrdersOf : List Head → RustOrders → Type 0
AreOrdersOf hs o = (a b c d e f : Head) → hs ≡ a ∷ b ∷ c ∷ d ∷ e ∷ f ∷ [] → AreOrders a b c d e f o
