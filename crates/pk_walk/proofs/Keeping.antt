-- The orders that are kept from one key to the next hold as long as their entries are unchanged.
use Rattle.std.proofs.Common.{◌≡◌, refl, sym, ap, subst, ◌∙◌, arith, List, [], ◌∷◌, ◌++◌, length, Option, Some, None}
use Rattle.std.{specs.Prelude.⊤, specs.Prelude.IfSome, specs.List.AllByRecursion, specs.declared.cmp.Ordering.Ordering}
use Rattle.pk_base.{specs.Entry.Entry, specs.Page.Flash, specs.Shape.Shape}
use Rattle.pk_nand.specs.BoardState.{BoardState}
use Rattle.pk_pin.specs.Frames.{Frames}
use Rattle.pk_run.specs.Kept.{Kept}
use Rattle.pk_level.specs.Levels.{RunsOnFlash}
use Rattle.pk_walk.{specs.declared.head.Head.Head as RustHead, specs.declared.orders.Orders.Orders as RustOrders, specs.declared.orders.KeptOrders.KeptOrders as RustKeptOrders, proofs.Taking.own}
use Rattle.pk_walk.{specs.declared.position.Position.Position, specs.Visible.is_wanted, specs.Visible.lesser, specs.Walking.Cursor, specs.Walking.Tops, specs.Walking.Walk, specs.Walking.FollowEach}
use Rattle.pk_walk.{specs.Heads.Head, specs.Heads.entry_in, specs.Heads.known_as, specs.Heads.least_of, specs.Heads.order_of, specs.Heads.seen_head, proofs.Walks.Learned, proofs.Walks.known_head}
use Rattle.pk_walk.specs.Steps.{AreOrders, IsKnown, heads_in, heads_of}
use Rattle.pk_walk.specs.Orders.{AreKept, EachKept, IsOrder, IsSettled, MayKeep, as_list, no_orders}

-- ---- nothing is kept

none_each : (hs rest : List Head) (os : List (Option Ordering)) → AllByRecursion (λ (o : Option Ordering). o ≡ None) os → EachKept hs rest os
none_each hs (h ∷ rest) (o ∷ os) none = (subst (MayKeep hs h) (sym none.0) tt, none_each (hs ++ h ∷ []) rest os none.1)
none_each hs _ _ none = tt

pub none_kept : (t : Tops) (cs : List Cursor) (k : RustKeptOrders) → k ≡ no_orders → AreKept t cs k
none_kept t cs k is =
    subst (AreKept t cs) (sym is) (none_each (t.active ∷ []) (t.frozen ∷ heads_of cs) (as_list no_orders) (refl, (refl, (refl, (refl, (refl, tt))))))

-- ---- a kept order is that of the lower one before it

pub is_kept : (hs : List Head) (u h : RustHead) (k : Option Ordering) → own u ≡ least_of hs → MayKeep hs (seen_head h) k → IfSome k (λ (o : Ordering). o ≡ order_of (own u) (own h))
is_kept hs u h None top kept = tt
is_kept hs u h (Some o) top kept = kept.is ∙ ap (λ (l : Option Entry). order_of l (own h)) (sym top)

-- ---- entries that were known are unchanged

abbrev pub Stay : List Head → List Head → Type 0
Stay [] [] = ⊤
Stay (h ∷ hs) (k ∷ ks) = (IsSettled h → entry_in k ≡ entry_in h) × Stay hs ks
Stay _ _ = ⊥

least_stays : (hs ks : List Head) → Stay hs ks → AllByRecursion IsSettled hs → least_of ks ≡ least_of hs
least_stays [] [] same s = refl
least_stays (h ∷ hs) (k ∷ ks) same s = λ i. lesser (same.0 s.0 i) (least_stays hs ks same.1 s.1 i)
least_stays _ _ same s = absurd same

stay_more : (hs ks : List Head) (h k : Head) → Stay hs ks → (IsSettled h → entry_in k ≡ entry_in h) → Stay (hs ++ h ∷ []) (ks ++ k ∷ [])
stay_more [] [] h k same one = (one, tt)
stay_more (x ∷ hs) (y ∷ ks) h k same one = (same.0, stay_more hs ks h k same.1 one)
stay_more _ _ h k same one = absurd same

settled_more : (hs : List Head) (h : Head) → AllByRecursion IsSettled hs → IsSettled h → AllByRecursion IsSettled (hs ++ h ∷ [])
settled_more [] h s one = (one, tt)
settled_more (x ∷ hs) h s one = (s.0, settled_more hs h s.1 one)

one_stays : (hs ks : List Head) (h k : Head) (o : Option Ordering) → Stay hs ks → (IsSettled h → entry_in k ≡ entry_in h) → AllByRecursion IsSettled ks → IsSettled k → MayKeep hs h o → MayKeep ks k o
one_stays hs ks h k None same one s settled kept = tt
one_stays hs ks h k (Some o) same one s settled kept =
    let least = sym (least_stays hs ks same kept.before) in
    let entry = sym (one kept.settled) in
    record { before = s; settled = settled; is = kept.is ∙ (λ i. order_of (least i) (entry i)) }

each_stays : (hs ks rest next : List Head) (os : List (Option Ordering)) → Stay hs ks → Stay rest next
    → AllByRecursion IsSettled ks → AllByRecursion IsSettled next → EachKept hs rest os → EachKept ks next os
each_stays hs ks [] (k ∷ next) os same more s settled kept = absurd more
each_stays hs ks (h ∷ rest) [] os same more s settled kept = absurd more
each_stays hs ks (h ∷ rest) (k ∷ next) (o ∷ os) same more s settled kept = (
  one_stays hs ks h k o same more.0 s settled.0 kept.0,
  each_stays (hs ++ h ∷ []) (ks ++ k ∷ []) rest next os (stay_more hs ks h k same more.0) more.1 (settled_more ks k s settled.0) settled.1 kept.1,
)
each_stays hs ks _ _ _ same more s settled kept = tt

-- ---- over a search

-- what both know of a run is its first wanted entry
cursors_stay : (flash : Flash) (arena : Frames) (position : Position) (rs : List Kept) (ess : List (List Entry)) (cs ds : List Cursor)
    → length rs ≡ length cs → length rs ≡ length ds → RunsOnFlash flash arena rs ess
    → FollowEach flash rs ess position cs → FollowEach flash rs ess position ds → AllByRecursion IsKnown ds → Stay (heads_of cs) (heads_of ds)
cursors_stay flash arena position [] ess [] [] many same s f g known = tt
cursors_stay flash arena position [] ess [] (d ∷ ds) many same s f g known = absurd (omega (arith, same))
cursors_stay flash arena position (r ∷ rs) [] cs ds many same s f g known = absurd s
cursors_stay flash arena position (r ∷ rs) (es ∷ ess) (c ∷ cs) [] many same s f g known = absurd (omega (arith, same))
cursors_stay flash arena position (r ∷ rs) (es ∷ ess) (c ∷ cs) (d ∷ ds) many same s f g known =
    let now = known_head (is_wanted position) es d.place r.count d.head s.0.many g.0.left g.0.ended known.0 in (
      λ settled. now ∙ sym (known_head (is_wanted position) es c.place r.count c.head s.0.many f.0.left f.0.ended settled),
      cursors_stay flash arena position rs ess cs ds (omega (arith, many)) (omega (arith, same)) s.1 f.1 g.1 known.1,
    )
cursors_stay flash arena position _ _ _ ds many same s f g known = absurd (omega (arith, many))

cursors_settled : (cs : List Cursor) → AllByRecursion IsKnown cs → AllByRecursion IsSettled (heads_of cs)
cursors_settled [] known = tt
cursors_settled (c ∷ cs) known = (known.0, cursors_settled cs known.1)

top_settled : (found : Option Entry) (h : Head) → IsSettled (known_as found h)
top_settled found None = refl
top_settled found (Some first) = refl

top_stays : (found : Option Entry) (h : Head) → IsSettled h → entry_in (known_as found h) ≡ entry_in h
top_stays found None settled = cc
top_stays found (Some first) settled = refl

module _ {rs : List Kept} {arena : Frames} {active frozen : List Entry} {shape : Shape} {old new : BoardState}
    {w : Walk} {t : Tops} {ds : List Cursor} (at : Learned rs arena active frozen shape old new w t ds) where
  -- all entries are known after it
  pub learned_settled : AllByRecursion IsSettled (heads_in t ds)
  learned_settled = (
    subst (λ (x : Tops). IsSettled x.active) (sym at.known) (top_settled _ w.tops.active),
    (subst (λ (x : Tops). IsSettled x.frozen) (sym at.known) (top_settled _ w.tops.frozen), cursors_settled ds at.shows.known),
  )

  -- and what was kept holds still
  pub learned_kept : (k : RustKeptOrders) → length w.cursors ≡ length ds → (ess : List (List Entry)) × RunsOnFlash old.pages arena rs ess × FollowEach old.pages rs ess w.position w.cursors
      → AreKept w.tops w.cursors k → AreKept t ds k
  learned_kept k same (ess, s, f) kept =
      each_stays (w.tops.active ∷ []) (t.active ∷ []) (w.tops.frozen ∷ heads_of w.cursors) (t.frozen ∷ heads_of ds) (as_list k)
      (λ settled. ap (λ (x : Tops). entry_in x.active) at.known ∙ top_stays _ w.tops.active settled, tt) (
        λ settled. ap (λ (x : Tops). entry_in x.frozen) at.known ∙ top_stays _ w.tops.frozen settled,
        cursors_stay old.pages arena w.position rs ess w.cursors ds (at.many ∙ sym same) at.many s f (at.on.follow ess s) at.shows.known,
      )
      (learned_settled.0, tt) learned_settled.1 kept

-- ---- after the least

module _ (t : Tops) (c1 c2 c3 c4 : Cursor) (o : RustOrders) (are : AreOrders t.active t.frozen c1.head c2.head c3.head c4.head o)
    (s : AllByRecursion IsSettled (heads_in t (c1 ∷ c2 ∷ c3 ∷ c4 ∷ []))) where
  frozen_order : IsOrder (t.active ∷ []) t.frozen o.frozen
  frozen_order = record { before = (s.0, tt); settled = s.1.0; is = are.frozen_is }

  first_order : IsOrder (t.active ∷ t.frozen ∷ []) c1.head o.first
  first_order = record { before = (s.0, (s.1.0, tt)); settled = s.1.1.0; is = are.first_is }

  second_order : IsOrder (t.active ∷ t.frozen ∷ c1.head ∷ []) c2.head o.second
  second_order = record { before = (s.0, (s.1.0, (s.1.1.0, tt))); settled = s.1.1.1.0; is = are.second_is }

  third_order : IsOrder (t.active ∷ t.frozen ∷ c1.head ∷ c2.head ∷ []) c3.head o.third
  third_order = record { before = (s.0, (s.1.0, (s.1.1.0, (s.1.1.1.0, tt)))); settled = s.1.1.1.1.0; is = are.third_is }

  -- those of the sources before the one that goes on are unchanged
  module _ (k : RustKeptOrders) where
    pub before_fourth : (d4 : Cursor) → as_list k ≡ Some o.frozen ∷ Some o.first ∷ Some o.second ∷ Some o.third ∷ None ∷ [] → AreKept t (c1 ∷ c2 ∷ c3 ∷ d4 ∷ []) k
    before_fourth d4 is = subst (EachKept (t.active ∷ []) (t.frozen ∷ c1.head ∷ c2.head ∷ c3.head ∷ d4.head ∷ [])) (sym is) (frozen_order, (first_order, (second_order, (third_order, (tt, tt)))))

    pub before_third : (d3 d4 : Cursor) → as_list k ≡ Some o.frozen ∷ Some o.first ∷ Some o.second ∷ None ∷ None ∷ [] → AreKept t (c1 ∷ c2 ∷ d3 ∷ d4 ∷ []) k
    before_third d3 d4 is = subst (EachKept (t.active ∷ []) (t.frozen ∷ c1.head ∷ c2.head ∷ d3.head ∷ d4.head ∷ [])) (sym is) (frozen_order, (first_order, (second_order, (tt, (tt, tt)))))

    pub before_second : (d2 d3 d4 : Cursor) → as_list k ≡ Some o.frozen ∷ Some o.first ∷ None ∷ None ∷ None ∷ [] → AreKept t (c1 ∷ d2 ∷ d3 ∷ d4 ∷ []) k
    before_second d2 d3 d4 is = subst (EachKept (t.active ∷ []) (t.frozen ∷ c1.head ∷ d2.head ∷ d3.head ∷ d4.head ∷ [])) (sym is) (frozen_order, (first_order, (tt, (tt, (tt, tt)))))

    pub before_first : (d1 d2 d3 d4 : Cursor) → as_list k ≡ Some o.frozen ∷ None ∷ None ∷ None ∷ None ∷ [] → AreKept t (d1 ∷ d2 ∷ d3 ∷ d4 ∷ []) k
    before_first d1 d2 d3 d4 is = subst (EachKept (t.active ∷ []) (t.frozen ∷ d1.head ∷ d2.head ∷ d3.head ∷ d4.head ∷ [])) (sym is) (frozen_order, (tt, (tt, (tt, (tt, tt)))))
