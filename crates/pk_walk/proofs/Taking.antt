-- The least entry of a walk's sources is taken: how they compare, and what remains of them.
use Rattle.std.proofs.Common.{◌≡◌, refl, sym, ap, subst, ◌∙◌, Bool, true, false, if◌then◌else◌, List, [], ◌∷◌, ◌++◌, Option, Some, None}
use Rattle.std.{specs.Ordering.is_gt, specs.Ordering.is_eq, specs.declared.cmp.Ordering.Ordering}
use Rattle.pk_base.specs.Entry.{Entry}
use Rattle.pk_walk.{specs.declared.head.Head.Head as RustHead, specs.declared.orders.Orders.Orders as RustOrders, specs.Visible.lesser, specs.Walking.Cursor, specs.Walking.Tops}
use Rattle.pk_walk.{specs.Heads.Head, specs.Heads.entry_in, specs.Heads.least_of, specs.Heads.let_go, specs.Heads.order_of, specs.Heads.seen_head, specs.Steps.AreOrders, specs.Steps.GoBehind}
use Rattle.pk_walk.proofs.Leasts.{GoEach, Takes, least_more, lesser_is, lesser_none, take_before, take_first, take_last}

-- ---- how they compare

-- the entry that memory has
abbrev pub own : RustHead → Option Entry
own h = entry_in (seen_head h)

pub lead_first : (h : RustHead) → own h ≡ least_of (seen_head h ∷ [])
lead_first h = sym (lesser_none (own h))

-- the lower of the least of some and of one more is the least with it
pub lead : (hs : List Head) (u h x : RustHead) (o : Ordering) → own u ≡ least_of hs → o ≡ order_of (own u) (own h) → x ≡ (if is_gt o then h else u) → own x ≡ least_of (hs ++ seen_head h ∷ [])
lead hs u h x o top is pick =
    ap own pick ∙ choose (is_gt o) ∙ ap (λ (p : Ordering). if is_gt p then own h else own u) is
    ∙ sym (lesser_is (own u) (own h)) ∙ ap (λ (l : Option Entry). lesser l (own h)) top ∙ sym (least_more hs (seen_head h))
  where
    choose : (b : Bool) → own (if b then h else u) ≡ (if b then own h else own u)
    choose true = refl
    choose false = refl

pub stands_to : (hs : List Head) (u h : RustHead) (o : Ordering) → own u ≡ least_of hs → o ≡ order_of (own u) (own h) → o ≡ order_of (least_of hs) (own h)
stands_to hs u h o top is = is ∙ ap (λ (l : Option Entry). order_of l (own h)) top

-- ---- what remains of them

-- those of its key are let go
abbrev pub kept_by : Ordering → Head → Head
kept_by o h = if is_eq o then None else h

module _ (t : Tops) (c1 c2 c3 c4 : Cursor) (o : RustOrders) (are : AreOrders t.active t.frozen c1.head c2.head c3.head c4.head o) where
  abbrev heads : List Head
  heads = t.active ∷ t.frozen ∷ c1.head ∷ c2.head ∷ c3.head ∷ c4.head ∷ []

  -- what was taken is the least, and those of its key went with it
  went : (ka kb k1 k2 k3 k4 : Head) (a answer : Option Entry) (u : Tops) (d1 d2 d3 d4 : Cursor) → Takes heads (ka ∷ kb ∷ k1 ∷ k2 ∷ k3 ∷ k4 ∷ []) a → answer ≡ a → u.active ≡ ka → u.frozen ≡ kb
      → d1 ≡ record c1 { head = k1 } → d2 ≡ record c2 { head = k2 } → d3 ≡ record c3 { head = k3 } → d4 ≡ record c4 { head = k4 }
      → (answer ≡ least_of heads) × GoBehind answer t (c1 ∷ c2 ∷ c3 ∷ c4 ∷ []) u (d1 ∷ d2 ∷ d3 ∷ d4 ∷ [])
  went ka kb k1 k2 k3 k4 a answer u d1 d2 d3 d4 takes is ua ub e1 e2 e3 e4 =
      (is ∙ takes.least, subst (λ (x : Option Entry). GoBehind x t (c1 ∷ c2 ∷ c3 ∷ c4 ∷ []) u (d1 ∷ d2 ∷ d3 ∷ d4 ∷ [])) (sym is) (go a takes.go))
    where
      go : (a : Option Entry) → GoEach a heads (ka ∷ kb ∷ k1 ∷ k2 ∷ k3 ∷ k4 ∷ []) → GoBehind a t (c1 ∷ c2 ∷ c3 ∷ c4 ∷ []) u (d1 ∷ d2 ∷ d3 ∷ d4 ∷ [])
      go None p = (
        λ i. record { active = (ua ∙ p.0) i; frozen = (ub ∙ p.1.0) i },
        (λ i. e1 i ∷ e2 i ∷ e3 i ∷ e4 i ∷ [])
            ∙ (λ i. record c1 { head = p.1.1.0 i } ∷ record c2 { head = p.1.1.1.0 i } ∷ record c3 { head = p.1.1.1.1.0 i } ∷ record c4 { head = p.1.1.1.1.1.0 i } ∷ []),
      )
      go (Some e) p = (
        λ i. record { active = (ua ∙ p.0) i; frozen = (ub ∙ p.1.0) i },
        (λ i. e1 i ∷ e2 i ∷ e3 i ∷ e4 i ∷ [])
            ∙ (λ i. record c1 { head = p.1.1.0 i } ∷ record c2 { head = p.1.1.1.0 i } ∷ record c3 { head = p.1.1.1.1.0 i } ∷ record c4 { head = p.1.1.1.1.1.0 i } ∷ []),
      )

  -- if the entry of the fourth run is the least, or one before it is
  fourth_kept : (ks : List Head) (a : Option Entry) → is_gt o.fourth ≡ false → Takes (t.active ∷ t.frozen ∷ c1.head ∷ c2.head ∷ c3.head ∷ []) ks a → Takes heads (ks ++ kept_by o.fourth c4.head ∷ []) a
  fourth_kept ks a before takes = take_before (t.active ∷ t.frozen ∷ c1.head ∷ c2.head ∷ c3.head ∷ []) ks a c4.head o.fourth are.fourth_is before takes

  third_kept : (ks : List Head) (a : Option Entry) → is_gt o.third ≡ false → Takes (t.active ∷ t.frozen ∷ c1.head ∷ c2.head ∷ []) ks a
      → Takes (t.active ∷ t.frozen ∷ c1.head ∷ c2.head ∷ c3.head ∷ []) (ks ++ kept_by o.third c3.head ∷ []) a
  third_kept ks a before takes = take_before (t.active ∷ t.frozen ∷ c1.head ∷ c2.head ∷ []) ks a c3.head o.third are.third_is before takes

  second_kept : (ks : List Head) (a : Option Entry) → is_gt o.second ≡ false → Takes (t.active ∷ t.frozen ∷ c1.head ∷ []) ks a
      → Takes (t.active ∷ t.frozen ∷ c1.head ∷ c2.head ∷ []) (ks ++ kept_by o.second c2.head ∷ []) a
  second_kept ks a before takes = take_before (t.active ∷ t.frozen ∷ c1.head ∷ []) ks a c2.head o.second are.second_is before takes

  first_kept : (ks : List Head) (a : Option Entry) → is_gt o.first ≡ false → Takes (t.active ∷ t.frozen ∷ []) ks a → Takes (t.active ∷ t.frozen ∷ c1.head ∷ []) (ks ++ kept_by o.first c1.head ∷ []) a
  first_kept ks a before takes = take_before (t.active ∷ t.frozen ∷ []) ks a c1.head o.first are.first_is before takes

  module _ (answer : Option Entry) (u : Tops) (d1 d2 d3 d4 : Cursor) where
    abbrev pub Went : Type 0
    Went = (answer ≡ least_of heads) × GoBehind answer t (c1 ∷ c2 ∷ c3 ∷ c4 ∷ []) u (d1 ∷ d2 ∷ d3 ∷ d4 ∷ [])

    pub fourth_went : is_gt o.fourth ≡ true → answer ≡ entry_in c4.head → u ≡ t → d1 ≡ c1 → d2 ≡ c2 → d3 ≡ c3 → d4 ≡ record c4 { head = let_go c4.head } → Went
    fourth_went is given same e1 e2 e3 e4 =
        went t.active t.frozen c1.head c2.head c3.head (let_go c4.head) (entry_in c4.head) answer u d1 d2 d3 d4
        (take_last (t.active ∷ t.frozen ∷ c1.head ∷ c2.head ∷ c3.head ∷ []) c4.head o.fourth are.fourth_is is)
        given (ap (λ (x : Tops). x.active) same) (ap (λ (x : Tops). x.frozen) same) e1 e2 e3 e4

    module _ (before4 : is_gt o.fourth ≡ false) (e4 : d4 ≡ record c4 { head = kept_by o.fourth c4.head }) where
      pub third_went : is_gt o.third ≡ true → answer ≡ entry_in c3.head → u ≡ t → d1 ≡ c1 → d2 ≡ c2 → d3 ≡ record c3 { head = let_go c3.head } → Went
      third_went is given same e1 e2 e3 =
          went t.active t.frozen c1.head c2.head (let_go c3.head) (kept_by o.fourth c4.head) (entry_in c3.head) answer u d1 d2 d3 d4
          (fourth_kept _ _ before4 (take_last (t.active ∷ t.frozen ∷ c1.head ∷ c2.head ∷ []) c3.head o.third are.third_is is))
          given (ap (λ (x : Tops). x.active) same) (ap (λ (x : Tops). x.frozen) same) e1 e2 e3 e4

      module _ (before3 : is_gt o.third ≡ false) (e3 : d3 ≡ record c3 { head = kept_by o.third c3.head }) where
        pub second_went : is_gt o.second ≡ true → answer ≡ entry_in c2.head → u ≡ t → d1 ≡ c1 → d2 ≡ record c2 { head = let_go c2.head } → Went
        second_went is given same e1 e2 =
            went t.active t.frozen c1.head (let_go c2.head) (kept_by o.third c3.head) (kept_by o.fourth c4.head) (entry_in c2.head) answer u d1 d2 d3 d4
            (fourth_kept _ _ before4 (third_kept _ _ before3 (take_last (t.active ∷ t.frozen ∷ c1.head ∷ []) c2.head o.second are.second_is is)))
            given (ap (λ (x : Tops). x.active) same) (ap (λ (x : Tops). x.frozen) same) e1 e2 e3 e4

        module _ (before2 : is_gt o.second ≡ false) (e2 : d2 ≡ record c2 { head = kept_by o.second c2.head }) where
          pub first_went : is_gt o.first ≡ true → answer ≡ entry_in c1.head → u ≡ t → d1 ≡ record c1 { head = let_go c1.head } → Went
          first_went is given same e1 =
              went t.active t.frozen (let_go c1.head) (kept_by o.second c2.head) (kept_by o.third c3.head) (kept_by o.fourth c4.head) (entry_in c1.head) answer u d1 d2 d3 d4
              (fourth_kept _ _ before4 (third_kept _ _ before3 (second_kept _ _ before2 (take_last (t.active ∷ t.frozen ∷ []) c1.head o.first are.first_is is))))
              given (ap (λ (x : Tops). x.active) same) (ap (λ (x : Tops). x.frozen) same) e1 e2 e3 e4

          module _ (before1 : is_gt o.first ≡ false) (e1 : d1 ≡ record c1 { head = kept_by o.first c1.head }) where
            pub frozen_went : is_gt o.frozen ≡ true → answer ≡ entry_in t.frozen → u.active ≡ t.active → u.frozen ≡ let_go t.frozen → Went
            frozen_went is given ua ub =
                went t.active (let_go t.frozen) (kept_by o.first c1.head) (kept_by o.second c2.head) (kept_by o.third c3.head) (kept_by o.fourth c4.head) (entry_in t.frozen) answer u d1 d2 d3 d4
                (fourth_kept _ _ before4 (third_kept _ _ before3 (second_kept _ _ before2 (first_kept _ _ before1 (take_last (t.active ∷ []) t.frozen o.frozen are.frozen_is is)))))
                given ua ub e1 e2 e3 e4

            pub active_went : is_gt o.frozen ≡ false → answer ≡ entry_in t.active → u.active ≡ let_go t.active → u.frozen ≡ kept_by o.frozen t.frozen → Went
            active_went is given ua ub =
                went (let_go t.active) (kept_by o.frozen t.frozen) (kept_by o.first c1.head) (kept_by o.second c2.head)
                (kept_by o.third c3.head) (kept_by o.fourth c4.head) (entry_in t.active) answer u d1 d2 d3 d4
                (fourth_kept _ _ before4
                (third_kept _ _ before3
                (second_kept _ _ before2
                (first_kept _ _ before1 (take_before (t.active ∷ []) (let_go t.active ∷ []) (entry_in t.active) t.frozen o.frozen are.frozen_is is (take_first t.active))))))
                given ua ub e1 e2 e3 e4
