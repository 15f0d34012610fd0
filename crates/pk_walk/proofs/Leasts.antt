-- The least of several first wanted entries: by how each compares with the least of those before it, and which of them go with it.
use Rattle.std.proofs.Common.{◌≡◌, refl, sym, ap, subst, ◌∙◌, Bool, true, false, if◌then◌else◌, List, [], ◌∷◌, ◌++◌, Option, Some, None}
use Rattle.std.{specs.Prelude.⊤, specs.Ordering.is_gt, specs.Ordering.is_eq, proofs.lemmas.Cmp.tied_itself, specs.declared.cmp.Ordering.Ordering}
use Rattle.std.specs.declared.cmp.Ordering.TheVariants.{Less, Equal, Greater}
use Rattle.pk_base.{specs.Key.Key, specs.Key.key_cmp, specs.Entry.Entry, proofs.KeyLemmas.turned}
use Rattle.pk_model.proofs.MapLemmas.{key_total, key_antisymm}
use Rattle.pk_walk.{specs.Visible.lesser, specs.Heads.Head, specs.Heads.head_after, specs.Heads.entry_in, specs.Heads.least_of, specs.Heads.let_go, specs.Heads.order_of}

-- ---- the lesser of two

pub lesser_none : (a : Option Entry) → lesser a None ≡ a
lesser_none None = refl
lesser_none (Some x) = refl

-- by how they compare
pub lesser_is : (a b : Option Entry) → lesser a b ≡ (if is_gt (order_of a b) then b else a)
lesser_is None None = refl
lesser_is None (Some y) = refl
lesser_is (Some x) None = refl
lesser_is (Some x) (Some y) = refl

-- of three the order of the two steps does not count
three : (x y z : Entry) (p q r : Ordering) → key_cmp x.0 y.0 ≡ p → key_cmp y.0 z.0 ≡ q → key_cmp x.0 z.0 ≡ r
    → lesser (lesser (Some x) (Some y)) (Some z) ≡ lesser (Some x) (lesser (Some y) (Some z))
three x y z Greater Greater r ep eq er =
    let far : key_cmp x.0 z.0 ≡ Greater = turned z.0 x.0 Less (key_total.trans z.0 y.0 x.0 (turned y.0 z.0 Greater eq) (turned x.0 y.0 Greater ep)) in
    rw (ep, eq, far) refl
three x y z Less Greater r ep eq er = rw (ep, eq) refl
three x y z Equal Greater r ep eq er = rw (ep, eq) refl
three x y z Less Less r ep eq er = let far : key_cmp x.0 z.0 ≡ Less = key_total.trans x.0 y.0 z.0 ep eq in rw (ep, eq, far) rw ep refl
three x y z Less Equal r ep eq er = let far : key_cmp x.0 z.0 ≡ Less = subst (λ (k : Key). key_cmp x.0 k ≡ Less) (key_antisymm y.0 z.0 eq) ep in rw (ep, eq, far) rw ep refl
three x y z Equal Less r ep eq er = let far : key_cmp x.0 z.0 ≡ Less = subst (λ (k : Key). key_cmp k z.0 ≡ Less) (sym (key_antisymm x.0 y.0 ep)) eq in rw (ep, eq, far) rw ep refl
three x y z Equal Equal r ep eq er = let far : key_cmp x.0 z.0 ≡ Equal = subst (λ (k : Key). key_cmp x.0 k ≡ Equal) (key_antisymm y.0 z.0 eq) ep in rw (ep, eq, far) rw ep refl
three x y z _ _ r ep eq er = rw (ep, eq) rw ep refl

pub lesser_assoc : (a b c : Option Entry) → lesser (lesser a b) c ≡ lesser a (lesser b c)
lesser_assoc (Some x) (Some y) None = lesser_none (lesser (Some x) (Some y))
lesser_assoc (Some x) (Some y) (Some z) = three x y z (key_cmp x.0 y.0) (key_cmp y.0 z.0) (key_cmp x.0 z.0) refl refl refl
lesser_assoc _ _ c = refl

-- with one more after them
pub least_more : (hs : List Head) (h : Head) → least_of (hs ++ h ∷ []) ≡ lesser (least_of hs) (entry_in h)
least_more [] h = lesser_none (entry_in h)
least_more (x ∷ hs) h = ap (lesser (entry_in x)) (least_more hs h) ∙ sym (lesser_assoc (entry_in x) (least_of hs) (entry_in h))

-- ---- which go with the least

abbrev pub Goes : Option Entry → Head → Head → Type 0
Goes None h k = k ≡ h
Goes (Some e) h k = k ≡ head_after e.0 h

abbrev pub GoEach : Option Entry → List Head → List Head → Type 0
GoEach a [] [] = ⊤
GoEach a (h ∷ hs) (k ∷ ks) = Goes a h k × GoEach a hs ks
GoEach a _ _ = ⊥

go_more : (a : Option Entry) (hs ks : List Head) (h k : Head) → GoEach a hs ks → Goes a h k → GoEach a (hs ++ h ∷ []) (ks ++ k ∷ [])
go_more a [] [] h k each one = (one, tt)
go_more a (x ∷ hs) (y ∷ ks) h k each one = (each.0, go_more a hs ks h k each.1 one)
go_more a _ _ h k each one = absurd each

-- of these the least was taken, and those of its key went with it
pub record Takes (hs ks : List Head) (a : Option Entry) : Type 0 where
  pub least : a ≡ least_of hs
  pub go : GoEach a hs ks

itself : (e : Entry) → None ≡ head_after e.0 (Some (Some e))
itself e = sym (ap (λ (o : Ordering). if is_eq o then None else Some (Some e)) (tied_itself key_total e.0))

taken : (h : Head) → Goes (entry_in h) h (let_go h)
taken (Some (Some e)) = itself e
taken _ = refl

pub take_first : (h : Head) → Takes (h ∷ []) (let_go h ∷ []) (entry_in h)
take_first h = record { least = sym (lesser_none (entry_in h)); go = (taken h, tt) }

-- if the lesser of two is above an entry both are
above_both : (a b : Option Entry) (e : Entry) → order_of (lesser a b) (Some e) ≡ Greater → (order_of a (Some e) ≡ Greater) × (order_of b (Some e) ≡ Greater)
above_both None b e gt = (refl, gt)
above_both (Some x) None e gt = (gt, refl)
above_both (Some x) (Some y) e gt =
    elim (key_cmp x.0 y.0) as (λ o. key_cmp x.0 y.0 ≡ o → order_of (if is_gt o then Some y else Some x) (Some e) ≡ Greater → (key_cmp x.0 e.0 ≡ Greater) × (key_cmp y.0 e.0 ≡ Greater)) [
      | Less ↦ λ p gt. (gt, turned e.0 y.0 Less (key_total.trans e.0 x.0 y.0 (turned x.0 e.0 Greater gt) p))
      | Equal ↦ λ p gt. (gt, subst (λ (k : Key). key_cmp k e.0 ≡ Greater) (key_antisymm x.0 y.0 p) gt)
      | Greater ↦ λ p gt. (turned e.0 x.0 Less (key_total.trans e.0 y.0 x.0 (turned y.0 e.0 Greater gt) (turned x.0 y.0 Greater p)), gt)
    ] refl gt

stays : (h : Head) (e : Entry) → order_of (entry_in h) (Some e) ≡ Greater → h ≡ head_after e.0 h
stays (Some (Some y)) e gt = sym (ap (λ (o : Ordering). if is_eq o then None else Some (Some y)) gt)
stays _ e gt = refl

all_stay : (hs : List Head) (e : Entry) → order_of (least_of hs) (Some e) ≡ Greater → GoEach (Some e) hs hs
all_stay [] e gt = tt
all_stay (h ∷ hs) e gt = let both = above_both (entry_in h) (least_of hs) e gt in (stays h e both.0, all_stay hs e both.1)

greater : (o : Ordering) → is_gt o ≡ true → o ≡ Greater
greater Greater e = refl
greater _ e = cc

never : (a : Option Entry) → order_of a None ≡ Greater → ⊥
never None e = cc
never (Some x) e = cc

-- the last is taken
pub take_last : (hs : List Head) (h : Head) (o : Ordering) → o ≡ order_of (least_of hs) (entry_in h) → is_gt o ≡ true → Takes (hs ++ h ∷ []) (hs ++ let_go h ∷ []) (entry_in h)
take_last hs h o is gt = search (
  sym (least_more hs h ∙ lesser_is (least_of hs) (entry_in h) ∙ ap (λ (b : Bool). if b then entry_in h else least_of hs) (ap is_gt (sym is) ∙ gt)),
  go_more (entry_in h) hs hs h (let_go h) (others h (sym is ∙ greater o gt)) (taken h),
)
  where
    others : (h : Head) → order_of (least_of hs) (entry_in h) ≡ Greater → GoEach (entry_in h) hs hs
    others None gt = absurd (never (least_of hs) gt)
    others (Some None) gt = absurd (never (least_of hs) gt)
    others (Some (Some e)) gt = all_stay hs e gt

less_or_equal : (o : Ordering) (h : Head) (y e : Entry) → key_cmp e.0 y.0 ≡ o → is_gt o ≡ false → (if is_eq o then None else Some (Some y)) ≡ head_after e.0 (Some (Some y))
less_or_equal Less h y e is not_gt = sym (ap (λ (p : Ordering). if is_eq p then None else Some (Some y)) (turned e.0 y.0 Less is))
less_or_equal Equal h y e is not_gt = sym (ap (λ (p : Ordering). if is_eq p then None else Some (Some y)) (turned e.0 y.0 Equal is))
less_or_equal Greater h y e is not_gt = cc

passed : (a : Option Entry) (h : Head) (o : Ordering) → order_of a (entry_in h) ≡ o → is_gt o ≡ false → Goes a h (if is_eq o then None else h)
passed None (Some None) o is not_gt = subst (λ (p : Ordering). ◌≡◌ {A = Head} (if is_eq p then None else Some None) (Some None)) is refl
passed None (Some (Some y)) o is not_gt = let e : is_gt o ≡ true = ap is_gt (sym is) in cc
passed (Some e) (Some None) o is not_gt = subst (λ (p : Ordering). ◌≡◌ {A = Head} (if is_eq p then None else Some None) (Some None)) is refl
passed (Some e) (Some (Some y)) o is not_gt = less_or_equal o (Some (Some y)) y e is not_gt
passed _ _ o is not_gt = subst (λ (p : Ordering). ◌≡◌ {A = Head} (if is_eq p then None else None) None) is refl

-- one before the last is
pub take_before : (hs ks : List Head) (a : Option Entry) (h : Head) (o : Ordering) → o ≡ order_of (least_of hs) (entry_in h)
    → is_gt o ≡ false → Takes hs ks a → Takes (hs ++ h ∷ []) (ks ++ (if is_eq o then None else h) ∷ []) a
take_before hs ks a h o is not_gt t = search (t.least ∙ sym (least_more hs h ∙ lesser_is (least_of hs) (entry_in h) ∙ ap (λ (b : Bool). if b then entry_in h else least_of hs) (ap is_gt (sym is) ∙ not_gt)), go_more a hs ks h (if is_eq o then None else h) t.go (passed a h o (ap (λ (x : Option Entry). order_of x (entry_in h)) t.least ∙ sym is) not_gt))

-- ---- none is below the least

-- the entry is not below another
abbrev pub NotBelow : Key → Option Entry → Type 0
NotBelow key None = ⊤
NotBelow key (Some x) = key_cmp x.0 key ≡ Less → ⊥

abbrev pub NoneBelow : Key → List Head → Type 0
NoneBelow key [] = ⊤
NoneBelow key (h ∷ hs) = NotBelow key (entry_in h) × NoneBelow key hs

both_not_below : (key : Key) (a b : Option Entry) → NotBelow key (lesser a b) → NotBelow key a × NotBelow key b
both_not_below key None b n = (tt, n)
both_not_below key (Some x) None n = (n, tt)
both_not_below key (Some x) (Some y) n =
    elim (key_cmp x.0 y.0) as (λ o. key_cmp x.0 y.0 ≡ o → NotBelow key (if is_gt o then Some y else Some x) → (key_cmp x.0 key ≡ Less → ⊥) × (key_cmp y.0 key ≡ Less → ⊥)) [
      | Less ↦ λ p n. (n, λ low. n (key_total.trans x.0 y.0 key p low))
      | Equal ↦ λ p n. (n, λ low. n (subst (λ (k : Key). key_cmp k key ≡ Less) (sym (key_antisymm x.0 y.0 p)) low))
      | Greater ↦ λ p n. (λ low. n (key_total.trans y.0 x.0 key (turned x.0 y.0 Greater p) low), n)
    ] refl n

none_below_all : (key : Key) (hs : List Head) → NotBelow key (least_of hs) → NoneBelow key hs
none_below_all key [] n = tt
none_below_all key (h ∷ hs) n = let both = both_not_below key (entry_in h) (least_of hs) n in (both.0, none_below_all key hs both.1)

pub none_below : (hs : List Head) (e : Entry) → Some e ≡ least_of hs → NoneBelow e.0 hs
none_below hs e is = none_below_all e.0 hs (subst (NotBelow e.0) is (λ low. equal_less (key_cmp e.0 e.0) (tied_itself key_total e.0) low))
  where
    equal_less : (o : Ordering) → o ≡ Equal → o ≡ Less → ⊥
    equal_less o p q = cc
