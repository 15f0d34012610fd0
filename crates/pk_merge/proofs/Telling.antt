-- What a merge does next, and the entry that it takes.
use Rattle.std.proofs.Common.{◌≡◌, ◌≢◌, ◌⊎◌, inl, inr, ℕ, suc, ◌+◌, ◌<◌, ◌≤◌, refl, sym, ap, subst, ◌∙◌, arith, Bool, true, false, not, ◌&&◌, ◌||◌, ◌==◌, T, List, [], ◌∷◌, ◌++◌, length, drop}
use Rattle.std.proofs.Common.{slice_get, Some, append_assoc, length-append, le_refl}
use Rattle.std.specs.declared.cmp.Ordering.TheVariants.{Less, Equal, Greater}
use Rattle.std.proofs.lemmas.Bool.{ltb-true, ltb-false, lt-ltb, eqb-false, ne_eqb}
use Rattle.std.{proofs.lemmas.List.drop_all, specs.FinMap.Entries.is_sorted}
use Rattle.pk_base.{specs.Key.key_cmp, specs.Shape.IsShape, specs.Shape.page_entries, specs.Entry.Entry, specs.Entry.key_of, specs.Page.Flash}
use Rattle.pk_meta.specs.Over.{over, kept_at}
use Rattle.pk_pin.specs.Frames.{Frames}
use Rattle.pk_run.{specs.Kept.Kept, specs.Kept.RunOnFlash, proofs.Orders.drop_is, proofs.Orders.sorted_drop}
use Rattle.pk_merge.{specs.declared.source.Source.Source, specs.declared.source.Source.TheVariants.Frozen, specs.declared.source.Source.TheVariants.Run, proofs.Following.Follows-passed}
use Rattle.pk_merge.specs.Cursors.{Cursor, Follows, passed, wants_page}
use Rattle.pk_merge.specs.Sources.{count_of, Has, FollowsIn, wants_page_in}
use Rattle.pk_merge.specs.Merging.{Merger, left, left_of, can_gather, is_left_of_source, is_left_of_target, takes_source, takes_target, takes_both, taken, StandsIn, GoesOn, IsAtEnd}
use Rattle.pk_merge.proofs.Overs.{over_less, over_equal, over_greater, over_source, over_target, kept_front}

-- ---- whether an entry can be taken

abbrev can : Bool → Bool → Bool → Bool → Bool → Bool
can f a b u v = not f && (a || b) && not (a && u) && not (b && v)

record Can (f a b u v : Bool) : Type 0 where
  pub room : f ≡ false
  pub some : (a ≡ true) ⊎ (b ≡ true)
  pub first : a ≡ true → u ≡ false
  pub second : b ≡ true → v ≡ false

tells : (f a b u v : Bool) → can f a b u v ≡ true → Can f a b u v
tells false true true false false e = record { room = refl; some = inl refl; first = λ p. refl; second = λ p. refl }
tells false true false false v e = record { room = refl; some = inl refl; first = λ p. refl; second = λ p. cc }
tells false false true u false e = record { room = refl; some = inr refl; first = λ p. cc; second = λ p. refl }
tells f a b u v e = cc

-- no entry can be taken, though there is room and one remains: a page is needed
wants : (f a b u v : Bool) → can f a b u v ≡ false → f ≡ false → (a ≡ true → u ≡ false) → ((a ≡ false) → (b ≡ false) → ⊥) → (b ≡ true) × (v ≡ true)
wants false true b true v e room first some = let no = first refl in cc
wants false true true false true e room first some = (refl, refl)
wants false false true u true e room first some = (refl, refl)
wants false false false u v e room first some = absurd (some refl refl)
wants f a b u v e room first some = cc

module _ {X : Type 0} (source : Source X) (target : Kept) (m : Merger) where
  pub record Gathers : Type 0 where
    pub room : length m.gathered ≢ page_entries m.shape
    pub source_left : target.count ≤ m.target.place → m.source.place < count_of source
    pub target_left : count_of source ≤ m.source.place → m.target.place < target.count
    pub source_here : m.source.place < count_of source → wants_page_in source m.source ≡ false
    pub target_here : m.target.place < target.count → wants_page m.target ≡ false

  pub gathers : can_gather source target m ≡ true → Gathers
  unfolding can_gather
  gathers e =
      let t = tells (length m.gathered == page_entries m.shape) (is_left_of_source source target m) (is_left_of_target source target m) (wants_page_in source m.source) (wants_page m.target) e in
      record {
        room = eqb-false _ _ t.room;
        source_left = λ past. elim t.some [ inl a ↦ ltb-true _ _ a | inr b ↦ absurd (let lt = ltb-true _ _ b in omega (arith, lt, past)) ];
        target_left = λ past. elim t.some [ inl a ↦ absurd (let lt = ltb-true _ _ a in omega (arith, lt, past)) | inr b ↦ ltb-true _ _ b ];
        source_here = λ h. t.first (lt-ltb _ _ h);
        target_here = λ h. t.second (lt-ltb _ _ h);
      }

  pub wants_target : can_gather source target m ≡ false → length m.gathered ≢ page_entries m.shape
      → (m.source.place < count_of source → wants_page_in source m.source ≡ false) → (IsAtEnd source target m → ⊥)
      → (m.target.place < target.count) × (wants_page m.target ≡ true)
  unfolding can_gather
  wants_target e room first some =
      let w = wants (length m.gathered == page_entries m.shape) (is_left_of_source source target m)
      (is_left_of_target source target m) (wants_page_in source m.source) (wants_page m.target) e (ne_eqb _ _ room)
      (λ a. first (ltb-true _ _ a)) (λ a b. some (ltb-false _ _ a, ltb-false _ _ b)) in
      (ltb-true _ _ w.0, w.1)

-- ---- what remains after an entry

at : (es : List Entry) (i : ℕ) (e : Entry) → T (is_sorted key_cmp es) → slice_get es i ≡ Some e → T (is_sorted key_cmp (e ∷ drop (suc i) es))
at es i e up got = subst (λ (xs : List Entry). T (is_sorted key_cmp xs)) (drop_is es i e got) (sorted_drop es i up)

regroup : (level : ℕ) (g : List Entry) (e : Entry) (rest whole : List Entry) → whole ≡ e ∷ rest → g ++ kept_at level whole ≡ (g ++ kept_at level (e ∷ [])) ++ kept_at level rest
regroup level g e rest whole is = ap (λ (xs : List Entry). g ++ kept_at level xs) is
    ∙ ap (λ (xs : List Entry). g ++ xs) (kept_front level e rest) ∙ sym (append_assoc g (kept_at level (e ∷ [])) (kept_at level rest))

module _ (level : ℕ) (es fs : List Entry) (i j : ℕ) (g : List Entry) (up : T (is_sorted key_cmp es)) (vp : T (is_sorted key_cmp fs)) where
  pub left_source : (e : Entry) → slice_get es i ≡ Some e → length fs ≤ j → g ++ left_of level es fs i j ≡ (g ++ kept_at level (e ∷ [])) ++ left_of level es fs (suc i) j
  left_source e got past = regroup level g e _ _ (
      ap (λ (xs : List Entry). over xs (drop j fs)) (drop_is es i e got) ∙ ap (over (e ∷ drop (suc i) es)) (drop_all j fs past) ∙ over_source e (drop (suc i) es) (at es i e up got)
      ∙ ap (λ (xs : List Entry). e ∷ over (drop (suc i) es) xs) (sym (drop_all j fs past)))

  pub left_target : (f : Entry) → slice_get fs j ≡ Some f → length es ≤ i → g ++ left_of level es fs i j ≡ (g ++ kept_at level (f ∷ [])) ++ left_of level es fs i (suc j)
  left_target f got past = regroup level g f _ _ (
      ap (over (drop i es)) (drop_is fs j f got) ∙ ap (λ (xs : List Entry). over xs (f ∷ drop (suc j) fs)) (drop_all i es past) ∙ over_target f (drop (suc j) fs) (at fs j f vp got)
      ∙ ap (λ (xs : List Entry). f ∷ over xs (drop (suc j) fs)) (sym (drop_all i es past)))

  module _ (e f : Entry) (got : slice_get es i ≡ Some e) (had : slice_get fs j ≡ Some f) where
    both_are : over (drop i es) (drop j fs) ≡ over (e ∷ drop (suc i) es) (f ∷ drop (suc j) fs)
    both_are = λ k. over (drop_is es i e got k) (drop_is fs j f had k)

    pub left_less : key_cmp e.0 f.0 ≡ Less → g ++ left_of level es fs i j ≡ (g ++ kept_at level (e ∷ [])) ++ left_of level es fs (suc i) j
    left_less low = regroup level g e _ _ (both_are ∙ over_less e f (drop (suc i) es) (drop (suc j) fs) (at es i e up got) (at fs j f vp had) low
        ∙ ap (λ (xs : List Entry). e ∷ over (drop (suc i) es) xs) (sym (drop_is fs j f had)))

    pub left_equal : key_cmp e.0 f.0 ≡ Equal → g ++ left_of level es fs i j ≡ (g ++ kept_at level (e ∷ [])) ++ left_of level es fs (suc i) (suc j)
    left_equal same = regroup level g e _ _ (both_are ∙ over_equal e f (drop (suc i) es) (drop (suc j) fs) (at es i e up got) (at fs j f vp had) same)

    pub left_greater : key_cmp e.0 f.0 ≡ Greater → g ++ left_of level es fs i j ≡ (g ++ kept_at level (f ∷ [])) ++ left_of level es fs i (suc j)
    left_greater above = regroup level g f _ _
        (both_are ∙ over_greater e f (drop (suc i) es) (drop (suc j) fs) (at es i e up got) (at fs j f vp had) above
        ∙ ap (λ (xs : List Entry). f ∷ over xs (drop (suc j) fs)) (sym (drop_is es i e got)))

-- ---- a merge goes on

-- how many entries the source has
pub many_in : {X : Type 0} (source : Source X) (flash : Flash) (arena : Frames) (es : List Entry) → Has source flash arena es → length es ≡ count_of source
many_in (Frozen b) flash arena es has = ap length has
many_in (Run r) flash arena es has = has.many

pub passes_in : {X : Type 0} (source : Source X) (flash : Flash) (c : Cursor) → IsShape c.shape → FollowsIn source flash c → c.place < count_of source → FollowsIn source flash (passed c)
passes_in (Frozen b) flash c is f h = (omega (arith, h), f.1)
passes_in (Run r) flash c is f h = Follows-passed flash r.now c (subst IsShape f.same_shape is) f h

module _ {X : Type 0} (source : Source X) (target : Kept) (level : ℕ) (m : Merger) (is : IsShape m.source.shape) (js : IsShape m.target.shape) where
  abbrev Head : Cursor → ((Flash → Frames → List Entry → Type 0)) → (Flash → Type 0) → Entry → Type 0
  Head c Has Follows e = (flash : Flash) (arena : Frames) (es : List Entry) → Has flash arena es → Follows flash → slice_get es c.place ≡ Some e

  abbrev SourceHead : Entry → Type 0
  SourceHead = Head m.source (Has source) (λ flash. FollowsIn source flash m.source)

  abbrev TargetHead : Entry → Type 0
  TargetHead = Head m.target (RunOnFlash target) (λ flash. Follows flash target m.target)

  -- with the entries that were taken the same remains
  abbrev Same : Merger → Type 0
  Same m' = (flash : Flash) (arena : Frames) (es fs : List Entry) → StandsIn source target flash arena es fs m → m.gathered ++ left level es fs m ≡ m'.gathered ++ left level es fs m'

  passes_on : (flash : Flash) → m.target.place < target.count → Follows flash target m.target → Follows flash target (passed m.target)
  passes_on flash within f = Follows-passed flash target m.target (subst IsShape f.same_shape js) f within

  -- it goes on with other cursors, after an entry that was taken
  goes : (c d : Cursor) (e : Entry) → ((flash : Flash) → FollowsIn source flash m.source → FollowsIn source flash c) → ((flash : Flash) → Follows flash target m.target → Follows flash target d)
      → c.loaded ≡ m.source.loaded → d.loaded ≡ m.target.loaded → Same (record m { source = c; target = d; gathered = m.gathered ++ kept_at level (e ∷ []) })
      → GoesOn source target level m (record m { source = c; target = d; gathered = m.gathered ++ kept_at level (e ∷ []) })
  goes c d e source_at target_at sources targets same = record {
    stands = λ flash arena es fs s. record { has = s.has; stands = s.stands; rising = s.rising; source_at = source_at flash s.source_at; target_at = target_at flash s.target_at };
    same = same;
    shape = refl;
    source_pages = sources;
    target_pages = targets;
    no_fewer = omega (arith, length-append m.gathered (kept_at level (e ∷ [])));
  }

  goes_by_source : (e : Entry) → m.source.place < count_of source → Same (takes_source level e m) → GoesOn source target level m (takes_source level e m)
  goes_by_source e inside same = goes (passed m.source) m.target e (λ flash f. passes_in source flash m.source is f inside) (λ flash f. f) refl refl same

  goes_by_target : (f : Entry) → m.target.place < target.count → Same (takes_target level f m) → GoesOn source target level m (takes_target level f m)
  goes_by_target f within same = goes m.source (passed m.target) f (λ flash g. g) (λ flash g. passes_on flash within g) refl refl same

  pub goes_source : (e : Entry) → SourceHead e → m.source.place < count_of source → target.count ≤ m.target.place → GoesOn source target level m (takes_source level e m)
  goes_source e head inside past = goes_by_source e inside (λ flash arena es fs s. left_source level es fs m.source.place m.target.place m.gathered s.rising s.stands.rising e
      (head flash arena es s.has s.source_at) (let many = s.stands.many in omega (arith, past, many)))

  pub goes_target : (f : Entry) → TargetHead f → m.target.place < target.count → count_of source ≤ m.source.place → GoesOn source target level m (takes_target level f m)
  goes_target f head within past = goes_by_target f within (λ flash arena es fs s. left_target level es fs m.source.place m.target.place m.gathered s.rising s.stands.rising f
      (head flash arena fs s.stands s.target_at) (let many = many_in source flash arena es s.has in omega (arith, past, many)))

  module _ (e f : Entry) (head : SourceHead e) (tail : TargetHead f) (inside : m.source.place < count_of source) (within : m.target.place < target.count) where
    pub goes_less : key_cmp (key_of e) (key_of f) ≡ Less → GoesOn source target level m (takes_source level e m)
    goes_less low = goes_by_source e inside (λ flash arena es fs s. left_less level es fs m.source.place m.target.place m.gathered s.rising s.stands.rising e f
        (head flash arena es s.has s.source_at) (tail flash arena fs s.stands s.target_at) low)

    pub goes_greater : key_cmp (key_of e) (key_of f) ≡ Greater → GoesOn source target level m (takes_target level f m)
    goes_greater above = goes_by_target f within (λ flash arena es fs s. left_greater level es fs m.source.place m.target.place m.gathered s.rising s.stands.rising e f
        (head flash arena es s.has s.source_at) (tail flash arena fs s.stands s.target_at) above)

    pub goes_equal : key_cmp (key_of e) (key_of f) ≡ Equal → GoesOn source target level m (takes_both level e m)
    goes_equal same = goes (passed m.source) (passed m.target) e (λ flash g. passes_in source flash m.source is g inside) (λ flash g. passes_on flash within g) refl refl
        (λ flash arena es fs s. left_equal level es fs m.source.place m.target.place m.gathered s.rising s.stands.rising e f
        (head flash arena es s.has s.source_at) (tail flash arena fs s.stands s.target_at) same)

module _ {X : Type 0} (source : Source X) (target : Kept) (level : ℕ) where
  pub goes_nowhere : (m : Merger) → GoesOn source target level m m
  goes_nowhere m = record { stands = λ flash arena es fs s. s; same = λ flash arena es fs s. refl; shape = refl; source_pages = refl; target_pages = refl; no_fewer = le_refl (length m.gathered) }

  pub goes_further : (a b c : Merger) → GoesOn source target level a b → GoesOn source target level b c → GoesOn source target level a c
  goes_further a b c p q = record {
    stands = λ flash arena es fs s. q.stands flash arena es fs (p.stands flash arena es fs s);
    same = λ flash arena es fs s. p.same flash arena es fs s ∙ q.same flash arena es fs (p.stands flash arena es fs s);
    shape = q.shape ∙ p.shape;
    source_pages = q.source_pages ∙ p.source_pages;
    target_pages = q.target_pages ∙ p.target_pages;
    no_fewer = let first = p.no_fewer in let second = q.no_fewer in omega (arith, first, second);
  }

-- no more entries are taken than there are
pub taken_within : {X : Type 0} (source : Source X) (target : Kept) (flash : Flash) (arena : Frames) (es fs : List Entry) (m : Merger)
    → StandsIn source target flash arena es fs m → taken m ≤ count_of source + target.count
taken_within source target flash arena es fs m s = let f = s.target_at.within in let e = source_within source flash m.source s.source_at in omega (arith, e, f)
  where
    source_within : {X : Type 0} (source : Source X) (flash : Flash) (c : Cursor) → FollowsIn source flash c → c.place ≤ count_of source
    source_within (Frozen b) flash c f = f.0
    source_within (Run r) flash c f = f.within
