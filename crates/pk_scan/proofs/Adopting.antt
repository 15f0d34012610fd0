-- Blocks that become an owner's one after another.
use Rattle.std.proofs.Common.{◌≡◌, inl, inr, ℕ, ◌+◌, ◌<◌, ◌≤◌, Bool, true, false, not, ◌||◌, ◌==◌, cond, List, [], ◌∷◌, ◌++◌, length, take, drop, refl, sym, ap, subst, ◌∙◌, arith, Option, Some, None}
use Rattle.std.proofs.Common.{option_map, length-append, append-nil}
use Rattle.std.proofs.lemmas.Bool.{and_parts, and_from, or_parts, or_from, not-true, not_from_false}
use Rattle.std.{proofs.lemmas.List.drop_more, proofs.lemmas.List.Folds.concat-append, proofs.lemmas.Option.slice_get_within, proofs.lemmas.Option.get_or_from_slice_get}
use Rattle.std.{specs.Prelude.slice_get, specs.List.list_any, specs.List.concat, specs.List.AllByRecursion, proofs.Math.ListN.set, proofs.lemmas.Bool.false≢true, proofs.lemmas.Bool.Decides.eqb_tells}
use Rattle.std.{proofs.lemmas.List.Folds.list_any-append, proofs.lemmas.List.take_all}
use Rattle.pk_base.specs.Page.{Flash}
use Rattle.pk_plan.{specs.declared.owner.Owner.Owner, specs.Quotas.quota_of, specs.declared.owner.Owner.TheVariants.Meta}
use Rattle.pk_pool.{specs.declared.state.BlockState.BlockState, proofs.States.get-set_other, proofs.States.set_is, proofs.Sharing.count-set}
use Rattle.pk_pool.specs.declared.state.BlockState.TheVariants.{Free, Ready, Owned}
use Rattle.pk_pool.specs.Blocks.{Blocks, used_by, same_owner, is_owned_by, with_state, IsSpare, PoolOnFlash}
use Rattle.pk_rootfmt.specs.Root.{differ}
use Rattle.pk_scan.{specs.Adopts.is_among, specs.Adopts.owned_if, specs.Adopts.Adopts, specs.Adopts.MayAdopt, proofs.Loading.take_more}

-- ---- tests

all_of : {P : ℕ → Type 0} (each : (b : ℕ) → P b) (bs : List ℕ) → AllByRecursion P bs
all_of each [] = tt
all_of each (b ∷ bs) = (each b, all_of each bs)

none_is : (x : ℕ) (bs : List ℕ) → list_any (λ c. x == c) bs ≡ false → AllByRecursion (λ b. (x == b) ≡ false) bs
none_is x [] e = tt
none_is x (b ∷ bs) e = let parts = or_parts (x == b) (list_any (λ c. x == c) bs) e in (parts.0, none_is x bs parts.1)

pub all_back : (P : ℕ → Type 0) (xs ys : List ℕ) → AllByRecursion P (xs ++ ys) → AllByRecursion P ys
all_back P [] ys all = all
all_back P (z ∷ xs) ys all = all_back P xs ys all.1

both_none : (x : ℕ) (xs ys : List ℕ) → AllByRecursion (λ b. (x == b) ≡ false) ys → AllByRecursion (λ b. is_among xs b ≡ false) ys → AllByRecursion (λ b. is_among (x ∷ xs) b ≡ false) ys
both_none x xs [] p q = tt
both_none x xs (y ∷ ys) p q = (or_from (x == y) (is_among xs y) p.0 q.0, both_none x xs ys p.1 q.1)

-- if all differ, none of the later ones is among the earlier ones
pub apart : (xs ys : List ℕ) → differ (xs ++ ys) ≡ true → AllByRecursion (λ b. is_among xs b ≡ false) ys
apart [] ys e = all_of (λ b. refl) ys
apart (x ∷ xs) ys e =
    both_none x xs ys (all_back (λ b. (x == b) ≡ false) xs ys (none_is x (xs ++ ys) (not-true _ (and_parts _ _ e).0))) (apart xs ys (and_parts _ _ e).1)

pub differ_back : (xs ys : List ℕ) → differ (xs ++ ys) ≡ true → differ ys ≡ true
differ_back [] ys e = e
differ_back (x ∷ xs) ys e = differ_back xs ys (and_parts _ _ e).1

pub differ_front : (xs ys : List ℕ) → differ (xs ++ ys) ≡ true → differ xs ≡ true
differ_front [] ys e = refl
differ_front (x ∷ xs) ys e =
    let parts = and_parts _ _ e in
    let fresh = not-true _ (ap not (sym (list_any-append (λ c. x == c) xs ys)) ∙ parts.0) in
    and_from _ _ (not_from_false _ (or_parts (list_any (λ c. x == c) xs) (list_any (λ c. x == c) ys) fresh).0) (differ_front xs ys parts.1)

-- ---- adopting

left_alone : (o : Owner) (x : Bool) (s : Option BlockState) → x ≡ false → option_map (owned_if o x) s ≡ s
left_alone o true s e = absurd (false≢true (sym e))
left_alone o false None e = refl
left_alone o false (Some s) e = refl

-- a spare block that is not adopted is spare
pub still_spare : {o : Owner} {test : ℕ → Bool} {n : ℕ} {p q : Blocks} → Adopts o test n p q → (bs : List ℕ)
    → AllByRecursion (λ b. test b ≡ false) bs → AllByRecursion (IsSpare p) bs → AllByRecursion (IsSpare q) bs
still_spare {o} {test} {n} {p} {q} a [] none spare = tt
still_spare {o} {test} {n} {p} {q} a (b ∷ bs) none spare = (here (a.states b ∙ left_alone o (test b) (slice_get p.states b) none.0) spare.0, still_spare a bs none.1 spare.1)
  where
    here : slice_get q.states b ≡ slice_get p.states b → IsSpare p b → IsSpare q b
    here e (inl free) = inl (e ∙ free)
    here e (inr ready) = inr (e ∙ ready)

pub adopts_none : (o : Owner) (p : Blocks) → Adopts o (λ b. false) 0 p p
adopts_none o p = record {
  shape = refl;
  states = λ b. sym (left_alone o false (slice_get p.states b) refl);
  counted = omega arith;
  others = λ o' ne. refl;
  fits = λ flash fits. fits;
}

twice : (o : Owner) (x y : Bool) (s : Option BlockState) → option_map (owned_if o y) (option_map (owned_if o x) s) ≡ option_map (owned_if o (x || y)) s
twice o x y None = refl
twice o true true (Some s) = refl
twice o false true (Some s) = refl
twice o _ _ (Some s) = refl

pub adopts_both : {o : Owner} {test test' : ℕ → Bool} {n m : ℕ} {p q r : Blocks} → Adopts o test n p q → Adopts o test' m q r → Adopts o (λ b. test b || test' b) (n + m) p r
adopts_both {o} {test} {test'} {n} {m} {p} {q} {r} a c = record {
  shape = c.shape ∙ a.shape;
  states = λ b. c.states b ∙ ap (option_map (owned_if o (test' b))) (a.states b) ∙ twice o (test b) (test' b) (slice_get p.states b);
  counted = omega (arith, a.counted, c.counted);
  others = λ o' ne. c.others o' ne ∙ a.others o' ne;
  fits = λ flash fits. c.fits flash (a.fits flash fits);
}

pub adopts_same : {o : Owner} {test test' : ℕ → Bool} {n m : ℕ} {p q : Blocks} → ((b : ℕ) → test b ≡ test' b) → n ≡ m → Adopts o test n p q → Adopts o test' m p q
adopts_same {o} {test} {test'} {n} {m} {p} {q} same e a = record {
  shape = a.shape;
  states = λ b. a.states b ∙ ap (λ x. option_map (owned_if o x) (slice_get p.states b)) (same b);
  counted = omega (arith, a.counted, e);
  others = a.others;
  fits = a.fits;
}

-- one block
unowned : (o : Owner) (p : Blocks) (b : ℕ) → IsSpare p b → (s : BlockState) × (slice_get p.states b ≡ Some s) × (cond {A = ℕ} (is_owned_by o s) 1 0 ≡ 0)
unowned o p b (inl free) = (Free, free, refl)
unowned o p b (inr ready) = (Ready, ready, refl)

pub adopts_one : (o : Owner) (p q : Blocks) (b : ℕ) → IsSpare p b → q ≡ with_state p b (Owned o)
    → used_by o q.states ≡ used_by o p.states + 1 → ((flash : Flash) → PoolOnFlash p flash → PoolOnFlash q flash)
    → Adopts o (λ c. b == c) 1 p q
adopts_one o p q b spare is counted fits =
    let states : q.states ≡ set p.states b (Owned o) = ap (λ (x : Blocks). x.states) is in
    record {
      shape = ap (λ (x : Blocks). x.shape) is;
      states = λ c. ap (λ (ss : List BlockState). slice_get ss c) states ∙ at c;
      counted = counted;
      others = λ o' ne.
          let was = unowned o' p b spare in
          let now : cond {A = ℕ} (same_owner o' o) 1 0 ≡ 0 = rw ne refl in
          let change = count-set (is_owned_by o') p.states b was.0 (Owned o) was.1 in
          let none = was.2 in
          ap (λ (ss : List BlockState). used_by o' ss) states ∙ omega (arith, change, now, none);
      fits = fits;
    }
  where
    at : (c : ℕ) → slice_get (set p.states b (Owned o)) c ≡ option_map (owned_if o (b == c)) (slice_get p.states c)
    at c = elim (eqb_tells b c) [
      | inl same ↦
          let was = unowned o p b spare in
          let new : slice_get (set p.states b (Owned o)) c ≡ Some (Owned o) = subst
          (λ (k : ℕ). slice_get (set p.states b (Owned o)) k ≡ Some (Owned o)) same.1 (set_is p.states b was.0 (Owned o) was.1) in
          let old : slice_get p.states c ≡ Some was.0 = subst (λ (k : ℕ). slice_get p.states k ≡ Some was.0) same.1 was.1 in
          new ∙ sym (ap (λ s. option_map (owned_if o (b == c)) s) old ∙ ap (λ x. Some (owned_if o x was.0)) same.0)
      | inr other ↦
          get-set_other p.states b c (Owned o) (λ e. other.1 (sym e)) ∙ sym (left_alone o (b == c) (slice_get p.states c) other.0)
    ]

-- ---- lists of blocks

pub spare_front : (p : Blocks) (xs ys : List ℕ) → AllByRecursion (IsSpare p) (xs ++ ys) → AllByRecursion (IsSpare p) xs
spare_front p [] ys all = tt
spare_front p (x ∷ xs) ys all = (all.0, spare_front p xs ys all.1)

pub may_front : {o : Owner} {p : Blocks} (xs ys : List ℕ) → MayAdopt o (xs ++ ys) p → MayAdopt o xs p
may_front {o} {p} xs ys m = record {
  spare = spare_front p xs ys m.spare;
  differ = differ_front xs ys m.differ;
  room = let e = length-append xs ys in omega (arith, m.room, e);
}

pub may_back : {o : Owner} {p q : Blocks} (xs ys : List ℕ) → MayAdopt o (xs ++ ys) p → Adopts o (is_among xs) (length xs) p q → MayAdopt o ys q
may_back {o} {p} {q} xs ys m a = record {
  spare = still_spare a ys (apart xs ys m.differ) (all_back (IsSpare p) xs ys m.spare);
  differ = differ_back xs ys m.differ;
  room = let e = length-append xs ys in let quota = ap (λ s. quota_of s o) a.shape in omega (arith, m.room, e, a.counted, quota);
}

pub adopts_lists : {o : Owner} {p q r : Blocks} (xs ys : List ℕ) → Adopts o (is_among xs) (length xs) p q
    → Adopts o (is_among ys) (length ys) q r → Adopts o (is_among (xs ++ ys)) (length (xs ++ ys)) p r
adopts_lists xs ys a c = adopts_same (λ b. sym (list_any-append (λ x. x == b) xs ys)) (sym (length-append xs ys)) (adopts_both a c)

pub adopts_block : (o : Owner) (p q : Blocks) (b : ℕ) → IsSpare p b → q ≡ with_state p b (Owned o)
    → used_by o q.states ≡ used_by o p.states + 1 → ((flash : Flash) → PoolOnFlash p flash → PoolOnFlash q flash)
    → Adopts o (is_among (b ∷ [])) (length (b ∷ [])) p q
adopts_block o p q b spare is counted fits = adopts_same (λ c. sym (or_false (b == c))) refl (adopts_one o p q b spare is counted fits)
  where
    or_false : (x : Bool) → (x || false) ≡ x
    or_false true = refl
    or_false false = refl

-- the first of those that remain
pub drop_next : {X : Type 0} (xs : List X) (i : ℕ) (x : X) → slice_get xs i ≡ Some x → drop i xs ≡ x ∷ drop (i + 1) xs
drop_next xs i x got = drop_more xs i x (slice_get_within xs i x got) ∙ ap (λ y. y ∷ drop (i + 1) xs) (get_or_from_slice_get xs i x x got)

-- this many of these blocks were adopted, and the others may be
pub record Adopting (o : Owner) (blocks : List ℕ) (old now : Blocks) (i : ℕ) : Type 0 where
  pub done : Adopts o (is_among (take i blocks)) (length (take i blocks)) old now
  pub left : MayAdopt o (drop i blocks) now

pub Adopting-start : (o : Owner) (blocks : List ℕ) (p : Blocks) → MayAdopt o blocks p → Adopting o blocks p p 0
Adopting-start o blocks p may = record { done = adopts_none o p; left = may }

module _ (o : Owner) (blocks : List ℕ) (old now : Blocks) (i : ℕ) (a : Adopting o blocks old now i) where
  -- the next block is spare, and the owner has room
  pub next_spare : (b : ℕ) → slice_get blocks i ≡ Some b → IsSpare now b × (used_by o now.states < quota_of now.shape o)
  next_spare b got =
      let may = subst (λ (bs : List ℕ). MayAdopt o bs now) (drop_next blocks i b got) a.left in
      (may.spare.0, let room = may.room in omega (arith, room))

  pub Adopting-next : (b : ℕ) (new : Blocks) → slice_get blocks i ≡ Some b → new ≡ with_state now b (Owned o)
      → used_by o new.states ≡ used_by o now.states + 1 → ((flash : Flash) → PoolOnFlash now flash → PoolOnFlash new flash)
      → Adopting o blocks old new (i + 1)
  Adopting-next b new got is counted fits =
      let may = subst (λ (bs : List ℕ). MayAdopt o bs now) (drop_next blocks i b got) a.left in
      let one = adopts_block o now new b may.spare.0 is counted fits in
      record {
        done = subst (λ (bs : List ℕ). Adopts o (is_among bs) (length bs) old new) (sym (take_more blocks i b got)) (adopts_lists (take i blocks) (b ∷ []) a.done one);
        left = may_back (b ∷ []) (drop (i + 1) blocks) may one;
      }

  pub Adopting-end : length blocks ≤ i → Adopts o (is_among blocks) (length blocks) old now
  Adopting-end all = subst (λ (bs : List ℕ). Adopts o (is_among bs) (length bs) old now) (take_all i blocks all) a.done

-- ---- lists of lists

-- the blocks of this many runs were adopted, and the others may be
pub record RunsAdopting (runs : List (List ℕ)) (old now : Blocks) (i : ℕ) : Type 0 where
  pub done : Adopts Meta (is_among (concat (take i runs))) (length (concat (take i runs))) old now
  pub left : MayAdopt Meta (concat (drop i runs)) now

pub RunsAdopting-start : (runs : List (List ℕ)) (p : Blocks) → MayAdopt Meta (concat runs) p → RunsAdopting runs p p 0
RunsAdopting-start runs p may = record { done = adopts_none Meta p; left = may }

module _ (runs : List (List ℕ)) (old now : Blocks) (i : ℕ) (a : RunsAdopting runs old now i) where
  next_may : (run : List ℕ) → slice_get runs i ≡ Some run → MayAdopt Meta (run ++ concat (drop (i + 1) runs)) now
  next_may run got = subst (λ (rs : List (List ℕ)). MayAdopt Meta (concat rs) now) (drop_next runs i run got) a.left

  pub may_next : (run : List ℕ) → slice_get runs i ≡ Some run → MayAdopt Meta run now
  may_next run got = may_front run (concat (drop (i + 1) runs)) (next_may run got)

  pub RunsAdopting-next : (run : List ℕ) (new : Blocks) → slice_get runs i ≡ Some run → Adopts Meta (is_among run) (length run) now new → RunsAdopting runs old new (i + 1)
  RunsAdopting-next run new got one =
      let lists : concat (take i runs) ++ run ≡ concat (take (i + 1) runs) =
      ap (λ (bs : List ℕ). concat (take i runs) ++ bs) (sym (append-nil run)) ∙ sym (concat-append (take i runs) (run ∷ [])) ∙ ap concat (sym (take_more runs i run got)) in
      record {
        done = subst (λ (bs : List ℕ). Adopts Meta (is_among bs) (length bs) old new) lists (adopts_lists (concat (take i runs)) run a.done one);
        left = may_back run (concat (drop (i + 1) runs)) (next_may run got) one;
      }

  pub RunsAdopting-end : length runs ≤ i → Adopts Meta (is_among (concat runs)) (length (concat runs)) old now
  RunsAdopting-end all = subst (λ (rs : List (List ℕ)). Adopts Meta (is_among (concat rs)) (length (concat rs)) old now) (take_all i runs all) a.done
