-- The moves that remain can be made, and leave no head in the victim.
use Rattle.std.proofs.Common.{◌≡◌, ◌≢◌, ◌⊎◌, inl, inr, ℕ, zero, suc, ◌+◌, ◌*◌, ◌/◌, ◌%◌, ◌<◌, ◌≤◌, refl, sym, ap, subst, ◌∙◌, arith, Bool, true, false, cond, T, List, [], ◌∷◌, length, take, drop, sum}
use Rattle.std.proofs.Common.{get_or, count_by, ◌==◌, Option, Some, None}
use Rattle.std.specs.Prelude.{slice_get, slice_set, slice_index, IsSome, is_some, is_none, nat_lt, unwrap_or}
use Rattle.std.{specs.List.AllByRecursion, specs.Ordering.eq_by_cmp, proofs.lemmas.List.Sums.sum_by-cons, proofs.Math.Nat.mul_comm, proofs.lemmas.List.get_or-drop}
use Rattle.std.specs.FinMap.Entries.{put, find, is_sorted, find-put, length-put, is_sorted-put}
use Rattle.std.proofs.lemmas.Bool.{cases_eq, cases_lt, eq-eqb, ne_eqb, ltb-true, ltb-false}
use Rattle.std.proofs.lemmas.Option.{same_Some, slice_get_within, slice_get-get_or, unwrap_or-slice_get}
use Rattle.pk_base.{specs.Key.Key, specs.Key.key_cmp, specs.Shape.Shape, specs.Shape.IsShape, specs.Shape.charge, specs.Page.Flash, specs.Entry.Entry, specs.Entry.Place, proofs.BlockLemmas.apart}
use Rattle.pk_segfmt.proofs.StoredLemmas.{charge_some}
use Rattle.pk_model.{specs.Laws.AnyByRecursion, specs.Laws.IsPageOf, proofs.MapLemmas.key_total}
use Rattle.pk_law_steps.specs.Under.{IsValuePage}
use Rattle.pk_pool.{proofs.States.get-set_other, proofs.Fitting.block_of}
use Rattle.pk_live.{specs.Lives.head_of, specs.Values.block_sum}
use Rattle.pk_law_moves.{specs.Moves.AreApart, specs.Moves.entries_of, proofs.Emptying.found_page}
use Rattle.pk_gc.{specs.declared.course.Course.Course, specs.declared.moves.Move.Move, specs.Running.AreInOrder, specs.Running.IsMove, specs.Running.IsRunning, specs.Stepping.Hands}
use Rattle.pk_gc.specs.State.{JobState, source, placed_at, new_place, moved_entry, is_left, left_of, is_new, heads_behind, entries_behind, heads_all, CanGo, CanGoAll}
use Rattle.pk_gc.{specs.Committing.entries_left, specs.Committing.HasRoom, specs.Ending.CanGive, specs.Ending.GivesUp, proofs.Copying.disjoint, proofs.Finishing.begins}
use Rattle.pk_plan.specs.declared.owner.Owner.TheVariants.{Values as for_values}

-- a head other than those of a move is unchanged
stays : (heads : List ℕ) (m : Move) (k : ℕ) → k ≢ m.from → k ≢ m.to → slice_get (heads_behind heads m) k ≡ slice_get heads k
stays heads m k not_from not_to =
    elim (is_left heads m) as (λ b. slice_get (cond b (slice_set (slice_set heads m.from 0) m.to m.count) heads) k ≡ slice_get heads k) [
      | true ↦ get-set_other (slice_set heads m.from 0) m.to k m.count not_to ∙ get-set_other heads m.from k 0 not_from
      | false ↦ refl
    ]

index_of : (xs ys : List ℕ) (k : ℕ) → slice_get xs k ≡ slice_get ys k → slice_index xs k ≡ slice_index ys k
index_of xs ys k same = sym (unwrap_or-slice_get xs k 0) ∙ ap (λ o. unwrap_or o 0) same ∙ unwrap_or-slice_get ys k 0

-- if no move remains, no head changes
pub none_changes : (heads : List ℕ) (ms : List Move) → entries_left heads ms ≡ [] → heads_all heads ms ≡ heads
none_changes heads [] none = refl
none_changes heads (m ∷ ms) none =
    elim (is_left heads m) as (λ b. is_left heads m ≡ b → entries_of (placed_at (cond b (m ∷ left_of heads ms) (left_of heads ms))) ≡ []
    → heads_all (cond b (slice_set (slice_set heads m.from 0) m.to m.count) heads) ms ≡ heads) [
      | true ↦ λ is n. cc
      | false ↦ λ is n. none_changes heads ms n
    ] refl none

-- ---- the victim is empty

sum_none : (n : ℕ) (xs : List ℕ) → ((i : ℕ) → i < n → get_or xs i 0 ≡ 0) → sum (take n xs) ≡ 0
sum_none zero xs none = refl
sum_none (suc n) [] none = refl
sum_none (suc n) (x ∷ xs) none =
    let all = sum_by-cons (λ y. y) x (take n xs) in
    let rest = sum_none n xs (λ i small. none (suc i) (omega (arith, small))) in
    let here : x ≡ 0 = none 0 (omega arith) in
    omega (arith, all, rest, here)

-- ---- heads of values

module _ (shape : Shape) (is_shape : IsShape shape) where
  first_page : (place : Place) → IsPageOf shape place.page place
  first_page place = (omega arith, omega (arith, charge_some shape is_shape place.len))

  same_first : (place : Place) (h : ℕ) → place.page ≡ h → IsPageOf shape h place
  same_first place h same = subst (λ k. IsPageOf shape k place) same (first_page place)

  head_none : (es : List (Key × Place)) (h : ℕ) → (IsValuePage shape es h → ⊥) → head_of shape es h ≡ 0
  head_none [] h none = refl
  head_none (e ∷ es) h none =
      let other : (e.1.page == h) ≡ false = ne_eqb e.1.page h (λ same. none (inl (same_first e.1 h same))) in
      let rest = head_none es h (λ i. none (inr i)) in
      rw other (omega (arith, rest))

  pub head_found : (key : Key) (place : Place) (es : List (Key × Place)) → AreApart shape es → find key_cmp key es ≡ Some place → head_of shape es place.page ≡ charge shape place.len
  head_found key place [] are_apart found = cc
  head_found key place (e ∷ es) are_apart found =
      elim (eq_by_cmp key_cmp key e.0) as (λ b. cond b (Some e.1) (find key_cmp key es) ≡ Some place → head_of shape (e ∷ es) place.page ≡ charge shape place.len) [
        | true ↦ λ f.
            let same : e.1 ≡ place = cc in
            let alone : head_of shape es e.1.page ≡ 0 = head_none es e.1.page (λ i. are_apart.0 e.1.page (first_page e.1) i) in
            let here : (e.1.page == e.1.page) ≡ true = eq-eqb e.1.page e.1.page refl in
            let own : cond (e.1.page == e.1.page) (charge shape e.1.len) 0 + head_of shape es e.1.page ≡ charge shape e.1.len = rw here (omega (arith, alone)) in
            subst (λ (p : Place). cond (e.1.page == p.page) (charge shape e.1.len) 0 + head_of shape es p.page ≡ charge shape p.len) same own
        | false ↦ λ f.
            let there = found_page shape key place es place.page f (first_page place) in
            let other : (e.1.page == place.page) ≡ false = ne_eqb e.1.page place.page (λ same. are_apart.0 place.page (same_first e.1 place.page same) there) in
            let rest = head_found key place es are_apart.1 f in
            rw other (omega (arith, rest))
      ] found

-- ---- the victim, after the moves

-- The moves of a reclaim that has copied its victim: their pages, within the two blocks.
pub record InBlocks (n victim output : ℕ) (m : Move) : Type 0 where
  pub some : 0 < m.count
  pub from_low : victim * n ≤ m.from
  pub from_high : m.from + m.count ≤ victim * n + n
  pub to_low : output * n ≤ m.to
  pub to_high : m.to + m.count ≤ output * n + n

set_zero : (xs : List ℕ) (i : ℕ) → slice_index (slice_set xs i 0) i ≡ 0
set_zero [] i = refl
set_zero (x ∷ xs) zero = refl
set_zero (x ∷ xs) (suc i) = set_zero xs i

-- after a move no head is where it came from
cleared : (heads : List ℕ) (m : Move) → m.from ≢ m.to → slice_index (heads_behind heads m) m.from ≡ 0
cleared heads m apart =
    elim (is_left heads m) as (λ b. is_left heads m ≡ b → slice_index (cond b (slice_set (slice_set heads m.from 0) m.to m.count) heads) m.from ≡ 0) [
      | true ↦ λ is. index_of (slice_set (slice_set heads m.from 0) m.to m.count) (slice_set heads m.from 0) m.from (get-set_other (slice_set heads m.from 0) m.to m.from m.count apart)
          ∙ set_zero heads m.from
      | false ↦ λ is. let few : slice_index heads m.from ≤ 0 = ltb-false 0 (slice_index heads m.from) is in omega (arith, few)
    ] refl

module _ (n victim output : ℕ) (other : victim ≢ output) where
  -- a page of the victim is no page of the output
  no_output : (m : Move) (k : ℕ) → InBlocks n victim output m → victim * n ≤ k → k < victim * n + n → k ≡ m.to → ⊥
  no_output m k is low high same = disjoint n victim output k m.to other low high is.to_low (omega (arith, is.to_high, is.some)) same

  from_not_to : (m : Move) → InBlocks n victim output m → m.from ≢ m.to
  from_not_to m is = no_output m m.from is is.from_low (omega (arith, is.from_high, is.some))

  -- where no head was, none is
  stays_none : (heads : List ℕ) (ms : List Move) (k : ℕ) → AllByRecursion (InBlocks n victim output) ms
      → victim * n ≤ k → k < victim * n + n → slice_index heads k ≡ 0 → slice_index (heads_all heads ms) k ≡ 0
  stays_none heads [] k all low high none = none
  stays_none heads (m ∷ ms) k all low high none = stays_none (heads_behind heads m) ms k all.1 low high (elim (cases_eq k m.from) [
    | inl same ↦ subst (λ x. slice_index (heads_behind heads m) x ≡ 0) (sym same) (cleared heads m (from_not_to m all.0))
    | inr not_from ↦ index_of (heads_behind heads m) heads k (stays heads m k not_from (no_output m k all.0 low high)) ∙ none
  ])

  -- where the head of a move was, none is
  pub clears : (heads : List ℕ) (ms : List Move) (k : ℕ) → AllByRecursion (InBlocks n victim output) ms
      → victim * n ≤ k → k < victim * n + n → AnyByRecursion (λ m. m.from ≡ k) ms → slice_index (heads_all heads ms) k ≡ 0
  clears heads [] k all low high is = absurd is
  clears heads (m ∷ ms) k all low high (inl here) = stays_none (heads_behind heads m) ms k all.1 low high
      (subst (λ x. slice_index (heads_behind heads m) x ≡ 0) here (cleared heads m (from_not_to m all.0)))
  clears heads (m ∷ ms) k all low high (inr there) = clears (heads_behind heads m) ms k all.1 low high there

  -- ---- the moves can be made

  -- the head of a move that remains is its own, and there is room for it at the new place
  pub record IsSet (heads : List ℕ) (m : Move) : Type 0 where
    pub from_is : is_left heads m ≡ true → slice_get heads m.from ≡ Some m.count
    pub to_is : slice_get heads m.to ≡ Some 0
    pub inside : m.to % n + m.count ≤ n

  -- no two of them go to one page
  abbrev pub GoApart : List Move → Type 0
  GoApart [] = Unit {0}
  GoApart (m ∷ ms) = AllByRecursion (λ x. x.to ≢ m.to) ms × GoApart ms

  pub left_same : (heads : List ℕ) (m x : Move) → InBlocks n victim output m → InBlocks n victim output x → m.from + m.count ≤ x.from → is_left (heads_behind heads m) x ≡ is_left heads x
  left_same heads m x of_m of_x order =
      ap (λ k. nat_lt 0 k) (index_of (heads_behind heads m) heads x.from
      (stays heads m x.from (λ same. let some = of_m.some in omega (arith, order, same, some)) (no_output m x.from of_m of_x.from_low (omega (arith, of_x.from_high, of_x.some)))))

  pub lefts_same : (heads : List ℕ) (m : Move) (ms : List Move) → InBlocks n victim output m → AllByRecursion (InBlocks n victim output) ms
      → AllByRecursion (λ x. m.from + m.count ≤ x.from) ms → left_of (heads_behind heads m) ms ≡ left_of heads ms
  lefts_same heads m [] of_m all order = refl
  lefts_same heads m (x ∷ ms) of_m all order =
      (λ i. cond (left_same heads m x of_m all.0 order.0 i) (x ∷ lefts_same heads m ms of_m all.1 order.1 i) (lefts_same heads m ms of_m all.1 order.1 i))

  set_on : (heads : List ℕ) (m : Move) (ms : List Move) → InBlocks n victim output m → AllByRecursion (InBlocks n victim output) ms
      → AllByRecursion (λ x. m.from + m.count ≤ x.from) ms → AllByRecursion (λ x. x.to ≢ m.to) ms
      → AllByRecursion (IsSet heads) ms → AllByRecursion (IsSet (heads_behind heads m)) ms
  set_on heads m [] of_m all order go set = tt
  set_on heads m (x ∷ ms) of_m all order go set =
      let of_x = all.0 in
      let was = set.0 in
      let same_from = stays heads m x.from (λ same. let some = of_m.some in omega (arith, order.0, same, some)) (no_output m x.from of_m of_x.from_low (omega (arith, of_x.from_high, of_x.some))) in
      let same_to = stays heads m x.to (λ same. no_output x m.from of_x of_m.from_low (omega (arith, of_m.from_high, of_m.some)) (sym same)) go.0 in (
        record {
          from_is = λ left. same_from ∙ was.from_is (sym (left_same heads m x of_m of_x order.0) ∙ left);
          to_is = same_to ∙ was.to_is;
          inside = was.inside;
        },
        set_on heads m ms of_m all.1 order.1 go.1 set.1,
      )

  -- ---- room in the buffer

  -- an entry more makes no key new
  pub fewer_new : (es : List Entry) (k : Key) (v : Option Place) (xs : List Entry) → count_by (is_new (put key_cmp k v es)) xs ≤ count_by (is_new es) xs
  fewer_new es k v [] = omega arith
  fewer_new es k v (x ∷ xs) =
      let rest = fewer_new es k v xs in
      let a = sum_by-cons (λ y. cond (is_new (put key_cmp k v es) y) 1 0) x xs in
      let b = sum_by-cons (λ y. cond (is_new es y) 1 0) x xs in
      let here = one (eq_by_cmp key_cmp x.0 k) (find key_cmp x.0 es) (find key_cmp x.0 (put key_cmp k v es)) (find-put key_cmp key_total x.0 k v es) in
      omega (arith, rest, a, b, here)
    where
      one : (b : Bool) (old new : Option (Option Place)) → new ≡ cond b (Some v) old → ◌≤◌ (cond (is_none new) 1 0) (cond (is_none old) 1 0)
      one true old new is = subst (λ o. ◌≤◌ (cond (is_none o) 1 0) (cond (is_none old) 1 0)) (sym is) (omega arith)
      one false old new is = subst (λ o. ◌≤◌ (cond (is_none o) 1 0) (cond (is_none old) 1 0)) (sym is) (omega arith)

  -- what the entries of a buffer and those to come need together
  abbrev needs : List ℕ → List Entry → List Move → ℕ
  needs heads es ms = length es + count_by (is_new es) (entries_left heads ms)

  -- with one that remains there is room for it, and for the others after it
  record OneGoes (cap : ℕ) (heads : List ℕ) (es : List Entry) (m : Move) (ms : List Move) : Type 0 where
    room : (length es < cap) ⊎ IsSome (find key_cmp m.key es)
    others : length (put key_cmp m.key (Some (new_place m)) es) + count_by (is_new (put key_cmp m.key (Some (new_place m)) es)) (entries_left heads ms) ≤ cap

  one_goes : (cap : ℕ) (heads : List ℕ) (es : List Entry) (m : Move) (ms : List Move) → T (is_sorted key_cmp es)
      → length es + count_by (is_new es) (moved_entry m ∷ entries_left heads ms) ≤ cap → OneGoes cap heads es m ms
  one_goes cap heads es m ms rising fits =
      let all = sum_by-cons (λ y. cond (is_new es y) 1 0) (moved_entry m) (entries_left heads ms) in
      let less = fewer_new es m.key (Some (new_place m)) (entries_left heads ms) in
      let size = length-put key_cmp key_total m.key (Some (new_place m)) es rising in
      by_find (find key_cmp m.key es) refl all less size
    where
      by_find : (o : Option (Option Place)) → find key_cmp m.key es ≡ o
          → count_by (is_new es) (moved_entry m ∷ entries_left heads ms) ≡ cond (is_none (find key_cmp m.key es)) 1 0 + count_by (is_new es) (entries_left heads ms)
          → count_by (is_new (put key_cmp m.key (Some (new_place m)) es)) (entries_left heads ms) ≤ count_by (is_new es) (entries_left heads ms)
          → length (put key_cmp m.key (Some (new_place m)) es) ≡ cond (is_some (find key_cmp m.key es)) (length es) (length es + 1)
          → OneGoes cap heads es m ms
      by_find None none all less size =
          let one : ◌≡◌ {A = ℕ} (cond (is_none (find key_cmp m.key es)) 1 0) 1 = ap (λ o. cond (is_none o) 1 0) none in
          let longer : cond (is_some (find key_cmp m.key es)) (length es) (length es + 1) ≡ length es + 1 = ap (λ o. cond (is_some o) (length es) (length es + 1)) none in
          record { room = inl (omega (arith, fits, all, one)); others = omega (arith, fits, all, one, less, size, longer) }
      by_find (Some e) some all less size =
          let same : cond (is_some (find key_cmp m.key es)) (length es) (length es + 1) ≡ length es = ap (λ o. cond (is_some o) (length es) (length es + 1)) some in
          record { room = inr (subst (λ o. IsSome o) (sym some) refl); others = omega (arith, fits, all, less, size, same) }

  pub go_all : (cap : ℕ) (heads : List ℕ) (es : List Entry) (ms : List Move) → AllByRecursion (IsSet heads) ms → AllByRecursion (InBlocks n victim output) ms → AreInOrder ms → GoApart ms
      → T (is_sorted key_cmp es) → needs heads es ms ≤ cap → CanGoAll n cap heads es ms
  go_all cap heads es [] set blocks order go rising fits = λ i x is. absurd (let inside = slice_get_within [] i x is in omega (arith, inside))
  go_all cap heads es (m ∷ ms) set blocks order go rising fits =
      step (go_all cap (heads_behind heads m) (entries_behind heads es m) ms (set_on heads m ms blocks.0 blocks.1 order.0 go.0 set.1) blocks.1 order.1 go.1 later.0 later.1)
    where
      now : CanGo n cap heads es m
      now left =
          let fits_left : length es + count_by (is_new es) (moved_entry m ∷ entries_left heads ms) ≤ cap = subst
          (λ b. length es + count_by (is_new es) (entries_of (placed_at (cond b (m ∷ left_of heads ms) (left_of heads ms)))) ≤ cap) left fits in
          let one = one_goes cap heads es m ms rising fits_left in
          (set.0.from_is left, get-set_other heads m.from m.to 0 (λ same. from_not_to m blocks.0 (sym same)) ∙ set.0.to_is, set.0.inside, one.room)

      lefts : entries_left (heads_behind heads m) ms ≡ entries_left heads ms
      lefts = ap (λ (xs : List Move). entries_of (placed_at xs)) (lefts_same heads m ms blocks.0 blocks.1 order.0)

      by_left : (b : Bool) → is_left heads m ≡ b → T (is_sorted key_cmp (cond b (put key_cmp m.key (Some (new_place m)) es) es))
          × (length (cond b (put key_cmp m.key (Some (new_place m)) es) es) + count_by (is_new (cond b (put key_cmp m.key (Some (new_place m)) es) es)) (entries_left heads ms) ≤ cap)
      by_left true is =
          let fits_left : length es + count_by (is_new es) (moved_entry m ∷ entries_left heads ms) ≤ cap = subst
          (λ b. length es + count_by (is_new es) (entries_of (placed_at (cond b (m ∷ left_of heads ms) (left_of heads ms)))) ≤ cap) is fits in
          (is_sorted-put key_cmp key_total m.key (Some (new_place m)) es rising, (one_goes cap heads es m ms rising fits_left).others)
      by_left false is = (rising, subst (λ b. length es + count_by (is_new es) (entries_of (placed_at (cond b (m ∷ left_of heads ms) (left_of heads ms)))) ≤ cap) is fits)

      later : (T (is_sorted key_cmp (entries_behind heads es m))) × (needs (heads_behind heads m) (entries_behind heads es m) ms ≤ cap)
      later =
          let now_is = by_left (is_left heads m) refl in
          (now_is.0, subst (λ (xs : List Entry). length (entries_behind heads es m) + count_by (is_new (entries_behind heads es m)) xs ≤ cap) (sym lefts) now_is.1)

      step : CanGoAll n cap (heads_behind heads m) (entries_behind heads es m) ms → CanGoAll n cap heads es (m ∷ ms)
      step rest zero x is = subst (λ y. CanGo n cap heads es y) (same_Some m x is) now
      step rest (suc j) x is = rest j x is

-- ---- the end

module _ (shape : Shape) (c : Course) (job : JobState) (h : Hands) (flash : Flash) (es : List (Key × Place)) (give : CanGive shape c job h flash es) where
  abbrev n : ℕ
  n = shape.block_pages

  abbrev heads : List ℕ
  heads = h.live.heads

  runs : IsRunning shape c job.moves job.page flash es
  runs = give.copied.runs

  pub in_blocks : (ms : List Move) → AllByRecursion (IsMove shape c flash es) ms → AllByRecursion (InBlocks n c.victim c.output) ms
  in_blocks [] all = tt
  in_blocks (m ∷ ms) all =
      let move = all.0 in
      let whole = give.copied.whole in
      let within = runs.within in
      let room = runs.room in (
        record {
          some = let some = charge_some shape runs.is_shape m.len in omega (arith, some, move.count_is);
          from_low = move.in_victim;
          from_high = omega (arith, move.seen, within, whole);
          to_low = move.in_output;
          to_high = omega (arith, move.ends, room, whole);
        },
        in_blocks ms all.1,
      )

  go_apart : (ms : List Move) → AreApart shape (placed_at ms) → GoApart n c.victim c.output runs.other ms
  go_apart [] are = tt
  go_apart (m ∷ ms) are = (others ms are.0, go_apart ms are.1)
    where
      others : (xs : List Move) → ((k : ℕ) → IsPageOf shape k (new_place m) → IsValuePage shape (placed_at xs) k → ⊥) → AllByRecursion (λ x. x.to ≢ m.to) xs
      others [] none = tt
      others (x ∷ xs) none = (
        λ same. none x.to (same_first shape runs.is_shape (new_place m) x.to (sym same))
            (inl (first_page shape runs.is_shape (new_place x))),
        others xs (λ k here there. none k here (inr there)),
      )

  head_is : (k : ℕ) (count : ℕ) → k < length heads → head_of shape es k ≡ count → slice_get heads k ≡ Some count
  head_is k count inside is = slice_get-get_or heads k 0 inside ∙ ap Some (give.copied.heads_are k ∙ is)

  are_set : (ms : List Move) → AllByRecursion (IsMove shape c flash es) ms → AllByRecursion (IsSet n c.victim c.output runs.other heads) ms
  are_set [] all = tt
  are_set (m ∷ ms) all =
      let move = all.0 in
      let size = give.heads_size in
      let ranges = (in_blocks (m ∷ ms) all).0 in
      let some = ranges.some in
      let from_high : m.from < c.victim * n + n = let high = ranges.from_high in omega (arith, high, some) in
      let to_high = ranges.to_high in
      let end : c.victim * n + n ≤ shape.blocks * n = apart c.victim shape.blocks n runs.victim_exists in (
        record {
          from_is = λ left.
              let live : 0 < slice_index heads m.from = ltb-true 0 (slice_index heads m.from) left in
              let was = begins shape es m.from give.copied.rising (subst (λ x. 0 < x) (give.copied.heads_are m.from) live) in
              let own = move.owner was.key was.place was.found was.page_is in
              let count : head_of shape es m.from ≡ m.count = ap (head_of shape es) (sym was.page_is)
              ∙ head_found shape runs.is_shape was.key was.place es give.values_apart was.found ∙ ap (charge shape) own.1 ∙ sym move.count_is in
              head_is m.from m.count (omega (arith, from_high, end, mul_comm n shape.blocks, size)) count;
          to_is = head_is m.to 0 (omega (arith, move.is_place.exists, size))
              (head_none shape runs.is_shape es m.to (runs.free m.to (block_of n m.to c.output move.in_output (omega (arith, to_high, some)))));
          inside = omega (arith, move.is_place.inside, move.count_is);
        },
        are_set ms all.1,
      )

  -- after the moves no head is in the victim
  from_any : (key : Key) (page k : ℕ) (ms : List Move) → page ≡ k → AnyByRecursion (λ m. (key ≡ m.key) × (m.from ≡ page)) ms → AnyByRecursion (λ m. m.from ≡ k) ms
  from_any key page k [] same is = is
  from_any key page k (m ∷ ms) same (inl here) = inl (here.1 ∙ same)
  from_any key page k (m ∷ ms) same (inr there) = inr (from_any key page k ms same there)

  zero_at : (k : ℕ) → c.victim * n ≤ k → k < c.victim * n + n → slice_index (heads_all heads job.moves) k ≡ 0
  zero_at k low high =
      let blocks = in_blocks job.moves runs.moves_are in
      let whole = give.copied.whole in
      elim (cases_lt 0 (slice_index heads k)) [
        | inl live ↦
            let was = begins shape es k give.copied.rising (subst (λ x. 0 < x) (give.copied.heads_are k) live) in
            let page_is = was.page_is in
            elim (cases_lt k (source shape c)) [
              | inl seen ↦ clears n c.victim c.output runs.other heads job.moves k blocks low high
                  (from_any was.key was.place.page k job.moves page_is
                  (runs.covers was.key was.place was.found (ap (λ x. x / n) page_is ∙ block_of n k c.victim low high) (omega (arith, seen, page_is))))
              | inr behind ↦ absurd (let none = give.copied.none_unseen k behind high in omega (arith, none, live))
            ]
        | inr none ↦ stays_none n c.victim c.output runs.other heads job.moves k blocks low high (omega (arith, none))
      ]

  empty : block_sum (heads_all heads job.moves) h.live.block_pages c.victim ≡ 0
  empty =
      subst (λ x. block_sum (heads_all heads job.moves) x c.victim ≡ 0) (sym give.block_pages_is)
      (sum_none n (drop (c.victim * n) (heads_all heads job.moves))
      (λ i small. get_or-drop (c.victim * n) (heads_all heads job.moves) i 0 ∙ zero_at (c.victim * n + i) (omega arith) (omega (arith, small))))

  goes : HasRoom h.active h.epoch (entries_left heads job.moves) → CanGoAll h.live.block_pages h.active.capacity heads h.active.entries job.moves
  goes room =
      subst (λ x. CanGoAll x h.active.capacity heads h.active.entries job.moves) (sym give.block_pages_is)
      (go_all n c.victim c.output runs.other h.active.capacity heads h.active.entries job.moves (are_set job.moves runs.moves_are)
      (in_blocks job.moves runs.moves_are) runs.order (go_apart job.moves runs.apart) give.table_rising room.0)

pub gives_up : GivesUp
gives_up shape c job h flash es give = record {
  goes = goes shape c job h flash es give;
  closed = give.closed;
  empty = empty shape c job h flash es give;
  none = none_changes h.live.heads job.moves;
  owned = (for_values, give.owned);
  open_exists = give.open_exists;
}
