-- A list with rising keys: the place of a key, and an entry written there.
use Rattle.std.proofs.Common.{◌≡◌, ℕ, zero, suc, ◌+◌, ◌<◌, ◌≤◌, Bool, true, false, T, List, [], ◌∷◌, length, take, drop, get_or, set, refl, ap, sym, ◌∙◌, arith}
use Rattle.std.proofs.Common.{◌⊎◌, inl, inr, Option, Some, None, ◌++◌, ◌≢◌, map, subst}
use Rattle.std.proofs.Common.{IsSome, Ordering, Less, Equal, Greater, length-set}
use Rattle.std.{specs.Prelude.slice_get, specs.List.AllWithin, specs.List.insert, specs.List.refill, specs.List.take-map, specs.List.drop-map, specs.Option.option_map, specs.Ordering.is_lt}
use Rattle.std.{specs.List.Sorted.IsPartitionedBy, specs.List.Sorted.IsPartitionPoint, proofs.lemmas.Cmp.nat_list_cmp_total}
use Rattle.std.specs.FinMap.Entries.{put, find, is_sorted, below_all}
use Rattle.std.proofs.lemmas.Option.{slice_get-get_or, slice_get_past, slice_get-map}
use Rattle.std.proofs.lemmas.List.{get_or_default, get_or-map, get_or-set_same, get_or-set_other, get_or_append_left, length-append, map-append, map-set}
use Rattle.std.proofs.lemmas.Grind.{get_or_default_zero}
use mathlib.Core.Bool.{false≢true}
use Rattle.smallvec.{specs.SmallVec.SmallVec, proofs.SmallVecLemmas.items-with_items}
use Rattle.pk_base.{specs.Key.Key, specs.Key.key_cmp, specs.Entry.Entry, specs.Entry.Place, proofs.KeyLemmas.same_key, proofs.KeyLemmas.turned, proofs.KeyLemmas.below_less, proofs.KeyLemmas.missing}
use Rattle.pk_base.proofs.Logic.{is_true, left_part, right_part, lt_less, equal}
use Rattle.pk_buf.{specs.declared.slot.Slot.Slot, specs.Table.Table, specs.Table.is_below, specs.Table.has_key, specs.Table.place_of, specs.Table.has_at}
use Rattle.pk_buf.{specs.Table.content, specs.Table.numbered, specs.Table.sorted}

-- ---- the order of keys

lt_trans : (a b c : Key) → is_lt (key_cmp a b) ≡ true → is_lt (key_cmp b c) ≡ true → is_lt (key_cmp a c) ≡ true
lt_trans a b c p q = rw (nat_list_cmp_total.trans a b c (lt_less _ p) (lt_less _ q)) refl

-- ---- numbers of slots in the order of their keys

pub above_at : (ss : List Slot) (k : Key) (xs : List ℕ) → T (below_all key_cmp k (sorted ss xs)) → (i : ℕ) (d : ℕ) → i < length xs → is_lt (key_cmp k (numbered ss (get_or xs i d)).0) ≡ true
above_at ss k [] all i d h = absurd (omega arith)
above_at ss k (x ∷ xs) all zero d h = is_true _ (left_part _ _ all)
above_at ss k (x ∷ xs) all (suc i) d h = above_at ss k xs (right_part _ _ all) i d (omega arith)

-- keys below a key come first
pub partitioned : (ss : List Slot) (k : Key) (xs : List ℕ) → T (is_sorted key_cmp (sorted ss xs)) → IsPartitionedBy (λ x. is_below k (numbered ss x)) xs
partitioned ss k [] up i j d le h b = absurd (omega arith)
partitioned ss k (x ∷ xs) up zero zero d le h b = b
partitioned ss k (x ∷ xs) up zero (suc j) d le h b = lt_trans (numbered ss x).0 (numbered ss (get_or xs j d)).0 k (above_at ss (numbered ss x).0 xs (left_part _ _ up) j d (omega arith)) b
partitioned ss k (x ∷ xs) up (suc i) zero d le h b = absurd (omega arith)
partitioned ss k (x ∷ xs) up (suc i) (suc j) d le h b = partitioned ss k xs (right_part _ _ up) i j d (omega arith) (omega arith) b

-- the point of a partition is the place
pub point_is : (ss : List Slot) (k : Key) (xs : List ℕ) (i : ℕ) → i ≤ length xs
    → IsPartitionPoint (λ x. is_below k (numbered ss x) ≡ true) (λ x. is_below k (numbered ss x) ≡ false) xs i → i ≡ place_of k (sorted ss xs)
point_is ss k [] i le point = omega arith
point_is ss k (x ∷ xs) zero le point = rw (point.1 0 x (omega arith) (omega arith)) refl
point_is ss k (x ∷ xs) (suc i) le point =
    rw (point.0 0 x (omega arith) (omega arith))
    (ap suc (point_is ss k xs i (omega arith) (λ j d h l. point.0 (suc j) d (omega arith) (omega arith), λ j d h l. point.1 (suc j) d (omega arith) (omega arith))))

-- what a binary search learns at its middle
front_to : (ss : List Slot) (k : Key) (xs : List ℕ) (m x : ℕ) → T (is_sorted key_cmp (sorted ss xs)) → m < length xs
    → x ≡ get_or xs m x → is_below k (numbered ss x) ≡ true → AllWithin (λ y. is_below k (numbered ss y) ≡ true) xs 0 (m + 1)
front_to ss k xs m x up h read b j d le lt = partitioned ss k xs up j m d (omega arith) h (rw (get_or_default xs m d x h, ← read) b)

back_from : (ss : List Slot) (k : Key) (xs : List ℕ) (m x : ℕ) → T (is_sorted key_cmp (sorted ss xs)) → m < length xs
    → x ≡ get_or xs m x → is_below k (numbered ss x) ≡ false → AllWithin (λ y. is_below k (numbered ss y) ≡ false) xs m (length xs)
back_from ss k xs m x up h read b j d le lt =
    elim (is_below k (numbered ss (get_or xs j d))) as (λ v. is_below k (numbered ss (get_or xs j d)) ≡ v → v ≡ false) [
      | true ↦ λ t. absurd (false≢true (sym (rw (get_or_default xs m d x h, ← read) b) ∙ partitioned ss k xs up m j d le lt t))
      | false ↦ λ t. refl
    ] refl

-- ---- a key that exists, and one that is not

-- at the place of a key that exists, a write is the entry put
set_step : (o : Ordering) (k : Key) (v : Option Place) (f : Entry) (fs : List Entry) → key_cmp f.0 k ≡ o
    → (has_at k fs (place_of k fs) ≡ true → set fs (place_of k fs) (k, v) ≡ put key_cmp k v fs)
    → has_at k (f ∷ fs) (place_of k (f ∷ fs)) ≡ true → set (f ∷ fs) (place_of k (f ∷ fs)) (k, v) ≡ put key_cmp k v (f ∷ fs)
set_step Less k v f fs q ih h = rw (q, turned f.0 k Less q) (ap (λ xs. f ∷ xs) (ih (rw q at h)))
set_step Equal k v f fs q ih h = rw (q, turned f.0 k Equal q) (ap (λ (j : Key). (j, v) ∷ fs) (sym (same_key f.0 k q)))
set_step Greater k v f fs q ih h = absurd (false≢true (rw (q, q) at h))

set_is_put : (k : Key) (v : Option Place) (es : List Entry) → has_at k es (place_of k es) ≡ true → set es (place_of k es) (k, v) ≡ put key_cmp k v es
set_is_put k v [] h = absurd (false≢true h)
set_is_put k v (f ∷ fs) h = set_step (key_cmp f.0 k) k v f fs refl (set_is_put k v fs) h

-- at the place of a key that is not there, so is an insert
insert_step : (o : Ordering) (k : Key) (v : Option Place) (f : Entry) (fs : List Entry) → key_cmp f.0 k ≡ o
    → (has_at k fs (place_of k fs) ≡ false → insert fs (place_of k fs) (k, v) ≡ put key_cmp k v fs)
    → has_at k (f ∷ fs) (place_of k (f ∷ fs)) ≡ false → insert (f ∷ fs) (place_of k (f ∷ fs)) (k, v) ≡ put key_cmp k v (f ∷ fs)
insert_step Less k v f fs q ih h = rw (q, turned f.0 k Less q) (ap (λ xs. f ∷ xs) (ih (rw q at h)))
insert_step Equal k v f fs q ih h = absurd (false≢true (sym (rw (q, q) at h)))
insert_step Greater k v f fs q ih h = rw (q, turned f.0 k Greater q) refl

insert_is_put : (k : Key) (v : Option Place) (es : List Entry) → has_at k es (place_of k es) ≡ false → insert es (place_of k es) (k, v) ≡ put key_cmp k v es
insert_is_put k v [] h = refl
insert_is_put k v (f ∷ fs) h = insert_step (key_cmp f.0 k) k v f fs refl (insert_is_put k v fs) h

-- a key that exists is found at its place
found_step : (o : Ordering) (k : Key) (f : Entry) (fs : List Entry) → key_cmp f.0 k ≡ o
    → (has_at k fs (place_of k fs) ≡ true → find key_cmp k fs ≡ option_map (λ e. e.1) (slice_get fs (place_of k fs)))
    → has_at k (f ∷ fs) (place_of k (f ∷ fs)) ≡ true → find key_cmp k (f ∷ fs) ≡ option_map (λ e. e.1) (slice_get (f ∷ fs) (place_of k (f ∷ fs)))
found_step Less k f fs q ih h = rw (q, turned f.0 k Less q) (ih (rw q at h))
found_step Equal k f fs q ih h = rw (q, turned f.0 k Equal q) refl
found_step Greater k f fs q ih h = absurd (false≢true (rw (q, q) at h))

pub found_at : (k : Key) (es : List Entry) → has_at k es (place_of k es) ≡ true → find key_cmp k es ≡ option_map (λ e. e.1) (slice_get es (place_of k es))
found_at k [] h = refl
found_at k (f ∷ fs) h = found_step (key_cmp f.0 k) k f fs refl (found_at k fs) h

-- and one that is not is not found
absent_step : (o : Ordering) (k : Key) (f : Entry) (fs : List Entry) → key_cmp f.0 k ≡ o → T (is_sorted key_cmp (f ∷ fs))
    → (has_at k fs (place_of k fs) ≡ false → find key_cmp k fs ≡ None)
    → has_at k (f ∷ fs) (place_of k (f ∷ fs)) ≡ false → find key_cmp k (f ∷ fs) ≡ None
absent_step Less k f fs q up ih h = rw (turned f.0 k Less q) (ih (rw q at h))
absent_step Equal k f fs q up ih h = absurd (false≢true (sym (rw (q, q) at h)))
absent_step Greater k f fs q up ih h = rw (turned f.0 k Greater q) (missing k fs (below_less k f.0 fs (turned f.0 k Greater q) (left_part _ _ up)))

pub absent_at : (k : Key) (es : List Entry) → T (is_sorted key_cmp es) → has_at k es (place_of k es) ≡ false → find key_cmp k es ≡ None
absent_at k [] up h = refl
absent_at k (f ∷ fs) up h = absent_step (key_cmp f.0 k) k f fs refl up (absent_at k fs (right_part _ _ up)) h

-- ---- as the table reads and writes them

-- numbers below a bound
pub number_within : (n : ℕ) (xs : List ℕ) (i x : ℕ) → AllWithin (λ y. y < n) xs 0 (length xs) → i < length xs → x ≡ get_or xs i x → x < n
number_within n xs i x all h read = rw (← read) at (all i x (omega arith) h)

within_rest : (n : ℕ) (y : ℕ) (ys : List ℕ) → AllWithin (λ x. x < n) (y ∷ ys) 0 (length (y ∷ ys)) → AllWithin (λ x. x < n) ys 0 (length ys)
within_rest n y ys all j d le lt = all (suc j) d (omega arith) (omega arith)

pub within_insert : (n m : ℕ) (xs : List ℕ) (i y : ℕ) → AllWithin (λ x. x < n) xs 0 (length xs) → n ≤ m → y < m → i ≤ length xs
    → AllWithin (λ x. x < m) (insert xs i y) 0 (length (insert xs i y))
within_insert n m xs zero y all le below h zero d a b = below
within_insert n m xs zero y all le below h (suc j) d a b = let q : get_or xs j d < n = all j d (omega arith) (omega arith) in omega arith
within_insert n m [] (suc i) y all le below h j d a b = absurd (omega arith)
within_insert n m (x ∷ xs) (suc i) y all le below h zero d a b = let q : x < n = all 0 d (omega arith) (omega arith) in omega arith
within_insert n m (x ∷ xs) (suc i) y all le below h (suc j) d a b = within_insert n m xs i y (within_rest n x xs all) le below (omega arith) j d (omega arith) (omega arith)

-- the slot with a number
pub slot_is : (ss : List Slot) (n : ℕ) (s : Slot) → n < length ss → s ≡ get_or ss n s → numbered ss n ≡ content s
slot_is ss n s h read = get_or-map content ss n s ([], None) h ∙ ap content (sym read)

pub number_read : (xs : List ℕ) (i : ℕ) → i < length xs → get_or xs i 0 ≡ get_or xs i (get_or xs i 0)
number_read xs i h = sym (get_or_default_zero xs i (get_or xs i 0) h)

-- what a binary search learns from the slot at its middle
pub front_read : (ss : List Slot) (k : Key) (xs : List ℕ) (m : ℕ) (s : Slot) → T (is_sorted key_cmp (sorted ss xs)) → AllWithin (λ y. y < length ss) xs 0 (length xs) → m < length xs
    → s ≡ get_or ss (get_or xs m 0) s → is_below k (content s) ≡ true → AllWithin (λ y. is_below k (numbered ss y) ≡ true) xs 0 (m + 1)
front_read ss k xs m s up all h here b =
    front_to ss k xs m (get_or xs m 0) up h (number_read xs m h) (ap (λ e. is_below k e) (slot_is ss (get_or xs m 0) s (all m 0 (omega arith) h) here) ∙ b)

pub back_read : (ss : List Slot) (k : Key) (xs : List ℕ) (m : ℕ) (s : Slot) → T (is_sorted key_cmp (sorted ss xs)) → AllWithin (λ y. y < length ss) xs 0 (length xs) → m < length xs
    → s ≡ get_or ss (get_or xs m 0) s → is_below k (content s) ≡ false → AllWithin (λ y. is_below k (numbered ss y) ≡ false) xs m (length xs)
back_read ss k xs m s up all h here b =
    back_from ss k xs m (get_or xs m 0) up h (number_read xs m h) (ap (λ e. is_below k e) (slot_is ss (get_or xs m 0) s (all m 0 (omega arith) h) here) ∙ b)

content_at : (ss : List Slot) (xs : List ℕ) (i x : ℕ) (s : Slot) → i < length xs → x ≡ get_or xs i x → x < length ss → s ≡ get_or ss x s
    → slice_get (sorted ss xs) i ≡ Some (content s)
content_at ss xs i x s h read below here =
    slice_get-map (numbered ss) xs i ∙ ap (option_map (numbered ss)) (slice_get-get_or xs i x h ∙ ap Some (sym read)) ∙ ap Some (slot_is ss x s below here)

pub entry_at : (ss : List Slot) (xs : List ℕ) (i x : ℕ) (s : Slot) → AllWithin (λ y. y < length ss) xs 0 (length xs) → i < length xs → x ≡ get_or xs i x
    → s ≡ get_or ss x s → slice_get (sorted ss xs) i ≡ Some (content s)
entry_at ss xs i x s all h read here = content_at ss xs i x s h read (number_within (length ss) xs i x all h read) here

pub has_at_read : (ss : List Slot) (k : Key) (xs : List ℕ) (i x : ℕ) (s : Slot) (b : Bool) → AllWithin (λ y. y < length ss) xs 0 (length xs) → i < length xs
    → x ≡ get_or xs i x → s ≡ get_or ss x s → b ≡ has_key k (content s) → has_at k (sorted ss xs) i ≡ b
has_at_read ss k xs i x s b all h read here test = rw (entry_at ss xs i x s all h read here) (sym test)

pub has_at_past : (ss : List Slot) (k : Key) (xs : List ℕ) (i : ℕ) → length xs ≤ i → has_at k (sorted ss xs) i ≡ false
has_at_past ss k xs i h = rw (slice_get-map (numbered ss) xs i, slice_get_past xs i h) refl

-- what a lookup answers
pub found_read : (ss : List Slot) (k : Key) (xs : List ℕ) (i x : ℕ) (s : Slot) → AllWithin (λ y. y < length ss) xs 0 (length xs) → i < length xs → x ≡ get_or xs i x
    → s ≡ get_or ss x s → i ≡ place_of k (sorted ss xs) → has_at k (sorted ss xs) i ≡ true
    → ((content s).0 ≡ k) × (find key_cmp k (sorted ss xs) ≡ Some (content s).1)
found_read ss k xs i x s all h read here at has =
    let there = entry_at ss xs i x s all h read here in
    let key : has_key k (content s) ≡ true = rw there at has in
    (same_key (content s).0 k (equal _ key), found_at k (sorted ss xs) (rw (← at) has) ∙ ap (λ j. option_map (λ e. e.1) (slice_get (sorted ss xs) j)) (sym at) ∙ ap (option_map (λ e. e.1)) there)

pub absent_read : (ss : List Slot) (k : Key) (xs : List ℕ) (i : ℕ) → T (is_sorted key_cmp (sorted ss xs)) → i ≡ place_of k (sorted ss xs) → has_at k (sorted ss xs) i ≡ false
    → find key_cmp k (sorted ss xs) ≡ None
absent_read ss k xs i up at has = absent_at k (sorted ss xs) up (rw (← at) has)

pub length-sorted : (ss : List Slot) (xs : List ℕ) → length (sorted ss xs) ≡ length xs
length-sorted ss [] = refl
length-sorted ss (x ∷ xs) = ap suc (length-sorted ss xs)

-- if a key is not there, there is room for it
pub room_in : (ss : List Slot) (k : Key) (xs : List ℕ) (i n : ℕ) → T (is_sorted key_cmp (sorted ss xs)) → i ≡ place_of k (sorted ss xs) → has_at k (sorted ss xs) i ≡ false
    → (length (sorted ss xs) < n) ⊎ IsSome (find key_cmp k (sorted ss xs)) → length xs < n
room_in ss k xs i n up at has some =
    elim some [
      | inl room ↦ rw (length-sorted ss xs) at room
      | inr there ↦ absurd (false≢true (rw (absent_at k (sorted ss xs) up (rw (← at) has)) at there))
    ]

-- ---- what a write leaves

pub never_below : (k : Key) → is_lt (key_cmp k k) ≡ true → ⊥
never_below k p = let q = lt_less _ p in false≢true (sym (ap is_lt (sym q ∙ turned k k Less q)))

pub set_same : (ss : List Slot) (x : ℕ) (s : Slot) → x < length ss → numbered (set ss x s) x ≡ content s
set_same ss x s h = slot_is (set ss x s) x s (rw (length-set ss x s) h) (sym (get_or-set_same ss x s s h))

pub set_other : (ss : List Slot) (x y : ℕ) (s : Slot) → y ≢ x → numbered (set ss x s) y ≡ numbered ss y
set_other ss x y s other = ap (λ es. get_or es y ([], None)) (map-set content ss x s) ∙ get_or-set_other (map content ss) x y (content s) ([], None) other

-- slots above that with a number are others
above_unchanged : (ss : List Slot) (xs : List ℕ) (x : ℕ) (s : Slot) → T (below_all key_cmp (numbered ss x).0 (sorted ss xs)) → sorted (set ss x s) xs ≡ sorted ss xs
above_unchanged ss [] x s all = refl
above_unchanged ss (y ∷ ys) x s all =
    let other : y ≢ x = λ e. never_below (numbered ss x).0 (ap (λ z. is_lt (key_cmp (numbered ss x).0 (numbered ss z).0)) (sym e) ∙ is_true _ (left_part _ _ all)) in
    let first : numbered (set ss x s) y ≡ numbered ss y = set_other ss x y s other in
    let rest : sorted (set ss x s) ys ≡ sorted ss ys = above_unchanged ss ys x s (right_part _ _ all) in
    rw (first, rest) refl

pub set_at : (ss : List Slot) (xs : List ℕ) (i x : ℕ) (s : Slot) → T (is_sorted key_cmp (sorted ss xs)) → i < length xs → x ≡ get_or xs i x → x < length ss
    → sorted (set ss x s) xs ≡ set (sorted ss xs) i (content s)
set_at ss [] i x s up h read below = absurd (omega arith)
set_at ss (y ∷ ys) zero x s up h read below =
    let first : numbered (set ss x s) y ≡ content s = ap (numbered (set ss x s)) (sym read) ∙ set_same ss x s below in
    let rest : sorted (set ss x s) ys ≡ sorted ss ys = above_unchanged ss ys x s (subst (λ z. T (below_all key_cmp (numbered ss z).0 (sorted ss ys))) (sym read) (left_part _ _ up)) in
    rw (first, rest) refl
set_at ss (y ∷ ys) (suc i) x s up h read below =
    let less : is_lt (key_cmp (numbered ss y).0 (numbered ss x).0) ≡ true = ap (λ z. is_lt (key_cmp (numbered ss y).0 (numbered ss z).0)) read
    ∙ above_at ss (numbered ss y).0 ys (left_part _ _ up) i x (omega arith) in
    let other : y ≢ x = λ e. never_below (numbered ss x).0 (ap (λ z. is_lt (key_cmp (numbered ss z).0 (numbered ss x).0)) (sym e) ∙ less) in
    let first : numbered (set ss x s) y ≡ numbered ss y = set_other ss x y s other in
    let rest : sorted (set ss x s) ys ≡ set (sorted ss ys) i (content s) = set_at ss ys i x s (right_part _ _ up) (omega arith) read below in
    rw (first, rest) refl

pub put_found : (ss : List Slot) (xs : List ℕ) (s : Slot) (i x : ℕ) → T (is_sorted key_cmp (sorted ss xs)) → AllWithin (λ y. y < length ss) xs 0 (length xs) → i < length xs
    → x ≡ get_or xs i x → i ≡ place_of (content s).0 (sorted ss xs) → has_at (content s).0 (sorted ss xs) i ≡ true
    → sorted (set ss x s) xs ≡ put key_cmp (content s).0 (content s).1 (sorted ss xs)
put_found ss xs s i x up all h read at has =
    set_at ss xs i x s up h read (number_within (length ss) xs i x all h read) ∙ rw at (set_is_put (content s).0 (content s).1 (sorted ss xs) (rw (← at) has))

-- slots that are there are as they were when another comes after them
pub push_same : (ss : List Slot) (s : Slot) (y : ℕ) → y < length ss → numbered (ss ++ s ∷ []) y ≡ numbered ss y
push_same ss s y h =
    get_or-map content (ss ++ s ∷ []) y s ([], None) (rw (length-append ss (s ∷ [])) (omega arith))
    ∙ ap content (get_or_append_left ss (s ∷ []) s y h)
    ∙ sym (get_or-map content ss y s ([], None) h)

pub push_last : (ss : List Slot) (s : Slot) → numbered (ss ++ s ∷ []) (length ss) ≡ content s
push_last [] s = refl
push_last (t ∷ ss) s = push_last ss s

push_unchanged : (ss : List Slot) (s : Slot) (xs : List ℕ) → AllWithin (λ y. y < length ss) xs 0 (length xs) → sorted (ss ++ s ∷ []) xs ≡ sorted ss xs
push_unchanged ss s [] all = refl
push_unchanged ss s (y ∷ ys) all =
    rw (push_same ss s y (all 0 y (omega arith) (omega arith)), push_unchanged ss s ys (within_rest (length ss) y ys all)) refl

sorted-insert : (ss : List Slot) (xs : List ℕ) (i x : ℕ) → sorted ss (insert xs i x) ≡ insert (sorted ss xs) i (numbered ss x)
sorted-insert ss xs i x = map-append (numbered ss) (take i xs) (x ∷ drop i xs) ∙ rw (take-map (numbered ss) i xs, drop-map (numbered ss) i xs) refl

pub put_absent : (ss : List Slot) (xs : List ℕ) (s : Slot) (i : ℕ) → AllWithin (λ y. y < length ss) xs 0 (length xs) → i ≡ place_of (content s).0 (sorted ss xs)
    → has_at (content s).0 (sorted ss xs) i ≡ false → sorted (ss ++ s ∷ []) (insert xs i (length ss)) ≡ put key_cmp (content s).0 (content s).1 (sorted ss xs)
put_absent ss xs s i all at has =
    sorted-insert (ss ++ s ∷ []) xs i (length ss)
    ∙ ap (λ es. insert es i (numbered (ss ++ s ∷ []) (length ss))) (push_unchanged ss s xs all)
    ∙ ap (λ e. insert (sorted ss xs) i e) (push_last ss s)
    ∙ rw at (insert_is_put (content s).0 (content s).1 (sorted ss xs) (rw (← at) has))

-- what a write through the slice leaves
pub written : (v : SmallVec Slot) (at : ℕ) (x : Slot) (xs : List Slot) → xs ≡ v.items → refill (length v.items) v.items (set xs at x) ≡ set v.items at x
written v at x xs q = rw q (items-with_items v (set v.items at x) (length-set v.items at x))

-- a table with so much room and these entries
abbrev pub table : ℕ → List Entry → Table
table capacity entries = record { capacity = capacity; entries = entries }

pub same_table : (n : ℕ) (es fs : List Entry) → es ≡ fs → table n es ≡ table n fs
same_table n es fs e = ap (table n) e
