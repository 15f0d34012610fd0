-- A list with rising keys, of slots that are found without it: what a lookup by another way answers.
use Rattle.std.proofs.Common.{◌≡◌, ℕ, zero, suc, ◌<◌, false, T, List, [], ◌∷◌, length, get_or, set, refl, ap, sym, arith, Option, Some, None, Ordering, Less, Equal, Greater}
use Rattle.std.{specs.Ordering.is_lt}
use Rattle.std.specs.FinMap.Entries.{put, find, is_sorted}
use mathlib.Core.Bool.{false≢true}
use Rattle.pk_base.{specs.Key.Key, specs.Key.key_cmp, specs.Entry.Entry, specs.Entry.Place, proofs.KeyLemmas.turned, proofs.KeyLemmas.below_less, proofs.KeyLemmas.missing}
use Rattle.pk_base.proofs.Logic.{left_part, right_part, lt_less}
use Rattle.pk_buf.{specs.declared.slot.Slot.Slot, specs.Table.has_key, specs.Table.numbered, specs.Table.sorted, proofs.Places.above_at, proofs.Places.never_below}

same_cmp : (k : Key) (o : Ordering) → key_cmp k k ≡ o → key_cmp k k ≡ Equal
same_cmp k Less q = absurd (never_below k (ap is_lt q))
same_cmp k Equal q = q
same_cmp k Greater q = absurd (never_below k (ap is_lt (turned k k Greater q)))

-- an entry of the list is found by its key
pub find_member : (ss : List Slot) (xs : List ℕ) (j : ℕ) → T (is_sorted key_cmp (sorted ss xs)) → j < length xs
    → find key_cmp (numbered ss (get_or xs j 0)).0 (sorted ss xs) ≡ Some (numbered ss (get_or xs j 0)).1
find_member ss [] j up h = absurd (omega arith)
find_member ss (x ∷ xs) zero up h = rw (same_cmp (numbered ss x).0 _ refl) refl
find_member ss (x ∷ xs) (suc j) up h =
    let k = (numbered ss (get_or xs j 0)).0 in
    let q : key_cmp (numbered ss x).0 k ≡ Less = lt_less _ (above_at ss (numbered ss x).0 xs (left_part _ _ up) j 0 (omega arith)) in
    let t : key_cmp k (numbered ss x).0 ≡ Greater = turned (numbered ss x).0 k Less q in
    rw t (find_member ss xs j (right_part _ _ up) (omega arith))

-- a write over the entry of its key is the entry put
pub set_member : (ss : List Slot) (xs : List ℕ) (j : ℕ) (v : Option Place) → T (is_sorted key_cmp (sorted ss xs)) → j < length xs
    → set (sorted ss xs) j ((numbered ss (get_or xs j 0)).0, v) ≡ put key_cmp (numbered ss (get_or xs j 0)).0 v (sorted ss xs)
set_member ss [] j v up h = absurd (omega arith)
set_member ss (x ∷ xs) zero v up h = rw (same_cmp (numbered ss x).0 _ refl) refl
set_member ss (x ∷ xs) (suc j) v up h =
    let k = (numbered ss (get_or xs j 0)).0 in
    let q : key_cmp (numbered ss x).0 k ≡ Less = lt_less _ (above_at ss (numbered ss x).0 xs (left_part _ _ up) j 0 (omega arith)) in
    let t : key_cmp k (numbered ss x).0 ≡ Greater = turned (numbered ss x).0 k Less q in
    rw t (ap (λ es. numbered ss x ∷ es) (set_member ss xs j v (right_part _ _ up) (omega arith)))

-- a key that no entry has is not found
none_step : (o : Ordering) (k : Key) (f : Entry) (fs : List Entry) → key_cmp f.0 k ≡ o → has_key k f ≡ false → T (is_sorted key_cmp (f ∷ fs))
    → find key_cmp k fs ≡ None → find key_cmp k (f ∷ fs) ≡ None
none_step Less k f fs q lacks up ih = rw (turned f.0 k Less q) ih
none_step Equal k f fs q lacks up ih = absurd (false≢true (sym (rw q at lacks)))
none_step Greater k f fs q lacks up ih = rw (turned f.0 k Greater q) (missing k fs (below_less k f.0 fs (turned f.0 k Greater q) (left_part _ _ up)))

pub find_none : (ss : List Slot) (xs : List ℕ) (k : Key) → T (is_sorted key_cmp (sorted ss xs)) → ((j : ℕ) → j < length xs → has_key k (numbered ss (get_or xs j 0)) ≡ false)
    → find key_cmp k (sorted ss xs) ≡ None
find_none ss [] k up lacks = refl
find_none ss (x ∷ xs) k up lacks =
    none_step (key_cmp (numbered ss x).0 k) k (numbered ss x) (sorted ss xs) refl (lacks 0 (omega arith)) up
    (find_none ss xs k (right_part _ _ up) (λ j h. lacks (suc j) (omega arith)))
