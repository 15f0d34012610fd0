-- A list cut into pieces: reading and writing one, and counts of a list of tests.
use Rattle.std.proofs.Common.{◌≡◌, ℕ, zero, suc, ◌+◌, ◌-◌, ◌*◌, ◌<◌, ◌≤◌, Bool, true, false, cond, List, [], ◌∷◌, ◌++◌, length, get_or, take, drop, refl, ap, ◌∙◌, arith, length-take, length-drop}
use Rattle.std.proofs.Common.{get_or-set_same}
use Rattle.std.{proofs.lemmas.Slice.take-put_mid_below, specs.Prelude.not, specs.Prelude.count_by, specs.Prelude.slice_get, specs.Prelude.Some, proofs.Math.ListN.set}
use Rattle.std.{proofs.Math.Nat.suc-mul, proofs.Math.Nat.mul-le-mul_right, proofs.lemmas.List.Sums.sum_by-set, proofs.lemmas.List.Sums.sum_by-cons}
use Rattle.std.proofs.lemmas.List.{drop-take, drop-drop, drop_at, take_at, drop-append-le}
use Rattle.std.proofs.lemmas.Option.{slice_get_within, get_or_from_slice_get}
use borrow.Rule.Slice.PartMut.{put_mid}
use Rattle.pk_pin.specs.Frames.{chunks}

-- a piece ends within the pieces
pub piece_end : (i n p : ℕ) → i < n → i * p + p ≤ n * p
piece_end i n p h = omega (arith, mul-le-mul_right {m = suc i} {n = n} p (omega arith), suc-mul i p)

-- a part within a list has its length
pub length-piece : (a k : ℕ) (xs : List ℕ) → a + k ≤ length xs → length (take (a + k - a) (drop a xs)) ≡ k
length-piece a k xs h =
    let e : a + k - a ≡ k = omega arith in
    rw (e, length-take) (simp length-drop (omega arith))

pub length-chunks : (p n : ℕ) (xs : List ℕ) → length (chunks p n xs) ≡ n
length-chunks p zero xs = refl
length-chunks p (suc n) xs = ap suc (length-chunks p n (drop p xs))

pub get_or-chunks : (p n : ℕ) (xs : List ℕ) (i : ℕ) (d : List ℕ) → i < n → get_or (chunks p n xs) i d ≡ take p (drop (i * p) xs)
get_or-chunks p zero xs i d h = absurd (omega arith)
get_or-chunks p (suc n) xs zero d h = let e : 0 * p ≡ 0 = omega arith in rw e refl
get_or-chunks p (suc n) xs (suc i) d h =
    get_or-chunks p n (drop p xs) i d (omega arith)
    ∙ ap (take p) (drop-drop (i * p) p xs ∙ ap (λ k. drop k xs) (let e : p + i * p ≡ suc i * p = omega (arith, suc-mul i p) in e))

-- a write beyond the first p elements, seen after these
pub drop-put_mid_above : (p b k : ℕ) (xs ys : List ℕ) → p + b ≤ length xs → drop p (put_mid (p + b) k xs ys) ≡ put_mid b k (drop p xs) ys
drop-put_mid_above p b k xs ys h =
    let len : p ≤ length (take (p + b) xs) = simp length-take (omega arith) in
    drop-append-le p (take (p + b) xs) (ys ++ drop k (drop (p + b) xs)) len
    ∙ rw (drop-take p b xs, drop-drop b p xs) refl

-- a write of a whole piece sets that piece
pub chunks-put_mid : (p n : ℕ) (xs ys : List ℕ) (i a k : ℕ) → i < n → n * p ≤ length xs → length ys ≡ p → a ≡ i * p → k ≡ p → chunks p n (put_mid a k xs ys) ≡ set (chunks p n xs) i ys
chunks-put_mid p zero xs ys i a k h room l e f = absurd (omega arith)
chunks-put_mid p (suc n) xs ys zero a k h room l e f =
    let e0 : a ≡ 0 = omega arith in
    rw (e0, f, take_at ys (drop p xs) p l, drop_at ys (drop p xs) p l) refl
chunks-put_mid p (suc n) xs ys (suc i) a k h room l e f =
    let e1 : a ≡ p + i * p = omega (arith, suc-mul i p) in
    let end : suc i * p + p ≤ suc n * p = piece_end (suc i) (suc n) p h in
    let first : take p (put_mid (p + i * p) k xs ys) ≡ take p xs = take-put_mid_below (p + i * p) k xs ys p (omega arith) (omega (arith, suc-mul i p)) in
    let rest : chunks p n (put_mid (i * p) k (drop p xs) ys) ≡ set (chunks p n (drop p xs)) i ys =
    chunks-put_mid p n (drop p xs) ys i (i * p) k (omega arith) (simp length-drop (omega (arith, suc-mul n p))) l refl f in
    rw (e1, first, drop-put_mid_above p (i * p) k xs ys (omega (arith, suc-mul i p)), rest) refl

-- which then reads as what was written
pub written_piece : (p n : ℕ) (xs ys : List ℕ) (i a k : ℕ) → i < n → n * p ≤ length xs → length ys ≡ p → a ≡ i * p → k ≡ p → get_or (chunks p n (put_mid a k xs ys)) i [] ≡ ys
written_piece p n xs ys i a k h room l e f =
    rw (chunks-put_mid p n xs ys i a k h room l e f) (get_or-set_same (chunks p n xs) i ys [] (rw (length-chunks p n xs) h))

-- a count after one test turned
pub free-taken : (us : List Bool) (i : ℕ) → slice_get us i ≡ Some false → count_by not (set us i true) + 1 ≡ count_by not us
free-taken us i h = grind (arith, sum_by-set (λ x. cond (not x) 1 0) us i true false (slice_get_within us i false h), get_or_from_slice_get us i false false h)

pub free-given : (us : List Bool) (i : ℕ) → slice_get us i ≡ Some true → count_by not (set us i false) ≡ count_by not us + 1
free-given us i h = grind (arith, sum_by-set (λ x. cond (not x) 1 0) us i false true (slice_get_within us i true h), get_or_from_slice_get us i true true h)

pub free-and-leased : (us : List Bool) → count_by not us + count_by (λ b. b) us ≡ length us
free-and-leased [] = refl
free-and-leased (true ∷ us) = omega (arith, free-and-leased us, sum_by-cons {X = Bool})
free-and-leased (false ∷ us) = omega (arith, free-and-leased us, sum_by-cons {X = Bool})
