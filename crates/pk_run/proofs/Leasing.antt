-- Leases of a run whose frames are freed, and those of all others.
use Rattle.std.proofs.Common.{◌≡◌, ◌≢◌, ℕ, zero, suc, ◌≤◌, Bool, true, false, cond, List, [], ◌∷◌, ◌++◌, length, slice_get, get_or, Some, refl, sym, ap, subst, ◌∙◌, arith, append_assoc, length-set}
use Rattle.std.proofs.lemmas.Option.{slice_get_within}
use Rattle.pk_pin.specs.Frames.{Frames, AreLeases, IsLeased, given, times}
use Rattle.pk_pin.proofs.Leases.{times-append, lease_alone, leases_given}
use Rattle.pk_run.specs.Leases.{AreLeased, LeavesOthers, LeavesOtherLeases, LeasesAreLeased, LeasesAreApart, given_all}
use Rattle.pk_run.{proofs.Others.RunOnFlash-given, proofs.Others.among, proofs.Others.set_other, proofs.Standing.get_left, proofs.Standing.get_right}

-- the row with its first lease put to those before
moved : (a : Frames) (before ls behind : List ℕ) (l : ℕ) → AreLeases a (before ++ ((l ∷ ls) ++ behind)) → AreLeases a ((before ++ l ∷ []) ++ (ls ++ behind))
moved a before ls behind l all = subst (λ (xs : List ℕ). AreLeases a xs) (sym (append_assoc before (l ∷ []) (ls ++ behind))) all

pub are_leased : LeasesAreLeased
are_leased a before [] behind all = record { leased = λ i l got. cc; different = λ i j l got had. cc }
are_leased a before (l ∷ ls) behind all =
    let one = lease_alone a before (ls ++ behind) l all in
    let rest = are_leased a (before ++ l ∷ []) ls behind (moved a before ls behind l all) in
    let parts = times-append l before (ls ++ behind) in
    let own = times-append l ls behind in
    let zeroes = one.1 in
    let none : times l ls ≡ 0 = omega (arith, parts, own, zeroes) in
    record { leased = leased_at one.0 rest; different = λ i j x got had. different_at rest none i j x got had }
  where
    leased_at : slice_get a.used l ≡ Some true → AreLeased a ls → (i x : ℕ) → slice_get (l ∷ ls) i ≡ Some x → slice_get a.used x ≡ Some true
    leased_at one rest zero x got = subst (λ (y : ℕ). slice_get a.used y ≡ Some true) (let e : l ≡ x = cc in e) one
    leased_at one rest (suc i) x got = rest.leased i x got

    different_at : AreLeased a ls → times l ls ≡ 0 → (i j x : ℕ) → slice_get (l ∷ ls) i ≡ Some x → slice_get (l ∷ ls) j ≡ Some x → i ≡ j
    different_at rest none zero zero x got had = refl
    different_at rest none zero (suc j) x got had = absurd (among ls j l (had ∙ ap (λ (y : ℕ). Some y) (let e : x ≡ l = cc in e)) none)
    different_at rest none (suc i) zero x got had = absurd (among ls i l (got ∙ ap (λ (y : ℕ). Some y) (let e : x ≡ l = cc in e)) none)
    different_at rest none (suc i) (suc j) x got had = ap suc (rest.different i j x got had)

pub at_most_one : (b : Bool) → cond {A = ℕ} b 1 0 ≤ 1
at_most_one true = omega arith
at_most_one false = omega arith

pub are_apart : LeasesAreApart
are_apart a leases others all i l got =
    let here = among leases i l got in
    let parts = times-append l leases others in
    let whole = all l in
    let one = at_most_one (get_or a.used l false) in
    omega (arith, here, parts, whole, one)

-- ---- freed frames

-- a run that has none of the frames is as before
pub stands_back : (a : Frames) (ls : List ℕ) → LeavesOthers ls a (given_all a ls)
stands_back a [] r flash es none s = s
stands_back a (l ∷ ls) r flash es none s = RunOnFlash-given r flash (given_all a ls) es l (none 0 l refl) (stands_back a ls r flash es (λ i x got. none (suc i) x got) s)

pub leases_back : (a : Frames) (ls : List ℕ) → LeavesOtherLeases ls a (given_all a ls)
leases_back a [] before behind all = all
leases_back a (l ∷ ls) before behind all =
    let others = leases_back a ls (before ++ l ∷ []) behind (moved a before ls behind l all) in
    leases_given (given_all a ls) before behind l (subst (λ (xs : List ℕ). AreLeases (given_all a ls) xs) (append_assoc before (l ∷ []) behind) others)

-- ---- one after another, the last first

get_front : (xs ys : List ℕ) (i x : ℕ) → slice_get xs i ≡ Some x → slice_get (xs ++ ys) i ≡ Some x
get_front xs ys i x got = get_left xs ys i (slice_get_within xs i x got) ∙ got

pub last_leased : (arena : Frames) (all xs : List ℕ) (l : ℕ) → all ≡ xs ++ l ∷ [] → AreLeased arena all → IsLeased arena l
last_leased arena all xs l is leased = leased.leased (length xs) l (ap (λ (ys : List ℕ). slice_get ys (length xs)) is ∙ get_right xs (l ∷ []) (length xs) refl)

front_leased : (arena : Frames) (xs : List ℕ) (l : ℕ) → AreLeased arena (xs ++ l ∷ []) → AreLeased (given arena l) xs
front_leased arena xs l leased = record {
  leased = λ i x got.
      let ne : x ≢ l = λ e.
      let same = leased.different i (length xs) x (get_front xs (l ∷ []) i x got) (get_right xs (l ∷ []) (length xs) refl ∙ ap (λ (y : ℕ). Some y) (sym e)) in
      let small = slice_get_within xs i x got in
      absurd (omega (arith, same, small)) in
      set_other arena.used x l _ ne ∙ leased.leased i x (get_front xs (l ∷ []) i x got);
  different = λ i j x got had. leased.different i j x (get_front xs (l ∷ []) i x got) (get_front xs (l ∷ []) j x had);
}

pub still_leased : (arena new : Frames) (all xs : List ℕ) (l : ℕ) → all ≡ xs ++ l ∷ [] → new ≡ given arena l → AreLeased arena all → AreLeased new xs
still_leased arena new all xs l is given_is leased = rw given_is (front_leased arena xs l (subst (λ (ys : List ℕ). AreLeased arena ys) is leased))

pub row_next : (first all xs others : List ℕ) (l : ℕ) → first ≡ all ++ others → all ≡ xs ++ l ∷ [] → first ≡ xs ++ (l ∷ others)
row_next first all xs others l row is = row ∙ ap (λ (ys : List ℕ). ys ++ others) is ∙ append_assoc xs (l ∷ []) others

-- ---- the arena

pub given_bytes : (a : Frames) (ls : List ℕ) → (given_all a ls).page_bytes ≡ a.page_bytes
given_bytes a [] = refl
given_bytes a (l ∷ ls) = given_bytes a ls

pub given_size : (a : Frames) (ls : List ℕ) → length (given_all a ls).used ≡ length a.used
given_size a [] = refl
given_size a (l ∷ ls) = length-set (given_all a ls).used l false ∙ given_size a ls
