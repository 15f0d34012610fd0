-- Pages are cut from a text that zeros fill up.
use Rattle.std.proofs.Common.{◌≡◌, ℕ, zero, suc, ◌+◌, ◌-◌, ◌≤◌, List, [], ◌∷◌, ◌++◌, length, take, drop, refl, sym, ap, ◌∙◌, arith, length-append, length-drop}
use Rattle.std.{specs.Prelude.min, proofs.lemmas.List.append_assoc, proofs.lemmas.List.take-replicate, proofs.lemmas.List.drop-replicate, proofs.lemmas.List.length-take}
use Rattle.pk_base.specs.Fields.{padded, zeros}

pub drop_past : (n : ℕ) (xs ys : List ℕ) → drop n (xs ++ ys) ≡ drop n xs ++ drop (n - length xs) ys
drop_past zero xs ys = let e : 0 - length xs ≡ 0 = omega arith in rw e refl
drop_past (suc n) [] ys = let e : suc n - 0 ≡ suc n = omega arith in ap (λ (k : ℕ). drop k ys) (sym e)
drop_past (suc n) (x ∷ xs) ys =
    let e : suc n - suc (length xs) ≡ n - length xs = omega arith in
    drop_past n xs ys ∙ ap (λ (k : ℕ). drop n xs ++ drop k ys) (sym e)

pub take_past : (n : ℕ) (xs ys : List ℕ) → take n (xs ++ ys) ≡ take n xs ++ take (n - length xs) ys
take_past zero xs ys = let e : 0 - length xs ≡ 0 = omega arith in rw e refl
take_past (suc n) [] ys = let e : suc n - 0 ≡ suc n = omega arith in ap (λ (k : ℕ). take k ys) (sym e)
take_past (suc n) (x ∷ xs) ys =
    let e : suc n - suc (length xs) ≡ n - length xs = omega arith in
    ap (λ (r : List ℕ). x ∷ r) (take_past n xs ys ∙ ap (λ (k : ℕ). take n xs ++ take k ys) (sym e))

-- a part of a padded text is the padded part of the text
pub padded_cut : (a n size : ℕ) (xs : List ℕ) → a + n ≤ size → length xs ≤ size → take n (drop a (padded size xs)) ≡ padded n (take n (drop a xs))
padded_cut a n size xs room fits =
    let k : ℕ = size - length xs in
    let ys : List ℕ = drop a xs in
    let z : ℕ = k - (a - length xs) in
    let len : length ys ≡ length xs - a = length-drop a xs in
    let part : length (take n ys) ≡ min n (length ys) = length-take n ys in
    let all : n - length ys ≡ n - length (take n ys) = omega arith in
    ap (λ (r : List ℕ). take n r) (drop_past a xs (zeros k) ∙ ap (λ (r : List ℕ). ys ++ r) (drop-replicate (a - length xs) k 0))
    ∙ take_past n ys (zeros z)
    ∙ ap (λ (r : List ℕ). take n ys ++ r) (take-replicate (n - length ys) z 0 (omega arith) ∙ ap zeros all)

-- a text before a padded one
pub padded_front : (size : ℕ) (xs ys : List ℕ) → length xs ≤ size → padded size (xs ++ ys) ≡ xs ++ padded (size - length xs) ys
padded_front size xs ys fits =
    let e : size - length (xs ++ ys) ≡ size - length xs - length ys = omega (arith, length-append xs ys) in
    append_assoc xs ys (zeros (size - length (xs ++ ys))) ∙ ap (λ (n : ℕ). xs ++ (ys ++ zeros n)) e
