-- The text of a key: digits written over zeros.
use Rattle.std.proofs.Common.{◌≡◌, ℕ, suc, ◌+◌, ◌-◌, ◌<◌, ◌≤◌, List, ◌++◌, length, take, drop, replicate, sym, ap, ◌∙◌, arith}
use Rattle.std.{specs.Prelude.codes, specs.Prelude.decimal, proofs.lemmas.Fmt.length-decimal-le}
use Rattle.std.proofs.lemmas.List.{append_assoc, append-nil, take-append-drop, take-replicate}
use Rattle.pk_nvme.specs.Text.{padded_number}

pub few_digits : (n : ℕ) → n < 5000 → length (decimal n) ≤ 4
few_digits n h = length-decimal-le 4 n (omega arith) (omega (arith, h)) (omega (arith, h))

abbrev pub zeros_text : List ℕ
zeros_text = codes "key:000000000000"

pub key_written : (n start : ℕ) (now : List ℕ) → n < 5000 → start + length (decimal n) ≡ 16 → drop start now ≡ decimal n ++ drop 16 zeros_text → take start now ≡ take start zeros_text
    → now ≡ codes "key:" ++ padded_number 12 n
key_written n start now h at written before =
    let few = few_digits n h in
    let k : ℕ = 12 - length (decimal n) in
    let place : start ≡ suc (suc (suc (suc k))) = omega arith in
    let front : take start zeros_text ≡ codes "key:" ++ replicate k 48 = ap (λ (s : ℕ). take s zeros_text) place ∙ ap (λ (xs : List ℕ). codes "key:" ++ xs) (take-replicate k 12 48 (omega arith)) in
    sym (take-append-drop start now) ∙ ap (λ (xs : List ℕ). xs ++ drop start now) (before ∙ front)
    ∙ ap (λ (xs : List ℕ). codes "key:" ++ replicate k 48 ++ xs) (written ∙ append-nil (decimal n)) ∙ append_assoc (codes "key:") (replicate k 48) (decimal n)
