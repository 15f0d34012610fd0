-- Lines and their words.
use Rattle.std.proofs.Common.{◌≡◌, ℕ, suc, ◌+◌, ◌-◌, ◌<◌, ◌≤◌, Bool, true, false, cond, List, [], ◌∷◌, length, take, drop, refl, sym, ap, ◌∙◌, arith, Some, None, length-drop, subst}
use Rattle.std.{specs.Prelude.nat_lt, specs.Prelude.◌==◌, specs.Prelude.not, specs.List.slice_split, specs.List.onto_first, specs.List.position, specs.List.position_or_len, specs.List.AllByRecursion}
use Rattle.std.{proofs.lemmas.Bool.Decides.nat_tests, proofs.lemmas.List.take_all, proofs.lemmas.List.Splits.slice_split_first}
use Rattle.pk_asm.specs.Words.{words}

abbrev is_blank : ℕ → Bool
is_blank byte = byte == 32

-- a place that was found, or none
found : (b : Bool) (n at : ℕ) → cond b (Some n) None ≡ Some at → (b ≡ true) × (n ≡ at)
found true n at e = (refl, cc)
found false n at e = cc

missing : (b : Bool) (n : ℕ) → cond b (Some n) None ≡ None → b ≡ false
missing true n e = cc
missing false n e = refl

pub words_at : (line : List ℕ) (at : ℕ) → position is_blank line ≡ Some at
    → words line ≡ take at line ∷ words (take (length line - (at + 1)) (drop (at + 1) line))
words_at line at e =
    let f = found (nat_lt (position_or_len is_blank line) (length line)) (position_or_len is_blank line) at e in
    let place : position_or_len is_blank line ≡ at = f.1 in
    let inside : position_or_len is_blank line < length line = let h = f.0 in grind (arith, nat_tests) in
    let whole : take (length line - (at + 1)) (drop (at + 1) line) ≡ drop (at + 1) line = take_all (length line - (at + 1)) (drop (at + 1) line) (omega (arith, length-drop (at + 1) line)) in
    slice_split_first is_blank line 0 inside
    ∙ ap (λ (n : ℕ). take n line ∷ words (drop (n + 1) line)) place
    ∙ ap (λ (xs : List ℕ). take at line ∷ words xs) (sym whole)

no_blank_more : (b : Bool) (x n : ℕ) (xs : List ℕ) (ws : List (List ℕ)) → suc (length xs) ≤ cond (not b) (1 + n) 0 → (length xs ≤ n → ws ≡ xs ∷ []) → cond b ([] ∷ ws) (onto_first x ws) ≡ (x ∷ xs) ∷ []
no_blank_more true x n xs ws h more = absurd (omega arith)
no_blank_more false x n xs ws h more = ap (onto_first x) (more (omega arith))

no_blank : (xs : List ℕ) → length xs ≤ position_or_len is_blank xs → slice_split is_blank xs ≡ xs ∷ []
no_blank [] h = refl
no_blank (x ∷ xs) h = no_blank_more (is_blank x) x (position_or_len is_blank xs) xs (slice_split is_blank xs) h (no_blank xs)

pub words_whole : (line : List ℕ) → position is_blank line ≡ None → words line ≡ line ∷ []
words_whole line e =
    let past = missing (nat_lt (position_or_len is_blank line) (length line)) (position_or_len is_blank line) e in
    no_blank line (grind (arith, nat_tests))

-- ---- no word is longer than its line

abbrev AreShort : ℕ → List (List ℕ) → Type 0
AreShort n ws = AllByRecursion (λ word. length word ≤ n) ws

shorter : (n : ℕ) (ws : List (List ℕ)) → AreShort n ws → AreShort (suc n) ws
shorter n [] h = tt
shorter n (w ∷ ws) h = (omega (arith, h.0), shorter n ws h.1)

onto_short : (n x : ℕ) (ws : List (List ℕ)) → AreShort n ws → 0 < suc n → AreShort (suc n) (onto_first x ws)
onto_short n x [] h _ = (omega arith, tt)
onto_short n x (w ∷ ws) h _ = (omega (arith, h.0), shorter n ws h.1)

split_short : (b : Bool) (x n : ℕ) (ws : List (List ℕ)) → AreShort n ws → AreShort (suc n) (cond b ([] ∷ ws) (onto_first x ws))
split_short true x n ws h = (omega arith, shorter n ws h)
split_short false x n ws h = onto_short n x ws h (omega arith)

words_short : (line : List ℕ) → AreShort (length line) (words line)
words_short [] = (omega arith, tt)
words_short (x ∷ xs) = split_short (is_blank x) x (length xs) (words xs) (words_short xs)

weaker : (P Q : List ℕ → Type 0) → ((w : List ℕ) → P w → Q w) → (ws : List (List ℕ)) → AllByRecursion P ws → AllByRecursion Q ws
weaker P Q f [] h = tt
weaker P Q f (w ∷ ws) h = (f w h.0, weaker P Q f ws h.1)

-- the operands of a line
operands_short : (line name : List ℕ) (ws operands : List (List ℕ)) → words line ≡ name ∷ ws → operands ≡ ws → AreShort (length line) operands
operands_short line name ws operands e same =
    let all : AreShort (length line) (name ∷ ws) = subst (λ (vs : List (List ℕ)). AreShort (length line) vs) e (words_short line) in
    subst (λ (vs : List (List ℕ)). AreShort (length line) vs) (sym same) all.1

pub operands_fit : (n : ℕ) (line name : List ℕ) (ws operands : List (List ℕ)) → words line ≡ name ∷ ws → operands ≡ ws → length line ≤ n
    → AllByRecursion (λ word. length word ≤ n) operands
operands_fit n line name ws operands e same fits =
    weaker (λ word. length word ≤ length line) (λ word. length word ≤ n) (λ w h. omega arith) operands (operands_short line name ws operands e same)

pub operands_below : (n : ℕ) (line name : List ℕ) (ws operands : List (List ℕ)) → words line ≡ name ∷ ws → operands ≡ ws → length line < n
    → AllByRecursion (λ word. length word < n) operands
operands_below n line name ws operands e same fits =
    weaker (λ word. length word ≤ length line) (λ word. length word < n) (λ w h. omega arith) operands (operands_short line name ws operands e same)
