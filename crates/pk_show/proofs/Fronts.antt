-- How long the start of a line is.
use Rattle.std.proofs.Common.{◌≡◌, ℕ, ◌+◌, Bool, false, ◌==◌, List, [], ◌∷◌, ◌++◌, length, length-append, sym, ap, ◌∙◌, arith}
use Rattle.std.{specs.Prelude.if◌then◌else◌, specs.Prelude.codes, proofs.lemmas.Bool.Decides.nat_tests, proofs.lemmas.List.append-nil}
use Rattle.hex.specs.Hex.{encode_with}
use Rattle.pk_base.specs.Fields.{u32_at}
use Rattle.pk_nvme.{specs.Text.number_text, specs.Text.hex_text, specs.Text.bytes_text, proofs.TextLemmas.length-hex_text}
use Rattle.pk_show.{specs.Shown.words, specs.Shown.front, specs.Shown.head_of, specs.Shown.shown, specs.Shown.shown_head, specs.declared.head.Head.Head}

abbrev pub dash : Bool → List ℕ
dash b = if b then codes "-" else []

length-words : (h : Head) → length (words h) ≡ length (number_text h.cid) + length (number_text h.result) + length (number_text h.reads) + 35
length-words h = simp length-append (omega (arith, length-hex_text (h.status ∷ [])))

pub length-front : (h : Head) (b : Bool) → (h.data_len == 0) ≡ b
    → length (front h) ≡ length (number_text h.cid) + length (number_text h.result) + length (number_text h.reads) + 35 + length (dash b)
length-front h b e =
    length-append (words h) (dash (h.data_len == 0)) ∙ ap (λ (d : Bool). length (words h) + length (dash d)) e ∙ ap (λ (n : ℕ). n + length (dash b)) (length-words h)

-- the start, the digits and a line feed are the line
joined : (ws bytes : List ℕ) (n : ℕ) → length bytes ≡ n → ws ++ dash (n == 0) ++ hex_text bytes ++ codes "\n" ≡ ws ++ bytes_text bytes ++ codes "\n"
unfolding encode_with
joined ws [] n e = ap (λ (k : ℕ). ws ++ dash (k == 0) ++ hex_text [] ++ codes "\n") (sym e) ∙ ap (λ (xs : List ℕ). xs ++ codes "\n") (append-nil (ws ++ codes "-"))
joined ws (byte ∷ bytes) n e =
    let some : (n == 0) ≡ false = grind (arith, nat_tests) in
    ap (λ (b : Bool). ws ++ dash b ++ hex_text (byte ∷ bytes) ++ codes "\n") some ∙ ap (λ (xs : List ℕ). xs ++ hex_text (byte ∷ bytes) ++ codes "\n") (append-nil ws)

pub front_and_digits : (head bytes : List ℕ) → length bytes ≡ u32_at head 20 → shown_head head ++ hex_text bytes ++ codes "\n" ≡ shown head bytes
front_and_digits head bytes e = joined (words (head_of head)) bytes (u32_at head 20) e
