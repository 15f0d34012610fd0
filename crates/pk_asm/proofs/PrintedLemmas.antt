-- What is printed, and that it is assembled to the same.
use Rattle.std.proofs.Common.{◌≡◌, ℕ, suc, ◌^◌, ◌<◌, ◌≤◌, Bool, true, false, cond, List, [], ◌∷◌, ◌++◌, length, get_or, refl, sym, ap, ◌∙◌, subst, arith, Option, Some, None}
use Rattle.std.proofs.lemmas.Bool.Decides.{nat_tests}
use Rattle.std.{specs.Prelude.◌==◌, specs.Prelude.◌||◌, specs.Prelude.codes, specs.Prelude.bytes_eq, specs.Prelude.option_map, proofs.lemmas.Slice.Eq.bytes_eq-Decides}
use Rattle.pk_base.specs.Fields.{AreBytes}
use Rattle.pk_nvme.{specs.Command.command, specs.Text.hex_text, specs.Text.bytes_text}
use Rattle.pk_asm.{specs.Words.words, specs.Form.form_entry, specs.Line.says, specs.Line.entry_said, specs.Line.raw_of, specs.Line.entry, specs.declared.form.Form.Form}
use Rattle.pk_asm.specs.Printed.{behind_blanks, line_of, form_line, raw_line, candidate, that_gives, form_that_gives, line_for, printed, IsSaid, Prints}
use Rattle.pk_asm.specs.declared.form.Form.TheVariants.{Store}
use Rattle.pk_asm.proofs.TextLemmas.{words-line_of, hex_entry-text, bytes_of-text, free_hex, free_bytes}
use Rattle.pk_asm.proofs.FormLemmas.{IsForm, named_is, form_name, form_operands, form_words-parts, name_free, operands_free, form_said}
use Rattle.pk_asm.{proofs.LineLemmas.says_entry, proofs.LineLemmas.said_named, proofs.ReadLemmas.candidate_of, proofs.ReadLemmas.candidate_is}

-- ---- what the lines say

begun : (n : ℕ) (b : Bool) → b ≡ false → (suc n == 0 || b) ≡ false
begun n b other = let some : (suc n == 0) ≡ false = grind (arith, nat_tests) in rw (some, other) refl

no_comment : (form : Form) (rest : List ℕ) → (length (form_name form ++ rest) == 0 || get_or (form_name form ++ rest) 0 0 == 35) ≡ false
no_comment (Store key size options) rest = begun _ _ refl
no_comment form rest = begun _ _ refl

no_raw : (form : Form) → bytes_eq (form_name form) (codes "raw") ≡ false
no_raw (Store key size options) = refl
no_raw form = refl

says_form : (number : ℕ) (form : Form) (bytes : List ℕ) → IsForm form bytes → AreBytes bytes → length (form_line form bytes) ≤ 2200000
    → says number (form_line form bytes) ≡ Some (entry (form_entry number form) bytes)
says_form number form bytes h fits short =
    let name : List ℕ = form_name form in
    let operands : List (List ℕ) = form_operands form bytes in
    let line : List ℕ = line_of (name ∷ operands) in
    let spelled : form_line form bytes ≡ line = ap line_of (form_words-parts form bytes) in
    let sized : length line ≤ 2200000 = subst (λ xs. length xs ≤ 2200000) spelled short in
    let split : words line ≡ name ∷ operands = words-line_of name operands (name_free form) (operands_free form bytes h) in
    ap (says number) spelled
    ∙ says_entry number line sized (no_comment form (behind_blanks operands))
    ∙ ap (option_map (λ (said : List ℕ × List ℕ). entry said.0 said.1)) (
    said_named number line name operands operands split refl (no_raw form)
    ∙ ap (option_map (λ (s : Form × List ℕ). (form_entry number s.0, s.1))) (form_said form bytes h fits)
    )

says_raw : (number : ℕ) (e bytes : List ℕ) → length e ≡ 64 → AreBytes e → AreBytes bytes → length (raw_line e bytes) ≤ 2200000 → says number (raw_line e bytes) ≡ Some (entry e bytes)
unfolding entry_said
says_raw number e bytes sized of_bytes fits short =
    let operands : List (List ℕ) = hex_text e ∷ bytes_text bytes ∷ [] in
    let line : List ℕ = raw_line e bytes in
    let split : words line ≡ codes "raw" ∷ operands = words-line_of (codes "raw") operands refl (free_hex e, (free_bytes bytes, tt)) in
    let raw : raw_of operands ≡ Some (e, bytes) = rw (hex_entry-text e sized of_bytes, bytes_of-text bytes fits) refl in
    says_entry number line short (begun _ _ refl)
    ∙ ap (option_map (λ (said : List ℕ × List ℕ). entry said.0 said.1)) (ap (entry_said number) split ∙ raw)

-- ---- which line is printed

gives_some : (number : ℕ) (e : List ℕ) (o : Option Form) (form : Form) → that_gives number e o ≡ Some form → (o ≡ Some form) × (form_entry number form ≡ e)
gives_some number e None form h = cc
gives_some number e (Some f) form h = tested (bytes_eq (form_entry number f) e) refl h
  where
    tested : (b : Bool) → bytes_eq (form_entry number f) e ≡ b → cond b (Some f) None ≡ Some form → (Some f ≡ Some form) × (form_entry number form ≡ e)
    tested true is held =
        let same : f ≡ form = cc in
        (held, ap (form_entry number) (sym same) ∙ (bytes_eq-Decides (form_entry number f) e).0 is)
    tested false is held = cc

gives_this : (number : ℕ) (e : List ℕ) (o : Option Form) (form : Form) → o ≡ Some form → form_entry number form ≡ e → that_gives number e o ≡ Some form
gives_this number e o form h same =
    let equal : bytes_eq (form_entry number form) e ≡ true =
    subst (λ xs. bytes_eq (form_entry number form) xs ≡ true) same ((bytes_eq-Decides (form_entry number form) (form_entry number form)).1 refl) in
    ap (that_gives number e) h ∙ rw equal refl

-- the form that a named line says is the one that the entry has
found : (number : ℕ) (e bytes : List ℕ) (form : Form) → IsSaid form bytes → form_entry number form ≡ e → candidate (command e bytes) ≡ Some form
found number e bytes form said same =
    subst (λ xs. candidate (command xs bytes) ≡ Some form) same (candidate_of number form bytes (named_is said.name said.operands form bytes said.few said.said))

said_by : (form : Form) (bytes : List ℕ) → IsForm form bytes → AreBytes bytes → length bytes < 2 ^ 32 → IsSaid form bytes
said_by form bytes h fits few = record { name = form_name form; operands = form_operands form bytes; said = form_said form bytes h fits; few = few }

few_bytes : (form : Form) (bytes : List ℕ) → IsForm form bytes → length bytes < 2 ^ 32
few_bytes (Store key size options) bytes h = omega (arith, h.1, h.2)
few_bytes form bytes h = let none = ap length h.0 in omega arith

prints_form : (number : ℕ) (e bytes : List ℕ) (form : Form) → length e ≡ 64 → AreBytes e → AreBytes bytes
    → that_gives number e (candidate (command e bytes)) ≡ Some form → Prints number e bytes (form_line form bytes)
prints_form number e bytes form sized of_bytes fits gives =
    let g = gives_some number e (candidate (command e bytes)) form gives in
    let is : IsForm form bytes = candidate_is e bytes form sized of_bytes g.0 in
    record {
      named = λ other said same. let one : form ≡ other = let both = sym g.0 ∙ found number e bytes other said same in cc in ap (λ (f : Form). form_line f bytes) one;
      raw = λ none. absurd (none form (said_by form bytes is fits (few_bytes form bytes is)) g.1);
      same = λ short. says_form number form bytes is fits short ∙ ap (λ (xs : List ℕ). Some (entry xs bytes)) g.1;
    }

prints_raw : (number : ℕ) (e bytes : List ℕ) → length e ≡ 64 → AreBytes e → AreBytes bytes → that_gives number e (candidate (command e bytes)) ≡ None → Prints number e bytes (raw_line e bytes)
prints_raw number e bytes sized of_bytes fits gives = record {
  named = λ form said same. absurd (let clash = sym gives ∙ gives_this number e (candidate (command e bytes)) form (found number e bytes form said same) same in cc);
  raw = λ _. refl;
  same = λ short. says_raw number e bytes sized of_bytes fits short;
}

pub prints : (number : ℕ) (e bytes : List ℕ) → length e ≡ 64 → AreBytes e → AreBytes bytes → Prints number e bytes (printed number e bytes)
unfolding form_that_gives
prints number e bytes sized of_bytes fits = step (that_gives number e (candidate (command e bytes))) refl
  where
    step : (o : Option Form) → that_gives number e (candidate (command e bytes)) ≡ o → Prints number e bytes (line_for o e bytes)
    step (Some form) gives = prints_form number e bytes form sized of_bytes fits gives
    step None gives = prints_raw number e bytes sized of_bytes fits gives
