-- What lines say.
use Rattle.std.proofs.Common.{◌≡◌, ℕ, ◌≤◌, false, List, ◌∷◌, length, get_or, refl, sym, ap, ◌∙◌, arith, Option, Some, None}
use Rattle.std.{specs.Prelude.option_map, specs.Prelude.nat_lt, specs.Prelude.◌==◌, specs.Prelude.◌||◌, specs.Prelude.codes, specs.Prelude.bytes_eq, proofs.lemmas.Bool.Decides.nat_tests}
use Rattle.pk_nvme.specs.Bytes.{RoomyList}
use Rattle.pk_asm.{specs.Words.words, specs.Form.form_entry, specs.declared.form.Form.Form}
use Rattle.pk_asm.specs.Line.{named_of, says, entry_said, entry, entry_in, line_bytes, brought}

-- a line that is no comment, and not too long
pub says_entry : (number : ℕ) (line : List ℕ) → length line ≤ 2200000 → (length line == 0 || get_or line 0 0 == 35) ≡ false
    → says number line ≡ option_map (λ said. entry said.0 said.1) (entry_said number (words line))
unfolding says
says_entry number line short plain =
    let fits : nat_lt 2200000 (length line) ≡ false = grind (arith, nat_tests) in
    rw (fits, plain) refl

pub no_comment : (line : List ℕ) → (length line == 0) ≡ false → (get_or line 0 0 ≡ 35 → ⊥) → (length line == 0 || get_or line 0 0 == 35) ≡ false
no_comment line some other = grind (arith, nat_tests)

-- what is said of it
pub entry_some : (said : Option (List ℕ × List ℕ)) (e : List ℕ) → Some e ≡ option_map (λ s. s.0) said → option_map entry_in (option_map (λ s. entry s.0 s.1) said) ≡ Some (Some e)
entry_some (Some s) e h = let same : e ≡ s.0 = cc in rw same refl
entry_some None e h = cc

pub entry_none : (said : Option (List ℕ × List ℕ)) → None ≡ option_map (λ s. s.0) said → option_map (λ s. entry s.0 s.1) said ≡ None
entry_none (Some s) h = cc
entry_none None h = refl

pub bytes_said : (said : Option (List ℕ × List ℕ)) → brought said ≡ line_bytes (option_map (λ s. entry s.0 s.1) said)
bytes_said (Some (e, bytes)) = refl
bytes_said None = refl

-- the line of a name and operands that is not raw
pub said_named : (number : ℕ) (line name : List ℕ) (ws operands : List (List ℕ)) → words line ≡ name ∷ ws → operands ≡ ws → bytes_eq name (codes "raw") ≡ false
    → entry_said number (words line) ≡ option_map (λ named. (form_entry number named.0, named.1)) (named_of name operands)
unfolding entry_said
said_named number line name ws operands e same other =
    ap (entry_said number) (e ∙ ap (λ (vs : List (List ℕ)). name ∷ vs) (sym same)) ∙ rw other refl

pub entry_of_form : (number : ℕ) (named : Option (Form × List ℕ)) (form : Form) (e : List ℕ) → Some form ≡ option_map (λ (s : Form × List ℕ). s.0) named → e ≡ form_entry number form
    → Some e ≡ option_map (λ (s : List ℕ × List ℕ). s.0) (option_map (λ (s : Form × List ℕ). (form_entry number s.0, s.1)) named)
entry_of_form number (Some s) form e h made = let same : form ≡ s.0 = cc in ap Some (made ∙ ap (form_entry number) same)
entry_of_form number None form e h made = cc

abbrev roomy : List ℕ → ℕ → RoomyList
roomy items room = record { items = items; room = room }

-- a list of bytes with other items and the room that it had
pub emptied : (items : List ℕ) (room : ℕ) (value : RoomyList) (said : List ℕ) → items ≡ said → value.room ≡ room
    → record value { items = items } ≡ roomy said room
emptied items room value said e same = ap (λ (xs : List ℕ). roomy xs value.room) e ∙ ap (roomy said) same
