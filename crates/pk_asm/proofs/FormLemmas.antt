-- Named lines and their forms.
use Rattle.std.proofs.Common.{◌≡◌, ℕ, zero, suc, ◌^◌, ◌<◌, ◌≤◌, Bool, true, false, cond, List, [], ◌∷◌, length, drop, get_or, refl, sym, ap, subst, arith, Option, Some, None}
use Rattle.std.specs.Prelude.{nat_lt, nat_le, ◌==◌, ◌&&◌, codes, bytes_eq, option_map, option_and_then}
use Rattle.std.{specs.Str.Parse.digits_value, proofs.lemmas.Bool.and_parts, proofs.lemmas.Bool.Decides.nat_tests}
use Rattle.pk_base.{specs.Fields.AreBytes, specs.Key.Key, specs.Key.IsKey, specs.Key.bytes_of as bytes_in, specs.Key.space_of}
use Rattle.pk_nvme.specs.Text.{is_number, number_of, hex_text, bytes_text, some_bytes_of, bytes_of}
use Rattle.pk_asm.{specs.Words.key_of, specs.Printed.form_words, specs.Printed.option_words, specs.declared.form.Form.Form}
use Rattle.pk_asm.specs.Line.{retrieve_of, delete_of, exist_of, from_of, list_form, flush_of, report_of, tick_of, plain_of, options_of, store_with, store_of, named_of}
use Rattle.pk_asm.specs.declared.form.Form.TheVariants.{Store, Retrieve, Delete, Exist, ListFrom, Flush, Report, Tick}
use Rattle.pk_asm.proofs.TextLemmas.{some_bytes_of-is, number_of-text, key_of-text, bytes_of-text, from_of-text, is_free, AreFree, free_hex, free_bytes, free_from, free_number}

-- a key of bytes
pub record IsByteKey (key : Key) : Type 0 where
  pub is_key : IsKey key
  pub first : space_of key ≡ 1
  pub fits : AreBytes (bytes_in key)

-- a key that may be missing
abbrev pub IsFrom : Option Key → Type 0
IsFrom None = Unit {0}
IsFrom (Some key) = IsByteKey key

-- the forms of named lines without bytes
abbrev pub IsBare : Form → Type 0
IsBare (Store key size options) = ⊥
IsBare (Retrieve key size) = IsByteKey key × (size < 2 ^ 32)
IsBare (Delete key) = IsByteKey key
IsBare (Exist key) = IsByteKey key
IsBare (ListFrom from size) = IsFrom from × (size < 2 ^ 32)
IsBare (Tick steps) = steps < 2 ^ 32
IsBare form = Unit {0}

-- the forms that named lines have, with the bytes that they bring
abbrev pub IsForm : Form → List ℕ → Type 0
IsForm (Store key size options) bytes = IsByteKey key × (size ≡ length bytes) × (size < 2 ^ 32) × (options < 4)
IsForm form bytes = (bytes ≡ []) × IsBare form

pub bare_form : (form : Form) (bytes : List ℕ) → bytes ≡ [] → IsBare form → IsForm form bytes
bare_form (Store key size options) bytes e h = absurd h
bare_form form bytes e h = (e, h)

-- ---- what words are read as

pub picked : {A : Type 0} (P : Type 0) (b : Bool) (x y : Option A) (z : A) → cond b x y ≡ Some z → (x ≡ Some z → P) → (y ≡ Some z → P) → P
picked P true x y z e one other = one e
picked P false x y z e one other = other e

pub held : {A : Type 0} (b : Bool) (x : Option A) (z : A) → cond b x None ≡ Some z → (b ≡ true) × (x ≡ Some z)
held true x z e = (refl, e)
held false x z e = cc

number_is : (word : List ℕ) (n : ℕ) → number_of word ≡ Some n → n < 2 ^ 32
number_is word n e =
    let h = held (is_number word && nat_lt (digits_value 10 word) (2 ^ 32)) (Some (digits_value 10 word)) n e in
    let parts = and_parts (is_number word) (nat_lt (digits_value 10 word) (2 ^ 32)) h.0 in
    let same : digits_value 10 word ≡ n = cc in
    let below = parts.1 in
    grind (arith, nat_tests)

pub some_is : {A B : Type 0} (f : A → B) (o : Option A) (y : B) → option_map f o ≡ Some y → (x : A) × (o ≡ Some x) × (f x ≡ y)
some_is f (Some x) y e = (x, refl, cc)
some_is f None y e = cc

-- a form that is made of what was read
pub made_is : {A : Type 0} (f : A → Form) (o : Option A) (form : Form) → option_map f o ≡ Some form → ((x : A) → o ≡ Some x → IsBare (f x)) → IsBare form
made_is f o form e is = let h = some_is f o form e in subst IsBare h.2 (is h.0 h.1)

key_is : (word : List ℕ) (key : Key) → key_of word ≡ Some key → IsByteKey key
key_is word key e =
    let h = held (nat_le (length word) 32) (option_map (λ bytes. 1 ∷ bytes) (some_bytes_of word)) key e in
    let some = some_is (λ (bytes : List ℕ). 1 ∷ bytes) (some_bytes_of word) key h.1 in
    let is = some_bytes_of-is word some.0 some.1 in
    let short : length word ≤ 32 = let le = h.0 in grind (arith, nat_tests) in
    subst IsByteKey some.2 (record { is_key = record { some = is.0; most = omega (arith, is.1); space_some = omega arith; space_most = omega arith }; first = refl; fits = is.2 })

pub both_are : {A B C : Type 0} (f : A → B → C) (o : Option A) (p : Option B) (z : C) → option_and_then (λ x. option_and_then (λ y. Some (f x y)) p) o ≡ Some z
    → (x : A) × (y : B) × (o ≡ Some x) × (p ≡ Some y) × (f x y ≡ z)
both_are f (Some x) (Some y) z e = (x, y, refl, refl, cc)
both_are f o p z e = cc

from_is : (word : List ℕ) (from : Option Key) → from_of word ≡ Some from → IsFrom from
from_is word from e = picked (IsFrom from) (bytes_eq word (codes "-")) (Some None) (option_map Some (key_of word)) from e
    (λ none. let same : None ≡ from = cc in subst IsFrom same tt)
    (λ some. let h = some_is Some (key_of word) from some in subst IsFrom h.2 (key_is word h.0 h.1))

-- ---- the form of a named line

retrieve_is : (ws : List (List ℕ)) (form : Form) → retrieve_of ws ≡ Some form → IsBare form
retrieve_is (k ∷ n ∷ []) form e = let h = both_are Retrieve (key_of k) (number_of n) form e in subst IsBare h.4 (key_is k h.0 h.2, number_is n h.1 h.3)
retrieve_is ws form e = cc

delete_is : (ws : List (List ℕ)) (form : Form) → delete_of ws ≡ Some form → IsBare form
delete_is (k ∷ []) form e = made_is Delete (key_of k) form e (key_is k)
delete_is ws form e = cc

exist_is : (ws : List (List ℕ)) (form : Form) → exist_of ws ≡ Some form → IsBare form
exist_is (k ∷ []) form e = made_is Exist (key_of k) form e (key_is k)
exist_is ws form e = cc

list_is : (ws : List (List ℕ)) (form : Form) → list_form ws ≡ Some form → IsBare form
list_is (k ∷ n ∷ []) form e = let h = both_are ListFrom (from_of k) (number_of n) form e in subst IsBare h.4 (from_is k h.0 h.2, number_is n h.1 h.3)
list_is ws form e = cc

flush_is : (ws : List (List ℕ)) (form : Form) → flush_of ws ≡ Some form → IsBare form
flush_is [] form e = let same : Flush ≡ form = cc in subst IsBare same tt
flush_is ws form e = cc

report_is : (ws : List (List ℕ)) (form : Form) → report_of ws ≡ Some form → IsBare form
report_is [] form e = let same : Report ≡ form = cc in subst IsBare same tt
report_is ws form e = cc

tick_is : (ws : List (List ℕ)) (form : Form) → tick_of ws ≡ Some form → IsBare form
tick_is (n ∷ []) form e = made_is Tick (number_of n) form e (number_is n)
tick_is ws form e = cc

plain_is : (name : List ℕ) (ws : List (List ℕ)) (form : Form) → plain_of name ws ≡ Some form → IsBare form
unfolding plain_of
plain_is name ws form e =
    let P : Type 0 = IsBare form in
    picked P (bytes_eq name (codes "retrieve")) (retrieve_of ws) _ form e (retrieve_is ws form) (λ e1.
    picked P (bytes_eq name (codes "delete")) (delete_of ws) _ form e1 (delete_is ws form) (λ e2.
    picked P (bytes_eq name (codes "exist")) (exist_of ws) _ form e2 (exist_is ws form) (λ e3.
    picked P (bytes_eq name (codes "list")) (list_form ws) _ form e3 (list_is ws form) (λ e4.
    picked P (bytes_eq name (codes "flush")) (flush_of ws) _ form e4 (flush_is ws form) (λ e5.
    picked P (bytes_eq name (codes "report")) (report_of ws) _ form e5 (report_is ws form) (λ e6.
    tick_is ws form (held (bytes_eq name (codes "tick")) (tick_of ws) form e6).1))))))

options_are : (word : List ℕ) (n : ℕ) → options_of word ≡ Some n → n < 4
options_are word n e =
    picked (n < 4) (bytes_eq word (codes "if-exists")) (Some 1) _ n e (λ h. let same : 1 ≡ n = cc in omega arith) (λ e1.
    picked (n < 4) (bytes_eq word (codes "if-absent")) (Some 2) _ n e1 (λ h. let same : 2 ≡ n = cc in omega arith) (λ e2.
    let same : 3 ≡ n = let h = (held (bytes_eq word (codes "both")) (Some 3) n e2).1 in cc in omega arith))

store_with_is : (k : Option Key) (b : Option (List ℕ)) (o : Option ℕ) (form : Form) (bytes : List ℕ) → ((key : Key) → k ≡ Some key → IsByteKey key) → ((n : ℕ) → o ≡ Some n → n < 4)
    → length bytes < 2 ^ 32 → store_with k b o ≡ Some (form, bytes) → IsForm form bytes
store_with_is (Some key) (Some xs) (Some n) form bytes keys options few e =
    let first : Form × List ℕ = (Store key (length xs) n, xs) in
    let last : Form × List ℕ = (form, bytes) in
    let pair : first ≡ last = cc in
    let same : Store key (length xs) n ≡ form = ap (λ (s : Form × List ℕ). s.0) pair in
    let size : length xs ≡ length bytes = ap (λ (s : Form × List ℕ). length s.1) pair in
    let below : length xs < 2 ^ 32 = omega (arith, size, few) in
    subst (λ f. IsForm f bytes) same (keys key refl, size, below, options n refl)
store_with_is k b o form bytes keys options few e = cc

store_is : (ws : List (List ℕ)) (form : Form) (bytes : List ℕ) → length bytes < 2 ^ 32 → store_of ws ≡ Some (form, bytes) → IsForm form bytes
store_is (k ∷ b ∷ []) form bytes few e = store_with_is (key_of k) (bytes_of b) (Some 0) form bytes (key_is k) (λ n h. let same : 0 ≡ n = cc in omega arith) few e
store_is (k ∷ b ∷ o ∷ []) form bytes few e = store_with_is (key_of k) (bytes_of b) (options_of o) form bytes (key_is k) (options_are o) few e
store_is ws form bytes few e = cc

bare_is : (o : Option Form) (form : Form) (bytes : List ℕ) → option_map {U = Form × List ℕ} (λ f. (f, [])) o ≡ Some (form, bytes) → (o ≡ Some form) × ([] ≡ bytes)
bare_is (Some f) form bytes e =
    let first : Form × List ℕ = (f, []) in
    let last : Form × List ℕ = (form, bytes) in
    let pair : first ≡ last = cc in
    (ap (λ (s : Form × List ℕ). Some s.0) pair, ap (λ (s : Form × List ℕ). s.1) pair)
bare_is None form bytes e = cc

pub named_is : (name : List ℕ) (ws : List (List ℕ)) (form : Form) (bytes : List ℕ) → length bytes < 2 ^ 32 → named_of name ws ≡ Some (form, bytes) → IsForm form bytes
named_is name ws form bytes few e = picked (IsForm form bytes) (bytes_eq name (codes "store")) (store_of ws) _ (form, bytes) e (store_is ws form bytes few) (λ h.
    let bare = bare_is (plain_of name ws) form bytes h in
    bare_form form bytes (sym bare.1) (plain_is name ws form bare.0))

-- ---- the named line of a form

abbrev pub form_name : Form → List ℕ
form_name form = get_or (form_words form []) 0 []

abbrev pub form_operands : Form → List ℕ → List (List ℕ)
form_operands form bytes = drop 1 (form_words form bytes)

pub form_words-parts : (form : Form) (bytes : List ℕ) → form_words form bytes ≡ form_name form ∷ form_operands form bytes
form_words-parts (Store key size options) bytes = refl
form_words-parts form bytes = refl

pub name_free : (form : Form) → is_free (form_name form) ≡ true
name_free (Store key size options) = refl
name_free form = refl

option_free : (b c d : Bool) → AreFree (cond b (codes "if-exists" ∷ []) (cond c (codes "if-absent" ∷ []) (cond d (codes "both" ∷ []) [])))
option_free true c d = (refl, tt)
option_free false true d = (refl, tt)
option_free false false true = (refl, tt)
option_free false false false = tt

pub operands_free : (form : Form) (bytes : List ℕ) → IsForm form bytes → AreFree (form_operands form bytes)
operands_free (Store key size options) bytes h = (free_hex (bytes_in key), (free_bytes bytes, option_free (options == 1) (options == 2) (options == 3)))
operands_free (Retrieve key size) bytes h = (free_hex (bytes_in key), (free_number size h.1.1, tt))
operands_free (Delete key) bytes h = (free_hex (bytes_in key), tt)
operands_free (Exist key) bytes h = (free_hex (bytes_in key), tt)
operands_free (ListFrom from size) bytes h = (free_from from, (free_number size h.1.1, tt))
operands_free (Tick steps) bytes h = (free_number steps h.1, tt)
operands_free form bytes h = tt

from_key : (from : Option Key) → IsFrom from → (key : Key) → from ≡ Some key → IsKey key × (space_of key ≡ 1) × AreBytes (bytes_in key)
from_key (Some k) h key e = let same : k ≡ key = cc in subst (λ (x : Key). IsKey x × (space_of x ≡ 1) × AreBytes (bytes_in x)) same (h.is_key, h.first, h.fits)
from_key None h key e = cc

stored : (key : Key) (bytes : List ℕ) (size : ℕ) (o : Option ℕ) (n : ℕ) → IsByteKey key → AreBytes bytes → size ≡ length bytes → o ≡ Some n
    → store_with (key_of (hex_text (bytes_in key))) (bytes_of (bytes_text bytes)) o ≡ Some (Store key size n, bytes)
stored key bytes size o n k fits sized e = rw (key_of-text key k.is_key k.first k.fits, bytes_of-text bytes fits, e) (ap (λ (m : ℕ). Some (Store key m n, bytes)) (sym sized))

store_said : (key : Key) (bytes : List ℕ) (size options : ℕ) → IsByteKey key → AreBytes bytes → size ≡ length bytes → options < 4
    → store_of (hex_text (bytes_in key) ∷ bytes_text bytes ∷ option_words options) ≡ Some (Store key size options, bytes)
store_said key bytes size zero k fits sized few = stored key bytes size (Some 0) 0 k fits sized refl
store_said key bytes size (suc zero) k fits sized few = stored key bytes size (Some 1) 1 k fits sized refl
store_said key bytes size (suc (suc zero)) k fits sized few = stored key bytes size (Some 2) 2 k fits sized refl
store_said key bytes size (suc (suc (suc zero))) k fits sized few = stored key bytes size (Some 3) 3 k fits sized refl
store_said key bytes size (suc (suc (suc (suc n)))) k fits sized few = absurd (omega arith)

pub form_said : (form : Form) (bytes : List ℕ) → IsForm form bytes → AreBytes bytes → named_of (form_name form) (form_operands form bytes) ≡ Some (form, bytes)
unfolding plain_of
form_said (Store key size options) bytes h fits = store_said key bytes size options h.0 fits h.1 h.3
form_said (Retrieve key size) bytes h fits =
    rw (key_of-text key h.1.0.is_key h.1.0.first h.1.0.fits, number_of-text size h.1.1) (ap (λ (xs : List ℕ). Some (Retrieve key size, xs)) (sym h.0))
form_said (Delete key) bytes h fits = rw (key_of-text key h.1.is_key h.1.first h.1.fits) (ap (λ (xs : List ℕ). Some (Delete key, xs)) (sym h.0))
form_said (Exist key) bytes h fits = rw (key_of-text key h.1.is_key h.1.first h.1.fits) (ap (λ (xs : List ℕ). Some (Exist key, xs)) (sym h.0))
form_said (ListFrom from size) bytes h fits =
    rw (from_of-text from (from_key from h.1.0), number_of-text size h.1.1) (ap (λ (xs : List ℕ). Some (ListFrom from size, xs)) (sym h.0))
form_said (Tick steps) bytes h fits = rw (number_of-text steps h.1) (ap (λ (xs : List ℕ). Some (Tick steps, xs)) (sym h.0))
form_said form bytes h fits = ap (λ (xs : List ℕ). Some (form, xs)) (sym h.0)
