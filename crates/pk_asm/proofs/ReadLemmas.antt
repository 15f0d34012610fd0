-- The fields of an entry that a form gives, read again.
use Rattle.std.proofs.Common.{◌≡◌, ℕ, zero, suc, ◌+◌, ◌-◌, ◌%◌, ◌^◌, ◌<◌, ◌≤◌, Bool, true, false, cond, List, [], ◌∷◌, ◌++◌, length, take, drop, refl, sym, ap, ◌∙◌, subst, arith, Option, Some, None}
use Rattle.std.proofs.Common.{eq-eqb, length-append, length-drop}
use Rattle.std.proofs.lemmas.List.{take_at, take_all, take-append-drop, length-take-le, get_or-drop}
use Rattle.std.{specs.Prelude.nat_le, specs.Prelude.◌==◌, specs.Prelude.◌&&◌, specs.Prelude.not, specs.Prelude.option_map, proofs.lemmas.Bool.and_parts, proofs.lemmas.Bool.Decides.nat_tests}
use Rattle.pk_base.{specs.Fields.AreBytes, specs.Fields.padded, specs.Fields.zeros, specs.Fields.u16, specs.Fields.u32, specs.Key.Key, specs.Key.IsKey, specs.Key.bytes_of, specs.Key.space_of}
use Rattle.pk_base.proofs.Tables.{spelled_stand, stands_byte, stands_number, length-padded, number_fits, ◌⊕◌}
use Rattle.pk_nvme.specs.Command.{Command, command}
use Rattle.pk_asm.{specs.Form.entry_with, specs.Form.form_entry, specs.declared.form.Form.Form}
use Rattle.pk_asm.{proofs.FormLemmas.IsByteKey, proofs.FormLemmas.IsBare, proofs.FormLemmas.IsForm, proofs.FormLemmas.bare_form, proofs.FormLemmas.made_is, proofs.FormLemmas.picked}
use Rattle.pk_asm.{proofs.FormLemmas.held, proofs.FormLemmas.some_is, proofs.TextLemmas.in_first}
use Rattle.pk_asm.specs.Printed.{candidate, key_at, store_candidate, retrieve_candidate, delete_candidate, exist_candidate, list_candidate}
use Rattle.pk_asm.specs.declared.form.Form.TheVariants.{Store, Retrieve, Delete, Exist, ListFrom, Flush, Report, Tick}

-- what a command says of its form
pub record HasFields (c : Command) (opcode : ℕ) (key : List ℕ) (size options : ℕ) (bytes : List ℕ) : Type 0 where
  pub opcode_is : c.opcode ≡ opcode
  pub key_len_is : c.key_len ≡ length key
  pub key_bytes_is : c.key_bytes ≡ padded 16 key
  pub size_is : c.size ≡ size
  pub options_is : c.options ≡ options
  pub value_is : c.value ≡ bytes

pub fields_of : (number opcode : ℕ) (key : List ℕ) (size options : ℕ) (bytes : List ℕ) → length key ≤ 16
    → size < 2 ^ 32 → HasFields (command (entry_with number opcode key size options) bytes) opcode key size options bytes
unfolding entry_with
fields_of number opcode key size options bytes short small =
    let place : List ℕ = padded 16 key in
    let full : length place ≡ 16 = length-padded 16 key short in
    let low : List ℕ = take 8 place in
    let high : List ℕ = take 8 (drop 8 place) in
    let low_size : length low ≡ 8 = length-take-le 8 place (omega arith) in
    let high_size : length high ≡ 8 = length-take-le 8 (drop 8 place) (omega (arith, length-drop 8 place)) in
    let table : List (ℕ × List ℕ) = (1, opcode ∷ []) ∷ (1, zeros 1) ∷ (2, u16 (number % 2 ^ 16)) ∷ (4, u32 1) ∷
    (8, low) ∷ (24, zeros 24) ∷ (4, u32 size) ∷ (1, length key ∷ []) ∷ (1, options ∷ []) ∷ (10, zeros 10) ∷ (8, high) ∷ [] in
    let e : List ℕ = entry_with number opcode key size options in
    let s = spelled_stand 0 table e (refl ⊕ refl ⊕ refl ⊕ refl ⊕ low_size ⊕ refl ⊕ refl ⊕ refl ⊕ refl ⊕ refl ⊕ high_size ⊕ tt) refl in
    let s8 : drop 8 e ≡ low ++ drop 16 e = s.1.1.1.1.0 in
    let s56 : drop 56 e ≡ high ++ drop 64 e = s.1.1.1.1.1.1.1.1.1.1.0 in
    let front : take 8 (drop 8 e) ≡ low = ap (take 8) s8 ∙ take_at low (drop 16 e) 8 low_size in
    let back : take 8 (drop 56 e) ≡ high = ap (take 8) s56 ∙ take_at high (drop 64 e) 8 high_size in
    let whole : low ++ high ≡ place = ap (λ (xs : List ℕ). low ++ xs) (take_all 8 (drop 8 place) (omega (arith, length-drop 8 place))) ∙ take-append-drop 8 place in
    record {
      opcode_is = refl;
      key_len_is = stands_byte 44 (length key) (drop 45 e) e s.1.1.1.1.1.1.1.0;
      key_bytes_is = ap (λ (xs : List ℕ). xs ++ take 8 (drop 56 e)) front ∙ ap (λ (xs : List ℕ). low ++ xs) back ∙ whole;
      size_is = stands_number 4 40 size (drop 44 e) e s.1.1.1.1.1.1.0 small;
      options_is = stands_byte 45 options (drop 46 e) e s.1.1.1.1.1.1.1.1.0;
      value_is = refl;
    }

-- ---- the form of these fields

key_read : (key : Key) → IsKey key → space_of key ≡ 1 → key_at (length (bytes_of key)) (padded 16 (bytes_of key)) ≡ Some key
key_read key h first =
    let bytes : List ℕ = bytes_of key in
    let some : nat_le 1 (length bytes) ≡ true = let le = h.some in grind (arith, nat_tests) in
    let most : nat_le (length bytes) 16 ≡ true = let le = h.most in grind (arith, nat_tests) in
    let whole : take (length bytes) (padded 16 bytes) ≡ bytes = take_at bytes (zeros (16 - length bytes)) (length bytes) refl in
    rw (some, most) (ap (λ (xs : List ℕ). Some (1 ∷ xs)) whole ∙ ap Some (in_first key h first))

-- without bytes
bare_candidate : (number : ℕ) (form : Form) → IsBare form → candidate (command (form_entry number form) []) ≡ Some form
unfolding candidate
bare_candidate number (Store key size options) h = absurd h
bare_candidate number (Retrieve key size) h =
    let f = fields_of number 0x02 (bytes_of key) size 0 [] h.0.is_key.most h.1 in
    rw (f.opcode_is, f.key_len_is, f.key_bytes_is, f.size_is, key_read key h.0.is_key h.0.first) refl
bare_candidate number (Delete key) h =
    let f = fields_of number 0x10 (bytes_of key) 0 0 [] h.is_key.most (omega arith) in rw (f.opcode_is, f.key_len_is, f.key_bytes_is, key_read key h.is_key h.first) refl
bare_candidate number (Exist key) h =
    let f = fields_of number 0x14 (bytes_of key) 0 0 [] h.is_key.most (omega arith) in rw (f.opcode_is, f.key_len_is, f.key_bytes_is, key_read key h.is_key h.first) refl
bare_candidate number (ListFrom None size) h = let f = fields_of number 0x06 [] size 0 [] (omega arith) h.1 in rw (f.opcode_is, f.key_len_is, f.size_is) refl
bare_candidate number (ListFrom (Some key) size) h =
    let f = fields_of number 0x06 (bytes_of key) size 0 [] h.0.is_key.most h.1 in
    let some : (length (bytes_of key) == 0) ≡ false = let le = h.0.is_key.some in grind (arith, nat_tests) in
    rw (f.opcode_is, f.key_len_is, f.key_bytes_is, f.size_is, some, key_read key h.0.is_key h.0.first) refl
bare_candidate number Flush h = let f = fields_of number 0x00 [] 0 0 [] (omega arith) (omega arith) in rw f.opcode_is refl
bare_candidate number Report h = let f = fields_of number 0xC2 [] 0 0 [] (omega arith) (omega arith) in rw f.opcode_is refl
bare_candidate number (Tick steps) h = let f = fields_of number 0xC0 [] steps 0 [] (omega arith) h in rw (f.opcode_is, f.size_is) refl

pub candidate_of : (number : ℕ) (form : Form) (bytes : List ℕ) → IsForm form bytes → candidate (command (form_entry number form) bytes) ≡ Some form
unfolding candidate
candidate_of number (Store key size options) bytes h =
    let f = fields_of number 1 (bytes_of key) size options bytes h.0.is_key.most h.2 in
    let few : nat_le options 3 ≡ true = let lt = h.3 in grind (arith, nat_tests) in
    rw (f.opcode_is, f.key_len_is, f.key_bytes_is, f.size_is, f.options_is, eq-eqb size (length bytes) h.1, few, key_read key h.0.is_key h.0.first) refl
candidate_of number form bytes h = subst (λ xs. candidate (command (form_entry number form) xs) ≡ Some form) (sym h.0) (bare_candidate number form h.1)

-- ---- a candidate is a form

bytes_cons : (x : ℕ) (xs : List ℕ) → x < 256 → AreBytes xs → AreBytes (x ∷ xs)
bytes_cons x xs h hs zero = h
bytes_cons x xs h hs (suc i) = hs i

bytes_take : (n : ℕ) (xs : List ℕ) → AreBytes xs → AreBytes (take n xs)
bytes_take zero xs h = λ i. omega arith
bytes_take (suc n) [] h = h
bytes_take (suc n) (x ∷ xs) h = bytes_cons x (take n xs) (h 0) (bytes_take n xs (λ i. h (suc i)))

bytes_drop : (n : ℕ) (xs : List ℕ) → AreBytes xs → AreBytes (drop n xs)
bytes_drop n xs h = λ i. rw (get_or-drop n xs i 0) (h (n + i))

bytes_append : (xs ys : List ℕ) → AreBytes xs → AreBytes ys → AreBytes (xs ++ ys)
bytes_append [] ys h k = k
bytes_append (x ∷ xs) ys h k = bytes_cons x (xs ++ ys) (h 0) (bytes_append xs ys (λ i. h (suc i)) k)

place_size : (e : List ℕ) → length e ≡ 64 → length (take 8 (drop 8 e) ++ take 8 (drop 56 e)) ≡ 16
place_size e sized =
    let low = length-take-le 8 (drop 8 e) (omega (arith, length-drop 8 e)) in
    let high = length-take-le 8 (drop 56 e) (omega (arith, length-drop 56 e)) in
    length-append (take 8 (drop 8 e)) (take 8 (drop 56 e)) ∙ omega arith

key_at_is : (n : ℕ) (place : List ℕ) (key : Key) → length place ≡ 16 → AreBytes place → key_at n place ≡ Some key → IsByteKey key
key_at_is n place key sized fits e =
    let h = held (nat_le 1 n && nat_le n 16) (Some (1 ∷ take n place)) key e in
    let parts = and_parts (nat_le 1 n) (nat_le n 16) h.0 in
    let low : 1 ≤ n = let le = parts.0 in grind (arith, nat_tests) in
    let high : n ≤ 16 = let le = parts.1 in grind (arith, nat_tests) in
    let same : 1 ∷ take n place ≡ key = cc in
    let long : length (take n place) ≡ n = length-take-le n place (omega arith) in
    subst IsByteKey same (record { is_key = record { some = omega arith; most = omega arith; space_some = omega arith; space_most = omega arith }; first = refl; fits = bytes_take n place fits })

unheld : {A : Type 0} (b : Bool) (y : Option A) (z : A) → cond b None y ≡ Some z → (b ≡ false) × (y ≡ Some z)
unheld true y z e = cc
unheld false y z e = (refl, e)

no_bytes : (bytes : List ℕ) → not (length bytes == 0) ≡ false → bytes ≡ []
no_bytes [] e = refl
no_bytes (x ∷ xs) e = let some : (suc (length xs) == 0) ≡ false = grind (arith, nat_tests) in cc

list_candidate_is : (key_len : ℕ) (place : List ℕ) (size : ℕ) (form : Form) → length place ≡ 16 → AreBytes place → size < 2 ^ 32 → list_candidate key_len place size ≡ Some form → IsBare form
list_candidate_is key_len place size form full fits small is =
    picked (IsBare form) (key_len == 0) (Some (ListFrom None size)) (option_map (λ k. ListFrom (Some k) size) (key_at key_len place)) form is
    (λ h. let same : ListFrom None size ≡ form = cc in subst IsBare same (tt, small))
    (λ h. made_is (λ k. ListFrom (Some k) size) (key_at key_len place) form h (λ k e. (key_at_is key_len place k full fits e, small)))

plain_candidate : (opcode key_len : ℕ) (place : List ℕ) (size : ℕ) (form : Form) → length place ≡ 16 → AreBytes place → size < 2 ^ 32
    → cond (opcode == 0x02) (retrieve_candidate key_len place size)
    (cond (opcode == 0x10) (delete_candidate key_len place)
    (cond (opcode == 0x14) (exist_candidate key_len place)
    (cond (opcode == 0x06) (list_candidate key_len place size)
    (cond (opcode == 0x00) (Some Flush) (cond (opcode == 0xC2) (Some Report) (cond (opcode == 0xC0) (Some (Tick size)) None)))))) ≡ Some form
    → IsBare form
plain_candidate opcode key_len place size form full fits small is =
    let P : Type 0 = IsBare form in
    let key_of : (key : Key) → key_at key_len place ≡ Some key → IsByteKey key = λ key h. key_at_is key_len place key full fits h in
    picked P (opcode == 0x02) (retrieve_candidate key_len place size) _ form is (λ h. made_is (λ k. Retrieve k size) (key_at key_len place) form h (λ k e. (key_of k e, small))) (λ e1.
    picked P (opcode == 0x10) (delete_candidate key_len place) _ form e1 (λ h. made_is Delete (key_at key_len place) form h key_of) (λ e2.
    picked P (opcode == 0x14) (exist_candidate key_len place) _ form e2 (λ h. made_is Exist (key_at key_len place) form h key_of) (λ e3.
    picked P (opcode == 0x06) (list_candidate key_len place size) _ form e3 (list_candidate_is key_len place size form full fits small) (λ e4.
    picked P (opcode == 0x00) (Some Flush) _ form e4 (λ h. let same : Flush ≡ form = cc in subst IsBare same tt) (λ e5.
    picked P (opcode == 0xC2) (Some Report) _ form e5 (λ h. let same : Report ≡ form = cc in subst IsBare same tt) (λ e6.
    let h = (held (opcode == 0xC0) (Some (Tick size)) form e6).1 in let same : Tick size ≡ form = cc in subst IsBare same small))))))

pub candidate_is : (e bytes : List ℕ) (form : Form) → length e ≡ 64 → AreBytes e → candidate (command e bytes) ≡ Some form → IsForm form bytes
unfolding candidate
candidate_is e bytes form sized fits is =
    let c : Command = command e bytes in
    let place : List ℕ = take 8 (drop 8 e) ++ take 8 (drop 56 e) in
    let full : length place ≡ 16 = place_size e sized in
    let of_bytes : AreBytes place = bytes_append (take 8 (drop 8 e)) (take 8 (drop 56 e)) (bytes_take 8 (drop 8 e) (bytes_drop 8 e fits)) (bytes_take 8 (drop 56 e) (bytes_drop 56 e fits)) in
    let small : c.size < 2 ^ 32 = number_fits 4 40 e fits in
    picked (IsForm form bytes) (c.opcode == 0x01) (store_candidate c.key_len place c.size c.options (length bytes)) _ form is
    (λ s.
    let h = held (c.size == length bytes && nat_le c.options 3) (option_map (λ k. Store k c.size c.options) (key_at c.key_len place)) form s in
    let parts = and_parts (c.size == length bytes) (nat_le c.options 3) h.0 in
    let m = some_is (λ k. Store k c.size c.options) (key_at c.key_len place) form h.1 in
    let same : c.size ≡ length bytes = let t = parts.0 in grind (arith, nat_tests) in
    let few : c.options < 4 = let t = parts.1 in grind (arith, nat_tests) in
    subst (λ f. IsForm f bytes) m.2 (key_at_is c.key_len place m.0 full of_bytes m.1, same, small, few))
    (λ more.
    let rest = unheld (not (length bytes == 0)) _ form more in
    bare_form form bytes (no_bytes bytes rest.0) (plain_candidate c.opcode c.key_len place c.size form full of_bytes small rest.1))
