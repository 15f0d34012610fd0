-- The value of a Store, written piece by piece.
use Rattle.std.proofs.Common.{◌≡◌, ℕ, zero, suc, add-one, ◌+◌, ◌-◌, ◌%◌, ◌<◌, ◌≤◌, List, [], ◌∷◌, ◌++◌, length, length-append, refl, sym, ap, ◌∙◌, arith}
use Rattle.std.{specs.Prelude.codes, proofs.lemmas.List.append_assoc, proofs.lemmas.List.append-nil}
use Rattle.pk_nvme.{specs.Bytes.RoomyList, specs.Text.number_text}
use Rattle.pk_gen.specs.Workload.{letters, value_len, opening, value_text}

pub length-letters : (c j : ℕ) → length (letters c j) ≡ j
length-letters c zero = refl
length-letters c (suc j) = length-append (letters c j) ((97 + (c + j) % 26) ∷ []) ∙ omega (arith, length-letters c j)

pub no_letters : (t : RoomyList) (c : ℕ) → t ≡ record t { items = t.items ++ letters c 0 }
no_letters t c = ap (λ (xs : List ℕ). record t { items = xs }) (sym (append-nil t.items))

pub letter_fits : (old now : RoomyList) (c count j : ℕ) → length old.items + count ≤ old.room → j < count → now ≡ record old { items = old.items ++ letters c j }
    → length now.items < now.room
letter_fits old now c count j room h e =
    let len : length now.items ≡ length old.items + length (letters c j) = ap (λ (r : RoomyList). length r.items) e ∙ length-append old.items (letters c j) in
    let same : now.room ≡ old.room = ap (λ (r : RoomyList). r.room) e in
    omega (arith, length-letters c j)

pub letter_written : (old now new : RoomyList) (c j : ℕ) → now ≡ record old { items = old.items ++ letters c j }
    → new ≡ record now { items = now.items ++ (97 + (c + j) % 26) ∷ [] } → new ≡ record old { items = old.items ++ letters c (j + 1) }
letter_written old now new c j e pushed =
    rw add-one (pushed ∙ ap (λ (r : RoomyList). record r { items = r.items ++ (97 + (c + j) % 26) ∷ [] }) e
    ∙ ap (λ (xs : List ℕ). record old { items = xs }) (append_assoc old.items (letters c j) ((97 + (c + j) % 26) ∷ [])))

pub cleared : (old new : RoomyList) → new ≡ record old { items = [] } → (length new.items ≡ 0) × (new.room ≡ old.room)
cleared old new e = (ap (λ (r : RoomyList). length r.items) e, ap (λ (r : RoomyList). r.room) e)

-- the pieces make the value
pub value_written : (old r0 r1 r2 r3 r4 r5 : RoomyList) (b c count : ℕ) → r0 ≡ record old { items = [] } → r1 ≡ record r0 { items = r0.items ++ codes "{\"id\":" }
    → r2 ≡ record r1 { items = r1.items ++ number_text (b % 5000) } → r3 ≡ record r2 { items = r2.items ++ codes ",\"pad\":\"" }
    → count ≡ value_len c - (length r3.items + 2) → r4 ≡ record r3 { items = r3.items ++ letters c count } → r5 ≡ record r4 { items = r4.items ++ codes "\"}" }
    → r5 ≡ record old { items = value_text b c }
value_written old r0 r1 r2 r3 r4 r5 b c count e0 e1 e2 e3 n e4 e5 =
    let t0 : r1 ≡ record old { items = codes "{\"id\":" } = e1 ∙ ap (λ (r : RoomyList). record r { items = r.items ++ codes "{\"id\":" }) e0 in
    let t1 : r2 ≡ record old { items = codes "{\"id\":" ++ number_text (b % 5000) } = e2 ∙ ap (λ (r : RoomyList). record r { items = r.items ++ number_text (b % 5000) }) t0 in
    let t2 : r3 ≡ record old { items = opening b } = e3 ∙ ap (λ (r : RoomyList). record r { items = r.items ++ codes ",\"pad\":\"" }) t1 in
    let k : count ≡ value_len c - (length (opening b) + 2) = n ∙ ap (λ (r : RoomyList). value_len c - (length r.items + 2)) t2 in
    let t3 : r4 ≡ record old { items = opening b ++ letters c (value_len c - (length (opening b) + 2)) } =
    e4 ∙ ap (λ (r : RoomyList). record r { items = r.items ++ letters c count }) t2 ∙ ap (λ (m : ℕ). record old { items = opening b ++ letters c m }) k in
    e5 ∙ ap (λ (r : RoomyList). record r { items = r.items ++ codes "\"}" }) t3
