-- A value by its key: its pages, and the reading of a flash.
use Rattle.std.proofs.Common.{◌≡◌, ℕ, zero, suc, ◌+◌, ◌-◌, ◌*◌, ◌<◌, ◌≤◌, true, List, ◌++◌, length, take, drop, refl, sym, ap, ◌∙◌, arith, length-append, length-drop}
use Rattle.std.{specs.Prelude.min, specs.Prelude.nat_eq, specs.Prelude.Result, specs.Prelude.Ok, specs.Prelude.Err, specs.List.starts_with, proofs.Math.Nat.mul-le-mul_right, proofs.Math.Seq.take-add}
use Rattle.std.proofs.lemmas.List.{take_all, drop_all, drop_at, take_at, take-append-le, length-take, take-append-drop}
use Rattle.pk_base.{specs.Fields.padded, specs.Fields.zeros, specs.Key.Key, specs.Key.IsKey, specs.Key.bytes_of, specs.Shape.Shape, specs.Shape.IsShape, specs.Shape.charge, specs.Entry.Place}
use Rattle.pk_base.{specs.Page.Page, specs.Page.whole, specs.Refusal.Refusal, specs.Refusal.◌>>=◌, proofs.ShapeLemmas.charge_least, proofs.ShapeLemmas.charge_room, proofs.Tables.length-padded}
use Rattle.pk_segfmt.{specs.Value.head_bytes, specs.Value.value_bytes, specs.Value.value_from, specs.Value.value_at, specs.Head.IsHead}
use Rattle.pk_segfmt.specs.Stored.{page_of, IsStored, AreFull}
use Rattle.pk_segfmt.proofs.PageLemmas.{drop_past, take_past, padded_cut, padded_front}
use Rattle.pk_segfmt.proofs.ValueLemmas.{cut, starts_front, front_starts, text_again, text_found}

pub length-head_bytes : (key : Key) (len : ℕ) → IsKey key → length (head_bytes key len) ≡ 32
unfolding head_bytes
length-head_bytes key len is = simp length-append (omega (arith, length-padded 16 (bytes_of key) is.most, length-append (bytes_of key) (zeros (16 - length (bytes_of key)))))

-- a value has a page
pub charge_some : (shape : Shape) (is : IsShape shape) (len : ℕ) → 0 < charge shape len
charge_some shape is len = omega (arith, charge_least shape len is)

-- a prefix of a page of a text is a prefix of the text
take_front : (n size : ℕ) (xs : List ℕ) → n ≤ size → n ≤ length xs → take n (cut size xs) ≡ take n xs
take_front n size xs room short =
    let t : List ℕ = take size xs in
    take-append-le n t (zeros (size - length t)) (omega (arith, length-take size xs))
    ∙ sym (take-append-le n t (drop size xs) (omega (arith, length-take size xs))) ∙ ap (λ (r : List ℕ). take n r) (take-append-drop size xs)

module _ (shape : Shape) (is : IsShape shape) (key : Key) (value : List ℕ) (is_key : IsKey key) where
  abbrev size : ℕ
  size = shape.page_bytes

  abbrev front : List ℕ
  front = head_bytes key (length value)

  abbrev text : List ℕ
  text = front ++ value

  front_len : length front ≡ 32
  front_len = length-head_bytes key (length value) is_key

  pub length-text : length text ≡ 32 + length value
  length-text = omega (arith, length-append front value, front_len)

  -- a page of a value is a page of its head and itself
  pub page_is : (i : ℕ) → i < charge shape (length value) → page_of shape key value i ≡ cut size (drop (i * size) text)
  unfolding page_of value_bytes
  page_is i less =
      let product : suc i * size ≤ charge shape (length value) * size = mul-le-mul_right size less in
      let split : suc i * size ≡ i * size + size = omega arith in
      padded_cut (i * size) size (charge shape (length value) * size) text (omega arith) (omega (arith, length-text, charge_room shape (length value) is))

  cut_text : cut size text ≡ front ++ padded (size - 32) (take (size - 32) value)
  cut_text =
      let least = is.page_least in
      let e : size - length front ≡ size - 32 = omega (arith, front_len) in
      ap (λ (r : List ℕ). padded size r) (take_past size front value ∙ ap (λ (r : List ℕ). r ++ take (size - length front) value) (take_all size front (omega (arith, front_len))))
      ∙ padded_front size front (take (size - length front) value) (omega (arith, front_len))
      ∙ ap (λ (n : ℕ). front ++ padded n (take n value)) e

  -- the first page: the head, and the value after it
  pub first_page : page_of shape key value 0 ≡ front ++ padded (size - 32) (take (size - 32) value)
  first_page =
      let none : 0 * size ≡ 0 = omega arith in
      page_is 0 (charge_some shape is (length value)) ∙ ap (λ (k : ℕ). cut size (drop k text)) none ∙ cut_text

  pub first_starts : take 32 (page_of shape key value 0) ≡ front
  first_starts = ap (λ (r : List ℕ). take 32 r) first_page ∙ take_at front (padded (size - 32) (take (size - 32) value)) 32 front_len

  -- a further page: what follows of the value
  pub next_page : (i : ℕ) → 0 < i → i < charge shape (length value) → page_of shape key value i ≡ padded size (take size (drop (i * size - 32) value))
  next_page i some less =
      let least = is.page_least in
      let one : 1 * size ≤ i * size = mul-le-mul_right size some in
      let e : i * size - length front ≡ i * size - 32 = omega (arith, front_len) in
      page_is i less
      ∙ ap (λ (r : List ℕ). cut size r) (
      drop_past (i * size) front value ∙ ap (λ (r : List ℕ). r ++ drop (i * size - length front) value) (drop_all (i * size) front (omega (arith, front_len)))
      ∙ ap (λ (k : ℕ). drop k value) e)

  -- if its pages are there, the value is found
  pub value_again : (at : ℕ → Page) (page : ℕ) → IsStored shape at key page value → value_at shape at key (record { page = page; len = length value }) ≡ Ok value
  unfolding value_at
  value_again at page stored =
      let n : ℕ = charge shape (length value) in
      let starts : starts_with nat_eq (cut size text) front ≡ true =
      ap (λ (r : List ℕ). starts_with nat_eq r front) cut_text ∙ starts_front front (padded (size - 32) (take (size - 32) value)) in
      let found : value_from shape at page front (length text) n ≡ Ok text =
      text_again shape at n page front text (omega (arith, length-text, charge_room shape (length value) is)) starts (λ (k : ℕ) (less : k < n). stored k less ∙ ap whole (page_is k less)) in
      ap (λ (l : ℕ). value_from shape at page front l n >>= (λ bytes. Ok (drop 32 bytes))) (sym length-text)
      ∙ ap (λ (r : Result (List ℕ) Refusal). r >>= (λ bytes. Ok (drop 32 bytes))) found
      ∙ ap (λ (r : List ℕ). Ok r) (drop_at front value 32 front_len)

-- the text after whose head the value was found
record Behind (r : Result (List ℕ) Refusal) (value : List ℕ) : Type 0 where
  pub text : List ℕ
  pub found : r ≡ Ok text
  pub behind : drop 32 text ≡ value

behind_head : (r : Result (List ℕ) Refusal) (value : List ℕ) → (r >>= (λ bytes. Ok (drop 32 bytes))) ≡ Ok value → Behind r value
behind_head (Ok text) value e = record { text = text; found = refl; behind = cc }
behind_head (Err refusal) value e = cc

-- a text that begins with the head, which the value follows
head_and_value : (size : ℕ) (front text value : List ℕ) → length front ≡ 32 → 32 ≤ size → 32 ≤ length text → starts_with nat_eq (cut size text) front ≡ true
    → drop 32 text ≡ value → text ≡ front ++ value
head_and_value size front text value len room long starts behind =
    let here : take 32 (cut size text) ≡ front =
    ap (λ (r : List ℕ). take 32 r) (front_starts (cut size text) front starts) ∙ take_at front (drop (length front) (cut size text)) 32 len in
    let there : take 32 (cut size text) ≡ take 32 text = take_front 32 size text room long in
    sym (take-append-drop 32 text) ∙ ap (λ (r : List ℕ). r ++ drop 32 text) (sym there ∙ here) ∙ ap (λ (r : List ℕ). front ++ r) behind

pub value_found : (shape : Shape) (at : ℕ → Page) (key : Key) (place : Place) (value : List ℕ) → IsShape shape → IsHead shape key place.len → AreFull shape at
    → value_at shape at key place ≡ Ok value → (length value ≡ place.len) × IsStored shape at key place.page value
unfolding value_at
value_found shape at key place value is head full e =
    let n : ℕ = charge shape place.len in
    let front : List ℕ = head_bytes key place.len in
    let least = is.page_least in
    let own = behind_head (value_from shape at place.page front (32 + place.len) n) value e in
    let found = text_found shape at full n place.page front own.text (32 + place.len) (charge_room shape place.len is) own.found in
    let starts = found.starts (charge_some shape is place.len) in
    let parts : own.text ≡ front ++ value = head_and_value shape.page_bytes front own.text value
    (length-head_bytes key place.len head.is_key) (omega arith) (omega (arith, found.len)) starts own.behind in
    let len : length value ≡ place.len = omega (arith, ap length parts, length-append front value, length-head_bytes key place.len head.is_key, found.len) in (
      len,
      λ i less.
          let within : i < n = omega (arith, less, ap (charge shape) len) in
          found.each i within
          ∙ ap (λ (r : List ℕ). whole (cut shape.page_bytes (drop (i * shape.page_bytes) r))) (parts ∙ ap (λ (l : ℕ). head_bytes key l ++ value) (sym len))
          ∙ ap whole (sym (page_is shape is key value head.is_key i less)),
    )
