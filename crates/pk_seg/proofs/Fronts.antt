-- A prefix of a value by its pages.
use Rattle.std.proofs.Common.{◌≡◌, ◌⊎◌, inl, inr, ◌<◌, ◌≤◌, ◌+◌, ◌-◌, ◌*◌, ℕ, zero, suc, List, ◌++◌, length, take, drop, refl, sym, ◌∙◌, ap, subst, arith}
use Rattle.std.{specs.Prelude.min, proofs.Math.Nat.lt_of_mul-lt-mul_right, proofs.Math.Seq.take-add, proofs.Math.Seq.take-take, proofs.Math.Seq.drop-drop, proofs.lemmas.Bool.cases_lt}
use Rattle.std.proofs.lemmas.List.{append_assoc, drop-take, take-append-le, length-take, take_all, drop_at}
use Rattle.pk_base.{specs.Fields.zeros, specs.Key.Key, specs.Key.IsKey, specs.Shape.Shape, specs.Shape.IsShape, specs.Shape.charge, specs.Shape.fetched, proofs.Tables.length-padded}
use Rattle.pk_base.proofs.ShapeLemmas.{fetched_needed, charge_room}
use Rattle.pk_segfmt.{specs.Value.head_bytes, specs.Value.value_bytes, specs.Stored.page_of, proofs.StoredLemmas.length-head_bytes, proofs.StoredLemmas.page_is}

-- a piece that is cut from a page of a text, if the text goes on after the first h bytes
cut_piece : (h d s p a m : ℕ) (text : List ℕ) → s + a ≡ h + d → s ≤ p → take m (drop s (take p (drop a text))) ≡ take m (take (p - s) (drop d (drop h text)))
cut_piece h d s p a m text place room =
    let e : s + (p - s) ≡ p = omega arith in
    let P : ℕ → Type 0 = λ n. drop s (take n (drop a text)) ≡ take (p - s) (drop s (drop a text)) in
    let sum : a + s ≡ h + d = omega arith in
    ap (take m) (subst P e (drop-take s (p - s) (drop a text)) ∙ ap (take (p - s)) (drop-drop s a text ∙ (ap (λ k. drop k text) sum ∙ sym (drop-drop d h text))))

take_both : (m k : ℕ) (xs : List ℕ) → take m (take k xs) ≡ take (min m k) xs
take_both m k xs = elim (cases_lt k m) [
  | inl less ↦ (let e : min m k ≡ k = omega (arith, less) in rw e (take_all m (take k xs) (omega (arith, less, length-take k xs))))
  | inr more ↦ (let e : min m k ≡ m = omega (arith, more) in rw e (take-take m k xs more))
]

-- one page more of the prefix of a text after its first 32 bytes
pub front_next : (n p i : ℕ) (text old new : List ℕ) → 32 ≤ p → i * p - 32 ≤ n
    → take (i * p - 32) old ≡ take (i * p - 32) (drop 32 text)
    → take (min n ((i + 1) * p - 32)) new ≡ take (i * p - 32) old ++ take (n - (i * p - 32)) (drop (32 - i * p) (take p (drop (i * p) text)))
    → take (min n ((i + 1) * p - 32)) new ≡ take (min n ((i + 1) * p - 32)) (drop 32 text)
front_next n p i text old new head within before now =
    let d : ℕ = i * p - 32 in
    let s : ℕ = 32 - i * p in
    let q : ℕ = n - d in
    let m : ℕ = min q (p - s) in
    let rest : List ℕ = drop 32 text in
    let place : s + i * p ≡ 32 + d = omega arith in
    let room : s ≤ p = omega (arith, head) in
    let piece : take q (drop s (take p (drop (i * p) text))) ≡ take m (drop d rest) = cut_piece 32 d s p (i * p) q text place room ∙ take_both q (p - s) (drop d rest) in
    let split : (i + 1) * p ≡ i * p + p = omega arith in
    let all : d + m ≡ min n ((i + 1) * p - 32) = omega (arith, split, within, head) in
    now ∙ (ap (λ (r : List ℕ). r ++ take q (drop s (take p (drop (i * p) text)))) before
    ∙ (ap (λ (r : List ℕ). take d rest ++ r) piece ∙ (sym (take-add d m rest) ∙ ap (λ (k : ℕ). take k rest) all)))

-- the bytes after the head of a value's pages begin with the value
pub value_front : (shape : Shape) (key : Key) (value : List ℕ) (n : ℕ) → IsKey key → n ≤ length value → take n (drop 32 (value_bytes shape key value)) ≡ take n value
unfolding value_bytes
value_front shape key value n is_key short =
    let front : List ℕ = head_bytes key (length value) in
    let more : List ℕ = zeros (charge shape (length value) * shape.page_bytes - length (front ++ value)) in
    ap (λ (r : List ℕ). take n (drop 32 r)) (append_assoc front value more)
    ∙ (ap (λ (r : List ℕ). take n r) (drop_at front (value ++ more) 32 (length-head_bytes key (length value) is_key)) ∙ take-append-le n value more short)

-- the pages that are fetched are some of the value's
pub fetched_within : (shape : Shape) (i n len : ℕ) → IsShape shape → i < fetched shape n → n ≤ len → i < charge shape len
fetched_within shape i n len is less short =
    let needed : i * shape.page_bytes < 32 + n = fetched_needed shape i n is less in
    let room : 32 + len ≤ charge shape len * shape.page_bytes = charge_room shape len is in
    lt_of_mul-lt-mul_right shape.page_bytes (omega arith)

-- a value's page is full
pub length-page_of : (shape : Shape) (key : Key) (value : List ℕ) (i : ℕ) → IsShape shape → IsKey key → i < charge shape (length value) → length (page_of shape key value i) ≡ shape.page_bytes
length-page_of shape key value i is is_key less =
    let part : List ℕ = drop (i * shape.page_bytes) (head_bytes key (length value) ++ value) in
    ap length (page_is shape is key value is_key i less) ∙ length-padded shape.page_bytes (take shape.page_bytes part) (omega (arith, length-take shape.page_bytes part))
