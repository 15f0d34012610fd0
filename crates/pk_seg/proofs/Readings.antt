-- Boards that are read.
use Rattle.std.proofs.Common.{◌≡◌, ◌<◌, ◌≤◌, ◌+◌, ◌-◌, ◌*◌, ℕ, zero, suc, List, [], ◌∷◌, ◌++◌, length, length-drop, take, drop, refl, sym, ◌∙◌, ap, subst, arith}
use Rattle.std.{specs.Prelude.min, proofs.Math.Nat.add-mul, proofs.Math.Nat.mul-le-mul_right, proofs.lemmas.List.take_all, proofs.lemmas.List.length-take-le, proofs.lemmas.Slice.take-put_mid}
use borrow.Rule.Slice.PartMut.{put_mid}
use Rattle.pk_base.{specs.Key.Key, specs.Shape.Shape, specs.Shape.IsShape, specs.Shape.fetched, specs.Page.Flash, specs.Page.page_at, specs.Page.whole, specs.Page.torn}
use Rattle.pk_base.proofs.ShapeLemmas.{fetched_needed, fetched_room}
use Rattle.pk_nand.{specs.BoardState.BoardState, specs.Calls.IsReady, specs.Operations.after_read, specs.Operations.ReadFailed, specs.Counts.after_reads}
use Rattle.pk_segfmt.{specs.Value.value_bytes, specs.Stored.page_of}
use Rattle.pk_seg.{specs.Counts.ReadsFailed, specs.Stored.IsFront, specs.Stored.BringsPiece, proofs.Fronts.front_next, proofs.Fronts.value_front, proofs.Fronts.fetched_within}

whole_not_torn : (bytes : List ℕ) → torn ≡ whole bytes → ⊥
whole_not_torn bytes e = cc

-- a page that is whole exists
pub whole_exists : (flash : Flash) (k : ℕ) (bytes : List ℕ) → page_at flash k ≡ whole bytes → k < length flash
whole_exists [] k bytes is = absurd (whole_not_torn bytes is)
whole_exists (p ∷ ps) zero bytes is = omega arith
whole_exists (p ∷ ps) (suc k) bytes is = omega (arith, whole_exists ps k bytes is)

pub IsReady-read_failed : (old new : BoardState) (shape : Shape) (at : ℕ) → ReadFailed old new at → IsReady old shape → IsReady new shape
IsReady-read_failed old new shape at failed ready = record {
  shape_is = ap (λ s. s.shape) failed.rest ∙ ready.shape_is;
  flash = rw (ap (λ s. s.pages) failed.rest) ready.flash;
}

-- a page after the first that is read directly to its place, all of it within the prefix
pub straight_piece : (shape : Shape) (i at size : ℕ) (old buf bytes : List ℕ) → IsShape shape
    → size ≡ shape.page_bytes → 0 < i → at ≡ i * size - 32 → at + size ≤ length old
    → length buf ≡ size → buf ≡ bytes
    → BringsPiece shape i bytes old (put_mid at (at + size - at) old buf)
straight_piece shape i at size old buf bytes is_shape sized some place room full is =
    let p : ℕ = shape.page_bytes in
    let least : 512 ≤ p = is_shape.page_least in
    let more : 1 * p ≤ i * p = mul-le-mul_right p some in
    let next : (i + 1) * p ≡ i * p + 1 * p = add-mul i 1 p in
    let here : at ≡ i * p - 32 = place ∙ ap (λ (k : ℕ). i * k - 32) sized in
    let all : min (length old) ((i + 1) * p - 32) ≡ at + size =
    omega (arith, here, sized, least, more, next, room) in
    let none : 32 - i * p ≡ 0 = omega (arith, least, more) in
    let fits : length bytes ≤ length old - at = omega (arith, room, full, ap length is) in
    let end : at + size ≡ at + length buf = omega (arith, full) in
    let put : take (at + size) (put_mid at (at + size - at) old buf) ≡ take at old ++ buf =
    take-put_mid at (at + size - at) old buf (at + size) end (omega (arith, room)) in
    rw (all, sym here, none, take_all (length old - at) bytes fits, sym is) put

-- the place of a piece has its length
pub length-part : (at size : ℕ) (xs : List ℕ) → at + size ≤ length xs
    → length (take (at + size - at) (drop at xs)) ≡ size
length-part at size xs room =
    let within : at + size - at ≤ length (drop at xs) = omega (arith, room, length-drop at xs) in
    length-take-le (at + size - at) (drop at xs) within ∙ omega arith

-- i of the pages were read, and the prefix of the value that they hold is filled in
pub record Filling (old now : BoardState) (shape : Shape) (page n i : ℕ) (into : List ℕ) : Type 0 where
  pub board : now ≡ after_reads i old
  pub len : length into ≡ n
  pub front : (key value : List ℕ) → IsFront shape old.pages page n key value
      → take (min n (i * shape.page_bytes - 32)) into ≡ take (min n (i * shape.page_bytes - 32)) (drop 32 (value_bytes shape key value))

pub Filling-start : (old : BoardState) (shape : Shape) (page n : ℕ) (into : List ℕ) → length into ≡ n → Filling old old shape page n 0 into
Filling-start old shape page n into len =
    let none : min n (0 * shape.page_bytes - 32) ≡ 0 = omega arith in
    record { board = refl; len = len; front = λ key value is. rw none refl }

-- the page that is read next exists
pub Filling-exists : (old : BoardState) (shape : Shape) (page n i : ℕ) (key value : List ℕ) → IsShape shape
    → IsFront shape old.pages page n key value → i < fetched shape n → page + i < length old.pages
Filling-exists old shape page n i key value is_shape is less =
    whole_exists old.pages (page + i) (page_of shape key value i) (is.stored i (fetched_within shape i n (length value) is_shape less is.long))

page_is : (shape : Shape) (key : Key) (value : List ℕ) (i : ℕ) → page_of shape key value i ≡ take shape.page_bytes (drop (i * shape.page_bytes) (value_bytes shape key value))
unfolding page_of
page_is shape key value i = refl

-- the piece that a page brings
abbrev Copied : List ℕ → List ℕ → ℕ → List ℕ → ℕ → ℕ → Type 0
Copied old new n page p i = take (min n ((i + 1) * p - 32)) new ≡ take (i * p - 32) old ++ take (n - (i * p - 32)) (drop (32 - i * p) page)

-- one page more
pub Filling-next : (old now : BoardState) (shape : Shape) (page n i : ℕ) (into new : List ℕ)
    → IsShape shape → i < fetched shape n → Filling old now shape page n i into
    → length new ≡ length into
    → ((bytes : List ℕ) → page_at now.pages (page + i) ≡ whole bytes
    → BringsPiece shape i bytes into new)
    → Filling old (after_read now) shape page n (i + 1) new
Filling-next old now shape page n i into new is_shape less f same_len brings = record {
  board = let Q : ℕ → Type 0 = λ k. after_read now ≡ after_reads k old in let e : suc i ≡ i + 1 = omega arith in subst Q e (ap after_read f.board);
  len = same_len ∙ f.len;
  front = λ key value is.
      let p : ℕ = shape.page_bytes in
      let least : 512 ≤ p = is_shape.page_least in
      let here : page_at old.pages (page + i) ≡ whole (page_of shape key value i) = is.stored i (fetched_within shape i n (length value) is_shape less is.long) in
      let pages : now.pages ≡ old.pages = ap (λ (b : BoardState). b.pages) f.board in
      let needed : i * p < 32 + n = fetched_needed shape i n is_shape less in
      let within : i * p - 32 ≤ n = omega (arith, needed) in
      let clipped : min n (i * p - 32) ≡ i * p - 32 = omega (arith, within) in
      let before : take (i * p - 32) into ≡ take (i * p - 32) (drop 32 (value_bytes shape key value)) =
      subst (λ (k : ℕ). take k into ≡ take k (drop 32 (value_bytes shape key value))) clipped (f.front key value is) in
      let bytes : List ℕ = page_of shape key value i in
      let one : Copied into new (length into) bytes p i =
      brings bytes (ap (λ (g : Flash). page_at g (page + i)) pages ∙ here) in
      let two : Copied into new n bytes p i =
      subst (λ (m : ℕ). Copied into new m bytes p i) f.len one in
      let three : Copied into new n (take p (drop (i * p) (value_bytes shape key value))) p i =
      subst (λ (q : List ℕ). Copied into new n q p i) (page_is shape key value i) two in
      front_next n p i (value_bytes shape key value) into new (omega (arith, least)) within before three;
}

-- all pages were read
pub Filling-end : (old now : BoardState) (shape : Shape) (page n : ℕ) (into : List ℕ) → IsShape shape → Filling old now shape page n (fetched shape n) into
    → (key value : List ℕ) → IsFront shape old.pages page n key value → into ≡ take n value
Filling-end old now shape page n into is_shape f key value is =
    let room : n ≤ fetched shape n * shape.page_bytes - 32 = fetched_room shape n is_shape in
    let all : min n (fetched shape n * shape.page_bytes - 32) ≡ n = omega (arith, room) in
    let front : take n into ≡ take n (drop 32 (value_bytes shape key value)) =
    subst (λ (k : ℕ). take k into ≡ take k (drop 32 (value_bytes shape key value))) all (f.front key value is) in
    sym (take_all n into (omega (arith, f.len))) ∙ (front ∙ value_front shape key value n is.is_head.is_key is.long)

-- the next read fails
pub Filling-failed : (old now new : BoardState) (shape : Shape) (page n i : ℕ) (into : List ℕ) → i < fetched shape n → Filling old now shape page n i into → ReadFailed now new (page + i)
    → ReadsFailed old new page (fetched shape n)
Filling-failed old now new shape page n i into less f failed =
    let from_old : ReadFailed (after_reads i old) new (page + i) = subst (λ b. ReadFailed b new (page + i)) f.board failed in
    record { made = i; within = less; failed = from_old; flash = from_old.flash; read = from_old.read }
