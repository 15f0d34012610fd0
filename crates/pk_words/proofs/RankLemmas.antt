-- A key's number rises with it.
use Rattle.std.proofs.Common.{◌≡◌, ℕ, zero, suc, ◌+◌, ◌-◌, ◌*◌, ◌^◌, ◌≤◌, ◌<◌, cond, nat_lt, ◌==◌, true, false, [], ◌∷◌, length, refl, ap, arith}
use Rattle.std.{proofs.Math.Nat.pow-succ', proofs.Math.Nat.mul-le-mul_right, proofs.lemmas.Bool.ltb-true, proofs.lemmas.Bool.eqb-true, specs.declared.cmp.Ordering.Ordering}
use Rattle.std.specs.declared.cmp.Ordering.TheVariants.{Less, Equal, Greater}
use Rattle.std.specs.Ordering.{nat_cmp, ordering_then}
use Rattle.pk_base.{specs.Fields.AreBytes, specs.Key.Key, specs.Key.IsKey, specs.Key.IsBelow, specs.Key.key_cmp}
use Rattle.pk_words.specs.Listing.{rank, IsText, pieces_after, most_pieces}

-- a first byte and all that may follow it
byte_room : (b x : ℕ) → b < 256 → suc b * x + x ≤ 257 * x
byte_room b x h = omega (arith, mul-le-mul_right x (let k : suc b ≤ 256 = omega arith in k))

pub rank_fits : (n : ℕ) (k : Key) → length k ≤ n → AreBytes k → rank n k < 257 ^ n
unfolding rank
rank_fits zero [] short bytes = omega arith
rank_fits zero (b ∷ k) short bytes = absurd (omega (arith, short))
rank_fits (suc n) [] short bytes = omega (arith, pow-succ' 257 n, rank_fits n [] (omega arith) bytes)
rank_fits (suc n) (b ∷ k) short bytes = omega (arith, pow-succ' 257 n, byte_room b (257 ^ n) (bytes 0), rank_fits n k (omega (arith, short)) (λ i. bytes (suc i)))

-- the order of two bytes
byte_cases : (x y : ℕ) (rest : Ordering) (P : Type 0) → ordering_then (nat_cmp x y) rest ≡ Less → (x < y → P) → (x ≡ y → rest ≡ Less → P) → P
byte_cases x y rest P e at_less at_same =
    elim (nat_lt x y) as (λ b. nat_lt x y ≡ b → ordering_then (cond b Less (cond (x == y) Equal Greater)) rest ≡ Less → P) [
      | true ↦ λ l h. at_less (ltb-true x y l)
      | false ↦ λ l g. elim (x == y) as (λ b. (x == y) ≡ b → ordering_then (cond b Equal Greater) rest ≡ Less → P) [
        | true ↦ λ s h. at_same (eqb-true x y s) h
        | false ↦ λ s h. absurd (let clash : Greater ≡ Less = h in cc)
      ] refl g
    ] refl e

pub rank_rises : (n : ℕ) (a b : Key) → length a ≤ n → length b ≤ n → AreBytes a → AreBytes b → IsBelow a b → rank n a < rank n b
unfolding rank
rank_rises n [] [] sa sb ba bb h = absurd (let clash : Equal ≡ Less = h in cc)
rank_rises zero [] (y ∷ b) sa sb ba bb h = absurd (omega (arith, sb))
rank_rises (suc n) [] (y ∷ b) sa sb ba bb h = omega (arith, mul-le-mul_right (257 ^ n) (let k : 1 ≤ suc y = omega arith in k), rank_fits n [] (omega arith) ba)
rank_rises n (x ∷ a) [] sa sb ba bb h = absurd (let clash : Greater ≡ Less = h in cc)
rank_rises zero (x ∷ a) (y ∷ b) sa sb ba bb h = absurd (omega (arith, sb))
rank_rises (suc n) (x ∷ a) (y ∷ b) sa sb ba bb h = byte_cases x y (key_cmp a b) (rank (suc n) (x ∷ a) < rank (suc n) (y ∷ b)) h
    (λ less. omega (arith, mul-le-mul_right (257 ^ n) (let k : suc (suc x) ≤ suc y = omega (arith, less) in k), rank_fits n a (omega (arith, sa)) (λ i. ba (suc i))))
    (λ same rest. omega (arith, ap (λ (k : ℕ). suc k * 257 ^ n) same, rank_rises n a b (omega (arith, sa)) (omega (arith, sb)) (λ i. ba (suc i)) (λ i. bb (suc i)) rest))

-- ---- the pieces of a list

pub at_most : (key : Key) → pieces_after key ≤ most_pieces
unfolding pieces_after most_pieces
at_most key = omega arith

pub after_first : (key : Key) → pieces_after key < most_pieces + 1
after_first key = omega (arith, at_most key)

less_left : (top a b : ℕ) → a < b → b < top → top - b < top - a
less_left top a b h k = omega (arith, h, k)

-- a namespace and at most 16 bytes
long : (key : Key) → IsKey key → length key ≤ 17
long [] is = omega arith
long (n ∷ bytes) is = let most = is.most in omega (arith, most)

pub after_key : (from key : Key) → IsText from → IsText key → IsBelow from key → pieces_after key < pieces_after from
unfolding pieces_after
after_key from key f k below = less_left (257 ^ 17) (rank 17 from) (rank 17 key)
    (rank_rises 17 from key (long from f.is_key) (long key k.is_key) f.bytes k.bytes below) (rank_fits 17 key (long key k.is_key) k.bytes)
