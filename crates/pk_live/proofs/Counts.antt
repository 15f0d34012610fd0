-- The sums of blocks after one head is written.
use Rattle.std.proofs.Common.{◌≡◌, ◌≢◌, ℕ, ◌+◌, ◌*◌, ◌/◌, ◌-◌, ◌<◌, ◌≤◌, Bool, List, length, get_or, take, drop, ap, sym, ◌∙◌, arith, sum, replicate, length-set, length-take, length-drop}
use Rattle.std.proofs.Common.{get_or-set_same, get_or-set_other, get_or-take, get_or-drop, suc, min, inl, inr, false}
use Rattle.std.proofs.lemmas.List.{length-replicate, get_or-replicate, drop-set-add, drop-set-lt, take-set-le}
use Rattle.std.proofs.Math.Nat.{div-lt_iff_lt-mul, mul-le-mul_right, suc-mul, lt-div-mul-add, div-mul-le_self, mul_comm}
use Rattle.std.{specs.Prelude.slice_get, specs.Prelude.Some, proofs.lemmas.Option.slice_get_within, proofs.lemmas.Option.get_or_from_slice_get}
use Rattle.std.{proofs.lemmas.List.Elements.All-replicate, proofs.lemmas.List.Elements.All-set, proofs.Math.ListN.set, specs.Prelude.All, proofs.Math.Seq.take-set-lt, proofs.lemmas.Nat.mul-le}
use Rattle.std.{proofs.lemmas.List.Sums.sum_by-set, proofs.lemmas.List.Sums.sum_by-le, proofs.lemmas.Bool.cases_lt, proofs.lemmas.Bool.cases_eq}
use Rattle.pk_live.specs.Values.{block_sum, IsCounted}

-- a page of n pages a block is in one of m blocks
pub in_block : (n m page : ℕ) → 0 < n → page < n * m → page / n < m
in_block n m page pos h = (div-lt_iff_lt-mul {x = page} {y = m} pos).1 (omega (arith, h, mul_comm n m))

-- in the block of the page
pub block_sum-set_same : (hs : List ℕ) (n page y : ℕ) → 0 < n → page < length hs → block_sum (set hs page y) n (page / n) + get_or hs page 0 ≡ block_sum hs n (page / n) + y
block_sum-set_same hs n page y pos h =
    let b = page / n * n in
    let r = page - b in
    let e : page ≡ b + r = omega (arith, div-mul-le_self page n) in
    let near : r < n = omega (arith, lt-div-mul-add {a = page} pos) in
    let l = drop b hs in
    let moved : take n (drop b (set hs page y)) ≡ set (take n l) r y = ap (λ k. take n (drop b (set hs k y))) e ∙ ap (take n) (drop-set-add b hs r y) ∙ take-set-lt n l r y near in
    let read : get_or (take n l) r 0 ≡ get_or hs page 0 = get_or-take n l r 0 near ∙ get_or-drop b hs r 0 ∙ ap (λ k. get_or hs k 0) (sym e) in
    let inside : r < length (take n l) = simp (length-take, length-drop) (omega arith) in
    rw (moved, ← read) (sum_by-set (λ x. x) (take n l) r y 0 inside)

-- in any other
pub block_sum-set_other : (hs : List ℕ) (n page y b : ℕ) → 0 < n → b ≢ page / n → block_sum (set hs page y) n b ≡ block_sum hs n b
block_sum-set_other hs n page y b pos ne = elim (cases_lt b (page / n)) [
  | inl below ↦
      let r = page - b * n in
      let far : b * n + n ≤ page = omega (arith, mul-le-mul_right {m = suc b} {n = page / n} n (omega arith), suc-mul b n, div-mul-le_self page n) in
      let e : page ≡ b * n + r = omega arith in
      ap (λ k. sum (take n (drop (b * n) (set hs k y)))) e ∙ ap (λ l. sum (take n l)) (drop-set-add (b * n) hs r y) ∙ ap sum (take-set-le n (drop (b * n) hs) r y (omega arith))
  | inr above ↦
      let near : page / n * n + n ≤ b * n = omega (arith, mul-le-mul_right {m = suc (page / n)} {n = b} n (omega arith), suc-mul (page / n) n) in
      ap (λ l. sum (take n l)) (drop-set-lt (b * n) hs page y (omega (arith, lt-div-mul-add {a = page} pos)))
]

-- what holds of each holds in a part
All-take-drop : (m : ℕ) (hs : List ℕ) (a n : ℕ) → All (λ h. h ≤ m) hs → All (λ h. h ≤ m) (take n (drop a hs))
All-take-drop m hs a n bytes k d h =
    let l : k < min n (length hs - a) = simp (length-take, length-drop) at h in
    rw (get_or-take n (drop a hs) k d (omega arith), get_or-drop a hs k d) (bytes (a + k) d (omega arith))

-- a block is not too large
pub block_sum-le : (hs : List ℕ) (n b : ℕ) → n ≤ 256 → All (λ h. h ≤ 256) hs → block_sum hs n b ≤ 65536
block_sum-le hs n b small bytes =
    let xs = take n (drop (b * n) hs) in
    let short : length xs ≤ 256 = simp (length-take, length-drop) (omega arith) in
    let all : All (λ h. h ≤ 256) xs = All-take-drop 256 hs (b * n) n bytes in
    omega (arith, sum_by-le (λ x. x) 256 xs all)

pub sum-le-pages : (hs : List ℕ) (n m : ℕ) → n ≤ 256 → m ≤ 4096 → length hs ≡ n * m → All (λ h. h ≤ 256) hs → sum hs ≤ 268435456
sum-le-pages hs n m small few pages bytes =
    omega (arith, sum_by-le (λ x. x) 256 hs bytes, mul-le n m 256 4096 small few)

-- the counts after a write
pub counted_set : (n t u c : ℕ) (hs cs : List ℕ) (cl : List Bool) (page x y : ℕ) → IsCounted n t hs cs cl → page < length hs → y ≤ 256 → get_or hs page 0 ≡ x
    → u + x ≡ t + y → c + x ≡ get_or cs (page / n) 0 + y → IsCounted n u (set hs page y) (set cs (page / n) c) cl
counted_set n t u c hs cs cl page x y i h small was all one =
    let q = page / n in
    let q_in : q < length cs = rw i.blocks (in_block n (length cl) page i.positive (omega (arith, h, i.pages))) in
    let same = block_sum-set_same hs n page y i.positive h in
    record {
      positive = i.positive;
      small = i.small;
      few = i.few;
      pages = length-set hs page y ∙ i.pages;
      blocks = length-set cs q c ∙ i.blocks;
      short = All-set (λ h. h ≤ 256) hs page y small i.short;
      counted = λ b b_in. elim (cases_eq b q) [
        | inl e ↦ rw (e, get_or-set_same cs q c 0 q_in) (omega (arith, i.counted q q_in, same))
        | inr ne ↦ rw (get_or-set_other cs q b c 0 ne, block_sum-set_other hs n page y b i.positive ne) (i.counted b (rw (length-set cs q c) at b_in))
      ];
      all = omega (arith, sum_by-set (λ x. x) hs page y 0 h, i.all);
    }

-- a page whose head is x: its block has a count, and neither this nor the total is large or less than x
pub record HeadAt (n t page x : ℕ) (hs cs : List ℕ) : Type 0 where
  pub exists : page < length hs
  pub head : get_or hs page 0 ≡ x
  pub block : page / n < length cs
  pub count_small : get_or cs (page / n) 0 ≤ 65536
  pub total_small : t ≤ 268435456
  pub count_covers : x ≤ get_or cs (page / n) 0
  pub total_covers : x ≤ t

pub head_at : (n t page x : ℕ) (hs cs : List ℕ) (cl : List Bool) → IsCounted n t hs cs cl → slice_get hs page ≡ Some x → HeadAt n t page x hs cs
head_at n t page x hs cs cl i is =
    let h = slice_get_within hs page x is in
    let head = get_or_from_slice_get hs page x 0 is in
    let block : page / n < length cs = rw i.blocks (in_block n (length cl) page i.positive (omega (arith, h, i.pages))) in
    let count = i.counted (page / n) block in
    record {
      exists = h;
      head = head;
      block = block;
      count_small = rw count (block_sum-le hs n (page / n) i.small i.short);
      total_small = rw i.all (sum-le-pages hs n (length cl) i.small i.few i.pages i.short);
      count_covers = omega (arith, head, count, block_sum-set_same hs n page 0 i.positive h);
      total_covers = omega (arith, head, sum_by-set (λ x. x) hs page 0 0 h, i.all);
    }

-- at the start there is no value
pub counted_none : (n m : ℕ) → 0 < n → n ≤ 256 → m ≤ 4096 → IsCounted n 0 (replicate (n * m) 0) (replicate m 0) (replicate m false)
counted_none n m pos small few =
    let zeros : All (λ h. h ≤ 0) (replicate (n * m) 0) = All-replicate (λ h. h ≤ 0) (n * m) 0 (omega arith) in
    record {
      positive = pos;
      small = small;
      few = rw (length-replicate m false) few;
      pages = length-replicate {A = ℕ} (n * m) 0 ∙ ap (λ k. n * k) (sym (length-replicate m false));
      blocks = length-replicate {A = ℕ} m 0 ∙ sym (length-replicate m false);
      short = All-replicate (λ h. h ≤ 256) (n * m) 0 (omega arith);
      counted = λ b h. let h' = rw (length-replicate {A = ℕ} m 0) at h in rw (get_or-replicate {A = ℕ} m b 0 0 h')
          (omega (arith, sum_by-le (λ x. x) 0 (take n (drop (b * n) (replicate (n * m) 0))) (All-take-drop 0 (replicate (n * m) 0) (b * n) n zeros)));
      all = omega (arith, sum_by-le (λ x. x) 0 (replicate (n * m) 0) zeros);
    }
