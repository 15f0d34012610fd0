-- Rows of pages that become Erased.
use Rattle.std.proofs.Common.{◌≡◌, ◌⊎◌, inl, inr, ℕ, suc, ◌+◌, ◌*◌, ◌/◌, ◌<◌, ◌≤◌, [], length, length-set, slice_set, refl, sym, ap, subst, ◌∙◌, arith, zero-add, Option, Some, None}
use Rattle.std.{proofs.Math.Nat.mul-le-mul_right, proofs.Math.Nat.suc-mul, proofs.Math.Nat.mul_comm, proofs.lemmas.Bool.Decides.eqb_tells, proofs.lemmas.Bool.cases_lt}
use Rattle.pk_base.{specs.Shape.Shape, specs.Shape.IsShape, specs.Shape.page_count, specs.Page.Flash, specs.Page.page_at, specs.Page.erased}
use Rattle.pk_base.{specs.Mark.erase, specs.Mark.after, specs.Mark.erased_from, proofs.BlockLemmas.in_block, proofs.BlockLemmas.of_block}
use Rattle.pk_nand.{specs.BoardState.shape_or_none, specs.Calls.LeftBehind, specs.Cut.Interrupted, specs.Cut.MayLeave}
use Rattle.pk_nand.proofs.Leaving.{page_at-slice_set, page_at-slice_set_same, same_pages, page_at-erased_from, page-erased_in, length-erased_from}
use Rattle.pk_file.specs.Slots.{ErasedRow}

-- the next page of the row
pub row_more : (first i : ℕ) (old now : Flash) → first + i < length now → ErasedRow first i old now → ErasedRow first (i + 1) old (slice_set now (first + i) erased)
row_more first i old now room row = record {
  same_size = length-set now (first + i) erased ∙ row.same_size;
  inside = λ k low high. elim (eqb_tells k (first + i)) [
    | inl same ↦ (let P : ℕ → Type 0 = λ n. page_at (slice_set now (first + i) erased) n ≡ erased in subst P (sym same.1) (page_at-slice_set_same now (first + i) erased room))
    | inr other ↦ page_at-slice_set now (first + i) k erased other.1 ∙ row.inside k low (let ne = other.1 in omega (arith, high, ne))
  ];
  outside = λ k out. page_at-slice_set now (first + i) k erased (elim out [ inl low ↦ λ e. absurd (omega (arith, low, e)) | inr high ↦ λ e. absurd (omega (arith, high, e)) ])
      ∙ row.outside k (elim out [ inl low ↦ inl low | inr high ↦ inr (omega (arith, high)) ]);
}

-- a whole block is erased
pub row_erases : (shape : Shape) (block : ℕ) (old new : Flash) → 0 < shape.block_pages → block * shape.block_pages + shape.block_pages ≤ length old
    → ErasedRow (block * shape.block_pages) shape.block_pages old new → new ≡ after shape (erase block) old
row_erases shape block old new some room row = same_pages (erased_from shape block 0 old) new (row.same_size ∙ sym (length-erased_from shape block 0 old)) at
  where
    outside : (k : ℕ) → (k < block * shape.block_pages) ⊎ (block * shape.block_pages + shape.block_pages ≤ k) → page_at new k ≡ page_at (erased_from shape block 0 old) k
    outside k out = row.outside k out ∙ sym (page_at-erased_from shape block 0 old k (λ e.
        let is = of_block shape.block_pages block k some (ap (λ n. n / shape.block_pages) (sym (zero-add k)) ∙ e) in
        let least = is.0 in let most = is.1 in elim out [ inl low ↦ absurd (omega (arith, low, least)) | inr high ↦ absurd (omega (arith, high, most)) ]))

    at : (k : ℕ) → page_at new k ≡ page_at (erased_from shape block 0 old) k
    at k = elim (cases_lt k (block * shape.block_pages)) [
      | inl low ↦ outside k (inl low)
      | inr high ↦ elim (cases_lt k (block * shape.block_pages + shape.block_pages)) [
        | inr past ↦ outside k (inr past)
        | inl less ↦ row.inside k high less
            ∙ sym (page-erased_in shape block 0 old k (omega (arith, less, room)) (ap (λ n. n / shape.block_pages) (zero-add k) ∙ in_block shape.block_pages block k high less))
      ]
    ]

-- an erase that was interrupted may leave a prefix of its block Erased
pub row_left : (shape : Shape) (block done : ℕ) (old new : Flash) → done ≤ shape.block_pages → ErasedRow (block * shape.block_pages) done old new → Interrupted shape (erase block) old new []
row_left shape block done old new few row = record { same_size = row.same_size; pages = at; posted = ([], refl) }
  where
    at : (k : ℕ) → MayLeave shape (erase block) k (page_at old k) (page_at new k)
    at k = elim (cases_lt k (block * shape.block_pages)) [
      | inl low ↦ inl (row.outside k (inl low))
      | inr high ↦ elim (cases_lt k (block * shape.block_pages + done)) [
        | inr past ↦ inl (row.outside k (inr past))
        | inl less ↦ inr (in_block shape.block_pages block k high (omega (arith, less, few)), inl (row.inside k high less))
      ]
    ]

-- ---- the board's shape, if there is one

pub erase_left : (o : Option Shape) (s : Shape) → o ≡ Some s → (block n done : ℕ) (old new : Flash) → n ≡ s.block_pages → done ≤ n → ErasedRow (block * n) done old new
    → LeftBehind (shape_or_none o) (erase block) old new None None
erase_left None s e block n done old new is few row = cc
erase_left (Some t) s e block n done old new is few row =
    let same : s ≡ t = cc in
    let own : n ≡ t.block_pages = is ∙ ap (λ (x : Shape). x.block_pages) same in
    inl (row_left t block done old new (omega (arith, few, own)) (subst (λ (m : ℕ). ErasedRow (block * m) done old new) own row), refl)

pub erase_done : (o : Option Shape) (s : Shape) → o ≡ Some s → IsShape s → (block n done : ℕ) (old new : Flash) → n ≡ s.block_pages → done ≤ n → n ≤ done → block < (shape_or_none o).blocks
    → length old ≡ page_count (shape_or_none o) → ErasedRow (block * n) done old new → new ≡ after (shape_or_none o) (erase block) old
erase_done None s e is_shape block n done old new is few all exists count row = cc
erase_done (Some t) s e is_shape block n done old new is few all exists count row =
    let same : s ≡ t = cc in
    let own : n ≡ t.block_pages = is ∙ ap (λ (x : Shape). x.block_pages) same in
    let whole : done ≡ t.block_pages = omega (arith, few, all, own) in
    let least : 8 ≤ t.block_pages = subst (λ (x : Shape). 8 ≤ x.block_pages) same is_shape.block_least in
    let fits : suc block * t.block_pages ≤ t.blocks * t.block_pages = mul-le-mul_right t.block_pages exists in
    let room : block * t.block_pages + t.block_pages ≤ length old = omega (arith, fits, count, suc-mul block t.block_pages, mul_comm t.blocks t.block_pages) in
    row_erases t block old new (omega (arith, least)) room (subst (λ (d : ℕ). ErasedRow (block * t.block_pages) d old new) whole (subst (λ (m : ℕ). ErasedRow (block * m) done old new) own row))
