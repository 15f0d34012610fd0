-- Values as they are found at opening.
use Rattle.std.proofs.Common.{◌≡◌, inl, inr, ℕ, ◌+◌, ◌-◌, ◌*◌, ◌/◌, ◌%◌, ◌<◌, ◌≤◌, true, false, T, List, [], ◌∷◌, ◌==◌, length, filter, get_or, map, Some, refl, sym, ap, subst, ◌∙◌, arith}
use Rattle.std.proofs.Common.{div-add-mod', mod-lt, mul-le-mul_right}
use Rattle.std.{specs.Prelude.slice_get, specs.List.list_any, specs.List.range_with_len, specs.List.AllByRecursion}
use Rattle.std.proofs.lemmas.Bool.{false≢true, cases_Bool, cases_lt, or_cases, or_left, or_right, eqb-true, eq-eqb, false_from_ne_true}
use Rattle.std.proofs.lemmas.List.FromFn.{length-map-range_with_len, get_or-map-range_with_len}
use Rattle.std.proofs.lemmas.Option.{slice_get-get_or, slice_get_within, same_Some}
use Rattle.pk_base.{specs.Key.Key, specs.Shape.Shape, specs.Shape.IsShape, specs.Shape.page_count, specs.Shape.data_blocks, specs.Page.Flash, specs.Entry.Place, specs.EntryChecks.IsPlace}
use Rattle.pk_plan.specs.declared.owner.Owner.{Owner}
use Rattle.pk_plan.specs.declared.owner.Owner.TheVariants.{Journal, Meta, Values as for_values}
use Rattle.pk_pool.{specs.declared.state.BlockState.BlockState, specs.Blocks.Blocks, specs.Blocks.is_owned_by, specs.Blocks.used_by}
use Rattle.pk_pool.specs.declared.state.BlockState.TheVariants.{Root, Free, Ready, Owned, Leaving}
use Rattle.pk_live.{specs.Values.Values, specs.Lives.is_used, proofs.Blocks.value_exists, proofs.Blocks.block_exists}
use Rattle.pk_model.{specs.Values.all_pages, specs.Values.fits, specs.Laws.AnyByRecursion, proofs.ValueSets.fits_parts}
use Rattle.pk_law_steps.{specs.Under.IsValuePage, proofs.Places.value_in, proofs.Places.in_value}
use Rattle.pk_values.{specs.State.with_none_open, specs.Placed.ValuesOnFlash, specs.Placed.FoundAtOpening, specs.Placed.HoldsValues, proofs.Lists.apart_from}
use Rattle.pk_values.proofs.Unchanged.{some_pages, filter_row}

-- a page of a value exists
page_exists : (shape : Shape) → IsShape shape → (es : List (Key × Place)) (k : ℕ) → AllByRecursion (λ e. IsPlace shape e.1) es → IsValuePage shape es k → k < page_count shape
page_exists shape is_shape [] k places is = absurd is
page_exists shape is_shape (e ∷ es) k places (inl here) =
    let low = here.0 in
    let same : e.1.page + (k - e.1.page) ≡ k = omega (arith, low) in
    subst (λ p. p < page_count shape) same (value_exists shape e.1 (k - e.1.page) is_shape places.0 (omega (arith, here.0, here.1)))
page_exists shape is_shape (e ∷ es) k places (inr there) = page_exists shape is_shape es k places.1 there

-- and is after the root blocks
page_behind : (shape : Shape) (es : List (Key × Place)) (k : ℕ) → AllByRecursion (λ e. IsPlace shape e.1) es → IsValuePage shape es k → 2 * shape.block_pages ≤ k
page_behind shape [] k places is = absurd is
page_behind shape (e ∷ es) k places (inl here) =
    let n : ℕ = shape.block_pages in
    let first : e.1.page / n * n + e.1.page % n ≡ e.1.page = div-add-mod' e.1.page n in
    let twice : 2 * n ≤ e.1.page / n * n = mul-le-mul_right n places.0.past_roots in
    omega (arith, first, twice, here.0)
page_behind shape (e ∷ es) k places (inr there) = page_behind shape es k places.1 there

-- the block of such a page is no root block
block_behind : (n k b : ℕ) → 0 < n → 2 * n ≤ k → k / n ≡ b → 2 ≤ b
block_behind n k b some behind is = elim (cases_lt b 2) [
  | inl low ↦ (
      let whole : b * n + k % n ≡ k = subst (λ x. x * n + k % n ≡ k) is (div-add-mod' k n) in
      let once : b * n ≤ 1 * n = mul-le-mul_right n (omega (arith, low)) in
      absurd (omega (arith, whole, once, mod-lt k some, behind)))
  | inr high ↦ omega (arith, high)
]

-- the block of a page among others has one of them
pub any_block : (n k : ℕ) (pages : List ℕ) → AnyByRecursion (λ p. k ≡ p) pages → list_any (λ p. p / n == k / n) pages ≡ true
any_block n k [] is = absurd is
any_block n k (p ∷ pages) (inl e) = or_left (p / n == k / n) (list_any (λ q. q / n == k / n) pages) (eq-eqb (p / n) (k / n) (ap (λ q. q / n) (sym e)))
any_block n k (p ∷ pages) (inr is) = or_right (p / n == k / n) (list_any (λ q. q / n == k / n) pages) (any_block n k pages is)

-- and if a block has one of these pages, this is one
page_in : (n b : ℕ) (pages : List ℕ) → list_any (λ p. p / n == b) pages ≡ true → (k : ℕ) × AnyByRecursion (λ p. k ≡ p) pages × (k / n ≡ b)
page_in n b [] is = absurd (false≢true is)
page_in n b (p ∷ pages) is = elim (or_cases (p / n == b) (list_any (λ q. q / n == b) pages) is) [
  | inl here ↦ (p, inl refl, eqb-true (p / n) b here)
  | inr there ↦ (let more = page_in n b pages there in (more.0, inr more.1, more.2))
]

-- the state of a block for values
owned_is : (s : BlockState) → ((o : Owner) → s ≡ Leaving o → ⊥) → is_owned_by for_values s ≡ true → s ≡ Owned for_values
owned_is Root stays e = cc
owned_is Free stays e = cc
owned_is Ready stays e = cc
owned_is (Owned Journal) stays e = cc
owned_is (Owned Meta) stays e = cc
owned_is (Owned for_values) stays e = refl
owned_is (Leaving o) stays e = absurd (stays o refl)

module _ (shape : Shape) (named : List ℕ) (live : Values) (pool : Blocks) (flash : Flash) (es : List (Key × Place)) (f : FoundAtOpening shape named live pool flash es) where
  closed_is : live.closed ≡ map (is_used shape es) (range_with_len 0 shape.blocks)
  closed_is = ap (λ (v : Values). v.closed) f.lives.map_is

  size_is : length live.closed ≡ shape.blocks
  size_is = ap length closed_is ∙ length-map-range_with_len (is_used shape es) 0 shape.blocks

  -- a block is closed exactly if a page of a value is in it
  closed_at : (b : ℕ) → b < shape.blocks → slice_get live.closed b ≡ Some (is_used shape es b)
  closed_at b exists =
      slice_get-get_or live.closed b false (omega (arith, exists, size_is))
      ∙ ap Some (ap (λ cs. get_or cs b false) closed_is ∙ get_or-map-range_with_len (is_used shape es) 0 shape.blocks b b false exists (omega arith))

  used_owned : (b : ℕ) → b < shape.blocks → is_used shape es b ≡ true → HoldsValues pool b
  used_owned b exists is = f.closed_owned b (closed_at b exists ∙ ap Some is)

  owned_used : (b : ℕ) → b < shape.blocks → HoldsValues pool b → is_used shape es b ≡ true
  owned_used b exists held = same_Some (is_used shape es b) true (sym (closed_at b exists) ∙ f.owned_closed b held)

  parts : T (fits shape named (all_pages shape es))
  parts = subst T (sym f.lives.placed_well) tt

  same_test : (i : ℕ) (x : BlockState) → slice_get pool.states i ≡ Some x → is_used shape es (0 + i) ≡ is_owned_by for_values x
  same_test i x is =
      let exists : i < shape.blocks = omega (arith, slice_get_within pool.states i x is, f.size) in
      let same : 0 + i ≡ i = omega arith in
      ap (is_used shape es) same ∙ elim (cases_Bool (is_owned_by for_values x)) [
        | inl yes' ↦ owned_used i exists (is ∙ ap Some (owned_is x (λ o left. f.none_leaves i o (is ∙ ap Some left)) yes')) ∙ sym yes'
        | inr not_owned ↦ false_from_ne_true (is_used shape es i) (λ used.
            let one : is_owned_by for_values x ≡ true = ap (is_owned_by for_values) (same_Some x (Owned for_values) (sym is ∙ used_owned i exists used)) in
            let clash : true ≡ false = sym one ∙ not_owned in cc) ∙ sym not_owned
      ]

  few_blocks : used_by for_values pool.states ≤ data_blocks shape - 1
  few_blocks =
      let most = (fits_parts shape named (all_pages shape es) parts).few_blocks in
      let row = filter_row (is_used shape es) (is_owned_by for_values) pool.states 0 same_test in
      let all : length (filter (is_used shape es) (range_with_len 0 shape.blocks)) ≡ used_by for_values pool.states = subst
      (λ (n : ℕ). length (filter (is_used shape es) (range_with_len 0 n)) ≡ used_by for_values pool.states) f.size row in
      omega (arith, most, all)

  page_of : (b : ℕ) → HoldsValues pool b → (k : ℕ) × IsValuePage shape es k × (k / shape.block_pages ≡ b)
  page_of b held =
      let exists : b < shape.blocks = omega (arith, slice_get_within pool.states b (Owned for_values) held, f.size) in
      let page = page_in shape.block_pages b (all_pages shape es) (owned_used b exists held) in
      (page.0, in_value shape es page.0 page.1, page.2)

  -- which is after the root blocks
  behind_roots : (b : ℕ) → HoldsValues pool b → 2 ≤ b
  behind_roots b held =
      let page = page_of b held in
      block_behind shape.block_pages page.0 b (some_pages shape f.is_shape) (page_behind shape es page.0 f.lives.places page.1) page.2

  pub found_placed : ValuesOnFlash shape (with_none_open live) pool [] flash es
  found_placed = record {
    is_shape = f.is_shape;
    shape_is = f.shape_is;
    size = f.size;
    fits = f.fits;
    few = omega (arith, few_blocks);
    places = f.lives.places;
    apart = apart_from shape es (fits_parts shape named (all_pages shape es) parts).different;
    owned = λ k is. used_owned (k / shape.block_pages)
        (block_exists shape.block_pages shape.blocks k (some_pages shape f.is_shape) (page_exists shape f.is_shape es k f.lives.places is))
        (any_block shape.block_pages k (all_pages shape es) (value_in shape es k is));
    written = f.written;
    block_pages_is = ap (λ (v : Values). v.block_pages) f.lives.map_is;
    heads_are = ap (λ (v : Values). v.heads) f.lives.map_is;
    closed_size = size_is;
    closed_owned = λ b is. (f.closed_owned b is, tt, λ output. output);
    owned_closed = λ b held other no_output. f.owned_closed b held;
    behind_roots = behind_roots;
    open_is = tt;
    outputs_are = record { different = refl; owned = λ b is. absurd is; not_open = λ b is. absurd is; unread = λ k is output. output };
  }
