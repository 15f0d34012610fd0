-- Placed values, after others changed the flash or the pool; and the blocks in which they lie.
use Rattle.std.proofs.Common.{◌≡◌, inl, inr, ℕ, zero, suc, ◌+◌, ◌-◌, ◌*◌, ◌/◌, ◌<◌, ◌≤◌, Bool, true, false, not, ◌&&◌, cond, List, [], ◌∷◌, length, filter, Option, Some, None, refl, sym, ap, subst}
use Rattle.std.proofs.Common.{◌∙◌, arith, length-set, eq-or-lt_of_le}
use Rattle.std.{specs.Prelude.count_by, specs.Prelude.slice_get, specs.Prelude.MatchOption, specs.List.range_with_len, proofs.Math.ListN.set, proofs.lemmas.List.Sums.sum_by-cons}
use Rattle.std.{proofs.lemmas.Bool.cases_eq, proofs.lemmas.Bool.and_from, proofs.lemmas.Bool.not_from_false, proofs.lemmas.Option.slice_get_within, proofs.lemmas.Option.same_Some}
use Rattle.pk_base.{specs.Key.Key, specs.Shape.Shape, specs.Shape.IsShape, specs.Shape.data_blocks, specs.Page.Flash, specs.Page.page_at, specs.Entry.Place}
use Rattle.pk_plan.specs.declared.owner.Owner.TheVariants.{Values as for_values}
use Rattle.pk_pool.{specs.declared.state.BlockState.BlockState, specs.declared.state.BlockState.TheVariants.Owned, proofs.States.get-set_other, proofs.States.get-set_same, proofs.Sharing.count-set}
use Rattle.pk_pool.{specs.Blocks.Blocks, specs.Blocks.PoolOnFlash, specs.Blocks.is_owned_by, specs.Blocks.used_by, specs.Blocks.with_state, proofs.Fitting.block_of}
use Rattle.pk_model.specs.Laws.{AnyByRecursion}
use Rattle.pk_live.{specs.declared.open_block.OpenBlock.OpenBlock, proofs.Ranges.has}
use Rattle.pk_values.{specs.State.ValuesState, specs.Placed.ValuesOnFlash, specs.Placed.IsNotOpen, specs.Placed.IsOpenIn, specs.Placed.IsOutput, specs.Placed.HoldsValues}
use Rattle.pk_values.specs.Laws.{SameValues, FlashElsewhere, BlockElsewhere, LieInFew, NoneInSpare, value_blocks, is_for_values}
use Rattle.pk_values.proofs.Outputs.{freed, length-freed, freed_is, used_freed, no_member}

-- the block of a page has some
pub some_pages : (shape : Shape) → IsShape shape → 0 < shape.block_pages
some_pages shape is_shape = let least : 8 ≤ shape.block_pages = is_shape.block_least in omega (arith, least)

-- the open block, if the pool has it still and its pages are the same
pub open_same : (shape : Shape) (p q : Blocks) (outputs : List ℕ) (old new : Flash) (open_block : Option OpenBlock)
    → ((b : ℕ) → HoldsValues p b → HoldsValues q b) → SameValues shape p outputs old new → ((b : ℕ) → IsOutput outputs b → IsNotOpen open_block b)
    → MatchOption open_block (Unit {0}) (λ o. IsOpenIn shape p old o) → MatchOption open_block (Unit {0}) (λ o. IsOpenIn shape q new o)
open_same shape p q outputs old new None kept same not_open open_is = tt
open_same shape p q outputs old new (Some o) kept same not_open open_is =
    let n : ℕ = shape.block_pages in
    let page : (k : ℕ) → o.block * n ≤ k → k < o.block * n + n → page_at new k ≡ page_at old k =
    λ k low high. same k (subst (λ b. HoldsValues p b) (sym (block_of n k o.block low high)) open_is.owned) (λ output. not_open (k / n) output (block_of n k o.block low high)) in
    record {
      owned = kept o.block open_is.owned;
      behind_roots = open_is.behind_roots;
      exists = open_is.exists;
      within = open_is.within;
      even = open_is.even;
      written = λ k low high e. open_is.written k low high (sym (page k low (omega (arith, high, open_is.within))) ∙ e);
      unwritten = λ k low high. page k (omega (arith, low)) high ∙ open_is.unwritten k low high;
    }

-- if the pool has the same blocks for values, and their pages are the same
pub ValuesOnFlash-kept : (shape : Shape) (d : ValuesState) (p q : Blocks) (outputs : List ℕ) (old new : Flash) (es : List (Key × Place)) → ValuesOnFlash shape d p outputs old es
    → q.shape ≡ p.shape → length q.states ≡ length p.states → used_by for_values q.states ≡ used_by for_values p.states
    → ((b : ℕ) → HoldsValues p b → HoldsValues q b) → ((b : ℕ) → HoldsValues q b → HoldsValues p b)
    → SameValues shape p outputs old new → PoolOnFlash q new → ValuesOnFlash shape d q outputs new es
ValuesOnFlash-kept shape d p q outputs old new es placed shape_is size used kept was same fits = record {
  is_shape = placed.is_shape;
  shape_is = shape_is ∙ placed.shape_is;
  size = size ∙ placed.size;
  fits = fits;
  few = let few = placed.few in omega (arith, few, used);
  places = placed.places;
  apart = placed.apart;
  owned = λ k is. kept (k / shape.block_pages) (placed.owned k is);
  written = λ k is e. placed.written k is (sym (same k (placed.owned k is) (placed.outputs_are.unread k is)) ∙ e);
  block_pages_is = placed.block_pages_is;
  heads_are = placed.heads_are;
  closed_size = placed.closed_size;
  closed_owned = λ b is. let c = placed.closed_owned b is in (kept b c.0, c.1, c.2);
  owned_closed = λ b held other no_output. placed.owned_closed b (was b held) other no_output;
  behind_roots = λ b held. placed.behind_roots b (was b held);
  open_is = open_same shape p q outputs old new d.open_block kept same placed.outputs_are.not_open placed.open_is;
  outputs_are = record {
    different = placed.outputs_are.different;
    owned = λ b is. kept b (placed.outputs_are.owned b is);
    not_open = placed.outputs_are.not_open;
    unread = placed.outputs_are.unread;
  };
}

pub flash_elsewhere : FlashElsewhere
flash_elsewhere shape d p outputs old new es placed same fits = ValuesOnFlash-kept shape d p p outputs old new es placed refl refl refl (λ b held. held) (λ b held. held) same fits

-- a block of which the state says that it is for values
for_values_is : (s : BlockState) → Some s ≡ Some (Owned for_values) → is_owned_by for_values s ≡ true
for_values_is s e = ap (is_owned_by for_values) (same_Some s (Owned for_values) e)

pub block_elsewhere : BlockElsewhere
block_elsewhere shape d p outputs b s t old new es placed is not_s not_t same fits =
    ValuesOnFlash-kept shape d p (with_state p b t) outputs old new es placed refl (length-set p.states b t) used kept was same fits
  where
    none : (x : BlockState) → is_owned_by for_values x ≡ false → is_owned_by for_values x ≡ true → ⊥
    none x is_not is_one = let clash : true ≡ false = sym is_one ∙ is_not in cc

    used : used_by for_values (with_state p b t).states ≡ used_by for_values p.states
    used =
        let all = count-set (is_owned_by for_values) p.states b s t is in
        let all' : used_by for_values (set p.states b t) + 0 ≡ used_by for_values p.states + 0 = rw (not_s, not_t) at all in
        omega (arith, all')

    kept : (c : ℕ) → HoldsValues p c → HoldsValues (with_state p b t) c
    kept c held = elim (cases_eq c b) [
      | inl e ↦ absurd (none s not_s (for_values_is s (sym is ∙ subst (λ k. HoldsValues p k) e held)))
      | inr ne ↦ get-set_other p.states b c t ne ∙ held
    ]

    was : (c : ℕ) → HoldsValues (with_state p b t) c → HoldsValues p c
    was c held = elim (cases_eq c b) [
      | inl e ↦ absurd (none t not_t (ap (is_owned_by for_values) (sym (get-set_same p.states b t (Owned for_values) (subst (λ k. HoldsValues (with_state p b t) k) e held)))))
      | inr ne ↦ sym (get-set_other p.states b c t ne) ∙ held
    ]

-- ---- the blocks for values

at_first : (P : ℕ → Type 0) (a : ℕ) → P (a + 0) → P a
at_first P a h = let e : a + 0 ≡ a = omega arith in subst P e h

at_next : (P : ℕ → Type 0) (a i : ℕ) → P (a + suc i) → P ((a + 1) + i)
at_next P a i h = let e : a + suc i ≡ (a + 1) + i = omega arith in subst P e h

-- as many consecutive numbers pass a test as elements of a list pass the same one
pub filter_row : {X : Type 0} (f : ℕ → Bool) (q : X → Bool) (xs : List X) (a : ℕ) → ((i : ℕ) (x : X) → slice_get xs i ≡ Some x → f (a + i) ≡ q x)
    → length (filter f (range_with_len a (length xs))) ≡ count_by q xs
filter_row f q [] a same = refl
filter_row {X} f q (x ∷ xs) a same =
    let rest = filter_row f q xs (a + 1) (λ i y is. at_next (λ k. f k ≡ q y) a i (same (suc i) y is)) in
    let here : f a ≡ q x = at_first (λ k. f k ≡ q x) a (same 0 x refl) in
    let all = sum_by-cons {X = X} (λ y. cond (q y) 1 0) x xs in
    sized (f a) (filter f (range_with_len (a + 1) (length xs))) ∙ (λ i. cond (here i) 1 0 + rest i) ∙ sym all
  where
    sized : (b : Bool) (ys : List ℕ) → length (cond b (a ∷ ys) ys) ≡ cond b 1 0 + length ys
    sized true ys = omega arith
    sized false ys = omega arith

-- a number of the row that passes is among those
filter_has : (f : ℕ → Bool) (k a n : ℕ) → a ≤ k → k < a + n → f k ≡ true → AnyByRecursion (λ b. k ≡ b) (filter f (range_with_len a n))
filter_has f k a zero low high is = absurd (omega (arith, low, high))
filter_has f k a (suc n) low high is =
    elim (eq-or-lt_of_le low) [
      | inl e ↦ (let here : f a ≡ true = ap f e ∙ is in rw here (inl (sym e)))
      | inr above ↦ (
          let there = filter_has f k (a + 1) n (omega (arith, above)) (omega (arith, high)) is in
          elim (f a) as (λ b. AnyByRecursion (λ c. k ≡ c) (cond b (a ∷ filter f (range_with_len (a + 1) n)) (filter f (range_with_len (a + 1) n)))) [ true ↦ inr there | false ↦ there ])
    ]

-- what such a block is
abbrev counts : Blocks → List ℕ → ℕ → Bool
counts pool outputs b = is_for_values (slice_get pool.states b) && not (has b outputs)

-- a block for values that no reclaim holds is among them
pub among_values : (pool : Blocks) (outputs : List ℕ) (b : ℕ) → HoldsValues pool b → (IsOutput outputs b → ⊥) → AnyByRecursion (λ c. b ≡ c) (value_blocks pool outputs)
among_values pool outputs b held no_output =
    filter_has (counts pool outputs) b 0 (length pool.states) (omega arith) (omega (arith, slice_get_within pool.states b (Owned for_values) held))
    (and_from (is_for_values (slice_get pool.states b)) (not (has b outputs)) (ap is_for_values held) (not_from_false (has b outputs) (no_member b outputs no_output)))

pub lie_in_few : LieInFew
lie_in_few shape d pool outputs flash es placed = (few, λ k is. among_values pool outputs (k / shape.block_pages) (placed.owned k is) (placed.outputs_are.unread k is))
  where
    few : length (value_blocks pool outputs) ≤ data_blocks shape - 1
    few =
        let rest : List BlockState = freed pool.states outputs in
        let size : length rest ≡ length pool.states = length-freed outputs pool.states in
        let row : length (filter (counts pool outputs) (range_with_len 0 (length rest))) ≡ count_by (is_owned_by for_values) rest =
        filter_row (counts pool outputs) (is_owned_by for_values) rest 0
        (λ i x is. let e : 0 + i ≡ i = omega arith in ap (counts pool outputs) e ∙ (sym (freed_is outputs pool.states i) ∙ ap is_for_values is)) in
        let all : length (value_blocks pool outputs) ≡ used_by for_values rest = subst (λ n. length (filter (counts pool outputs) (range_with_len 0 n)) ≡ used_by for_values rest) size row in
        let less = used_freed outputs pool.states placed.outputs_are.different placed.outputs_are.owned in
        let most = placed.few in
        omega (arith, all, less, most)

pub none_in_spare : NoneInSpare
none_in_spare shape d pool outputs flash es b placed spare k here is =
    let held : slice_get pool.states b ≡ Some (Owned for_values) = subst (λ c. HoldsValues pool c) here (placed.owned k is) in
    elim spare [ inl free ↦ cc | inr ready ↦ cc ]
