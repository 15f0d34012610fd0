-- The blocks of live values: a root does not name them, so they are free, and they are not too many.
use Rattle.std.proofs.Common.{◌≡◌, inl, inr, ℕ, ◌+◌, ◌-◌, ◌/◌, ◌<◌, ◌≤◌, Bool, true, false, not, ◌&&◌, ◌||◌, ◌==◌, cond, List, [], ◌∷◌, ◌++◌, length, take, get_or, map, refl}
use Rattle.std.proofs.Common.{sym, ap, subst, ◌∙◌, arith, Option, Some, None, option_map}
use Rattle.std.proofs.lemmas.Bool.{false≢true, or_parts, or_cases, and_parts, and_left, and_right, eqb-true, leb-true, lt-ltb, le-ltb, cases_lt, not-true}
use Rattle.std.{specs.Prelude.slice_get, specs.Prelude.count_by, specs.Prelude.nat_le, specs.Prelude.nat_lt, specs.List.list_any, specs.List.list_all, specs.List.concat, specs.List.range_with_len}
use Rattle.std.{proofs.lemmas.Bool.Decides.nat_tests, proofs.lemmas.List.FromFn.length-map-range_with_len, proofs.lemmas.List.FromFn.get_or-map-range_with_len}
use Rattle.std.{proofs.lemmas.List.take_all, proofs.lemmas.List.get_or_past, proofs.lemmas.List.Folds.list_any-append}
use Rattle.std.proofs.lemmas.List.Sums.{count_by_more_yes, count_by_more_no, sum_by-take-le, length-filter}
use Rattle.pk_base.{specs.Key.Key, specs.Shape.Shape, specs.Shape.IsShape, specs.Shape.data_blocks, specs.Shape.limit, specs.Entry.Place, specs.Page.Flash}
use Rattle.pk_live.{specs.Values.Values as LiveValues, specs.Lives.is_used, specs.Lives.Lives, proofs.Standing.count_map, proofs.Standing.value_in_block, proofs.Standing.Placed}
use Rattle.pk_segfmt.specs.Value.{value_pages}
use Rattle.pk_model.specs.Values.{all_pages, fits, blocks_with}
use Rattle.pk_plan.{specs.declared.owner.Owner.TheVariants.Journal, specs.declared.owner.Owner.TheVariants.Meta, specs.declared.owner.Owner.TheVariants.Values, specs.Quotas.quota_of}
use Rattle.pk_pool.{specs.declared.state.BlockState.BlockState, specs.declared.state.BlockState.TheVariants.Owned}
use Rattle.pk_pool.specs.Blocks.{Blocks, used_by, unused, with_state, IsSpare, PoolOnFlash}
use Rattle.pk_rootfmt.specs.Root.{Root, named, differ}
use Rattle.pk_scan.{specs.Adopts.is_among, specs.Adopts.owned_if, specs.Adopts.state_of, specs.Adopts.Adopts, specs.Adopts.NamesOwned}
use Rattle.pk_scan.proofs.Adopting.{still_spare, adopts_none, adopts_both, adopts_same, adopts_one}
use Rattle.pk_scan.proofs.Naming.{unused_free, unused_none}

-- ---- flags, one more after another

abbrev flags : List Bool → ℕ
flags xs = count_by (λ b. b) xs

-- the flags of the blocks before block i
abbrev pub flag_before : List Bool → ℕ → ℕ → Bool
flag_before xs i b = nat_lt b i && get_or xs b false

flag_same : (f : ℕ → Bool) (i b : ℕ) → f i ≡ false → (nat_lt b i && f b) ≡ (nat_lt b (i + 1) && f b)
flag_same f i b none = grind (arith, nat_tests)

flag_more : (f : ℕ → Bool) (i b : ℕ) → f i ≡ true → ((nat_lt b i && f b) || (i == b)) ≡ (nat_lt b (i + 1) && f b)
flag_more f i b one = grind (arith, nat_tests)

flag_all : (xs : List Bool) (i b : ℕ) → length xs ≤ i → flag_before xs i b ≡ get_or xs b false
flag_all xs i b all = elim (cases_lt b i) [
  | inl low ↦ ap (λ t. t && get_or xs b false) (lt-ltb b i low)
  | inr high ↦ let past = get_or_past xs b false (omega (arith, all, high)) in and_right (nat_lt b i) (get_or xs b false) past ∙ sym past
]

-- ---- the blocks of values

-- a block with a page of pages that are outside of the blocks that are named is not named
any_outside : (n : ℕ) (names pages : List ℕ) (b : ℕ) → list_all (λ p. not (list_any (λ c. c == p / n) names)) pages ≡ true → list_any (λ p. p / n == b) pages ≡ true → is_among names b ≡ false
any_outside n names [] b out has = absurd (false≢true has)
any_outside n names (p ∷ pages) b out has =
    let parts = and_parts (not (list_any (λ c. c == p / n) names)) (list_all (λ p. not (list_any (λ c. c == p / n) names)) pages) out in
    elim (or_cases (p / n == b) (list_any (λ p. p / n == b) pages) has) [
      | inl here ↦ subst (λ (k : ℕ). is_among names k ≡ false) (eqb-true (p / n) b here) (not-true (list_any (λ c. c == p / n) names) parts.0)
      | inr later ↦ any_outside n names pages b parts.1 later
    ]

module _ (shape : Shape) (is_shape : IsShape shape) where
  -- a block with a page of a value is after the root blocks
  behind_roots : (taken : List (Key × Place)) (b : ℕ) → Placed shape taken → is_used shape taken b ≡ true → 2 ≤ b
  behind_roots [] b placed used = absurd (false≢true used)
  behind_roots (e ∷ es) b placed used =
      let parts : (list_any (λ p. p / shape.block_pages == b) (value_pages shape e.1) || is_used shape es b) ≡ true =
      sym (list_any-append (λ p. p / shape.block_pages == b) (value_pages shape e.1) (all_pages shape es)) ∙ used in
      elim (or_cases (list_any (λ p. p / shape.block_pages == b) (value_pages shape e.1)) (is_used shape es b) parts) [
        | inl here ↦
            let is : e.1.page / shape.block_pages ≡ b = eqb-true (e.1.page / shape.block_pages) b (sym (value_in_block shape is_shape e.1 b placed.0) ∙ here) in
            let low = placed.0.past_roots in
            subst (λ (k : ℕ). 2 ≤ k) is low
        | inr later ↦ behind_roots es b placed.1 later
      ]

  module _ (names : List ℕ) (live : LiveValues) (taken : List (Key × Place)) (lives : Lives shape names live taken) where
    flags_are : live.closed ≡ map (is_used shape taken) (range_with_len 0 shape.blocks)
    flags_are = ap (λ (v : LiveValues). v.closed) lives.map_is

    pub flags_many : length live.closed ≡ shape.blocks
    flags_many = ap length flags_are ∙ length-map-range_with_len (is_used shape taken) 0 shape.blocks

    used_is : (b : ℕ) → b < shape.blocks → get_or live.closed b false ≡ is_used shape taken b
    used_is b inside = ap (λ (xs : List Bool). get_or xs b false) flags_are ∙ get_or-map-range_with_len (is_used shape taken) 0 shape.blocks b b false inside (omega arith)

    pages_fit : (list_all (λ p. not (list_any (λ c. c == p / shape.block_pages) names)) (all_pages shape taken) ≡ true)
        × (nat_le (length (blocks_with shape (all_pages shape taken))) (data_blocks shape - 1) ≡ true)
    pages_fit =
        let pages : List ℕ = all_pages shape taken in
        let a = and_parts ((list_all (λ p. not (list_any (λ c. c == p / shape.block_pages) names)) pages && differ pages) && nat_le (length pages) (limit shape))
        (nat_le (length (blocks_with shape pages)) (data_blocks shape - 1)) lives.placed_well in
        let b = and_parts (list_all (λ p. not (list_any (λ c. c == p / shape.block_pages) names)) pages && differ pages) (nat_le (length pages) (limit shape)) a.0 in
        let c = and_parts (list_all (λ p. not (list_any (λ c. c == p / shape.block_pages) names)) pages) (differ pages) b.0 in
        (c.0, a.1)

    -- no closed block is named
    not_named : (b : ℕ) → b < shape.blocks → get_or live.closed b false ≡ true → is_among names b ≡ false
    not_named b inside closed = any_outside shape.block_pages names (all_pages shape taken) b pages_fit.0 (sym (used_is b inside) ∙ closed)

    past_roots : (b : ℕ) → b < shape.blocks → get_or live.closed b false ≡ true → 2 ≤ b
    past_roots b inside closed = behind_roots taken b lives.places (sym (used_is b inside) ∙ closed)

    -- as many are closed as have a page of a value
    pub many_closed : flags live.closed ≡ length (blocks_with shape (all_pages shape taken))
    many_closed =
        ap flags flags_are ∙ count_map (is_used shape taken) (range_with_len 0 shape.blocks)
        ∙ sym (length-filter (λ b. list_any (λ p. p / shape.block_pages == b) (all_pages shape taken)) (range_with_len 0 shape.blocks))

    pub few_closed : flags live.closed ≤ data_blocks shape - 1
    few_closed = let many = many_closed in omega (arith, many, leb-true (length (blocks_with shape (all_pages shape taken))) (data_blocks shape - 1) pages_fit.1)

  -- what the root does not name is unchanged
  unnamed : (root : Root) (b : ℕ) (s : Option BlockState) → is_among (named root) b ≡ false → option_map (state_of root b) s ≡ s
  unnamed root b s none =
      let parts = or_parts (is_among (root.newest ++ root.older) b) (is_among (concat root.runs) b) (sym (list_any-append (λ c. c == b) (root.newest ++ root.older) (concat root.runs)) ∙ none) in
      stays (is_among (concat root.runs) b) (is_among (root.newest ++ root.older) b) parts.1 parts.0 s
    where
      stays : (x y : Bool) → x ≡ false → y ≡ false → (s : Option BlockState) → option_map (λ t. owned_if Meta x (owned_if Journal y t)) s ≡ s
      stays true y p q s = absurd (false≢true (sym p))
      stays false true p q s = absurd (false≢true (sym q))
      stays false false p q None = refl
      stays false false p q (Some t) = refl

  -- so it is free
  pub closed_is_spare : (root : Root) (p : Blocks) (live : LiveValues) (taken : List (Key × Place)) → NamesOwned root (unused shape) p → Lives shape (named root) live taken
      → (b : ℕ) → b < shape.blocks → get_or live.closed b false ≡ true → IsSpare p b
  closed_is_spare root p live taken owned lives b inside closed =
      inl (owned.states b ∙ unnamed root b (slice_get (unused shape).states b) (not_named (named root) live taken lives b inside closed)
      ∙ unused_free shape b (past_roots (named root) live taken lives b inside closed) inside)

-- ---- one block after another

-- the closed ones of the first i blocks were adopted
abbrev pub ValuesAdopting : LiveValues → Blocks → Blocks → ℕ → Type 0
ValuesAdopting live old now i = Adopts Values (flag_before live.closed i) (flags (take i live.closed)) old now

pub ValuesAdopting-start : (live : LiveValues) (p : Blocks) → ValuesAdopting live p p 0
ValuesAdopting-start live p = adopts_same (λ b. sym (and_left (nat_lt b 0) (get_or live.closed b false) (le-ltb b 0 (omega arith)))) refl (adopts_none Values p)

pub ValuesAdopting-end : (live : LiveValues) {old now : Blocks} (i : ℕ) → length live.closed ≤ i
    → ValuesAdopting live old now i → Adopts Values (λ b. get_or live.closed b false) (flags live.closed) old now
ValuesAdopting-end live i all a = adopts_same (λ b. flag_all live.closed i b all) (ap flags (take_all i live.closed all)) a

module _ (live : LiveValues) {old now : Blocks} (i : ℕ) (inside : i < length live.closed) (a : ValuesAdopting live old now i) where
  pub next_is_spare : IsSpare old i → IsSpare now i
  next_is_spare spare = (still_spare a (i ∷ []) (and_left (nat_lt i i) (get_or live.closed i false) (le-ltb i i (omega arith)), tt) (spare, tt)).0

  pub ValuesAdopting-passed : get_or live.closed i false ≡ false → ValuesAdopting live old now (i + 1)
  ValuesAdopting-passed open_one = adopts_same (λ b. flag_same (λ k. get_or live.closed k false) i b open_one) (sym (count_by_more_no (λ b. b) live.closed i false inside open_one)) a

  many_more : get_or live.closed i false ≡ true → flags (take (i + 1) live.closed) ≡ flags (take i live.closed) + 1
  many_more closed = count_by_more_yes (λ b. b) live.closed i false inside closed

  pub ValuesAdopting-next : (new : Blocks) → get_or live.closed i false ≡ true → IsSpare now i → new ≡ with_state now i (Owned Values) → used_by Values new.states ≡ used_by Values now.states + 1
      → ((flash : Flash) → PoolOnFlash now flash → PoolOnFlash new flash) → ValuesAdopting live old new (i + 1)
  ValuesAdopting-next new closed spare is counted fits =
      adopts_same (λ b. flag_more (λ k. get_or live.closed k false) i b closed) (sym (many_more closed)) (adopts_both a (adopts_one Values now new i spare is counted fits))

  -- there is room for one more
  pub room_left : get_or live.closed i false ≡ true → used_by Values old.states ≡ 0
      → flags live.closed ≤ data_blocks old.shape - 1 → 1 ≤ data_blocks old.shape → used_by Values now.states < quota_of now.shape Values
  room_left closed none few some =
      let count = many_more closed in
      let front = sum_by-take-le (λ b. cond {A = ℕ} b 1 0) live.closed (i + 1) in
      let quota = ap (λ s. quota_of s Values) a.shape in
      omega (arith, count, front, few, some, none, quota, a.counted)

-- ---- all of it

-- the live map represents values outside of the root's blocks, which have their owners
pub record Settled (p : Blocks) (live : LiveValues) : Type 0 where
  pub many : length live.closed ≡ p.shape.blocks
  pub spare : (b : ℕ) → b < p.shape.blocks → get_or live.closed b false ≡ true → IsSpare p b
  pub none : used_by Values p.states ≡ 0
  pub few : flags live.closed ≤ data_blocks p.shape - 1

pub settled : (p : Blocks) (live : LiveValues) → IsShape p.shape → (root : Root) × (taken : List (Key × Place))
    × NamesOwned root (unused p.shape) p × Lives p.shape (named root) live taken → Settled p live
settled p live is (root, taken, owned, lives) = record {
  many = flags_many p.shape is (named root) live taken lives;
  spare = closed_is_spare p.shape is root p live taken owned lives;
  none = owned.values ∙ unused_none Values p.shape (let fits = is.data_fits in omega (arith, fits));
  few = few_closed p.shape is (named root) live taken lives;
}

-- A new pool whose root's blocks got their owners, and a live map of values outside of them, are what values are adopted in.
pub may_adopt_values : (shape : Shape) (root : Root) (p q : Blocks) (live : LiveValues) (taken : List (Key × Place)) → p ≡ unused shape → NamesOwned root p q → Lives shape (named root) live taken
    → (root : Root) × (taken : List (Key × Place)) × NamesOwned root (unused q.shape) q × Lives q.shape (named root) live taken
may_adopt_values shape root p q live taken is owned lives =
    let same : q.shape ≡ shape = owned.shape ∙ ap (λ (x : Blocks). x.shape) is in
    let from : NamesOwned root (unused shape) q = subst (λ (x : Blocks). NamesOwned root x q) is owned in
    (root, taken, subst (λ (s : Shape). NamesOwned root (unused s) q) (sym same) from, subst (λ (s : Shape). Lives s (named root) live taken) (sym same) lives)
