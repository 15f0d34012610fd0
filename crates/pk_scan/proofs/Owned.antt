-- The blocks that have an owner, and what depends on which these are alone.
use Rattle.std.proofs.Common.{◌≡◌, inl, inr, ℕ, zero, suc, ◌+◌, ◌-◌, ◌/◌, ◌<◌, ◌≤◌, Bool, true, false, not, ◌&&◌, ◌||◌, ◌==◌, List, [], ◌∷◌, ◌++◌, length, refl, sym, ap, subst, ◌∙◌, arith, Option}
use Rattle.std.proofs.Common.{Some, None, Ok, option_map, eq-or-lt_of_le}
use Rattle.std.proofs.lemmas.Bool.{false≢true, or_left, or_right, or_cases, eq-eqb, eqb-true}
use Rattle.std.{specs.Prelude.slice_get, specs.Prelude.nat_le, specs.List.list_any, specs.List.list_all, specs.List.concat, specs.List.range_with_len, specs.List.AllByRecursion}
use Rattle.std.{proofs.lemmas.List.Folds.list_any-append, proofs.lemmas.Map.Views.any-filter_same, proofs.lemmas.Option.slice_get_within}
use Rattle.pk_base.{specs.Key.Key, specs.Key.space_of, specs.Shape.Shape, specs.Shape.IsShape, specs.Shape.limit, specs.Shape.data_blocks, specs.Entry.Place, specs.Page.Page}
use Rattle.pk_base.specs.Refusal.{ensure, ◌>>=◌}
use Rattle.pk_plan.specs.declared.owner.Owner.TheVariants.{Journal, Meta}
use Rattle.pk_pool.{specs.declared.state.BlockState.BlockState, specs.Blocks.Blocks, specs.Blocks.unused, specs.Blocks.IsSpare, proofs.Sharing.used_given, proofs.States.none_leaves_unused}
use Rattle.pk_pool.specs.declared.state.BlockState.TheVariants.{Free, Ready, Owned, Leaving}
use Rattle.pk_rootfmt.specs.Root.{Root, named, is_root, differ}
use Rattle.pk_segfmt.specs.Value.{value_pages, value_at}
use Rattle.pk_live.{specs.Values.Values, specs.Lives.Lives}
use Rattle.pk_model.{specs.Values.fits, specs.Values.all_pages, specs.Values.blocks_with, specs.Values.values_of, specs.Values.pages_of_space, specs.Spaces.limit_of}
use Rattle.pk_scan.{specs.Adopts.is_among, specs.Adopts.has_owner, specs.Adopts.owned_blocks, specs.Adopts.owned_if, specs.Adopts.NamesOwned, proofs.Naming.names_spare, proofs.Naming.unused_none}

-- ---- one block

row_has : (b a n : ℕ) → a ≤ b → b < a + n → list_any (λ c. c == b) (range_with_len a n) ≡ true
row_has b a zero low high = absurd (omega (arith, low, high))
row_has b a (suc n) low high = elim (eq-or-lt_of_le low) [
  | inl e ↦ or_left (a == b) (list_any (λ c. c == b) (range_with_len (a + 1) n)) (eq-eqb a b e)
  | inr above ↦ or_right (a == b) (list_any (λ c. c == b) (range_with_len (a + 1) n)) (row_has b (a + 1) n (omega (arith, above)) (omega (arith, high)))
]

module _ (pool : Blocks) (b : ℕ) where
  abbrev owns : ℕ → Bool
  owns c = has_owner (slice_get pool.states c)

  inside : (s : Option BlockState) → slice_get pool.states b ≡ s → has_owner s ≡ true → b < length pool.states
  inside None e is = absurd (false≢true is)
  inside (Some s) e is = slice_get_within pool.states b s e

  settled : (o : Bool) → owns b ≡ o → (o && list_any (λ c. c == b) (range_with_len 0 (length pool.states))) ≡ o
  settled false e = refl
  settled true e = let within = inside (slice_get pool.states b) refl e in row_has b 0 (length pool.states) (omega arith) (omega (arith, within))

  -- a block has an owner exactly if it is among those
  pub owned_is : list_any (λ c. c == b) (owned_blocks pool) ≡ has_owner (slice_get pool.states b)
  unfolding owned_blocks
  owned_is = any-filter_same (λ c. c == b) owns (owns b) (λ c e. ap owns (eqb-true c b e)) (range_with_len 0 (length pool.states)) ∙ settled (owns b) refl

-- ---- the same blocks

module _ (shape : Shape) (xs ys : List ℕ) (same : (b : ℕ) → list_any (λ c. c == b) xs ≡ list_any (λ c. c == b) ys) where
  outside_same : (pages : List ℕ) → list_all (λ p. not (list_any (λ b. b == p / shape.block_pages) xs)) pages ≡ list_all (λ p. not (list_any (λ b. b == p / shape.block_pages) ys)) pages
  outside_same [] = refl
  outside_same (p ∷ pages) = λ i. not (same (p / shape.block_pages) i) && outside_same pages i

  fits_same : (pages : List ℕ) → fits shape xs pages ≡ fits shape ys pages
  fits_same pages = λ i. outside_same pages i && differ pages && nat_le (length pages) (limit shape) && nat_le (length (blocks_with shape pages)) (data_blocks shape - 1)

  pub values_same : (at : ℕ → Page) (limits : List ℕ) (taken es : List (Key × Place)) → values_of shape at limits xs taken es ≡ values_of shape at limits ys taken es
  unfolding values_of
  values_same at limits taken [] = refl
  values_same at limits taken (e ∷ es) =
      λ i. ensure (fits_same (all_pages shape taken ++ value_pages shape e.1) i && nat_le (pages_of_space shape (space_of e.0) (taken ++ e ∷ [])) (limit_of limits (space_of e.0))) e.1.page >>=
      (λ u. value_at shape at e.0 e.1 >>= (λ value. values_same at limits (taken ++ e ∷ []) es i >>= (λ others. Ok ((e.0, value) ∷ others))))

  pub Lives-same : (live : Values) (taken : List (Key × Place)) → Lives shape xs live taken → Lives shape ys live taken
  Lives-same live taken lives = record {
    map_is = lives.map_is;
    places = lives.places;
    placed_well = sym (fits_same (all_pages shape taken)) ∙ lives.placed_well;
  }

-- ---- the blocks of a root

member_passes : (P : ℕ → Type 0) (b : ℕ) (bs : List ℕ) → AllByRecursion P bs → is_among bs b ≡ true → P b
member_passes P b [] all is = absurd (false≢true is)
member_passes P b (c ∷ bs) all is = elim (or_cases (c == b) (is_among bs b) is) [ inl here ↦ subst P (eqb-true c b here) all.0 | inr later ↦ member_passes P b bs all.1 later ]

there_is : (p : Blocks) (b : ℕ) → IsSpare p b → slice_get p.states b ≡ None → ⊥
there_is p b (inl free) none = let clash : ◌≡◌ {A = Option BlockState} None (Some Free) = sym none ∙ free in cc
there_is p b (inr ready) none = let clash : ◌≡◌ {A = Option BlockState} None (Some Ready) = sym none ∙ ready in cc

-- what has no owner has one if it is among the runs' blocks or the epochs'
owned_if_named : (x y : Bool) (s : Option BlockState) → has_owner s ≡ false → ((y || x) ≡ true → s ≡ None → ⊥) → has_owner (option_map (λ t. owned_if Meta x (owned_if Journal y t)) s) ≡ (y || x)
owned_if_named false false (Some t) none some = none
owned_if_named true false (Some t) none some = refl
owned_if_named _ _ (Some t) none some = refl
owned_if_named false false None none some = refl
owned_if_named true false None none some = absurd (some refl refl)
owned_if_named _ _ None none some = absurd (some refl refl)

module _ (shape : Shape) (root : Root) (is : IsShape shape) (e : is_root shape root ≡ true) where
  none_owned : (b : ℕ) (s : Option BlockState) → slice_get (unused shape).states b ≡ s → has_owner s ≡ false
  none_owned b (Some (Owned o)) at =
      let one = used_given (unused shape).states b o at in
      let none = unused_none o shape (let fits = is.data_fits in omega (arith, fits)) in
      absurd (omega (arith, one, none))
  none_owned b (Some (Leaving o)) at = absurd (none_leaves_unused shape b o at)
  none_owned b _ at = refl

  -- if the root's blocks have got their owners, they are those that have one
  pub owned_named : (pool : Blocks) → NamesOwned root (unused shape) pool → (b : ℕ) → list_any (λ c. c == b) (owned_blocks pool) ≡ list_any (λ c. c == b) (named root)
  owned_named pool owned b =
      let both : is_among (named root) b ≡ (is_among (root.newest ++ root.older) b || is_among (concat root.runs) b) = list_any-append (λ c. c == b) (root.newest ++ root.older) (concat root.runs) in
      owned_is pool b ∙ ap has_owner (owned.states b)
      ∙ owned_if_named (is_among (concat root.runs) b) (is_among (root.newest ++ root.older) b) (slice_get (unused shape).states b) (none_owned b (slice_get (unused shape).states b) refl)
      (λ named none. there_is (unused shape) b (member_passes (IsSpare (unused shape)) b (root.newest ++ root.older ++ concat root.runs) (names_spare shape root is e) (both ∙ named)) none)
      ∙ sym both
