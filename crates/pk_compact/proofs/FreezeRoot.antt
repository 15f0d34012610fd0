-- A freeze that has both blocks: the erase before its root, and the program of the root.
use Rattle.std.proofs.Common.{◌≡◌, ◌≢◌, ◌⊎◌, inl, inr, ℕ, ◌+◌, ◌*◌, ◌/◌, ◌<◌, ◌≤◌, List, [], ◌∷◌, ◌++◌, T, Bool, true, false, slice_index, length, Some, if◌then◌else◌, refl, sym, ap, subst, ◌∙◌}
use Rattle.std.proofs.Common.{arith, mul-le-mul_right}
use Rattle.std.{specs.Prelude.slice_get, specs.List.concat}
use Rattle.pk_base.{specs.Shape.Shape, specs.Shape.IsShape, specs.Page.Flash, specs.Page.page_at, specs.Page.SameBehind, specs.Map.Map, proofs.Logic.is_true}
use Rattle.pk_law_work.{specs.Rest.Lowers, specs.Rest.steps_of, specs.Jobs.freeze_rest}
use Rattle.pk_plan.specs.declared.owner.Owner.TheVariants.{Journal}
use Rattle.pk_nand.{specs.BoardState.BoardState, specs.Calls.IsReady}
use Rattle.pk_rootfmt.{specs.Root.Root, specs.Root.is_root, specs.Root.named, specs.Root.differ, specs.Held.Held, specs.Held.two_of}
use Rattle.pk_model.{specs.Found.Found, proofs.SamePages.any_front, specs.RootLimits.root_limits}
use Rattle.pk_model.proofs.Commits.{any_behind, apart, member, injective, differ_front, values_apart, is_any_back}
use Rattle.pk_pool.{specs.declared.state.BlockState.TheVariants.Owned, specs.Blocks.given_back, specs.Blocks.Blocks, specs.Blocks.IsShared, specs.Blocks.IsSpare, specs.Blocks.PoolOnFlash}
use Rattle.pk_pool.{specs.Unready.unready, proofs.Fitting.PoolOnFlash-same}
use Rattle.pk_root.{specs.declared.next.Next.Next, specs.declared.next.Next.TheVariants.Erase, specs.declared.next.Next.TheVariants.Program, specs.declared.next.Next.TheVariants.Again}
use Rattle.pk_root.specs.Installing.{erases_next, programs_next, repeats_next}
use Rattle.pk_law_steps.{specs.Under.IsValuePage, specs.Under.places, specs.Roots.frozen_root, specs.Roots.frozen, specs.Next.IsNext, specs.Freezing.IsFrozen, proofs.FrozenNext.frozen_next}
use Rattle.pk_law_steps.{proofs.Untouched.values_under, proofs.Places.In, proofs.Places.in_append}
use Rattle.pk_compact.{specs.Freezing.IsApart, specs.Freezing.AreTwo, specs.Steps.next_root, specs.declared.freezing.FreezeJob.TheVariants.Idle, specs.declared.freezing.FreezeJob.TheVariants.HasTwo}
use Rattle.pk_compact.{specs.Installing.IsPrepared, specs.Installing.CanPrepare, specs.Installing.CanInstall, specs.Installing.IsInstalled, proofs.Apart.owned_not_spare, proofs.Apart.spare_back}
use Rattle.pk_compact.specs.FreezeSteps.{IsFreezing, IsTaken, AreOwned, FreezeGoesOn, FreezeInstalled, install_steps}
use Rattle.pk_compact.{proofs.Pairs.two_are, proofs.Pairs.two_same, proofs.Pairs.turned, proofs.Grammar.next_is_root, proofs.Installing.epoch_erased, proofs.Installing.erased_behind}
use Rattle.pk_compact.{proofs.NextRoot.programs_whole, proofs.TakingOne.all_more, proofs.TakingOne.is_shape, proofs.TakingOne.valid, proofs.TakingOne.grammar, proofs.TakingOne.spare_behind}

-- an erase leaves one step less, and no block differs
one_fewer : (next next' : Next) (u : ℕ) → programs_next next' ≡ true → erases_next next ≡ true
    → Lowers (steps_of (freeze_rest 2 (install_steps next))) u (steps_of (freeze_rest 2 (install_steps next'))) u
one_fewer (Erase beside) (Program page) u e f = record { none_ready = omega arith; less = omega arith }
one_fewer _ _ u e f = absurd (cc)

-- the first program leaves the second one
last_lowers : (next : Next) (u : ℕ) → repeats_next next ≡ false → Lowers (steps_of (freeze_rest 2 (install_steps next))) u 1 u
last_lowers (Again page) u whole = absurd (cc)
last_lowers _ u whole = record { none_ready = omega arith; less = omega arith }

module _ (pool : Blocks) (root : Held) (next : Next) (first second : ℕ) (has_entries : Bool) (old : BoardState) (shared : IsShared pool.shape pool.states) (ready : IsReady old root.shape)
    (top : ℕ × Root) (found : Found) (m : Map) (is : IsFreezing pool root next (HasTwo first second) old.pages has_entries top found m) where
  abbrev shape : Shape
  shape = root.shape

  abbrev blocks : List ℕ
  blocks = first ∷ second ∷ []

  abbrev then_root : Root
  then_root = next_root root.root blocks has_entries

  right_shape : IsShape shape
  right_shape = is_shape pool root next (HasTwo first second) has_entries old shared ready top found m is

  was_valid : T (is_root shape root.root)
  was_valid = valid pool root next (HasTwo first second) has_entries old shared ready top found m is

  -- ---- what is asked of the parts

  pub epoch_few : root.root.epoch ≤ root.root.number
  epoch_few = (grammar pool root next (HasTwo first second) has_entries old shared ready top found m is).epoch_most

  pub two_newest : length root.root.newest ≡ 2
  two_newest = (grammar pool root next (HasTwo first second) has_entries old shared ready top found m is).two

  all_different : T (differ (named root.root))
  all_different = (grammar pool root next (HasTwo first second) has_entries old shared ready top found m is).different

  one : IsTaken shape pool old.pages root.root first
  one = is.taken.0

  other : IsTaken shape pool old.pages root.root second
  other = is.taken.1.0

  not_same : second ≢ first
  not_same e = let P : List ℕ → Type 0 = λ xs. T (differ xs) in let alone : T (differ blocks) = subst T (sym is.different) tt in injective_two e alone
    where
      injective_two : second ≡ first → T (differ blocks) → ⊥
      injective_two same alone = let zero_one : 1 ≡ 0 = injective blocks 1 0 alone (omega arith) (omega arith) same in omega (arith, zero_one)

  two : AreTwo shape first second
  two = record { first_least = one.least; first_most = one.most; second_least = other.least; second_most = other.most; different = not_same }

  next_valid : is_root shape then_root ≡ true
  next_valid = is_true _ (next_is_root shape root.root first second was_valid is.none_named two one.unnamed other.unnamed is.number has_entries)

  frozen_is : then_root ≡ frozen_root top.1 found first second
  frozen_is =
      let P : Root → Type 0 = λ r. then_root ≡ frozen_root r found first second in
      subst P (sym is.top_is) (λ i. record root.root {
        number = root.root.number + 1;
        epoch = root.root.epoch + 1;
        newest = first ∷ second ∷ [];
        older = (turned has_entries root.root.newest ∙ ap (λ b. if b then [] else root.root.newest) (sym is.told)) i;
      })

  frozen_may : IsFrozen shape old.pages top found first second
  frozen_may = record {
    none_older = is.none_older;
    grammar = let P : Root → Type 0 = λ r. is_root shape r ≡ true in subst P frozen_is next_valid;
    are_erased = epoch_erased shape old.pages first second right_shape one.is_erased other.is_erased;
  }

  can : CanInstall shape then_root next old.pages top found (frozen found) m
  can = record {
    installs = is.installs;
    under = is.under;
    follows = let P : Root → Type 0 = λ r. IsNext shape old.pages [] top found r (frozen found) in subst P
        (sym frozen_is) (frozen_next shape old.pages [] top found m first second right_shape is.under frozen_may);
  }

  -- ---- the former epoch's blocks

  former_is : two_of root.root.newest ≡ root.root.newest
  former_is = two_same root.root.newest two_newest

  former_at : (i : ℕ) → i < 2 → slice_get pool.states (slice_index (two_of root.root.newest) i) ≡ Some (Owned Journal)
  former_at i small =
      let P : List ℕ → Type 0 = λ xs. slice_get pool.states (slice_index xs i) ≡ Some (Owned Journal) in
      let length_is = two_newest in
      subst P (sym former_is) (is.owned (slice_index root.root.newest i) (member root.root.newest i (omega (arith, small, length_is))))

  former_differ : slice_index (two_of root.root.newest) 1 ≢ slice_index (two_of root.root.newest) 0
  former_differ same =
      let length_is = two_newest in
      let P : List ℕ → Type 0 = λ xs. slice_index xs 1 ≡ slice_index xs 0 in
      let alone : T (differ root.root.newest) = differ_front root.root.newest root.root.older (differ_front (root.root.newest ++ root.root.older) (concat root.root.runs) all_different) in
      let equal : 1 ≡ 0 = injective root.root.newest 1 0 alone (omega (arith, length_is)) (omega (arith, length_is)) (subst P former_is same) in
      omega (arith, equal)

  former : AreOwned pool (two_of root.root.newest)
  former = record { first = former_at 0 (omega arith); second = former_at 1 (omega arith); different = former_differ }

  -- ---- nobody reads a spare block

  in_newest : (b : ℕ) → In b root.root.newest → In b (named root.root)
  in_newest b among = any_front (λ c. b ≡ c) (root.root.newest ++ root.root.older) (concat root.root.runs) (any_front (λ c. b ≡ c) root.root.newest root.root.older among)

  in_runs : (b : ℕ) → In b (concat root.root.runs) → In b (named root.root)
  in_runs b among = any_behind (λ c. b ≡ c) (root.root.newest ++ root.root.older) (concat root.root.runs) among

  -- no block that was taken is spare, or of the former epoch
  taken_not : (b x : ℕ) → IsTaken shape pool old.pages root.root x → IsSpare pool b ⊎ In b root.root.newest → b ≢ x
  taken_not b x taken (inl spare) e = owned_not_spare pool x taken.owned (let P : ℕ → Type 0 = λ y. IsSpare pool y in subst P e spare)
  taken_not b x taken (inr among) e = taken.unnamed (in_newest x (let P : ℕ → Type 0 = λ y. In y root.root.newest in subst P e among))

  former_not_run : (b : ℕ) → In b root.root.newest → In b (concat root.root.runs) → ⊥
  former_not_run b among run = apart b (root.root.newest ++ root.root.older) (concat root.root.runs) all_different (any_front (λ c. b ≡ c) root.root.newest root.root.older among) run

  unnamed_after : (h : Bool) (b : ℕ) → IsSpare (given_back pool (if h then [] else root.root.newest)) b → In b (named (next_root root.root blocks h)) → ⊥
  unnamed_after true b spare (inl e) = taken_not b first one (inl spare) e
  unnamed_after true b spare (inr (inl e)) = taken_not b second other (inl spare) e
  unnamed_after true b spare (inr (inr rest)) = elim (in_append b root.root.newest (concat root.root.runs) rest) [
    | inl newest ↦ owned_not_spare pool b (is.owned b newest) spare
    | inr run ↦ is.apart.unnamed b spare (in_runs b run)
  ]
  unnamed_after false b spare among = elim (spare_back root.root.newest pool b spare) [
    | inl former ↦ elim among [
      | inl e ↦ taken_not b first one (inr former) e
      | inr (inl e) ↦ taken_not b second other (inr former) e
      | inr (inr run) ↦ former_not_run b former run
    ]
    | inr still ↦ elim among [
      | inl e ↦ taken_not b first one (inl still) e
      | inr (inl e) ↦ taken_not b second other (inl still) e
      | inr (inr run) ↦ is.apart.unnamed b still (in_runs b run)
    ]
  ]

  former_or_spare : (h : Bool) (b : ℕ) → IsSpare (given_back pool (if h then [] else root.root.newest)) b → In b (named root.root) ⊎ IsSpare pool b
  former_or_spare true b spare = inr spare
  former_or_spare false b spare = elim (spare_back root.root.newest pool b spare) [ inl former ↦ inl (in_newest b former) | inr still ↦ inr still ]

  -- a value has no page in a block that the root names
  not_of_value : (b k : ℕ) → In b (named root.root) → k / shape.block_pages ≡ b → IsValuePage shape (places found []) k → ⊥
  not_of_value b k among here value =
      let values = values_under shape old.pages [] top.1 found m is.under.is_map in
      let P : ℕ → Type 0 = λ x. In x (named root.root) in
      let Q : Root → Type 0 = λ r. In (k / shape.block_pages) (named r) in
      values_apart shape (page_at old.pages) (root_limits shape top.1) (named top.1) [] (places found []) values.values values.read k value
      (is_any_back (k / shape.block_pages) (named top.1) (subst Q (sym is.top_is) (subst P (sym here) among)))

  apart_after : (h : Bool) → IsApart shape (given_back pool (if h then [] else root.root.newest)) (next_root root.root blocks h) (frozen found)
  apart_after h = record {
    unnamed = unnamed_after h;
    no_value = λ b k spare here value.
        let was : IsValuePage shape (places found []) k = subst (λ es. IsValuePage shape es k) can.follows.same_places value in
        elim (former_or_spare h b spare) [
          | inl named_block ↦ not_of_value b k named_block here was
          | inr spare_block ↦ is.apart.no_value b k spare_block here was
        ];
  }

  -- the same if the blocks are given one by one
  apart_told : IsApart shape (given_back pool (if has_entries then [] else slice_index (two_of root.root.newest) 0 ∷ slice_index (two_of root.root.newest) 1 ∷ [])) then_root (frozen found)
  apart_told =
      let told : slice_index (two_of root.root.newest) 0 ∷ slice_index (two_of root.root.newest) 1 ∷ [] ≡ root.root.newest =
      ap (λ xs. slice_index xs 0 ∷ slice_index xs 1 ∷ []) former_is ∙ two_are root.root.newest two_newest in
      let W : List ℕ → Type 0 = λ ns. IsApart shape (given_back pool (if has_entries then [] else ns)) then_root (frozen found) in
      subst W (sym told) (apart_after has_entries)

  -- ---- a step that changes nothing after the root blocks

  -- a block that counts as erased is there
  pool_behind : (flash : Flash) → SameBehind shape old.pages flash → PoolOnFlash pool flash
  pool_behind flash behind = PoolOnFlash-same pool old.pages flash (λ b k ready_block inside.
      let least = spare_behind pool root next (HasTwo first second) has_entries old shared ready top found m is b (inr ready_block) in
      let twice = mul-le-mul_right pool.shape.block_pages least in
      let low = inside.0 in
      let S : Shape → Type 0 = λ s. 2 * s.block_pages ≤ k in
      behind k (subst S is.pool_shape (omega (arith, twice, low)))) is.pool_fits

  taken_behind : (flash : Flash) → SameBehind shape old.pages flash → (b : ℕ) → IsTaken shape pool old.pages root.root b → IsTaken shape pool flash root.root b
  taken_behind flash behind b was = record {
    least = was.least;
    most = was.most;
    owned = was.owned;
    is_erased = erased_behind shape b old.pages flash was.least behind was.is_erased;
    unnamed = was.unnamed;
  }

  pub can_prepare : CanPrepare shape next old.pages top found m
  can_prepare = record { installs = is.installs; under = is.under }

  -- the erase of the other root block
  pub erase_goes_on : (next' : Next) (new : BoardState) → erases_next next ≡ true → IsPrepared shape old top found m next' new
      → FreezeGoesOn pool root next (HasTwo first second) old has_entries top found m pool root next' (HasTwo first second) new
  erase_goes_on next' new erases p = record {
    still =
        (let fits = pool_behind new.pages p.behind in
        let whole = programs_whole next' p.programs in
        let taken = all_more (IsTaken shape pool old.pages root.root) (IsTaken shape pool new.pages root.root) (first ∷ second ∷ []) (taken_behind new.pages p.behind) is.taken in
        assumption (p, is, fits, whole, taken));
    same_root = refl;
    lowers = one_fewer next next' (unready pool.states) p.programs erases;
    takes = inl (refl, refl);
    some = omega arith;
    elsewhere = λ k high other_block. p.behind k high;
    cuts = p.cuts;
  }

  -- ---- the program, by the root that follows

  module _ (held : Held) (followed : held ≡ record root { root = then_root }) where
    pub held_can : CanInstall held.shape held.root next old.pages top found (frozen found) m
    held_can = let P : Held → Type 0 = λ h. CanInstall h.shape h.root next old.pages top found (frozen found) m in subst P (sym followed) can

    pub froze : (next' : Next) (new : BoardState) → IsInstalled held.shape held.root (frozen found) m old next' new
        → FreezeInstalled pool root next (HasTwo first second) old has_entries top found m pool held.root next' Idle new
    froze next' new i =
        let P : Held → Type 0 = λ h. IsInstalled h.shape h.root (frozen found) m old next' new in
        let R : Held → Type 0 = λ h. FreezeInstalled pool root next (HasTwo first second) old has_entries top found m pool h.root next' Idle new in
        let known : IsInstalled shape then_root (frozen found) m old next' new = subst P followed i in
        subst R (sym followed) (record {
          page = known.page;
          first = first;
          second = second;
          was = refl;
          done = refl;
          same_pool = refl;
          pool_fits = pool_behind new.pages known.behind;
          lowers = last_lowers next (unready pool.states) is.whole;
          first_erased = erased_behind shape first old.pages new.pages one.least known.behind one.is_erased;
          second_erased = erased_behind shape second old.pages new.pages other.least known.behind other.is_erased;
          root_is = frozen_is;
          under = known.under;
          installs = known.installs;
          half = known.half;
          former = former;
          apart = apart_told;
          number = known.number;
          behind = known.behind;
          cuts = known.cuts;
        })
