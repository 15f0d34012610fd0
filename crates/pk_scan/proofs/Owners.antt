-- The owners of all blocks, after those of the root's blocks and of the values'.
use Rattle.std.proofs.Common.{◌≡◌, inl, inr, ℕ, ◌-◌, ◌<◌, ◌≤◌, Bool, true, false, ◌==◌, List, [], ◌∷◌, ◌++◌, length, get_or, refl, sym, ap, subst, ◌∙◌, arith, Option, Some, None, option_map}
use Rattle.std.proofs.lemmas.Bool.{cases_Bool, eq-eqb, or_left, or_right, false≢true, eqb-true}
use Rattle.std.{specs.Prelude.slice_get, specs.Prelude.count_by, specs.List.concat, specs.List.AllByRecursion, proofs.lemmas.Option.slice_get_within, proofs.lemmas.Option.slice_get-get_or, proofs.lemmas.Option.get_or_from_slice_get}
use Rattle.pk_base.{specs.Key.Key, specs.Shape.Shape, specs.Shape.IsShape, specs.Shape.data_blocks, specs.Entry.Place, specs.Page.Flash}
use Rattle.pk_plan.{specs.declared.owner.Owner.Owner, specs.declared.owner.Owner.TheVariants.Journal, specs.declared.owner.Owner.TheVariants.Meta, specs.declared.owner.Owner.TheVariants.Values}
use Rattle.pk_pool.{specs.declared.state.BlockState.BlockState, specs.Blocks.Blocks, specs.Blocks.used_by, specs.Blocks.unused, specs.Blocks.IsSpare, specs.Blocks.PoolOnFlash}
use Rattle.pk_pool.specs.declared.state.BlockState.TheVariants.{Free, Ready, Owned, Leaving}
use Rattle.pk_pool.{proofs.Sharing.used_given, proofs.States.none_leaves_unused}
use Rattle.pk_live.{specs.Values.Values as LiveValues, specs.Values.IsClosed, specs.Lives.Lives}
use Rattle.pk_rootfmt.specs.Root.{Root, named, is_root}
use Rattle.pk_model.specs.Laws.{AnyByRecursion}
use Rattle.pk_scan.specs.Adopts.{is_among, owned_if, state_of, Adopts, NamesOwned, HasOwners}
use Rattle.pk_scan.proofs.Closing.{flags_many, closed_is_spare}
use Rattle.pk_scan.{proofs.Adopting.apart, proofs.Adopting.spare_front, proofs.Adopting.all_back, proofs.Naming.names_differ, proofs.Naming.names_spare}

-- ---- lists

among : (b : ℕ) (bs : List ℕ) → AnyByRecursion (λ c. b ≡ c) bs → is_among bs b ≡ true
among b [] is = absurd is
among b (c ∷ bs) (inl e) = or_left (c == b) (is_among bs b) (eq-eqb c b (sym e))
among b (c ∷ bs) (inr is) = or_right (c == b) (is_among bs b) (among b bs is)

of_all : (P : ℕ → Type 0) (b : ℕ) (bs : List ℕ) → AllByRecursion P bs → AnyByRecursion (λ c. b ≡ c) bs → P b
of_all P b [] all is = absurd is
of_all P b (c ∷ bs) all (inl e) = subst P (sym e) all.0
of_all P b (c ∷ bs) all (inr is) = of_all P b bs all.1 is

none_among : (b : ℕ) (xs ys : List ℕ) → AllByRecursion (λ c. is_among xs c ≡ false) ys → AnyByRecursion (λ c. b ≡ c) xs → is_among ys b ≡ false
none_among b xs [] none is = refl
none_among b xs (y ∷ ys) none is = elim (cases_Bool (y == b)) [
  | inl same ↦ absurd (false≢true (sym none.0 ∙ among y xs (subst (λ (k : ℕ). AnyByRecursion (λ c. k ≡ c) xs) (sym (eqb-true y b same)) is)))
  | inr other ↦ rw other (none_among b xs ys none.1 is)
]

-- ---- states

some_state : (p : Blocks) (b : ℕ) → IsSpare p b → (s : BlockState) × (slice_get p.states b ≡ Some s)
some_state p b (inl free) = (Free, free)
some_state p b (inr ready) = (Ready, ready)

spare_not_owned : (p : Blocks) (b : ℕ) (o : Owner) → IsSpare p b → slice_get p.states b ≡ Some (Owned o) → ⊥
spare_not_owned p b o (inl free) owned = let clash : ◌≡◌ {A = Option BlockState} (Some Free) (Some (Owned o)) = sym free ∙ owned in cc
spare_not_owned p b o (inr ready) owned = let clash : ◌≡◌ {A = Option BlockState} (Some Ready) (Some (Owned o)) = sym ready ∙ owned in cc

-- a block that leaves did so before it was found whose it is
not_left : (owner : Owner) (x : Bool) (s : Option BlockState) (o : Owner) → option_map (owned_if owner x) s ≡ Some (Leaving o) → s ≡ Some (Leaving o)
not_left owner x None o e = cc
not_left owner true (Some t) o e = cc
not_left owner false (Some t) o e = e

named_left : (root : Root) (b : ℕ) (s : Option BlockState) (o : Owner) → option_map (state_of root b) s ≡ Some (Leaving o) → s ≡ Some (Leaving o)
named_left root b None o e = cc
named_left root b (Some t) o e =
    not_left Journal (is_among (root.newest ++ root.older) b) (Some t) o (not_left Meta (is_among (concat root.runs) b) (Some (owned_if Journal (is_among (root.newest ++ root.older) b) t)) o e)

module _ (shape : Shape) (root : Root) (is : IsShape shape) (e : is_root shape root ≡ true) (live : LiveValues) (taken : List (Key × Place)) (lives : Lives shape (named root) live taken) where
  module _ (p q r : Blocks) (new : p ≡ unused shape) (fits : (flash : Flash) → PoolOnFlash p flash)
      (owned : NamesOwned root p q) (closing : Adopts Values (λ b. get_or live.closed b false) (count_by (λ b. b) live.closed) q r)
      (none : used_by Values q.states ≡ 0) (size : length r.states ≡ r.shape.blocks) where
    shape_is : r.shape ≡ shape
    shape_is = closing.shape ∙ owned.shape ∙ ap (λ (x : Blocks). x.shape) new

    size_is : length r.states ≡ shape.blocks
    size_is = size ∙ ap (λ (s : Shape). s.blocks) shape_is

    from_new : NamesOwned root (unused shape) q
    from_new = subst (λ (x : Blocks). NamesOwned root x q) new owned

    spare_of : (b : ℕ) → b < shape.blocks → get_or live.closed b false ≡ true → IsSpare q b
    spare_of = closed_is_spare shape is root q live taken from_new lives

    -- what had an owner has it still
    stays : (b : ℕ) (o : Owner) → slice_get q.states b ≡ Some (Owned o) → slice_get r.states b ≡ Some (Owned o)
    stays b o got = elim (cases_Bool (get_or live.closed b false)) [
      | inl closed ↦
          let now : slice_get r.states b ≡ Some (Owned Values) = closing.states b
          ∙ ap (λ x. option_map (owned_if Values x) (slice_get q.states b)) closed ∙ ap (option_map (owned_if Values true)) got in
          let inside : b < shape.blocks = omega (arith, slice_get_within r.states b (Owned Values) now, size_is) in
          absurd (spare_not_owned q b o (spare_of b inside closed) got)
      | inr other ↦ closing.states b ∙ ap (λ x. option_map (owned_if Values x) (slice_get q.states b)) other ∙ ap (option_map (owned_if Values false)) got
    ]

    in_new : (b : ℕ) → AnyByRecursion (λ c. b ≡ c) (root.newest ++ root.older) → IsSpare (unused shape) b
    in_new b here = of_all (IsSpare (unused shape)) b (root.newest ++ root.older) (spare_front (unused shape) (root.newest ++ root.older) (concat root.runs) (names_spare shape root is e)) here

    in_runs : (b : ℕ) → AnyByRecursion (λ c. b ≡ c) (concat root.runs) → IsSpare (unused shape) b
    in_runs b here = of_all (IsSpare (unused shape)) b (concat root.runs) (all_back (IsSpare (unused shape)) (root.newest ++ root.older) (concat root.runs) (names_spare shape root is e)) here

    of_journal : (b : ℕ) → AnyByRecursion (λ c. b ≡ c) (root.newest ++ root.older) → slice_get r.states b ≡ Some (Owned Journal)
    of_journal b here =
        let was = some_state (unused shape) b (in_new b here) in
        let none_of = none_among b (root.newest ++ root.older) (concat root.runs) (apart (root.newest ++ root.older) (concat root.runs) (names_differ shape root is e)) here in
        stays b Journal (from_new.states b ∙ ap (option_map (state_of root b)) was.1
        ∙ ap (λ x. Some (owned_if Meta x (owned_if Journal (is_among (root.newest ++ root.older) b) was.0))) none_of
        ∙ ap (λ x. Some (owned_if Journal x was.0)) (among b (root.newest ++ root.older) here))

    of_meta : (b : ℕ) → AnyByRecursion (λ c. b ≡ c) (concat root.runs) → slice_get r.states b ≡ Some (Owned Meta)
    of_meta b here =
        let was = some_state (unused shape) b (in_runs b here) in
        stays b Meta (from_new.states b ∙ ap (option_map (state_of root b)) was.1
        ∙ ap (λ x. Some (owned_if Meta x (owned_if Journal (is_among (root.newest ++ root.older) b) was.0))) (among b (concat root.runs) here))

    closed_many : length live.closed ≡ shape.blocks
    closed_many = flags_many shape is (named root) live taken lives

    is_owned : (b : ℕ) → IsClosed live b → slice_get r.states b ≡ Some (Owned Values)
    is_owned b closed =
        let flag : get_or live.closed b false ≡ true = get_or_from_slice_get live.closed b true false closed in
        let inside : b < shape.blocks = omega (arith, slice_get_within live.closed b true closed, closed_many) in
        let was = some_state q b (spare_of b inside flag) in
        closing.states b ∙ ap (λ x. option_map (owned_if Values x) (slice_get q.states b)) flag ∙ ap (option_map (owned_if Values true)) was.1

    is_closed : (b : ℕ) → slice_get r.states b ≡ Some (Owned Values) → IsClosed live b
    is_closed b got = elim (cases_Bool (get_or live.closed b false)) [
      | inl closed ↦
          let inside : b < length live.closed = omega (arith, slice_get_within r.states b (Owned Values) got, size_is, closed_many) in
          slice_get-get_or live.closed b false inside ∙ ap (λ (t : Bool). Some t) closed
      | inr other ↦
          let before : option_map (owned_if Values false) (slice_get q.states b) ≡ Some (Owned Values) = sym
          (closing.states b ∙ ap (λ x. option_map (owned_if Values x) (slice_get q.states b)) other) ∙ got in
          let one = used_given q.states b Values (same (slice_get q.states b) before) in
          absurd (omega (arith, one, none))
    ]
      where
        same : (s : Option BlockState) → option_map (owned_if Values false) s ≡ Some (Owned Values) → s ≡ Some (Owned Values)
        same (Some s) e = e
        same None e = cc

    module _ (journal : used_by Journal q.states ≡ length (root.newest ++ root.older))
        (meta : used_by Meta q.states ≡ length (concat root.runs)) (few : used_by Values r.states ≤ data_blocks q.shape - 1) where
      pub has_owners : HasOwners shape root live r
      has_owners = record {
        pool_shape = shape_is;
        pool_size = size_is;
        pool_fits = λ flash. closing.fits flash (owned.fits flash (fits flash));
        journal = of_journal;
        journal_few = closing.others Journal refl ∙ journal;
        runs = of_meta;
        runs_few = closing.others Meta refl ∙ meta;
        closed_owned = is_owned;
        owned_closed = is_closed;
        none_leaves = λ b o got. none_leaves_unused shape b o
            (named_left root b (slice_get (unused shape).states b) o (sym (from_new.states b) ∙ not_left Values (get_or live.closed b false) (slice_get q.states b) o (sym (closing.states b) ∙ got)));
        values_few = subst (λ (s : Shape). used_by Values r.states ≤ data_blocks s - 1) (sym closing.shape ∙ shape_is) few;
      }
