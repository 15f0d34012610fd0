-- The blocks that a root names, which a new pool has as free ones.
use Rattle.std.proofs.Common.{◌≡◌, inl, ℕ, ◌+◌, ◌*◌, ◌<◌, ◌≤◌, Bool, true, ◌&&◌, ◌||◌, ◌==◌, cond, List, [], ◌∷◌, ◌++◌, length, map, replicate, refl, sym, ap, subst, ◌∙◌}
use Rattle.std.proofs.Common.{arith, Option, Some, None, option_map, length-append}
use Rattle.std.{proofs.lemmas.List.length-replicate, proofs.lemmas.List.get_or-replicate, proofs.lemmas.Option.slice_get-get_or, proofs.lemmas.Slice.Eq.bytes_eq-Decides}
use Rattle.std.{proofs.lemmas.Bool.and_parts, proofs.lemmas.Bool.eqb-true, proofs.lemmas.Bool.leb-true, proofs.lemmas.List.length-map}
use Rattle.std.{specs.Prelude.slice_get, specs.Prelude.nat_le, specs.Prelude.nat_lt, specs.Prelude.nat_eq, specs.Prelude.zip, specs.Prelude.bytes_eq, proofs.Math.ListN.set}
use Rattle.std.{specs.List.list_all, specs.List.concat, specs.List.AllByRecursion, proofs.lemmas.Bool.Decides.nat_tests, proofs.lemmas.List.Folds.sum_by-replicate}
use Rattle.pk_base.specs.Shape.{Shape, IsShape, page_entries, caps, deepest, meta_blocks, run_blocks}
use Rattle.pk_plan.{specs.declared.owner.Owner.Owner, specs.declared.owner.Owner.TheVariants.Journal, specs.declared.owner.Owner.TheVariants.Meta, specs.declared.owner.Owner.TheVariants.Values}
use Rattle.pk_plan.specs.Quotas.{quota_of}
use Rattle.pk_pool.{specs.declared.state.BlockState.BlockState, specs.declared.state.BlockState.TheVariants.Root as RootBlock, specs.declared.state.BlockState.TheVariants.Free}
use Rattle.pk_pool.{specs.Blocks.Blocks, specs.Blocks.used_by, specs.Blocks.is_owned_by, specs.Blocks.unused, specs.Blocks.IsSpare, proofs.States.get-set_other, proofs.Sharing.count-set}
use Rattle.pk_rootfmt.{specs.Root.Root, specs.Root.named, specs.Root.is_root, specs.Root.has_runs, specs.Root.differ, specs.Held.two_of, specs.Held.older_of, specs.Held.total, proofs.AgainLemmas.four}
use Rattle.pk_rootfmt.{proofs.PageLemmas.Parts, proofs.PageLemmas.root_parts, proofs.RoomLemmas.runs_most}
use Rattle.pk_scan.specs.Adopts.{is_among, owned_if, Adopts, NamesOwned, MayAdopt}
use Rattle.pk_scan.proofs.Adopting.{apart, differ_front, differ_back, still_spare, spare_front, all_back}
use Rattle.pk_rootfmt.proofs.AgainLemmas.{length_concat}

-- ---- the blocks of the epochs

pub two_is : (bs : List ℕ) → length bs ≡ 2 → two_of bs ≡ bs
two_is [] e = absurd (omega (arith, e))
two_is (b ∷ bs) e = refl

pub older_is : (bs os : List ℕ) → Some os ≡ older_of bs → os ≡ bs
older_is [] os e = cc
older_is (b ∷ bs) os e = cc

pub older_none : (bs : List ℕ) → None ≡ older_of bs → bs ≡ []
older_none [] e = refl
older_none (b ∷ bs) e = cc

-- ---- a new pool

get-replicate : (n k : ℕ) → k < n → slice_get (replicate n Free) k ≡ Some Free
get-replicate n k h = slice_get-get_or (replicate n Free) k Free (omega (arith, h, length-replicate n Free)) ∙ ap Some (get_or-replicate n k Free Free h)

pub unused_free : (shape : Shape) (b : ℕ) → 2 ≤ b → b < shape.blocks → slice_get (unused shape).states b ≡ Some Free
unused_free shape b low high =
    get-set_other (set (replicate shape.blocks Free) 0 RootBlock) 1 b RootBlock (λ e. absurd (omega (arith, low, e)))
    ∙ get-set_other (replicate shape.blocks Free) 0 b RootBlock (λ e. absurd (omega (arith, low, e))) ∙ get-replicate shape.blocks b high

none_owned : (o : Owner) (n : ℕ) → used_by o (replicate n Free) ≡ 0
none_owned o n = let sum = sum_by-replicate (λ s. cond {A = ℕ} (is_owned_by o s) 1 0) n Free in omega (arith, sum)

pub unused_none : (o : Owner) (shape : Shape) → 2 ≤ shape.blocks → used_by o (unused shape).states ≡ 0
unused_none o shape some =
    let xs : List BlockState = replicate shape.blocks Free in
    let ys : List BlockState = set xs 0 RootBlock in
    let first = count-set (is_owned_by o) xs 0 Free RootBlock (get-replicate shape.blocks 0 (omega (arith, some))) in
    let second = count-set (is_owned_by o) ys 1 Free RootBlock (get-set_other xs 0 1 RootBlock (λ e. absurd (omega (arith, e))) ∙ get-replicate shape.blocks 1 (omega (arith, some))) in
    let none = none_owned o shape.blocks in
    omega (arith, first, second, none)

behind : (shape : Shape) (b : ℕ) → (nat_le 2 b && nat_lt b shape.blocks) ≡ true → (2 ≤ b) × (b < shape.blocks)
behind shape b e = (grind (arith, nat_tests), grind (arith, nat_tests))

all_spare : (shape : Shape) (bs : List ℕ) → list_all (λ b. nat_le 2 b && nat_lt b shape.blocks) bs ≡ true → AllByRecursion (IsSpare (unused shape)) bs
all_spare shape [] e = tt
all_spare shape (b ∷ bs) e =
    let parts = and_parts _ _ e in
    let own = behind shape b parts.0 in
    (inl (unused_free shape b own.0 own.1), all_spare shape bs parts.1)

-- ---- numbers of blocks

pub record HasFour (shape : Shape) (counts : List ℕ) (runs : List (List ℕ)) : Type 0 where
  pub four_counts : length counts ≡ 4
  pub each : list_all (λ p. nat_le p.0 (p.1 * page_entries shape)) (zip counts (caps shape)) ≡ true
  pub sizes : map length runs ≡ map (run_blocks shape) counts

pub has_four : (shape : Shape) (root : Root) → has_runs shape root ≡ true → HasFour shape root.counts root.runs
has_four shape root e =
    let p : Bool = length root.counts == 4 in
    let q : Bool = list_all (λ p. nat_le p.0 (p.1 * page_entries shape)) (zip root.counts (caps shape)) in
    let r : Bool = bytes_eq (map length root.runs) (map (run_blocks shape) root.counts) in
    let front = and_parts (p && q) r e in
    let parts = and_parts p q front.0 in
    record { four_counts = eqb-true (length root.counts) 4 parts.0; each = parts.1; sizes = (bytes_eq-Decides (map length root.runs) (map (run_blocks shape) root.counts)).0 front.1 }

pub four_runs : (shape : Shape) (counts : List ℕ) (runs : List (List ℕ)) → HasFour shape counts runs → length runs ≡ 4
four_runs shape counts runs h = sym (length-map runs length) ∙ ap length h.sizes ∙ length-map counts (run_blocks shape) ∙ h.four_counts

pub few_blocks : (shape : Shape) → IsShape shape → (counts : List ℕ) (runs : List (List ℕ)) → HasFour shape counts runs → length (concat runs) ≤ meta_blocks shape
few_blocks shape is counts runs h = let f = four counts h.four_counts in by_four f.a f.b f.c f.d (subst (λ (cs : List ℕ). HasFour shape cs runs) f.is h)
  where
    by_four : (a b c d : ℕ) → HasFour shape (a ∷ b ∷ c ∷ d ∷ []) runs → length (concat runs) ≤ meta_blocks shape
    by_four a b c d k =
        let size : ℕ = page_entries shape in
        let first = and_parts (nat_le a (4 * size)) _ k.each in
        let second = and_parts (nat_le b (16 * size)) _ first.1 in
        let third = and_parts (nat_le c (64 * size)) _ second.1 in
        let fourth = and_parts (nat_le d (deepest shape * size)) true third.1 in
        let few = runs_most shape a b c d is (leb-true a (4 * size) first.0) (leb-true b (16 * size) second.0) (leb-true c (64 * size) third.0) (leb-true d (deepest shape * size) fourth.0) in
        let sum : length (concat runs) ≡ run_blocks shape a + (run_blocks shape b + (run_blocks shape c + (run_blocks shape d + 0))) = length_concat runs ∙ ap total k.sizes in
        omega (arith, few, sum)

-- an older epoch has two blocks, or none
pub older_many : (n epoch : ℕ) → (nat_eq n 0 || (nat_eq n 2 && nat_le 2 epoch)) ≡ true → (n ≤ 2) × (0 < n → n ≡ 2)
older_many n epoch is = (grind (arith, nat_tests), λ some. grind (arith, nat_tests))

pub few_epochs : (newest older : List ℕ) (epoch : ℕ) → nat_eq (length newest) 2 ≡ true → (nat_eq (length older) 0 || (nat_eq (length older) 2 && nat_le 2 epoch)) ≡ true → length (newest ++ older) ≤ 4
few_epochs newest older epoch two is =
    let few = (older_many (length older) epoch is).0 in
    omega (arith, length-append newest older, eqb-true (length newest) 2 two, few)

-- ---- a root in a new pool

module _ (shape : Shape) (root : Root) (is : IsShape shape) (e : is_root shape root ≡ true) where
  abbrev parts : Parts shape root
  parts = root_parts shape root e

  abbrev epochs : List ℕ
  epochs = root.newest ++ root.older

  abbrev of_runs : List ℕ
  of_runs = concat root.runs

  some_blocks : 2 ≤ shape.blocks
  some_blocks = let fits = is.data_fits in omega (arith, fits)

  named_is : named root ≡ epochs ++ of_runs
  named_is = refl

  pub names_differ : differ (epochs ++ of_runs) ≡ true
  names_differ = sym (ap differ named_is) ∙ parts.differs

  pub names_spare : AllByRecursion (IsSpare (unused shape)) (epochs ++ of_runs)
  names_spare = all_spare shape (epochs ++ of_runs) (sym (ap (list_all (λ b. nat_le 2 b && nat_lt b shape.blocks)) named_is) ∙ parts.blocks)

  pub two_newest : length root.newest ≡ 2
  two_newest = eqb-true (length root.newest) 2 parts.two

  pub runs_are_four : length root.runs ≡ 4
  runs_are_four = four_runs shape root.counts root.runs (has_four shape root parts.runs)

  pub may_epochs : (p : Blocks) → p ≡ unused shape → MayAdopt Journal epochs p
  may_epochs p unused_is = subst (MayAdopt Journal epochs) (sym unused_is) (record {
    spare = spare_front (unused shape) epochs of_runs names_spare;
    differ = differ_front epochs of_runs names_differ;
    room = let none = unused_none Journal shape some_blocks in omega (arith, none, few_epochs root.newest root.older root.epoch parts.two parts.older);
  })

  module _ (p q : Blocks) (unused_is : p ≡ unused shape) (a : Adopts Journal (is_among epochs) (length epochs) p q) where
    from_unused : Adopts Journal (is_among epochs) (length epochs) (unused shape) q
    from_unused = subst (λ (x : Blocks). Adopts Journal (is_among epochs) (length epochs) x q) unused_is a

    pub may_runs : MayAdopt Meta of_runs q
    may_runs = record {
      spare = still_spare from_unused of_runs (apart epochs of_runs names_differ) (all_back (IsSpare (unused shape)) epochs of_runs names_spare);
      differ = differ_back epochs of_runs names_differ;
      room =
          let none = unused_none Meta shape some_blocks in
          let same = from_unused.others Meta refl in
          let quota = ap (λ s. quota_of s Meta) from_unused.shape in
          omega (arith, none, same, quota, few_blocks shape is root.counts root.runs (has_four shape root parts.runs));
    }

  pub none_used : (o : Owner) (p : Blocks) → p ≡ unused shape → used_by o p.states ≡ 0
  none_used o p unused_is = ap (λ (x : Blocks). used_by o x.states) unused_is ∙ unused_none o shape some_blocks

composed : (f g : BlockState → BlockState) (s : Option BlockState) → option_map f (option_map g s) ≡ option_map (λ x. f (g x)) s
composed f g None = refl
composed f g (Some s) = refl

pub names_owned : (root : Root) (p q r : Blocks) → Adopts Journal (is_among (root.newest ++ root.older)) (length (root.newest ++ root.older)) p q
    → Adopts Meta (is_among (concat root.runs)) (length (concat root.runs)) q r
    → NamesOwned root p r
names_owned root p q r a c = record {
  shape = c.shape ∙ a.shape;
  states = λ b.
      c.states b ∙ ap (option_map (owned_if Meta (is_among (concat root.runs) b))) (a.states b)
      ∙ composed (owned_if Meta (is_among (concat root.runs) b)) (owned_if Journal (is_among (root.newest ++ root.older) b)) (slice_get p.states b);
  journal = c.others Journal refl ∙ a.counted;
  meta = c.counted ∙ ap (λ n. n + length (concat root.runs)) (a.others Meta refl);
  values = c.others Values refl ∙ a.others Values refl;
  fits = λ flash fits. c.fits flash (a.fits flash fits);
}
