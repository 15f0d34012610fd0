-- The root of a freeze is one of the grammar.
use Rattle.std.proofs.Common.{◌≡◌, inl, inr, ℕ, ◌+◌, ◌<◌, ◌≤◌, sym, ap, subst, ◌∙◌, arith, Bool, true, false, not, ◌&&◌, ◌||◌, T, List, [], ◌∷◌, ◌++◌, length, nat_le, nat_lt, ◌==◌, leb→le, le→leb}
use Rattle.std.proofs.Common.{eqb→eq, append-nil}
use Rattle.std.specs.List.{list_any, list_all, concat}
use Rattle.pk_base.{specs.Shape.Shape, proofs.Logic.both, proofs.Logic.left_part, proofs.Logic.right_part}
use Rattle.pk_rootfmt.specs.Root.{Root, named, is_root, is_number, has_runs, differ, is_laid_out, are_limits}
use Rattle.pk_model.{proofs.Commits.any_behind, proofs.RootAlone.all_back}
use Rattle.pk_law_steps.proofs.Places.{In, not_of, any_in, differ_back}
use Rattle.pk_compact.{specs.Freezing.AreTwo, specs.Steps.next_root}

-- ---- tests one after another

parts : (a b c d e f g h : Bool) → T (a && b && c && d && e && f && g && h) → T a × T b × T c × T d × T e × T f × T g × T h
parts true true true true true true true true is = (tt, tt, tt, tt, tt, tt, tt, tt)
parts _ _ _ _ _ _ _ _ is = absurd is

all_parts : (a b c d e f g h : Bool) → T a → T b → T c → T d → T e → T f → T g → T h → T (a && b && c && d && e && f && g && h)
all_parts true true true true true true true true x1 x2 x3 x4 x5 x6 x7 x8 = tt
all_parts _ _ _ _ _ _ _ _ x1 x2 x3 x4 x5 x6 x7 x8 = search

less : (a b : ℕ) → a < b → T (nat_lt a b)
less a b h = le→leb _ _ h

-- ---- what is known of a root

abbrev in_flash : Shape → ℕ → Bool
in_flash shape b = nat_le 2 b && nat_lt b shape.blocks

pub record Known (shape : Shape) (root : Root) : Type 0 where
  pub epoch_least : 1 ≤ root.epoch
  pub epoch_most : root.epoch ≤ root.number
  pub two : length root.newest ≡ 2
  pub runs : T (has_runs shape root)
  pub inside : T (list_all (in_flash shape) (named root))
  pub different : T (differ (named root))

pub known : (shape : Shape) (root : Root) → T (is_root shape root) → Known shape root
known shape root is =
    let p = parts (is_number root.number) (nat_le 1 root.epoch) (nat_le root.epoch root.number) (length root.newest == 2) (length root.older == 0 || (length root.older == 2 && nat_le 2 root.epoch))
    (has_runs shape root) (list_all (in_flash shape) (named root)) (differ (named root))
    (left_part (is_laid_out shape root) (are_limits shape root.limits) is) in
    record {
      epoch_least = leb→le 1 root.epoch p.1;
      epoch_most = leb→le root.epoch root.number p.2;
      two = eqb→eq _ _ p.3;
      runs = p.5;
      inside = p.6;
      different = p.7;
    }

-- ---- two more blocks at the start

differs_in_front : (x : ℕ) (xs : List ℕ) → (In x xs → ⊥) → T (differ xs) → T (differ (x ∷ xs))
differs_in_front x xs new d = both (not (list_any (λ c. x == c) xs)) (differ xs) (not_of (list_any (λ c. x == c) xs) (λ t. new (any_in x xs t))) d

module _ (shape : Shape) (first second : ℕ) (two : AreTwo shape first second) where
  two_inside : (rest : List ℕ) → T (list_all (in_flash shape) rest) → T (list_all (in_flash shape) (first ∷ second ∷ rest))
  two_inside rest all =
      let one = both (nat_le 2 first) (nat_lt first shape.blocks) (le→leb 2 first two.first_least) (less first shape.blocks two.first_most) in
      let other = both (nat_le 2 second) (nat_lt second shape.blocks) (le→leb 2 second two.second_least) (less second shape.blocks two.second_most) in
      both (in_flash shape first) (list_all (in_flash shape) (second ∷ rest)) one (both (in_flash shape second) (list_all (in_flash shape) rest) other all)

  two_differ : (rest : List ℕ) → (In first rest → ⊥) → (In second rest → ⊥) → T (differ rest) → T (differ (first ∷ second ∷ rest))
  two_differ rest one other d =
      differs_in_front first (second ∷ rest) (λ is. elim is [ inl e ↦ two.different (sym e) | inr there ↦ one there ]) (differs_in_front second rest other d)

-- ---- the next root

module _ (shape : Shape) (root : Root) (first second : ℕ) (is : T (is_root shape root)) (none_older : root.older ≡ []) (two : AreTwo shape first second)
    (first_new : In first (named root) → ⊥) (second_new : In second (named root) → ⊥) (small : root.number < 18446744073709551615) where
  was : Known shape root
  was = known shape root is

  -- without an older epoch
  abbrev rest : List ℕ
  rest = root.newest ++ concat root.runs

  named_rest : named root ≡ rest
  named_rest = ap (λ o. (root.newest ++ o) ++ concat root.runs) none_older ∙ ap (λ x. x ++ concat root.runs) (append-nil root.newest)

  in_named : (b : ℕ) → In b rest → In b (named root)
  in_named b = subst (λ xs. In b rest → In b xs) (sym named_rest) (λ h. h)

  rest_inside : T (list_all (in_flash shape) rest)
  rest_inside = subst (λ xs. T (list_all (in_flash shape) xs)) named_rest was.inside

  rest_differs : T (differ rest)
  rest_differs = subst (λ xs. T (differ xs)) named_rest was.different

  number_small : T (is_number (root.number + 1))
  number_small = both (nat_le 1 (root.number + 1)) (nat_lt (root.number + 1) 18446744073709551616)
      (le→leb 1 (root.number + 1) (omega arith)) (less (root.number + 1) 18446744073709551616 (omega (arith, small)))

  next_is_laid_out : (b : Bool) → T (is_laid_out shape (next_root root (first ∷ second ∷ []) b))
  next_is_laid_out true =
      let k = was in
      all_parts (is_number (root.number + 1)) (nat_le 1 (root.epoch + 1)) (nat_le (root.epoch + 1) (root.number + 1)) true
      (length root.newest == 0 || (length root.newest == 2 && nat_le 2 (root.epoch + 1)))
      (has_runs shape root) (list_all (in_flash shape) (first ∷ second ∷ rest)) (differ (first ∷ second ∷ rest))
      number_small (le→leb 1 (root.epoch + 1) (omega arith)) (le→leb (root.epoch + 1) (root.number + 1) (let most = k.epoch_most in omega (arith, most))) tt
      (older_two (length root.newest) (root.epoch + 1) k.two (let least = k.epoch_least in omega (arith, least)))
      k.runs (two_inside shape first second two rest rest_inside)
      (two_differ shape first second two rest (λ h. first_new (in_named first h)) (λ h. second_new (in_named second h)) rest_differs)
    where
      older_two : (n epoch : ℕ) → n ≡ 2 → 2 ≤ epoch → T (n == 0 || (n == 2 && nat_le 2 epoch))
      older_two n epoch e least = rw e (le→leb 2 epoch least)
  next_is_laid_out false =
      let k = was in
      let runs = concat root.runs in
      all_parts (is_number (root.number + 1)) (nat_le 1 (root.epoch + 1)) (nat_le (root.epoch + 1) (root.number + 1)) true true
      (has_runs shape root) (list_all (in_flash shape) (first ∷ second ∷ runs)) (differ (first ∷ second ∷ runs))
      number_small (le→leb 1 (root.epoch + 1) (omega arith)) (le→leb (root.epoch + 1) (root.number + 1) (let most = k.epoch_most in omega (arith, most))) tt tt
      k.runs (two_inside shape first second two runs (all_back (in_flash shape) root.newest runs rest_inside))
      (two_differ shape first second two runs (λ h. first_new (in_named first (any_behind (λ y. first ≡ y) root.newest runs h)))
      (λ h. second_new (in_named second (any_behind (λ y. second ≡ y) root.newest runs h)))
      (differ_back root.newest runs rest_differs))

  pub next_is_root : (b : Bool) → T (is_root shape (next_root root (first ∷ second ∷ []) b))
  next_is_root b = both (is_laid_out shape (next_root root (first ∷ second ∷ []) b)) (are_limits shape root.limits) (next_is_laid_out b)
      (right_part (is_laid_out shape root) (are_limits shape root.limits) is)
