-- Where values lie of which those of one block are moved to another.
use Rattle.std.proofs.Common.{◌≡◌, ◌⊎◌, inl, inr, ℕ, suc, ◌+◌, ◌-◌, ◌*◌, ◌/◌, ◌<◌, ◌≤◌, refl, sym, ap, subst, ◌∙◌, arith, true, false, cond, T, List, [], ◌∷◌, length, nat_le, if◌then◌else◌, ◌==◌}
use Rattle.std.proofs.Common.{Option, Some, None, leb→le, leb-false, length-append}
use Rattle.std.{specs.List.sum_by, specs.List.AllByRecursion, proofs.lemmas.List.Sums.sum_by-cons, proofs.lemmas.List.length-map, proofs.lemmas.Bool.eq-eqb, proofs.lemmas.Bool.ne_eqb}
use Rattle.std.{proofs.Math.Nat.mul-suc, proofs.Math.Nat.suc-mul, proofs.Math.Nat.mul-div-le, specs.Ordering.is_eq, specs.Ordering.eq_by_cmp, specs.Cmp.tied_itself}
use Rattle.std.specs.FinMap.Entries.{put, find, is_sorted, below_all, find-put, is_sorted-put}
use Rattle.std.{proofs.lemmas.Nat.div-mul-add, proofs.lemmas.Nat.div-add-mod', proofs.lemmas.List.FromFn.length-range_with_len}
use Rattle.pk_base.{specs.Key.Key, specs.Key.key_cmp, specs.Shape.Shape, specs.Shape.IsShape, specs.Shape.charge, specs.Shape.dense, specs.Shape.data_blocks, specs.Shape.limit, specs.Entry.Place}
use Rattle.pk_base.{specs.EntryChecks.IsPlace, proofs.Logic.left_part, proofs.Logic.right_part}
use Rattle.pk_segfmt.{specs.Value.value_pages, proofs.StoredLemmas.charge_some}
use Rattle.pk_model.{specs.Values.all_pages, specs.Laws.AnyByRecursion, specs.Laws.IsPageOf, proofs.MapLemmas.key_total, proofs.MapLemmas.missing, proofs.Lookups.same_key}
use Rattle.pk_law_steps.specs.Under.{IsValuePage}
use Rattle.pk_law_moves.specs.Moves.{moved}
use Rattle.pk_law_moves.specs.Victims.{exchanged, AreMoved, LieInOthers, NoneLeft, OneIsSparse, FitOnePage, LeavesRoom}

-- ---- keys that are found

-- the key has its value at this place
abbrev GoesTo : Key → Place → List (Key × Place) → Type 0
GoesTo key place moves = AnyByRecursion (λ m. (key ≡ m.0) × (m.1 ≡ place)) moves

abbrev IsOf : Key → List (Key × Place) → Type 0
IsOf key moves = AnyByRecursion (λ m. key ≡ m.0) moves

some_same : (a b : Place) → ◌≡◌ {A = Option Place} (Some a) (Some b) → a ≡ b
some_same a b e = cc

-- a key goes to the place of one of its moves, or stays where it was
find_moved : (key : Key) (place : Place) (moves es : List (Key × Place)) → find key_cmp key (moved moves es) ≡ Some place
    → GoesTo key place moves ⊎ ((find key_cmp key es ≡ Some place) × (IsOf key moves → ⊥))
find_moved key place [] es found = inr (found, λ none. none)
find_moved key place (m ∷ moves) es found = elim (find_moved key place moves (put key_cmp m.0 m.1 es) found) [
  | inl goes ↦ inl (inr goes)
  | inr rest ↦
      elim (eq_by_cmp key_cmp key m.0) as (λ b. eq_by_cmp key_cmp key m.0 ≡ b → cond b (Some m.1) (find key_cmp key es) ≡ Some place
      → GoesTo key place (m ∷ moves) ⊎ ((find key_cmp key es ≡ Some place) × (IsOf key (m ∷ moves) → ⊥))) [
        | true ↦ λ tied f. inl (inl (same_key key m.0 tied, some_same m.1 place f))
        | false ↦ λ other f. inr (f, λ is. elim is [ inl same ↦ differs key m.0 other same | inr among ↦ rest.1 among ])
      ] refl (sym (find-put key_cmp key_total key m.0 m.1 es) ∙ rest.0)
]
  where
    differs : (a b : Key) → eq_by_cmp key_cmp a b ≡ false → a ≡ b → ⊥
    differs a b other same = let tied : eq_by_cmp key_cmp a b ≡ true = ap (λ x. eq_by_cmp key_cmp a x) (sym same) ∙ ap is_eq (tied_itself key_total a) in cc

rising_moved : (moves es : List (Key × Place)) → T (is_sorted key_cmp es) → T (is_sorted key_cmp (moved moves es))
rising_moved [] es rising = rising
rising_moved (m ∷ moves) es rising = rising_moved moves (put key_cmp m.0 m.1 es) (is_sorted-put key_cmp key_total m.0 m.1 es rising)

-- the value that a page belongs to
record Owner (shape : Shape) (es : List (Key × Place)) (k : ℕ) : Type 0 where
  key : Key
  place : Place
  found : find key_cmp key es ≡ Some place
  is_page : IsPageOf shape k place

owner : (shape : Shape) (es : List (Key × Place)) (k : ℕ) → T (is_sorted key_cmp es) → IsValuePage shape es k → Owner shape es k
owner shape [] k rising is = absurd is
owner shape (e ∷ es) k rising (inl here) = record { key = e.0; place = e.1; found = rw (tied_itself key_total e.0) refl; is_page = here }
owner shape (e ∷ es) k rising (inr there) =
    let rest = owner shape es k (right_part (below_all key_cmp e.0 es) (is_sorted key_cmp es) rising) there in
    record {
      key = rest.key;
      place = rest.place;
      found = elim (eq_by_cmp key_cmp rest.key e.0) as (λ b. eq_by_cmp key_cmp rest.key e.0 ≡ b → cond b (Some e.1) (find key_cmp rest.key es) ≡ Some rest.place) [
        | true ↦ λ tied. let none = missing e.0 es (left_part (below_all key_cmp e.0 es) (is_sorted key_cmp es) rising) in absurd
            (nowhere e.0 rest.key es rest.place (same_key rest.key e.0 tied) none rest.found)
        | false ↦ λ other. rest.found
      ] refl;
      is_page = rest.is_page;
    }
  where
    nowhere : (a b : Key) (xs : List (Key × Place)) (place : Place) → b ≡ a → find key_cmp a xs ≡ None → find key_cmp b xs ≡ Some place → ⊥
    nowhere a b xs place same none found = let here : find key_cmp a xs ≡ Some place = ap (λ x. find key_cmp x xs) (sym same) ∙ found in cc

found_in : (P : Key × Place → Type 0) (key : Key) (place : Place) (es : List (Key × Place)) → AllByRecursion P es → find key_cmp key es ≡ Some place → (q : Key) × P (q, place)
found_in P key place [] all found = cc
found_in P key place (e ∷ es) all found =
    elim (eq_by_cmp key_cmp key e.0) as (λ b. cond b (Some e.1) (find key_cmp key es) ≡ Some place → (q : Key) × P (q, place)) [
      | true ↦ λ f. (e.0, subst (λ p. P (e.0, p)) (some_same e.1 place f) all.0)
      | false ↦ λ f. found_in P key place es all.1 f
    ] found

pub found_page : (shape : Shape) (key : Key) (place : Place) (es : List (Key × Place)) (k : ℕ) → find key_cmp key es ≡ Some place → IsPageOf shape k place → IsValuePage shape es k
found_page shape key place [] k found is = cc
found_page shape key place (e ∷ es) k found is =
    elim (eq_by_cmp key_cmp key e.0) as (λ b. cond b (Some e.1) (find key_cmp key es) ≡ Some place → IsValuePage shape (e ∷ es) k) [
      | true ↦ λ f. inl (subst (λ p. IsPageOf shape k p) (sym (some_same e.1 place f)) is)
      | false ↦ λ f. inr (found_page shape key place es k f is)
    ] found

goes_page : (shape : Shape) (key : Key) (place : Place) (moves : List (Key × Place)) (k : ℕ) → GoesTo key place moves → IsPageOf shape k place → IsValuePage shape moves k
goes_page shape key place [] k goes is = goes
goes_page shape key place (m ∷ moves) k (inl here) is = inl (subst (λ p. IsPageOf shape k p) (sym here.1) is)
goes_page shape key place (m ∷ moves) k (inr there) is = inr (goes_page shape key place moves k there is)

-- the pages of a value are in the block in which it begins
one_block : (shape : Shape) (place : Place) (k : ℕ) → IsShape shape → IsPlace shape place → IsPageOf shape k place → k / shape.block_pages ≡ place.page / shape.block_pages
one_block shape place k is_shape is here = search (arith, div-add-mod', div-mul-add, shape.block_pages, place.page, is.inside)

-- ---- where the values lie

-- a page of a moved value is in the output, or in another block than the victim, in which it was before
record WasThere (shape : Shape) (victim : ℕ) (es : List (Key × Place)) (k : ℕ) : Type 0 where
  before : IsValuePage shape es k
  not_in_victim : k / shape.block_pages ≡ victim → ⊥

lies : (shape : Shape) (victim output : ℕ) (es moves : List (Key × Place)) (k : ℕ) → AreMoved shape victim output es moves
    → IsValuePage shape (moved moves es) k → (k / shape.block_pages ≡ output) ⊎ WasThere shape victim es k
lies shape victim output es moves k are is =
    let own = owner shape (moved moves es) k (rising_moved moves es are.rising) is in
    elim (find_moved own.key own.place moves es own.found) [
      | inl goes ↦ inl (are.in_output k (goes_page shape own.key own.place moves k goes own.is_page))
      | inr stays ↦ inr (record {
        before = found_page shape own.key own.place es k stays.0 own.is_page;
        not_in_victim = λ here.
            let place = (found_in (λ e. IsPlace shape e.1) own.key own.place es are.are_places stays.0).1 in
            stays.1 (are.empties own.key own.place stays.0 (sym (one_block shape own.place k are.is_shape place own.is_page) ∙ here));
      })
    ]

pub none_left : NoneLeft
none_left shape victim output es moves are other k here is = elim (lies shape victim output es moves k are is) [
  | inl out ↦ other (sym here ∙ out)
  | inr was ↦ was.not_in_victim here
]

module _ (shape : Shape) (victim output k : ℕ) where
  abbrev Among : List ℕ → Type 0
  Among blocks = AnyByRecursion (λ b. k / shape.block_pages ≡ b) blocks

  output_in : (blocks : List ℕ) → AnyByRecursion (λ b. victim ≡ b) blocks → k / shape.block_pages ≡ output → Among (exchanged victim output blocks)
  output_in [] is here = is
  output_in (b ∷ blocks) (inl same) here = inl (here ∙ sym (rw (eq-eqb b victim (sym same)) refl))
  output_in (b ∷ blocks) (inr more) here = inr (output_in blocks more here)

  other_in : (blocks : List ℕ) → Among blocks → (k / shape.block_pages ≡ victim → ⊥) → Among (exchanged victim output blocks)
  other_in [] is other = is
  other_in (b ∷ blocks) (inl same) other = inl (same ∙ sym (rw (ne_eqb b victim (λ e. other (same ∙ e))) refl))
  other_in (b ∷ blocks) (inr more) other = inr (other_in blocks more other)

pub lie_in_others : LieInOthers
lie_in_others shape victim output es moves blocks are among lie = (
  λ k is. elim (lies shape victim output es moves k are is) [
    | inl out ↦ output_in shape victim output k blocks among out
    | inr was ↦ other_in shape victim output k blocks (lie k was.before) was.not_in_victim
  ],
  length-map blocks (λ b. if b == victim then output else b),
)

-- ---- numbers

-- all of these blocks have more than n, or one has not
sparse_or_full : (most : ℕ) (count : ℕ → ℕ) (blocks : List ℕ) → AnyByRecursion (λ b. count b ≤ most) blocks ⊎ (length blocks * suc most ≤ sum_by count blocks)
sparse_or_full most count [] = inr (omega arith)
sparse_or_full most count (b ∷ blocks) = elim (sparse_or_full most count blocks) [
  | inl is ↦ inl (inr is)
  | inr rest ↦ elim (le_or_lt (count b) most) [
    | inl sparse ↦ inl (inl sparse)
    | inr full ↦ inr (let all = sum_by-cons count b blocks in let size = suc-mul (length blocks) (suc most) in omega (arith, rest, full, all, size))
  ]
]
  where
    le_or_lt : (a c : ℕ) → (a ≤ c) ⊎ (c < a)
    le_or_lt a c = elim (nat_le a c) as (λ t. nat_le a c ≡ t → (a ≤ c) ⊎ (c < a)) [ true ↦ λ e. inl (leb→le a c (subst T (sym e) tt)) | false ↦ λ e. inr (leb-false a c e) ] refl

pub one_is_sparse : OneIsSparse
unfolding limit data_blocks
one_is_sparse shape count blocks is_shape all within = elim (sparse_or_full (dense shape) count blocks) [
  | inl is ↦ is
  | inr full ↦
      let size = mul-suc (length blocks) (dense shape) in
      let most : sum_by count blocks ≤ length blocks * dense shape = subst (λ n. sum_by count blocks ≤ n * dense shape) (sym all) within in
      let fits = is_shape.data_fits in
      absurd (omega (arith, full, size, most, all, fits))
]

no_fewer_pages : (shape : Shape) (moves : List (Key × Place)) → IsShape shape → length moves ≤ length (all_pages shape moves)
no_fewer_pages shape [] is_shape = omega arith
no_fewer_pages shape (m ∷ moves) is_shape =
    let rest = no_fewer_pages shape moves is_shape in
    let some = charge_some shape is_shape m.1.len in
    let all = length-append (value_pages shape m.1) (all_pages shape moves) in
    let here = length-range_with_len m.1.page (charge shape m.1.len) in
    omega (arith, rest, some, all, here)

pub fit_one_page : FitOnePage
fit_one_page shape moves is_shape few = let pages = no_fewer_pages shape moves is_shape in let fits = is_shape.moves_fit in omega (arith, pages, few, fits)

pub leaves_room : LeavesRoom
leaves_room shape is_shape = search (arith, mul-div-le, shape.block_pages)
