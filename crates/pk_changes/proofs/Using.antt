-- What each namespace uses if a key gets a value, or loses its own.
use Rattle.std.proofs.Common.{◌≡◌, ℕ, zero, suc, ◌+◌, ◌-◌, ◌<◌, ◌≤◌, true, false, not, cond, if◌then◌else◌, ◌==◌, T, List, [], ◌∷◌, ◌++◌, length, length-append, Option, Some, None, refl, sym, ap}
use Rattle.std.proofs.Common.{subst, ◌∙◌, arith, eqb→eq, eq-eqb}
use Rattle.std.{specs.Prelude.slice_index, specs.Prelude.slice_set, specs.Ordering.is_eq, specs.Ordering.eq_by_cmp, proofs.lemmas.List.FromFn.length-range_with_len}
use Rattle.std.specs.declared.cmp.Ordering.TheVariants.{Less, Equal, Greater}
use Rattle.std.specs.FinMap.Entries.{put, find, is_sorted, below_all, by_order}
use Rattle.pk_base.{specs.declared.sizes.TheConstants.MOST_SPACES, specs.Key.Key, specs.Key.key_cmp, specs.Key.space_of, specs.Shape.Shape, specs.Shape.IsShape, specs.Shape.charge, specs.Entry.Place}
use Rattle.pk_base.proofs.Logic.{left_part, right_part, of_true}
use Rattle.pk_segfmt.{proofs.StoredLemmas.charge_some, specs.Value.value_pages}
use Rattle.pk_space.specs.Uses.{Use, IsSpace, CanLeave, space_live, space_keys, value_count, used_after}
use Rattle.pk_model.{specs.Values.pages_of_space, specs.Values.fits, specs.Values.all_pages, proofs.MapLemmas.missing, proofs.MapLemmas.below_less, proofs.MapLemmas.key_antisymm}
use Rattle.pk_model.{proofs.SpaceLemmas.same_tied, proofs.ValueSets.fits_parts}
use Rattle.pk_law_steps.proofs.Outputs.{values_most}
use Rattle.pk_values.specs.Placed.{without}
use Rattle.pk_scan.{specs.Used.keys_of_space, specs.Used.IsUseOf, proofs.Using.few_keys, proofs.ValuesHeld.limit_few}
use Rattle.pk_changes.specs.Noting.{pages_at}

-- ---- sums over keys and places

-- the weight of a key at its place, if it has one
abbrev weight_if : (Key → Place → ℕ) → Key → Option Place → ℕ
weight_if weight key None = 0
weight_if weight key (Some p) = weight key p

-- what each of them weighs, and their sum
module _ (weight : Key → Place → ℕ) (total : List (Key × Place) → ℕ) (of_none : total [] ≡ 0) (of_more : (e : Key × Place) (es : List (Key × Place)) → total (e ∷ es) ≡ weight e.0 e.1 + total es) where
  sum_put : (key : Key) (place : Place) (es : List (Key × Place)) → T (is_sorted key_cmp es)
      → total (put key_cmp key place es) + weight_if weight key (find key_cmp key es) ≡ total es + weight key place
  sum_put key place [] rising = let one = of_more (key, place) [] in omega (arith, one, of_none)
  sum_put key place (e ∷ es) rising =
      let below = left_part (below_all key_cmp e.0 es) (is_sorted key_cmp es) rising in
      let rest = sum_put key place es (right_part (below_all key_cmp e.0 es) (is_sorted key_cmp es) rising) in
      let was = of_more e es in
      elim (key_cmp key e.0) as (λ r. key_cmp key e.0 ≡ r → total (by_order r ((key, place) ∷ e ∷ es) ((e.0, place) ∷ es) (e ∷ put key_cmp key place es))
      + weight_if weight key (cond (is_eq r) (Some e.1) (find key_cmp key es)) ≡ total (e ∷ es) + weight key place) [
        | Less ↦ λ r.
            let none = ap (weight_if weight key) (missing key es (below_less key e.0 es r below)) in
            let now = of_more (key, place) (e ∷ es) in
            omega (arith, none, now)
        | Equal ↦ λ r.
            let own : weight key e.1 ≡ weight e.0 e.1 = ap (λ k. weight k e.1) (key_antisymm key e.0 r) in
            let new : weight key place ≡ weight e.0 place = ap (λ k. weight k place) (key_antisymm key e.0 r) in
            let now = of_more (e.0, place) es in
            omega (arith, own, new, now, was)
        | Greater ↦ λ r. let now = of_more e (put key_cmp key place es) in omega (arith, rest, now, was)
      ] refl

  sum_without : (key : Key) (es : List (Key × Place)) → T (is_sorted key_cmp es) → total (without key es) + weight_if weight key (find key_cmp key es) ≡ total es
  sum_without key [] rising = omega (arith, of_none)
  sum_without key (e ∷ es) rising =
      let below = left_part (below_all key_cmp e.0 es) (is_sorted key_cmp es) rising in
      let rest = sum_without key es (right_part (below_all key_cmp e.0 es) (is_sorted key_cmp es) rising) in
      let was = of_more e es in
      elim (eq_by_cmp key_cmp key e.0) as (λ b. eq_by_cmp key_cmp key e.0 ≡ b
      → total (cond (not b) (e ∷ without key es) (without key es)) + weight_if weight key (cond b (Some e.1) (find key_cmp key es)) ≡ total (e ∷ es)) [
        | true ↦ λ tied.
            let same : key ≡ e.0 = same_tied key e.0 tied in
            let own : weight key e.1 ≡ weight e.0 e.1 = ap (λ k. weight k e.1) same in
            let none = ap (weight_if weight key) (missing key es (subst (λ k. T (below_all key_cmp k es)) (sym same) below)) in
            omega (arith, rest, own, none, was)
        | false ↦ λ other. let now = of_more e (without key es) in omega (arith, rest, now, was)
      ] refl

-- ---- a number of each namespace, of which that of one changes

set_same : (xs : List ℕ) (i v : ℕ) → i < length xs → slice_index (slice_set xs i v) i ≡ v
set_same [] i v less = absurd (omega (arith, less))
set_same (x ∷ xs) zero v less = refl
set_same (x ∷ xs) (suc i) v less = set_same xs i v (omega (arith, less))

set_other : (xs : List ℕ) (i j v : ℕ) → (i ≡ j → ⊥) → slice_index (slice_set xs i v) j ≡ slice_index xs j
set_other [] i j v other = refl
set_other (x ∷ xs) zero zero v other = absurd (other refl)
set_other (x ∷ xs) zero (suc j) v other = refl
set_other (x ∷ xs) (suc i) zero v other = refl
set_other (x ∷ xs) (suc i) (suc j) v other = set_other xs i j v (λ same. other (omega (arith, same)))

set_length : (xs : List ℕ) (i v : ℕ) → length (slice_set xs i v) ≡ length xs
set_length [] i v = refl
set_length (x ∷ xs) zero v = refl
set_length (x ∷ xs) (suc i) v = ap suc (set_length xs i v)

-- those of a namespace alone
abbrev here : ℕ → ℕ → ℕ → ℕ
here own space n = if own == space then n else 0

here_own : (own n : ℕ) → here own own n ≡ n
here_own own n = rw (eq-eqb own own refl) refl

here_none : (own space : ℕ) → here own space 0 ≡ 0
here_none own space = elim (own == space) as (λ b. ◌≡◌ {A = ℕ} (if b then 0 else 0) 0) [ true ↦ refl | false ↦ refl ]

module _ (own : ℕ) (is_own : IsSpace own) (xs : List ℕ) (room : length xs ≡ MOST_SPACES) (former later : ℕ → ℕ) (was : (space : ℕ) → IsSpace space → slice_index xs (space - 1) ≡ former space)
    (gone come : ℕ) (moves : (space : ℕ) → later space + here own space gone ≡ former space + here own space come) where
  changes : gone ≤ slice_index xs (own - 1) → (space : ℕ) → IsSpace space → slice_index (slice_set xs (own - 1) (slice_index xs (own - 1) - gone + come)) (space - 1) ≡ later space
  changes enough space is =
      let least = is.0 in
      let own_least = is_own.0 in
      let own_most = is_own.1 in
      let new : ℕ = slice_index xs (own - 1) - gone + come in
      let now = moves space in
      elim (own == space) as (λ b. (own == space) ≡ b → slice_index (slice_set xs (own - 1) (slice_index xs (own - 1) - gone + come)) (space - 1) ≡ later space) [
        | true ↦ λ t.
            let same : own ≡ space = eqb→eq own space (of_true _ t) in
            let place_same : own - 1 ≡ space - 1 = omega (arith, same) in
            let there = set_same xs (own - 1) new (omega (arith, room, own_least, own_most)) in
            let before = was own is_own in
            let former_same : former own ≡ former space = ap former same in
            let gone_here : here own space gone ≡ gone = rw t refl in
            let come_here : here own space come ≡ come = rw t refl in
            ap (slice_index (slice_set xs (own - 1) new)) (sym place_same) ∙ there ∙ omega (arith, before, former_same, now, gone_here, come_here, enough)
        | false ↦ λ t.
            let other : own - 1 ≡ space - 1 → ⊥ = λ same. let equal : own ≡ space = omega (arith, same, least, own_least) in let clash : true ≡ false = sym (eq-eqb own space equal) ∙ t in cc in
            let gone_none : here own space gone ≡ 0 = rw t refl in
            let come_none : here own space come ≡ 0 = rw t refl in
            let before = was space is in
            set_other xs (own - 1) (space - 1) new other ∙ omega (arith, before, now, gone_none, come_none)
      ] refl

one_value : (count : ℕ) → 0 < count → value_count count ≡ 1
one_value zero some = absurd (omega (arith, some))
one_value (suc n) some = refl

-- ---- one key

abbrev pages_weight : Shape → ℕ → Key → Place → ℕ
pages_weight shape space key place = here (space_of key) space (charge shape place.len)

abbrev keys_weight : ℕ → Key → Place → ℕ
keys_weight space key place = here (space_of key) space 1

pages_here : (shape : Shape) (space : ℕ) (key : Key) (old : Option Place) → weight_if (pages_weight shape space) key old ≡ here (space_of key) space (pages_at shape old)
pages_here shape space key None = sym (here_none (space_of key) space)
pages_here shape space key (Some p) = refl

keys_here : (shape : Shape) → IsShape shape → (space : ℕ) (key : Key) (old : Option Place) → weight_if (keys_weight space) key old ≡ here (space_of key) space (value_count (pages_at shape old))
keys_here shape is_shape space key None = sym (here_none (space_of key) space)
keys_here shape is_shape space key (Some p) = ap (here (space_of key) space) (sym (one_value (charge shape p.len) (charge_some shape is_shape p.len)))

module _ (shape : Shape) (is_shape : IsShape shape) (u : Use) (es : List (Key × Place)) (key : Key) (own : IsSpace (space_of key)) (rising : T (is_sorted key_cmp es))
    (old : Option Place) (old_is : find key_cmp key es ≡ old) (uses : IsUseOf shape u es) where
  abbrev held : ℕ
  held = pages_at shape old

  pages_gone : (space : ℕ) → pages_of_space shape space (without key es) + here (space_of key) space held ≡ pages_of_space shape space es
  pages_gone space =
      let all = sum_without (pages_weight shape space) (pages_of_space shape space) refl (λ e xs. refl) key es rising in
      let its = ap (weight_if (pages_weight shape space) key) old_is ∙ pages_here shape space key old in
      omega (arith, all, its)

  keys_gone : (space : ℕ) → keys_of_space space (without key es) + here (space_of key) space (value_count held) ≡ keys_of_space space es
  keys_gone space =
      let all = sum_without (keys_weight space) (keys_of_space space) refl (λ e xs. refl) key es rising in
      let its = ap (weight_if (keys_weight space) key) old_is ∙ keys_here shape is_shape space key old in
      omega (arith, all, its)

  -- what the key had may go
  pub can_leave : CanLeave u (space_of key) held
  can_leave =
      let pages = pages_gone (space_of key) in
      let keys = keys_gone (space_of key) in
      let live_is = uses.live (space_of key) own in
      let keys_is = uses.keys (space_of key) own in
      let all_pages_here = here_own (space_of key) held in
      let all_keys_here = here_own (space_of key) (value_count held) in
      (omega (arith, pages, live_is, all_pages_here), omega (arith, keys, keys_is, all_keys_here))

  -- what is used if it loses its value
  pub use_of_gone : IsUseOf shape (used_after u (space_of key) held 0) (without key es)
  use_of_gone = record {
    live_room = set_length u.live (space_of key - 1) (space_live u (space_of key) - held + 0) ∙ uses.live_room;
    keys_room = set_length u.keys (space_of key - 1) (space_keys u (space_of key) - value_count held + value_count 0) ∙ uses.keys_room;
    live = changes (space_of key) own u.live uses.live_room (λ n. pages_of_space shape n es) (λ n. pages_of_space shape n (without key es)) uses.live held 0
        (λ n. let all = pages_gone n in let none = here_none (space_of key) n in omega (arith, all, none)) can_leave.0;
    keys = changes (space_of key) own u.keys uses.keys_room (λ n. keys_of_space n es) (λ n. keys_of_space n (without key es)) uses.keys (value_count held) 0
        (λ n. let all = keys_gone n in let none = here_none (space_of key) n in omega (arith, all, none)) can_leave.1;
  }

  -- and if it gets one at this place
  pub use_of_put : (place : Place) → IsUseOf shape (used_after u (space_of key) held (charge shape place.len)) (put key_cmp key place es)
  use_of_put place =
      let count : ℕ = charge shape place.len in
      let one : value_count count ≡ 1 = one_value count (charge_some shape is_shape place.len) in
      record {
        live_room = set_length u.live (space_of key - 1) (space_live u (space_of key) - held + count) ∙ uses.live_room;
        keys_room = set_length u.keys (space_of key - 1) (space_keys u (space_of key) - value_count held + value_count count) ∙ uses.keys_room;
        live = changes (space_of key) own u.live uses.live_room (λ n. pages_of_space shape n es) (λ n. pages_of_space shape n (put key_cmp key place es)) uses.live held count
            (λ n. let all = sum_put (pages_weight shape n) (pages_of_space shape n) refl (λ e xs. refl) key place es rising in
            let its = ap (weight_if (pages_weight shape n) key) old_is ∙ pages_here shape n key old in
            omega (arith, all, its)) can_leave.0;
        keys = changes (space_of key) own u.keys uses.keys_room (λ n. keys_of_space n es) (λ n. keys_of_space n (put key_cmp key place es)) uses.keys (value_count held) (value_count count)
            (λ n. let all = sum_put (keys_weight n) (keys_of_space n) refl (λ e xs. refl) key place es rising in
            let its = ap (weight_if (keys_weight n) key) old_is ∙ keys_here shape is_shape n key old in
            let new = ap (here (space_of key) n) one in
            omega (arith, all, its, new)) can_leave.1;
      }

-- ---- small numbers

pages_few : (shape : Shape) (space : ℕ) (es : List (Key × Place)) → pages_of_space shape space es ≤ length (all_pages shape es)
pages_few shape space [] = omega arith
pages_few shape space (e ∷ es) =
    let rest = pages_few shape space es in
    let size = length-append (value_pages shape e.1) (all_pages shape es) in
    let own = length-range_with_len e.1.page (charge shape e.1.len) in
    elim (space_of e.0 == space) as (λ b. (if b then charge shape e.1.len else 0) + pages_of_space shape space es ≤ length (value_pages shape e.1 ++ all_pages shape es)) [
      | true ↦ omega (arith, rest, size, own)
      | false ↦ omega (arith, rest, size)
    ]

pub use_few : (shape : Shape) → IsShape shape → (named : List ℕ) (es : List (Key × Place)) → fits shape named (all_pages shape es) ≡ true
    → (u : Use) → IsUseOf shape u es → (space : ℕ) → IsSpace space → (space_live u space ≤ 1048576) × (space_keys u space ≤ 1048576)
use_few shape is_shape named es fit u uses space is =
    let few = (fits_parts shape named (all_pages shape es) (of_true _ fit)).few in
    let most = limit_few shape is_shape in
    let live_is = uses.live space is in
    let keys_is = uses.keys space is in
    let part = pages_few shape space es in
    let each = few_keys space es in
    let values = values_most shape is_shape es in
    (omega (arith, few, most, live_is, part), omega (arith, few, most, keys_is, each, values))
