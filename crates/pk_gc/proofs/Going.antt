-- The first head that was not seen is that of the next value.
use Rattle.std.proofs.Common.{◌≡◌, inl, inr, ℕ, ◌+◌, ◌-◌, ◌*◌, ◌/◌, ◌%◌, ◌<◌, ◌≤◌, refl, sym, ap, subst, ◌∙◌, arith, true, false, cond, List, [], ◌∷◌, length, Option, Some, add-zero}
use Rattle.std.{specs.Prelude.slice_index, specs.List.AllByRecursion, specs.Ordering.eq_by_cmp, specs.FinMap.Entries.find, proofs.lemmas.Bool.cases_lt, proofs.lemmas.Nat.div-add-mod'}
use Rattle.std.proofs.Math.Nat.{mul-div-le}
use Rattle.pk_base.{specs.Key.Key, specs.Key.IsKey, specs.Key.key_cmp, specs.Shape.Shape, specs.Shape.charge, specs.Shape.dense, specs.Page.page_at, specs.Entry.Place, specs.EntryChecks.IsPlace}
use Rattle.pk_segfmt.{specs.Head.IsHead, specs.Value.head_bytes, specs.Stored.page_of, proofs.StoredLemmas.charge_some, proofs.StoredLemmas.value_found, proofs.StoredLemmas.first_starts}
use Rattle.pk_model.{specs.Laws.IsPageOf, proofs.Lookups.same_key}
use Rattle.pk_pool.proofs.Fitting.{block_of}
use Rattle.pk_live.specs.Lives.{head_of}
use Rattle.pk_law_moves.{specs.Moves.AreApart, proofs.Emptying.found_page}
use Rattle.pk_gc.{specs.State.source, specs.State.unseen, specs.State.live_from, specs.State.live_unseen, specs.Running.IsWholeAt, specs.Going.NextIsValue, proofs.Ending.head_found}
use Rattle.pk_gc.{proofs.Finishing.begins, proofs.Finishing.begun, proofs.Counting.live_begins}

found_all : (P : Key × Place → Type 0) (key : Key) (place : Place) (es : List (Key × Place)) → AllByRecursion P es → find key_cmp key es ≡ Some place → P (key, place)
found_all P key place [] all found = cc
found_all P key place (e ∷ es) all found =
    elim (eq_by_cmp key_cmp key e.0) as (λ b. eq_by_cmp key_cmp key e.0 ≡ b → cond b (Some e.1) (find key_cmp key es) ≡ Some place → P (key, place)) [
      | true ↦ λ tied f. let same : e.1 ≡ place = cc in subst (λ (x : Key × Place). P x) (λ i. (sym (same_key key e.0 tied) i, same i)) all.0
      | false ↦ λ other f. found_all P key place es all.1 f
    ] refl found

-- two values with a common page are one
common : (shape : Shape) (a b : Key) (p q : Place) (es : List (Key × Place)) (k : ℕ) → AreApart shape es
    → find key_cmp a es ≡ Some p → find key_cmp b es ≡ Some q → IsPageOf shape k p → IsPageOf shape k q → (a ≡ b) × (p ≡ q)
common shape a b p q [] k apart of_a of_b in_p in_q = cc
common shape a b p q (e ∷ es) k apart of_a of_b in_p in_q =
    elim (eq_by_cmp key_cmp a e.0) as (λ x. eq_by_cmp key_cmp a e.0 ≡ x → cond x (Some e.1) (find key_cmp a es) ≡ Some p → (a ≡ b) × (p ≡ q)) [
      | true ↦ λ tied f. elim (eq_by_cmp key_cmp b e.0) as (λ y. eq_by_cmp key_cmp b e.0 ≡ y → cond y (Some e.1) (find key_cmp b es) ≡ Some q → (a ≡ b) × (p ≡ q)) [
        | true ↦ λ tied' g. (same_key a e.0 tied ∙ sym (same_key b e.0 tied'), sym (some_same e.1 p f) ∙ some_same e.1 q g)
        | false ↦ λ other g. absurd (apart.0 k (subst (λ x. IsPageOf shape k x) (sym (some_same e.1 p f)) in_p) (found_page shape b q es k g in_q))
      ] refl of_b
      | false ↦ λ other f. elim (eq_by_cmp key_cmp b e.0) as (λ y. eq_by_cmp key_cmp b e.0 ≡ y → cond y (Some e.1) (find key_cmp b es) ≡ Some q → (a ≡ b) × (p ≡ q)) [
        | true ↦ λ tied g. absurd (apart.0 k (subst (λ x. IsPageOf shape k x) (sym (some_same e.1 q g)) in_q) (found_page shape a p es k f in_p))
        | false ↦ λ other' g. common shape a b p q es k apart.1 f g in_p in_q
      ] refl of_b
    ] refl of_a
  where
    some_same : (x y : Place) → ◌≡◌ {A = Option Place} (Some x) (Some y) → x ≡ y
    some_same x y same = cc

pub next_is_value : NextIsValue
next_is_value shape c moves held heads flash es page runs are sparse done behind inside live dead =
    let n : ℕ = shape.block_pages in
    let was = begins shape es page are.rising (subst (λ x. 0 < x) (are.heads_are page) live) in
    let key = was.key in
    let place = was.place in
    let page_is = was.page_is in
    let is_key = found_all (λ e. IsKey e.0) key place es are.are_keys was.found in
    let is_place = found_all (λ e. IsPlace shape e.1) key place es are.are_places was.found in
    let is_head : IsHead shape key place.len = record { is_key = is_key; short = is_place.short } in
    let value = are.read key place was.found in
    let stands = value_found shape (page_at flash) key place value.0 runs.is_shape is_head (λ k bytes whole_is. (are.is_flash.full k bytes whole_is).0) value.1 in
    let size : length value.0 ≡ place.len = stands.0 in
    let some = charge_some shape runs.is_shape place.len in
    let count : slice_index heads page ≡ charge shape place.len = are.heads_are page ∙ ap (head_of shape es) (sym page_is) ∙ head_found shape runs.is_shape key place es are.apart was.found in
    let pages : charge shape (length value.0) ≡ charge shape place.len = ap (charge shape) size in
    let stored : (k : ℕ) → page ≤ k → k < page + charge shape place.len → IsWholeAt flash k = λ k low high.
    (page_of shape key value.0 (k - page), ap (page_at flash) (at_of k page place.page page_is low) ∙ stands.1 (k - page) (omega (arith, low, high, pages))) in
    let block : page / n ≡ c.victim = block_of n page c.victim (omega (arith, behind)) inside in
    let rest = div-add-mod' place.page n in
    let same_block : place.page / n ≡ c.victim = ap (λ x. x / n) page_is ∙ block in
    let start : c.victim * n + place.page % n ≡ place.page = subst (λ x. x * n + place.page % n ≡ place.page) same_block rest in
    let within : page + charge shape place.len ≤ c.victim * n + n = let fits = is_place.inside in omega (arith, start, fits, page_is) in
    let more = live_begins heads (source shape c) page (charge shape place.len) (c.victim * n + n - (page + charge shape place.len)) behind some count in
    let all : live_unseen shape heads c ≡ live_from heads (source shape c) (page - source shape c + (charge shape place.len + (c.victim * n + n - (page + charge shape place.len)))) =
    (λ i. live_from heads (unseen_is i) (c.victim * n + n - unseen_is i)) ∙ ap (live_from heads (source shape c)) (omega (arith, behind, within)) in
    let few = runs.few in
    let most : dense shape ≤ n = let a = mul-div-le (3 * n) 4 in omega (arith, a) in (
      omega (arith, few, sparse, done, all, more, some),
      (
        key,
        place,
        record {
          found = was.found;
          page_is = page_is;
          behind = behind;
          inside = within;
          room = omega (arith, sparse, done, all, more, most);
          head = record {
            is_head = is_head;
            bytes = page_of shape key value.0 0;
            here = ap (page_at flash) (sym (add-zero page) ∙ ap (λ x. x + 0) (sym page_is)) ∙ stands.1 0 (omega (arith, pages, some));
            front = first_starts shape runs.is_shape key value.0 is_key ∙ ap (head_bytes key) size;
          };
          wholes = stored;
          alone = λ q p found same. let one = common shape q key p place es page are.apart found was.found (starts p same) (starts place page_is) in (one.0, ap (λ (x : Place). x.len) one.1);
          first = λ q p found low high. elim (cases_lt p.page page) [
            | inl before ↦ absurd (let none = dead p.page low before in let head = begun shape runs.is_shape q p es found in let there = are.heads_are p.page in omega (arith, none, head, there))
            | inr after ↦ let one = common shape q key p place es p.page are.apart found was.found (starts p refl)
                (omega (arith, after, page_is), omega (arith, high, page_is)) in ap (λ (x : Place). x.page) one.1 ∙ page_is
          ];
        },
        count,
      ),
    )
  where
    unseen_is : unseen shape c ≡ source shape c
    unseen_is = omega (arith, done)

    at_of : (k a b : ℕ) → b ≡ a → a ≤ k → k ≡ b + (k - a)
    at_of k a b same low = omega (arith, same, low)

    starts : (p : Place) {x : ℕ} → p.page ≡ x → IsPageOf shape x p
    starts p same = subst (λ x. IsPageOf shape x p) same (omega arith, omega (arith, charge_some shape runs.is_shape p.len))
