-- A reclaim that runs, whatever others do.
use Rattle.std.proofs.Common.{◌≡◌, inl, inr, ℕ, ◌+◌, ◌*◌, ◌/◌, ◌<◌, ◌≤◌, sym, ap, subst, ◌∙◌, arith, true, false, not, cond, List, [], ◌∷◌, filter, Some, None}
use Rattle.std.{specs.Ordering.eq_by_cmp, specs.FinMap.Entries.put, specs.FinMap.Entries.find, specs.FinMap.Entries.find-put, specs.FinMap.Entries.find-where_key}
use Rattle.pk_base.{specs.Key.Key, specs.Key.key_cmp, specs.Shape.Shape, specs.Page.Flash, specs.Page.page_at, specs.Entry.Place}
use Rattle.pk_segfmt.proofs.StoredLemmas.{charge_some}
use Rattle.pk_model.{specs.Laws.IsPageOf, proofs.MapLemmas.key_total, proofs.MapLemmas.key_antisymm}
use Rattle.pk_law_steps.specs.Under.{IsValuePage}
use Rattle.pk_pool.proofs.Fitting.{block_of}
use Rattle.pk_law_moves.proofs.Moved.{page_put}
use Rattle.pk_gc.{specs.declared.course.Course.Course, specs.declared.moves.Move.Move, specs.State.source, specs.Running.IsMove, specs.Running.IsRunning, proofs.Copying.map_all}
use Rattle.pk_gc.specs.Keeping.{RunsElsewhere, RunsStored, RunsDeleted}

pub runs_elsewhere : RunsElsewhere
runs_elsewhere shape c moves page old new es runs same = record {
  is_shape = runs.is_shape;
  other = runs.other;
  behind_roots = runs.behind_roots;
  victim_exists = runs.victim_exists;
  output_exists = runs.output_exists;
  within = runs.within;
  room = runs.room;
  even = runs.even;
  free = runs.free;
  written = λ k low high e. runs.written k low high (sym (in_output k low (omega (arith, high, runs.room))) ∙ e);
  unwritten = λ k low high. in_output k (omega (arith, low)) high ∙ runs.unwritten k low high;
  wholes = λ k low high. let was = runs.wholes k low high in (was.0, in_victim k (omega (arith, low)) (omega (arith, high, runs.within)) ∙ was.1);
  held_is = λ h. let held = runs.held_is h in (held.0, in_victim (source shape c) (omega arith) (omega (arith, held.0, runs.within)) ∙ held.1);
  few = runs.few;
  moves_are = map_all move_on moves runs.moves_are;
  apart = runs.apart;
  order = runs.order;
  covers = runs.covers;
}
  where
    n : ℕ
    n = shape.block_pages

    in_output : (k : ℕ) → c.output * shape.block_pages ≤ k → k < c.output * shape.block_pages + shape.block_pages → page_at new k ≡ page_at old k
    in_output k low high = same k (inr (block_of shape.block_pages k c.output low high))

    in_victim : (k : ℕ) → c.victim * shape.block_pages ≤ k → k < c.victim * shape.block_pages + shape.block_pages → page_at new k ≡ page_at old k
    in_victim k low high = same k (inl (block_of shape.block_pages k c.victim low high))

    move_on : (m : Move) → IsMove shape c old es m → IsMove shape c new es m
    move_on m move = record {
      is_key = move.is_key;
      is_place = move.is_place;
      count_is = move.count_is;
      in_victim = move.in_victim;
      seen = move.seen;
      in_output = move.in_output;
      begun = move.begun;
      ends = move.ends;
      next = move.next;
      copied = λ i small low.
          let from = move.in_victim in
          let to = move.in_output in
          in_output (m.to + i) (omega (arith, to)) (omega (arith, low, runs.room)) ∙ move.copied i small low
          ∙ sym (in_victim (m.from + i) (omega (arith, from)) (omega (arith, move.seen, small, runs.within)));
      owner = move.owner;
    }

-- with other values, of which those in the victim existed, and none is in the output
with_values : (shape : Shape) (c : Course) (moves : List Move) (page : List ℕ) (flash : Flash) (es es' : List (Key × Place)) → IsRunning shape c moves page flash es
    → ((k : ℕ) → k / shape.block_pages ≡ c.output → IsValuePage shape es' k → ⊥)
    → ((q : Key) (p : Place) → find key_cmp q es' ≡ Some p → p.page / shape.block_pages ≡ c.victim → find key_cmp q es ≡ Some p)
    → IsRunning shape c moves page flash es'
with_values shape c moves page flash es es' runs free was = record {
  is_shape = runs.is_shape;
  other = runs.other;
  behind_roots = runs.behind_roots;
  victim_exists = runs.victim_exists;
  output_exists = runs.output_exists;
  within = runs.within;
  room = runs.room;
  even = runs.even;
  free = free;
  written = runs.written;
  unwritten = runs.unwritten;
  wholes = runs.wholes;
  held_is = runs.held_is;
  few = runs.few;
  moves_are = map_all move_on moves runs.moves_are;
  apart = runs.apart;
  order = runs.order;
  covers = λ q p found inside small. runs.covers q p (was q p found inside) inside small;
}
  where
    move_on : (m : Move) → IsMove shape c flash es m → IsMove shape c flash es' m
    move_on m move = record {
      is_key = move.is_key;
      is_place = move.is_place;
      count_is = move.count_is;
      in_victim = move.in_victim;
      seen = move.seen;
      in_output = move.in_output;
      begun = move.begun;
      ends = move.ends;
      next = move.next;
      copied = move.copied;
      owner = λ q p found is.
          let low = move.in_victim in
          let some = charge_some shape runs.is_shape m.len in
          let inside : p.page / shape.block_pages ≡ c.victim = block_of shape.block_pages p.page c.victim (omega (arith, low, is)) (omega (arith, is, some, move.count_is, move.seen, runs.within)) in
          move.owner q p (was q p found inside) is;
    }

pub runs_stored : RunsStored
runs_stored shape c moves page flash es key place runs apart =
    with_values shape c moves page flash es (put key_cmp key place es) runs
    (λ k inside is. elim (page_put shape key place es k is) [ inl new ↦ apart k new (inr inside) | inr old ↦ runs.free k inside old ])
    (λ q p found inside.
    elim (eq_by_cmp key_cmp q key) as (λ b. cond b (Some place) (find key_cmp q es) ≡ Some p → find key_cmp q es ≡ Some p) [
      | true ↦ λ f. let same : place ≡ p = cc in absurd (apart p.page (first p same) (inl inside))
      | false ↦ λ f. f
    ] (sym (find-put key_cmp key_total q key place es) ∙ found))
  where
    first : (p : Place) → place ≡ p → IsPageOf shape p.page place
    first p same = subst (λ (x : Place). IsPageOf shape x.page place) same (omega arith, omega (arith, charge_some shape runs.is_shape place.len))

pub runs_deleted : RunsDeleted
runs_deleted shape c moves page flash es key runs =
    with_values shape c moves page flash es (filter (λ e. not (eq_by_cmp key_cmp key e.0)) es) runs
    (λ k inside is. runs.free k inside (page_without es k is))
    (λ q p found inside.
    let all = find-where_key key_cmp (λ x. not (eq_by_cmp key_cmp key x)) q (λ x e. ap (λ y. not (eq_by_cmp key_cmp key y)) (sym (key_antisymm q x e))) es in
    elim (not (eq_by_cmp key_cmp key q)) as (λ b. cond b (find key_cmp q es) None ≡ Some p → find key_cmp q es ≡ Some p) [ true ↦ λ f. f | false ↦ λ f. cc ] (sym all ∙ found))
  where
    page_without : (xs : List (Key × Place)) (k : ℕ) → IsValuePage shape (filter (λ e. not (eq_by_cmp key_cmp key e.0)) xs) k → IsValuePage shape xs k
    page_without [] k is = is
    page_without (e ∷ xs) k is =
        elim (eq_by_cmp key_cmp key e.0) as (λ b. IsValuePage shape (cond (not b) (e ∷ filter (λ x. not (eq_by_cmp key_cmp key x.0)) xs) (filter (λ x. not (eq_by_cmp key_cmp key x.0)) xs)) k
        → IsValuePage shape (e ∷ xs) k) [
          | true ↦ λ i. inr (page_without xs k i)
          | false ↦ λ i. elim i [ inl here ↦ inl here | inr there ↦ inr (page_without xs k there) ]
        ] is
