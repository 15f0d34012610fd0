-- A reclaim that runs, after a read and after a program.
use Rattle.std.proofs.Common.{◌≡◌, ◌≢◌, ◌⊎◌, inl, inr, ℕ, ◌+◌, ◌-◌, ◌*◌, ◌/◌, ◌%◌, ◌<◌, ◌≤◌, refl, sym, ap, subst, ◌∙◌, arith, true, List, [], ◌∷◌, ◌++◌, length, length-append}
use Rattle.std.{specs.Prelude.slice_set, specs.List.AllByRecursion, proofs.lemmas.Bool.cases_lt, proofs.lemmas.Bool.cases_eq, proofs.Math.Nat.mul_comm}
use Rattle.std.proofs.lemmas.Nat.{div-add-mod', div-mul-add}
use Rattle.pk_base.{specs.Key.Key, specs.Shape.Shape, specs.Shape.IsShape, specs.Shape.charge, specs.Entry.Place, specs.EntryChecks.IsPlace, proofs.BlockLemmas.apart}
use Rattle.pk_base.specs.Page.{Page, Flash, IsFlash, page_at, erased, whole}
use Rattle.pk_base.proofs.ShapeLemmas.{block_pages_positive, charge_even}
use Rattle.pk_nand.{proofs.Leaving.page_at-slice_set, proofs.Leaving.page_at-slice_set_same, specs.Operations.InOrder}
use Rattle.pk_pool.proofs.Fitting.{in_block, even_start}
use Rattle.pk_gc.{specs.declared.course.Course.Course, specs.declared.moves.Move.Move}
use Rattle.pk_gc.specs.State.{placed_at, new_place, source, target, read_next, programmed, begun_at, started}
use Rattle.pk_gc.specs.Running.{AreInOrder, IsMove, IsRunning, IsNextValue, begun_move}
use Rattle.pk_segfmt.proofs.StoredLemmas.{charge_some}
use Rattle.pk_model.specs.Laws.{AnyByRecursion}
use Rattle.pk_law_steps.specs.Under.{IsValuePage}
use Rattle.pk_law_moves.specs.Moves.{AreApart}

-- pages of two blocks differ
pub disjoint : (n v o k p : ℕ) → v ≢ o → v * n ≤ k → k < v * n + n → o * n ≤ p → p < o * n + n → k ≡ p → ⊥
disjoint n v o k p other low high low' high' same = elim (cases_lt v o) [
  | inl below ↦ let end = apart v o n below in omega (arith, end, high, low', same)
  | inr above ↦ let more : o < v = omega (arith, above, other) in let end = apart o v n more in omega (arith, end, high', low, same)
]

pub map_all : {X : Type 0} {P Q : X → Type 0} → ((x : X) → P x → Q x) → (xs : List X) → AllByRecursion P xs → AllByRecursion Q xs
map_all f [] all = tt
map_all f (x ∷ xs) all = (f x all.0, map_all f xs all.1)

erased_whole : (p : Page) (bytes : List ℕ) → p ≡ whole bytes → p ≡ erased → ⊥
erased_whole p bytes is e = cc

module _ (shape : Shape) (c : Course) (moves : List Move) (page : List ℕ) (flash : Flash) (es : List (Key × Place)) (runs : IsRunning shape c moves page flash es) where
  pub read_runs : (bytes : List ℕ) → 0 < c.left → page_at flash (source shape c) ≡ whole bytes → IsRunning shape (read_next c) moves bytes flash es
  read_runs bytes some is = record {
    is_shape = runs.is_shape;
    other = runs.other;
    behind_roots = runs.behind_roots;
    victim_exists = runs.victim_exists;
    output_exists = runs.output_exists;
    within = runs.within;
    room = runs.room;
    even = runs.even;
    free = runs.free;
    written = runs.written;
    unwritten = runs.unwritten;
    wholes = runs.wholes;
    held_is = λ h. (some, is);
    few = runs.few;
    moves_are = map_all (λ m move. record {
      is_key = move.is_key;
      is_place = move.is_place;
      count_is = move.count_is;
      in_victim = move.in_victim;
      seen = move.seen;
      in_output = move.in_output;
      begun = move.begun;
      ends = move.ends;
      next = move.next;
      copied = move.copied;
      owner = move.owner;
    }) moves runs.moves_are;
    apart = runs.apart;
    order = runs.order;
    covers = runs.covers;
  }

  module _ (held : c.held ≡ true) (exists : target shape c < length flash) where
    abbrev n : ℕ
    n = shape.block_pages

    abbrev p : ℕ
    p = target shape c

    abbrev new : Flash
    new = slice_set flash p (whole page)

    some : 0 < c.left
    some = (runs.held_is held).0

    here : page_at new p ≡ whole page
    here = page_at-slice_set_same flash p (whole page) exists

    others : (k : ℕ) → (k ≡ p → ⊥) → page_at new k ≡ page_at flash k
    others k other = page_at-slice_set flash p k (whole page) other

    in_output : (p < c.output * n + n)
    in_output = let room = runs.room in omega (arith, room, some)

    -- the victim is unchanged
    victim_stays : (k : ℕ) → c.victim * n ≤ k → k < c.victim * n + n → page_at new k ≡ page_at flash k
    victim_stays k low high = others k (disjoint n c.victim c.output k p runs.other low high (omega arith) in_output)

    move_on : (m : Move) → IsMove shape c flash es m → IsMove shape (programmed c) new es m
    move_on m move = record {
      is_key = move.is_key;
      is_place = move.is_place;
      count_is = move.count_is;
      in_victim = move.in_victim;
      seen = omega (arith, move.seen, some);
      in_output = move.in_output;
      begun = omega (arith, move.begun);
      ends = omega (arith, move.ends, some);
      next = λ i small is.
          let begun = move.begun in
          let before : m.from + (i - 1) ≡ source shape c = move.next (i - 1) (omega (arith, small)) (omega (arith, is, begun)) in
          omega (arith, before, is, begun);
      copied = λ i small low.
          let from_stays : page_at new (m.from + i) ≡ page_at flash (m.from + i) = victim_stays (m.from + i) (omega (arith, move.in_victim)) (omega (arith, move.seen, small, runs.within)) in
          elim (cases_eq (m.to + i) p) [
            | inl is ↦ ap (λ k. page_at new k) is ∙ here ∙ sym (runs.held_is held).1 ∙ ap (λ k. page_at flash k) (sym (move.next i small is)) ∙ sym from_stays
            | inr other ↦ others (m.to + i) other ∙ move.copied i small (omega (arith, low, other)) ∙ sym from_stays
          ];
      owner = move.owner;
    }

    pub program_runs : IsRunning shape (programmed c) moves page new es
    program_runs = record {
      is_shape = runs.is_shape;
      other = runs.other;
      behind_roots = runs.behind_roots;
      victim_exists = runs.victim_exists;
      output_exists = runs.output_exists;
      within = omega (arith, runs.within, some);
      room = omega (arith, runs.room, some);
      even = omega (arith, runs.even, some);
      free = runs.free;
      written = λ k low high. elim (cases_eq k p) [
        | inl is ↦ erased_whole (page_at new k) page (ap (λ x. page_at new x) is ∙ here)
        | inr other ↦ λ e. runs.written k low (omega (arith, high, other)) (sym (others k other) ∙ e)
      ];
      unwritten = λ k low high. others k (λ is. omega (arith, low, is)) ∙ runs.unwritten k (omega (arith, low)) high;
      wholes = λ k low high. let was = runs.wholes k (omega (arith, low)) (omega (arith, high, some)) in (was.0, victim_stays k (omega (arith, low)) (omega (arith, high, some, runs.within)) ∙ was.1);
      held_is = λ h. cc;
      few = omega (arith, runs.few, some);
      moves_are = map_all move_on moves runs.moves_are;
      apart = runs.apart;
      order = runs.order;
      covers = λ key place found inside small. runs.covers key place found inside (omega (arith, small, some));
    }

-- the page to which the next one goes is the next of its block
pub in_order : (shape : Shape) (c : Course) (moves : List Move) (page : List ℕ) (flash : Flash) (es : List (Key × Place))
    → IsRunning shape c moves page flash es → c.held ≡ true → InOrder shape flash (target shape c)
in_order shape c moves page flash es runs held =
    let n : ℕ = shape.block_pages in
    let some = (runs.held_is held).0 in
    let less : c.used < n = omega (arith, runs.room, some) in
    let whole : target shape c / n * n + target shape c % n ≡ target shape c = div-add-mod' (target shape c) n in
    let block : target shape c / n ≡ c.output = div-mul-add c.output n c.used less in
    let rest : c.output * n + target shape c % n ≡ c.output * n + c.used = subst (λ x. x * n + target shape c % n ≡ target shape c) block whole in
    record {
      before = λ k low high. runs.written k (omega (arith, low, rest)) high;
      behind = λ k low high. runs.unwritten k low (omega (arith, high, rest));
    }

-- and exists
pub target_exists : (shape : Shape) (c : Course) (moves : List Move) (page : List ℕ) (flash : Flash) (es : List (Key × Place))
    → IsRunning shape c moves page flash es → c.held ≡ true → IsFlash shape flash → target shape c < length flash
target_exists shape c moves page flash es runs held is_flash =
    let n : ℕ = shape.block_pages in
    let some = (runs.held_is held).0 in
    let end : c.output * n + n ≤ shape.blocks * n = apart c.output shape.blocks n runs.output_exists in
    let size = is_flash.size in
    omega (arith, end, size, runs.room, some, mul_comm n shape.blocks)

-- ---- the next value

any_front : {X : Type 0} (P : X → Type 0) (xs : List X) (y : X) → AnyByRecursion P xs → AnyByRecursion P (xs ++ y ∷ [])
any_front P [] y is = absurd is
any_front P (x ∷ xs) y (inl first) = inl first
any_front P (x ∷ xs) y (inr there) = inr (any_front P xs y there)

any_last : {X : Type 0} (P : X → Type 0) (xs : List X) (y : X) → P y → AnyByRecursion P (xs ++ y ∷ [])
any_last P [] y is = inl is
any_last P (x ∷ xs) y is = inr (any_last P xs y is)

all_push : {X : Type 0} (P : X → Type 0) (xs : List X) (y : X) → AllByRecursion P xs → P y → AllByRecursion P (xs ++ y ∷ [])
all_push P [] y all is = (is, tt)
all_push P (x ∷ xs) y all is = (all.0, all_push P xs y all.1 is)

module _ (shape : Shape) (c : Course) (flash : Flash) (es : List (Key × Place)) (page : ℕ) (key : Key) (place : Place) (next : IsNextValue shape c flash es page key place) (done : c.left ≡ 0) where
  abbrev count : ℕ
  count = charge shape place.len

  abbrev c' : Course
  c' = begun_at c (page - c.victim * shape.block_pages) count

  abbrev m : Move
  m = begun_move shape c page key place.len

  source_is : source shape c' ≡ page
  source_is = let behind = next.behind in omega (arith, behind)

  page_pushed : (moves : List Move) (k : ℕ) → IsValuePage shape (placed_at (moves ++ m ∷ [])) k → IsValuePage shape (placed_at moves) k ⊎ (target shape c ≤ k)
  page_pushed [] k (inl here) = inr here.0
  page_pushed [] k (inr none) = absurd none
  page_pushed (x ∷ moves) k (inl here) = inl (inl here)
  page_pushed (x ∷ moves) k (inr there) = elim (page_pushed moves k there) [ inl front ↦ inl (inr front) | inr last ↦ inr last ]

  apart_pushed : (moves : List Move) → AllByRecursion (IsMove shape c flash es) moves → AreApart shape (placed_at moves) → AreApart shape (placed_at (moves ++ m ∷ []))
  apart_pushed [] moves_are are = (λ k here there. there, tt)
  apart_pushed (x ∷ moves) moves_are are = (
    λ k here there. elim (page_pushed moves k there) [
      | inl front ↦ are.0 k here front
      | inr last ↦ let ends = moves_are.0.ends in let size = moves_are.0.count_is in omega (arith, ends, size, here.1, last, done)
    ],
    apart_pushed moves moves_are.1 are.1,
  )

  order_pushed : (moves : List Move) → AllByRecursion (IsMove shape c flash es) moves → AreInOrder moves → AreInOrder (moves ++ m ∷ [])
  order_pushed [] moves_are are = (tt, tt)
  order_pushed (x ∷ moves) moves_are are =
      let seen = moves_are.0.seen in
      let behind = next.behind in
      (all_push (λ (y : Move). x.from + x.count ≤ y.from) moves m are.0 (omega (arith, seen, behind, done)), order_pushed moves moves_are.1 are.1)

  place_is : (moves : List Move) (held : List ℕ) → IsRunning shape c moves held flash es → IsPlace shape (new_place m)
  place_is moves held runs =
      let n : ℕ = shape.block_pages in
      let some = charge_some shape runs.is_shape place.len in
      let room = next.room in
      let block : target shape c / n ≡ c.output = div-mul-add c.output n c.used (omega (arith, room, some)) in
      let whole = div-add-mod' (target shape c) n in
      let rest : c.output * n + target shape c % n ≡ c.output * n + c.used = subst (λ x. x * n + target shape c % n ≡ target shape c) block whole in
      let end : c.output * n + n ≤ shape.blocks * n = apart c.output shape.blocks n runs.output_exists in
      let low = runs.behind_roots in
      record {
        exists = omega (arith, end, room, some, mul_comm n shape.blocks);
        past_roots = omega (arith, block, low);
        even = let start = even_start c.output n runs.is_shape.eights in let written = runs.even in omega (arith, start, written, done);
        short = next.head.is_head.short;
        inside = omega (arith, rest, room);
      }

  pub begin_runs : (moves : List Move) (held : List ℕ) (bytes : List ℕ) → IsRunning shape c moves held flash es → page_at flash page ≡ whole bytes → IsRunning shape c' (moves ++ m ∷ []) bytes flash es
  begin_runs moves held bytes runs here =
      let some = charge_some shape runs.is_shape place.len in
      let behind = next.behind in
      let inside = next.inside in
      record {
        is_shape = runs.is_shape;
        other = runs.other;
        behind_roots = runs.behind_roots;
        victim_exists = runs.victim_exists;
        output_exists = runs.output_exists;
        within = omega (arith, behind, inside);
        room = next.room;
        even = omega (arith, runs.even, done, charge_even shape place.len);
        free = runs.free;
        written = runs.written;
        unwritten = runs.unwritten;
        wholes = λ k low high. next.wholes k (omega (arith, low, source_is)) (omega (arith, high, source_is));
        held_is = λ h. (some, ap (λ x. page_at flash x) source_is ∙ here);
        few = let size = length-append moves (m ∷ []) in omega (arith, size, runs.few, some, done);
        moves_are = all_push (IsMove shape c' flash es) moves m (map_all move_on moves runs.moves_are) (record {
          is_key = next.head.is_head.is_key;
          is_place = place_is moves held runs;
          count_is = refl;
          in_victim = omega (arith, behind);
          seen = omega (arith, source_is);
          in_output = omega arith;
          begun = omega arith;
          ends = omega arith;
          next = λ i small is. omega (arith, is, source_is);
          copied = λ i small low. absurd (omega (arith, low));
          owner = λ q p found is. next.alone q p found is;
        });
        apart = apart_pushed moves runs.moves_are runs.apart;
        order = order_pushed moves runs.moves_are runs.order;
        covers = λ q p found within_victim small. elim (cases_lt p.page (source shape c)) [
          | inl seen ↦ any_front (λ x. (q ≡ x.key) × (x.from ≡ p.page)) moves m (runs.covers q p found within_victim (omega (arith, seen)))
          | inr rest ↦ let is : p.page ≡ page = next.first q p found rest (omega (arith, small, source_is)) in any_last
              (λ x. (q ≡ x.key) × (x.from ≡ p.page)) moves m ((next.alone q p found is).0, sym is)
        ];
      }
    where
      move_on : (x : Move) → IsMove shape c flash es x → IsMove shape c' flash es x
      move_on x move = record {
        is_key = move.is_key;
        is_place = move.is_place;
        count_is = move.count_is;
        in_victim = move.in_victim;
        seen = let seen = move.seen in let low = next.behind in omega (arith, seen, low, source_is, done);
        in_output = move.in_output;
        begun = move.begun;
        ends = let ends = move.ends in omega (arith, ends, done);
        next = λ i small is. let ends = move.ends in absurd (omega (arith, ends, small, is, done));
        copied = move.copied;
        owner = move.owner;
      }

-- ---- the start

-- A block of values is the victim, and an Erased one the output, which has no value.
pub start_runs : (shape : Shape) (victim output : ℕ) (page : List ℕ) (flash : Flash) (es : List (Key × Place))
    → IsShape shape → victim ≢ output → 2 ≤ output → victim < shape.blocks → output < shape.blocks
    → ((k : ℕ) → output * shape.block_pages ≤ k → k < output * shape.block_pages + shape.block_pages → page_at flash k ≡ erased)
    → ((k : ℕ) → k / shape.block_pages ≡ output → IsValuePage shape es k → ⊥) → IsRunning shape (started victim output) [] page flash es
start_runs shape victim output page flash es is_shape other behind victim_exists output_exists are_erased free = record {
  is_shape = is_shape;
  other = other;
  behind_roots = behind;
  victim_exists = victim_exists;
  output_exists = output_exists;
  within = omega arith;
  room = omega arith;
  even = refl;
  free = free;
  written = λ k low high e. omega (arith, low, high);
  unwritten = λ k low high. are_erased k (omega (arith, low)) high;
  wholes = λ k low high. absurd (omega (arith, low, high));
  held_is = λ h. cc;
  few = omega arith;
  moves_are = tt;
  apart = tt;
  order = tt;
  covers = λ key place found inside small. let low = (in_block shape.block_pages place.page victim (block_pages_positive shape is_shape) inside).0 in absurd (omega (arith, low, small));
}
