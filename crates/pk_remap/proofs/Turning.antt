-- The pair for the next table: which pages it has, and that it can be programmed.
use Rattle.std.proofs.Common.{◌≡◌, ◌≢◌, ℕ, suc, ◌+◌, ◌-◌, ◌*◌, ◌/◌, ◌%◌, ◌<◌, ◌≤◌, Bool, true, false, List, length, sym, ap, subst, ◌∙◌, refl, arith}
use Rattle.std.{specs.Prelude.nat_lt, specs.Prelude.slice_set, proofs.lemmas.Bool.Decides.nat_tests, proofs.lemmas.Nat.div-add-mod'}
use Rattle.pk_base.{specs.Shape.Shape, specs.Page.Flash, specs.Page.page_at, specs.Page.erased, specs.Page.whole}
use Rattle.pk_nand.{specs.Operations.InOrder, proofs.Writing.mod-next, proofs.Writing.mod-add, proofs.Writing.InOrder-next}
use Rattle.pk_remap.{specs.Places.inner_shape, specs.Newest.IsTablePage, specs.Relocating.Relocation, specs.Relocating.IsTop, specs.Relocating.IsNextPair, specs.Relocating.IsTablePair}
use Rattle.pk_remap.{specs.Stepping.IsTableBlock, proofs.Placing.mod-of, proofs.Finding.newest-beside, proofs.Lifting.less_times, proofs.Lifting.times_le, proofs.Lifting.two_more}
use Rattle.pk_remap.proofs.Standing.{table_block}

module _ (shape : Shape) (spares top : ℕ) (some : 0 < shape.block_pages) where
  abbrev n : ℕ
  n = shape.block_pages

  abbrev tables : ℕ
  tables = shape.blocks + spares

  -- the block of a table page is a table block
  pub block_of_table : (k : ℕ) → IsTablePage shape spares k → IsTableBlock shape spares (k / n)
  block_of_table k there =
      let whole_k : k / n * n + k % n ≡ k = div-add-mod' k n in
      let less : (k / n) * n < (tables + 2) * n = omega (arith, whole_k, there.to, two_more tables n) in
      record { from = table_block shape spares some k there; to = less_times (tables + 2) (k / n) n less }

  -- all pages of its block are table pages
  pub row_tables : (at k : ℕ) → IsTablePage shape spares at → at - at % n ≤ k → k < at - at % n + n → IsTablePage shape spares k
  row_tables at k there from to =
      let own = block_of_table at there in
      let whole_at : at / n * n + at % n ≡ at = div-add-mod' at n in
      let low : tables * n ≤ at / n * n = times_le tables (at / n) n own.from in
      let high : suc (at / n) * n ≤ (tables + 2) * n = times_le (suc (at / n)) (tables + 2) n own.to in
      record { from = omega (arith, low, whole_at, from); to = omega (arith, high, whole_at, to, two_more tables n) }

  -- the pair can be programmed still if no page of the table blocks differs
  pub next_kept : (old new : Flash) (pair : ℕ) → ((k : ℕ) → IsTablePage shape spares k → page_at new k ≡ page_at old k)
      → IsNextPair shape spares top old pair → IsNextPair shape spares top new pair
  next_kept old new pair same is = record {
    is_table = is.is_table;
    even = is.even;
    room = is.room;
    not_first = is.not_first;
    not_second = is.not_second;
    order = record {
      before = λ k from to e. is.order.before k from to
          (sym (same k (row_tables pair k is.is_table from (let room = is.room in omega (arith, to, room)))) ∙ e);
      behind = λ k from to. same k (row_tables pair k is.is_table (omega (arith, from)) to) ∙ is.order.behind k from to;
    };
  }

  pub erased_pair : (flash : Flash) (pair : ℕ) → IsNextPair shape spares top flash pair → (page_at flash pair ≡ erased) × (page_at flash (suc pair) ≡ erased)
  erased_pair flash pair is =
      let room = is.room in
      let some' = some in
      (is.order.behind pair (omega arith) (omega (arith, some', room)), is.order.behind (suc pair) (omega arith) (omega (arith, room)))

  -- after its first page was programmed the second one is in order
  pub second_order : (flash : Flash) (pair : ℕ) (bytes : List ℕ) → pair < length flash → IsNextPair shape spares top flash pair
      → InOrder (inner_shape shape spares) (slice_set flash pair (whole bytes)) (suc pair)
  second_order flash pair bytes inside is =
      let next : pair + 1 ≡ suc pair = omega arith in
      subst (InOrder (inner_shape shape spares) (slice_set flash pair (whole bytes))) next
      (InOrder-next (inner_shape shape spares) flash pair bytes inside is.room is.order)

  -- after its second page was programmed the next pair is in order, unless the block is full
  pub following_pair : (flash : Flash) (bytes : List ℕ) → n % 8 ≡ 0 → IsTablePage shape spares top → top % n % 2 ≡ 0 → top % n + 1 < n
      → suc top < length flash → InOrder (inner_shape shape spares) flash (suc top) → (top + 2) % n ≢ 0
      → IsNextPair shape spares top (slice_set flash (suc top) (whole bytes)) (top + 2)
  following_pair flash bytes eights there even room inside order other =
      let rest : (top + 2) % n ≡ top % n + 2 = mod-add top 2 n fits in
      let second : (top + 1) % n ≡ top % n + 1 = mod-next top n room in
      let one : top + 1 ≡ suc top = omega arith in
      let second' : suc top % n ≡ top % n + 1 = ap (λ (x : ℕ). x % n) (sym one) ∙ second in
      let two : suc top + 1 ≡ top + 2 = omega arith in
      let pairs : top % n ≡ 2 * (top % n / 2) = omega (arith, even) in
      let halves : n ≡ 2 * (n / 2) = omega (arith, eights) in
      record {
        is_table = row_tables top (top + 2) there (omega arith) (omega (arith, fits, div-add-mod' top n));
        even = ap (λ (x : ℕ). x % 2) rest ∙ omega (arith, even);
        room = omega (arith, rest, fits, pairs, halves);
        not_first = λ e. omega (arith, e);
        not_second = λ e. omega (arith, e);
        order = subst (InOrder (inner_shape shape spares) (slice_set flash (suc top) (whole bytes))) two
            (InOrder-next (inner_shape shape spares) flash (suc top) bytes inside (omega (arith, second', fits)) order);
      }
    where
      full : top % n + 2 ≡ n → ⊥
      full e =
          let whole_top : top / n * n + top % n ≡ top = div-add-mod' top n in
          let past : suc (top / n) * n + 0 ≡ top + 2 = omega (arith, whole_top, e) in
          other (ap (λ (x : ℕ). x % n) (sym past) ∙ mod-of (suc (top / n)) n 0 some)

      fits : top % n + 2 < n
      fits = by (nat_lt (top % n + 2) n) refl
        where
          by : (t : Bool) → nat_lt (top % n + 2) n ≡ t → top % n + 2 < n
          by true t = grind (arith, nat_tests)
          by false t = let past : n ≤ top % n + 2 = grind (arith, nat_tests) in absurd (full (omega (arith, past, room)))

-- the newest table is the newest one of the other pages
pub next_pair : (r : Relocation) (some : 0 < r.shape.block_pages) (flash : Flash) (pair : ℕ)
    → IsTop r flash → IsNextPair r.shape r.spares r.top flash pair → IsTablePair r flash pair
next_pair r some flash pair top is = record {
  beside = newest-beside r.shape r.spares (page_at flash) (page_at flash) r.top r.table pair top is.not_first is.not_second;
  first = is.is_table;
  second = row_tables r.shape r.spares r.top some pair (suc pair) is.is_table (omega arith) (let room = is.room in omega (arith, room));
  even = is.even;
}
