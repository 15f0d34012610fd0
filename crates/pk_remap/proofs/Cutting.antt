-- Wherever a step of a relocation is cut, the outer flash is what the call that it serves may leave.
use Rattle.std.proofs.Common.{◌≡◌, ◌≢◌, ◌⊎◌, inl, inr, ℕ, zero, suc, ◌+◌, ◌-◌, ◌*◌, ◌/◌, ◌%◌, ◌<◌, ◌≤◌, Bool, true, false, List, [], ◌∷◌, ◌++◌, length, refl, sym, ap, subst, ◌∙◌, arith, Some}
use Rattle.std.proofs.Common.{length-append}
use Rattle.std.{specs.Prelude.nat_lt, specs.Prelude.nat_le, specs.Prelude.◌||◌, specs.Prelude.◌&&◌, specs.Prelude.replicate, specs.List.list_all, proofs.Math.Nat.mod-lt}
use Rattle.std.{proofs.lemmas.Bool.Decides.nat_tests, proofs.lemmas.List.length-replicate, proofs.lemmas.Nat.div-add-mod', proofs.lemmas.Option.same_Some}
use Rattle.pk_base.{specs.Shape.Shape, specs.Shape.page_count, specs.Page.Flash, specs.Page.page_at, proofs.Logic.both_true}
use Rattle.pk_base.specs.Mark.{Mark, program, erase, post, after}
use Rattle.pk_nand.{specs.Cut.Interrupted, specs.Cut.touched_block, proofs.Leaving.length-after, proofs.Leaving.interrupted_done}
use Rattle.pk_nand.proofs.Touching.{elsewhere, untouched_after, touches_one_block}
use Rattle.pk_remap.{specs.declared.layout.TheConstants.FAILED, specs.Table.SpareTable, specs.Table.table_bytes, specs.Table.table_page, specs.Table.is_table, specs.Table.is_served}
use Rattle.pk_remap.{specs.Places.inner_shape, specs.Places.place, specs.Places.placed_page, specs.Places.through_by, specs.Through.MayShow, specs.Through.IsMarkWithin, proofs.Lifting.times_le}
use Rattle.pk_remap.{specs.Newest.first_table_page, specs.Newest.IsTablePage, specs.Newest.IsNewest, specs.Newest.IsNewestBeside, proofs.Finding.by_equal, proofs.Finding.beside-kept}
use Rattle.pk_remap.{proofs.Finding.pair-newest, proofs.TableLemmas.table_parts, proofs.TableLemmas.parts_table, proofs.TableLemmas.page_again}
use Rattle.pk_remap.specs.Relocating.{Relocation, block_of, block, spare_block, spare_page, next_table, IsSpareFull, IsRelocating, IsTop, SameTables, IsTablePair}
use Rattle.pk_remap.proofs.Placing.{block_of as page_block, is_through, page-through, more_here, more_other}
use Rattle.pk_remap.proofs.Standing.{may_show, apart_through, table_page_kept, spare-newest, spare-through, turn-newest, turn-through, table_block, NoneOr, pair-none_or, pair-others}

all_append : (shape : Shape) (front bs : List ℕ) → list_all (is_served shape) front ≡ true
    → list_all (is_served shape) bs ≡ true → list_all (is_served shape) (front ++ bs) ≡ true
all_append shape [] bs p q = q
all_append shape (a ∷ front) bs p q = let tests = both_true (is_served shape a)
    (list_all (is_served shape) front) p in rw tests.0 (all_append shape front bs tests.1 q)

failed_served : (shape : Shape) (n : ℕ) → list_all (is_served shape) (replicate n FAILED) ≡ true
failed_served shape zero = refl
failed_served shape (suc n) = or_true (nat_lt FAILED shape.blocks) (list_all (is_served shape) (replicate n FAILED)) (failed_served shape n)
  where
    or_true : (a b : Bool) → b ≡ true → ((a || true) && b) ≡ true
    or_true true b e = e
    or_true false b e = e

-- the newest table uses at most one spare more than those that are taken
abbrev pub OneOfTables : Relocation → Flash → Type 0
OneOfTables r flash = (page : ℕ) × (table : SpareTable) × IsNewest r.shape r.spares (page_at flash) page table × (length table.serves ≤ r.taken + 1)

module _ (r : Relocation) (before flash : Flash) (serving : IsRelocating r before flash) where
  abbrev shape : Shape
  shape = r.shape

  abbrev n : ℕ
  n = r.shape.block_pages

  pub some : 0 < n
  some = let least = serving.shape_is.block_least in omega (arith, least)

  pub block_inside : block r < shape.blocks
  block_inside = by r.mark serving.within
    where
      by : (mark : Mark) → IsMarkWithin shape mark → block_of shape mark < shape.blocks
      by (program at bytes) within = page_block shape r.table some at within
      by (erase b) within = within
      by (post bytes) within = absurd within

  touched : touched_block shape r.mark ≡ Some (block r)
  touched = by r.mark serving.within
    where
      by : (mark : Mark) → IsMarkWithin shape mark → touched_block shape mark ≡ Some (block_of shape mark)
      by (program at bytes) within = refl
      by (erase b) within = refl
      by (post bytes) within = absurd within

  -- a page of another block is as before the call
  pub other_before : (above : Flash) (k : ℕ) → Interrupted shape r.mark before above [] → k / n ≢ block r → page_at above k ≡ page_at before k
  other_before above k i other = elsewhere shape r.mark k (block r) (page_at before k) (page_at above k) touched other (i.pages k)

  pub other_after : (k : ℕ) → k / n ≢ block r → page_at (after shape r.mark before) k ≡ page_at before k
  other_after k other = untouched_after shape r.mark before k (λ t. other (same_Some (k / n) (block r) (sym (touches_one_block shape r.mark k t) ∙ touched)))

  -- ---- in the spare

  pub spare_after_used : shape.blocks + length r.table.serves ≤ spare_block r
  spare_after_used = let used = serving.used in omega (arith, used)

  pub spare_before_tables : spare_block r < shape.blocks + r.spares
  spare_before_tables = let left = serving.left in omega (arith, left)

  module _ (mark : Mark) (cut : Flash) (out : List ℕ) (in_spare : touched_block (inner_shape shape r.spares) mark ≡ Some (spare_block r))
      (i : Interrupted (inner_shape shape r.spares) mark flash cut out) where
    pub spare_top : IsTop r flash → IsTop r cut
    spare_top top = spare-newest shape r.spares some r.table r.top mark (spare_block r) flash cut out spare_after_used spare_before_tables in_spare i top

    pub spare_tables : SameTables r flash cut
    spare_tables = table_page_kept shape r.spares some r.table r.top mark (spare_block r) flash cut out spare_after_used spare_before_tables in_spare i

    pub spare_above : Interrupted shape r.mark before (through_by shape r.table (page_at cut)) []
    spare_above =
        let P : Flash → Type 0 = λ g. Interrupted shape r.mark before g [] in
        subst P (sym (spare-through shape r.spares some r.table r.top mark (spare_block r) flash cut out spare_after_used spare_before_tables in_spare i))
        serving.above

    pub spare_cut : IsTop r flash → MayShow shape r.spares before r.mark cut
    spare_cut top = may_show shape r.spares before cut r.mark r.top r.table (spare_top top) spare_above

  -- nothing was done
  pub none_cut : IsTop r flash → MayShow shape r.spares before r.mark flash
  none_cut top = may_show shape r.spares before flash r.mark r.top r.table top serving.above

  -- ---- in the other table block

  module _ (other : ℕ) (cut : Flash) (out : List ℕ) (is_table_block : shape.blocks + r.spares ≤ other) (beside : r.top / n ≢ other)
      (i : Interrupted (inner_shape shape r.spares) (erase other) flash cut out) where
    used_spares : length r.table.serves ≤ r.spares
    used_spares = let used = serving.used in let left = serving.left in omega (arith, used, left)

    pub turn_top : IsTop r flash → IsTop r cut
    turn_top top = turn-newest shape r.spares some r.table r.top other flash cut out used_spares is_table_block beside i top

    pub turn_above : Interrupted shape r.mark before (through_by shape r.table (page_at cut)) []
    turn_above =
        let P : Flash → Type 0 = λ g. Interrupted shape r.mark before g [] in
        subst P (sym (turn-through shape r.spares some r.table r.top other flash cut out used_spares is_table_block beside i)) serving.above

    pub turn_cut : IsTop r flash → MayShow shape r.spares before r.mark cut
    turn_cut top = may_show shape r.spares before cut r.mark r.top r.table (turn_top top) turn_above

  -- ---- the next table

  failed : ℕ
  failed = r.taken - length r.table.serves

  next_place : shape.blocks + length r.table.serves + length (replicate (r.taken - length r.table.serves) FAILED) ≡ spare_block r
  next_place =
      let len : length (replicate (r.taken - length r.table.serves) FAILED)
      ≡ r.taken - length r.table.serves = length-replicate (r.taken - length r.table.serves) FAILED in
      let used = serving.used in
      omega (arith, len, used)

  pub next_used : length (next_table r).serves ≡ r.taken + 1
  next_used =
      let used = serving.used in
      let failed_len : length (replicate (r.taken - length r.table.serves) FAILED)
      ≡ r.taken - length r.table.serves = length-replicate (r.taken - length r.table.serves) FAILED in
      omega (
        arith,
        length-append r.table.serves (replicate (r.taken - length r.table.serves) FAILED ++ block r ∷ []),
        length-append (replicate (r.taken - length r.table.serves) FAILED) (block r ∷ []),
        failed_len,
        used,
      )

  pub next_grammar : is_table shape r.spares (next_table r) ≡ true
  next_grammar =
      let own = table_parts shape r.spares r.table serving.grammar in
      let most = own.most in
      let used = serving.used in
      let left = serving.left in
      let number : r.table.number ≤ length r.table.serves + 1 = grind (arith, nat_tests) in
      let len = next_used in
      let inside = block_inside in
      let here : nat_lt (block r) shape.blocks ≡ true = grind (arith, nat_tests) in
      parts_table shape r.spares (next_table r) (record {
        some = test_some r.table.number;
        most = test_most (r.table.number + 1) (length (next_table r).serves + 1) (omega (arith, len, number, used));
        few = test_most (length (next_table r).serves) r.spares (omega (arith, len, left));
        served = all_append shape r.table.serves _ own.served
            (all_append shape (replicate (r.taken - length r.table.serves) FAILED)
            (block r ∷ []) (failed_served shape (r.taken - length r.table.serves)) (rw here refl));
      })
    where
      test_some : (k : ℕ) → nat_le 1 (k + 1) ≡ true
      test_some k = grind (arith, nat_tests)

      test_most : (a b : ℕ) → a ≤ b → nat_le a b ≡ true
      test_most a b most = grind (arith, nat_tests)

  pub next_again : table_page shape r.spares (table_bytes shape r.spares (next_table r)) ≡ Some (next_table r)
  next_again = page_again shape serving.shape_is r.spares serving.few (next_table r) (table_parts shape r.spares (next_table r) next_grammar)

  -- by the next table the outer flash is what the call leaves once it is done
  pub exchange : (cut : Flash) → IsSpareFull r before cut → Interrupted shape r.mark before (through_by shape r.table (page_at cut)) []
      → through_by shape (next_table r) (page_at cut) ≡ after shape r.mark before
  exchange cut full above = is_through shape (next_table r) (page_at cut) (after shape r.mark before) (length-after shape r.mark before ∙ serving.whole_above.size)
      (λ k inside. by_equal (k / n) (block r) (page_at cut (placed_page shape (next_table r) k) ≡ page_at (after shape r.mark before) k) (here k inside) (there k inside))
    where
      few : shape.blocks ≤ FAILED
      few = let most = serving.shape_is.blocks_most in omega (arith, most)

      here : (k : ℕ) → k < page_count shape → k / n ≡ block r → page_at cut (placed_page shape (next_table r) k) ≡ page_at (after shape r.mark before) k
      here k inside same =
          let place_is : place shape (next_table r) (k / n) ≡ spare_block r =
          ap (place shape (next_table r)) same ∙ more_here shape r.table (r.taken - length r.table.serves) (block r) few block_inside ∙ next_place in
          ap (λ (b : ℕ). page_at cut (b * n + k % n)) place_is ∙ full (k % n) (mod-lt k {m = n} some)
          ∙ ap (λ (b : ℕ). page_at (after shape r.mark before) (b * n + k % n)) (sym same) ∙ ap (page_at (after shape r.mark before)) (div-add-mod' k n)

      there : (k : ℕ) → k < page_count shape → k / n ≢ block r → page_at cut (placed_page shape (next_table r) k) ≡ page_at (after shape r.mark before) k
      there k inside other =
          let place_is : place shape (next_table r) (k / n) ≡ place shape r.table (k / n) =
          more_other shape r.table (r.taken - length r.table.serves) (block r) few block_inside (k / n) (page_block shape r.table some k inside) other in
          ap (λ (b : ℕ). page_at cut (b * n + k % n)) place_is ∙ sym (page-through shape r.table (page_at cut) k inside)
          ∙ other_before (through_by shape r.table (page_at cut)) k above other ∙ sym (other_after k other)

  -- pages of the spare are no table pages
  pub spare_page_before : (i : ℕ) → i < n → spare_page r i < first_table_page shape r.spares
  spare_page_before i less =
      let room : suc (spare_block r) * n ≤ (shape.blocks + r.spares) * n = times_le (suc (spare_block r)) (shape.blocks + r.spares) n spare_before_tables in
      omega (arith, room, less)

  module _ (pair at : ℕ) (is_pair : IsTablePair r flash pair) (full : IsSpareFull r before flash) (is_at : (at ≡ pair) ⊎ (at ≡ suc pair))
      (first : NoneOr shape r.spares some (next_table r) (page_at flash pair)) (second : NoneOr shape r.spares some (next_table r) (page_at flash (suc pair)))
      (cut : Flash) (out : List ℕ) (i : Interrupted (inner_shape shape r.spares) (program at (table_bytes shape r.spares (next_table r))) flash cut out) where
    others : (k : ℕ) → k ≢ pair → k ≢ suc pair → page_at cut k ≡ page_at flash k
    others = pair-others shape r.spares some (next_table r) next_again pair at is_at is_pair.even flash cut out i

    none_or : (k : ℕ) → NoneOr shape r.spares some (next_table r) (page_at flash k) → NoneOr shape r.spares some (next_table r) (page_at cut k)
    none_or = pair-none_or shape r.spares some (next_table r) next_again pair at is_at is_pair.even flash cut out i

    pub pair_full : IsSpareFull r before cut
    pair_full k less =
        others (spare_page r k) (λ e. omega (arith, e, spare_page_before k less, is_pair.first.from))
        (λ e. omega (arith, e, spare_page_before k less, is_pair.second.from)) ∙ full k less

    at_there : IsTablePage shape r.spares at
    at_there = elim is_at [
      | inl e ↦ subst (IsTablePage shape r.spares)
          (sym e) is_pair.first
      | inr e ↦ subst (IsTablePage shape r.spares) (sym e) is_pair.second
    ]

    pub pair_above : Interrupted shape r.mark before (through_by shape r.table (page_at cut)) []
    pair_above =
        let P : Flash → Type 0 = λ g. Interrupted shape r.mark before g [] in
        let used = serving.used in
        let left = serving.left in
        let behind : shape.blocks + length r.table.serves ≤ at / n = omega (arith, table_block shape r.spares some at at_there, used, left) in
        subst P (sym (apart_through shape r.spares some r.table (program at (table_bytes shape r.spares (next_table r))) (at / n) flash cut out behind refl i))
        serving.above

    pub pair_beside : IsNewestBeside shape r.spares pair (page_at cut) r.top r.table
    pair_beside = beside-kept shape r.spares (page_at flash) (page_at cut) r.top r.table pair is_pair.beside (λ k there one two. others k one two)

    -- if the next table is the newest, the outer flash is what the call leaves
    pub next_shows : (q : ℕ) → IsNewest shape r.spares (page_at cut) q (next_table r) → MayShow shape r.spares before r.mark cut
    next_shows q is =
        let P : Flash → Type 0 = λ g. Interrupted shape r.mark before g [] in
        may_show shape r.spares before cut r.mark q (next_table r) is (subst P (sym (exchange cut pair_full pair_above)) (interrupted_done shape r.mark before))

    pub pair_cut : MayShow shape r.spares before r.mark cut
    pair_cut =
        elim (pair-newest shape r.spares (page_at cut) r.top r.table (next_table r) pair pair_beside
        (let e : r.table.number < r.table.number + 1 = omega arith in e) is_pair.first is_pair.second
        (none_or pair first) (none_or (suc pair) second)) [
          | inl is ↦ may_show shape r.spares before cut r.mark r.top r.table is pair_above
          | inr q ↦ next_shows q.0 q.1
        ]

    -- the newest table is the former or the next one
    pub pair_table : OneOfTables r cut
    pair_table =
        elim (pair-newest shape r.spares (page_at cut) r.top r.table (next_table r) pair pair_beside
        (let e : r.table.number < r.table.number + 1 = omega arith in e) is_pair.first is_pair.second
        (none_or pair first) (none_or (suc pair) second)) [
          | inl is ↦ (r.top, r.table, is, (let used = serving.used in omega (arith, used)))
          | inr q ↦ (q.0, next_table r, q.1, omega (arith, next_used))
        ]
