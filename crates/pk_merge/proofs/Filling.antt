-- The page that is being filled: the bytes of entries in it, one more of them, and the page when it is complete.
use Rattle.std.proofs.Common.{◌≡◌, ℕ, zero, suc, ◌+◌, ◌-◌, ◌*◌, ◌<◌, ◌≤◌, Bool, true, false, not, is_some, List, [], ◌∷◌, ◌++◌, length, take, drop, get_or, refl, sym, ap, subst, ◌∙◌, arith}
use Rattle.std.proofs.Common.{length-append, length-drop}
use Rattle.std.{specs.Prelude.nat_eq, specs.List.flat_map, specs.List.AllByRecursion, proofs.lemmas.List.append_assoc, proofs.lemmas.List.append-nil, proofs.lemmas.List.take_at}
use Rattle.std.{proofs.lemmas.List.take_all, proofs.lemmas.List.length-take-le, proofs.lemmas.List.get_or_push}
use Rattle.std.{proofs.lemmas.Slice.take-put_mid_below, proofs.lemmas.Slice.take-put_mid, proofs.lemmas.Slice.drop-put_mid, proofs.lemmas.List.take-append-drop}
use borrow.Rule.Slice.PartMut.{put_mid}
use Rattle.pk_base.{specs.Shape.Shape, specs.Shape.IsShape, specs.Shape.page_entries, specs.Entry.Entry, proofs.Tables.stands_next, proofs.WriteLemmas.written_more}
use Rattle.pk_base.{specs.EntryBytes.entries_from, specs.EntryBytes.entry_bytes, specs.EntryBytes.entry_at, specs.EntryBytes.cell_at, proofs.EntryLemmas.length-entry_bytes}
use Rattle.pk_meta.{specs.Cells.IsCell, specs.Cells.HasCells, specs.Page.meta_bytes, proofs.CellLemmas.cell_len, proofs.CellLemmas.cells_long, proofs.CellLemmas.cells_stand}
use Rattle.pk_meta.{proofs.CellLemmas.meta_has_cells}
use Rattle.pk_merge.specs.Gathering.{IsReadBack, HasGathered}

pub many_from : (at n : ℕ) (page : List ℕ) → length (entries_from at n page) ≡ n
many_from at zero page = refl
many_from at (suc n) page = ap suc (many_from (at + 32) n page)

-- entries whose bytes are in a page are read there
read_from : (es : List Entry) (at : ℕ) (page rest : List ℕ) → drop at page ≡ flat_map entry_bytes es ++ rest → AllByRecursion IsReadBack es → entries_from at (length es) page ≡ es
read_from [] at page rest e each = refl
read_from (x ∷ es) at page rest e each =
    let sized : length (entry_bytes x) ≡ 32 = length-entry_bytes x each.0.0 in
    let split : drop at page ≡ entry_bytes x ++ (flat_map entry_bytes es ++ rest) = e ∙ append_assoc (entry_bytes x) (flat_map entry_bytes es) rest in
    let cell : cell_at at page ≡ entry_bytes x = ap (λ (r : List ℕ). take 32 r) split ∙ take_at (entry_bytes x) (flat_map entry_bytes es ++ rest) 32 sized in
    let first : entry_at (cell_at at page) ≡ x = ap entry_at cell ∙ each.0.1 in
    let more = read_from es (at + 32) page rest (stands_next at 32 (entry_bytes x) (flat_map entry_bytes es ++ rest) page split sized) each.1 in
    λ i. first i ∷ more i

each_more : (es : List Entry) (e : Entry) → AllByRecursion IsReadBack es → IsReadBack e → AllByRecursion IsReadBack (es ++ e ∷ [])
each_more [] e all one = (one, tt)
each_more (x ∷ es) e all one = (all.0, each_more es e all.1 one)

-- a page with the bytes of these entries has them
has_them : (shape : Shape) (n : ℕ) (es : List Entry) (page : List ℕ) → length es ≡ n → length page ≡ shape.page_bytes → n ≤ page_entries shape → 32 + 32 * n ≤ length page
    → HasCells es page → AllByRecursion IsReadBack es → (entries_from 32 n page ≡ es) × HasGathered shape n page
has_them shape n es page many sized most room cells each =
    let fits : 32 + 32 * length es ≤ length page = omega (arith, many, room) in
    let reads : entries_from 32 n page ≡ es = ap (λ (k : ℕ). entries_from 32 k page) (sym many) ∙ read_from es 32 page (drop (32 + 32 * length es) page) (cells_stand es page cells fits) each in (
      reads,
      record {
        sized = sized;
        most = most;
        cells = subst (λ (xs : List Entry). HasCells xs page) (sym reads) cells;
        each = subst (λ (xs : List Entry). AllByRecursion IsReadBack xs) (sym reads) each;
      },
    )

module _ (shape : Shape) (is : IsShape shape) (n : ℕ) (page : List ℕ) (h : HasGathered shape n page) where
  abbrev es : List Entry
  es = entries_from 32 n page

  many : length es ≡ n
  many = many_from 32 n page

  pub has_room : 32 + 32 * n ≤ length page
  has_room = let least = is.page_least in let most = h.most in let sized = h.sized in omega (arith, least, most, sized)

  -- there is none
  pub cleared : HasGathered shape 0 page
  cleared = (has_them shape 0 [] page refl h.sized (omega arith) (let room = has_room in omega (arith, room)) (sym (append-nil (take 32 page))) tt).1

  -- it is complete
  pub filled : (level index : ℕ) (new : List ℕ) → length new ≡ length page → new ≡ meta_bytes shape level index es → (entries_from 32 n new ≡ es) × HasGathered shape n new
  filled level index new len e =
      let room = has_room in
      let cells : HasCells es new = subst (λ (xs : List ℕ). HasCells es xs) (sym e) (meta_has_cells shape level index es (cells_long es page h.cells (omega (arith, room, many)))) in
      has_them shape n es new many (len ∙ h.sized) h.most (omega (arith, room, len)) cells h.each

  -- the bytes of an entry more are in it
  module _ (cell : List ℕ) (is_cell : IsCell cell) (room : n < page_entries shape) (new : List ℕ) (len : length new ≡ length page)
      (e : new ≡ put_mid (32 + 32 * n) (32 + 32 * n + 32 - (32 + 32 * n)) page cell) where
    abbrev more : List Entry
    more = es ++ entry_at cell ∷ []

    fits : 64 + 32 * n ≤ length page
    fits = let least = is.page_least in let sized = h.sized in omega (arith, least, room, sized)

    one : IsReadBack (entry_at cell)
    one = (is_cell.key, sym (ap entry_at is_cell.bytes))

    long : length more ≡ suc n
    long = let e = length-append es (entry_at cell ∷ []) in omega (arith, e, many)

    all_taken : take (n + 1) more ≡ more
    all_taken = take_all (n + 1) more (omega (arith, long))

    before : take (32 + 32 * n) page ≡ take 32 page ++ flat_map entry_bytes (take n more)
    before =
        let front : take n more ≡ es = take_at es (entry_at cell ∷ []) n many in
        ap (λ (k : ℕ). take (32 + 32 * k) page) (sym many) ∙ h.cells ∙ ap (λ (xs : List Entry). take 32 page ++ flat_map entry_bytes xs) (sym front)

    cells : HasCells more (put_mid (32 + 32 * n) (32 + 32 * n + 32 - (32 + 32 * n)) page cell)
    cells =
        let new : List ℕ = put_mid (32 + 32 * n) (32 + 32 * n + 32 - (32 + 32 * n)) page cell in
        let written = written_more page page cell more n (entry_at cell) (omega (arith, long)) fits (cell_len cell is_cell) is_cell.bytes
        (get_or_push es (entry_at cell) (entry_at cell) n many) before in
        let first : take 32 new ≡ take 32 page = take-put_mid_below (32 + 32 * n) (32 + 32 * n + 32 - (32 + 32 * n)) page cell 32 (omega arith) (omega (arith, fits)) in
        let count : length more ≡ n + 1 = omega (arith, long) in
        ap (λ (k : ℕ). take (32 + 32 * k) new) count ∙ written ∙ (λ i. sym first i ++ flat_map entry_bytes (all_taken i))

    pub pushed : (entries_from 32 (n + 1) new ≡ more) × HasGathered shape (n + 1) new
    pushed =
        has_them shape (n + 1) more new (omega (arith, long)) (len ∙ h.sized) (omega (arith, room)) (omega (arith, fits, len)) (subst (λ (xs : List ℕ). HasCells more xs) (sym e) cells)
        (each_more es (entry_at cell) h.each one)

-- ---- the memory of a page

-- a page that is written as a whole
pub whole_written : (len : ℕ) (written items : List ℕ) → length written ≡ len → take len (written ++ drop (length written) items) ≡ written
whole_written len written items e = take_at written (drop (length written) items) len e

length_put : (at k : ℕ) (xs ys : List ℕ) → at + k ≤ length xs → length ys ≡ k → length (put_mid at k xs ys) ≡ length xs
length_put at k xs ys room sized =
    let n : ℕ = at + k in
    let new : List ℕ = put_mid at k xs ys in
    let whole : length (take n new ++ drop n new) ≡ length new = ap length (take-append-drop n new) in
    let parts = length-append (take n new) (drop n new) in
    let front : length (take n new) ≡ length (take at xs ++ ys) = ap length (take-put_mid at k xs ys n (omega (arith, sized)) (omega (arith, room))) in
    let back : length (drop n new) ≡ length (drop n xs) = ap length (drop-put_mid at k xs ys n (omega arith) (omega (arith, room)) sized) in
    let first = length-append (take at xs) ys in
    let long = length-take-le at xs (omega (arith, room)) in
    let rest = length-drop n xs in
    omega (arith, whole, parts, front, back, first, long, rest, room, sized)

-- a page in which a part is written
pub part_written : (len at : ℕ) (items page buf cell : List ℕ) → page ≡ items → buf ≡ cell → length page ≡ len → at + 32 ≤ length items → length cell ≡ 32
    → (take len (put_mid at (at + 32 - at) page buf ++ drop (length (put_mid at (at + 32 - at) page buf)) items) ≡ put_mid at (at + 32 - at) items cell)
    × (length (put_mid at (at + 32 - at) items cell) ≡ length items)
part_written len at items page buf cell value after long room sized =
    let n : at + 32 - at ≡ 32 = omega arith in
    let same : length (put_mid at (at + 32 - at) items cell) ≡ length items = length_put at (at + 32 - at) items cell (omega (arith, room, n)) (sized ∙ sym n) in
    let all : length items ≡ len = ap length (sym value) ∙ long in (
      (λ i. take len (put_mid at (at + 32 - at) (value i) (after i) ++ drop (length (put_mid at (at + 32 - at) (value i) (after i))) items))
          ∙ take_at (put_mid at (at + 32 - at) items cell) (drop (length (put_mid at (at + 32 - at) items cell)) items) len (same ∙ all),
      same,
    )

-- the kind of an entry in its bytes
by_kind : (b : Bool) (P : Type 0) → (b ≡ true → P) → (b ≡ false → P) → P
by_kind true P at_true at_false = at_true refl
by_kind false P at_true at_false = at_false refl

pub kind_tells : (cell : List ℕ) → not (nat_eq (get_or cell 1 0) 1) ≡ not (is_some (entry_at cell).1)
unfolding entry_at
kind_tells cell = by_kind (nat_eq (get_or cell 1 0) 1) (not (nat_eq (get_or cell 1 0) 1) ≡ not (is_some (entry_at cell).1)) (λ is. rw is refl) (λ is. rw is refl)
