-- The entries that name copies do not change the map.
use Rattle.std.proofs.Common.{◌≡◌, inl, inr, ℕ, zero, suc, ◌+◌, ◌-◌, ◌*◌, ◌/◌, ◌%◌, ◌<◌, ◌≤◌, mod-lt, div-add-mod', refl, sym, ap, subst, ◌∙◌, arith, Bool, true, not, T, List, [], ◌∷◌, ◌++◌, length}
use Rattle.std.proofs.Common.{false, cond, Ordering, drop, nat_le, nat_eq, ◌==◌, Some, Ok, le→leb, le_trans, append_assoc, append-nil, add-zero}
use Rattle.std.{specs.List.list_any, specs.List.list_all, specs.List.starts_with, specs.List.AllByRecursion, specs.FinMap.Entries.put, specs.FinMap.Entries.find, specs.FinMap.Entries.is_sorted}
use Rattle.std.{proofs.lemmas.Nat.div-mul-add, specs.Ordering.eq_by_cmp}
use Rattle.pk_base.{specs.Key.Key, specs.Key.key_cmp, specs.Key.space_of, specs.Shape.Shape, specs.Shape.IsShape, specs.Shape.charge, specs.Entry.Entry, specs.Entry.Place}
use Rattle.pk_base.{specs.Page.Page, specs.Page.Flash, specs.Page.page_at, specs.Page.erased, specs.Page.whole, specs.Page.torn, specs.Refusal.ensure, specs.Firsts.firsts}
use Rattle.pk_base.{proofs.Logic.is_true, proofs.Logic.left_part, proofs.Logic.right_part, proofs.Logic.passed, proofs.Logic.both, proofs.KeyLemmas.firsts_sorted}
use Rattle.pk_nand.{specs.Pairs.first_of_pair, proofs.Pairing.outside_pair}
use Rattle.pk_segfmt.specs.Value.{head_bytes, value_page, value_from, value_at}
use Rattle.pk_rootfmt.specs.Root.{Root, named}
use Rattle.pk_model.{specs.Found.Found, specs.Found.entries_in_order, specs.Values.placed, specs.Values.fits, specs.Values.values_of, specs.Values.all_pages, proofs.StrangePages.bind_ok}
use Rattle.pk_model.{specs.Reading.map_under, specs.Reading.may_add, proofs.Lookups.Has, proofs.Lookups.find-values, proofs.Lookups.same_key, proofs.Merges.placed_sorted, proofs.HeldMap.nothing_fits}
use Rattle.pk_model.proofs.ValueSets.{values_sound, values_complete, Reads, fits_parts, parts_fit, IsPlacedIn, under_in_spaces}
use Rattle.pk_model.{proofs.Stores.placed-put, proofs.Stores.reads-put, proofs.Stores.entries_in_order-push, specs.RootLimits.root_limits, specs.RootLimits.root_spaces, specs.Spaces.limit_of}
use Rattle.pk_law_steps.{specs.Under.counting, specs.Under.places, proofs.Untouched.values_under, proofs.Untouched.erases, proofs.Counting.sorted_read}
use Rattle.pk_law_steps.proofs.Places.{In, in_value, value_in, not_of, any_in_back, all_of, few_blocks}
use Rattle.pk_law_steps.proofs.Committing.{commits, commits_pair, commit_done}
use Rattle.pk_law_moves.specs.Moves.{entries_of, moved, AreCopies, CanMove, MovesLeaveMap, PlacesMove, MovesCommit, MovesPair, MovesCommitted, Copies}
use Rattle.pk_law_moves.proofs.Moved.{put_same, page_moved, differ_moved, HaveLength, length_moved, space_moved}
use Rattle.pk_space.specs.Entries.{in_spaces}

-- ---- a copy is read as the value

module _ (shape : Shape) (at : ℕ → Page) where
  copied_from : (old new : ℕ) (front : List ℕ) (left n : ℕ) (bytes : List ℕ) → ((i : ℕ) → i < n → at (new + i) ≡ at (old + i))
      → value_from shape at old front left n ≡ Ok bytes → value_from shape at new front left n ≡ Ok bytes
  copied_from old new front left zero bytes same ok = ok
  copied_from old new front left (suc n) bytes same ok =
      elim (at old) as (λ p. at old ≡ p → value_page old front left p (λ b. value_from shape at (old + 1) [] (left - shape.page_bytes) n) ≡ Ok bytes
      → value_page new front left (at new) (λ b. value_from shape at (new + 1) [] (left - shape.page_bytes) n) ≡ Ok bytes) [
        | erased ↦ λ e f. cc
        | torn ↦ λ e f. cc
        | whole b ↦ λ e f.
            let first = bind_ok (ensure (starts_with nat_eq b front) old) _ bytes f in
            let second = bind_ok (ensure (list_all (λ x. x == 0) (drop left b)) old) _ bytes first.2 in
            let third = bind_ok (value_from shape at (old + 1) [] (left - shape.page_bytes) n) _ bytes second.2 in
            let here : at new ≡ whole b = ap at (sym (add-zero new)) ∙ same 0 (omega arith) ∙ ap at (add-zero old) ∙ e in
            let front_is : starts_with nat_eq b front ≡ true = is_true _ (passed _ old first.0 first.1) in
            let zeros_are : list_all (λ x. x == 0) (drop left b) ≡ true = is_true _ (passed _ old second.0 second.1) in
            let rest : value_from shape at (new + 1) [] (left - shape.page_bytes) n ≡ Ok third.0 =
            copied_from (old + 1) (new + 1) [] (left - shape.page_bytes) n third.0 (λ i small. ap at (next new i) ∙ same (suc i) (omega (arith, small)) ∙ ap at (sym (next old i))) third.1 in
            rw (here, front_is, zeros_are, rest) third.2
      ] refl ok
    where
      next : (a i : ℕ) → a + 1 + i ≡ a + suc i
      next a i = omega arith

  -- the same value is read at the new place
  pub copied : (key : Key) (old new : Place) (v : List ℕ) → new.len ≡ old.len
      → ((i : ℕ) → i < charge shape old.len → at (new.page + i) ≡ at (old.page + i)) → value_at shape at key old ≡ Ok v → value_at shape at key new ≡ Ok v
  unfolding value_at
  copied key old new v len same ok =
      let bytes = bind_ok (value_from shape at old.page (head_bytes key old.len) (32 + old.len) (charge shape old.len)) _ v ok in
      let rest = copied_from old.page new.page (head_bytes key old.len) (32 + old.len) (charge shape old.len) bytes.0 same bytes.1 in
      rw (len, rest) bytes.2

  -- the values of these keys are read at these places
  abbrev Stand : List (Key × Place) → List (Key × List ℕ) → Type 0
  Stand moves vs = AllByRecursion (λ m. (v : List ℕ) × (find key_cmp m.0 vs ≡ Some v) × (value_at shape at m.0 m.1 ≡ Ok v)) moves

  reads_moved : (named_blocks : List ℕ) (moves es : List (Key × Place)) (vs : List (Key × List ℕ)) → T (is_sorted key_cmp vs)
      → Stand moves vs → Reads shape named_blocks at es vs → Reads shape named_blocks at (moved moves es) vs
  reads_moved named_blocks [] es vs rises stand reads = reads
  reads_moved named_blocks (m ∷ moves) es vs rises stand reads =
      reads_moved named_blocks moves (put key_cmp m.0 m.1 es) vs rises stand.1
      (subst (λ xs. Reads shape named_blocks at (put key_cmp m.0 m.1 es) xs) (put_same m.0 stand.0.0 vs rises stand.0.1)
      (reads-put shape named_blocks at m.0 m.1 stand.0.0 es vs stand.0.2 reads))

stand_copies : (shape : Shape) (flash : Flash) (limits blocks : List ℕ) (es : List (Key × Place)) (vs : List (Key × List ℕ)) (moves : List (Key × Place))
    → values_of shape (page_at flash) limits blocks [] es ≡ Ok vs → AreCopies shape flash es moves → Stand shape (page_at flash) moves vs
stand_copies shape flash limits blocks es vs [] ok copies = tt
stand_copies shape flash limits blocks es vs (m ∷ moves) ok copies =
    let copy = copies.0.2 in
    let has : Has shape (page_at flash) m.0 (Some copies.0.0) (find key_cmp m.0 vs) = subst
    (λ x. Has shape (page_at flash) m.0 x (find key_cmp m.0 vs)) copies.0.1 (find-values shape (page_at flash) limits blocks [] es vs ok m.0) in
    ((has.0, has.2, copied shape (page_at flash) m.0 copies.0.0 m.1 has.0 copy.same_len copy.same_pages has.1), stand_copies shape flash limits blocks es vs moves ok copies.1)

same_lengths : (shape : Shape) (flash : Flash) (es moves : List (Key × Place)) → AreCopies shape flash es moves → HaveLength shape es moves
same_lengths shape flash es [] copies = tt
same_lengths shape flash es (m ∷ moves) copies = ((copies.0.0, copies.0.1, copies.0.2.same_len), same_lengths shape flash es moves copies.1)

-- ---- the places

places_one : (found : Found) (extra : List Entry) (k : Key) (place : Place) → places found (extra ++ (k, Some place) ∷ []) ≡ put key_cmp k place (places found extra)
places_one found extra k place = ap (λ es. placed (firsts es)) (entries_in_order-push found extra (k, Some place))
    ∙ placed-put k place (counting found extra) (firsts_sorted (entries_in_order found extra))

pub places_move : PlacesMove
places_move found extra [] = ap (places found) (append-nil extra)
places_move found extra (m ∷ moves) =
    ap (places found) (sym (append_assoc extra ((m.0, Some m.1) ∷ []) (entries_of moves)))
    ∙ places_move found (extra ++ (m.0, Some m.1) ∷ []) moves
    ∙ ap (moved moves) (places_one found extra m.0 m.1)

rising : (found : Found) (extra : List Entry) → T (is_sorted key_cmp (places found extra))
rising found extra = placed_sorted (counting found extra) (firsts_sorted (entries_in_order found extra))

-- ---- the map

-- the values are well placed, with the copies in their stead
fits_moved : (shape : Shape) (flash : Flash) (extra : List Entry) (root : Root) (found : Found) (moves : List (Key × Place)) (blocks : List ℕ) → CanMove shape flash extra root found moves blocks
    → T (fits shape (named root) (all_pages shape (places found extra))) → T (fits shape (named root) (all_pages shape (moved moves (places found extra))))
fits_moved shape flash extra root found moves blocks can is =
    let es = places found extra in
    let parts = fits_parts shape (named root) (all_pages shape es) is in
    let pages = all_pages shape (moved moves es) in
    parts_fit shape (named root) pages (record {
      out = all_of (λ p. not (list_any (λ b. b == p / shape.block_pages) (named root))) pages (λ k here. elim (page_moved shape moves es k (in_value shape (moved moves es) k here)) [
        | inl new ↦ not_of (list_any (λ b. b == k / shape.block_pages) (named root)) (λ t. can.unnamed k new (any_in_back (k / shape.block_pages) (named root) t))
        | inr old ↦ all_at (λ p. not (list_any (λ b. b == p / shape.block_pages) (named root))) (all_pages shape es) k parts.out (value_in shape es k old)
      ]);
      different = differ_moved shape moves es parts.different can.free can.apart;
      few = let size = length_moved shape moves es (rising found extra) (same_lengths shape flash es moves can.copies) in omega (arith, size, parts.few);
      few_blocks = le_trans (few_blocks shape pages blocks (λ k here. can.among k (in_value shape (moved moves es) k here))) can.few;
    })
  where
    all_at : (p : ℕ → Bool) (xs : List ℕ) (k : ℕ) → T (list_all p xs) → In k xs → T (p k)
    all_at p [] k all is = absurd is
    all_at p (x ∷ xs) k all (inl e) = subst (λ y. T (p y)) (sym e) (left_part (p x) (list_all p xs) all)
    all_at p (x ∷ xs) k all (inr is) = all_at p xs k (right_part (p x) (list_all p xs) all) is

-- the copies have keys of values, and so have their entries
found_in_spaces : (spaces : ℕ) (key : Key) (place : Place) (es : List (Key × Place)) → AllByRecursion (IsPlacedIn spaces) es → find key_cmp key es ≡ Some place → T (nat_le (space_of key) spaces)
found_in_spaces spaces key place [] all found = cc
found_in_spaces spaces key place (e ∷ es) all found =
    elim (eq_by_cmp key_cmp key e.0) as (λ b. eq_by_cmp key_cmp key e.0 ≡ b → cond b (Some e.1) (find key_cmp key es) ≡ Some place → T (nat_le (space_of key) spaces)) [
      | true ↦ λ same f. subst (λ k. T (nat_le (space_of k) spaces)) (sym (same_key key e.0 same)) all.0
      | false ↦ λ other f. found_in_spaces spaces key place es all.1 f
    ] refl found

copies_in_spaces : (shape : Shape) (flash : Flash) (spaces : ℕ) (es moves : List (Key × Place)) → AllByRecursion (IsPlacedIn spaces) es → AreCopies shape flash es moves
    → AllByRecursion (IsPlacedIn spaces) moves
copies_in_spaces shape flash spaces es [] all copies = tt
copies_in_spaces shape flash spaces es (m ∷ moves) all copies =
    (found_in_spaces spaces m.0 copies.0.0 es all copies.0.1, copies_in_spaces shape flash spaces es moves all copies.1)

entries_in_spaces : (spaces : ℕ) (extra : List Entry) (moves : List (Key × Place)) → T (in_spaces spaces extra) → AllByRecursion (IsPlacedIn spaces) moves
    → T (in_spaces spaces (extra ++ entries_of moves))
entries_in_spaces spaces (e ∷ extra) moves more copies =
    both (nat_le (space_of e.0) spaces) (in_spaces spaces (extra ++ entries_of moves)) (left_part (nat_le (space_of e.0) spaces) (in_spaces spaces extra) more)
    (entries_in_spaces spaces extra moves (right_part (nat_le (space_of e.0) spaces) (in_spaces spaces extra) more) copies)
entries_in_spaces spaces [] [] more copies = tt
entries_in_spaces spaces [] (m ∷ moves) more copies = both (nat_le (space_of m.0) spaces) (in_spaces spaces (entries_of moves)) copies.0 (entries_in_spaces spaces [] moves more copies.1)

pub moves_stay : MovesLeaveMap
unfolding map_under
moves_stay shape flash extra top found m moves blocks under can = record { is_top = under.is_top; is_found = under.is_found; is_map = is_map }
  where
    is_map : map_under shape (page_at flash) top.1 found (extra ++ entries_of moves) ≡ Ok m
    is_map =
        let at = page_at flash in
        let limits = root_limits shape top.1 in
        let spaces = root_spaces shape top.1 in
        let es = places found extra in
        let values = values_under shape flash extra top.1 found m under.is_map in
        let before = values_sound shape (named top.1) at limits es values.values (nothing_fits shape (named top.1)) values.read in
        let rises = sorted_read shape (named top.1) at es values.values before.read (rising found extra) in
        let stand = stand_copies shape flash limits (named top.1) es values.values moves values.read can.copies in
        let lies = fits_moved shape flash extra top.1 found moves blocks can (subst T (sym before.placed_well) tt) in
        let all = under_in_spaces shape at top.1 found extra under.is_found values.spaced in
        let copies_are = copies_in_spaces shape flash spaces es moves all can.copies in
        let after : values_of shape at limits (named top.1) [] (places found (extra ++ entries_of moves)) ≡ Ok values.values =
        ap (values_of shape at limits (named top.1) []) (places_move found extra moves) ∙ values_complete shape (named top.1) at limits (moved moves es) values.values
        (record { placed_well = is_true _ lies; within = λ space. subst (λ n. n ≤ limit_of limits space) (sym (space_moved shape space moves es (rising found extra) (same_lengths shape flash es moves can.copies))) (before.within space); read = reads_moved shape at (named top.1) moves es values.values rises stand before.read }) in
        let enough : may_add shape top.1 found (extra ++ entries_of moves) ≡ true = is_true _
        (both _ _ (le→leb _ _ can.room) (entries_in_spaces spaces extra moves values.spaced copies_are)) in
        rw (enough, after) (λ i. Ok (values.whole_map i))

pub moves_commit : MovesCommit
moves_commit shape flash cut top found m moves blocks index bytes posted is_shape under can commit cut_off =
    commits shape flash cut top found (entries_of moves) m m index bytes posted is_shape under (moves_stay shape flash [] top found m moves blocks under can) commit cut_off

pub moves_pair : MovesPair
moves_pair shape flash cut top found m moves blocks index bytes is_shape under can commit is_cut =
    commits_pair shape flash cut top found (entries_of moves) m m index bytes is_shape under (moves_stay shape flash [] top found m moves blocks under can) commit is_cut

pub moves_committed : MovesCommitted
moves_committed shape flash now top found m moves blocks index bytes is_shape under can commit is_cut here =
    commit_done shape flash now top found (entries_of moves) m m index bytes is_shape under (moves_stay shape flash [] top found m moves blocks under can) commit is_cut here

-- ---- a page that is copied

-- the pair of a page is in its block
pair_in_block : (shape : Shape) (at k : ℕ) → IsShape shape → first_of_pair shape at ≤ k → k < first_of_pair shape at + 2 → k / shape.block_pages ≡ at / shape.block_pages
pair_in_block shape at k is low high = search (arith, div-mul-add, shape.block_pages, is.block_least, is.eights)

pub copies : Copies
copies shape flash cut extra top found m at is_shape under behind unnamed no_value outside = search (erases, outside_pair, pair_in_block)
