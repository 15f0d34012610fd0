-- The moves of a victim that is copied.
use Rattle.std.proofs.Common.{◌≡◌, inl, inr, ℕ, ◌+◌, ◌/◌, ◌<◌, ◌≤◌, refl, sym, ap, subst, ◌∙◌, arith, true, false, cond, T, List, [], ◌∷◌, ◌==◌, Some, None, eqb→eq, le_trans, le_of_eq}
use Rattle.std.{specs.Prelude.slice_index, specs.List.AllByRecursion, specs.Ordering.eq_by_cmp, specs.Cmp.tied_itself}
use Rattle.std.specs.FinMap.Entries.{find, is_sorted, below_all}
use Rattle.std.proofs.lemmas.Bool.{cases_lt, eq-eqb, ltb-true, ltb-false}
use Rattle.pk_base.{specs.Key.Key, specs.Key.key_cmp, specs.Shape.Shape, specs.Shape.IsShape, specs.Shape.charge, specs.Page.Flash, specs.Page.page_at, specs.Entry.Place, specs.EntryChecks.IsEntry}
use Rattle.pk_base.{proofs.ShapeLemmas.block_pages_positive, proofs.Logic.left_part, proofs.Logic.right_part}
use Rattle.pk_segfmt.proofs.StoredLemmas.{charge_some}
use Rattle.pk_rootfmt.specs.Root.{named}
use Rattle.pk_model.{specs.Laws.AnyByRecursion, proofs.MapLemmas.key_total, proofs.MapLemmas.missing, proofs.Lookups.same_key}
use Rattle.pk_law_steps.specs.Under.{IsValuePage, places}
use Rattle.pk_pool.proofs.Fitting.{in_block, block_of}
use Rattle.pk_live.specs.Lives.{head_of}
use Rattle.pk_law_moves.{specs.Moves.entries_of, specs.Moves.IsCopy, specs.Moves.AreCopies, specs.Moves.AreApart, specs.Victims.AreMoved, proofs.Emptying.lie_in_others}
use Rattle.pk_gc.{specs.declared.course.Course.Course, specs.declared.moves.Move.Move, specs.State.placed_at, specs.State.new_place, specs.State.is_left, specs.State.left_of, specs.State.source}
use Rattle.pk_gc.{specs.Running.IsMove, specs.Copied.IsCopied, specs.Copied.Empties, specs.Copied.MayMove}

-- ---- heads and values

-- the value that begins at a page
pub record Begins (es : List (Key × Place)) (k : ℕ) : Type 0 where
  pub key : Key
  pub place : Place
  pub found : find key_cmp key es ≡ Some place
  pub page_is : place.page ≡ k

nowhere : (a b : Key) (xs : List (Key × Place)) (place : Place) → b ≡ a → find key_cmp a xs ≡ None → find key_cmp b xs ≡ Some place → ⊥
nowhere a b xs place same none found = let here : find key_cmp a xs ≡ Some place = ap (λ x. find key_cmp x xs) (sym same) ∙ found in cc

module _ (shape : Shape) where
  -- where a head is, a value begins
  pub begins : (es : List (Key × Place)) (k : ℕ) → T (is_sorted key_cmp es) → 0 < head_of shape es k → Begins es k
  begins [] k rising some = absurd (omega (arith, some))
  begins (e ∷ es) k rising some =
      elim (e.1.page == k) as (λ b. (e.1.page == k) ≡ b → 0 < cond b (charge shape e.1.len) 0 + head_of shape es k → Begins (e ∷ es) k) [
        | true ↦ λ is s. record { key = e.0; place = e.1; found = rw (tied_itself key_total e.0) refl; page_is = eqb→eq e.1.page k (subst T (sym is) tt) }
        | false ↦ λ is s.
            let rest = begins es k (right_part (below_all key_cmp e.0 es) (is_sorted key_cmp es) rising) (omega (arith, s)) in
            record {
              key = rest.key;
              place = rest.place;
              found = elim (eq_by_cmp key_cmp rest.key e.0) as (λ b. eq_by_cmp key_cmp rest.key e.0 ≡ b → cond b (Some e.1) (find key_cmp rest.key es) ≡ Some rest.place) [
                | true ↦ λ tied. let none = missing e.0 es (left_part (below_all key_cmp e.0 es) (is_sorted key_cmp es) rising) in absurd
                    (nowhere e.0 rest.key es rest.place (same_key rest.key e.0 tied) none rest.found)
                | false ↦ λ other. rest.found
              ] refl;
              page_is = rest.page_is;
            }
      ] refl some

  -- and the other way round
  pub begun : IsShape shape → (key : Key) (place : Place) (es : List (Key × Place)) → find key_cmp key es ≡ Some place → 0 < head_of shape es place.page
  begun is_shape key place [] found = cc
  begun is_shape key place (e ∷ es) found =
      elim (eq_by_cmp key_cmp key e.0) as (λ b. cond b (Some e.1) (find key_cmp key es) ≡ Some place → 0 < head_of shape (e ∷ es) place.page) [
        | true ↦ λ f.
            let same : e.1 ≡ place = cc in
            let here : (e.1.page == place.page) ≡ true = eq-eqb e.1.page place.page (ap (λ (p : Place). p.page) same) in
            let some = charge_some shape is_shape e.1.len in
            rw here (omega (arith, some))
        | false ↦ λ f. let rest = begun is_shape key place es f in omega (arith, rest)
      ] found

-- ---- the moves that remain

module _ (heads : List ℕ) where
  -- what holds of all moves holds of those that remain
  all_left : (P : Move → Type 0) (Q : Key × Place → Type 0) → ((m : Move) → is_left heads m ≡ true → P m → Q (m.key, new_place m))
      → (ms : List Move) → AllByRecursion P ms → AllByRecursion Q (placed_at (left_of heads ms))
  all_left P Q f [] all = tt
  all_left P Q f (m ∷ ms) all =
      elim (is_left heads m) as (λ b. is_left heads m ≡ b → AllByRecursion Q (placed_at (cond b (m ∷ left_of heads ms) (left_of heads ms)))) [
        | true ↦ λ is. (f m is all.0, all_left P Q f ms all.1)
        | false ↦ λ is. all_left P Q f ms all.1
      ] refl

  pub page_left : (shape : Shape) (ms : List Move) (k : ℕ) → IsValuePage shape (placed_at (left_of heads ms)) k → IsValuePage shape (placed_at ms) k
  page_left shape [] k is = is
  page_left shape (m ∷ ms) k is =
      elim (is_left heads m) as (λ b. IsValuePage shape (placed_at (cond b (m ∷ left_of heads ms) (left_of heads ms))) k → IsValuePage shape (placed_at (m ∷ ms)) k) [
        | true ↦ λ i. elim i [ inl here ↦ inl here | inr there ↦ inr (page_left shape ms k there) ]
        | false ↦ λ i. inr (page_left shape ms k i)
      ] is

  apart_left : (shape : Shape) (ms : List Move) → AreApart shape (placed_at ms) → AreApart shape (placed_at (left_of heads ms))
  apart_left shape [] are = tt
  apart_left shape (m ∷ ms) are =
      elim (is_left heads m) as (λ b. AreApart shape (placed_at (cond b (m ∷ left_of heads ms) (left_of heads ms)))) [
        | true ↦ (λ k here there. are.0 k here (page_left shape ms k there), apart_left shape ms are.1)
        | false ↦ apart_left shape ms are.1
      ]

  among_left : (key : Key) (page : ℕ) (ms : List Move) → 0 < slice_index heads page
      → AnyByRecursion (λ m. (key ≡ m.key) × (m.from ≡ page)) ms → AnyByRecursion (λ m. key ≡ m.0) (placed_at (left_of heads ms))
  among_left key page [] some is = is
  among_left key page (m ∷ ms) some is =
      elim (is_left heads m) as (λ b. is_left heads m ≡ b → AnyByRecursion (λ x. key ≡ x.0) (placed_at (cond b (m ∷ left_of heads ms) (left_of heads ms)))) [
        | true ↦ λ e. elim is [ inl here ↦ inl here.0 | inr there ↦ inr (among_left key page ms some there) ]
        | false ↦ λ e. elim is [ inl here ↦ absurd (dead m page here.1 some e) | inr there ↦ among_left key page ms some there ]
      ] refl
    where
      dead : (m : Move) (page : ℕ) → m.from ≡ page → 0 < slice_index heads page → is_left heads m ≡ false → ⊥
      dead m page same some not_left = let low : slice_index heads m.from ≤ 0 = ltb-false 0
          (slice_index heads m.from) not_left in let here : 0 < slice_index heads m.from = subst (λ x. 0 < slice_index heads x) (sym same) some in omega (arith, low, here)

module _ (shape : Shape) (c : Course) (moves : List Move) (page heads : List ℕ) (flash : Flash) (es : List (Key × Place)) (is : IsCopied shape c moves page heads flash es) where
  abbrev n : ℕ
  n = shape.block_pages

  positive : 0 < n
  positive = block_pages_positive shape is.runs.is_shape

  pub are_moved : AreMoved shape c.victim c.output es (placed_at (left_of heads moves))
  are_moved = record {
    is_shape = is.runs.is_shape;
    rising = is.rising;
    are_places = is.are_places;
    empties = λ key place found inside.
        let live : 0 < slice_index heads place.page = subst (λ x. 0 < x) (sym (is.heads_are place.page)) (begun shape is.runs.is_shape key place es found) in
        let block = in_block n place.page c.victim positive inside in
        let none = is.none_unseen place.page in
        let whole = is.whole in
        elim (cases_lt place.page (source shape c)) [
          | inl seen ↦ among_left heads key place.page moves live (is.runs.covers key place found inside (omega (arith, seen)))
          | inr behind ↦ absurd (let zero_there = none behind block.1 in omega (arith, zero_there, live))
        ];
    in_output = λ k here. in_moves k moves is.runs.moves_are (page_left heads shape moves k here);
  }
    where
      in_moves : (k : ℕ) (ms : List Move) → AllByRecursion (IsMove shape c flash es) ms → IsValuePage shape (placed_at ms) k → k / n ≡ c.output
      in_moves k [] all here = absurd here
      in_moves k (m ∷ ms) all (inl here) =
          let move = all.0 in
          block_of n k c.output (omega (arith, move.in_output, here.0)) (omega (arith, move.ends, move.count_is, here.1, is.runs.room))
      in_moves k (m ∷ ms) all (inr there) = in_moves k ms all.1 there

  are_copies : AreCopies shape flash es (placed_at (left_of heads moves))
  are_copies = all_left heads (IsMove shape c flash es) (λ x. (old : Place) × (find key_cmp x.0 es ≡ Some old) × IsCopy shape flash old x.1) copy moves is.runs.moves_are
    where
      copy : (m : Move) → is_left heads m ≡ true → IsMove shape c flash es m → (old : Place) × (find key_cmp m.key es ≡ Some old) × IsCopy shape flash old (new_place m)
      copy m left move =
          let live : 0 < slice_index heads m.from = ltb-true 0 (slice_index heads m.from) left in
          let was = begins shape es m.from is.rising (subst (λ x. 0 < x) (is.heads_are m.from) live) in
          let own = move.owner was.key was.place was.found was.page_is in
          let size : charge shape was.place.len ≡ m.count = ap (charge shape) own.1 ∙ sym move.count_is in (
            was.place,
            ap (λ x. find key_cmp x es) (sym own.0) ∙ was.found,
            record {
              same_len = sym own.1;
              same_pages = λ i small.
                  move.copied i (omega (arith, small, size)) (omega (arith, move.ends, is.whole, small, size)) ∙ ap (λ x. page_at flash (x + i)) (sym was.page_is);
            },
          )

  pub free_of : (k : ℕ) → IsValuePage shape (placed_at (left_of heads moves)) k → IsValuePage shape es k → ⊥
  free_of k here there = is.runs.free k (are_moved.in_output k here) there

pub empties : Empties
empties shape c moves page heads flash es is = are_moved shape c moves page heads flash es is

pub may_move : MayMove
may_move shape c moves page heads flash root found blocks is unnamed among lie few room =
    let es = places found [] in
    let are = are_moved shape c moves page heads flash es is in
    let others = lie_in_others shape c.victim c.output es (placed_at (left_of heads moves)) blocks are among lie in
    record {
      copies = are_copies shape c moves page heads flash es is;
      unnamed = λ k here named_there. unnamed (subst (λ x. AnyByRecursion (λ b. x ≡ b) (named root)) (are.in_output k here) named_there);
      free = free_of shape c moves page heads flash es is;
      apart = apart_left heads shape moves is.runs.apart;
      among = others.0;
      few = le_trans (le_of_eq others.1) few;
      room = room;
    }

-- each of their entries may be in a journal page
pub entries_are : (shape : Shape) (c : Course) (flash : Flash) (es : List (Key × Place)) (heads : List ℕ) (ms : List Move)
    → AllByRecursion (IsMove shape c flash es) ms → AllByRecursion (IsEntry shape) (entries_of (placed_at (left_of heads ms)))
entries_are shape c flash es heads [] all = tt
entries_are shape c flash es heads (m ∷ ms) all =
    let rest = entries_are shape c flash es heads ms all.1 in
    elim (is_left heads m) as (λ b. AllByRecursion (IsEntry shape) (entries_of (placed_at (cond b (m ∷ left_of heads ms) (left_of heads ms))))) [
      | true ↦ ((all.0.is_key, all.0.is_place), rest)
      | false ↦ rest
    ]
