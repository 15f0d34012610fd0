-- The moves of a reclaim are committed: the values are at their new places, and the output is the open block.
use Rattle.std.proofs.Common.{◌≡◌, ◌≢◌, ◌⊎◌, inl, inr, ℕ, ◌+◌, ◌*◌, ◌/◌, ◌<◌, ◌≤◌, Bool, true, false, cond, T, List, [], ◌∷◌, length, Option, Some, None, refl, sym, ap, subst, ◌∙◌, arith, length-set}
use Rattle.std.{specs.Prelude.slice_get, specs.Prelude.slice_index, specs.Prelude.MatchOption, specs.List.AllByRecursion, specs.Ordering.eq_by_cmp, proofs.Math.ListN.set}
use Rattle.std.specs.FinMap.Entries.{put, find, is_sorted, find-put, is_sorted-put}
use Rattle.std.{proofs.lemmas.Bool.cases_eq, proofs.lemmas.Bool.ltb-true, proofs.lemmas.Option.same_Some, proofs.lemmas.Option.slice_get-get_or}
use Rattle.pk_base.{specs.Key.Key, specs.Key.key_cmp, specs.Shape.Shape, specs.Shape.IsShape, specs.Shape.charge, specs.Page.Flash, specs.Page.page_at, specs.Entry.Place, specs.EntryChecks.IsPlace}
use Rattle.pk_pool.{specs.Blocks.Blocks, specs.Blocks.PoolOnFlash, proofs.States.get-set_other, proofs.States.get-set_same, proofs.States.set_is, proofs.Fitting.block_of}
use Rattle.pk_model.{proofs.MapLemmas.key_total, proofs.Lookups.same_key}
use Rattle.pk_law_steps.specs.Under.{IsValuePage}
use Rattle.pk_live.{specs.Values.Values, specs.Values.IsClosed, specs.Lives.head_of, specs.declared.open_block.OpenBlock.OpenBlock, specs.OpenBlocks.closed_with}
use Rattle.pk_law_moves.{specs.Moves.moved, specs.Moves.AreApart as MovesApart, specs.Victims.AreMoved, proofs.Moved.page_moved, proofs.Emptying.none_left}
use Rattle.pk_gc.{specs.declared.course.Course.Course, specs.declared.moves.Move.Move, specs.Running.IsMove, specs.Running.IsRunning, specs.Running.AreInOrder, specs.Stepping.Hands}
use Rattle.pk_gc.specs.State.{JobState, new_place, placed_at, is_left, left_of, heads_behind, heads_all, target}
use Rattle.pk_gc.{specs.Ending.CanGive, proofs.Finishing.begins, proofs.Finishing.page_left, proofs.Finishing.empties}
use Rattle.pk_gc.proofs.Ending.{InBlocks, left_same, lefts_same, in_blocks}
use Rattle.pk_values.{specs.State.ValuesState, specs.Placed.ValuesOnFlash, specs.Placed.IsOpenIn, specs.Placed.IsNotOpen, specs.Placed.IsOutput, specs.Placed.HoldsValues, specs.Laws.SameValues}
use Rattle.pk_values.{proofs.Lists.page_put, proofs.Heads.AreLive, proofs.Heads.live_moved}

-- ---- the heads

-- A move to a place, of a value that is found where it came from if it remains.
record IsRelocation (shape : Shape) (heads : List ℕ) (es : List (Key × Place)) (m : Move) : Type 0 where
  is_place : IsPlace shape (new_place m)
  count_is : m.count ≡ charge shape m.len
  value : is_left heads m ≡ true → (place : Place) × (find key_cmp m.key es ≡ Some place) × (place.page ≡ m.from)

module _ (shape : Shape) (is_shape : IsShape shape) (victim output : ℕ) (other : victim ≢ output) where
  abbrev n : ℕ
  n = shape.block_pages

  -- after a move that remains, those that come from later pages remain as before, and their values are where they were
  later : (heads : List ℕ) (es : List (Key × Place)) (m : Move) (old : Place) (ms : List Move) → find key_cmp m.key es ≡ Some old → old.page ≡ m.from → InBlocks n victim output m
      → AllByRecursion (InBlocks n victim output) ms → AllByRecursion (λ x. m.from + m.count ≤ x.from) ms → AllByRecursion (IsRelocation shape heads es) ms
      → AllByRecursion (IsRelocation shape (heads_behind heads m) (put key_cmp m.key (new_place m) es)) ms
  later heads es m old [] found from of_m blocks order are = tt
  later heads es m old (x ∷ ms) found from of_m blocks order are = (
    record {
      is_place = are.0.is_place;
      count_is = are.0.count_is;
      value = λ left.
          let was = are.0.value (sym (left_same n victim output other heads m x of_m blocks.0 order.0) ∙ left) in
          let apart : x.key ≡ m.key → ⊥ = λ same.
          let one : was.0 ≡ old = same_Some was.0 old (sym was.1 ∙ (ap (λ (k : Key). find key_cmp k es) same ∙ found)) in
          let pages : x.from ≡ m.from = sym was.2 ∙ (ap (λ (p : Place). p.page) one ∙ from) in
          let some = of_m.some in
          let above = order.0 in
          omega (arith, pages, some, above) in (
            was.0,
            find-put key_cmp key_total x.key m.key (new_place m) es
                ∙ not_tied (Some (new_place m)) (find key_cmp x.key es) (Some was.0) (eq_by_cmp key_cmp x.key m.key) (λ tied. apart (same_key x.key m.key tied)) was.1,
            was.2,
          );
    },
    later heads es m old ms found from of_m blocks.1 order.1 are.1,
  )
    where
      not_tied : (a b c : Option Place) (t : Bool) → (t ≡ true → ⊥) → b ≡ c → cond t a b ≡ c
      not_tied a b c true never is = absurd (never refl)
      not_tied a b c false never is = is

  -- the heads after the moves are those of the moved values
  all_live : (heads : List ℕ) (es : List (Key × Place)) (ms : List Move) → AreLive shape heads es → T (is_sorted key_cmp es) → AllByRecursion (InBlocks n victim output) ms → AreInOrder ms
      → AllByRecursion (IsRelocation shape heads es) ms → MovesApart shape (placed_at ms) → ((k : ℕ) → IsValuePage shape (placed_at ms) k → IsValuePage shape es k → ⊥)
      → AreLive shape (heads_all heads ms) (moved (placed_at (left_of heads ms)) es)
  all_live heads es [] live rising blocks order are apart free = live
  all_live heads es (m ∷ ms) live rising blocks order are apart free =
      elim (is_left heads m) as (λ b. is_left heads m ≡ b → AreLive shape (heads_all (heads_behind heads m) ms) (moved (placed_at (cond b (m ∷ left_of heads ms) (left_of heads ms))) es)) [
        | true ↦ λ is.
            let old = are.0.value is in
            let es' : List (Key × Place) = put key_cmp m.key (new_place m) es in
            let now : AreLive shape (heads_behind heads m) es' =
            subst (λ (hs : List ℕ). AreLive shape hs es') ((λ i. set (set heads (old.2 i) 0) m.to (sym are.0.count_is i)) ∙ sym (ap (λ b. cond b (set (set heads m.from 0) m.to m.count) heads) is))
            (live_moved shape is_shape heads es m.key old.0 (new_place m) live rising old.1 are.0.is_place (λ k here there. free k (inl here) there)) in
            subst (λ (xs : List Move). AreLive shape (heads_all (heads_behind heads m) ms) (moved (placed_at xs) es')) (lefts_same n victim output other heads m ms blocks.0 blocks.1 order.0)
            (all_live (heads_behind heads m) es' ms now (is_sorted-put key_cmp key_total m.key (new_place m) es rising) blocks.1 order.1
            (later heads es m old.0 ms old.1 old.2 blocks.0 blocks.1 order.0 are.1) apart.1
            (λ k here there. elim (page_put shape m.key (new_place m) es k there) [ inl first ↦ apart.0 k first here | inr before ↦ free k (inr here) before ]))
        | false ↦ λ is.
            subst (λ (hs : List ℕ). AreLive shape (heads_all hs ms) (moved (placed_at (left_of heads ms)) es)) (sym (ap (λ b. cond b (set (set heads m.from 0) m.to m.count) heads) is))
            (all_live heads es ms live rising blocks.1 order.1 are.1 apart.1 (λ k here there. free k (inr here) there))
      ] refl

-- ---- the blocks

-- the block is the open one
abbrev IsOpenAt : Option OpenBlock → ℕ → Type 0
IsOpenAt o b = MatchOption o ⊥ (λ x. b ≡ x.block)

open_or_not : (o : Option OpenBlock) (b : ℕ) → IsOpenAt o b ⊎ IsNotOpen o b
open_or_not None b = inr tt
open_or_not (Some o) b = cases_eq b o.block

both : (o : Option OpenBlock) (b c : ℕ) → IsOpenAt o b → IsNotOpen o c → b ≢ c
both None b c here other same = absurd here
both (Some o) b c here other same = other (sym same ∙ here)

open_owned : (shape : Shape) (p : Blocks) (flash : Flash) (o : Option OpenBlock) (b : ℕ)
    → MatchOption o (Unit {0}) (λ x. IsOpenIn shape p flash x) → IsOpenAt o b → HoldsValues p b × (b < shape.blocks)
open_owned shape p flash None b open_is here = absurd here
open_owned shape p flash (Some o) b open_is here = (subst (λ k. HoldsValues p k) (sym here) open_is.owned, subst (λ k. k < shape.blocks) (sym here) open_is.exists)

-- what is closed if the open block is closed
was_closed : (o : Option OpenBlock) (closed : List Bool) (b : ℕ) → IsNotOpen o b → slice_get (closed_with o closed) b ≡ Some true → slice_get closed b ≡ Some true
was_closed None closed b other is = is
was_closed (Some o) closed b other is = sym (get-set_other closed o.block b true other) ∙ is

still_closed : (o : Option OpenBlock) (closed : List Bool) (b : ℕ) → IsNotOpen o b → slice_get closed b ≡ Some true → slice_get (closed_with o closed) b ≡ Some true
still_closed None closed b other is = is
still_closed (Some o) closed b other is = get-set_other closed o.block b true other ∙ is

now_closed : (o : Option OpenBlock) (closed : List Bool) (b : ℕ) → IsOpenAt o b → b < length closed → slice_get (closed_with o closed) b ≡ Some true
now_closed None closed b here exists = absurd here
now_closed (Some o) closed b here exists =
    subst (λ k. slice_get (set closed k true) b ≡ Some true) here (set_is closed b _ true (slice_get-get_or closed b false exists))

length-closed_with : (o : Option OpenBlock) (closed : List Bool) → length (closed_with o closed) ≡ length closed
length-closed_with None closed = refl
length-closed_with (Some o) closed = length-set closed o.block true

not_again : (closed : List Bool) (b : ℕ) → slice_get (set closed b false) b ≡ Some true → ⊥
not_again closed b is = let clash : true ≡ false = get-set_same closed b false true is in cc

-- the values if the moves are made, the victim is closed no more, and the output is the open block
abbrev pub relocated : Course → List Move → ValuesState → ValuesState
relocated c moves d = record {
  live = record { block_pages = d.live.block_pages; heads = heads_all d.live.heads moves; closed = closed_with d.open_block (set d.live.closed c.victim false) };
  open_block = Some (record { block = c.output; used = c.used });
}

module _ (shape : Shape) (c : Course) (job : JobState) (d : ValuesState) (h : Hands) (p : Blocks)
    (flash new : Flash) (es : List (Key × Place)) (placed : ValuesOnFlash shape d p (c.output ∷ []) flash es)
    (give : CanGive shape c job h flash es) (live_is : h.live ≡ d.live) where
  runs : IsRunning shape c job.moves job.page flash es
  runs = give.copied.runs

  blocks : AllByRecursion (InBlocks shape.block_pages c.victim c.output) job.moves
  blocks = in_blocks shape c job h flash es give job.moves runs.moves_are

  heads_are : (k : ℕ) → slice_index d.live.heads k ≡ head_of shape es k
  heads_are k = ap (λ (v : Values). slice_index v.heads k) (sym live_is) ∙ give.copied.heads_are k

  -- the value of a move that remains
  relocations : (ms : List Move) → AllByRecursion (IsMove shape c flash es) ms → AllByRecursion (IsRelocation shape d.live.heads es) ms
  relocations [] all = tt
  relocations (m ∷ ms) all = (
    record {
      is_place = all.0.is_place;
      count_is = all.0.count_is;
      value = λ left.
          let some : 0 < slice_index d.live.heads m.from = ltb-true 0 (slice_index d.live.heads m.from) left in
          let was = begins shape es m.from give.copied.rising (subst (λ x. 0 < x) (heads_are m.from) some) in
          let own = all.0.owner was.key was.place was.found was.page_is in
          (was.place, ap (λ (k : Key). find key_cmp k es) (sym own.0) ∙ was.found, was.page_is);
    },
    relocations ms all.1,
  )

  -- a page of a copy is in the part of the output that is written
  record IsCopied (k : ℕ) : Type 0 where
    low : c.output * shape.block_pages ≤ k
    high : k < target shape c
    block : k / shape.block_pages ≡ c.output

  copied_page : (ms : List Move) (k : ℕ) → AllByRecursion (IsMove shape c flash es) ms → IsValuePage shape (placed_at ms) k → IsCopied k
  copied_page [] k all is = absurd is
  copied_page (m ∷ ms) k all (inl here) =
      let from = here.0 in
      let end = here.1 in
      let count = all.0.count_is in
      let room = runs.room in
      let whole = give.copied.whole in
      let low : c.output * shape.block_pages ≤ k = let first = all.0.in_output in omega (arith, first, from) in
      let high : k < target shape c = let last = all.0.ends in omega (arith, last, end, count, whole) in
      record { low = low; high = high; block = block_of shape.block_pages k c.output low (omega (arith, high, room)) }
  copied_page (m ∷ ms) k all (inr there) = copied_page ms k all.1 there

  live : AreLive shape (heads_all d.live.heads job.moves) (moved (placed_at (left_of d.live.heads job.moves)) es)
  live =
      all_live shape runs.is_shape c.victim c.output runs.other d.live.heads es job.moves
      (record { places = placed.places; apart = placed.apart; heads_are = placed.heads_are }) give.copied.rising blocks runs.order
      (relocations job.moves runs.moves_are) runs.apart (λ k here there. runs.free k (copied_page job.moves k runs.moves_are here).block there)

  -- a page of a value is in the output, or where it lay
  page_is : (k : ℕ) → IsValuePage shape (moved (placed_at (left_of d.live.heads job.moves)) es) k → IsCopied k ⊎ IsValuePage shape es k
  page_is k is = elim (page_moved shape (placed_at (left_of d.live.heads job.moves)) es k is) [
    | inl new ↦ inl (copied_page job.moves k runs.moves_are (page_left d.live.heads shape job.moves k new))
    | inr old ↦ inr old
  ]

  of_output : HoldsValues p c.output
  of_output = placed.outputs_are.owned c.output (inl refl)

  closed : IsClosed d.live c.victim
  closed = subst (λ (v : Values). IsClosed v c.victim) live_is give.closed

  of_victim : HoldsValues p c.victim × IsNotOpen d.open_block c.victim × (IsOutput (c.output ∷ []) c.victim → ⊥)
  of_victim = placed.closed_owned c.victim closed

  not_output : IsNotOpen d.open_block c.output
  not_output = placed.outputs_are.not_open c.output (inl refl)

  pub ValuesOnFlash-relocated : SameValues shape p [] flash new → PoolOnFlash p new
      → ValuesOnFlash shape (relocated c job.moves d) p (c.victim ∷ []) new (moved (placed_at (left_of d.live.heads job.moves)) es)
  ValuesOnFlash-relocated same fits = record {
    is_shape = placed.is_shape;
    shape_is = placed.shape_is;
    size = placed.size;
    fits = fits;
    few = placed.few;
    places = live.places;
    apart = live.apart;
    owned = owned;
    written = λ k is. elim (page_is k is) [
      | inl copy ↦ λ e. runs.written k copy.low copy.high (sym (output_page k copy.block) ∙ e)
      | inr old ↦ λ e. placed.written k old (sym (same k (placed.owned k old) (λ none. none)) ∙ e)
    ];
    block_pages_is = placed.block_pages_is;
    heads_are = live.heads_are;
    closed_size = length-closed_with d.open_block (set d.live.closed c.victim false) ∙ length-set d.live.closed c.victim false ∙ placed.closed_size;
    closed_owned = λ b is. elim (open_or_not d.open_block b) [
      | inl here ↦ (
        (open_owned shape p flash d.open_block b placed.open_is here).0,
        both d.open_block b c.output here not_output,
        λ out. elim out [ inl e ↦ both d.open_block b c.victim here of_victim.1 e | inr none ↦ none ],
      )
      | inr not_open ↦ (
          let is' = was_closed d.open_block (set d.live.closed c.victim false) b not_open is in
          let ne : b ≢ c.victim = λ e. not_again d.live.closed c.victim (subst (λ k. slice_get (set d.live.closed c.victim false) k ≡ Some true) e is') in
          let old = placed.closed_owned b (sym (get-set_other d.live.closed c.victim b false ne) ∙ is') in
          (old.0, λ e. old.2 (inl e), λ out. elim out [ inl e ↦ ne e | inr none ↦ none ]))
    ];
    owned_closed = λ b held ne no_victim. elim (open_or_not d.open_block b) [
      | inl here ↦ (
          let exists = (open_owned shape p flash d.open_block b placed.open_is here).1 in
          let size = length-set d.live.closed c.victim false ∙ placed.closed_size in
          now_closed d.open_block (set d.live.closed c.victim false) b here (omega (arith, exists, size)))
      | inr not_open ↦ still_closed d.open_block (set d.live.closed c.victim false) b not_open
          (get-set_other d.live.closed c.victim b false (λ e. no_victim (inl e)) ∙ placed.owned_closed b held not_open (λ out. elim out [ inl e ↦ ne e | inr none ↦ none ]))
    ];
    behind_roots = placed.behind_roots;
    open_is = record {
      owned = of_output;
      behind_roots = runs.behind_roots;
      exists = runs.output_exists;
      within = let room = runs.room in omega (arith, room);
      even = let pairs = runs.even in let whole = give.copied.whole in omega (arith, pairs, whole);
      written = λ k low high e. runs.written k low high (sym (output_page k (block_of shape.block_pages k c.output low (let room = runs.room in omega (arith, high, room)))) ∙ e);
      unwritten = λ k low high. output_page k (block_of shape.block_pages k c.output (omega (arith, low)) high) ∙ runs.unwritten k low high;
    };
    outputs_are = record {
      different = refl;
      owned = λ b is. elim is [ inl e ↦ subst (λ k. HoldsValues p k) (sym e) of_victim.0 | inr none ↦ absurd none ];
      not_open = λ b is. elim is [ inl e ↦ (λ here. runs.other (sym e ∙ here)) | inr none ↦ absurd none ];
      unread = λ k is out. elim out [
        | inl e ↦ none_left shape c.victim c.output es (placed_at (left_of d.live.heads job.moves)) all_moved runs.other k e is
        | inr none ↦ none
      ];
    };
  }
    where
      output_page : (k : ℕ) → k / shape.block_pages ≡ c.output → page_at new k ≡ page_at flash k
      output_page k here = same k (subst (λ b. HoldsValues p b) (sym here) of_output) (λ none. none)

      owned : (k : ℕ) → IsValuePage shape (moved (placed_at (left_of d.live.heads job.moves)) es) k → HoldsValues p (k / shape.block_pages)
      owned k is = elim (page_is k is) [ inl copy ↦ subst (λ b. HoldsValues p b) (sym copy.block) of_output | inr old ↦ placed.owned k old ]

      all_moved : AreMoved shape c.victim c.output es (placed_at (left_of d.live.heads job.moves))
      all_moved =
          subst (λ (v : Values). AreMoved shape c.victim c.output es (placed_at (left_of v.heads job.moves))) live_is
          (empties shape c job.moves job.page h.live.heads flash es give.copied)
