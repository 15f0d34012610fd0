-- Placed values, after a key got a value at another place, or lost it.
use Rattle.std.proofs.Common.{◌≡◌, ◌≢◌, inl, inr, ℕ, ◌+◌, ◌*◌, ◌/◌, ◌%◌, ◌<◌, ◌≤◌, T, List, length, get_or, sum, Option, Some, None, refl, sym, ap, subst, ◌∙◌, arith}
use Rattle.std.{specs.Prelude.slice_get, specs.Prelude.MatchOption, specs.FinMap.Entries.put, specs.FinMap.Entries.find, specs.FinMap.Entries.is_sorted, proofs.Math.ListN.set}
use Rattle.std.{proofs.Math.Nat.mul_comm, proofs.lemmas.Nat.div-add-mod', proofs.lemmas.Option.slice_get-get_or, proofs.lemmas.List.FromFn.length-map-range_with_len}
use Rattle.pk_base.{specs.Key.Key, specs.Key.key_cmp, specs.Shape.Shape, specs.Shape.IsShape, specs.Shape.page_count, specs.Shape.charge, specs.Shape.greatest, specs.Entry.Place}
use Rattle.pk_base.{specs.Page.Flash, specs.Page.page_at, specs.Page.erased, specs.EntryChecks.IsPlace, proofs.BlockLemmas.apart}
use Rattle.pk_segfmt.proofs.StoredLemmas.{charge_some}
use Rattle.pk_pool.{specs.Blocks.Blocks, proofs.Fitting.block_of}
use Rattle.pk_model.{specs.Values.all_pages, specs.Laws.IsPageOf}
use Rattle.pk_law_steps.specs.Under.{IsValuePage}
use Rattle.pk_live.{specs.Lives.head_of, proofs.Standing.heads_read, proofs.Standing.total_is, specs.declared.open_block.OpenBlock.OpenBlock}
use Rattle.pk_values.{specs.declared.span.Span.Span, specs.State.ValuesState, specs.State.with_head, specs.State.with_heads, proofs.Heads.AreLive, proofs.Heads.live_removed, proofs.Heads.live_added}
use Rattle.pk_values.specs.Placed.{ValuesOnFlash, IsOpenIn, IsOutput, IsNotOpen, HoldsValues, without}
use Rattle.pk_values.specs.Entries.{span_if_some, heads_without, ValueHeld, ValueMoves}
use Rattle.pk_values.proofs.Lists.{put_without, nothing_out, find_gone, page_put, page_without, found_place, head_none, head_found}

-- pages that were written into a block for values
pub record InBlock (shape : Shape) (pool : Blocks) (outputs : List ℕ) (flash : Flash) (place : Place) : Type 0 where
  pub is_place : IsPlace shape place
  pub owned : (k : ℕ) → IsPageOf shape k place → HoldsValues pool (k / shape.block_pages)
  pub no_output : (k : ℕ) → IsPageOf shape k place → IsOutput outputs (k / shape.block_pages) → ⊥
  pub written : (k : ℕ) → IsPageOf shape k place → page_at flash k ≢ erased

in_block : (shape : Shape) (pool : Blocks) (outputs : List ℕ) (flash : Flash) (place : Place) (open_block : Option OpenBlock) → IsShape shape → place.page % 2 ≡ 0 → place.len ≤ greatest shape
    → MatchOption open_block (Unit {0}) (λ o. IsOpenIn shape pool flash o) → ((b : ℕ) → IsOutput outputs b → IsNotOpen open_block b)
    → MatchOption open_block ⊥ (λ o. (o.block * shape.block_pages ≤ place.page) × (place.page + charge shape place.len ≤ o.block * shape.block_pages + o.used)) → InBlock shape pool outputs flash place
in_block shape pool outputs flash place None is_shape even short open_is not_open inside = absurd inside
in_block shape pool outputs flash place (Some o) is_shape even short open_is not_open inside =
    let n : ℕ = shape.block_pages in
    let some = charge_some shape is_shape place.len in
    let low = inside.0 in
    let high = inside.1 in
    let block : (k : ℕ) → IsPageOf shape k place → k / n ≡ o.block = λ k is. block_of n k o.block (omega (arith, low, is.0)) (omega (arith, high, is.1, open_is.within)) in
    let first : place.page / n ≡ o.block = block place.page (omega arith, omega (arith, some)) in
    let whole : o.block * n + place.page % n ≡ place.page = subst (λ x. x * n + place.page % n ≡ place.page) first (div-add-mod' place.page n) in
    let end : o.block * n + n ≤ shape.blocks * n = apart o.block shape.blocks n open_is.exists in
    record {
      is_place = record {
        exists = omega (arith, end, high, some, open_is.within, mul_comm n shape.blocks);
        past_roots = omega (arith, first, open_is.behind_roots);
        even = even;
        short = short;
        inside = omega (arith, whole, high, open_is.within);
      };
      owned = λ k is. subst (λ b. HoldsValues pool b) (sym (block k is)) open_is.owned;
      no_output = λ k is output. not_open (k / n) output (block k is);
      written = λ k is. open_is.written k (omega (arith, low, is.0)) (omega (arith, high, is.1));
    }

module _ (shape : Shape) (d : ValuesState) (pool : Blocks) (outputs : List ℕ) (flash : Flash) (es : List (Key × Place)) (p : ValuesOnFlash shape d pool outputs flash es) where
  -- what the live map has for a page
  head_at : (h : ℕ) → h < page_count shape → slice_get d.live.heads h ≡ Some (head_of shape es h)
  head_at h exists =
      let len = length-map-range_with_len (head_of shape es) 0 (page_count shape) in
      slice_get-get_or d.live.heads h 0 (omega (arith, exists, ap length p.heads_are, len)) ∙ ap Some (ap (λ hs. get_or hs h 0) p.heads_are ∙ heads_read shape p.is_shape es h p.places)

  -- it begins with the value of a key
  pub head_is : (key : Key) (place : Place) → find key_cmp key es ≡ Some place → slice_get d.live.heads place.page ≡ Some (charge shape place.len)
  head_is key place found = head_at place.page (found_place shape key place es p.places found).exists ∙ ap Some (head_found shape p.is_shape key place es p.apart found)

  -- or with none
  pub head_free : (place : Place) → IsPlace shape place → ((k : ℕ) → IsPageOf shape k place → IsValuePage shape es k → ⊥) → slice_get d.live.heads place.page ≡ Some 0
  head_free place is free =
      head_at place.page is.exists ∙ ap Some (head_none shape p.is_shape es place.page (free place.page (omega arith, omega (arith, charge_some shape p.is_shape place.len))))

  live : AreLive shape d.live.heads es
  live = record { places = p.places; apart = p.apart; heads_are = p.heads_are }

  -- a page of a value is in a block for values that is no output, and it is written
  abbrev HoldsPage : ℕ → Type 0
  HoldsPage k = HoldsValues pool (k / shape.block_pages) × (page_at flash k ≢ erased) × (IsOutput outputs (k / shape.block_pages) → ⊥)

  holds : (k : ℕ) → IsValuePage shape es k → HoldsPage k
  holds k is = (p.owned k is, p.written k is, p.outputs_are.unread k is)

  -- other values with such pages
  ValuesOnFlash-other : (heads : List ℕ) (es' : List (Key × Place)) → AreLive shape heads es' → ((k : ℕ) → IsValuePage shape es' k → HoldsPage k)
      → ValuesOnFlash shape (with_heads d heads) pool outputs flash es'
  ValuesOnFlash-other heads es' after each = record {
    is_shape = p.is_shape;
    shape_is = p.shape_is;
    size = p.size;
    fits = p.fits;
    few = p.few;
    places = after.places;
    apart = after.apart;
    owned = λ k is. (each k is).0;
    written = λ k is. (each k is).1;
    block_pages_is = p.block_pages_is;
    heads_are = after.heads_are;
    closed_size = p.closed_size;
    closed_owned = p.closed_owned;
    owned_closed = p.owned_closed;
    behind_roots = p.behind_roots;
    open_is = p.open_is;
    outputs_are = record { different = p.outputs_are.different; owned = p.outputs_are.owned; not_open = p.outputs_are.not_open; unread = λ k is. (each k is).2 };
  }

  -- a key less
  pub ValuesOnFlash-removed : (key : Key) (place : Place) → T (is_sorted key_cmp es) → find key_cmp key es ≡ Some place
      → ValuesOnFlash shape (with_head d place.page 0) pool outputs flash (without key es)
  ValuesOnFlash-removed key place rising found = ValuesOnFlash-other (set d.live.heads place.page 0) (without key es)
      (live_removed shape p.is_shape d.live.heads es live key place rising found) (λ k is. holds k (page_without shape key es k is))

  -- a key more
  pub ValuesOnFlash-added : (key : Key) (place : Place) → find key_cmp key es ≡ None → InBlock shape pool outputs flash place → ((k : ℕ) → IsPageOf shape k place → IsValuePage shape es k → ⊥)
      → ValuesOnFlash shape (with_head d place.page (charge shape place.len)) pool outputs flash (put key_cmp key place es)
  ValuesOnFlash-added key place none within free = ValuesOnFlash-other (set d.live.heads place.page (charge shape place.len)) (put key_cmp key place es)
      (live_added shape p.is_shape d.live.heads es live key place none within.is_place free)
      (λ k is. elim (page_put shape key place es k is) [ inl new ↦ (within.owned k new, within.written k new, within.no_output k new) | inr old ↦ holds k old ])

-- ---- the calls

-- the head of a value that is held
pub held_head : (d : ValuesState) (span : Span) → ValueHeld d span → slice_get d.live.heads span.page ≡ Some span.count
held_head d span h =
    subst (λ (s : Span). slice_get d.live.heads s.page ≡ Some s.count) h.span_is (head_is h.shape d h.pool h.outputs h.flash h.es h.placed h.key h.place h.found)

pub removed : (d : ValuesState) (span : Span) (h : ValueHeld d span) → ValuesOnFlash h.shape (with_head d span.page 0) h.pool h.outputs h.flash (without h.key h.es)
removed d span h =
    subst (λ (s : Span). ValuesOnFlash h.shape (with_head d s.page 0) h.pool h.outputs h.flash (without h.key h.es)) h.span_is
    (ValuesOnFlash-removed h.shape d h.pool h.outputs h.flash h.es h.placed h.key h.place h.rising h.found)

-- the state without the value that a key had
abbrev before : ValuesState → Option Span → ValuesState
before d old = with_heads d (heads_without old d.live.heads)

module _ (d : ValuesState) (old : Option Span) (new : Span) (m : ValueMoves d old new) where
  within : InBlock m.shape m.pool m.outputs m.flash m.place
  within = in_block m.shape m.pool m.outputs m.flash m.place d.open_block m.placed.is_shape m.even m.short m.placed.open_is m.placed.outputs_are.not_open m.in_open

  pub old_head : MatchOption old (Unit {0}) (λ s. slice_get d.live.heads s.page ≡ Some s.count)
  old_head =
      subst (λ (o : Option Span). MatchOption o (Unit {0}) (λ s. slice_get d.live.heads s.page ≡ Some s.count)) m.old_is
      (elim (find key_cmp m.key m.es) as (λ f. find key_cmp m.key m.es ≡ f → MatchOption (span_if_some m.shape f) (Unit {0}) (λ s. slice_get d.live.heads s.page ≡ Some s.count)) [
        | None ↦ λ f. tt
        | Some place ↦ λ f. head_is m.shape d m.pool m.outputs m.flash m.es m.placed m.key place f
      ] refl)

  -- the values without the key, whether or not it was there
  placed_before : ValuesOnFlash m.shape (before d old) m.pool m.outputs m.flash (without m.key m.es)
  placed_before =
      subst (λ (o : Option Span). ValuesOnFlash m.shape (before d o) m.pool m.outputs m.flash (without m.key m.es)) m.old_is
      (elim (find key_cmp m.key m.es) as (λ f. find key_cmp m.key m.es ≡ f → ValuesOnFlash m.shape (before d (span_if_some m.shape f)) m.pool m.outputs m.flash (without m.key m.es)) [
        | None ↦ λ f. subst (λ es. ValuesOnFlash m.shape d m.pool m.outputs m.flash es) (sym (nothing_out m.key m.es f)) m.placed
        | Some place ↦ λ f. ValuesOnFlash-removed m.shape d m.pool m.outputs m.flash m.es m.placed m.key place m.rising f
      ] refl)

  free_before : (k : ℕ) → IsPageOf m.shape k m.place → IsValuePage m.shape (without m.key m.es) k → ⊥
  free_before k here there = m.free k here (page_without m.shape m.key m.es k there)

  pub new_head : slice_get (heads_without old d.live.heads) new.page ≡ Some 0
  new_head =
      ap (λ (s : Span). slice_get (heads_without old d.live.heads) s.page) (sym m.new_is)
      ∙ head_free m.shape (before d old) m.pool m.outputs m.flash (without m.key m.es) placed_before m.place within.is_place free_before

  pub new_inside : new.page % d.live.block_pages + new.count ≤ d.live.block_pages
  new_inside =
      subst (λ (s : Span). s.page % d.live.block_pages + s.count ≤ d.live.block_pages) m.new_is
      (subst (λ (n : ℕ). m.place.page % n + charge m.shape m.place.len ≤ n) (sym m.placed.block_pages_is) within.is_place.inside)

  pub moved : ValuesOnFlash m.shape (with_head (before d old) new.page new.count) m.pool m.outputs m.flash (put key_cmp m.key m.place m.es)
  moved =
      subst (λ (s : Span). ValuesOnFlash m.shape (with_head (before d old) s.page s.count) m.pool m.outputs m.flash (put key_cmp m.key m.place m.es)) m.new_is
      (subst (λ es. ValuesOnFlash m.shape (with_head (before d old) m.place.page (charge m.shape m.place.len)) m.pool m.outputs m.flash es) (put_without m.key m.place m.es m.rising)
      (ValuesOnFlash-added m.shape (before d old) m.pool m.outputs m.flash (without m.key m.es) placed_before m.key m.place (find_gone m.key m.es) within free_before))

-- the same, if the state is known by an equation
pub removed_as : (d : ValuesState) (span : Span) (d' : ValuesState) → d' ≡ with_head d span.page 0 → (h : ValueHeld d span) → ValuesOnFlash h.shape d' h.pool h.outputs h.flash (without h.key h.es)
removed_as d span d' is h = subst (λ (v : ValuesState). ValuesOnFlash h.shape v h.pool h.outputs h.flash (without h.key h.es)) (sym is) (removed d span h)

pub moved_as : (d : ValuesState) (old : Option Span) (new : Span) (d' : ValuesState) → d' ≡ with_head (with_heads d (heads_without old d.live.heads)) new.page new.count
    → (m : ValueMoves d old new) → ValuesOnFlash m.shape d' m.pool m.outputs m.flash (put key_cmp m.key m.place m.es)
moved_as d old new d' is m = subst (λ (v : ValuesState). ValuesOnFlash m.shape v m.pool m.outputs m.flash (put key_cmp m.key m.place m.es)) (sym is) (moved d old new m)

-- all live pages
pub total_of : (shape : Shape) (d : ValuesState) (pool : Blocks) (outputs : List ℕ) (flash : Flash) (es : List (Key × Place))
    → ValuesOnFlash shape d pool outputs flash es → sum d.live.heads ≡ length (all_pages shape es)
total_of shape d pool outputs flash es p = ap sum p.heads_are ∙ total_is shape p.is_shape es p.places
