-- A closed block without live pages is freed.
use Rattle.std.proofs.Common.{◌≡◌, ◌≢◌, ℕ, ◌/◌, ◌<◌, true, false, not, ◌==◌, Bool, List, Option, Some, None, sym, ap, subst, ◌∙◌, arith, length-set}
use Rattle.std.{specs.Prelude.slice_get, specs.Prelude.MatchOption, proofs.Math.ListN.set, proofs.lemmas.Bool.eq-eqb, proofs.lemmas.Option.slice_get_within}
use Rattle.pk_base.{specs.Key.Key, specs.Shape.Shape, specs.Page.Flash, specs.Entry.Place}
use Rattle.pk_plan.specs.declared.owner.Owner.TheVariants.{Values as for_values}
use Rattle.pk_pool.{specs.declared.state.BlockState.TheVariants.Free, specs.declared.state.BlockState.TheVariants.Owned, specs.Blocks.Blocks, specs.Blocks.with_state, proofs.Sharing.used_given}
use Rattle.pk_pool.{proofs.States.get-set_other, proofs.States.get-set_same, proofs.States.free_is_not_ready, proofs.Fitting.PoolOnFlash-marked}
use Rattle.pk_live.{specs.Values.IsClosed, specs.Values.count_of, specs.Values.block_sum, specs.Lives.is_used, proofs.Standing.block_is, specs.declared.open_block.OpenBlock.OpenBlock}
use Rattle.pk_model.specs.Values.{all_pages}
use Rattle.pk_law_steps.{specs.Under.IsValuePage, proofs.Places.value_in}
use Rattle.pk_values.{specs.State.ValuesState, specs.Placed.ValuesOnFlash, specs.Placed.IsOpenIn, specs.Placed.IsNotOpen, specs.Placed.IsOutput, specs.Placed.HoldsValues, proofs.Opening.any_block}

-- the values with these blocks closed
abbrev with_closed : ValuesState → List Bool → ValuesState
with_closed d closed = record d { live = record d.live { closed = closed } }

-- the pool if a block is freed
module _ (p : Blocks) (b : ℕ) where
  abbrev pub freed : Blocks
  freed = with_state p b Free

  pub freed_keeps : (c : ℕ) → c ≢ b → HoldsValues p c → HoldsValues freed c
  freed_keeps c ne is = get-set_other p.states b c Free ne ∙ is

  pub held_before : (c : ℕ) → HoldsValues freed c → (c ≢ b) × HoldsValues p c
  held_before c is =
      let other : c ≢ b = λ e.
      let same : Owned for_values ≡ Free = get-set_same p.states b Free (Owned for_values) (subst (λ k. HoldsValues freed k) e is) in cc in
      (other, sym (get-set_other p.states b c Free other) ∙ is)

  pub open_stays : (shape : Shape) (flash : Flash) (open_block : Option OpenBlock) → IsNotOpen open_block b → MatchOption open_block (Unit {0}) (λ o. IsOpenIn shape p flash o)
      → MatchOption open_block (Unit {0}) (λ o. IsOpenIn shape freed flash o)
  open_stays shape flash None other open_is = tt
  open_stays shape flash (Some o) other open_is = record {
    owned = freed_keeps o.block (λ e. other (sym e)) open_is.owned;
    behind_roots = open_is.behind_roots;
    exists = open_is.exists;
    within = open_is.within;
    even = open_is.even;
    written = open_is.written;
    unwritten = open_is.unwritten;
  }

module _ (shape : Shape) (d : ValuesState) (p : Blocks) (outputs : List ℕ) (flash : Flash) (es : List (Key × Place))
    (b : ℕ) (placed : ValuesOnFlash shape d p outputs flash es) (closed : IsClosed d.live b) where
  pub held : HoldsValues p b
  held = (placed.closed_owned b closed).0

  -- no page of a value is in the block
  empty_has_none : count_of d.live b ≡ 0 → (k : ℕ) → IsValuePage shape es k → k / shape.block_pages ≢ b
  empty_has_none empty k is here =
      let exists : b < shape.blocks = omega (arith, slice_get_within p.states b (Owned for_values) held, placed.size) in
      let sum_is : count_of d.live b ≡ block_sum d.live.heads shape.block_pages b = ap (λ (n : ℕ). block_sum d.live.heads n b) placed.block_pages_is in
      let zero_sum : (block_sum d.live.heads shape.block_pages b == 0) ≡ true = eq-eqb (block_sum d.live.heads shape.block_pages b) 0 (sym sum_is ∙ empty) in
      let unused : true ≡ not (is_used shape es b) = sym zero_sum ∙ ap (λ hs. block_sum hs shape.block_pages b == 0) placed.heads_are ∙ block_is shape placed.is_shape es b placed.places exists in
      let used : is_used shape es b ≡ true = ap (is_used shape es) (sym here) ∙ any_block shape.block_pages k (all_pages shape es) (value_in shape es k is) in
      let clash : true ≡ false = unused ∙ ap not used in
      cc

  pub ValuesOnFlash-released : count_of d.live b ≡ 0 → ValuesOnFlash shape (with_closed d (set d.live.closed b false)) (freed p b) outputs flash es
  ValuesOnFlash-released empty = record {
    is_shape = placed.is_shape;
    shape_is = placed.shape_is;
    size = length-set p.states b Free ∙ placed.size;
    fits = PoolOnFlash-marked p flash b Free free_is_not_ready placed.fits;
    few = let most = placed.few in let less = used_given p.states b for_values held in omega (arith, most, less);
    places = placed.places;
    apart = placed.apart;
    owned = λ k is. freed_keeps p b (k / shape.block_pages) (empty_has_none empty k is) (placed.owned k is);
    written = placed.written;
    block_pages_is = placed.block_pages_is;
    heads_are = placed.heads_are;
    closed_size = length-set d.live.closed b false ∙ placed.closed_size;
    closed_owned = λ c is.
        let other : c ≢ b = λ e. let clash : true ≡ false = get-set_same d.live.closed b false true (subst (λ k. slice_get (set d.live.closed b false) k ≡ Some true) e is) in cc in
        let old = placed.closed_owned c (sym (get-set_other d.live.closed b c false other) ∙ is) in
        (freed_keeps p b c other old.0, old.1, old.2);
    owned_closed = λ c is not_open no_output. let old = held_before p b c is in get-set_other d.live.closed b c false old.0 ∙ placed.owned_closed c old.1 not_open no_output;
    behind_roots = λ c is. placed.behind_roots c (held_before p b c is).1;
    open_is = open_stays p b shape flash d.open_block (placed.closed_owned b closed).1 placed.open_is;
    outputs_are = record {
      different = placed.outputs_are.different;
      owned = λ c is. freed_keeps p b c (λ e. (placed.closed_owned b closed).2 (subst (λ k. IsOutput outputs k) e is)) (placed.outputs_are.owned c is);
      not_open = placed.outputs_are.not_open;
      unread = placed.outputs_are.unread;
    };
  }

pub released_as : (shape : Shape) (d : ValuesState) (p q : Blocks) (outputs : List ℕ) (flash : Flash) (es : List (Key × Place)) (b : ℕ) (d' : ValuesState) → IsClosed d.live b → count_of d.live b ≡ 0
    → d' ≡ with_closed d (set d.live.closed b false) → q ≡ with_state p b Free → ValuesOnFlash shape d p outputs flash es → ValuesOnFlash shape d' q outputs flash es
released_as shape d p q outputs flash es b d' closed empty is is_pool placed =
    subst (λ (v : ValuesState). ValuesOnFlash shape v q outputs flash es) (sym is)
    (subst (λ (r : Blocks). ValuesOnFlash shape (with_closed d (set d.live.closed b false)) r outputs flash es) (sym is_pool) (ValuesOnFlash-released shape d p outputs flash es b placed closed empty))
