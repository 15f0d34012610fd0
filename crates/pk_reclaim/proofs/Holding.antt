-- A block that a reclaim holds: it is taken, written, and freed. The open block is closed before.
use Rattle.std.proofs.Common.{◌≡◌, ◌≢◌, inl, inr, ℕ, ◌+◌, ◌/◌, ◌≤◌, Bool, true, false, List, [], ◌∷◌, Option, Some, None, refl, sym, ap, subst, ◌∙◌, arith, length-set}
use Rattle.std.{specs.Prelude.slice_get, specs.Prelude.slice_set, specs.Prelude.MatchOption, proofs.Math.ListN.set, proofs.lemmas.Bool.cases_eq, proofs.lemmas.Option.slice_get-get_or}
use Rattle.pk_base.{specs.Key.Key, specs.Shape.Shape, specs.Shape.IsShape, specs.Page.Flash, specs.Page.whole, specs.Entry.Place}
use Rattle.pk_plan.specs.declared.owner.Owner.TheVariants.{Values as for_values}
use Rattle.pk_nand.{specs.BoardState.BoardState, proofs.Leaving.page_at-slice_set}
use Rattle.pk_pool.{specs.declared.state.BlockState.TheVariants.Free, specs.declared.state.BlockState.TheVariants.Owned, specs.Taking.SameButBlock, specs.Taking.ReachesIn, specs.Laws.IsInBlock}
use Rattle.pk_pool.specs.Blocks.{Blocks, PoolOnFlash, IsOwned, IsSpare, used_by, with_state}
use Rattle.pk_pool.proofs.Fitting.{PoolOnFlash-marked, PoolOnFlash-but_block, PoolOnFlash-programmed, owned_not_ready, in_block}
use Rattle.pk_pool.{proofs.States.get-set_other, proofs.States.set_is, proofs.States.free_is_not_ready, proofs.States.owned_is_not_ready, proofs.Sharing.used_given, proofs.Sharing.used_adopted}
use Rattle.pk_live.{specs.Values.Values, specs.OpenBlocks.closed_with, specs.declared.open_block.OpenBlock.OpenBlock}
use Rattle.pk_gc.{specs.Stepping.Hands, specs.Victims.Chooses}
use Rattle.pk_values.{specs.State.ValuesState, specs.Placed.ValuesOnFlash, specs.Placed.IsOpenIn, specs.Placed.IsNotOpen, specs.Placed.HoldsValues, specs.Laws.SameValues}
use Rattle.pk_values.proofs.Unchanged.{some_pages, open_same, flash_elsewhere}
use Rattle.pk_values.proofs.Filling.{another, kept, was, taken, same_values, reached_in}
use Rattle.pk_reclaim.{specs.Values.OutputTaken, specs.Values.DeadGivenBack, specs.Values.CopyProgrammed, specs.Values.VictimGivenBack, proofs.Releasing.freed, proofs.Releasing.freed_keeps}
use Rattle.pk_reclaim.proofs.Releasing.{held_before, open_stays, released_as}

abbrev state_of : Values → Option OpenBlock → ValuesState
state_of live open_block = record { live = live; open_block = open_block }

-- ---- the open block is closed

-- the values if the open block is closed, if there is one
abbrev pub closing : ValuesState → ValuesState
closing d = record { live = record d.live { closed = closed_with d.open_block d.live.closed }; open_block = None }

closed : (shape : Shape) (live : Values) (open_block : Option OpenBlock) (p : Blocks) (outputs : List ℕ) (flash : Flash) (es : List (Key × Place))
    → ValuesOnFlash shape (state_of live open_block) p outputs flash es
    → ValuesOnFlash shape (closing (state_of live open_block)) p outputs flash es
closed shape live None p outputs flash es placed = placed
closed shape live (Some o) p outputs flash es placed = record {
  is_shape = placed.is_shape;
  shape_is = placed.shape_is;
  size = placed.size;
  fits = placed.fits;
  few = placed.few;
  places = placed.places;
  apart = placed.apart;
  owned = placed.owned;
  written = placed.written;
  block_pages_is = placed.block_pages_is;
  heads_are = placed.heads_are;
  closed_size = length-set live.closed o.block true ∙ placed.closed_size;
  closed_owned = λ c is. elim (cases_eq c o.block) [
    | inl e ↦ (subst (λ k. HoldsValues p k) (sym e) open_is.owned, tt, λ output. placed.outputs_are.not_open c output e)
    | inr ne ↦ (let old = placed.closed_owned c (sym (get-set_other live.closed o.block c true ne) ∙ is) in (old.0, tt, old.2))
  ];
  owned_closed = λ c held not_open no_output. elim (cases_eq c o.block) [
    | inl e ↦ (let there = slice_get-get_or live.closed o.block false (let size = placed.closed_size in let exists = open_is.exists in omega (arith, size, exists)) in
        ap (λ k. slice_get (set live.closed o.block true) k) e ∙ set_true live.closed o.block _ there)
    | inr ne ↦ get-set_other live.closed o.block c true ne ∙ placed.owned_closed c held ne no_output
  ];
  behind_roots = placed.behind_roots;
  open_is = tt;
  outputs_are = record {
    different = placed.outputs_are.different;
    owned = placed.outputs_are.owned;
    not_open = λ c is. tt;
    unread = placed.outputs_are.unread;
  };
}
  where
    open_is : IsOpenIn shape p flash o
    open_is = placed.open_is

    set_true : (cs : List Bool) (i : ℕ) (x : Bool) → slice_get cs i ≡ Some x → slice_get (set cs i true) i ≡ Some true
    set_true cs i x is = set_is cs i x true is

pub ValuesOnFlash-closed : (shape : Shape) (d : ValuesState) (p : Blocks) (outputs : List ℕ) (flash : Flash) (es : List (Key × Place))
    → ValuesOnFlash shape d p outputs flash es → ValuesOnFlash shape (closing d) p outputs flash es
ValuesOnFlash-closed shape d = closed shape d.live d.open_block

-- a victim was chosen
pub chosen : (shape of_job : Shape) (d d' : ValuesState) (victim : ℕ) (p : Blocks) (outputs : List ℕ) (flash : Flash) (es : List (Key × Place))
    → Chooses of_job d.live d.open_block d'.live d'.open_block victim
    → ValuesOnFlash shape d p outputs flash es → ValuesOnFlash shape d' p outputs flash es
chosen shape of_job d d' victim p outputs flash es chooses placed = elim chooses.1 [
  | inl kept ↦ (
      let same : d' ≡ d = λ i. record { live = kept.0 i; open_block = kept.1 i } in
      subst (λ (v : ValuesState). ValuesOnFlash shape v p outputs flash es) (sym same) placed)
  | inr closes ↦ (
      let same : d' ≡ closing d = λ i. record { live = closes.0 i; open_block = closes.1 i } in
      subst (λ (v : ValuesState). ValuesOnFlash shape v p outputs flash es) (sym same) (ValuesOnFlash-closed shape d p outputs flash es placed))
]

-- ---- a block is taken

module _ (shape : Shape) (p : Blocks) (flash flash' : Flash) (b : ℕ) (spare : IsSpare p b) where
  abbrev with_output : Blocks
  with_output = with_state p b (Owned for_values)

  stays : (c : ℕ) → HoldsValues p c → HoldsValues with_output c
  stays = kept shape p [] flash flash' b spare

  other : (c : ℕ) → HoldsValues p c → c ≢ b
  other = another shape p [] flash flash' b spare

  not_open : (open_block : Option OpenBlock) → MatchOption open_block (Unit {0}) (λ o. IsOpenIn shape p flash o) → (c : ℕ) → c ≡ b → IsNotOpen open_block c
  not_open None open_is c e = tt
  not_open (Some o) open_is c e = λ same. other o.block open_is.owned (sym same ∙ e)

  pub ValuesOnFlash-held : (d : ValuesState) (es : List (Key × Place)) → ValuesOnFlash shape d p [] flash es → 2 ≤ b → PoolOnFlash with_output flash' → SameButBlock shape b flash flash'
      → used_by for_values with_output.states ≡ used_by for_values p.states + 1 → ValuesOnFlash shape d with_output (b ∷ []) flash' es
  ValuesOnFlash-held d es placed low fits same counted =
      let pages : SameValues shape p [] flash flash' = same_values shape p [] flash flash' b spare placed.is_shape same in
      record {
        is_shape = placed.is_shape;
        shape_is = placed.shape_is;
        size = length-set p.states b (Owned for_values) ∙ placed.size;
        fits = fits;
        few = let few = placed.few in omega (arith, few, counted);
        places = placed.places;
        apart = placed.apart;
        owned = λ k is. stays (k / shape.block_pages) (placed.owned k is);
        written = λ k is e. placed.written k is (sym (pages k (placed.owned k is) (λ none. none)) ∙ e);
        block_pages_is = placed.block_pages_is;
        heads_are = placed.heads_are;
        closed_size = placed.closed_size;
        closed_owned = λ c is. let old = placed.closed_owned c is in (stays c old.0, old.1, λ output. elim output [ inl e ↦ other c old.0 e | inr none ↦ none ]);
        owned_closed = λ c held not_open no_output. placed.owned_closed c (was shape p [] flash flash' b spare c (λ e. no_output (inl e)) held) not_open (λ none. none);
        behind_roots = λ c held. elim (cases_eq c b) [ inl e ↦ subst (λ k. 2 ≤ k) (sym e) low | inr ne ↦ placed.behind_roots c (was shape p [] flash flash' b spare c ne held) ];
        open_is = open_same shape p with_output [] flash flash' d.open_block stays pages placed.outputs_are.not_open placed.open_is;
        outputs_are = record {
          different = refl;
          owned = λ c is. elim is [ inl e ↦ subst (λ k. HoldsValues with_output k) (sym e) (taken shape p [] flash flash' b spare) | inr none ↦ absurd none ];
          not_open = λ c is. elim is [ inl e ↦ not_open d.open_block placed.open_is c e | inr none ↦ absurd none ];
          unread = λ k is output. elim output [ inl e ↦ other (k / shape.block_pages) (placed.owned k is) e | inr none ↦ none ];
        };
      }

-- ---- a page of it is written

-- a program in a block with an owner leaves the pool fitting
pub programmed_pool : (shape : Shape) (p : Blocks) (page : ℕ) (bytes : List ℕ) (flash : Flash) → IsShape shape → p.shape ≡ shape → IsOwned p (page / shape.block_pages) → PoolOnFlash p flash
    → PoolOnFlash p (slice_set flash page (whole bytes))
programmed_pool shape p page bytes flash is_shape same owned fits =
    PoolOnFlash-programmed p flash (page / shape.block_pages) page bytes (owned_not_ready p (page / shape.block_pages) owned)
    (subst (λ (s : Shape). IsInBlock s (page / shape.block_pages) page) (sym same) (in_block shape.block_pages page (page / shape.block_pages) (some_pages shape is_shape) refl)) fits

pub programmed_output : CopyProgrammed
programmed_output shape d p output page bytes flash es placed here =
    flash_elsewhere shape d p (output ∷ []) flash (slice_set flash page (whole bytes)) es placed
    (λ k held no_output. page_at-slice_set flash page k (whole bytes) (λ same. no_output (inl (ap (λ x. x / shape.block_pages) same ∙ here))))
    (programmed_pool shape p page bytes flash placed.is_shape placed.shape_is (for_values, subst (λ b. HoldsValues p b) (sym here) (placed.outputs_are.owned output (inl refl))) placed.fits)

-- ---- it is freed

module _ (shape : Shape) (d : ValuesState) (p : Blocks) (b : ℕ) (flash : Flash) (es : List (Key × Place)) (placed : ValuesOnFlash shape d p (b ∷ []) flash es) where
  held : HoldsValues p b
  held = placed.outputs_are.owned b (inl refl)

  pub ValuesOnFlash-given : ValuesOnFlash shape d (freed p b) [] flash es
  ValuesOnFlash-given = record {
    is_shape = placed.is_shape;
    shape_is = placed.shape_is;
    size = length-set p.states b Free ∙ placed.size;
    fits = PoolOnFlash-marked p flash b Free free_is_not_ready placed.fits;
    few = let most = placed.few in let less = used_given p.states b for_values held in omega (arith, most, less);
    places = placed.places;
    apart = placed.apart;
    owned = λ k is. freed_keeps p b (k / shape.block_pages) (λ e. placed.outputs_are.unread k is (inl e)) (placed.owned k is);
    written = placed.written;
    block_pages_is = placed.block_pages_is;
    heads_are = placed.heads_are;
    closed_size = placed.closed_size;
    closed_owned = λ c is. let old = placed.closed_owned c is in (freed_keeps p b c (λ e. old.2 (inl e)) old.0, old.1, λ none. none);
    owned_closed = λ c is not_open no_output. let old = held_before p b c is in placed.owned_closed c old.1 not_open (λ output. elim output [ inl e ↦ old.0 e | inr none ↦ none ]);
    behind_roots = λ c is. placed.behind_roots c (held_before p b c is).1;
    open_is = open_stays p b shape flash d.open_block (placed.outputs_are.not_open b (inl refl)) placed.open_is;
    outputs_are = record { different = refl; owned = λ c is. absurd is; not_open = λ c is. absurd is; unread = λ k is none. none };
  }

  pub one_less : used_by for_values (freed p b).states + 1 ≡ used_by for_values p.states
  one_less = used_given p.states b for_values held

-- ---- the steps

pub output_taken : OutputTaken
output_taken shape job job' d d' p q old new es placed s = (
  subst (λ (r : Blocks). ValuesOnFlash shape d' r (s.output ∷ []) new.pages es) (sym s.taken)
      (ValuesOnFlash-held shape p old.pages new.pages s.output s.spare d' es placed' s.place.0 fits same counted),
  ap (λ (r : Blocks). used_by for_values r.states) s.taken ∙ counted,
)
  where
    placed' : ValuesOnFlash shape d' p [] old.pages es
    placed' = chosen shape job.shape d d' s.victim p [] old.pages es s.chooses placed

    same : SameButBlock shape s.output old.pages new.pages
    same = reached_in shape s.output old new (subst (λ (z : Shape). ReachesIn z s.output old new) placed.shape_is s.cuts)

    counted : used_by for_values (with_state p s.output (Owned for_values)).states ≡ used_by for_values p.states + 1
    counted = used_adopted p.shape p.states s.output for_values s.spare

    owned_now : IsOwned (with_state p s.output (Owned for_values)) s.output
    owned_now = (for_values, taken shape p [] old.pages new.pages s.output s.spare)

    fits : PoolOnFlash (with_state p s.output (Owned for_values)) new.pages
    fits =
        PoolOnFlash-but_block (with_state p s.output (Owned for_values)) old.pages new.pages s.output (owned_not_ready (with_state p s.output (Owned for_values)) s.output owned_now)
        (subst (λ (z : Shape). SameButBlock z s.output old.pages new.pages) (sym placed.shape_is) same)
        (PoolOnFlash-marked p old.pages s.output (Owned for_values) owned_is_not_ready placed.fits)

pub dead_given_back : DeadGivenBack
dead_given_back shape job job' d d' p q old new es placed g = (
  subst (λ (f : Flash). ValuesOnFlash shape d' q [] f es) (ap (λ (b : BoardState). b.pages) (sym g.same))
      (released_as shape middle p q [] old.pages es g.victim d' g.chooses.0.least.closed g.empty (λ i. record { live = g.forgotten i; open_block = d'.open_block }) g.given placed'),
  ap (λ (r : Blocks). used_by for_values r.states + 1) g.given ∙ used_given p.states g.victim for_values (placed'.closed_owned g.victim g.chooses.0.least.closed).0,
)
  where
    middle : ValuesState
    middle = record { live = g.chosen; open_block = d'.open_block }

    placed' : ValuesOnFlash shape middle p [] old.pages es
    placed' = chosen shape job.shape d middle g.victim p [] old.pages es g.chooses placed

pub victim_given_back : VictimGivenBack
victim_given_back shape victim job job' d d' p q active active' epoch epoch' old new r es placed g =
    let same : d' ≡ d = λ i. record { live = (ap (λ (h : Hands). h.live) g.hands) i; open_block = (ap (λ (h : Hands). h.front) g.hands) i } in
    let pool_is : q ≡ with_state p victim Free = ap (λ (h : Hands). h.pool) g.hands in (
      subst (λ (f : Flash). ValuesOnFlash shape d' q [] f es) (ap (λ (b : BoardState). b.pages) (sym g.board))
          (subst (λ (v : ValuesState). ValuesOnFlash shape v q [] old.pages es) (sym same)
          (subst (λ (x : Blocks). ValuesOnFlash shape d x [] old.pages es) (sym pool_is) (ValuesOnFlash-given shape d p victim old.pages es placed))),
      ap (λ (x : Blocks). used_by for_values x.states + 1) pool_is ∙ one_less shape d p victim old.pages es placed,
    )
