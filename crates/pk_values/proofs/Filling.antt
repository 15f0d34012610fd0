-- The open block: its next pages, another block in its place, and pages that were written.
use Rattle.std.proofs.Common.{◌≡◌, ◌≢◌, inl, inr, ℕ, ◌+◌, ◌-◌, ◌*◌, ◌/◌, ◌%◌, ◌<◌, ◌≤◌, Bool, true, false, not, ◌&&◌, cond, T, nat_le, List, length, Option, Some, None, refl, sym, ap, subst, ◌∙◌}
use Rattle.std.proofs.Common.{arith, length-set, leb→le, le→leb}
use Rattle.std.{specs.Prelude.slice_get, specs.Prelude.MatchOption, proofs.Math.ListN.set, proofs.Math.Nat.mul_comm, proofs.lemmas.Nat.div-add-mod', proofs.lemmas.Option.slice_get-get_or}
use Rattle.std.proofs.lemmas.Bool.{cases_eq, cases_lt}
use Rattle.pk_base.{specs.Key.Key, specs.Shape.Shape, specs.Shape.IsShape, specs.Shape.data_blocks, specs.Shape.most_pages, specs.Page.Flash, specs.Page.page_at, specs.Entry.Place}
use Rattle.pk_base.{specs.Mark.all_posted, proofs.Logic.is_true, proofs.BlockLemmas.apart}
use Rattle.pk_nand.{specs.BoardState.BoardState, proofs.Reaching.Went-reached, specs.Operations.IsErasedBlock}
use Rattle.pk_plan.specs.declared.owner.Owner.TheVariants.{Values as for_values}
use Rattle.pk_pool.specs.declared.state.BlockState.TheVariants.{Free, Ready, Owned}
use Rattle.pk_pool.{specs.Blocks.Blocks, specs.Blocks.PoolOnFlash, specs.Blocks.IsSpare, specs.Blocks.used_by, specs.Blocks.with_state, proofs.States.get-set_other, proofs.States.set_is}
use Rattle.pk_pool.specs.Taking.{SameButBlock, ReachesIn, WentIn, FailsToErase}
use Rattle.pk_pool.proofs.Fitting.{block_of, even_start, PoolOnFlash-outside, owned_not_ready}
use Rattle.pk_live.{specs.Values.Values, specs.declared.open_block.OpenBlock.OpenBlock, specs.OpenBlocks.closed_with}
use Rattle.pk_law_steps.specs.Under.{IsValuePage}
use Rattle.pk_values.specs.State.{ValuesState, has_left, page_behind, fits_open, next_page, block_opened, more_used, with_written, needs_reclaim}
use Rattle.pk_values.{specs.Placed.ValuesOnFlash, specs.Placed.AreOutputs, specs.Placed.IsOpenIn, specs.Placed.IsNotOpen, specs.Placed.IsOutput, specs.Placed.HoldsValues, specs.Entries.IsInOpen}
use Rattle.pk_values.{specs.Reserving.IsReserved, specs.Reserving.WritesNext, specs.Reserving.IsFreeOf, specs.Laws.SameValues, proofs.Unchanged.flash_elsewhere}

abbrev state_of : Values → Option OpenBlock → ValuesState
state_of live open_block = record { live = live; open_block = open_block }

-- ---- the next pages

reserved : (shape : Shape) (live : Values) (open_block : Option OpenBlock) (pool : Blocks) (outputs : List ℕ) (flash : Flash) (es : List (Key × Place)) (page count : ℕ)
    → ValuesOnFlash shape (state_of live open_block) pool outputs flash es → 1 ≤ count → has_left shape open_block count ≡ true → page ≡ page_behind shape open_block
    → IsReserved shape (state_of live open_block) pool flash page count
reserved shape live None pool outputs flash es page count p some room is = cc
reserved shape live (Some o) pool outputs flash es page count p some room is =
    let n : ℕ = shape.block_pages in
    let open_is : IsOpenIn shape pool flash o = p.open_is in
    let left : o.used + count ≤ n = leb→le (o.used + count) n (subst T (sym room) tt) in
    let block : page / n ≡ o.block = block_of n page o.block (omega (arith, is)) (omega (arith, is, left, some)) in
    let whole : o.block * n + page % n ≡ page = subst (λ x. x * n + page % n ≡ page) block (div-add-mod' page n) in
    let end : o.block * n + n ≤ shape.blocks * n = apart o.block shape.blocks n open_is.exists in
    record {
      next = is;
      room = room;
      even = omega (arith, is, even_start o.block n p.is_shape.eights, open_is.even);
      exists = omega (arith, is, end, left, mul_comm n shape.blocks);
      inside = omega (arith, is, whole, left);
      behind_roots = omega (arith, block, open_is.behind_roots);
      owned = subst (λ b. HoldsValues pool b) (sym block) open_is.owned;
      free = λ k low high. open_is.unwritten k (omega (arith, is, low)) (omega (arith, is, high, left));
      order = record {
        before = λ k low high. open_is.written k (omega (arith, whole, low)) (omega (arith, is, high));
        behind = λ k low high. open_is.unwritten k (omega (arith, is, low)) (omega (arith, whole, high));
      };
    }

pub reserved_next : (shape : Shape) (d : ValuesState) (pool : Blocks) (outputs : List ℕ) (flash : Flash) (es : List (Key × Place)) (page count : ℕ)
    → ValuesOnFlash shape d pool outputs flash es → 1 ≤ count → fits_open shape d count ≡ true → page ≡ next_page shape d → IsReserved shape d pool flash page count
reserved_next shape d pool outputs flash es page count p = reserved shape d.live d.open_block pool outputs flash es page count p

-- what a page that was found shows
pub found_next : (b : Bool) (next page : ℕ) (answer : Option ℕ) → answer ≡ cond b (Some next) None → answer ≡ Some page → (b ≡ true) × (page ≡ next)
found_next true next page answer e is = (refl, cc)
found_next false next page answer e is = cc

-- ---- another block

module _ (shape : Shape) (pool : Blocks) (outputs : List ℕ) (flash flash' : Flash) (b : ℕ) (spare : IsSpare pool b) where
  abbrev then_pool : Blocks
  then_pool = with_state pool b (Owned for_values)

  pub another : (c : ℕ) → HoldsValues pool c → c ≢ b
  another c held e =
      let h : slice_get pool.states b ≡ Some (Owned for_values) = subst (λ k. HoldsValues pool k) e held in
      elim spare [ inl free ↦ cc | inr ready ↦ cc ]

  pub kept : (c : ℕ) → HoldsValues pool c → HoldsValues then_pool c
  kept c held = get-set_other pool.states b c (Owned for_values) (another c held) ∙ held

  pub was : (c : ℕ) → c ≢ b → HoldsValues then_pool c → HoldsValues pool c
  was c ne held = sym (get-set_other pool.states b c (Owned for_values) ne) ∙ held

  pub taken : HoldsValues then_pool b
  taken = elim spare [ inl free ↦ set_is pool.states b Free (Owned for_values) free | inr ready ↦ set_is pool.states b Ready (Owned for_values) ready ]

  closed_owned : (closed : List Bool) (open_block : Option OpenBlock) → ((c : ℕ) → slice_get closed c ≡ Some true → HoldsValues pool c × IsNotOpen open_block c × (IsOutput outputs c → ⊥))
      → MatchOption open_block (Unit {0}) (λ o. IsOpenIn shape pool flash o) → ((c : ℕ) → IsOutput outputs c → IsNotOpen open_block c)
      → (c : ℕ) → slice_get (closed_with open_block closed) c ≡ Some true → HoldsValues then_pool c × (c ≢ b) × (IsOutput outputs c → ⊥)
  closed_owned closed None old open_is not_open c is = let was_so = old c is in (kept c was_so.0, another c was_so.0, was_so.2)
  closed_owned closed (Some o) old open_is not_open c is = elim (cases_eq c o.block) [
    | inl e ↦ (let held = subst (λ k. HoldsValues pool k) (sym e) open_is.owned in (kept c held, another c held, λ output. not_open c output e))
    | inr ne ↦ (let was_so = old c (sym (get-set_other closed o.block c true ne) ∙ is) in (kept c was_so.0, another c was_so.0, was_so.2))
  ]

  owned_closed : (closed : List Bool) (open_block : Option OpenBlock) → length closed ≡ shape.blocks
      → ((c : ℕ) → HoldsValues pool c → IsNotOpen open_block c → (IsOutput outputs c → ⊥) → slice_get closed c ≡ Some true) → MatchOption open_block (Unit {0}) (λ o. IsOpenIn shape pool flash o)
      → (c : ℕ) → HoldsValues then_pool c → c ≢ b → (IsOutput outputs c → ⊥) → slice_get (closed_with open_block closed) c ≡ Some true
  owned_closed closed None size old open_is c held ne no_output = old c (was c ne held) tt no_output
  owned_closed closed (Some o) size old open_is c held ne no_output = elim (cases_eq c o.block) [
    | inl e ↦ (let there = slice_get-get_or closed o.block false (omega (arith, size, open_is.exists)) in
        ap (λ k. slice_get (set closed o.block true) k) e ∙ set_is closed o.block _ true there)
    | inr other ↦ get-set_other closed o.block c true other ∙ old c (was c ne held) other no_output
  ]

  closed_size : (closed : List Bool) (open_block : Option OpenBlock) → length (closed_with open_block closed) ≡ length closed
  closed_size closed None = refl
  closed_size closed (Some o) = length-set closed o.block true

  -- pages of other blocks are the same
  pub same_values : IsShape shape → SameButBlock shape b flash flash' → SameValues shape pool outputs flash flash'
  same_values is_shape same k held no_output =
      let n : ℕ = shape.block_pages in
      elim (cases_lt k (b * n)) [
        | inl below ↦ same.below k below
        | inr not_below ↦ elim (cases_lt k (b * n + n)) [
          | inl within ↦ absurd (another (k / n) held (block_of n k b (omega (arith, not_below)) within))
          | inr above ↦ same.above k (omega (arith, above))
        ]
      ]

  -- the blocks of a reclaim are others
  outputs_stay : (open_block : Option OpenBlock) (es : List (Key × Place)) → AreOutputs shape open_block pool outputs es → AreOutputs shape (Some (record { block = b; used = 0 })) then_pool outputs es
  outputs_stay open_block es are = record {
    different = are.different;
    owned = λ c is. kept c (are.owned c is);
    not_open = λ c is. another c (are.owned c is);
    unread = are.unread;
  }

  pub ValuesOnFlash-block_opened : (d : ValuesState) (es : List (Key × Place)) → ValuesOnFlash shape d pool outputs flash es → 2 ≤ b → b < shape.blocks
      → used_by for_values then_pool.states ≤ data_blocks shape - 1 + length outputs → PoolOnFlash then_pool flash' → IsErasedBlock shape flash' b → SameButBlock shape b flash flash'
      → ValuesOnFlash shape (block_opened d b) then_pool outputs flash' es
  ValuesOnFlash-block_opened d es p low exists few fits is_erased same =
      let pages = same_values p.is_shape same in
      record {
        is_shape = p.is_shape;
        shape_is = p.shape_is;
        size = length-set pool.states b (Owned for_values) ∙ p.size;
        fits = fits;
        few = few;
        places = p.places;
        apart = p.apart;
        owned = λ k is. kept (k / shape.block_pages) (p.owned k is);
        written = λ k is e. p.written k is (sym (pages k (p.owned k is) (p.outputs_are.unread k is)) ∙ e);
        block_pages_is = p.block_pages_is;
        heads_are = p.heads_are;
        closed_size = closed_size d.live.closed d.open_block ∙ p.closed_size;
        closed_owned = closed_owned d.live.closed d.open_block p.closed_owned p.open_is p.outputs_are.not_open;
        owned_closed = owned_closed d.live.closed d.open_block p.closed_size p.owned_closed p.open_is;
        behind_roots = λ c held. elim (cases_eq c b) [ inl e ↦ subst (λ k. 2 ≤ k) (sym e) low | inr ne ↦ p.behind_roots c (was c ne held) ];
        open_is = record {
          owned = taken;
          behind_roots = low;
          exists = exists;
          within = omega arith;
          even = refl;
          written = λ k low' high. absurd (omega (arith, low', high));
          unwritten = λ k low' high. is_erased k (omega (arith, low')) high;
        };
        outputs_are = outputs_stay d.open_block es p.outputs_are;
      }

-- ---- pages that were written

wrote : (shape : Shape) (live : Values) (open_block : Option OpenBlock) (pool : Blocks) (outputs : List ℕ) (old new : Flash) (es : List (Key × Place)) (count : ℕ)
    → ValuesOnFlash shape (state_of live open_block) pool outputs old es → has_left shape open_block count ≡ true → WritesNext shape (state_of live open_block) count old new
    → ValuesOnFlash shape (state_of live (more_used open_block count)) pool outputs new es
wrote shape live None pool outputs old new es count p room w = cc
wrote shape live (Some o) pool outputs old new es count p room w = record {
  is_shape = p.is_shape;
  shape_is = p.shape_is;
  size = p.size;
  fits = PoolOnFlash-outside pool old new o.block (o.block * shape.block_pages + o.used) count (owned_not_ready pool o.block (for_values, open_is.owned)) low_end high_end w.outside p.fits;
  few = p.few;
  places = p.places;
  apart = p.apart;
  owned = p.owned;
  written = λ k is e. p.written k is (sym (value_page k is) ∙ e);
  block_pages_is = p.block_pages_is;
  heads_are = p.heads_are;
  closed_size = p.closed_size;
  closed_owned = p.closed_owned;
  owned_closed = p.owned_closed;
  behind_roots = p.behind_roots;
  open_is = record {
    owned = open_is.owned;
    behind_roots = open_is.behind_roots;
    exists = open_is.exists;
    within = omega (arith, left);
    even = omega (arith, open_is.even, w.pairs);
    written = λ k low high. elim (cases_lt k (o.block * shape.block_pages + o.used)) [
      | inl below ↦ (λ e. open_is.written k low below (sym (w.outside.below k below) ∙ e))
      | inr above ↦ w.written k (omega (arith, above)) (omega (arith, high))
    ];
    unwritten = λ k low high. w.outside.above k (omega (arith, low)) ∙ open_is.unwritten k (omega (arith, low)) high;
  };
  outputs_are = record {
    different = p.outputs_are.different;
    owned = p.outputs_are.owned;
    not_open = p.outputs_are.not_open;
    unread = p.outputs_are.unread;
  };
}
  where
    open_is : IsOpenIn shape pool old o
    open_is = p.open_is

    left : o.used + count ≤ shape.block_pages
    left = leb→le (o.used + count) shape.block_pages (subst T (sym room) tt)

    low_end : o.block * pool.shape.block_pages ≤ o.block * shape.block_pages + o.used
    low_end = subst (λ (s : Shape). o.block * s.block_pages ≤ o.block * shape.block_pages + o.used) (sym p.shape_is) (omega arith)

    high_end : o.block * shape.block_pages + o.used + count ≤ o.block * pool.shape.block_pages + pool.shape.block_pages
    high_end = subst (λ (s : Shape). o.block * shape.block_pages + o.used + count ≤ o.block * s.block_pages + s.block_pages) (sym p.shape_is) (omega (arith, left))

    -- the pages of values are not among them
    value_page : (k : ℕ) → IsValuePage shape es k → page_at new k ≡ page_at old k
    value_page k is = elim (cases_lt k (o.block * shape.block_pages + o.used)) [
      | inl below ↦ w.outside.below k below
      | inr not_below ↦ elim (cases_lt k ((o.block * shape.block_pages + o.used) + count)) [
        | inl within ↦ absurd (p.written k is (open_is.unwritten k (omega (arith, not_below)) (omega (arith, within, left))))
        | inr above ↦ w.outside.above k (omega (arith, above))
      ]
    ]

pub wrote_as : (shape : Shape) (d : ValuesState) (count : ℕ) (d' : ValuesState) → fits_open shape d count ≡ true → d' ≡ with_written d count
    → (pool : Blocks) (outputs : List ℕ) (old new : Flash) (es : List (Key × Place))
    → ValuesOnFlash shape d pool outputs old es → WritesNext shape d count old new → ValuesOnFlash shape d' pool outputs new es
wrote_as shape d count d' room is pool outputs old new es p w =
    subst (λ (v : ValuesState). ValuesOnFlash shape v pool outputs new es) (sym is) (wrote shape d.live d.open_block pool outputs old new es count p room w)

-- they are in the part that is written now
in_written : (shape : Shape) (open_block : Option OpenBlock) (count : ℕ) → has_left shape open_block count ≡ true
    → MatchOption (more_used open_block count) ⊥ (λ o. (o.block * shape.block_pages ≤ page_behind shape open_block) × (page_behind shape open_block + count ≤ o.block * shape.block_pages + o.used))
in_written shape None count room = cc
in_written shape (Some o) count room = (omega arith, omega arith)

pub in_written_as : (shape : Shape) (d : ValuesState) (count : ℕ) (d' : ValuesState) → fits_open shape d count ≡ true → d' ≡ with_written d count → IsInOpen shape d' (next_page shape d) count
in_written_as shape d count d' room is = subst (λ (v : ValuesState). IsInOpen shape v (next_page shape d) count) (sym is) (in_written shape d.open_block count room)

-- ---- the call that finds pages

-- if no page was found, the open block has no room
pub found_none : (b : Bool) (next : ℕ) (answer : Option ℕ) → answer ≡ cond b (Some next) None → answer ≡ None → b ≡ false
found_none true next answer e is = cc
found_none false next answer e is = refl

-- wherever a call stopped, no page outside this block differs
pub went_in : (shape : Shape) (b : ℕ) (old new : BoardState) → WentIn shape b old new → SameButBlock shape b old.pages new.pages
went_in shape b old new went = went.1.cuts new.pages (all_posted went.0) went.1.stands

pub reached_in : (shape : Shape) (b : ℕ) (old new : BoardState) → ReachesIn shape b old new → SameButBlock shape b old.pages new.pages
reached_in shape b old new reached = went_in shape b old new (reached.0, Went-reached reached.0 old new (λ flash _. SameButBlock shape b old.pages flash) reached.1)

below : (a n : ℕ) → nat_le a n ≡ false → n < a
below a n is = elim (cases_lt n a) [
  | inl less ↦ less
  | inr not_less ↦ (let clash : true ≡ false = sym (is_true (nat_le a n) (le→leb a n (omega (arith, not_less)))) ∙ is in cc)
]

-- one more block is not the last one
few_more : (room last : Bool) → not room && last ≡ false → room ≡ false → last ≡ false
few_more true last e no_room = cc
few_more false last e no_room = e

-- a block that was taken is open from now on
module _ (shape : Shape) (d : ValuesState) (p q : Blocks) (outputs : List ℕ) (old new : BoardState) (b : ℕ) (es : List (Key × Place)) (placed : ValuesOnFlash shape d p outputs old.pages es)
    (spare : IsSpare p b) (place : 2 ≤ b × b < p.shape.blocks) (taken_is : q ≡ with_state p b (Owned for_values)) (counted : used_by for_values q.states ≡ used_by for_values p.states + 1)
    (is_erased : IsErasedBlock p.shape new.pages b) (cuts : ReachesIn p.shape b old new) (fits : PoolOnFlash q new.pages) where
  in_shape : (P : Shape → Type 0) → P p.shape → P shape
  in_shape P is = subst P placed.shape_is is

  pub opened_by : (count : ℕ) → needs_reclaim shape d p count ≡ false → fits_open shape d count ≡ false → ValuesOnFlash shape (block_opened d b) q outputs new.pages es
  opened_by count room no_room =
      let one_less : used_by for_values p.states < data_blocks shape - 1 =
      below (data_blocks shape - 1) (used_by for_values p.states) (few_more (fits_open shape d count) (nat_le (data_blocks shape - 1) (used_by for_values p.states)) room no_room) in
      let counted' : used_by for_values (with_state p b (Owned for_values)).states ≡ used_by for_values p.states + 1 = subst
      (λ (r : Blocks). used_by for_values r.states ≡ used_by for_values p.states + 1) taken_is counted in
      subst (λ (r : Blocks). ValuesOnFlash shape (block_opened d b) r outputs new.pages es) (sym taken_is)
      (ValuesOnFlash-block_opened shape p outputs old.pages new.pages b spare d es placed place.0 (in_shape (λ s. b < s.blocks) place.1) (omega (arith, one_less, counted'))
      (subst (λ (r : Blocks). PoolOnFlash r new.pages) taken_is fits) (in_shape (λ s. IsErasedBlock s new.pages b) is_erased)
      (in_shape (λ s. SameButBlock s b old.pages new.pages) (reached_in p.shape b old new cuts)))

  pub opened_reserved : (count : ℕ) → needs_reclaim shape d p count ≡ false → fits_open shape d count ≡ false → 1 ≤ count → count ≤ most_pages shape
      → IsReserved shape (block_opened d b) q new.pages (b * shape.block_pages) count
  opened_reserved count room no_room some most =
      reserved_next shape (block_opened d b) q outputs new.pages es (b * shape.block_pages) count (opened_by count room no_room) some
      (true_is (0 + count) shape.block_pages (omega (arith, most))) (omega arith)
    where
      true_is : (a n : ℕ) → a ≤ n → nat_le a n ≡ true
      true_is a n le = is_true (nat_le a n) (le→leb a n le)

  pub opened_free : (count : ℕ) → needs_reclaim shape d p count ≡ false → fits_open shape d count ≡ false → 1 ≤ count → count ≤ most_pages shape → IsFreeOf shape es (b * shape.block_pages) count
  opened_free count room no_room some most k low high is =
      (opened_by count room no_room).written k is ((opened_reserved count room no_room some most).free k low high)

-- an erase that failed leaves the values placed
pub failed_keeps : (shape : Shape) (d : ValuesState) (p : Blocks) (outputs : List ℕ) (old new : BoardState) (es : List (Key × Place))
    → ValuesOnFlash shape d p outputs old.pages es → FailsToErase p old new → PoolOnFlash p new.pages
    → ValuesOnFlash shape d p outputs new.pages es
failed_keeps shape d p outputs old new es placed fails fits =
    flash_elsewhere shape d p outputs old.pages new.pages es placed
    (same_values shape p outputs old.pages new.pages fails.block (inl fails.lowest.here) placed.is_shape
    (subst (λ s. SameButBlock s fails.block old.pages new.pages) placed.shape_is (went_in p.shape fails.block old new fails.cuts))) fits
