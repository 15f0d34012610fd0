-- Entries that wait for a commit: what the drive represents after them.
use Rattle.std.proofs.Common.{◌≡◌, inl, inr, ℕ, ◌+◌, ◌-◌, ◌/◌, ◌^◌, ◌<◌, ◌≤◌, refl, sym, ap, subst, ◌∙◌, arith, true, cond, List, [], ◌∷◌, ◌++◌, length, Option, Some, None, Ok}
use Rattle.std.{specs.Prelude.MatchOption, specs.Prelude.slice_set, specs.Cmp.tied_itself, specs.FinMap.insert, specs.FinMap.remove, specs.FinMap.entries, specs.FinMap.entries-insert}
use Rattle.std.{specs.FinMap.Entries.put, specs.FinMap.Entries.find, specs.FinMap.Entries.find-put, specs.List.AllByRecursion}
use Rattle.std.specs.Ordering as order
use Rattle.pk_base.{specs.Key.Key, specs.Key.key_cmp, specs.Key.space_of, specs.Shape.Shape, specs.Shape.IsShape, specs.Shape.charge, specs.Shape.greatest, specs.Shape.buffer, specs.Shape.data_blocks}
use Rattle.pk_base.{specs.Page.Flash, specs.Page.page_at, specs.Entry.Entry, specs.Entry.Place, specs.Firsts.firsts, specs.Map.Map, specs.Map.live, specs.Map.pages_in, proofs.EntryLemmas.key_is_key}
use Rattle.pk_base.{proofs.ShapeLemmas.charge_most, proofs.KeyLemmas.firsts_sorted}
use Rattle.pk_segfmt.{specs.Value.value_at, proofs.StoredLemmas.charge_some}
use Rattle.pk_rootfmt.specs.Root.{Root, named}
use Rattle.pk_model.{specs.Found.Found, specs.Found.entries_in_order, specs.Values.placed, specs.Values.fits, specs.Values.all_pages, proofs.MapLemmas.key_total, proofs.ValueSets.values_sound}
use Rattle.pk_model.{specs.Laws.AnyByRecursion, specs.Laws.IsPageOf, specs.Laws.IsStorable, proofs.Stores.placed-put, proofs.Stores.reads-put, proofs.Stores.entries_in_order-push}
use Rattle.pk_model.{proofs.Live.live-pages, proofs.HeldMap.nothing_fits, specs.RootLimits.root_limits, specs.RootLimits.root_spaces, proofs.RootLimits.limits_under}
use Rattle.pk_model.{proofs.SpacePages.within_put, specs.Spaces.in_space, specs.Spaces.limit_of}
use Rattle.pk_law_steps.{specs.Under.IsUnder, specs.Under.counting, specs.Under.places, proofs.Untouched.values_under, proofs.Places.fits_more}
use Rattle.pk_law_steps.{proofs.Storing.stores, proofs.Storing.deletes, proofs.Storing.placed-gone}
use Rattle.pk_log.{specs.State.LogState, specs.State.pushed, specs.Logs.LogOnFlash}
use Rattle.pk_values.{specs.declared.span.Span.Span, specs.State.ValuesState, specs.State.with_head, specs.State.with_heads, specs.Placed.HoldsValues, specs.Placed.ValuesOnFlash, specs.Placed.without}
use Rattle.pk_values.{specs.Entries.span_of, specs.Entries.span_if_some, specs.Entries.heads_without, specs.Entries.ValueHeld, specs.Entries.ValueMoves, specs.Laws.value_blocks}
use Rattle.pk_values.{proofs.Lists.found_page, proofs.Lists.found_place, proofs.Unchanged.lie_in_few}
use Rattle.pk_live.specs.Values.{Values}
use Rattle.pk_gc.specs.Standing.{ReclaimOnFlash}
use Rattle.pk_parts.{specs.Parts.Parts, specs.Parts.frames_of, specs.Parts.index_of, specs.Parts.outputs_of, specs.Agreeing.DriveOnFlashWith, specs.Moves.StandsFor, proofs.Halves.whole_like}
use Rattle.pk_parts.{proofs.Reclaiming.reclaim_stored, proofs.Reclaiming.reclaim_gone, proofs.Reclaiming.zero_fewer, proofs.Reclaiming.replaced_fewer, proofs.OwnLimits.limits_with}
use Rattle.pk_parts.proofs.MapValues.{page_sizes, places_rise, some_bytes, map_reads, places_within}
use Rattle.pk_changes.{specs.Changes.MayTake, specs.Noting.Puts, specs.Noting.pages_at, proofs.Using.can_leave, proofs.Using.use_few, proofs.Using.use_of_put, proofs.Using.use_of_gone}
use Rattle.pk_scan.{specs.Used.IsUseOf, proofs.Using.value_count_most}
use Rattle.pk_space.specs.Uses.{Use, IsSpace, CanLeave, space_live, space_keys, value_count, used_after}
use Rattle.pk_schedule.proofs.Keeping.{index_pushed}
use Rattle.pk_background.proofs.Beside.{named_owner, journal_or_values, meta_or_values}

-- ---- numbers

few_blocks : (shape : Shape) → IsShape shape → data_blocks shape ≤ 4096
unfolding data_blocks
few_blocks shape is = let most = is.blocks_most in omega (arith, most)

-- ---- the places before

module _ (d : Parts) (shape : Shape) (flash : Flash) (top : ℕ × Root) (found : Found) (lower m : Map) (with : DriveOnFlashWith d shape flash top found lower m) where
  shape_is : IsShape shape
  shape_is = subst IsShape with.shape_is with.index.logs.is_shape

  fit : fits shape (named top.1) (all_pages shape (places found d.log.pending)) ≡ true
  fit =
      let values = values_under shape flash d.log.pending top.1 found m with.pending.is_map in
      (values_sound shape (named top.1) (page_at flash) (root_limits shape top.1) (places found d.log.pending) values.values (nothing_fits shape (named top.1)) values.read).placed_well

  pub spaces_small : (space : ℕ) → IsSpace space → (space_live d.spaces space ≤ 1048576) × (space_keys d.spaces space ≤ 1048576)
  spaces_small = use_few shape shape_is (named top.1) (places found d.log.pending) fit d.spaces with.uses

  -- the live pages with one more value
  live_put : (key : Key) (place : Place) (value : List ℕ) → value_at shape (page_at flash) key place ≡ Ok value
      → live shape (insert m key value) ≡ length (all_pages shape (put key_cmp key place (places found d.log.pending)))
  live_put key place value there =
      let es = places found d.log.pending in
      ap (pages_in shape) (entries-insert key_total m key value)
      ∙ sym (live-pages shape (page_at flash) (page_sizes d shape flash top found lower m with) (some_bytes d shape flash top found lower m with) (named top.1) (put key_cmp key place es)
      (put key_cmp key value (entries m)) (reads-put shape (named top.1) (page_at flash) key place value es (entries m) there (map_reads d shape flash top found lower m with)))

-- ---- a key gets a value

-- the place of a key that was put
pub found_put : (key : Key) (place : Place) (es : List (Key × Place)) → find key_cmp key (put key_cmp key place es) ≡ Some place
found_put key place es = find-put key_cmp key_total key key place es ∙ ap (λ b. cond b (Some place) (find key_cmp key es)) (ap order.is_eq (tied_itself key_total key))

-- the namespace of an entry that may be stored
own_space : (shape : Shape) (es : List Entry) (e : Entry) → AllByRecursion (IsStorable shape) (es ++ e ∷ []) → IsSpace (space_of e.0)
own_space shape [] e all = let is = key_is_key shape e all.0.0 in (is.space_some, is.space_most)
own_space shape (x ∷ es) e all = own_space shape es e all.1

module _ (d : Parts) (flash : Flash) (m : Map) (key : Key) (value : List ℕ) (page : ℕ) (old : Option Place) (p : Puts d d.log.shape flash m key value page old) where
  abbrev st : StandsFor d d.log.shape flash m
  st = p.may.stands

  abbrev place : Place
  place = record { page = page; len = length value }

  abbrev e : Entry
  e = (key, Some place)

  abbrev es : List (Key × Place)
  es = places st.found d.log.pending

  pub puts_moves : (o : Option Span) (n : Span) → o ≡ span_if_some d.log.shape old → n ≡ span_of d.log.shape place → ValueMoves d.values o n
  puts_moves o n o_is n_is = record {
    shape = d.log.shape;
    pool = d.pool;
    outputs = (outputs_of d);
    flash = flash;
    es = es;
    key = key;
    place = place;
    placed = st.with.placed;
    rising = places_rise d d.log.shape flash st.top st.found st.without m st.with;
    old_is = ap (span_if_some d.log.shape) p.may.old_is ∙ sym o_is;
    new_is = sym n_is;
    even = p.place.even;
    short = p.place.short;
    in_open = p.in_open;
    free = λ k is is_value. p.written.apart st.top st.found st.without m st.with k is is_value;
  }

  -- what each namespace uses then
  abbrev used_now : Use
  used_now = used_after d.spaces (space_of key) (pages_at d.log.shape old) (charge d.log.shape (length value))

  -- what the key had may go
  pub puts_leave : IsSpace (space_of key) → CanLeave d.spaces (space_of key) (pages_at d.log.shape old)
  puts_leave own = can_leave d.log.shape (shape_is d d.log.shape flash st.top st.found st.without m st.with) d.spaces es key own
      (places_rise d d.log.shape flash st.top st.found st.without m st.with) old p.may.old_is st.with.uses

  -- what is used then fits its numbers
  pub puts_fit : IsSpace (space_of key) → (space_live d.spaces (space_of key) - pages_at d.log.shape old + charge d.log.shape (length value) < 2 ^ 32)
      × (space_keys d.spaces (space_of key) - value_count (pages_at d.log.shape old) + value_count (charge d.log.shape (length value)) < 2 ^ 32)
  puts_fit own =
      let is = shape_is d d.log.shape flash st.top st.found st.without m st.with in
      let small = spaces_small d d.log.shape flash st.top st.found st.without m st.with (space_of key) own in
      let live = small.0 in
      let keys = small.1 in
      let most = charge_most d.log.shape (length value) is p.place.short in
      let block = is.block_most in
      let one = value_count_most (charge d.log.shape (length value)) in
      (omega (arith, live, most, block), omega (arith, keys, one))

  places_are : places st.found (d.log.pending ++ e ∷ []) ≡ put key_cmp key place es
  places_are = ap (λ xs. placed (firsts xs)) (entries_in_order-push st.found d.log.pending e)
      ∙ placed-put key place (counting st.found d.log.pending) (firsts_sorted (entries_in_order st.found d.log.pending))

  module _ (values : ValuesState) (placed_now : ValuesOnFlash d.log.shape values d.pool (outputs_of d) flash (put key_cmp key place es)) (o : Option Span)
      (space_is : values ≡ with_head (with_heads d.values (heads_without o d.values.live.heads)) page (charge d.log.shape (length value))) where
    -- no page of the value is in a block that the root names
    unnamed : (k : ℕ) → IsPageOf d.log.shape k place → AnyByRecursion (λ b. k / d.log.shape.block_pages ≡ b) (named st.top.1) → ⊥
    unnamed k is in_named =
        let held : HoldsValues d.pool (k / d.log.shape.block_pages) = placed_now.owned k (found_page d.log.shape key place (put key_cmp key place es) k (found_put key place es) is) in
        elim (named_owner d d.log.shape flash st.top st.found st.without m st.with (k / d.log.shape.block_pages) in_named) [
          | inl journal ↦ journal_or_values d.pool (k / d.log.shape.block_pages) journal held
          | inr meta ↦ meta_or_values d.pool (k / d.log.shape.block_pages) meta held
        ]

    fit_now : fits d.log.shape (named st.top.1) (all_pages d.log.shape (put key_cmp key place es)) ≡ true
    fit_now =
        let few = lie_in_few d.log.shape values d.pool (outputs_of d) flash (put key_cmp key place es) placed_now in
        let most = p.may.room.all in
        let same = live_put d d.log.shape flash st.top st.found st.without m st.with key place value p.written.there in
        fits_more d.log.shape (named st.top.1) (value_blocks d.pool (outputs_of d)) es key place (fit d d.log.shape flash st.top st.found st.without m st.with)
        unnamed (λ k is is_value. p.written.apart st.top st.found st.without m st.with k is is_value)
        (omega (arith, most, same)) few.1 few.0

    under_now : LogOnFlash (pushed d.log e) flash st.top st.found → length (firsts (st.found.newest ++ (d.log.pending ++ e ∷ []))) ≤ buffer d.log.shape
        → IsUnder d.log.shape flash (d.log.pending ++ e ∷ []) st.top st.found (insert m key value)
    under_now logs room =
        let limits = limits_under d.log.shape flash st.top st.with.committed.is_top in
        let own = subst (λ (ls : List ℕ). live d.log.shape (in_space (space_of key) (insert m key value)) ≤ limit_of ls (space_of key)) limits p.may.room.own in
        let within = within_put d.log.shape (page_at flash) (page_sizes d d.log.shape flash st.top st.found st.without m st.with) (some_bytes d d.log.shape flash st.top st.found st.without m st.with)
        (named st.top.1) es m (map_reads d d.log.shape flash st.top st.found st.without m st.with) key place value p.written.there (root_limits d.log.shape st.top.1)
        (places_within d d.log.shape flash st.top st.found st.without m st.with) own in
        stores d.log.shape flash d.log.pending st.top st.found m key place value st.with.pending (subst (λ (ls : List ℕ). space_of key ≤ length ls) limits p.may.room.spaced)
        p.written.there room fit_now within

    -- a reclaim that runs copies other values than that one
    reclaims_now : ReclaimOnFlash d.log.shape d.reclaim values.live d.pool flash (put key_cmp key place es)
    reclaims_now =
        let heads : List ℕ = slice_set (heads_without o d.values.live.heads) page (charge d.log.shape (length value)) in
        let now = reclaim_stored d.log.shape d.reclaim d.values d.pool flash es key place heads st.with.reclaim st.with.placed p.in_open
        (charge_some d.log.shape (shape_is d d.log.shape flash st.top st.found st.without m st.with) (length value))
        (λ k other. replaced_fewer o d.values.live.heads page (charge d.log.shape (length value)) k other) in
        subst (λ (l : Values). ReclaimOnFlash d.log.shape d.reclaim l d.pool flash (put key_cmp key place es)) (sym (ap (λ (x : ValuesState). x.live) space_is)) now

    pub put_agrees : LogOnFlash (pushed d.log e) flash st.top st.found → length (firsts (st.found.newest ++ (d.log.pending ++ e ∷ []))) ≤ buffer d.log.shape
        → DriveOnFlashWith (record d { log = pushed d.log e; values = values; spaces = used_now }) d.log.shape flash st.top st.found st.without (insert m key value)
    put_agrees logs room = record {
      shape_is = refl;
      is_flash = st.with.is_flash;
      index = index_pushed (index_of d) (frames_of d) flash st.top st.found e st.with.index logs;
      committed = st.with.committed;
      pending = under_now logs room;
      placed = subst (λ (xs : List (Key × Place)). ValuesOnFlash d.log.shape values d.pool (outputs_of d) flash xs) (sym places_are) placed_now;
      former = st.with.former;
      former_read = st.with.former_read;
      reclaim = subst (λ (xs : List (Key × Place)). ReclaimOnFlash d.log.shape d.reclaim values.live d.pool flash xs) (sym places_are) reclaims_now;
      uses =
          subst (IsUseOf d.log.shape used_now) (sym places_are)
          (use_of_put d.log.shape (shape_is d d.log.shape flash st.top st.found st.without m st.with) d.spaces es key (own_space d.log.shape d.log.pending e logs.pending_are)
          (places_rise d d.log.shape flash st.top st.found st.without m st.with) old p.may.old_is st.with.uses place);
    }

-- what the calls of the parts say of one entry more
pub record Noted (d : Parts) (e : Entry) (log : LogState) : Type 0 where
  pub pushed_is : log ≡ pushed d.log e
  pub stands : (flash : Flash) (top : ℕ × Root) (found : Found) → LogOnFlash d.log flash top found → LogOnFlash log flash top found
  pub fits_in : (flash : Flash) (top : ℕ × Root) (found : Found) → LogOnFlash d.log flash top found → length (firsts (found.newest ++ (d.log.pending ++ e ∷ []))) ≤ buffer d.log.shape

-- the place of the value
abbrev placed_at : ℕ → ℕ → Place
placed_at page len = record { page = page; len = len }

put_stands_at : (d : Parts) (flash : Flash) (m : Map) (key : Key) (value : List ℕ) (page : ℕ) (old : Option Place) → Puts d d.log.shape flash m key value page old
    → (log : LogState) (values : ValuesState) (spaces : Use) (o : Option Span) (n : Span) → Noted d (key, Some (placed_at page (length value))) log
    → o ≡ span_if_some d.log.shape old → n ≡ span_of d.log.shape (placed_at page (length value))
    → values ≡ with_head (with_heads d.values (heads_without o d.values.live.heads)) n.page n.count
    → ((mv : ValueMoves d.values o n) → ValuesOnFlash mv.shape values mv.pool mv.outputs mv.flash (put key_cmp mv.key mv.place mv.es))
    → spaces ≡ used_after d.spaces (space_of key) (pages_at d.log.shape old) (charge d.log.shape (length value))
    → StandsFor (record d { log = log; values = values; spaces = spaces }) d.log.shape flash (insert m key value)
unfolding puts_moves
put_stands_at d flash m key value page old p log values spaces o n noted o_is n_is space_is moved used_is =
    let e : Entry = (key, Some (placed_at page (length value))) in
    let st = p.may.stands in
    let placed_now = moved (puts_moves d flash m key value page old p o n o_is n_is) in
    let space_now = subst (λ (x : Span). values ≡ with_head (with_heads d.values (heads_without o d.values.live.heads)) x.page x.count) n_is space_is in
    let used : Use = used_after d.spaces (space_of key) (pages_at d.log.shape old) (charge d.log.shape (length value)) in
    let P : LogState → Use → Type 0 = λ l u. StandsFor (record d { log = l; values = values; spaces = u }) d.log.shape flash (insert m key value) in
    let logs : LogOnFlash (pushed d.log e) flash st.top st.found = subst (λ (l : LogState). LogOnFlash l flash st.top st.found) noted.pushed_is (noted.stands flash st.top st.found st.with.index.logs) in
    let there : P (pushed d.log e) used = record {
      top = st.top;
      found = st.found;
      without = st.without;
      with = put_agrees d flash m key value page old p values placed_now o space_now logs (noted.fits_in flash st.top st.found st.with.index.logs);
      whole = whole_like d (record d { log = pushed d.log e; values = values; spaces = used }) refl (λ none. none) refl refl st.whole;
    } in
    subst (λ (l : LogState). P l spaces) (sym noted.pushed_is) (subst (λ (u : Use). P (pushed d.log e) u) (sym used_is) there)

pub put_stands : (d : Parts) (shape : Shape) (flash : Flash) (m : Map) (key : Key) (value : List ℕ) (page len : ℕ) (old : Option Place) → length value ≡ len → Puts d shape flash m key value page old
    → (log : LogState) (values : ValuesState) (spaces : Use) (o : Option Span) (n : Span) → Noted d (key, Some (placed_at page len)) log
    → o ≡ span_if_some d.log.shape old → n ≡ span_of d.log.shape (placed_at page len)
    → values ≡ with_head (with_heads d.values (heads_without o d.values.live.heads)) n.page n.count
    → ((mv : ValueMoves d.values o n) → ValuesOnFlash mv.shape values mv.pool mv.outputs mv.flash (put key_cmp mv.key mv.place mv.es))
    → spaces ≡ used_after d.spaces (space_of key) (pages_at d.log.shape old) (charge d.log.shape len)
    → StandsFor (record d { log = log; values = values; spaces = spaces }) shape flash (insert m key value)
put_stands d shape flash m key value page len old is_len p log values spaces o n noted o_is n_is space_is moved used_is =
    let is : d.log.shape ≡ shape = p.may.stands.with.shape_is in
    let own : Puts d d.log.shape flash m key value page old = subst (λ (s : Shape). Puts d s flash m key value page old) (sym is) p in
    let noted' : Noted d (key, Some (placed_at page (length value))) log = subst (λ (l : ℕ). Noted d (key, Some (placed_at page l)) log) (sym is_len) noted in
    let n_is' : n ≡ span_of d.log.shape (placed_at page (length value)) = subst (λ (l : ℕ). n ≡ span_of d.log.shape (placed_at page l)) (sym is_len) n_is in
    let used_is' = subst (λ (l : ℕ). spaces ≡ used_after d.spaces (space_of key) (pages_at d.log.shape old) (charge d.log.shape l)) (sym is_len) used_is in
    subst (λ (s : Shape). StandsFor (record d { log = log; values = values; spaces = spaces }) s flash (insert m key value)) is
    (put_stands_at d flash m key value page old own log values spaces o n noted' o_is n_is' space_is moved used_is')

-- what the calls need
pub put_moves : (d : Parts) (flash : Flash) (m : Map) (key : Key) (value : List ℕ) (page len : ℕ) (old : Option Place) → length value ≡ len → Puts d d.log.shape flash m key value page old
    → (o : Option Span) (n : Span) → o ≡ span_if_some d.log.shape old → n ≡ span_of d.log.shape (placed_at page len) → ValueMoves d.values o n
put_moves d flash m key value page len old is_len p o n o_is n_is =
    puts_moves d flash m key value page old p o n o_is (subst (λ (l : ℕ). n ≡ span_of d.log.shape (placed_at page l)) (sym is_len) n_is)

-- the key is of a namespace that the root has
pub puts_spaced : (d : Parts) (flash : Flash) (m : Map) (key : Key) (value : List ℕ) (page : ℕ) (old : Option Place) → Puts d d.log.shape flash m key value page old
    → space_of key ≤ root_spaces d.log.shape d.log.root
puts_spaced d flash m key value page old p =
    let st = p.may.stands in
    subst (λ (limits : List ℕ). space_of key ≤ length limits) (limits_with d d.log.shape flash st.top st.found st.without m st.with) p.may.room.spaced

pub drops_spaced : (d : Parts) (flash : Flash) (m : Map) (key : Key) (old : Place) → MayTake d d.log.shape flash m key old → space_of key ≤ root_spaces d.log.shape d.log.root
drops_spaced d flash m key old p = subst (λ (limits : List ℕ). space_of key ≤ length limits) (limits_with d d.log.shape flash p.stands.top p.stands.found p.stands.without m p.stands.with) p.spaced

-- the length of the value that a key had
pub old_short : (d : Parts) (flash : Flash) (m : Map) (key : Key) (value : List ℕ) (page : ℕ) (old : Option Place) → Puts d d.log.shape flash m key value page old
    → MatchOption old (Unit {0}) (λ p. p.len ≤ greatest d.log.shape)
old_short d flash m key value page None p = tt
old_short d flash m key value page (Some q) p = (found_place d.log.shape key q (places p.may.stands.found d.log.pending) p.may.stands.with.placed.places p.may.old_is).short

-- ---- a key loses its value

module _ (d : Parts) (flash : Flash) (m : Map) (key : Key) (old : Place) (p : MayTake d d.log.shape flash m key old) where
  abbrev gone : Entry
  gone = (key, None)

  abbrev values_before : List (Key × Place)
  values_before = places p.stands.found d.log.pending

  pub drops_held : (n : Span) → n ≡ span_of d.log.shape old → ValueHeld d.values n
  drops_held n n_is = record {
    shape = d.log.shape;
    pool = d.pool;
    outputs = (outputs_of d);
    flash = flash;
    es = values_before;
    key = key;
    place = old;
    placed = p.stands.with.placed;
    rising = places_rise d d.log.shape flash p.stands.top p.stands.found p.stands.without m p.stands.with;
    found = p.old_is;
    span_is = sym n_is;
  }

  pub gone_short : old.len ≤ greatest d.log.shape
  gone_short = (found_place d.log.shape key old values_before p.stands.with.placed.places p.old_is).short

  -- what the key had may go
  pub drops_leave : IsSpace (space_of key) → CanLeave d.spaces (space_of key) (charge d.log.shape old.len)
  drops_leave own = can_leave d.log.shape (shape_is d d.log.shape flash p.stands.top p.stands.found p.stands.without m p.stands.with) d.spaces values_before key own
      (places_rise d d.log.shape flash p.stands.top p.stands.found p.stands.without m p.stands.with) (Some old) p.old_is p.stands.with.uses

  -- what is used then fits its numbers
  pub drops_fit : IsSpace (space_of key) → (space_live d.spaces (space_of key) - charge d.log.shape old.len + 0 < 2 ^ 32)
      × (space_keys d.spaces (space_of key) - value_count (charge d.log.shape old.len) + value_count 0 < 2 ^ 32)
  drops_fit own =
      let small = spaces_small d d.log.shape flash p.stands.top p.stands.found p.stands.without m p.stands.with (space_of key) own in
      let live = small.0 in
      let keys = small.1 in
      (omega (arith, live), omega (arith, keys))

  -- what each namespace uses then
  abbrev used_then : Use
  used_then = used_after d.spaces (space_of key) (charge d.log.shape old.len) 0

  places_gone : places p.stands.found (d.log.pending ++ gone ∷ []) ≡ without key values_before
  places_gone = ap (λ xs. placed (firsts xs)) (entries_in_order-push p.stands.found d.log.pending gone)
      ∙ placed-gone key (counting p.stands.found d.log.pending) (firsts_sorted (entries_in_order p.stands.found d.log.pending))

  pub gone_agrees : (values : ValuesState) → ValuesOnFlash d.log.shape values d.pool (outputs_of d) flash (without key values_before)
      → (at : ℕ) → values ≡ with_head d.values at 0 → LogOnFlash (pushed d.log gone) flash p.stands.top p.stands.found
      → length (firsts (p.stands.found.newest ++ (d.log.pending ++ gone ∷ []))) ≤ buffer d.log.shape
      → DriveOnFlashWith (record d { log = pushed d.log gone; values = values; spaces = used_then }) d.log.shape flash p.stands.top p.stands.found p.stands.without (remove m key)
  gone_agrees values placed_now at space_is logs room = record {
    shape_is = refl;
    is_flash = p.stands.with.is_flash;
    index = index_pushed (index_of d) (frames_of d) flash p.stands.top p.stands.found gone p.stands.with.index logs;
    committed = p.stands.with.committed;
    pending =
        deletes d.log.shape flash d.log.pending p.stands.top p.stands.found m key p.stands.with.pending
        (subst (λ (ls : List ℕ). space_of key ≤ length ls) (limits_under d.log.shape flash p.stands.top p.stands.with.committed.is_top) p.spaced) room;
    placed = subst (λ (xs : List (Key × Place)). ValuesOnFlash d.log.shape values d.pool (outputs_of d) flash xs) (sym places_gone) placed_now;
    former = p.stands.with.former;
    former_read = p.stands.with.former_read;
    reclaim =
        let R : Values → List (Key × Place) → Type 0 = λ l es. ReclaimOnFlash d.log.shape d.reclaim l d.pool flash es in
        let now = reclaim_gone d.log.shape d.reclaim d.values.live d.pool flash values_before key (slice_set d.values.live.heads at 0)
        p.stands.with.reclaim (λ k. zero_fewer d.values.live.heads at k) in
        subst (λ (es : List (Key × Place)). R values.live es) (sym places_gone) (subst (λ (l : Values). R l (without key values_before)) (sym (ap (λ (x : ValuesState). x.live) space_is)) now);
    uses =
        subst (IsUseOf d.log.shape used_then) (sym places_gone)
        (use_of_gone d.log.shape (shape_is d d.log.shape flash p.stands.top p.stands.found p.stands.without m p.stands.with) d.spaces values_before key
        (own_space d.log.shape d.log.pending gone logs.pending_are)
        (places_rise d d.log.shape flash p.stands.top p.stands.found p.stands.without m p.stands.with) (Some old) p.old_is p.stands.with.uses);
  }

gone_stands_at : (d : Parts) (flash : Flash) (m : Map) (key : Key) (old : Place) → MayTake d d.log.shape flash m key old
    → (log : LogState) (values : ValuesState) (n : Span) → Noted d (key, None) log → n ≡ span_of d.log.shape old
    → values ≡ with_head d.values n.page 0
    → ((h : ValueHeld d.values n) → ValuesOnFlash h.shape values h.pool h.outputs h.flash (without h.key h.es))
    → StandsFor (record d { log = log; values = values; spaces = used_after d.spaces (space_of key) (charge d.log.shape old.len) 0 }) d.log.shape flash (remove m key)
unfolding drops_held
gone_stands_at d flash m key old p log values n noted n_is space_is removed =
    let e : Entry = (key, None) in
    let st = p.stands in
    let placed_now = removed (drops_held d flash m key old p n n_is) in
    let logs : LogOnFlash (pushed d.log e) flash st.top st.found = subst (λ (l : LogState). LogOnFlash l flash st.top st.found) noted.pushed_is (noted.stands flash st.top st.found st.with.index.logs) in
    let there : StandsFor (record d { log = pushed d.log e; values = values; spaces = used_after d.spaces (space_of key) (charge d.log.shape old.len) 0 }) d.log.shape flash (remove m key) = record {
      top = st.top;
      found = st.found;
      without = st.without;
      with = gone_agrees d flash m key old p values placed_now n.page space_is logs (noted.fits_in flash st.top st.found st.with.index.logs);
      whole = whole_like d (record d { log = pushed d.log e; values = values; spaces = used_after d.spaces (space_of key) (charge d.log.shape old.len) 0 }) refl (λ none. none) refl refl st.whole;
    } in
    subst (λ (l : LogState). StandsFor (record d { log = l; values = values; spaces = used_after d.spaces (space_of key) (charge d.log.shape old.len) 0 }) d.log.shape flash (remove m key)) (sym noted.pushed_is) there

pub gone_stands : (d : Parts) (shape : Shape) (flash : Flash) (m : Map) (key : Key) (old : Place) → MayTake d shape flash m key old
    → (log : LogState) (values : ValuesState) (spaces : Use) (n : Span) → Noted d (key, None) log → n ≡ span_of d.log.shape old
    → values ≡ with_head d.values n.page 0
    → ((h : ValueHeld d.values n) → ValuesOnFlash h.shape values h.pool h.outputs h.flash (without h.key h.es))
    → spaces ≡ used_after d.spaces (space_of key) (charge d.log.shape old.len) 0
    → StandsFor (record d { log = log; values = values; spaces = spaces }) shape flash (remove m key)
gone_stands d shape flash m key old p log values spaces n noted n_is space_is removed used_is =
    let is : d.log.shape ≡ shape = p.stands.with.shape_is in
    let own = gone_stands_at d flash m key old (subst (λ (s : Shape). MayTake d s flash m key old) (sym is) p) log values n noted n_is space_is removed in
    subst (λ (s : Shape). StandsFor (record d { log = log; values = values; spaces = spaces }) s flash (remove m key)) is
    (subst (λ (u : Use). StandsFor (record d { log = log; values = values; spaces = u }) d.log.shape flash (remove m key)) (sym used_is) own)
