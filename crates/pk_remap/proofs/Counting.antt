-- What the calls of a relocation do besides: only the flash differs, and spares are taken only for faults.
use Rattle.std.proofs.Common.{◌≡◌, ◌≢◌, ◌⊎◌, inl, inr, ℕ, ◌+◌, ◌<◌, ◌≤◌, Bool, true, false, length, refl, sym, ap, subst, ◌∙◌, arith, Option, Some, None}
use Rattle.std.{specs.Prelude.nat_lt, specs.Prelude.Result, specs.Prelude.Ok, specs.Prelude.Err, proofs.lemmas.Bool.Decides.nat_tests, proofs.lemmas.Option.same_Some}
use Rattle.pk_base.{specs.Shape.Shape, specs.Page.Flash, specs.Page.page_at}
use Rattle.pk_nand.{specs.BoardState.BoardState, specs.Calls.IsReady, specs.Calls.Rose, specs.Calls.last_count, specs.Operations.after_read, specs.Operations.ReadFailed, specs.Effects.OnlyFlash}
use Rattle.pk_nand.{proofs.Effects.only_then, specs.declared.types.NandFault.NandFault}
use Rattle.pk_remap.{specs.declared.relocation.Relocation.Relocation as InMemory, specs.Table.SpareTable, specs.Newest.newest_table, specs.Newest.IsNewest, specs.Places.inner_shape}
use Rattle.pk_remap.specs.Counting.{SparesCounted, HasTable, ServeCounts, OuterFailed, OuterCounts}
use Rattle.pk_remap.proofs.Finding.{newest-found, found-newest}

-- the same board but for its flash
pub only_same : (old new : BoardState) → new ≡ old → OnlyFlash old new
only_same old new is = let T : BoardState → Type 0 = λ s. OnlyFlash old s in subst T (sym is) refl

-- ---- counts

module _ (r r' : InMemory) (old new : BoardState) (rest : OnlyFlash old new) where
  -- no program and no erase failed
  pub counted_done : (more : ℕ) → new.stop_faults ≡ old.stop_faults → r'.taken ≤ r.taken + more → SparesCounted more r old r' new
  counted_done more same taken = record { rest = rest; stops = inl same; taken = inl (omega (arith, same, taken)) }

  -- one failed
  pub counted_failed : (more : ℕ) → Rose old.stop_faults new.stop_faults → r'.taken ≤ r.taken + more + 1 → SparesCounted more r old r' new
  counted_failed more rose taken = record { rest = rest; stops = inr rose; taken = by (nat_lt old.stop_faults last_count) refl }
    where
      by : (t : Bool) → nat_lt old.stop_faults last_count ≡ t → (r'.taken + old.stop_faults ≤ r.taken + new.stop_faults + more) ⊎ (last_count ≤ new.stop_faults)
      by true t = let less : old.stop_faults < last_count = grind (arith, nat_tests) in inl (omega (arith, less, rose, taken))
      by false t = let most : last_count ≤ old.stop_faults = grind (arith, nat_tests) in inr (omega (arith, most, rose))

-- nothing was done
pub counted_none : (r : InMemory) (old : BoardState) → SparesCounted 0 r old r old
counted_none r old = counted_done r r old old (only_same old old refl) 0 refl (omega arith)

-- one after another
module _ (a b c : InMemory) (old mid new : BoardState) where
  stops_then : (mid.stop_faults ≡ old.stop_faults) ⊎ Rose old.stop_faults mid.stop_faults → (new.stop_faults ≡ mid.stop_faults) ⊎ Rose mid.stop_faults new.stop_faults
      → (new.stop_faults ≡ old.stop_faults) ⊎ Rose old.stop_faults new.stop_faults
  stops_then (inl p) (inl q) = inl (q ∙ p)
  stops_then (inl p) (inr q) = inr (let P : ℕ → Type 0 = λ x. Rose x new.stop_faults in subst P p q)
  stops_then (inr p) (inl q) = inr (let P : ℕ → Type 0 = λ x. Rose old.stop_faults x in subst P (sym q) p)
  stops_then (inr p) (inr q) = inr (omega (arith, p, q))

  last_then : (new.stop_faults ≡ mid.stop_faults) ⊎ Rose mid.stop_faults new.stop_faults → last_count ≤ mid.stop_faults → last_count ≤ new.stop_faults
  last_then (inl q) most = omega (arith, q, most)
  last_then (inr q) most = omega (arith, q, most)

  taken_then : (one two : ℕ) → (new.stop_faults ≡ mid.stop_faults) ⊎ Rose mid.stop_faults new.stop_faults
      → (b.taken + old.stop_faults ≤ a.taken + mid.stop_faults + one) ⊎ (last_count ≤ mid.stop_faults)
      → (c.taken + mid.stop_faults ≤ b.taken + new.stop_faults + two) ⊎ (last_count ≤ new.stop_faults)
      → (c.taken + old.stop_faults ≤ a.taken + new.stop_faults + (one + two)) ⊎ (last_count ≤ new.stop_faults)
  taken_then one two later (inl p) (inl q) = inl (omega (arith, p, q))
  taken_then one two later (inr p) q = inr (last_then later p)
  taken_then one two later (inl p) (inr q) = inr q

  pub counted_then : (one two : ℕ) → SparesCounted one a old b mid → SparesCounted two b mid c new → SparesCounted (one + two) a old c new
  counted_then one two p q = record {
    rest = only_then old mid new p.rest q.rest;
    stops = stops_then p.stops q.stops;
    taken = taken_then one two q.stops p.taken q.taken;
  }

-- no more spares were taken first
pub counted_from : (more : ℕ) (a b c : InMemory) (old mid new : BoardState) → SparesCounted 0 a old b mid → SparesCounted more b mid c new → SparesCounted more a old c new
counted_from more a b c old mid new p q =
    let T : ℕ → Type 0 = λ n. SparesCounted n a old c new in
    let e : 0 + more ≡ more = omega arith in
    subst T e (counted_then a b c old mid new 0 more p q)

-- a spare of the call that failed pays for the one that serves its block
pub counted_paid : (a b c : InMemory) (old mid new : BoardState) → OnlyFlash old mid → Rose old.stop_faults mid.stop_faults → b.taken ≡ a.taken
    → SparesCounted 1 b mid c new → SparesCounted 0 a old c new
counted_paid a b c old mid new rest rose same q = record {
  rest = only_then old mid new rest q.rest;
  stops = stops_then a b c old mid new (inr rose) q.stops;
  taken = by (nat_lt old.stop_faults last_count) refl q.taken;
} where
  by : (t : Bool) → nat_lt old.stop_faults last_count ≡ t → (c.taken + mid.stop_faults ≤ b.taken + new.stop_faults + 1) ⊎ (last_count ≤ new.stop_faults)
      → (c.taken + old.stop_faults ≤ a.taken + new.stop_faults + 0) ⊎ (last_count ≤ new.stop_faults)
  by true t (inl few) = let less : old.stop_faults < last_count = grind (arith, nat_tests) in inl (omega (arith, less, rose, few, same))
  by false t (inl few) =
      let most : last_count ≤ old.stop_faults = grind (arith, nat_tests) in
      inr (last_then a b c old mid new q.stops (omega (arith, most, rose)))
  by t e (inr last) = inr last

-- ---- the newest table

-- the newest table of a flash that has one
pub newest_is : (shape : Shape) (spares : ℕ) (flash : Flash) → newest_table shape spares (page_at flash) ≢ None
    → (page : ℕ) × (table : SpareTable) × IsNewest shape spares (page_at flash) page table
newest_is shape spares flash some = by (newest_table shape spares (page_at flash)) refl
  where
    by : (top : Option (ℕ × SpareTable)) → newest_table shape spares (page_at flash) ≡ top → (page : ℕ) × (table : SpareTable) × IsNewest shape spares (page_at flash) page table
    by None e = absurd (some e)
    by (Some top) e = (top.0, top.1, found-newest shape spares (page_at flash) top.0 top.1 e)

-- there is only one
pub one_newest : (shape : Shape) (spares : ℕ) (flash : Flash) (page page' : ℕ) (table table' : SpareTable) → IsNewest shape spares (page_at flash) page table
    → IsNewest shape spares (page_at flash) page' table' → table' ≡ table
one_newest shape spares flash page page' table table' is is' =
    ap (λ (p : ℕ × SpareTable). p.1) (sym (same_Some (page, table) (page', table')
    (sym (newest-found shape spares (page_at flash) page table is) ∙ newest-found shape spares (page_at flash) page' table' is')))

-- a board with this newest table
pub has_table : (r : InMemory) (board : BoardState) (page : ℕ) (table : SpareTable) → IsReady board (inner_shape r.shape r.spares)
    → IsNewest r.shape r.spares (page_at board.pages) page table → length table.serves ≤ r.taken → HasTable r board
has_table r board page table ready is used = record {
  ready = ready;
  some = λ e. apart (page, table) (sym (newest-found r.shape r.spares (page_at board.pages) page table is) ∙ e);
  used = λ page' table' is'. (let few : length table.serves ≤ r.taken = used in
      let same : length table'.serves ≡ length table.serves = ap (λ (t : SpareTable). length t.serves) (one_newest r.shape r.spares board.pages page page' table table' is is') in
      omega (arith, few, same));
} where
  apart : (x : ℕ × SpareTable) → Some x ≡ None → ⊥
  apart x e = cc

-- ---- single calls

pub only_read : (old new : BoardState) → new ≡ after_read old → OnlyFlash old new
only_read old new is = let T : BoardState → Type 0 = λ s. OnlyFlash old s in subst T (sym is) refl

pub only_read_failed : (old new : BoardState) (at : ℕ) → ReadFailed old new at → OnlyFlash old new
only_read_failed old new at failed = let T : BoardState → Type 0 = λ s. OnlyFlash old s in subst T (sym failed.rest) refl

-- ---- a call of the outer flash

-- a relocation served it
pub outer_served : (a b c : InMemory) (old mid new : BoardState) (result : Result Unit NandFault) → OnlyFlash old mid → Rose old.stop_faults mid.stop_faults → b.taken ≡ a.taken
    → ServeCounts b mid result c new → OuterCounts a old result c new
outer_served a b c old mid new (Ok u) rest rose same own = counted_paid a b c old mid new rest rose same own
outer_served a b c old mid new (Err e) rest rose same own = record {
  counts = counted_from 0 a b c old mid new (counted_failed a b old mid rest 0 rose (omega (arith, same))) own.0;
  table = own.1;
  faults = inr (rose_then own.0.stops);
} where
  rose_then : (new.stop_faults ≡ mid.stop_faults) ⊎ Rose mid.stop_faults new.stop_faults → Rose old.stop_faults new.stop_faults
  rose_then (inl q) = let P : ℕ → Type 0 = λ x. Rose old.stop_faults x in subst P (sym q) rose
  rose_then (inr q) = omega (arith, rose, q)

-- no spare block remains for it
pub outer_none_left : (r : InMemory) (old new : BoardState) → OnlyFlash old new → Rose old.stop_faults new.stop_faults → HasTable r new → OuterFailed r old r new
outer_none_left r old new rest rose table = record { counts = counted_failed r r old new rest 0 rose (omega arith); table = table; faults = inr rose }

-- after a read that takes no spare
pub outer_after : (a b c : InMemory) (old mid new : BoardState) (result : Result Unit NandFault) → SparesCounted 0 a old b mid → mid.read_faults ≡ old.read_faults
    → mid.stop_faults ≡ old.stop_faults → OuterCounts b mid result c new → OuterCounts a old result c new
outer_after a b c old mid new (Ok u) first reads stops own = counted_from 0 a b c old mid new first own
outer_after a b c old mid new (Err e) first reads stops own = record {
  counts = counted_from 0 a b c old mid new first own.counts;
  table = own.table;
  faults = elim own.faults [
    | inl rose ↦ inl (let P : ℕ → Type 0 = λ x. Rose x new.read_faults in subst P reads rose)
    | inr rose ↦ inr (let P : ℕ → Type 0 = λ x. Rose x new.stop_faults in subst P stops rose)
  ];
}
