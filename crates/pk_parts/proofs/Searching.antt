-- What a lookup says of the entries and of the map.
use Rattle.std.proofs.Common.{◌≡◌, ℕ, refl, sym, ap, subst, ◌∙◌, List, Option, Some, None, Result, Ok, Err}
use Rattle.std.{specs.Prelude.IfOk, specs.Prelude.OnOk, specs.Prelude.OnErr, specs.FinMap.get, specs.FinMap.Entries.find}
use Rattle.pk_base.{specs.Choices.or_else, specs.Key.Key, specs.Key.key_cmp, specs.Shape.Shape, specs.Page.Flash, specs.Entry.Entry, specs.Entry.Place, specs.Entry.key_of, specs.Seen.entry}
use Rattle.pk_base.{specs.Firsts.firsts, specs.Map.Map, specs.declared.entry.Entry.Entry as RustEntry}
use Rattle.pk_base.{specs.declared.entry.Entry.TheVariants.Put, specs.declared.entry.Entry.TheVariants.Gone, proofs.KeyLemmas.firsts_sorted}
use Rattle.pk_rootfmt.specs.Root.{Root}
use Rattle.pk_nand.specs.declared.types.Fault.{Fault}
use Rattle.pk_run.specs.Search.{IsFound}
use Rattle.pk_level.specs.Levels.{RunsOnFlash, all_entries}
use Rattle.pk_model.{specs.Found.Found, specs.Found.entries_in_order, proofs.Lookups.flat, proofs.Lookups.find-firsts, proofs.Lookups.find-placed}
use Rattle.pk_law_steps.{specs.Under.IsUnder, specs.Under.places, specs.Lookups.IsValueOf, proofs.Counting.finds, proofs.Counting.found_in}
use Rattle.pk_log.{specs.State.LogState, specs.State.entry_of, specs.Logs.LogOnFlash}
use Rattle.pk_parts.{specs.Parts.Parts, specs.Finding.named_by, specs.Finding.named_by_found, specs.Finding.IsPlaceIn, specs.Quiet.Looks}

-- ---- the buffers and the runs

first_two : (a f r : Option (Option Place)) (x : Option Place) → or_else a f ≡ Some x → or_else a (or_else f r) ≡ Some x
first_two None None r x e = cc
first_two None (Some y) r x e = e
first_two (Some y) f r x e = e

last_one : (a f r : Option (Option Place)) → or_else a f ≡ None → or_else a (or_else f r) ≡ r
last_one None None r e = refl
last_one None (Some y) r e = cc
last_one (Some y) f r e = cc

module _ (log : LogState) (flash : Flash) (top : ℕ × Root) (found : Found) (key : Key) (logs : LogOnFlash log flash top found) where
  -- the entry of the buffers, and of the runs
  all_of : find key_cmp key (entries_in_order found log.pending) ≡ or_else (find key_cmp key log.active.entries)
      (or_else (find key_cmp key log.frozen.entries) (find key_cmp key (all_entries found.runs)))
  all_of =
      found_in found log.pending key
      ∙ (λ i. or_else (find key_cmp key (sym logs.active_is i).entries) (or_else (find key_cmp key (sym logs.frozen_is i).entries) (find key_cmp key (all_entries found.runs))))

  in_buffers : (e : RustEntry) → key_of (entry e) ≡ key → entry_of log key ≡ Some (entry e).1 → IsFound key (entries_in_order found log.pending) (Some e)
  in_buffers e same is =
      (same, all_of ∙ first_two (find key_cmp key log.active.entries) (find key_cmp key log.frozen.entries) (find key_cmp key (all_entries found.runs)) (entry e).1 is)

  behind_buffers : entry_of log key ≡ None → find key_cmp key (entries_in_order found log.pending) ≡ find key_cmp key (all_entries found.runs)
  behind_buffers none = all_of ∙ last_one (find key_cmp key log.active.entries) (find key_cmp key log.frozen.entries) (find key_cmp key (all_entries found.runs)) none

  in_runs : (e : Option RustEntry) → entry_of log key ≡ None → IsFound key (all_entries found.runs) e → IsFound key (entries_in_order found log.pending) e
  in_runs None none is = behind_buffers none ∙ is
  in_runs (Some e) none is = (is.0, behind_buffers none ∙ is.1)

-- ---- the place of a value

placed_is : (found : Found) (pending : List Entry) (key : Key) → find key_cmp key (places found pending) ≡ flat (find key_cmp key (entries_in_order found pending))
placed_is found pending key =
    find-placed key (firsts (entries_in_order found pending)) (firsts_sorted (entries_in_order found pending)) ∙ ap flat (find-firsts key (entries_in_order found pending))

module _ (shape : Shape) (flash : Flash) (top : ℕ × Root) (found : Found) (pending : List Entry) (m : Map) (key : Key) (under : IsUnder shape flash pending top found m) where
  place_of : (o : Option (Option Place)) → find key_cmp key (entries_in_order found pending) ≡ o → IsValueOf shape flash key o (get m key) × (find key_cmp key (places found pending) ≡ flat o)
  place_of o is = (subst (λ o. IsValueOf shape flash key o (get m key)) is (finds shape flash pending top found m key under), placed_is found pending key ∙ ap flat is)

  place_in_map : (e : Option RustEntry) → IsFound key (entries_in_order found pending) e → IsPlaceIn shape flash found pending m key (named_by e)
  place_in_map None is = let p = place_of None is in record { placed = p.1; there = p.0 }
  place_in_map (Some (Put k page len)) is = let p = place_of (Some (Some (record { page = page; len = len }))) is.1 in record { placed = p.1; there = p.0 }
  place_in_map (Some (Gone k)) is = let p = place_of (Some None) is.1 in record { placed = p.1; there = p.0 }

-- ---- a lookup

-- what the buffers say of the key, the place says of the map
pub looks_in_buffers : (d : Parts) (flash : Flash) (key : Key) (e : RustEntry) → key_of (entry e) ≡ key → entry_of d.log key ≡ Some (entry e).1
    → Looks d flash key (named_by (Some e))
looks_in_buffers d flash key e same is = λ top found m logs stand under.
    place_in_map d.log.shape flash top found d.log.pending m key under (Some e) (in_buffers d.log flash top found key logs e same is)

-- what the runs say of a key of which the buffers have no entry
pub looks_in_runs : (d : Parts) (flash : Flash) (key : Key) (r : Result (Option RustEntry) Fault) → entry_of d.log key ≡ None
    → IfOk r (λ e. (ess : List (List Entry)) → RunsOnFlash flash d.arena d.levels.runs ess → IsFound key (all_entries ess) e)
    → IfOk (named_by_found r) (λ p. Looks d flash key p)
looks_in_runs d flash key (Ok e) none is = λ top found m logs stand under.
    place_in_map d.log.shape flash top found d.log.pending m key under e (in_runs d.log flash top found key logs e none (is found.runs stand))
looks_in_runs d flash key (Err f) none is = tt

-- it is answered if the search was
pub named_ok : (X : Type 0) (r : Result (Option RustEntry) Fault) → OnOk r X → OnOk (named_by_found r) X
named_ok X (Ok e) x = x
named_ok X (Err f) x = tt

pub named_err : (X : Type 0) (r : Result (Option RustEntry) Fault) → OnErr r X → OnErr (named_by_found r) X
named_err X (Ok e) x = tt
named_err X (Err f) x = x
