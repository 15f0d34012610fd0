-- The entry of a value that was stored.
use Rattle.std.proofs.Common.{◌≡◌, ℕ, ◌+◌, ◌*◌, ◌/◌, ◌<◌, ◌≤◌, sym, ap, subst, ◌∙◌, arith, List, length, Option, Some, None, Result, Ok, Err, cond}
use Rattle.std.{specs.Prelude.OnOk, specs.Prelude.MatchOption, specs.Ordering.is_eq, specs.Cmp.tied_itself, specs.FinMap.Entries.find, specs.FinMap.Entries.put, specs.FinMap.Entries.find-put}
use Rattle.pk_base.{specs.Shape.Shape, specs.Shape.charge, specs.Page.Flash, specs.Entry.Entry, specs.Entry.Place, specs.Key.Key, specs.Key.key_cmp, specs.Map.Map}
use Rattle.pk_buf.specs.Table.{Table}
use Rattle.pk_segfmt.proofs.StoredLemmas.{charge_some}
use Rattle.pk_nand.specs.declared.types.Fault.{Fault}
use Rattle.pk_pool.{specs.Blocks.Blocks, proofs.Fitting.block_of}
use Rattle.pk_log.specs.State.{LogState, pushed}
use Rattle.pk_model.proofs.MapLemmas.{key_total}
use Rattle.pk_values.{specs.State.ValuesState, specs.Placed.IsOpenIn}
use Rattle.pk_live.specs.declared.open_block.OpenBlock.{OpenBlock}
use Rattle.pk_parts.{specs.Parts.Parts, specs.Parts.block_if_open, specs.Moves.OnlyCommits, specs.Staying.IsNoted}
use Rattle.pk_changes.specs.Noting.{Puts}
use Rattle.pk_space.specs.Uses.{Use}

-- ---- the entry

-- the block of pages that are in the written part of the open one
pub open_is : (shape : Shape) (pool : Blocks) (flash : Flash) (o : Option OpenBlock) (page count : ℕ) → MatchOption o (Unit {0}) (λ x. IsOpenIn shape pool flash x)
    → MatchOption o ⊥ (λ x. (x.block * shape.block_pages ≤ page) × (page + count ≤ x.block * shape.block_pages + x.used)) → 0 < count → block_if_open o ≡ Some (page / shape.block_pages)
open_is shape pool flash None page count is inside some = absurd inside
open_is shape pool flash (Some o) page count is inside some =
    let within = is.within in
    let low = inside.0 in
    let high = inside.1 in
    ap Some (sym (block_of shape.block_pages page o.block (omega (arith, low)) (omega (arith, high, within, some))))

pub put_noted : (d : Parts) (flash : Flash) (m : Map) (k : Key) (value : List ℕ) (page len : ℕ) (old : Option Place) (log' : LogState) (space' : ValuesState) (spaces' : Use)
    → length value ≡ len → Puts d d.log.shape flash m k value page old
    → log' ≡ pushed d.log (k, Some (record { page = page; len = len })) → space'.open_block ≡ d.values.open_block → IsNoted (record d { log = log'; values = space'; spaces = spaces' }) k
put_noted d flash m k value page len old log' space' spaces' is_len p is same =
    let T : LogState → Type 0 = λ l. IsNoted (record d { log = l; values = space'; spaces = spaces' }) k in
    let some = charge_some d.log.shape p.may.stands.with.placed.is_shape (length value) in
    subst T (sym is) (record {
      place = record { page = page; len = len };
      found = found_in k (record { page = page; len = len }) d.log.active.entries;
      in_open = ap block_if_open same ∙ open_is d.log.shape d.pool flash d.values.open_block page (charge d.log.shape (length value)) p.may.stands.with.placed.open_is p.in_open some;
    })
  where
    found_in : (k : Key) (place : Place) (es : List Entry) → find key_cmp k (put key_cmp k (Some place) es) ≡ Some (Some place)
    found_in k place es = find-put key_cmp key_total k k (Some place) es ∙ ap (λ b. cond b (Some (Some place)) (find key_cmp k es)) (ap is_eq (tied_itself key_total k))

-- it is unchanged if buffer and open block are
pub noted_after : (a b : Parts) (k : Key) → IsNoted a k → b.log.active ≡ a.log.active → b.values ≡ a.values → b.log.shape ≡ a.log.shape → IsNoted b k
noted_after a b k n active values shape = record {
  place = n.place;
  found = ap (λ (t : Table). find key_cmp k t.entries) active ∙ n.found;
  in_open = ap (λ (s : ValuesState). block_if_open s.open_block) values ∙ (n.in_open ∙ ap (λ (s : Shape). Some (n.place.page / s.block_pages)) (sym shape));
}

pub noted_after_ok : (r : Result Unit Fault) (a b : Parts) (k : Key) → IsNoted a k → OnOk r (OnlyCommits a b) → OnOk r (IsNoted b k)
noted_after_ok (Ok x) a b k n rest =
    noted_after a b k n (ap (λ (d : Parts). d.log.active) rest) (ap (λ (d : Parts). d.values) rest) (ap (λ (d : Parts). d.log.shape) rest)
noted_after_ok (Err e) a b k n rest = tt
