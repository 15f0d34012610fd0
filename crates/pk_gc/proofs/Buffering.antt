-- Moves that are put into the active buffer.
use Rattle.std.proofs.Common.{◌≡◌, ◌≢◌, ℕ, ◌+◌, ◌≤◌, refl, ap, ◌∙◌, arith, true, false, cond, T, List, [], ◌∷◌, ◌++◌, length, reverse, count_by, Option, Some, None, is_some}
use Rattle.std.{specs.Prelude.is_none, specs.List.AllByRecursion, proofs.lemmas.List.Sums.sum_by-cons}
use Rattle.std.specs.FinMap.Entries.{put, find, is_sorted, length-put, is_sorted-put}
use Rattle.pk_base.{specs.Key.key_cmp, specs.Entry.Entry, specs.Entry.Place, specs.Firsts.firsts}
use Rattle.pk_model.proofs.MapLemmas.{key_total}
use Rattle.pk_buf.specs.Table.{Table}
use Rattle.pk_jrn.{specs.Replays.puts, proofs.Puts.puts_are_firsts, proofs.Puts.firsts-reverse}
use Rattle.pk_law_moves.specs.Moves.{entries_of}
use Rattle.pk_gc.{specs.declared.moves.Move.Move, specs.Running.AreInOrder, specs.Committing.entries_left, specs.Buffering.MovesBuffered, specs.Buffering.MovesFit}
use Rattle.pk_gc.specs.State.{placed_at, new_place, is_left, left_of, is_new, heads_behind, entries_behind, entries_all}
use Rattle.pk_gc.proofs.Ending.{InBlocks, lefts_same, fewer_new, in_blocks}

module _ (n victim output : ℕ) (other : victim ≢ output) where
  -- the entries of a buffer after the moves are those after the writes of their entries
  entries_puts : (heads : List ℕ) (es : List Entry) (ms : List Move) → AllByRecursion (InBlocks n victim output) ms → AreInOrder ms → entries_all heads es ms ≡ puts (entries_left heads ms) es
  entries_puts heads es [] all order = refl
  entries_puts heads es (m ∷ ms) all order =
      let rest = entries_puts (heads_behind heads m) (entries_behind heads es m) ms all.1 order.1 in
      let lefts = lefts_same n victim output other heads m ms all.0 all.1 order.0 in
      rest ∙ ap (λ (xs : List Move). puts (entries_of (placed_at xs)) (entries_behind heads es m)) lefts
      ∙ elim (is_left heads m) as (λ b. puts (entries_left heads ms) (cond b (put key_cmp m.key (Some (new_place m)) es) es)
      ≡ puts (entries_of (placed_at (cond b (m ∷ left_of heads ms) (left_of heads ms)))) es) [
        | true ↦ refl
        | false ↦ refl
      ]

  -- writes make a table longer by the keys that it did not have at most
  puts_few : (es table : List Entry) → T (is_sorted key_cmp table) → length (puts es table) ≤ length table + count_by (is_new table) es
  puts_few [] table rising = omega arith
  puts_few (e ∷ es) table rising =
      let rest = puts_few es (put key_cmp e.0 e.1 table) (is_sorted-put key_cmp key_total e.0 e.1 table rising) in
      let fewer = fewer_new n victim output other table e.0 e.1 es in
      let all = sum_by-cons (λ y. cond (is_new table y) 1 0) e es in
      let grown = length-put key_cmp key_total e.0 e.1 table rising in
      let one = one_more (find key_cmp e.0 table) (length table) in
      omega (arith, rest, fewer, all, grown, one)
    where
      one_more : (o : Option (Option Place)) (k : ℕ) → ◌≤◌ (cond (is_some o) k (k + 1)) (k + cond (is_none o) 1 0)
      one_more None k = omega arith
      one_more (Some v) k = omega arith

pub moves_buffered : MovesBuffered
moves_buffered shape c job h flash es newest give active_is =
    let runs = give.copied.runs in
    let heads = h.live.heads in
    let same : entries_all heads h.active.entries job.moves ≡ puts (entries_left heads job.moves) h.active.entries =
    entries_puts shape.block_pages c.victim c.output runs.other heads h.active.entries job.moves (in_blocks shape c job h flash es give job.moves runs.moves_are) runs.order in
    let firsts_are : puts (entries_left heads job.moves) h.active.entries ≡ firsts (reverse (newest ++ entries_left heads job.moves)) =
    ap (λ (t : Table). puts (entries_left heads job.moves) t.entries) active_is ∙ puts_are_firsts newest (entries_left heads job.moves) in
    λ i. record { capacity = (active_is i).capacity; entries = (same ∙ firsts_are) i }

pub moves_fit : MovesFit
moves_fit shape c job h flash es newest give active_is room =
    let left = entries_left h.live.heads job.moves in
    let few = puts_few shape.block_pages c.victim c.output give.copied.runs.other left h.active.entries give.table_rising in
    let firsts_are : puts left h.active.entries ≡ firsts (reverse (newest ++ left)) = ap (λ (t : Table). puts left t.entries) active_is ∙ puts_are_firsts newest left in
    let size = ap length firsts_are ∙ firsts-reverse (newest ++ left) in
    let capacity = ap (λ (t : Table). t.capacity) active_is in
    let fits = room.0 in
    omega (arith, few, size, capacity, fits)
