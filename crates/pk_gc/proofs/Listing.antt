-- Moves one after another.
use Rattle.std.proofs.Common.{◌≡◌, ℕ, ◌+◌, ◌<◌, refl, sym, ap, ◌∙◌, true, false, cond, List, [], ◌∷◌, ◌++◌, length, take, get_or, add-one}
use Rattle.std.proofs.Math.Seq.{take-suc}
use Rattle.pk_base.specs.Entry.{Entry}
use Rattle.pk_live.specs.Values.{Values}
use Rattle.pk_buf.specs.Table.{Table}
use Rattle.pk_law_moves.specs.Moves.{entries_of}
use Rattle.pk_gc.specs.declared.moves.Move.{Move}
use Rattle.pk_gc.specs.State.{moved_entry, placed_at, is_left, left_of, heads_behind, entries_behind, heads_all, entries_all}

abbrev pub entries_left : List ℕ → List Move → List Entry
entries_left heads ms = entries_of (placed_at (left_of heads ms))

pub left_push : (heads : List ℕ) (ms : List Move) (m : Move) → entries_left heads (ms ++ m ∷ []) ≡ entries_left heads ms ++ entries_left heads (m ∷ [])
left_push heads [] m = refl
left_push heads (x ∷ ms) m =
    elim (is_left heads x) as (λ b. entries_of (placed_at (cond b (x ∷ left_of heads (ms ++ m ∷ [])) (left_of heads (ms ++ m ∷ []))))
    ≡ entries_of (placed_at (cond b (x ∷ left_of heads ms) (left_of heads ms))) ++ entries_left heads (m ∷ [])) [
      | true ↦ ap (λ (es : List Entry). moved_entry x ∷ es) (left_push heads ms m)
      | false ↦ left_push heads ms m
    ]

pub heads_push : (heads : List ℕ) (ms : List Move) (m : Move) → heads_all heads (ms ++ m ∷ []) ≡ heads_behind (heads_all heads ms) m
heads_push heads [] m = refl
heads_push heads (x ∷ ms) m = heads_push (heads_behind heads x) ms m

pub entries_push : (heads : List ℕ) (es : List Entry) (ms : List Move) (m : Move) → entries_all heads es (ms ++ m ∷ []) ≡ entries_behind (heads_all heads ms) (entries_all heads es ms) m
entries_push heads es [] m = refl
entries_push heads es (x ∷ ms) m = entries_push (heads_behind heads x) (entries_behind heads es x) ms m

pub take_next : (ms : List Move) (i : ℕ) (m : Move) → i < length ms → m ≡ get_or ms i m → take (i + 1) ms ≡ take i ms ++ m ∷ []
take_next ms i m less is = ap (λ k. take k ms) (add-one i) ∙ take-suc ms i m less ∙ (λ j. take i ms ++ sym is j ∷ [])

-- one more of them in the live map, and in the buffer
pub live_next : (start before after : Values) (ms : List Move) (i : ℕ) (m : Move) → i < length ms → m ≡ get_or ms i m
    → before ≡ record start { heads = heads_all start.heads (take i ms) } → after ≡ record before { heads = heads_behind before.heads m }
    → after ≡ record start { heads = heads_all start.heads (take (i + 1) ms) }
live_next start before after ms i m less is was now =
    let next : heads_behind (heads_all start.heads (take i ms)) m ≡ heads_all start.heads (take (i + 1) ms) = sym
    (ap (λ (xs : List Move). heads_all start.heads xs) (take_next ms i m less is) ∙ heads_push start.heads (take i ms) m) in
    now ∙ (λ j. record (was j) { heads = heads_behind (was j).heads m }) ∙ (λ j. record start { heads = next j })

pub table_next : (start before : Values) (old table after : Table) (ms : List Move) (i : ℕ) (m : Move) → i < length ms → m ≡ get_or ms i m
    → before ≡ record start { heads = heads_all start.heads (take i ms) } → table ≡ record old { entries = entries_all start.heads old.entries (take i ms) }
    → after ≡ record table { entries = entries_behind before.heads table.entries m }
    → after ≡ record old { entries = entries_all start.heads old.entries (take (i + 1) ms) }
table_next start before old table after ms i m less is was was_table now =
    let next : entries_behind (heads_all start.heads (take i ms)) (entries_all start.heads old.entries (take i ms)) m ≡ entries_all start.heads old.entries (take (i + 1) ms) =
    sym (ap (λ (xs : List Move). entries_all start.heads old.entries xs) (take_next ms i m less is) ∙ entries_push start.heads old.entries (take i ms) m) in
    now ∙ (λ j. record (was_table j) { entries = entries_behind (was j).heads (was_table j).entries m }) ∙ (λ j. record old { entries = next j })
