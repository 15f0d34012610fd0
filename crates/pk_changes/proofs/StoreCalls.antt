-- How many flash operations a Store and a Delete make, and how many roots they install, by their parts.
use Rattle.std.proofs.Common.{◌≡◌, ℕ, ◌+◌, ◌≤◌, arith, subst}
use Rattle.pk_base.specs.Shape.{Shape, IsShape, charge, most_pages, most_calls}
use Rattle.pk_law_work.specs.Calls.{commit_calls, lookup_calls, pair_calls, room_calls, room_roots, store_roots}
use Rattle.pk_law_work.proofs.Emptying.{deep, emptying_most}
use Rattle.pk_nand.specs.BoardState.{BoardState}
use Rattle.pk_background.{specs.Costs.Spends, specs.Costs.place_calls, specs.Costs.reclaim_calls, specs.Costs.put_calls, specs.Costs.space_and_put_calls, proofs.Callings.spends_then}

-- a Store looks its key up, makes a pair whole that was half made, and looks up once more after the reclaims that make room for its value
store_least : (shape : Shape) → IsShape shape → lookup_calls + (pair_calls + space_and_put_calls shape (most_pages shape)) ≤ most_calls shape
unfolding most_calls
store_least shape is =
    let empties = emptying_most shape is in
    let many = deep shape in
    omega (arith, empties, many)

delete_least : (shape : Shape) → IsShape shape → lookup_calls + (pair_calls + (room_calls shape + commit_calls)) ≤ most_calls shape
delete_least shape is = let most = store_least shape is in omega (arith, most)

-- the second calls begin with the same shape
module _ (shape shape' : Shape) (s0 s1 s2 : BoardState) (same : shape' ≡ shape) where
  pub spends_put : (len : ℕ) → Spends (room_calls shape) room_roots s0 s1
      → Spends (place_calls (charge shape' len) + commit_calls) 0 s1 s2 → Spends (put_calls shape (charge shape len)) room_roots s0 s2
  spends_put len room put =
      let count = charge shape len in
      let here = subst (λ (s : Shape). Spends (place_calls (charge s len) + commit_calls) 0 s1 s2) same put in
      spends_then (room_calls shape) (place_calls count + commit_calls) (put_calls shape count) room_roots 0 room_roots s0 s1 s2 (omega arith) (omega arith) room here

  pub spends_found : (len : ℕ) → Spends lookup_calls 0 s0 s1 → Spends (put_calls shape' (charge shape' len)) room_roots s1 s2
      → Spends (lookup_calls + put_calls shape (charge shape len)) room_roots s0 s2
  spends_found len look put =
      let puts = put_calls shape (charge shape len) in
      let here = subst (λ (s : Shape). Spends (put_calls s (charge s len)) room_roots s1 s2) same put in
      spends_then lookup_calls puts (lookup_calls + puts) 0 room_roots room_roots s0 s1 s2 (omega arith) (omega arith) look here

  pub spends_behind : (len : ℕ) → Spends (reclaim_calls shape) room_roots s0 s1
      → Spends (lookup_calls + put_calls shape' (charge shape' len)) room_roots s1 s2 → Spends (space_and_put_calls shape (charge shape len)) store_roots s0 s2
  spends_behind len reclaims found =
      let count = charge shape len in
      let here = subst (λ (s : Shape). Spends (lookup_calls + put_calls s (charge s len)) room_roots s1 s2) same found in
      spends_then (reclaim_calls shape) (lookup_calls + put_calls shape count) (space_and_put_calls shape count) room_roots room_roots store_roots s0 s1 s2 (omega arith) (omega arith) reclaims here

  pub spends_store : IsShape shape → Spends lookup_calls 0 s0 s1 → Spends (pair_calls + space_and_put_calls shape' (most_pages shape')) store_roots s1 s2 → Spends (most_calls shape) store_roots s0 s2
  spends_store is look put =
      let most = pair_calls + space_and_put_calls shape (most_pages shape) in
      let here = subst (λ (s : Shape). Spends (pair_calls + space_and_put_calls s (most_pages s)) store_roots s1 s2) same put in
      spends_then lookup_calls most (most_calls shape) 0 store_roots store_roots s0 s1 s2 (store_least shape is) (omega arith) look here

  pub spends_delete : IsShape shape → Spends lookup_calls 0 s0 s1 → Spends (pair_calls + (room_calls shape' + commit_calls)) room_roots s1 s2 → Spends (most_calls shape) room_roots s0 s2
  spends_delete is look taken =
      let here = subst (λ (s : Shape). Spends (pair_calls + (room_calls s + commit_calls)) room_roots s1 s2) same taken in
      spends_then lookup_calls (pair_calls + (room_calls shape + commit_calls)) (most_calls shape) 0 room_roots room_roots s0 s1 s2 (delete_least shape is) (omega arith) look here
