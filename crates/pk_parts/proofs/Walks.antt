-- The keys from one on, and how many pages the runs have.
use Rattle.std.proofs.Common.{◌≡◌, ℕ, ◌+◌, ◌<◌, ◌≤◌, refl, ap, subst, ◌∙◌, arith, true, false, not, List, [], ◌∷◌, length, if◌then◌else◌}
use Rattle.std.{specs.Prelude.slice_index_or, specs.Ordering.is_lt}
use Rattle.pk_base.{specs.Key.Key, specs.Key.key_cmp, specs.Entry.Entry, specs.Entry.Place, specs.Page.Flash, specs.Shape.Shape, specs.Shape.cap, specs.Shape.most_calls}
use Rattle.pk_pin.specs.Frames.{Frames}
use Rattle.pk_run.specs.Kept.{Kept, IsKept}
use Rattle.pk_level.specs.Levels.{AreOfLevels}
use Rattle.pk_walk.{specs.declared.position.Position.Position, specs.declared.position.Position.TheVariants.From, specs.Visible.visible, specs.Visible.is_wanted, specs.Visible.wanted}
use Rattle.pk_walk.specs.Walking.{Walk, IsLeft, read_of, most_read}
use Rattle.pk_parts.specs.Keys.{keys_of, not_below, keys_there}

-- ---- the keys that a walk begins with

keys_wanted : (from : Key) (es : List (Key × Place)) → keys_of (wanted (is_wanted (From from)) es) ≡ not_below from (keys_of es)
keys_wanted from [] = refl
keys_wanted from (e ∷ es) =
    elim (is_lt (key_cmp e.0 from)) as (λ b. keys_of (if not b then e ∷ wanted (is_wanted (From from)) es else wanted (is_wanted (From from)) es)
    ≡ (if not b then e.0 ∷ not_below from (keys_of es) else not_below from (keys_of es))) [
      | true ↦ keys_wanted from es
      | false ↦ ap (λ (ks : List Key). e.0 ∷ ks) (keys_wanted from es)
    ]

pub left_from : (w : Walk) (from : Key) (flash : Flash) (arena : Frames) (rs : List Kept) (active frozen : List Entry) (ess : List (List Entry)) → w.position ≡ From from
    → IsLeft w flash arena rs active frozen (wanted (is_wanted w.position) (visible (active ∷ frozen ∷ ess)))
    → (rest : List (Key × Place)) × IsLeft w flash arena rs active frozen rest × (keys_of rest ≡ keys_there from (active ∷ frozen ∷ ess))
left_from w from flash arena rs active frozen ess at left = (
  wanted (is_wanted w.position) (visible (active ∷ frozen ∷ ess)),
  left,
  ap (λ (p : Position). keys_of (wanted (is_wanted p) (visible (active ∷ frozen ∷ ess)))) at
      ∙ keys_wanted from (visible (active ∷ frozen ∷ ess)),
)

-- ---- the pages of the runs

few_read : (leases : List ℕ) (n m : ℕ) → n ≤ m → read_of leases n ≤ m
few_read leases n m h = omega (arith, h)

pub few_of_four : (rs : List Kept) (a b c d : Kept) (m : ℕ) → length rs ≡ 4 → length (slice_index_or rs 0 a).firsts ≤ m
    → length (slice_index_or rs 1 b).firsts ≤ m → length (slice_index_or rs 2 c).firsts ≤ m → length (slice_index_or rs 3 d).firsts ≤ m
    → most_read rs ≤ m + (m + (m + m))
few_of_four (r1 ∷ r2 ∷ r3 ∷ r4 ∷ []) a b c d m four h1 h2 h3 h4 =
    let f1 = few_read r1.leases (length r1.firsts) m h1 in
    let f2 = few_read r2.leases (length r2.firsts) m h2 in
    let f3 = few_read r3.leases (length r3.firsts) m h3 in
    let f4 = few_read r4.leases (length r4.firsts) m h4 in
    omega (arith, f1, f2, f3, f4)
few_of_four [] a b c d m four h1 h2 h3 h4 = absurd (omega (arith, four))
few_of_four (r1 ∷ []) a b c d m four h1 h2 h3 h4 = absurd (omega (arith, four))
few_of_four (r1 ∷ r2 ∷ []) a b c d m four h1 h2 h3 h4 = absurd (omega (arith, four))
few_of_four (r1 ∷ r2 ∷ r3 ∷ []) a b c d m four h1 h2 h3 h4 = absurd (omega (arith, four))
few_of_four (r1 ∷ r2 ∷ r3 ∷ r4 ∷ r5 ∷ rs) a b c d m four h1 h2 h3 h4 = absurd (omega (arith, four))

pub few_kept : (r kept : Kept) → r ≡ kept → IsKept r → length kept.firsts ≤ 1000000
few_kept r kept same is = subst (λ (x : Kept). length x.firsts ≤ 1000000) same (let pages = is.pages in let bound = is.bound in omega (arith, pages, bound))

-- a run has no more pages than its level
pub few_of_caps : (r kept : Kept) → r ≡ kept → IsKept r → length kept.firsts ≤ cap kept.shape kept.level
few_of_caps r kept same is = subst (λ (x : Kept). length x.firsts ≤ cap x.shape x.level) same is.pages

of_level : (r : Kept) (shape : Shape) (level : ℕ) → r.shape ≡ shape → r.level ≡ level → length r.firsts ≤ cap r.shape r.level → length r.firsts ≤ cap shape level
of_level r shape level same_shape same_level few = subst (λ s. length r.firsts ≤ cap s level) same_shape (subst (λ l. length r.firsts ≤ cap r.shape l) same_level few)

pub few_of_levels : (shape : Shape) (pinned : ℕ) (rs : List Kept) (a b c d : Kept) → length rs ≡ 4 → AreOfLevels shape pinned 1 rs
    → length (slice_index_or rs 0 a).firsts ≤ cap (slice_index_or rs 0 a).shape (slice_index_or rs 0 a).level
    → length (slice_index_or rs 1 b).firsts ≤ cap (slice_index_or rs 1 b).shape (slice_index_or rs 1 b).level
    → length (slice_index_or rs 2 c).firsts ≤ cap (slice_index_or rs 2 c).shape (slice_index_or rs 2 c).level
    → length (slice_index_or rs 3 d).firsts ≤ cap (slice_index_or rs 3 d).shape (slice_index_or rs 3 d).level
    → most_read rs < most_calls shape
unfolding most_calls
few_of_levels shape pinned (r1 ∷ r2 ∷ r3 ∷ r4 ∷ []) a b c d four each h1 h2 h3 h4 =
    let l1 = each.0 in
    let l2 = each.1.0 in
    let l3 = each.1.1.0 in
    let l4 = each.1.1.1.0 in
    let f1 = few_read r1.leases (length r1.firsts) (cap shape 1) (of_level r1 shape 1 l1.same_shape l1.same_level h1) in
    let f2 = few_read r2.leases (length r2.firsts) (cap shape 2) (of_level r2 shape 2 l2.same_shape l2.same_level h2) in
    let f3 = few_read r3.leases (length r3.firsts) (cap shape 3) (of_level r3 shape 3 l3.same_shape l3.same_level h3) in
    let f4 = few_read r4.leases (length r4.firsts) (cap shape 4) (of_level r4 shape 4 l4.same_shape l4.same_level h4) in
    omega (arith, f1, f2, f3, f4)
few_of_levels shape pinned [] a b c d four each h1 h2 h3 h4 = absurd (omega (arith, four))
few_of_levels shape pinned (r1 ∷ []) a b c d four each h1 h2 h3 h4 = absurd (omega (arith, four))
few_of_levels shape pinned (r1 ∷ r2 ∷ []) a b c d four each h1 h2 h3 h4 = absurd (omega (arith, four))
few_of_levels shape pinned (r1 ∷ r2 ∷ r3 ∷ []) a b c d four each h1 h2 h3 h4 = absurd (omega (arith, four))
few_of_levels shape pinned (r1 ∷ r2 ∷ r3 ∷ r4 ∷ r5 ∷ rs) a b c d four each h1 h2 h3 h4 = absurd (omega (arith, four))
