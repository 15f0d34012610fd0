-- A value that its namespace has room for has room among all values.
use Rattle.std.proofs.Common.{◌≡◌, ℕ, ◌≤◌, ◌==◌, true, false, List, length, sym, ap, subst, arith, eqb-true, refl}
use Rattle.std.{specs.FinMap.insert, specs.FinMap.entries, specs.FinMap.entries-insert, specs.List.AllByRecursion}
use Rattle.pk_base.{specs.Key.Key, specs.Key.space_of, specs.Map.Map, specs.Map.live}
use Rattle.pk_nand.specs.BoardState.{BoardState}
use Rattle.pk_law_isolation.proofs.Sums.{within_sum}
use Rattle.pk_model.{specs.Spaces.AreInSpaces, specs.Spaces.in_space, specs.Spaces.limit_of, proofs.Entries.all_put, proofs.MapLemmas.key_total, proofs.SpaceLemmas.in_space-insert-other}
use Rattle.pk_parts.{specs.Parts.Parts, specs.Parts.drive_limits, specs.Agreeing.DriveOnFlash, proofs.OwnLimits.limits_on, proofs.OwnLimits.limits_sum, proofs.Unchanging.held_own}
use Rattle.pk_changes.specs.Changes.{HasRoomFor}

-- a key of one of k namespaces
in_spaces_put : (spaces : ℕ) (m : Map) (key : Key) (value : List ℕ) → 1 ≤ space_of key → space_of key ≤ spaces → AreInSpaces spaces m → AreInSpaces spaces (insert m key value)
in_spaces_put spaces m key value some most all =
    let In : Key × List ℕ → Type 0 = λ e. (1 ≤ space_of e.0) × (space_of e.0 ≤ spaces) in
    subst (AllByRecursion In) (sym (entries-insert key_total m key value)) (all_put In key value (entries m) (some, most) all)

module _ (d : Parts) (board : BoardState) (a : DriveOnFlash d board.shape board.pages) (key : Key) (value : List ℕ) (some : 1 ≤ space_of key)
    (most : space_of key ≤ length (drive_limits d)) (own : live d.log.shape (in_space (space_of key) (insert a.all key value)) ≤ limit_of (drive_limits d) (space_of key)) where
  each : (space : ℕ) → 1 ≤ space → space ≤ length (drive_limits d) → live d.log.shape (in_space space (insert a.all key value)) ≤ limit_of (drive_limits d) space
  each space least within =
      elim (space_of key == space) as (λ t. (space_of key == space) ≡ t → live d.log.shape (in_space space (insert a.all key value)) ≤ limit_of (drive_limits d) space) [
        | true ↦ λ is. subst (λ (n : ℕ). live d.log.shape (in_space n (insert a.all key value)) ≤ limit_of (drive_limits d) n) (eqb-true (space_of key) space is) own
        | false ↦ λ other.
            let unchanged = ap (live d.log.shape) (in_space-insert-other space a.all key other value) in
            let before = (held_own d board a).each_few space least within in
            omega (arith, unchanged, before)
      ] refl

  pub has_room_for : HasRoomFor d.log.shape board.pages a.all key value
  has_room_for =
      let same = sym (limits_on d board.shape board.pages a) in
      let all = within_sum d.log.shape (drive_limits d) (insert a.all key value) (in_spaces_put (length (drive_limits d)) a.all key value some most (held_own d board a).in_spaces) each in
      let fits = limits_sum d board.shape board.pages a in
      record {
        spaced = subst (λ (limits : List ℕ). space_of key ≤ length limits) same most;
        own = subst (λ (limits : List ℕ). live d.log.shape (in_space (space_of key) (insert a.all key value)) ≤ limit_of limits (space_of key)) same own;
        all = omega (arith, all, fits);
      }
