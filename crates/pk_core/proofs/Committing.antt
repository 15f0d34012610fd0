-- A commit between two commands: of a drive of which a pair is half made nothing is pending.
use Rattle.std.proofs.Common.{◌≡◌, ◌∙◌, inl, refl, sym, ap, subst, Bool, true, false, [], Some, Ok, Err}
use Rattle.std.specs.Prelude.{IsOk}
use Rattle.pk_base.{specs.Shape.Shape, specs.Map.Map}
use Rattle.pk_nand.{specs.declared.types.Fault.Fault, specs.BoardState.BoardState, specs.Effects.OnlyFlash, proofs.Reaching.Reached-start}
use Rattle.pk_model.{specs.Growth.Reaches, specs.Growth.Goes, specs.Crashes.CrashFinds, specs.Crashes.commit}
use Rattle.pk_parts.{specs.Parts.Parts, specs.Parts.is_half, specs.Agreeing.DriveOnFlash, specs.Moves.StandsBetween, specs.Moves.KeepsAll, specs.Moves.BreaksAll, proofs.Standing.agrees_between}
use Rattle.pk_parts.proofs.Halves.{not_made, stands, between, none_half}

-- The drive still represents the map, and the flash holds what it held, or the map, wherever the commit is cut.
pub record Committed (d' : Parts) (shape : Shape) (m : Map) (old new : BoardState) : Type 0 where
  pub stands : StandsBetween d' shape new.pages m
  pub cuts : Reaches shape old new (CrashFinds shape commit old.pages m)

module _ (d d' : Parts) (shape : Shape) (m : Map) (old new : BoardState) (was : StandsBetween d shape old.pages m) where
  none_pending : is_half d ≡ true → d.log.pending ≡ []
  none_pending half = none_half d old.pages was.top was.found was.without was.course half

  whole_kept : KeepsAll d d' old new → is_half d ≡ false → Committed d' shape m old new
  whole_kept keeps e = let kept = keeps shape m (stands d shape old.pages m was e) in record { stands = between d' shape new.pages m kept.stands; cuts = kept.cuts }

  half_kept : d' ≡ d → new ≡ old → Committed d' shape m old new
  half_kept same_parts same =
      let T : Parts → Type 0 = λ x. Committed x shape m old new in
      let S : BoardState → Type 0 = λ s. Committed d shape m old s in
      subst T (sym same_parts) (subst S (sym same) (record { stands = was; cuts = ([], Reached-start old old (CrashFinds shape commit old.pages m) refl refl refl refl (refl, inl refl), tt) }))

  pub committed : KeepsAll d d' old new → (d.log.pending ≡ [] → IsOk {T = Unit {0}} {E = Fault} (Ok tt) × (d' ≡ d) × (new ≡ old)) → Committed d' shape m old new
  committed keeps idle = by (is_half d) refl
    where
      by : (h : Bool) → is_half d ≡ h → Committed d' shape m old new
      by false e = whole_kept keeps e
      by true e = let same = idle (none_pending e) in half_kept same.1 same.2

  pub not_committed : (f : Fault) → BreaksAll d old new → (d.log.pending ≡ [] → IsOk {T = Unit {0}} (Err f) × (d' ≡ d) × (new ≡ old)) → Goes shape old new (CrashFinds shape commit old.pages m)
  not_committed f breaks idle = by (is_half d) refl
    where
      by : (h : Bool) → is_half d ≡ h → Goes shape old new (CrashFinds shape commit old.pages m)
      by false e = breaks shape m (stands d shape old.pages m was e)
      by true e = absurd (not_made f (idle (none_pending e)).0)

-- it agrees with its board still
pub agrees_committed : (d d' : Parts) (old new : BoardState) → DriveOnFlash d old.shape old.pages → KeepsAll d d' old new
    → (d.log.pending ≡ [] → IsOk {T = Unit {0}} {E = Fault} (Ok tt) × (d' ≡ d) × (new ≡ old)) → OnlyFlash old new
    → DriveOnFlash d' new.shape new.pages
agrees_committed d d' old new a keeps idle rest =
    let told : new.shape ≡ Some a.shape = ap (λ (s : BoardState). s.shape) rest ∙ a.told_is in
    let was : StandsBetween d a.shape old.pages a.all = record { top = a.top; found = a.found; without = a.without; with = a.with; course = a.course } in
    agrees_between d' new.shape a.shape new.pages a.all told (committed d d' a.shape a.all old new was keeps idle).stands
