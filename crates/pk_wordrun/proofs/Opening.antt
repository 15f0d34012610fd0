-- A drive that was opened fits its board.
use Rattle.std.proofs.Common.{◌≡◌, ◌≤◌, ℕ, [], length, Option, Ok, subst, arith, List}
use Rattle.pk_base.{specs.Shape.Shape, specs.Shape.IsShape, specs.Entry.Entry, specs.Page.Flash, specs.Map.Map}
use Rattle.pk_nand.{specs.BoardState.BoardState, specs.Calls.IsReady}
use Rattle.pk_model.{specs.Laws.IsHeldMap, specs.Laws.MapHeld, specs.Spaces.limits_at, specs.Spaces.limit_of, specs.Spaces.in_space, specs.Reading.reading}
use Rattle.pk_host.specs.Good.{IsGoodMap}
use Rattle.pk_serve.proofs.Limiting.{limits_some}
use Rattle.pk_port.{proofs.Isolating.part_alone, proofs.Isolating.part_sized, proofs.Serving.mounted_limits, specs.Ready.Fits, specs.Steps.mount}
use Rattle.pk_call.{specs.Sight.Sight, specs.Drive.HoldsMap}

module _ (agrees : Option Shape → Flash → Type 0) (shape : Shape) (b : BoardState) (d : Sight) where
  -- the first namespace of a map that is held
  first_good : (m : Map) → IsHeldMap shape (limits_at shape b.pages) m → 1 ≤ length (limits_at shape b.pages) → IsGoodMap shape (limit_of (limits_at shape b.pages) 1) (in_space 1 m)
  first_good m held some = record { sized = part_sized shape m held.is_map; alone = part_alone m; few = held.each_few 1 (omega arith) some }

  pub fits-opened : IsShape shape → MapHeld → IsReady b shape → agrees b.shape b.pages → d.pending ≡ [] → (m : Map) × HoldsMap shape (mount b d).terms b d m → Fits agrees shape b d
  fits-opened is_shape law ready agreed none stands =
      let R : List Entry → Type 0 = λ p. reading shape b.pages p ≡ Ok stands.0 in
      let reads = subst R none stands.1.map_is in
      let good = first_good stands.0 (law shape b.pages [] stands.0 is_shape ready.flash tt reads) (limits_some shape b.pages [] stands.0 reads) in
      record {
        shape_is = ready.shape_is;
        ready = λ going. record {
          agreed = agreed;
          none = none;
          map = stands.0;
          stands = stands.1;
          good = subst (λ (limits : List ℕ). IsGoodMap shape (limit_of limits 1) (in_space 1 stands.0)) (mounted_limits shape b d ready.shape_is) good;
        };
      }

  pub fits-somehow : IsShape shape → MapHeld → IsReady b shape → agrees b.shape b.pages → d.pending ≡ [] → (m : Map) × HoldsMap shape (mount b d).terms b d m → ∥ Fits agrees shape b d ∥₁
  fits-somehow is_shape law ready agreed none stands = let f = fits-opened is_shape law ready agreed none stands in ∣ f ∣₁
