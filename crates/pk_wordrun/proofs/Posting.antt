-- A drive fits its board after a post as before it.
use Rattle.std.proofs.Common.{◌≡◌, List, ℕ, Option, sym, subst}
use mathlib.Core.Logic.{∥∥₁_map}
use Rattle.pk_base.{specs.Shape.Shape, specs.Page.Flash}
use Rattle.pk_nand.{specs.BoardState.BoardState, specs.Operations.after_post}
use Rattle.pk_call.specs.Sight.{Sight}
use Rattle.pk_port.specs.Ready.{Fits}

module _ (agrees : Option Shape → Flash → Type 0) (shape : Shape) (b : BoardState) (text : List ℕ) (d : Sight) where
  fits-post : Fits agrees shape b d → Fits agrees shape (after_post b text) d
  fits-post f = record {
    shape_is = f.shape_is;
    ready = λ going.
        let r = f.ready going in
        record {
          agreed = r.agreed;
          none = r.none;
          map = r.map;
          stands = record { shape_is = r.stands.shape_is; frames_is = r.stands.frames_is; limits_is = r.stands.limits_is; map_is = r.stands.map_is };
          good = r.good;
        };
  }

  pub fits-posted : (c : BoardState) → c ≡ after_post b text → ∥ Fits agrees shape b d ∥₁ → ∥ Fits agrees shape c d ∥₁
  fits-posted c is f = ∥∥₁_map f (λ h. let T : BoardState → Type 0 = λ x. Fits agrees shape x d in subst T (sym is) (fits-post h))
