-- What is kept of commands and of calls.
use Rattle.std.proofs.Common.{◌≡◌, List, [], ◌++◌, ℕ, Option, refl, ap}
use Rattle.pk_base.{specs.Shape.Shape, specs.Page.Flash, specs.Map.Map}
use Rattle.pk_nvme.specs.Command.{Command}
use Rattle.pk_nand.{specs.BoardState.BoardState, specs.Effects.OnlyReading, proofs.Reaching.Reached-start, proofs.Reaching.Went-reached}
use Rattle.pk_model.{specs.Growth.Goes, specs.Kept.Kept, specs.Kept.AtMost, specs.Reading.Holds, specs.Spaces.Terms, specs.Spaces.limits_at, proofs.Growing.weaken_went}
use Rattle.pk_model.specs.Run.{Exchange, RunWithin, commands, faults, records}

-- a flash that holds the map after the first commands, before any byte was posted
pub Kept-front : (shape : Shape) (terms : Terms) (start : Map) (cs : List Command) (n : Option ℕ) (flash : Flash) (served : List Exchange) (unserved : List Command) (left : Map)
    → commands served ++ unserved ≡ cs → RunWithin shape terms start served left → Holds shape flash left → limits_at shape flash ≡ terms.limits → AtMost n (faults served)
    → Kept shape terms start cs n [] flash
Kept-front shape terms start cs n flash served unserved left is ran holds within few = record {
  served = served;
  unserved = unserved;
  from_front = is;
  map_left = left;
  ran = ran;
  held = holds;
  same_limits = within;
  unposted = records 0 served;
  begins = refl;
  few_faults = few;
}

-- what every cut of a call keeps may be weakened
pub Goes-weaken : (shape : Shape) (a b : BoardState) (P Q : Flash → List ℕ → Type 0) → ((f : Flash) (q : List ℕ) → P f q → Q f q) → Goes shape a b P → Goes shape a b Q
Goes-weaken shape a b P Q f went = (went.0, weaken_went went.0 a b P Q f went.1, went.2)

-- nothing was done but reads
pub Goes-reading : (shape : Shape) (a b : BoardState) (P : Flash → List ℕ → Type 0) → OnlyReading a b → P a.pages [] → Goes shape a b P
Goes-reading shape a b P only here = (
  [],
  Went-reached [] a b P (Reached-start a b P (ap (λ (s : BoardState). s.shape) only) (ap (λ (s : BoardState). s.pages) only)
      (ap (λ (s : BoardState). s.trail) only) (ap (λ (s : BoardState). s.posted) only) here),
  tt,
)
