-- An image that was found, and its drive that was opened.
use Rattle.std.proofs.Common.{◌≡◌, List, [], ℕ, Option, None, Some, IsSome, refl, sym, subst, ap, ◌∙◌}
use Rattle.pk_base.{specs.Page.Flash, specs.Shape.Shape, specs.Map.Map}
use Rattle.pk_nvme.specs.Command.{Command}
use Rattle.pk_nand.{specs.BoardState.BoardState, specs.BoardState.shape_or_none, specs.Calls.Loaded, specs.Calls.Rose, specs.Effects.OnlyReading, proofs.Reaching.Reached-start}
use Rattle.pk_nand.proofs.Reaching.{Went-reached}
use Rattle.pk_model.{specs.Growth.Goes, specs.Kept.Kept, specs.Kept.rise, specs.Reading.Holds, specs.Spaces.Terms, specs.Spaces.limits_at, specs.Wear.root_number, specs.Wear.roots}
use Rattle.pk_serve.{specs.Complete.NoneRose, proofs.Counting.at_most-zero}
use Rattle.pk_top.specs.Serves.{behind_opening}

-- ---- on a board that holds its pages from the start

-- the shape and the pages that were found are those of the board
pub found_shape : (old loaded : BoardState) (s shape : Shape) → old.shape ≡ Some shape → Loaded old loaded (Some s) → s ≡ shape
found_shape old loaded s shape has found =
    let told : ◌≡◌ {A = Option Shape} (Some s) (Some shape) = sym found.shape_is ∙ ((found.held (subst IsSome (sym has) refl)).1 ∙ has) in cc

pub found_pages : (old loaded : BoardState) (found : Option Shape) (shape : Shape) → old.shape ≡ Some shape → Loaded old loaded found → loaded.pages ≡ old.pages
found_pages old loaded found shape has l = (l.held (subst IsSome (sym has) refl)).0

-- an image is found
pub none_missing : (old loaded : BoardState) (shape : Shape) → old.shape ≡ Some shape → Loaded old loaded None → ⊥
none_missing old loaded shape has found =
    let told : ◌≡◌ {A = Option Shape} None (Some shape) = sym found.shape_is ∙ ((found.held (subst IsSome (sym has) refl)).1 ∙ has) in cc

-- and as many roots were installed as before
pub same_roots : (old loaded : BoardState) (found : Option Shape) (shape : Shape) → old.shape ≡ Some shape → Loaded old loaded found → roots old ≡ roots loaded
same_roots old loaded found shape has l =
    let held = l.held (subst IsSome (sym has) refl) in λ k. root_number (shape_or_none (sym held.1 k)) (sym held.0 k)

-- no call fails after the load either
pub none_loaded : (old loaded new : BoardState) (found : Option Shape) → Loaded old loaded found → NoneRose old new → NoneRose loaded new
none_loaded old loaded new found l none =
    record {
      reads = λ rose. none.reads (subst (λ (n : ℕ). Rose n new.read_faults) (ap (λ (s : BoardState). s.read_faults) l.rest) rose);
      stops = λ rose. none.stops (subst (λ (n : ℕ). Rose n new.stop_faults) (ap (λ (s : BoardState). s.stop_faults) l.rest) rose);
      input = λ rose. none.input (subst (λ (n : ℕ). Rose n new.in_faults) (ap (λ (s : BoardState). s.in_faults) l.rest) rose);
      output = λ rose. none.output (subst (λ (n : ℕ). Rose n new.out_faults) (ap (λ (s : BoardState). s.out_faults) l.rest) rose);
    }

-- ---- what is kept

-- a flash that holds the map before the commands, before any byte was posted
pub Kept-none : (shape : Shape) (terms : Terms) (start : Map) (cs : List Command) (before behind : ℕ) (flash : Flash) → Holds shape flash start → limits_at shape flash ≡ terms.limits
    → Kept shape terms start cs (rise before behind) [] flash
Kept-none shape terms start cs before behind flash holds within = record {
  served = [];
  unserved = cs;
  from_front = refl;
  map_left = start;
  ran = refl;
  held = holds;
  same_limits = within;
  unposted = [];
  begins = refl;
  few_faults = at_most-zero (rise before behind);
}

-- nothing was done but reads
pub Goes-reading : (shape : Shape) (a b : BoardState) (P : Flash → List ℕ → Type 0) → OnlyReading a b → P a.pages [] → Goes shape a b P
Goes-reading shape a b P only here = (
  [],
  Went-reached [] a b P (Reached-start a b P (ap (λ (s : BoardState). s.shape) only) (ap (λ (s : BoardState). s.pages) only)
      (ap (λ (s : BoardState). s.trail) only) (ap (λ (s : BoardState). s.posted) only) here),
  tt,
)

-- the reads of opening leave the flash
pub Goes-behind : (shape : Shape) (frames : ℕ) (loaded new : BoardState) (P Q : Flash → List ℕ → Type 0) → ((f : Flash) (q : List ℕ) → P f q → Q f q)
    → Goes shape (behind_opening shape frames loaded) new P → Goes shape loaded new Q
Goes-behind shape frames loaded new P Q f went = (
  went.0,
  record { trail = went.1.trail; posted = went.1.posted; same_shape = went.1.same_shape; cuts = λ g q cut. f g q (went.1.cuts g q cut); stands = went.1.stands },
  went.2,
)
