-- A board on which no page differs: map, log and blocks are unchanged.
use Rattle.std.proofs.Common.{◌≡◌, ℕ, refl, sym, ap, [], append-nil}
use Rattle.pk_base.{specs.Page.Flash, specs.Page.page_at, specs.Map.Map}
use Rattle.pk_nand.{specs.BoardState.BoardState, proofs.Reaching.Reached-start}
use Rattle.pk_rootfmt.specs.Root.{Root}
use Rattle.pk_model.{specs.Found.Found, specs.Growth.Reaches, specs.Crashes.CrashFinds, specs.Crashes.background}
use Rattle.pk_law_steps.proofs.Untouched.{under_reads}
use Rattle.pk_reclaim.{specs.Space.ReclaimParts, specs.Space.SpaceOnFlash, specs.Steps.KeepsOthers, specs.Steps.SpaceMoves, specs.Steps.StillIn, proofs.Owners.SameOwners, proofs.Owners.others_kept}
use Rattle.pk_reclaim.proofs.Quiet.{NamesOwned}
use Rattle.pk_gc.specs.declared.course.Phase.{Phase}
use Rattle.pk_gc.specs.declared.course.Phase.TheVariants.{Idle, Copies, Commits, GivesBack}

-- no page differs, nothing was posted, and no mark was made
pub record IsStill (old new : BoardState) : Type 0 where
  pub shape : new.shape ≡ old.shape
  pub pages : new.pages ≡ old.pages
  pub trail : new.trail ≡ old.trail
  pub posted : new.posted ≡ old.posted

pub still_same : (old new : BoardState) → new ≡ old → IsStill old new
still_same old new same = record {
  shape = ap (λ (s : BoardState). s.shape) same;
  pages = ap (λ (s : BoardState). s.pages) same;
  trail = ap (λ (s : BoardState). s.trail) same;
  posted = ap (λ (s : BoardState). s.posted) same;
}

still_in : (p : Phase) (found : Found) → StillIn p found found.newest
still_in Idle found = tt
still_in (Copies c) found = tt
still_in (Commits victim) found = refl
still_in (GivesBack victim) found = tt

-- no value moves, and no entry is written
pub none_moved : (x x' : ReclaimParts) (old new : BoardState) (top : ℕ × Root) (found : Found) (m : Map) → SpaceOnFlash x' new.pages top found m
    → KeepsOthers x.log.shape top.1 x.pool old.pages x'.pool new.pages → Reaches x.log.shape old new (CrashFinds x.log.shape background old.pages m) → SpaceMoves x old top found m x' new
none_moved x x' old new top found m stands others cuts = record {
  moves = [];
  newest = found.newest;
  newest_is = sym (append-nil found.newest);
  still = still_in x.job.phase found;
  then_places = refl;
  as_many = refl;
  stands = stands;
  others = others;
  cuts = cuts;
}

-- and no page differs
pub still_moves : (x x' : ReclaimParts) (old new : BoardState) (top : ℕ × Root) (found : Found) (m : Map) → IsStill old new → SpaceOnFlash x old.pages top found m → SameOwners x.pool x'.pool
    → SpaceOnFlash x' new.pages top found m → SpaceMoves x old top found m x' new
still_moves x x' old new top found m still was owners stands =
    none_moved x x' old new top found m stands (others_kept x.log.shape top.1 x.pool old.pages x'.pool new.pages owners (λ k low. same k) (λ k owned. same k) (λ k owned other. same k)) (
      [],
      Reached-start old new (CrashFinds x.log.shape background old.pages m) still.shape still.pages still.trail still.posted
          (refl, under_reads x.log.shape old.pages [] top found m was.under),
      tt,
    )
  where
    same : (k : ℕ) → page_at new.pages k ≡ page_at old.pages k
    same k = ap (λ (f : Flash). page_at f k) still.pages

-- the blocks that the root names
pub names_of : (x : ReclaimParts) (flash : Flash) (top : ℕ × Root) (found : Found) (m : Map) → SpaceOnFlash x flash top found m → NamesOwned x.pool top.1
names_of x flash top found m stands = record { journal = stands.journal; runs = stands.runs }
