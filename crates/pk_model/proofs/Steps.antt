-- Steps one after another, and steps that were interrupted.
use Rattle.std.proofs.Common.{◌≡◌, ℕ, zero, suc, ◌+◌, ◌≤◌, ap, ◌∙◌, arith, Result, Ok, Err}
use Rattle.pk_base.specs.Shape.{Shape}
use Rattle.pk_nand.{specs.declared.types.Fault.Fault, specs.BoardState.BoardState, specs.Calls.IsReady, specs.Effects.Works, proofs.Writing.shape_is}
use Rattle.pk_nand.proofs.Effects.{works_none, works_then, stops_then}
use Rattle.pk_model.{specs.Wear.root_number, specs.Wear.roots, specs.Steps.RootsUpTo, specs.Steps.Step}

-- ---- the numbers of roots

-- of two boards of one shape
pub roots_few : (shape : Shape) (n : ℕ) (old new : BoardState) → IsReady old shape → IsReady new shape
    → root_number shape new.pages ≤ root_number shape old.pages + n → roots new ≤ roots old + n
roots_few shape n old new before after few =
    let now : roots new ≡ root_number shape new.pages = ap (λ (s : Shape). root_number s new.pages) (shape_is new shape after) in
    let was : roots old ≡ root_number shape old.pages = ap (λ (s : Shape). root_number s old.pages) (shape_is old shape before) in
    omega (arith, few, now, was)

pub RootsUpTo-le : (n : ℕ) (old new : BoardState) → RootsUpTo n old new → roots new ≤ roots old + n
RootsUpTo-le zero old new same = omega (arith, same)
RootsUpTo-le (suc n) old new few = few

pub RootsUpTo-same : (n : ℕ) (old new : BoardState) → roots new ≡ roots old → RootsUpTo n old new
RootsUpTo-same zero old new same = same
RootsUpTo-same (suc n) old new same = omega (arith, same)

pub RootsUpTo-then : (n k most : ℕ) (a b c : BoardState) → n + k ≤ most → RootsUpTo n a b → RootsUpTo k b c → RootsUpTo most a c
RootsUpTo-then zero zero most a b c few first second = RootsUpTo-same most a c (second ∙ first)
RootsUpTo-then zero (suc k) zero a b c few first second = absurd (omega (arith, few))
RootsUpTo-then zero (suc k) (suc m) a b c few first second = omega (arith, few, first, second)
RootsUpTo-then (suc n) k zero a b c few first second = absurd (omega (arith, few))
RootsUpTo-then (suc n) k (suc m) a b c few first second = let more = RootsUpTo-le k b c second in omega (arith, few, first, more)

pub RootsUpTo-more : (n most : ℕ) (old new : BoardState) → n ≤ most → RootsUpTo n old new → RootsUpTo most old new
RootsUpTo-more zero most old new few same = RootsUpTo-same most old new same
RootsUpTo-more (suc n) zero old new few up = absurd (omega (arith, few))
RootsUpTo-more (suc n) (suc m) old new few up = omega (arith, few, up)

-- ---- steps

-- nothing was done
pub Step-none : {T : Type 0} (x : T) (Ended : T → Type 0) (Broken : Type 0) (shape : Shape) (most : ℕ) (old new : BoardState) → new ≡ old → IsReady new shape → Ended x
    → Step Ended Broken shape most old new (Ok x)
Step-none x Ended Broken shape most old new same ready ended = record {
  ended = ended;
  broken = tt;
  works = works_none old new same;
  stops = tt;
  stopped = tt;
  roots_few = RootsUpTo-same most old new (ap roots same);
  ready = ready;
}

-- it ended, or was broken off: what that says may be said otherwise
pub Step-says : {T : Type 0} (r : Result T Fault) (E E' : T → Type 0) (B B' : Type 0) (shape : Shape) (n most : ℕ) (old new : BoardState) → n ≤ most
    → ((x : T) → E x → E' x) → (B → B') → Step E B shape n old new r → Step E' B' shape most old new r
Step-says (Ok x) E E' B B' shape n most old new few f g step = record {
  ended = f x step.ended;
  broken = tt;
  works = step.works;
  stops = tt;
  stopped = tt;
  roots_few = RootsUpTo-more n most old new few step.roots_few;
  ready = step.ready;
}
Step-says (Err e) E E' B B' shape n most old new few f g step = record {
  ended = tt;
  broken = g step.broken;
  works = tt;
  stops = step.stops;
  stopped = step.stopped;
  roots_few = RootsUpTo-more n most old new few step.roots_few;
  ready = step.ready;
}

-- the first part was broken off
pub Step-broken : {T U : Type 0} (e : Fault) (E : T → Type 0) (E' : U → Type 0) (B B' : Type 0) (shape : Shape) (n most : ℕ) (old new : BoardState) → n ≤ most → (B → B')
    → Step E B shape n old new (Err e) → Step E' B' shape most old new (Err e)
Step-broken e E E' B B' shape n most old new few g step = record {
  ended = tt;
  broken = g step.broken;
  works = tt;
  stops = step.stops;
  stopped = step.stopped;
  roots_few = RootsUpTo-more n most old new few step.roots_few;
  ready = step.ready;
}

-- a second part after one that ended
pub Step-then : {T : Type 0} (r : Result T Fault) (E E' : T → Type 0) (B B' : Type 0) (shape : Shape) (n k most : ℕ) (a b c : BoardState) → n + k ≤ most → Works a b → RootsUpTo n a b
    → ((x : T) → E x → E' x) → (B → B') → Step E B shape k b c r → Step E' B' shape most a c r
Step-then (Ok x) E E' B B' shape n k most a b c few works up f g second = record {
  ended = f x second.ended;
  broken = tt;
  works = works_then a b c works second.works;
  stops = tt;
  stopped = tt;
  roots_few = RootsUpTo-then n k most a b c few up second.roots_few;
  ready = second.ready;
}
Step-then (Err e) E E' B B' shape n k most a b c few works up f g second = record {
  ended = tt;
  broken = g second.broken;
  works = tt;
  stops = stops_then a b c works second.stops;
  stopped = second.stopped;
  roots_few = RootsUpTo-then n k most a b c few up second.roots_few;
  ready = second.ready;
}
