-- Steps inside a command: one after another, and what one that was interrupted leaves.
use Rattle.std.proofs.Common.{◌≡◌, ℕ, ◌+◌, ◌≤◌, refl, sym, ap, subst, ◌∙◌, Result, Ok}
use Rattle.pk_base.specs.Shape.{Shape}
use Rattle.pk_nand.{specs.declared.types.Fault.Fault, specs.BoardState.BoardState, specs.Calls.IsReady, specs.Effects.Works}
use Rattle.pk_model.{specs.Steps.RootsUpTo, specs.Steps.Step, proofs.Steps.Step-none, proofs.Steps.Step-then}
use Rattle.pk_parts.{specs.Parts.Parts, specs.Moves.KeepsAll, specs.Moves.BreaksAll, specs.Moves.MayStep, specs.Moves.StepKeeps, specs.Moves.OnlyCommits, specs.Moves.LeavesValues}
use Rattle.pk_parts.proofs.Keeping.{KeepsAll-none, KeepsAll-then, BreaksAll-then}
use Rattle.pk_background.proofs.Rooming.{stands_after}

-- ---- steps that keep the map

pub none_step : (d : Parts) (most : ℕ) (board : BoardState) (u : Unit {0}) → IsReady board d.log.shape → StepKeeps d d most board board (Ok u)
none_step d most board u ready =
    Step-none u (λ (x : Unit). KeepsAll d d board board) (BreaksAll d board board) d.log.shape most board board refl ready (KeepsAll-none d d board board refl refl)

pub leaves_none : (d : Parts) → LeavesValues d d
leaves_none d = record { rest = refl; frames = refl; same_shape = refl; as_many = refl }

pub shape_committed : (a b : Parts) → OnlyCommits a b → b.log.shape ≡ a.log.shape
shape_committed a b rest = ap (λ (d : Parts). d.log.shape) rest

pub leaves_twice : (a b c : Parts) → LeavesValues a b → LeavesValues b c → LeavesValues a c
leaves_twice a b c first second = record {
  rest = second.rest ∙ ap (λ (d : Parts). record d { log = c.log; levels = c.levels; arena = c.arena; schedule = c.schedule; pool = c.pool }) first.rest;
  frames = second.frames ∙ first.frames;
  same_shape = second.same_shape ∙ first.same_shape;
  as_many = second.as_many ∙ first.as_many;
}

pub leaves_committed : (a b : Parts) → OnlyCommits a b → LeavesValues a b
leaves_committed a b rest = let T : Parts → Type 0 = λ d. LeavesValues a d in subst T (sym rest) (record { rest = refl; frames = refl; same_shape = refl; as_many = refl })

-- what the next step asks
pub may_after : (a b : Parts) (n : ℕ) (s0 s1 : BoardState) (u : Unit {0}) → MayStep a s0 → b.log.shape ≡ a.log.shape → StepKeeps a b n s0 s1 (Ok u) → MayStep b s1
may_after a b n s0 s1 u may same step = record {
  ready = subst (λ (s : Shape). IsReady s1 s) (sym same) step.ready;
  stands = stands_after a b s0 s1 may.stands same step.ended;
}

-- a second step after one that ended, of a drive with the same shape
pub later : {T : Type 0} (r : Result T Fault) (E E' : T → Type 0) (B B' : Type 0) (shape shape' : Shape) (n k most : ℕ) (a b c : BoardState) → shape' ≡ shape → n + k ≤ most
    → Works a b → RootsUpTo n a b → ((x : T) → E x → E' x) → (B → B') → Step E B shape' k b c r → Step E' B' shape most a c r
later r E E' B B' shape shape' n k most a b c same few works up f g second =
    Step-then r E E' B B' shape n k most a b c few works up f g (subst (λ (s : Shape). Step E B s k b c r) same second)

pub keeps_later : (r : Result Unit Fault) (a b c : Parts) (n k most : ℕ) (s0 s1 s2 : BoardState) (u : Unit {0}) → IsReady s0 a.log.shape → b.log.shape ≡ a.log.shape → n + k ≤ most
    → StepKeeps a b n s0 s1 (Ok u) → StepKeeps b c k s1 s2 r → StepKeeps a c most s0 s2 r
keeps_later r a b c n k most s0 s1 s2 u ready same few first second =
    later r (λ (x : Unit). KeepsAll b c s1 s2) (λ (x : Unit). KeepsAll a c s0 s2) (BreaksAll b s1 s2) (BreaksAll a s0 s2) a.log.shape b.log.shape n k most s0 s1 s2 same few first.works first.roots_few
    (λ x kept. KeepsAll-then a b c s0 s1 s2 ready first.ended kept) (λ broken. BreaksAll-then a b s0 s1 s2 ready first.ended broken) second
