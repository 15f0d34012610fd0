-- Steps of which one may fail by a read: one after another, and what else is said of them.
use Rattle.std.proofs.Common.{◌≡◌, ℕ, ◌+◌, ◌≤◌, refl, ap, ◌∙◌, arith, List, [], Result, Ok, Err}
use Rattle.std.specs.Prelude.{IfErr, OnOk}
use Rattle.pk_base.{specs.Shape.Shape, specs.Page.Flash}
use Rattle.pk_nand.{specs.declared.types.Fault.Fault, specs.declared.types.Fault.TheVariants.Reading, specs.declared.types.Fault.TheVariants.Stopped, specs.BoardState.BoardState, specs.Calls.IsReady}
use Rattle.pk_nand.{specs.Effects.OnlyFlash, specs.Effects.OnlyReading, specs.Effects.NoFault, proofs.Effects.only_then, proofs.Effects.rose_from, proofs.Reaching.Reached-start}
use Rattle.pk_model.{specs.Growth.Reaches, specs.Wear.roots, specs.Steps.Step, proofs.Steps.RootsUpTo-le}
use Rattle.pk_background.specs.Emptying.{Unread, Halts, Came, ReadsUpTo, StepOrRead, OnRunning}

-- ---- the board

pub no_fault_then : (a b c : BoardState) → NoFault a b → NoFault b c → NoFault a c
no_fault_then a b c first second = (second.0 ∙ first.0, second.1 ∙ first.1, second.2 ∙ first.2, second.3 ∙ first.3)

unread_behind : (a b c : BoardState) → NoFault a b → Unread b c → Unread a c
unread_behind a b c first second = record {
  read = rose_from first.1 second.read;
  up = (let same = first.1 in let up = second.up in omega (arith, same, up));
  flash = rose_from first.0 second.flash;
  no_stop = second.no_stop ∙ first.2;
}

pub halts_behind : (a b c : BoardState) → NoFault a b → Halts b c → Halts a c
halts_behind a b c first second = record { flash = rose_from first.0 second.flash; stop = rose_from first.2 second.stop; read = second.read ∙ first.1 }

-- after reads alone the flash is what it was
pub read_cuts : (shape : Shape) (P : Flash → List ℕ → Type 0) (old new : BoardState) → OnlyReading old new → P old.pages [] → Reaches shape old new P
read_cuts shape P old new only is = (
  [],
  Reached-start old new P (ap (λ (b : BoardState). b.shape) only) (ap (λ (b : BoardState). b.pages) only) (ap (λ (b : BoardState). b.trail) only) (ap (λ (b : BoardState). b.posted) only) is,
  tt,
)

-- ---- what is said otherwise

came_says : {T : Type 0} (r : Result T Fault) (E E' : T → Type 0) (K K' B B' : Type 0) (old new : BoardState)
    → ((x : T) → E x → E' x) → (K → K') → (B → B') → Came E K B old new r → Came E' K' B' old new r
came_says (Ok x) E E' K K' B B' old new f g h came = (f x came.0, came.1)
came_says (Err Reading) E E' K K' B B' old new f g h came = (g came.0, came.1)
came_says (Err Stopped) E E' K K' B B' old new f g h came = (h came.0, came.1)

-- it did not end
came_failed : {T U : Type 0} (e : Fault) (E : T → Type 0) (E' : U → Type 0) (K K' B B' : Type 0) (old new : BoardState)
    → (K → K') → (B → B') → Came E K B old new (Err e) → Came E' K' B' old new (Err e)
came_failed Reading E E' K K' B B' old new g h came = (g came.0, came.1)
came_failed Stopped E E' K K' B B' old new g h came = (h came.0, came.1)

-- after calls of which none failed
came_behind : {T : Type 0} (r : Result T Fault) (E : T → Type 0) (K B : Type 0) (a b c : BoardState) → NoFault a b → Came E K B b c r → Came E K B a c r
came_behind (Ok x) E K B a b c first came = (came.0, no_fault_then a b c first came.1)
came_behind (Err Reading) E K B a b c first came = (came.0, unread_behind a b c first came.1)
came_behind (Err Stopped) E K B a b c first came = (came.0, halts_behind a b c first came.1)

-- ---- a part of which no call failed

pub record Passes (most : ℕ) (old new : BoardState) : Type 0 where
  pub no_fault : NoFault old new
  pub rest : OnlyFlash old new
  pub reads : ReadsUpTo most old new
  pub roots_few : roots new ≤ roots old + most

pub step_passes : {T : Type 0} (x : T) (E : T → Type 0) (B : Type 0) (shape : Shape) (n : ℕ) (old new : BoardState) → Step E B shape n old new (Ok x) → Passes n old new
step_passes x E B shape n old new step = record {
  no_fault = step.works.no_fault;
  rest = step.works.rest;
  reads = (let same = step.works.reads in record { up = omega (arith, same); few = omega (arith, same) });
  roots_few = RootsUpTo-le n old new step.roots_few;
}

pub reading_passes : {T : Type 0} (x : T) (E : T → Type 0) (K B : Type 0) (shape : Shape) (n : ℕ) (old new : BoardState) → StepOrRead E K B shape n old new (Ok x) → Passes n old new
reading_passes x E K B shape n old new step = record { no_fault = step.came.1; rest = step.rest; reads = step.reads; roots_few = step.roots_few }

pub passes_none : (old : BoardState) → Passes 0 old old
passes_none old = record { no_fault = (refl, refl, refl, refl); rest = refl; reads = record { up = omega arith; few = omega arith }; roots_few = omega arith }

-- ---- steps

-- a step that reads nothing
pub reads_nothing : {T : Type 0} (r : Result T Fault) (E : T → Type 0) (K B : Type 0) (shape : Shape) (n : ℕ) (old new : BoardState) → Step E B shape n old new r → StepOrRead E K B shape n old new r
reads_nothing (Ok x) E K B shape n old new step = record {
  came = (step.ended, step.works.no_fault);
  rest = step.works.rest;
  reads = (let same = step.works.reads in record { up = omega (arith, same); few = omega (arith, same) });
  roots_few = RootsUpTo-le n old new step.roots_few;
  ready = step.ready;
}
reads_nothing (Err Reading) E K B shape n old new step = let other : Reading ≡ Stopped = step.stopped in absurd cc
reads_nothing (Err Stopped) E K B shape n old new step =
    let stops = step.stops in
    record {
      came = (step.broken, record { flash = stops.flash; stop = stops.stop; read = stops.read });
      rest = stops.rest;
      reads = (let same = stops.reads in record { up = omega (arith, same); few = omega (arith, same) });
      roots_few = RootsUpTo-le n old new step.roots_few;
      ready = step.ready;
    }

-- nothing was left to do
pub reading_end : {T : Type 0} (x : T) (E : T → Type 0) (K B : Type 0) (shape : Shape) (n : ℕ) (old new : BoardState)
    → Passes n old new → IsReady new shape → E x → StepOrRead E K B shape n old new (Ok x)
reading_end x E K B shape n old new passes ready ended = record { came = (ended, passes.no_fault); rest = passes.rest; reads = passes.reads; roots_few = passes.roots_few; ready = ready }

-- as a part of what was to be done
pub reading_within : {T : Type 0} {r : Result T Fault} {E : T → Type 0} {K B : Type 0} {shape : Shape} {n : ℕ} (most : ℕ) {old new : BoardState} → n ≤ most
    → StepOrRead E K B shape n old new r → StepOrRead E K B shape most old new r
reading_within most few step = record {
  came = step.came;
  rest = step.rest;
  reads = (let read = step.reads.few in record { up = step.reads.up; few = omega (arith, few, read) });
  roots_few = (let most_roots = step.roots_few in omega (arith, few, most_roots));
  ready = step.ready;
}

-- it failed, as a part of what was to be done
pub reading_failed : {T U : Type 0} (e : Fault) (E : T → Type 0) (E' : U → Type 0) (K K' B B' : Type 0) (shape : Shape) (n most : ℕ) (old new : BoardState) → n ≤ most → (K → K') → (B → B')
    → StepOrRead E K B shape n old new (Err e) → StepOrRead E' K' B' shape most old new (Err e)
reading_failed e E E' K K' B B' shape n most old new few g h step = record {
  came = came_failed e E E' K K' B B' old new g h step.came;
  rest = step.rest;
  reads = (let most_read = step.reads.few in record { up = step.reads.up; few = omega (arith, few, most_read) });
  roots_few = (let most_roots = step.roots_few in omega (arith, few, most_roots));
  ready = step.ready;
}

-- a second part after one in which no call failed
pub reading_then : {T : Type 0} (r : Result T Fault) (E E' : T → Type 0) (K K' B B' : Type 0) (shape : Shape) (n k most : ℕ) (a b c : BoardState) → n + k ≤ most → Passes n a b
    → ((x : T) → E x → E' x) → (K → K') → (B → B') → StepOrRead E K B shape k b c r → StepOrRead E' K' B' shape most a c r
reading_then r E E' K K' B B' shape n k most a b c few first f g h second = record {
  came = came_behind r E' K' B' a b c first.no_fault (came_says r E E' K K' B B' b c f g h second.came);
  rest = only_then a b c first.rest second.rest;
  reads = (
      let up = first.reads.up in
      let up' = second.reads.up in
      let read' = second.reads.few in
      record { up = omega (arith, up, up'); few = omega (arith, few, first.reads.few, read') });
  roots_few = (let one = first.roots_few in let two = second.roots_few in omega (arith, few, one, two));
  ready = second.ready;
}

-- ---- if the drive runs on

pub running_says : {T : Type 0} (P Q : Type 0) (r : Result T Fault) → (P → Q) → OnRunning P r → OnRunning Q r
running_says P Q (Ok x) f p = f p
running_says P Q (Err Reading) f p = f p
running_says P Q (Err Stopped) f p = tt

pub running_both : {T : Type 0} (P Q : Type 0) (r : Result T Fault) → OnRunning P r → OnRunning Q r → OnRunning (P × Q) r
running_both P Q (Ok x) p q = (p, q)
running_both P Q (Err Reading) p q = (p, q)
running_both P Q (Err Stopped) p q = tt

-- and it ended
pub running_ends : {T : Type 0} (P A Q : Type 0) (r : Result T Fault) → (P → A → Q) → OnRunning P r → OnOk r A → OnOk r Q
running_ends P A Q (Ok x) f p a = f p a
running_ends P A Q (Err e) f p a = tt

-- it did not end
pub running_failed : (T U P Q : Type 0) (e : Fault) → (P → Q) → OnRunning {T = T} P (Err e) → OnRunning {T = U} Q (Err e)
running_failed T U P Q Reading f p = f p
running_failed T U P Q Stopped f p = tt

-- of a step that reads nothing
pub running_ok : {T : Type 0} (P Q : Type 0) (r : Result T Fault) → (P → Q) → IfErr r (λ e. e ≡ Stopped) → OnOk r P → OnRunning Q r
running_ok P Q (Ok x) f stopped p = f p
running_ok P Q (Err Reading) f stopped p = let other : Reading ≡ Stopped = stopped in absurd cc
running_ok P Q (Err Stopped) f stopped p = tt

pub running_stopped : (T P : Type 0) (e : Fault) → e ≡ Stopped → OnRunning {T = T} P (Err e)
running_stopped T P Reading stopped = absurd cc
running_stopped T P Stopped stopped = tt
