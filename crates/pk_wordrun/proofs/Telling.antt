-- A question that was answered, and what its answer makes of a board.
use Rattle.std.proofs.Common.{◌≡◌, inl, inr, ℕ, List, [], ◌∷◌, Option, Some, refl, sym, ◌∙◌, ap, subst, true, false, arith}
use Rattle.pk_base.{specs.Shape.Shape, specs.Map.Map, specs.Page.Flash}
use Rattle.pk_nvme.specs.Command.{Command}
use Rattle.pk_nand.{specs.BoardState.BoardState, specs.Calls.Rose, specs.Calls.longer, specs.Operations.after_post, specs.Operations.PostFailed, specs.Effects.OnlyFlash, specs.Effects.OnlyReading}
use Rattle.pk_nand.proofs.Resting.{Rests-same}
use Rattle.pk_model.{specs.Growth.Goes, specs.Kept.rise, specs.Reading.Holds, specs.Run.Exchange, specs.Wear.is_worn, proofs.Growing.Goes-reaches}
use Rattle.pk_model.specs.Spaces.{Terms, limits_at, limit_of, in_space}
use Rattle.pk_call.specs.Meter.{Meter, meter}
use Rattle.pk_serve.proofs.Counting.{at_most-zero}
use Rattle.pk_port.{specs.Asking.Asked, specs.Asking.KeptWord, specs.Steps.Mounted, specs.Steps.seen, specs.Steps.Serves, specs.Steps.Stops, specs.Steps.Fails, specs.Steps.HasCause}
use Rattle.pk_port.{specs.declared.halt.Halt.Halt, specs.declared.halt.Halt.TheVariants.Stopped, specs.declared.halt.Halt.TheVariants.Worn as UsedUp, proofs.Stepping.part_of}
use Rattle.pk_port.proofs.Growing.{asked-none, asked-next, asked-stops, asked-posts, asked-post_failed, went-silent}
use Rattle.pk_words.{specs.Question.Question, specs.Question.command_of, specs.Question.QuestionAnswers, specs.Said.Said, specs.Said.SaidOn}
use Rattle.pk_host.specs.Port.{PortState}
use Rattle.pk_wordrun.{specs.Ends.end_of, specs.Tasks.Task, specs.Tasks.only_asks, specs.Tasks.answer, specs.Tasks.SaysTask, specs.Tasks.KeptTask, specs.Told.Told, specs.Told.AreOf}
use Rattle.pk_wordrun.{specs.Told.has_command, specs.Told.KeepsInput, specs.declared.end.WordEnd.WordEnd}
use Rattle.pk_wordrun.specs.declared.end.WordEnd.TheVariants.{Done, Output, Flash as FlashFailed, Worn}
use Rattle.pk_wordrun.proofs.Keeping.{Kept-front, Goes-weaken, Goes-reading}
use Rattle.pk_wordrun.proofs.Resting.{asked_looks, rests-reading, rests-posted, rests-unposted}

pub some_same : (x y : Map) → ◌≡◌ {A = Option Map} (Some x) (Some y) → x ≡ y
some_same x y e = cc

-- a word that ended otherwise is none of a worn drive
pub done_unworn : ◌≡◌ {A = WordEnd} Done Worn → ⊥
done_unworn e = cc

pub output_unworn : ◌≡◌ {A = WordEnd} Output Worn → ⊥
output_unworn e = cc

pub flash_unworn : ◌≡◌ {A = WordEnd} FlashFailed Worn → ⊥
flash_unworn e = cc

-- ---- what of a board is unchanged

pub keeps-flash : (a b : BoardState) → OnlyFlash a b → KeepsInput a b
keeps-flash a b only = record { input = ap (λ (s : BoardState). s.input) only; in_faults = ap (λ (s : BoardState). s.in_faults) only }

-- no command was made
pub kept-none : (Says : List Exchange → List ℕ → Map → Type 0) (shape : Shape) (terms : Terms) (start : Map) (cs : List Command) (from to : Meter) (a : BoardState)
    → Holds shape a.pages start → limits_at shape a.pages ≡ terms.limits → Goes shape a a (KeptWord Says shape terms start cs from to)
kept-none Says shape terms start cs from to a holds within = Goes-reading shape a a (KeptWord Says shape terms start cs from to) refl
    (Kept-front shape terms start cs (rise from.read_faults to.read_faults) a.pages [] cs start refl refl holds within (at_most-zero (rise from.read_faults to.read_faults)), inl refl)

-- ---- commands that were answered, and a text that is said of their answers

module _ (task : Task) (shape : Shape) (terms : Terms) (start : Map) (cs : List Command) (a b : BoardState) (w : Asked shape terms start a b cs) (are : AreOf task shape cs) (text : List ℕ)
    (says : SaysTask task a.read_faults b.read_faults shape terms start w.answered.all text w.left) (unworn : has_command task ≡ true → is_worn a ≡ false)
    (looks : only_asks task ≡ true → OnlyReading a b)
    (keeps : (f : Flash) (q : List ℕ) → KeptWord (SaysTask task a.read_faults b.read_faults shape terms start) shape terms start cs (meter a) (meter b) f q
    → KeptTask task (meter a) (meter b) shape terms start f q) where
  abbrev SaysOf : List Exchange → List ℕ → Map → Type 0
  SaysOf = SaysTask task a.read_faults b.read_faults shape terms start

  goes_on : (c : BoardState) → Goes shape a c (KeptWord SaysOf shape terms start cs (meter a) (meter b)) → Goes shape a c (KeptTask task (meter a) (meter b) shape terms start)
  goes_on c went = Goes-weaken shape a c (KeptWord SaysOf shape terms start cs (meter a) (meter b)) (KeptTask task (meter a) (meter b) shape terms start) keeps went

  -- the text went out
  pub word-posted : (last : BoardState) → last ≡ after_post b text → Told task shape terms start a last Done
  word-posted last is =
      let T : BoardState → Type 0 = λ x. Told task shape terms start a x Done in
      let posts = asked-posts SaysOf shape terms start cs a b w text says in
      subst T (sym is) (record {
        kept = goes_on (after_post b text) (Goes-reaches shape a (after_post b text) (KeptWord SaysOf shape terms start cs (meter a) (meter b)) posts);
        rests = λ only. rests-posted a b (after_post b text) text (looks only) refl;
        ends = record {
          left = w.left;
          asked = cs;
          are = are;
          answered = w.answered;
          text = text;
          says = says;
          posted = ap (λ p. longer p text) (ap (λ (x : BoardState). x.posted) w.rest);
          holds = w.held;
          sound = record { output = ap (λ (x : BoardState). x.out_faults) w.rest; stop = w.no_stop };
          unworn = unworn;
        };
        used = λ e. absurd (done_unworn e);
        input = record { input = ap (λ (x : BoardState). x.input) w.rest; in_faults = ap (λ (x : BoardState). x.in_faults) w.rest };
      })

  -- the output failed
  pub word-unposted : (last : BoardState) → PostFailed b last text → Told task shape terms start a last Output
  word-unposted last failed =
      let same : meter last ≡ meter b = ap meter failed.rest in
      let G : Meter → Type 0 = λ t. Goes shape a last (KeptTask task (meter a) t shape terms start) in
      let R : ℕ → Type 0 = λ n. Rose n last.out_faults in
      record {
        kept = subst G (sym same) (goes_on last (asked-post_failed SaysOf shape terms start cs a b w text says last failed));
        rests = λ only. rests-unposted a b last text (looks only) failed;
        ends = subst R (ap (λ (x : BoardState). x.out_faults) w.rest) failed.faults;
        used = λ e. absurd (output_unworn e);
        input = record {
          input = ap (λ (x : BoardState). x.input) failed.rest ∙ ap (λ (x : BoardState). x.input) w.rest;
          in_faults = ap (λ (x : BoardState). x.in_faults) failed.rest ∙ ap (λ (x : BoardState). x.in_faults) w.rest;
        };
      }

-- ---- a question

-- what was said over a port that keeps its shape, of the drive and the board when they are given back
pub said_back : (q : Question) (shape one : Shape) (a b : Mounted) (last : PortState) (f g : ℕ) (text : List ℕ) → one ≡ shape → last ≡ seen shape b 0
    → Said (QuestionAnswers q) (seen shape a f) (seen one b g) text → Said (QuestionAnswers q) (seen shape a 0) last text
said_back q shape one a b last f g text same back said m told =
    let F : Shape → Type 0 = λ s. Said (QuestionAnswers q) (seen shape a f) (seen s b g) text in
    let T : PortState → Type 0 = λ x. SaidOn (QuestionAnswers q) (seen shape a 0) x text m in
    let s = (subst F same said) m told in
    subst T (sym back) (record { frames = s.frames; frames_is = s.frames_is; left = s.left; says = s.says; told = s.told })

module _ (q : Question) (shape : Shape) (start : Map) (old new : Mounted) (has : old.board.shape ≡ Some shape) (holds : Holds shape old.board.pages start)
    (within : limits_at shape old.board.pages ≡ old.terms.limits) where
  abbrev Says : ℕ → ℕ → List Exchange → List ℕ → Map → Type 0
  Says before behind = SaysTask (answer q) before behind shape old.terms start

  abbrev says_now : List Exchange → List ℕ → Map → Type 0
  says_now = Says old.board.read_faults new.board.read_faults

  abbrev cs : List Command
  cs = command_of shape q ∷ []

  asked : (x : Exchange) → Serves shape old new (command_of shape q) x → Asked shape old.terms start old.board new.board cs
  asked x s = asked-next shape start old.board [] old new (command_of shape q) (asked-none shape old.terms start old.board has holds within) x s

  says-left : (w : Asked shape old.terms start old.board new.board cs) (text : List ℕ)
      → Said (QuestionAnswers q) (seen shape old 0) (seen shape new 0) text → says_now w.answered.all text w.left
  says-left w text said =
      let s = said (in_space 1 start) (ap part_of holds) in
      let same : s.left ≡ in_space 1 w.left = some_same s.left (in_space 1 w.left) (sym s.told ∙ ap part_of w.held) in
      let F : ℕ → Type 0 = λ n. QuestionAnswers q (Rose old.board.read_faults new.board.read_faults) shape (limit_of old.terms.limits 1) n (in_space 1 start) text s.left in
      let T : Map → Type 0 =
      λ m. QuestionAnswers q (Rose old.board.read_faults new.board.read_faults) shape (limit_of old.terms.limits 1) old.terms.frames (in_space 1 start) text m in
      subst T same (subst F s.frames_is s.says)

  module _ (x : Exchange) (s : Serves shape old new (command_of shape q) x) (text : List ℕ) (said : Said (QuestionAnswers q) (seen shape old 0) (seen shape new 0) text) (last : BoardState) where
    -- the text went out
    pub told-done : last ≡ after_post new.board text → Told (answer q) shape old.terms start old.board last Done
    told-done = word-posted (answer q) shape old.terms start cs old.board new.board (asked x s) refl text (says-left (asked x s) text said)
        (λ _. s.runs.unworn) (λ only. s.looks (asked_looks shape q only)) (λ f q k. k) last

    -- the output failed
    pub told-output : PostFailed new.board last text → Told (answer q) shape old.terms start old.board last Output
    told-output = word-unposted (answer q) shape old.terms start cs old.board new.board (asked x s) refl text (says-left (asked x s) text said)
        (λ _. s.runs.unworn) (λ only. s.looks (asked_looks shape q only)) (λ f q k. k) last

  -- the command stopped the drive
  told-stopped : Stops shape old new (command_of shape q) → Told (answer q) shape old.terms start old.board new.board (end_of Stopped)
  told-stopped s = record {
    kept = went-silent says_now shape old.terms start cs (meter old.board) (meter new.board) old.board new.board
        (asked-stops shape start old.board [] old new (command_of shape q) (asked-none shape old.terms start old.board has holds within) s);
    rests = λ only. rests-reading old.board new.board (s.looks (asked_looks shape q only));
    ends = s.stop;
    used = λ e. absurd (flash_unworn e);
    input = keeps-flash old.board new.board s.rest;
  }

  -- nothing was done
  told-nothing : (halt : Halt) → old.stopped ≡ false → HasCause old halt → Told (answer q) shape old.terms start old.board old.board (end_of halt)
  told-nothing Stopped going cause = absurd (let e : true ≡ false = sym cause ∙ going in cc)
  told-nothing UsedUp going cause = record {
    kept = kept-none (Says old.board.read_faults old.board.read_faults) shape old.terms start cs (meter old.board) (meter old.board) old.board holds within;
    rests = λ only. Rests-same old.board old.board refl;
    ends = (cause, record { output = refl; stop = refl }, refl);
    used = λ e. omega arith;
    input = record { input = refl; in_faults = refl };
  }

  pub told-fails : (halt : Halt) → old.stopped ≡ false → Fails shape old new (command_of shape q) halt → Told (answer q) shape old.terms start old.board new.board (end_of halt)
  told-fails halt going (inl s) = let T : Halt → Type 0 = λ h. Told (answer q) shape old.terms start old.board new.board (end_of h) in subst T (sym s.0) (told-stopped s.1)
  told-fails halt going (inr cause) =
      let T : Mounted → Type 0 = λ m. Told (answer q) shape old.terms start old.board m.board (end_of halt) in
      subst T (sym cause.1) (told-nothing halt going cause.0)
