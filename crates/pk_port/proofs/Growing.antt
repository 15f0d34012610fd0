-- Commands one after another through a port, and a text after them.
use Rattle.std.proofs.Common.{◌≡◌, inl, inr, ℕ, ◌+◌, ◌≤◌, List, [], ◌∷◌, ◌++◌, Option, Some, refl, sym, ap, subst, ◌∙◌, arith, append-nil, replicate}
use Rattle.std.proofs.lemmas.Fn.{FoldsTo-push}
use Rattle.pk_base.{specs.Shape.Shape, specs.Page.Flash, specs.Mark.all_posted, specs.Mark.post, specs.Map.Map, proofs.Logic.ok_same}
use Rattle.pk_nvme.specs.Command.{Command}
use Rattle.pk_nand.{specs.BoardState.BoardState, specs.Operations.after_post, specs.Operations.PostFailed, proofs.Reaching.Reached-start, proofs.Reaching.Reached-post, proofs.Effects.only_then}
use Rattle.pk_model.{specs.Answer.reply, specs.Answer.map_after, specs.Growth.Reaches, specs.Growth.Goes, specs.Kept.AtMost, specs.Kept.rise, specs.Reading.Holds}
use Rattle.pk_model.{specs.Run.Step, specs.Run.Exchange, specs.Run.commands, specs.Run.faults, specs.Run.records, specs.Spaces.Terms, specs.Spaces.limits_at}
use Rattle.pk_model.proofs.Growing.{weaken, at_end, Reaches-then, Goes-then, Goes-post_failed, GrowsAlong-post, Limited, Reaches-limited, Goes-limited, reached_limits}
use Rattle.pk_call.specs.Meter.{Meter, meter, Metered}
use Rattle.pk_serve.{specs.Port.HoldsEither, specs.Port.StepCut, specs.Serving.StepWithin, proofs.Answering.reply_other, proofs.Answering.answers, proofs.Submitting.either_step}
pub use Rattle.pk_serve.proofs.Serves.{few_more}
use Rattle.pk_serve.{proofs.Serves.kept-more, proofs.Serves.kept-start, proofs.Serves.kept-with, proofs.Weakening.reaches_as, proofs.Weakening.goes_as}
use Rattle.pk_serve.proofs.Counting.{at_most-zero, at_most-more, at_most-one, commands-push, faults-one}
use Rattle.pk_port.{specs.Asking.KeptSilently, specs.Asking.KeptWord, specs.Asking.Asked, specs.Asking.Ran, specs.Steps.Mounted, specs.Steps.Serves, specs.Steps.Stops}

-- more commands, and more faults
pub silent-more : (shape : Shape) (terms : Terms) (start : Map) (cs more : List Command) (n later : Option ℕ) → ((k : ℕ) → AtMost n k → AtMost later k)
    → (f : Flash) (q : List ℕ) → KeptSilently shape terms start cs n f q → KeptSilently shape terms start (cs ++ more) later f q
silent-more shape terms start cs more n later up f q (none, k) = (none, kept-more shape terms start cs more n later up f [] k)

-- nothing was asked
pub asked-none : (shape : Shape) (terms : Terms) (start : Map) (a : BoardState) → a.shape ≡ Some shape
    → Holds shape a.pages start → limits_at shape a.pages ≡ terms.limits → Asked shape terms start a a []
asked-none shape terms start a has holds within = record {
  left = start;
  answered = record { all = []; are = refl; ran = refl; few = at_most-zero (rise a.read_faults a.read_faults); metered = refl };
  held = holds;
  same_limits = within;
  shape_is = has;
  reached = (
    [],
    Reached-start a a (KeptSilently shape terms start [] (rise a.read_faults a.read_faults)) refl refl refl refl
        (refl, kept-start shape terms start (rise a.read_faults a.read_faults) a.pages holds within),
    tt,
  );
  rose = omega arith;
  no_stop = refl;
  rest = refl;
}

pub few_same : (n : Option ℕ) (xs : List Exchange) → AtMost n (faults xs) → AtMost n (faults xs + 0)
few_same n xs h = subst (λ k. AtMost n k) (omega arith) h

module _ (shape : Shape) (terms : Terms) (start : Map) (cs : List Command) (from mid : Meter) (m : Map) (r : Ran shape terms start cs from mid m) where
  pushed : (x : Exchange) (c : Command) → x.command ≡ c → commands (r.all ++ x ∷ []) ≡ cs ++ c ∷ []
  pushed x c is = commands-push r.all x ∙ (ap (λ l. l ++ x.command ∷ []) r.are ∙ ap (λ k. cs ++ k ∷ []) is)

  -- one more command was answered
  pub ran-next : (to : Meter) (c : Command) (x : Exchange) (left : Map) → from.read_faults ≤ mid.read_faults → mid.read_faults ≤ to.read_faults → x.command ≡ c
      → StepWithin shape terms m x left → Metered mid x to → Ran shape terms start (cs ++ c ∷ []) from to left
  ran-next to c x left rose up is step metered =
      let n = rise from.read_faults to.read_faults in
      record {
        all = r.all ++ x ∷ [];
        are = pushed x c is;
        ran = FoldsTo-push (StepWithin shape terms) start r.all m x left r.ran step;
        few = elim (faults-one x) [
          | inl good ↦ few_more n r.all x 0 good.1 (few_same n r.all (at_most-more from.read_faults mid.read_faults to.read_faults (faults r.all) up r.few))
          | inr bad ↦ few_more n r.all x 1 bad.1 (at_most-one from.read_faults mid.read_faults to.read_faults (faults r.all) rose (metered.failed bad.0) r.few)
        ];
        metered = FoldsTo-push Metered from r.all mid x to r.metered metered;
      }

module _ (shape : Shape) (terms : Terms) (start : Map) (a b : BoardState) (cs : List Command) (w : Asked shape terms start a b cs) where
  module _ (c : Command) (later : ℕ) (up : b.read_faults ≤ later) where
    abbrev now : Option ℕ
    now = rise a.read_faults later

    few_now : AtMost now (faults w.answered.all)
    few_now = at_most-more a.read_faults b.read_faults later (faults w.answered.all) up w.answered.few

    -- a cut of one more command
    cut_more : (f : Flash) (q : List ℕ) → Limited shape b (StepCut shape terms.limits w.left c) f q → KeptSilently shape terms start (cs ++ c ∷ []) now f (all_posted w.reached.0 ++ q)
    cut_more f q cut =
        let quiet : all_posted w.reached.0 ≡ [] = (at_end w.reached.0 a b (KeptSilently shape terms start cs (rise a.read_faults b.read_faults)) w.reached.1).0 in
        let x : Exchange = record { command = c; reply = reply shape terms w.left (replicate 11 0) c; reads = 0 } in
        let other : faults (x ∷ []) ≡ 0 = elim (faults-one x) [ inl good ↦ good.1 | inr bad ↦ absurd (reply_other shape terms w.left (replicate 11 0) c bad.0) ] in (
          ap (λ t. t ++ q) quiet ∙ cut.0.0,
          elim cut.0.1 [
            | inl before ↦ kept-with shape terms start (cs ++ c ∷ []) (c ∷ []) now f [] (records 0 w.answered.all) w.answered.all w.left
                (ap (λ l. l ++ c ∷ []) w.answered.are) w.answered.ran before (cut.1 ∙ w.same_limits) refl few_now
            | inr behind ↦ kept-with shape terms start (cs ++ c ∷ []) [] now f [] (records 0 (w.answered.all ++ x ∷ [])) (w.answered.all ++ x ∷ []) (map_after shape terms.limits w.left c)
                (append-nil (commands (w.answered.all ++ x ∷ [])) ∙ pushed shape terms start cs (meter a) (meter b) w.left w.answered x c refl)
                (FoldsTo-push (StepWithin shape terms) start w.answered.all w.left x (map_after shape terms.limits w.left c) w.answered.ran (inl (answers shape terms w.left c), λ _. omega arith))
                behind (cut.1 ∙ w.same_limits) refl (few_more now w.answered.all x 0 other (few_same now w.answered.all few_now))
          ],
        )

    abbrev before_more : Reaches shape a b (KeptSilently shape terms start (cs ++ c ∷ []) now)
    before_more = (
      w.reached.0,
      weaken w.reached.0 a b (KeptSilently shape terms start cs (rise a.read_faults b.read_faults)) (KeptSilently shape terms start (cs ++ c ∷ []) now)
          (silent-more shape terms start cs (c ∷ []) (rise a.read_faults b.read_faults) now (λ k h. at_most-more a.read_faults b.read_faults later k up h)) w.reached.1,
      w.reached.2,
    )

module _ (shape : Shape) (start : Map) (a : BoardState) (cs : List Command) (old new : Mounted) (c : Command) (w : Asked shape old.terms start a old.board cs) where
  -- the map that the flash held is the one that was left
  same_map : (map : Map) → Holds shape old.board.pages map → map ≡ w.left
  same_map map h = ok_same map w.left (sym h ∙ w.held)

  -- the board has the shape
  on_board : old.board.shape ≡ Some shape
  on_board = ap (λ (s : BoardState). s.shape) w.rest ∙ w.shape_is

  seen_cut : (map : Map) → map ≡ w.left → old.board.read_faults ≤ new.board.read_faults → (f : Flash) (q : List ℕ) → Limited shape old.board (StepCut shape old.terms.limits map c) f q
      → KeptSilently shape old.terms start (cs ++ c ∷ []) (rise a.read_faults new.board.read_faults) f (all_posted w.reached.0 ++ q)
  seen_cut map same up f q cut =
      cut_more shape old.terms start a old.board cs w c new.board.read_faults up f q (subst (λ m. Limited shape old.board (StepCut shape old.terms.limits m c) f q) same cut)

  -- cuts of a command that was served, by its step
  served_cut : (x : Exchange) (s : Serves shape old new c x) → Reaches shape old.board new.board (StepCut shape old.terms.limits s.map c)
  served_cut x s =
      reaches_as shape old.board new.board (either_step shape old.terms s.map c x.reply s.left (subst (λ (l : Command). Step shape old.terms s.map l x.reply s.left) s.is s.step.0)) s.reached

  -- one more command was served
  pub asked-next : (x : Exchange) → Serves shape old new c x → Asked shape old.terms start a new.board (cs ++ c ∷ [])
  asked-next x s =
      let n = rise a.read_faults new.board.read_faults in
      let more = before_more shape old.terms start a old.board cs w c new.board.read_faults s.up in
      let same = same_map s.map s.held in
      record {
        left = s.left;
        answered = ran-next shape old.terms start cs (meter a) (meter old.board) w.left w.answered (meter new.board) c x s.left w.rose s.up s.is
            (subst (λ m. StepWithin shape old.terms m x s.left) same s.step) s.metered;
        held = s.holds;
        same_limits = reached_limits shape old.board new.board (HoldsEither shape s.map s.left) on_board s.reached ∙ w.same_limits;
        shape_is = w.shape_is;
        reached = Reaches-then shape more.0 a old.board (KeptSilently shape old.terms start (cs ++ c ∷ []) n) w.shape_is more.1 more.2 new.board
            (Limited shape old.board (StepCut shape old.terms.limits s.map c)) (seen_cut s.map same s.up)
            (Reaches-limited shape old.board new.board (StepCut shape old.terms.limits s.map c) on_board (served_cut x s));
        rose = (let up = s.up in let rose = w.rose in omega (arith, up, rose));
        no_stop = s.no_stop ∙ w.no_stop;
        rest = only_then a old.board new.board w.rest s.rest;
      }

  -- one more command stopped the drive
  pub asked-stops : Stops shape old new c → Goes shape a new.board (KeptSilently shape old.terms start (cs ++ c ∷ []) (rise a.read_faults new.board.read_faults))
  asked-stops s =
      let more = before_more shape old.terms start a old.board cs w c new.board.read_faults s.up in
      Goes-then shape more.0 a old.board (KeptSilently shape old.terms start (cs ++ c ∷ []) (rise a.read_faults new.board.read_faults)) w.shape_is more.1 more.2 new.board
      (Limited shape old.board (StepCut shape old.terms.limits s.map c))
      (seen_cut s.map (same_map s.map s.held) s.up) (Goes-limited shape old.board new.board (StepCut shape old.terms.limits s.map c) on_board s.went)

-- ---- what is said after the commands

module _ (Says : List Exchange → List ℕ → Map → Type 0) (shape : Shape) (terms : Terms) (start : Map) (cs : List Command) where
  -- no byte was posted
  silent_word : (from to : Meter) (f : Flash) (q : List ℕ) → KeptSilently shape terms start cs (rise from.read_faults to.read_faults) f q → KeptWord Says shape terms start cs from to f q
  silent_word from to f q (none, k) = (k, inl none)

  pub went-silent : (from to : Meter) (a b : BoardState) → Goes shape a b (KeptSilently shape terms start cs (rise from.read_faults to.read_faults))
      → Goes shape a b (KeptWord Says shape terms start cs from to)
  went-silent from to a b went = goes_as shape a b (silent_word from to) went

  module _ (a b : BoardState) (w : Asked shape terms start a b cs) where
    abbrev said_at : Flash → List ℕ → Type 0
    said_at = KeptWord Says shape terms start cs (meter a) (meter b)

    abbrev asked_before : Reaches shape a b said_at
    asked_before = (
      w.reached.0,
      weaken w.reached.0 a b (KeptSilently shape terms start cs (rise a.read_faults b.read_faults)) said_at (silent_word (meter a) (meter b)) w.reached.1,
      w.reached.2,
    )

    module _ (text : List ℕ) (says : Says w.answered.all text w.left) where
      -- a prefix of the text was posted
      fronts : (out rest : List ℕ) → out ++ rest ≡ text → said_at b.pages (all_posted w.reached.0 ++ out)
      fronts out rest e =
          let last = at_end w.reached.0 a b (KeptSilently shape terms start cs (rise a.read_faults b.read_faults)) w.reached.1 in (
            last.1,
            inr (record {
              left = w.left;
              answered = w.answered;
              held = w.held;
              text = text;
              says = says;
              unposted = rest;
              front = ap (λ t. (t ++ out) ++ rest) last.0 ∙ e;
            }),
          )

      -- all of it
      pub asked-posts : Reaches shape a (after_post b text) said_at
      asked-posts = Reaches-then shape w.reached.0 a b said_at w.shape_is asked_before.1 asked_before.2 (after_post b text) (λ f q. said_at f (all_posted w.reached.0 ++ q)) (λ f q h. h)
          (post text ∷ [], Reached-post b text (λ f q. said_at f (all_posted w.reached.0 ++ q)) fronts, GrowsAlong-post shape b.pages text)

      -- or the post failed
      pub asked-post_failed : (c : BoardState) → PostFailed b c text → Goes shape a c said_at
      asked-post_failed c failed = Goes-then shape w.reached.0 a b said_at w.shape_is asked_before.1 asked_before.2 c (λ f q. said_at f (all_posted w.reached.0 ++ q)) (λ f q h. h)
          (Goes-post_failed shape b text (λ f q. said_at f (all_posted w.reached.0 ++ q)) fronts c failed)
