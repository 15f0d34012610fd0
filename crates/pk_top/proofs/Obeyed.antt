-- What is promised of a run, by what was done of its words.
use Rattle.std.proofs.Common.{◌≡◌, ◌≢◌, inl, inr, ℕ, List, Option, Some, None, refl, sym, ◌∙◌, ap, subst, arith}
use Rattle.pk_base.specs.Shape.{Shape}
use Rattle.pk_nand.specs.BoardState.{BoardState}
use Rattle.pk_text.{specs.Assembled.assembled, specs.Records.shown}
use Rattle.pk_wordrun.specs.Tasks.{Task}
use Rattle.pk_top.{specs.Asks.AskRun, specs.Loads.no_memory, specs.Makes.MakeRun, specs.Resting.RestsIn, specs.Resting.Rests, specs.Runs.RunsOver, specs.Serves.ServeRun, specs.TextRuns.TextRun}
use Rattle.pk_top.{specs.Statuses.Tells, specs.Statuses.Untouched, specs.Words.Word, specs.Words.make, specs.Words.serve, specs.Words.ask, specs.Words.assemble, specs.Words.show, specs.Words.word_of}
use Rattle.pk_top.{proofs.Answering.whole_ask, proofs.Answering.few_roots, proofs.Completing.whole_serve, proofs.Images.made_drive, proofs.Isolating.isolated_whole, proofs.Resting.rests-same}
use Rattle.pk_top.{proofs.Telling.tells_memory, proofs.Telling.untouched_same, proofs.Telling.gives_same, proofs.Within.short_within}

-- ---- nothing was done

-- the words ask for nothing of the table
pub runs-refused : (words : List (List ℕ)) (board : BoardState) → word_of words ≡ None → RunsOver words board board 2
runs-refused words board none = record {
  words = λ e. (none, refl);
  no_words = λ e. (refl, inl refl);
  tells = inl refl;
  memory = λ other e. absurd (let seven : 2 ≡ 7 = e in omega arith);
  makes = λ shape limits e. absurd (never (make shape limits) e);
  made = λ shape limits e. absurd (never (make shape limits) e);
  serves = λ frames e. absurd (never (serve frames) e);
  serves_whole = λ frames e. absurd (never (serve frames) e);
  asks = λ task e. absurd (never (ask task) e);
  asks_whole = λ task e. absurd (never (ask task) e);
  isolated = λ frames e. absurd (never (serve frames) e);
  assembles = λ e. absurd (never assemble e);
  shows = λ e. absurd (never show e);
  rests = rests-same (word_of words) board board refl;
}
  where
    never : (word : Word) → word_of words ≡ Some word → ⊥
    never word e = let some : None ≡ Some word = sym none ∙ e in cc

-- the memory for a value among them is missing
pub runs-no_memory : (words : List (List ℕ)) (board : BoardState) → RunsOver words board board 7
runs-no_memory words board = record {
  words = λ e. absurd (let two : 7 ≡ 2 = e in omega arith);
  no_words = λ e. (refl, inr refl);
  tells = inr (tells_memory board board 7 refl refl (gives_same board board refl));
  memory = λ other e. untouched_same board board refl;
  makes = λ shape limits e. no_memory refl refl;
  made = λ shape limits e done. absurd (let zero : 7 ≡ 0 = done in omega arith);
  serves = λ frames e. no_memory refl refl;
  serves_whole = λ frames e. whole_serve frames board board 7 (no_memory refl refl);
  asks = λ task e. no_memory refl refl;
  asks_whole = λ task e. whole_ask task (few_roots task (short_within words (ask task) (sym e) task refl)) board board 7 (no_memory refl refl);
  isolated = λ frames e. isolated_whole frames board board 7 (no_memory refl refl);
  assembles = λ e. inl (refl, refl);
  shows = λ e. inl (refl, refl);
  rests = rests-same (word_of words) board board refl;
}

-- ---- a word was obeyed

module _ (words : List (List ℕ)) (word : Word) (is : Some word ≡ word_of words) (old new : BoardState) (status : ℕ) where
  asked : (other : Word) → word_of words ≡ Some other → word ≡ other
  asked other e = let same : Some word ≡ Some other = is ∙ e in cc

  pub runs-obeyed : Tells old new status → (((shape : Shape) (limits : List ℕ) → word ≢ make shape limits) → status ≡ 7 → Untouched old new)
      → ((shape : Shape) (limits : List ℕ) → word ≡ make shape limits → MakeRun shape limits old new status) → ((frames : ℕ) → word ≡ serve frames → ServeRun frames old new status)
      → ((task : Task) → word ≡ ask task → AskRun task old new status) → (word ≡ assemble → TextRun assembled old new status)
      → (word ≡ show → TextRun shown old new status) → RestsIn word old new → RunsOver words old new status
  runs-obeyed tells memory makes serves asks assembles shows rests = record {
    words = λ e. absurd (tells.no_words e);
    no_words = λ e. absurd (let none : Some word ≡ None = is ∙ e in cc);
    tells = inr tells;
    memory = λ other e. memory (λ shape limits same. other shape limits (sym is ∙ ap (λ w. Some w) same)) e;
    makes = λ shape limits e. makes shape limits (asked (make shape limits) e);
    made = λ shape limits e done. made_drive shape limits old new status (makes shape limits (asked (make shape limits) e)) done;
    serves = λ frames e. serves frames (asked (serve frames) e);
    serves_whole = λ frames e. whole_serve frames old new status (serves frames (asked (serve frames) e));
    asks = λ task e. asks task (asked (ask task) e);
    asks_whole = λ task e. whole_ask task (few_roots task (short_within words word is task (asked (ask task) e))) old new status (asks task (asked (ask task) e));
    isolated = λ frames e. isolated_whole frames old new status (serves frames (asked (serve frames) e));
    assembles = λ e. assembles (asked assemble e);
    shows = λ e. shows (asked show e);
    rests = let T : Option Word → Type 0 = λ o. Rests o old new in subst T is rests;
  }
