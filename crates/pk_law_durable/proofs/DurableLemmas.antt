-- Runs over an image and its log, as runs over a board that were cut.
use Rattle.std.proofs.Common.{◌≡◌, ◌∙◌, ℕ, ◌≤◌, List, [], ◌∷◌, ◌++◌, length, take, drop, refl, sym, ap, subst}
use Rattle.std.{specs.FinMap.empty, proofs.lemmas.List.take-append-le, proofs.lemmas.List.take-append-drop}
use Rattle.pk_base.{specs.Shape.Shape, specs.Page.Flash, specs.Mark.Mark, specs.Mark.all_posted, specs.Map.Map}
use Rattle.pk_nand.{specs.Cut.Cut, proofs.CutLemmas.posted-append}
use Rattle.pk_model.{specs.Spaces.limits_at, specs.Reading.Holds}
use Rattle.pk_redo.specs.Image.{ReadAs, EachPrefixIsACut}
use Rattle.pk_durable.{specs.Durable.opened_marks, proofs.Reading.read_once}
use Rattle.pk_top.{specs.Words.word_of}
use Rattle.pk_top.specs.Sessions.{ProgramRun, IsRun, LeavesMap, KeptThrough, RunOn, KeptThroughRuns}
use Rattle.pk_law_durable.specs.DurableRuns.{DurableRun, IsDurableRun, DurableRunOn, DurableStep, KeptThroughDurable, KeptThroughDurableRuns}

-- ---- what was posted at a cut, and what was sent

-- the bytes that the first of some marks posted begin with those that the marks before a barrier posted
sent_front : (marks first later : List Mark) (durable : ℕ) → first ++ later ≡ marks → durable ≤ length first
    → all_posted (take durable marks) ++ all_posted (drop durable first) ≡ all_posted first
sent_front marks first later durable is enough =
    let same : take durable marks ≡ take durable first = ap (λ (ms : List Mark). take durable ms) (sym is) ∙ take-append-le durable first later enough in
    ap (λ (ms : List Mark). all_posted ms ++ all_posted (drop durable first)) same
    ∙ (sym (posted-append (take durable first) (drop durable first)) ∙ ap all_posted (take-append-drop durable first))

module _ (cuts : EachPrefixIsACut) (shape : Shape) (limits : List ℕ) where
  -- ---- one run

  abbrev run_of : (r : DurableRun) → IsDurableRun shape r → ProgramRun
  run_of r is = record {
    words = r.words;
    input = r.input;
    old = is.old;
    new = is.new;
    status = r.status;
    marks = is.marks;
    left = is.left;
    posted = all_posted is.from_front.first;
  }

  at_cut : (start left : Flash) (marks first later : List Mark) → first ++ later ≡ marks → (gives : Cut shape start (first ++ later) left (all_posted first))
      → Cut shape start marks left (all_posted first)
  at_cut start left marks first later is cut = subst (λ (ms : List Mark). Cut shape start ms left (all_posted first)) is cut

  as_run : (r : DurableRun) (is : IsDurableRun shape r) → IsRun shape (run_of r is)
  as_run r is = record {
    serves = is.runs.serves;
    asks = is.runs.asks;
    rests = is.runs.rests;
    shape_is = is.shape_is;
    input = is.input_is;
    before = opened_marks r.log r.image;
    trail = is.trail;
    more = is.more;
    cut =
        let p = is.from_front in
        at_cut is.old.pages is.left is.marks p.first p.later p.in_order
        (subst (λ (f : Flash). Cut shape is.old.pages (p.first ++ p.later) f (all_posted p.first)) p.gives (cuts shape is.old.pages p.first p.later));
  }

  step_of : (r : DurableRun) (is : IsDurableRun shape r) (m next : Map) → LeavesMap (word_of r.words) shape (run_of r is) m next → Holds shape is.left next
      → limits_at shape is.left ≡ limits → DurableStep shape limits r m next
  step_of r is m next leaves holds within =
      let p = is.from_front in
      record {
        run = run_of r is;
        same_words = refl;
        same_input = refl;
        opened = is.opened;
        unsent = all_posted (drop is.durable p.first);
        sent_first = ap (λ (bs : List ℕ). bs ++ all_posted (drop is.durable p.first)) is.sent_is ∙ sent_front is.marks p.first p.later is.durable p.in_order p.enough;
        leaves = leaves;
        left_is = is.left_is;
        holds = holds;
        same_limits = within;
      }

  -- ---- many

  -- the same runs over boards, what the last of them left, and what they kept
  abbrev AsRuns : Flash → List DurableRun → List ℕ → List ℕ → Type 0
  AsRuns start runs log' image' =
      (ps : List ProgramRun) × (last : Flash) × RunOn shape start ps last × ReadAs shape log' image' last
      × ((m m' : Map) → KeptThrough shape limits m ps m' → KeptThroughDurable shape limits m runs m')

  as_runs : (runs : List DurableRun) (start : Flash) (log image log' image' : List ℕ) → ReadAs shape log image start → DurableRunOn shape log image runs log' image' → AsRuns start runs log' image'
  as_runs [] start log image log' image' read end =
      ([], start, refl, subst (λ (i : List ℕ). ReadAs shape log' i start) (sym end.1) (subst (λ (l : List ℕ). ReadAs shape l image start) (sym end.0) read), λ m m' same. same)
  as_runs (r ∷ runs) start log image log' image' read run =
      let is = run.0 in
      let opened = subst (λ (i : List ℕ). ReadAs shape log i is.old.pages) run.2 (subst (λ (l : List ℕ). ReadAs shape l r.image is.old.pages) run.1 is.opened) in
      let begins : is.old.pages ≡ start = read_once shape log image is.old.pages start opened read in
      let rest = as_runs runs is.left r.log_left r.image_left log' image' is.left_is run.3 in (
        run_of r is ∷ rest.0,
        rest.1,
        (as_run r is, begins, rest.2),
        rest.3,
        λ m m' kept. (kept.0, step_of r is m kept.0 kept.1 kept.2 kept.3, rest.4 kept.0 m' kept.4),
      )

pub kept_through_durable : EachPrefixIsACut → KeptThroughRuns → KeptThroughDurableRuns
kept_through_durable cuts kept shape limits made log image runs log' image' is read run =
    let all = as_runs cuts shape limits runs made.pages log image log' image' read run in
    let end = kept shape limits made all.0 all.1 is all.2 in
    (all.1, end.0, all.3, end.1, end.2, all.4 empty end.0 end.3)
