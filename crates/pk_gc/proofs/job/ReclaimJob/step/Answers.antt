use Rattle.std.proofs.Common.{◌≡◌, ◌+◌, ◌*◌, inl, inr, refl, sym, ap, subst, ◌∙◌, arith, Result, Ok, Err, IfOk, OnOk}
use Rattle.pk_gc.{specs.declared.course.Phase.Phase, specs.declared.course.Phase.TheVariants.Copies, specs.declared.course.Phase.TheVariants.Commits, specs.State.JobState, specs.State.source}
use Rattle.pk_gc.{specs.Asking.hands_of, specs.Victims.AreDead, specs.Stepping.CanGoOn, specs.Stepping.CanStepIn, specs.Stepping.BeginsValue, specs.Stepping.EndsMoves, specs.Stepping.Tries}
use Rattle.pk_gc.{specs.Stepping.StepsIn, proofs.Parts.IsFirstHead, proofs.Parts.first_head, proofs.Parts.dead_to_end, proofs.Parts.can_finish, proofs.Parts.finishes}
use Rattle.pk_gc.proofs.job.ReclaimJob.step.Given as given
use Rattle.pk_gc.proofs.job.ReclaimJob.step.Goals as goal
use Rattle.pk_gc.proofs.job.ReclaimJob.step.Goals.{In-Copies, In-Commits, In-Some, In-None}

-- ---- where the job is

phase_is : (g : given.Over) (c : In-Copies g) → c.args.self.now.phase ≡ Copies c.in-Copies.course
phase_is g c = sym (ap (λ (s : JobState). s.phase) c.self.view_is) ∙ c.in-Copies.is

goes_on : (g : given.Over) (c : In-Copies g)
    → CanGoOn c.in-Copies.course c.args.self.now (hands_of c.args.live.now c.args.front.now c.args.pool.now c.args.active.now c.args.epoch.now) (g.B.Nand.state c.args.board.now).pages
goes_on g c =
    subst (λ (p : Phase). CanStepIn p c.args.self.now (hands_of c.args.live.now c.args.front.now c.args.pool.now c.args.active.now c.args.epoch.now) (g.B.Nand.state c.args.board.now).pages)
    (phase_is g c) c.requires.can

commits_is : (g : given.Over) (c : In-Commits g) → c.args.self.now.phase ≡ Commits c.in-Commits.victim
commits_is g c = sym (ap (λ (s : JobState). s.phase) c.self.view_is) ∙ c.in-Commits.is

-- ---- the next head

head_is : (g : given.Over) (c : In-Some g) → IsFirstHead c.args.self.now.shape c.in-Copies.course c.args.live.now.heads c.in-Some.page
head_is g c =
    first_head c.args.self.now.shape c.in-Copies.course _ _ (c.block_pages.ensures.value ∙ ap (λ (s : JobState). s.shape.block_pages) c.self.view_is)
    (c.block_pages-in-Copies.ensures.value ∙ ap (λ (s : JobState). s.shape.block_pages) c.self.view_is) c.args.live.now.heads c.in-Some.page c.in-Some.ensures

none_is : (g : given.Over) (c : In-None g) → let shape = c.args.self.now.shape in let course = c.in-Copies.course in
    AreDead c.args.live.now.heads (source shape course) (course.victim * shape.block_pages + shape.block_pages)
none_is g c =
    dead_to_end c.args.self.now.shape c.in-Copies.course _ _ (c.block_pages.ensures.value ∙ ap (λ (s : JobState). s.shape.block_pages) c.self.view_is)
    (c.block_pages-in-Copies.ensures.value ∙ ap (λ (s : JobState). s.shape.block_pages) c.self.view_is) c.args.live.now.heads c.in-None.ensures

-- ---- the steps of a copy

pub begin_value-requires-clause-may : goal.begin_value-requires-clause-may
begin_value-requires-clause-may g c =
    let at = goal.at.begin_value-requires-clause-may g c in
    let on = goes_on g at.In-Copies in
    let found = head_is g at.In-Some in
    let whole : c.in-Copies.course.left ≡ 0 = omega (arith, c.if-course-gt0.false) in
    let next = on.next whole c.in-Some.page found.behind found.inside found.head found.first in
    record {
      phase_is = phase_is g at.In-Copies;
      whole = whole;
      room = next.0;
      es = on.es;
      key = next.1.0;
      place = next.1.1;
      runs = on.runs;
      next = next.1.2;
    }

pub commit-requires-clause-whole : goal.commit-requires-clause-whole
commit-requires-clause-whole g c = (goes_on g (goal.at.commit-requires-clause-whole g c).In-Copies).no_half

pub finish-requires : goal.finish-requires
finish-requires g c =
    let at = goal.at.finish-requires g c in
    let hands = hands_of c.args.live.now c.args.front.now c.args.pool.now c.args.active.now c.args.epoch.now in
    record {
      can = can_finish c.in-Copies.course c.args.self.now hands (g.B.Nand.state c.args.board.now) c.commit.new.epoch (g.B.Nand.state c.commit.new.board) c.in-Ok.committed c.commit.new.self
          c.in-Ok.ensures.commits c.commit.ensures.moves ((goes_on g at.In-Copies).end (omega (arith, c.if-course-gt0.false)) (none_is g at.In-None));
    }

-- what holds of a call that was Ok, of its answer and by itself
if_ok_both : {X E A : Type 0} {P Q : X → Type 0} (r : Result X E)
    → ((x : X) → P x → A → Q x) → IfOk r P → OnOk r A → IfOk r Q
if_ok_both (Ok x) f is a = f x is a
if_ok_both (Err e) f is a = is

pub returns-in-Some-clause-steps : goal.returns-in-Some-clause-steps
returns-in-Some-clause-steps g c =
    let at = goal.at.returns-in-Some-clause-steps g c in
    let old = g.B.Nand.state c.args.board.now in
    let new = g.B.Nand.state c.begin_value.new.board in
    let hands = hands_of c.args.live.now c.args.front.now c.args.pool.now c.args.active.now c.args.epoch.now in
    let found = head_is g at.In-Some in
    if_ok_both c.begin_value.result (λ r worked reads.
    let begins : BeginsValue c.in-Copies.course c.args.self.now hands old c.begin_value.new.self new = record {
      free = c.if-course.false;
      whole = omega (arith, c.if-course-gt0.false);
      page = c.in-Some.page;
      head = found.head;
      inside = (found.behind, found.inside);
      first = found.first;
      job_is = reads.job_is;
      board = reads.board;
      runs = reads.runs;
    } in
    subst (λ (p : Phase). StepsIn p c.args.self.now hands old c.begin_value.new.self hands new r) (sym (phase_is g at.In-Copies))
    (inl (worked, refl, inr (inr begins)))) c.begin_value.ensures.worked c.begin_value.ensures.reads

pub returns-in-Ok-clause-steps : goal.returns-in-Ok-clause-steps
returns-in-Ok-clause-steps g c =
    let at = goal.at.returns-in-Ok-clause-steps g c in
    let job = c.args.self.now in
    let old = g.B.Nand.state c.args.board.now in
    let new = g.B.Nand.state c.commit.new.board in
    let course = c.in-Copies.course in
    let epoch = c.commit.new.epoch in
    let hands = hands_of c.args.live.now c.args.front.now c.args.pool.now c.args.active.now c.args.epoch.now in
    let hands' = hands_of c.finish.new.live c.finish.new.front c.finish.new.pool c.finish.new.active epoch in
    let tries : Tries course job hands old c.finish.new.self hands' new c.finish.result = record {
      free = c.if-course.false;
      whole = omega (arith, c.if-course-gt0.false);
      dead = none_is g at.In-None;
      finishes = finishes course job hands old epoch new c.finish.new.self hands' c.finish.result
          c.in-Ok.committed c.commit.new.self c.in-Ok.ensures.commits c.in-Ok.ensures.job
          (c.finish.ensures.finished epoch);
    } in
    subst (λ (p : Phase). StepsIn p job hands old c.finish.new.self hands' new c.finish.result) (sym (phase_is g at.In-Copies)) (inr tries)

-- ---- the second program of the commit

pub end_commit-requires-clause-half : goal.end_commit-requires-clause-half
end_commit-requires-clause-half g c =
    let at = goal.at.end_commit-requires-clause-half g c in
    subst (λ (p : Phase). CanStepIn p c.args.self.now (hands_of c.args.live.now c.args.front.now c.args.pool.now c.args.active.now c.args.epoch.now) (g.B.Nand.state c.args.board.now).pages)
    (commits_is g at.In-Commits) c.requires.can

-- the same of three clauses
if_ok_all : {X E A B : Type 0} {P Q : X → Type 0} (r : Result X E)
    → ((x : X) → P x → A → B → Q x) → IfOk r P → OnOk r A → OnOk r B → IfOk r Q
if_ok_all (Ok x) f is a b = f x is a b
if_ok_all (Err e) f is a b = is

pub returns-in-Commits-clause-steps : goal.returns-in-Commits-clause-steps
returns-in-Commits-clause-steps g c =
    let at = goal.at.returns-in-Commits-clause-steps g c in
    let job = c.args.self.now in
    let old = g.B.Nand.state c.args.board.now in
    let new = g.B.Nand.state c.end_commit.new.board in
    let hands = hands_of c.args.live.now c.args.front.now c.args.pool.now c.args.active.now c.args.epoch.now in
    let hands' = hands_of c.args.live.now c.args.front.now c.args.pool.now c.args.active.now c.end_commit.new.epoch in
    if_ok_all c.end_commit.result (λ r worked made ends.
    let done : EndsMoves c.in-Commits.victim job hands old c.end_commit.new.self hands' new r = record {
      answer = worked;
      job_is = made;
      ends = ends;
      hands = refl;
    } in
    subst (λ (p : Phase). StepsIn p job hands old c.end_commit.new.self hands' new r) (sym (commits_is g at.In-Commits)) done)
    c.end_commit.ensures.worked c.end_commit.ensures.job c.end_commit.ensures.ends
