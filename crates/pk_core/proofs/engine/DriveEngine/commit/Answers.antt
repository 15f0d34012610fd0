use Rattle.std.proofs.Common.{refl, ap, ◌∙◌}
use Rattle.pk_nand.specs.BoardState.{BoardState}
use Rattle.pk_core.{proofs.Standing.stands_for, proofs.Standing.stands_here, proofs.Standing.still_stands, proofs.Executing.none_between, proofs.Executing.never, proofs.Steadying.steadies}
use Rattle.pk_core.{proofs.Committing.committed, proofs.Committing.not_committed, proofs.Committing.agrees_committed, proofs.Sights.works_up, proofs.Sights.stops_up}
use Rattle.pk_parts.{specs.Parts.Parts, specs.Parts.sight_of, specs.Parts.frames_of, proofs.Halves.not_made, proofs.Unchanging.agrees_ready}
use Rattle.pk_model.proofs.Growing.{reached_limits}
use Rattle.pk_core.proofs.engine.DriveEngine.commit.Goals as goal

pub commit_pending-requires : goal.commit_pending-requires
commit_pending-requires g c =
    let agrees = (rw (← c.self.view_is) at c.requires.runs).agrees.0 in
    record {
      may = record {
        ready = agrees_ready c.self.inside.parts (g.B.Nand.state c.args.board.now) agrees;
        stands = stands_here c.self.inside.parts (g.B.Nand.state c.args.board.now).shape (g.B.Nand.state c.args.board.now).pages agrees;
      };
    }

-- ---- it is done

pub returns : goal.returns
returns g c = rw (← c.self.view_is) (
    let e = c.in-Ok.ensures in
    let works = e.step.works in
    let d = c.self.inside.parts in
    let d' = c.commit_pending.new.self in
    let old = g.B.Nand.state c.args.board.now in
    let new = g.B.Nand.state c.commit_pending.new.board in
    let was = rw (← c.self.view_is) at c.requires.runs in
    let between = none_between d' new.shape new.pages (agrees_committed d d' old new was.agrees.0 e.step.ended e.idle works.rest) e.none in
    record {
      leaves = record { stops = ap (λ (x : Parts). x.stopped) e.rest ∙ was.runs; agrees = λ _. between; rest = works.rest };
      answers = record {
        stands = λ _ shape terms m stands.
            let done = committed d d' shape m old new (stands_for d old shape terms m was.agrees.0 stands) e.step.ended e.idle in
            still_stands _ new shape terms m (ap (λ (s : BoardState). s.shape) works.rest ∙ stands.shape_is) (ap (λ (x : Parts). frames_of x) e.rest ∙ stands.frames_is)
            (reached_limits shape old new _ stands.shape_is done.cuts ∙ stands.limits_is) done.stands;
        none = λ _. e.none;
        idle = λ none. let is = e.idle none in (refl, is.2, ap sight_of is.1);
      };
      found = record {
        cuts = λ _ shape terms m stands. (committed d d' shape m old new (stands_for d old shape terms m was.agrees.0 stands) e.step.ended e.idle).cuts;
        cuts_stopped = λ is. absurd (never is refl);
      };
      counts = record {
        reads = works.reads;
        read_faults = works.no_fault.1;
        stop = λ is. absurd (never is refl);
        sound = λ _. works.no_fault;
        flash_up = works_up _ _ works;
        program = λ _ _ _ _. e.program;
        programs = λ _ _ _ _ _. e.programs;
        installs = e.step.roots_few;
      };
      shows = record { seen = λ _. e.seen; steady = λ _. steadies d' old new (sight_of d) between works.rest c.known.ensures };
    })

-- ---- a program failed

pub returns-in-Err : goal.returns-in-Err
returns-in-Err g c = rw (← c.self.view_is) (
    let e = c.in-Err.ensures in
    let stops = e.step.stops in
    let d = c.self.inside.parts in
    let old = g.B.Nand.state c.args.board.now in
    record {
      leaves = record { stops = ap (λ (x : Parts). x.stopped) e.kept; agrees = λ is. absurd (never refl is); rest = stops.rest };
      answers = record { stands = λ is. absurd (never refl is); none = λ is. absurd (never refl is); idle = λ none. absurd (not_made c.in-Err.field-0 (e.idle none).0) };
      found = record {
        cuts = λ is. absurd (never refl is);
        cuts_stopped = λ _ shape terms m stands.
            let was = stands_for d old shape terms m (rw (← c.self.view_is) at c.requires.runs).agrees.0 stands in
            not_committed d c.commit_pending.new.self shape m old (g.B.Nand.state c.commit_pending.new.board) was c.in-Err.field-0 e.step.broken e.idle;
      };
      counts = record {
        reads = stops.reads;
        read_faults = stops.read;
        stop = λ _. stops.stop;
        sound = λ is. absurd (never refl is);
        flash_up = stops_up _ _ stops c.read_count.ensures.flash_faults;
        program = λ _ _ _ _. e.program;
        programs = λ is. absurd (never refl is);
        installs = e.step.roots_few;
      };
      shows = record { seen = λ is. absurd (never refl is); steady = λ is. absurd (never refl is) };
    })
