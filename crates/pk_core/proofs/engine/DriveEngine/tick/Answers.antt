use Rattle.std.proofs.Common.{◌≡◌, false}
use Rattle.pk_call.specs.Seen.{stopped_by}
use Rattle.pk_parts.specs.Parts.{sight_of}
use Rattle.pk_core.{proofs.Steadying.steadies, proofs.Steadying.between_none, proofs.Due.merges_next, proofs.Staying.keeps_fresh, proofs.Stepping.tick_may}
use Rattle.pk_core.proofs.engine.DriveEngine.tick.Goals as goal

pub step-answer-requires : goal.step-answer-requires
step-answer-requires g c =
    let may = rw (← c.self.view_is) at c.requires.serves in
    let none = rw (← c.self.view_is) at c.requires.none in
    record { may = tick_may c.self.inside.parts (g.B.Nand.state c.args.board.now) may.running.agrees.0 may.running.runs none may.unworn c.read_count.ensures.faults }

pub returns : goal.returns
returns g c = rw (← c.self.view_is) (
    let e = c.step-answer.ensures in
    let t = e.ticks in
    let new = g.B.Nand.state c.step-answer.new.board in
    let between = λ (runs : stopped_by c.step-answer.result ≡ false). between_none c.step-answer.new.parts new.shape new.pages (e.agrees runs) e.none in
    record {
      leaves = record { stops = e.stops; agrees = between; rest = t.rest };
      answers = record { none = e.none; stands = t.stands; grows = t.grows; idle = e.idle; idle_rests = t.idle_rests; unmade = t.unmade };
      found = record { cuts = t.cuts; cuts_stopped = t.cuts_stopped };
      counts = record {
        calls = t.calls;
        unread = t.unread;
        up = t.up;
        flash_up = t.flash_up c.read_count.ensures.flash_faults;
        worked = t.worked;
        stop = t.stop;
        no_stop = t.no_stop;
        installs = t.installs;
      };
      settles = e.settles;
      shows = record {
        steady = λ runs. steadies c.step-answer.new.parts (g.B.Nand.state c.args.board.now) new (sight_of c.self.inside.parts) (between runs) t.rest c.known.ensures;
        merge = λ runs. merges_next c.step-answer.new.parts new (between runs) c.known.ensures;
        fresh = λ runs. keeps_fresh c.self.inside.parts c.step-answer.new.parts (g.B.Nand.state c.args.board.now) new
            (rw (← c.self.view_is) at c.requires.serves).running.agrees.0 (e.agrees runs) t.rest (e.moves runs).fresh;
        blocks = λ runs. (e.moves runs).no_more;
      };
    })
