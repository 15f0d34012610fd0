use Rattle.std.proofs.Common.{sym, ◌∙◌}
use Rattle.pk_schedule.proofs.Finishing.{at_half, at_whole}
use Rattle.pk_schedule.proofs.schedule.Schedule.freeze_step.Goals as goal

pub finish-requires-clause-may : goal.finish-requires-clause-may
finish-requires-clause-may g c =
    let s = c.requires.may in
    (c.args.levels.now, c.args.arena.now, s.0, s.1, s.2, s.3, at_half _ s.0 (g.B.Nand.state c.args.board.now).pages s.1 s.2 s.3 s.4 (sym c.repeats_next.ensures ∙ c.if-repeats_next.true))

pub freeze_once-requires-clause-may : goal.freeze_once-requires-clause-may
freeze_once-requires-clause-may g c =
    let s = c.requires.may in
    (s.0, s.1, s.2, s.3, at_whole _ s.0 (g.B.Nand.state c.args.board.now).pages s.1 s.2 s.3 s.4 (sym c.repeats_next.ensures ∙ c.if-repeats_next.false))

pub returns-in-Ok-clause-settles : goal.returns-in-Ok-clause-settles
returns-in-Ok-clause-settles g c = λ done. c.in-Ok.ensures.settles c.args.levels.now c.args.arena.now

pub returns-in-Err-clause-broken : goal.returns-in-Err-clause-broken
returns-in-Err-clause-broken g c = λ frames top found m may.
    c.in-Err.ensures.broken c.args.levels.now c.args.arena.now frames top found m
    (at_half _ frames (g.B.Nand.state c.args.board.now).pages top found m may (sym c.repeats_next.ensures ∙ c.if-repeats_next.true))

pub returns-in-Err-freeze_once-clause-broken : goal.returns-in-Err-freeze_once-clause-broken
returns-in-Err-freeze_once-clause-broken g c = λ frames top found m may.
    c.in-Err-freeze_once.ensures.broken.0 frames top found m (at_whole _ frames (g.B.Nand.state c.args.board.now).pages top found m may (sym c.repeats_next.ensures ∙ c.if-repeats_next.false)).may
