use Rattle.std.proofs.Common.{◌≡◌, ◌+◌, ◌-◌, ◌<◌, ℕ, length, slice_range, sym, arith, rules, subst}
use Rattle.std.proofs.lemmas.List.{places}
use Rattle.std.proofs.lemmas.Result.{on_ok_weaker}
use Rattle.sqlite_disk.specs.Disk.{Torn}
use Rattle.pk_image.specs.Image.{state_place}
use Rattle.pk_redo.proofs.Writes.{row_held}
use Rattle.pk_redo.proofs.checkpoints.put_row.Goals as goal

pub returns-clause-crash : goal.returns-clause-crash
returns-clause-crash g c marks base sets within =
    let size : length (slice_range c.args.states.now c.args.first c.args.end) ≡ c.args.end - c.args.first = search (rules, places, c.requires.states, c.requires.within) in
    c.put_states.ensures.crash marks base (λ k low high. sets k low (omega (arith, high, size, c.requires.order))) within

pub returns-clause-seen : goal.returns-clause-seen
returns-clause-seen g c marks base sets same =
    let size : length (slice_range c.args.states.now c.args.first c.args.end) ≡ c.args.end - c.args.first = search (rules, places, c.requires.states, c.requires.within) in
    c.put_states.ensures.seen marks base (λ k low high. sets k low (omega (arith, high, size, c.requires.order))) same

pub returns-clause-torn : goal.returns-clause-torn
returns-clause-torn g c =
    let size : length (slice_range c.args.states.now c.args.first c.args.end) ≡ c.args.end - c.args.first = search (rules, places, c.requires.states, c.requires.within) in
    subst (λ (n : ℕ). Torn (state_place c.args.first) n (g.D.Disk.seen c.args.image.now) (g.D.Disk.seen c.put_states.new.image)) size c.put_states.ensures.torn

pub returns-clause-written : goal.returns-clause-written
returns-clause-written g c =
    let size : length (slice_range c.args.states.now c.args.first c.args.end) ≡ c.args.end - c.args.first = search (rules, places, c.requires.states, c.requires.within) in
    on_ok_weaker c.put_states.result (λ holds k low high.
    row_held _ c.args.states.now c.args.first c.args.end c.requires.order (omega (arith, c.requires.states, c.requires.within)) (holds (omega (arith, size, low, high))) k low high)
    c.put_states.ensures.written
