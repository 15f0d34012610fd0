use Rattle.pk_changes.proofs.Entries.{old_short, puts_spaced, puts_leave, puts_fit, put_moves, put_stands}
use Rattle.pk_changes.{proofs.Noted.put_noted, proofs.Programming.pushed_more}
use Rattle.std.proofs.Common.{ℕ, ◌∙◌, ap, sym}
use Rattle.pk_base.specs.{Shape.charge, Key.space_of}
use Rattle.pk_space.specs.Uses.{IsSpace, used_after}
use Rattle.pk_parts.proofs.Staying.{note_stays}
use Rattle.pk_changes.proofs.noting.note_put.Goals as goal

pub span_if_there-before-requires : goal.span_if_there-before-requires
span_if_there-before-requires g c =
    let p = rw (← c.parts.view_is) at c.requires.puts in
    rw (c.shape-shape.ensures, ← c.parts.view_is) (old_short _ p.0 p.1 c.args.key p.2 c.args.page c.args.old p.4)

pub replace-requires : goal.replace-requires
replace-requires g c =
    let p = rw (← c.parts.view_is) at c.requires.puts in
    let before = rw (c.shape-shape.ensures, ← c.parts.view_is) at c.span_if_there-before.ensures in
    let now = ap (λ (n : ℕ). record { page = c.args.page; count = n }) (rw (← c.parts.view_is) at c.requires.counted) in
    put_moves _ p.0 p.1 c.args.key p.2 c.args.page c.args.len c.args.old p.3 p.4 c.span_if_there-before.result (record { page = c.args.page; count = c.args.count }) before now

pub pages_at-requires : goal.pages_at-requires
pages_at-requires g c =
    let p = rw (← c.parts.view_is) at c.requires.puts in
    rw (c.shape-shape.ensures, ← c.parts.view_is) (old_short _ p.0 p.1 c.args.key p.2 c.args.page c.args.old p.4)

pub change-requires : goal.change-requires
change-requires g c =
    let p = rw (← c.parts.view_is) at c.requires.puts in
    let held = rw (c.shape-shape.ensures, ← c.parts.view_is) at c.pages_at.ensures in
    let count = (rw (← c.parts.view_is) at c.requires.counted) ∙ ap (charge c.parts.inside.log.shape) (sym p.3) in
    let own : IsSpace (space_of c.args.key) = (c.space.ensures.key.space_some, c.space.ensures.key.space_most) in
    let fit = puts_fit _ p.0 p.1 c.args.key p.2 c.args.page c.args.old p.4 own in
    record {
      space = rw c.space.ensures.value own;
      there = rw (c.space.ensures.value, held) (puts_leave _ p.0 p.1 c.args.key p.2 c.args.page c.args.old p.4 own);
      live_fits = rw (c.space.ensures.value, held, count) fit.0;
      keys_fit = rw (c.space.ensures.value, held, count) fit.1;
    }

pub returns-clause-stands : goal.returns-clause-stands
returns-clause-stands g c shape flash m value is_len puts =
    let p = rw (← c.parts.view_is) at puts in
    let before = rw (c.shape-shape.ensures, ← c.parts.view_is) at c.span_if_there-before.ensures in
    let now = ap (λ (n : ℕ). record { page = c.args.page; count = n }) (rw (← c.parts.view_is) at c.requires.counted) in
    let held = rw (c.shape-shape.ensures, ← c.parts.view_is) at c.pages_at.ensures in
    let count = rw (← c.parts.view_is) at c.requires.counted in
    let used = c.change.ensures ∙ (λ i. used_after c.parts.inside.spaces (c.space.ensures.value i) (held i) (count i)) in
    put_stands _ shape flash m c.args.key value c.args.page c.args.len c.args.old is_len p c.push.new.self c.replace.new.self c.change.new.self c.span_if_there-before.result
    (record { page = c.args.page; count = c.args.count })
    (record { pushed_is = c.push.ensures.pushed; stands = c.push.ensures.stands; fits_in = c.push.ensures.fits })
    before now c.replace.ensures.moved c.replace.ensures.placed used

pub returns-clause-moves : goal.returns-clause-moves
returns-clause-moves g c =
    rw (← c.parts.view_is) (note_stays _ _ c.push.new.self c.replace.new.self c.change.new.self c.push.ensures.pushed (ap (λ s. s.open_block) c.replace.ensures.moved))

pub returns-clause-noted : goal.returns-clause-noted
returns-clause-noted g c =
    let p = rw (← c.parts.view_is) at c.requires.puts in
    put_noted _ p.0 p.1 c.args.key p.2 c.args.page c.args.len c.args.old c.push.new.self c.replace.new.self c.change.new.self p.3 p.4 c.push.ensures.pushed
    (ap (λ s. s.open_block) c.replace.ensures.moved)

pub returns-clause-more : goal.returns-clause-more
returns-clause-more g c = rw (← c.parts.view_is) (pushed_more c.parts.inside.log c.push.new.self _ c.push.ensures.pushed)

pub push-requires-clause-whole : goal.push-requires-clause-whole
push-requires-clause-whole g c =
    let p = rw (← c.parts.view_is) at c.requires.puts in
    p.4.may.stands.whole.epoch

pub push-requires-clause-spaced : goal.push-requires-clause-spaced
push-requires-clause-spaced g c =
    let p = rw (← c.parts.view_is) at c.requires.puts in
    puts_spaced _ p.0 p.1 c.args.key p.2 c.args.page c.args.old p.4
