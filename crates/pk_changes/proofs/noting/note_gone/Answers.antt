use Rattle.pk_changes.proofs.Entries.{gone_short, drops_spaced, drops_held, drops_leave, drops_fit, gone_stands}
use Rattle.pk_changes.proofs.Programming.{pushed_more}
use Rattle.std.proofs.Common.{◌∙◌, ap}
use Rattle.pk_base.specs.Key.{space_of}
use Rattle.pk_space.specs.Uses.{IsSpace, used_after}
use Rattle.pk_values.specs.declared.span.Span.{Span}
use Rattle.pk_parts.proofs.Staying.{note_stays}
use Rattle.pk_changes.proofs.noting.note_gone.Goals as goal

pub span_at-before-requires : goal.span_at-before-requires
span_at-before-requires g c =
    let p = rw (← c.parts.view_is) at c.requires.drops in
    rw (c.shape-shape.ensures, ← c.parts.view_is) (gone_short _ p.0 p.1 c.args.key c.args.old p.2)

pub change-requires : goal.change-requires
change-requires g c =
    let p = rw (← c.parts.view_is) at c.requires.drops in
    let held = ap (λ (s : Span). s.count) (rw (c.shape-shape.ensures, ← c.parts.view_is) at c.span_at-before.ensures) in
    let own : IsSpace (space_of c.args.key) = (c.space.ensures.key.space_some, c.space.ensures.key.space_most) in
    let fit = drops_fit _ p.0 p.1 c.args.key c.args.old p.2 own in
    record {
      space = rw c.space.ensures.value own;
      there = rw (c.space.ensures.value, held) (drops_leave _ p.0 p.1 c.args.key c.args.old p.2 own);
      live_fits = rw (c.space.ensures.value, held) fit.0;
      keys_fit = rw (c.space.ensures.value, held) fit.1;
    }

pub remove-requires : goal.remove-requires
remove-requires g c =
    let p = rw (← c.parts.view_is) at c.requires.drops in
    let before = rw (c.shape-shape.ensures, ← c.parts.view_is) at c.span_at-before.ensures in
    drops_held _ p.0 p.1 c.args.key c.args.old p.2 c.span_at-before.result before

pub returns-clause-stands : goal.returns-clause-stands
returns-clause-stands g c shape flash m drops =
    let p = rw (← c.parts.view_is) at drops in
    let before = rw (c.shape-shape.ensures, ← c.parts.view_is) at c.span_at-before.ensures in
    let used = c.change.ensures ∙ (λ i. used_after c.parts.inside.spaces (c.space.ensures.value i) (before i).count 0) in
    gone_stands _ shape flash m c.args.key c.args.old p c.push.new.self c.remove.new.self c.change.new.self c.span_at-before.result
    (record { pushed_is = c.push.ensures.pushed; stands = c.push.ensures.stands; fits_in = c.push.ensures.fits }) before c.remove.ensures.removed c.remove.ensures.placed used

pub returns-clause-moves : goal.returns-clause-moves
returns-clause-moves g c =
    rw (← c.parts.view_is) (note_stays _ _ c.push.new.self c.remove.new.self _ c.push.ensures.pushed (ap (λ s. s.open_block) c.remove.ensures.removed))

pub returns-clause-more : goal.returns-clause-more
returns-clause-more g c = rw (← c.parts.view_is) (pushed_more c.parts.inside.log c.push.new.self _ c.push.ensures.pushed)

pub push-requires-clause-whole : goal.push-requires-clause-whole
push-requires-clause-whole g c =
    let p = rw (← c.parts.view_is) at c.requires.drops in
    p.2.stands.whole.epoch

pub push-requires-clause-spaced : goal.push-requires-clause-spaced
push-requires-clause-spaced g c =
    let p = rw (← c.parts.view_is) at c.requires.drops in
    drops_spaced _ p.0 p.1 c.args.key c.args.old p.2
