use Rattle.std.proofs.Common.{◌≡◌, ◌+◌, ◌<◌, ◌∙◌, ℕ, List, sym, ap, arith, refl, length, min, take, take_all}
use Rattle.pk_call.specs.Sight.{InSpace, live_of_all}
use Rattle.pk_space.specs.Uses.{space_live}
use Rattle.pk_parts.{specs.Parts.Parts, specs.Parts.drive_limits, specs.Parts.spaces_of, proofs.OwnLimits.reported_more, proofs.OwnLimits.capped_more}
use Rattle.pk_parts.proofs.parts.Parts.live_pages.Goals as goal

pub loop-i-init : goal.loop-i-init
loop-i-init g c = refl

pub loop-i-preserved : goal.loop-i-preserved
loop-i-preserved g c =
    let d = c.args.self.now in
    let i : ℕ = c.loop-i.i in
    let less : i < length (drive_limits d) = omega (arith, c.loop-i-test.true, c.spaces-i-end.ensures.value) in
    let more = reported_more d.spaces 1 i (drive_limits d) less in
    let place : i + 1 ≡ 1 + i = omega arith in
    let same : c.live.result ≡ space_live d.spaces (1 + i) = c.live.ensures ∙ ap (λ (p : Parts). space_live p.spaces (i + 1)) c.self.view_is ∙ ap (space_live d.spaces) place in
    let before : ℕ = live_of_all (take i (spaces_of d)) in
    c.saturating_add-total.ensures
    ∙ capped_more c.loop-i.total c.live.result before (live_of_all (take (i + 1) (spaces_of d))) c.loop-i.invariant (more ∙ ap (λ (n : ℕ). before + n) (sym same))

pub returns : goal.returns
returns g c =
    let d = c.args.self.now in
    let all : length (spaces_of d) ≡ c.loop-i.i = omega (arith, c.loop-i-test.false, c.loop-i.auto.i-end, c.spaces-i-end.ensures.number) in
    c.loop-i.invariant ∙ ap (λ (xs : List InSpace). min (live_of_all xs) 4294967295) (take_all c.loop-i.i (spaces_of d) (omega (arith, all)))
