use Rattle.std.proofs.Common.{◌≡◌, ◌≤◌, ◌∙◌, ℕ, sym, ap, subst, arith, length}
use Rattle.pk_model.specs.Spaces.{limit_of}
use Rattle.pk_space.specs.Uses.{space_live, space_keys}
use Rattle.pk_parts.{specs.Parts.Parts, specs.Parts.drive_limits, proofs.OwnLimits.reported_length, proofs.OwnLimits.reported_here}
use Rattle.pk_parts.proofs.parts.Parts.counts.Goals as goal

pub live-live-requires : goal.live-live-requires
live-live-requires g c =
    let most = c.requires.1 in
    (c.requires.0, omega (arith, most, c.spaces.ensures.number, c.spaces.ensures.most))

pub limit-requires : goal.limit-requires
limit-requires g c = let d = c.args.self.now in (c.requires.0, subst (λ (n : ℕ). c.args.space ≤ n) (reported_length d.spaces 1 (drive_limits d)) c.requires.1)

pub keys-requires : goal.keys-requires
keys-requires g c =
    let most = c.requires.1 in
    (c.requires.0, omega (arith, most, c.spaces.ensures.number, c.spaces.ensures.most))

pub returns-clause-here : goal.returns-clause-here
returns-clause-here g c =
    let d = c.args.self.now in
    let most : c.args.space ≤ length (drive_limits d) = subst (λ (n : ℕ). c.args.space ≤ n) (reported_length d.spaces 1 (drive_limits d)) c.requires.1 in
    let live : c.live-live.result ≡ space_live d.spaces c.args.space = c.live-live.ensures ∙ ap (λ (p : Parts). space_live p.spaces c.args.space) c.self.view_is in
    let limit_is : c.limit.result ≡ limit_of (drive_limits d) c.args.space = c.limit.ensures in
    let keys : c.keys.result ≡ space_keys d.spaces c.args.space = c.keys.ensures ∙ ap (λ (p : Parts). space_keys p.spaces c.args.space) c.self.view_is in
    (λ i. record { live = live i; limit = limit_is i; keys = keys i }) ∙ sym (reported_here d c.args.space c.requires.0 most)
