use Rattle.pk_scan.{specs.Used.held_limits, specs.Adopts.owned_blocks, proofs.Using.use_of_more, proofs.Using.not_fitting, proofs.Using.fitting, proofs.Using.value_count_most}
use Rattle.pk_scan.{proofs.UseRoom.use_small, proofs.Taking.free, proofs.Taking.block_closes, proofs.Taking.Lives-more}
use Rattle.std.proofs.Common.{◌∙◌, sym, arith}
use Rattle.pk_base.{specs.Shape.charge, proofs.ShapeLemmas.charge_least}
use Rattle.pk_scan.proofs.taken.take_value.Goals as goal

pub returns-then-not-has_room-clause-fits : goal.returns-then-not-has_room-clause-fits
returns-then-not-has_room-clause-fits g c taken lives uses =
    not_fitting c.args.shape.now (held_limits c.args.root.now) (owned_blocks c.args.pool.now) taken c.args.key.now c.args.place (sym (c.has_room.ensures taken lives) ∙ c.if-not-has_room.true)

pub is_within-requires-clause-space : goal.is_within-requires-clause-space
is_within-requires-clause-space g c = let key = c.space-space.ensures.key in rw c.space-space.ensures.value (key.space_some, key.space_most)

pub is_within-requires-clause-some : goal.is_within-requires-clause-some
is_within-requires-clause-some g c =
    let some = charge_least c.args.shape.now c.args.place.len c.block_pages.ensures.shape in
    omega (arith, some, c.charge-count.ensures.value)

pub returns-then-not-is_within-clause-fits : goal.returns-then-not-is_within-clause-fits
returns-then-not-is_within-clause-fits g c taken lives uses =
    let key = c.space-space.ensures.key in
    let told = rw (c.space-space.ensures.value, c.charge-count.ensures.value) at c.is_within.ensures in
    sym c.if-not-is_within.true ∙ fitting c.args.shape.now (held_limits c.args.root.now) (owned_blocks c.args.pool.now) taken c.args.key.now c.args.place
    (sym (c.has_room.ensures taken lives) ∙ c.if-not-has_room.false) c.args.spaces.now (key.space_some, key.space_most) uses _ told

pub returns-clause-fits : goal.returns-clause-fits
returns-clause-fits g c taken lives uses =
    let key = c.space-space.ensures.key in
    let told = rw (c.space-space.ensures.value, c.charge-count.ensures.value) at c.is_within.ensures in
    sym c.if-not-is_within.false ∙ fitting c.args.shape.now (held_limits c.args.root.now) (owned_blocks c.args.pool.now) taken c.args.key.now c.args.place
    (sym (c.has_room.ensures taken lives) ∙ c.if-not-has_room.false) c.args.spaces.now (key.space_some, key.space_most) uses _ told

pub change-requires : goal.change-requires
change-requires g c =
    let key = c.space-space.ensures.key in
    let l = c.requires.lives in
    let small = use_small c.args.shape.now (owned_blocks c.args.pool.now) l.0 c.args.key.now c.args.place (sym (c.has_room.ensures l.0 l.1) ∙ c.if-not-has_room.false)
    c.args.spaces.now (key.space_some, key.space_most) l.2 c.block_pages.ensures.shape in
    let one = value_count_most (charge c.args.shape.now c.args.place.len) in
    rw (c.space-space.ensures.value, c.charge-count.ensures.value) (record {
      space = (key.space_some, key.space_most);
      there = omega arith;
      live_fits = let live = small.0 in omega (arith, live);
      keys_fit = let keys = small.1 in omega (arith, keys, one);
    })

pub returns-clause-used : goal.returns-clause-used
returns-clause-used g c is_true taken uses =
    let key = c.space-space.ensures.key in
    use_of_more c.args.shape.now c.args.spaces.now taken c.args.key.now c.args.place (key.space_some, key.space_most)
    (let some = charge_least c.args.shape.now c.args.place.len c.block_pages.ensures.shape in omega (arith, some)) uses c.change.new.self
    (rw (c.space-space.ensures.value, c.charge-count.ensures.value) at c.change.ensures)

pub set-requires-clause-free : goal.set-requires-clause-free
set-requires-clause-free g c =
    let l = c.requires.lives in
    free c.block_pages.ensures.shape c.requires.place l.1 (sym (c.has_room.ensures l.0 l.1) ∙ c.if-not-has_room.false)

pub close-requires : goal.close-requires
close-requires g c = rw (c.set.ensures, c.block_pages.ensures.value) (block_closes c.block_pages.ensures.shape c.requires.place c.requires.lives.1)

pub returns-clause-taken : goal.returns-clause-taken
returns-clause-taken g c is_true taken lives =
    Lives-more c.block_pages.ensures.shape c.requires.place lives c.args.key.now (sym (c.has_room.ensures taken lives) ∙ c.if-not-has_room.false) c.close.new.self
    (rw (c.set.ensures, c.charge-count.ensures.value, c.block_pages.ensures.value) at c.close.ensures)
