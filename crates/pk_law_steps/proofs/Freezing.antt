-- A freeze does not change the map: its root may follow.
use Rattle.std.proofs.Common.{[]}
use Rattle.pk_law_steps.{specs.Roots.frozen_root, specs.Roots.frozen, specs.Roots.FreezeLeavesMap, proofs.FrozenNext.frozen_next, proofs.Standing.installed}

pub freezes : FreezeLeavesMap
freezes shape flash new top page found m first second is_shape before none_older valid is_top same are_erased =
    installed shape flash new [] top page found (frozen_root top.1 found first second) (frozen found) m is_shape tt before
    (frozen_next shape flash [] top found m first second is_shape before (record { none_older = none_older; grammar = valid; are_erased = are_erased })) is_top same
