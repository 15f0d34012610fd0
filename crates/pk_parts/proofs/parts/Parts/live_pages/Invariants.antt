use Rattle.std.proofs.Common.{◌≡◌, take, min}
use Rattle.pk_call.specs.Sight.{live_of_all}
use Rattle.pk_parts.specs.Parts.{spaces_of}
use Rattle.pk_parts.proofs.parts.Parts.live_pages.Given as goal

abbrev pub invariant-loop-i : goal.invariant-loop-i
invariant-loop-i g l = l.total ≡ min (live_of_all (take l.i (spaces_of l.fn.self))) 4294967295
