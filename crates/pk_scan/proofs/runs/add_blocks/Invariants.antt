use Rattle.std.proofs.Common.{◌≡◌, ◌++◌, List, take}
use Rattle.pk_base.{specs.Entry.Entry, specs.Page.Flash}
use Rattle.pk_pin.specs.Frames.{Frames}
use Rattle.pk_run.specs.Kept.{RunOnFlash}
use Rattle.pk_scan.proofs.runs.add_blocks.Given as goal

abbrev pub invariant-loop-block : goal.invariant-loop-block
invariant-loop-block g l = record {
  added : l.into ≡ record l.initial.into { blocks = l.initial.into.blocks ++ take l.block-index l.blocks };
  stands : (flash : Flash) (arena : Frames) (es : List Entry) → RunOnFlash l.initial.into flash arena es → RunOnFlash l.into flash arena es;
}
