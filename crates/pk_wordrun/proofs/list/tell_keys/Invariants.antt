use Rattle.std.proofs.Common.{◌≡◌, false}
use Rattle.pk_base.specs.Map.{Map}
use Rattle.pk_model.specs.Reading.{Holds}
use Rattle.pk_port.{specs.Ready.Fits, specs.Steps.mount}
use Rattle.pk_words.specs.Listing.{IsOwnPlace, pieces_left}
use Rattle.pk_wordrun.proofs.Lists.{IsSaying}
use Rattle.pk_wordrun.proofs.list.tell_keys.Given as goal

abbrev pub invariant-loop-next : goal.invariant-loop-next
invariant-loop-next g l =
    ∥ Fits (g.D.Engine.agrees l.drive) l.shape (g.B.Nand.state l.board) (g.D.Engine.sight l.drive) ∥₁
    × ((g.D.Engine.sight l.drive).stopped ≡ false)
    × ((mount (g.B.Nand.state l.board) (g.D.Engine.sight l.drive)).terms ≡ (mount (g.B.Nand.state l.initial.board) (g.D.Engine.sight l.initial.drive)).terms)
    × ((start : Map) → Holds l.shape (g.B.Nand.state l.initial.board).pages start
    → IsSaying l.fn.from l.shape (mount (g.B.Nand.state l.initial.board) (g.D.Engine.sight l.initial.drive)).terms start (g.B.Nand.state l.initial.board) (g.B.Nand.state l.board) l.place)
    × IsOwnPlace l.place

abbrev pub decreases-loop-next : goal.decreases-loop-next
decreases-loop-next g l = pieces_left l.place
