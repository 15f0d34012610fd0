-- What others do between the steps of a reclaim: the statements.
use Rattle.std.specs.Prelude.{◌≡◌, [], length, true, false}
use Rattle.pk_base.specs.Shape.{Shape, IsShape}
use Rattle.pk_law_work.specs.Backlog.{is_tight}
use Rattle.pk_buf.specs.Table.{Table}
use Rattle.pk_jrn.specs.Epochs.{JournalEpoch, left_of}

-- after a freeze there is room for the moves of a reclaim
abbrev pub FreezeMakesRoom : Type 0
FreezeMakesRoom =
    (shape : Shape) (active : Table) (e : JournalEpoch) → IsShape shape → active.entries ≡ [] → e.shape ≡ shape → e.used ≡ 0 → e.takes_more ≡ true
    → is_tight shape (length active.entries) (left_of e) ≡ false
