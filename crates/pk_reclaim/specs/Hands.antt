-- The values, as a reclaim is handed them.
use Rattle.pk_pool.specs.Blocks.{Blocks}
use Rattle.pk_buf.specs.Table.{Table}
use Rattle.pk_jrn.specs.Epochs.{JournalEpoch}
use Rattle.pk_gc.specs.Stepping.{Hands}
use Rattle.pk_values.specs.State.{ValuesState}

-- the live values and the open block, with the parts next to them
abbrev pub hands_of : ValuesState → Blocks → Table → JournalEpoch → Hands
hands_of d pool active epoch = record { live = d.live; front = d.open_block; pool = pool; active = active; epoch = epoch }
