-- The end of a reclaim that has copied all values of its victim: it can be made.
use Rattle.std.{specs.Prelude.◌≡◌, specs.Prelude.◌<◌, specs.Prelude.List, specs.Prelude.length, specs.Prelude.MatchOption, specs.Prelude.T, specs.FinMap.Entries.is_sorted}
use Rattle.pk_base.{specs.Key.Key, specs.Key.key_cmp, specs.Shape.Shape, specs.Shape.page_count, specs.Page.Flash, specs.Entry.Place}
use Rattle.pk_live.specs.Values.{IsClosed}
use Rattle.pk_law_moves.specs.Moves.{AreApart}
use Rattle.pk_gc.{specs.declared.course.Course.Course, specs.State.JobState, specs.Copied.IsCopied, specs.Victims.HoldsValues, specs.Stepping.Hands, specs.Stepping.CanEnd}

-- The victim is copied, its values are apart from each other, and the parts are those of the flash.
pub record CanGive (shape : Shape) (c : Course) (job : JobState) (h : Hands) (flash : Flash) (es : List (Key × Place)) : Type 0 where
  pub copied : IsCopied shape c job.moves job.page h.live.heads flash es
  pub values_apart : AreApart shape es
  pub block_pages_is : h.live.block_pages ≡ shape.block_pages
  pub heads_size : length h.live.heads ≡ page_count shape
  pub table_rising : T (is_sorted key_cmp h.active.entries)
  pub closed : IsClosed h.live c.victim
  pub owned : HoldsValues h.pool c.victim
  pub open_exists : MatchOption h.front (Unit {0}) (λ o. o.block < length h.live.closed)

-- then the reclaim can be ended
abbrev pub GivesUp : Type 0
GivesUp = (shape : Shape) (c : Course) (job : JobState) (h : Hands) (flash : Flash) (es : List (Key × Place)) → CanGive shape c job h flash es → CanEnd c job h
